use Rattle.pg_cells.specs.pg_names.Names.{fill}
use Rattle.pg_cells.specs.pg_store.Beginning.{begin}
use Rattle.pg_cells.specs.pg_store.Links.{link, unlink}
use Rattle.pg_cells.specs.pg_store.Store.{with_names}
use Rattle.pg_cells.specs.pg_store.Views.{enter}
use Rattle.theory_flood_pieces.proofs.AllKeys.{keys_all}
use Rattle.theory_flood_pieces.proofs.Beginning.{begin_steps}
use Rattle.theory_flood_pieces.proofs.Counting.{steps_on}
use Rattle.theory_flood_pieces.proofs.Leaving.{go_steps}
use Rattle.theory_flood_pieces.proofs.Linking.{alike_steps, fill_steps, held_link_steps, unlink_steps}
use Rattle.theory_flood_pieces.proofs.Views.{enter_steps}
use Rattle.theory_flood_pieces.proofs.laws.links_are_steps.Goals as goal

pub returns-clause-keys : goal.returns-clause-keys
returns-clause-keys c = λ a file k x held is. keys_all a file k x held is

pub returns-clause-links : goal.returns-clause-links
returns-clause-links c = λ n s a file k held peer birth. steps_on a (link a file peer birth) (held_link_steps a file peer birth held)

pub returns-clause-unlinks : goal.returns-clause-unlinks
returns-clause-unlinks c = λ a file peer birth. steps_on a (unlink a file peer birth) (unlink_steps a file peer birth)

pub returns-clause-beginnings : goal.returns-clause-beginnings
returns-clause-beginnings c = λ n s a file birth policy own full k away.
    steps_on a (begin a file birth policy own full) (begin_steps a file birth policy own full k.together away)

pub returns-clause-goings : goal.returns-clause-goings
returns-clause-goings c = go_steps

pub returns-clause-beside : goal.returns-clause-beside
returns-clause-beside c = λ a b same. steps_on a b (alike_steps a b same)

pub returns-clause-filling : goal.returns-clause-filling
returns-clause-filling c = λ a file. steps_on a (with_names a (fill a.names file)) (fill_steps a file)

pub returns-clause-views : goal.returns-clause-views
returns-clause-views c = λ a server. steps_on a (enter a server) (enter_steps a server)
