use Rattle.pg_cells.specs.pg_store.Store.{with_names}
use Rattle.pg_cells.specs.Settling.{settle, touch_all}
use Rattle.theory_flood_pieces.proofs.Counting.{steps_on}
use Rattle.theory_flood_pieces.proofs.LawsOf.{write_of_held}
use Rattle.theory_flood_pieces.proofs.Settling.{settle_steps, took_all, took_before, touches_steps}
use Rattle.theory_flood_pieces.proofs.Taking.{Grew, took_steps}
use Rattle.theory_flood_pieces.proofs.Together.{replica_of_held}
use Rattle.theory_flood_pieces.proofs.laws.changes_are_steps.Goals as goal

pub returns-clause-writes : goal.returns-clause-writes
returns-clause-writes c = λ n s a f k held h stamp ranges of. write_of_held a f (replica_of_held a k.together f held) h stamp ranges of

pub returns-clause-touches : goal.returns-clause-touches
returns-clause-touches c = λ a ts. steps_on a (touch_all a ts) (touches_steps a ts)

pub returns-clause-rules : goal.returns-clause-rules
returns-clause-rules c = λ n s a work k. steps_on a (settle a work).store (settle_steps n s a work k)

pub returns-clause-names : goal.returns-clause-names
returns-clause-names c = λ a names ts server grow told.
    let g : Grew ts a.names names = record { server = server; grow = grow; told = told } in
    let b = touch_all (with_names a names) ts in
    let d = with_names (touch_all a ts) names in
    (steps_on a b (took_steps ts a b (took_all a names ts g)), steps_on a d (took_steps ts a d (took_before a names ts g)))
