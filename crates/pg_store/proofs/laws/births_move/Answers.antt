use Rattle.pg_store.proofs.Over.{goes_moves, goes_over, moves_as_before, none_fills, over_stays, over_tested}
use Rattle.pg_store.proofs.laws.births_move.Goals as goal

pub returns-clause-tested : goal.returns-clause-tested
returns-clause-tested c = over_tested

pub returns-clause-over : goal.returns-clause-over
returns-clause-over c = over_stays

pub returns-clause-moves : goal.returns-clause-moves
returns-clause-moves c = moves_as_before

pub returns-clause-goings : goal.returns-clause-goings
returns-clause-goings c a file birth together births has none =
    let free = none_fills file a.intents none in
    (goes_moves a file free, goes_over a file birth together births has free)
