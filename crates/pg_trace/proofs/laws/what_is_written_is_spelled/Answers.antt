use Rattle.pg_trace.proofs.Lines.{in_front, written}
use Rattle.pg_trace.proofs.laws.what_is_written_is_spelled.Goals as goal

pub returns-clause-head : goal.returns-clause-head
returns-clause-head c = in_front

pub returns-clause-entry : goal.returns-clause-entry
returns-clause-entry c = λ line form entry fits h. written line form entry.void entry fits h
