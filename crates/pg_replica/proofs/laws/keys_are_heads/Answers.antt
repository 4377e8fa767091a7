use Rattle.pg_replica.proofs.Heads.{keys_start, keys_join, keys_write, keys_answer}
use Rattle.pg_replica.proofs.laws.keys_are_heads.Goals as goal

pub returns-clause-start : goal.returns-clause-start
returns-clause-start c = keys_start

pub returns-clause-join : goal.returns-clause-join
returns-clause-join c = keys_join

pub returns-clause-write : goal.returns-clause-write
returns-clause-write c = keys_write

pub returns-clause-answer : goal.returns-clause-answer
returns-clause-answer c = keys_answer
