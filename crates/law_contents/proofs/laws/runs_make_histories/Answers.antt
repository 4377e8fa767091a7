use Rattle.law_contents.proofs.Recorded.{history_is_what_was_made}
use Rattle.law_contents.proofs.RunLaws.{ancestry_by_vectors, carries_the_history, makes_histories, one_version_a_stamp}
use Rattle.law_contents.proofs.laws.runs_make_histories.Goals as goal

pub returns-clause-histories : goal.returns-clause-histories
returns-clause-histories c = makes_histories

pub returns-clause-one : goal.returns-clause-one
returns-clause-one c = one_version_a_stamp

pub returns-clause-told : goal.returns-clause-told
returns-clause-told c = history_is_what_was_made

pub returns-clause-ancestry : goal.returns-clause-ancestry
returns-clause-ancestry c = ancestry_by_vectors

pub returns-clause-carried : goal.returns-clause-carried
returns-clause-carried c = carries_the_history
