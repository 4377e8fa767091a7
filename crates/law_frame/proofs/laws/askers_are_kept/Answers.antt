use Rattle.law_frame.proofs.Asked.{calls_keep_askers, intentions_keep_askers, messages_keep_askers}
use Rattle.law_frame.proofs.laws.askers_are_kept.Goals as goal

pub returns-clause-messages : goal.returns-clause-messages
returns-clause-messages c = messages_keep_askers

pub returns-clause-calls : goal.returns-clause-calls
returns-clause-calls c = calls_keep_askers

pub returns-clause-intentions : goal.returns-clause-intentions
returns-clause-intentions c = intentions_keep_askers
