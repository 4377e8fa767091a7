use Rattle.law_lengths.proofs.Messages.{short_message}
use Rattle.law_lengths.proofs.laws.messages_are_short.Goals as goal

pub returns : goal.returns
returns c = short_message
