use Rattle.law_begins.proofs.Confirming.{confirms_begin_only}
use Rattle.law_begins.proofs.laws.confirms_begin_only.Goals as goal

pub returns : goal.returns
returns c = confirms_begin_only
