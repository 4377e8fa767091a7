use Rattle.std.proofs.Common.{◌∙◌}
use Rattle.pg_intent.proofs.SameKey.{test_of}
use Rattle.pg_intent.proofs.key.IntentKey.is_same.Goals as goal

pub returns : goal.returns
returns c = c.eq.ensures ∙ test_of c.args.self.now c.args.other.now
