use Rattle.std.proofs.Common.{take}
use Rattle.pg_msg.specs.UpdateText.{ArePartBytes}
use Rattle.pg_trace.proofs.fitting.parts_fit.Given as goal

abbrev pub invariant-loop-part : goal.invariant-loop-part
invariant-loop-part l = ArePartBytes (take l.part-index l.parts)
