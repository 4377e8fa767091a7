use Rattle.std.proofs.Common.{◌≡◌, take}
use Rattle.pg_patch.proofs.ranges.Ranges.copy.Given as goal

abbrev pub invariant-loop-part : goal.invariant-loop-part
invariant-loop-part l = l.parts.items ≡ take l.part-index l.self-inside.parts.items
