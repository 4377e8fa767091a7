use Rattle.std.proofs.Common.{take}
use Rattle.pg_content.specs.Index.{IsIndex}
use Rattle.pg_content.proofs.index.Index.of.Given as goal

abbrev pub invariant-loop-head : goal.invariant-loop-head
invariant-loop-head l = IsIndex l.index (take l.head-index l.heads)
