use Rattle.std.proofs.Common.{◌≡◌, ◌+◌, length, take}
use Rattle.pg_bag.specs.Blocks.{joined}
use Rattle.pg_bag.proofs.bag.find.Given as goal

-- the items before the block, and those that are left to pass
abbrev pub invariant-loop-k : goal.invariant-loop-k
invariant-loop-k g l = length (joined (take l.k l.blocks)) + l.offset ≡ l.index
