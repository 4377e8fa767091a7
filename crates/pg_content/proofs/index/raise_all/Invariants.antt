use Rattle.std.proofs.Common.{◌≡◌, drop}
use Rattle.pg_base.specs.Vector.{joined}
use Rattle.pg_content.proofs.index.raise_all.Given as goal

-- the entries from the index on are taken over
abbrev pub invariant-loop-index : goal.invariant-loop-index
invariant-loop-index l = l.known ≡ joined (drop l.index l.vector) l.initial.known
