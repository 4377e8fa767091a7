use Rattle.std.proofs.Common.{◌≡◌, map, take}
use Rattle.pg_base.specs.Version.{stamp_of}
use Rattle.pg_delta.proofs.taking.has_heads.Given as goal

abbrev pub invariant-loop-index : goal.invariant-loop-index
invariant-loop-index l = map stamp_of (take l.index l.heads) ≡ take l.index l.stamps
