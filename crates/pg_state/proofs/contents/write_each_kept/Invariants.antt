use Rattle.std.proofs.Common.{◌≡◌, ◌++◌, drop, take}
use Rattle.std.specs.List.{AllByRecursion, flat_map}
use Rattle.pg_state.specs.Spelling.{kept_bytes}
use Rattle.pg_state.specs.Fits.{FitsKept}
use Rattle.pg_state.proofs.contents.write_each_kept.Given as goal

abbrev pub invariant-loop-delta : goal.invariant-loop-delta
invariant-loop-delta l = record {
  out : l.out ≡ l.fn.out ++ flat_map kept_bytes (take l.delta-index l.deltas);
  rest : AllByRecursion FitsKept (drop l.delta-index l.deltas);
}
