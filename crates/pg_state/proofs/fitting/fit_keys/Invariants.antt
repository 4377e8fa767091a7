use Rattle.std.proofs.Common.{ℕ, drop}
use Rattle.std.specs.List.{AllByRecursion}
use Rattle.pg_edges.specs.declared.key.Key.{Key}
use Rattle.pg_packet_write.specs.Fits.{FitsKey}
use Rattle.pg_state.proofs.fitting.fit_keys.Given as goal

abbrev pub invariant-loop-tagged : goal.invariant-loop-tagged
invariant-loop-tagged l = record {
  there : AllByRecursion (λ (k : Key × ℕ). FitsKey k.0) l.keys → AllByRecursion (λ (k : Key × ℕ). FitsKey k.0) (drop l.tagged-index l.keys);
  back : AllByRecursion (λ (k : Key × ℕ). FitsKey k.0) (drop l.tagged-index l.keys) → AllByRecursion (λ (k : Key × ℕ). FitsKey k.0) l.keys;
}
