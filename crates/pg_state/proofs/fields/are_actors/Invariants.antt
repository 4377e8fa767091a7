use Rattle.std.proofs.Common.{ℕ, drop}
use Rattle.std.specs.List.{AllByRecursion}
use Rattle.pg_base.specs.declared.vector.Actor.{Actor}
use Rattle.pg_packet_write.specs.Fits.{IsServer}
use Rattle.pg_state.proofs.fields.are_actors.Given as goal

abbrev pub invariant-loop-known : goal.invariant-loop-known
invariant-loop-known l = record {
  there : AllByRecursion (λ (known : Actor × ℕ). IsServer known.0.server) l.vector → AllByRecursion (λ (known : Actor × ℕ). IsServer known.0.server) (drop l.known-index l.vector);
  back : AllByRecursion (λ (known : Actor × ℕ). IsServer known.0.server) (drop l.known-index l.vector) → AllByRecursion (λ (known : Actor × ℕ). IsServer known.0.server) l.vector;
}
