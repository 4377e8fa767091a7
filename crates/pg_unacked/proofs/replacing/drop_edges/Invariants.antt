use Rattle.std.proofs.Common.{ℕ, ◌≡◌, ◌&&◌, drop, not}
use Rattle.pg_edges.specs.declared.key.Key.{Key}
use Rattle.pg_unacked.specs.Due.{has_due}
use Rattle.pg_unacked.specs.Owes.{is_to, owes_on}
use Rattle.pg_unacked.specs.Changes.{OthersStay, due_at}
use Rattle.pg_unacked.proofs.replacing.drop_edges.Given as goal

abbrev pub invariant-loop-edge : goal.invariant-loop-edge
invariant-loop-edge l = record {
  others : OthersStay l.initial.unacked l.unacked l.file;
  own : (p : ℕ) (k : Key) → (not (is_to (drop l.edge-index l.gone) p && (owes_on l.gone p k && not (owes_on l.kept p k))) && has_due l.unacked p (due_at l.file k)) ≡ (not (is_to l.gone p && (owes_on l.gone p k && not (owes_on l.kept p k))) && has_due l.initial.unacked p (due_at l.file k));
}
