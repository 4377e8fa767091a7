use Rattle.std.proofs.Common.{ℕ, ◌≡◌, ◌&&◌, ◌||◌, drop, false}
use Rattle.pg_edges.specs.declared.key.Key.{Key}
use Rattle.pg_edges.specs.Edges.{edge_to}
use Rattle.pg_unacked.specs.Due.{has_due}
use Rattle.pg_unacked.specs.Owes.{IsInOrder, is_to, owes_on}
use Rattle.pg_unacked.specs.Changes.{NoneGoes, OthersStay, due_at}
use Rattle.pg_unacked.proofs.replacing.add_edges.Given as goal

abbrev pub invariant-loop-edge : goal.invariant-loop-edge
invariant-loop-edge l = record {
  others : OthersStay l.initial.unacked l.unacked l.file;
  kept : NoneGoes l.initial.unacked l.unacked l.file;
  own : (p : ℕ) (k : Key) → ((is_to (drop l.edge-index l.edges) p && owes_on l.edges p k) || has_due l.unacked p (due_at l.file k)) ≡ ((is_to l.edges p && owes_on l.edges p k) || has_due l.initial.unacked p (due_at l.file k));
  ordered : (p : ℕ) → is_to (drop l.edge-index l.edges) p ≡ false → IsInOrder (edge_to l.edges p);
}
