use Rattle.std.proofs.Common.{ℕ, ◌≡◌, ◌&&◌, ◌||◌, drop}
use Rattle.pg_edges.specs.declared.key.Key.{Key}
use Rattle.pg_edges.specs.Key.{is_same_key}
use Rattle.pg_unacked.specs.Due.{has_due}
use Rattle.pg_unacked.specs.Owes.{is_to}
use Rattle.pg_unacked.specs.Changes.{OthersStay, due_at}
use Rattle.pg_unacked.proofs.owing.add_key.Given as goal

abbrev pub invariant-loop-edge : goal.invariant-loop-edge
invariant-loop-edge l = record {
  others : OthersStay l.initial.unacked l.unacked l.file;
  own : (p : ℕ) (k : Key) → ((is_to (drop l.edge-index l.edges) p && is_same_key l.key k) || has_due l.unacked p (due_at l.file k)) ≡ ((is_to l.edges p && is_same_key l.key k) || has_due l.initial.unacked p (due_at l.file k));
}
