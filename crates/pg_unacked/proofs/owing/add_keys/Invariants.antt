use Rattle.std.proofs.Common.{ℕ, ◌≡◌, ◌==◌, ◌&&◌, ◌||◌, drop}
use Rattle.pg_edges.specs.declared.key.Key.{Key}
use Rattle.pg_unacked.specs.Due.{has_due}
use Rattle.pg_unacked.specs.Owes.{is_key_of}
use Rattle.pg_unacked.specs.Changes.{OthersStay, due_at}
use Rattle.pg_unacked.proofs.owing.add_keys.Given as goal

abbrev pub invariant-loop-key : goal.invariant-loop-key
invariant-loop-key l = record {
  others : OthersStay l.initial.unacked l.unacked l.file;
  own : (p : ℕ) (k : Key) → ((l.peer == p && is_key_of k (drop l.key-index l.keys)) || has_due l.unacked p (due_at l.file k)) ≡ ((l.peer == p && is_key_of k l.keys) || has_due l.initial.unacked p (due_at l.file k));
}
