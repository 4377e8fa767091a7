use Rattle.std.proofs.Common.{ℕ, ◌≡◌, ◌==◌, ◌&&◌, ◌||◌, drop, is_some}
use Rattle.pg_edges.specs.declared.key.Key.{Key}
use Rattle.pg_edges.specs.Keys.{tag_in}
use Rattle.pg_unacked.specs.Due.{has_due}
use Rattle.pg_unacked.specs.Changes.{NoneGoes, OthersStay, due_at}
use Rattle.pg_unacked.proofs.replacing.add_tagged.Given as goal

abbrev pub invariant-loop-tagged : goal.invariant-loop-tagged
invariant-loop-tagged l = record {
  others : OthersStay l.initial.unacked l.unacked l.file;
  kept : NoneGoes l.initial.unacked l.unacked l.file;
  own : (p : ℕ) (k : Key) → ((l.peer == p && is_some (tag_in (drop l.tagged-index l.keys) k)) || has_due l.unacked p (due_at l.file k)) ≡ ((l.peer == p && is_some (tag_in l.keys k)) || has_due l.initial.unacked p (due_at l.file k));
}
