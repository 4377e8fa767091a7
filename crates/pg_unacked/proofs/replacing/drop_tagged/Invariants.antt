use Rattle.std.proofs.Common.{ℕ, ◌≡◌, ◌==◌, ◌&&◌, drop, is_some, not}
use Rattle.pg_edges.specs.declared.key.Key.{Key}
use Rattle.pg_edges.specs.Keys.{tag_in}
use Rattle.pg_unacked.specs.Due.{has_due}
use Rattle.pg_unacked.specs.Owes.{owes_on}
use Rattle.pg_unacked.specs.Changes.{OthersStay, due_at}
use Rattle.pg_unacked.proofs.replacing.drop_tagged.Given as goal

abbrev pub invariant-loop-tagged : goal.invariant-loop-tagged
invariant-loop-tagged l = record {
  others : OthersStay l.initial.unacked l.unacked l.file;
  own : (p : ℕ) (k : Key) → (not (l.peer == p && (is_some (tag_in (drop l.tagged-index l.keys) k) && not (owes_on l.kept p k))) && has_due l.unacked p (due_at l.file k)) ≡ (not (l.peer == p && (is_some (tag_in l.keys k) && not (owes_on l.kept p k))) && has_due l.initial.unacked p (due_at l.file k));
}
