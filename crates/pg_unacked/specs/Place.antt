-- Where a due stands among others in order, or where it would go.
use Rattle.std.specs.Prelude.{ℕ, ◌<◌, ◌≤◌, ◌≡◌, ◌||◌, not, true, false, List, length}
use Rattle.std.specs.List.{filter, insert, remove}
use Rattle.std.specs.List.Sorted.{IsStrictlySortedBy}
use Rattle.pg_unacked.specs.declared.due.Due.{Due}
use Rattle.pg_unacked.specs.Due.{due_cmp, is_due, is_same_due}

-- all but this due
abbrev pub others : Due → List Due → List Due
others due dues = filter (λ d. not (is_same_due due d)) dues

-- the due stands at this index: to take out what stands there leaves all others
pub record IsAt (dues : List Due) (due : Due) (i : ℕ) : Type 0 where
  pub below : i < length dues
  pub there : is_due due dues ≡ true
  pub take_out : remove dues i ≡ others due dues

-- the due is not there, and would go before this index
pub record IsGap (dues : List Due) (due : Due) (i : ℕ) : Type 0 where
  pub upto : i ≤ length dues
  pub none : is_due due dues ≡ false
  pub take_out : dues ≡ others due dues
  pub more : (d : Due) → is_due d (insert dues i due) ≡ (is_same_due due d || is_due d dues)
  pub sorted : IsStrictlySortedBy due_cmp (insert dues i due)
