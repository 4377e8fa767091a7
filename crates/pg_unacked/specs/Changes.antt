-- What is due of one file: that it is just what edges have, and how it changes with them.
use Rattle.std.specs.Prelude.{ℕ, ◌≡◌, false, true, List}
use Rattle.std.specs.Ordering.{eq_by_cmp}
use Rattle.pg_base.specs.declared.id.FileId.{FileId}
use Rattle.pg_base.specs.Id.{file_cmp}
use Rattle.pg_edges.specs.declared.edge.Edge.{Edge}
use Rattle.pg_edges.specs.declared.key.Key.{Key}
use Rattle.pg_unacked.specs.declared.due.Due.{Due}
use Rattle.pg_unacked.specs.Due.{UnackedValue, has_due}
use Rattle.pg_unacked.specs.Owes.{AreInOrder, owes_on}

abbrev pub due_at : FileId → Key → Due
due_at file k = record { file = file; key = k }

-- of this file just the keys of these edges are due, each at its peer; and each edge has its keys
-- in order
pub record AreDueOf (u : UnackedValue) (file : FileId) (es : List Edge) : Type 0 where
  pub due : (p : ℕ) (k : Key) → has_due u p (due_at file k) ≡ owes_on es p k
  pub ordered : AreInOrder es

-- what is due of other files is as before
abbrev pub OthersStay : UnackedValue → UnackedValue → FileId → Type 0
OthersStay u v file = (p : ℕ) (d : Due) → eq_by_cmp file_cmp d.file file ≡ false
    → has_due v p d ≡ has_due u p d

-- the edges of a file's replica changed, and with them what is due of it
pub record Redues (u v : UnackedValue) (file : FileId) (es fs : List Edge) : Type 0 where
  pub others : OthersStay u v file
  pub own : AreDueOf u file es → AreDueOf v file fs

-- no due of the file is taken off
abbrev pub NoneGoes : UnackedValue → UnackedValue → FileId → Type 0
NoneGoes u v file = (p : ℕ) (k : Key) → has_due u p (due_at file k) ≡ true
    → has_due v p (due_at file k) ≡ true
