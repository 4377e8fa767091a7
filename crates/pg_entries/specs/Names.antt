-- Names as bytes, and the names that children have.
use Rattle.std.specs.Prelude.{ℕ, Bool, ◌≡◌, ◌≢◌, ◌⊎◌, List}
use Rattle.std.specs.Ordering.{nat_cmp, is_eq}
use Rattle.std.specs.Cmp.Lexicographic.{slice_cmp}
use Rattle.std.specs.List.{All}
use Rattle.pg_base.specs.Id.{Fits}
use Rattle.pg_register.specs.Place.{tilde_name}
use Rattle.pg_entries.specs.declared.entry.Entry.{Entry}

-- the same bytes
abbrev pub same_name : List ℕ → List ℕ → Bool
same_name a b = is_eq (slice_cmp nat_cmp a b)

-- the names that places have in a run: clients give none with a tilde, the root's is empty, and all
-- others are made of the child's own id
pub record HasName (e : Entry) : Type 0 where
  pub id : Fits e.child
  pub name : (All (λ byte. byte ≢ 126) e.place.name) ⊎ (e.place.name ≡ tilde_name e.child)
