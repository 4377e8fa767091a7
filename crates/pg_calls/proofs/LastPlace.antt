-- Which directories have a cell for a thing; and that the latest place, where it is live, is that
-- of a cell.
use Rattle.std.proofs.Common.{◌≡◌, Bool, true, false, cond, Option, None, Some, is_some, refl, sym, ap, ◌∙◌}
use Rattle.std.proofs.lemmas.Bool.{false≢true}
use Rattle.std.proofs.lemmas.Option.{none-some}
use Rattle.pg_base.specs.declared.id.FileId.{FileId}
use Rattle.pg_entries.specs.declared.entry.Entry.{Entry}
use Rattle.pg_cells.specs.pg_names.Names.{NamesValue, cell_at}
use Rattle.pg_register.specs.declared.place.Place.{Place}
use Rattle.pg_checks.specs.Asking.{latest}
use Rattle.pg_calls.specs.Forgetting.{dirs_of, has_cell_for, last_place, lists_by, lists_in, place_in, place_of}

-- ---- directories that have a cell

pub cell_there : (names : NamesValue) (id dir : FileId) (o : Option Entry) → cell_at names dir id ≡ o → has_cell_for names id dir ≡ true
    → (e : Entry) × (cell_at names dir id ≡ Some e)
cell_there names id dir None none h = absurd (false≢true (sym (ap is_some none) ∙ h))
cell_there names id dir (Some e) there h = (e, there)

-- ---- the latest place of those that are known

-- one that is known: it is live, and some cell has it
pub record IsLastPlace (names : NamesValue) (id : FileId) (place : Place) : Type 0 where
  pub live : place.live ≡ true
  pub dir : FileId
  pub cell : Entry
  pub there : cell_at names dir id ≡ Some cell
  pub is : cell.place ≡ place

some_place : (p q : Place) → Some p ≡ Some q → p ≡ q
some_place p q h = cc

live_by : (p q : Place) (t : Bool) → p.live ≡ t → cond t (Some p) None ≡ Some q → (p ≡ q) × (p.live ≡ true)
live_by p q true e h = (some_place p q h, e)
live_by p q false e h = absurd (none-some q h)

cell_place : (names : NamesValue) (id dir : FileId) (q : Place) (o : Option Entry) → cell_at names dir id ≡ o → place_of o ≡ Some q → IsLastPlace names id q
cell_place names id dir q None e h = absurd (none-some q h)
cell_place names id dir q (Some c) e h =
    let r = live_by c.place q c.place.live refl h in
    record { live = ap (λ (p : Place). p.live) (sym r.0) ∙ r.1; dir = dir; cell = c; there = e; is = r.0 }

place_by : (names : NamesValue) (id : FileId) (q : Place) (o : Option FileId) → place_in names id o ≡ Some q → IsLastPlace names id q
place_by names id q None h = absurd (none-some q h)
place_by names id q (Some dir) h = cell_place names id dir q (cell_at names dir id) refl h

pub last_is : (names : NamesValue) (id : FileId) (q : Place) → last_place names id ≡ Some q → IsLastPlace names id q
last_is names id q h = place_by names id q (latest names id None (dirs_of names id)) h

-- ---- a directory that lists the thing

listed_by : (names : NamesValue) (id dir : FileId) (o : Option Entry) → cell_at names dir id ≡ o → lists_by dir o ≡ true
    → (c : Entry) × (cell_at names dir id ≡ Some c)
listed_by names id dir None e h = absurd (false≢true h)
listed_by names id dir (Some c) e h = (c, e)

pub listed_there : (names : NamesValue) (id dir : FileId) → lists_in names id dir ≡ true → (c : Entry) × (cell_at names dir id ≡ Some c)
listed_there names id dir h = listed_by names id dir (cell_at names dir id) refl h
