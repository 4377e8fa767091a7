-- Two servers' names that differ in what they know of one thing.
use Rattle.std.proofs.Common.{◌≡◌, true, false, List, [], ◌∷◌, Some, refl, sym, ap, ◌∙◌, subst, inl, inr, ◌⊎◌}
use Rattle.std.specs.Map.{keys_of}
use Rattle.pg_base.specs.declared.id.FileId.{FileId}
use Rattle.pg_base.specs.Id.{is_same_file}
use Rattle.pg_base.proofs.Orders.{is_same_file-true}
use Rattle.pg_names.specs.declared.attributes.Attributes.{Attributes}
use Rattle.pg_names.specs.Names.{NamesValue, own_at, cell_at, is_dir}
use Rattle.pg_house.specs.Passing.{cell_for, greatest, is_cell, is_held_back, is_update, joined_with}
pub use Rattle.pg_house.specs.Facts.{IsHeld}
use Rattle.pg_house.specs.Facts.{IsPassed, HasOwnParent, HasPassed}
use Rattle.pg_house.proofs.Truths.{bool_cases}

-- the second differs from the first in nothing but the own place and flag of this file, and the
-- cells for it
pub record Touches (f : FileId) (s t : NamesValue) : Type 0 where
  pub own : (q : FileId) → is_same_file f q ≡ false → own_at t q ≡ own_at s q
  pub cells : (q g : FileId) → is_same_file f g ≡ false → cell_at t q g ≡ cell_at s q g
  pub was : (q : FileId) → IsHeld t q → IsHeld s q
  pub removed : t.removed ≡ s.removed
  pub server : t.server ≡ s.server
  pub keys : keys_of t.held ≡ keys_of s.held

pub Touches-refl : (f : FileId) (s : NamesValue) → Touches f s s
Touches-refl f s = record { own = λ q a. refl; cells = λ q g a. refl; was = λ q h. h; removed = refl; server = refl; keys = refl }

pub Touches-trans : (f : FileId) (s t u : NamesValue) → Touches f s t → Touches f t u → Touches f s u
Touches-trans f s t u a b = record {
  own = λ q h. b.own q h ∙ a.own q h;
  cells = λ q g h. b.cells q g h ∙ a.cells q g h;
  was = λ q h. a.was q (b.was q h);
  removed = b.removed ∙ a.removed;
  server = b.server ∙ a.server;
  keys = b.keys ∙ a.keys;
}

-- ---- what is known of the other files

module _ (f : FileId) (s t : NamesValue) (m : Touches f s t) (g : FileId) (apart : is_same_file f g ≡ false) where
  pub same_greatest : (top : Attributes) (ds : List FileId) → greatest t g top ds ≡ greatest s g top ds
  same_greatest top [] = refl
  same_greatest top (d ∷ ds) = ap (λ o. greatest t g (joined_with top o) ds) (m.cells d g apart) ∙ same_greatest (joined_with top (cell_at s d g)) ds

  kept_parent : (p : FileId) → is_cell (cell_at s p g) ≡ true → is_cell (cell_at t p g) ≡ true
  kept_parent p h = ap is_cell (m.cells p g apart) ∙ h

  pub kept_passed : (ds : List FileId) (own : Attributes) → IsPassed s ds g own → IsPassed t ds g own
  kept_passed ds own k =
      let e = sym (same_greatest own ds) in
      let P : Attributes → Type 0 = λ top. (c : Attributes) → is_update top.place ≡ true → own_at t top.place.parent ≡ Some c → is_dir top.place.parent ≡ true → is_cell (cell_at t top.place.parent g) ≡ true in
      record {
        cells = λ q c h. k.cells q c (sym (m.cells q g apart) ∙ h) ∙ ap (cell_for g) e;
        parent = subst P e (λ c up h d. let was = m.was (greatest s g own ds).place.parent (c, h) in kept_parent (greatest s g own ds).place.parent (k.parent was.0 up was.1 d));
        flags = k.flags ∙ ap (λ (c : Attributes). c.flags) e;
        place = subst (λ (c : Attributes). (own ≡ c) ⊎ (is_held_back t.removed g own c ≡ true)) e (subst (λ r. (own ≡ greatest s g own ds) ⊎ (is_held_back r g own (greatest s g own ds) ≡ true)) (sym m.removed) k.place);
      }

  pub kept_own_parent : (own : Attributes) → HasOwnParent s g own → HasOwnParent t g own
  kept_own_parent own k c live h d = let was = m.was own.place.parent (c, h) in kept_parent own.place.parent (k was.0 live was.1 d)

-- ---- all files

pub kept_by : (f : FileId) (s t : NamesValue) → Touches f s t → (ds : List FileId) (g : FileId) (apart : is_same_file f g ≡ false) → HasPassed s ds g → HasPassed t ds g
kept_by f s t m ds g apart k own h =
    let old = k own (sym (m.own g apart) ∙ h) in
    (kept_passed f s t m g apart ds own old.0, kept_own_parent f s t m g apart own old.1)

-- of the file itself it is given, and of the others kept
pub passed_of : (f : FileId) (s t : NamesValue) → Touches f s t → (ds : List FileId) → HasPassed t ds f → (g : FileId) → (is_same_file f g ≡ true) ⊎ HasPassed s ds g → HasPassed t ds g
passed_of f s t m ds here g (inl same) = subst (HasPassed t ds) (is_same_file-true f g same) here
passed_of f s t m ds here g (inr k) =
    elim (bool_cases (is_same_file f g)) [
      | inl same ↦ subst (HasPassed t ds) (is_same_file-true f g same) here
      | inr apart ↦ kept_by f s t m ds g apart k
    ]
