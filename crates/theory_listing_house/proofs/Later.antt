-- The rules hold what was held, and places and cells only become later.
use Rattle.std.proofs.Common.{ℕ, ◌≡◌, ◌<◌, if◌then◌else◌, Bool, true, false, List, [], ◌∷◌, length, Option, None, Some, refl, sym, ap, subst, ◌∙◌, inl, inr, arith}
use Rattle.std.proofs.lemmas.Bool.{false≢true, or_left}
use Rattle.std.proofs.lemmas.Bool.Decides.{nat_tests}
use Rattle.std.proofs.lemmas.Option.{none-some, same_Some}
use Rattle.pg_base.specs.declared.id.FileId.{FileId}
use Rattle.pg_base.specs.declared.stamp.Stamp.{Stamp}
use Rattle.pg_base.specs.Id.{is_same_file}
use Rattle.pg_base.specs.Stamp.{UpTo, is_before}
use Rattle.pg_base.proofs.Orders.{UpTo-refl, UpTo-trans, is_before-false, is_before-true, is_same_file-true}
use Rattle.pg_register.specs.declared.place.Place.{Place}
use Rattle.pg_register.specs.Place.{root, tilde_name}
use Rattle.pg_entries.specs.declared.entry.Entry.{Entry}
use Rattle.pg_names.specs.declared.attributes.Attributes.{Attributes}
use Rattle.pg_names.specs.Names.{NamesValue, cell_at, directories, known, own_at, with_last}
use Rattle.pg_names.proofs.Lookups.{apart_back, own_cell, own_other, own_same}
use Rattle.pg_house.specs.Work.{State}
use Rattle.pg_house.specs.Passing.{cell_for, greatest, is_cell, is_held_back, joined_with, own_taken, pass, pass_all, pass_own}
use Rattle.pg_house.specs.Placing.{drawn, live_place, made_at, own_with, place_at, placed}
use Rattle.pg_house.specs.Returning.{first_returning, is_returning, return_first, returned}
use Rattle.pg_house.specs.Cycles.{break_first, first_moving, moved}
use Rattle.pg_house.specs.House.{house, movable}
use Rattle.pg_house.specs.Facts.{AreByServer, IsHeld, IsLast, IsOfDirs, is_among}
use Rattle.pg_house.proofs.Truths.{or_cases}
use Rattle.pg_house.proofs.Counting.{find_found}
use Rattle.pg_house.proofs.Greatest.{cell_held}
use Rattle.pg_house.proofs.AfterPassing.{After, AreDirs, after_child, after_gives, after_other, after_own}
use Rattle.pg_house.proofs.Passes.{one_pass}
use Rattle.pg_house.proofs.Repeating.{repeated_keeps}
use Rattle.pg_house.proofs.Lasting.{drawn_late}
use Rattle.pg_house.proofs.Placed.{Settled, made_dirs, placed_is_last, placed_settled}
use Rattle.pg_house.proofs.AllReturned.{returning_by}
use Rattle.pg_house.proofs.AllClimb.{IsDeep, member_deep, moving_member}
use Rattle.pg_house.proofs.NoCycles.{inner_parts, some_dirs}
use Rattle.pg_house.proofs.Ends.{first_dirs, one_last, one_settled}
use Rattle.theory_listing.specs.Protocol.{IsUpTo}
use Rattle.theory_listing_house.specs.Listing.{listing}
use Rattle.theory_listing_house.proofs.Seen.{up_to_then}

-- there is a cell, and its stamp is no earlier
abbrev pub IsFrom : Entry → Option Entry → Type 0
IsFrom c o = (e : Entry) × (o ≡ Some e) × UpTo c.place.stamp e.place.stamp

-- it is held, with the same place or one of a later stamp
abbrev pub IsOver : Attributes → Option Attributes → Type 0
IsOver a o = (b : Attributes) × (o ≡ Some b) × IsUpTo listing a.place b.place

pub record Grows (s t : NamesValue) : Type 0 where
  pub own : (f : FileId) (a : Attributes) → own_at s f ≡ Some a → IsOver a (own_at t f)
  pub cells : (d g : FileId) (c : Entry) → cell_at s d g ≡ Some c → IsFrom c (cell_at t d g)

from_same : (c : Entry) (o : Option Entry) → o ≡ Some c → IsFrom c o
from_same c o h = (c, h, UpTo-refl c.place.stamp)

over_same : (a : Attributes) (o : Option Attributes) → o ≡ Some a → IsOver a o
over_same a o h = (a, h, inl refl)

Grows-refl : (s : NamesValue) → Grows s s
Grows-refl s = record { own = λ f a h. over_same a (own_at s f) h; cells = λ d g c h. from_same c (cell_at s d g) h }

Grows-trans : (s t u : NamesValue) → Grows s t → Grows t u → Grows s u
Grows-trans s t u m n = record {
  own = λ f a h. (let x = m.own f a h in let y = n.own f x.0 x.1 in (y.0, y.1, up_to_then a.place x.0.place y.0.place x.2 y.2));
  cells = λ d g c h. (let x = m.cells d g c h in let y = n.cells d g x.0 x.1 in (y.0, y.1, UpTo-trans c.place.stamp x.0.place.stamp y.0.place.stamp x.2 y.2));
}

-- ---- the greatest of what is known

newer_later : (a b : Place) (t : Bool) → is_before a.stamp b.stamp ≡ t → IsUpTo listing a (if t then b else a)
newer_later a b true h = inr h
newer_later a b false h = inl refl

newer_there : (a b : Place) (t : Bool) → is_before a.stamp b.stamp ≡ t → UpTo b.stamp (if t then b else a).stamp
newer_there a b true h = UpTo-refl b.stamp
newer_there a b false h = is_before-false a.stamp b.stamp h

joined_later : (top : Attributes) (o : Option Entry) → IsUpTo listing top.place (joined_with top o).place
joined_later top None = inl refl
joined_later top (Some c) = newer_later top.place c.place (is_before top.place.stamp c.place.stamp) refl

greatest_later : (s : NamesValue) (f : FileId) (top : Attributes) (ds : List FileId) → IsUpTo listing top.place (greatest s f top ds).place
greatest_later s f top [] = inl refl
greatest_later s f top (d ∷ ds) =
    let next = joined_with top (cell_at s d f) in
    up_to_then top.place next.place (greatest s f next ds).place (joined_later top (cell_at s d f)) (greatest_later s f next ds)

up_then : (a : Stamp) (q r : Place) → UpTo a q.stamp → IsUpTo listing q r → UpTo a r.stamp
up_then a q r up (inl e) = subst (λ (z : Place). UpTo a z.stamp) e up
up_then a q r up (inr low) = UpTo-trans a q.stamp r.stamp up (is_before-true q.stamp r.stamp low)

here_up : (s : NamesValue) (f : FileId) (c : Entry) (top : Attributes) (o : Option Entry) (ds : List FileId) → o ≡ Some c → UpTo c.place.stamp (greatest s f (joined_with top o) ds).place.stamp
here_up s f c top None ds h = absurd (none-some c h)
here_up s f c top (Some x) ds h =
    let next = joined_with top (Some x) in
    subst (λ (z : Entry). UpTo z.place.stamp (greatest s f next ds).place.stamp) (same_Some x c h)
    (up_then x.place.stamp next.place (greatest s f next ds).place (newer_there top.place x.place (is_before top.place.stamp x.place.stamp) refl) (greatest_later s f next ds))

cell_up : (s : NamesValue) (f q : FileId) (c : Entry) → cell_at s q f ≡ Some c → (top : Attributes) (ds : List FileId) → is_among q ds ≡ true → UpTo c.place.stamp (greatest s f top ds).place.stamp
cell_up s f q c h top [] among = absurd (false≢true among)
cell_up s f q c h top (d ∷ ds) among = elim (or_cases (is_same_file d q) (is_among q ds) among) [
  | inl same ↦ here_up s f c top (cell_at s d f) ds (ap (λ x. cell_at s x f) (is_same_file-true d q same) ∙ h)
  | inr later ↦ cell_up s f q c h (joined_with top (cell_at s d f)) ds later
]

taken_later : (own top : Attributes) (t : Bool) → IsUpTo listing own.place top.place → IsUpTo listing own.place (own_taken own top t).place
taken_later own top true up = inl refl
taken_later own top false up = up

-- ---- one pass

module _ (st : State) (ds : List FileId) (dirs : AreDirs st.names ds) (f : FileId) (own : Attributes) (held : own_at st.names f ≡ Some own) (t : Bool) where
  abbrev Top : Attributes
  Top = greatest st.names f own ds

  abbrev Then : NamesValue
  Then = After st ds f own Top t

  own_self : (a : Attributes) → own_at st.names f ≡ Some a → IsOver a (own_at Then f)
  own_self a h =
      let e : own ≡ a = same_Some own a (sym held ∙ h) in
      subst (λ (z : Attributes). IsOver z (own_at Then f)) e (own_taken own Top t, after_own st ds f own Top t held, taken_later own Top t (greatest_later st.names f own ds))

  own_over : (q : FileId) (b : Bool) → is_same_file f q ≡ b → (a : Attributes) → own_at st.names q ≡ Some a → IsOver a (own_at Then q)
  own_over q false apart a h = over_same a (own_at Then q) (after_other st ds f own Top t q apart ∙ h)
  own_over q true same a h = subst (λ z. own_at st.names z ≡ Some a → IsOver a (own_at Then z)) (is_same_file-true f q same) (own_self a) h

  cell_self : (d : FileId) (c : Entry) → cell_at st.names d f ≡ Some c → IsFrom c (cell_at Then d f)
  cell_self d c h =
      let b = cell_held st.names d f c h in
      let among = dirs.cells d f c h in
      (cell_for f Top, after_gives st ds f own Top t d b.0 b.1 among (or_left (is_cell (cell_at st.names d f)) _ (ap is_cell h)), cell_up st.names f d c h own ds among)

  cell_from : (d g : FileId) (b : Bool) → is_same_file f g ≡ b → (c : Entry) → cell_at st.names d g ≡ Some c → IsFrom c (cell_at Then d g)
  cell_from d g false apart c h = from_same c (cell_at Then d g) (after_child st ds f own Top t d g (apart_back f g apart) ∙ h)
  cell_from d g true same c h = subst (λ z. cell_at st.names d z ≡ Some c → IsFrom c (cell_at Then d z)) (is_same_file-true f g same) (cell_self d c) h

  passed_grows : Grows st.names Then
  passed_grows = record { own = λ q a h. own_over q (is_same_file f q) refl a h; cells = λ d g c h. cell_from d g (is_same_file f g) refl c h }

pass_by : (st : State) (ds : List FileId) → AreDirs st.names ds → (f : FileId) (o : Option Attributes) → own_at st.names f ≡ o → Grows st.names (pass_own st ds f o).names
pass_by st ds dirs f None h = Grows-refl st.names
pass_by st ds dirs f (Some own) h = passed_grows st ds dirs f own h (is_held_back st.names.removed f own (greatest st.names f own ds))

pass_grows : (st : State) (ds : List FileId) → AreDirs st.names ds → (f : FileId) → Grows st.names (pass st ds f).names
pass_grows st ds dirs f = pass_by st ds dirs f (own_at st.names f) refl

all_grow : (st : State) (ds fs : List FileId) → AreDirs st.names ds → Grows st.names (pass_all st ds fs).names
all_grow st ds [] dirs = Grows-refl st.names
all_grow st ds (f ∷ fs) dirs = Grows-trans st.names (pass st ds f).names (pass_all (pass st ds f) ds fs).names (pass_grows st ds dirs f) (all_grow (pass st ds f) ds fs (one_pass st ds f dirs).dirs)

-- ---- a place is made

before_by_time : (a b : Stamp) → a.time < b.time → is_before a b ≡ true
before_by_time a b h = grind (arith, nat_tests)

module _ (moment : ℕ) (ds : List FileId) (st : State) (f p : FileId) (name : List ℕ) (last : IsLast st.names) where
  abbrev New : Place
  New = live_place (drawn moment st.names) p name

  abbrev Late : NamesValue
  Late = with_last st.names New.stamp.time

  abbrev Mine : Attributes
  Mine = own_with st.names f New

  abbrev Made : State
  Made = made_at st f New

  made_self : (a : Attributes) → own_at st.names f ≡ Some a → IsOver a (own_at Made.names f)
  made_self a h =
      let low = last.own f a h in
      let high = drawn_late moment st.names.last New.stamp.time refl in
      let lt : a.place.stamp.time < New.stamp.time = omega arith in
      (Mine, own_same Late f a Mine h, inr (before_by_time a.place.stamp New.stamp lt))

  made_own : (q : FileId) (b : Bool) → is_same_file f q ≡ b → (a : Attributes) → own_at st.names q ≡ Some a → IsOver a (own_at Made.names q)
  made_own q false apart a h = over_same a (own_at Made.names q) (own_other Late f Mine q apart ∙ h)
  made_own q true same a h = subst (λ z. own_at st.names z ≡ Some a → IsOver a (own_at Made.names z)) (is_same_file-true f q same) (made_self a) h

  made_grows : Grows st.names Made.names
  made_grows = record {
    own = λ q a h. made_own q (is_same_file f q) refl a h;
    cells = λ d g c h. from_same c (cell_at Made.names d g) (own_cell Late f Mine d g ∙ h);
  }

  placed_grows : AreDirs st.names ds → Grows st.names (placed moment ds st f p name).names
  placed_grows dirs = Grows-trans st.names Made.names (placed moment ds st f p name).names made_grows (pass_grows Made ds (made_dirs moment ds st f p name dirs) f)

-- ---- return and cycles

abbrev Stands : List FileId → NamesValue → State → Type 0
Stands ds s st = (Settled ds st.names) × (IsLast st.names) × Grows s st.names

module _ (moment : ℕ) (ds : List FileId) (s : NamesValue) (st : State) (k : Stands ds s st) where
  place_stands : (f p : FileId) (name : List ℕ) → IsHeld st.names f → Stands ds s (placed moment ds st f p name)
  place_stands f p name held = (
    placed_settled moment ds st f p name k.0,
    placed_is_last moment ds st f p name k.0 k.1 held,
    Grows-trans s st.names (placed moment ds st f p name).names k.2 (placed_grows moment ds st f p name k.1 k.0.dirs),
  )

  return_stands : (o : Option FileId) → first_returning st.names ds ≡ o → Stands ds s (returned moment ds st o)
  return_stands None h = k
  return_stands (Some d) h =
      let found = find_found (is_returning st.names) ds d h in
      let r = returning_by st.names d (known st.names d) refl found.0 in
      place_stands d (place_at st.names d).parent (place_at st.names d).name r.held

  move_stands : (o : Option FileId) → first_moving st.names (length ds) None ds ≡ o → Stands ds s (moved moment ds st o)
  move_stands None h = k
  move_stands (Some d) h =
      elim (moving_member st.names (length ds) None ds d h) [
        | inl never ↦ absurd (none-some d never)
        | inr m ↦
            let deep : IsDeep st.names d = subst (IsDeep st.names) m.2 (member_deep st.names (length ds) m.0 (some_dirs moment ds st.names (length ds) ds d h) m.1) in
            place_stands d root (tilde_name d) (inner_parts st.names d deep.0).held
      ]

-- THE RULES ONLY GROW
pub rules_grow : (moment : ℕ) (st : State) → IsOfDirs st.names → AreByServer st.names → IsLast st.names → Grows st.names (house moment st).names
rules_grow moment st of_dirs sorted last =
    let ds = directories st.names in
    let one = pass_all st ds (movable st.names) in
    let start : Stands ds st.names one = (one_settled moment st of_dirs sorted, one_last moment st of_dirs sorted last, all_grow st ds (movable st.names) (first_dirs moment st of_dirs sorted)) in
    (repeated_keeps (Stands ds st.names) (break_first moment ds) (λ t q. move_stands moment ds st.names t q (first_moving t.names (length ds) None ds) refl) (length ds) _
    (repeated_keeps (Stands ds st.names) (return_first moment ds) (λ t q. return_stands moment ds st.names t q (first_returning t.names ds) refl) (length ds) one start)).2
