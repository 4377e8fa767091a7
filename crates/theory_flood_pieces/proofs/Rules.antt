-- Under the house rules names only grow, and each entry stays at its own child.
use Rattle.std.proofs.Common.{ℕ, ◌≡◌, ◌<◌, Bool, true, false, List, [], ◌∷◌, length, Option, None, Some, refl, sym, ap, subst, ◌∙◌, inl, inr, arith}
use Rattle.std.proofs.lemmas.Bool.{false≢true, or_left}
use Rattle.std.proofs.lemmas.Option.{none-some, same_Some}
use Rattle.pg_base.specs.declared.id.FileId.{FileId}
use Rattle.pg_base.specs.declared.stamp.Stamp.{Stamp}
use Rattle.pg_base.specs.Id.{is_same_file}
use Rattle.pg_base.specs.Stamp.{UpTo}
use Rattle.pg_base.proofs.Orders.{UpTo-refl, UpTo-trans, is_same_file-true}
use Rattle.pg_register.specs.declared.flag.Flag.{Flag}
use Rattle.pg_register.specs.declared.place.Place.{Place}
use Rattle.pg_register.specs.Place.{root, tilde_name}
use Rattle.pg_entries.specs.declared.entry.Entry.{Entry}
use Rattle.pg_cells.specs.pg_names.declared.attributes.Attributes.{Attributes}
use Rattle.pg_cells.specs.pg_names.Names.{NamesValue, cell_at, directories, known, own_at, with_last, with_own}
use Rattle.pg_cells.proofs.pg_names.Lookups.{own_cell, own_other, own_same, update_frame}
use Rattle.pg_cells.specs.pg_house.Work.{State}
use Rattle.pg_cells.specs.pg_house.Passing.{cell_for, greatest, is_cell, is_held_back, joined_with, own_taken, pass, pass_all, pass_own}
use Rattle.pg_cells.specs.pg_house.Placing.{drawn, flags_of, live_place, made_at, own_with, place_at, placed}
use Rattle.pg_cells.specs.pg_house.Returning.{first_returning, is_returning, return_first, returned}
use Rattle.pg_cells.specs.pg_house.Cycles.{break_first, first_moving, moved}
use Rattle.pg_cells.specs.pg_house.House.{house, movable}
use Rattle.pg_cells.specs.pg_house.Facts.{AreByServer, IsHeld, IsLast, IsOfDirs, is_among}
use Rattle.pg_cells.proofs.pg_house.AfterPassing.{After, AreDirs, after_all, after_child, after_frame, after_gives, after_other, after_own}
use Rattle.pg_cells.proofs.pg_house.AllClimb.{IsDeep, member_deep, moving_member}
use Rattle.pg_cells.proofs.pg_house.AllReturned.{returning_by}
use Rattle.pg_cells.proofs.pg_house.Counting.{find_found}
use Rattle.pg_cells.proofs.pg_house.Ends.{first_dirs, one_last, one_settled}
use Rattle.pg_cells.proofs.pg_house.Greatest.{cell_held}
use Rattle.pg_cells.proofs.pg_house.NoCycles.{inner_parts, some_dirs}
use Rattle.pg_cells.proofs.pg_house.Passes.{one_pass}
use Rattle.pg_cells.proofs.pg_house.Placed.{Settled, made_dirs, placed_is_last, placed_settled}
use Rattle.pg_cells.proofs.pg_house.Repeating.{repeated_keeps}
use Rattle.pg_cells.proofs.pg_house.Truths.{or_cases}
use Rattle.pg_cells.proofs.pg_house.Lasting.{drawn_late}
use Rattle.theory_flood_pieces.specs.Names.{AreNamesUpTo, IsEntryKnownBy}
use Rattle.theory_flood_pieces.specs.UpTo.{AreFlagsUpTo, IsPlaceUpTo}
use Rattle.theory_flood_pieces.specs.Whole.{AreByChild}
use Rattle.theory_flood_pieces.proofs.Flags.{flags_joined, flags_there, newer_of_both}
use Rattle.theory_flood_pieces.proofs.Growth.{OneOwn, SameNames-refl, entry_known_itself, names_further, one_own_grows, same_grow}
use Rattle.theory_flood_pieces.proofs.UpTo.{flags_further, flags_themselves}
use Rattle.theory_flood_pieces.proofs.Orderly.{same_children}

-- ---- the greatest of what is known

-- the place and each flag are up to the others
record IsOwnUpTo (a b : Attributes) : Type 0 where
  pub place : IsPlaceUpTo a.place b.place
  pub flags : AreFlagsUpTo a.flags b.flags

own_itself : (a : Attributes) → IsOwnUpTo a a
own_itself a = record { place = UpTo-refl a.place.stamp; flags = flags_themselves a.flags }

own_further : (a b c : Attributes) → IsOwnUpTo a b → IsOwnUpTo b c → IsOwnUpTo a c
own_further a b c one two = record {
  place = UpTo-trans a.place.stamp b.place.stamp c.place.stamp one.place two.place;
  flags = flags_further a.flags b.flags c.flags one.flags two.flags;
}

joined_up : (top : Attributes) (o : Option Entry) → IsOwnUpTo top (joined_with top o)
joined_up top None = own_itself top
joined_up top (Some c) = record { place = (newer_of_both top.place c.place).0; flags = flags_joined top.flags c.flags }

greatest_up : (s : NamesValue) (f : FileId) (top : Attributes) (ds : List FileId) → IsOwnUpTo top (greatest s f top ds)
greatest_up s f top [] = own_itself top
greatest_up s f top (d ∷ ds) =
    let next = joined_with top (cell_at s d f) in
    own_further top next (greatest s f next ds) (joined_up top (cell_at s d f)) (greatest_up s f next ds)

-- the place and the flags of a cell
abbrev IsCellUpTo : Entry → Attributes → Type 0
IsCellUpTo c top = IsPlaceUpTo c.place top.place × AreFlagsUpTo c.flags top.flags

here_up : (s : NamesValue) (f : FileId) (c : Entry) (top : Attributes) (o : Option Entry) (ds : List FileId) → o ≡ Some c → IsCellUpTo c (greatest s f (joined_with top o) ds)
here_up s f c top None ds h = absurd (none-some c h)
here_up s f c top (Some x) ds h =
    let next = joined_with top (Some x) in
    let up = greatest_up s f next ds in
    let P : Entry → Type 0 = λ z. IsCellUpTo z (greatest s f next ds) in
    subst P (same_Some x c h) (
      UpTo-trans x.place.stamp next.place.stamp (greatest s f next ds).place.stamp (newer_of_both top.place x.place).1 up.place,
      flags_further x.flags next.flags (greatest s f next ds).flags (flags_there top.flags x.flags) up.flags,
    )

cell_up : (s : NamesValue) (f q : FileId) (c : Entry) → cell_at s q f ≡ Some c → (top : Attributes) (ds : List FileId) → is_among q ds ≡ true → IsCellUpTo c (greatest s f top ds)
cell_up s f q c h top [] among = absurd (false≢true among)
cell_up s f q c h top (d ∷ ds) among = elim (or_cases (is_same_file d q) (is_among q ds) among) [
  | inl same ↦ here_up s f c top (cell_at s d f) ds (ap (λ x. cell_at s x f) (is_same_file-true d q same) ∙ h)
  | inr later ↦ cell_up s f q c h (joined_with top (cell_at s d f)) ds later
]

taken_up : (own top : Attributes) (t : Bool) → IsOwnUpTo own top → IsOwnUpTo own (own_taken own top t)
taken_up own top true up = record { place = UpTo-refl own.place.stamp; flags = up.flags }
taken_up own top false up = up

-- ---- one pass

module _ (st : State) (ds : List FileId) (f : FileId) (own : Attributes) (dirs : AreDirs st.names ds) (child : AreByChild st.names) (held : own_at st.names f ≡ Some own) (t : Bool) where
  abbrev Top : Attributes
  Top = greatest st.names f own ds

  abbrev Then : NamesValue
  Then = After st ds f own Top t

  one_own : OneOwn st.names Then f own (own_taken own Top t)
  one_own = record { was = held; is = after_own st ds f own Top t held; others = after_other st ds f own Top t }

  own_up : IsOwnUpTo own (own_taken own Top t)
  own_up = taken_up own Top t (greatest_up st.names f own ds)

  cell_by : (q : FileId) (o : Option Entry) → cell_at st.names q f ≡ o → IsEntryKnownBy o (cell_at Then q f)
  cell_by q None h = tt
  cell_by q (Some c) h =
      let there = cell_held st.names q f c h in
      let among = dirs.cells q f c h in
      let now : cell_at Then q f ≡ Some (cell_for f Top) = after_gives st ds f own Top t q there.0 there.1 among (or_left (is_cell (cell_at st.names q f)) _ (ap is_cell h)) in
      let up = cell_up st.names f q c h own ds among in
      let P : Option Entry → Type 0 = λ o. IsEntryKnownBy (Some c) o in
      subst P (sym now) (record { child = child q f c h; place = up.0; flags = up.1 })

  entry_by : (q g : FileId) (u : Bool) → is_same_file g f ≡ u → IsEntryKnownBy (cell_at st.names q g) (cell_at Then q g)
  entry_by q g false apart = let P : Option Entry → Type 0 = λ o. IsEntryKnownBy (cell_at st.names q g) o in subst P (sym (after_child st ds f own Top t q g apart)) (entry_known_itself (cell_at st.names q g))
  entry_by q g true same = let P : FileId → Type 0 = λ x. IsEntryKnownBy (cell_at st.names q x) (cell_at Then q x) in subst P (sym (is_same_file-true g f same)) (cell_by q (cell_at st.names q f) refl)

  passed_grow : AreNamesUpTo st.names Then
  passed_grow = one_own_grows st.names Then f own (own_taken own Top t) one_own own_up.place own_up.flags (λ q g. entry_by q g (is_same_file g f) refl)

  child_by : (q g : FileId) (c : Entry) (u : Bool) → is_same_file g f ≡ u → cell_at Then q g ≡ Some c → c.child ≡ g
  child_by q g c false apart h = child q g c (sym (after_child st ds f own Top t q g apart) ∙ h)
  child_by q g c true same h =
      let e : g ≡ f = is_same_file-true g f same in
      ap (λ (x : Entry). x.child) (after_all st ds f own Top t dirs q c (ap (cell_at Then q) (sym e) ∙ h)) ∙ sym e

  passed_child : AreByChild Then
  passed_child q g c h = child_by q g c (is_same_file g f) refl h

-- what is kept: names grew since the start, and entries stand at their own children
pub record Keeps (s t : NamesValue) : Type 0 where
  pub server : t.server ≡ s.server
  pub grow : AreNamesUpTo s t
  pub child : AreByChild t

keeps_further : (s t u : NamesValue) → Keeps s t → Keeps t u → Keeps s u
keeps_further s t u a b = record { server = b.server ∙ a.server; grow = names_further s t u a.grow b.grow; child = b.child }

keeps_itself : (s : NamesValue) → AreByChild s → Keeps s s
keeps_itself s child = record { server = refl; grow = same_grow s s (SameNames-refl s); child = child }

pass_by : (st : State) (ds : List FileId) (f : FileId) → AreDirs st.names ds → AreByChild st.names → (o : Option Attributes) → own_at st.names f ≡ o → Keeps st.names (pass_own st ds f o).names
pass_by st ds f dirs child None h = keeps_itself st.names child
pass_by st ds f dirs child (Some own) h =
    let back = is_held_back st.names.removed f own (greatest st.names f own ds) in
    record {
      server = (after_frame st ds f own (greatest st.names f own ds) back).server;
      grow = passed_grow st ds f own dirs child h back;
      child = passed_child st ds f own dirs child h back;
    }

pass_keeps : (st : State) (ds : List FileId) (f : FileId) → AreDirs st.names ds → AreByChild st.names → Keeps st.names (pass st ds f).names
pass_keeps st ds f dirs child = pass_by st ds f dirs child (own_at st.names f) refl

all_keep : (st : State) (ds fs : List FileId) → AreDirs st.names ds → AreByChild st.names → Keeps st.names (pass_all st ds fs).names
all_keep st ds [] dirs child = keeps_itself st.names child
all_keep st ds (f ∷ fs) dirs child =
    let next = pass st ds f in
    let one = pass_keeps st ds f dirs child in
    keeps_further st.names next.names (pass_all next ds fs).names one (all_keep next ds fs (one_pass st ds f dirs).dirs one.child)

-- ---- a place is made

stamp_up : (a b : Stamp) → a.time < b.time → UpTo a b
stamp_up a b lt = record { time = omega arith; server = λ le. absurd (omega arith) }

module _ (moment : ℕ) (ds : List FileId) (st : State) (f p : FileId) (name : List ℕ) (b : Attributes) (held : own_at st.names f ≡ Some b) where
  abbrev New : Place
  New = live_place (drawn moment st.names) p name

  abbrev Late : NamesValue
  Late = with_last st.names New.stamp.time

  abbrev Mine : Attributes
  Mine = own_with st.names f New

  abbrev Made : State
  Made = made_at st f New

  mine_flags : Mine.flags ≡ b.flags
  mine_flags = ap flags_of held

  made_own : OneOwn st.names Made.names f b Mine
  made_own = record { was = held; is = own_same Late f b Mine held; others = own_other Late f Mine }

  time_up : IsLast st.names → UpTo b.place.stamp New.stamp
  time_up last =
      let low = last.own f b held in
      let high = drawn_late moment st.names.last New.stamp.time refl in
      let lt : b.place.stamp.time < New.stamp.time = omega arith in
      stamp_up b.place.stamp New.stamp lt

  made_grow : IsLast st.names → AreNamesUpTo st.names Made.names
  made_grow last =
      let P : List Flag → Type 0 = AreFlagsUpTo b.flags in
      one_own_grows st.names Made.names f b Mine made_own (time_up last) (subst P (sym mine_flags) (flags_themselves b.flags))
      (λ q g. let Q : Option Entry → Type 0 = λ o. IsEntryKnownBy (cell_at st.names q g) o in subst Q (sym (own_cell Late f Mine q g)) (entry_known_itself (cell_at st.names q g)))

  made_keeps : IsLast st.names → AreByChild st.names → Keeps st.names Made.names
  made_keeps last child = record {
    server = (update_frame Late f (with_own Mine)).server;
    grow = made_grow last;
    child = same_children st.names Made.names (λ q g. own_cell Late f Mine q g) child;
  }

  placed_keeps : AreDirs st.names ds → IsLast st.names → AreByChild st.names → Keeps st.names (placed moment ds st f p name).names
  placed_keeps dirs last child =
      let one = made_keeps last child in
      keeps_further st.names Made.names (placed moment ds st f p name).names one (pass_keeps Made ds f (made_dirs moment ds st f p name dirs) one.child)

-- ---- return and cycles

abbrev Stands : List FileId → NamesValue → State → Type 0
Stands ds s st = (Settled ds st.names) × (IsLast st.names) × Keeps s st.names

module _ (moment : ℕ) (ds : List FileId) (s : NamesValue) (st : State) (k : Stands ds s st) where
  place_stands : (f p : FileId) (name : List ℕ) → IsHeld st.names f → Stands ds s (placed moment ds st f p name)
  place_stands f p name held = (
    placed_settled moment ds st f p name k.0,
    placed_is_last moment ds st f p name k.0 k.1 held,
    keeps_further s st.names (placed moment ds st f p name).names k.2 (placed_keeps moment ds st f p name held.0 held.1 k.0.dirs k.1 k.2.child),
  )

  return_stands : (o : Option FileId) → first_returning st.names ds ≡ o → Stands ds s (returned moment ds st o)
  return_stands None h = k
  return_stands (Some d) h =
      let found = find_found (is_returning st.names) ds d h in
      let r = returning_by st.names d (known st.names d) refl found.0 in
      place_stands d (place_at st.names d).parent (place_at st.names d).name r.held

  move_stands : (o : Option FileId) → first_moving st.names (length ds) None ds ≡ o → Stands ds s (moved moment ds st o)
  move_stands None h = k
  move_stands (Some d) h =
      elim (moving_member st.names (length ds) None ds d h) [
        | inl never ↦ absurd (none-some d never)
        | inr m ↦
            let deep : IsDeep st.names d = subst (IsDeep st.names) m.2 (member_deep st.names (length ds) m.0 (some_dirs moment ds st.names (length ds) ds d h) m.1) in
            place_stands d root (tilde_name d) (inner_parts st.names d deep.0).held
      ]

-- THE HOUSE RULES
pub house_keeps : (moment : ℕ) (st : State) → IsOfDirs st.names → AreByServer st.names → IsLast st.names → AreByChild st.names → Keeps st.names (house moment st).names
house_keeps moment st of_dirs sorted last child =
    let ds = directories st.names in
    let one = pass_all st ds (movable st.names) in
    let start : Stands ds st.names one = (one_settled moment st of_dirs sorted, one_last moment st of_dirs sorted last, all_keep st ds (movable st.names) (first_dirs moment st of_dirs sorted) child) in
    (repeated_keeps (Stands ds st.names) (break_first moment ds) (λ t q. move_stands moment ds st.names t q (first_moving t.names (length ds) None ds) refl) (length ds) _
    (repeated_keeps (Stands ds st.names) (return_first moment ds) (λ t q. return_stands moment ds st.names t q (first_returning t.names ds) refl) (length ds) one start)).2
