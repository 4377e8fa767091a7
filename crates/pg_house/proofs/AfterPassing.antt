-- What holds after one file passed.
use Rattle.std.proofs.Common.{◌≡◌, ℕ, Bool, true, false, not, List, Some, refl, sym, ap, ◌∙◌, subst, inl, inr, ◌⊎◌}
use Rattle.std.proofs.lemmas.Bool.{false≢true, and_parts, and_from, not-true, or_left, or_right}
use Rattle.std.proofs.lemmas.Option.{same_Some}
use Rattle.pg_base.specs.declared.id.FileId.{FileId}
use Rattle.pg_base.specs.Id.{is_same_file}
use Rattle.pg_base.specs.Stamp.{is_before}
use Rattle.pg_base.proofs.Orders.{is_same_file-true, is_same_file-refl}
use Rattle.pg_register.specs.Flag.{IsByServer, join_flags}
use Rattle.pg_register.specs.Place.{newer_place}
use Rattle.pg_entries.specs.declared.entry.Entry.{Entry}
use Rattle.pg_names.specs.declared.attributes.Attributes.{Attributes}
use Rattle.pg_names.specs.Names.{NamesValue, own_at, cell_at, is_dir}
use Rattle.pg_names.proofs.Lookups.{SameFrame, SameFrame-trans}
use Rattle.pg_names.proofs.Alike.{own_of_parts}
use Rattle.pg_house.specs.Work.{State}
use Rattle.pg_house.specs.Passing.{cell_for, greatest, is_cell, is_held_back, is_update, joined, own_taken, passed, spread, wants}
use Rattle.pg_house.specs.Facts.{IsPassed, HasOwnParent, is_among}
use Rattle.pg_house.proofs.Truths.{before_itself, chosen_true}
use Rattle.pg_house.proofs.Flags.{join_same}
use Rattle.pg_house.proofs.Taking.{taking_cell, taking_frame, taking_other, taking_own}
use Rattle.pg_house.proofs.Spreading.{spread_own, spread_frame, spread_child, spread_cell, spread_gives, spread_new}
use Rattle.pg_house.proofs.Greatest.{AllAre, cell_held, greatest_cases, greatest_same, greatest_meets, greatest_sorted, joined_same}

-- every directory is among these: those with a cell, and those that are held. The flags of all that
-- is held are by server
pub record AreDirs (s : NamesValue) (ds : List FileId) : Type 0 where
  pub cells : (q g : FileId) (c : Entry) → cell_at s q g ≡ Some c → is_among q ds ≡ true
  pub held : (q : FileId) (b : Attributes) → own_at s q ≡ Some b → is_dir q ≡ true → is_among q ds ≡ true
  pub sorted : (q : FileId) (b : Attributes) → own_at s q ≡ Some b → IsByServer b.flags

module _ (st : State) (ds : List FileId) (f : FileId) (own top : Attributes) (back : Bool) where
  abbrev pub After : NamesValue
  After = (passed st ds f own top back).names

  pub after_own : own_at st.names f ≡ Some own → own_at After f ≡ Some (own_taken own top back)
  after_own h = taking_own (spread st f own top back ds) f own (own_taken own top back) (spread_own st f own top back ds f ∙ h)

  pub after_other : (q : FileId) → is_same_file f q ≡ false → own_at After q ≡ own_at st.names q
  after_other q apart = taking_other (spread st f own top back ds) f own (own_taken own top back) q apart ∙ spread_own st f own top back ds q

  pub after_child : (q g : FileId) → is_same_file g f ≡ false → cell_at After q g ≡ cell_at st.names q g
  after_child q g apart = taking_cell (spread st f own top back ds) f own (own_taken own top back) q g ∙ spread_child st f own top back ds q g apart

  pub after_frame : SameFrame After st.names
  after_frame = SameFrame-trans (taking_frame (spread st f own top back ds) f own (own_taken own top back)) (spread_frame st f own top back ds)

  pub after_gives : (q : FileId) (b : Attributes) → own_at st.names q ≡ Some b → is_among q ds ≡ true → wants st.names f own top back q ≡ true → cell_at After q f ≡ Some (cell_for f top)
  after_gives q b held among w = taking_cell (spread st f own top back ds) f own (own_taken own top back) q f ∙ spread_gives st f own top back ds q b held among w

  -- every cell for the file is the greatest
  pub after_all : AreDirs st.names ds → AllAre After f top
  after_all dirs q c h =
      let there = sym (taking_cell (spread st f own top back ds) f own (own_taken own top back) q f) ∙ h in
      let held = cell_held (spread st f own top back ds).names q f c there in
      let before = sym (spread_own st f own top back ds q) ∙ held.1 in
      elim (spread_cell st f own top back ds q held.0 c before there) [
        | inl same ↦ same
        | inr old ↦ same_Some c (cell_for f top) (sym h ∙ after_gives q held.0 before (dirs.cells q f c old) (or_left (is_cell (cell_at st.names q f)) _ (ap is_cell old)))
      ]

  -- and the directories are the same ones
  pub after_among : AreDirs st.names ds → (q g : FileId) (c : Entry) (t : Bool) → is_same_file g f ≡ t → cell_at After q g ≡ Some c → is_among q ds ≡ true
  after_among dirs q g c false apart h = dirs.cells q g c (sym (after_child q g apart) ∙ h)
  after_among dirs q g c true same h =
      let there = sym (taking_cell (spread st f own top back ds) f own (own_taken own top back) q f) ∙ subst (λ k. cell_at After q k ≡ Some c) (is_same_file-true g f same) h in
      elim (spread_new st f own top back ds q c there) [
        | inl among ↦ among
        | inr old ↦ dirs.cells q f c old
      ]

-- a directory that is held was held
module _ (st : State) (ds : List FileId) (f : FileId) (own top : Attributes) (back : Bool) (held : own_at st.names f ≡ Some own) where
  held_back_by : (q : FileId) (b : Attributes) (t : Bool) → is_same_file f q ≡ t → own_at (After st ds f own top back) q ≡ Some b → (c : Attributes) × (own_at st.names q ≡ Some c)
  held_back_by q b true same h = (own, ap (own_at st.names) (sym (is_same_file-true f q same)) ∙ held)
  held_back_by q b false apart h = (b, sym (after_other st ds f own top back q apart) ∙ h)

  pub was_held : (q : FileId) (b : Attributes) → own_at (After st ds f own top back) q ≡ Some b → (c : Attributes) × (own_at st.names q ≡ Some c)
  was_held q b h = held_back_by q b (is_same_file f q) refl h

-- what the thing took, raised by the greatest, is the greatest
raised_up : (f : FileId) (own top : Attributes) (t : Bool) → IsByServer top.flags → ((t ≡ true) → is_before own.place.stamp top.place.stamp ≡ true) → joined (own_taken own top t) (cell_for f top) ≡ top
raised_up f own top false sorted up = joined_same f top (join_same top.flags sorted)
raised_up f own top true sorted up = own_of_parts (newer_place own.place top.place) top.place (join_flags top.flags top.flags) top.flags (chosen_true (is_before own.place.stamp top.place.stamp) top.place own.place (up refl)) (join_same top.flags sorted)

-- what holding back says
record IsBack (removed : List ℕ) (f : FileId) (own top : Attributes) : Type 0 where
  dir : is_dir f ≡ true
  dead : top.place.live ≡ false
  before : is_before own.place.stamp top.place.stamp ≡ true

back_parts : (removed : List ℕ) (f : FileId) (own top : Attributes) → is_held_back removed f own top ≡ true → IsBack removed f own top
back_parts removed f own top h =
    let a = and_parts (is_dir f) _ h in
    let b = and_parts (not top.place.live) _ a.1 in
    let e = and_parts (is_before own.place.stamp top.place.stamp) _ b.1 in
    record { dir = a.0; dead = not-true top.place.live b.0; before = e.0 }

module _ (st : State) (ds : List FileId) (f : FileId) (own : Attributes) (dirs : AreDirs st.names ds) (held : own_at st.names f ≡ Some own) where
  abbrev Top : Attributes
  Top = greatest st.names f own ds

  abbrev Back : Bool → Type 0
  Back t = is_held_back st.names.removed f own Top ≡ t

  abbrev Then : Bool → NamesValue
  Then t = After st ds f own Top t

  top_sorted : IsByServer Top.flags
  top_sorted = greatest_sorted st.names f own ds (dirs.sorted f own held)

  -- the greatest is still the greatest
  still_top : (t : Bool) → Back t → greatest (Then t) f (own_taken own Top t) ds ≡ Top
  still_top false b = greatest_same (Then false) f Top ds (join_same Top.flags top_sorted) (after_all st ds f own Top false dirs)
  still_top true b =
      let parts = back_parts st.names.removed f own Top b in
      elim (greatest_cases st.names f own ds) [
        | inl same ↦ absurd (false≢true (sym (before_itself own.place.stamp) ∙ subst (λ (c : Attributes). is_before own.place.stamp c.place.stamp ≡ true) same parts.before))
        | inr some ↦
            let b = cell_held st.names some.0 f some.1 some.3 in
            greatest_meets (Then true) f some.0 (own_taken own Top true) Top ds (join_same Top.flags top_sorted) (after_all st ds f own Top true dirs) (raised_up f own Top true top_sorted (λ t. parts.before))
            (after_gives st ds f own Top true some.0 b.0 b.1 some.2 (or_left (is_cell (cell_at st.names some.0 f)) _ (ap is_cell some.3))) some.2
      ]

  gets : (t : Bool) (q : FileId) (b : Attributes) → own_at (Then t) q ≡ Some b → is_dir q ≡ true → wants st.names f own Top t q ≡ true → is_cell (cell_at (Then t) q f) ≡ true
  gets t q b h d w =
      let was = was_held st ds f own Top t held q b h in
      ap is_cell (after_gives st ds f own Top t q was.0 was.1 (dirs.held q was.0 was.1 d) w)

  abbrev HasParent : Bool → Attributes → Type 0
  HasParent t g = (c : Attributes) → is_update g.place ≡ true → own_at (Then t) g.place.parent ≡ Some c → is_dir g.place.parent ≡ true → is_cell (cell_at (Then t) g.place.parent f) ≡ true

  has_parent : (t : Bool) → HasParent t Top
  has_parent t c up h d =
      gets t Top.place.parent c h d (or_right (is_cell (cell_at st.names Top.place.parent f)) _ (or_left _ _ (and_from (is_update Top.place) _ up (is_same_file-refl Top.place.parent))))

  pub flags_are : (t : Bool) → (own_taken own Top t).flags ≡ Top.flags
  flags_are true = refl
  flags_are false = refl

  -- the flags of all that is held are by server
  sorted_by : (t : Bool) (q : FileId) (b : Attributes) (s : Bool) → is_same_file f q ≡ s → own_at (Then t) q ≡ Some b → IsByServer b.flags
  sorted_by t q b false apart h = dirs.sorted q b (sym (after_other st ds f own Top t q apart) ∙ h)
  sorted_by t q b true same h =
      let e : own_taken own Top t ≡ b = same_Some (own_taken own Top t) b (sym (after_own st ds f own Top t held) ∙ ap (own_at (Then t)) (is_same_file-true f q same) ∙ h) in
      subst IsByServer (sym (flags_are t) ∙ ap (λ (x : Attributes). x.flags) e) top_sorted

  pub still_sorted : (t : Bool) (q : FileId) (b : Attributes) → own_at (Then t) q ≡ Some b → IsByServer b.flags
  still_sorted t q b h = sorted_by t q b (is_same_file f q) refl h

  place_is : (t : Bool) → Back t → (own_taken own Top t ≡ Top) ⊎ (is_held_back (Then t).removed f (own_taken own Top t) Top ≡ true)
  place_is false b = inl refl
  place_is true b = inr (ap (λ r. is_held_back r f own Top) (after_frame st ds f own Top true).removed ∙ b)

  pub is_passed : (t : Bool) → Back t → IsPassed (Then t) ds f (own_taken own Top t)
  is_passed t b =
      let e = still_top t b in
      record {
        cells = λ q c h. after_all st ds f own Top t dirs q c h ∙ ap (cell_for f) (sym e);
        parent = subst (HasParent t) (sym e) (has_parent t);
        flags = flags_are t ∙ ap (λ (c : Attributes). c.flags) (sym e);
        place = subst (λ (g : Attributes). (own_taken own Top t ≡ g) ⊎ (is_held_back (Then t).removed f (own_taken own Top t) g ≡ true)) (sym e) (place_is t b);
      }

  pub own_parent : (t : Bool) → Back t → HasOwnParent (Then t) f (own_taken own Top t)
  own_parent false b c live h d = has_parent false c (or_left Top.place.live _ live) h d
  own_parent true b c live h d =
      gets true own.place.parent c h d (or_right (is_cell (cell_at st.names own.place.parent f)) _ (or_right _ _ (and_from own.place.live _ live (is_same_file-refl own.place.parent))))
