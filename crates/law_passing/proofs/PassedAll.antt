-- Where all that is held passes, a server knows just what its replicas took then.
use Rattle.std.proofs.Common.{ℕ, ◌≡◌, ◌&&◌, ◌||◌, not, Bool, true, false, List, Option, None, Some, refl, sym, ap, subst, ◌∙◌, inl, inr, ◌⊎◌, arith}
use Rattle.std.proofs.lemmas.Bool.{false≢true, and_parts, and_from, or_left}
use Rattle.std.proofs.lemmas.Bool.Decides.{nat_tests}
use Rattle.std.proofs.lemmas.Option.{none-some}
use Rattle.pg_run.specs.pg_base.declared.id.FileId.{FileId}
use Rattle.pg_run.specs.pg_base.declared.stamp.Stamp.{Stamp}
use Rattle.pg_run.specs.pg_base.Id.{is_same_file}
use Rattle.pg_run.specs.pg_base.Stamp.{is_before}
use Rattle.pg_run.specs.pg_register.declared.flag.Flag.{Flag}
use Rattle.pg_run.specs.pg_register.declared.place.Place.{Place}
use Rattle.pg_run.specs.pg_register.Flag.{is_removed}
use Rattle.pg_run.specs.pg_register.Place.{blank_place, first_stamp, root, root_place}
use Rattle.pg_run.specs.pg_entries.declared.entry.Entry.{Entry}
use Rattle.pg_run.specs.pg_names.declared.attributes.Attributes.{Attributes}
use Rattle.pg_run.specs.pg_names.Names.{NamesValue, cell_at, is_dir, or_blank, own_at, own_or_blank}
use Rattle.pg_run.specs.pg_house.Passing.{cell_for, greatest, is_cell, is_held_back, is_in, is_update, own_taken, wants}
use Rattle.pg_run.specs.pg_house.Returning.{is_root}
use Rattle.pg_run.specs.pg_house.Facts.{IsHeld, is_among}
use Rattle.pg_run.proofs.pg_house.AfterPassing.{AreDirs}
use Rattle.pg_run.proofs.pg_house.Greatest.{cell_held}
use Rattle.pg_run.proofs.pg_house.Idle.{AreHeld}
use Rattle.pg_run.proofs.pg_house.Truths.{chosen_false, or_cases}
use Rattle.pg_run.specs.Took.{Take, Taker, first_place, is_held}
use Rattle.pg_run.specs.Took.Take.{TookFlag, TookPlace}
use Rattle.pg_run.specs.Took.Taker.{InDir, Itself}
use Rattle.pg_run.specs.Passed.{has_cell, is_back, passed}
use Rattle.law_passing.specs.Gets.{GetsFlags, GetsPlaces, IsParty}
use Rattle.law_passing.specs.Newest.{AreNewest, IsAnyOf, IsLatest}
use Rattle.law_passing.specs.Tells.{AreApart, HasFlag, HasPlace, IsCellOf, KnowsFlag, KnowsPlace, Tells}
use Rattle.law_passing.proofs.Brought.{brought_or_old, flag_brought, old_there, place_brought, same_flags, same_held, same_places, still_held}
use Rattle.law_passing.proofs.Coming.{Comes, IsStill, Rest}
use Rattle.law_passing.proofs.Latest.{any_of, first_stamp_is, latest_same}
use Rattle.law_passing.proofs.Newest.{newest_same}
use Rattle.law_passing.proofs.Takes.{HasEntry, entry_there, there_entry}
use Rattle.law_passing.proofs.Top.{back_is, cell_there, is_cell_is, own_latest, top_latest, top_newest, wants_is}

-- of all that is held all has passed, but for the root; and nothing else changes
pub record AllPassed (s t : NamesValue) (ds : List FileId) : Type 0 where
  pub stays : (q : FileId) → IsHeld s q → IsHeld t q
  pub was : (q : FileId) → IsHeld t q → IsHeld s q
  pub come : (f : FileId) (own : Attributes) → own_at s f ≡ Some own → is_root f ≡ false → Comes s t ds f own
  pub still : (f : FileId) → (is_root f ≡ true) ⊎ (own_at s f ≡ None) → IsStill s t f

-- ---- of no update

not_update : (f : FileId) → is_update (blank_place f) ≡ false
not_update f = refl

pub none_before : (s : Stamp) → is_before s first_stamp ≡ false
none_before s = grind (arith, nat_tests)

all_false : (a b c d : Bool) → c ≡ false → (a && (b && (c && d))) ≡ false
all_false true true false d h = refl
all_false true false false d h = refl
all_false false b false d h = refl
all_false a b true d h = absurd (false≢true (sym h))

both_false : (a b c d : Bool) → a ≡ false → c ≡ false → ((a && b) || (c && d)) ≡ false
both_false false b false d h e = refl
both_false true b c d h e = absurd (false≢true (sym h))
both_false false b true d h e = absurd (false≢true (sym e))

not_back : (removed : List ℕ) (f : FileId) (own top : Attributes) → is_before own.place.stamp top.place.stamp ≡ false → is_held_back removed f own top ≡ false
not_back removed f own top h = all_false (is_dir f) (not top.place.live) (is_before own.place.stamp top.place.stamp) (not (is_removed removed top.place.stamp.server)) h

-- ---- what all passes

module _ (s t : NamesValue) (takes : List Take) (ds : List FileId) (k : Tells s takes) (apart : AreApart takes) (dirs : AreDirs s ds) (dirs_held : AreHeld s ds) (m : AllPassed s t ds) where
  abbrev Then : List Take
  Then = passed s.removed takes

  -- nothing new is known, so all is apart as it was
  pub passed_apart : AreApart Then
  passed_apart = record {
    places = λ f a b p q. apart.places f a b (any_of f (KnowsPlace Then f) (KnowsPlace takes f) (same_places s.removed takes f) a p)
        (any_of f (KnowsPlace Then f) (KnowsPlace takes f) (same_places s.removed takes f) b q);
    flags = λ f a b p q. apart.flags f a b (same_flags s.removed takes f a p) (same_flags s.removed takes f b q);
  }

  -- ---- of the root, and of what is not held, nothing comes

  abbrev IsAway : FileId → Type 0
  IsAway f = (is_root f ≡ true) ⊎ (own_at s f ≡ None)

  no_own : (f : FileId) → own_at s f ≡ None → is_held f takes ≡ true → ⊥
  no_own f none h = let own = k.held f h in none-some own.0 (sym none ∙ own.1)

  moves_of : (by : Taker) (f : FileId) → GetsFlags s.removed takes by f → is_root f ≡ false
  moves_of Itself f g = g
  moves_of (InDir d) f g = g.moves

  moves_too : (by : Taker) (f : FileId) → GetsPlaces s.removed takes by f → is_root f ≡ false
  moves_too Itself f g = g.0
  moves_too (InDir d) f g = g.moves

  no_place : (by : Taker) (f : FileId) → IsAway f → is_held f takes ≡ true → GetsPlaces s.removed takes by f → ⊥
  no_place by f (inl top) h g = false≢true (sym (moves_too by f g) ∙ top)
  no_place by f (inr none) h g = no_own f none h

  no_flag : (by : Taker) (f : FileId) → IsAway f → is_held f takes ≡ true → GetsFlags s.removed takes by f → ⊥
  no_flag by f (inl top) h g = false≢true (sym (moves_of by f g) ∙ top)
  no_flag by f (inr none) h g = no_own f none h

  old_place : (by : Taker) (f : FileId) (p : Place) → IsAway f → HasPlace Then by f p → HasPlace takes by f p
  old_place by f p away h = elim (brought_or_old s.removed takes (TookPlace by f p) h) [ inl new ↦ absurd (no_place by f away new.0 new.2) | inr old ↦ old ]

  old_flag : (by : Taker) (f : FileId) (q : Flag) → IsAway f → HasFlag Then by f q → HasFlag takes by f q
  old_flag by f q away h = elim (brought_or_old s.removed takes (TookFlag by f q) h) [ inl new ↦ absurd (no_flag by f away new.0 new.2) | inr old ↦ old ]

  away_latest : (by : Taker) (f : FileId) (a : Place) → IsAway f → IsLatest f (HasPlace takes by f) a → IsLatest f (HasPlace Then by f) a
  away_latest by f a away h = latest_same {f = f} {P = HasPlace takes by f} {Q = HasPlace Then by f} (λ p. old_there s.removed takes (TookPlace by f p)) (λ p. old_place by f p away) a h

  away_newest : (by : Taker) (f : FileId) (fs : List Flag) → IsAway f → AreNewest (HasFlag takes by f) fs → AreNewest (HasFlag Then by f) fs
  away_newest by f fs away h = newest_same {P = HasFlag takes by f} {Q = HasFlag Then by f} (λ p. old_there s.removed takes (TookFlag by f p)) (λ p. old_flag by f p away) fs h

  old_entry : (d f : FileId) → IsAway f → HasEntry Then d f → HasEntry takes d f
  old_entry d f away (inl h) = inl (h.0, old_place (InDir d) f h.0 away h.1)
  old_entry d f away (inr h) = inr (h.0, old_flag (InDir d) f h.0 away h.1)

  still_entry : (d f : FileId) → HasEntry takes d f → HasEntry Then d f
  still_entry d f (inl h) = inl (h.0, old_there s.removed takes (TookPlace (InDir d) f h.0) h.1)
  still_entry d f (inr h) = inr (h.0, old_there s.removed takes (TookFlag (InDir d) f h.0) h.1)

  module _ (f : FileId) (away : IsAway f) where
    same_own : own_or_blank t f ≡ own_or_blank s f
    same_own = ap (or_blank f) (m.still f away).own

    away_place : IsLatest f (HasPlace Then Itself f) (own_or_blank t f).place
    away_place =
        let P : Attributes → Type 0 = λ o. IsLatest f (HasPlace Then Itself f) o.place in
        subst P (sym same_own) (away_latest Itself f (own_or_blank s f).place away (k.place f))

    away_flags : AreNewest (HasFlag Then Itself f) (own_or_blank t f).flags
    away_flags =
        let P : Attributes → Type 0 = λ o. AreNewest (HasFlag Then Itself f) o.flags in
        subst P (sym same_own) (away_newest Itself f (own_or_blank s f).flags away (k.flags f))

    away_none_by : (d : FileId) → cell_at t d f ≡ None → (b : Bool) → has_cell d f Then ≡ b → b ≡ false
    away_none_by d h false e = refl
    away_none_by d h true e =
        let old = there_entry d f takes (old_entry d f away (entry_there d f Then e)) in
        absurd (false≢true (sym (k.none d f (sym ((m.still f away).cells d) ∙ h)) ∙ old))

    away_some : (d : FileId) (c : Entry) → cell_at t d f ≡ Some c → IsCellOf Then d f c
    away_some d c h =
        let is = k.some d f c (sym ((m.still f away).cells d) ∙ h) in
        record {
          child_is = is.child_is;
          has = there_entry d f Then (still_entry d f (entry_there d f takes is.has));
          place = away_latest (InDir d) f c.place away is.place;
          flags = away_newest (InDir d) f c.flags away is.flags;
        }

  -- ---- what is held passes

  module _ (f : FileId) (own : Attributes) (held : own_at s f ≡ Some own) (moves : is_root f ≡ false) where
    abbrev Top : Attributes
    Top = greatest s f own ds

    abbrev Back : Bool
    Back = is_held_back s.removed f own Top

    come : Comes s t ds f own
    come = m.come f own held moves

    back : Back ≡ is_back s.removed f takes
    back = back_is s takes k f ds dirs own held apart s.removed

    latest : IsLatest f (KnowsPlace takes f) Top.place
    latest = top_latest s takes k f ds dirs own held

    newest : AreNewest (KnowsFlag takes f) Top.flags
    newest = top_newest s takes k f ds dirs own held

    here : is_held f takes ≡ true
    here = k.told f (own, held)

    -- whoever gets all has the greatest
    top_there : (by : Taker) → GetsPlaces s.removed takes by f → IsAnyOf f (KnowsPlace takes f) Top.place → IsAnyOf f (HasPlace Then by f) Top.place
    top_there by g (inl e) = inl e
    top_there by g (inr h) = inr (place_brought s.removed takes f Top.place by here h g)

    gets_latest : (by : Taker) → GetsPlaces s.removed takes by f → IsLatest f (HasPlace Then by f) Top.place
    gets_latest by g = record { there = top_there by g latest.there; up = λ p h. latest.up p (same_places s.removed takes f p (by, h)) }

    gets_newest : (by : Taker) → GetsFlags s.removed takes by f → AreNewest (HasFlag Then by f) Top.flags
    gets_newest by g =
        newest_same {P = KnowsFlag takes f} {Q = HasFlag Then by f} (λ q h. flag_brought s.removed takes f q by here h g) (λ q h. same_flags s.removed takes f q (by, h)) Top.flags newest

    -- the thing itself
    back_place : (p : Place) → Back ≡ true → HasPlace Then Itself f p → HasPlace takes Itself f p
    back_place p e h = elim (brought_or_old s.removed takes (TookPlace Itself f p) h) [
      | inl new ↦ absurd (false≢true (sym new.2.1 ∙ sym back ∙ e))
      | inr old ↦ old
    ]

    place_by : (b : Bool) → Back ≡ b → IsLatest f (HasPlace Then Itself f) (own_taken own Top b).place
    place_by true e =
        latest_same {f = f} {P = HasPlace takes Itself f} {Q = HasPlace Then Itself f} (λ p. old_there s.removed takes (TookPlace Itself f p)) (λ p. back_place p e) own.place
        (own_latest s takes k f ds dirs own held)
    place_by false e = gets_latest Itself (moves, sym back ∙ e)

    flags_by : (b : Bool) → AreNewest (HasFlag Then Itself f) (own_taken own Top b).flags
    flags_by true = gets_newest Itself moves
    flags_by false = gets_newest Itself moves

    own_is : own_or_blank t f ≡ own_taken own Top Back
    own_is = ap (or_blank f) come.own_is

    held_place : IsLatest f (HasPlace Then Itself f) (own_or_blank t f).place
    held_place = let P : Attributes → Type 0 = λ o. IsLatest f (HasPlace Then Itself f) o.place in subst P (sym own_is) (place_by Back refl)

    held_flags : AreNewest (HasFlag Then Itself f) (own_or_blank t f).flags
    held_flags = let P : Attributes → Type 0 = λ o. AreNewest (HasFlag Then Itself f) o.flags in subst P (sym own_is) (flags_by Back)

    -- ---- the directories

    -- a directory whose replica took some of it has the cell then
    gives : (d : FileId) → IsHeld s d → is_among d ds ≡ true → wants s f own Top Back d ≡ true → (c : Entry) × (cell_at t d f ≡ Some c)
    gives d h among w = (cell_for f Top, come.gives d h among w)

    old_cell : (d : FileId) → HasEntry takes d f → (c : Entry) × (cell_at t d f ≡ Some c)
    old_cell d h =
        let c = cell_there s takes k f d (there_entry d f takes h) in
        gives d (cell_held s d f c.0 c.1) (dirs.cells d f c.0 c.1) (or_left (is_cell (cell_at s d f)) (Rest f own Top Back d) (ap is_cell c.1))

    new_cell : (d : FileId) → IsParty s.removed takes d f → (c : Entry) × (cell_at t d f ≡ Some c)
    new_cell d party =
        let two = and_parts (is_dir d) (wants s f own Top Back d) (wants_is s takes k f ds dirs own held apart s.removed d ∙ party.part) in
        let there = k.held d party.held in
        gives d there (dirs.held d there.0 there.1 two.0) two.1

    some_cell : (d : FileId) → HasEntry Then d f → (c : Entry) × (cell_at t d f ≡ Some c)
    some_cell d (inl h) = elim (brought_or_old s.removed takes (TookPlace (InDir d) f h.0) h.1) [ inl new ↦ new_cell d new.2 | inr old ↦ old_cell d (inl (h.0, old)) ]
    some_cell d (inr h) = elim (brought_or_old s.removed takes (TookFlag (InDir d) f h.0) h.1) [ inl new ↦ new_cell d new.2 | inr old ↦ old_cell d (inr (h.0, old)) ]

    held_none_by : (d : FileId) → cell_at t d f ≡ None → (b : Bool) → has_cell d f Then ≡ b → b ≡ false
    held_none_by d h false e = refl
    held_none_by d h true e = let c = some_cell d (entry_there d f Then e) in absurd (none-some c.0 (sym h ∙ c.1))

    -- where no place of it is known, only a directory that has a cell is to have one
    first_is : first_place f ≡ blank_place f
    first_is = chosen_false (is_same_file f root) root_place (blank_place f) moves

    rest_false : (d : FileId) → Top.place ≡ first_place f → Rest f own Top Back d ≡ false
    rest_false d e =
        both_false (is_update Top.place) (is_in d Top.place) Back (own.place.live && is_in d own.place) (ap is_update (e ∙ first_is) ∙ not_update f)
        (not_back s.removed f own Top (ap (λ (p : Place). is_before own.place.stamp p.stamp) e ∙ ap (is_before own.place.stamp) (first_stamp_is f) ∙ none_before own.place.stamp))

    module _ (d : FileId) (c : Entry) (h : cell_at t d f ≡ Some c) where
      there : (IsHeld s d) × (is_dir d ≡ true)
      there = dirs_held d (come.among d c h)

      party : IsParty s.removed takes d f
      party = record {
        moves = moves;
        held = k.told d there.0;
        part = sym (wants_is s takes k f ds dirs own held apart s.removed d) ∙ and_from (is_dir d) (wants s f own Top Back d) there.1 (come.wanted d c h);
      }

      had : Top.place ≡ first_place f → HasEntry takes d f
      had e = elim (or_cases (is_cell (cell_at s d f)) (Rest f own Top Back d) (come.wanted d c h)) [
        | inl is ↦ entry_there d f takes (sym (is_cell_is s takes k f d) ∙ is)
        | inr rest ↦ absurd (false≢true (sym (rest_false d e) ∙ rest))
      ]

      has_by : IsAnyOf f (KnowsPlace takes f) Top.place → HasEntry Then d f
      has_by (inl e) = still_entry d f (had e)
      has_by (inr known) = inl (Top.place, place_brought s.removed takes f Top.place (InDir d) here known party)

      greatest_cell : IsCellOf Then d f (cell_for f Top)
      greatest_cell = record {
        child_is = refl;
        has = there_entry d f Then (has_by latest.there);
        place = gets_latest (InDir d) party;
        flags = gets_newest (InDir d) party;
      }

      held_some : IsCellOf Then d f c
      held_some = let P : Entry → Type 0 = λ x. IsCellOf Then d f x in subst P (sym (come.same d c h)) greatest_cell

  -- ---- so all is told

  thing_by : (P : Type 0) (f : FileId) (b : Bool) (o : Option Attributes) → is_root f ≡ b → own_at s f ≡ o → (IsAway f → P) → ((own : Attributes) → own_at s f ≡ Some own → is_root f ≡ false → P) → P
  thing_by P f true o e h away held = away (inl e)
  thing_by P f false None e h away held = away (inr h)
  thing_by P f false (Some own) e h away held = held own h e

  by_thing : (P : Type 0) (f : FileId) → (IsAway f → P) → ((own : Attributes) → own_at s f ≡ Some own → is_root f ≡ false → P) → P
  by_thing P f away held = thing_by P f (is_root f) (own_at s f) refl refl away held

  -- ALL THAT IS HELD PASSES
  pub passed_tells : Tells t Then
  passed_tells = record {
    held = λ q h. m.stays q (k.held q (same_held s.removed takes q h));
    told = λ q h. still_held s.removed takes q (k.told q (m.was q h));
    place = λ f. by_thing (IsLatest f (HasPlace Then Itself f) (own_or_blank t f).place) f (away_place f) (held_place f);
    flags = λ f. by_thing (AreNewest (HasFlag Then Itself f) (own_or_blank t f).flags) f (away_flags f) (held_flags f);
    none = λ d f h. by_thing (has_cell d f Then ≡ false) f (λ away. away_none_by f away d h (has_cell d f Then) refl)
        (λ own held moves. held_none_by f own held moves d h (has_cell d f Then) refl);
    some = λ d f c h. by_thing (IsCellOf Then d f c) f (λ away. away_some f away d c h) (λ own held moves. held_some f own held moves d c h);
  }
