-- What holds after passing, of one file and of all.
use Rattle.std.specs.Map.{keys_of}
use Rattle.std.proofs.Common.{◌≡◌, Bool, true, List, [], ◌∷◌, Option, None, Some, refl, sym, ◌∙◌, subst, inl, inr, ◌⊎◌}
use Rattle.std.proofs.lemmas.Bool.{false≢true}
use Rattle.std.proofs.lemmas.Option.{none-some, same_Some}
use Rattle.pg_base.specs.declared.id.FileId.{FileId}
use Rattle.pg_base.specs.Id.{is_same_file}
use Rattle.pg_names.specs.declared.attributes.Attributes.{Attributes}
use Rattle.pg_names.specs.Names.{NamesValue, own_at}
use Rattle.pg_names.proofs.Lookups.{apart_back}
use Rattle.pg_house.specs.Work.{State}
use Rattle.pg_house.specs.Passing.{greatest, is_held_back, own_taken, pass, pass_own, pass_all, passed}
use Rattle.pg_house.specs.Facts.{IsPassed, HasOwnParent, HasPassed, is_among}
use Rattle.pg_house.proofs.Truths.{or_cases}
use Rattle.pg_house.proofs.AfterPassing.{AreDirs, after_own, after_other, after_child, after_frame, after_among, is_passed, own_parent, still_sorted, was_held}
use Rattle.pg_house.proofs.Touches.{IsHeld, Touches, Touches-refl, passed_of}

-- one pass changes what is known of the thing alone
module _ (st : State) (ds : List FileId) (f : FileId) where
  own_touches : (own top : Attributes) (back : Bool) → own_at st.names f ≡ Some own → Touches f st.names (passed st ds f own top back).names
  own_touches own top back held = record {
    own = λ q a. after_other st ds f own top back q a;
    cells = λ q g a. after_child st ds f own top back q g (apart_back f g a);
    was = λ q h. was_held st ds f own top back held q h.0 h.1;
    removed = (after_frame st ds f own top back).removed;
    server = (after_frame st ds f own top back).server;
    keys = (after_frame st ds f own top back).keys;
  }

  touches_by : (o : Option Attributes) → own_at st.names f ≡ o → Touches f st.names (pass_own st ds f o).names
  touches_by None h = Touches-refl f st.names
  touches_by (Some own) h = let top = greatest st.names f own ds in own_touches own top (is_held_back st.names.removed f own top) h

  pub pass_touches : Touches f st.names (pass st ds f).names
  pass_touches = touches_by (own_at st.names f) refl

-- what one pass gives: a state, and what holds of it
pub record Pass (ds : List FileId) (f : FileId) (s t : NamesValue) : Type 0 where
  pub touches : Touches f s t
  pub last : t.last ≡ s.last
  pub dirs : AreDirs t ds
  pub passed : HasPassed t ds f

module _ (st : State) (ds : List FileId) (f : FileId) (dirs : AreDirs st.names ds) where
  none_passed : own_at st.names f ≡ None → Pass ds f st.names st.names
  none_passed h = record { touches = Touches-refl f st.names; last = refl; dirs = dirs; passed = λ own g. absurd (none-some own (sym h ∙ g)) }

  module _ (own : Attributes) (held : own_at st.names f ≡ Some own) where
    abbrev Top : Attributes
    Top = greatest st.names f own ds

    abbrev Then : Bool → NamesValue
    Then t = (passed st ds f own Top t).names

    are_dirs : (t : Bool) → AreDirs (Then t) ds
    are_dirs t = record {
      cells = λ q g c h. after_among st ds f own Top t dirs q g c (is_same_file g f) refl h;
      held = λ q b h d. let was = was_held st ds f own Top t held q b h in dirs.held q was.0 was.1 d;
      sorted = still_sorted st ds f own dirs held t;
    }

    has_passed : (t : Bool) → is_held_back st.names.removed f own Top ≡ t → HasPassed (Then t) ds f
    has_passed t b c h =
        let same : own_taken own Top t ≡ c = same_Some (own_taken own Top t) c (sym (after_own st ds f own Top t held) ∙ h) in
        subst (λ x. (IsPassed (Then t) ds f x) × (HasOwnParent (Then t) f x)) same (is_passed st ds f own dirs held t b, own_parent st ds f own dirs held t b)

    some_passed : (t : Bool) → is_held_back st.names.removed f own Top ≡ t → Pass ds f st.names (Then t)
    some_passed t b = record { touches = own_touches st ds f own Top t held; last = (after_frame st ds f own Top t).last; dirs = are_dirs t; passed = has_passed t b }

  by_own : (o : Option Attributes) → own_at st.names f ≡ o → Pass ds f st.names (pass_own st ds f o).names
  by_own None h = none_passed h
  by_own (Some own) h = some_passed own h (is_held_back st.names.removed f own (greatest st.names f own ds)) refl

  pub one_pass : Pass ds f st.names (pass st ds f).names
  one_pass = by_own (own_at st.names f) refl

-- ---- all files

pub record AllPass (ds : List FileId) (s t : NamesValue) : Type 0 where
  pub was : (q : FileId) → IsHeld t q → IsHeld s q
  pub last : t.last ≡ s.last
  pub dirs : AreDirs t ds
  pub removed : t.removed ≡ s.removed
  pub server : t.server ≡ s.server
  pub keys : keys_of t.held ≡ keys_of s.held

pub all_pass : (st : State) (ds fs : List FileId) → AreDirs st.names ds → AllPass ds st.names (pass_all st ds fs).names
all_pass st ds [] dirs = record { was = λ q h. h; last = refl; dirs = dirs; removed = refl; server = refl; keys = refl }
all_pass st ds (f ∷ fs) dirs =
    let one = one_pass st ds f dirs in
    let more = all_pass (pass st ds f) ds fs one.dirs in
    record {
      was = λ q h. one.touches.was q (more.was q h);
      last = more.last ∙ one.last;
      dirs = more.dirs;
      removed = more.removed ∙ one.touches.removed;
      server = more.server ∙ one.touches.server;
      keys = more.keys ∙ one.touches.keys;
    }

pub all_passed : (st : State) (ds fs : List FileId) → AreDirs st.names ds → (g : FileId) → (is_among g fs ≡ true) ⊎ HasPassed st.names ds g → HasPassed (pass_all st ds fs).names ds g
all_passed st ds [] dirs g (inl among) = absurd (false≢true among)
all_passed st ds [] dirs g (inr k) = k
all_passed st ds (f ∷ fs) dirs g (inr k) =
    let one = one_pass st ds f dirs in
    all_passed (pass st ds f) ds fs one.dirs g (inr (passed_of f st.names (pass st ds f).names one.touches ds one.passed g (inr k)))
all_passed st ds (f ∷ fs) dirs g (inl among) =
    let one = one_pass st ds f dirs in
    elim (or_cases (is_same_file f g) (is_among g fs) among) [
      | inl same ↦ all_passed (pass st ds f) ds fs one.dirs g (inr (passed_of f st.names (pass st ds f).names one.touches ds one.passed g (inl same)))
      | inr later ↦ all_passed (pass st ds f) ds fs one.dirs g (inl later)
    ]
