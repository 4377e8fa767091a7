-- What passing leaves of each thing, from what was known of it before any thing passed.
use Rattle.std.proofs.Common.{◌≡◌, ◌&&◌, ◌||◌, Bool, true, false, cond, List, [], ◌∷◌, Option, Some, refl, sym, ap, subst, ◌∙◌, inl, inr}
use Rattle.std.specs.Map.{keys_of}
use Rattle.std.proofs.lemmas.Bool.{false≢true, and_parts, or_left, or_right}
use Rattle.pg_run.specs.pg_base.declared.id.FileId.{FileId}
use Rattle.pg_run.specs.pg_base.Id.{is_same_file}
use Rattle.pg_run.proofs.pg_base.Orders.{is_same_file-refl, is_same_file-true}
use Rattle.pg_run.specs.pg_entries.declared.entry.Entry.{Entry}
use Rattle.pg_run.specs.pg_names.declared.attributes.Attributes.{Attributes}
use Rattle.pg_run.specs.pg_names.Names.{NamesValue, cell_at, own_at, own_of}
use Rattle.pg_run.specs.pg_house.Work.{State}
use Rattle.pg_run.specs.pg_house.Passing.{cell_for, gets, given, greatest, is_cell, is_held_back, is_in, is_update, offered, own_taken, pass, pass_all, pass_own, passed, spread, wants}
use Rattle.pg_run.specs.pg_house.Facts.{HasPassed, IsHeld, is_among}
use Rattle.pg_run.proofs.pg_house.AfterPassing.{AreDirs, after_all, after_among, after_gives, after_own}
use Rattle.pg_run.proofs.pg_house.Ends.{key_of_held}
use Rattle.pg_run.proofs.pg_house.Idle.{AreHeld, pass_idle}
use Rattle.pg_run.proofs.pg_house.Passes.{one_pass}
use Rattle.pg_run.proofs.pg_house.Settling.{key_found}
use Rattle.pg_run.proofs.pg_house.Spreading.{offered_dir}
use Rattle.pg_run.proofs.pg_house.Taking.{taking_cell}
use Rattle.pg_run.proofs.pg_house.Touches.{Touches, passed_of, same_greatest}
use Rattle.pg_run.proofs.pg_house.Truths.{bool_cases, or_cases}
use Rattle.pg_run.proofs.pg_house.Greatest.{cell_is}

-- ---- a cell that a directory has then was wanted

module _ (f : FileId) (own top : Attributes) (back : Bool) where
  -- what it is wanted for, but that there is one
  abbrev pub Rest : FileId → Bool
  Rest q = (is_update top.place && is_in q top.place) || (back && (own.place.live && is_in q own.place))

  wanted_cell : (s : NamesValue) (q : FileId) (c : Entry) → cell_at s q f ≡ Some c → wants s f own top back q ≡ true
  wanted_cell s q c h = or_left (is_cell (cell_at s q f)) (Rest q) (ap is_cell h)

  given_wants : (st : State) (d q : FileId) (c : Entry) (t : Bool) → is_same_file d q ≡ t → gets st.names f own top back d ≡ true → cell_at (offered st f own top back d).names q f ≡ Some c → wants st.names f own top back q ≡ true
  given_wants st d q c true same g h = let P : FileId → Type 0 = λ x. wants st.names f own top back x ≡ true in subst P (is_same_file-true d q same) (and_parts (wants st.names f own top back d) _ g).0
  given_wants st d q c false apart g h = wanted_cell st.names q c (sym (offered_dir st f own top back d q f apart) ∙ h)

  not_given : (st : State) (d q : FileId) (c : Entry) (t : Bool) → gets st.names f own top back d ≡ t → t ≡ false → cell_at (cond t (given st f top d) st).names q f ≡ Some c → wants st.names f own top back q ≡ true
  not_given st d q c true e fails h = absurd (false≢true (sym fails))
  not_given st d q c false e fails h = wanted_cell st.names q c h

  offered_wants : (st : State) (d q : FileId) (c : Entry) → cell_at (offered st f own top back d).names q f ≡ Some c → wants st.names f own top back q ≡ true
  offered_wants st d q c h = elim (bool_cases (gets st.names f own top back d)) [
    | inl g ↦ given_wants st d q c (is_same_file d q) refl g h
    | inr other ↦ not_given st d q c (gets st.names f own top back d) refl other h
  ]

  spread_wants : (st : State) (ds : List FileId) (q : FileId) (c : Entry) → cell_at (spread st f own top back ds).names q f ≡ Some c → wants st.names f own top back q ≡ true
  spread_wants st [] q c h = wanted_cell st.names q c h
  spread_wants st (d ∷ ds) q c h =
      let next = offered st f own top back d in
      elim (or_cases (is_cell (cell_at next.names q f)) (Rest q) (spread_wants next ds q c h)) [
        | inl is ↦ (let e = cell_is (cell_at next.names q f) is in offered_wants st d q e.0 e.1)
        | inr rest ↦ or_right (is_cell (cell_at st.names q f)) (Rest q) rest
      ]

-- ---- what comes of a thing

-- the thing has what it takes, each held directory that is to have a cell has the greatest, and no
-- other has one
pub record ComesTo (s t : NamesValue) (ds : List FileId) (f : FileId) (own top : Attributes) (back : Bool) : Type 0 where
  pub own_is : own_at t f ≡ Some (own_taken own top back)
  pub gives : (q : FileId) → IsHeld s q → is_among q ds ≡ true → wants s f own top back q ≡ true → cell_at t q f ≡ Some (cell_for f top)
  pub same : (q : FileId) (c : Entry) → cell_at t q f ≡ Some c → c ≡ cell_for f top
  pub wanted : (q : FileId) (c : Entry) → cell_at t q f ≡ Some c → wants s f own top back q ≡ true
  pub among : (q : FileId) (c : Entry) → cell_at t q f ≡ Some c → is_among q ds ≡ true

abbrev pub Comes : NamesValue → NamesValue → List FileId → FileId → Attributes → Type 0
Comes s t ds f own =
    ComesTo s t ds f own (greatest s f own ds) (is_held_back s.removed f own (greatest s f own ds))

-- ---- one pass

module _ (st : State) (ds : List FileId) (f : FileId) (own : Attributes) (dirs : AreDirs st.names ds) (held : own_at st.names f ≡ Some own) where
  abbrev Top : Attributes
  Top = greatest st.names f own ds

  comes_by : (back : Bool) → ComesTo st.names (passed st ds f own Top back).names ds f own Top back
  comes_by back = record {
    own_is = after_own st ds f own Top back held;
    gives = λ q h among w. after_gives st ds f own Top back q h.0 h.1 among w;
    same = λ q c h. after_all st ds f own Top back dirs q c h;
    wanted = λ q c h. spread_wants f own Top back st ds q c (sym (taking_cell (spread st f own Top back ds) f own (own_taken own Top back) q f) ∙ h);
    among = λ q c h. after_among st ds f own Top back dirs q f c true (is_same_file-refl f) h;
  }

  pub one_comes : Comes st.names (pass st ds f).names ds f own
  one_comes =
      let P : Option Attributes → Type 0 = λ o. Comes st.names (pass_own st ds f o).names ds f own in
      subst P (sym held) (comes_by (is_held_back st.names.removed f own Top))

-- ---- where nothing of the thing changes behind it, or before it

pub comes_on : (s t u : NamesValue) (ds : List FileId) (f : FileId) (own top : Attributes) (back : Bool) → own_at u f ≡ own_at t f → ((q : FileId) → cell_at u q f ≡ cell_at t q f) → ComesTo s t ds f own top back → ComesTo s u ds f own top back
comes_on s t u ds f own top back mine cells k = record {
  own_is = mine ∙ k.own_is;
  gives = λ q h among w. cells q ∙ k.gives q h among w;
  same = λ q c h. k.same q c (sym (cells q) ∙ h);
  wanted = λ q c h. k.wanted q c (sym (cells q) ∙ h);
  among = λ q c h. k.among q c (sym (cells q) ∙ h);
}

pub held_by_keys : (s t : NamesValue) → keys_of t.held ≡ keys_of s.held → (q : FileId) → IsHeld s q → IsHeld t q
held_by_keys s t e q h = let x = key_found q t.held (ap (is_among q) e ∙ key_of_held s q h.0 h.1) in (x.0.own, ap own_of x.1)

module _ (f : FileId) (s t u : NamesValue) (m : Touches f s t) (g : FileId) (apart : is_same_file f g ≡ false) (own : Attributes) (ds : List FileId) where
  same_wants : (top : Attributes) (back : Bool) (q : FileId) → wants t g own top back q ≡ wants s g own top back q
  same_wants top back q = ap (λ o. is_cell o || Rest g own top back q) (m.cells q g apart)

  came_by : (top : Attributes) (back : Bool) → ComesTo t u ds g own top back → ComesTo s u ds g own top back
  came_by top back k = record {
    own_is = k.own_is;
    gives = λ q h among w. k.gives q (held_by_keys s t m.keys q h) among (same_wants top back q ∙ w);
    same = k.same;
    wanted = λ q c h. sym (same_wants top back q) ∙ k.wanted q c h;
    among = k.among;
  }

  pub came_before : Comes t u ds g own → Comes s u ds g own
  came_before k =
      let P : Attributes → Type 0 = λ top. ComesTo t u ds g own top (is_held_back t.removed g own top) in
      let a : ComesTo t u ds g own (greatest s g own ds) (is_held_back t.removed g own (greatest s g own ds)) = subst P (same_greatest f s t m g apart own ds) k in
      let b : ComesTo t u ds g own (greatest s g own ds) (is_held_back s.removed g own (greatest s g own ds)) =
      subst (λ r. ComesTo t u ds g own (greatest s g own ds) (is_held_back r g own (greatest s g own ds))) m.removed a in
      came_by (greatest s g own ds) (is_held_back s.removed g own (greatest s g own ds)) b

-- ---- all passes

-- of a thing all is as it was
pub record IsStill (s t : NamesValue) (f : FileId) : Type 0 where
  pub own : own_at t f ≡ own_at s f
  pub cells : (q : FileId) → cell_at t q f ≡ cell_at s q f

pub IsStill-trans : (s t u : NamesValue) (f : FileId) → IsStill s t f → IsStill t u f → IsStill s u f
IsStill-trans s t u f a b = record { own = b.own ∙ a.own; cells = λ q. b.cells q ∙ a.cells q }

still_apart : (f : FileId) (s t : NamesValue) → Touches f s t → (g : FileId) → is_same_file f g ≡ false → IsStill s t g
still_apart f s t m g apart = record { own = m.own g apart; cells = λ q. m.cells q g apart }

pub pass_held : (st : State) (ds : List FileId) (f : FileId) → AreDirs st.names ds → AreHeld st.names ds → AreHeld (pass st ds f).names ds
pass_held st ds f dirs held q among = let d = held q among in (held_by_keys st.names (pass st ds f).names (one_pass st ds f dirs).touches.keys q d.0, d.1)

-- a thing that has passed stays as it is
module _ (ds : List FileId) (g : FileId) where
  passed_still : (st : State) (fs : List FileId) → AreDirs st.names ds → AreHeld st.names ds → HasPassed st.names ds g → IsStill st.names (pass_all st ds fs).names g
  passed_still st [] dirs held k = record { own = refl; cells = λ q. refl }
  passed_still st (f ∷ fs) dirs held k =
      let one = one_pass st ds f dirs in
      let next = pass st ds f in
      elim (bool_cases (is_same_file f g)) [
        | inl same ↦ (
            let P : State → Type 0 = λ x. IsStill st.names (pass_all x ds fs).names g in
            let idle : HasPassed st.names ds f = subst (HasPassed st.names ds) (sym (is_same_file-true f g same)) k in
            subst P (sym (pass_idle st ds f held idle)) (passed_still st fs dirs held k))
        | inr apart ↦
            IsStill-trans st.names next.names (pass_all next ds fs).names g (still_apart f st.names next.names one.touches g apart)
            (passed_still next fs one.dirs (pass_held st ds f dirs held) (passed_of f st.names next.names one.touches ds one.passed g (inr k)))
      ]

  -- and so does one that is not among those that pass
  pub others_still : (st : State) (fs : List FileId) → AreDirs st.names ds → is_among g fs ≡ false → IsStill st.names (pass_all st ds fs).names g
  others_still st [] dirs h = record { own = refl; cells = λ q. refl }
  others_still st (f ∷ fs) dirs h =
      let one = one_pass st ds f dirs in
      let next = pass st ds f in
      elim (bool_cases (is_same_file f g)) [
        | inl same ↦ absurd (false≢true (sym h ∙ or_left (is_same_file f g) (is_among g fs) same))
        | inr apart ↦
            IsStill-trans st.names next.names (pass_all next ds fs).names g (still_apart f st.names next.names one.touches g apart)
            (others_still next fs one.dirs (sym (ap (λ t. t || is_among g fs) apart) ∙ h))
      ]

  pub all_come : (st : State) (fs : List FileId) (own : Attributes) → AreDirs st.names ds → AreHeld st.names ds → own_at st.names g ≡ Some own → is_among g fs ≡ true → Comes st.names (pass_all st ds fs).names ds g own
  all_come st [] own dirs held h among = absurd (false≢true among)
  all_come st (f ∷ fs) own dirs held h among =
      let one = one_pass st ds f dirs in
      let next = pass st ds f in
      let last = (pass_all next ds fs).names in
      elim (bool_cases (is_same_file f g)) [
        | inl same ↦ (
            let e = is_same_file-true f g same in
            let P : FileId → Type 0 = λ x. Comes st.names (pass_all (pass st ds x) ds fs).names ds g own in
            let mine = pass st ds g in
            let still = passed_still mine fs (one_pass st ds g dirs).dirs (pass_held st ds g dirs held) (one_pass st ds g dirs).passed in
            subst P (sym e) (comes_on st.names mine.names (pass_all mine ds fs).names ds g own _ _ still.own still.cells (one_comes st ds g own dirs h)))
        | inr apart ↦
            came_before f st.names next.names last one.touches g apart own ds
            (all_come next fs own one.dirs (pass_held st ds f dirs held) (one.touches.own g apart ∙ h) (sym (ap (λ t. t || is_among g fs) apart) ∙ among))
      ]
