-- Passing where one thing alone has not passed, and where only cells that are there change.
use Rattle.std.proofs.Common.{◌≡◌, Bool, true, false, if◌then◌else◌, List, [], ◌∷◌, Option, Some, refl, sym, ap, ◌∙◌, subst, inl, inr, ◌⊎◌}
use Rattle.std.proofs.lemmas.Bool.{false≢true, and_parts, or_left, or_right}
use Rattle.pg_base.specs.declared.id.FileId.{FileId}
use Rattle.pg_base.specs.Id.{is_same_file}
use Rattle.pg_base.proofs.Orders.{is_same_file-true, is_same_file-refl}
use Rattle.pg_msg.specs.declared.work.Work.{Work}
use Rattle.pg_entries.specs.declared.entry.Entry.{Entry}
use Rattle.pg_names.specs.declared.attributes.Attributes.{Attributes}
use Rattle.pg_names.specs.Names.{cell_at}
use Rattle.pg_names.proofs.Lookups.{apart_back, entry_other_dir, entry_same}
use Rattle.pg_house.specs.Work.{State}
use Rattle.pg_house.specs.Passing.{cell_for, differs, gets, given, is_cell, offered, pass, pass_all, spread, wants}
use Rattle.pg_house.specs.Facts.{is_among}
use Rattle.pg_house.proofs.Truths.{bool_cases, chosen, or_cases}
use Rattle.pg_house.proofs.Greatest.{cell_held, cell_is}

-- ---- one thing alone passes

all_stay : (st : State) (ds fs : List FileId) → ((g : FileId) → is_among g fs ≡ true → pass st ds g ≡ st) → pass_all st ds fs ≡ st
all_stay st ds [] stays = refl
all_stay st ds (f ∷ fs) stays =
    ap (λ (s : State). pass_all s ds fs) (stays f (or_left (is_same_file f f) _ (is_same_file-refl f)))
    ∙ all_stay st ds fs (λ g among. stays g (or_right (is_same_file f g) _ among))

module _ (st t : State) (ds : List FileId) (f : FileId) (passed : pass st ds f ≡ t) where
  pub only_one : (fs : List FileId) → ((g : FileId) → is_among g fs ≡ true → is_same_file f g ≡ false → pass st ds g ≡ st)
      → ((g : FileId) → is_among g fs ≡ true → pass t ds g ≡ t) → is_among f fs ≡ true → pass_all st ds fs ≡ t
  only_one [] others stays among = absurd (false≢true among)
  only_one (g ∷ gs) others stays among =
      let later = λ (h : FileId) (a : is_among h gs ≡ true). or_right (is_same_file g h) (is_among h gs) a in
      elim (bool_cases (is_same_file g f)) [
        | inl same ↦
            ap (λ (s : State). pass_all s ds gs) (ap (pass st ds) (is_same_file-true g f same) ∙ passed)
            ∙ all_stay t ds gs (λ h a. stays h (later h a))
        | inr apart ↦
            ap (λ (s : State). pass_all s ds gs) (others g (or_left (is_same_file g g) _ (is_same_file-refl g)) (apart_back g f apart))
            ∙ only_one gs (λ h a. others h (later h a)) (λ h a. stays h (later h a))
            (elim (or_cases (is_same_file g f) (is_among f gs) among) [
              | inl same ↦ absurd (false≢true (sym apart ∙ same))
              | inr more ↦ more
            ])
      ]

-- ---- only cells that are there change

-- a cell is as it was, or it was there and is the greatest
abbrev pub IsSpread : FileId → Attributes → Option Entry → Option Entry → Type 0
IsSpread f top before after = (after ≡ before) ⊎ ((old : Entry) × (before ≡ Some old) × (after ≡ Some (cell_for f top)))

spread_then : (f : FileId) (top : Attributes) (a b c : Option Entry) → IsSpread f top a b → IsSpread f top b c → IsSpread f top a c
spread_then f top a b c (inl e) (inl g) = inl (g ∙ e)
spread_then f top a b c (inl e) (inr k) = inr (k.0, sym e ∙ k.1, k.2)
spread_then f top a b c (inr k) (inl g) = inr (k.0, k.1, g ∙ k.2)
spread_then f top a b c (inr k) (inr l) = inr (k.0, k.1, l.2)

-- so it is there just where it was
was_cell : (f : FileId) (top : Attributes) (a b : Option Entry) → IsSpread f top a b → is_cell b ≡ true → is_cell a ≡ true
was_cell f top a b (inl e) h = ap is_cell (sym e) ∙ h
was_cell f top a b (inr k) h = ap is_cell k.1

still_cell : (f : FileId) (top : Attributes) (a b : Option Entry) → IsSpread f top a b → is_cell a ≡ true → is_cell b ≡ true
still_cell f top a b (inl e) h = ap is_cell e ∙ h
still_cell f top a b (inr k) h = ap is_cell k.2

-- all that was noted but the keys touched
abbrev pub OnlyTouches : Work → Work → Type 0
OnlyTouches v w = w ≡ record v { touched = w.touched }

touches_then : (u v w : Work) → OnlyTouches u v → OnlyTouches v w → OnlyTouches u w
touches_then u v w a b = b ∙ ap (λ (x : Work). let y : Work = record x { touched = w.touched } in y) a

module _ (f : FileId) (own top : Attributes) (back : Bool) where
  -- each directory that is to have a cell has one
  abbrev pub HaveCells : State → List FileId → Type 0
  HaveCells st ds = (q : FileId) → is_among q ds ≡ true → wants st.names f own top back q ≡ true → is_cell (cell_at st.names q f) ≡ true

  given_spread : (st : State) (d q : FileId) → wants st.names f own top back d ≡ true → (wants st.names f own top back d ≡ true → is_cell (cell_at st.names d f) ≡ true)
      → (is_same_file d q ≡ true) ⊎ (is_same_file d q ≡ false) → IsSpread f top (cell_at st.names q f) (cell_at (given st f top d).names q f)
  given_spread st d q w has (inr apart) = inl (entry_other_dir st.names d (cell_for f top) q f apart)
  given_spread st d q w has (inl same) =
      let c = cell_is (cell_at st.names d f) (has w) in
      let held = cell_held st.names d f c.0 c.1 in
      let P : FileId → Type 0 = λ r. IsSpread f top (cell_at st.names r f) (cell_at (given st f top d).names r f) in
      subst P (is_same_file-true d q same) (inr (c.0, c.1, entry_same st.names d held.0 (cell_for f top) held.1))

  offered_by : (st : State) (d q : FileId) → (wants st.names f own top back d ≡ true → is_cell (cell_at st.names d f) ≡ true)
      → (t : Bool) → gets st.names f own top back d ≡ t → IsSpread f top (cell_at st.names q f) (cell_at (if t then given st f top d else st).names q f)
  offered_by st d q has false e = inl refl
  offered_by st d q has true e =
      given_spread st d q (and_parts (wants st.names f own top back d) (differs (cell_at st.names d f) (cell_for f top)) e).0 has (bool_cases (is_same_file d q))

  offered_spread : (st : State) (d q : FileId) → (wants st.names f own top back d ≡ true → is_cell (cell_at st.names d f) ≡ true)
      → IsSpread f top (cell_at st.names q f) (cell_at (offered st f own top back d).names q f)
  offered_spread st d q has = offered_by st d q has (gets st.names f own top back d) refl

  pub spread_spreads : (st : State) (ds : List FileId) → HaveCells st ds → (q : FileId) → IsSpread f top (cell_at st.names q f) (cell_at (spread st f own top back ds).names q f)
  spread_spreads st [] has q = inl refl
  spread_spreads st (d ∷ ds) has q =
      let next = offered st f own top back d in
      let step = λ (r : FileId). offered_spread st d r (has d (or_left (is_same_file d d) _ (is_same_file-refl d))) in
      let more : HaveCells next ds = λ r among w.
      elim (or_cases (is_cell (cell_at next.names r f)) _ w) [
        | inl is ↦ is
        | inr other ↦ still_cell f top (cell_at st.names r f) (cell_at next.names r f) (step r)
            (has r (or_right (is_same_file d r) _ among) (or_right (is_cell (cell_at st.names r f)) _ other))
      ] in
      spread_then f top (cell_at st.names q f) (cell_at next.names q f) (cell_at (spread next f own top back ds).names q f) (step q) (spread_spreads next ds more q)

  pub spread_work : (st : State) (ds : List FileId) → OnlyTouches st.work (spread st f own top back ds).work
  spread_work st [] = refl
  spread_work st (d ∷ ds) =
      let next = offered st f own top back d in
      touches_then st.work next.work (spread next f own top back ds).work
      (chosen (λ (s : State). OnlyTouches st.work s.work) (gets st.names f own top back d) (given st f top d) st refl refl)
      (spread_work next ds)
