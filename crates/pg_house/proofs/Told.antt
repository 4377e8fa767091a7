-- Every cell that the house rules change is among the keys touched.
use Rattle.std.proofs.Common.{◌≡◌, ℕ, zero, suc, List, length, Option, None, Some, refl, ap, ◌∙◌, inl, inr, ◌⊎◌, true, false, subst}
use Rattle.pg_base.specs.declared.id.FileId.{FileId}
use Rattle.pg_base.specs.Id.{is_same_file}
use Rattle.pg_base.proofs.Orders.{is_same_file-true}
use Rattle.pg_register.specs.declared.place.Place.{Place}
use Rattle.pg_register.specs.Flag.{flag_of}
use Rattle.pg_register.specs.Place.{root, tilde_name}
use Rattle.pg_edges.specs.declared.key.Key.TheVariants as key
use Rattle.pg_msg.specs.declared.update.Update.TheVariants as update
use Rattle.pg_msg.specs.declared.work.Work.{Work}
use Rattle.pg_msg.specs.Work.{with_made, with_touched}
use Rattle.pg_names.specs.declared.attributes.Attributes.{Attributes}
use Rattle.pg_names.specs.Names.{NamesValue, directories, own_at, with_last, with_own, or_blank, own_or_blank}
use Rattle.pg_names.proofs.Lookups.{known_absent, own_cell, own_other, own_same}
use Rattle.pg_house.specs.Work.{State}
use Rattle.pg_house.specs.Passing.{pass, pass_all}
use Rattle.pg_house.specs.Placing.{drawn, flags_of, live_place, made_at, own_with, place_at, placed, repeated}
use Rattle.pg_house.specs.Returning.{first_returning, return_first, returned}
use Rattle.pg_house.specs.Cycles.{break_first, first_moving, moved}
use Rattle.pg_house.specs.House.{house, movable}
use Rattle.pg_house.specs.Facts.{IsTold, IsTouched}
use Rattle.pg_house.proofs.Truths.{bool_cases}
use Rattle.pg_house.proofs.Telling.{Tells, Tells-refl, Tells-trans, all_tells, in_front, in_last, left_stays, pass_tells}

-- ---- a place is made

module _ (st : State) (f : FileId) (place : Place) where
  abbrev Made : State
  Made = made_at st f place

  abbrev Late : NamesValue
  Late = with_last st.names place.stamp.time

  -- what was made, before the old place is noted
  abbrev Noted : Work
  Noted = with_touched (with_made st.work (update.Place f place)) f key.Place

  abbrev Mine : Attributes
  Mine = own_with st.names f place

  flags_by : (o : Option Attributes) (n : ℕ) → own_at st.names f ≡ o → flag_of (or_blank f (own_at Made.names f)).flags n ≡ flag_of (or_blank f o).flags n
  flags_by None n h = ap (λ (s : NamesValue). flag_of (or_blank f (own_at s f)).flags n) (known_absent Late f (with_own Mine) h) ∙ ap (λ (o : Option Attributes). flag_of (or_blank f o).flags n) h
  flags_by (Some own) n h =
      ap (λ (o : Option Attributes). flag_of (or_blank f o).flags n) (own_same Late f own Mine h) ∙ ap (λ (o : Option Attributes). flag_of (flags_of o) n) h

  place_at_one : (q : FileId) → (is_same_file f q ≡ true) ⊎ (is_same_file f q ≡ false) → ((own_or_blank Made.names q).place ≡ (own_or_blank st.names q).place) ⊎ IsTouched Made.work q key.Place
  place_at_one q (inr apart) = inl (ap (λ (o : Option Attributes). (or_blank q o).place) (own_other Late f Mine q apart))
  place_at_one q (inl same) = inr (subst (λ (x : FileId). IsTouched Made.work x key.Place) (is_same_file-true f q same) (left_stays Noted f (place_at st.names f) _ (in_last (record { file = f; key = key.Place }) st.work.touched)))

  flags_at_one : (q : FileId) (n : ℕ) → (is_same_file f q ≡ true) ⊎ (is_same_file f q ≡ false) → flag_of (own_or_blank Made.names q).flags n ≡ flag_of (own_or_blank st.names q).flags n
  flags_at_one q n (inr apart) = ap (λ (o : Option Attributes). flag_of (or_blank q o).flags n) (own_other Late f Mine q apart)
  flags_at_one q n (inl same) =
      subst (λ (x : FileId). flag_of (own_or_blank Made.names x).flags n ≡ flag_of (own_or_blank st.names x).flags n) (is_same_file-true f q same) (flags_by (own_at st.names f) n refl)

  made_tells : Tells st Made
  made_tells = record {
    told = record {
      cells = λ q g. inl (own_cell Late f Mine q g);
      places = λ q. place_at_one q (bool_cases (is_same_file f q));
      flags = λ q n. inl (flags_at_one q n (bool_cases (is_same_file f q)));
    };
    stays = λ x h. left_stays Noted f (place_at st.names f) x (in_front x st.work.touched _ h);
  }

placed_tells : (moment : ℕ) (ds : List FileId) (st : State) (f p : FileId) (name : List ℕ) → Tells st (placed moment ds st f p name)
placed_tells moment ds st f p name =
    let made = made_at st f (live_place (drawn moment st.names) p name) in
    Tells-trans st made (pass made ds f) (made_tells st f (live_place (drawn moment st.names) p name)) (pass_tells made ds f)

returned_tells : (moment : ℕ) (ds : List FileId) (st : State) (o : Option FileId) → Tells st (returned moment ds st o)
returned_tells moment ds st None = Tells-refl st
returned_tells moment ds st (Some d) = placed_tells moment ds st d (place_at st.names d).parent (place_at st.names d).name

moved_tells : (moment : ℕ) (ds : List FileId) (st : State) (o : Option FileId) → Tells st (moved moment ds st o)
moved_tells moment ds st None = Tells-refl st
moved_tells moment ds st (Some d) = placed_tells moment ds st d root (tilde_name d)

repeated_tells : (step : State → State) → ((st : State) → Tells st (step st)) → (n : ℕ) (st : State) → Tells st (repeated n step st)
repeated_tells step each zero st = Tells-refl st
repeated_tells step each (suc n) st = Tells-trans st (step st) (repeated n step (step st)) (each st) (repeated_tells step each n (step st))

pub house_tells : (moment : ℕ) (st : State) → Tells st (house moment st)
house_tells moment st =
    let ds = directories st.names in
    let one = pass_all st ds (movable st.names) in
    let two = repeated (length ds) (return_first moment ds) one in
    Tells-trans st one (house moment st) (all_tells st ds (movable st.names))
    (Tells-trans one two (house moment st)
    (repeated_tells (return_first moment ds) (λ t. returned_tells moment ds t (first_returning t.names ds)) (length ds) one)
    (repeated_tells (break_first moment ds) (λ t. moved_tells moment ds t (first_moving t.names (length ds) None ds)) (length ds) two))

-- every cell is as it was before the rules, or it is touched
pub told : (moment : ℕ) (st : State) → IsTold st.names (house moment st).names (house moment st).work
told moment st = (house_tells moment st).told
