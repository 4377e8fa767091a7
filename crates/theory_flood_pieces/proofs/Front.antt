-- What was touched before the house rules run stays in front, and makes no difference to them; nor
-- does what was sent.
use Rattle.std.proofs.Common.{ℕ, zero, suc, ◌≡◌, Bool, true, false, ◌&&◌, cond, not, List, [], ◌∷◌, ◌++◌, drop, length, Option, None, Some, refl, sym, ap, subst, ◌∙◌}
use Rattle.std.proofs.lemmas.List.{append-nil, append_assoc}
use Rattle.std.proofs.Math.Seq.{drop-append_seam}
use Rattle.pg_base.specs.declared.id.FileId.{FileId}
use Rattle.pg_edges.specs.declared.key.Key.{Key}
use Rattle.pg_edges.specs.declared.key.Key.TheVariants as key
use Rattle.pg_register.specs.declared.flag.Flag.{Flag}
use Rattle.pg_register.specs.declared.place.Place.{Place}
use Rattle.pg_register.specs.Flag.{flag_of}
use Rattle.pg_register.specs.Place.{root, tilde_name}
use Rattle.pg_cells.specs.pg_msg.declared.work.Touched.{Touched}
use Rattle.pg_cells.specs.pg_msg.declared.update.Update.TheVariants as update
use Rattle.pg_cells.specs.pg_msg.declared.work.Work.{Work}
use Rattle.pg_cells.specs.pg_msg.Work.{with_left, with_made, with_touched}
use Rattle.pg_cells.specs.pg_names.declared.attributes.Attributes.{Attributes}
use Rattle.pg_cells.specs.pg_names.Names.{NamesValue, directories, own_at, set_entry, set_own}
use Rattle.pg_cells.specs.pg_names.Same.{is_same_own, is_same_place}
use Rattle.pg_cells.specs.pg_house.Work.{State, is_root, note_left, place_touched, state_of, touched}
use Rattle.pg_cells.specs.pg_house.Passing.{cell_for, flags_touched, gets, given, greatest, is_held_back, is_other_flag, offered, own_taken, own_touched, pass, pass_all, pass_own, spread, taking, took}
use Rattle.pg_cells.specs.pg_house.Placing.{drawn, live_place, made_at, place_at, placed, repeated}
use Rattle.pg_cells.specs.pg_house.Returning.{first_returning, return_first, returned}
use Rattle.pg_cells.specs.pg_house.Cycles.{break_first, first_moving, moved}
use Rattle.pg_cells.specs.pg_house.House.{house, movable}
use Rattle.pg_cells.specs.pg_house.Facts.{IsTold}
use Rattle.pg_cells.proofs.pg_house.Told.{told}
use Rattle.theory_flood_pieces.specs.Names.{IsToldBy}

-- what an event leaves of the work, but for what was made, touched and replaced
pub record KeepsWork (v w : Work) : Type 0 where
  pub now : w.now ≡ v.now
  pub from : w.from ≡ v.from
  pub sent : w.sent ≡ v.sent
  pub linked : w.linked ≡ v.linked
  pub unsure : w.unsure ≡ v.unsure
  pub begun : w.begun ≡ v.begun
  pub tail : w.tail ≡ v.tail

-- what the rules change of a second work, and of the first all the rest
abbrev pub with_lists : Work → Work → List Touched → Work
with_lists v w ts = record v { made = w.made; left = w.left; touched = ts }

module _ (p : List Touched) (v : Work) where
  -- these keys stand in front, and what the rules do not change is of this work
  abbrev work_behind : Work → Work
  work_behind w = with_lists v w (p ++ w.touched)

  abbrev behind : State → State
  behind st = state_of st.names (work_behind st.work)

  -- ---- passing

  touched_by : (w : Work) (f : FileId) (k : Key) (t : Bool) → touched (work_behind w) f k t ≡ work_behind (touched w f k t)
  touched_by w f k true = ap (with_lists v w) (append_assoc p w.touched (record { file = f; key = k } ∷ []))
  touched_by w f k false = refl

  left_if : (t : Bool) (w : Work) (d f : FileId) → cond t (with_left (work_behind w) d f) (work_behind w) ≡ work_behind (cond t (with_left w d f) w)
  left_if true w d f = refl
  left_if false w d f = refl

  left_behind : (w : Work) (f : FileId) (old : Place) → note_left (work_behind w) f old ≡ work_behind (note_left w f old)
  left_behind w f old = left_if (old.live && not (is_root f)) w old.parent f

  place_by : (w : Work) (f : FileId) (old : Place) (t : Bool) → place_touched (work_behind w) f old t ≡ work_behind (place_touched w f old t)
  place_by w f old true = ap (λ u. note_left u f old) (touched_by w f key.Place true) ∙ left_behind (with_touched w f key.Place) f old
  place_by w f old false = refl

  flags_behind : (w : Work) (f : FileId) (held gs : List Flag) → flags_touched (work_behind w) f held gs ≡ work_behind (flags_touched w f held gs)
  flags_behind w f held [] = refl
  flags_behind w f held (g ∷ gs) =
      let t = is_other_flag (flag_of held g.server) g in
      ap (λ u. flags_touched u f held gs) (touched_by w f (key.Flag g.server) t) ∙ flags_behind (touched w f (key.Flag g.server) t) f held gs

  own_behind : (w : Work) (f : FileId) (own taken : Attributes) → own_touched (work_behind w) f own taken ≡ work_behind (own_touched w f own taken)
  own_behind w f own taken =
      let t = not (is_same_place own.place taken.place) in
      ap (λ u. flags_touched u f own.flags taken.flags) (place_by w f own.place t) ∙ flags_behind (place_touched w f own.place t) f own.flags taken.flags

  given_behind : (st : State) (f : FileId) (top : Attributes) (d : FileId) → given (behind st) f top d ≡ behind (given st f top d)
  given_behind st f top d = ap (state_of (set_entry st.names d (cell_for f top))) (touched_by st.work d (key.Entry f) true)

  choice_behind : (t : Bool) (a b c d : State) → a ≡ behind c → b ≡ behind d → cond t a b ≡ behind (cond t c d)
  choice_behind true a b c d h k = h
  choice_behind false a b c d h k = k

  spread_behind : (st : State) (f : FileId) (own top : Attributes) (back : Bool) (ds : List FileId) → spread (behind st) f own top back ds ≡ behind (spread st f own top back ds)
  spread_behind st f own top back [] = refl
  spread_behind st f own top back (d ∷ ds) =
      ap (λ s. spread s f own top back ds) (choice_behind (gets st.names f own top back d) (given (behind st) f top d) (behind st) (given st f top d) st (given_behind st f top d) refl)
      ∙ spread_behind (offered st f own top back d) f own top back ds

  took_behind : (st : State) (f : FileId) (own taken : Attributes) → took (behind st) f own taken ≡ behind (took st f own taken)
  took_behind st f own taken = ap (state_of (set_own st.names f taken)) (own_behind st.work f own taken)

  taking_behind : (st : State) (f : FileId) (own taken : Attributes) → taking (behind st) f own taken ≡ behind (taking st f own taken)
  taking_behind st f own taken = choice_behind (is_same_own own taken) (behind st) (took (behind st) f own taken) st (took st f own taken) refl (took_behind st f own taken)

  pass_own_behind : (st : State) (ds : List FileId) (f : FileId) (o : Option Attributes) → pass_own (behind st) ds f o ≡ behind (pass_own st ds f o)
  pass_own_behind st ds f None = refl
  pass_own_behind st ds f (Some own) =
      let top = greatest st.names f own ds in
      let back = is_held_back st.names.removed f own top in
      ap (λ s. taking s f own (own_taken own top back)) (spread_behind st f own top back ds) ∙ taking_behind (spread st f own top back ds) f own (own_taken own top back)

  pass_behind : (st : State) (ds : List FileId) (f : FileId) → pass (behind st) ds f ≡ behind (pass st ds f)
  pass_behind st ds f = pass_own_behind st ds f (own_at st.names f)

  all_behind : (st : State) (ds fs : List FileId) → pass_all (behind st) ds fs ≡ behind (pass_all st ds fs)
  all_behind st ds [] = refl
  all_behind st ds (f ∷ fs) = ap (λ s. pass_all s ds fs) (pass_behind st ds f) ∙ all_behind (pass st ds f) ds fs

  -- ---- new places

  made_behind : (st : State) (f : FileId) (place : Place) → made_at (behind st) f place ≡ behind (made_at st f place)
  made_behind st f place =
      let work = with_made st.work (update.Place f place) in
      let old = place_at st.names f in
      ap (state_of (made_at st f place).names)
      (ap (λ u. note_left u f old) (touched_by work f key.Place true) ∙ left_behind (with_touched work f key.Place) f old)

  placed_behind : (moment : ℕ) (ds : List FileId) (st : State) (f q : FileId) (name : List ℕ) → placed moment ds (behind st) f q name ≡ behind (placed moment ds st f q name)
  placed_behind moment ds st f q name =
      let place = live_place (drawn moment st.names) q name in
      ap (λ s. pass s ds f) (made_behind st f place) ∙ pass_behind (made_at st f place) ds f

  returned_behind : (moment : ℕ) (ds : List FileId) (st : State) (o : Option FileId) → returned moment ds (behind st) o ≡ behind (returned moment ds st o)
  returned_behind moment ds st None = refl
  returned_behind moment ds st (Some d) = placed_behind moment ds st d (place_at st.names d).parent (place_at st.names d).name

  moved_behind : (moment : ℕ) (ds : List FileId) (st : State) (o : Option FileId) → moved moment ds (behind st) o ≡ behind (moved moment ds st o)
  moved_behind moment ds st None = refl
  moved_behind moment ds st (Some d) = placed_behind moment ds st d root (tilde_name d)

  repeated_behind : (step : State → State) → ((st : State) → step (behind st) ≡ behind (step st)) → (n : ℕ) (st : State) → repeated n step (behind st) ≡ behind (repeated n step st)
  repeated_behind step each zero st = refl
  repeated_behind step each (suc n) st = ap (repeated n step) (each st) ∙ repeated_behind step each n (step st)

  pub house_behind : (moment : ℕ) (st : State) → house moment (behind st) ≡ behind (house moment st)
  house_behind moment st =
      let ds = directories st.names in
      let one = pass_all st ds (movable st.names) in
      let two = repeated (length ds) (return_first moment ds) one in
      ap (λ s. repeated (length ds) (break_first moment ds) (repeated (length ds) (return_first moment ds) s)) (all_behind st ds (movable st.names))
      ∙ ap (repeated (length ds) (break_first moment ds)) (repeated_behind (return_first moment ds) (λ t. returned_behind moment ds t (first_returning t.names ds)) (length ds) one)
      ∙ repeated_behind (break_first moment ds) (λ t. moved_behind moment ds t (first_moving t.names (length ds) None ds)) (length ds) two

-- ---- what the rules touch tells of all that they change

module _ (moment : ℕ) (names : NamesValue) (work : Work) where
  abbrev pub Alone : State
  Alone = house moment (state_of names (with_lists work work []))

  starts : state_of names work ≡ behind work.touched work (state_of names (with_lists work work []))
  starts = ap (λ ts. state_of names (with_lists work work ts)) (sym (append-nil work.touched))

  pub ends : house moment (state_of names work) ≡ behind work.touched work Alone
  ends = ap (house moment) starts ∙ house_behind work.touched work moment (state_of names (with_lists work work []))

  pub new_keys : drop (length work.touched) (house moment (state_of names work)).work.touched ≡ Alone.work.touched
  new_keys = ap (λ (s : State). drop (length work.touched) s.work.touched) ends ∙ drop-append_seam work.touched Alone.work.touched

  pub house_told : IsToldBy (drop (length work.touched) (house moment (state_of names work)).work.touched) names (house moment (state_of names work)).names
  house_told =
      let all : IsTold names Alone.names Alone.work = told moment (state_of names (with_lists work work [])) in
      let P : List Touched → Type 0 = λ ts. IsToldBy ts names (house moment (state_of names work)).names in
      let Q : State → Type 0 = λ s. IsToldBy Alone.work.touched names s.names in
      subst P (sym new_keys) (subst Q (sym ends) (record { places = all.places; flags = all.flags; entries = all.cells }))

  -- and they change no other part of the work
  pub house_work : KeepsWork work (house moment (state_of names work)).work
  house_work = record {
    now = ap (λ (s : State). s.work.now) ends;
    from = ap (λ (s : State). s.work.from) ends;
    sent = ap (λ (s : State). s.work.sent) ends;
    linked = ap (λ (s : State). s.work.linked) ends;
    unsure = ap (λ (s : State). s.work.unsure) ends;
    begun = ap (λ (s : State). s.work.begun) ends;
    tail = ap (λ (s : State). s.work.tail) ends;
  }

  -- so they send nothing
  pub house_sent : (house moment (state_of names work)).work.sent ≡ work.sent
  house_sent = house_work.sent

  pub house_tail : (house moment (state_of names work)).work.tail ≡ work.tail
  house_tail = house_work.tail
