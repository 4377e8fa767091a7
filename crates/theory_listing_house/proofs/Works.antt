-- What the house rules leave of the work of an event: all but what they touch, make and note as
-- left.
use Rattle.std.proofs.Common.{◌≡◌, ℕ, zero, suc, Bool, ◌&&◌, not, List, [], ◌∷◌, length, Option, None, Some, refl, ◌∙◌}
use Rattle.pg_base.specs.declared.id.FileId.{FileId}
use Rattle.pg_edges.specs.declared.key.Key.{Key}
use Rattle.pg_edges.specs.declared.key.Key.TheVariants as key
use Rattle.pg_house.specs.Cycles.{break_first, first_moving, moved}
use Rattle.pg_house.specs.House.{house, movable}
use Rattle.pg_house.specs.Passing.{flags_touched, gets, given, greatest, is_held_back, is_other_flag, offered, own_taken, pass, pass_all, pass_own, spread, taking, took}
use Rattle.pg_house.specs.Placing.{drawn, live_place, made_at, place_at, placed, repeated}
use Rattle.pg_house.specs.Returning.{first_returning, return_first, returned}
use Rattle.pg_house.specs.Work.{State, is_root, note_left, place_touched, touched}
use Rattle.pg_house.proofs.Truths.{chosen}
use Rattle.pg_msg.specs.declared.update.Update.{Update}
use Rattle.pg_msg.specs.declared.update.Update.TheVariants as update
use Rattle.pg_msg.specs.declared.work.Work.{Work}
use Rattle.pg_msg.specs.Work.{with_left, with_made, with_touched}
use Rattle.pg_names.specs.declared.attributes.Attributes.{Attributes}
use Rattle.pg_names.specs.Names.{directories, own_at}
use Rattle.pg_names.specs.Same.{is_same_own, is_same_place}
use Rattle.pg_register.specs.declared.flag.Flag.{Flag}
use Rattle.pg_register.specs.declared.place.Place.{Place}
use Rattle.pg_register.specs.Flag.{flag_of}
use Rattle.pg_register.specs.Place.{root, tilde_name}

module _ {A : Type 0} (see : Work → A) (touches : (w : Work) (f : FileId) (k : Key) → see (with_touched w f k) ≡ see w) (makes : (w : Work) (u : Update) → see (with_made w u) ≡ see w)
    (leaves : (w : Work) (d c : FileId) → see (with_left w d c) ≡ see w) where
  touched_see : (w : Work) (f : FileId) (k : Key) (t : Bool) → see (touched w f k t) ≡ see w
  touched_see w f k t = chosen (λ (v : Work). see v ≡ see w) t (with_touched w f k) w (touches w f k) refl

  left_see : (w : Work) (f : FileId) (old : Place) → see (note_left w f old) ≡ see w
  left_see w f old = chosen (λ (v : Work). see v ≡ see w) (old.live && not (is_root f)) (with_left w old.parent f) w (leaves w old.parent f) refl

  place_see : (w : Work) (f : FileId) (old : Place) (t : Bool) → see (place_touched w f old t) ≡ see w
  place_see w f old t =
      chosen (λ (v : Work). see v ≡ see w) t (note_left (with_touched w f key.Place) f old) w (left_see (with_touched w f key.Place) f old ∙ touches w f key.Place) refl

  flags_see : (flags : List Flag) (w : Work) (f : FileId) (held : List Flag) → see (flags_touched w f held flags) ≡ see w
  flags_see [] w f held = refl
  flags_see (g ∷ gs) w f held =
      let other = is_other_flag (flag_of held g.server) g in
      flags_see gs (touched w f (key.Flag g.server) other) f held ∙ touched_see w f (key.Flag g.server) other

  abbrev Same : State → State → Type 0
  Same s t = see t.work ≡ see s.work

  spread_see : (ds : List FileId) (st : State) (f : FileId) (own top : Attributes) (back : Bool) → Same st (spread st f own top back ds)
  spread_see [] st f own top back = refl
  spread_see (d ∷ ds) st f own top back =
      spread_see ds (offered st f own top back d) f own top back
      ∙ chosen (λ (t : State). Same st t) (gets st.names f own top back d) (given st f top d) st (touches st.work d (key.Entry f)) refl

  taking_see : (st : State) (f : FileId) (own taken : Attributes) → Same st (taking st f own taken)
  taking_see st f own taken =
      let moved = not (is_same_place own.place taken.place) in
      chosen (λ (t : State). Same st t) (is_same_own own taken) st (took st f own taken) refl
      (flags_see taken.flags (place_touched st.work f own.place moved) f own.flags ∙ place_see st.work f own.place moved)

  pass_own_see : (st : State) (ds : List FileId) (f : FileId) (o : Option Attributes) → Same st (pass_own st ds f o)
  pass_own_see st ds f None = refl
  pass_own_see st ds f (Some own) =
      let top = greatest st.names f own ds in
      let back = is_held_back st.names.removed f own top in
      taking_see (spread st f own top back ds) f own (own_taken own top back) ∙ spread_see ds st f own top back

  pass_see : (st : State) (ds : List FileId) (f : FileId) → Same st (pass st ds f)
  pass_see st ds f = pass_own_see st ds f (own_at st.names f)

  all_see : (fs : List FileId) (st : State) (ds : List FileId) → Same st (pass_all st ds fs)
  all_see [] st ds = refl
  all_see (f ∷ fs) st ds = all_see fs (pass st ds f) ds ∙ pass_see st ds f

  placed_see : (moment : ℕ) (ds : List FileId) (st : State) (f p : FileId) (name : List ℕ) → Same st (placed moment ds st f p name)
  placed_see moment ds st f p name =
      let place = live_place (drawn moment st.names) p name in
      let made = with_made st.work (update.Place f place) in
      pass_see (made_at st f place) ds f ∙ left_see (with_touched made f key.Place) f (place_at st.names f) ∙ touches made f key.Place ∙ makes st.work (update.Place f place)

  returned_see : (moment : ℕ) (ds : List FileId) (st : State) (o : Option FileId) → Same st (returned moment ds st o)
  returned_see moment ds st None = refl
  returned_see moment ds st (Some d) = placed_see moment ds st d (place_at st.names d).parent (place_at st.names d).name

  moved_see : (moment : ℕ) (ds : List FileId) (st : State) (o : Option FileId) → Same st (moved moment ds st o)
  moved_see moment ds st None = refl
  moved_see moment ds st (Some d) = placed_see moment ds st d root (tilde_name d)

  repeated_see : (step : State → State) → ((st : State) → Same st (step st)) → (n : ℕ) (st : State) → Same st (repeated n step st)
  repeated_see step each zero st = refl
  repeated_see step each (suc n) st = repeated_see step each n (step st) ∙ each st

  -- the rules leave it
  pub house_see : (moment : ℕ) (st : State) → Same st (house moment st)
  house_see moment st =
      let ds = directories st.names in
      let one = pass_all st ds (movable st.names) in
      let two = repeated (length ds) (return_first moment ds) one in
      repeated_see (break_first moment ds) (λ t. moved_see moment ds t (first_moving t.names (length ds) None ds)) (length ds) two
      ∙ repeated_see (return_first moment ds) (λ t. returned_see moment ds t (first_returning t.names ds)) (length ds) one ∙ all_see (movable st.names) st ds

-- of cells that came from servers that are not sure of them nothing is forgotten
pub house_unsure : (moment : ℕ) (st : State) → (house moment st).work.unsure ≡ st.work.unsure
house_unsure moment st = house_see (λ (w : Work). w.unsure) (λ w f k. refl) (λ w u. refl) (λ w d c. refl) moment st
