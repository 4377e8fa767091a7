-- What the house rules make: places only. And the clock does not fall.
use Rattle.std.proofs.Common.{ℕ, ◌≡◌, ◌≤◌, ◌+◌, ◌^◌, max, min, List, [], ◌∷◌, ◌++◌, length, Option, None, Some, refl, sym, ap, ◌∙◌, arith}
use Rattle.std.proofs.lemmas.List.{append-nil, append_assoc}
use Rattle.pg_run.specs.pg_base.declared.id.FileId.{FileId}
use Rattle.pg_run.specs.pg_edges.declared.key.Key.TheVariants as key
use Rattle.pg_run.specs.pg_register.declared.place.Place.{Place}
use Rattle.pg_run.specs.pg_register.Place.{root, tilde_name}
use Rattle.pg_run.specs.pg_msg.declared.update.Update.{Update}
use Rattle.pg_run.specs.pg_msg.declared.update.Update.TheVariants as update
use Rattle.pg_run.specs.pg_msg.Work.{with_made, with_touched}
use Rattle.pg_run.specs.pg_names.declared.attributes.Attributes.{Attributes}
use Rattle.pg_run.specs.pg_names.Names.{directories, own_at, with_last, with_own}
use Rattle.pg_run.proofs.pg_names.Lookups.{update_frame}
use Rattle.pg_run.specs.pg_house.Work.{State}
use Rattle.pg_run.specs.pg_house.Passing.{greatest, is_held_back, pass, pass_all, pass_own}
use Rattle.pg_run.specs.pg_house.Placing.{drawn, live_place, made_at, own_with, place_at, placed, repeated}
use Rattle.pg_run.specs.pg_house.Returning.{first_returning, return_first, returned}
use Rattle.pg_run.specs.pg_house.Cycles.{break_first, first_moving, moved}
use Rattle.pg_run.specs.pg_house.House.{house, movable}
use Rattle.pg_run.proofs.pg_house.Lasting.{pass_all_last, placed_last}
use Rattle.pg_run.proofs.pg_house.Repeating.{repeated_keeps}
use Rattle.pg_run.proofs.pg_house.AfterPassing.{after_frame}
use Rattle.pg_run.proofs.pg_house.Made.{all_made, left_made, pass_made}

-- ---- updates of names

-- places and flags, no versions
abbrev pub AreNames : List Update → Type 0
AreNames [] = Unit {0}
AreNames (update.Place file place ∷ us) = AreNames us
AreNames (update.Version made ∷ us) = ⊥
AreNames (update.Flag file flag ∷ us) = AreNames us

pub both_names : (us vs : List Update) → AreNames us → AreNames vs → AreNames (us ++ vs)
both_names [] vs are more = more
both_names (update.Place file place ∷ us) vs are more = both_names us vs are more
both_names (update.Version made ∷ us) vs are more = absurd are
both_names (update.Flag file flag ∷ us) vs are more = both_names us vs are more

-- places alone
abbrev pub ArePlaces : List Update → Type 0
ArePlaces [] = Unit {0}
ArePlaces (update.Place file place ∷ us) = ArePlaces us
ArePlaces (update.Version made ∷ us) = ⊥
ArePlaces (update.Flag file flag ∷ us) = ⊥

pub places_names : (us : List Update) → ArePlaces us → AreNames us
places_names [] are = tt
places_names (update.Place file place ∷ us) are = places_names us are
places_names (update.Version made ∷ us) are = absurd are
places_names (update.Flag file flag ∷ us) are = absurd are

-- ---- each return and each move makes a place

one_place : (us : List Update) (f : FileId) (place : Place) → ArePlaces us
    → ArePlaces (us ++ update.Place f place ∷ [])
one_place [] f place are = tt
one_place (update.Place g other ∷ us) f place are = one_place us f place are
one_place (update.Version made ∷ us) f place are = absurd are
one_place (update.Flag g flag ∷ us) f place are = absurd are

-- places were made behind these by the same server, in the same view, and the clock is not below
-- this time
pub record MakesPlaces (first : List Update) (server : ℕ) (removed : List ℕ) (low : ℕ) (st : State)
    : Type 0 where
  pub places : List Update
  pub are : ArePlaces places
  pub made : st.work.made ≡ first ++ places
  pub server_is : st.names.server ≡ server
  pub removed_is : st.names.removed ≡ removed
  pub up : low ≤ st.names.last

later_time : (low last moment time : ℕ) → low ≤ last → time ≡ max (min moment (2 ^ 62)) (last + 1)
    → low ≤ time
later_time low last moment time up e = grind arith

-- ---- passing leaves the server, and the view

own_server : (st : State) (ds : List FileId) (f : FileId) (o : Option Attributes)
    → (pass_own st ds f o).names.server ≡ st.names.server
own_server st ds f None = refl
own_server st ds f (Some own) =
    let top = greatest st.names f own ds in
    (after_frame st ds f own top (is_held_back st.names.removed f own top)).server

pass_server : (st : State) (ds : List FileId) (f : FileId)
    → (pass st ds f).names.server ≡ st.names.server
pass_server st ds f = own_server st ds f (own_at st.names f)

all_server : (st : State) (ds fs : List FileId)
    → (pass_all st ds fs).names.server ≡ st.names.server
all_server st ds [] = refl
all_server st ds (f ∷ fs) = all_server (pass st ds f) ds fs ∙ pass_server st ds f

own_removed : (st : State) (ds : List FileId) (f : FileId) (o : Option Attributes)
    → (pass_own st ds f o).names.removed ≡ st.names.removed
own_removed st ds f None = refl
own_removed st ds f (Some own) =
    let top = greatest st.names f own ds in
    (after_frame st ds f own top (is_held_back st.names.removed f own top)).removed

pass_removed : (st : State) (ds : List FileId) (f : FileId)
    → (pass st ds f).names.removed ≡ st.names.removed
pass_removed st ds f = own_removed st ds f (own_at st.names f)

all_removed : (st : State) (ds fs : List FileId)
    → (pass_all st ds fs).names.removed ≡ st.names.removed
all_removed st ds [] = refl
all_removed st ds (f ∷ fs) = all_removed (pass st ds f) ds fs ∙ pass_removed st ds f

-- ---- the rules

module _ (first : List Update) (server : ℕ) (removed : List ℕ) (low : ℕ) (moment : ℕ)
    (ds : List FileId) (st : State) (k : MakesPlaces first server removed low st) where
  placed_makes : (f p : FileId) (name : List ℕ)
      → MakesPlaces first server removed low (placed moment ds st f p name)
  placed_makes f p name =
      let place = live_place (drawn moment st.names) p name in
      let next = made_at st f place in
      let work = with_touched (with_made st.work (update.Place f place)) f key.Place in
      let own = own_with st.names f place in
      let made_then : (placed moment ds st f p name).work.made
      ≡ st.work.made ++ update.Place f place ∷ [] =
      pass_made next ds f ∙ left_made work f (place_at st.names f) in
      record {
        places = k.places ++ update.Place f place ∷ [];
        are = one_place k.places f place k.are;
        made = made_then ∙ ap (λ us. us ++ update.Place f place ∷ []) k.made
            ∙ append_assoc first k.places (update.Place f place ∷ []);
        server_is = pass_server next ds f
            ∙ (update_frame (with_last st.names place.stamp.time) f (with_own own)).server
            ∙ k.server_is;
        removed_is = pass_removed next ds f
            ∙ (update_frame (with_last st.names place.stamp.time) f (with_own own)).removed
            ∙ k.removed_is;
        up = later_time low st.names.last moment _ k.up (placed_last moment ds st f p name);
      }

  returned_makes : (o : Option FileId) → MakesPlaces first server removed low (returned moment ds st o)
  returned_makes None = k
  returned_makes (Some d) = placed_makes d (place_at st.names d).parent (place_at st.names d).name

  moved_makes : (o : Option FileId) → MakesPlaces first server removed low (moved moment ds st o)
  moved_makes None = k
  moved_makes (Some d) = placed_makes d root (tilde_name d)

-- THE HOUSE RULES MAKE PLACES, and the clock does not fall
pub house_makes : (moment : ℕ) (st : State)
    → MakesPlaces st.work.made st.names.server st.names.removed st.names.last (house moment st)
house_makes moment st =
    let first = st.work.made in
    let server = st.names.server in
    let removed = st.names.removed in
    let low = st.names.last in
    let ds = directories st.names in
    let one = pass_all st ds (movable st.names) in
    let same : one.names.last ≡ st.names.last = pass_all_last st ds (movable st.names) in
    let passes : MakesPlaces first server removed low one = record {
      places = [];
      are = tt;
      made = all_made st ds (movable st.names) ∙ sym (append-nil first);
      server_is = all_server st ds (movable st.names);
      removed_is = all_removed st ds (movable st.names);
      up = omega arith;
    } in
    let two = repeated (length ds) (return_first moment ds) one in
    repeated_keeps (MakesPlaces first server removed low) (break_first moment ds)
    (λ t l. moved_makes first server removed low moment ds t l (first_moving t.names (length ds) None ds))
    (length ds) two
    (repeated_keeps (MakesPlaces first server removed low) (return_first moment ds)
    (λ t l. returned_makes first server removed low moment ds t l (first_returning t.names ds))
    (length ds) one passes)
