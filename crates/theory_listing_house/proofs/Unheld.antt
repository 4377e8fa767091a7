-- What is not held stays so under the rules, and its cells stay as they are.
use Rattle.std.proofs.Common.{ℕ, ◌≡◌, Bool, true, false, List, [], ◌∷◌, length, Option, None, Some, refl, sym, ap, ◌∙◌}
use Rattle.std.proofs.lemmas.Option.{none-some}
use Rattle.pg_base.specs.declared.id.FileId.{FileId}
use Rattle.pg_base.specs.Id.{is_same_file}
use Rattle.pg_base.proofs.Orders.{is_same_file-true}
use Rattle.pg_register.specs.Place.{root, tilde_name}
use Rattle.pg_names.specs.declared.attributes.Attributes.{Attributes}
use Rattle.pg_names.specs.Names.{NamesValue, cell_at, directories, own_at, own_of, set_own, with_last, with_own}
use Rattle.pg_names.proofs.Lookups.{apart_back, own_back, own_cell}
use Rattle.std.specs.Map.{keys_of}
use Rattle.pg_house.specs.Work.{State}
use Rattle.pg_house.specs.Passing.{greatest, is_held_back, pass, pass_all, pass_own}
use Rattle.pg_house.specs.Placing.{drawn, live_place, made_at, own_with, place_at, placed}
use Rattle.pg_house.specs.Returning.{first_returning, return_first, returned}
use Rattle.pg_house.specs.Cycles.{break_first, first_moving, moved}
use Rattle.pg_house.specs.House.{house, movable}
use Rattle.pg_house.specs.Facts.{is_among}
use Rattle.pg_house.proofs.AfterPassing.{after_child, after_other}
use Rattle.pg_house.proofs.Keys.{rules_keys}
use Rattle.pg_house.proofs.Ends.{key_of_held}
use Rattle.pg_house.proofs.Settling.{key_found}
use Rattle.pg_house.proofs.Repeating.{repeated_keeps}

module _ (s : NamesValue) (g : FileId) where
  -- the thing is not held, and its cells are those of s
  pub record IsUnheld (t : NamesValue) : Type 0 where
    pub none : own_at t g ≡ None
    pub cells : (d : FileId) → cell_at t d g ≡ cell_at s d g

  apart_by : (t : NamesValue) (f : FileId) (own : Attributes) (b : Bool) → is_same_file f g ≡ b → own_at t g ≡ None → own_at t f ≡ Some own → b ≡ false
  apart_by t f own false h none held = refl
  apart_by t f own true h none held = absurd (none-some own (sym none ∙ ap (own_at t) (sym (is_same_file-true f g h)) ∙ held))

  pass_by : (st : State) (ds : List FileId) (f : FileId) (o : Option Attributes) → own_at st.names f ≡ o → IsUnheld st.names → IsUnheld (pass_own st ds f o).names
  pass_by st ds f None h k = k
  pass_by st ds f (Some own) h k =
      let top = greatest st.names f own ds in
      let back = is_held_back st.names.removed f own top in
      let apart : is_same_file f g ≡ false = apart_by st.names f own (is_same_file f g) refl k.none h in
      record {
        none = after_other st ds f own top back g apart ∙ k.none;
        cells = λ d. after_child st ds f own top back d g (apart_back f g apart) ∙ k.cells d;
      }

  pass_unheld : (st : State) (ds : List FileId) (f : FileId) → IsUnheld st.names → IsUnheld (pass st ds f).names
  pass_unheld st ds f k = pass_by st ds f (own_at st.names f) refl k

  all_unheld : (st : State) (ds fs : List FileId) → IsUnheld st.names → IsUnheld (pass_all st ds fs).names
  all_unheld st ds [] k = k
  all_unheld st ds (f ∷ fs) k = all_unheld (pass st ds f) ds fs (pass_unheld st ds f k)

  made_none : (st : State) (f : FileId) (own : Attributes) (time : ℕ) (o : Option Attributes) → own_at st.names g ≡ None → own_at (set_own (with_last st.names time) f own) g ≡ o → own_at (set_own (with_last st.names time) f own) g ≡ None
  made_none st f own time None none h = h
  made_none st f own time (Some b) none h = absurd (let was = own_back (with_last st.names time) f (with_own own) g b h in none-some was.0 (sym none ∙ was.1))

  placed_unheld : (moment : ℕ) (ds : List FileId) (st : State) (f p : FileId) (name : List ℕ) → IsUnheld st.names → IsUnheld (placed moment ds st f p name).names
  placed_unheld moment ds st f p name k =
      let place = live_place (drawn moment st.names) p name in
      let mine = own_with st.names f place in
      pass_unheld (made_at st f place) ds f (record {
        none = made_none st f mine place.stamp.time (own_at (made_at st f place).names g) k.none refl;
        cells = λ d. own_cell (with_last st.names place.stamp.time) f mine d g ∙ k.cells d;
      })

  returned_unheld : (moment : ℕ) (ds : List FileId) (st : State) (o : Option FileId) → IsUnheld st.names → IsUnheld (returned moment ds st o).names
  returned_unheld moment ds st None k = k
  returned_unheld moment ds st (Some d) k = placed_unheld moment ds st d (place_at st.names d).parent (place_at st.names d).name k

  moved_unheld : (moment : ℕ) (ds : List FileId) (st : State) (o : Option FileId) → IsUnheld st.names → IsUnheld (moved moment ds st o).names
  moved_unheld moment ds st None k = k
  moved_unheld moment ds st (Some d) k = placed_unheld moment ds st d root (tilde_name d) k

  pub rules_unheld : (moment : ℕ) (st : State) → IsUnheld st.names → IsUnheld (house moment st).names
  rules_unheld moment st k =
      let ds = directories st.names in
      repeated_keeps (λ (t : State). IsUnheld t.names) (break_first moment ds) (λ t h. moved_unheld moment ds t (first_moving t.names (length ds) None ds) h) (length ds) _
      (repeated_keeps (λ (t : State). IsUnheld t.names) (return_first moment ds) (λ t h. returned_unheld moment ds t (first_returning t.names ds) h) (length ds) _
      (all_unheld st ds (movable st.names) k))

-- ---- and what is not held in the end was not held at the start

was_none_by : (moment : ℕ) (st : State) (f : FileId) (o : Option Attributes) → own_at st.names f ≡ o → own_at (house moment st).names f ≡ None → own_at st.names f ≡ None
was_none_by moment st f None h none = h
was_none_by moment st f (Some b) h none =
    let end = (house moment st).names in
    let among : is_among f (keys_of end.held) ≡ true = ap (is_among f) (rules_keys moment st) ∙ key_of_held st.names f b h in
    let x = key_found f end.held among in
    absurd (none-some x.0.own (sym none ∙ ap own_of x.1))

pub was_none : (moment : ℕ) (st : State) (f : FileId) → own_at (house moment st).names f ≡ None → own_at st.names f ≡ None
was_none moment st f none = was_none_by moment st f (own_at st.names f) refl none
