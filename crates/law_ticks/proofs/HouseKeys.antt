-- Each key that the house rules touch has a cell behind them.
use Rattle.std.proofs.Common.{ℕ, ◌≡◌, Bool, true, false, List, [], ◌∷◌, drop, length, Option, None, Some, refl, sym, ap, subst, ◌∙◌, inl, inr, ◌⊎◌}
use Rattle.std.proofs.lemmas.Option.{none-some}
use Rattle.std.proofs.lemmas.Bool.{or_left, or_right}
use Rattle.law_frame.specs.pg_run.pg_base.declared.id.FileId.{FileId}
use Rattle.law_frame.specs.pg_run.pg_base.Id.{is_same_file}
use Rattle.law_frame.proofs.pg_run.pg_base.Orders.{is_same_file-refl}
use Rattle.law_frame.specs.pg_run.pg_edges.declared.key.Key.{Key}
use Rattle.law_frame.specs.pg_run.pg_edges.declared.key.Key.TheVariants as key
use Rattle.law_frame.specs.pg_run.pg_register.declared.place.Place.{Place}
use Rattle.law_frame.specs.pg_run.pg_register.Flag.{flag_of}
use Rattle.law_frame.specs.pg_run.pg_register.Place.{root, tilde_name}
use Rattle.law_frame.specs.pg_run.pg_entries.declared.entry.Entry.{Entry}
use Rattle.law_frame.specs.pg_run.pg_msg.declared.work.Touched.{Touched}
use Rattle.law_frame.specs.pg_run.pg_msg.declared.update.Update.TheVariants as update
use Rattle.law_frame.specs.pg_run.pg_msg.declared.work.Work.{Work}
use Rattle.law_frame.specs.pg_run.pg_msg.Work.{with_made, with_touched}
use Rattle.law_frame.specs.pg_run.pg_names.declared.attributes.Attributes.{Attributes}
use Rattle.law_frame.specs.pg_run.pg_names.Names.{InodeValue, NamesValue, cell_at, changed, directories, known, or_blank, own_at, own_of, set_own, with_last, with_own}
use Rattle.law_frame.specs.pg_run.pg_names.Same.{is_same_own}
use Rattle.law_frame.proofs.pg_run.pg_names.Lookups.{own_cell, own_other, own_same}
use Rattle.law_frame.specs.pg_run.pg_house.Facts.{IsHeld, IsIn, is_among}
use Rattle.law_frame.specs.pg_run.pg_house.Work.{State, state_of}
use Rattle.law_frame.specs.pg_run.pg_house.Passing.{greatest, is_held_back, joined_with, own_taken, pass, pass_all, pass_own, spread, taking, took}
use Rattle.law_frame.specs.pg_run.pg_house.Placing.{drawn, flags_of, live_place, made_at, own_with, place_at, placed}
use Rattle.law_frame.specs.pg_run.pg_house.Returning.{first_returning, return_first, returned}
use Rattle.law_frame.specs.pg_run.pg_house.Cycles.{break_first, first_moving, moved}
use Rattle.law_frame.specs.pg_run.pg_house.House.{house, movable}
use Rattle.law_frame.proofs.pg_run.pg_house.Repeating.{repeated_keeps}
use Rattle.law_frame.proofs.pg_run.pg_house.Settling.{dirs_held}
use Rattle.law_frame.proofs.pg_run.pg_house.Spreading.{spread_own}
use Rattle.law_frame.specs.pg_run.theory_flood_pieces.UpTo.{AreFlagsUpTo}
use Rattle.law_frame.proofs.pg_run.theory_flood_pieces.Choices.{chosen}
use Rattle.law_frame.proofs.pg_run.theory_flood_pieces.Flags.{flags_joined}
use Rattle.law_frame.proofs.pg_run.theory_flood_pieces.Growth.{OneOwn}
use Rattle.law_frame.proofs.pg_run.theory_flood_pieces.UpTo.{flags_further, flags_themselves}
use Rattle.law_frame.proofs.pg_run.theory_flood_pieces.Front.{Alone, ends, new_keys, with_lists}
use Rattle.law_ticks.proofs.Keyed.{AllHeld, NameHas, Touches, Touches-refl, Touches-trans, held_further, in_split, left_touched, one_held_stays, one_stays, spread_touches, took_touches}

-- ---- passing

joined_up : (top : Attributes) (o : Option Entry) → AreFlagsUpTo top.flags (joined_with top o).flags
joined_up top None = flags_themselves top.flags
joined_up top (Some c) = flags_joined top.flags c.flags

greatest_up : (s : NamesValue) (f : FileId) (top : Attributes) (ds : List FileId) → AreFlagsUpTo top.flags (greatest s f top ds).flags
greatest_up s f top [] = flags_themselves top.flags
greatest_up s f top (d ∷ ds) =
    let next = joined_with top (cell_at s d f) in
    flags_further top.flags next.flags (greatest s f next ds).flags (joined_up top (cell_at s d f)) (greatest_up s f next ds)

taken_up : (own top : Attributes) (t : Bool) → AreFlagsUpTo own.flags top.flags → AreFlagsUpTo own.flags (own_taken own top t).flags
taken_up own top true up = up
taken_up own top false up = up

pass_by : (st : State) (ds : List FileId) (f : FileId) (o : Option Attributes) → own_at st.names f ≡ o → AllHeld st.names ds → Touches st (pass_own st ds f o)
pass_by st ds f None e h = Touches-refl st
pass_by st ds f (Some own) e h =
    let top = greatest st.names f own ds in
    let back = is_held_back st.names.removed f own top in
    let next = spread st f own top back ds in
    let there : own_at next.names f ≡ Some own = spread_own st f own top back ds f ∙ e in
    let taken = own_taken own top back in
    Touches-trans st next (taking next f own taken) (spread_touches st f own top back ds h)
    (chosen (Touches next) (is_same_own own taken) next (took next f own taken) (Touches-refl next) (took_touches next f own taken there (taken_up own top back (greatest_up st.names f own ds))))

pass_touches : (st : State) (ds : List FileId) (f : FileId) → AllHeld st.names ds → Touches st (pass st ds f)
pass_touches st ds f h = pass_by st ds f (own_at st.names f) refl h

all_touches : (st : State) (ds fs : List FileId) → AllHeld st.names ds → Touches st (pass_all st ds fs)
all_touches st ds [] h = Touches-refl st
all_touches st ds (f ∷ fs) h =
    let next = pass st ds f in
    let one = pass_touches st ds f h in
    Touches-trans st next (pass_all next ds fs) one (all_touches next ds fs (held_further st.names next.names one.held ds h))

-- ---- new places

none_changes : (s : NamesValue) (f : FileId) (c : Attributes) (o : Option InodeValue) → known s f ≡ o → own_of o ≡ None → set_own s f c ≡ s
none_changes s f c None e h = ap (changed s f (with_own c)) e
none_changes s f c (Some x) e h = absurd (none-some x.own (sym h))

same_stays : (s t : NamesValue) → ((q : FileId) → own_at t q ≡ own_at s q) → ((d g : FileId) → cell_at t d g ≡ cell_at s d g) → (f : FileId) (k : Key) → NameHas s f k → NameHas t f k
same_stays s t own cells f key.Place h = tt
same_stays s t own cells f (key.Flag m) h = (h.0, ap (λ o. flag_of (or_blank f o).flags m) (own f) ∙ h.1)
same_stays s t own cells f (key.Entry g) h = (h.0, cells f g ∙ h.1)
same_stays s t own cells f (key.Version stamp) h = absurd h

module _ (st : State) (f : FileId) (place : Place) where
  abbrev Late : NamesValue
  Late = with_last st.names place.stamp.time

  abbrev Mine : Attributes
  Mine = own_with st.names f place

  new_by : (x : Touched) → IsIn x (made_at st f place).work.touched → IsIn x st.work.touched ⊎ NameHas (made_at st f place).names x.file x.key
  new_by x h =
      let P : Touched → Type 0 = λ y. NameHas (made_at st f place).names y.file y.key in
      let Q : List Touched → Type 0 = λ ts. IsIn x ts in
      let work = with_touched (with_made st.work (update.Place f place)) f key.Place in
      let in_work : IsIn x work.touched = subst Q (left_touched work f (place_at st.names f)) h in
      elim (in_split x (record { file = f; key = key.Place }) st.work.touched in_work) [ inl old ↦ inl old | inr is ↦ inr (subst P is tt) ]

  made_by : (o : Option Attributes) → own_at st.names f ≡ o → Touches st (made_at st f place)
  made_by None e =
      let same : (made_at st f place).names ≡ Late = none_changes Late f Mine (known Late f) refl e in
      let own : (q : FileId) → own_at (made_at st f place).names q ≡ own_at st.names q = λ q. ap (λ (x : NamesValue). own_at x q) same in
      record {
        held = λ q h. (h.0, own q ∙ h.1);
        stays = same_stays st.names (made_at st f place).names own (λ d g. ap (λ (x : NamesValue). cell_at x d g) same);
        new = new_by;
      }
  made_by (Some b) e =
      let one : OneOwn st.names (made_at st f place).names f b Mine = record { was = e; is = own_same Late f b Mine e; others = own_other Late f Mine } in
      let flags : Mine.flags ≡ b.flags = ap flags_of e in
      record {
        held = one_held_stays st.names (made_at st f place).names f b Mine one;
        stays = one_stays st.names (made_at st f place).names f b Mine one (λ d g. own_cell Late f Mine d g) (λ m g h. (g, ap (λ fs. flag_of fs m) flags ∙ h));
        new = new_by;
      }

  made_touches : Touches st (made_at st f place)
  made_touches = made_by (own_at st.names f) refl

module _ (moment : ℕ) (ds : List FileId) (s : State) where
  abbrev Goes : State → Type 0
  Goes t = Touches s t × AllHeld t.names ds

  placed_goes : (t : State) (f p : FileId) (name : List ℕ) → Goes t → Goes (placed moment ds t f p name)
  placed_goes t f p name k =
      let made = made_at t f (live_place (drawn moment t.names) p name) in
      let one = made_touches t f (live_place (drawn moment t.names) p name) in
      let held = held_further t.names made.names one.held ds k.1 in
      let two = pass_touches made ds f held in (
        Touches-trans s t (pass made ds f) k.0 (Touches-trans t made (pass made ds f) one two),
        held_further made.names (pass made ds f).names two.held ds held,
      )

  returned_goes : (t : State) (o : Option FileId) → Goes t → Goes (returned moment ds t o)
  returned_goes t None k = k
  returned_goes t (Some d) k = placed_goes t d (place_at t.names d).parent (place_at t.names d).name k

  moved_goes : (t : State) (o : Option FileId) → Goes t → Goes (moved moment ds t o)
  moved_goes t None k = k
  moved_goes t (Some d) k = placed_goes t d root (tilde_name d) k

all_of_among : (s : NamesValue) (ds : List FileId) → ((q : FileId) → is_among q ds ≡ true → IsHeld s q) → AllHeld s ds
all_of_among s [] h = tt
all_of_among s (d ∷ ds) h =
    (h d (or_left (is_same_file d d) _ (is_same_file-refl d)), all_of_among s ds (λ q among. h q (or_right (is_same_file d q) _ among)))

house_touches : (moment : ℕ) (st : State) → Touches st (house moment st)
house_touches moment st =
    let ds = directories st.names in
    let held : AllHeld st.names ds = all_of_among st.names ds (λ q among. (dirs_held st.names q among).0) in
    let one = all_touches st ds (movable st.names) held in
    let start : Goes moment ds st (pass_all st ds (movable st.names)) = (one, held_further st.names (pass_all st ds (movable st.names)).names one.held ds held) in
    (repeated_keeps (Goes moment ds st) (break_first moment ds) (λ t k. moved_goes moment ds st t (first_moving t.names (length ds) None ds) k) (length ds) _
    (repeated_keeps (Goes moment ds st) (return_first moment ds) (λ t k. returned_goes moment ds st t (first_returning t.names ds) k) (length ds) (pass_all st ds (movable st.names)) start)).0

-- ---- so each key that the rules touch has a cell

module _ (moment : ℕ) (names : NamesValue) (work : Work) where
  abbrev End : State
  End = Alone moment names work

  none_before : (x : Touched) → IsIn x End.work.touched → NameHas End.names x.file x.key
  none_before x h = elim ((house_touches moment (state_of names (with_lists work work []))).new x h) [ inl none ↦ absurd none | inr has ↦ has ]

  pub new_has : (x : Touched) → IsIn x (drop (length work.touched) (house moment (state_of names work)).work.touched) → NameHas (house moment (state_of names work)).names x.file x.key
  new_has x h =
      let P : List Touched → Type 0 = IsIn x in
      let Q : State → Type 0 = λ s. NameHas s.names x.file x.key in
      subst Q (sym (ends moment names work)) (none_before x (subst P (new_keys moment names work) h))

  -- and what had one keeps one
  pub old_has : (f : FileId) (k : Key) → NameHas names f k → NameHas (house moment (state_of names work)).names f k
  old_has f k h = (house_touches moment (state_of names work)).stays f k h
