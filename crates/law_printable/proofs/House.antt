-- The house rules keep places that suit, and what they make suits.
use Rattle.std.proofs.Common.{ℕ, ◌≡◌, ◌<◌, Bool, true, false, cond, not, ◌&&◌, List, [], ◌∷◌, length, Option, None, Some, All, refl, sym, subst, inl, inr, arith}
use Rattle.std.specs.List.{filter}
use Rattle.std.specs.Map.{keys_of}
use Rattle.std.proofs.lemmas.List.Elements.{All-cons, All-head, All-nil, All-push, All-tail}
use Rattle.std.proofs.lemmas.Option.{none-some}
use Rattle.std.proofs.lemmas.Bool.{and_parts, not-true}
use Rattle.law_frame.specs.pg_run.pg_base.declared.id.FileId.{FileId}
use Rattle.law_frame.specs.pg_run.pg_base.declared.id.Kind.TheVariants.{Dir}
use Rattle.law_frame.specs.pg_run.pg_edges.declared.key.Key.{Key}
use Rattle.law_frame.specs.pg_run.pg_edges.declared.key.Key.TheVariants as key
use Rattle.law_frame.specs.pg_run.pg_register.declared.flag.Flag.{Flag}
use Rattle.law_frame.specs.pg_run.pg_register.declared.place.Place.{Place}
use Rattle.law_frame.specs.pg_run.pg_register.Flag.{flag_of}
use Rattle.law_frame.specs.pg_run.pg_register.Place.{root, tilde_name}
use Rattle.law_frame.specs.pg_run.pg_entries.declared.entry.Entry.{Entry}
use Rattle.law_frame.specs.pg_run.pg_msg.declared.message.Sent.{Sent}
use Rattle.law_frame.specs.pg_run.pg_msg.declared.update.Update.TheVariants as update
use Rattle.law_frame.specs.pg_run.pg_msg.declared.work.Work.{Work}
use Rattle.law_frame.specs.pg_run.pg_msg.Work.{with_left, with_made, with_touched}
use Rattle.law_frame.specs.pg_run.pg_msg.declared.work.Slot.{Slot}
use Rattle.law_frame.specs.pg_run.pg_names.declared.attributes.Attributes.{Attributes}
use Rattle.law_frame.specs.pg_run.pg_names.Names.{NamesValue, cell_at, directories, known, own_at, with_last}
use Rattle.law_frame.specs.pg_run.pg_names.Same.{is_same_own, is_same_place}
use Rattle.law_frame.specs.pg_run.pg_house.Work.{State, note_left, place_touched, touched}
use Rattle.law_frame.specs.pg_run.pg_house.Passing.{cell_for, flags_touched, gets, given, greatest, is_held_back, is_other_flag, joined_with, offered, own_taken, own_touched, pass, pass_all, pass_own, passed_to, spread, taking, took}
use Rattle.law_frame.specs.pg_run.pg_house.Placing.{drawn, live_place, made_at, own_with, place_at, place_of, placed}
use Rattle.law_frame.specs.pg_run.pg_house.Returning.{first_returning, is_returning, is_root, return_first, returned}
use Rattle.law_frame.specs.pg_run.pg_house.Cycles.{break_first, first_moving, latest_member, moved}
use Rattle.law_frame.specs.pg_run.pg_house.House.{house, house_with, movable}
use Rattle.law_frame.proofs.pg_run.pg_house.AllClimb.{member_deep, moving_member}
use Rattle.law_frame.proofs.pg_run.pg_house.AllReturned.{IsReturning, is_dead_own, returning_by}
use Rattle.law_frame.proofs.pg_run.pg_house.Counting.{find_found}
use Rattle.law_frame.proofs.pg_run.pg_house.NoCycles.{inner_parts}
use Rattle.law_frame.proofs.pg_run.pg_house.Repeating.{repeated_keeps}
use Rattle.law_frame.proofs.pg_run.pg_house.Truths.{chosen}
use Rattle.law_frame.proofs.pg_run.theory_flood_pieces.Choices.{decided}
use Rattle.pg_trace.specs.Suited.{SuitsUpdate}
use Rattle.law_printable.proofs.Places.{IsOwnPlace, IsThingPlace, NamesSuit, cell_suits, newer_thing, own_place, own_suits, set_entry_suits, set_own_suits, suits_place, thing_place}

-- ---- what is done in an event

-- a directory, and a child that is not the root
pub record SuitsSlot (s : Slot) : Type 0 where
  pub dir : s.dir.kind ≡ Dir
  pub inner : is_root s.child ≡ false

abbrev pub IsOfDir : Slot → Type 0
IsOfDir s = s.dir.kind ≡ Dir

-- what was made suits, of what is sent P holds, and what is noted is of directories
pub record WorkSuits (P : Sent → Type 0) (work : Work) : Type 0 where
  pub made : All SuitsUpdate work.made
  pub sent : All P work.sent
  pub left : All SuitsSlot work.left
  pub unsure : All IsOfDir work.unsure

pub record StateSuits (P : Sent → Type 0) (st : State) : Type 0 where
  pub names : NamesSuit st.names
  pub work : WorkSuits P st.work

abbrev NotRoot : FileId → Type 0
NotRoot f = is_root f ≡ false

dead_other : (d : FileId) (o : Option Attributes) (b : Attributes) → o ≡ Some b → is_dead_own d o ≡ true → NotRoot d
dead_other d None b e h = absurd (none-some b e)
dead_other d (Some c) b e h = not-true (is_root d) (and_parts (not (is_root d)) _ h).0

some_dirs : (s : NamesValue) (ds : List FileId) (m : FileId) → first_moving s (length ds) None ds ≡ Some m → 0 < length ds
some_dirs s [] m h = absurd (none-some m h)
some_dirs s (d ∷ ds) m h = omega arith

-- a directory that moves is a live one, and so not the root
moving_other : (s : NamesValue) (ds : List FileId) (m : FileId) → first_moving s (length ds) None ds ≡ Some m → NotRoot m
moving_other s ds m h = elim (moving_member s (length ds) None ds m h) [
  | inl none ↦ absurd (none-some m none)
  | inr member ↦
      subst NotRoot member.2
      (inner_parts s (latest_member s (length ds) member.0) (member_deep s (length ds) member.0 (some_dirs s ds m h) member.1).0).other
]

other_at : (f : FileId) (fs : List FileId) (t : Bool) → is_root f ≡ t → All NotRoot (filter (λ x. not (is_root x)) fs)
    → All NotRoot (cond (not t) (f ∷ filter (λ x. not (is_root x)) fs) (filter (λ x. not (is_root x)) fs))
other_at f fs true e rest = rest
other_at f fs false e rest = All-cons NotRoot f (filter (λ x. not (is_root x)) fs) e rest

all_other : (fs : List FileId) → All NotRoot (filter (λ x. not (is_root x)) fs)
all_other [] = All-nil NotRoot
all_other (f ∷ fs) = other_at f fs (is_root f) refl (all_other fs)

module _ (P : Sent → Type 0) where
  touched_suits : (work : Work) (f : FileId) (k : Key) (t : Bool) → WorkSuits P work → WorkSuits P (touched work f k t)
  touched_suits work f k t h = chosen (WorkSuits P) t (with_touched work f k) work (record { made = h.made; sent = h.sent; left = h.left; unsure = h.unsure }) h

  -- where a live place is replaced its directory is noted
  pub noted_suits : (work : Work) (f : FileId) (old : Place) → old.parent.kind ≡ Dir → WorkSuits P work → WorkSuits P (note_left work f old)
  noted_suits work f old k h =
      decided (WorkSuits P) (old.live && not (is_root f)) (with_left work old.parent f) work
      (λ t. record {
        made = h.made;
        sent = h.sent;
        left = All-push SuitsSlot work.left (record { dir = old.parent; child = f }) h.left
            (record { dir = k; inner = not-true (is_root f) (and_parts old.live (not (is_root f)) t).1 });
        unsure = h.unsure;
      }) (λ e. h)

  placed_work : (work : Work) (f : FileId) (old : Place) (t : Bool) → old.parent.kind ≡ Dir → WorkSuits P work → WorkSuits P (place_touched work f old t)
  placed_work work f old t k h =
      let next : WorkSuits P (with_touched work f key.Place) = record { made = h.made; sent = h.sent; left = h.left; unsure = h.unsure } in
      chosen (WorkSuits P) t (note_left (with_touched work f key.Place) f old) work (noted_suits (with_touched work f key.Place) f old k next) h

  flags_suit : (work : Work) (f : FileId) (held flags : List Flag) → WorkSuits P work → WorkSuits P (flags_touched work f held flags)
  flags_suit work f held [] h = h
  flags_suit work f held (g ∷ gs) h =
      let t : Bool = is_other_flag (flag_of held g.server) g in
      flags_suit (touched work f (key.Flag g.server) t) f held gs (touched_suits work f (key.Flag g.server) t h)

  own_work : (work : Work) (f : FileId) (own taken : Attributes) → own.place.parent.kind ≡ Dir → WorkSuits P work → WorkSuits P (own_touched work f own taken)
  own_work work f own taken k h =
      let t : Bool = not (is_same_place own.place taken.place) in
      flags_suit (place_touched work f own.place t) f own.flags taken.flags (placed_work work f own.place t k h)

  -- ---- passing

  joined_thing : (s : NamesValue) (f d : FileId) (top : Attributes) (o : Option Entry) → NamesSuit s → cell_at s d f ≡ o → IsThingPlace f top.place
      → IsThingPlace f (joined_with top o).place
  joined_thing s f d top None h e k = k
  joined_thing s f d top (Some c) h e k = newer_thing f top.place c.place k (cell_suits s h d f c e).place

  greatest_thing : (s : NamesValue) (f : FileId) (top : Attributes) (ds : List FileId) → NamesSuit s → IsThingPlace f top.place
      → IsThingPlace f (greatest s f top ds).place
  greatest_thing s f top [] h k = k
  greatest_thing s f top (d ∷ ds) h k =
      greatest_thing s f (joined_with top (cell_at s d f)) ds h (joined_thing s f d top (cell_at s d f) h refl k)

  given_suits : (st : State) (f : FileId) (top : Attributes) (d : FileId) → NotRoot f → IsThingPlace f top.place → StateSuits P st → StateSuits P (given st f top d)
  given_suits st f top d other k h = record {
    names = set_entry_suits st.names d (cell_for f top) (record { child = refl; inner = other; place = k }) h.names;
    work = record { made = h.work.made; sent = h.work.sent; left = h.work.left; unsure = h.work.unsure };
  }

  spread_suits : (st : State) (f : FileId) (own top : Attributes) (back : Bool) (ds : List FileId) → NotRoot f → IsThingPlace f top.place → StateSuits P st
      → StateSuits P (spread st f own top back ds)
  spread_suits st f own top back [] other k h = h
  spread_suits st f own top back (d ∷ ds) other k h =
      spread_suits (offered st f own top back d) f own top back ds other k
      (chosen (StateSuits P) (gets st.names f own top back d) (given st f top d) st (given_suits st f top d other k h) h)

  taking_suits : (st : State) (f : FileId) (own taken : Attributes) → IsThingPlace f own.place → IsThingPlace f taken.place → StateSuits P st
      → StateSuits P (taking st f own taken)
  taking_suits st f own taken old k h =
      chosen (StateSuits P) (is_same_own own taken) st (took st f own taken) h
      (record {
        names = set_own_suits st.names f taken (own_place f taken.place k) h.names;
        work = own_work st.work f own taken old.parent h.work;
      })

  taken_thing : (f : FileId) (own top : Attributes) (back : Bool) → IsThingPlace f own.place → IsThingPlace f top.place → IsThingPlace f (own_taken own top back).place
  taken_thing f own top true a b = a
  taken_thing f own top false a b = b

  passed_suits : (st : State) (ds : List FileId) (f : FileId) (own : Attributes) → NotRoot f → IsThingPlace f own.place → StateSuits P st
      → StateSuits P (passed_to st ds f own (greatest st.names f own ds))
  passed_suits st ds f own other k h =
      let top : Attributes = greatest st.names f own ds in
      let most : IsThingPlace f top.place = greatest_thing st.names f own ds h.names k in
      let back : Bool = is_held_back st.names.removed f own top in
      taking_suits (spread st f own top back ds) f own (own_taken own top back) k (taken_thing f own top back k most)
      (spread_suits st f own top back ds other most h)

  pass_by : (st : State) (ds : List FileId) (f : FileId) (o : Option Attributes) → NotRoot f → own_at st.names f ≡ o → StateSuits P st
      → StateSuits P (pass_own st ds f o)
  pass_by st ds f None other e h = h
  pass_by st ds f (Some own) other e h = passed_suits st ds f own other (thing_place f own.place other (own_suits st.names h.names f own e)) h

  pass_suits : (st : State) (ds : List FileId) (f : FileId) → NotRoot f → StateSuits P st → StateSuits P (pass st ds f)
  pass_suits st ds f other h = pass_by st ds f (own_at st.names f) other refl h

  pass_all_suits : (st : State) (ds fs : List FileId) → All NotRoot fs → StateSuits P st → StateSuits P (pass_all st ds fs)
  pass_all_suits st ds [] other h = h
  pass_all_suits st ds (f ∷ fs) other h =
      pass_all_suits (pass st ds f) ds fs (All-tail NotRoot f fs other) (pass_suits st ds f (All-head NotRoot f fs other) h)

  -- ---- new places

  dir_by : (f : FileId) (o : Option Attributes) → ((own : Attributes) → o ≡ Some own → IsOwnPlace f own.place) → (place_of o).parent.kind ≡ Dir
  dir_by f None each = refl
  dir_by f (Some own) each = (each own refl).parent

  placed_suits : (moment : ℕ) (ds : List FileId) (st : State) (f parent : FileId) (name : List ℕ) → NotRoot f
      → IsThingPlace f (live_place (drawn moment st.names) parent name) → StateSuits P st → StateSuits P (placed moment ds st f parent name)
  placed_suits moment ds st f parent name other k h =
      let p : Place = live_place (drawn moment st.names) parent name in
      let made : StateSuits P (made_at st f p) = record {
        names = set_own_suits (with_last st.names p.stamp.time) f (own_with st.names f p) (own_place f p k) h.names;
        work = noted_suits (with_touched (with_made st.work (update.Place f p)) f key.Place) f (place_at st.names f)
            (dir_by f (own_at st.names f) (λ own e. own_suits st.names h.names f own e))
            (record {
              made = All-push SuitsUpdate st.work.made (update.Place f p) h.work.made (suits_place f p (own_place f p k));
              sent = h.work.sent;
              left = h.work.left;
              unsure = h.work.unsure;
            });
      } in
      pass_suits (made_at st f p) ds f other made

  -- a directory that comes back keeps its parent and its name
  back_suits : (moment : ℕ) (ds : List FileId) (st : State) (d : FileId) → IsReturning st.names d → StateSuits P st
      → StateSuits P (returned moment ds st (Some d))
  back_suits moment ds st d back h =
      let other : NotRoot d = dead_other d (own_at st.names d) back.held.0 back.held.1 back.dead_one in
      let own : IsThingPlace d back.held.0.place = thing_place d back.held.0.place other (own_suits st.names h.names d back.held.0 back.held.1) in
      let at : IsThingPlace d (place_at st.names d) = subst (λ (o : Option Attributes). IsThingPlace d (place_of o)) (sym back.held.1) own in
      placed_suits moment ds st d (place_at st.names d).parent (place_at st.names d).name other (record { parent = at.parent; name = at.name }) h

  returned_suits : (moment : ℕ) (ds : List FileId) (st : State) (o : Option FileId) → first_returning st.names ds ≡ o → StateSuits P st
      → StateSuits P (returned moment ds st o)
  returned_suits moment ds st None e h = h
  returned_suits moment ds st (Some d) e h =
      back_suits moment ds st d (returning_by st.names d (known st.names d) refl (find_found (is_returning st.names) ds d e).0) h

  -- one that moves to the root gets the name that is made of its id
  moved_suits : (moment : ℕ) (ds : List FileId) (st : State) (o : Option FileId) → first_moving st.names (length ds) None ds ≡ o → StateSuits P st
      → StateSuits P (moved moment ds st o)
  moved_suits moment ds st None e h = h
  moved_suits moment ds st (Some d) e h =
      placed_suits moment ds st d root (tilde_name d) (moving_other st.names ds d e) (record { parent = refl; name = inr refl }) h

  -- ---- all rules

  rules_suit : (moment : ℕ) (ds fs : List FileId) (st : State) → All NotRoot fs → StateSuits P st → StateSuits P (house_with moment ds fs st)
  rules_suit moment ds fs st other h =
      let n = length ds in
      repeated_keeps (StateSuits P) (break_first moment ds) (λ t k. moved_suits moment ds t (first_moving t.names n None ds) refl k) n _
      (repeated_keeps (StateSuits P) (return_first moment ds) (λ t k. returned_suits moment ds t (first_returning t.names ds) refl k) n _
      (pass_all_suits st ds fs other h))

  pub house_suits : (moment : ℕ) (st : State) → StateSuits P st → StateSuits P (house moment st)
  house_suits moment st h =
      rules_suit moment (directories st.names) (movable st.names) st (all_other (keys_of st.names.held)) h
