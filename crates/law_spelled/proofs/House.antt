-- The house rules keep names that fit, and note directories alone.
use Rattle.std.proofs.Common.{ℕ, ◌≡◌, Bool, true, false, not, ◌&&◌, List, [], ◌∷◌, length, Option, None, Some, All, refl, sym, subst}
use Rattle.std.proofs.lemmas.List.Elements.{All-push}
use Rattle.pg_base.specs.declared.id.FileId.{FileId}
use Rattle.pg_base.specs.declared.id.Kind.TheVariants.{Dir}
use Rattle.pg_edges.specs.declared.key.Key.{Key}
use Rattle.pg_edges.specs.declared.key.Key.TheVariants as key
use Rattle.pg_register.specs.declared.flag.Flag.{Flag}
use Rattle.pg_register.specs.declared.place.Place.{Place}
use Rattle.pg_register.specs.Flag.{flag_of}
use Rattle.pg_register.specs.Place.{root, tilde_name}
use Rattle.pg_entries.specs.declared.entry.Entry.{Entry}
use Rattle.pg_msg.specs.declared.message.Sent.{Sent}
use Rattle.pg_msg.specs.declared.update.Update.TheVariants as update
use Rattle.pg_msg.specs.declared.work.Work.{Work}
use Rattle.pg_msg.specs.Work.{with_left, with_made, with_touched}
use Rattle.pg_msg.specs.declared.work.Slot.{Slot}
use Rattle.pg_server.specs.pg_pieces.pg_names.declared.attributes.Attributes.{Attributes}
use Rattle.pg_server.specs.pg_pieces.pg_names.Names.{NamesValue, cell_at, directories, known, own_at, with_last}
use Rattle.pg_server.specs.pg_pieces.pg_names.Same.{is_same_own, is_same_place}
use Rattle.pg_server.specs.pg_pieces.pg_house.Work.{State, is_root, note_left, place_touched, touched}
use Rattle.pg_server.specs.pg_pieces.pg_house.Passing.{cell_for, flags_touched, gets, given, greatest, is_held_back, is_other_flag, joined_with, offered, own_taken, own_touched, pass, pass_all, pass_own, passed_to, spread, taking, took}
use Rattle.pg_server.specs.pg_pieces.pg_house.Placing.{drawn, flags_of, live_place, made_at, own_with, place_at, place_of, placed}
use Rattle.pg_server.specs.pg_pieces.pg_house.Returning.{first_returning, is_returning, return_first, returned}
use Rattle.pg_server.specs.pg_pieces.pg_house.Cycles.{break_first, first_moving, moved}
use Rattle.pg_server.specs.pg_pieces.pg_house.House.{house, house_with, movable}
use Rattle.pg_server.proofs.pg_pieces.pg_house.AllReturned.{IsReturning, returning_by}
use Rattle.pg_server.proofs.pg_pieces.pg_house.Counting.{find_found}
use Rattle.pg_server.proofs.pg_pieces.pg_house.Repeating.{repeated_keeps}
use Rattle.pg_server.proofs.pg_pieces.pg_house.Truths.{chosen}
use Rattle.law_spelled.specs.Stores.{FitFlags, FitsNames, FitsOwn, FitsPlace, MayBeServer}
use Rattle.law_spelled.proofs.Flags.{many_more, no_flags}
use Rattle.law_spelled.proofs.Places.{cell_fits, last_fits, newer_fits, own_fits, set_entry_fits, set_own_fits, tilde_fits}

-- ---- what is done in an event

abbrev pub IsOfDir : Slot → Type 0
IsOfDir s = s.dir.kind ≡ Dir

-- of what is sent P holds, what is noted is of directories, and what came came from a server or from none
pub record FitsWork (P : Sent → Type 0) (work : Work) : Type 0 where
  pub sent : All P work.sent
  pub tail : All P work.tail
  pub left : All IsOfDir work.left
  pub unsure : All IsOfDir work.unsure
  pub from : MayBeServer work.from

pub record FitsState (P : Sent → Type 0) (st : State) : Type 0 where
  pub names : FitsNames st.names
  pub work : FitsWork P st.work

module _ (P : Sent → Type 0) where
  touched_fits : (work : Work) (f : FileId) (k : Key) (t : Bool) → FitsWork P work → FitsWork P (touched work f k t)
  touched_fits work f k t h =
      chosen (FitsWork P) t (with_touched work f k) work
      (record { sent = h.sent; tail = h.tail; left = h.left; unsure = h.unsure; from = h.from }) h

  -- where a live place is replaced its directory is noted
  pub noted_fits : (work : Work) (f : FileId) (old : Place) → old.parent.kind ≡ Dir → FitsWork P work → FitsWork P (note_left work f old)
  noted_fits work f old k h =
      chosen (FitsWork P) (old.live && not (is_root f)) (with_left work old.parent f) work
      (record {
        sent = h.sent;
        tail = h.tail;
        left = All-push IsOfDir work.left (record { dir = old.parent; child = f }) h.left k;
        unsure = h.unsure;
        from = h.from;
      }) h

  placed_work : (work : Work) (f : FileId) (old : Place) (t : Bool) → old.parent.kind ≡ Dir → FitsWork P work → FitsWork P (place_touched work f old t)
  placed_work work f old t k h =
      let next : FitsWork P (with_touched work f key.Place) = record { sent = h.sent; tail = h.tail; left = h.left; unsure = h.unsure; from = h.from } in
      chosen (FitsWork P) t (note_left (with_touched work f key.Place) f old) work (noted_fits (with_touched work f key.Place) f old k next) h

  flags_fit : (work : Work) (f : FileId) (held flags : List Flag) → FitsWork P work → FitsWork P (flags_touched work f held flags)
  flags_fit work f held [] h = h
  flags_fit work f held (g ∷ gs) h =
      let t : Bool = is_other_flag (flag_of held g.server) g in
      flags_fit (touched work f (key.Flag g.server) t) f held gs (touched_fits work f (key.Flag g.server) t h)

  own_work : (work : Work) (f : FileId) (own taken : Attributes) → own.place.parent.kind ≡ Dir → FitsWork P work → FitsWork P (own_touched work f own taken)
  own_work work f own taken k h =
      let t : Bool = not (is_same_place own.place taken.place) in
      flags_fit (place_touched work f own.place t) f own.flags taken.flags (placed_work work f own.place t k h)

  -- ---- passing

  joined_fits : (s : NamesValue) (f d : FileId) (top : Attributes) (o : Option Entry) → FitsNames s → cell_at s d f ≡ o → FitsOwn f top
      → FitsOwn f (joined_with top o)
  joined_fits s f d top None h e k = k
  joined_fits s f d top (Some c) h e k =
      let cell = cell_fits s h d f c e in
      record {
        place = newer_fits f top.place c.place k.place cell.place;
        flags = many_more top.flags c.flags cell.flags.each k.flags;
      }

  greatest_fits : (s : NamesValue) (f : FileId) (top : Attributes) (ds : List FileId) → FitsNames s → FitsOwn f top
      → FitsOwn f (greatest s f top ds)
  greatest_fits s f top [] h k = k
  greatest_fits s f top (d ∷ ds) h k =
      greatest_fits s f (joined_with top (cell_at s d f)) ds h (joined_fits s f d top (cell_at s d f) h refl k)

  given_fits : (st : State) (f : FileId) (top : Attributes) (d : FileId) → FitsOwn f top → FitsState P st → FitsState P (given st f top d)
  given_fits st f top d k h = record {
    names = set_entry_fits st.names d (cell_for f top) (record { child = refl; place = k.place; flags = k.flags }) h.names;
    work = record { sent = h.work.sent; tail = h.work.tail; left = h.work.left; unsure = h.work.unsure; from = h.work.from };
  }

  spread_fits : (st : State) (f : FileId) (own top : Attributes) (back : Bool) (ds : List FileId) → FitsOwn f top → FitsState P st
      → FitsState P (spread st f own top back ds)
  spread_fits st f own top back [] k h = h
  spread_fits st f own top back (d ∷ ds) k h =
      spread_fits (offered st f own top back d) f own top back ds k
      (chosen (FitsState P) (gets st.names f own top back d) (given st f top d) st (given_fits st f top d k h) h)

  taking_fits : (st : State) (f : FileId) (own taken : Attributes) → FitsOwn f own → FitsOwn f taken → FitsState P st
      → FitsState P (taking st f own taken)
  taking_fits st f own taken old k h =
      chosen (FitsState P) (is_same_own own taken) st (took st f own taken) h
      (record {
        names = set_own_fits st.names f taken k h.names;
        work = own_work st.work f own taken old.place.parent h.work;
      })

  taken_fits : (f : FileId) (own top : Attributes) (back : Bool) → FitsOwn f own → FitsOwn f top → FitsOwn f (own_taken own top back)
  taken_fits f own top true a b = record { place = a.place; flags = b.flags }
  taken_fits f own top false a b = b

  passed_fits : (st : State) (ds : List FileId) (f : FileId) (own : Attributes) → FitsOwn f own → FitsState P st
      → FitsState P (passed_to st ds f own (greatest st.names f own ds))
  passed_fits st ds f own k h =
      let top : Attributes = greatest st.names f own ds in
      let most : FitsOwn f top = greatest_fits st.names f own ds h.names k in
      let back : Bool = is_held_back st.names.removed f own top in
      taking_fits (spread st f own top back ds) f own (own_taken own top back) k (taken_fits f own top back k most)
      (spread_fits st f own top back ds most h)

  pass_by : (st : State) (ds : List FileId) (f : FileId) (o : Option Attributes) → own_at st.names f ≡ o → FitsState P st
      → FitsState P (pass_own st ds f o)
  pass_by st ds f None e h = h
  pass_by st ds f (Some own) e h = passed_fits st ds f own (own_fits st.names h.names f own e) h

  pass_fits : (st : State) (ds : List FileId) (f : FileId) → FitsState P st → FitsState P (pass st ds f)
  pass_fits st ds f h = pass_by st ds f (own_at st.names f) refl h

  pass_all_fits : (st : State) (ds fs : List FileId) → FitsState P st → FitsState P (pass_all st ds fs)
  pass_all_fits st ds [] h = h
  pass_all_fits st ds (f ∷ fs) h = pass_all_fits (pass st ds f) ds fs (pass_fits st ds f h)

  -- ---- new places

  dir_by : (f : FileId) (o : Option Attributes) → ((own : Attributes) → o ≡ Some own → FitsOwn f own) → (place_of o).parent.kind ≡ Dir
  dir_by f None each = refl
  dir_by f (Some own) each = (each own refl).place.parent

  flags_by : (f : FileId) (o : Option Attributes) → ((own : Attributes) → o ≡ Some own → FitsOwn f own) → FitFlags (flags_of o)
  flags_by f None each = no_flags
  flags_by f (Some own) each = (each own refl).flags

  placed_fits : (moment : ℕ) (ds : List FileId) (st : State) (f parent : FileId) (name : List ℕ)
      → FitsPlace f (live_place (drawn moment st.names) parent name) → FitsState P st → FitsState P (placed moment ds st f parent name)
  placed_fits moment ds st f parent name k h =
      let p : Place = live_place (drawn moment st.names) parent name in
      let was : (own : Attributes) → own_at st.names f ≡ Some own → FitsOwn f own = (λ own e. own_fits st.names h.names f own e) in
      let made : FitsState P (made_at st f p) = record {
        names = set_own_fits (with_last st.names p.stamp.time) f (own_with st.names f p)
            (record { place = k; flags = flags_by f (own_at st.names f) was }) (last_fits st.names p.stamp.time h.names);
        work = noted_fits (with_touched (with_made st.work (update.Place f p)) f key.Place) f (place_at st.names f)
            (dir_by f (own_at st.names f) was)
            (record { sent = h.work.sent; tail = h.work.tail; left = h.work.left; unsure = h.work.unsure; from = h.work.from });
      } in
      pass_fits (made_at st f p) ds f made

  -- a directory that comes back keeps its parent and its name
  back_fits : (moment : ℕ) (ds : List FileId) (st : State) (d : FileId) → IsReturning st.names d → FitsState P st
      → FitsState P (returned moment ds st (Some d))
  back_fits moment ds st d back h =
      let own : FitsPlace d back.held.0.place = (own_fits st.names h.names d back.held.0 back.held.1).place in
      let at : FitsPlace d (place_at st.names d) = subst (λ (o : Option Attributes). FitsPlace d (place_of o)) (sym back.held.1) own in
      placed_fits moment ds st d (place_at st.names d).parent (place_at st.names d).name (record { parent = at.parent; name = at.name }) h

  returned_fits : (moment : ℕ) (ds : List FileId) (st : State) (o : Option FileId) → first_returning st.names ds ≡ o → FitsState P st
      → FitsState P (returned moment ds st o)
  returned_fits moment ds st None e h = h
  returned_fits moment ds st (Some d) e h =
      back_fits moment ds st d (returning_by st.names d (known st.names d) refl (find_found (is_returning st.names) ds d e).0) h

  -- one that moves to the root gets the name that is made of its id
  moved_fits : (moment : ℕ) (ds : List FileId) (st : State) (o : Option FileId) → FitsState P st → FitsState P (moved moment ds st o)
  moved_fits moment ds st None h = h
  moved_fits moment ds st (Some d) h =
      placed_fits moment ds st d root (tilde_name d) (record { parent = refl; name = tilde_fits d }) h

  -- ---- all rules

  rules_fit : (moment : ℕ) (ds fs : List FileId) (st : State) → FitsState P st → FitsState P (house_with moment ds fs st)
  rules_fit moment ds fs st h =
      let n = length ds in
      repeated_keeps (FitsState P) (break_first moment ds) (λ t k. moved_fits moment ds t (first_moving t.names n None ds) k) n _
      (repeated_keeps (FitsState P) (return_first moment ds) (λ t k. returned_fits moment ds t (first_returning t.names ds) refl k) n _
      (pass_all_fits st ds fs h))

  pub house_fits : (moment : ℕ) (st : State) → FitsState P st → FitsState P (house moment st)
  house_fits moment st h = rules_fit moment (directories st.names) (movable st.names) st h
