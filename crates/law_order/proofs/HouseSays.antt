-- What is said of all that is known of names is said of what the house rules make of it.
use Rattle.std.proofs.Common.{ℕ, ◌≡◌, ◌&&◌, Bool, true, false, not, List, [], ◌∷◌, length, Option, None, Some, All, refl, sym, ap, subst, ◌∙◌, inl, inr}
use Rattle.std.specs.Map.{keys_of}
use Rattle.std.proofs.lemmas.List.Elements.{All-append, All-cons, All-nil}
use Rattle.std.proofs.lemmas.Option.{none-some}
use Rattle.std.proofs.lemmas.Bool.{and_parts, not-true, or_left, or_right}
use Rattle.law_frame.specs.pg_run.pg_base.declared.id.FileId.{FileId}
use Rattle.law_frame.specs.pg_run.pg_base.Id.{is_same_file}
use Rattle.law_frame.specs.pg_run.pg_base.Stamp.{is_before}
use Rattle.law_frame.proofs.pg_run.pg_base.Orders.{is_same_file-refl}
use Rattle.law_frame.specs.pg_run.pg_register.declared.flag.Flag.{Flag}
use Rattle.law_frame.specs.pg_run.pg_register.declared.place.Place.{Place}
use Rattle.law_frame.specs.pg_run.pg_register.Place.{root, tilde_name}
use Rattle.law_frame.specs.pg_run.pg_entries.declared.entry.Entry.{Entry}
use Rattle.law_frame.specs.pg_run.pg_edges.declared.key.Key.TheVariants as key
use Rattle.law_frame.specs.pg_run.pg_msg.declared.update.Update.TheVariants as update
use Rattle.law_frame.specs.pg_run.pg_msg.declared.work.Slot.{Slot}
use Rattle.law_frame.specs.pg_run.pg_msg.declared.work.Work.{Work}
use Rattle.law_frame.specs.pg_run.pg_msg.Work.{with_left, with_made, with_touched}
use Rattle.law_frame.specs.pg_run.pg_names.declared.attributes.Attributes.{Attributes}
use Rattle.law_frame.specs.pg_run.pg_names.Names.{NamesValue, cell_at, directories, known, own_at, set_entry, set_own, with_last}
use Rattle.law_frame.specs.pg_run.pg_names.Same.{is_same_own, is_same_place}
use Rattle.law_frame.proofs.pg_run.pg_names.Lookups.{entry_own, own_cell}
use Rattle.law_frame.specs.pg_run.pg_house.Cycles.{break_first, first_moving, moved}
use Rattle.law_frame.specs.pg_run.pg_house.Facts.{IsHeld, is_among}
use Rattle.law_frame.specs.pg_run.pg_house.House.{house, movable}
use Rattle.law_frame.specs.pg_run.pg_house.Passing.{cell_for, flags_touched, gets, given, greatest, is_held_back, is_other_flag, joined_with, offered, own_taken, pass, pass_all, pass_own, spread, taking, took}
use Rattle.law_frame.specs.pg_run.pg_house.Placing.{drawn, flags_of, live_place, made_at, own_with, place_at, place_of, placed}
use Rattle.law_frame.specs.pg_run.pg_house.Returning.{first_returning, is_returning, is_root, return_first, returned}
use Rattle.law_frame.specs.pg_run.pg_house.Work.{State, note_left, place_touched, touched}
use Rattle.law_frame.proofs.pg_run.pg_house.AllClimb.{IsDeep, member_deep, moving_member}
use Rattle.law_frame.proofs.pg_run.pg_house.AllReturned.{not_root, returning_by}
use Rattle.law_frame.proofs.pg_run.pg_house.Counting.{find_found, kept_dir}
use Rattle.law_frame.proofs.pg_run.pg_house.NoCycles.{inner_parts, some_dirs}
use Rattle.law_frame.proofs.pg_run.pg_house.Repeating.{repeated_keeps}
use Rattle.law_frame.proofs.pg_run.theory_flood_pieces.Choices.{chosen, decided}
use Rattle.law_frame.specs.pg_run.pg_register.Flag.{IsByServer, flag_of}
use Rattle.law_frame.proofs.pg_run.pg_register.ByServer.{IsByServer-join_flags, IsByServer-nil}
use Rattle.law_order.specs.Saying.{IsClosed, IsSaidCell, IsSaidLeft, IsSaidOf, IsSaidOwn, Saying}
use Rattle.law_order.proofs.Changes.{cell_written, own_written}
use Rattle.law_order.proofs.FlagsSay.{all_joined}

module _ (p : Saying) (c : IsClosed p) where
  -- ---- the greatest

  abbrev IsTop : FileId → Attributes → Type 0
  IsTop f own = p.IsPlace f own.place × All p.IsFlag own.flags × IsByServer own.flags

  joined_said : (f : FileId) (top : Attributes) (o : Option Entry) → IsTop f top → ((e : Entry) → o ≡ Some e → IsSaidCell p f e) → IsTop f (joined_with top o)
  joined_said f top None here there = here
  joined_said f top (Some e) here there = (
    chosen (p.IsPlace f) (is_before top.place.stamp e.place.stamp) e.place top.place (there e refl).place here.0,
    all_joined p.IsFlag top.flags e.flags here.1 (there e refl).flags,
    IsByServer-join_flags top.flags e.flags here.2,
  )

  greatest_said : (s : NamesValue) → IsSaidOf p s → (f : FileId) (top : Attributes) (ds : List FileId) → IsTop f top → IsTop f (greatest s f top ds)
  greatest_said s k f top [] here = here
  greatest_said s k f top (d ∷ ds) here =
      greatest_said s k f (joined_with top (cell_at s d f)) ds (joined_said f top (cell_at s d f) here (λ e h. k.cells d f e h))

  taken_said : (f : FileId) (own top : Attributes) (back : Bool) → IsTop f own → IsTop f top → IsTop f (own_taken own top back)
  taken_said f own top true here there = (here.0, there.1, there.2)
  taken_said f own top false here there = there

  own_said : (f : FileId) (own : Attributes) → p.IsThing f → IsTop f own → IsSaidOwn p f own
  own_said f own thing top = record { thing = thing; place = top.0; flags = top.1; order = top.2 }

  top_said : (f : FileId) (own : Attributes) → IsSaidOwn p f own → IsTop f own
  top_said f own k = (k.place, k.flags, k.order)

  -- ---- what is written

  written_said : (s : NamesValue) (f : FileId) (own : Attributes) → IsSaidOwn p f own → IsSaidOf p s → IsSaidOf p (set_own s f own)
  written_said s f own here k = record {
    own = λ q b h. elim (own_written s f own q b h) [
      | inl was ↦ k.own q b was
      | inr now ↦ (let P : FileId → Type 0 = λ x. IsSaidOwn p x b in
          let Q : Attributes → Type 0 = λ o. IsSaidOwn p f o in
          subst P (sym now.0) (subst Q (sym now.1) here))
    ];
    cells = λ d g e h. k.cells d g e (sym (own_cell s f own d g) ∙ h);
  }

  cell_said : (s : NamesValue) (d : FileId) (e : Entry) → IsSaidCell p e.child e → IsSaidOf p s → IsSaidOf p (set_entry s d e)
  cell_said s d e here k = record {
    own = λ q b h. k.own q b (sym (entry_own s d e q) ∙ h);
    cells = λ q g x h. elim (cell_written s d e q g x h) [
      | inl was ↦ k.cells q g x was
      | inr now ↦ (let P : FileId → Type 0 = λ y. IsSaidCell p y x in
          let Q : Entry → Type 0 = λ y. IsSaidCell p e.child y in
          subst P (sym now.0) (subst Q (sym now.1) here))
    ];
  }

  -- ---- what is noted

  abbrev pub AreLeft : List Slot → Type 0
  AreLeft ss = All (λ (slot : Slot). IsSaidLeft p slot) ss

  -- of a live place that is replaced, where the thing is not the root
  pub left_said : (w : Work) (f : FileId) (old : Place) → p.IsThing f → p.IsPlace f old → AreLeft w.left → AreLeft (note_left w f old).left
  left_said w f old thing place all =
      let P : Slot → Type 0 = λ slot. IsSaidLeft p slot in
      let slot : Slot = record { dir = old.parent; child = f } in
      decided (λ (v : Work). AreLeft v.left) (old.live && not (is_root f)) (with_left w old.parent f) w
      (λ noted. All-append P w.left (slot ∷ []) all (All-cons P slot []
      (record { dir = (c.parent f old place).1; of = (c.parent f old place).0; thing = thing; child = c.child f (not-true (is_root f) (and_parts old.live (not (is_root f)) noted).1) })
      (All-nil P)))
      (λ none. all)

  place_left : (w : Work) (f : FileId) (old : Place) (t : Bool) → p.IsThing f → p.IsPlace f old → AreLeft w.left → AreLeft (place_touched w f old t).left
  place_left w f old t thing place all =
      chosen (λ (v : Work). AreLeft v.left) t (note_left (with_touched w f key.Place) f old) w (left_said (with_touched w f key.Place) f old thing place all) all

  flags_left : (w : Work) (f : FileId) (held gs : List Flag) → AreLeft w.left → AreLeft (flags_touched w f held gs).left
  flags_left w f held [] all = all
  flags_left w f held (g ∷ gs) all =
      let t = is_other_flag (flag_of held g.server) g in
      flags_left (touched w f (key.Flag g.server) t) f held gs
      (chosen (λ (v : Work). AreLeft v.left) t (with_touched w f (key.Flag g.server)) w all all)

  -- ---- one thing passes

  abbrev pub AreSaid : State → Type 0
  AreSaid st = IsSaidOf p st.names × AreLeft st.work.left

  for_said : (f : FileId) (top : Attributes) → is_same_file f root ≡ false → p.IsThing f → IsTop f top → IsSaidCell p f (cell_for f top)
  for_said f top apart thing here = record { thing = thing; child = c.child f apart; place = here.0; flags = here.1; order = here.2 }

  offered_said : (st : State) (f : FileId) (own top : Attributes) (back : Bool) (d : FileId) → is_same_file f root ≡ false → p.IsThing f → IsTop f top → AreSaid st → AreSaid (offered st f own top back d)
  offered_said st f own top back d apart thing here k =
      chosen AreSaid (gets st.names f own top back d) (given st f top d) st
      (cell_said st.names d (cell_for f top) (for_said f top apart thing here) k.0, k.1) k

  spread_said : (st : State) (f : FileId) (own top : Attributes) (back : Bool) (es : List FileId) → is_same_file f root ≡ false → p.IsThing f → IsTop f top → AreSaid st → AreSaid (spread st f own top back es)
  spread_said st f own top back [] apart thing here k = k
  spread_said st f own top back (d ∷ es) apart thing here k =
      spread_said (offered st f own top back d) f own top back es apart thing here (offered_said st f own top back d apart thing here k)

  taking_said : (st : State) (f : FileId) (own taken : Attributes) → p.IsPlace f own.place → IsSaidOwn p f taken → AreSaid st → AreSaid (taking st f own taken)
  taking_said st f own taken old here k =
      let moves = not (is_same_place own.place taken.place) in
      chosen AreSaid (is_same_own own taken) st (took st f own taken) k (
        written_said st.names f taken here k.0,
        flags_left (place_touched st.work f own.place moves) f own.flags taken.flags (place_left st.work f own.place moves here.thing old k.1),
      )

  module _ (ds : List FileId) where
    pass_said_by : (st : State) (f : FileId) (o : Option Attributes) → own_at st.names f ≡ o → is_same_file f root ≡ false → AreSaid st → AreSaid (pass_own st ds f o)
    pass_said_by st f None h apart k = k
    pass_said_by st f (Some own) h apart k =
        let top = greatest st.names f own ds in
        let back = is_held_back st.names.removed f own top in
        let was = k.0.own f own h in
        let here = top_said f own was in
        let there = greatest_said st.names k.0 f own ds here in
        taking_said (spread st f own top back ds) f own (own_taken own top back) was.place
        (own_said f (own_taken own top back) was.thing (taken_said f own top back here there))
        (spread_said st f own top back ds apart was.thing there k)

    pass_said : (st : State) (f : FileId) → is_same_file f root ≡ false → AreSaid st → AreSaid (pass st ds f)
    pass_said st f apart k = pass_said_by st f (own_at st.names f) refl apart k

    all_said : (st : State) (fs : List FileId) → ((f : FileId) → is_among f fs ≡ true → is_same_file f root ≡ false) → AreSaid st → AreSaid (pass_all st ds fs)
    all_said st [] apart k = k
    all_said st (f ∷ fs) apart k =
        all_said (pass st ds f) fs (λ g among. apart g (or_right (is_same_file f g) (is_among g fs) among))
        (pass_said st f (apart f (or_left (is_same_file f f) (is_among f fs) (is_same_file-refl f))) k)

    -- ---- a place is made

    flags_said : (s : NamesValue) (f : FileId) (o : Option Attributes) → own_at s f ≡ o → IsSaidOf p s → All p.IsFlag (flags_of o)
    flags_said s f None h k = All-nil p.IsFlag
    flags_said s f (Some own) h k = (k.own f own h).flags

    flags_ordered : (s : NamesValue) (f : FileId) (o : Option Attributes) → own_at s f ≡ o → IsSaidOf p s → IsByServer (flags_of o)
    flags_ordered s f None h k = IsByServer-nil
    flags_ordered s f (Some own) h k = (k.own f own h).order

    place_is : (s : NamesValue) (f : FileId) (b : Attributes) → own_at s f ≡ Some b → p.IsPlace f b.place → p.IsPlace f (place_at s f)
    place_is s f b h k = subst (p.IsPlace f) (sym (ap place_of h)) k

    placed_said : (moment : ℕ) (st : State) (f q : FileId) (name : List ℕ) → is_same_file f root ≡ false → IsHeld st.names f → p.IsPlace f (live_place (drawn moment st.names) q name) → AreSaid st → AreSaid (placed moment ds st f q name)
    placed_said moment st f q name apart held place k =
        let new = live_place (drawn moment st.names) q name in
        let late : IsSaidOf p (with_last st.names new.stamp.time) = record { own = k.0.own; cells = k.0.cells } in
        let was = k.0.own f held.0 held.1 in
        pass_said (made_at st f new) f apart (
          written_said (with_last st.names new.stamp.time) f (own_with st.names f new)
              (record {
                thing = was.thing;
                place = place;
                flags = flags_said st.names f (own_at st.names f) refl k.0;
                order = flags_ordered st.names f (own_at st.names f) refl k.0;
              }) late,
          left_said (with_touched (with_made st.work (update.Place f new)) f key.Place) f (place_at st.names f) was.thing (place_is st.names f held.0 held.1 was.place) k.1,
        )

    -- ---- return and cycles

    return_said : (moment : ℕ) (st : State) (o : Option FileId) → first_returning st.names ds ≡ o → AreSaid st → AreSaid (returned moment ds st o)
    return_said moment st None h k = k
    return_said moment st (Some d) h k =
        let found = find_found (is_returning st.names) ds d h in
        let r = returning_by st.names d (known st.names d) refl found.0 in
        let apart = not_root d (own_at st.names d) r.dead_one in
        let was = place_at st.names d in
        let stands = place_is st.names d r.held.0 r.held.1 (k.0.own d r.held.0 r.held.1).place in
        placed_said moment st d was.parent was.name apart r.held (c.again d was (live_place (drawn moment st.names) was.parent was.name) apart stands refl refl) k

    move_said : (moment : ℕ) (st : State) (o : Option FileId) → first_moving st.names (length ds) None ds ≡ o → AreSaid st → AreSaid (moved moment ds st o)
    move_said moment st None h k = k
    move_said moment st (Some d) h k =
        elim (moving_member st.names (length ds) None ds d h) [
          | inl never ↦ absurd (none-some d never)
          | inr m ↦
              let deep : IsDeep st.names d = subst (IsDeep st.names) m.2 (member_deep st.names (length ds) m.0 (some_dirs moment ds st.names (length ds) ds d h) m.1) in
              let live = inner_parts st.names d deep.0 in
              placed_said moment st d root (tilde_name d) live.other live.held (c.below d (live_place (drawn moment st.names) root (tilde_name d)) live.other refl refl) k
        ]

  -- WHAT THE HOUSE RULES MAKE OF IT
  pub house_said : (moment : ℕ) (st : State) → AreSaid st → AreSaid (house moment st)
  house_said moment st k =
      let ds = directories st.names in
      let apart = λ (f : FileId) (among : is_among f (movable st.names) ≡ true). not-true (is_root f) (kept_dir (λ x. not (is_root x)) (keys_of st.names.held) f among) in
      repeated_keeps AreSaid (break_first moment ds) (λ t q. move_said ds moment t (first_moving t.names (length ds) None ds) refl q) (length ds) _
      (repeated_keeps AreSaid (return_first moment ds) (λ t q. return_said ds moment t (first_returning t.names ds) refl q) (length ds) _ (all_said ds st (movable st.names) apart k))
