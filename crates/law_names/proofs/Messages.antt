-- A message comes: what it carries is what the server knows more then.
use Rattle.std.proofs.Common.{ℕ, ◌≡◌, ◌&&◌, not, Bool, true, false, cond, List, [], ◌∷◌, ◌++◌, map, Some, refl, sym, ap, subst, ◌∙◌, inr, arith}
use Rattle.std.proofs.lemmas.Bool.{or_parts, and_parts}
use Rattle.std.proofs.lemmas.Bool.Decides.{nat_tests}
use Rattle.pg_run.specs.pg_base.declared.id.FileId.{FileId}
use Rattle.pg_run.specs.pg_base.declared.stamp.Stamp.{Stamp}
use Rattle.pg_run.specs.pg_base.Id.{is_same_file}
use Rattle.pg_run.specs.pg_base.Stamp.{is_before}
use Rattle.pg_run.specs.pg_content.Content.{Among}
use Rattle.pg_run.specs.pg_register.declared.flag.Flag.{Flag}
use Rattle.pg_run.specs.pg_register.declared.place.Place.{Place}
use Rattle.pg_run.specs.pg_register.Flag.{IsByServer}
use Rattle.pg_run.specs.pg_register.Place.{blank_place, first_stamp, root, root_place}
use Rattle.pg_run.specs.pg_entries.declared.cell.Cell.{Cell}
use Rattle.pg_run.specs.pg_entries.declared.cell.Cell.TheVariants as cell
use Rattle.pg_run.specs.pg_entries.declared.entry.Entry.{Entry}
use Rattle.pg_run.specs.pg_intent.declared.intent.Intent.TheVariants as intent
use Rattle.pg_run.specs.pg_msg.declared.message.Ask.TheVariants as ask
use Rattle.pg_run.specs.pg_msg.declared.message.Ends.{Ends}
use Rattle.pg_run.specs.pg_msg.declared.message.Granted.{Granted}
use Rattle.pg_run.specs.pg_msg.declared.message.Message.{Message}
use Rattle.pg_run.specs.pg_msg.declared.message.Message.TheVariants as message
use Rattle.pg_run.specs.pg_msg.declared.update.Update.{Update}
use Rattle.pg_run.specs.pg_msg.declared.work.Work.{Work}
use Rattle.pg_run.specs.pg_msg.Work.{new_work}
use Rattle.pg_run.specs.pg_names.Names.{NamesValue, cell_at, is_dir, is_place_new, known}
use Rattle.pg_run.specs.pg_house.Facts.{IsHeld}
use Rattle.pg_run.specs.pg_house.Passing.{is_update}
use Rattle.pg_run.specs.pg_house.Returning.{is_root}
use Rattle.pg_run.proofs.pg_house.Truths.{chosen_false}
use Rattle.pg_run.proofs.theory_flood_pieces.Together.{own_of_held}
use Rattle.pg_run.specs.pg_store.declared.store.Store.{Store}
use Rattle.pg_run.specs.pg_store.Births.{is_pending}
use Rattle.pg_run.specs.pg_store.Servers.{next_target}
use Rattle.pg_run.specs.pg_store.Store.{is_full, is_held, is_newer_place, put_place, take_place}
use Rattle.pg_run.specs.pg_store.Together.{AreTogether}
use Rattle.pg_run.proofs.pg_store.Given.{pending_may}
use Rattle.pg_run.specs.pg_pieces.declared.accepting.EdgeUse.TheVariants as manner
use Rattle.pg_run.specs.pg_pieces.Accepting.{accept, is_accepted, is_current}
use Rattle.pg_run.specs.pg_cells.Cells.{cell as cell_done, fits, taken, taken_along}
use Rattle.pg_run.specs.pg_pieces.Done.{Done, idle}
use Rattle.pg_run.specs.pg_pieces.Posting.{reply}
use Rattle.pg_run.specs.pg_pieces.Taking.{take_entry_noted, take_flag_noted, take_flags_noted, take_place_noted}
use Rattle.pg_run.specs.pg_repair.Confirming.{confirmed, place_told, take_told_flags, take_told_place}
use Rattle.pg_run.specs.pg_pieces.Golds.{is_gold}
use Rattle.pg_run.specs.pg_repair.Filling.{fill, invite, is_bronze, raise_if_few}
use Rattle.pg_run.specs.pg_repair.Granting.{begin_granted, begun_by, granted_own}
use Rattle.pg_run.specs.pg_repair.NoneHere.{asking_key}
use Rattle.pg_run.specs.pg_repair.Telling.{told}
use Rattle.pg_run.proofs.pg_calls.Walked.{full_own}
use Rattle.pg_run.specs.pg_server.Local.{receive}
use Rattle.pg_run.specs.Asking.{Asked}
use Rattle.pg_run.specs.Carried.{carried, gone_by, granted_takes}
use Rattle.pg_run.specs.Intending.{IntendsInOrder}
use Rattle.pg_run.specs.Known.{AreTold, IsCellTold, IsMessageTold, Told}
use Rattle.pg_run.specs.Took.{Take, entry_takes, first_place, flags_of, places_of, take_of, takes_in, without_gone}
use Rattle.pg_run.specs.Took.Take.{TookFlag, TookPlace}
use Rattle.pg_run.specs.Took.Taker.{Itself}
use Rattle.pg_run.proofs.Lists.{among_back}
use Rattle.law_names.specs.Goes.{Goes}
use Rattle.law_names.proofs.Bodies.{delta_stays, harbinger_stays, later_stays, piece_stays, want_stays, with_version}
use Rattle.law_names.proofs.Going.{goes_entry, goes_flag, goes_on, goes_place, goes_reordered, goes_version, still_held}
use Rattle.law_names.proofs.Held.{away_inner, current_held, none_of}
use Rattle.law_names.proofs.Leaving.{leave_ok_goes}
use Rattle.law_names.proofs.Making.{few_raised, fill_made}
use Rattle.law_names.proofs.Notes.{accepted_still, confirmed_names, entry_noted_made, fetched_still, flags_noted_made, leave_still, linked_still, none_here_names, place_noted_made, seek_still, taken_made, told_names, turned_names, unlink_names, walk_still}
use Rattle.law_names.proofs.Patched.{from_front, goes_with_patches, to_front}

-- ---- places that are no news

never_newer : (s t : Stamp) → is_before first_stamp t ≡ false → is_before s t ≡ false
never_newer s t h = grind (arith, nat_tests)

-- what is said of places: one with the first stamp is the one of which none came
abbrev pub AreFirst : Told → Type 0
AreFirst p = (f : FileId) (q : Place) → p.IsPlace f q → is_before first_stamp q.stamp ≡ false → q ≡ first_place f

-- what a server holds besides names, in the order that messages need
pub record IsReady (p : Told) (a : Store) : Type 0 where
  pub first : AreFirst p
  pub intends : IntendsInOrder a
  pub patches : (dir : FileId) (e : Entry) (target : ℕ) → Among (intent.Patch dir e target) a.intents
      → (is_dir dir ≡ true) × IsByServer e.flags
  pub cells : (dir child : FileId) (e : Entry) → cell_at a.names dir child ≡ Some e → p.IsPlace child e.place

module _ (removed : List ℕ) (p : Told) (a : Store) (now : List Take) (k : Goes removed a.names now) (ready : IsReady p a) where
  abbrev Is : NamesValue → List Take → Type 0
  Is = Goes removed

  together : AreTogether a
  together = ready.intends.held.together

  -- ---- one cell

  cell_goes : (s : Store) → s.names ≡ a.names → (f : FileId) → IsHeld a.names f → (c : Cell) (w : Work) → fits f c ≡ true → IsCellTold p f c
      → Is (taken s f c w).store.names (takes_in f c ++ now)
  cell_goes s e f held (cell.Place q) w fit good =
      goes_place removed s now (goes_on removed a.names s.names now e k) f (subst (λ (x : NamesValue). IsHeld x f) (sym e) held) q
  cell_goes s e f held (cell.Flag g) w fit good =
      goes_flag removed s now (goes_on removed a.names s.names now e k) f (subst (λ (x : NamesValue). IsHeld x f) (sym e) held) g
  cell_goes s e f held (cell.Entry c sure) w fit good =
      goes_entry removed s now (goes_on removed a.names s.names now e k) f (subst (λ (x : NamesValue). IsHeld x f) (sym e) held) fit c good.sorted
  cell_goes s e f held (cell.Version v) w fit good =
      goes_version removed s now (goes_on removed a.names s.names now e k) f v

  -- the names that are left, and that nothing is made
  abbrev pub Leaves : List Take → Done → Type 0
  Leaves xs d = Is d.store.names (xs ++ now) × (d.work.made ≡ [])

  module _ (from : ℕ) where
    abbrev W : Work
    W = new_work 0 from

    still_leaves : (d : Done) → d.store.names ≡ a.names → d.work.made ≡ [] → Leaves [] d
    still_leaves d e m = (goes_on removed a.names d.store.names now e k, m)

    module _ (ends : Ends) (tag : ℕ) (c : Cell) where
      abbrev Met : Done
      Met = accept a ends manner.Makes W

      met : (Met.store.names ≡ a.names) × (Met.work.made ≡ [])
      met = accepted_still a ends manner.Makes W

      came_by : (t u : Bool) → fits ends.file c ≡ t → is_current a from ends ≡ u → IsCellTold p ends.file c
          → Leaves (cond (u && t) (takes_in ends.file c) [])
          (cond t (cond (u && true) (taken_along ends tag c Met) Met) (idle a W))
      came_by true true fit current good = (
        cell_goes Met.store met.0 ends.file (current_held a together from ends current) c Met.work fit good,
        taken_made Met.store ends.file c Met.work ∙ met.1,
      )
      came_by true false fit current good = still_leaves Met met.0 met.1
      came_by false true fit current good = still_leaves (idle a W) refl refl
      came_by false false fit current good = still_leaves (idle a W) refl refl

      cell_came : (wants : Asked) → IsCellTold p ends.file c → Leaves (carried a wants from (message.Cell ends tag c)) (cell_done a ends tag c W)
      cell_came wants good = came_by (fits ends.file c) (is_current a from ends) refl refl good

    -- ---- a replica is granted

    module _ (ends : Ends) (g : Granted) (good : AreTold p ends.file g.place g.flags) (pending : is_pending a ends.file ends.receiver ≡ true) where
      abbrev F : FileId
      F = ends.file

      away : is_held a F ≡ false
      away = (pending_may a F ends.receiver ready.intends.held.births pending).away

      inner : is_same_file F root ≡ false
      inner = away_inner a F ready.intends.held.root away (is_same_file F root) refl

      first : is_before first_stamp g.place.stamp ≡ false → g.place ≡ blank_place F
      first h = ready.first F g.place good.place_is h ∙ chosen_false (is_same_file F root) root_place (blank_place F) inner

      abbrev Begun : Store
      Begun = begun_by a ends g

      begun_goes : Is Begun.names (granted_takes a F g ++ now)
      begun_goes =
          goes_with_patches removed a now k F (none_of (known a.names F) away) inner ends.receiver g.policy (granted_own g) false good.sorted first
          ready.intends.keys (λ e target h. ready.patches F e target h)

      granted_leaves : Leaves (granted_takes a F g) (begin_granted a ends g W)
      granted_leaves =
          let l = linked_still Begun F from ends.sender W in
          (goes_on removed Begun.names (begin_granted a ends g W).store.names (granted_takes a F g ++ now) l.0 begun_goes, l.1)

    grant_by : (t : Bool) (ends : Ends) (g : Granted) → is_pending a ends.file ends.receiver ≡ t → AreTold p ends.file g.place g.flags
        → Leaves (cond t (granted_takes a ends.file g) []) (cond t (begin_granted a ends g W) (accept a ends manner.Makes W))
    grant_by true ends g e good = granted_leaves ends g good e
    grant_by false ends g e good = let m = accepted_still a ends manner.Makes W in still_leaves (accept a ends manner.Makes W) m.0 m.1

    -- ---- a child is confirmed

    -- a place that is no update is no news
    place_by : (f : FileId) → IsHeld a.names f → (q : Place) (t : Bool) → is_update q ≡ t → Is (take_place a f q).names (cond t (TookPlace Itself f q ∷ []) [] ++ now)
    place_by f held q true e = goes_place removed a now k f held q
    place_by f held q false e =
        let old : is_newer_place a f q ≡ false =
        ap (λ o. is_place_new o q) held.1 ∙ never_newer held.0.place.stamp q.stamp (or_parts q.live (is_before first_stamp q.stamp) e).1 in
        subst (λ (b : Store). Is b.names now) (sym (chosen_false (is_newer_place a f q) (put_place a f q) a old)) k

    -- flags, one behind another
    flags_goes : (gs : List Flag) (s : Store) (w : Work) (f : FileId) (xs : List Take) → Is s.names xs → IsHeld s.names f
        → Is (take_flags_noted s f gs w).store.names (flags_of Itself f gs ++ xs)
    flags_goes [] s w f xs h held = h
    flags_goes (g ∷ gs) s w f xs h held =
        let d = take_flag_noted s f g w in
        let one = TookFlag Itself f g ∷ [] in
        let rest = flags_of Itself f gs in
        let next = goes_flag removed s xs h f held g in
        goes_reordered removed (take_flags_noted s f (g ∷ gs) w).store.names (rest ++ (one ++ xs)) ((one ++ rest) ++ xs)
        (flags_goes gs d.store d.work f (TookFlag Itself f g ∷ xs) next (still_held removed s.names d.store.names xs (TookFlag Itself f g ∷ xs) h next (λ x j. inr j) f held))
        (to_front one rest xs) (from_front one rest xs)

    module _ (dir : FileId) (e : Entry) where
      abbrev C : FileId
      C = e.child

      abbrev Placed : Done
      Placed = take_told_place a e W

      abbrev Places : Bool → List Take
      Places t = cond t [] (places_of Itself C e.place)

      told_by : IsHeld a.names C → (t : Bool) → is_root C ≡ t → Is (cond t (idle a W) (take_place_noted a C e.place W)).store.names (Places t ++ now)
      told_by held true r = k
      told_by held false r = place_by C held e.place (is_update e.place) refl

      placed_made : (t : Bool) → (cond t (idle a W) (take_place_noted a C e.place W)).work.made ≡ []
      placed_made true = refl
      placed_made false = place_noted_made a C e.place W

      confirmed_leaves : IsHeld a.names C → Leaves (Places (is_root C) ++ flags_of Itself C e.flags) (place_told dir C (take_told_flags e Placed))
      confirmed_leaves held =
          let places = Places (is_root C) in
          let flags = flags_of Itself C e.flags in
          let one : Is Placed.store.names (places ++ now) = told_by held (is_root C) refl in
          let here = still_held removed a.names Placed.store.names now (places ++ now) k one (λ x. among_back x places now) C held in (
            goes_reordered removed (take_told_flags e Placed).store.names (flags ++ (places ++ now)) ((places ++ flags) ++ now)
                (flags_goes e.flags Placed.store Placed.work C (places ++ now) one here) (to_front places flags now) (from_front places flags now),
            flags_noted_made e.flags Placed.store C Placed.work ∙ placed_made (is_root C),
          )

      confirm_by : (t : Bool) → is_held a C ≡ t
          → Leaves (cond t (Places (is_root C) ++ flags_of Itself C e.flags) []) (cond t (place_told dir C (take_told_flags e Placed)) (idle a (reply a (message.NoneHere ask.Confirm dir C) W)))
      confirm_by true h = confirmed_leaves (own_of_held a.names C h)
      confirm_by false h = still_leaves (idle a (reply a (message.NoneHere ask.Confirm dir C) W)) refl refl

      -- ---- a directory is told

      entry_leaves : is_dir dir ≡ true → IsByServer e.flags → IsHeld a.names dir → Leaves (entry_takes dir e) (take_entry_noted a dir e W)
      entry_leaves is sorted held = (goes_entry removed a now k dir held is e sorted, entry_noted_made a dir e W)

      place_is_by : is_dir dir ≡ true → IsByServer e.flags → (t : Bool) → is_held a dir ≡ t
          → Leaves (cond t (entry_takes dir e) []) (cond t (confirmed dir e (take_entry_noted a dir e W)) (idle a W))
      place_is_by is sorted true h =
          let l = entry_leaves is sorted (own_of_held a.names dir h) in
          let s = (take_entry_noted a dir e W).store in
          (goes_on removed s.names (confirmed dir e (take_entry_noted a dir e W)).store.names (entry_takes dir e ++ now) (confirmed_names s dir e) l.0, l.1)
      place_is_by is sorted false h = still_leaves (idle a W) refl refl

      tell_by : is_dir dir ≡ true → IsByServer e.flags → (t : Bool) → is_held a dir ≡ t
          → Leaves (cond t (entry_takes dir e) []) (cond t (told dir e (take_entry_noted a dir e W)) (idle a (reply a (message.NoneHere ask.Patch dir C) W)))
      tell_by is sorted true h = entry_leaves is sorted (own_of_held a.names dir h)
      tell_by is sorted false h = still_leaves (idle a (reply a (message.NoneHere ask.Patch dir C) W)) refl refl

    -- ---- a filling thing is full

    abbrev pub With : List Take → Done → Type 0
    With xs d = Is d.store.names (map take_of d.work.made ++ (xs ++ now))

    full_with : (f : FileId) → IsHeld a.names f → With [] (fill a f W)
    full_with f held = fill_made removed now (idle a W) k f held

    full_by : (t : Bool) (ends : Ends) → (is_accepted a from manner.Answers ends && not (is_full a ends.file)) ≡ t → With [] (cond t (fill a ends.file W) (idle a W))
    full_by true ends h =
        let accepted = (and_parts (is_accepted a from manner.Answers ends) (not (is_full a ends.file)) h).0 in
        full_with ends.file (current_held a together from ends (and_parts (is_current a from ends) _ accepted).0)
    full_by false ends h = k

    -- ---- one gold more is asked for

    made_none : (d : Done) → d.store.names ≡ a.names → d.work.made ≡ [] → With [] d
    made_none d e m =
        let P : List Update → Type 0 = λ us. Is d.store.names (map take_of us ++ now) in
        subst P (sym m) (goes_on removed a.names d.store.names now e k)

    invite_by : (t u : Bool) (ends : Ends) (d : Done) → With [] d → is_bronze d.store ends.file ≡ u
        → With [] (cond t (cond u (raise_if_few d.store ends.file d.work) d) d)
    invite_by true true ends d h bronze =
        few_raised removed now d h ends.file (full_own d.store.names ends.file (and_parts (is_full d.store ends.file) (not (is_gold d.store ends.file)) bronze).0)
    invite_by true false ends d h bronze = h
    invite_by false u ends d h bronze = h

    invite_is : (ends : Ends) → With [] (invite a ends W)
    invite_is ends =
        let d = accept a ends manner.Needs W in
        let s = accepted_still a ends manner.Needs W in
        invite_by (is_accepted a from manner.Needs ends) (is_bronze d.store ends.file) ends d (made_none d s.0 s.1) refl

    -- ---- any message

    leaves_with : (wants : Asked) (m : Message) → Leaves (carried a wants from m) (receive a m W) → With (carried a wants from m) (receive a m W)
    leaves_with wants m l =
        let P : List Update → Type 0 = λ us. Is (receive a m W).store.names (map take_of us ++ (carried a wants from m ++ now)) in
        subst P (sym l.1) l.0

    -- A MESSAGE COMES
    pub message_goes : (wants : Asked) (m : Message) → IsMessageTold p m
        → Is (receive a m W).store.names (map take_of (receive a m W).work.made ++ (carried a wants from m ++ without_gone (gone_by a from m) now))
    message_goes wants (message.Cell ends tag c) good = leaves_with wants (message.Cell ends tag c) (cell_came ends tag c wants good)
    message_goes wants (message.Ack ends kk tag) good = k
    message_goes wants (message.Harbinger ends tag head) good =
        leaves_with wants (message.Harbinger ends tag head) (harbinger_stays removed a now k from ends tag head)
    message_goes wants (message.Want ends wanted) good = leaves_with wants (message.Want ends wanted) (want_stays removed a now k from ends wanted)
    message_goes wants (message.Delta ends delta) good =
        let m = message.Delta ends delta in
        leaves_with wants m (with_version removed a now k from _ ends.file delta.head.stamp (receive a m W) (delta_stays removed a now k from ends delta))
    message_goes wants (message.Piece ends piece) good =
        let m = message.Piece ends piece in
        leaves_with wants m (with_version removed a now k from _ ends.file piece.head.stamp (receive a m W) (piece_stays removed a now k from ends piece))
    message_goes wants (message.Later ends stamp) good = leaves_with wants (message.Later ends stamp) (later_stays removed a now k from ends stamp)
    message_goes wants (message.Fetch file birth) good =
        let s = fetched_still a file birth W in leaves_with wants (message.Fetch file birth) (still_leaves (receive a (message.Fetch file birth) W) s.0 s.1)
    message_goes wants (message.Grant ends g) good = leaves_with wants (message.Grant ends g) (grant_by (is_pending a ends.file ends.receiver) ends g refl good)
    message_goes wants (message.NoGrant file birth) good =
        leaves_with wants (message.NoGrant file birth) (still_leaves (receive a (message.NoGrant file birth) W) (turned_names a file birth from (next_target a from)) refl)
    message_goes wants (message.Full ends) good = full_by (is_accepted a from manner.Answers ends && not (is_full a ends.file)) ends refl
    message_goes wants (message.Seek file birth) good =
        let s = seek_still a file birth W in leaves_with wants (message.Seek file birth) (still_leaves (receive a (message.Seek file birth) W) s.0 s.1)
    message_goes wants (message.Greet ends why) good =
        let s = accepted_still a ends manner.Makes W in leaves_with wants (message.Greet ends why) (still_leaves (receive a (message.Greet ends why) W) s.0 s.1)
    message_goes wants (message.NoneHere what file child) good =
        leaves_with wants (message.NoneHere what file child) (still_leaves (receive a (message.NoneHere what file child) W) (none_here_names a (asking_key what file child) from) refl)
    message_goes wants (message.Gone file birth) good =
        leaves_with wants (message.Gone file birth) (still_leaves (receive a (message.Gone file birth) W) (unlink_names a file from birth) refl)
    message_goes wants (message.Bye ends) good =
        leaves_with wants (message.Bye ends) (still_leaves (receive a (message.Bye ends) W) (unlink_names a ends.file from ends.sender) refl)
    message_goes wants (message.ByeOk file birth) good = k
    message_goes wants (message.Confirm dir e) good = leaves_with wants (message.Confirm dir e) (confirm_by dir e (is_held a e.child) refl)
    message_goes wants (message.PlaceIs dir e) good = leaves_with wants (message.PlaceIs dir e) (place_is_by dir e good.0 good.1.sorted (is_held a dir) refl)
    message_goes wants (message.Tell dir e) good = leaves_with wants (message.Tell dir e) (tell_by dir e good.0 good.1.sorted (is_held a dir) refl)
    message_goes wants (message.TellOk dir child stamp) good =
        leaves_with wants (message.TellOk dir child stamp) (still_leaves (receive a (message.TellOk dir child stamp) W) (told_names a dir child stamp from) refl)
    message_goes wants (message.Leave ends stamp) good =
        let s = leave_still a ends stamp W in leaves_with wants (message.Leave ends stamp) (still_leaves (receive a (message.Leave ends stamp) W) s.0 s.1)
    message_goes wants (message.LeaveOk ends stamp) good = leave_ok_goes removed a now k ready.intends.leaves from ends stamp
    message_goes wants (message.Invite ends) good = invite_is ends
    message_goes wants (message.Walk ends origin birth hops word) good =
        let m = message.Walk ends origin birth hops word in
        let s = walk_still a ends origin birth hops word W in leaves_with wants m (still_leaves (receive a m W) s.0 s.1)
