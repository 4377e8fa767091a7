-- What replicas take was made in the run, or was there at the start: so places are told apart by
-- stamps, and flags by server, birth and number.
use Rattle.std.proofs.Common.{ℕ, ◌≡◌, ◌==◌, ◌&&◌, ◌||◌, nat_lt, Bool, true, false, cond, List, [], ◌∷◌, ◌++◌, map, Option, None, Some, Result, Ok, Err, refl, sym, subst, ◌∙◌, inl, inr, ◌⊎◌, arith}
use Rattle.std.proofs.lemmas.Bool.Decides.{nat_tests}
use Rattle.pg_run.specs.pg_base.declared.id.FileId.{FileId}
use Rattle.pg_run.specs.pg_base.Id.{is_same_file}
use Rattle.pg_run.specs.pg_base.Stamp.{is_before}
use Rattle.pg_run.proofs.pg_base.Orders.{stamp_of_parts}
use Rattle.pg_run.specs.pg_content.Content.{Among}
use Rattle.pg_run.proofs.pg_content.Members.{among_map}
use Rattle.pg_run.specs.pg_register.declared.flag.Flag.{Flag}
use Rattle.pg_run.specs.pg_register.declared.place.Place.{Place}
use Rattle.pg_run.specs.pg_register.Place.{first_stamp, root}
use Rattle.pg_run.specs.pg_entries.declared.cell.Cell.{Cell}
use Rattle.pg_run.specs.pg_entries.declared.cell.Cell.TheVariants as cell
use Rattle.pg_run.specs.pg_entries.declared.entry.Entry.{Entry as ChildEntry}
use Rattle.pg_run.specs.pg_event.declared.entry.Entry.{Entry}
use Rattle.pg_run.specs.pg_intent.declared.intent.Intent.{Intent}
use Rattle.pg_run.specs.pg_intent.declared.intent.Intent.TheVariants as intent
use Rattle.pg_run.specs.pg_msg.declared.message.Message.{Message}
use Rattle.pg_run.specs.pg_msg.declared.message.Message.TheVariants as message
use Rattle.pg_run.specs.pg_msg.declared.update.Update.{Update}
use Rattle.pg_run.specs.pg_msg.declared.update.Update.TheVariants as update
use Rattle.pg_run.specs.pg_msg.Work.{new_work, with_made}
use Rattle.pg_run.specs.pg_call.declared.call.Call.{Call}
use Rattle.pg_run.specs.pg_call.declared.call.Call.TheVariants as call
use Rattle.pg_run.specs.pg_call.declared.reply.Reply.{Reply}
use Rattle.pg_run.specs.pg_call.declared.reply.Reply.TheVariants as reply
use Rattle.pg_run.specs.pg_names.Names.{cell_at, is_dir}
use Rattle.pg_run.specs.pg_house.Passing.{is_update}
use Rattle.pg_run.specs.pg_house.Returning.{is_root}
use Rattle.pg_run.specs.pg_store.declared.store.Store.{Store}
use Rattle.pg_run.specs.pg_store.Births.{is_pending}
use Rattle.pg_run.specs.pg_store.Start.{first_flags}
use Rattle.pg_run.specs.pg_store.Store.{is_held}
use Rattle.pg_run.specs.pg_pieces.Accepting.{is_current}
use Rattle.pg_run.specs.pg_cells.Cells.{fits}
use Rattle.pg_run.specs.pg_server.declared.input.Input.{Input}
use Rattle.pg_run.specs.pg_server.declared.input.Input.TheVariants as input
use Rattle.pg_run.specs.pg_checks.Answer.{answer, answered}
use Rattle.pg_run.specs.pg_calls.Calls.{do_call}
use Rattle.pg_run.specs.pg_calls.Forgetting.{begin_lost, dead_at, dirs_of, fill_lost, forget_lost, is_wanted, last_place, last_listing, lost_at, strike_out, struck_out, unwished}
use Rattle.pg_run.specs.pg_lookup.declared.paths.LookupError.{LookupError}
use Rattle.pg_run.specs.pg_server.Local.{first_effect, reply_to}
use Rattle.pg_run.specs.Asking.{Asked}
use Rattle.pg_run.specs.Carried.{anew_takes, begun_by, came, came_by, carried, forgotten_takes, granted_takes, known_takes, patch_taken, patches_taken, struck_by, struck_takes}
use Rattle.pg_run.specs.Known.{AreTold, IsCellTold, IsEntryTold, IsFlagOf, IsMessageTold, IsPlaceOf, Told, WasMade, WasRaised, of_run}
use Rattle.pg_run.specs.Run.{World}
use Rattle.pg_run.specs.Took.{Take, Taker, entry_takes, first_place, flags_of, places_of, take_of, takes_in}
use Rattle.pg_run.specs.Took.Take.{Began, TookFlag, TookPlace, TookVersion}
use Rattle.pg_run.specs.Took.Taker.{InDir, Itself}
use Rattle.pg_run.proofs.Knowing.{Within}
use Rattle.pg_run.proofs.Lists.{among_parts, among_pieces}
use Rattle.pg_run.proofs.Striking.{marked_made}
use Rattle.law_names.specs.Merged.{AreTakesTold, IsTakeTold, StandsOn}
use Rattle.pg_run.proofs.pg_calls.LastPlace.{last_is}
use Rattle.law_passing.specs.Newest.{IsAnyOf}
use Rattle.law_passing.specs.Tells.{AreApart, KnowsFlag, KnowsPlace}
use Rattle.law_passing.proofs.Latest.{first_stamp_is}
use Rattle.law_passing.proofs.Takes.{flag_known, place_known}

-- a message that comes tells of what is known
abbrev pub IsInputGood : Told → Input → Type 0
IsInputGood p (input.Call moment c) = Unit {0}
IsInputGood p (input.Tick moment word) = Unit {0}
IsInputGood p (input.Arrival packet) = IsMessageTold p packet.message
IsInputGood p input.Restart = Unit {0}

-- ---- lists of takes

module _ (p : Told) where
  pub both_told : (xs ys : List Take) → AreTakesTold p xs → AreTakesTold p ys → AreTakesTold p (xs ++ ys)
  both_told xs ys h k x among = elim (among_parts x xs ys among) [ inl first ↦ h x first | inr second ↦ k x second ]

  none_told : AreTakesTold p []
  none_told x among = absurd among

  pub where_told : (t : Bool) (xs : List Take) → AreTakesTold p xs → AreTakesTold p (cond t xs [])
  where_told true xs h = h
  where_told false xs h = none_told

  pub unless_told : (t : Bool) (xs : List Take) → AreTakesTold p xs → AreTakesTold p (cond t [] xs)
  unless_told true xs h = none_told
  unless_told false xs h = h

  one_told : (x : Take) → IsTakeTold p x → AreTakesTold p (x ∷ [])
  one_told x h y (inl e) = subst (IsTakeTold p) (sym e) h
  one_told x h y (inr none) = absurd none

  -- what tells nothing new is told too
  pub within_told : (new old : List Take) → Within new old → AreTakesTold p old → AreTakesTold p new
  within_told new old w h (TookVersion f s) among = tt
  within_told new old w h (Began f) among = tt
  within_told new old w h (TookPlace by f q) among =
      let k = place_known f old q (w (TookPlace by f q) among) in h (TookPlace k.0 f q) k.1
  within_told new old w h (TookFlag by f g) among =
      let k = flag_known f old g (w (TookFlag by f g) among) in h (TookFlag k.0 f g) k.1

  -- ---- what a message carries

  places_told : (by : Taker) (f : FileId) (q : Place) → p.IsPlace f q → AreTakesTold p (places_of by f q)
  places_told by f q h = where_told (is_update q) (TookPlace by f q ∷ []) (one_told (TookPlace by f q) h)

  flags_told : (by : Taker) (f : FileId) (gs : List Flag) → ((g : Flag) → Among g gs → p.IsFlag f g) → AreTakesTold p (flags_of by f gs)
  flags_told by f gs h x among =
      let r = among_map (TookFlag by f) gs x among in subst (IsTakeTold p) (sym r.2) (h r.0 r.1)

  entry_told : (dir : FileId) (e : ChildEntry) → IsEntryTold p e → AreTakesTold p (entry_takes dir e)
  entry_told dir e h x (inl same) = subst (IsTakeTold p) (sym same) h.place_is
  entry_told dir e h x (inr more) = flags_told (InDir dir) e.child e.flags h.flags_are x more

  cell_told : (f : FileId) (c : Cell) → IsCellTold p f c → AreTakesTold p (takes_in f c)
  cell_told f (cell.Place q) h = one_told (TookPlace Itself f q) h
  cell_told f (cell.Flag g) h = one_told (TookFlag Itself f g) h
  cell_told f (cell.Entry e sure) h = entry_told f e h
  cell_told f (cell.Version v) h = one_told (TookVersion f v.head.stamp) tt

  module _ (a : Store) (patches : (dir : FileId) (e : ChildEntry) (target : ℕ) → Among (intent.Patch dir e target) a.intents → IsEntryTold p e) where
    patch_told : (f : FileId) (i : Intent) → Among i a.intents → AreTakesTold p (patch_taken f i)
    patch_told f (intent.Bye file birth peer peer_birth) h = none_told
    patch_told f (intent.Seek file target) h = none_told
    patch_told f (intent.Fill file birth target) h = none_told
    patch_told f (intent.Confirm dir child target) h = none_told
    patch_told f (intent.Leave file peer peer_birth) h = none_told
    patch_told f (intent.Patch to e target) h = where_told (is_same_file to f) (entry_takes f e) (entry_told f e (patches to e target h))

    patches_told : (f : FileId) → AreTakesTold p (patches_taken a f)
    patches_told f x among =
        let r = among_pieces (patch_taken f) x a.intents among in patch_told f r.0 r.1 x r.2

    granted_told : (f : FileId) (place : Place) (flags : List Flag) → AreTold p f place flags
        → AreTakesTold p (Began f ∷ places_of Itself f place ++ (flags_of Itself f flags ++ patches_taken a f))
    granted_told f place flags h x (inl e) = subst (IsTakeTold p) (sym e) tt
    granted_told f place flags h x (inr more) =
        both_told (places_of Itself f place) (flags_of Itself f flags ++ patches_taken a f) (places_told Itself f place h.place_is)
        (both_told (flags_of Itself f flags) (patches_taken a f) (flags_told Itself f flags h.flags_are) (patches_told f)) x more

    confirm_told : (e : ChildEntry) → IsEntryTold p e
        → AreTakesTold p (cond (is_root e.child) [] (places_of Itself e.child e.place) ++ flags_of Itself e.child e.flags)
    confirm_told e h =
        both_told (cond (is_root e.child) [] (places_of Itself e.child e.place)) (flags_of Itself e.child e.flags)
        (unless_told (is_root e.child) (places_of Itself e.child e.place) (places_told Itself e.child e.place h.place_is))
        (flags_told Itself e.child e.flags h.flags_are)

    carried_told : (wants : Asked) (from : ℕ) (m : Message) → IsMessageTold p m → AreTakesTold p (carried a wants from m)
    carried_told wants from (message.Cell ends tag c) h =
        where_told (is_current a from ends && fits ends.file c) (takes_in ends.file c) (cell_told ends.file c h)
    carried_told wants from (message.Grant ends g) h =
        where_told (is_pending a ends.file ends.receiver) (granted_takes a ends.file g) (granted_told ends.file g.place g.flags h)
    carried_told wants from (message.Confirm dir e) h =
        where_told (is_held a e.child) (cond (is_root e.child) [] (places_of Itself e.child e.place) ++ flags_of Itself e.child e.flags) (confirm_told e h.1)
    carried_told wants from (message.PlaceIs dir e) h = where_told (is_held a dir) (entry_takes dir e) (entry_told dir e h.1)
    carried_told wants from (message.Tell dir e) h = where_told (is_held a dir) (entry_takes dir e) (entry_told dir e h.1)
    carried_told wants from (message.Ack ends k tag) h = none_told
    carried_told wants from (message.Harbinger ends tag head) h = none_told
    carried_told wants from (message.Want ends wanted) h = none_told
    carried_told wants from (message.Delta ends d) h =
        let u = TookVersion ends.file d.head.stamp in where_told _ (u ∷ []) (one_told u tt)
    carried_told wants from (message.Piece ends p) h =
        let u = TookVersion ends.file p.head.stamp in where_told _ (u ∷ []) (one_told u tt)
    carried_told wants from (message.Later ends stamp) h = none_told
    carried_told wants from (message.Fetch file birth) h = none_told
    carried_told wants from (message.NoGrant file birth) h = none_told
    carried_told wants from (message.Full ends) h = none_told
    carried_told wants from (message.Seek file birth) h = none_told
    carried_told wants from (message.Greet ends why) h = none_told
    carried_told wants from (message.NoneHere ask file child) h = none_told
    carried_told wants from (message.Gone file birth) h = none_told
    carried_told wants from (message.Bye ends) h = none_told
    carried_told wants from (message.ByeOk file birth) h = none_told
    carried_told wants from (message.TellOk dir child stamp) h = none_told
    carried_told wants from (message.Leave ends stamp) h = none_told
    carried_told wants from (message.LeaveOk ends stamp) h = none_told
    carried_told wants from (message.Invite ends) h = none_told
    carried_told wants from (message.Walk ends origin birth hops word) h = none_told

    -- ---- a reply

    reply_told : (r : Option Reply) → AreTakesTold p (begun_by r)
    reply_told None = none_told
    reply_told (Some reply.Done) = none_told
    reply_told (Some (reply.Made id)) = one_told (Began id) tt
    reply_told (Some (reply.Wrote stamp)) = none_told
    reply_told (Some (reply.Bytes bytes)) = none_told
    reply_told (Some (reply.Names total rows)) = none_told
    reply_told (Some (reply.Stat stat)) = none_told
    reply_told (Some (reply.Leaving server)) = none_told
    reply_told (Some (reply.Status counts)) = none_told
    reply_told (Some (reply.Refused why)) = none_told

    -- ---- what was lost

    module _ (cells : (dir child : FileId) (e : ChildEntry) → cell_at a.names dir child ≡ Some e → p.IsPlace child e.place) where
      known_told : (id : FileId) (o : Option Place) → last_place a.names id ≡ o → AreTakesTold p (known_takes id o)
      known_told id None e = none_told
      known_told id (Some q) e =
          let l = last_is a.names id q e in
          one_told (TookPlace Itself id q) (subst (p.IsPlace id) l.is (cells l.dir id l.cell l.there))

      anew_told : (id : FileId) → AreTakesTold p (anew_takes a id)
      anew_told id =
          let rest = known_takes id (last_place a.names id) ++ patches_taken a id in
          where_told (is_wanted a id) (Began id ∷ rest)
          (both_told (Began id ∷ []) rest (one_told (Began id) tt)
          (both_told (known_takes id (last_place a.names id)) (patches_taken a id) (known_told id (last_place a.names id) refl) (patches_told id)))

-- the dead place with which a file is struck out was made
struck_made : (a : Store) (moment : ℕ) (id dir : FileId)
    → Among (update.Place id (dead_at a moment id dir)) (struck_out a id (new_work moment 0) (Some dir)).work.made
struck_made a moment id dir =
    let u = update.Place id (dead_at a moment id dir) in
    let P : List Update → Type 0 = λ us. Among u us in
    subst P (sym (marked_made (dirs_of a.names id) (unwished a id) id (dead_at a moment id dir) (with_made (new_work moment 0) u))) (inl refl)

-- ---- any input

-- what was told before, in the words of p, is told then, in those of q; and so is what the event
-- makes
module _ (p q : Told) (later : (xs : List Take) → AreTakesTold p xs → AreTakesTold q xs) (a : Store)
    (patches : (dir : FileId) (e : ChildEntry) (target : ℕ) → Among (intent.Patch dir e target) a.intents → IsEntryTold p e)
    (cells : (dir child : FileId) (e : ChildEntry) → cell_at a.names dir child ≡ Some e → p.IsPlace child e.place) where
  abbrev MadeIs : List Update → Type 0
  MadeIs us = (f : FileId) (r : Place) → Among (update.Place f r) us → q.IsPlace f r

  struck_told : (moment : ℕ) (id : FileId) (o : Option FileId) → MadeIs (struck_out a id (new_work moment 0) o).work.made
      → AreTakesTold q (struck_by a moment id o)
  struck_told moment id None made = none_told q
  struck_told moment id (Some dir) made =
      let dead = dead_at a moment id dir in
      (λ x among. let r = among_map (λ (d : FileId). TookPlace (InDir d) id dead) (dirs_of a.names id) x among in
      subst (IsTakeTold q) (sym r.2) (made id dead (struck_made a moment id dir)))

  lost_by : (moment : ℕ) (id : FileId) (held dir : Bool)
      → MadeIs (cond held (fill_lost a id (new_work moment 0)) (cond dir (begin_lost a id (new_work moment 0)) (strike_out a id (new_work moment 0)))).work.made
      → AreTakesTold q (cond held [] (cond dir (anew_takes a id) (struck_takes a moment id)))
  lost_by moment id true dir made = none_told q
  lost_by moment id false true made = later (anew_takes a id) (anew_told p a patches cells id)
  lost_by moment id false false made = struck_told moment id (last_listing a.names id (dirs_of a.names id)) made

  forgotten_told : (moment : ℕ) (o : Result FileId LookupError)
      → MadeIs (answered a (new_work moment 0) o (λ found. answer (forget_lost a found (new_work moment 0)) reply.Done)).work.made
      → AreTakesTold q (forgotten_takes a moment o)
  forgotten_told moment (Err why) made = none_told q
  forgotten_told moment (Ok id) made = lost_by moment id (is_held a id) (is_dir id) made

  call_told : (moment : ℕ) (c : Call) → MadeIs (do_call a c (new_work moment 0)).work.made → AreTakesTold q (came_by a moment c)
  call_told moment (call.Forget id) made = forgotten_told moment (lost_at a id) made
  call_told moment c made =
      let r = reply_to a (input.Call moment c) in
      later (begun_by r) (reply_told p a patches r)

  pub came_told : (wants : Asked) (asked : Input) → MadeIs (first_effect a asked).work.made → IsInputGood p asked → AreTakesTold q (came a wants asked)
  came_told wants (input.Call moment c) made h = call_told moment c made
  came_told wants (input.Tick moment word) made h = none_told q
  came_told wants (input.Arrival packet) made h =
      later (carried a wants packet.from packet.message) (carried_told p a patches wants packet.from packet.message h)
  came_told wants input.Restart made h = none_told q

-- ---- what is made, and was made

abbrev IsPlaceBy : List Entry → FileId → Place → Type 0
IsPlaceBy journal f q = (q ≡ first_place f) ⊎ WasMade journal f q

abbrev IsFlagBy : ℕ → List Entry → FileId → Flag → Type 0
IsFlagBy servers journal f g = ((f ≡ root) × Among g (first_flags servers)) ⊎ WasRaised journal f g

made_one : (servers : ℕ) (w : World) (made : List Update) (u : Update) → ((f : FileId) (q : Place) → Among (update.Place f q) made → IsPlaceOf w f q)
    → ((f : FileId) (g : Flag) → Among (update.Flag f g) made → IsFlagOf servers w f g) → Among u made → IsTakeTold (of_run servers w) (take_of u)
made_one servers w made (update.Version v) place flag h = tt
made_one servers w made (update.Place f q) place flag h = place f q h
made_one servers w made (update.Flag f g) place flag h = flag f g h

-- of the updates that the latest entry tells
pub made_told : (servers : ℕ) (w : World) (entry : Entry) (earlier : List Entry) → w.journal ≡ entry ∷ earlier → (us : List Update)
    → ((u : Update) → Among u us → Among u entry.made) → AreTakesTold (of_run servers w) (map take_of us)
made_told servers w entry earlier is us within x among =
    let r = among_map take_of us x among in
    let P : List Entry → Type 0 = λ es. (f : FileId) (q : Place) → Among (update.Place f q) entry.made → IsPlaceBy es f q in
    let Q : List Entry → Type 0 = λ es. (f : FileId) (g : Flag) → Among (update.Flag f g) entry.made → IsFlagBy servers es f g in
    subst (IsTakeTold (of_run servers w)) (sym r.2)
    (made_one servers w entry.made r.0 (subst P (sym is) (λ f q h. inr (inl h))) (subst Q (sym is) (λ f g h. inr (inl h))) (within r.0 r.1))

pub later_told : (servers : ℕ) (w v : World) (entry : Entry) → v.journal ≡ entry ∷ w.journal → (takes : List Take)
    → AreTakesTold (of_run servers w) takes → AreTakesTold (of_run servers v) takes
later_told servers w v entry is takes h x among = by x (h x among)
  where
    by : (y : Take) → IsTakeTold (of_run servers w) y → IsTakeTold (of_run servers v) y
    by (TookVersion f s) told = tt
    by (Began f) told = tt
    by (TookPlace b f q) told =
        let P : List Entry → Type 0 = λ es. IsPlaceBy es f q in subst P (sym is) (elim told [ inl e ↦ inl e | inr made ↦ inr (inr made) ])
    by (TookFlag b f g) told =
        let P : List Entry → Type 0 = λ es. IsFlagBy servers es f g in subst P (sym is) (elim told [ inl e ↦ inl e | inr made ↦ inr (inr made) ])

-- ---- so they are told apart

time_is : (a b : ℕ) → (nat_lt 0 a || (0 == a && nat_lt 0 b)) ≡ false → a ≡ 0
time_is a b h = grind (arith, nat_tests)

server_is : (a b : ℕ) → (nat_lt 0 a || (0 == a && nat_lt 0 b)) ≡ false → b ≡ 0
server_is a b h = grind (arith, nat_tests)

module _ (servers : ℕ) (w : World) (on : StandsOn servers w) where
  abbrev P : Told
  P = of_run servers w

  -- no place but the first has the first stamp
  pub only_first : (f : FileId) (q : Place) → IsPlaceOf w f q → is_before first_stamp q.stamp ≡ false → q ≡ first_place f
  only_first f q h early =
      on.stamps f q (first_place f) h (inl refl)
      (stamp_of_parts q.stamp.time 0 q.stamp.server 0 (time_is q.stamp.time q.stamp.server early) (server_is q.stamp.time q.stamp.server early) ∙ sym (first_stamp_is f))

  module _ (takes : List Take) (told : AreTakesTold P takes) where
    any_told : (f : FileId) (q : Place) → IsAnyOf f (KnowsPlace takes f) q → IsPlaceOf w f q
    any_told f q (inl e) = inl e
    any_told f q (inr h) = told (TookPlace h.0 f q) h.1

    flag_told : (f : FileId) (g : Flag) → KnowsFlag takes f g → IsFlagOf servers w f g
    flag_told f g h = told (TookFlag h.0 f g) h.1

    pub takes_apart : AreApart takes
    takes_apart = record {
      places = λ f a b h k e. on.stamps f a b (any_told f a h) (any_told f b k) e;
      flags = λ f a b h k. on.flags f a b (flag_told f a h) (flag_told f b k);
    }
