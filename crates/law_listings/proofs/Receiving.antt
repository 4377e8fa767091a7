-- The first part of a step, for each kind of message.
use Rattle.std.proofs.Common.{ℕ, ◌≡◌, ◌==◌, ◌&&◌, not, Bool, true, false, cond, List, Option, None, Some, is_some, refl, sym, ap, subst, ◌∙◌, inl, inr, ◌⊎◌}
use Rattle.std.proofs.lemmas.Bool.{and_parts, false≢true}
use Rattle.std.proofs.lemmas.Option.{same_Some}
use Rattle.pg_run.specs.pg_base.declared.id.FileId.{FileId}
use Rattle.pg_run.specs.pg_base.declared.stamp.Stamp.{Stamp}
use Rattle.pg_run.specs.pg_base.Id.{is_same_file}
use Rattle.pg_run.proofs.pg_base.Orders.{is_same_file-true}
use Rattle.pg_run.specs.pg_edges.declared.edge.Edge.{Edge}
use Rattle.pg_run.specs.pg_content.History.{is_same_stamp}
use Rattle.pg_run.proofs.pg_content.Stamps.{same_stamp}
use Rattle.pg_run.specs.pg_entries.declared.cell.Cell.{Cell}
use Rattle.pg_run.specs.pg_entries.declared.cell.Cell.TheVariants as cells
use Rattle.pg_run.specs.pg_entries.declared.entry.Entry.{Entry}
use Rattle.pg_run.specs.pg_house.Facts.{IsOneOf}
use Rattle.pg_run.specs.pg_house.Work.{is_root}
use Rattle.pg_run.specs.pg_intent.declared.intent.Intent.{Intent}
use Rattle.pg_run.specs.pg_intent.declared.intent.Intent.TheVariants as intent
use Rattle.pg_run.specs.pg_intent.declared.key.IntentKey.{IntentKey}
use Rattle.pg_run.specs.pg_intent.declared.key.IntentKey.TheVariants as intent_key
use Rattle.pg_run.specs.pg_intent.Intents.{aimed, ended, intent_at}
use Rattle.pg_run.proofs.pg_intent.Found.{ended_found, stands_is}
use Rattle.theory_listing.specs.Protocol.{AtLeast}
use Rattle.theory_listing.specs.World.Saying.{TellOk, Told}
use Rattle.theory_listing.specs.World.Way.{PlaceIs, SureCell, Tell}
use Rattle.theory_listing.proofs.Handlers.{calm_first}
use Rattle.pg_run.specs.pg_msg.declared.message.Ask.{Ask}
use Rattle.pg_run.specs.pg_msg.declared.message.Ends.{Ends}
use Rattle.pg_run.specs.pg_msg.declared.message.Granted.{Granted}
use Rattle.pg_run.specs.pg_msg.declared.message.Message.{Message}
use Rattle.pg_run.specs.pg_msg.declared.message.Message.TheVariants as message
use Rattle.pg_run.specs.pg_msg.declared.work.Work.{Work}
use Rattle.pg_run.proofs.theory_flood_pieces.Choices.{chosen, decided}
use Rattle.pg_run.specs.pg_register.declared.place.Place.{Place}
use Rattle.pg_run.specs.Intending.{IntendsInOrder}
use Rattle.pg_run.proofs.Transfers.{KeepsTransfers, delta_keeps, harbinger_keeps, later_keeps, piece_keeps, want_keeps}
use Rattle.pg_run.specs.pg_server.Local.{receive}
use Rattle.pg_run.specs.pg_server.pg_transfer.Asking.{with_notes}
use Rattle.pg_run.specs.pg_server.pg_transfer.Delta.{delta}
use Rattle.pg_run.specs.pg_server.pg_transfer.Harbinger.{harbinger}
use Rattle.pg_run.specs.pg_server.pg_transfer.Later.{later}
use Rattle.pg_run.specs.pg_server.pg_transfer.Piece.{piece}
use Rattle.pg_run.specs.pg_server.pg_transfer.Want.{want}
use Rattle.pg_run.specs.pg_store.declared.store.Store.{Store}
use Rattle.pg_run.specs.pg_store.Beginning.{with_intents}
use Rattle.pg_run.specs.pg_store.Births.{is_pending}
use Rattle.pg_run.specs.pg_store.Links.{knows_later}
use Rattle.pg_run.specs.pg_store.Seen.{server_of, view_of}
use Rattle.pg_run.specs.pg_store.Servers.{next_target}
use Rattle.pg_run.specs.pg_store.Store.{is_full, is_held, keep_delta}
use Rattle.pg_run.proofs.pg_store.Given.{pending_may}
use Rattle.pg_run.specs.pg_pieces.declared.accepting.EdgeUse.TheVariants as manner
use Rattle.pg_run.specs.pg_pieces.Accepting.{accept, is_accepted, link_peer}
use Rattle.pg_run.specs.pg_cells.Cells.{cell as take_cell, fits, taken, taken_along}
use Rattle.pg_run.specs.pg_pieces.Done.{Done, idle}
use Rattle.pg_run.specs.pg_pieces.Taking.{take_entry_noted, take_place_noted}
use Rattle.pg_run.specs.pg_repair.Confirming.{confirm, confirmed, place_is, place_told, take_told_flags, take_told_place}
use Rattle.pg_run.specs.pg_repair.Fetching.{answer_fetch, fetch}
use Rattle.pg_run.specs.pg_repair.Filling.{fill, full, invite}
use Rattle.pg_run.specs.pg_repair.Granting.{aim_fill, begin_granted, begun_by, grant, granted_own, no_grant, turn_wish}
use Rattle.pg_run.specs.pg_repair.NoneHere.{asking_key, does_ask, none_here}
use Rattle.pg_run.specs.pg_graph.Seeking.{answered_seek, seek}
use Rattle.pg_run.specs.pg_repair.Telling.{is_told, tell, tell_ok, told}
use Rattle.pg_run.specs.pg_graph.Walks.{goes_on, meet_origin, onward, walk, walk_on, walked}
use Rattle.law_listings.specs.Letters.{Letter, patch_place, place_of, says, told_by}
use Rattle.law_listings.proofs.PlacesAlone.{IsPart, of_places}
use Rattle.law_listings.proofs.Alike.{Alike, Alike-refl, Alike-trans, alike_by, alike_first, before_alike}
use Rattle.law_listings.proofs.Heard.{IsBehind, IsFirst, alike_is, entry_cell_is, idle_first, place_told_is, place_is as placed, plainly, told_entry, with_work}
use Rattle.law_listings.proofs.Leaving.{bye_ok_first, leave_first, leave_ok_first}
use Rattle.law_listings.proofs.Placed.{IsNoted, noted_on, place_first, place_noted, same_noted}
use Rattle.law_listings.proofs.Starting.{started, started_first, started_noted}
use Rattle.law_listings.proofs.Unseen.{accept_alike, aimed_alike, fill_alike, flag_alike, flags_alike, flags_left, invite_alike, link_alike, link_left, turn_fill_alike, turn_wish_alike, unlink_alike, version_alike}

-- what PlaceIs says is the place that the directory has with that stamp, and the place in a LeaveOk
-- of a server that held this is that of the thing, if it has its stamp
abbrev pub IsOne : Store → Store → Message → Type 0
IsOne a z (message.PlaceIs dir e) = (q : Place) → of_places.cell a dir e.child ≡ Some q → q.stamp ≡ e.place.stamp → q ≡ e.place
IsOne a z (message.LeaveOk ends stamp) = (q : Place) → of_places.own a ends.file ≡ Some q → q.stamp ≡ stamp → q ≡ place_of z ends.file
IsOne a z _ = Unit {0}

module _ (a : Store) (behind : IsBehind a) (order : IntendsInOrder a) (heard : Letter) (view : heard.view ≡ view_of a) where
  abbrev First : Done → Type 0
  First d = IsFirst a heard d

  alike : (d : Done) → Alike a d.store → First d
  alike d k = alike_is a behind heard view d k

  -- ---- a cell

  taken_first : (f : FileId) (c : Cell) (d : Done) → Alike a d.store → heard.says ≡ told_by f c → First (taken d.store f c d.work)
  taken_first f (cells.Place place) d k said = placed a behind heard view d.store f place d.work k
  taken_first f (cells.Flag flag) d k said = alike (taken d.store f (cells.Flag flag) d.work) (Alike-trans k (flag_alike d.store f flag))
  taken_first f (cells.Version v) d k said = alike (taken d.store f (cells.Version v) d.work) (Alike-trans k (version_alike d.store f v))
  taken_first f (cells.Entry e true) d k said = entry_cell_is a behind heard view d.store f e k d.work true (λ sure. (SureCell, said))
  taken_first f (cells.Entry e false) d k said = entry_cell_is a behind heard view d.store f e k d.work false (λ sure. absurd (false≢true sure))

  cell_first : (ends : Ends) (tag : ℕ) (c : Cell) (work : Work) → heard.says ≡ told_by ends.file c → First (take_cell a ends tag c work)
  cell_first ends tag c work said =
      let met = accept a ends manner.Makes work in
      let k = accept_alike a ends manner.Makes work in
      chosen First (fits ends.file c) _ (idle a work)
      (chosen First (is_accepted a work.from manner.Makes ends) (taken_along ends tag c met) met
      (with_work a heard (taken met.store ends.file c met.work) (taken_along ends tag c met) refl refl refl (taken_first ends.file c met k said)) (alike met k))
      (idle_first a behind heard view work)

  -- ---- replicas

  fetch_first : (f : FileId) (birth : ℕ) (work : Work) → First (fetch a f birth work)
  fetch_first f birth work =
      let link = link_peer a f work.from birth work in
      chosen First (is_full a f) _ _
      (chosen First (knows_later a f work.from birth) (idle a work) (idle link.store (answer_fetch link.store f birth link.work)) (idle_first a behind heard view work)
      (alike (idle link.store (answer_fetch link.store f birth link.work)) (link_alike a f work.from birth)))
      (idle_first a behind heard view _)

  seek_first : (f : FileId) (birth : ℕ) (work : Work) → First (seek a f birth work)
  seek_first f birth work =
      let link = link_peer a f work.from birth work in
      chosen First (is_held a f) _ _
      (chosen First (knows_later a f work.from birth) (idle a work) (answered_seek f birth link) (idle_first a behind heard view work)
      (alike (answered_seek f birth link) (link_alike a f work.from birth)))
      (idle_first a behind heard view _)

  here_first : (ends : Ends) (work : Work) → First (accept a ends manner.Makes work)
  here_first ends work = alike (accept a ends manner.Makes work) (accept_alike a ends manner.Makes work)

  walked_first : (ends : Ends) (origin birth hops word : ℕ) (edges : List Edge) (work : Work) → First (walked a ends origin birth hops word edges work)
  walked_first ends origin birth hops word edges work =
      let end = meet_origin a ends.file origin birth work in
      chosen First (goes_on hops edges) (idle a (walk_on a ends.file origin birth hops word edges work)) end
      (idle_first a behind heard view (walk_on a ends.file origin birth hops word edges work)) (alike end (link_alike a ends.file origin birth))

  walk_first : (ends : Ends) (origin birth hops word : ℕ) (work : Work) → First (walk a ends origin birth hops word work)
  walk_first ends origin birth hops word work =
      let edges = onward a ends.file work.from origin in
      chosen First (is_accepted a work.from manner.Needs ends) _ (accept a ends manner.Needs work)
      (chosen First (origin == server_of a) (idle a work) (walked a ends origin birth hops word edges work) (idle_first a behind heard view work) (walked_first ends origin birth hops word edges work))
      (alike (accept a ends manner.Needs work) (accept_alike a ends manner.Needs work))

  granted_first : (ends : Ends) (g : Granted) (work : Work) → is_pending a ends.file ends.receiver ≡ true → First (begin_granted a ends g work)
  granted_first ends g work pending =
      let may = pending_may a ends.file ends.receiver order.held.births pending in
      let b = begun_by a ends g in
      let k = started a ends.file ends.receiver g.policy (granted_own g) false may.away in
      let linked = link_peer b ends.file work.from ends.sender work in
      let more : Alike b (aim_fill linked.store ends.file linked.work.from) =
      Alike-trans (link_alike b ends.file work.from ends.sender) (aimed_alike linked.store (intent_key.Fill ends.file) linked.work.from) in
      let end = begin_granted a ends g work in
      plainly a heard end
      (before_alike b end.store more heard a (started_first a b ends.file k may.away behind order.patches heard view))
      (noted_on a (idle b work) end (started_noted a b ends.file k may.away behind order.patches heard view work) more.own
      (λ x h. subst (IsOneOf x) (sym (link_left b ends.file work.from ends.sender work)) h))

  grant_first : (ends : Ends) (g : Granted) (work : Work) → First (grant a ends g work)
  grant_first ends g work =
      decided First (is_pending a ends.file ends.receiver) (begin_granted a ends g work) (accept a ends manner.Makes work)
      (granted_first ends g work) (λ none. alike (accept a ends manner.Makes work) (accept_alike a ends manner.Makes work))

  no_grant_first : (f : FileId) (birth : ℕ) (work : Work) → First (no_grant a f birth work)
  no_grant_first f birth work =
      let next = next_target a work.from in
      alike (no_grant a f birth work) (Alike-trans (turn_wish_alike a f birth work.from next) (turn_fill_alike (turn_wish a f birth work.from next) f birth work.from next))

  full_first : (ends : Ends) (work : Work) → First (full a ends work)
  full_first ends work =
      chosen First (is_accepted a work.from manner.Answers ends && not (is_full a ends.file)) (fill a ends.file work) (idle a work)
      (alike (fill a ends.file work) (fill_alike a ends.file work)) (idle_first a behind heard view work)

  -- ---- children and directories

  abbrev Plain : Done → Type 0
  Plain d = IsPart a d.store heard × IsNoted a d

  told_place : (e : Entry) (work : Work) → Plain (take_told_place a e work)
  told_place e work =
      chosen Plain (is_root e.child) (idle a work) (take_place_noted a e.child e.place work)
      (alike_first a a heard view (Alike-refl a), same_noted a (idle a work) (λ f. refl))
      (place_first a e.child e.place heard view, place_noted a e.child e.place work)

  told_flags : (e : Entry) (d : Done) → Plain d → Plain (take_told_flags e d)
  told_flags e d k =
      let end = take_told_flags e d in
      let more = flags_alike e.flags d.store e.child d.work in (
        before_alike d.store end.store more heard a k.0,
        noted_on a d end k.1 more.own (λ x h. subst (IsOneOf x) (sym (flags_left e.flags d.store e.child d.work)) h),
      )

  confirm_first : (dir : FileId) (e : Entry) (work : Work) → First (confirm a dir e work)
  confirm_first dir e work =
      let put = take_told_place a e work in
      let end = take_told_flags e put in
      let k = told_flags e put (told_place e work) in
      chosen First (is_held a e.child) (place_told dir e.child end) _
      (plainly a heard (place_told dir e.child end) k.0 (noted_on a end (place_told dir e.child end) k.1 (λ f. refl) (λ x h. h))) (idle_first a behind heard view _)

  place_is_first : (dir : FileId) (e : Entry) (work : Work) → heard.says ≡ Told PlaceIs dir e.child e.place
      → ((q : Place) → of_places.cell a dir e.child ≡ Some q → q.stamp ≡ e.place.stamp → q ≡ e.place) → First (place_is a dir e work)
  place_is_first dir e work said one =
      let took = take_entry_noted a dir e work in
      chosen First (is_held a dir) (confirmed dir e took) (idle a work)
      (place_told_is a behind heard view a dir e (Alike-refl a) work (PlaceIs, said) one) (idle_first a behind heard view work)

  tell_first : (dir : FileId) (e : Entry) (work : Work) → heard.says ≡ Told Tell dir e.child e.place → First (tell a dir e work)
  tell_first dir e work said =
      let took = take_entry_noted a dir e work in
      chosen First (is_held a dir) (told dir e took) _
      (with_work a heard took (told dir e took) refl refl refl (told_entry a behind heard view a dir e (Alike-refl a) work (Tell, said))) (idle_first a behind heard view _)

  -- ---- a Patch ends

  module _ (dir child : FileId) (stamp : Stamp) (work : Work) (said : heard.says ≡ TellOk dir child stamp) where
    abbrev Key : IntentKey
    Key = intent_key.Patch dir child

    abbrev Ended : Store
    Ended = with_intents a (ended a.intents Key)

    told_of : (i : Intent) → is_told (Some i) stamp work.from ≡ true → (q : Place) → patch_place (Some i) ≡ Some q → q.stamp ≡ stamp
    told_of (intent.Patch d e target) is q h =
        ap (λ (p : Place). p.stamp) (sym (same_Some e.place q h)) ∙ same_stamp e.place.stamp stamp (and_parts (target == work.from) (is_same_stamp e.place.stamp stamp) is).1
    told_of (intent.Bye f b p c) is q h = absurd (false≢true is)
    told_of (intent.Seek f t) is q h = absurd (false≢true is)
    told_of (intent.Fill f b t) is q h = absurd (false≢true is)
    told_of (intent.Confirm d c t) is q h = absurd (false≢true is)
    told_of (intent.Leave f p b) is q h = absurd (false≢true is)

    told_at : (o : Option Intent) → is_told o stamp work.from ≡ true → (q : Place) → patch_place o ≡ Some q → q.stamp ≡ stamp
    told_at None is q h = absurd (false≢true is)
    told_at (Some i) is q h = told_of i is q h

    patch_by : (d c : FileId) (q : Place) (t : Bool) → (is_same_file d dir && is_same_file c child) ≡ t → of_places.patch a d c ≡ Some q → is_told (intent_at a.intents Key) stamp work.from ≡ true
        → AtLeast of_places q.stamp (of_places.patch Ended d c) ⊎ (heard.says ≡ TellOk d c q.stamp)
    patch_by d c q false s h is =
        inl (q, ap patch_place (ended_found a.intents Key (intent_key.Patch d c)) ∙ ap (λ t. patch_place (cond t None (intent_at a.intents (intent_key.Patch d c)))) s ∙ h, inl refl)
    patch_by d c q true s h is =
        let both = and_parts (is_same_file d dir) (is_same_file c child) s in
        let dir_is = is_same_file-true d dir both.0 in
        let child_is = is_same_file-true c child both.1 in
        let here : of_places.patch a dir child ≡ Some q = sym (ap (λ x. of_places.patch a x child) dir_is) ∙ sym (ap (of_places.patch a d) child_is) ∙ h in
        let stamp_is = told_at (intent_at a.intents Key) is q here in
        inr (said ∙ ap (λ t. TellOk dir child t) (sym stamp_is) ∙ ap (λ x. TellOk dir x q.stamp) (sym child_is) ∙ ap (λ x. TellOk x c q.stamp) (sym dir_is))

    confirms_on : (d c : FileId) → of_places.Confirms a d c → of_places.Confirms Ended d c
    confirms_on d c h =
        let q = intent_key.Confirm d c in
        stands_is (ended a.intents Key) q ∙ ap is_some (ended_found a.intents Key q) ∙ sym (stands_is a.intents q) ∙ h

    ended_first : is_told (intent_at a.intents Key) stamp work.from ≡ true → First (idle Ended work)
    ended_first is =
        plainly a heard (idle Ended work)
        (λ least. calm_first of_places least a Ended heard (record {
          hears = inr view;
          view = refl;
          own = λ f. refl;
          cells = λ d c. refl;
          births = λ f was now. refl;
          past = λ f n h. h;
          patches = λ d c q h. patch_by d c q (is_same_file d dir && is_same_file c child) refl h is;
          confirms = λ d c q owes l none. inl (confirms_on d c owes);
        })) (same_noted a (idle Ended work) (λ f. refl))

    tell_ok_first : First (tell_ok a dir child stamp work)
    tell_ok_first =
        decided (λ (b : Store). First (idle b work)) (is_told (intent_at a.intents Key) stamp work.from) Ended a ended_first (λ none. idle_first a behind heard view work)

  none_here_first : (what : Ask) (f c : FileId) (work : Work) → First (none_here a what f c work)
  none_here_first what f c work =
      let q = asking_key what f c in
      let b = with_intents a (aimed a.intents q (next_target a work.from)) in
      chosen (λ (x : Store). First (idle x work)) (does_ask (intent_at a.intents q) work.from) b a (alike (idle b work) (aimed_alike a q (next_target a work.from))) (idle_first a behind heard view work)

  -- bodies of versions
  abbrev IsAlike : Done → Type 0
  IsAlike d = Alike a d.store

  bodies : (ends : Ends) → KeepsTransfers ends IsAlike
  bodies ends = record {
    notes = λ d notes k. Alike-trans k (alike_by d.store (with_notes d.store notes) refl refl);
    keeps = λ d delta k. Alike-trans k (alike_by d.store (keep_delta d.store ends.file delta) refl refl);
    takes = λ d v k. Alike-trans k (version_alike d.store ends.file v);
    answers = λ d m is k. k;
    tells = λ d head e is k. k;
  }

  -- A MESSAGE
  pub receive_first : (z : Store) (m : Message) (work : Work) → heard.says ≡ says z m → IsOne a z m → First (receive a m work)
  receive_first z (message.Cell ends tag c) work said one = cell_first ends tag c work said
  receive_first z (message.Ack ends key tag) work said one = alike _ (alike_by a _ refl refl)
  receive_first z (message.Harbinger ends tag head) work said one =
      alike (harbinger a ends tag head work) (harbinger_keeps ends IsAlike (bodies ends) a work (Alike-refl a) tag head (accept_alike a ends manner.Makes work))
  receive_first z (message.Want ends wanted) work said one =
      alike (want a ends wanted work) (want_keeps ends IsAlike (bodies ends) a work (Alike-refl a) wanted (accept_alike a ends manner.Needs work))
  receive_first z (message.Delta ends d) work said one =
      alike (delta a ends d work) (delta_keeps ends IsAlike (bodies ends) a work (Alike-refl a) d (accept_alike a ends manner.Answers work))
  receive_first z (message.Piece ends p) work said one =
      alike (piece a ends p work) (piece_keeps ends IsAlike (bodies ends) a work (Alike-refl a) p (accept_alike a ends manner.Answers work))
  receive_first z (message.Later ends stamp) work said one =
      alike (later a ends stamp work) (later_keeps ends IsAlike (bodies ends) a work (Alike-refl a) stamp (accept_alike a ends manner.Answers work))
  receive_first z (message.Fetch file birth) work said one = fetch_first file birth work
  receive_first z (message.Grant ends granted) work said one = grant_first ends granted work
  receive_first z (message.NoGrant file birth) work said one = no_grant_first file birth work
  receive_first z (message.Full ends) work said one = full_first ends work
  receive_first z (message.Seek file birth) work said one = seek_first file birth work
  receive_first z (message.Greet ends why) work said one = here_first ends work
  receive_first z (message.NoneHere what file child) work said one = none_here_first what file child work
  receive_first z (message.Gone file birth) work said one = alike _ (unlink_alike a file work.from birth)
  receive_first z (message.Bye ends) work said one = alike _ (unlink_alike a ends.file work.from ends.sender)
  receive_first z (message.ByeOk file birth) work said one = bye_ok_first a behind order heard view file birth work
  receive_first z (message.Confirm dir e) work said one = confirm_first dir e work
  receive_first z (message.PlaceIs dir e) work said one = place_is_first dir e work said one
  receive_first z (message.Tell dir e) work said one = tell_first dir e work said
  receive_first z (message.TellOk dir child stamp) work said one = tell_ok_first dir child stamp work said
  receive_first z (message.Leave ends stamp) work said one = leave_first a behind order heard view ends stamp work
  receive_first z (message.LeaveOk ends stamp) work said one = leave_ok_first a behind order heard view ends stamp work (place_of z ends.file) said one
  receive_first z (message.Invite ends) work said one = alike (invite a ends work) (invite_alike a ends work)
  receive_first z (message.Walk ends origin birth hops word) work said one = walk_first ends origin birth hops word work
