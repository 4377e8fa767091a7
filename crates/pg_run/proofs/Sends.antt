-- WHICH MESSAGES A HANDLER SENDS: what holds of each message that tells nothing of what is held,
-- holds of all that is sent, where it holds of the answers to what comes that tell of it.
use Rattle.std.proofs.Common.{ℕ, ◌≡◌, ◌==◌, ◌-◌, ◌/◌, ◌%◌, ◌&&◌, ◌||◌, not, Bool, true, false, List, [], ◌∷◌, length, slice_get, Option, None, Some, refl, sym, ap, subst, ◌∙◌, All}
use Rattle.std.specs.Prelude.{nat_lt}
use Rattle.std.proofs.lemmas.List.Elements.{All-push}
use Rattle.pg_base.specs.declared.id.FileId.{FileId}
use Rattle.pg_base.specs.declared.stamp.Stamp.{Stamp}
use Rattle.pg_edges.specs.declared.edge.Edge.{Edge}
use Rattle.pg_edges.specs.declared.key.Key.{Key}
use Rattle.pg_edges.specs.declared.key.Key.TheVariants as key
use Rattle.pg_entries.specs.declared.cell.Cell.{Cell}
use Rattle.pg_entries.specs.declared.cell.Cell.TheVariants as cells
use Rattle.pg_entries.specs.declared.entry.Entry.{Entry}
use Rattle.pg_server.specs.pg_pieces.pg_house.Work.{is_root, note_left}
use Rattle.pg_server.specs.pg_pieces.pg_intent.declared.intent.Intent.{Intent}
use Rattle.pg_server.specs.pg_pieces.pg_intent.Intent.{key_of}
use Rattle.pg_server.specs.pg_pieces.pg_intent.Intents.{stands}
use Rattle.pg_server.specs.pg_pieces.pg_msg.declared.message.Ask.TheVariants as ask
use Rattle.pg_server.specs.pg_pieces.pg_msg.declared.message.Ends.{Ends}
use Rattle.pg_server.specs.pg_pieces.pg_msg.declared.message.Granted.{Granted}
use Rattle.pg_server.specs.pg_pieces.pg_msg.declared.message.Message.{Message}
use Rattle.pg_server.specs.pg_pieces.pg_msg.declared.message.Message.TheVariants as message
use Rattle.pg_server.specs.pg_pieces.pg_msg.declared.message.Sent.{Sent}
use Rattle.pg_server.specs.pg_pieces.pg_msg.declared.summary.Greeting.TheVariants as greeting
use Rattle.pg_server.specs.pg_pieces.pg_msg.declared.update.Update.TheVariants as update
use Rattle.pg_server.specs.pg_pieces.pg_msg.declared.work.Work.{Work}
use Rattle.pg_server.specs.pg_pieces.pg_msg.Ends.{back}
use Rattle.pg_server.specs.pg_pieces.pg_msg.Sent.{cell_key}
use Rattle.pg_server.specs.pg_pieces.pg_msg.Work.{with_begun, with_left, with_linked, with_made, with_touched, with_unsure}
use Rattle.pg_server.specs.pg_pieces.pg_names.Names.{own_or_blank}
use Rattle.pg_server.specs.pg_pieces.pg_names.Names as names
use Rattle.theory_flood_pieces.proofs.Choices.{chosen, decided}
use Rattle.pg_register.specs.declared.flag.Flag.{Flag}
use Rattle.pg_register.specs.declared.place.Place.{Place}
use Rattle.pg_server.specs.pg_pieces.pg_replica.declared.replica.Replica.{Replica}
use Rattle.pg_server.specs.pg_pieces.pg_store.declared.store.Store.{Store}
use Rattle.pg_server.specs.pg_pieces.pg_store.Births.{birth_of, has_birth, is_pending}
use Rattle.pg_server.specs.pg_pieces.pg_store.Links.{is_clean, is_new_link, knows_later}
use Rattle.pg_server.specs.pg_pieces.pg_store.Seen.{server_of}
use Rattle.pg_server.specs.pg_pieces.pg_store.Store.{entry_news, is_full, is_held, is_new_version, is_newer_flag, is_newer_place, replica_at, with_names}
use Rattle.pg_server.specs.pg_pieces.declared.accepting.EdgeUse.{EdgeUse}
use Rattle.pg_server.specs.pg_pieces.declared.accepting.EdgeUse.TheVariants as manner
use Rattle.pg_server.specs.pg_pieces.Accepting.{accept, ends_to, is_accepted, is_answer, link_peer, met, with_gone}
use Rattle.pg_server.specs.pg_cells.Cells.{cell as take_cell, fits, taken, taken_along}
use Rattle.pg_server.specs.pg_pieces.Done.{Done, idle}
use Rattle.pg_server.specs.pg_pieces.Intending.{begin_intent}
use Rattle.pg_server.specs.pg_pieces.Making.{make_flag, own_next, raise_flag}
use Rattle.pg_server.specs.pg_pieces.Posting.{post, sent_to}
use Rattle.pg_server.specs.pg_pieces.Taking.{is_any_news, is_place_news, take_entry_noted, take_flag_noted, take_flags_noted, take_place_noted, with_left_if, with_news}
use Rattle.pg_server.specs.pg_repair.Confirming.{confirm, confirmed, own_entry, place_is, place_told, take_told_flags, take_told_place}
use Rattle.pg_server.specs.pg_repair.Fetching.{answer_fetch, fetch, give, given}
use Rattle.pg_server.specs.pg_repair.Filling.{few_golds, fill, full, invite, invited, is_bronze, live_golds, raise_if_few}
use Rattle.pg_server.specs.pg_repair.Granting.{begin_granted, begun_by, grant}
use Rattle.pg_server.specs.pg_repair.Telling.{tell, told}
use Rattle.pg_server.specs.pg_graph.Leaving.{gives_leave, leave, leave_given}
use Rattle.pg_server.specs.pg_graph.Seeking.{answered_seek, seek}
use Rattle.pg_server.specs.pg_graph.Walks.{edges_of, goes_on, meet_origin, most_hops, onward, walk, walk_along, walk_from, walk_of, walk_of_tick, walk_on, walked, with_few_edges}
use Rattle.pg_server.specs.Local.{receive}
use Rattle.pg_run.proofs.Holders.{IsBy, accept_names, taken_by}
use Rattle.pg_run.proofs.SendsLeaving.{leave_ok_fits}
use Rattle.pg_run.proofs.SendsBodies.{AnswersBody, AnswersHarbinger, AnswersWant, delta_fits, harbinger_fits, later_fits, piece_fits, want_fits}

-- what is asked for and granted, that something is gone, not here or not to be had now, walks and
-- those who are met
abbrev pub is_plain : Message → Bool
is_plain (message.Fetch file birth) = true
is_plain (message.Grant ends granted) = true
is_plain (message.NoGrant file birth) = true
is_plain (message.Full ends) = true
is_plain (message.Greet ends why) = true
is_plain (message.NoneHere what file child) = true
is_plain (message.Gone file birth) = true
is_plain (message.Invite ends) = true
is_plain (message.Walk ends origin birth hops word) = true
is_plain (message.Later ends stamp) = true
is_plain _ = false

module _ (Q : Sent → Type 0) (plain : (m : Sent) → is_plain m.packet.message ≡ true → Q m) (from : ℕ) where
  -- so is all that is sent, be it last; and the work answers this server
  abbrev pub Fine : Work → Type 0
  Fine work = All Q work.sent × All Q work.tail × (work.from ≡ from)

  posted : (a : Store) (to : ℕ) (m : Message) (work : Work) → Q (sent_to a to m) → Fine work → Fine (post a to m work)
  posted a to m work q k = (All-push Q work.sent (sent_to a to m) k.0 q, k.1, k.2)

  pub posted_plain : (a : Store) (to : ℕ) (m : Message) (work : Work) → is_plain m ≡ true → Fine work → Fine (post a to m work)
  posted_plain a to m work is k = posted a to m work (plain (sent_to a to m) is) k

  -- ---- along edges

  linked_fine : (a : Store) (f : FileId) (peer birth : ℕ) (work : Work) → Fine work → Fine (link_peer a f peer birth work).work
  linked_fine a f peer birth work k = chosen Fine (is_new_link a f peer birth) (with_linked work f peer) work k k

  met_fine : (a : Store) (ends : Ends) (way : EdgeUse) (work : Work) → Fine work → Fine (met a ends way work).work
  met_fine a ends manner.Makes work k = linked_fine a ends.file work.from ends.sender work k
  met_fine a ends manner.Needs work k = k
  met_fine a ends manner.Answers work k = k

  pub accept_fine : (a : Store) (ends : Ends) (way : EdgeUse) (work : Work) → Fine work → Fine (accept a ends way work).work
  accept_fine a ends way work k =
      let P : Done → Type 0 = λ d. Fine d.work in
      chosen P (has_birth a ends.file ends.receiver) _ (idle a (with_gone a ends way work))
      (chosen P (knows_later a ends.file work.from ends.sender) (idle a work) (met a ends way work) k (met_fine a ends way work k))
      (chosen Fine (is_answer way || is_pending a ends.file ends.receiver) work _ k (posted_plain a work.from (message.Gone ends.file ends.receiver) work refl k))

  -- ---- what is taken

  news_fine : (t : Bool) (work : Work) (f : FileId) (q : Key) → Fine work → Fine (with_news t work f q)
  news_fine t work f q k = chosen Fine t (with_touched work f q) work k k

  left_fine : (t : Bool) (work : Work) (f : FileId) (old : Place) → Fine work → Fine (with_left_if t work f old)
  left_fine t work f old k =
      chosen Fine t (note_left work f old) work (chosen Fine (old.live && not (is_root f)) (with_left work old.parent f) work k k) k

  pub place_fine : (a : Store) (f : FileId) (place : Place) (work : Work) → Fine work → Fine (take_place_noted a f place work).work
  place_fine a f place work k =
      let t = is_newer_place a f place in
      let old = (own_or_blank a.names f).place in
      news_fine t (with_left_if t work f old) f key.Place (left_fine t work f old k)

  flag_fine : (a : Store) (f : FileId) (flag : Flag) (work : Work) → Fine work → Fine (take_flag_noted a f flag work).work
  flag_fine a f flag work k = news_fine (is_newer_flag a f flag) work f (key.Flag flag.server) k

  flags_fine : (flags : List Flag) (a : Store) (f : FileId) (work : Work) → Fine work → Fine (take_flags_noted a f flags work).work
  flags_fine [] a f work k = k
  flags_fine (flag ∷ flags) a f work k =
      let one = take_flag_noted a f flag work in flags_fine flags one.store f one.work (flag_fine a f flag work k)

  -- a flag is made
  pub made_fine : (a : Store) (f : FileId) (flag : Flag) (work : Work) → Fine work → Fine (make_flag a f flag work).work
  made_fine a f flag work k = flag_fine a f flag (with_made work (update.Flag f flag)) k

  pub raised_fine : (a : Store) (f : FileId) (work : Work) → Fine work → Fine (raise_flag a f work).work
  raised_fine a f work k = made_fine a f (own_next a f true) work k

  pub entry_fine : (a : Store) (dir : FileId) (e : Entry) (work : Work) → Fine work → Fine (take_entry_noted a dir e work).work
  entry_fine a dir e work k = news_fine (is_any_news (entry_news a dir e)) work dir (key.Entry e.child) k

  taken_fine : (a : Store) (f : FileId) (c : Cell) (work : Work) → Fine work → Fine (taken a f c work).work
  taken_fine a f (cells.Place place) work k = place_fine a f place work k
  taken_fine a f (cells.Flag flag) work k = flag_fine a f flag work k
  taken_fine a f (cells.Entry e sure) work k =
      let one = take_entry_noted a f e work in
      let h = entry_fine a f e work k in
      chosen Fine (is_place_news (entry_news a f e) && not sure) (with_unsure one.work f e.child) one.work h h
  taken_fine a f (cells.Version v) work k = news_fine (is_new_version a f v) work f (key.Version v.head.stamp) k

  -- an intention begins
  pub intent_fine : (a : Store) (i : Intent) (work : Work) → Fine work → Fine (begin_intent a i work).work
  intent_fine a i work k = chosen Fine (not (stands a.intents (key_of i))) (with_begun work (key_of i)) work k k

  -- ---- a cell

  -- the answer, where it is accepted
  abbrev pub AnswerHas : Store → Ends → ℕ → Cell → ℕ → Type 0
  AnswerHas a ends tag c asker = fits ends.file c ≡ true → is_accepted a asker manner.Makes ends ≡ true
      → (b : Store) → IsBy a b → Q (sent_to b from (message.Ack (back ends) (cell_key c) tag))

  pub cell_fine : (a : Store) (ends : Ends) (tag : ℕ) (c : Cell) (work : Work) → AnswerHas a ends tag c work.from → Fine work
      → Fine (take_cell a ends tag c work).work
  cell_fine a ends tag c work has k =
      let P : Done → Type 0 = λ d. Fine d.work in
      let m = accept a ends manner.Makes work in
      let h = accept_fine a ends manner.Makes work k in
      let t = taken m.store ends.file c m.work in
      let u = taken_fine m.store ends.file c m.work h in
      let ack = message.Ack (back ends) (cell_key c) tag in
      let by : IsBy a t.store = taken_by m.store ends.file c m.work ∙ ap (λ (n : names.NamesValue). n.server) (accept_names a ends manner.Makes work) in
      decided P (fits ends.file c) _ (idle a work)
      (λ fit. decided P (is_accepted a work.from manner.Makes ends) (taken_along ends tag c m) m
      (λ met. posted t.store t.work.from ack t.work (subst (λ (to : ℕ). Q (sent_to t.store to ack)) (sym u.2) (has fit met t.store by)) u) (λ no. h)) (λ no. k)

  -- ---- replicas begin, and are filled

  given_fine : (a : Store) (ends : Ends) (o : Option Replica) (work : Work) → Fine work → Fine (given a ends o work)
  given_fine a ends None work k = k
  given_fine a ends (Some x) work k = posted_plain a work.from _ work refl k

  pub fetch_fine : (a : Store) (f : FileId) (birth : ℕ) (work : Work) → Fine work → Fine (fetch a f birth work).work
  fetch_fine a f birth work k =
      let P : Done → Type 0 = λ d. Fine d.work in
      let l = link_peer a f work.from birth work in
      let h = linked_fine a f work.from birth work k in
      let ends = ends_to l.store f birth in
      chosen P (is_full a f) _ _
      (chosen P (knows_later a f work.from birth) (idle a work) (idle l.store (answer_fetch l.store f birth l.work)) k
      (chosen Fine (is_clean l.store f l.work.from birth) _ (give l.store ends l.work) (posted_plain l.store l.work.from (message.Full ends) l.work refl h)
      (given_fine l.store ends (replica_at l.store f) l.work h)))
      (posted_plain a work.from (message.NoGrant f birth) work refl k)

  pub grant_fine : (a : Store) (ends : Ends) (g : Granted) (work : Work) → Fine work → Fine (grant a ends g work).work
  grant_fine a ends g work k =
      let b = begun_by a ends g in
      chosen (λ (d : Done). Fine d.work) (is_pending a ends.file ends.receiver) (begin_granted a ends g work) (accept a ends manner.Makes work)
      (linked_fine b ends.file work.from ends.sender work k) (accept_fine a ends manner.Makes work k)

  few_fine : (a : Store) (f : FileId) (work : Work) → Fine work → Fine (raise_if_few a f work).work
  few_fine a f work k =
      chosen (λ (d : Done). Fine d.work) (nat_lt (live_golds a f) few_golds) (raise_flag a f work) (idle a work)
      (raised_fine a f work k) k

  pub fill_fine : (a : Store) (f : FileId) (work : Work) → Fine work → Fine (fill a f work).work
  fill_fine a f work k = few_fine (with_names a (names.fill a.names f)) f work k

  pub full_fine : (a : Store) (ends : Ends) (work : Work) → Fine work → Fine (full a ends work).work
  full_fine a ends work k =
      let t = is_accepted a work.from manner.Answers ends && not (is_full a ends.file) in
      chosen (λ (d : Done). Fine d.work) t (fill a ends.file work) (idle a work) (fill_fine a ends.file work k) k

  pub invite_fine : (a : Store) (ends : Ends) (work : Work) → Fine work → Fine (invite a ends work).work
  invite_fine a ends work k =
      let P : Done → Type 0 = λ d. Fine d.work in
      let m = accept a ends manner.Needs work in
      let h = accept_fine a ends manner.Needs work k in
      chosen P (is_accepted a work.from manner.Needs ends) (invited ends m) m
      (chosen P (is_bronze m.store ends.file) (raise_if_few m.store ends.file m.work) m
      (few_fine m.store ends.file m.work h) h) h

  -- ---- places are confirmed and told

  pub told_fine : (a : Store) (e : Entry) (work : Work) → Fine work → Fine (take_told_flags e (take_told_place a e work)).work
  told_fine a e work k =
      let put = take_told_place a e work in
      flags_fine e.flags put.store e.child put.work
      (chosen (λ (d : Done). Fine d.work) (is_root e.child) (idle a work) (take_place_noted a e.child e.place work) k (place_fine a e.child e.place work k))

  -- a work that answers this server, and the answer
  answered : (a : Store) (m : Message) (work : Work) → Q (sent_to a from m) → Fine work → Fine (post a work.from m work)
  answered a m work q k = posted a work.from m work (subst (λ (to : ℕ). Q (sent_to a to m)) (sym k.2) q) k

  confirm_fine : (a : Store) (dir : FileId) (e : Entry) (work : Work) → ((b : Store) (r : Entry) → Q (sent_to b from (message.PlaceIs dir r)))
      → Fine work → Fine (confirm a dir e work).work
  confirm_fine a dir e work has k =
      let d = take_told_flags e (take_told_place a e work) in
      let own = own_entry d.store e.child in
      chosen (λ (d : Done). Fine d.work) (is_held a e.child) (place_told dir e.child d) _
      (answered d.store (message.PlaceIs dir own) d.work (has d.store own) (told_fine a e work k))
      (posted_plain a work.from (message.NoneHere ask.Confirm dir e.child) work refl k)

  pub place_is_fine : (a : Store) (dir : FileId) (e : Entry) (work : Work) → Fine work → Fine (place_is a dir e work).work
  place_is_fine a dir e work k =
      chosen (λ (d : Done). Fine d.work) (is_held a dir) (confirmed dir e (take_entry_noted a dir e work)) (idle a work) (entry_fine a dir e work k) k

  tell_fine : (a : Store) (dir : FileId) (e : Entry) (work : Work)
      → ((b : Store) → Q (sent_to b from (message.TellOk dir e.child e.place.stamp))) → Fine work → Fine (tell a dir e work).work
  tell_fine a dir e work has k =
      let d = take_entry_noted a dir e work in
      chosen (λ (d : Done). Fine d.work) (is_held a dir) (told dir e d) _
      (answered d.store (message.TellOk dir e.child e.place.stamp) d.work (has d.store) (entry_fine a dir e work k))
      (posted_plain a work.from (message.NoneHere ask.Patch dir e.child) work refl k)

  -- ---- golds are sought, and walks

  pub seek_fine : (a : Store) (f : FileId) (birth : ℕ) (work : Work) → Fine work → Fine (seek a f birth work).work
  seek_fine a f birth work k =
      let P : Done → Type 0 = λ d. Fine d.work in
      let l = link_peer a f work.from birth work in
      chosen P (is_held a f) _ _
      (chosen P (knows_later a f work.from birth) (idle a work) (answered_seek f birth l) k
      (posted_plain l.store l.work.from (message.Greet (ends_to l.store f birth) greeting.Here) l.work refl (linked_fine a f work.from birth work k)))
      (posted_plain a work.from (message.NoneHere ask.Seek f f) work refl k)

  along_fine : (a : Store) (f : FileId) (origin birth hops word : ℕ) (work : Work) (o : Option Edge) → Fine work
      → Fine (walk_along a f origin birth hops word work o)
  along_fine a f origin birth hops word work None k = k
  along_fine a f origin birth hops word work (Some e) k =
      let m = sent_to a e.peer (message.Walk (ends_to a f e.birth) origin birth hops word) in
      (k.0, All-push Q work.tail m k.1 (plain m refl), k.2)

  from_fine : (a : Store) (word : ℕ) (work : Work) (o : Option FileId) → Fine work → Fine (walk_from a word work o)
  from_fine a word work None k = k
  from_fine a word work (Some f) k =
      let edges = edges_of a f in
      along_fine a f (server_of a) (birth_of a f) most_hops (word / length edges) work (slice_get edges (word % length edges)) k

  -- of a tick
  pub tick_walk_fine : (a : Store) (word : ℕ) (work : Work) → Fine work → Fine (walk_of_tick a word work)
  tick_walk_fine a word work k =
      let files = with_few_edges a in
      chosen Fine (word == 0) work (walk_of a word files work) k
      (from_fine a (word / length files) work (slice_get files (word % length files)) k)

  walked_fine : (a : Store) (ends : Ends) (origin birth hops word : ℕ) (edges : List Edge) (work : Work) → Fine work
      → Fine (walked a ends origin birth hops word edges work).work
  walked_fine a ends origin birth hops word edges work k =
      let l = link_peer a ends.file origin birth work in
      chosen (λ (d : Done). Fine d.work) (goes_on hops edges) (idle a (walk_on a ends.file origin birth hops word edges work)) (meet_origin a ends.file origin birth work)
      (along_fine a ends.file origin birth (hops - 1) (word / length edges) work (slice_get edges (word % length edges)) k)
      (posted_plain l.store origin (message.Greet (ends_to l.store ends.file birth) greeting.Meet) l.work refl (linked_fine a ends.file origin birth work k))

  pub walk_fine : (a : Store) (ends : Ends) (origin birth hops word : ℕ) (work : Work) → Fine work → Fine (walk a ends origin birth hops word work).work
  walk_fine a ends origin birth hops word work k =
      let P : Done → Type 0 = λ d. Fine d.work in
      let edges = onward a ends.file work.from origin in
      chosen P (is_accepted a work.from manner.Needs ends) _ (accept a ends manner.Needs work)
      (chosen P (origin == server_of a) (idle a work) (walked a ends origin birth hops word edges work) k (walked_fine a ends origin birth hops word edges work k))
      (accept_fine a ends manner.Needs work k)

  -- ---- leave

  leave_fine : (a : Store) (ends : Ends) (stamp : Stamp) (work : Work)
      → ((b : Store) → Q (sent_to b from (message.LeaveOk (ends_to b ends.file ends.sender) stamp))) → Fine work → Fine (leave a ends stamp work).work
  leave_fine a ends stamp work has k =
      let m = accept a ends manner.Makes work in
      let h = accept_fine a ends manner.Makes work k in
      let ok = message.LeaveOk (ends_to m.store ends.file ends.sender) stamp in
      chosen (λ (d : Done). Fine d.work) (is_accepted a work.from manner.Makes ends) (leave_given ends stamp m) m
      (chosen Fine (gives_leave m.store ends.file stamp) (post m.store m.work.from ok m.work) m.work (answered m.store ok m.work (has m.store) h) h) h

  -- ---- EVERY MESSAGE

  -- so are the answers to a cell, a Bye, a Confirm, a Tell and a Leave, and what a Harbinger, a
  -- Want, a Delta and a Piece make it send
  abbrev pub AnswersHave : Store → ℕ → Message → Type 0
  AnswersHave a asker (message.Cell ends tag c) = AnswerHas a ends tag c asker
  AnswersHave a asker (message.Bye ends) = Q (sent_to a asker (message.ByeOk ends.file ends.sender))
  AnswersHave a asker (message.Confirm dir e) = (b : Store) (r : Entry) → Q (sent_to b from (message.PlaceIs dir r))
  AnswersHave a asker (message.Tell dir e) = (b : Store) → Q (sent_to b from (message.TellOk dir e.child e.place.stamp))
  AnswersHave a asker (message.Leave ends stamp) = (b : Store) → Q (sent_to b from (message.LeaveOk (ends_to b ends.file ends.sender) stamp))
  AnswersHave a asker (message.Harbinger ends tag head) = AnswersHarbinger Q from asker a ends head
  AnswersHave a asker (message.Want ends wanted) = AnswersWant Q from a ends wanted
  AnswersHave a asker (message.Delta ends d) = AnswersBody Q from asker a ends d.head.stamp
  AnswersHave a asker (message.Piece ends p) = AnswersBody Q from asker a ends p.head.stamp
  AnswersHave a asker _ = Unit {0}

  puts_off : (b : Store) (ends : Ends) (stamp : Stamp) → Q (sent_to b from (message.Later (back ends) stamp))
  puts_off b ends stamp = plain (sent_to b from (message.Later (back ends) stamp)) refl

  pub received_fine : (a : Store) (m : Message) (work : Work) → AnswersHave a work.from m → Fine work → Fine (receive a m work).work
  received_fine a (message.Cell ends tag c) work has k = cell_fine a ends tag c work has k
  received_fine a (message.Bye ends) work has k = posted a work.from (message.ByeOk ends.file ends.sender) work has k
  received_fine a (message.Fetch f birth) work has k = fetch_fine a f birth work k
  received_fine a (message.Grant ends g) work has k = grant_fine a ends g work k
  received_fine a (message.Full ends) work has k = full_fine a ends work k
  received_fine a (message.Seek f birth) work has k = seek_fine a f birth work k
  received_fine a (message.Greet ends why) work has k = accept_fine a ends manner.Makes work k
  received_fine a (message.Confirm dir e) work has k = confirm_fine a dir e work has k
  received_fine a (message.PlaceIs dir e) work has k = place_is_fine a dir e work k
  received_fine a (message.Tell dir e) work has k = tell_fine a dir e work has k
  received_fine a (message.Leave ends stamp) work has k = leave_fine a ends stamp work has k
  received_fine a (message.LeaveOk ends stamp) work has k = leave_ok_fits Q from a ends stamp work k
  received_fine a (message.Invite ends) work has k = invite_fine a ends work k
  received_fine a (message.Walk ends origin birth hops word) work has k = walk_fine a ends origin birth hops word work k
  received_fine a (message.Harbinger ends tag head) work has k =
      harbinger_fits Q from puts_off a ends work k tag head has (accept_fine a ends manner.Makes work k)
  received_fine a (message.Want ends wanted) work has k = want_fits Q from puts_off a ends work k wanted has (accept_fine a ends manner.Needs work k)
  received_fine a (message.Delta ends d) work has k = delta_fits Q from puts_off a ends work k d has (accept_fine a ends manner.Answers work k)
  received_fine a (message.Piece ends p) work has k = piece_fits Q from puts_off a ends work k p has (accept_fine a ends manner.Answers work k)
  received_fine a (message.Later ends stamp) work has k = later_fits Q from puts_off a ends work k stamp (accept_fine a ends manner.Answers work k)
  received_fine a m work has k = k
