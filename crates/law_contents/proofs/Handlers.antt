-- Messages that bring no version, and begin nothing: no content changes, and what is answered is no
-- content, or the policy of what is held.
use Rattle.std.proofs.Common.{ℕ, ◌≡◌, ◌&&◌, ◌||◌, ◌==◌, ◌-◌, ◌/◌, ◌%◌, Bool, true, false, cond, not, List, length, slice_get, Option, None, Some, option_map, refl, sym, ap, ◌∙◌}
use Rattle.std.specs.Prelude.{nat_lt}
use Rattle.pg_run.specs.pg_base.declared.id.FileId.{FileId}
use Rattle.pg_run.specs.pg_base.declared.policy.Policy.{Policy}
use Rattle.pg_run.specs.pg_base.declared.stamp.Stamp.{Stamp}
use Rattle.pg_run.specs.pg_edges.declared.edge.Edge.{Edge}
use Rattle.pg_run.specs.pg_edges.declared.key.Key.{Key}
use Rattle.pg_run.specs.pg_entries.declared.entry.Entry.{Entry}
use Rattle.pg_run.specs.pg_intent.declared.key.IntentKey.TheVariants as intent_key
use Rattle.pg_run.specs.pg_intent.Intents.{aimed, ended, intent_at}
use Rattle.pg_run.specs.pg_msg.declared.message.Ask.{Ask}
use Rattle.pg_run.specs.pg_msg.declared.message.Ask.TheVariants as ask
use Rattle.pg_run.specs.pg_msg.declared.message.Ends.{Ends}
use Rattle.pg_run.specs.pg_msg.declared.message.Message.TheVariants as message
use Rattle.pg_run.specs.pg_msg.declared.summary.Greeting.TheVariants as greeting
use Rattle.pg_run.specs.pg_msg.declared.work.Work.{Work}
use Rattle.pg_run.specs.pg_names.Names.{fill as fill_names, own_or_blank}
use Rattle.pg_run.specs.pg_replica.declared.replica.Replica.{Replica}
use Rattle.pg_run.specs.Journal.{Born}
use Rattle.pg_run.specs.pg_store.declared.store.Store.{Store}
use Rattle.pg_run.specs.pg_store.Beginning.{with_intents}
use Rattle.pg_run.specs.pg_store.Births.{birth_of, fill_at, has_birth, is_pending, wish_at, with_wishes}
use Rattle.pg_run.specs.pg_store.Links.{is_clean, knows_later, unlink}
use Rattle.pg_run.specs.pg_store.Seen.{server_of}
use Rattle.pg_run.specs.pg_store.Servers.{next_target}
use Rattle.pg_run.specs.pg_store.Store.{is_full, is_held, replica_at, with_names}
use Rattle.pg_run.specs.pg_store.Wishes.{aim_wish}
use Rattle.pg_run.specs.pg_pieces.declared.accepting.EdgeUse.{EdgeUse}
use Rattle.pg_run.specs.pg_pieces.declared.accepting.EdgeUse.TheVariants as manner
use Rattle.pg_run.specs.pg_pieces.Accepting.{accept, ends_to as ends_between, is_accepted, is_answer, link_peer, met, with_gone}
use Rattle.pg_run.specs.pg_cells.Acks.{ack}
use Rattle.pg_run.specs.pg_pieces.Done.{Done, idle, link_of}
use Rattle.pg_run.specs.pg_pieces.Making.{raise_flag}
use Rattle.pg_run.specs.pg_pieces.Posting.{reply}
use Rattle.pg_run.specs.pg_pieces.Taking.{take_entry_noted, take_place_noted}
use Rattle.pg_run.specs.pg_house.Work.{is_root}
use Rattle.pg_run.specs.pg_repair.Confirming.{confirm, end_confirmed, is_confirmed, own_entry, place_is, place_told, take_told_flags, take_told_place, confirmed}
use Rattle.pg_run.specs.pg_repair.Fetching.{answered_fetch, ends_to, fetch, give, given, granted_from}
use Rattle.pg_run.specs.pg_repair.Filling.{few_golds, fill, full, invite, invited, is_bronze, live_golds, raise_if_few}
use Rattle.pg_run.specs.pg_repair.Granting.{aim_fill, fill_asks, gone, no_grant, turn_fill, turn_wish, wish_asks}
use Rattle.pg_run.specs.pg_repair.NoneHere.{asking_key, does_ask, none_here, turn}
use Rattle.pg_run.specs.pg_graph.Leaving.{bye, bye_ok, gives_leave, leave, leave_given}
use Rattle.pg_run.specs.pg_graph.Seeking.{answered_seek, seek}
use Rattle.pg_run.specs.pg_graph.Walks.{edges_of, goes_on, meet_origin, most_hops, onward, walk, walk_along, walk_from, walk_of, walk_of_tick, walk_on, walked, with_few_edges}
use Rattle.pg_run.specs.pg_repair.Telling.{end_told, is_told, tell, tell_ok, told}
use Rattle.pg_run.proofs.theory_flood_pieces.Choices.{chosen}
use Rattle.law_contents.proofs.Changes.{Core, Keeps, Keeps-refl, Keeps-trans, core_at, core_of}
use Rattle.law_contents.proofs.Pieces.{acked_keeps, fill_keeps, intents_keep, unlink_keeps, wishes_keep}
use Rattle.law_contents.proofs.Quiet.{Quiet, entry_quiet, flags_quiet, link_quiet, place_quiet, quiet_idle, quiet_last, quiet_post, quiet_posted, quiet_store, quiet_then, raise_quiet}

module _ (us : List Born) (p : FileId → Policy) (N : FileId → Type 0) (a : Store) (work : Work) where
  abbrev IsQuiet : Done → Type 0
  IsQuiet d = Quiet us p N a work d

  still : IsQuiet (idle a work)
  still = quiet_idle us p N a work

  stored : (b : Store) → Keeps a b → IsQuiet (idle b work)
  stored b keeps = quiet_store us p N a b work keeps

  -- ---- edges

  gone_by : (ends : Ends) (t : Bool) → IsQuiet
      (idle a (cond t work (reply a (message.Gone ends.file ends.receiver) work)))
  gone_by ends true = still
  gone_by ends false = quiet_post us p N a work.from (message.Gone ends.file ends.receiver) work tt

  met_quiet : (ends : Ends) (m : EdgeUse) → IsQuiet (met a ends m work)
  met_quiet ends manner.Makes = link_quiet us p N a ends.file work.from ends.sender work
  met_quiet ends manner.Needs = still
  met_quiet ends manner.Answers = still

  -- whatever its sender is told or how it is linked
  pub accept_quiet : (ends : Ends) (m : EdgeUse) → IsQuiet (accept a ends m work)
  accept_quiet ends m =
      chosen IsQuiet (has_birth a ends.file ends.receiver)
      (cond (knows_later a ends.file work.from ends.sender) (idle a work) (met a ends m work))
      (idle a (with_gone a ends m work))
      (chosen IsQuiet (knows_later a ends.file work.from ends.sender) (idle a work)
      (met a ends m work) still (met_quiet ends m))
      (gone_by ends (is_answer m || is_pending a ends.file ends.receiver))

  pub ack_quiet : (ends : Ends) (k : Key) (tag : ℕ) → IsQuiet (ack a ends k tag work)
  ack_quiet ends k tag =
      stored (ack a ends k tag work).store (acked_keeps a ends.file (link_of work.from ends) k tag)

  pub gone_quiet : (file : FileId) (birth : ℕ) → IsQuiet (gone a file birth work)
  gone_quiet file birth = stored (gone a file birth work).store (unlink_keeps a file work.from birth)

  -- who seeks is linked, and answered
  pub seek_quiet : (file : FileId) (birth : ℕ) → IsQuiet (seek a file birth work)
  seek_quiet file birth =
      let d = link_peer a file work.from birth work in
      let no = message.NoneHere ask.Seek file file in
      chosen IsQuiet (is_held a file)
      (cond (knows_later a file work.from birth) (idle a work) (answered_seek file birth d))
      (idle a (reply a no work))
      (chosen IsQuiet (knows_later a file work.from birth) (idle a work)
      (answered_seek file birth d) still
      (quiet_then us p N (link_quiet us p N a file work.from birth work)
      (quiet_post us p N d.store d.work.from (message.Greet (ends_to d.store file birth) greeting.Here) d.work tt)))
      (quiet_post us p N a work.from no work tt)

  -- ---- walks

  along_quiet : (file : FileId) (origin birth hops word : ℕ) (o : Option Edge)
      → IsQuiet (idle a (walk_along a file origin birth hops word work o))
  along_quiet file origin birth hops word None = still
  along_quiet file origin birth hops word (Some e) =
      quiet_last us p N a e.peer
      (message.Walk (ends_to a file e.birth) origin birth hops word) work tt

  met_origin : (file : FileId) (origin birth : ℕ)
      → IsQuiet (meet_origin a file origin birth work)
  met_origin file origin birth =
      let d = link_peer a file origin birth work in
      quiet_then us p N (link_quiet us p N a file origin birth work)
      (quiet_post us p N d.store origin (message.Greet (ends_to d.store file birth) greeting.Meet) d.work tt)

  walked_quiet : (ends : Ends) (origin birth hops word : ℕ) (edges : List Edge)
      → IsQuiet (walked a ends origin birth hops word edges work)
  walked_quiet ends origin birth hops word edges =
      chosen IsQuiet (goes_on hops edges)
      (idle a (walk_on a ends.file origin birth hops word edges work))
      (meet_origin a ends.file origin birth work)
      (along_quiet ends.file origin birth (hops - 1) (word / length edges)
      (slice_get edges (word % length edges)))
      (met_origin ends.file origin birth)

  pub walk_quiet : (ends : Ends) (origin birth hops word : ℕ)
      → IsQuiet (walk a ends origin birth hops word work)
  walk_quiet ends origin birth hops word =
      let edges = onward a ends.file work.from origin in
      let on = walked a ends origin birth hops word edges work in
      chosen IsQuiet (is_accepted a work.from manner.Needs ends)
      (cond (origin == server_of a) (idle a work) on) (accept a ends manner.Needs work)
      (chosen IsQuiet (origin == server_of a) (idle a work) on still
      (walked_quiet ends origin birth hops word edges))
      (accept_quiet ends manner.Needs)

  -- the walk of a tick
  walk_from_quiet : (word : ℕ) (o : Option FileId) → IsQuiet (idle a (walk_from a word work o))
  walk_from_quiet word None = still
  walk_from_quiet word (Some file) =
      along_quiet file (server_of a) (birth_of a file) most_hops
      (word / length (edges_of a file))
      (slice_get (edges_of a file) (word % length (edges_of a file)))

  pub walk_of_quiet : (word : ℕ) → IsQuiet (idle a (walk_of_tick a word work))
  walk_of_quiet word =
      let files = with_few_edges a in
      chosen (λ (w : Work). IsQuiet (idle a w)) (word == 0) work (walk_of a word files work) still
      (walk_from_quiet (word / length files) (slice_get files (word % length files)))

  -- ---- intentions

  pub none_here_quiet : (what : Ask) (file child : FileId)
      → IsQuiet (none_here a what file child work)
  none_here_quiet what file child =
      let k = asking_key what file child in
      let is = aimed a.intents k (next_target a work.from) in
      stored (turn a k work.from)
      (chosen (Keeps a) (does_ask (intent_at a.intents k) work.from) (with_intents a is) a
      (intents_keep a is) (Keeps-refl a))

  turned : (b : Store) (file : FileId) (birth from next : ℕ)
      → Keeps b (turn_fill b file birth from next)
  turned b file birth from next =
      chosen (Keeps b) (fill_asks (fill_at b file) birth from) (aim_fill b file next) b
      (intents_keep b (aimed b.intents (intent_key.Fill file) next)) (Keeps-refl b)

  pub no_grant_quiet : (file : FileId) (birth : ℕ) → IsQuiet (no_grant a file birth work)
  no_grant_quiet file birth =
      let next = next_target a work.from in
      let ws = aim_wish a.wishes file next in
      let b = turn_wish a file birth work.from next in
      stored (no_grant a file birth work).store
      (Keeps-trans
      (chosen (Keeps a) (wish_asks (wish_at a file) birth work.from) (with_wishes a ws) a
      (wishes_keep a ws) (Keeps-refl a))
      (turned b file birth work.from next))

  -- ---- replicas that go elsewhere

  pub bye_quiet : (ends : Ends) → IsQuiet (bye a ends work)
  bye_quiet ends =
      let b = unlink a ends.file work.from ends.sender in
      quiet_then us p N (stored b (unlink_keeps a ends.file work.from ends.sender))
      (quiet_posted us p N a b work.from (message.ByeOk ends.file ends.sender) work tt)

  pub bye_ok_quiet : (file : FileId) (birth : ℕ) → IsQuiet (bye_ok a file birth work)
  bye_ok_quiet file birth =
      let rest = ended a.intents (intent_key.Bye file birth work.from) in
      stored (with_intents a rest) (intents_keep a rest)

  leave_given_quiet : (ends : Ends) (stamp : Stamp) (d : Done)
      → Quiet us p N d.store d.work (leave_given ends stamp d)
  leave_given_quiet ends stamp d =
      let m = message.LeaveOk (ends_between d.store ends.file ends.sender) stamp in
      chosen (λ (w : Work). Quiet us p N d.store d.work (idle d.store w))
      (gives_leave d.store ends.file stamp) (reply d.store m d.work) d.work
      (quiet_post us p N d.store d.work.from m d.work tt) (quiet_idle us p N d.store d.work)

  pub leave_quiet : (ends : Ends) (stamp : Stamp) → IsQuiet (leave a ends stamp work)
  leave_quiet ends stamp =
      let d = accept a ends manner.Makes work in
      let linked = accept_quiet ends manner.Makes in
      chosen IsQuiet (is_accepted a work.from manner.Makes ends) (leave_given ends stamp d) d
      (quiet_then us p N linked (leave_given_quiet ends stamp d)) linked

  pub tell_ok_quiet : (dir child : FileId) (stamp : Stamp)
      → IsQuiet (tell_ok a dir child stamp work)
  tell_ok_quiet dir child stamp =
      let k = intent_key.Patch dir child in
      stored (end_told a dir child stamp work.from)
      (chosen (Keeps a) (is_told (intent_at a.intents k) stamp work.from)
      (with_intents a (ended a.intents k)) a (intents_keep a (ended a.intents k)) (Keeps-refl a))

  -- ---- what is told of children

  pub tell_quiet : (dir : FileId) (e : Entry) → IsQuiet (tell a dir e work)
  tell_quiet dir e =
      let d = take_entry_noted a dir e work in
      let no = message.NoneHere ask.Patch dir e.child in
      chosen IsQuiet (is_held a dir) (told dir e d) (idle a (reply a no work))
      (quiet_then us p N (entry_quiet us p N a dir e work)
      (quiet_post us p N d.store d.work.from (message.TellOk dir e.child e.place.stamp) d.work tt))
      (quiet_post us p N a work.from no work tt)

  pub place_is_quiet : (dir : FileId) (e : Entry) → IsQuiet (place_is a dir e work)
  place_is_quiet dir e =
      let d = take_entry_noted a dir e work in
      let rest = ended d.store.intents (intent_key.Confirm dir e.child) in
      chosen IsQuiet (is_held a dir) (confirmed dir e d) (idle a work)
      (quiet_then us p N (entry_quiet us p N a dir e work)
      (quiet_store us p N d.store (end_confirmed d.store dir e) d.work
      (chosen (Keeps d.store) (is_confirmed d.store dir e.child e.place.stamp)
      (with_intents d.store rest) d.store (intents_keep d.store rest) (Keeps-refl d.store))))
      still

  told_place_quiet : (e : Entry) → IsQuiet (take_told_place a e work)
  told_place_quiet e =
      chosen IsQuiet (is_root e.child) (idle a work) (take_place_noted a e.child e.place work) still
      (place_quiet us p N a e.child e.place work)

  pub confirm_quiet : (dir : FileId) (e : Entry) → IsQuiet (confirm a dir e work)
  confirm_quiet dir e =
      let first = take_told_place a e work in
      let second = take_told_flags e first in
      let no = message.NoneHere ask.Confirm dir e.child in
      chosen IsQuiet (is_held a e.child) (place_told dir e.child second) (idle a (reply a no work))
      (quiet_then us p N (told_place_quiet e)
      (quiet_then us p N (flags_quiet us p N first.store e.child e.flags first.work)
      (quiet_post us p N second.store second.work.from
      (message.PlaceIs dir (own_entry second.store e.child)) second.work tt)))
      (quiet_post us p N a work.from no work tt)

  -- ---- replicas that are filled

  few_quiet : (b : Store) (w : Work) (file : FileId) → Quiet us p N b w (raise_if_few b file w)
  few_quiet b w file =
      chosen (λ d. Quiet us p N b w d) (nat_lt (live_golds b file) few_golds)
      (raise_flag b file w) (idle b w) (raise_quiet us p N b file w) (quiet_idle us p N b w)

  pub fill_quiet : (file : FileId) → IsQuiet (fill a file work)
  fill_quiet file =
      let b = with_names a (fill_names a.names file) in
      quiet_then us p N (stored b (fill_keeps a file)) (few_quiet b work file)

  -- one gold more is asked for
  pub invite_quiet : (ends : Ends) → IsQuiet (invite a ends work)
  invite_quiet ends =
      let met = accept a ends manner.Needs work in
      let first = accept_quiet ends manner.Needs in
      chosen IsQuiet (is_accepted a work.from manner.Needs ends) (invited ends met) met
      (chosen IsQuiet (is_bronze met.store ends.file) (raise_if_few met.store ends.file met.work) met
      (quiet_then us p N first (few_quiet met.store met.work ends.file)) first) first

  pub full_quiet : (ends : Ends) → IsQuiet (full a ends work)
  full_quiet ends =
      chosen IsQuiet (is_accepted a work.from manner.Answers ends && not (is_full a ends.file))
      (fill a ends.file work) (idle a work) (fill_quiet ends.file) still

-- ---- a replica is fetched

module _ (us : List Born) (p : FileId → Policy) (N : FileId → Type 0) where
  -- what is held has the policy of its file, and its id was given out
  abbrev pub IsKnown : Store → Type 0
  IsKnown a = (file : FileId) (k : Core) → core_at a file ≡ Some k
      → (k.content.policy ≡ p file) × N file

  module _ (a : Store) (known : IsKnown a) (work : Work) where
    given_by : (ends : Ends) (o : Option Replica) → replica_at a ends.file ≡ o
        → Quiet us p N a work (idle a (given a ends o work))
    given_by ends None is = quiet_idle us p N a work
    given_by ends (Some x) is =
        quiet_post us p N a work.from
        (message.Grant ends (granted_from ends.file (own_or_blank a.names ends.file) x)) work
        (known ends.file (core_of x) (ap (option_map core_of) is))

    answered : (file : FileId) (birth : ℕ)
        → Quiet us p N a work (answered_fetch file birth (idle a work))
    answered file birth =
        let ends = ends_to a file birth in
        chosen (λ (w : Work). Quiet us p N a work (idle a w)) (is_clean a file work.from birth)
        (reply a (message.Full ends) work) (give a ends work)
        (quiet_post us p N a work.from (message.Full ends) work tt)
        (given_by ends (replica_at a file) refl)

  module _ (a : Store) (known : IsKnown a) (work : Work) where
    -- A FETCH
    pub fetch_quiet : (file : FileId) (birth : ℕ) → Quiet us p N a work (fetch a file birth work)
    fetch_quiet file birth =
        let d = link_peer a file work.from birth work in
        let linked = link_quiet us p N a file work.from birth work in
        let no = message.NoGrant file birth in
        chosen (λ e. Quiet us p N a work e) (is_full a file)
        (cond (knows_later a file work.from birth) (idle a work) (answered_fetch file birth d))
        (idle a (reply a no work))
        (chosen (λ e. Quiet us p N a work e) (knows_later a file work.from birth) (idle a work)
        (answered_fetch file birth d) (quiet_idle us p N a work)
        (quiet_then us p N linked
        (answered d.store (λ f k e. known f k (sym (linked.keeps.each f) ∙ e)) d.work file birth)))
        (quiet_post us p N a work.from no work tt)
