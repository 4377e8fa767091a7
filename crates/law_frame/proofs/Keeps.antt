-- WHAT A LAW SAYS OF THE PIECES OF A MESSAGE: each piece keeps it, where the message that came is
-- the one that has this piece.
use Rattle.std.proofs.Common.{ℕ, ◌≡◌, ◌==◌, Bool, true, false, Option, None, Some, slice_get}
use Rattle.std.specs.Prelude.{Contains, nat_lt}
use Rattle.pg_run.specs.pg_announced.Announced.{NotesValue}
use Rattle.pg_run.specs.pg_base.declared.head.Head.{Head}
use Rattle.pg_run.specs.pg_base.declared.id.FileId.{FileId}
use Rattle.pg_run.specs.pg_base.declared.stamp.Stamp.{Stamp}
use Rattle.pg_run.specs.pg_base.Version.{VersionValue}
use Rattle.pg_run.specs.pg_delta.declared.delta.KeptDelta.{KeptDelta}
use Rattle.pg_run.specs.pg_edges.declared.edge.Edge.{Edge}
use Rattle.pg_run.specs.pg_edges.declared.key.Key.{Key}
use Rattle.pg_run.specs.pg_entries.declared.cell.Cell.TheVariants as cells
use Rattle.pg_run.specs.pg_entries.declared.entry.Entry.{Entry}
use Rattle.pg_run.specs.pg_house.Work.{is_root}
use Rattle.pg_run.specs.pg_intent.declared.key.IntentKey.{IntentKey}
use Rattle.pg_run.specs.pg_intent.declared.key.IntentKey.TheVariants as intent_key
use Rattle.pg_run.specs.pg_intent.Intents.{aimed, ended}
use Rattle.pg_run.specs.pg_msg.declared.message.Ends.{Ends}
use Rattle.pg_run.specs.pg_msg.declared.message.Granted.{Granted}
use Rattle.pg_run.specs.pg_msg.declared.message.Message.{Message}
use Rattle.pg_run.specs.pg_msg.declared.message.Message.TheVariants as message
use Rattle.pg_run.specs.pg_msg.declared.summary.Greeting.TheVariants as greeting
use Rattle.pg_run.specs.pg_msg.declared.work.Work.{Work}
use Rattle.pg_run.specs.pg_msg.Ends.{back}
use Rattle.pg_run.specs.pg_msg.Work.{with_tail}
use Rattle.pg_run.specs.pg_names.Names.{is_dir, own_or_blank}
use Rattle.pg_run.specs.pg_names.Names.{fill as fill_names}
use Rattle.pg_run.specs.pg_register.declared.flag.Flag.{Flag}
use Rattle.pg_run.specs.pg_register.declared.place.Place.{Place}
use Rattle.pg_run.specs.pg_replica.declared.replica.Replica.{Replica}
use Rattle.pg_run.specs.pg_store.declared.store.Store.{Store}
use Rattle.pg_run.specs.pg_store.Beginning.{let_go, with_intents}
use Rattle.pg_run.specs.pg_store.Births.{birth_of, has_birth, is_pending, with_wishes}
use Rattle.pg_run.specs.pg_store.Links.{unlink}
use Rattle.pg_run.specs.pg_store.Seen.{server_of}
use Rattle.pg_run.specs.pg_store.Servers.{next_target}
use Rattle.pg_run.specs.pg_store.Store.{acknowledge, is_full, is_held, keep_delta, replica_at, replica_of, with_names}
use Rattle.pg_run.specs.pg_store.Wishes.{aim_wish}
use Rattle.pg_run.specs.pg_pieces.declared.accepting.EdgeUse.TheVariants as manner
use Rattle.pg_run.specs.pg_pieces.Accepting.{ends_to, is_accepted, link_peer}
use Rattle.pg_run.specs.pg_pieces.Done.{Done, idle, link_of}
use Rattle.pg_run.specs.pg_pieces.Intending.{begin_intent}
use Rattle.pg_run.specs.pg_pieces.Making.{raise_flag}
use Rattle.pg_run.specs.pg_pieces.Posting.{post, reply, sent_to}
use Rattle.pg_run.specs.pg_pieces.Taking.{take_entry_cell, take_entry_noted, take_flag_noted, take_place_noted, take_version_noted}
use Rattle.pg_run.specs.pg_graph.Leaving.{bye_to, gives_leave, without_leave}
use Rattle.pg_run.specs.pg_graph.Walks.{onward}
use Rattle.pg_run.specs.pg_repair.Confirming.{own_entry}
use Rattle.pg_run.specs.pg_repair.Fetching.{granted_from}
use Rattle.pg_run.specs.pg_repair.Filling.{few_golds, live_golds}
use Rattle.pg_run.specs.pg_repair.Granting.{begun_by}
use Rattle.pg_run.specs.pg_server.pg_transfer.Asking.{with_notes}
use Rattle.pg_run.proofs.pg_graph.LeaveOk.{MayGo}

-- ---- what a message names

-- the ends of the edge that it comes along
abbrev pub along : Message → Option Ends
along (message.Cell ends tag c) = Some ends
along (message.Ack ends q tag) = Some ends
along (message.Harbinger ends tag head) = Some ends
along (message.Want ends wanted) = Some ends
along (message.Delta ends d) = Some ends
along (message.Piece ends p) = Some ends
along (message.Later ends stamp) = Some ends
along (message.Grant ends granted) = Some ends
along (message.Full ends) = Some ends
along (message.Greet ends why) = Some ends
along (message.Bye ends) = Some ends
along (message.Leave ends stamp) = Some ends
along (message.LeaveOk ends stamp) = Some ends
along (message.Invite ends) = Some ends
along (message.Walk ends origin birth hops word) = Some ends
along _ = None

-- the replica of its sender that it may link: the thing, and the birth
abbrev pub linking : Message → Option (FileId × ℕ)
linking (message.Cell ends tag c) = Some (ends.file, ends.sender)
linking (message.Harbinger ends tag head) = Some (ends.file, ends.sender)
linking (message.Grant ends granted) = Some (ends.file, ends.sender)
linking (message.Greet ends why) = Some (ends.file, ends.sender)
linking (message.Leave ends stamp) = Some (ends.file, ends.sender)
linking (message.Fetch file birth) = Some (file, birth)
linking (message.Seek file birth) = Some (file, birth)
linking _ = None

-- and the one that is no more there
abbrev pub unlinking : Message → Option (FileId × ℕ)
unlinking (message.Gone file birth) = Some (file, birth)
unlinking (message.Bye ends) = Some (ends.file, ends.sender)
unlinking _ = None

-- of which replica here it may make a gold one
abbrev pub raising : Message → Option Ends
raising (message.Full ends) = Some ends
raising (message.Invite ends) = Some ends
raising _ = None

-- the file of which it tells a version, or brings one
abbrev pub bringing : Message → Option FileId
bringing (message.Cell ends tag (cells.Version v)) = Some ends.file
bringing (message.Harbinger ends tag head) = Some ends.file
bringing (message.Want ends wanted) = Some ends.file
bringing (message.Delta ends d) = Some ends.file
bringing (message.Piece ends p) = Some ends.file
bringing (message.Later ends stamp) = Some ends.file
bringing _ = None

-- the intention that it ends, where it is the answer
abbrev pub ending : ℕ → Message → Option IntentKey
ending from (message.ByeOk file birth) = Some (intent_key.Bye file birth from)
ending from (message.PlaceIs dir e) = Some (intent_key.Confirm dir e.child)
ending from (message.TellOk dir child stamp) = Some (intent_key.Patch dir child)
ending from (message.LeaveOk ends stamp) = Some (intent_key.Leave ends.file)
ending from _ = None

-- ---- what is answered

-- to this message, which came to store a, with store b
module _ (a : Store) (m : Message) (b : Store) where
  -- who is not here is gone
  pub record IsGone (file : FileId) (birth : ℕ) : Type 0 where
    pub ends : Ends
    pub of : along m ≡ Some ends
    pub is : (file ≡ ends.file) × (birth ≡ ends.receiver)
    pub away : has_birth a file birth ≡ false
    pub over : is_pending a file birth ≡ false

  -- who asked for a replica has all of it, or is granted one
  pub record IsGranted (ends : Ends) (granted : Granted) : Type 0 where
    pub asked : m ≡ message.Fetch ends.file ends.receiver
    pub is : ends ≡ ends_to b ends.file ends.receiver
    pub full : is_full a ends.file ≡ true
    pub here : Replica
    pub at : replica_at b ends.file ≡ Some here
    pub what : granted ≡ granted_from ends.file (own_or_blank b.names ends.file) here

  abbrev pub IsBack : Ends → Type 0
  IsBack ends = (x : Ends) × (along m ≡ Some x) × (ends ≡ back x)

  abbrev pub Answers : Message → Type 0
  Answers (message.Gone file birth) = IsGone file birth
  Answers (message.Ack ends q tag) = IsBack ends
  Answers (message.Want ends wanted) = IsBack ends
  Answers (message.Delta ends d) = IsBack ends
  Answers (message.Piece ends p) = IsBack ends
  Answers (message.Later ends stamp) = IsBack ends
  Answers (message.Full ends) =
      (m ≡ message.Fetch ends.file ends.receiver) × (ends ≡ ends_to b ends.file ends.receiver)
      × (is_full a ends.file ≡ true)
  Answers (message.Grant ends granted) = IsGranted ends granted
  Answers (message.NoGrant file birth) = m ≡ message.Fetch file birth
  Answers (message.Greet ends why) =
      (m ≡ message.Seek ends.file ends.receiver) × (ends ≡ ends_to b ends.file ends.receiver)
      × (is_held a ends.file ≡ true)
  Answers (message.NoneHere what file child) = Unit {0}
  Answers (message.ByeOk file birth) =
      (ends : Ends) × (m ≡ message.Bye ends) × (file ≡ ends.file) × (birth ≡ ends.sender)
  Answers (message.PlaceIs dir e) =
      (x : Entry) × (m ≡ message.Confirm dir x) × (e ≡ own_entry b x.child)
  Answers (message.TellOk dir child stamp) =
      (e : Entry) × (m ≡ message.Tell dir e) × (child ≡ e.child) × (stamp ≡ e.place.stamp)
  Answers (message.LeaveOk ends stamp) = (x : Ends) × (m ≡ message.Leave x stamp)
      × (ends ≡ ends_to b x.file x.sender) × (gives_leave b x.file stamp ≡ true)
  Answers _ = ⊥

-- ---- the pieces

-- I outlives each piece of this message, which came to this store, where this work was done
--
-- cell_place .. cell_version: what a cell brings is taken, where it is accepted
-- version: a version whose body came, or was made of a change
-- told_place, told_flag: and what a Confirm tells of a child that is held
-- place_is, tell: what is told to a directory that is held
-- links, meets: the sender of the message is linked, and the origin of a walk
-- unlinks, acknowledges: the edge to the sender goes, and the key of what it took
-- begins, fills, raises: a replica that is granted begins, is full, and gold
-- goes, says_bye: one goes by leave, and each peer is to be told
-- ends_intent, turns_intent, asks_granter, turns_wish: an intention ends, or it or a wish asks the
-- next server, or a Fill who granted the replica
-- answers, tells_origin, passes_on: the sender is answered; the origin of a walk hears who met it;
-- and a walk is passed on, last of all
-- notes, keeps, tells: what is noted of versions, a delta is kept, a peer hears of a version
pub record Keeps (a : Store) (w : Work) (m : Message) (I : Done → Type 0) : Type 0 where
  pub cell_place : (d : Done) (ends : Ends) (tag : ℕ) (p : Place)
      → m ≡ message.Cell ends tag (cells.Place p) → is_accepted a w.from manner.Makes ends ≡ true
      → I d → I (take_place_noted d.store ends.file p d.work)
  pub cell_flag : (d : Done) (ends : Ends) (tag : ℕ) (g : Flag)
      → m ≡ message.Cell ends tag (cells.Flag g) → is_accepted a w.from manner.Makes ends ≡ true
      → I d → I (take_flag_noted d.store ends.file g d.work)
  pub cell_entry : (d : Done) (ends : Ends) (tag : ℕ) (e : Entry) (sure : Bool)
      → m ≡ message.Cell ends tag (cells.Entry e sure) → is_dir ends.file ≡ true
      → is_accepted a w.from manner.Makes ends ≡ true
      → I d → I (take_entry_cell d.store ends.file e sure d.work)
  pub version : (d : Done) (file : FileId) (v : VersionValue) → bringing m ≡ Some file
      → I d → I (take_version_noted d.store file v d.work)
  pub told_place : (d : Done) (dir : FileId) (e : Entry) → m ≡ message.Confirm dir e
      → is_held a e.child ≡ true → is_root e.child ≡ false
      → I d → I (take_place_noted d.store e.child e.place d.work)
  pub told_flag : (d : Done) (dir : FileId) (e : Entry) (g : Flag) → m ≡ message.Confirm dir e
      → is_held a e.child ≡ true → Contains e.flags g
      → I d → I (take_flag_noted d.store e.child g d.work)
  pub place_is : (d : Done) (dir : FileId) (e : Entry) → m ≡ message.PlaceIs dir e
      → is_held a dir ≡ true → I d → I (take_entry_noted d.store dir e d.work)
  pub tell : (d : Done) (dir : FileId) (e : Entry) → m ≡ message.Tell dir e
      → is_held a dir ≡ true → I d → I (take_entry_noted d.store dir e d.work)
  pub links : (d : Done) (file : FileId) (birth : ℕ) → linking m ≡ Some (file, birth)
      → d.work.from ≡ w.from → I d → I (link_peer d.store file d.work.from birth d.work)
  pub meets : (d : Done) (ends : Ends) (origin birth hops word : ℕ)
      → m ≡ message.Walk ends origin birth hops word
      → (is_accepted a w.from manner.Needs ends ≡ true) × ((origin == server_of a) ≡ false)
      → I d → I (link_peer d.store ends.file origin birth d.work)
  pub unlinks : (d : Done) (file : FileId) (birth : ℕ) → unlinking m ≡ Some (file, birth)
      → d.work.from ≡ w.from → I d → I (idle (unlink d.store file d.work.from birth) d.work)
  pub acknowledges : (d : Done) (ends : Ends) (q : Key) (tag : ℕ) → m ≡ message.Ack ends q tag
      → d.work.from ≡ w.from
      → I d → I (idle (acknowledge d.store ends.file (link_of d.work.from ends) q tag) d.work)
  pub begins : (ends : Ends) (granted : Granted) → m ≡ message.Grant ends granted
      → is_pending a ends.file ends.receiver ≡ true
      → I (idle a w) → I (idle (begun_by a ends granted) w)
  pub fills : (ends : Ends) → m ≡ message.Full ends
      → is_accepted a w.from manner.Answers ends ≡ true → is_full a ends.file ≡ false
      → I (idle a w) → I (idle (with_names a (fill_names a.names ends.file)) w)
  pub raises : (d : Done) (ends : Ends) → raising m ≡ Some ends
      → has_birth a ends.file ends.receiver ≡ true
      → nat_lt (live_golds d.store ends.file) few_golds ≡ true
      → I d → I (raise_flag d.store ends.file d.work)
  pub goes : (ends : Ends) (stamp : Stamp) → m ≡ message.LeaveOk ends stamp
      → MayGo a ends stamp w → I (idle (without_leave a ends.file) w)
      → I (idle (let_go (without_leave a ends.file) ends.file) w)
  pub says_bye : (d : Done) (ends : Ends) (stamp : Stamp) (e : Edge)
      → m ≡ message.LeaveOk ends stamp → MayGo a ends stamp w
      → Contains (replica_of a ends.file).edges e
      → I d → I (begin_intent d.store (bye_to ends.file (birth_of a ends.file) e) d.work)
  pub ends_intent : (d : Done) (q : IntentKey) → ending w.from m ≡ Some q
      → I d → I (idle (with_intents d.store (ended d.store.intents q)) d.work)
  pub turns_intent : (d : Done) (q : IntentKey) (to : ℕ) → to ≡ next_target a w.from
      → I d → I (idle (with_intents d.store (aimed d.store.intents q to)) d.work)
  pub asks_granter : (d : Done) (ends : Ends) (granted : Granted)
      → m ≡ message.Grant ends granted → d.work.from ≡ w.from → I d
      → I (idle (with_intents d.store
      (aimed d.store.intents (intent_key.Fill ends.file) d.work.from)) d.work)
  pub turns_wish : (d : Done) (file : FileId) (to : ℕ) → to ≡ next_target a w.from
      → I d → I (idle (with_wishes d.store (aim_wish d.store.wishes file to)) d.work)
  pub answers : (d : Done) (r : Message) → Answers a m d.store r → d.work.from ≡ w.from
      → I d → I (idle d.store (reply d.store r d.work))
  pub tells_origin : (d : Done) (ends : Ends) (origin birth hops word : ℕ)
      → m ≡ message.Walk ends origin birth hops word
      → is_accepted a w.from manner.Needs ends ≡ true → I d
      → I (idle d.store
      (post d.store origin (message.Greet (ends_to d.store ends.file birth) greeting.Meet) d.work))
  pub passes_on : (ends : Ends) (origin birth hops word left rest i : ℕ) (e : Edge)
      → m ≡ message.Walk ends origin birth hops word
      → is_accepted a w.from manner.Needs ends ≡ true
      → slice_get (onward a ends.file w.from origin) i ≡ Some e
      → I (idle a w)
      → I (idle a (with_tail w (sent_to a e.peer
      (message.Walk (ends_to a ends.file e.birth) origin birth left rest))))
  pub notes : (d : Done) (ns : NotesValue) → I d → I (idle (with_notes d.store ns) d.work)
  pub keeps : (d : Done) (file : FileId) (delta : KeptDelta)
      → I d → I (idle (keep_delta d.store file delta) d.work)
  pub tells : (d : Done) (ends : Ends) (head : Head) (e : Edge) → along m ≡ Some ends
      → Contains (replica_of d.store ends.file).edges e → I d
      → I (idle d.store
      (post d.store e.peer (message.Harbinger (ends_to d.store ends.file e.birth) 0 head) d.work))

-- I holds, and the work answers who it answered first
abbrev pub Kept : Work → (Done → Type 0) → Done → Type 0
Kept w I d = I d × (d.work.from ≡ w.from)
