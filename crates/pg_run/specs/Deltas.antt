-- Deltas: which a replica made or took along a run, that it keeps the latest of these, and that a
-- Want is answered by the change that they lead to.
use Rattle.std.specs.Prelude.{ℕ, ◌≡◌, ◌==◌, ◌&&◌, Bool, true, false, not, if◌then◌else◌, List, [], ◌∷◌, ◌++◌, map, take, Option, None, Some}
use Rattle.std.specs.List.{filter}
use Rattle.pg_base.specs.declared.id.FileId.{FileId}
use Rattle.pg_base.specs.Id.{is_same_file}
use Rattle.pg_base.specs.Version.{VersionValue, actor_of}
use Rattle.pg_content.specs.Content.{head_at, is_covered}
use Rattle.pg_delta.specs.declared.delta.KeptDelta.{KeptDelta}
use Rattle.pg_delta.specs.Chain.{IsDelta}
use Rattle.pg_delta.specs.Kept.{kept_deltas}
use Rattle.pg_delta.specs.Taking.{delta_to}
use Rattle.pg_event.specs.declared.event.Event.{Event}
use Rattle.pg_server.specs.pg_pieces.pg_msg.declared.message.Delta.{Delta}
use Rattle.pg_server.specs.pg_pieces.pg_msg.declared.message.Ends.{Ends}
use Rattle.pg_server.specs.pg_pieces.pg_msg.declared.message.Message.{Message}
use Rattle.pg_server.specs.pg_pieces.pg_msg.declared.message.Message.TheVariants as message
use Rattle.pg_server.specs.pg_pieces.pg_msg.declared.message.Packet.{Packet}
use Rattle.pg_server.specs.pg_pieces.pg_msg.declared.message.Wanted.{Wanted}
use Rattle.pg_server.specs.pg_pieces.pg_msg.declared.update.MadeVersion.{MadeVersion}
use Rattle.pg_server.specs.pg_pieces.pg_msg.declared.update.Update.{Update}
use Rattle.pg_server.specs.pg_pieces.pg_msg.Ends.{back}
use Rattle.pg_server.specs.pg_pieces.pg_names.Names.{is_dir}
use Rattle.pg_patch.specs.Ranges.{RangesValue}
use Rattle.pg_server.specs.pg_pieces.pg_replica.declared.replica.Replica.{Replica}
use Rattle.pg_server.specs.declared.input.Input.{Input}
use Rattle.pg_server.specs.declared.input.Input.TheVariants as input
use Rattle.pg_server.specs.pg_pieces.declared.accepting.EdgeUse.TheVariants as manner
use Rattle.pg_server.specs.pg_pieces.Accepting.{is_accepted}
use Rattle.pg_server.specs.pg_pieces.Posting.{sent_to}
use Rattle.pg_server.specs.pg_transfer.Want.{most_in_piece}
use Rattle.pg_server.specs.Local.{effect, is_heard, takes_effect}
use Rattle.pg_server.specs.pg_pieces.pg_store.declared.store.Store.{Store}
use Rattle.pg_server.specs.pg_pieces.pg_store.Store.{content_of, replica_at}
use Rattle.pg_run.specs.Asked.{goes}
use Rattle.pg_run.specs.Asking.{Asked}
use Rattle.pg_run.specs.Carried.{delta_carried, gone_in}
use Rattle.pg_run.specs.Journal.{versions_in}
use Rattle.pg_run.specs.Laws.{AtEach, store_after}
use Rattle.pg_run.specs.Quiet.{has_some}
use Rattle.pg_run.specs.Run.{Taking, World, next, run, start, taking_in, world_after}

-- ---- what a replica made or took

-- a version that was made, as a change of those on which it was made
abbrev pub delta_made : MadeVersion → KeptDelta
delta_made u = delta_to u.bases u.stamp u.ranges

abbrev pub deltas_made : FileId → List Update → List KeptDelta
deltas_made file us =
    map delta_made (filter (λ (u : MadeVersion). is_same_file u.file file) (versions_in us))

-- the server covers the version of that head already
abbrev pub covers_already : Store → FileId → Delta → Bool
covers_already store file d =
    is_covered (content_of store file).heads (actor_of d.head) d.head.number

abbrev pub delta_took : Store → Asked → FileId → ℕ → Ends → Delta → List KeptDelta
delta_took store wants file from ends d = if is_same_file ends.file file
    && (has_some (delta_carried store wants from ends d) && not (covers_already store file d))
    then delta_to d.from d.head.stamp d.ranges ∷ [] else []

-- a version that a Delta carries, and that was not here, is taken by it
abbrev pub deltas_in : Store → Asked → FileId → ℕ → Message → List KeptDelta
deltas_in store wants file from (message.Delta ends d) = delta_took store wants file from ends d
deltas_in store wants file from _ = []

abbrev pub deltas_taken : Store → Asked → FileId → Input → List KeptDelta
deltas_taken store wants file (input.Arrival packet) =
    deltas_in store wants file packet.from packet.message
deltas_taken store wants file _ = []

-- behind an event that has an effect: of a replica that went there is none, and those that are
-- taken and made come last
abbrev pub deltas_then : Store → Asked → FileId → Input → List KeptDelta → List KeptDelta
deltas_then store wants file i old = (if goes file (gone_in store i) then [] else old)
    ++ (deltas_taken store wants file i ++ deltas_made file (effect store i).out.made)

abbrev pub deltas_behind : Store → Asked → FileId → Input → List KeptDelta → List KeptDelta
deltas_behind store wants file i old =
    if takes_effect store i then deltas_then store wants file i old else old

-- ---- along a run

-- behind an event at one of the servers, at server s
abbrev pub deltas_at : Option Taking → World → ℕ → FileId → List KeptDelta → List KeptDelta
deltas_at None w s file old = old
deltas_at (Some t) w s file old =
    if t.server == s then deltas_behind (w.stores s) (w.asked s) file t.asked old else old

abbrev pub deltas_from : ℕ → World → List Event → ℕ → FileId → List KeptDelta → List KeptDelta
deltas_from servers w [] s file old = old
deltas_from servers w (event ∷ events) s file old =
    deltas_from servers (world_after w (next servers w event)) events s file
    (deltas_at (taking_in servers w event) w s file old)

-- all that the present replica of a file at a server made, or took by a Delta, the oldest first
abbrev pub deltas_after : ℕ → List Event → ℕ → FileId → List KeptDelta
deltas_after servers events s file = deltas_from servers (start servers) events s file []

-- KEPT DELTAS: of these a replica keeps the longest end that has at most 8 deltas and 65,536 bytes,
-- those of more than 30,000 bytes left out
abbrev pub KeepsWhatItMadeOrTook : ℕ → Type 0
KeepsWhatItMadeOrTook servers = (events : List Event) (file : FileId) → AtEach servers (λ s.
    (x : Replica) → replica_at (store_after servers events s) file ≡ Some x
    → x.kept ≡ kept_deltas (deltas_after servers events s file))

-- ---- the change in place of a body

-- a Want for a version from its first byte on comes to server s and is accepted, and the version is
-- a head there
pub record WantsFromTheFirst (servers : ℕ) (w : World) (event : Event) (s from : ℕ) (ends : Ends)
    (wanted : Wanted) (v : VersionValue) : Type 0 where
  pub packet : Packet
  pub takes : taking_in servers w event
      ≡ Some (record { server = s; asked = input.Arrival packet })
  pub sender : packet.from ≡ from
  pub is : packet.message ≡ message.Want ends wanted
  pub heard : is_heard (w.stores s) packet ≡ true
  pub file : is_dir ends.file ≡ false
  pub accepted : is_accepted (w.stores s) from manner.Needs ends ≡ true
  pub offset : wanted.offset ≡ 0
  pub head : head_at (content_of (w.stores s) ends.file).heads wanted.stamp ≡ Some v

-- the version as this change of what the named heads show; where there is none, the first bytes of
-- its body
abbrev pub change_or_bytes : Option RangesValue → Ends → Wanted → VersionValue → Message
change_or_bytes None ends wanted v = message.Piece (back ends)
    (record { head = v.head; offset = 0; bytes = take most_in_piece v.body })
change_or_bytes (Some ranges) ends wanted v = message.Delta (back ends)
    (record { head = v.head; from = wanted.heads; ranges = ranges })

-- THE CHANGE IN PLACE OF A BODY: it is answered by a Delta exactly where a chain of the deltas that
-- the replica keeps leads from just the heads that it names, of which there is one at least, and
-- its ranges in one have at most 30,000 bytes in at most 200 parts, and fewer than the body; and
-- the Delta holds these ranges. Nothing else is sent
abbrev pub WantsGetTheShortestChange : ℕ → Type 0
WantsGetTheShortestChange servers = (events : List Event) (event : Event) (s from : ℕ) (ends : Ends)
    (wanted : Wanted) (v : VersionValue) → let w = run servers events in
    WantsFromTheFirst servers w event s from ends wanted v
    → (c : Option RangesValue) × IsDelta (kept_deltas (deltas_after servers events s ends.file))
    wanted.heads v.head.stamp v.head.length c
    × ((next servers w event).entry.sent
    ≡ sent_to (w.stores s) from (change_or_bytes c ends wanted v) ∷ [])
