-- Whole states: their parts, and the store that has these parts.
use Rattle.std.specs.Prelude.{ℕ, ◌≡◌, ◌≤◌, ◌+◌, ◌*◌, ◌-◌, ◌^◌, ◌==◌, ◌&&◌, Bool, true, List, [], ◌∷◌, length, Result, Ok, Err, nat_le, nat_lt, if◌then◌else◌}
use Rattle.std.specs.List.{list_all}
use Rattle.pg_base.specs.Version.{VersionValue}
use Rattle.pg_base.specs.declared.id.FileId.{FileId}
use Rattle.pg_codec.specs.Laws.{HasWidth}
use Rattle.pg_codec.specs.Reading.{Field, ◌>>=◌, followed_by, seen_as, checked, number_at, unread}
use Rattle.pg_codec.specs.Unread.{Unread}
use Rattle.pg_entries.specs.declared.entry.Entry.{Entry}
use Rattle.pg_intent.specs.declared.intent.Intent.{Intent}
use Rattle.pg_intent.specs.declared.intent.Intent.TheVariants as intent
use Rattle.pg_names.specs.Names.{NamesValue, begin, new_names, raise, remove_server, set_entry}
use Rattle.pg_replica.specs.Replicas.{ByFile, put_replica}
use Rattle.pg_state.specs.Spelling.{mark}
use Rattle.pg_store.specs.declared.store.Store.{Store}
use Rattle.pg_packet_write.specs.Fits.{IsServer}
use Rattle.pg_packet_fields.specs.Faults.{of_packet}
use Rattle.pg_packet_fields.specs.Reading.{server_at}
use Rattle.pg_packet_fields.specs.declared.error.PacketError.{PacketError}
use Rattle.pg_packet_fields.specs.declared.error.PacketError.TheVariants as packet
use Rattle.pg_state_read.specs.declared.error.StateError.{StateError}
use Rattle.pg_state_read.specs.declared.error.StateError.TheVariants as state
use Rattle.pg_state_read.specs.declared.parts.Counters.{Counters}
use Rattle.pg_state_read.specs.declared.parts.Parts.{Parts}
use Rattle.pg_state_read.specs.declared.parts.Servers.{Servers}
use Rattle.pg_state_read.specs.declared.parts.Waiting.{Waiting}
use Rattle.pg_state_fields.specs.declared.replicas.Held.{Held}
use Rattle.pg_state_fields.specs.Intents.{AreIntents, all_intents_at}
use Rattle.pg_state_read.specs.Later.{AreNotes, AreWishes, notes_at, wishes_at}
use Rattle.pg_state_fields.specs.Orders.{AreCounted, counted_list_at, tested_of, unchanged}
use Rattle.pg_state_fields.specs.Replicas.{AreHeld, all_held_at}

-- ---- faults

-- what a function returned, seen by view, is what reading gives, unless memory ran out
abbrev pub Fails : {Y : Type 0} → StateError → Result Y PacketError → Type 0
Fails state.OutOfMemory read = Unit {0}
Fails (state.Short place) read = read ≡ Err (packet.Short place)
Fails (state.BadTag place) read = read ≡ Err (packet.BadTag place)
Fails (state.TooLong place) read = read ≡ Err (packet.TooLong place)
Fails (state.Tail place) read = read ≡ Err (packet.Tail place)

abbrev pub Gives : {X Y : Type 0} → (X → Y) → Result X StateError → Result Y PacketError → Type 0
Gives view (Ok x) read = read ≡ Ok (view x)
Gives view (Err e) read = Fails e read

-- the same fault of a state
abbrev pub of_state : PacketError → StateError
of_state packet.OutOfMemory = state.OutOfMemory
of_state (packet.Short place) = state.Short place
of_state (packet.BadTag place) = state.BadTag place
of_state (packet.TooLong place) = state.TooLong place
of_state (packet.Tail place) = state.Tail place

-- ---- parts

abbrev pub is_byte : ℕ → ℕ → Bool
is_byte byte n = n == byte

unfoldable pub byte_at : ℕ → Field PacketError ℕ
byte_at byte from = checked (tested_of (is_byte byte)) (of_packet (number_at 1)) from

-- these bytes
unfoldable pub these_at : List ℕ → Field PacketError (Unit {0})
these_at [] from = Ok (tt, from)
these_at (byte ∷ bytes) from = seen_as (λ x. x.1)
    (followed_by (byte_at byte) (λ found. these_at bytes)) from

abbrev pub any_server : Unit {0} → Field PacketError ℕ
any_server known from = server_at from

-- the servers that were removed
unfoldable pub removed_at : Field PacketError (List ℕ)
removed_at from = counted_list_at 1 any_server unchanged tt from

-- the server, how many there are, those that were removed
unfoldable pub servers_at : Field PacketError Servers
servers_at from = seen_as (λ x. record { server = x.0; servers = x.1.0; removed = x.1.1 })
    (followed_by server_at (λ server. followed_by server_at (λ servers. removed_at))) from

abbrev pub is_tag : ℕ → Bool
is_tag n = nat_lt n (2 ^ 64 - 1)

-- the latest tag, behind which there is one more
unfoldable pub tag_at : Field PacketError ℕ
tag_at from = checked (tested_of is_tag) (of_packet (number_at 8)) from

-- the greatest time, the latest id, birth and tag
unfoldable pub counters_at : Field PacketError Counters
counters_at from = seen_as
    (λ x. record { last = x.0; files = x.1.0; births = x.1.1.0; tags = x.1.1.1 + 1 })
    (followed_by (of_packet (number_at 8)) (λ last. followed_by (of_packet (number_at 8))
    (λ files. followed_by (of_packet (number_at 8)) (λ births. tag_at)))) from

-- intentions, wishes, announced versions
unfoldable pub waiting_at : Field PacketError Waiting
waiting_at from = seen_as (λ x. record { intents = x.0; wishes = x.1.0; announced = x.1.1 })
    (followed_by all_intents_at (λ intents. followed_by wishes_at (λ wishes. notes_at))) from

-- what stands behind the mark
unfoldable pub parts_at : Field PacketError Parts
parts_at from = seen_as
    (λ x. record { servers = x.0; counters = x.1.0; held = x.1.1.0; waiting = x.1.1.1 })
    (followed_by servers_at (λ servers. followed_by counters_at
    (λ counters. followed_by all_held_at (λ held. waiting_at)))) from

unfoldable pub marked_at : Field PacketError Parts
marked_at from = seen_as (λ x. x.1) (followed_by (these_at mark) (λ known. parts_at)) from

-- ---- the greatest time

abbrev pub is_entry_in_time : ℕ → Entry → Bool
is_entry_in_time last e = nat_le e.place.stamp.time last

abbrev pub is_head_in_time : ℕ → VersionValue → Bool
is_head_in_time last v = nat_le v.head.stamp.time last

-- the place, the entries and the heads have no later time
abbrev pub is_held_in_time : ℕ → Held → Bool
is_held_in_time last h = nat_le h.own.place.stamp.time last
    && (list_all (is_entry_in_time last) h.entries
    && list_all (is_head_in_time last) h.replica.content.heads)

-- nor has the place of a Patch
abbrev pub is_intent_in_time : ℕ → Intent → Bool
is_intent_in_time last (intent.Patch dir entry target) = is_entry_in_time last entry
is_intent_in_time last i = true

abbrev pub are_in_time : Parts → Bool
are_in_time p = list_all (is_held_in_time p.counters.last) p.held
    && list_all (is_intent_in_time p.counters.last) p.waiting.intents

-- where the greatest time stands: behind the mark, two servers, a count, and those removed
abbrev pub last_place : Servers → ℕ
last_place servers = 25 + 4 * length servers.removed

-- ---- the whole

-- nothing stands behind it
abbrev pub ended : Parts × Unread → Result Parts PacketError
ended x = if length x.1.rest == 0 then Ok x.0 else Err (packet.Tail x.1.place)

-- the greatest time is below none
abbrev pub timed : Parts → Result Parts PacketError
timed p = if are_in_time p then Ok p else Err (packet.BadTag (last_place p.servers))

-- the parts of the state that the bytes are
unfoldable pub parts_of : List ℕ → Result Parts PacketError
parts_of bytes = (marked_at (unread bytes) >>= ended) >>= timed

-- ---- the store with these parts

abbrev pub with_removed : NamesValue → List ℕ → NamesValue
with_removed names [] = names
with_removed names (server ∷ servers) = with_removed (remove_server names server) servers

abbrev pub with_entries : FileId → NamesValue → List Entry → NamesValue
with_entries file names [] = names
with_entries file names (e ∷ es) = with_entries file (set_entry names file e) es

-- what is known of the names of one thing more
abbrev pub with_held : NamesValue → Held → NamesValue
with_held names h = with_entries h.file (begin names h.file h.own h.full) h.entries

abbrev pub with_all_held : NamesValue → List Held → NamesValue
with_all_held names [] = names
with_all_held names (h ∷ hs) = with_all_held (with_held names h) hs

abbrev pub with_replicas : ByFile → List Held → ByFile
with_replicas replicas [] = replicas
with_replicas replicas (h ∷ hs) = with_replicas (put_replica replicas h.file h.replica) hs

-- what a server knows of names that holds nothing
abbrev pub first_names : Servers → ℕ → NamesValue
first_names servers last =
    raise (with_removed (new_names servers.server) servers.removed) last

abbrev pub store_with : Parts → Store
store_with p = record {
  servers = p.servers.servers;
  tags = p.counters.tags;
  files = p.counters.files;
  births = p.counters.births;
  names = with_all_held (first_names p.servers p.counters.last) p.held;
  replicas = with_replicas [] p.held;
  announced = p.waiting.announced;
  intents = p.waiting.intents;
  wishes = p.waiting.wishes;
}

-- the store that the bytes are
unfoldable pub state_of : List ℕ → Result Store PacketError
state_of bytes = parts_of bytes >>= λ p. Ok (store_with p)

-- ---- what can be read

abbrev pub AnyServer : Unit {0} → ℕ → Type 0
AnyServer known server = IsServer server

pub record AreServers (s : Servers) : Type 0 where
  pub server : IsServer s.server
  pub servers : IsServer s.servers
  pub removed : AreCounted 1 AnyServer unchanged tt s.removed

pub record AreCounters (c : Counters) : Type 0 where
  pub last : HasWidth 8 c.last
  pub files : HasWidth 8 c.files
  pub births : HasWidth 8 c.births
  pub some : 1 ≤ c.tags
  pub tags : HasWidth 8 c.tags

pub record IsWaiting (w : Waiting) : Type 0 where
  pub intents : AreIntents w.intents
  pub wishes : AreWishes w.wishes
  pub announced : AreNotes w.announced

pub record AreParts (p : Parts) : Type 0 where
  pub servers : AreServers p.servers
  pub counters : AreCounters p.counters
  pub held : AreHeld p.held
  pub waiting : IsWaiting p.waiting
