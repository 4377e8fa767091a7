-- What a server that runs does to a net, a clock, a disk and the log on it.
use Rattle.std.specs.Prelude.{ℕ, ◌≡◌, ◌+◌, ◌⊎◌, ◌≤◌, List, [], ◌∷◌, ◌++◌, length, map, take, Bool, false, Ok, None, Some}
use Rattle.std.specs.declared.option.Option.{Option}
use Rattle.pg_checkpoint.specs.Saves.{AreSettled, Loads}
use Rattle.pg_checkpoint.specs.Slots.{Slot}
use Rattle.pg_disk.specs.Disk.{IsImage, IsSettled}
use Rattle.pg_disk.specs.Told.{given as file_of}
use Rattle.pg_disk.specs.Told.{steps}
use Rattle.pg_disk.specs.Told.{Told as DiskTold}
use Rattle.pg_disk.specs.Moments.{LeavesSince}
use Rattle.pg_event.specs.declared.status.Status.{Status}
use Rattle.pg_event.specs.declared.status.Status.TheVariants as status
use Rattle.pg_log.specs.Bytes.{OpensTo}
use Rattle.pg_log.specs.Log.{Stands}
use Rattle.pg_net.specs.Net.{Datagram, IsTaken}
use Rattle.pg_net.specs.Net.{Told as NetTold}
use Rattle.pg_net.specs.Clock.{AreNoted}
use Rattle.pg_net.specs.Clock.{Told as ClockTold}
use Rattle.pg_saving.specs.declared.loading.Checkpoint.{Checkpoint}
use Rattle.pg_store.specs.declared.store.Store.{Store}
use Rattle.pg_host.specs.declared.asking.Asked.{Asked}
use Rattle.pg_host.specs.Causes.{IsFault, IsRefusal, IsWhole}
use Rattle.pg_host.specs.Entries.{entries_for, input_of}
use Rattle.pg_host.specs.Inputs.{asked, AreEnough, AreNearlyEnough, EndsByStop, StopsAs, has_stop}
use Rattle.pg_host.specs.Logs.{IsBadLog, IsFound, IsOtherLog, IsOwnLog, LeavesLog, Old, OpensToSome, begin_entry, begun, count_of, is_empty}
use Rattle.pg_host.specs.Slots.{Agree, AgreeSince, KeepsFiles, SlotsBehind}
use Rattle.pg_host.specs.Sends.{after_all, sends}

-- all that a server works on, at one moment
pub record Scene : Type 0 where
  pub net : NetTold
  pub takes : ℕ
  pub clock : ClockTold
  pub disk : DiskTold
  pub log : Option ℕ
  pub store : Store

abbrev pub scene : NetTold → ℕ → ClockTold → DiskTold → Option ℕ → Store → Scene
scene net takes clock disk log store =
    record { net = net; takes = takes; clock = clock; disk = disk; log = log; store = store }

-- the entry of each of these inputs is read again as the input
abbrev pub AreRead : List Asked → Type 0
AreRead own = map input_of (entries_for own) ≡ map (λ (a : Asked). Ok a.input) own

-- at each moment between, a crash leaves the log's entries and the first of these inputs' entries
abbrev pub LeavesSome : List (List ℕ) → List Asked → DiskTold → DiskTold → Type 0
LeavesSome entries own old new = LeavesSince 0 old new (OpensToSome entries (entries_for own))

-- Now a crash leaves the log's entries and those of the first of these inputs, and among them the
-- entry of each input of which a packet was sent.
abbrev pub IsKept : ℕ → List (List ℕ) → List Asked → Scene → Scene → Type 0
IsKept port entries own a b = (image : List ℕ) → IsImage (steps b.disk 0) image → (k : ℕ)
    × OpensTo image (entries ++ entries_for (take k own))
    × ((n : ℕ) × (b.net.sent ≡ a.net.sent ++ take n (sends port a.store (take k own))))

-- So many takes later, each with its input, if it gave one, taken whole. `stop` says whether the
-- last input was `stop`, before which there was none. `nt`, `ct` and `dt` say that net, clock and
-- disk tell.
pub record Goes (nt ct dt : Type 0) (port count : ℕ) (stop : Bool) (a b : Scene) : Type 0 where
  pub gave : List (Option Datagram)
  pub moments : List ℕ
  pub words : List ℕ
  pub number : length gave ≡ count
  pub enough : AreEnough gave moments words
  pub stops : StopsAs stop (asked gave moments words)
  pub read : AreRead (asked gave moments words)
  pub given : nt → b.net.given ≡ a.net.given ++ gave
  pub bound : nt → b.net.bound ≡ a.net.bound
  pub noted_moments : ct → AreNoted a.clock.moments b.clock.moments moments
  pub noted_words : ct → AreNoted a.clock.words b.clock.words words
  pub sent : nt → b.net.sent ≡ a.net.sent ++ sends port a.store (asked gave moments words)
  pub store : b.store ≡ after_all a.store (asked gave moments words)
  pub takes : IsTaken count a.takes b.takes
  pub others : dt → KeepsFiles a.disk b.disk
  pub stands : dt → (entries : List (List ℕ)) → Stands a.log a.disk entries
      → Stands b.log b.disk (entries ++ entries_for (asked gave moments words))
  pub leaves : dt → (entries : List (List ℕ)) → Stands a.log a.disk entries
      → LeavesSome entries (asked gave moments words) a.disk b.disk

-- Wherever it ended, so many takes later at most: what was sent is a prefix, the last input may
-- lack its moment or its word, and no input but the last was `stop`.
pub record Ends (nt ct dt : Type 0) (port most : ℕ) (a b : Scene) : Type 0 where
  pub gave : List (Option Datagram)
  pub moments : List ℕ
  pub words : List ℕ
  pub few : length gave ≤ most
  pub enough : AreNearlyEnough gave moments words
  pub stops : (stop : Bool) × StopsAs stop (asked gave moments words)
  pub read : AreRead (asked gave moments words)
  pub given : nt → b.net.given ≡ a.net.given ++ gave
  pub bound : nt → b.net.bound ≡ a.net.bound
  pub noted_moments : ct → AreNoted a.clock.moments b.clock.moments moments
  pub noted_words : ct → AreNoted a.clock.words b.clock.words words
  pub sent : nt → (n : ℕ)
      × (b.net.sent ≡ a.net.sent ++ take n (sends port a.store (asked gave moments words)))
  pub takes : IsTaken (length gave) a.takes b.takes
  pub others : dt → KeepsFiles a.disk b.disk
  pub leaves : dt → (entries : List (List ℕ)) → Stands a.log a.disk entries
      → LeavesSome entries (asked gave moments words) a.disk b.disk
  pub kept : nt → dt → (entries : List (List ℕ)) → Stands a.log a.disk entries
      → IsKept port entries (asked gave moments words) a b

-- ---- one take

-- whether an input came, and whether it was `stop`
abbrev pub stops : Option Bool → Bool
stops None = false
stops (Some stop) = stop

abbrev pub inputs_in : Option Bool → ℕ
inputs_in None = 0
inputs_in (Some stop) = 1

-- a take gave an input or none, which was taken whole
abbrev pub Turns : (nt ct dt : Type 0) → (port : ℕ) → Option Bool → (a b : Scene) → Type 0
Turns nt ct dt port came a b = (g : Goes nt ct dt port 1 (stops came) a b)
    × (length (asked g.gave g.moments g.words) ≡ inputs_in came)

-- What the turns of a server do, with any status. Where it ended by itself, all was sent: with Done
-- behind a `stop`, and with TurnsSpent behind all takes and no `stop`.
pub record Runs (nt ct dt : Type 0) (port turns : ℕ) (s : Status) (a b : Scene) : Type 0 where
  pub ends : Ends nt ct dt port turns a b
  pub whole : IsWhole s → AreEnough ends.gave ends.moments ends.words
      × (nt → b.net.sent
      ≡ a.net.sent ++ sends port a.store (asked ends.gave ends.moments ends.words))
  pub stopped : s ≡ status.Done → EndsByStop (asked ends.gave ends.moments ends.words)
  pub spent : s ≡ status.TurnsSpent
      → (has_stop (asked ends.gave ends.moments ends.words) ≡ false)
      × (length ends.gave ≡ turns)

-- WHAT `serve` DID, with any status
pub record Served (nt ct dt : Type 0) (server servers port turns : ℕ) (s : Status) (n0 n1 : NetTold)
    (t0 t1 : ℕ) (c0 c1 : ClockTold) (d0 d1 : DiskTold) : Type 0 where
  -- The inputs of the old log, and the checkpoint from which it is gone on; what the takes gave,
  -- and what the clock gave in this call: nothing more, and nothing else. The clock's lists stop at
  -- their length's end.
  pub old : Old
  pub checkpoint : Option Checkpoint
  pub gave : List (Option Datagram)
  pub moments : List ℕ
  pub words : List ℕ
  pub is_old : (gave ≡ [])
      ⊎ (dt → IsFound server servers checkpoint old (file_of d0 0) (file_of d0 1) (file_of d0 2))
  -- where the slots agree with the log, it begins as with no checkpoint
  pub folds : dt → Agree server servers (file_of d0 0) (file_of d0 1) (file_of d0 2)
      → begun server servers checkpoint old ≡ begun server servers None old
  pub few : length gave ≤ turns
  pub given : nt → n1.given ≡ n0.given ++ gave
  pub takes : IsTaken (length gave) t0 t1
  pub noted_moments : ct → AreNoted c0.moments c1.moments moments
  pub noted_words : ct → AreNoted c0.words c1.words words
  -- Each input has its moment and its word, but that the last may lack them. No input but the last
  -- was `stop`.
  pub enough : AreNearlyEnough gave moments words
  pub stops : (stop : Bool) × StopsAs stop (asked gave moments words)
  -- It took packets at this port; or, where it could not have the port, nothing happened to the net
  -- and to the disk.
  pub bound : nt → ((n1 ≡ n0) × (dt → d1 ≡ d0) × (IsWhole s → ⊥))
      ⊎ (n1.bound ≡ Some (port + server))
  -- what was sent is a prefix of what the server sends behind the old inputs, a restart, and these
  pub sent : nt → (n : ℕ) × (n1.sent ≡ n0.sent
      ++ take n (sends port (begun server servers checkpoint old) (asked gave moments words)))
  -- where it ended by itself, each input has its moment and its word, and all was sent
  pub whole : IsWhole s
      → (dt → IsFound server servers checkpoint old (file_of d0 0) (file_of d0 1) (file_of d0 2))
      × AreEnough gave moments words
      × (nt → n1.sent
      ≡ n0.sent ++ sends port (begun server servers checkpoint old) (asked gave moments words))
  -- how it ended by itself
  pub stopped : s ≡ status.Done → EndsByStop (asked gave moments words)
  pub spent : s ≡ status.TurnsSpent
      → (has_stop (asked gave moments words) ≡ false) × (length gave ≡ turns)
  -- the entries of its inputs are read again as these, so another start takes up what it did
  pub read : AreRead (asked gave moments words)
  -- At each moment since it began a crash leaves a log with all old entries, behind them the first
  -- of what it appended: the entry of its begin, and those of its inputs.
  pub leaves : dt → IsSettled (steps d0 0) → (entries : List (List ℕ))
      → OpensTo (file_of d0 0) entries
      → LeavesSince 0 d0 d1 (OpensToSome entries
      (begin_entry server servers (is_empty entries) ∷ entries_for (asked gave moments words)))
  -- Now that it ended a crash leaves the entry of each input of which a packet was sent.
  pub kept : nt → dt → IsSettled (steps d0 0) → (entries : List (List ℕ))
      → OpensTo (file_of d0 0) entries
      → (image : List ℕ) → IsImage (steps d1 0) image → (n1.sent ≡ n0.sent) ⊎ ((k : ℕ)
      × OpensTo image (entries ++ begin_entry server servers (is_empty entries)
      ∷ entries_for (take k (asked gave moments words)))
      × ((n : ℕ) × (n1.sent ≡ n0.sent ++ take n (sends port
      (begun server servers checkpoint old) (take k (asked gave moments words))))))
  -- Where the slots agree with the log as it begins, and a crash leaves of them just what a read
  -- gives, they agree at each moment since, whatever a crash leaves.
  pub agree : dt → IsSettled (steps d0 0) → AreSettled d0 → (entries : List (List ℕ))
      → OpensTo (file_of d0 0) entries
      → Agree server servers (file_of d0 0) (file_of d0 1) (file_of d0 2)
      → AgreeSince server servers d0 d1
  -- Where it ended by itself, the slots load to what was saved last: what the server held behind a
  -- multiple of 1,024 entries that were appended since it began.
  pub saved : IsWhole s → dt → (was : Option Slot) → Loads d0 was → (now : Option Slot)
      × Loads d1 now × SlotsBehind server servers 1 (count_of old + 1)
      (begun server servers checkpoint old) was (asked gave moments words) now
  pub others : dt → KeepsFiles d0 d1
  -- where it does not go on with the log that it found, it left that as it was
  pub refused : IsRefusal s → dt → LeavesLog d0 d1

-- Why it went on with the log of this file, or with none, and back: but for memory and for calls
-- that failed.
pub record IsAnswered (server servers n0 n1 d0 d1 : ℕ) (file : List ℕ) (s : Status) : Type 0 where
  pub bad : (place : ℕ) → s ≡ status.BadLog place → IsBadLog file place
  pub other : (a b : ℕ) → s ≡ status.OtherLog a b → IsOtherLog server servers a b file
  pub good : IsWhole s → IsOwnLog server servers file
  pub from_bad : (place : ℕ) → IsBadLog file place
      → (s ≡ status.BadLog place) ⊎ IsFault n0 n1 d0 d1 s
  pub from_other : (a b : ℕ) → IsOtherLog server servers a b file
      → (s ≡ status.OtherLog a b) ⊎ IsFault n0 n1 d0 d1 s
  pub from_good : IsOwnLog server servers file → IsWhole s ⊎ IsFault n0 n1 d0 d1 s
