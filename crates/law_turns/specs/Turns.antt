-- In which order intentions begin behind an event, and who is asked first.
use Rattle.std.specs.Prelude.{ℕ, ◌≡◌, ◌⊎◌, ◌++◌, true, List, map}
use Rattle.std.specs.List.{AllByRecursion}
use Rattle.std.specs.List.Sorted.{IsStrictlySortedBy}
use Rattle.pg_run.specs.pg_event.declared.event.Event.{Event}
use Rattle.pg_run.specs.pg_intent.declared.intent.Intent.{Intent}
use Rattle.pg_run.specs.pg_intent.declared.intent.Intent.TheVariants as intent
use Rattle.pg_run.specs.pg_intent.declared.key.IntentKey.{IntentKey}
use Rattle.pg_run.specs.pg_intent.Intent.{key_of}
use Rattle.pg_run.specs.pg_intent.Intents.{stands}
use Rattle.pg_run.specs.pg_intent.Key.{is_for_peer, key_cmp}
use Rattle.pg_run.specs.pg_server.declared.input.Input.{Input}
use Rattle.pg_run.specs.pg_server.declared.input.Input.TheVariants as input
use Rattle.pg_run.specs.pg_server.Local.{takes_effect}
use Rattle.pg_run.specs.pg_store.declared.store.Store.{Store}
use Rattle.pg_run.specs.Laws.{TakesIn}
use Rattle.pg_run.specs.Run.{next, run}
use Rattle.law_turns.specs.Targets.{IsHolder, IsLeastOrNext, IsTellerOrNext, IsUnmatched}

-- who sent the event's message, 0 where it brought none
abbrev pub sender_in : Input → ℕ
sender_in (input.Arrival packet) = packet.from
sender_in _ = 0

-- A Patch and a Fill ask who sent the event's message, else the next behind this server; a Seek the
-- least live other server whose flag is raised and matched by no edge, and a Confirm the least one
-- whose flag is raised in the entry, else the next behind this server. A Bye and a Leave go to
-- their peer
abbrev pub IsFirstTarget : Store → ℕ → Intent → Type 0
IsFirstTarget b from (intent.Bye file birth peer peer_birth) = Unit {0}
IsFirstTarget b from (intent.Patch dir entry target) = IsTellerOrNext b from target
IsFirstTarget b from (intent.Fill file birth target) = IsTellerOrNext b from target
IsFirstTarget b from (intent.Seek file target) = IsLeastOrNext b (IsUnmatched b file) target
IsFirstTarget b from (intent.Confirm dir child target) =
    IsLeastOrNext b (IsHolder b dir child) target
IsFirstTarget b from (intent.Leave file peer peer_birth) = Unit {0}

-- it stood already, or is a Bye's or a Leave's, which begin before the house rules
abbrev pub IsOlder : Store → IntentKey → Type 0
IsOlder a k = (stands a.intents k ≡ true) ⊎ (is_for_peer k ≡ true)

-- a server held a before an event, and holds b behind it. old: what is older, in its order. new:
-- behind that what began, by kind (Patches, Fills, Seeks, Confirms), and in each by file, or by
-- directory and child; and each asks its first target
pub record BeginsInTurn (a b : Store) (from : ℕ) : Type 0 where
  pub old : List Intent
  pub new : List Intent
  pub parts : b.intents ≡ old ++ new
  pub older : AllByRecursion (λ i. IsOlder a (key_of i)) old
  pub order : IsStrictlySortedBy key_cmp (map key_of new)
  pub targets : AllByRecursion (IsFirstTarget b from) new

-- INTENTIONS BEGIN IN TURN, behind every event that takes effect
abbrev pub IntentionsBeginInTurn : ℕ → Type 0
IntentionsBeginInTurn servers = (events : List Event) (event : Event) (s : ℕ) (asked : Input)
    → let w = run servers events in TakesIn servers w event s asked
    → takes_effect (w.stores s) asked ≡ true
    → BeginsInTurn (w.stores s) ((next servers w event).stores s) (sender_in asked)
