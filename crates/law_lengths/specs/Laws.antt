-- Whatever comes to a server, it sends packets.
use Rattle.std.specs.Prelude.{ℕ, ◌≤◌, List, [], ◌∷◌}
use Rattle.std.specs.List.{AllByRecursion}
use Rattle.pg_server.specs.declared.input.Input.{Input}
use Rattle.pg_server.specs.Local.{Effect, effect_of}
use Rattle.pg_server.specs.pg_pieces.pg_store.declared.store.Store.{Store}
use Rattle.pg_server.specs.pg_pieces.pg_store.Store.{new_store}
use Rattle.law_spelled.specs.Messages.{FitsInput}
use Rattle.law_spelled.specs.Stores.{FitsStore}
use Rattle.law_lengths.specs.Packets.{IsAskedFew, SendsPackets}

-- what a server holds behind these inputs
abbrev pub store_behind : Store → List Input → Store
store_behind s [] = s
store_behind s (i ∷ inputs) = store_behind (effect_of s i).store inputs

-- what a server holds then fits, and what it sends are packets
pub record FitsOn (e : Effect) : Type 0 where
  pub store : FitsStore e.store
  pub out : SendsPackets e.out

-- ONE INPUT: what a server holds goes on to fit, and what it sends are packets
abbrev pub StepSendsPackets : Type 0
StepSendsPackets = (s : Store) (i : Input) → FitsStore s → FitsInput i → IsAskedFew i
    → FitsOn (effect_of s i)

-- ANY RUN: behind any inputs to a server that began, what it sends at one more are packets
abbrev pub RunSendsPackets : Type 0
RunSendsPackets = (servers server : ℕ) → 1 ≤ server → server ≤ servers → servers ≤ 64
    → (inputs : List Input) (next : Input)
    → AllByRecursion FitsInput inputs → FitsInput next → IsAskedFew next
    → SendsPackets (effect_of (store_behind (new_store servers server) inputs) next).out
