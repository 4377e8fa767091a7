-- What a server sends has a spelling, whatever comes to it.
use Rattle.std.specs.Prelude.{ℕ, ◌≤◌, Contains}
use Rattle.pg_msg.specs.declared.message.Sent.{Sent}
use Rattle.pg_server.specs.declared.input.Input.{Input}
use Rattle.pg_server.specs.Local.{Effect, effect_of}
use Rattle.pg_server.specs.pg_pieces.pg_store.declared.store.Store.{Store}
use Rattle.pg_server.specs.pg_pieces.pg_store.Store.{new_store}
use Rattle.law_spelled.specs.Messages.{FitsInput, FitsSent}
use Rattle.law_spelled.specs.Stores.{FitsStore}

-- a server that begins
abbrev pub NewFits : Type 0
NewFits = (servers server : ℕ) → 1 ≤ server → server ≤ servers → servers ≤ 64
    → FitsStore (new_store servers server)

-- what it holds then, and each message that it sent
pub record FitsEffect (e : Effect) : Type 0 where
  pub store : FitsStore e.store
  pub sent : (m : Sent) → Contains e.out.sent m → FitsSent m

-- a server to which something comes
abbrev pub StepFits : Type 0
StepFits = (s : Store) (i : Input) → FitsStore s → FitsInput i → FitsEffect (effect_of s i)
