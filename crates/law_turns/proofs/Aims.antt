-- The first target of each kind, as the definitions compute it.
use Rattle.std.proofs.Common.{ℕ, ◌≡◌}
use Rattle.pg_run.specs.pg_intent.declared.intent.Intent.{Intent}
use Rattle.pg_run.specs.pg_intent.declared.intent.Intent.TheVariants as intent
use Rattle.pg_run.specs.pg_intentions.Confirms.{holder}
use Rattle.pg_run.specs.pg_intentions.Seeks.{seek_target}
use Rattle.pg_run.specs.pg_store.declared.store.Store.{Store}
use Rattle.pg_run.specs.pg_store.Servers.{first_target}

abbrev pub IsAimed : Store → ℕ → Intent → Type 0
IsAimed b from (intent.Bye file birth peer peer_birth) = Unit {0}
IsAimed b from (intent.Patch dir entry target) = target ≡ first_target b from
IsAimed b from (intent.Fill file birth target) = target ≡ first_target b from
IsAimed b from (intent.Seek file target) = target ≡ seek_target b file
IsAimed b from (intent.Confirm dir child target) = target ≡ holder b dir child
IsAimed b from (intent.Leave file peer peer_birth) = Unit {0}
