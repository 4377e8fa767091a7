-- The first intention, as it is told, is told of the first intention.
use Rattle.std.proofs.Common.{◌≡◌, ℕ, List, [], ◌∷◌, map, Option, None, Some, refl, ap}
use Rattle.std.specs.List.{slice_get}
use Rattle.std.specs.Option.{option_map}
use Rattle.pg_event.specs.declared.quiet.OwedIntent.{OwedIntent}
use Rattle.pg_calls.specs.pg_intent.declared.intent.Intent.{Intent}
use Rattle.pg_server.specs.Owing.{intent_owed}

pub first_told : (server : ℕ) (is : List Intent) → slice_get (map (intent_owed server) is) 0 ≡ option_map (intent_owed server) (slice_get is 0)
first_told server [] = refl
first_told server (i ∷ is) = refl
