-- What the fields of a server's intentions keep.
use Rattle.std.specs.Prelude.{◌≡◌, List, map}
use Rattle.std.specs.Map.{values_of}
use Rattle.pg_intent.specs.declared.key.IntentKey.{IntentKey}
use Rattle.pg_intent.specs.declared.intent.Intent.{Intent}
use Rattle.pg_intent.specs.declared.intents.Intents.TheInside.{Inside}
use Rattle.pg_intent.specs.Intent.{key_of}
use Rattle.pg_intent.specs.Intents.{HaveOwnKeys}

-- each intention at its key
abbrev pub by_key : List Intent → List (IntentKey × Intent)
by_key is = map (λ i. (key_of i, i)) is

-- own: each stands at its own key
-- single: no two have one key
pub record AreByKey (r : Inside) : Type 0 where
  pub own : r.by_key.entries ≡ by_key (values_of r.by_key.entries)
  pub single : HaveOwnKeys (values_of r.by_key.entries)
