-- The keys that the fields of `Keys` hold.
use Rattle.std.specs.Prelude.{ℕ, List, [], ◌∷◌}
use Rattle.pg_edges.specs.declared.key.Key.{Key}
use Rattle.pg_edges.specs.declared.keys.Held.{Held}
use Rattle.pg_edges.specs.declared.keys.Held.TheVariants.{Nothing, One, Many}

abbrev pub held_keys : Held → List (Key × ℕ)
held_keys Nothing = []
held_keys (One only) = only ∷ []
held_keys (Many keys) = keys
