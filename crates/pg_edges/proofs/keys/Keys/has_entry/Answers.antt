use Rattle.std.proofs.Common.{ℕ, ◌≡◌, ◌||◌, List, [], ◌∷◌, refl, ap, ◌∙◌}
use Rattle.std.specs.List.{list_any}
use Rattle.std.specs.Map.{keys_of}
use Rattle.pg_edges.specs.declared.key.Key.{Key}
use Rattle.pg_edges.specs.Key.{is_entry}
use Rattle.pg_edges.specs.Keys.{has_entry}
use Rattle.pg_edges.proofs.keys.Keys.has_entry.Goals as goal

by_keys : (keys : List (Key × ℕ)) → list_any (λ (e : Key × ℕ). is_entry e.0) keys ≡ list_any is_entry (keys_of keys)
by_keys [] = refl
by_keys (e ∷ keys) = ap (λ b. is_entry e.0 || b) (by_keys keys)

pub returns : goal.returns
returns c = c.has_entry.ensures ∙ by_keys c.as_slice.result.now ∙ ap has_entry c.as_slice.ensures
