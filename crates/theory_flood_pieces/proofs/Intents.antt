-- Changes of what a server intends leave Patches for directories.
use Rattle.std.proofs.Common.{ℕ, not, List, [], ◌∷◌, ◌++◌, refl, All}
use Rattle.std.proofs.lemmas.List.Elements.{All-cons, All-filter, All-head, All-push, All-tail}
use Rattle.pg_cells.specs.pg_intent.declared.intent.Intent.{Intent}
use Rattle.pg_cells.specs.pg_intent.declared.intent.Intent.TheVariants as intent
use Rattle.pg_cells.specs.pg_intent.declared.key.IntentKey.{IntentKey}
use Rattle.pg_cells.specs.pg_intent.Intent.{aimed_at, key_of, rejoined}
use Rattle.pg_cells.specs.pg_intent.Intents.{aimed, begun, changed, ended, has_key, stands}
use Rattle.pg_cells.specs.pg_store.declared.store.Store.{Store}
use Rattle.pg_cells.specs.pg_store.Beginning.{with_intents}
use Rattle.theory_flood_pieces.specs.Laws.{AreAlike}
use Rattle.theory_flood_pieces.specs.Whole.{PatchesAreForDirs}
use Rattle.theory_flood_pieces.proofs.Choices.{chosen}
use Rattle.theory_flood_pieces.proofs.WholeBeginning.{IsForDir, are_for_dirs, dirs_are_for}

aimed_for : (target : ℕ) (i : Intent) → IsForDir i → IsForDir (aimed_at target i)
aimed_for target (intent.Bye file birth peer peer_birth) h = h
aimed_for target (intent.Seek file old) h = h
aimed_for target (intent.Fill file birth old) h = h
aimed_for target (intent.Patch dir e old) h = h
aimed_for target (intent.Confirm dir child old) h = h
aimed_for target (intent.Leave file peer peer_birth) h = h

changed_for : (f : Intent → Intent) → ((i : Intent) → IsForDir i → IsForDir (f i))
    → (is : List Intent) (k : IntentKey) → All IsForDir is → All IsForDir (changed f is k)
changed_for f one [] k h = h
changed_for f one (i ∷ is) k h =
    let first = All-head IsForDir i is h in
    let rest = All-tail IsForDir i is h in
    chosen (All IsForDir) (has_key k i) (f i ∷ is) (i ∷ changed f is k)
    (All-cons IsForDir (f i) is (one i first) rest)
    (All-cons IsForDir i (changed f is k) first (changed_for f one is k rest))

-- one asks another server
pub aimed_patches : (a : Store) (k : IntentKey) (target : ℕ) → PatchesAreForDirs a
    → PatchesAreForDirs (with_intents a (aimed a.intents k target))
aimed_patches a k target h =
    dirs_are_for (with_intents a (aimed a.intents k target))
    (changed_for (aimed_at target) (aimed_for target) a.intents k (are_for_dirs a h))

-- one ends
pub ended_patches : (a : Store) (k : IntentKey) → PatchesAreForDirs a
    → PatchesAreForDirs (with_intents a (ended a.intents k))
ended_patches a k h =
    dirs_are_for (with_intents a (ended a.intents k))
    (All-filter (λ i. not (has_key k i)) IsForDir a.intents (are_for_dirs a h))

-- one begins
rejoined_for : (held i : Intent) → IsForDir held → IsForDir (rejoined held i)
rejoined_for (intent.Patch dir e target) (intent.Patch d f other) h = h
rejoined_for (intent.Patch dir e target) (intent.Bye file birth peer peer_birth) h = h
rejoined_for (intent.Patch dir e target) (intent.Seek file other) h = h
rejoined_for (intent.Patch dir e target) (intent.Fill file birth other) h = h
rejoined_for (intent.Patch dir e target) (intent.Confirm d child other) h = h
rejoined_for (intent.Patch dir e target) (intent.Leave file peer peer_birth) h = h
rejoined_for (intent.Bye file birth peer peer_birth) i h = h
rejoined_for (intent.Seek file target) i h = h
rejoined_for (intent.Fill file birth target) i h = h
rejoined_for (intent.Confirm dir child target) i h = h
rejoined_for (intent.Leave file peer peer_birth) i h = h

pub begun_patches : (a : Store) (i : Intent) → IsForDir i → PatchesAreForDirs a
    → PatchesAreForDirs (with_intents a (begun a.intents i))
begun_patches a i one h =
    let all = are_for_dirs a h in
    dirs_are_for (with_intents a (begun a.intents i))
    (chosen (All IsForDir) (stands a.intents (key_of i)) (changed (λ held. rejoined held i) a.intents (key_of i))
    (a.intents ++ i ∷ [])
    (changed_for (λ held. rejoined held i) (λ held own. rejoined_for held i own) a.intents (key_of i) all)
    (All-push IsForDir a.intents i all one))

-- and nothing else changes
pub intents_alike : (a : Store) (is : List Intent) → AreAlike a (with_intents a is)
intents_alike a is = record { servers = refl; tags = refl; names = refl; replicas = refl }
