-- Those intentions end whose condition does not hold.
use Rattle.std.proofs.Common.{◌≡◌, ◌++◌, ◌∙◌, Bool, true, false, not, cond, List, [], ◌∷◌, map, filter, refl, ap}
use Rattle.std.specs.List.{flat_map}
use Rattle.pg_graph.specs.pg_intent.declared.key.IntentKey.{IntentKey}
use Rattle.pg_graph.specs.pg_intent.declared.intent.Intent.{Intent}
use Rattle.pg_graph.specs.pg_intent.Intent.{key_of}
use Rattle.pg_graph.specs.pg_intent.Intents.{HaveOwnKeys, ended_each}
use Rattle.pg_graph.proofs.pg_intent.Ending.{ended_others}
use Rattle.pg_graph.specs.pg_replica.Index.{Files}
use Rattle.pg_graph.specs.pg_store.declared.store.Store.{Store}
use Rattle.pg_graph.specs.pg_store.Beginning.{with_intents}
use Rattle.pg_intentions.specs.Beginning.{end_others, ended_key_of, still_stands}

picked_by : {A B : Type 0} (test : A → Bool) (f : A → B) (x : A) (xs : List A) (t : Bool)
    → flat_map (λ y. cond (test y) [] (f y ∷ [])) xs ≡ map f (filter (λ y. not (test y)) xs)
    → cond t [] (f x ∷ []) ++ flat_map (λ y. cond (test y) [] (f y ∷ [])) xs
    ≡ map f (cond (not t) (x ∷ filter (λ y. not (test y)) xs) (filter (λ y. not (test y)) xs))
picked_by test f x xs true ih = ih
picked_by test f x xs false ih = ap (λ l. f x ∷ l) ih

-- what is given of those that do not pass a test
picked : {A B : Type 0} (test : A → Bool) (f : A → B) (xs : List A) → flat_map (λ y. cond (test y) [] (f y ∷ [])) xs ≡ map f (filter (λ y. not (test y)) xs)
picked test f [] = refl
picked test f (x ∷ xs) = picked_by test f x xs (test x) (picked test f xs)

-- where the keys of those that do not pass end, the others stay
pub others_end : (store : Store) (files : Files) (keys : List IntentKey) (new : List Intent) → HaveOwnKeys store.intents
    → keys ≡ flat_map (ended_key_of store files) store.intents → new ≡ ended_each store.intents keys
    → with_intents store new ≡ end_others store files
others_end store files keys new own are made =
    let test : Intent → Bool = still_stands store files in
    ap (with_intents store)
    (made ∙ ap (ended_each store.intents) (are ∙ picked test key_of store.intents) ∙ ended_others test store.intents own)
