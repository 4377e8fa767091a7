-- The first of what a server owes: of three lists, one behind the other.
use Rattle.std.proofs.Common.{◌≡◌, ◌++◌, List, [], ◌∷◌, map, None, Some, refl, ap, ◌∙◌}
use Rattle.std.specs.List.{slice_get}
use Rattle.std.proofs.lemmas.Option.{same_Some}
use Rattle.pg_base.specs.declared.id.FileId.{FileId}
use Rattle.pg_event.specs.declared.quiet.OwedIntent.{OwedIntent}
use Rattle.pg_event.specs.declared.quiet.OwedKey.{OwedKey}
use Rattle.pg_event.specs.declared.quiet.Owing.{Owing}
use Rattle.pg_event.specs.declared.quiet.Owing.TheVariants as owing
use Rattle.pg_calls.specs.pg_house.Holding.{held_back}
use Rattle.pg_calls.specs.pg_store.declared.store.Store.{Store}
use Rattle.pg_calls.specs.pg_store.Seen.{server_of}
use Rattle.pg_server.specs.Owing.{held_at, owed, owed_intents, owed_keys, owed_places}

first_mapped : {A B : Type 0} (f : A → B) (xs : List A) (a : A) → slice_get xs 0 ≡ Some a → slice_get (map f xs) 0 ≡ Some (f a)
first_mapped f [] a h = cc
first_mapped f (x ∷ xs) a h = ap (λ y. Some (f y)) (same_Some x a h)

none_mapped : {A B : Type 0} (f : A → B) (xs : List A) → slice_get xs 0 ≡ None → map f xs ≡ []
none_mapped f [] h = refl
none_mapped f (x ∷ xs) h = cc

-- where the first list has something, that is first, and else the second is
first_of_first : {A B : Type 0} (f : A → B) (xs : List A) (ys : List B) (a : A) → slice_get xs 0 ≡ Some a
    → slice_get (map f xs ++ ys) 0 ≡ Some (f a)
first_of_first f [] ys a h = cc
first_of_first f (x ∷ xs) ys a h = ap (λ y. Some (f y)) (same_Some x a h)

first_of_second : {A B : Type 0} (f : A → B) (xs : List A) (ys : List B) → slice_get xs 0 ≡ None → slice_get (map f xs ++ ys) 0 ≡ slice_get ys 0
first_of_second f xs ys none = ap (λ zs. slice_get (zs ++ ys) 0) (none_mapped f xs none)

abbrev keys_and_places : Store → List Owing
keys_and_places store = map owing.Key (owed_keys store) ++ owed_places store

-- ---- intentions

pub first_intent : (store : Store) (i : OwedIntent) → slice_get (owed_intents store) 0 ≡ Some i → slice_get (owed store) 0 ≡ Some (owing.Intent i)
first_intent store i is = first_of_first owing.Intent (owed_intents store) (keys_and_places store) i is

pub no_intent : (store : Store) → slice_get (owed_intents store) 0 ≡ None → slice_get (owed store) 0 ≡ slice_get (keys_and_places store) 0
no_intent store none = first_of_second owing.Intent (owed_intents store) (keys_and_places store) none

-- ---- keys, and places held back

pub first_key : (store : Store) (k : OwedKey) → slice_get (owed_keys store) 0 ≡ Some k → slice_get (keys_and_places store) 0 ≡ Some (owing.Key k)
first_key store k is = first_of_first owing.Key (owed_keys store) (owed_places store) k is

pub first_place : (store : Store) (id : FileId) → slice_get (owed_keys store) 0 ≡ None → slice_get (held_back store.names) 0 ≡ Some id
    → slice_get (keys_and_places store) 0 ≡ Some (owing.HeldBack (server_of store) id)
first_place store id none held =
    first_of_second owing.Key (owed_keys store) (owed_places store) none
    ∙ first_mapped (held_at (server_of store)) (held_back store.names) id held

pub nothing_owed : (store : Store) → slice_get (owed_keys store) 0 ≡ None → slice_get (held_back store.names) 0 ≡ None
    → slice_get (keys_and_places store) 0 ≡ None
nothing_owed store none no_place =
    first_of_second owing.Key (owed_keys store) (owed_places store) none
    ∙ ap (λ (os : List Owing). slice_get os 0) (none_mapped (held_at (server_of store)) (held_back store.names) no_place)
