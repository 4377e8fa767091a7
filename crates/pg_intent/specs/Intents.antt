-- The intentions of a server, in the order in which they began.
use Rattle.std.specs.Prelude.{ℕ, Bool, ◌≡◌, ◌==◌, ◌++◌, not, if◌then◌else◌, List, [], ◌∷◌, map, filter, Option, None, Some}
use Rattle.std.specs.List.{IsDistinct, find, flat_map, list_any}
use Rattle.std.specs.Option.{option_map}
use Rattle.pg_intent.specs.declared.key.IntentKey.{IntentKey}
use Rattle.pg_intent.specs.declared.intent.Intent.{Intent}
use Rattle.pg_intent.specs.Key.{is_for_peer, is_same_key}
use Rattle.pg_intent.specs.Intent.{aimed_at, key_of, rejoined, target_of}

abbrev pub has_key : IntentKey → Intent → Bool
has_key k i = is_same_key k (key_of i)

-- the intention with this key
abbrev pub intent_at : List Intent → IntentKey → Option Intent
intent_at is k = find (has_key k) is

-- one with this key stands
abbrev pub stands : List Intent → IntentKey → Bool
stands is k = list_any (has_key k) is

-- no two have one key
abbrev pub HaveOwnKeys : List Intent → Type 0
HaveOwnKeys is = IsDistinct is_same_key (map key_of is)

-- the one with this key is changed by f, in its place
abbrev pub changed : (Intent → Intent) → List Intent → IntentKey → List Intent
changed f [] k = []
changed f (i ∷ is) k = if has_key k i then f i ∷ is else i ∷ changed f is k

-- one begins: behind the others, or again in its place where one with its key stands
abbrev pub begun : List Intent → Intent → List Intent
begun is i =
    if stands is (key_of i)
    then changed (λ held. rejoined held i) is (key_of i)
    else is ++ i ∷ []

-- the one with this key ends, and the others keep their order
abbrev pub ended : List Intent → IntentKey → List Intent
ended is k = filter (λ i. not (has_key k i)) is

-- those with these keys end, one behind another
abbrev pub ended_each : List Intent → List IntentKey → List Intent
ended_each is [] = is
ended_each is (k ∷ ks) = ended_each (ended is k) ks

-- the one with this key asks another server
abbrev pub aimed : List Intent → IntentKey → ℕ → List Intent
aimed is k target = changed (aimed_at target) is k

abbrev pub key_to : ℕ → Intent → List IntentKey
key_to server i = if target_of i == server then key_of i ∷ [] else []

-- the keys of those that ask this server, in their order
abbrev pub keys_to : ℕ → List Intent → List IntentKey
keys_to server is = flat_map (key_to server) is

-- what asks a server that is removed asks another one, and what is for it alone ends
abbrev pub turned : List Intent → IntentKey → ℕ → List Intent
turned is k to = if is_for_peer k then ended is k else aimed is k to

abbrev pub turned_each : List Intent → List IntentKey → ℕ → List Intent
turned_each is [] to = is
turned_each is (k ∷ ks) to = turned_each (turned is k to) ks to

-- ---- what is found with each key behind a change

-- one that begins where another of its key stands, or none
abbrev pub begun_on : Option Intent → Intent → Intent
begun_on None i = i
begun_on (Some held) i = rejoined held i

abbrev pub BegunIsFound : List Intent → Intent → IntentKey → Type 0
BegunIsFound is i k = intent_at (begun is i) k
    ≡ (if is_same_key k (key_of i) then Some (begun_on (intent_at is k) i) else intent_at is k)

abbrev pub EndedIsFound : List Intent → IntentKey → IntentKey → Type 0
EndedIsFound is gone k = intent_at (ended is gone) k
    ≡ (if is_same_key k gone then None else intent_at is k)

abbrev pub AimedIsFound : List Intent → IntentKey → ℕ → IntentKey → Type 0
AimedIsFound is one target k = intent_at (aimed is one target) k
    ≡ (if is_same_key k one then option_map (aimed_at target) (intent_at is k) else intent_at is k)

-- one that asks a server which is removed asks another one, or ends
abbrev pub turned_at : ℕ → ℕ → IntentKey → Option Intent → Option Intent
turned_at server to k None = None
turned_at server to k (Some i) = if target_of i == server
    then (if is_for_peer k then None else Some (aimed_at to i)) else Some i

abbrev pub TurnedIsFound : List Intent → ℕ → ℕ → IntentKey → Type 0
TurnedIsFound is server to k =
    intent_at (turned_each is (keys_to server is) to) k ≡ turned_at server to k (intent_at is k)
