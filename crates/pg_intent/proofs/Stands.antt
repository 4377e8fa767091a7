-- Where each intention has a key of its own, each is found with its key.
use Rattle.std.proofs.Common.{◌≡◌, ◌∙◌, false, cond, Some, List, [], ◌∷◌, map, All, ap, subst}
use Rattle.std.specs.List.{AllByRecursion, IsDistinct}
use Rattle.std.specs.Prelude.{Contains}
use Rattle.std.proofs.lemmas.List.Elements.{All-from_recursion}
use Rattle.pg_intent.specs.declared.intent.Intent.{Intent}
use Rattle.pg_intent.specs.Intent.{key_of}
use Rattle.pg_intent.specs.Intents.{HaveOwnKeys, intent_at}
use Rattle.pg_intent.specs.Key.{is_same_key}
use Rattle.pg_intent.proofs.SameKey.{is_same_key-refl, is_same_key-symm}

-- behind one of another key they are found too
tail_found : (i : Intent) (is js : List Intent) → AllByRecursion (λ q. is_same_key (key_of i) q ≡ false) (map key_of js)
    → AllByRecursion (λ (j : Intent). intent_at is (key_of j) ≡ Some j) js
    → AllByRecursion (λ (j : Intent). intent_at (i ∷ is) (key_of j) ≡ Some j) js
tail_found i is [] apart found = tt
tail_found i is (j ∷ js) apart found =
    (ap (λ t. cond t (Some i) (intent_at is (key_of j))) (is_same_key-symm (key_of j) (key_of i) ∙ apart.0) ∙ found.0, tail_found i is js apart.1 found.1)

pub each_found : (is : List Intent) → HaveOwnKeys is → AllByRecursion (λ (i : Intent). intent_at is (key_of i) ≡ Some i) is
unfolding IsDistinct
each_found [] own = tt
each_found (i ∷ is) own =
    (ap (λ t. cond t (Some i) (intent_at is (key_of i))) (is_same_key-refl (key_of i)), tail_found i is is own.0 (each_found is own.1))

pub all_found : (is : List Intent) → HaveOwnKeys is → All (λ (i : Intent). intent_at is (key_of i) ≡ Some i) is
all_found is own = All-from_recursion (λ (i : Intent). intent_at is (key_of i) ≡ Some i) is (each_found is own)

pub intent_found : (is : List Intent) (i : Intent) → HaveOwnKeys is → Contains is i → intent_at is (key_of i) ≡ Some i
intent_found is i own k =
    let P : Intent → Type 0 = (λ j. intent_at is (key_of j) ≡ Some j) in
    subst P k.2 (all_found is own k.0 i k.1)
