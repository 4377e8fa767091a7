-- An intention whose key none has begins behind the others.
use Rattle.std.proofs.Common.{◌≡◌, Bool, true, false, cond, List, [], ◌∷◌, ◌++◌, Option, None, Some, Bor, refl, sym, ap, ◌∙◌}
use Rattle.std.specs.Prelude.{not, is_some}
use Rattle.std.specs.Option.{option_copied}
use Rattle.pg_intent.specs.declared.intent.Intent.{Intent}
use Rattle.pg_intent.specs.declared.key.IntentKey.{IntentKey}
use Rattle.pg_intent.specs.Intent.{key_of, rejoined}
use Rattle.pg_intent.specs.Intents.{begun, changed, intent_at, stands}
use Rattle.pg_intent.proofs.Found.{stands_is}
use Rattle.pg_state_fields.specs.Intents.{is_fresh}

not_true : (b : Bool) → not b ≡ true → b ≡ false
not_true true h = cc
not_true false h = refl

pub begun_last : (done : List Intent) (i : Intent) → is_fresh done (key_of i) ≡ true → begun done i ≡ done ++ i ∷ []
begun_last done i fresh = ap (λ (b : Bool). cond b (changed (λ held. rejoined held i) done (key_of i)) (done ++ i ∷ [])) (not_true (stands done (key_of i)) fresh)

kept_some : {T : Type 0} (o : Option (Bor T)) → is_some (option_copied o) ≡ is_some o
kept_some None = refl
kept_some (Some x) = refl

flip : (s b : Bool) → s ≡ not b → b ≡ not s
flip s true h = sym (ap not h)
flip s false h = sym (ap not h)

-- none is found with a key exactly where the key is fresh
pub fresh_test : (done : List Intent) (k : IntentKey) (o : Option (Bor Intent)) (b : Bool) → option_copied o ≡ intent_at done k → is_some o ≡ not b
    → b ≡ is_fresh done k
fresh_test done k o b found test =
    let same : stands done k ≡ is_some o = stands_is done k ∙ ap is_some (sym found) ∙ kept_some o in
    flip (is_some o) b test ∙ ap not (sym same)
