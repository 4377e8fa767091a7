-- Kinds of intentions by their words.
use Rattle.std.proofs.Common.{ℕ, ◌≡◌, List, [], ◌∷◌, Option, Some, None, IfNone, MatchOption, length, arith}
use Rattle.std.specs.List.{AllWithin}
use Rattle.pg_intent.specs.Kind.{intent_word}
use Rattle.pg_intent.specs.declared.kind.IntentKind.{IntentKind}
use Rattle.pg_intent.specs.declared.kind.IntentKind.TheVariants as intent

abbrev pub kinds : List IntentKind
kinds = intent.Bye ∷ intent.Seek ∷ intent.Fill ∷ intent.Patch ∷ intent.Confirm ∷ intent.Leave ∷ []

-- each kind stands in the list
each : (P : IntentKind → Type 0) → AllWithin P kinds 0 (length kinds) → (k : IntentKind) → P k
each P h intent.Bye = h 0 intent.Bye (omega arith) (omega arith)
each P h intent.Seek = h 1 intent.Seek (omega arith) (omega arith)
each P h intent.Fill = h 2 intent.Fill (omega arith) (omega arith)
each P h intent.Patch = h 3 intent.Patch (omega arith) (omega arith)
each P h intent.Confirm = h 4 intent.Confirm (omega arith) (omega arith)
each P h intent.Leave = h 5 intent.Leave (omega arith) (omega arith)

-- where no kind of the list has the word, no kind has it
pub none_named : (word : List ℕ) (r : Option IntentKind) (P : IntentKind → Type 0) → MatchOption r (AllWithin (λ k. word ≡ intent_word k → ⊥) kinds 0 (length kinds)) P → IfNone r ((k : IntentKind) → word ≡ intent_word k → ⊥)
none_named word None P h = each (λ k. word ≡ intent_word k → ⊥) h
none_named word (Some k) P h = tt
