-- Verbs by their words.
use Rattle.std.proofs.Common.{ℕ, ◌≡◌, ◌≢◌, List, [], ◌∷◌, Option, Some, None, IfNone, MatchOption, length, arith}
use Rattle.std.specs.List.{AllWithin}
use Rattle.pg_sched.specs.Fields.{verb_word}
use Rattle.pg_sched.specs.declared.verb.Verb.{Verb}
use Rattle.pg_sched.specs.declared.verb.Verb.TheVariants as verb

abbrev pub verbs : List Verb
verbs =
    verb.Tick ∷ verb.Deliver ∷ verb.Lose ∷ verb.Repeat ∷ verb.Restart ∷ verb.Remove ∷ verb.Settle ∷ verb.Quiet ∷ verb.Trace ∷ verb.Show ∷ verb.Meter ∷ []

-- each verb stands in the list
each : (P : Verb → Type 0) → AllWithin P verbs 0 (length verbs) → (v : Verb) → P v
each P h verb.Tick = h 0 verb.Tick (omega arith) (omega arith)
each P h verb.Deliver = h 1 verb.Deliver (omega arith) (omega arith)
each P h verb.Lose = h 2 verb.Lose (omega arith) (omega arith)
each P h verb.Repeat = h 3 verb.Repeat (omega arith) (omega arith)
each P h verb.Restart = h 4 verb.Restart (omega arith) (omega arith)
each P h verb.Remove = h 5 verb.Remove (omega arith) (omega arith)
each P h verb.Settle = h 6 verb.Settle (omega arith) (omega arith)
each P h verb.Quiet = h 7 verb.Quiet (omega arith) (omega arith)
each P h verb.Trace = h 8 verb.Trace (omega arith) (omega arith)
each P h verb.Show = h 9 verb.Show (omega arith) (omega arith)
each P h verb.Meter = h 10 verb.Meter (omega arith) (omega arith)

-- where no verb of the list has the word, no verb has it
pub none_named : (word : List ℕ) (r : Option Verb) (P : Verb → Type 0) → MatchOption r (AllWithin (λ v. word ≢ verb_word v) verbs 0 (length verbs)) P → IfNone r ((v : Verb) → word ≢ verb_word v)
none_named word None P h = each (λ v. word ≢ verb_word v) h
none_named word (Some v) P h = tt
