-- Verbs by their words.
use Rattle.std.proofs.Common.{ℕ, ◌≢◌, List, [], ◌∷◌, Option, Some, None, IfNone, MatchOption, length, arith}
use Rattle.std.specs.List.{AllWithin}
use Rattle.pg_trace.specs.declared.journal_line.AskedAt.TheVariants as word
use Rattle.pg_journal_lines.specs.Reading.{verb_word}
use Rattle.pg_journal_lines.specs.declared.verb.Verb.{Verb}
use Rattle.pg_journal_lines.specs.declared.verb.Verb.TheVariants as verb

abbrev pub verbs : List Verb
verbs =
    verb.Event ∷ verb.Call ∷ verb.Tick ∷ verb.Void ∷ verb.Made ∷ verb.Sent
    ∷ verb.Asked word.Settle ∷ verb.Asked word.Quiet ∷ verb.Asked word.End ∷ verb.At ∷ verb.Meter ∷ []

-- each verb stands in the list
each : (P : Verb → Type 0) → AllWithin P verbs 0 (length verbs) → (v : Verb) → P v
each P h verb.Event = h 0 verb.Event (omega arith) (omega arith)
each P h verb.Call = h 1 verb.Call (omega arith) (omega arith)
each P h verb.Tick = h 2 verb.Tick (omega arith) (omega arith)
each P h verb.Void = h 3 verb.Void (omega arith) (omega arith)
each P h verb.Made = h 4 verb.Made (omega arith) (omega arith)
each P h verb.Sent = h 5 verb.Sent (omega arith) (omega arith)
each P h (verb.Asked word.Settle) = h 6 (verb.Asked word.Settle) (omega arith) (omega arith)
each P h (verb.Asked word.Quiet) = h 7 (verb.Asked word.Quiet) (omega arith) (omega arith)
each P h (verb.Asked word.End) = h 8 (verb.Asked word.End) (omega arith) (omega arith)
each P h verb.At = h 9 verb.At (omega arith) (omega arith)
each P h verb.Meter = h 10 verb.Meter (omega arith) (omega arith)

-- where no verb of the list has the word, no verb has it
pub none_named : (word : List ℕ) (r : Option Verb) (P : Verb → Type 0) → MatchOption r (AllWithin (λ v. word ≢ verb_word v) verbs 0 (length verbs)) P → IfNone r ((v : Verb) → word ≢ verb_word v)
none_named word None P h = each (λ v. word ≢ verb_word v) h
none_named word (Some v) P h = tt
