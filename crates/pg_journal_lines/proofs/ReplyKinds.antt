-- Kinds of replies by their first words.
use Rattle.std.proofs.Common.{ℕ, ◌≢◌, List, [], ◌∷◌, Option, Some, None, IfNone, MatchOption, length, arith}
use Rattle.std.specs.List.{AllWithin}
use Rattle.pg_call.specs.declared.reply.ReplyKind.{ReplyKind}
use Rattle.pg_call.specs.declared.reply.ReplyKind.TheVariants as kind
use Rattle.pg_journal_lines.specs.Told.{head_word}

abbrev pub kinds : List ReplyKind
kinds = kind.Done ∷ kind.Made ∷ kind.Wrote ∷ kind.Bytes ∷ kind.Names ∷ kind.Stat ∷ kind.Leaving ∷ kind.Status ∷ kind.Refused ∷ []

-- each kind stands in the list
each : (P : ReplyKind → Type 0) → AllWithin P kinds 0 (length kinds) → (k : ReplyKind) → P k
each P h kind.Done = h 0 kind.Done (omega arith) (omega arith)
each P h kind.Made = h 1 kind.Made (omega arith) (omega arith)
each P h kind.Wrote = h 2 kind.Wrote (omega arith) (omega arith)
each P h kind.Bytes = h 3 kind.Bytes (omega arith) (omega arith)
each P h kind.Names = h 4 kind.Names (omega arith) (omega arith)
each P h kind.Stat = h 5 kind.Stat (omega arith) (omega arith)
each P h kind.Leaving = h 6 kind.Leaving (omega arith) (omega arith)
each P h kind.Status = h 7 kind.Status (omega arith) (omega arith)
each P h kind.Refused = h 8 kind.Refused (omega arith) (omega arith)

-- where no kind of the list has the word, no kind has it
pub none_named : (word : List ℕ) (r : Option ReplyKind) (P : ReplyKind → Type 0) → MatchOption r (AllWithin (λ k. word ≢ head_word k) kinds 0 (length kinds)) P → IfNone r ((k : ReplyKind) → word ≢ head_word k)
none_named word None P h = each (λ k. word ≢ head_word k) h
none_named word (Some k) P h = tt
