-- Kinds of calls by their words.
use Rattle.std.proofs.Common.{ℕ, ◌≢◌, List, [], ◌∷◌, Option, Some, None, IfNone, MatchOption, length, arith}
use Rattle.std.specs.List.{AllWithin}
use Rattle.pg_call.specs.Call.{kind_word}
use Rattle.pg_call.specs.declared.call.CallKind.{CallKind}
use Rattle.pg_call.specs.declared.call.CallKind.TheVariants as kind

abbrev pub kinds : List CallKind
kinds =
    kind.Mkdir ∷ kind.Create ∷ kind.Write ∷ kind.Cut ∷ kind.Read ∷ kind.Fresh ∷ kind.Ls ∷ kind.Stat ∷ kind.Rename
    ∷ kind.Unlink ∷ kind.Rmdir ∷ kind.Forget ∷ kind.Demote ∷ kind.Drop ∷ kind.Giveup ∷ kind.Status ∷ kind.Stop ∷ []

-- each kind stands in the list
each : (P : CallKind → Type 0) → AllWithin P kinds 0 (length kinds) → (k : CallKind) → P k
each P h kind.Mkdir = h 0 kind.Mkdir (omega arith) (omega arith)
each P h kind.Create = h 1 kind.Create (omega arith) (omega arith)
each P h kind.Write = h 2 kind.Write (omega arith) (omega arith)
each P h kind.Cut = h 3 kind.Cut (omega arith) (omega arith)
each P h kind.Read = h 4 kind.Read (omega arith) (omega arith)
each P h kind.Fresh = h 5 kind.Fresh (omega arith) (omega arith)
each P h kind.Ls = h 6 kind.Ls (omega arith) (omega arith)
each P h kind.Stat = h 7 kind.Stat (omega arith) (omega arith)
each P h kind.Rename = h 8 kind.Rename (omega arith) (omega arith)
each P h kind.Unlink = h 9 kind.Unlink (omega arith) (omega arith)
each P h kind.Rmdir = h 10 kind.Rmdir (omega arith) (omega arith)
each P h kind.Forget = h 11 kind.Forget (omega arith) (omega arith)
each P h kind.Demote = h 12 kind.Demote (omega arith) (omega arith)
each P h kind.Drop = h 13 kind.Drop (omega arith) (omega arith)
each P h kind.Giveup = h 14 kind.Giveup (omega arith) (omega arith)
each P h kind.Status = h 15 kind.Status (omega arith) (omega arith)
each P h kind.Stop = h 16 kind.Stop (omega arith) (omega arith)

-- where no kind of the list has the word, no kind has it
pub none_named : (word : List ℕ) (r : Option CallKind) (P : CallKind → Type 0) → MatchOption r (AllWithin (λ k. word ≢ kind_word k) kinds 0 (length kinds)) P → IfNone r ((k : CallKind) → word ≢ kind_word k)
none_named word None P h = each (λ k. word ≢ kind_word k) h
none_named word (Some k) P h = tt
