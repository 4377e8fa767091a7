-- Kinds of refusals by their numbers and names.
use Rattle.std.proofs.Common.{ℕ, ◌≡◌, List, [], ◌∷◌, Option, Some, None, IfNone, MatchOption, length, arith}
use Rattle.std.specs.List.{AllWithin}
use Rattle.pg_call.specs.declared.refusal.RefusalKind.{RefusalKind}
use Rattle.pg_call.specs.declared.refusal.RefusalKind.TheVariants as reason
use Rattle.pg_journal_lines.specs.Reason.{reason_name, reason_number}

abbrev pub reasons : List RefusalKind
reasons =
    reason.BadPath ∷ reason.ClockEnd ∷ reason.NotYet ∷ reason.NoName ∷ reason.NotDir ∷ reason.IsDir ∷ reason.Root ∷ reason.Exists ∷ reason.DirFull ∷ reason.NotEmpty
    ∷ reason.Loop ∷ reason.TooLong ∷ reason.Behind ∷ reason.IsGold ∷ reason.LastGold ∷ reason.HasChild ∷ reason.Unsettled ∷ reason.Held ∷ reason.WrongView ∷ reason.ManyActors ∷ []

-- the kind has not both this number and this name
abbrev pub IsOther : List ℕ → List ℕ → RefusalKind → Type 0
IsOther number name k = number ≡ reason_number k → name ≡ reason_name k → ⊥

-- each kind stands in the list
each : (P : RefusalKind → Type 0) → AllWithin P reasons 0 (length reasons) → (k : RefusalKind) → P k
each P h reason.BadPath = h 0 reason.BadPath (omega arith) (omega arith)
each P h reason.ClockEnd = h 1 reason.ClockEnd (omega arith) (omega arith)
each P h reason.NotYet = h 2 reason.NotYet (omega arith) (omega arith)
each P h reason.NoName = h 3 reason.NoName (omega arith) (omega arith)
each P h reason.NotDir = h 4 reason.NotDir (omega arith) (omega arith)
each P h reason.IsDir = h 5 reason.IsDir (omega arith) (omega arith)
each P h reason.Root = h 6 reason.Root (omega arith) (omega arith)
each P h reason.Exists = h 7 reason.Exists (omega arith) (omega arith)
each P h reason.DirFull = h 8 reason.DirFull (omega arith) (omega arith)
each P h reason.NotEmpty = h 9 reason.NotEmpty (omega arith) (omega arith)
each P h reason.Loop = h 10 reason.Loop (omega arith) (omega arith)
each P h reason.TooLong = h 11 reason.TooLong (omega arith) (omega arith)
each P h reason.Behind = h 12 reason.Behind (omega arith) (omega arith)
each P h reason.IsGold = h 13 reason.IsGold (omega arith) (omega arith)
each P h reason.LastGold = h 14 reason.LastGold (omega arith) (omega arith)
each P h reason.HasChild = h 15 reason.HasChild (omega arith) (omega arith)
each P h reason.Unsettled = h 16 reason.Unsettled (omega arith) (omega arith)
each P h reason.Held = h 17 reason.Held (omega arith) (omega arith)
each P h reason.WrongView = h 18 reason.WrongView (omega arith) (omega arith)
each P h reason.ManyActors = h 19 reason.ManyActors (omega arith) (omega arith)

-- where no kind of the list has the number and the name, no kind has them
pub none_named : (number name : List ℕ) (r : Option RefusalKind) (P : RefusalKind → Type 0) → MatchOption r (AllWithin (IsOther number name) reasons 0 (length reasons)) P → IfNone r ((k : RefusalKind) → number ≡ reason_number k → name ≡ reason_name k → ⊥)
none_named number name None P h = each (IsOther number name) h
none_named number name (Some k) P h = tt
