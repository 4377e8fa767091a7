-- What words ask for, where a command was found, or none.
use Rattle.std.proofs.Common.{ℕ, ◌≡◌, ◌⊎◌, Result, Ok, Err, inl, inr, subst}
use Rattle.pg_command.specs.Words.{Asks, IsFault, Words}
use Rattle.pg_command.specs.declared.command.Command.{Command}
use Rattle.pg_command.specs.declared.error.CommandError.{CommandError}
use Rattle.pg_command.specs.declared.error.CommandError.TheVariants as wrong
use Rattle.pg_event.specs.declared.status.Status.TheVariants as status

-- there is no other, unless memory ran out
abbrev pub IsAll : Words → Result Command CommandError → Type 0
IsAll words found =
    (command : Command)
    → Asks words command
    → (found ≡ Ok command) ⊎ (found ≡ Err wrong.OutOfMemory)

same_ok : (c d : Command) → ◌≡◌ {A = Result Command CommandError} (Ok c) (Ok d) → c ≡ d
same_ok c d e = cc

ok_is_not_err : (c : Command) (e : CommandError)
    → ◌≡◌ {A = Result Command CommandError} (Ok c) (Err e)
    → ⊥
ok_is_not_err c e is = absurd cc

pub is_found : (words : Words) (c command : Command) → IsAll words (Ok c) → Asks words command
    → c ≡ command
is_found words c command all asks = elim (all command asks) [
  | inl e ↦ same_ok c command e
  | inr e ↦ absurd (ok_is_not_err c wrong.OutOfMemory e)
]

-- a word is at fault: so nothing is asked for
usage_is_not_ok : (c : Command) (k : ℕ)
    → ◌≡◌ {A = Result Command CommandError} (Err (wrong.Usage k)) (Ok c)
    → ⊥
usage_is_not_ok c k is = absurd cc

usage_is_not_memory : (k : ℕ)
    → ◌≡◌ {A = Result Command CommandError} (Err (wrong.Usage k)) (Err wrong.OutOfMemory)
    → ⊥
usage_is_not_memory k is = absurd cc

pub none_asked : (words : Words) (e : CommandError) (k : ℕ) → e ≡ wrong.Usage k
    → IsAll words (Err e)
    → (c : Command)
    → Asks words c
    → ⊥
none_asked words e k is all c asks =
    let all_of : IsAll words (Err (wrong.Usage k)) = subst (λ x. IsAll words (Err x)) is all in
    elim (all_of c asks) [
      | inl f ↦ usage_is_not_ok c k f
      | inr f ↦ usage_is_not_memory k f
    ]

-- wrong words are told by the word at fault
abbrev pub IsToldRight : Words → CommandError → Type 0
IsToldRight words e =
    (k : ℕ) → ◌≡◌ {A = Result Command CommandError} (Err e) (Err (wrong.Usage k)) → IsFault words k

abbrev pub IsToldFirst : Words → Result Command CommandError → Type 0
IsToldFirst words found = (k : ℕ) → IsFault words k → found ≡ Err (wrong.Usage k)

err_of : (e : CommandError) (k : ℕ) → e ≡ wrong.Usage k
    → ◌≡◌ {A = Result Command CommandError} (Err e) (Err (wrong.Usage k))
err_of e k is = cc

of_err : (e : CommandError) (j k : ℕ) → e ≡ wrong.Usage j
    → ◌≡◌ {A = Result Command CommandError} (Err e) (Err (wrong.Usage k))
    → status.Usage j ≡ status.Usage k
of_err e j k is same = cc

same_word : (j k : ℕ) → status.Usage j ≡ status.Usage k → j ≡ k
same_word j k e = cc

pub told_so : (words : Words) (e : CommandError) (word n : ℕ) → e ≡ wrong.Usage word
    → IsToldRight words e
    → status.Usage word ≡ status.Usage n
    → IsFault words n
told_so words e word n is right told =
    subst (λ k. IsFault words k) (same_word word n told) (right word (err_of e word is))

pub told_only : (words : Words) (e : CommandError) (word n : ℕ) → e ≡ wrong.Usage word
    → IsToldFirst words (Err e)
    → IsFault words n
    → status.Usage word ≡ status.Usage n
told_only words e word n is first fault = of_err e word n is (first n fault)

-- memory ran out: so no word is at fault
memory_is_not_usage : (e : CommandError) (k : ℕ) → e ≡ wrong.OutOfMemory
    → ◌≡◌ {A = Result Command CommandError} (Err e) (Err (wrong.Usage k))
    → ⊥
memory_is_not_usage e k is same = absurd cc

pub no_fault_told : (words : Words) (e : CommandError) (n : ℕ) → e ≡ wrong.OutOfMemory
    → IsToldFirst words (Err e)
    → IsFault words n
    → ⊥
no_fault_told words e n is first fault = memory_is_not_usage e n is (first n fault)

pub no_fault_found : (words : Words) (c : Command) (n : ℕ) → IsToldFirst words (Ok c)
    → IsFault words n
    → ⊥
no_fault_found words c n first fault = ok_is_not_err c (wrong.Usage n) (first n fault)
