-- What was read of both slots.
use Rattle.std.proofs.Common.{◌≡◌, ◌⊎◌, inl, inr, ℕ, ◌-◌, ◌<◌, ◌≤◌, ◌^◌, ◌==◌, if◌then◌else◌, Option, Some, None, MatchOption, sym, ◌∙◌, ap, subst, arith}
use Rattle.pg_disk.specs.Told.{Told, given}
use Rattle.pg_checkpoint.specs.Slots.{IsSlot, IsEmpty}
use Rattle.pg_checkpoint.specs.Saves.{Loads, IsFull}
use Rattle.pg_checkpoint.specs.Heads.{IsHead, Goes, IsNext, slot_of, counted, gate_of}
use Rattle.pg_checkpoint.specs.declared.head.Entry.{Entry}
use Rattle.pg_checkpoint.specs.declared.head.Head.{Head}
use Rattle.pg_checkpoint.specs.declared.head.Turn.{Turn}
use Rattle.pg_checkpoint.proofs.Counts.{counts, is_number}
use Rattle.pg_checkpoint.proofs.Outcomes.{is_full}

module _ (told : Told) (first second : Head) (one : IsHead (given told 1) first) (two : IsHead (given told 2) second) where
  gate_at : (file number : ℕ) (gate : Option ℕ) → Goes (counted first.entry) (counted second.entry) file number → gate ≡ (if file == 2 then second.gate else first.gate) → gate ≡ gate_of (given told file)
  gate_at file number gate (inl goes) is =
      let file_is = goes.1 in
      (is ∙ ap (λ (f : ℕ). if f == 2 then second.gate else first.gate) file_is) ∙ two.gate ∙ ap (λ (f : ℕ). gate_of (given told f)) (sym file_is)
  gate_at file number gate (inr goes) is =
      let file_is = goes.1 in
      (is ∙ ap (λ (f : ℕ). if f == 2 then second.gate else first.gate) file_is) ∙ one.gate ∙ ap (λ (f : ℕ). gate_of (given told f)) (sym file_is)

  pub turn_is : (turn : Turn) → Goes (counted first.entry) (counted second.entry) turn.file turn.number → turn.gate ≡ (if turn.file == 2 then second.gate else first.gate) → IsNext told turn
  turn_is turn goes gate = record {
    first = counted first.entry;
    second = counted second.entry;
    counts_first = counts (given told 1) first.entry one.entry;
    counts_second = counts (given told 2) second.entry two.entry;
    goes = goes;
    gate = gate_at turn.file turn.number turn.gate goes gate;
  }

  pub none_left : (counted first.entry ≡ 2 ^ 64 - 1) ⊎ (counted second.entry ≡ 2 ^ 64 - 1) → IsFull told
  none_left top = is_full told (counted first.entry) (counted second.entry) (counts (given told 1) first.entry one.entry) (counts (given told 2) second.entry two.entry) top

  -- which of them is loaded
  abbrev Newer : Option (ℕ × Entry) → Type 0
  Newer found = MatchOption found ((first.entry ≡ None) × (second.entry ≡ None))
      (λ found. ((found.0 ≡ 2) × (second.entry ≡ Some found.1) × (counted first.entry ≤ counted second.entry))
      ⊎ ((found.0 ≡ 1) × (first.entry ≡ Some found.1) × ((second.entry ≡ None) ⊎ (counted second.entry < counted first.entry))))

  abbrev About : ℕ → Option Entry → Type 0
  About k entry = MatchOption entry (IsEmpty (given told k)) (λ e. IsSlot (given told k) (slot_of e (given told k)))

  pub newer_loads : (found : Option (ℕ × Entry)) → Newer found → MatchOption found (Loads told None) (λ f. Loads told (Some (slot_of f.1 (given told f.0))))
  newer_loads None is = (subst (About 1) is.0 one.entry, subst (About 2) is.1 two.entry)
  newer_loads (Some found) (inl is) =
      let there : IsSlot (given told 2) (slot_of found.1 (given told 2)) = subst (About 2) is.1 two.entry in
      let number : counted second.entry ≡ found.1.number = ap counted is.1 in
      subst (λ (k : ℕ). Loads told (Some (slot_of found.1 (given told k)))) (sym is.0)
      (inl (
        there,
        λ other other_is.
            let same = is_number (given told 1) (counted first.entry) (counts (given told 1) first.entry one.entry) other other_is in
            let most = is.2 in
            omega (arith, same, most, number),
      ))
  newer_loads (Some found) (inr is) =
      let there : IsSlot (given told 1) (slot_of found.1 (given told 1)) = subst (About 1) is.1 one.entry in
      let number : counted first.entry ≡ found.1.number = ap counted is.1 in
      subst (λ (k : ℕ). Loads told (Some (slot_of found.1 (given told k)))) (sym is.0)
      (inr (
        there,
        λ other other_is. elim is.2 [
          | inl empty ↦ absurd (subst (About 2) empty two.entry other other_is)
          | inr less ↦
              let same = is_number (given told 2) (counted second.entry) (counts (given told 2) second.entry two.entry) other other_is in
              omega (arith, same, less, number)
        ],
      ))
