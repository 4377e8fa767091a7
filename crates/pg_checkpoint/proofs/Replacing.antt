-- What a crash leaves of a slot's file while the slot is written.
use Rattle.std.proofs.Common.{◌≡◌, ◌≢◌, ◌⊎◌, inl, inr, ℕ, ◌-◌, ◌==◌, min, Bool, true, false, true≢false, if◌then◌else◌, List, [], ◌∷◌, ◌++◌, length, take, drop, replicate, get_or, Option, Result, Ok, Err, IsErr, OnOk, refl, sym, ◌∙◌, ap, subst, arith}
use Rattle.std.specs.Cmp.{unsigned_Decides}
use Rattle.std.proofs.lemmas.Bool.{cases_eq}
use Rattle.std.proofs.lemmas.List.{drop-drop}
use Rattle.pg_disk.specs.Disk.{Write, Sync, IsTorn, MayMake, written, changed, IsSettled}
use Rattle.pg_disk.specs.Told.{Told, steps, given}
use Rattle.pg_disk.specs.Moments.{LeavesOnly}
use Rattle.pg_disk.specs.Synced.{IsSynced}
use Rattle.pg_disk.proofs.Moments.{leaves_then, leaves_weaker}
use Rattle.pg_checkpoint.specs.Slots.{Slot, Fits, behind_gate, IsSlot, IsEmpty}
use Rattle.pg_checkpoint.specs.Heads.{gate_of, closing, IsReplaced}
use Rattle.pg_checkpoint.proofs.Slots.{short_empty, closed_empty}

-- a closed gate, and anything behind it
pub record IsClosed (file : List ℕ) : Type 0 where
  pub gate : ℕ
  pub rest : List ℕ
  pub spelled : file ≡ gate ∷ rest
  pub closed : gate ≢ 1

-- one byte written over the first
torn_gate : (gate byte : ℕ) (rest image : List ℕ) → IsTorn 0 (byte ∷ []) (gate ∷ rest) image → image ≡ get_or image 0 0 ∷ rest
torn_gate gate byte rest [] torn = absurd (let n = torn.no_shorter in omega arith)
torn_gate gate byte rest (first ∷ image) torn = ap (λ (l : List ℕ). first ∷ l) torn.behind

written_gate : (gate byte : ℕ) (rest : List ℕ) → written 0 (byte ∷ []) (gate ∷ rest) ≡ byte ∷ rest
written_gate gate byte rest =
    let no_gap : 0 - length (gate ∷ rest) ≡ 0 = omega arith in
    λ i. take 0 (gate ∷ rest) ++ replicate (no_gap i) 0 ++ (byte ∷ []) ++ drop 1 (gate ∷ rest)

-- bytes written behind a closed gate
torn_behind : (gate : ℕ) (rest bytes image : List ℕ) → gate ≢ 1 → IsTorn 1 bytes (gate ∷ rest) image → IsEmpty image
torn_behind gate rest bytes [] closed torn = short_empty [] (omega arith)
torn_behind gate rest bytes (first ∷ image) closed torn =
    let least : min 1 (length (gate ∷ rest)) ≡ 1 = omega arith in
    let kept : take 1 (first ∷ image) ≡ take 1 (gate ∷ rest) = ap (λ (k : ℕ). take k (first ∷ image)) (sym least) ∙ torn.before ∙ ap (λ (k : ℕ). take k (gate ∷ rest)) least in
    let same : first ≡ gate = ap (λ (l : List ℕ). get_or l 0 0) kept in
    closed_empty (first ∷ image) first image refl (λ (is : first ≡ 1). closed (sym same ∙ is))

written_behind : (gate : ℕ) (rest bytes : List ℕ) → written 1 bytes (gate ∷ rest) ≡ gate ∷ (bytes ++ drop (length bytes) rest)
written_behind gate rest [] = refl
written_behind gate rest (byte ∷ bytes) =
    let n : ℕ = length (byte ∷ bytes) in
    let no_gap : 1 - length (gate ∷ rest) ≡ 0 = omega arith in
    λ i. take 1 (gate ∷ rest) ++ replicate (no_gap i) 0 ++ (byte ∷ bytes) ++ sym (drop-drop n 1 (gate ∷ rest)) i

module _ (slot : Slot) (fits : Fits slot) where
  -- what a crash leaves of a file
  abbrev Among : List ℕ → List ℕ → Type 0
  Among file image = (image ≡ file) ⊎ (IsEmpty image ⊎ IsSlot image slot)

  closing_by : (test : Bool) (gate : ℕ) (rest image : List ℕ) → (test ≡ true → gate ≡ 1) → MayMake (if test then Write 0 (0 ∷ []) else Sync) (gate ∷ rest) image → Among (gate ∷ rest) image
  closing_by true gate rest image is_open torn =
      let spelled = torn_gate gate 0 rest image torn in
      let byte : ℕ = get_or image 0 0 in
      elim (cases_eq byte 1) [
        | inl is ↦ inl (spelled ∙ ap (λ (b : ℕ). b ∷ rest) (is ∙ sym (is_open refl)))
        | inr is_not ↦ inr (inl (closed_empty image byte rest spelled is_not))
      ]
  closing_by false gate rest image is_open same = inl same

  leaves_closing : (file image : List ℕ) → MayMake (closing (gate_of file)) file image → Among file image
  leaves_closing [] image torn = inr (inl (short_empty image (let n = torn.no_longer in omega arith)))
  leaves_closing (gate ∷ rest) image made = closing_by (gate == 1) gate rest image (unsigned_Decides gate 1).0 made

  closed_by : (test : Bool) (gate : ℕ) (rest new : List ℕ) → (gate ≡ 1 → test ≡ true) → new ≡ changed (if test then Write 0 (0 ∷ []) else Sync) (gate ∷ rest) → IsClosed new
  closed_by true gate rest new is_open is = record { gate = 0; rest = rest; spelled = is ∙ written_gate gate 0 rest; closed = λ (e : 0 ≡ 1). omega arith }
  closed_by false gate rest new is_open is = record { gate = gate; rest = rest; spelled = is; closed = λ (e : gate ≡ 1). true≢false (sym (is_open e)) }

  closed_file : (file new : List ℕ) → new ≡ changed (closing (gate_of file)) file → IsClosed new
  closed_file [] new is = record { gate = 0; rest = []; spelled = is; closed = λ (e : 0 ≡ 1). omega arith }
  closed_file (gate ∷ rest) new is = closed_by (gate == 1) gate rest new (unsigned_Decides gate 1).1 is

  slot_is : (file rest : List ℕ) → file ≡ 1 ∷ (behind_gate slot ++ rest) → IsSlot file slot
  slot_is file rest spelled = record { fits = fits; rest = rest; spelled = spelled }

  opening_leaves : (gate : ℕ) (rest image : List ℕ) → IsTorn 0 (1 ∷ []) (gate ∷ (behind_gate slot ++ rest)) image → IsEmpty image ⊎ IsSlot image slot
  opening_leaves gate rest image torn =
      let all : List ℕ = behind_gate slot ++ rest in
      let spelled = torn_gate gate 1 all image torn in
      let byte : ℕ = get_or image 0 0 in
      elim (cases_eq byte 1) [
        | inl is ↦ inr (slot_is image rest (spelled ∙ ap (λ (b : ℕ). b ∷ all) is))
        | inr is_not ↦ inl (closed_empty image byte all spelled is_not)
      ]

  module _ (E : Type 0) (file : ℕ) (gate : Option ℕ) (bytes : List ℕ) (bytes_are : bytes ≡ behind_gate slot) (old : Told) (gate_is : gate ≡ gate_of (given old file)) where
    abbrev Answer : Type 0
    Answer = Result (Unit {0}) E

    abbrev answered : Unit {0} → Answer
    answered u = Ok u

    abbrev P : List ℕ → Type 0
    P image = Among (given old file) image

    abbrev Moments : Told → Type 0
    Moments new = IsSettled (steps old file) → LeavesOnly old.chosen file old.history new.history P

    none_ok : (result : Answer) → IsErr result → (X : Type 0) → OnOk result X
    none_ok (Ok u) is X = absurd (true≢false (sym is))
    none_ok (Err e) is X = tt

    moments_closing : (result : Answer) (mid : Told) → IsSynced result file (closing gate) old mid → Moments mid
    moments_closing result mid synced settled =
        leaves_weaker old.chosen file (MayMake (closing gate) (given old file)) P old.history mid.history
        (λ image made. leaves_closing (given old file) image (subst (λ (g : Option ℕ). MayMake (closing g) (given old file) image) gate_is made))
        (synced.moments settled)

    pub closing_refused : (result tried : Answer) (mid : Told) → IsErr result → IsSynced tried file (closing gate) old mid → IsReplaced result file slot old mid
    closing_refused result tried mid is synced = record {
      holds = none_ok result is (IsSlot (given mid file) slot);
      settled = none_ok result is (IsSettled (steps mid file));
      moments = moments_closing tried mid synced;
    }

    module _ (u : Unit {0}) (mid : Told) (first : IsSynced (answered u) file (closing gate) old mid) where
      is_closed : IsClosed (given mid file)
      is_closed = closed_file (given old file) (given mid file) (first.contents ∙ ap (λ (g : Option ℕ). changed (closing g) (given old file)) gate_is)

      abbrev behind : List ℕ
      behind = drop (length (behind_gate slot)) is_closed.rest

      moments_writing : (result : Answer) (new : Told) → IsSynced result file (Write 1 bytes) mid new → Moments new
      moments_writing result new synced settled =
          leaves_then old.chosen file P old.history mid.history new.history (moments_closing (answered u) mid first settled)
          (subst (λ (name : List ℕ). LeavesOnly name file mid.history new.history P) first.keeps.chosen
          (leaves_weaker mid.chosen file (MayMake (Write 1 bytes) (given mid file)) P mid.history new.history
          (λ image torn. inr (inl (torn_behind is_closed.gate is_closed.rest bytes image is_closed.closed
          (subst (λ (f : List ℕ). IsTorn 1 bytes f image) is_closed.spelled torn))))
          (synced.moments first.settled)))

      pub writing_refused : (result tried : Answer) (new : Told) → IsErr result → IsSynced tried file (Write 1 bytes) mid new → IsReplaced result file slot old new
      writing_refused result tried new is synced = record {
        holds = none_ok result is (IsSlot (given new file) slot);
        settled = none_ok result is (IsSettled (steps new file));
        moments = moments_writing tried new synced;
      }

      module _ (v : Unit {0}) (last : Told) (second : IsSynced (answered v) file (Write 1 bytes) mid last) where
        staged : given last file ≡ is_closed.gate ∷ (behind_gate slot ++ behind)
        staged = second.contents ∙ (λ i. written 1 (bytes_are i) (is_closed.spelled i)) ∙ written_behind is_closed.gate is_closed.rest (behind_gate slot)

        moments_opening : (result : Answer) (new : Told) → IsSynced result file (Write 0 (1 ∷ [])) last new → Moments new
        moments_opening result new synced settled =
            leaves_then old.chosen file P old.history last.history new.history (moments_writing (answered v) last second settled)
            (subst (λ (name : List ℕ). LeavesOnly name file last.history new.history P) (second.keeps.chosen ∙ first.keeps.chosen)
            (leaves_weaker last.chosen file (MayMake (Write 0 (1 ∷ [])) (given last file)) P last.history new.history
            (λ image torn. inr (opening_leaves is_closed.gate behind image (subst (λ (f : List ℕ). IsTorn 0 (1 ∷ []) f image) staged torn)))
            (synced.moments second.settled)))

        opened : (new : Told) → given new file ≡ written 0 (1 ∷ []) (given last file) → IsSlot (given new file) slot
        opened new is = slot_is (given new file) behind (is ∙ ap (written 0 (1 ∷ [])) staged ∙ written_gate is_closed.gate 1 (behind_gate slot ++ behind))

        slot_ok : (result : Answer) (new : Told) → IsSynced result file (Write 0 (1 ∷ [])) last new → OnOk result (IsSlot (given new file) slot)
        slot_ok (Ok w) new synced = opened new synced.contents
        slot_ok (Err e) new synced = tt

        pub replaced : (result : Answer) (new : Told) → IsSynced result file (Write 0 (1 ∷ [])) last new → IsReplaced result file slot old new
        replaced result new synced = record {
          holds = slot_ok result new synced;
          settled = synced.settled;
          moments = moments_opening result new synced;
        }
