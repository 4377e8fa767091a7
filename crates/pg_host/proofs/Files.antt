-- What a crash leaves of a log and of two slots at each moment between two.
use Rattle.std.proofs.Common.{◌≡◌, ◌⊎◌, inl, inr, ℕ, zero, suc, ◌+◌, ◌-◌, ◌≤◌, List, length, drop, Option, refl, sym, ◌∙◌, ap, subst, arith}
use Rattle.std.proofs.lemmas.Bool.{cases_lt}
use Rattle.std.proofs.lemmas.List.{drop-drop}
use Rattle.pg_checkpoint.specs.Saves.{AreSettled, KeepsRest, Loads, SlotsLeave}
use Rattle.pg_checkpoint.specs.Slots.{Slot}
use Rattle.pg_checkpoint.specs.Loads.{LoadsTo}
use Rattle.pg_disk.specs.Disk.{Step, IsImage, IsSettled, contents}
use Rattle.pg_disk.specs.Told.{Event, Told, given, steps, steps_of}
use Rattle.pg_disk.specs.Moments.{LeavesSince}
use Rattle.pg_disk.specs.Synced.{KeepsOthers}
use Rattle.pg_disk.proofs.Growing.{later-none, later-then, same_between, untouched_leaves}
use Rattle.pg_log.specs.Log.{Stands}
use Rattle.pg_log.proofs.Standing.{stands_on}
use Rattle.pg_host.specs.Slots.{FilesLeave, KeepsFiles}

-- ---- only these files change

pub files_of_log : (old new : Told) → KeepsOthers 0 old new → KeepsFiles old new
files_of_log old new keeps = record {
  chosen = keeps.chosen;
  no_fewer = keeps.no_fewer;
  later = keeps.later;
  others = λ name file outside. keeps.others name file (λ is. outside (is.0, (let none : file ≡ 0 = is.1 in omega (arith, none))));
}

-- the log is no slot
not_slot : (name own : List ℕ) (file : ℕ) → file ≡ 0 → (name ≡ own) × ((file ≡ 1) ⊎ (file ≡ 2)) → ⊥
not_slot name own file log is = elim is.1 [ inl one ↦ omega (arith, log, one) | inr two ↦ omega (arith, log, two) ]

above : (file : ℕ) → 1 ≤ file → file ≡ 0 → ⊥
above file slot is = omega (arith, slot, is)

within_two : (file : ℕ) → (file ≡ 1) ⊎ (file ≡ 2) → file ≤ 2
within_two file (inl one) = omega (arith, one)
within_two file (inr two) = omega (arith, two)

pub files_of_slots : (old new : Told) → KeepsRest old new → KeepsFiles old new
files_of_slots old new keeps = record {
  chosen = keeps.chosen;
  no_fewer = keeps.no_fewer;
  later = keeps.later;
  others = λ name file outside. keeps.others name file (λ is. outside (is.0, within_two file is.1));
}

pub files_then : (old mid new : Told) → KeepsFiles old mid → KeepsFiles mid new → KeepsFiles old new
files_then old mid new first second = record {
  chosen = second.chosen ∙ first.chosen;
  no_fewer = omega (arith, first.no_fewer, second.no_fewer);
  later = later-then old.history mid.history new.history first.no_fewer first.later second.no_fewer second.later;
  others = λ name file outside. second.others name file (λ is. outside (is.0 ∙ first.chosen, is.1)) ∙ first.others name file outside;
}

pub files_none : (told : Told) → KeepsFiles told told
files_none told = record {
  chosen = refl;
  no_fewer = omega arith;
  later = (let none : length told.history - length told.history ≡ 0 = omega arith in ap (λ (k : ℕ). drop k told.history) none);
  others = λ name file outside. refl;
}

-- ---- slots are saved, and the log stays

module _ (old new : Told) (keeps : KeepsRest old new) where
  log_stays : steps_of old.chosen 0 new.history ≡ steps_of old.chosen 0 old.history
  log_stays = keeps.others old.chosen 0 (not_slot old.chosen old.chosen 0 refl)

  pub log_stands : (log : Option ℕ) (entries : List (List ℕ)) → Stands log old entries → Stands log new entries
  log_stands log entries stands = stands_on log old new entries keeps.chosen log_stays stands

  pub log_leaves : (P : List ℕ → Type 0) → ((image : List ℕ) → IsImage (steps old 0) image → P image) → LeavesSince 0 old new P
  log_leaves P here = untouched_leaves old.chosen 0 P old.history new.history keeps.no_fewer keeps.later log_stays here

  -- at each moment the log is as before, and the slots are what saving leaves
  pub slots_leave : (Log : List ℕ → Type 0) (S : List ℕ → List ℕ → Type 0) (P : (log first second : List ℕ) → Type 0)
      → ((image : List ℕ) → IsImage (steps old 0) image → Log image) → SlotsLeave old new S
      → ((log first second : List ℕ) → Log log → S first second → P log first second) → FilesLeave old.chosen old.history new.history P
  slots_leave Log S P here leaves both = record {
    no_fewer = keeps.no_fewer;
    later = keeps.later;
    each = λ ago fewer log first second is_log is_first is_second.
        both log first second
        (here log (subst (λ (s : List Step). IsImage s log) (same_between old.chosen 0 old.history new.history keeps.no_fewer keeps.later log_stays ago fewer) is_log))
        (leaves.each ago fewer first second is_first is_second);
  }

-- ---- the log goes on, and the slots stay

module _ (old new : Told) (keeps : KeepsOthers 0 old new) where
  slot_stays : (file : ℕ) → (file ≡ 0 → ⊥) → steps_of old.chosen file new.history ≡ steps_of old.chosen file old.history
  slot_stays file another = keeps.others old.chosen file (λ is. another is.1)

  slot_steps : (file : ℕ) → (file ≡ 0 → ⊥) → steps new file ≡ steps old file
  slot_steps file another = ap (λ (name : List ℕ). steps_of name file new.history) keeps.chosen ∙ slot_stays file another

  pub slots_settled : AreSettled old → AreSettled new
  slots_settled settled = record { first = subst IsSettled (sym (slot_steps 1 (above 1 (omega arith)))) settled.first; second = subst IsSettled (sym (slot_steps 2 (above 2 (omega arith)))) settled.second }

  pub slots_load : (slot : Option Slot) → Loads old slot → Loads new slot
  slots_load slot loads =
      subst (λ (l : List ℕ). LoadsTo l (given new 2) slot) (sym (ap contents (slot_steps 1 (above 1 (omega arith)))))
      (subst (λ (l : List ℕ). LoadsTo (given old 1) l slot) (sym (ap contents (slot_steps 2 (above 2 (omega arith))))) loads)

  pub slots_loaded : (slot : Option Slot) → Loads new slot → Loads old slot
  slots_loaded slot loads =
      subst (λ (l : List ℕ). LoadsTo l (given old 2) slot) (ap contents (slot_steps 1 (above 1 (omega arith))))
      (subst (λ (l : List ℕ). LoadsTo (given new 1) l slot) (ap contents (slot_steps 2 (above 2 (omega arith)))) loads)

  pub log_moves : AreSettled old → (Log : List ℕ → Type 0) (P : (log first second : List ℕ) → Type 0) → LeavesSince 0 old new Log
      → ((log : List ℕ) → Log log → P log (given old 1) (given old 2)) → FilesLeave old.chosen old.history new.history P
  log_moves settled Log P leaves both = record {
    no_fewer = keeps.no_fewer;
    later = keeps.later;
    each = λ ago fewer log first second is_log is_first is_second.
        let stays : (file : ℕ) → (file ≡ 0 → ⊥) → steps_of old.chosen file (drop ago new.history) ≡ steps_of old.chosen file old.history =
        λ file another. same_between old.chosen file old.history new.history keeps.no_fewer keeps.later (slot_stays file another) ago fewer in
        let first_is : first ≡ given old 1 = settled.first first (subst (λ (s : List Step). IsImage s first) (stays 1 (above 1 (omega arith))) is_first) in
        let second_is : second ≡ given old 2 = settled.second second (subst (λ (s : List Step). IsImage s second) (stays 2 (above 2 (omega arith))) is_second) in
        subst (λ (l : List ℕ). P log l second) (sym first_is) (subst (λ (l : List ℕ). P log (given old 1) l) (sym second_is) (both log (leaves.each ago fewer log is_log)));
  }

-- ---- one run of calls behind another

-- before the first call
pub files_started : (name : List ℕ) (P : (log first second : List ℕ) → Type 0) (h : List Event)
    → ((log first second : List ℕ) → IsImage (steps_of name 0 h) log → IsImage (steps_of name 1 h) first → IsImage (steps_of name 2 h) second → P log first second) → FilesLeave name h h P
files_started name P h here = record {
  no_fewer = omega arith;
  later = later-none h;
  each = λ ago fewer.
      let none : ago ≡ 0 = omega (arith, fewer) in
      subst (λ (k : ℕ). (log a b : List ℕ) → IsImage (steps_of name 0 (drop k h)) log → IsImage (steps_of name 1 (drop k h)) a → IsImage (steps_of name 2 (drop k h)) b → P log a b) (sym none) here;
}

pub files_leave_then : (name : List ℕ) (P : (log first second : List ℕ) → Type 0) (old mid new : List Event) → FilesLeave name old mid P → FilesLeave name mid new P → FilesLeave name old new P
files_leave_then name P old mid new first second = record {
  no_fewer = omega (arith, first.no_fewer, second.no_fewer);
  later = later-then old mid new first.no_fewer first.later second.no_fewer second.later;
  each = λ ago fewer. elim (cases_lt (length new) (ago + length mid)) [
    | inl before ↦
        let shift : ago ≡ behind + (ago - behind) = omega (arith, before, second.no_fewer) in
        let reached : drop ago new ≡ drop (ago - behind) mid = ap (λ (k : ℕ). drop k new) shift ∙ earlier (ago - behind) in
        subst (λ (h : List Event). (log a b : List ℕ) → IsImage (steps_of name 0 h) log → IsImage (steps_of name 1 h) a → IsImage (steps_of name 2 h) b → P log a b) (sym reached) (first.each (ago - behind) (omega (arith, fewer, before, second.no_fewer)))
    | inr since ↦ second.each ago since
  ];
}
  where
    behind : ℕ
    behind = length new - length mid

    earlier : (k : ℕ) → drop (behind + k) new ≡ drop k mid
    earlier k = sym (drop-drop k behind new) ∙ ap (λ (h : List Event). drop k h) second.later

-- two runs of calls on the same chosen name
pub files_since_then : (P : (log first second : List ℕ) → Type 0) (old mid new : Told) → mid.chosen ≡ old.chosen → FilesLeave old.chosen old.history mid.history P → FilesLeave mid.chosen mid.history new.history P
    → FilesLeave old.chosen old.history new.history P
files_since_then P old mid new chosen first second =
    files_leave_then old.chosen P old.history mid.history new.history first
    (subst (λ (name : List ℕ). FilesLeave name mid.history new.history P) chosen second)
