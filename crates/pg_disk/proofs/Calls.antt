-- What one call more does to the history of a disk in memory.
use Rattle.std.proofs.Common.{◌≡◌, ℕ, ◌+◌, ◌<◌, ◌==◌, ◌&&◌, Bool, true, false, List, [], ◌∷◌, ◌++◌, length, take, get_or, refl, sym, ◌∙◌, ap, bytes_eq, string_bytes, if◌then◌else◌}
use Rattle.std.proofs.lemmas.List.{take_more}
use Rattle.pg_disk.specs.Disk.{Change, Step, contents, changed}
use Rattle.pg_disk.specs.Told.{Event, steps_of}
use Rattle.pg_disk.specs.Memory.{change_of, step_of, event_of, with_calls, behind_call}
use Rattle.pg_disk.specs.Images.{same_steps}
use Rattle.pg_disk.specs.declared.call.Call.{Call}

pub with_calls-push : (h : List Event) (calls : List Call) (call : Call) → with_calls h (calls ++ call ∷ []) ≡ event_of call (with_calls h calls) ∷ with_calls h calls
with_calls-push h [] call = refl
with_calls-push h (first ∷ calls) call = with_calls-push (event_of first h ∷ h) calls call

by_test : (is_its is_done : Bool) (change : Change) (own other : List Step) → (is_its ≡ true → own ≡ other)
    → contents (if is_its then step_of is_done change (contents own) ∷ other else other) ≡ (if is_its then (if is_done then changed change (contents other) else contents other) else contents other)
by_test true true change own other same = refl
by_test true false change own other same = ap contents (same refl)
by_test false is_done change own other same = refl

-- what a read gives behind one call more
pub contents_behind : (call : Call) (name : List ℕ) (file : ℕ) (h : List Event) → contents (steps_of name file (event_of call h ∷ h)) ≡ behind_call call name file (contents (steps_of name file h))
contents_behind call name file h =
    by_test (bytes_eq (string_bytes call.name) name && (call.file == file)) call.is_done (change_of call.edit)
    (steps_of (string_bytes call.name) call.file h) (steps_of name file h) (same_steps (string_bytes call.name) name call.file file h)

-- the same behind the first calls of some
pub contents_more : (calls : List Call) (call : Call) (k : ℕ) (name : List ℕ) (file : ℕ) (was new : List ℕ) → k < length calls → call ≡ get_or calls k call
    → was ≡ contents (steps_of name file (with_calls [] (take k calls))) → new ≡ behind_call call name file was → new ≡ contents (steps_of name file (with_calls [] (take (k + 1) calls)))
contents_more calls call k name file was new within is so_far one =
    let more : take (k + 1) calls ≡ take k calls ++ call ∷ [] = take_more calls k call within ∙ ap (λ (c : Call). take k calls ++ c ∷ []) (sym is) in
    let history = with_calls [] (take k calls) in
    one ∙ ap (behind_call call name file) so_far ∙ sym (contents_behind call name file history)
    ∙ ap (λ (h : List Event). contents (steps_of name file h)) (sym (ap (with_calls []) more ∙ with_calls-push [] (take k calls) call))
