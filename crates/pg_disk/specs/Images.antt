-- What a read gives is one of the things that a crash may leave.
use Rattle.std.specs.Prelude.{ℕ, ◌≡◌, ◌+◌, ◌-◌, ◌==◌, ◌&&◌, min, Bool, true, false, if◌then◌else◌, List, [], ◌∷◌, ◌++◌, length, take, drop, replicate, bytes_eq, string_bytes}
use Rattle.std.specs.Cmp.Lexicographic.{same_text}
use Rattle.std.specs.Cmp.{unsigned_Decides}
use Rattle.std.proofs.Common.{refl, sym, ◌∙◌, ap, subst, true≢false, arith, length-append, length-drop, append_assoc}
use Rattle.std.proofs.lemmas.List.{drop_at, take_at, take_all, take_min, length-take, length-replicate}
use Rattle.pg_disk.specs.Disk.{Change, Step, Done, Write, Cut, Sync, written, changed, contents, IsTorn, MayMake, IsImage}
use Rattle.pg_disk.specs.Told.{Event, steps_of, ReadsImages}
use Rattle.pg_disk.specs.Memory.{Remembered, told_of, event_of, with_calls, step_of, change_of}
use Rattle.pg_disk.specs.declared.call.Call.{Call}

both : (a b : Bool) → (a && b) ≡ true → (a ≡ true) × (b ≡ true)
both true b h = (refl, h)
both false b h = absurd (true≢false (sym h))

-- two names that a test finds equal, and two such files, have the same steps
pub same_steps : (own name : List ℕ) (own_file file : ℕ) (h : List Event)
    → (bytes_eq own name && (own_file == file)) ≡ true
    → steps_of own own_file h ≡ steps_of name file h
same_steps own name own_file file h is_its =
    let parts = both (bytes_eq own name) (own_file == file) is_its in
    let names : own ≡ name = same_text own name (sym parts.0) in
    let files : own_file ≡ file = (unsigned_Decides own_file file).0 parts.1 in
    λ i. steps_of (names i) (files i) h

written_is_torn : (at : ℕ) (bytes file : List ℕ) → IsTorn at bytes file (written at bytes file)
written_is_torn at [] file =
    record { before = refl; behind = refl; no_shorter = omega arith; no_longer = omega arith }
written_is_torn at (byte ∷ bytes) file =
    let n : ℕ = length (byte ∷ bytes) in
    let zeros : List ℕ = replicate (at - length file) 0 in
    let rest = drop (at + n) file in
    let front = take at file ++ zeros ++ (byte ∷ bytes) in
    let front_length : length front ≡ at + n =
    omega (
      arith,
      length-append (take at file ++ zeros) (byte ∷ bytes),
      length-append (take at file) zeros,
      length-take at file,
      length-replicate {A = ℕ} (at - length file) 0,
    ) in
    let whole : length (front ++ rest) ≡ length front + length rest = length-append front rest in
    let regrouped : front ++ rest ≡ take at file ++ (zeros ++ (byte ∷ bytes) ++ rest) =
    ap (λ (l : List ℕ). l ++ rest) (append_assoc (take at file) zeros (byte ∷ bytes))
    ∙ append_assoc (take at file) (zeros ++ (byte ∷ bytes)) rest in
    record {
      before = ap (λ (l : List ℕ). take (min at (length file)) l) regrouped
          ∙ take_at (take at file) (zeros ++ (byte ∷ bytes) ++ rest) (min at (length file))
          (omega (arith, length-take at file))
          ∙ sym (take_min at file);
      behind = drop_at front rest (at + n) front_length;
      no_shorter = omega (arith, whole, front_length, length-drop (at + n) file);
      no_longer = omega arith;
    }

-- a change that is done is among what a crash may make
pub done_is_made : (change : Change) (file : List ℕ) → MayMake change file (changed change file)
done_is_made (Write at bytes) file = written_is_torn at bytes file
done_is_made (Cut longest) file = record {
  before = take_all longest (take longest file) (omega (arith, length-take longest file));
  no_shorter = omega (arith, length-take longest file);
  no_longer = omega (arith, length-take longest file);
}
done_is_made Sync file = refl

-- and so is the file as it was
pub none_is_made : (change : Change) (file : List ℕ) → MayMake change file file
none_is_made (Write at bytes) file =
    record {
      before = refl;
      behind = refl;
      no_shorter = omega arith;
      no_longer = (written_is_torn at bytes file).no_shorter;
    }
none_is_made (Cut longest) file =
    record { before = refl; no_shorter = omega arith; no_longer = omega arith }
none_is_made Sync file = refl

image_done : (change : Change) (steps : List Step) → IsImage steps (contents steps)
    → IsImage (Done change ∷ steps) (changed change (contents steps))
image_done (Write at bytes) steps image =
    (contents steps, image, done_is_made (Write at bytes) (contents steps))
image_done (Cut longest) steps image =
    (contents steps, image, done_is_made (Cut longest) (contents steps))
image_done Sync steps image = refl

image_by_test : (is_its is_done : Bool) (change : Change) (own other : List Step)
    → (is_its ≡ true → own ≡ other) → IsImage other (contents other)
    → IsImage (if is_its then step_of is_done change (contents own) ∷ other else other)
    (contents (if is_its then step_of is_done change (contents own) ∷ other else other))
image_by_test true true change own other same image = image_done change other image
image_by_test true false change own other same image = (
  contents other,
  image,
  subst (λ (steps : List Step). MayMake change (contents other) (contents steps))
      (sym (same refl)) (none_is_made change (contents other)),
)
image_by_test false is_done change own other same image = image

call_reads : (call : Call) (h : List Event) → ReadsImages h → ReadsImages (event_of call h ∷ h)
call_reads call h reads name file =
    image_by_test (bytes_eq (string_bytes call.name) name && (call.file == file)) call.is_done
    (change_of call.edit)
    (steps_of (string_bytes call.name) call.file h) (steps_of name file h)
    (same_steps (string_bytes call.name) name call.file file h) (reads name file)

calls_read : (h : List Event) (calls : List Call) → ReadsImages h → ReadsImages (with_calls h calls)
calls_read h [] reads = reads
calls_read h (call ∷ calls) reads = calls_read (event_of call h ∷ h) calls (call_reads call h reads)

pub memory_reads_images : (disk : Remembered) → ReadsImages (told_of disk).history
memory_reads_images disk = calls_read [] disk.made (λ name file. refl)
