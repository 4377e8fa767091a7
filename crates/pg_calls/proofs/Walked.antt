-- What walks and checks of things lead to: it is held and full, and a directory or a file where
-- that was asked.
use Rattle.std.proofs.Common.{ℕ, ◌≡◌, ◌+◌, ◌||◌, not, Bool, true, false, if◌then◌else◌, List, [], ◌∷◌, Option, None, Some, Ok, Err, refl, sym, ap, subst, ◌∙◌}
use Rattle.std.proofs.lemmas.Bool.{false≢true}
use Rattle.std.specs.Option.{is_some}
use Rattle.pg_base.specs.declared.id.FileId.{FileId}
use Rattle.pg_cells.specs.pg_call.declared.refusal.Refusal.TheVariants.{IsDir, NoName, NotDir}
use Rattle.pg_cells.specs.pg_names.Names.{InodeValue, NamesValue, is_dir, is_full, is_full_of, is_held, known, own_of}
use Rattle.pg_checks.specs.pg_lookup.declared.paths.Found.{Found}
use Rattle.pg_checks.specs.pg_lookup.declared.paths.LookupError.TheVariants as stop
use Rattle.pg_checks.specs.pg_lookup.declared.paths.Way.TheVariants as way
use Rattle.pg_checks.specs.pg_lookup.Walk.{and_then, has_more, led_to, look_in, look_up, reach, reach_parent, reached, refused, shown_by, start, walk, walk_from}
use Rattle.pg_cells.specs.pg_house.Facts.{IsHeld}
use Rattle.pg_cells.specs.pg_store.declared.store.Store.{Store}
use Rattle.pg_checks.specs.Answer.{unless}
use Rattle.pg_checks.specs.Checks.{file_at, in_time, thing_at}
use Rattle.pg_checks.specs.Paths.{path_of}
use Rattle.pg_calls.proofs.Checked.{behind, no_ok, same_ok, unless_ok}

-- ---- what is full is held

own_by : (names : NamesValue) (f : FileId) (o : Option InodeValue) → known names f ≡ o → is_full_of o ≡ true → IsHeld names f
own_by names f None e h = absurd (false≢true h)
own_by names f (Some x) e h = (x.own, ap own_of e)

pub full_own : (names : NamesValue) (f : FileId) → is_full names f ≡ true → IsHeld names f
full_own names f h = own_by names f (known names f) refl h

held_by : (o : Option InodeValue) → is_full_of o ≡ true → is_some o ≡ true
held_by None h = absurd (false≢true h)
held_by (Some x) h = refl

pub full_held : (names : NamesValue) (f : FileId) → is_full names f ≡ true → is_held names f ≡ true
full_held names f h = held_by (known names f) h

-- ---- what is reached

reached_by : (names : NamesValue) (found : Found) (g : FileId) (t : Bool) → is_full names found.file ≡ t
    → (if t then Ok found.file else Err (stop.NotYet found)) ≡ Ok g → (found.file ≡ g) × (is_full names g ≡ true)
reached_by names found g true e h =
    let same = same_ok found.file g h in (same, subst (λ f. is_full names f ≡ true) same e)
reached_by names found g false e h = absurd (no_ok (stop.NotYet found) g h)

pub reached_ok : (names : NamesValue) (found : Found) (g : FileId) → reached names found ≡ Ok g
    → (found.file ≡ g) × (is_full names g ≡ true)
reached_ok names found g h = reached_by names found g (is_full names found.file) refl h

-- a path leads to what is full, and its walk came to just that
pub reach_ok : (names : NamesValue) (needs : Bool) (parts : List (List ℕ)) (g : FileId) → reach names needs parts ≡ Ok g
    → (is_full names g ≡ true) × ((found : Found) × (walk names needs parts ≡ Ok found) × (found.file ≡ g))
reach_ok names needs parts g h =
    let b = behind (walk names needs parts) (reached names) g h in
    let r = reached_ok names b.0 g b.2 in
    (r.1, (b.0, b.1, r.0))

-- ---- walks to a directory

any_or : (b : Bool) → (b || true) ≡ true
any_or true = refl
any_or false = refl

led_by : (number : ℕ) (dir c : FileId) (g : Found) (t : Bool) → is_dir c ≡ t
    → (if not t then refused (NotDir number) else Ok (record { file = c; way = way.Entry dir })) ≡ Ok g → is_dir g.file ≡ true
led_by number dir c g true e h =
    ap (λ (f : Found). is_dir f.file) (sym (same_ok (record { file = c; way = way.Entry dir }) g h)) ∙ e
led_by number dir c g false e h = absurd (no_ok (stop.Refused (NotDir number)) g h)

led_dir : (dir : FileId) (number : ℕ) (needs : Bool) (o : Option FileId) (g : Found) → needs ≡ true
    → led_to dir number needs o ≡ Ok g → is_dir g.file ≡ true
led_dir dir number needs None g t h = absurd (no_ok (stop.Refused (NoName number)) g h)
led_dir dir number true (Some c) g t h = led_by number dir c g (is_dir c) refl h
led_dir dir number false (Some c) g t h = absurd (false≢true t)

looked_dir : (names : NamesValue) (found : Found) (number : ℕ) (needs : Bool) (name : List ℕ) (g : Found) → needs ≡ true
    → look_up names found number needs name ≡ Ok g → is_dir g.file ≡ true
looked_dir names found number needs name g t h =
    let b = behind (reached names found) (look_in names number needs name) g h in
    led_dir b.0 number needs (shown_by names b.0 name) g t b.2

walk_dir : (names : NamesValue) (found : Found) (number : ℕ) (parts : List (List ℕ)) (g : Found) → is_dir found.file ≡ true
    → walk_from names found number true parts ≡ Ok g → is_dir g.file ≡ true
walk_dir names found number [] g d h = ap (λ (f : Found). is_dir f.file) (sym (same_ok found g h)) ∙ d
walk_dir names found number (name ∷ more) g d h =
    let needs = has_more more || true in
    let b = behind (look_up names found number needs name) (λ next. walk_from names next (number + 1) true more) g h in
    walk_dir names b.0 (number + 1) more g (looked_dir names found number needs name b.0 (any_or (has_more more)) b.1) b.2

-- what is to be the parent of a new name
pub parent_found : (names : NamesValue) (parts : List (List ℕ)) (g : FileId) → reach_parent names parts ≡ Ok g
    → (is_full names g ≡ true) × (is_dir g ≡ true)
parent_found names parts g h =
    let r = reach_ok names true _ g h in
    (r.0, subst (λ f. is_dir f ≡ true) r.1.2 (walk_dir names start 1 _ r.1.0 refl r.1.1))

-- ---- things

pub thing_found : (a : Store) (needs : Bool) (text : List ℕ) (g : FileId) → thing_at a needs text ≡ Ok g
    → is_full a.names g ≡ true
thing_found a needs text g h =
    let b = behind (and_then (path_of text) (in_time a)) (reach a.names needs) g h in
    (reach_ok a.names needs b.0 g b.2).0

-- a file is full, and no directory
pub file_found : (a : Store) (text : List ℕ) (g : FileId) → file_at a text ≡ Ok g
    → (is_full a.names g ≡ true) × (is_dir g ≡ false)
file_found a text g h =
    let b = behind (thing_at a false text) (λ f. unless (is_dir f) IsDir f) g h in
    let u = unless_ok (is_dir b.0) IsDir b.0 g b.2 in
    (subst (λ f. is_full a.names f ≡ true) u.1 (thing_found a false text b.0 b.1), ap is_dir (sym u.1) ∙ u.0)
