-- What the checks of calls find: files, directories, and new names in directories.
use Rattle.std.proofs.Common.{ℕ, ◌≡◌, Bool, true, false, cond, List, [], ◌∷◌, Option, None, Some, Result, Ok, Err, refl, sym, ap, subst, ◌∙◌}
use Rattle.std.proofs.lemmas.Bool.{false≢true}
use Rattle.law_frame.specs.pg_run.pg_base.declared.id.FileId.{FileId}
use Rattle.law_frame.specs.pg_run.pg_base.declared.id.Kind.{Kind}
use Rattle.law_frame.specs.pg_run.pg_base.declared.id.Kind.TheVariants.{Dir, File}
use Rattle.law_frame.specs.pg_run.pg_call.declared.refusal.Refusal.TheVariants.{DirFull, Exists, Loop, Root}
use Rattle.law_frame.specs.pg_run.pg_names.Names.{NamesValue, is_dir_kind}
use Rattle.law_frame.specs.pg_run.pg_path.Name.{IsClientName}
use Rattle.law_frame.specs.pg_run.pg_path.Tested.{is_client_name}
use Rattle.law_frame.proofs.pg_run.pg_path.Tested.{client_name_is}
use Rattle.law_frame.specs.pg_run.pg_register.Place.{root}
use Rattle.law_frame.specs.pg_run.pg_store.declared.store.Store.{Store}
use Rattle.law_frame.specs.pg_run.pg_lookup.declared.paths.LookupError.{LookupError}
use Rattle.law_frame.specs.pg_run.pg_lookup.declared.paths.LookupError.TheVariants as stop
use Rattle.law_frame.specs.pg_run.pg_lookup.Walk.{and_then, is_dir_full, reach, reach_parent, shown_by}
use Rattle.law_frame.specs.pg_run.pg_house.Returning.{is_root}
use Rattle.law_frame.specs.pg_run.pg_checks.Answer.{unless}
use Rattle.law_frame.specs.pg_run.pg_checks.Checks.{file_at, in_time, move_along, move_of, move_to, new_name, new_name_in, unless_shown, when_free}
use Rattle.law_frame.specs.pg_run.pg_checks.Paths.{is_none, last_of, new_path_of, path_of, paths_of, with_new_name}
use Rattle.law_frame.proofs.pg_run.pg_calls.Checked.{behind, no_ok, same_ok, unless_ok}
use Rattle.law_frame.proofs.pg_run.pg_calls.Walked.{file_found as held_file, parent_found}

-- what is said of one is said of the same
under : {A B : Type 0} {x y : A} → x ≡ y → (f : A → B) → f x ≡ f y
under e f = ap f e

carried : {A : Type 0} {x y : A} → x ≡ y → (P : A → Type 0) → P x → P y
carried e P = subst P e

-- ---- kinds

pub dir_kind : (k : Kind) → is_dir_kind k ≡ true → k ≡ Dir
dir_kind Dir h = refl
dir_kind File h = absurd (false≢true h)

file_kind : (k : Kind) → is_dir_kind k ≡ false → k ≡ File
file_kind Dir h = absurd (false≢true (sym h))
file_kind File h = refl

pub file_found : (s : Store) (text : List ℕ) (f : FileId) → file_at s text ≡ Ok f → f.kind ≡ File
file_found s text f h = file_kind f.kind (held_file s text f h).1

-- the directory of a new name is one
parent_dir : (s : NamesValue) (parts : List (List ℕ)) (x : FileId) → reach_parent s parts ≡ Ok x → x.kind ≡ Dir
parent_dir s parts x h = dir_kind x.kind (parent_found s parts x h).1

-- ---- new names

-- a name that a client may give, in this directory
pub record IsNewIn (dir : FileId) (name : List ℕ) : Type 0 where
  pub parent : dir.kind ≡ Dir
  pub given : IsClientName name

tested_name : (parts other : List (List ℕ)) (why : LookupError) (t : Bool) → is_client_name (last_of parts) ≡ t
    → ◌≡◌ {A = Result (List (List ℕ)) LookupError} (cond t (Ok parts) (Err why)) (Ok other) → (parts ≡ other) × IsClientName (last_of parts)
tested_name parts other why true e h = (same_ok parts other h, client_name_is (last_of parts) e)
tested_name parts other why false e h = absurd (no_ok why other h)

new_parts : (parts other : List (List ℕ)) → is_none other ≡ false → with_new_name parts ≡ Ok other → (parts ≡ other) × IsClientName (last_of parts)
new_parts [] other some h =
    let same : [] ≡ other = same_ok [] other h in
    absurd (false≢true (sym some ∙ ap is_none (sym same)))
new_parts (part ∷ parts) other some h = tested_name (part ∷ parts) other _ (is_client_name (last_of (part ∷ parts))) refl h

new_path : (text : List ℕ) (parts : List (List ℕ)) → is_none parts ≡ false → new_path_of text ≡ Ok parts → IsClientName (last_of parts)
new_path text parts some h =
    let a = behind (path_of text) with_new_name parts h in
    let b = new_parts a.0 parts some a.2 in
    subst (λ (ps : List (List ℕ)). IsClientName (last_of ps)) b.0 b.1

shown_is : (o : Option FileId) (new found : _) → unless_shown o new ≡ Ok found → new ≡ found
shown_is None new found h = same_ok new found h
shown_is (Some other) new found h = absurd (no_ok _ found h)

free_is : (s : NamesValue) (child : FileId) (new found : _) → when_free s child new ≡ Ok found → new ≡ found
free_is s child new found h =
    let a = behind (unless_shown (shown_by s new.dir new.name) new) _ found h in
    shown_is (shown_by s new.dir new.name) new a.0 a.1 ∙ (unless_ok (is_dir_full s a.0.dir child) DirFull a.0 found a.2).1

name_in : (s : NamesValue) (child : FileId) (parts : List (List ℕ)) (dir : FileId) (new : _) (t : Bool) → is_none parts ≡ t
    → cond t (Err (stop.Refused (Exists root))) (when_free s child (record { dir = dir; name = last_of parts })) ≡ Ok new
    → (t ≡ false) × (dir ≡ new.dir) × (last_of parts ≡ new.name)
name_in s child parts dir new true e h = absurd (no_ok _ new h)
name_in s child parts dir new false e h =
    let same = free_is s child (record { dir = dir; name = last_of parts }) new h in
    (refl, under same (λ n. n.dir), under same (λ n. n.name))

-- in a directory that was reached, from a path whose last component was tested
in_parent : (s : NamesValue) (child : FileId) (parts : List (List ℕ)) (dir : FileId) (new : _)
    → (is_none parts ≡ false → IsClientName (last_of parts)) → reach_parent s parts ≡ Ok dir → new_name_in s child parts dir ≡ Ok new
    → IsNewIn new.dir new.name
in_parent s child parts dir new tested reach h =
    let a = name_in s child parts dir new (is_none parts) refl h in
    record {
      parent = subst (λ (d : FileId). d.kind ≡ Dir) a.1 (parent_dir s parts dir reach);
      given = subst IsClientName a.2 (tested a.0);
    }

pub named : (s : Store) (child : FileId) (text : List ℕ) (new : _) → new_name s child text ≡ Ok new → IsNewIn new.dir new.name
named s child text new h =
    let a = behind (and_then (new_path_of text) (in_time s)) _ new h in
    let b = behind (new_path_of text) (in_time s) a.0 a.1 in
    let same : b.0 ≡ a.0 = (unless_ok _ _ b.0 a.0 b.2).1 in
    let path : new_path_of text ≡ Ok a.0 = b.1 ∙ ap Ok same in
    let c = behind (reach_parent s.names a.0) (new_name_in s.names child a.0) new a.2 in
    in_parent s.names child a.0 c.0 new (λ some. new_path text a.0 some path) c.1 c.2

-- ---- moves

second_path : (from to : List ℕ) (paths : _) → paths_of from to ≡ Ok paths → new_path_of to ≡ Ok paths.to
second_path from to paths h =
    let a = behind (path_of from) _ paths h in
    let b = behind (new_path_of to) _ paths a.2 in
    b.1 ∙ under (same_ok (record { from = a.0; to = b.0 }) paths b.2) (λ p. Ok p.to)

pub moved_name : (s : Store) (from to : List ℕ) (move : _) → move_of s from to ≡ Ok move → IsNewIn move.to.dir move.to.name
moved_name s from to move h =
    let a = behind (and_then (paths_of from to) (in_time s)) (move_along s) move h in
    let paths = a.0 in
    let b = behind (paths_of from to) (in_time s) paths a.1 in
    let same : b.0 ≡ paths = (unless_ok _ _ b.0 paths b.2).1 in
    let path : new_path_of to ≡ Ok paths.to = second_path from to paths (b.1 ∙ ap Ok same) in
    let c = behind (reach s.names false paths.from) _ move a.2 in
    let d = behind (reach_parent s.names paths.to) (move_to s.names c.0 paths.to) move c.2 in
    let e = behind (unless (is_root c.0) Root d.0) _ move d.2 in
    let parent : d.0 ≡ e.0 = (unless_ok (is_root c.0) Root d.0 e.0 e.1).1 in
    let f = behind (new_name_in s.names c.0 paths.to e.0) _ move e.2 in
    let new = in_parent s.names c.0 paths.to e.0 f.0 (λ some. new_path to paths.to some path) (d.1 ∙ ap Ok parent) f.1 in
    let last = unless_ok _ Loop (record { thing = c.0; to = f.0 }) move f.2 in
    carried last.1 (λ m. IsNewIn m.to.dir m.to.name) new
