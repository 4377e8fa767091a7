-- What a call is about: where its checks find something, it is held, and a new name is one that a
-- client may give.
use Rattle.std.proofs.Common.{ℕ, ◌≡◌, ◌≢◌, not, length, Bool, true, false, if◌then◌else◌, List, Option, None, Some, Ok, All, refl, sym, ap, subst, ◌∙◌}
use Rattle.std.proofs.lemmas.Bool.{false≢true}
use Rattle.std.proofs.lemmas.List.Elements.{All-weaker}
use Rattle.law_frame.specs.pg_run.pg_base.declared.id.FileId.{FileId}
use Rattle.law_frame.specs.pg_run.pg_path.Tested.{is_client_name}
use Rattle.law_frame.specs.pg_run.pg_path.Name.{IsNameByte}
use Rattle.law_frame.proofs.pg_run.pg_path.Tested.{client_name_is}
use Rattle.law_frame.specs.pg_run.pg_call.declared.call.Target.{Target}
use Rattle.law_frame.specs.pg_run.pg_call.declared.call.Target.TheVariants as target
use Rattle.law_frame.specs.pg_run.pg_call.declared.refusal.Refusal.{Refusal}
use Rattle.law_frame.specs.pg_run.pg_call.declared.refusal.Refusal.TheVariants.{BadPath, ClockEnd, DirFull, Exists, Held, Loop, Root}
use Rattle.law_frame.specs.pg_run.pg_register.Place.{root}
use Rattle.law_frame.specs.pg_run.pg_names.Names.{NamesValue, is_dir, is_full, known}
use Rattle.law_frame.specs.pg_run.pg_lookup.Chain.{is_above}
use Rattle.law_frame.specs.pg_run.pg_lookup.declared.paths.LookupError.TheVariants as stop
use Rattle.law_frame.specs.pg_run.pg_lookup.declared.paths.Way.TheVariants as way
use Rattle.law_frame.specs.pg_run.pg_lookup.Walk.{and_then, is_dir_full, reach, reach_parent, reached, refused, shown_by}
use Rattle.law_frame.specs.pg_run.pg_house.Facts.{IsHeld}
use Rattle.law_frame.specs.pg_run.pg_house.Returning.{is_root}
use Rattle.law_frame.specs.pg_run.pg_store.declared.store.Store.{Store}
use Rattle.law_frame.specs.pg_run.pg_store.Store.{is_before_clock_end}
use Rattle.law_frame.specs.pg_run.pg_store.Store.{is_full as is_full_at}
use Rattle.law_frame.specs.pg_run.pg_pieces.Parting.{stays_for}
use Rattle.law_frame.specs.pg_run.pg_checks.declared.checks.Move.{Move}
use Rattle.law_frame.specs.pg_run.pg_checks.declared.checks.NewName.{NewName}
use Rattle.law_frame.specs.pg_run.pg_checks.declared.paths.Paths.{Paths}
use Rattle.law_frame.specs.pg_run.pg_checks.Answer.{unless}
use Rattle.law_frame.specs.pg_run.pg_checks.Checks.{dir_at, empty_dir_at, first_child, in_time, move_along, move_of, move_to, new_name, new_name_in, target_at, unless_child, unless_shown, when_free}
use Rattle.law_frame.specs.pg_run.pg_calls.Demoting.{unless_root}
use Rattle.law_frame.specs.pg_run.pg_calls.Dropping.{dropped_at, refused_for, unless_kept}
use Rattle.law_frame.specs.pg_run.pg_calls.Forgetting.{lost_at, unless_full}
use Rattle.law_frame.specs.pg_run.pg_checks.Paths.{is_none, last_of, new_path_of, path_of, paths_of, with_new_name}
use Rattle.law_frame.proofs.pg_run.pg_calls.Checked.{behind, no_ok, same_ok, unless_ok}
use Rattle.law_frame.proofs.pg_run.pg_calls.Walked.{full_own, parent_found, reach_ok, reached_ok, thing_found}

-- ---- things

child_ok : (d g : FileId) (o : Option FileId) → unless_child d o ≡ Ok g → (d ≡ g) × (o ≡ None)
child_ok d g None h = (same_ok d g h, refl)
child_ok d g (Some c) h = absurd (no_ok _ g h)

-- a directory that goes is held, not the root, and shows no child
pub empty_found : (a : Store) (text : List ℕ) (g : FileId) → empty_dir_at a text ≡ Ok g → IsHeld a.names g × (is_root g ≡ false) × (first_child g (known a.names g) ≡ None)
empty_found a text g h =
    let b = behind (and_then (dir_at a text) (λ d. unless (is_root d) Root d)) (λ d. unless_child d (first_child d (known a.names d))) g h in
    let c = behind (dir_at a text) (λ d. unless (is_root d) Root d) b.0 b.1 in
    let u = unless_ok (is_root c.0) Root c.0 b.0 c.2 in
    let none = child_ok b.0 g (first_child b.0 (known a.names b.0)) b.2 in
    let same : c.0 ≡ g = u.1 ∙ none.0 in
    (full_own a.names g (subst (λ (d : FileId). is_full a.names d ≡ true) same (thing_found a true text c.0 c.1)), ap is_root (sym same) ∙ u.0, ap (λ (d : FileId). first_child d (known a.names d)) (sym none.0) ∙ none.1)

-- what a target names is full
pub target_found : (a : Store) (t : Target) (g : FileId) → target_at a t ≡ Ok g → is_full a.names g ≡ true
target_found a (target.Path text) g h = thing_found a false text g h
target_found a (target.Id id) g h =
    let next = λ (f : FileId). reached a.names (record { file = f; way = way.Id }) in
    let b = behind (in_time a id) next g h in
    (reached_ok a.names (record { file = b.0; way = way.Id }) g b.2).1

-- what is to go is full, and no root, and nothing keeps it here
pub record IsToGo (a : Store) (g : FileId) : Type 0 where
  pub full : is_full a.names g ≡ true
  pub other : is_root g ≡ false
  pub free : stays_for a g ≡ None

kept_ok : (f g : FileId) (o : Option Refusal) → refused_for f o ≡ Ok g → (f ≡ g) × (o ≡ None)
kept_ok f g None h = (same_ok f g h, refl)
kept_ok f g (Some why) h = absurd (no_ok (stop.Refused why) g h)

pub dropped_found : (a : Store) (t : Target) (g : FileId) → dropped_at a t ≡ Ok g → IsToGo a g
dropped_found a t g h =
    let b = behind (and_then (target_at a t) unless_root) (unless_kept a) g h in
    let c = behind (target_at a t) unless_root b.0 b.1 in
    let u = unless_ok (is_root c.0) Root c.0 b.0 c.2 in
    let k = kept_ok b.0 g (stays_for a b.0) b.2 in
    let same : c.0 ≡ g = u.1 ∙ k.0 in
    record {
      full = subst (λ (f : FileId). is_full a.names f ≡ true) same (target_found a t c.0 c.1);
      other = ap is_root (sym same) ∙ u.0;
      free = ap (stays_for a) (sym k.0) ∙ k.1;
    }

-- what was lost is no root
pub lost_found : (a : Store) (id g : FileId) → lost_at a id ≡ Ok g → is_root g ≡ false
lost_found a id g h =
    let b = behind (and_then (in_time a id) unless_root) (unless_full a) g h in
    let c = behind (in_time a id) unless_root b.0 b.1 in
    let u = unless_ok (is_root c.0) Root c.0 b.0 c.2 in
    let f = unless_ok (is_full_at a b.0) Held b.0 g b.2 in
    ap is_root (sym (u.1 ∙ f.1)) ∙ u.0

-- ---- names that clients give

-- no byte of it is a tilde
abbrev pub HasNoTilde : List ℕ → Type 0
HasNoTilde name = All (λ byte. byte ≢ 126) name

client_name : (name : List ℕ) → is_client_name name ≡ true → HasNoTilde name
client_name name h = All-weaker IsNameByte (λ byte. byte ≢ 126) (λ byte k. k.no_tilde) name (client_name_is name h).each

-- ---- new names

-- where a new name may stand
pub record IsFree (a : Store) (new : NewName) : Type 0 where
  pub held : IsHeld a.names new.dir
  pub dir : is_dir new.dir ≡ true
  pub name : HasNoTilde new.name

named_by : (parts q : List (List ℕ)) (t u : Bool) → is_none parts ≡ t → is_client_name (last_of parts) ≡ u → (if t then Ok parts else (if u then Ok parts else refused (BadPath (length parts)))) ≡ Ok q
    → (parts ≡ q) × (is_none parts ≡ false → is_client_name (last_of parts) ≡ true)
named_by parts q true u e f h = (same_ok parts q h, λ g. absurd (false≢true (sym g ∙ e)))
named_by parts q false true e f h = (same_ok parts q h, λ g. f)
named_by parts q false false e f h = absurd (no_ok _ q h)

-- the last component of the path of a new name
path_found : (a : Store) (text : List ℕ) (q : List (List ℕ)) → new_path_of text ≡ Ok q → is_none q ≡ false → HasNoTilde (last_of q)
path_found a text q h some =
    let b = behind (path_of text) with_new_name q h in
    let n = named_by b.0 q (is_none b.0) (is_client_name (last_of b.0)) refl refl b.2 in
    client_name (last_of q) (ap (λ (ps : List (List ℕ)). is_client_name (last_of ps)) (sym n.0) ∙ n.1 (ap is_none n.0 ∙ some))

shown_ok : (o : Option FileId) (n m : NewName) → unless_shown o n ≡ Ok m → n ≡ m
shown_ok None n m h = same_ok n m h
shown_ok (Some c) n m h = absurd (no_ok (stop.Refused (Exists c)) m h)

free_ok : (names : NamesValue) (child : FileId) (n m : NewName) → when_free names child n ≡ Ok m → n ≡ m
free_ok names child n m h =
    let b = behind (unless_shown (shown_by names n.dir n.name) n) (λ found. unless (is_dir_full names found.dir child) DirFull found) m h in
    shown_ok (shown_by names n.dir n.name) n b.0 b.1 ∙ (unless_ok (is_dir_full names b.0.dir child) DirFull b.0 m b.2).1

abbrev named : FileId → List ℕ → NewName
named dir name = record { dir = dir; name = name }

name_by : (names : NamesValue) (child : FileId) (parts : List (List ℕ)) (dir : FileId) (m : NewName) (t : Bool) → is_none parts ≡ t
    → (if t then refused (Exists root) else when_free names child (named dir (last_of parts))) ≡ Ok m → (is_none parts ≡ false) × (named dir (last_of parts) ≡ m)
name_by names child parts dir m true e h = absurd (no_ok (stop.Refused (Exists root)) m h)
name_by names child parts dir m false e h = (e, free_ok names child (named dir (last_of parts)) m h)

-- a new name in a directory that was found, by the path of a new name
free_found : (a : Store) (child : FileId) (text : List ℕ) (parts : List (List ℕ)) (dir : FileId) (new : NewName) → new_path_of text ≡ Ok parts
    → IsHeld a.names dir × (is_dir dir ≡ true) → new_name_in a.names child parts dir ≡ Ok new → IsFree a new
free_found a child text parts dir new path found h =
    let n = name_by a.names child parts dir new (is_none parts) refl h in
    subst (IsFree a) n.1 (record { held = found.0; dir = found.1; name = path_found a text parts path n.0 })

timed : {A : Type 0} (a : Store) (x y : A) → in_time a x ≡ Ok y → x ≡ y
timed a x y h = (unless_ok (not (is_before_clock_end a)) ClockEnd x y h).1

-- what is to be the parent is held
parent_held : (a : Store) (parts : List (List ℕ)) (dir : FileId) → reach_parent a.names parts ≡ Ok dir → IsHeld a.names dir × (is_dir dir ≡ true)
parent_held a parts dir h = let r = parent_found a.names parts dir h in (full_own a.names dir r.0, r.1)

pub name_found : (a : Store) (child : FileId) (text : List ℕ) (new : NewName) → new_name a child text ≡ Ok new → IsFree a new
name_found a child text new h =
    let next = λ (parts : List (List ℕ)). and_then (reach_parent a.names parts) (new_name_in a.names child parts) in
    let b = behind (and_then (new_path_of text) (in_time a)) next new h in
    let p = behind (new_path_of text) (in_time a) b.0 b.1 in
    let path : new_path_of text ≡ Ok b.0 = p.1 ∙ ap Ok (timed a p.0 b.0 p.2) in
    let d = behind (reach_parent a.names b.0) (new_name_in a.names child b.0) new b.2 in
    free_found a child text b.0 d.0 new path (parent_held a b.0 d.0 d.1) d.2

-- ---- moves

pub record IsMove (a : Store) (move : Move) : Type 0 where
  pub held : IsHeld a.names move.thing
  pub other : is_root move.thing ≡ false
  pub free : IsFree a move.to

abbrev moving : FileId → NewName → Move
moving thing new = record { thing = thing; to = new }

abbrev both_paths : List (List ℕ) → List (List ℕ) → Paths
both_paths first second = record { from = first; to = second }

moved_to : (a : Store) (thing : FileId) (text : List ℕ) (parts : List (List ℕ)) (dir : FileId) (move : Move) → IsHeld a.names thing → new_path_of text ≡ Ok parts
    → IsHeld a.names dir × (is_dir dir ≡ true) → move_to a.names thing parts dir ≡ Ok move → IsMove a move
moved_to a thing text parts dir move held path found h =
    let inner = λ (parent : FileId). and_then (new_name_in a.names thing parts parent)
    (λ new. unless (if is_dir thing then is_above a.names thing new.dir else false) Loop (moving thing new)) in
    let b = behind (unless (is_root thing) Root dir) inner move h in
    let u = unless_ok (is_root thing) Root dir b.0 b.1 in
    let c = behind (new_name_in a.names thing parts b.0) (λ new. unless (if is_dir thing then is_above a.names thing new.dir else false) Loop (moving thing new)) move b.2 in
    let v = unless_ok (if is_dir thing then is_above a.names thing c.0.dir else false) Loop (moving thing c.0) move c.2 in
    let free = free_found a thing text parts b.0 c.0 path (subst (λ (d : FileId). IsHeld a.names d × (is_dir d ≡ true)) u.1 found) c.1 in
    subst (IsMove a) v.1 (record { held = held; other = u.0; free = free })

paths_found : (from to : List ℕ) (paths : Paths) → paths_of from to ≡ Ok paths → new_path_of to ≡ Ok paths.to
paths_found from to paths h =
    let b = behind (path_of from) (λ first. and_then (new_path_of to) (λ second. Ok (both_paths first second))) paths h in
    let c = behind (new_path_of to) (λ second. Ok (both_paths b.0 second)) paths b.2 in
    c.1 ∙ ap (λ (p : Paths). Ok p.to) (same_ok (both_paths b.0 c.0) paths c.2)

pub move_found : (a : Store) (from to : List ℕ) (move : Move) → move_of a from to ≡ Ok move → IsMove a move
move_found a from to move h =
    let b = behind (and_then (paths_of from to) (in_time a)) (move_along a) move h in
    let p = behind (paths_of from to) (in_time a) b.0 b.1 in
    let path : new_path_of to ≡ Ok b.0.to = paths_found from to b.0 (p.1 ∙ ap Ok (timed a p.0 b.0 p.2)) in
    let t = behind (reach a.names false b.0.from) (λ thing. and_then (reach_parent a.names b.0.to) (move_to a.names thing b.0.to)) move b.2 in
    let d = behind (reach_parent a.names b.0.to) (move_to a.names t.0 b.0.to) move t.2 in
    moved_to a t.0 to b.0.to d.0 move (full_own a.names t.0 (reach_ok a.names false b.0.from t.0 t.1).0) path (parent_held a b.0.to d.0 d.1) d.2
