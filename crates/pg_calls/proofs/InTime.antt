-- What a check that found something says of the clock, and what the clock says of numbers.
use Rattle.std.proofs.Common.{ℕ, ◌≡◌, ◌<◌, ◌^◌, ◌+◌, Bool, true, false, not, min, refl, sym, ap, subst, ◌∙◌, List, Result, Ok, Err, arith}
use Rattle.std.proofs.lemmas.Bool.{and_parts, not-true}
use Rattle.pg_base.specs.declared.id.FileId.{FileId}
use Rattle.pg_base.specs.declared.id.Kind.{Kind}
use Rattle.pg_base.proofs.Orders.{file_of_parts}
use Rattle.pg_cells.specs.pg_replica.Replica.{has_room}
use Rattle.pg_cells.specs.pg_replica.Replicas.{have_own_end}
use Rattle.pg_cells.proofs.pg_replica.Ends.{room_without_end}
use Rattle.pg_cells.specs.pg_names.Names.{is_dir, known}
use Rattle.pg_cells.specs.pg_house.Returning.{is_root}
use Rattle.pg_cells.specs.pg_call.declared.refusal.Refusal.TheVariants.{ClockEnd, IsDir, Root}
use Rattle.pg_checks.specs.pg_lookup.declared.paths.LookupError.{LookupError}
use Rattle.pg_checks.specs.pg_lookup.Walk.{and_then, reach, refused}
use Rattle.pg_cells.specs.pg_store.declared.store.Store.{Store}
use Rattle.pg_cells.specs.pg_store.Seen.{server_of}
use Rattle.pg_cells.specs.pg_store.Store.{has_time, is_before_clock_end, replica_of}
use Rattle.pg_cells.proofs.pg_store.InTime.{files_in_time}
use Rattle.pg_checks.specs.declared.checks.Move.{Move}
use Rattle.pg_checks.specs.declared.checks.NewName.{NewName}
use Rattle.pg_checks.specs.Answer.{unless}
use Rattle.pg_checks.specs.Checks.{dir_at, empty_dir_at, file_at, first_child, in_time, move_of, new_name, thing_at, unless_child}
use Rattle.pg_calls.specs.Naming.{next_id}
use Rattle.pg_checks.specs.Paths.{new_path_of, path_of, paths_of}
use Rattle.pg_calls.proofs.Checked.{behind}

-- ---- checks

pub time_by : {A : Type 0} (b : Bool) (x y : A) → unless (not b) ClockEnd x ≡ Ok y → b ≡ true
time_by true x y h = refl
time_by false x y h = cc

pub behind_time : {A B : Type 0} (store : Store) (texts : Result A LookupError) (next : A → Result B LookupError) (found : B)
    → and_then (and_then texts (in_time store)) next ≡ Ok found → is_before_clock_end store ≡ true
behind_time store (Err why) next found h = cc
behind_time store (Ok x) next found h =
    let b = behind (in_time store x) next found h in time_by (is_before_clock_end store) x b.0 b.1

pub file_in_time : (store : Store) (text : List ℕ) (file : FileId) → file_at store text ≡ Ok file → is_before_clock_end store ≡ true
file_in_time store text file h =
    let t = behind (thing_at store false text) (λ f. unless (is_dir f) IsDir f) file h in
    behind_time store (path_of text) (reach store.names false) t.0 t.1

pub dir_in_time : (store : Store) (text : List ℕ) (dir : FileId) → empty_dir_at store text ≡ Ok dir → is_before_clock_end store ≡ true
dir_in_time store text dir h =
    let r = behind (and_then (dir_at store text) (λ d. unless (is_root d) Root d))
    (λ d. unless_child d (first_child d (known store.names d))) dir h in
    let t = behind (dir_at store text) (λ d. unless (is_root d) Root d) r.0 r.1 in
    behind_time store (path_of text) (reach store.names true) t.0 t.1

pub name_in_time : (store : Store) (child : FileId) (text : List ℕ) (new : NewName) → new_name store child text ≡ Ok new
    → is_before_clock_end store ≡ true
name_in_time store child text new h = behind_time store (new_path_of text) _ new h

pub move_in_time : (store : Store) (from to : List ℕ) (move : Move) → move_of store from to ≡ Ok move → is_before_clock_end store ≡ true
move_in_time store from to move h = behind_time store (paths_of from to) _ move h

-- at the end of the clock what would come then is not looked at
late : {A B : Type 0} (store : Store) (texts : Result A LookupError) (next other : A → Result B LookupError)
    → is_before_clock_end store ≡ false
    → and_then (and_then texts (in_time store)) next ≡ and_then (and_then texts (in_time store)) other
late store (Err why) next other h = refl
late store (Ok x) next other h =
    let e : in_time store x ≡ refused ClockEnd = ap (λ b. unless (not b) ClockEnd x) h in
    ap (λ r. and_then r next) e ∙ sym (ap (λ r. and_then r other) e)

same_by : (store : Store) (a b : FileId) (text : List ℕ) (t : Bool) → is_before_clock_end store ≡ t
    → (is_before_clock_end store ≡ true → a ≡ b) → new_name store a text ≡ new_name store b text
same_by store a b text true time same = ap (λ id. new_name store id text) (same time)
same_by store a b text false time same = late store (new_path_of text) _ _ time

-- so a new name is looked for in the same way for two ids that are one before the end
pub same_name : (store : Store) (a b : FileId) (text : List ℕ) → (is_before_clock_end store ≡ true → a ≡ b)
    → new_name store a text ≡ new_name store b text
same_name store a b text same = same_by store a b text (is_before_clock_end store) refl same

-- ---- numbers

-- every replica has room for a version of the server
pub room_in_time : (store : Store) (file : FileId) (server : ℕ) → server ≡ server_of store → is_before_clock_end store ≡ true
    → has_room (replica_of store file) server ≡ true
room_in_time store file server own time =
    let none : have_own_end store.replicas (server_of store) ≡ false =
    not-true (have_own_end store.replicas (server_of store)) (and_parts _ _ (and_parts (has_time store.names.last store.tags store.files store.births) _ time).1).0 in
    let P : ℕ → Type 0 = λ s. has_room (replica_of store file) s ≡ true in
    subst P (sym own) (room_without_end file (server_of store) store.replicas none)

one_more : (f n : ℕ) → f < 2 ^ 62 → n ≡ min (f + 1) 18446744073709551615 → n ≡ f + 1
one_more f n h e = grind arith

-- the id that comes next, while the clock is not at its end
pub is_next : (store : Store) (kind : Kind) (server number : ℕ) → server ≡ server_of store
    → number ≡ min (store.files + 1) 18446744073709551615 → is_before_clock_end store ≡ true
    → ◌≡◌ {A = FileId} (record { kind = kind; server = server; number = number }) (next_id store kind)
is_next store kind server number own most time =
    let n : number ≡ store.files + 1 = one_more store.files number (files_in_time store time) most in
    file_of_parts kind kind server (server_of store) number (store.files + 1) refl own n
