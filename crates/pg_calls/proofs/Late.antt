-- At the end of the clock a call changes nothing.
use Rattle.std.proofs.Common.{◌≡◌, not, Bool, true, false, Result, Ok, Err, List, ℕ, refl, sym, ap, subst}
use Rattle.pg_base.specs.declared.id.FileId.{FileId}
use Rattle.pg_base.specs.declared.id.Kind.TheVariants.{Dir, File}
use Rattle.pg_patch.specs.Ranges.{cut_to, written}
use Rattle.pg_cells.specs.pg_msg.declared.work.Work.{Work}
use Rattle.pg_cells.specs.pg_call.declared.call.Call.{Call}
use Rattle.pg_cells.specs.pg_call.declared.call.Call.TheVariants as call
use Rattle.pg_cells.specs.pg_call.declared.call.Target.{Target}
use Rattle.pg_cells.specs.pg_call.declared.call.Target.TheVariants as target
use Rattle.pg_cells.specs.pg_call.declared.refusal.Refusal.{Refusal}
use Rattle.pg_cells.specs.pg_call.declared.refusal.Refusal.TheVariants.{ClockEnd, IsDir, Root}
use Rattle.pg_cells.specs.pg_names.Names.{is_dir, known}
use Rattle.pg_cells.specs.pg_house.Returning.{is_root}
use Rattle.pg_checks.specs.pg_lookup.declared.paths.Found.{Found}
use Rattle.pg_checks.specs.pg_lookup.declared.paths.LookupError.{LookupError}
use Rattle.pg_checks.specs.pg_lookup.declared.paths.LookupError.TheVariants as stop
use Rattle.pg_checks.specs.pg_lookup.Walk.{and_then, reach, refused}
use Rattle.pg_cells.specs.pg_store.declared.store.Store.{Store}
use Rattle.pg_cells.specs.pg_store.Store.{is_before_clock_end}
use Rattle.pg_checks.specs.Answer.{Answer, answered, unless}
use Rattle.pg_calls.specs.Bodies.{change_file}
use Rattle.pg_checks.specs.Checks.{dir_at, empty_dir_at, file_at, first_child, in_time, move_along, move_of, new_name, target_at, thing_at, unless_child}
use Rattle.pg_calls.specs.Demoting.{demoted_at, unless_last, unless_root}
use Rattle.pg_calls.specs.Dropping.{dropped_at, unless_kept}
use Rattle.pg_calls.specs.Forgetting.{lost_at, unless_full}
use Rattle.pg_calls.specs.GivingUp.{removal_at}
use Rattle.pg_calls.specs.Naming.{next_id}
use Rattle.pg_checks.specs.Paths.{new_path_of, path_of, paths_of}
use Rattle.pg_calls.specs.Refused.{LateDoesNothing}
use Rattle.pg_checks.proofs.Stopping.{StopsAt, stops_new_path, stops_path, stops_paths}

-- a check is refused
abbrev IsRefused : {A : Type 0} → Result A LookupError → Type 0
IsRefused check = (why : Refusal) × (check ≡ refused why)

refused_then : {A B : Type 0} (check : Result A LookupError) (next : A → Result B LookupError) → IsRefused check → IsRefused (and_then check next)
refused_then check next h = (h.0, ap (λ c. and_then c next) h.1)

-- texts are never what is not here yet
abbrev Never : Found → Type 0
Never found = ⊥

module _ (store : Store) (late : is_before_clock_end store ≡ false) where
  time_refused : {A : Type 0} (x : A) → IsRefused (in_time store x)
  time_refused x = (ClockEnd, ap (λ t. unless (not t) ClockEnd x) late)

  texts_refused : {A : Type 0} (texts : Result A LookupError) → StopsAt Never texts → IsRefused (and_then texts (in_time store))
  texts_refused (Ok x) h = time_refused x
  texts_refused (Err (stop.Refused why)) h = (why, refl)
  texts_refused (Err (stop.NotYet found)) h = absurd h

  -- ---- each check

  thing_refused : (needs : Bool) (text : List ℕ) → IsRefused (thing_at store needs text)
  thing_refused needs text =
      refused_then (and_then (path_of text) (in_time store)) (reach store.names needs)
      (texts_refused (path_of text) (stops_path Never text))

  file_refused : (text : List ℕ) → IsRefused (file_at store text)
  file_refused text = refused_then (thing_at store false text) (λ f. unless (is_dir f) IsDir f) (thing_refused false text)

  dir_refused : (text : List ℕ) → IsRefused (dir_at store text)
  dir_refused text = thing_refused true text

  target_refused : (t : Target) → IsRefused (target_at store t)
  target_refused (target.Path text) = thing_refused false text
  target_refused (target.Id id) = refused_then (in_time store id) _ (time_refused id)

  demoted_refused : (t : Target) → IsRefused (demoted_at store t)
  demoted_refused t =
      refused_then (and_then (target_at store t) unless_root) (unless_last store)
      (refused_then (target_at store t) unless_root (target_refused t))

  dropped_refused : (t : Target) → IsRefused (dropped_at store t)
  dropped_refused t =
      refused_then (and_then (target_at store t) unless_root) (unless_kept store)
      (refused_then (target_at store t) unless_root (target_refused t))

  name_refused : (child : FileId) (text : List ℕ) → IsRefused (new_name store child text)
  name_refused child text =
      refused_then (and_then (new_path_of text) (in_time store)) _
      (texts_refused (new_path_of text) (stops_new_path Never text))

  move_refused : (from to : List ℕ) → IsRefused (move_of store from to)
  move_refused from to =
      refused_then (and_then (paths_of from to) (in_time store)) (move_along store)
      (texts_refused (paths_of from to) (stops_paths Never from to))

  empty_refused : (text : List ℕ) → IsRefused (empty_dir_at store text)
  empty_refused text =
      refused_then (and_then (dir_at store text) (λ dir. unless (is_root dir) Root dir))
      (λ dir. unless_child dir (first_child dir (known store.names dir)))
      (refused_then (dir_at store text) (λ dir. unless (is_root dir) Root dir) (dir_refused text))

  lost_refused : (id : FileId) → IsRefused (lost_at store id)
  lost_refused id =
      refused_then (and_then (in_time store id) unless_root) (unless_full store)
      (refused_then (in_time store id) unless_root (time_refused id))

  removal_refused : (view server : ℕ) → IsRefused (removal_at store view server)
  removal_refused view server = refused_then (in_time store (tt {0})) _ (time_refused (tt {0}))

-- ---- each call

abbrev IsIdle : Store → Work → Answer → Type 0
IsIdle store work left = (left.store ≡ store) × (left.work ≡ work)

idle_by : {A : Type 0} (store : Store) (work : Work) (check : Result A LookupError) (next : A → Answer) → IsRefused check
    → IsIdle store work (answered store work check next)
idle_by store work check next h = subst (λ c. IsIdle store work (answered store work c next)) (sym h.1) (refl, refl)

pub late_does_nothing : (store : Store) (c : Call) (work : Work) → LateDoesNothing store c work
late_does_nothing store (call.Mkdir path) work late =
    idle_by store work (new_name store (next_id store Dir) path) _ (name_refused store late (next_id store Dir) path)
late_does_nothing store (call.Create path policy) work late =
    idle_by store work (new_name store (next_id store File) path) _ (name_refused store late (next_id store File) path)
late_does_nothing store (call.Write path offset bytes) work late =
    idle_by store work (file_at store path) (change_file store (written offset bytes) work) (file_refused store late path)
late_does_nothing store (call.Cut path length) work late =
    idle_by store work (file_at store path) (change_file store (cut_to length) work) (file_refused store late path)
late_does_nothing store (call.Read path offset count) work late =
    idle_by store work (file_at store path) _ (file_refused store late path)
late_does_nothing store (call.Fresh path) work late = idle_by store work (file_at store path) _ (file_refused store late path)
late_does_nothing store (call.Ls path from) work late = idle_by store work (dir_at store path) _ (dir_refused store late path)
late_does_nothing store (call.Stat t) work late = idle_by store work (target_at store t) _ (target_refused store late t)
late_does_nothing store (call.Rename from to) work late =
    idle_by store work (move_of store from to) _ (move_refused store late from to)
late_does_nothing store (call.Unlink path) work late = idle_by store work (file_at store path) _ (file_refused store late path)
late_does_nothing store (call.Rmdir path) work late =
    idle_by store work (empty_dir_at store path) _ (empty_refused store late path)
late_does_nothing store (call.Forget id) work late = idle_by store work (lost_at store id) _ (lost_refused store late id)
late_does_nothing store (call.Demote t) work late = idle_by store work (demoted_at store t) _ (demoted_refused store late t)
late_does_nothing store (call.Drop t) work late = idle_by store work (dropped_at store t) _ (dropped_refused store late t)
late_does_nothing store (call.Giveup view server) work late =
    idle_by store work (removal_at store view server) _ (removal_refused store late view server)
late_does_nothing store call.Status work late =
    idle_by store work (in_time store (tt {0})) _ (time_refused store late (tt {0}))
late_does_nothing store call.Stop work late =
    idle_by store work (in_time store (tt {0})) _ (time_refused store late (tt {0}))
