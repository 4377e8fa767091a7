-- A call that comes to what is not here yet came to what is not held and full.
use Rattle.std.proofs.Common.{ℕ, ◌≡◌, ◌+◌, ◌-◌, ◌&&◌, ◌||◌, not, Bool, true, false, if◌then◌else◌, List, [], ◌∷◌, Option, None, Some, Ok, Err, length, take, refl}
use Rattle.std.specs.List.{find}
use Rattle.std.specs.Option.{option_map, option_or}
use Rattle.pg_base.specs.declared.id.FileId.{FileId}
use Rattle.pg_cells.specs.pg_intent.Intent.{is_about}
use Rattle.pg_register.specs.Place.{root}
use Rattle.pg_cells.specs.pg_call.declared.call.Target.{Target}
use Rattle.pg_cells.specs.pg_call.declared.call.Target.TheVariants as target
use Rattle.pg_cells.specs.pg_call.declared.refusal.Refusal.{Refusal}
use Rattle.pg_cells.specs.pg_call.declared.refusal.Refusal.TheVariants.{DirFull, Exists, HasChild, Held, IsDir, LastGold, Loop, NotDir, Root, WrongView}
use Rattle.pg_cells.specs.pg_names.Names.{NamesValue, is_dir, is_full, known}
use Rattle.pg_cells.specs.pg_house.Returning.{is_root}
use Rattle.pg_checks.specs.pg_lookup.declared.paths.Found.{Found}
use Rattle.pg_checks.specs.pg_lookup.declared.paths.LookupError.TheVariants as stop
use Rattle.pg_checks.specs.pg_lookup.declared.paths.Way.TheVariants as way
use Rattle.pg_checks.specs.pg_lookup.Chain.{is_above}
use Rattle.pg_checks.specs.pg_lookup.Walk.{and_then, has_more, is_dir_full, led_to, look_in, look_up, reach, reach_parent, reached, refused, shown_by, start, walk, walk_from}
use Rattle.pg_cells.specs.pg_store.declared.store.Store.{Store}
use Rattle.pg_cells.specs.pg_store.Seen.{view_of}
use Rattle.pg_cells.specs.pg_store.Store.{replica_of}
use Rattle.pg_cells.specs.pg_pieces.Golds.{is_gold}
use Rattle.pg_cells.specs.pg_pieces.Parting.{by_edge, by_intent, first_child as first_inside, has_child, if_gold, is_unclean, stays_for, unsettled_by}
use Rattle.pg_checks.specs.declared.checks.NewName.{NewName}
use Rattle.pg_checks.specs.declared.paths.Paths.{Paths}
use Rattle.pg_checks.specs.Answer.{unless}
use Rattle.pg_checks.specs.Checks.{dir_at, empty_dir_at, file_at, first_child, in_time, move_along, move_of, move_to, new_name, new_name_in, target_at, thing_at, unless_child, unless_shown, when_free}
use Rattle.pg_calls.specs.Demoting.{demoted_at, has_clean_gold, unless_last, unless_root}
use Rattle.pg_calls.specs.Dropping.{dropped_at, refused_for, unless_kept}
use Rattle.pg_calls.specs.Forgetting.{lost_at, unless_full}
use Rattle.pg_calls.specs.GivingUp.{may_give_up, removal_at}
use Rattle.pg_checks.specs.Paths.{is_none, last_of, new_path_of, path_of, paths_of}
use Rattle.pg_checks.proofs.Stopping.{StopsAt, is_not_yet, stops_new_path, stops_path, stops_paths, stops_then, stops_time, stops_unless}

-- it is not held, or filling
abbrev pub IsMissing : NamesValue → Found → Type 0
IsMissing names found = is_full names found.file ≡ false

-- ---- walks

reached_by : (names : NamesValue) (found : Found) (t : Bool) → is_full names found.file ≡ t
    → StopsAt (IsMissing names) (if t then Ok found.file else Err (stop.NotYet found))
reached_by names found true e = tt
reached_by names found false e = e

pub reached_missing : (names : NamesValue) (found : Found) → StopsAt (IsMissing names) (reached names found)
reached_missing names found = reached_by names found (is_full names found.file) refl

led_by : (names : NamesValue) (dir child : FileId) (number : ℕ) (bad : Bool)
    → StopsAt {A = Found} (IsMissing names) (if bad then refused (NotDir number) else Ok (record { file = child; way = way.Entry dir }))
led_by names dir child number true = refl
led_by names dir child number false = tt

led_missing : (names : NamesValue) (dir : FileId) (number : ℕ) (needs : Bool) (o : Option FileId)
    → StopsAt (IsMissing names) (led_to dir number needs o)
led_missing names dir number needs None = refl
led_missing names dir number needs (Some child) = led_by names dir child number (needs && not (is_dir child))

walk_missing : (names : NamesValue) (found : Found) (number : ℕ) (needs : Bool) (parts : List (List ℕ))
    → StopsAt (IsMissing names) (walk_from names found number needs parts)
walk_missing names found number needs [] = tt
walk_missing names found number needs (name ∷ more) =
    let last = has_more more || needs in
    stops_then (IsMissing names) (look_up names found number last name)
    (λ next. walk_from names next (number + 1) needs more)
    (stops_then (IsMissing names) (reached names found) (look_in names number last name) (reached_missing names found)
    (λ dir. led_missing names dir number last (shown_by names dir name)))
    (λ next. walk_missing names next (number + 1) needs more)

reach_missing : (names : NamesValue) (needs : Bool) (parts : List (List ℕ)) → StopsAt (IsMissing names) (reach names needs parts)
reach_missing names needs parts =
    stops_then (IsMissing names) (walk names needs parts) (reached names) (walk_missing names start 1 needs parts)
    (reached_missing names)

-- ---- reasons

-- it is not that a thing is not here yet
abbrev IsNoMiss : Option Refusal → Type 0
IsNoMiss None = Unit {0}
IsNoMiss (Some why) = is_not_yet why ≡ false

first_no_miss : (o p : Option Refusal) → IsNoMiss o → IsNoMiss p → IsNoMiss (option_or o p)
first_no_miss None p h k = k
first_no_miss (Some why) p h k = h

mapped_no_miss : {A : Type 0} (f : A → Refusal) → ((x : A) → is_not_yet (f x) ≡ false) → (o : Option A) → IsNoMiss (option_map f o)
mapped_no_miss f never None = tt
mapped_no_miss f never (Some x) = never x

gold_no_miss : (t : Bool) → IsNoMiss (if_gold t)
gold_no_miss true = refl
gold_no_miss false = tt

-- ---- checks

module _ (store : Store) where
  thing_missing : (needs : Bool) (text : List ℕ) → StopsAt (IsMissing store.names) (thing_at store needs text)
  thing_missing needs text =
      stops_then (IsMissing store.names) (and_then (path_of text) (in_time store)) (reach store.names needs)
      (stops_then (IsMissing store.names) (path_of text) (in_time store) (stops_path (IsMissing store.names) text)
      (stops_time (IsMissing store.names) store))
      (reach_missing store.names needs)

  pub file_missing : (text : List ℕ) → StopsAt (IsMissing store.names) (file_at store text)
  file_missing text =
      stops_then (IsMissing store.names) (thing_at store false text) (λ f. unless (is_dir f) IsDir f)
      (thing_missing false text) (λ f. stops_unless (IsMissing store.names) (is_dir f) IsDir f refl)

  pub dir_missing : (text : List ℕ) → StopsAt (IsMissing store.names) (dir_at store text)
  dir_missing text = thing_missing true text

  pub target_missing : (t : Target) → StopsAt (IsMissing store.names) (target_at store t)
  target_missing (target.Path text) = thing_missing false text
  target_missing (target.Id id) =
      stops_then (IsMissing store.names) (in_time store id) _ (stops_time (IsMissing store.names) store id)
      (λ f. reached_missing store.names (record { file = f; way = way.Id }))

  pub demoted_missing : (t : Target) → StopsAt (IsMissing store.names) (demoted_at store t)
  demoted_missing t =
      stops_then (IsMissing store.names) (and_then (target_at store t) unless_root) (unless_last store)
      (stops_then (IsMissing store.names) (target_at store t) unless_root (target_missing t)
      (λ f. stops_unless (IsMissing store.names) (is_root f) Root f refl))
      (λ f. stops_unless (IsMissing store.names) (not (has_clean_gold store f)) LastGold f refl)

  pub lost_missing : (id : FileId) → StopsAt (IsMissing store.names) (lost_at store id)
  lost_missing id =
      stops_then (IsMissing store.names) (and_then (in_time store id) unless_root) (unless_full store)
      (stops_then (IsMissing store.names) (in_time store id) unless_root (stops_time (IsMissing store.names) store id)
      (λ f. stops_unless (IsMissing store.names) (is_root f) Root f refl))
      (λ f. stops_unless (IsMissing store.names) (is_full store.names f) Held f refl)

  pub removal_missing : (view server : ℕ) → StopsAt (IsMissing store.names) (removal_at store view server)
  removal_missing view server =
      stops_then (IsMissing store.names) (in_time store (tt {0})) _ (stops_time (IsMissing store.names) store (tt {0}))
      (λ found. stops_unless (IsMissing store.names) (not (may_give_up store view server)) (WrongView (view_of store)) (tt {0}) refl)

  -- what keeps a replica is never that it is not here yet
  kept_missing : (f : FileId) (o : Option Refusal) → IsNoMiss o → StopsAt (IsMissing store.names) (refused_for f o)
  kept_missing f None h = tt
  kept_missing f (Some why) h = h

  stays_here : (f : FileId) → IsNoMiss (stays_for store f)
  stays_here f =
      first_no_miss (if_gold (is_gold store f)) (option_or (has_child store f) (unsettled_by store f)) (gold_no_miss (is_gold store f))
      (first_no_miss (has_child store f) (unsettled_by store f)
      (mapped_no_miss (λ child. HasChild child) (λ child. refl) (first_inside store.names f))
      (first_no_miss (option_map (by_intent f) (find (is_about f) store.intents))
      (option_map (by_edge f) (find is_unclean (replica_of store f).edges))
      (mapped_no_miss (by_intent f) (λ i. refl) (find (is_about f) store.intents))
      (mapped_no_miss (by_edge f) (λ e. refl) (find is_unclean (replica_of store f).edges))))

  pub dropped_missing : (t : Target) → StopsAt (IsMissing store.names) (dropped_at store t)
  dropped_missing t =
      stops_then (IsMissing store.names) (and_then (target_at store t) unless_root) (unless_kept store)
      (stops_then (IsMissing store.names) (target_at store t) unless_root (target_missing t)
      (λ f. stops_unless (IsMissing store.names) (is_root f) Root f refl))
      (λ f. kept_missing f (stays_for store f) (stays_here f))

  -- ---- new names

  shown_missing : (o : Option FileId) (new : NewName) → StopsAt (IsMissing store.names) (unless_shown o new)
  shown_missing None new = tt
  shown_missing (Some other) new = refl

  free_missing : (child : FileId) (new : NewName) → StopsAt (IsMissing store.names) (when_free store.names child new)
  free_missing child new =
      stops_then (IsMissing store.names) (unless_shown (shown_by store.names new.dir new.name) new) _
      (shown_missing (shown_by store.names new.dir new.name) new)
      (λ found. stops_unless (IsMissing store.names) (is_dir_full store.names found.dir child) DirFull found refl)

  named_by : (child dir : FileId) (parts : List (List ℕ)) (none : Bool) → StopsAt (IsMissing store.names)
      (if none then refused (Exists root) else when_free store.names child (record { dir = dir; name = last_of parts }))
  named_by child dir parts true = refl
  named_by child dir parts false = free_missing child (record { dir = dir; name = last_of parts })

  name_in : (child : FileId) (parts : List (List ℕ)) (dir : FileId)
      → StopsAt (IsMissing store.names) (new_name_in store.names child parts dir)
  name_in child parts dir = named_by child dir parts (is_none parts)

  pub name_missing : (child : FileId) (text : List ℕ) → StopsAt (IsMissing store.names) (new_name store child text)
  name_missing child text =
      stops_then (IsMissing store.names) (and_then (new_path_of text) (in_time store)) _
      (stops_then (IsMissing store.names) (new_path_of text) (in_time store) (stops_new_path (IsMissing store.names) text)
      (stops_time (IsMissing store.names) store))
      (λ parts. stops_then (IsMissing store.names) (reach_parent store.names parts) (new_name_in store.names child parts)
      (reach_missing store.names true (take (length parts - 1) parts)) (name_in child parts))

  -- ---- moves, and directories that go

  to_missing : (thing : FileId) (parts : List (List ℕ)) (dir : FileId)
      → StopsAt (IsMissing store.names) (move_to store.names thing parts dir)
  to_missing thing parts dir =
      stops_then (IsMissing store.names) (unless (is_root thing) Root dir) _
      (stops_unless (IsMissing store.names) (is_root thing) Root dir refl)
      (λ parent. stops_then (IsMissing store.names) (new_name_in store.names thing parts parent) _ (name_in thing parts parent)
      (λ new. stops_unless (IsMissing store.names) (if is_dir thing then is_above store.names thing new.dir else false) Loop
      (record { thing = thing; to = new }) refl))

  along_missing : (paths : Paths) → StopsAt (IsMissing store.names) (move_along store paths)
  along_missing paths =
      stops_then (IsMissing store.names) (reach store.names false paths.from) _ (reach_missing store.names false paths.from)
      (λ thing. stops_then (IsMissing store.names) (reach_parent store.names paths.to) (move_to store.names thing paths.to)
      (reach_missing store.names true (take (length paths.to - 1) paths.to)) (to_missing thing paths.to))

  pub move_missing : (from to : List ℕ) → StopsAt (IsMissing store.names) (move_of store from to)
  move_missing from to =
      stops_then (IsMissing store.names) (and_then (paths_of from to) (in_time store)) (move_along store)
      (stops_then (IsMissing store.names) (paths_of from to) (in_time store) (stops_paths (IsMissing store.names) from to)
      (stops_time (IsMissing store.names) store))
      along_missing

  child_missing : (dir : FileId) (o : Option FileId) → StopsAt (IsMissing store.names) (unless_child dir o)
  child_missing dir None = tt
  child_missing dir (Some child) = refl

  pub empty_missing : (text : List ℕ) → StopsAt (IsMissing store.names) (empty_dir_at store text)
  empty_missing text =
      stops_then (IsMissing store.names) (and_then (dir_at store text) (λ dir. unless (is_root dir) Root dir)) _
      (stops_then (IsMissing store.names) (dir_at store text) (λ dir. unless (is_root dir) Root dir) (dir_missing text)
      (λ dir. stops_unless (IsMissing store.names) (is_root dir) Root dir refl))
      (λ dir. child_missing dir (first_child dir (known store.names dir)))
