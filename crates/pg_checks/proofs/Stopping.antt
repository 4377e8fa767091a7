-- What checks stop at that is not here yet: never for a text or the clock.
use Rattle.std.proofs.Common.{ℕ, ◌≡◌, ◌==◌, not, Bool, true, false, List, Option, None, Some, Result, Ok, Err, length, refl}
use Rattle.std.specs.Prelude.{nat_lt, slice_index}
use Rattle.std.specs.List.{position}
use Rattle.pg_path.specs.Path.{parts_of}
use Rattle.pg_path.specs.Tested.{is_client_name, is_component}
use Rattle.pg_pieces.specs.pg_call.declared.refusal.Refusal.{Refusal}
use Rattle.pg_pieces.specs.pg_call.declared.refusal.Refusal.TheVariants.{BadPath, ClockEnd, NotYet}
use Rattle.pg_pieces.proofs.pg_house.Truths.{chosen}
use Rattle.pg_lookup.specs.declared.paths.Found.{Found}
use Rattle.pg_lookup.specs.declared.paths.LookupError.{LookupError}
use Rattle.pg_lookup.specs.declared.paths.LookupError.TheVariants as stop
use Rattle.pg_lookup.specs.Walk.{and_then, refused}
use Rattle.pg_pieces.specs.pg_store.declared.store.Store.{Store}
use Rattle.pg_pieces.specs.pg_store.Store.{is_before_clock_end}
use Rattle.pg_checks.specs.Answer.{unless}
use Rattle.pg_checks.specs.Checks.{in_time}
use Rattle.pg_checks.specs.Paths.{all_of, is_none, last_of, new_path_of, path_of, paths_of, with_new_name}

abbrev pub is_not_yet : Refusal → Bool
is_not_yet (NotYet file) = true
is_not_yet _ = false

-- where a check stops at what is not here yet this holds of it
abbrev pub StopsAt : {A : Type 0} → (Found → Type 0) → Result A LookupError → Type 0
StopsAt P (Ok x) = Unit {0}
StopsAt P (Err (stop.Refused why)) = is_not_yet why ≡ false
StopsAt P (Err (stop.NotYet found)) = P found

module _ (P : Found → Type 0) where
  pub stops_then : {A B : Type 0} (check : Result A LookupError) (next : A → Result B LookupError) → StopsAt P check
      → ((x : A) → StopsAt P (next x)) → StopsAt P (and_then check next)
  stops_then (Ok x) next h each = each x
  stops_then (Err (stop.Refused why)) next h each = h
  stops_then (Err (stop.NotYet found)) next h each = h

  pub stops_unless : {A : Type 0} (bad : Bool) (why : Refusal) (x : A) → is_not_yet why ≡ false → StopsAt P (unless bad why x)
  stops_unless true why x other = other
  stops_unless false why x other = tt

  -- ---- texts, and the clock

  all_parts : (parts : List (List ℕ)) (o : Option ℕ) → StopsAt P (all_of parts o)
  all_parts parts None = tt
  all_parts parts (Some index) = refl

  pub stops_path : (text : List ℕ) → StopsAt P (path_of text)
  stops_path text =
      chosen (λ (c : Result (List (List ℕ)) LookupError). StopsAt P c) (not (slice_index text 0 == 47)) (refused (BadPath 0)) _ refl
      (chosen (λ (c : Result (List (List ℕ)) LookupError). StopsAt P c) (nat_lt 4096 (length text)) (refused (BadPath 66)) _ refl
      (chosen (λ (c : Result (List (List ℕ)) LookupError). StopsAt P c) (nat_lt 64 (length (parts_of text))) (refused (BadPath 65)) _ refl
      (all_parts (parts_of text) (position (λ part. not (is_component part)) (parts_of text)))))

  with_name : (parts : List (List ℕ)) → StopsAt P (with_new_name parts)
  with_name parts =
      chosen (λ (c : Result (List (List ℕ)) LookupError). StopsAt P c) (is_none parts) (Ok parts) _ tt
      (chosen (λ (c : Result (List (List ℕ)) LookupError). StopsAt P c) (is_client_name (last_of parts)) (Ok parts)
      (refused (BadPath (length parts))) tt refl)

  pub stops_new_path : (text : List ℕ) → StopsAt P (new_path_of text)
  stops_new_path text = stops_then (path_of text) with_new_name (stops_path text) with_name

  pub stops_paths : (from to : List ℕ) → StopsAt P (paths_of from to)
  stops_paths from to =
      stops_then (path_of from) _ (stops_path from)
      (λ first. stops_then (new_path_of to) _ (stops_new_path to) (λ second. tt))

  pub stops_time : {A : Type 0} (store : Store) (x : A) → StopsAt P (in_time store x)
  stops_time store x = stops_unless (not (is_before_clock_end store)) ClockEnd x refl
