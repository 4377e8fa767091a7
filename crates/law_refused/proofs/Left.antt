-- What a refused call leaves before the house rules: all as it was, or what it came to is asked
-- for.
use Rattle.std.proofs.Common.{ℕ, ◌≡◌, ◌∙◌, ◌⊎◌, Bool, true, false, inl, inr, List, Option, None, Some, Result, Ok, Err, refl, sym, ap}
use Rattle.std.proofs.lemmas.Bool.{false≢true}
use Rattle.pg_run.specs.pg_base.declared.id.FileId.{FileId}
use Rattle.pg_run.specs.pg_base.declared.id.Kind.TheVariants.{Dir, File}
use Rattle.pg_run.specs.pg_base.declared.stamp.Stamp.{Stamp}
use Rattle.pg_run.specs.pg_announced.Announced.{first_of}
use Rattle.pg_run.specs.pg_patch.Ranges.{RangesValue, cut_to, written}
use Rattle.pg_run.specs.pg_register.declared.flag.Flag.{Flag}
use Rattle.pg_run.specs.pg_replica.Replica.{has_many_actors, is_too_long}
use Rattle.pg_run.specs.pg_msg.declared.work.Work.{Work}
use Rattle.pg_run.specs.pg_call.declared.call.Call.{Call}
use Rattle.pg_run.specs.pg_call.declared.call.Call.TheVariants as call
use Rattle.pg_run.specs.pg_call.declared.refusal.Refusal.{Refusal}
use Rattle.pg_run.specs.pg_call.declared.refusal.Refusal.TheVariants.{Behind, ManyActors, NotYet, TooLong}
use Rattle.pg_run.specs.pg_call.declared.reply.Reply.{Reply}
use Rattle.pg_run.specs.pg_call.declared.reply.Reply.TheVariants as reply
use Rattle.pg_run.specs.pg_lookup.declared.paths.Found.{Found}
use Rattle.pg_run.specs.pg_lookup.declared.paths.LookupError.{LookupError}
use Rattle.pg_run.specs.pg_lookup.declared.paths.LookupError.TheVariants as stop
use Rattle.pg_run.specs.pg_store.declared.store.Store.{Store}
use Rattle.pg_run.specs.pg_store.Seen.{server_of}
use Rattle.pg_run.specs.pg_store.Store.{replica_of}
use Rattle.pg_run.specs.pg_pieces.Done.{idle}
use Rattle.pg_run.specs.pg_checks.Answer.{Answer, answered, deny, replied, told, unless}
use Rattle.pg_run.specs.pg_checks.Asking.{ask_for}
use Rattle.pg_run.specs.pg_checks.Checks.{dir_at, empty_dir_at, file_at, in_time, move_of, new_name, target_at}
use Rattle.pg_run.specs.pg_calls.Bodies.{change, change_file, when_fit}
use Rattle.pg_run.specs.pg_calls.Calls.{do_call}
use Rattle.pg_run.specs.pg_calls.Demoting.{demoted_at}
use Rattle.pg_run.specs.pg_calls.Dropping.{clean_gold, dropped_at, leaving}
use Rattle.pg_run.specs.pg_calls.Forgetting.{lost_at}
use Rattle.pg_run.specs.pg_calls.GivingUp.{removal_at}
use Rattle.pg_run.specs.pg_calls.Looks.{freshness}
use Rattle.pg_run.specs.pg_calls.Naming.{next_id}
use Rattle.pg_run.specs.pg_server.Local.{done_of}
use Rattle.pg_run.proofs.pg_calls.Missing.{IsMissing, demoted_missing, dir_missing, dropped_missing, empty_missing, file_missing, lost_missing, move_missing, name_missing, removal_missing, target_missing}
use Rattle.pg_run.proofs.pg_checks.Stopping.{StopsAt, is_not_yet, stops_then, stops_time, stops_unless}

-- all is as it was
pub record LeavesAll (store : Store) (work : Work) (why : Refusal) (left : Answer) : Type 0 where
  pub other : is_not_yet why ≡ false
  pub same : done_of left ≡ idle store work

-- what the call came to is asked for, and is not held and full
pub record Asks (store : Store) (work : Work) (why : Refusal) (left : Answer) : Type 0 where
  pub found : Found
  pub is : why ≡ NotYet found.file
  pub none : IsMissing store.names found
  pub asks : done_of left ≡ ask_for store found work

abbrev pub Leaves : Store → Work → Refusal → Answer → Type 0
Leaves store work why left = LeavesAll store work why left ⊎ Asks store work why left

-- where the reply is this refusal
abbrev pub Left : Store → Work → Refusal → Answer → Type 0
Left store work why left = left.reply ≡ reply.Refused why → Leaves store work why left

same_refusal : (a b : Refusal) → ◌≡◌ {A = Reply} (reply.Refused a) (reply.Refused b) → a ≡ b
same_refusal a b h = cc

-- ---- replies that are no refusals

abbrev is_refusal : Reply → Bool
is_refusal (reply.Refused why) = true
is_refusal _ = false

no_refusal : (r : Reply) (why : Refusal) → r ≡ reply.Refused why → is_refusal r ≡ false → ⊥
no_refusal r why h e = false≢true (sym e ∙ ap is_refusal h)

-- who goes is told so
leaving_told : (store : Store) (file : FileId) (work : Work) (o : Option Flag)
    → is_refusal (leaving store file work o).reply ≡ false
leaving_told store file work None = refl
leaving_told store file work (Some flag) = refl

-- ---- each call

module _ (store : Store) (work : Work) (why : Refusal) where
  abbrev Stops : {A : Type 0} → Result A LookupError → Type 0
  Stops check = StopsAt (IsMissing store.names) check

  -- a reason that asks for nothing
  nothing_left : (r : Refusal) → is_not_yet r ≡ false → Left store work why (told store work (reply.Refused r))
  nothing_left r other h =
      inl (record { other = ap is_not_yet (sym (same_refusal r why h)) ∙ other; same = refl })

  denied_left : (found : Found) → IsMissing store.names found
      → Left store work why (deny store (stop.NotYet found) work)
  denied_left found none h =
      inr (record {
        found = found;
        is = sym (same_refusal (NotYet found.file) why h);
        none = none;
        asks = refl;
      })

  passes : {A : Type 0} (check : Result A LookupError) (next : A → Answer) → Stops check
      → ((x : A) → Left store work why (next x)) → Left store work why (answered store work check next)
  passes (Err (stop.Refused r)) next other each = nothing_left r other
  passes (Err (stop.NotYet found)) next none each = denied_left found none
  passes (Ok x) next none each = each x

  looks : {A : Type 0} (check : Result A LookupError) (tell : A → Reply) → Stops check
      → ((x : A) → tell x ≡ reply.Refused why → ⊥) → Left store work why (replied store work check tell)
  looks check tell none never = passes check (λ x. told store work (tell x)) none (λ x h. absurd (never x h))

  fits : (ranges : RangesValue) (file : FileId) → Stops (when_fit store ranges file)
  fits ranges file =
      stops_then (IsMissing store.names) (unless (is_too_long (replica_of store file) ranges) TooLong file) _
      (stops_unless (IsMissing store.names) (is_too_long (replica_of store file) ranges) TooLong file refl)
      (λ fit. stops_unless (IsMissing store.names) (has_many_actors (replica_of store fit) (server_of store))
      ManyActors fit refl)

  changes : (text : List ℕ) (ranges : RangesValue) → Left store work why (change store text ranges work)
  changes text ranges =
      passes (file_at store text) (change_file store ranges work) (file_missing store text)
      (λ file. passes (when_fit store ranges file) _ (fits ranges file)
      (λ fit h. absurd (no_refusal _ why h refl)))

  -- a file that lacks a version is not fresh, and nothing is asked for
  lacks : (o : Option Stamp) → Left store work why (told store work (freshness o))
  lacks None h = absurd (no_refusal reply.Done why h refl)
  lacks (Some stamp) h = nothing_left (Behind stamp) refl h

  timed : Stops (in_time store (tt {0}))
  timed = stops_time (IsMissing store.names) store (tt {0})

  stops : Left store work why (replied store work (in_time store (tt {0})) (λ found. reply.Done))
  stops = looks (in_time store (tt {0})) (λ found. reply.Done) timed (λ x h. no_refusal _ why h refl)

  -- WHAT A REFUSED CALL LEAVES
  pub refusal_left : (c : Call) → Left store work why (do_call store c work)
  refusal_left (call.Mkdir path) =
      passes (new_name store (next_id store Dir) path) _ (name_missing store (next_id store Dir) path)
      (λ x h. absurd (no_refusal _ why h refl))
  refusal_left (call.Create path policy) =
      passes (new_name store (next_id store File) path) _ (name_missing store (next_id store File) path)
      (λ x h. absurd (no_refusal _ why h refl))
  refusal_left (call.Write path offset bytes) = changes path (written offset bytes)
  refusal_left (call.Cut path length) = changes path (cut_to length)
  refusal_left (call.Read path offset count) =
      looks (file_at store path) _ (file_missing store path) (λ x h. no_refusal _ why h refl)
  refusal_left (call.Fresh path) =
      passes (file_at store path) _ (file_missing store path) (λ file. lacks (first_of store.announced file))
  refusal_left (call.Ls path from) =
      looks (dir_at store path) _ (dir_missing store path) (λ x h. no_refusal _ why h refl)
  refusal_left (call.Stat target) =
      looks (target_at store target) _ (target_missing store target) (λ x h. no_refusal _ why h refl)
  refusal_left (call.Rename from to) =
      passes (move_of store from to) _ (move_missing store from to) (λ x h. absurd (no_refusal _ why h refl))
  refusal_left (call.Unlink path) =
      passes (file_at store path) _ (file_missing store path) (λ x h. absurd (no_refusal _ why h refl))
  refusal_left (call.Rmdir path) =
      passes (empty_dir_at store path) _ (empty_missing store path) (λ x h. absurd (no_refusal _ why h refl))
  refusal_left (call.Forget id) =
      passes (lost_at store id) _ (lost_missing store id) (λ x h. absurd (no_refusal _ why h refl))
  refusal_left (call.Demote target) =
      passes (demoted_at store target) _ (demoted_missing store target)
      (λ x h. absurd (no_refusal _ why h refl))
  refusal_left (call.Drop target) =
      passes (dropped_at store target) _ (dropped_missing store target)
      (λ x h. absurd (no_refusal _ why h (leaving_told store x work (clean_gold store x))))
  refusal_left (call.Giveup view server) =
      passes (removal_at store view server) _ (removal_missing store view server)
      (λ x h. absurd (no_refusal _ why h refl))
  refusal_left call.Status =
      looks (in_time store (tt {0})) _ timed (λ x h. no_refusal _ why h refl)
  refusal_left call.Stop = stops
