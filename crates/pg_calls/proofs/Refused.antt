-- A refused call changes nothing, but that what is not here yet is asked for.
use Rattle.std.proofs.Common.{ℕ, ◌≡◌, ◌==◌, ◌∙◌, ◌⊎◌, Bool, true, false, inl, inr, List, Option, None, Some, Result, Ok, Err, refl, sym, ap, subst}
use Rattle.std.proofs.lemmas.Bool.{false≢true}
use Rattle.pg_base.specs.declared.id.FileId.{FileId}
use Rattle.pg_base.specs.declared.id.Kind.TheVariants.{Dir, File}
use Rattle.pg_base.specs.declared.stamp.Stamp.{Stamp}
use Rattle.pg_announced.specs.Announced.{first_of}
use Rattle.pg_patch.specs.Ranges.{RangesValue, cut_to, written}
use Rattle.pg_register.specs.declared.flag.Flag.{Flag}
use Rattle.pg_cells.specs.pg_replica.Replica.{has_many_actors, is_too_long}
use Rattle.pg_cells.specs.pg_msg.declared.message.Message.TheVariants.{Fetch}
use Rattle.pg_cells.specs.pg_msg.declared.work.Work.{Work}
use Rattle.pg_cells.specs.pg_call.declared.call.Call.{Call}
use Rattle.pg_cells.specs.pg_call.declared.call.Call.TheVariants as call
use Rattle.pg_cells.specs.pg_call.declared.refusal.Refusal.{Refusal}
use Rattle.pg_cells.specs.pg_call.declared.refusal.Refusal.TheVariants.{Behind, ManyActors, NotYet, TooLong}
use Rattle.pg_cells.specs.pg_call.declared.reply.Reply.{Reply}
use Rattle.pg_cells.specs.pg_call.declared.reply.Reply.TheVariants as reply
use Rattle.pg_cells.proofs.pg_house.Truths.{chosen}
use Rattle.pg_checks.specs.pg_lookup.declared.paths.Found.{Found}
use Rattle.pg_checks.specs.pg_lookup.declared.paths.LookupError.{LookupError}
use Rattle.pg_checks.specs.pg_lookup.declared.paths.LookupError.TheVariants as stop
use Rattle.pg_cells.specs.pg_store.declared.store.Store.{Store}
use Rattle.pg_cells.specs.pg_store.declared.wishes.Wish.{Wish}
use Rattle.pg_cells.specs.pg_store.Births.{with_birth, with_wish}
use Rattle.pg_cells.specs.pg_store.Seen.{server_of}
use Rattle.pg_cells.specs.pg_store.Store.{is_full, replica_of}
use Rattle.pg_cells.specs.pg_pieces.Done.{Done, idle}
use Rattle.pg_cells.specs.pg_pieces.Posting.{post}
use Rattle.pg_checks.specs.Answer.{Answer, answer, answered, deny, replied, told, unless}
use Rattle.pg_checks.specs.Asking.{ask_by, ask_first, fetch, fresh_wish, holder, standing}
use Rattle.pg_calls.specs.Bodies.{change, change_file, when_fit}
use Rattle.pg_checks.specs.Checks.{dir_at, empty_dir_at, file_at, in_time, move_of, new_name, target_at}
use Rattle.pg_calls.specs.Demoting.{demoted_at}
use Rattle.pg_calls.specs.Dropping.{clean_gold, dropped_at, leaving}
use Rattle.pg_calls.specs.Forgetting.{lost_at}
use Rattle.pg_calls.specs.GivingUp.{removal_at}
use Rattle.pg_calls.specs.Looks.{freshness}
use Rattle.pg_calls.specs.Naming.{next_id}
use Rattle.pg_calls.specs.Refused.{OnlyAsks, RefusedOnlyAsks, SendsFetch}
use Rattle.pg_calls.proofs.Missing.{IsMissing, demoted_missing, dir_missing, dropped_missing, empty_missing, file_missing, lost_missing, move_missing, name_missing, removal_missing, target_missing}
use Rattle.pg_checks.proofs.Stopping.{StopsAt, is_not_yet, stops_then, stops_time, stops_unless}

-- ---- what is asked for

-- a handler leaves no more than what was asked for
abbrev Asked : Store → Work → Refusal → Reply → Done → Type 0
Asked store work why r d = OnlyAsks store work why (answer d r)

pub same_file : (a b : FileId) → NotYet a ≡ NotYet b → a ≡ b
same_file a b h = cc

module _ (store : Store) (work : Work) (why : Refusal) (found : Found) (is : why ≡ NotYet found.file)
    (none : IsMissing store.names found) (r : Reply) where
  sent_by : (wish : Wish) → (fetch store found.file wish work ≡ work)
      ⊎ SendsFetch store work why (fetch store found.file wish work)
  sent_by wish =
      chosen (λ (w : Work). (w ≡ work) ⊎ SendsFetch store work why w) (wish.target == 0) work
      (post store wish.target (Fetch found.file wish.birth) work)
      (inl refl) (inr (found.file, wish.birth, wish.target, is, refl))

  not_full : (file : FileId) → why ≡ NotYet file → is_full store file ≡ false
  not_full file e = subst (λ f. is_full store f ≡ false) (same_file found.file file (sym is ∙ e)) none

  nobody_asked : Asked store work why r (idle store work)
  nobody_asked = record { kept = inl refl; sent = inl refl; missing = not_full }

  asked_again : (wish : Wish) → Asked store work why r (idle store (fetch store found.file wish work))
  asked_again wish = record { kept = inl refl; sent = sent_by wish; missing = not_full }

  asked_anew : (target : ℕ) → standing store found.file ≡ None
      → Asked store work why r (idle (with_wish (with_birth store) found.file (fresh_wish store target))
      (fetch store found.file (fresh_wish store target) work))
  asked_anew target first = record {
    kept = inr (found.file, target, is, first, refl);
    sent = sent_by (fresh_wish store target);
    missing = not_full;
  }

  asked_first : (target : ℕ) → standing store found.file ≡ None
      → Asked store work why r (ask_first store found.file target work)
  asked_first target first =
      chosen (Asked store work why r) (target == 0) (idle store work)
      (idle (with_wish (with_birth store) found.file (fresh_wish store target))
      (fetch store found.file (fresh_wish store target) work))
      nobody_asked (asked_anew target first)

  asked_by : (o : Option Wish) → standing store found.file ≡ o → Asked store work why r (ask_by store found o work)
  asked_by None first = asked_first (holder store found) first
  asked_by (Some wish) stands = asked_again wish

-- ---- what does not go on

-- where the reply is this refusal, no more is left than asked for
abbrev Left : Store → Work → Refusal → Answer → Type 0
Left store work why left = left.reply ≡ reply.Refused why → OnlyAsks store work why left

same_refusal : (a b : Refusal) → ◌≡◌ {A = Reply} (reply.Refused a) (reply.Refused b) → a ≡ b
same_refusal a b h = cc

no_file : (a b : Refusal) (file : FileId) → a ≡ b → is_not_yet a ≡ false → b ≡ NotYet file → ⊥
no_file a b file same other h = false≢true (sym other ∙ ap is_not_yet (same ∙ h))

denied_left : (store : Store) (work : Work) (why : Refusal) (halt : LookupError)
    → StopsAt {A = Unit {0}} (IsMissing store.names) (Err halt) → Left store work why (deny store halt work)
denied_left store work why (stop.Refused r) other h = record {
  kept = inl refl;
  sent = inl refl;
  missing = λ file e. absurd (no_file r why file (same_refusal r why h) other e);
}
denied_left store work why (stop.NotYet found) none h =
    asked_by store work why found (sym (same_refusal (NotYet found.file) why h)) none (reply.Refused (NotYet found.file))
    (standing store found.file) refl

-- ---- replies that are no refusals

abbrev is_refusal : Reply → Bool
is_refusal (reply.Refused why) = true
is_refusal _ = false

no_refusal : (r : Reply) (why : Refusal) → r ≡ reply.Refused why → is_refusal r ≡ false → ⊥
no_refusal r why h e = false≢true (sym e ∙ ap is_refusal h)

-- who goes is told so
leaving_told : (store : Store) (file : FileId) (work : Work) (o : Option Flag) → is_refusal (leaving store file work o).reply ≡ false
leaving_told store file work None = refl
leaving_told store file work (Some flag) = refl

-- ---- each call

module _ (store : Store) (work : Work) (why : Refusal) where
  passes : {A : Type 0} (check : Result A LookupError) (next : A → Answer) → StopsAt (IsMissing store.names) check
      → ((x : A) → Left store work why (next x)) → Left store work why (answered store work check next)
  passes (Err (stop.Refused r)) next other each = denied_left store work why (stop.Refused r) other
  passes (Err (stop.NotYet found)) next none each = denied_left store work why (stop.NotYet found) none
  passes (Ok x) next none each = each x

  looks : {A : Type 0} (check : Result A LookupError) (tell : A → Reply) → StopsAt (IsMissing store.names) check
      → ((x : A) → tell x ≡ reply.Refused why → ⊥) → Left store work why (replied store work check tell)
  looks check tell none never = passes check (λ x. told store work (tell x)) none (λ x h. absurd (never x h))

  fits : (ranges : RangesValue) (file : FileId) → StopsAt (IsMissing store.names) (when_fit store ranges file)
  fits ranges file =
      stops_then (IsMissing store.names) (unless (is_too_long (replica_of store file) ranges) TooLong file) _
      (stops_unless (IsMissing store.names) (is_too_long (replica_of store file) ranges) TooLong file refl)
      (λ fit. stops_unless (IsMissing store.names) (has_many_actors (replica_of store fit) (server_of store)) ManyActors fit refl)

  changes : (text : List ℕ) (ranges : RangesValue) → Left store work why (change store text ranges work)
  changes text ranges =
      passes (file_at store text) (change_file store ranges work) (file_missing store text)
      (λ file. passes (when_fit store ranges file) _ (fits ranges file) (λ fit h. absurd (no_refusal _ why h refl)))

  -- a file that lacks a version is not fresh, and nothing is asked for
  lacks : (o : Option Stamp) → Left store work why (told store work (freshness o))
  lacks None h = absurd (no_refusal reply.Done why h refl)
  lacks (Some stamp) h = record {
    kept = inl refl;
    sent = inl refl;
    missing = λ file e. absurd (no_file (Behind stamp) why file (same_refusal (Behind stamp) why h) refl e);
  }

  timed : StopsAt (IsMissing store.names) (in_time store (tt {0}))
  timed = stops_time (IsMissing store.names) store (tt {0})

  stops : Left store work why (replied store work (in_time store (tt {0})) (λ found. reply.Done))
  stops = looks (in_time store (tt {0})) (λ found. reply.Done) timed (λ x h. no_refusal _ why h refl)

pub refused_only_asks : (store : Store) (c : Call) (work : Work) (why : Refusal) → RefusedOnlyAsks store c work why
refused_only_asks store (call.Mkdir path) work why =
    passes store work why (new_name store (next_id store Dir) path) _ (name_missing store (next_id store Dir) path) (λ x h. absurd (no_refusal _ why h refl))
refused_only_asks store (call.Create path policy) work why =
    passes store work why (new_name store (next_id store File) path) _ (name_missing store (next_id store File) path) (λ x h. absurd (no_refusal _ why h refl))
refused_only_asks store (call.Write path offset bytes) work why = changes store work why path (written offset bytes)
refused_only_asks store (call.Cut path length) work why = changes store work why path (cut_to length)
refused_only_asks store (call.Read path offset count) work why =
    looks store work why (file_at store path) _ (file_missing store path) (λ x h. no_refusal _ why h refl)
refused_only_asks store (call.Fresh path) work why =
    passes store work why (file_at store path) _ (file_missing store path) (λ file. lacks store work why (first_of store.announced file))
refused_only_asks store (call.Ls path from) work why =
    looks store work why (dir_at store path) _ (dir_missing store path) (λ x h. no_refusal _ why h refl)
refused_only_asks store (call.Stat target) work why =
    looks store work why (target_at store target) _ (target_missing store target) (λ x h. no_refusal _ why h refl)
refused_only_asks store (call.Rename from to) work why =
    passes store work why (move_of store from to) _ (move_missing store from to) (λ x h. absurd (no_refusal _ why h refl))
refused_only_asks store (call.Unlink path) work why =
    passes store work why (file_at store path) _ (file_missing store path) (λ x h. absurd (no_refusal _ why h refl))
refused_only_asks store (call.Rmdir path) work why =
    passes store work why (empty_dir_at store path) _ (empty_missing store path) (λ x h. absurd (no_refusal _ why h refl))
refused_only_asks store (call.Forget id) work why =
    passes store work why (lost_at store id) _ (lost_missing store id) (λ x h. absurd (no_refusal _ why h refl))
refused_only_asks store (call.Demote target) work why =
    passes store work why (demoted_at store target) _ (demoted_missing store target) (λ x h. absurd (no_refusal _ why h refl))
refused_only_asks store (call.Drop target) work why =
    passes store work why (dropped_at store target) _ (dropped_missing store target)
    (λ x h. absurd (no_refusal _ why h (leaving_told store x work (clean_gold store x))))
refused_only_asks store (call.Giveup view server) work why =
    passes store work why (removal_at store view server) _ (removal_missing store view server) (λ x h. absurd (no_refusal _ why h refl))
refused_only_asks store call.Status work why =
    looks store work why (in_time store (tt {0})) _ (timed store work why) (λ x h. no_refusal _ why h refl)
refused_only_asks store call.Stop work why = stops store work why
