-- What each call keeps of names: new things, places that things get, and versions, which raise the
-- greatest time.
use Rattle.std.proofs.Common.{ℕ, ◌≡◌, ◌==◌, false, List, Option, None, Some, Result, Ok, Err, refl, sym, subst}
use Rattle.law_frame.specs.pg_run.pg_base.declared.id.FileId.{FileId}
use Rattle.law_frame.specs.pg_run.pg_base.declared.id.Kind.{Kind}
use Rattle.law_frame.specs.pg_run.pg_base.declared.id.Kind.TheVariants.{Dir, File}
use Rattle.law_frame.specs.pg_run.pg_base.declared.policy.Policy.{Policy}
use Rattle.law_frame.specs.pg_run.pg_base.declared.policy.Policy.TheVariants.{Last}
use Rattle.law_frame.specs.pg_run.pg_patch.Ranges.{RangesValue, cut_to, written}
use Rattle.law_frame.specs.pg_run.pg_register.declared.flag.Flag.{Flag}
use Rattle.law_frame.specs.pg_run.pg_register.declared.place.Place.{Place}
use Rattle.law_frame.specs.pg_run.pg_msg.declared.work.Work.{Work}
use Rattle.law_frame.specs.pg_run.pg_call.declared.call.Call.{Call}
use Rattle.law_frame.specs.pg_run.pg_call.declared.call.Call.TheVariants as call
use Rattle.law_frame.specs.pg_run.pg_call.declared.reply.Reply.{Reply}
use Rattle.law_frame.specs.pg_run.pg_names.Names.{NamesValue, raise, remove_server}
use Rattle.law_frame.specs.pg_run.pg_store.declared.store.Store.{Store}
use Rattle.law_frame.specs.pg_run.pg_store.declared.wishes.Wish.{Wish}
use Rattle.law_frame.specs.pg_run.pg_store.Births.{with_birth, with_wish}
use Rattle.law_frame.specs.pg_run.pg_store.Store.{take_flag, take_place}
use Rattle.law_frame.proofs.pg_run.pg_store.Entered.{enter_names}
use Rattle.law_frame.specs.pg_run.pg_lookup.declared.paths.Found.{Found}
use Rattle.law_frame.specs.pg_run.pg_lookup.declared.paths.LookupError.{LookupError}
use Rattle.law_frame.specs.pg_run.pg_lookup.declared.paths.LookupError.TheVariants as stop
use Rattle.law_frame.specs.pg_run.pg_pieces.Done.{Done, idle}
use Rattle.law_frame.specs.pg_run.pg_pieces.Golds.{is_gold}
use Rattle.law_frame.specs.pg_run.pg_pieces.Making.{lower_flag, own_next}
use Rattle.law_frame.specs.pg_run.pg_checks.declared.checks.NewName.{NewName}
use Rattle.law_frame.specs.pg_run.pg_checks.Answer.{Answer, answered, replied, told}
use Rattle.law_frame.specs.pg_run.pg_checks.Asking.{ask_by, ask_first, fetch, fresh_wish, holder, standing}
use Rattle.law_frame.specs.pg_run.pg_calls.Bodies.{change, change_file, when_fit}
use Rattle.law_frame.specs.pg_run.pg_calls.Calls.{do_call}
use Rattle.law_frame.specs.pg_run.pg_checks.Checks.{dir_at, empty_dir_at, file_at, in_time, move_of, new_name, target_at}
use Rattle.law_frame.specs.pg_run.pg_calls.Demoting.{demoted_at}
use Rattle.law_frame.specs.pg_run.pg_calls.Dropping.{clean_gold, dropped_at, leaving}
use Rattle.law_frame.specs.pg_run.pg_calls.Forgetting.{forget_lost, lost_at}
use Rattle.law_frame.specs.pg_run.pg_calls.GivingUp.{removal_at}
use Rattle.law_frame.specs.pg_run.pg_calls.Making.{drawn}
use Rattle.law_frame.specs.pg_run.pg_calls.Naming.{next_id, with_id, with_thing}
use Rattle.law_frame.proofs.pg_run.theory_flood_pieces.Choices.{chosen}

-- a property of names that what a call does keeps, at a server that holds this: a new thing, a
-- place with the stamp that is drawn now, a flag, a greater time, what was lost and is given up,
-- and a server that is removed
pub record CallsKeep (P : NamesValue → Type 0) (a : Store) (work : Work) : Type 0 where
  pub thing : (kind : Kind) (policy : Policy) (new : NewName) → P a.names → P (with_thing (with_id a) work (next_id a kind) policy new).store.names
  pub place : (f : FileId) (p : Place) → p.stamp ≡ drawn a work.now → P a.names → P (take_place a f p).names
  pub flag : (f : FileId) (g : Flag) → P a.names → P (take_flag a f g).names
  pub raised : (s : NamesValue) (time : ℕ) → P s → P (raise s time)
  pub lost : (id found : FileId) → lost_at a id ≡ Ok found → P a.names → P (forget_lost a found work).store.names
  pub removed : (server : ℕ) → P a.names → P (remove_server a.names server)

module _ (P : NamesValue → Type 0) (a : Store) (work : Work) (k : CallsKeep P a work) (h : P a.names) where
  abbrev OfDone : Done → Type 0
  OfDone d = P d.store.names

  abbrev OfAnswer : Answer → Type 0
  OfAnswer b = P b.store.names

  -- ---- what is asked for

  first_kept : (file : FileId) (target : ℕ) → OfDone (ask_first a file target work)
  first_kept file target =
      let wish = fresh_wish a target in
      chosen OfDone (target == 0) (idle a work) (idle (with_wish (with_birth a) file wish) (fetch a file wish work)) h h

  asked_kept : (found : Found) (o : Option Wish) → OfDone (ask_by a found o work)
  asked_kept found None = first_kept found.file (holder a found)
  asked_kept found (Some wish) = h

  -- ---- answers

  answered_kept : {A : Type 0} (check : Result A LookupError) (next : A → Answer) → ((x : A) → check ≡ Ok x → OfAnswer (next x)) → OfAnswer (answered a work check next)
  answered_kept (Err (stop.Refused why)) next each = h
  answered_kept (Err (stop.NotYet found)) next each = asked_kept found (standing a found.file)
  answered_kept (Ok x) next each = each x refl

  looked_kept : {A : Type 0} (check : Result A LookupError) (tell : A → Reply) → OfAnswer (replied a work check tell)
  looked_kept check tell = answered_kept check (λ x. told a work (tell x)) (λ x is. h)

  changed_kept : (text : List ℕ) (ranges : RangesValue) → OfAnswer (change a text ranges work)
  changed_kept text ranges =
      answered_kept (file_at a text) (change_file a ranges work)
      (λ file is. answered_kept (when_fit a ranges file) _ (λ fit so. k.raised a.names (drawn a work.now).time h))

  timed_kept : (tell : Unit {0} → Reply) → OfAnswer (replied a work (in_time a (tt {0})) tell)
  timed_kept tell = looked_kept (in_time a (tt {0})) tell

  left_kept : (file : FileId) (o : Option Flag) → OfAnswer (leaving a file work o)
  left_kept file None = h
  left_kept file (Some flag) = h

  -- A CALL
  pub call_kept : (c : Call) → OfAnswer (do_call a c work)
  call_kept (call.Mkdir text) = answered_kept (new_name a (next_id a Dir) text) _ (λ new is. k.thing Dir Last new h)
  call_kept (call.Create text policy) =
      answered_kept (new_name a (next_id a File) text) _
      (λ new is. k.raised (with_thing (with_id a) work (next_id a File) policy new).store.names _ (k.thing File policy new h))
  call_kept (call.Write text offset bytes) = changed_kept text (written offset bytes)
  call_kept (call.Cut text length) = changed_kept text (cut_to length)
  call_kept (call.Read text offset count) = looked_kept (file_at a text) _
  call_kept (call.Fresh text) = looked_kept (file_at a text) _
  call_kept (call.Ls text from) = looked_kept (dir_at a text) _
  call_kept (call.Stat target) = looked_kept (target_at a target) _
  call_kept (call.Rename from to) = answered_kept (move_of a from to) _ (λ move is. k.place move.thing _ refl h)
  call_kept (call.Unlink text) = answered_kept (file_at a text) _ (λ file is. k.place file _ refl h)
  call_kept (call.Rmdir text) = answered_kept (empty_dir_at a text) _ (λ dir is. k.place dir _ refl h)
  call_kept (call.Forget id) = answered_kept (lost_at a id) _ (λ found is. k.lost id found is h)
  call_kept (call.Demote target) =
      answered_kept (demoted_at a target) _
      (λ file is. chosen OfDone (is_gold a file) (lower_flag a file work) (idle a work) (k.flag file (own_next a file false) h) h)
  call_kept (call.Drop target) = answered_kept (dropped_at a target) _ (λ file is. left_kept file (clean_gold a file))
  call_kept (call.Giveup view server) =
      answered_kept (removal_at a view server) _ (λ found is. subst P (sym (enter_names a server)) (k.removed server h))
  call_kept call.Status = timed_kept _
  call_kept call.Stop = timed_kept _
