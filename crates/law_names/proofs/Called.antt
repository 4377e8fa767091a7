-- A call: what it makes, and what comes by it, is what the server knows more then.
use Rattle.std.proofs.Common.{ℕ, List, ◌++◌}
use Rattle.pg_run.specs.pg_base.declared.id.Kind.{Kind}
use Rattle.pg_run.specs.pg_msg.Work.{new_work}
use Rattle.pg_run.specs.pg_call.declared.call.Call.{Call}
use Rattle.pg_run.specs.pg_call.declared.call.Call.TheVariants as call
use Rattle.pg_run.specs.pg_store.declared.store.Store.{Store}
use Rattle.pg_run.specs.pg_store.Seen.{removed_of}
use Rattle.pg_run.specs.pg_checks.Answer.{Answer}
use Rattle.pg_run.specs.pg_calls.Calls.{do_call}
use Rattle.pg_run.specs.pg_calls.Forgetting.{lost_at}
use Rattle.pg_run.specs.pg_calls.GivingUp.{removal_at}
use Rattle.pg_run.specs.pg_calls.Naming.{next_id}
use Rattle.pg_run.specs.pg_server.declared.input.Input.TheVariants as input
use Rattle.pg_run.specs.Carried.{came_by}
use Rattle.pg_run.specs.Known.{Told}
use Rattle.pg_run.specs.Run.{made_takes}
use Rattle.pg_run.specs.Took.{Take}
use Rattle.law_names.specs.Goes.{Goes}
use Rattle.law_names.specs.Merged.{IsNewId}
use Rattle.law_names.proofs.Calls.{create_is, cut_is, demote_is, drop_is, fresh_is, ls_is, mkdir_is, read_is, rename_is, rmdir_is, stat_is, status_is, stop_is, unlink_is, write_is}
use Rattle.law_names.proofs.Forgetting.{forget_goes}
use Rattle.law_names.proofs.GivingUp.{giveup_goes}
use Rattle.law_names.proofs.Going.{goes_itself}
use Rattle.law_names.proofs.Messages.{IsReady}

module _ (removed : List ℕ) (p : Told) (a : Store) (now : List Take) (k : Goes removed a.names now) (ready : IsReady p a) (ids : (kind : Kind) → IsNewId a (next_id a kind)) (moment : ℕ) where
  abbrev Does : Call → Answer
  Does c = do_call a c (new_work moment 0)

  abbrev Brought : Call → List Take
  Brought c = made_takes a (input.Call moment c) ++ (came_by a moment c ++ now)

  -- in the view that the call leaves
  abbrev CallIs : Call → Type 0
  CallIs c = Goes (removed_of (Does c).store) (Does c).store.names (Brought c)

  -- a call that changes no view
  kept : (c : Call) → Goes removed (Does c).store.names (Brought c) → CallIs c
  kept c h = goes_itself removed (Does c).store.names (Brought c) h

  -- A CALL
  pub call_goes : (c : Call) → CallIs c
  call_goes (call.Mkdir path) = kept (call.Mkdir path) (mkdir_is removed p a now k ready ids moment path)
  call_goes (call.Create path policy) = kept (call.Create path policy) (create_is removed p a now k ready ids moment path policy)
  call_goes (call.Write path offset bytes) = kept (call.Write path offset bytes) (write_is removed p a now k ready ids moment path offset bytes)
  call_goes (call.Cut path length) = kept (call.Cut path length) (cut_is removed p a now k ready ids moment path length)
  call_goes (call.Read path offset count) = kept (call.Read path offset count) (read_is removed p a now k ready ids moment path offset count)
  call_goes (call.Fresh path) = kept (call.Fresh path) (fresh_is removed p a now k ready ids moment path)
  call_goes (call.Ls path from) = kept (call.Ls path from) (ls_is removed p a now k ready ids moment path from)
  call_goes (call.Stat t) = kept (call.Stat t) (stat_is removed p a now k ready ids moment t)
  call_goes (call.Rename from to) = kept (call.Rename from to) (rename_is removed p a now k ready ids moment from to)
  call_goes (call.Unlink path) = kept (call.Unlink path) (unlink_is removed p a now k ready ids moment path)
  call_goes (call.Rmdir path) = kept (call.Rmdir path) (rmdir_is removed p a now k ready ids moment path)
  call_goes (call.Forget id) = kept (call.Forget id) (forget_goes removed p a now k ready moment ids (lost_at a id))
  call_goes (call.Demote t) = kept (call.Demote t) (demote_is removed p a now k ready ids moment t)
  call_goes (call.Drop t) = kept (call.Drop t) (drop_is removed p a now k ready ids moment t)
  call_goes (call.Giveup view server) = giveup_goes removed p a now k ready ids moment server (removal_at a view server)
  call_goes call.Status = kept call.Status (status_is removed p a now k ready ids moment)
  call_goes call.Stop = kept call.Stop (stop_is removed p a now k ready ids moment)
