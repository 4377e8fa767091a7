-- Leave is given: where the replica goes, what is known then is what is left of what was taken.
use Rattle.std.proofs.Common.{ℕ, ◌≡◌, ◌&&◌, ◌++◌, Bool, true, false, cond, not, is_some, List, map, None, Some, refl, sym, subst}
use Rattle.pg_run.specs.pg_base.declared.stamp.Stamp.{Stamp}
use Rattle.pg_run.specs.pg_base.Id.{is_same_file}
use Rattle.pg_run.specs.pg_msg.declared.message.Ends.{Ends}
use Rattle.pg_run.specs.pg_msg.declared.update.Update.{Update}
use Rattle.pg_run.specs.pg_msg.declared.work.Work.{Work}
use Rattle.pg_run.specs.pg_msg.Work.{new_work}
use Rattle.pg_run.specs.pg_names.Names.{NamesValue}
use Rattle.pg_run.specs.pg_register.Place.{root}
use Rattle.pg_run.specs.pg_store.declared.store.Store.{Store}
use Rattle.pg_run.specs.pg_store.Beginning.{let_go}
use Rattle.pg_run.specs.pg_store.Births.{birth_of}
use Rattle.pg_run.specs.pg_store.Store.{replica_of}
use Rattle.pg_run.specs.pg_pieces.Done.{Done, idle}
use Rattle.pg_run.specs.pg_pieces.Parting.{stays_for}
use Rattle.pg_run.specs.pg_graph.Leaving.{goes, goes_now, leave_ok, may_leave, without_leave}
use Rattle.pg_run.proofs.pg_graph.LeaveOk.{answered_is}
use Rattle.pg_run.specs.Intending.{LeavesStand}
use Rattle.pg_run.specs.Took.{Take, take_of, without, without_gone}
use Rattle.law_names.specs.Goes.{Goes}
use Rattle.law_names.proofs.Going.{goes_on}
use Rattle.law_names.proofs.Gone.{goes_gone}
use Rattle.law_names.proofs.Notes.{byes_still}

module _ (removed : List ℕ) (a : Store) (now : List Take) (k : Goes removed a.names now) (leaves : LeavesStand a) (from : ℕ) (ends : Ends) (stamp : Stamp) where
  abbrev W : Work
  W = new_work 0 from

  abbrev Is : NamesValue → List Take → Type 0
  Is = Goes removed

  abbrev Over : Store
  Over = without_leave a ends.file

  abbrev GoesOr : Bool → Done → Type 0
  GoesOr t d = Is d.store.names (map take_of d.work.made ++ without_gone (cond t (Some ends.file) None) now)

  -- what goes is not the root
  gone_inner : may_leave a ends stamp W ≡ true → is_same_file ends.file root ≡ false
  gone_inner asked = (leaves ends.file from ends.sender (answered_is a ends stamp W asked).stood).1

  gone_goes : may_leave a ends stamp W ≡ true → GoesOr true (goes Over ends.file W)
  gone_goes asked =
      let f = ends.file in
      let left = let_go Over f in
      let edges = (replica_of Over f).edges in
      let end = goes Over f W in
      let still = byes_still left f (birth_of Over f) edges W in
      let here : Is end.store.names (without f now) = goes_on removed left.names end.store.names (without f now) still.0 (goes_gone removed a.names now f (gone_inner asked) k) in
      let P : List Update → Type 0 = λ us. Is end.store.names (map take_of us ++ without f now) in
      subst P (sym still.1) here

  by_tests : (t u : Bool) → may_leave a ends stamp W ≡ t
      → GoesOr (t && not u) (cond t (cond u (idle Over W) (goes Over ends.file W)) (idle a W))
  by_tests true true asked = k
  by_tests true false asked = gone_goes asked
  by_tests false u none = k

  -- LEAVE IS GIVEN
  pub leave_ok_goes : GoesOr (goes_now a ends stamp W) (leave_ok a ends stamp W)
  leave_ok_goes = by_tests (may_leave a ends stamp W) (is_some (stays_for Over ends.file)) refl
