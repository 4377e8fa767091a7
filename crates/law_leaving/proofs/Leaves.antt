-- The leave by which a replica goes, and what is known of the replica there.
use Rattle.std.proofs.Common.{ℕ, ◌≡◌, true, not, Option, None, Some, is_some, refl, subst}
use Rattle.std.proofs.lemmas.Bool.{and_parts, eqb-true, false≢true, not-true}
use Rattle.std.proofs.lemmas.Option.{none-some, same_Some}
use Rattle.pg_run.specs.pg_base.declared.id.FileId.{FileId}
use Rattle.pg_run.specs.pg_base.declared.stamp.Stamp.{Stamp}
use Rattle.pg_run.specs.pg_pieces.declared.accepting.EdgeUse.TheVariants as manner
use Rattle.pg_run.specs.pg_pieces.Accepting.{is_current, meets}
use Rattle.pg_run.specs.pg_store.Links.{knows_later}
use Rattle.pg_run.specs.pg_pieces.Parting.{stays_for}
use Rattle.pg_run.specs.pg_graph.Leaving.{goes_now, may_leave, without_leave}
use Rattle.pg_run.proofs.pg_graph.LeaveOk.{MayGo, answered_is, stays_not}
use Rattle.pg_run.specs.pg_msg.declared.message.Ends.{Ends}
use Rattle.pg_run.specs.pg_msg.declared.message.Message.{Message}
use Rattle.pg_run.specs.pg_msg.declared.message.Message.TheVariants as message
use Rattle.pg_run.specs.pg_msg.Work.{new_work}
use Rattle.pg_run.proofs.theory_flood_pieces.Choices.{decided}
use Rattle.pg_run.specs.pg_replica.declared.replica.Replica.{Replica}
use Rattle.pg_run.specs.pg_replica.Replicas.{is_of_birth}
use Rattle.pg_run.specs.pg_store.declared.store.Store.{Store}
use Rattle.pg_run.specs.pg_store.Births.{has_birth}
use Rattle.pg_run.specs.pg_store.Store.{replica_at}
use Rattle.pg_run.specs.Carried.{gone_by}

-- a replica of a birth is there
pub held_of : (o : Option Replica) (birth : ℕ) → is_of_birth o birth ≡ true → (x : Replica) × (o ≡ Some x) × (x.birth ≡ birth)
held_of None birth e = absurd (false≢true e)
held_of (Some x) birth e = (x, refl, eqb-true x.birth birth e)

-- THE LEAVE: from whom it came, and that the replica that it names may go
pub record IsLeave (a : Store) (from : ℕ) (m : Message) (file : FileId) : Type 0 where
  pub ends : Ends
  pub stamp : Stamp
  pub is : m ≡ message.LeaveOk ends stamp
  pub of : ends.file ≡ file
  pub may : MayGo a ends stamp (new_work 0 from)
  pub replica : Replica
  pub held : replica_at a file ≡ Some replica
  pub born : replica.birth ≡ ends.receiver

may_go : (a : Store) (from : ℕ) (ends : Ends) (stamp : Stamp) → goes_now a ends stamp (new_work 0 from) ≡ true
    → MayGo a ends stamp (new_work 0 from)
may_go a from ends stamp now =
    let w = new_work 0 from in
    let stays = is_some (stays_for (without_leave a ends.file) ends.file) in
    let parts = and_parts (may_leave a ends stamp w) (not stays) now in
    let rest = stays_not (without_leave a ends.file) ends.file (not-true stays parts.1) in
    record { answered = answered_is a ends stamp w parts.0; plain = rest.0; childless = rest.1.0; quiet = rest.1.1.0; clean = rest.1.1.1 }

leave_at : (a : Store) (from : ℕ) (ends : Ends) (stamp : Stamp) → goes_now a ends stamp (new_work 0 from) ≡ true
    → IsLeave a from (message.LeaveOk ends stamp) ends.file
leave_at a from ends stamp now =
    let may = may_go a from ends stamp now in
    let current = (and_parts (is_current a from ends) (meets a from manner.Answers ends) may.answered.accepted).0 in
    let here = (and_parts (has_birth a ends.file ends.receiver) (not (knows_later a ends.file from ends.sender)) current).0 in
    let x = held_of (replica_at a ends.file) ends.receiver here in
    record { ends = ends; stamp = stamp; is = refl; of = refl; may = may; replica = x.0; held = x.1; born = x.2 }

pub leave_by : (a : Store) (from : ℕ) (m : Message) (file : FileId) → gone_by a from m ≡ Some file → IsLeave a from m file
leave_by a from (message.LeaveOk ends stamp) file is =
    decided (λ (o : Option FileId). o ≡ Some file → IsLeave a from (message.LeaveOk ends stamp) file) (goes_now a ends stamp (new_work 0 from))
    (Some ends.file) None
    (λ now same. subst (IsLeave a from (message.LeaveOk ends stamp)) (same_Some ends.file file same) (leave_at a from ends stamp now))
    (λ not_now none. absurd (none-some file none))
    is
leave_by a from _ file is = absurd (none-some file is)
