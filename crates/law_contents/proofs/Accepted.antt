-- A message that is accepted has found its replica; an answer changes nothing before it is looked
-- at.
use Rattle.std.proofs.Common.{ℕ, ◌≡◌, Bool, true, false, cond, not, Some, refl}
use Rattle.std.proofs.lemmas.Bool.{and_parts}
use Rattle.pg_run.specs.pg_msg.declared.message.Ends.{Ends}
use Rattle.pg_run.specs.pg_msg.declared.work.Work.{Work}
use Rattle.pg_run.specs.pg_pieces.declared.accepting.EdgeUse.{EdgeUse}
use Rattle.pg_run.specs.pg_pieces.declared.accepting.EdgeUse.TheVariants as manner
use Rattle.pg_run.specs.pg_pieces.Accepting.{accept, is_accepted, is_current, meets}
use Rattle.pg_run.specs.pg_pieces.Done.{Done, idle}
use Rattle.pg_run.specs.pg_replica.declared.replica.Replica.{Replica}
use Rattle.pg_run.specs.pg_store.declared.store.Store.{Store}
use Rattle.pg_run.specs.pg_store.Births.{has_birth}
use Rattle.pg_run.specs.pg_store.Links.{knows_later}
use Rattle.pg_run.specs.pg_store.Store.{replica_at}
use Rattle.law_contents.proofs.Taken.{born_there}

pub accepted_there : (a : Store) (from : ℕ) (m : EdgeUse) (ends : Ends)
    → is_accepted a from m ends ≡ true → (x : Replica) × (replica_at a ends.file ≡ Some x)
accepted_there a from m ends h =
    let current = and_parts (is_current a from ends) (meets a from m ends) h in
    let here = and_parts (has_birth a ends.file ends.receiver)
    (not (knows_later a ends.file from ends.sender)) current.0 in
    born_there (replica_at a ends.file) ends.receiver here.0

same_ways : (d : Done) (t u : Bool) → cond t (cond u d d) d ≡ d
same_ways d true true = refl
same_ways d true false = refl
same_ways d false u = refl

-- the sender of an answer is told nothing, and not linked
pub answers_idle : (a : Store) (ends : Ends) (work : Work)
    → accept a ends manner.Answers work ≡ idle a work
answers_idle a ends work =
    same_ways (idle a work) (has_birth a ends.file ends.receiver)
    (knows_later a ends.file work.from ends.sender)
