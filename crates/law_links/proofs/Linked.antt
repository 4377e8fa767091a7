-- A birth of a peer is linked to what is held: it is listed from then on.
use Rattle.std.proofs.Common.{ℕ, ◌≡◌, ◌&&◌, Bool, true, false, cond, not, Option, None, Some, is_some, refl, sym, ap, subst, ◌∙◌, eq-eqb}
use Rattle.std.proofs.lemmas.Bool.{false≢true}
use Rattle.pg_run.specs.pg_base.declared.id.FileId.{FileId}
use Rattle.pg_run.specs.pg_base.declared.stamp.Stamp.{Stamp}
use Rattle.pg_run.specs.pg_msg.declared.message.Ends.{Ends}
use Rattle.pg_run.specs.pg_msg.declared.work.Work.{Work}
use Rattle.pg_run.specs.pg_msg.Work.{new_work}
use Rattle.pg_run.specs.pg_replica.declared.replica.Replica.{Replica}
use Rattle.pg_run.specs.pg_replica.Replicas.{is_of_birth, or_nothing}
use Rattle.pg_run.specs.pg_store.declared.store.Store.{Store}
use Rattle.pg_run.specs.pg_store.Births.{birth_of, has_birth}
use Rattle.pg_run.specs.pg_store.Links.{knows_later, link}
use Rattle.pg_run.specs.pg_store.Store.{is_held, replica_at}
use Rattle.pg_run.specs.pg_pieces.declared.accepting.EdgeUse.TheVariants as manner
use Rattle.pg_run.specs.pg_pieces.Accepting.{accept, is_accepted, is_current, link_peer, with_gone}
use Rattle.pg_run.specs.pg_pieces.Done.{Done, idle}
use Rattle.pg_run.specs.pg_graph.Leaving.{leave, leave_given}
use Rattle.law_births.proofs.Effects.{Lists, leave_listed}
use Rattle.law_births.proofs.Has.{IsAlone}

-- where the first is so and the second is not, it is what stands within
pub within : (first second : Bool) (d old other : Done) → first ≡ true → second ≡ false
    → (cond first (cond second old d) other).store ≡ d.store
within true false d old other f s = refl
within true true d old other f s = absurd (false≢true (sym s))
within false second d old other f s = absurd (false≢true f)

both_stores : (t : Bool) (d e : Done) → d.store ≡ e.store → (cond t d e).store ≡ e.store
both_stores true d e same = same
both_stores false d e same = refl

own_birth : (o : Option Replica) → is_some o ≡ true → is_of_birth o (or_nothing o).birth ≡ true
own_birth None e = absurd (false≢true e)
own_birth (Some y) e = eq-eqb y.birth y.birth refl

module _ (a : Store) (k : IsAlone a) (file : FileId) (peer birth : ℕ)
    (held : is_held a file ≡ true) (later : knows_later a file peer birth ≡ false) where
  abbrev work : Work
  work = new_work 0 peer

  abbrev x : Ends
  x = record { file = file; sender = birth; receiver = birth_of a file }

  abbrev stamp : Stamp
  stamp = record { time = 0; server = 0 }

  here : has_birth a file (birth_of a file) ≡ true
  here = own_birth (replica_at a file) (k.together file ∙ held)

  current : is_current a peer x ≡ true
  current =
      ap (λ t. t && not (knows_later a file peer birth)) here ∙ ap (λ t. not t) later

  store_is : (leave a x stamp work).store ≡ link a file peer birth
  store_is =
      let d = accept a x manner.Makes work in
      both_stores (is_accepted a peer manner.Makes x) (leave_given x stamp d) d refl
      ∙ within (has_birth a file (birth_of a file)) (knows_later a file peer birth)
      (link_peer a file peer birth work) (idle a work) (idle a (with_gone a x manner.Makes work))
      here later

  pub link_lists : Lists (link a file peer birth) file peer birth
  link_lists =
      subst (λ (z : Store). Lists z file peer birth) store_is (leave_listed a x work current stamp)
