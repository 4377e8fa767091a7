-- What is said of births and flags is said where a replica goes, and its peers are to hear of it.
use Rattle.std.proofs.Common.{ℕ, ◌≡◌, true, not, is_some, refl, sym, subst}
use Rattle.std.proofs.lemmas.Bool.{and_parts}
use Rattle.pg_run.specs.pg_base.declared.id.FileId.{FileId}
use Rattle.pg_run.specs.pg_base.declared.stamp.Stamp.{Stamp}
use Rattle.pg_run.specs.pg_edges.declared.edge.Edge.{Edge}
use Rattle.pg_run.specs.pg_intent.declared.intent.Intent.{Intent}
use Rattle.pg_run.specs.pg_intent.declared.key.IntentKey.{IntentKey}
use Rattle.pg_run.specs.pg_intent.declared.key.IntentKey.TheVariants as intent_key
use Rattle.pg_run.specs.pg_intent.Intent.{key_of}
use Rattle.pg_run.specs.pg_intent.Intents.{ended, stands}
use Rattle.pg_run.specs.pg_msg.declared.message.Ends.{Ends}
use Rattle.pg_run.specs.pg_msg.declared.work.Work.{Work}
use Rattle.pg_run.specs.pg_register.declared.flag.Flag.{Flag}
use Rattle.pg_run.specs.pg_store.declared.store.Store.{Store}
use Rattle.pg_run.specs.pg_store.Beginning.{let_go, with_intents}
use Rattle.pg_run.specs.pg_store.Births.{birth_of, has_birth}
use Rattle.pg_run.specs.pg_store.Store.{replica_at, replica_of}
use Rattle.pg_run.specs.pg_pieces.declared.accepting.EdgeUse.TheVariants as manner
use Rattle.pg_run.specs.pg_pieces.Accepting.{is_accepted, is_current}
use Rattle.pg_run.specs.pg_pieces.Done.{Done, idle}
use Rattle.pg_run.specs.pg_pieces.Intending.{begin_intent}
use Rattle.pg_run.specs.pg_pieces.Parting.{stays_for}
use Rattle.pg_run.specs.pg_graph.Leaving.{bye_to, goes, goes_now, goes_or_stays, leave_ok, may_leave, without_leave}
use Rattle.pg_run.proofs.pg_graph.LeaveOk.{byes_by}
use Rattle.pg_run.proofs.theory_flood_pieces.Choices.{decided}
use Rattle.law_births.specs.Flags.{SaysIntent}
use Rattle.law_births.proofs.EndsSay.{ends_let_go}
use Rattle.law_births.proofs.Here.{birth_is, of_birth}
use Rattle.law_births.proofs.Leaves.{now_goes}
use Rattle.law_births.proofs.Mails.{Owed}
use Rattle.pg_run.proofs.Still.{begun_still, same_mail}
use Rattle.law_births.proofs.Saying.{IsSaid, said_on}
use Rattle.law_births.proofs.StoreSays.{intends_says, say_ended, say_let_go}
use Rattle.law_births.proofs.Walking.{edges_named}

module _ (P : FileId → ℕ → ℕ → Type 0) (Q : FileId → Flag → Type 0) (G : FileId → ℕ → Type 0) (s from : ℕ) where
  abbrev Said : Done → Type 0
  Said d = IsSaid P Q G s from d

  -- ---- an intention ends, or begins

  said_ended : (a : Store) (q : IntentKey) (w : Work) → Said (idle a w) → Said (idle (with_intents a (ended a.intents q)) w)
  said_ended a q w k =
      said_on P Q G s from (idle a w) (idle (with_intents a (ended a.intents q)) w) k (say_ended Q (Owed P G s) s a q k.store) k.edges (same_mail w)

  pub said_begun : (d : Done) (i : Intent) → SaysIntent Q (Owed P G s) i → Said d → Said (begin_intent d.store i d.work)
  said_begun d i one k =
      said_on P Q G s from d (begin_intent d.store i d.work) k (intends_says Q (Owed P G s) s d.store i d.work one k.store) k.edges
      (begun_still (not (stands d.store.intents (key_of i))) d.work (key_of i)).mail

  -- ---- leave is given

  -- a replica goes, whose birth is gone with it
  said_goes : (b : Store) (f : FileId) (w : Work) → P f s (birth_of b f) → G f (birth_of b f) → Said (idle b w) → Said (goes b f w)
  said_goes b f w own gone k =
      byes_by Said (λ (e : Edge). P f e.peer e.birth) f (birth_of b f)
      (λ d e named said. said_begun d (bye_to f (birth_of b f) e) ((own, named), gone) said) (replica_of b f).edges
      (edges_named P Q G s from b f (replica_at b f) refl k.edges) (idle (let_go b f) w)
      (said_on P Q G s from (idle b w) (idle (let_go b f) w) k (say_let_go Q (Owed P G s) s b f k.store) (ends_let_go P b f k.edges) (same_mail w))

  pub said_leave_ok : (a : Store) (x : Ends) (stamp : Stamp) (w : Work) → P x.file s x.receiver → (goes_now a x stamp w ≡ true → G x.file x.receiver)
      → Said (idle a w) → Said (leave_ok a x stamp w)
  said_leave_ok a x stamp w one going k =
      let f = x.file in
      let b = without_leave a f in
      let to_b = said_ended a (intent_key.Leave f) w k in
      let kept = is_some (stays_for b f) in
      decided Said (may_leave a x stamp w) (goes_or_stays b f w) (idle a w)
      (λ t.
      let here = of_birth (replica_at a f) x.receiver
      (and_parts (has_birth a f x.receiver) _ (and_parts (is_current a w.from x) _ (and_parts (is_accepted a w.from manner.Answers x) _ t).0).0).0 in
      let is : birth_of b f ≡ x.receiver = birth_is a f x.receiver here in
      decided Said kept (idle b w) (goes b f w) (λ u. to_b)
      (λ u. said_goes b f w (subst (P f s) (sym is) one) (subst (G f) (sym is) (going (now_goes (may_leave a x stamp w) kept t u))) to_b))
      (λ no. k)
