-- What a call leaves at the key of a Bye: all as it was, but where a server is removed.
use Rattle.std.proofs.Common.{ℕ, ◌≡◌, ◌⊎◌, true, Ok, inl, inr, refl, ◌∙◌}
use Rattle.pg_run.specs.pg_base.declared.id.FileId.{FileId}
use Rattle.pg_run.specs.pg_base.declared.policy.Policy.TheVariants.{Last}
use Rattle.pg_run.specs.pg_call.declared.call.Call.{Call}
use Rattle.pg_run.specs.pg_call.declared.call.Call.TheVariants as call
use Rattle.pg_run.specs.pg_intent.declared.key.IntentKey.TheVariants as intent_key
use Rattle.pg_run.specs.pg_msg.declared.work.Work.{Work}
use Rattle.pg_run.specs.pg_store.Views.{enter}
use Rattle.pg_run.specs.pg_calls.Forgetting.{bare_entry, dead_at, unfilled}
use Rattle.pg_run.specs.pg_calls.GivingUp.{removal_at}
use Rattle.pg_run.specs.pg_names.Names.{blank_own}
use Rattle.pg_run.specs.pg_store.declared.store.Store.{Store}
use Rattle.pg_run.specs.pg_store.Births.{draw_birth, with_birth}
use Rattle.pg_run.specs.pg_pieces.Done.{Done}
use Rattle.pg_run.specs.pg_pieces.Making.{own_next}
use Rattle.pg_run.proofs.pg_intentions.Standing.{begun_other}
use Rattle.pg_run.specs.pg_calls.Dropping.{leave_of}
use Rattle.pg_run.specs.pg_calls.Calls.{do_call}
use Rattle.pg_run.specs.pg_calls.Naming.{next_id, with_id}
use Rattle.law_order.proofs.law_frame.Called.{call_keeps}
use Rattle.law_order.proofs.law_frame.KeepsCalls.{KeepsCalls}
use Rattle.law_births.proofs.ByeKeys.{ByeKey, Same, begin_same, ended_same, entry_same, flag_same, place_same}

module _ (file : FileId) (birth peer : ℕ) (a : Store) (work : Work) where
  -- all is as it was, or the call removes a server
  abbrev pub Rests : Call → Store → Type 0
  Rests c b = Same file birth peer a b
      ⊎ ((view : ℕ) × (server : ℕ) × (u : Unit {0}) × (c ≡ call.Giveup view server) × (removal_at a view server ≡ Ok u) × (b ≡ enter a server))

  abbrev Keeps : Done → Type 0
  Keeps d = Same file birth peer a d.store

  keeps_same : (c : Call) → KeepsCalls a work c Keeps (λ (d : Done). Rests c d.store)
  keeps_same c = record {
    wishes = λ found some k. inl k;
    asks = λ f wish is some k. inl k;
    makes_new = λ kind policy path new is k. (
        let id = next_id a kind in
        begin_same file birth peer (with_birth (with_id a)) id (draw_birth (with_id a)) policy (blank_own id) true ∙ k);
    makes_place = λ d f place is k. place_same file birth peer d.store f place ∙ k;
    makes_flag = λ d f raised is k. flag_same file birth peer d.store f (own_next d.store f raised) ∙ k;
    makes_version = λ d f ranges is k. k;
    begins_leave = λ f flag is k. begun_other a (leave_of f flag) work (ByeKey file birth peer) refl ∙ k;
    fills = λ d id is k. k;
    strikes = λ id dir is k. k;
    marks = λ d id dir to is k. entry_same file birth peer d.store to (bare_entry id (dead_at a work.now id dir)) ∙ k;
    begins_lost = λ id own is away k.
        begin_same file birth peer (unfilled (with_birth a) id) id (draw_birth a) Last own true
        ∙ ended_same file birth peer (with_birth a) (intent_key.Fill id) refl ∙ k;
    enters = λ view server is found k. inr (view, server, tt, is, found, refl);
    leaves = λ d k. inl k;
  }

  -- ANY CALL
  pub call_same : (c : Call) → Rests c (do_call a c work).store
  call_same c = call_keeps a work Keeps (λ (d : Done). Rests c d.store) c (keeps_same c) refl
