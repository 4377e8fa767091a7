-- A call leaves keys at rest, but one by which a view is entered.
use Rattle.std.proofs.Common.{ℕ, ◌≡◌, ◌⊎◌, true, None, inl, inr, refl, sym, subst}
use Rattle.law_frame.specs.pg_run.pg_base.declared.policy.Policy.TheVariants.{Last}
use Rattle.law_frame.specs.pg_run.pg_call.declared.call.Call.{Call}
use Rattle.law_frame.specs.pg_run.pg_calls.Calls.{do_call}
use Rattle.law_frame.specs.pg_run.pg_calls.Dropping.{leave_of}
use Rattle.law_frame.specs.pg_run.pg_calls.Forgetting.{bare_entry, dead_at, unfilled}
use Rattle.law_frame.specs.pg_run.pg_calls.Naming.{next_id, with_id}
use Rattle.law_frame.specs.pg_run.pg_intent.declared.key.IntentKey.{IntentKey}
use Rattle.law_frame.specs.pg_run.pg_intent.declared.key.IntentKey.TheVariants as intent_key
use Rattle.law_frame.specs.pg_run.pg_intent.Intents.{intent_at}
use Rattle.law_frame.specs.pg_run.pg_msg.declared.update.Update.TheVariants as update
use Rattle.law_frame.specs.pg_run.pg_msg.declared.work.Work.{Work}
use Rattle.law_frame.specs.pg_run.pg_msg.Work.{new_work, with_made}
use Rattle.law_frame.specs.pg_run.pg_names.Names.{blank_own}
use Rattle.law_frame.specs.pg_run.pg_pieces.Done.{Done}
use Rattle.law_frame.specs.pg_run.pg_pieces.Making.{own_next}
use Rattle.law_frame.specs.pg_run.pg_server.declared.input.Input.TheVariants as input
use Rattle.law_frame.specs.pg_run.pg_server.Local.{done_of}
use Rattle.law_frame.specs.pg_run.pg_store.declared.store.Store.{Store}
use Rattle.law_frame.specs.pg_run.pg_store.Births.{draw_birth, with_birth}
use Rattle.law_frame.proofs.Called.{call_keeps}
use Rattle.law_frame.proofs.KeepsCalls.{KeepsCalls}
use Rattle.law_begins.specs.Confirms.{EntersView}
use Rattle.law_begins.proofs.Pieces.{IsPlain, Rests, begin_none, begun_rests, ended_none, entry_rests, place_rests, raised_rests}

module _ (k : IntentKey) (plain : IsPlain k) (a : Store) (moment : ℕ) (first : intent_at a.intents k ≡ None) where
  abbrev Quiet : Done → Type 0
  Quiet d = Rests k plain d

  abbrev Fresh : Work
  Fresh = new_work moment 0

  abbrev Ends : Call → Done → Type 0
  Ends c d = Quiet d ⊎ EntersView a (input.Call moment c)

  keeps_rest : (c : Call) → KeepsCalls a Fresh c Quiet (Ends c)
  keeps_rest c = record {
    wishes = λ found some h. inl h;
    asks = λ file wish is some h. inl h;
    makes_new = λ kind policy path new is h. (
        let b = with_birth (with_id a) in
        let id = next_id a kind in
        (begin_none k plain b id (draw_birth (with_id a)) policy (blank_own id) true h.0, h.1));
    makes_place = λ d file place is h.
        place_rests k plain d.store file place (with_made d.work (update.Place file place)) h;
    makes_flag = λ d file raised is h. raised_rests k plain d.store file (own_next d.store file raised) d.work h;
    makes_version = λ d file ranges is h. h;
    begins_leave = λ file flag is h. begun_rests k plain a (leave_of file flag) Fresh (plain.no_leave file) h;
    fills = λ d id is h. h;
    strikes = λ id dir is h. h;
    marks = λ d id dir to is h. entry_rests k plain d.store to (bare_entry id (dead_at a moment id dir)) d.work h;
    begins_lost = λ id own is away h. (
        let b = with_birth a in
        (begin_none k plain (unfilled b id) id (draw_birth a) Last own true (ended_none k plain b (intent_key.Fill id) h.0), h.1));
    enters = λ view server is found h.
        inr (subst (λ (x : Call). EntersView a (input.Call moment x)) (sym is) (tt {0}, found));
    leaves = λ d h. inl h;
  }

  -- ANY CALL
  pub called : (c : Call) → Ends c (done_of (do_call a c Fresh))
  called c = call_keeps a Fresh Quiet (Ends c) c (keeps_rest c) (first, refl)
