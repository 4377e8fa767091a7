-- A refused call in a run: what the end of its event leaves, and a void event is told to no client.
use Rattle.std.proofs.Common.{ℕ, ◌≡◌, Bool, true, false, cond, Some, refl, sym, subst, ◌∙◌}
use Rattle.std.proofs.lemmas.Option.{none-some, same_Some}
use Rattle.pg_run.specs.pg_call.declared.call.Call.{Call}
use Rattle.pg_run.specs.pg_call.declared.refusal.Refusal.{Refusal}
use Rattle.pg_run.specs.pg_call.declared.reply.Reply.{Reply}
use Rattle.pg_run.specs.pg_call.declared.reply.Reply.TheVariants.{Refused}
use Rattle.pg_run.specs.pg_event.declared.event.Event.{Event}
use Rattle.pg_run.specs.pg_event.declared.event.Event.TheVariants.{Call as Called}
use Rattle.pg_run.specs.pg_msg.Work.{new_work}
use Rattle.pg_run.specs.pg_pieces.Done.{Done}
use Rattle.pg_run.specs.pg_store.declared.store.Store.{Store}
use Rattle.pg_run.specs.pg_store.Store.{is_before_clock_end}
use Rattle.pg_run.specs.pg_checks.Answer.{Answer}
use Rattle.pg_run.specs.pg_calls.Calls.{do_call}
use Rattle.pg_run.specs.pg_server.declared.input.Input.{Input}
use Rattle.pg_run.specs.pg_server.declared.input.Input.TheVariants as input
use Rattle.pg_run.specs.pg_server.Local.{Effect, done_of, effect}
use Rattle.pg_run.specs.Run.{Step, World, effect_step, given_step, idle_step, is_due, is_live, run, why_void}
use Rattle.pg_run.specs.Journal.{removals}
use Rattle.pg_run.proofs.theory_flood.Flood.{after_itself}
use Rattle.pg_run.proofs.Frame.{IsLive, live_is, other_after}
use Rattle.pg_run.proofs.Ticks.{IsTidy}
use Rattle.law_ticks.specs.Given.{TidinessIsGiven}
use Rattle.law_ticks.proofs.Ticks.{tidy}
use Rattle.law_turns.proofs.Told.{ByServer, flags_by_server}
use Rattle.law_refused.specs.Refusals.{AsksFor, RefusalLeaves, RefusalsChangeNothing}
use Rattle.law_refused.proofs.Ended.{End, RefusalEnds, refusal_ends}
use Rattle.law_refused.proofs.Left.{refusal_left}

module _ (n : ℕ) (w : World) (s moment : ℕ) (c : Call) (why : Refusal) where
  abbrev A : Store
  A = w.stores s

  abbrev Asked : Input
  Asked = input.Call moment c

  abbrev Behind : Effect
  Behind = effect A Asked

  abbrev Answered : Answer
  Answered = do_call A c (new_work moment 0)

  abbrev E : Event
  E = Called s moment c

  told : (t : Bool) (d : Done) (r : Reply) → (End t r d).out.reply ≡ Some r
  told true d r = refl
  told false d r = refl

  ends : IsTidy n s A → ByServer A → Behind.out.reply ≡ Some (Refused why) → RefusalEnds A why Behind
  ends k flags is =
      let t = is_before_clock_end A in
      let r = Answered.reply in
      let refused : r ≡ Refused why = same_Some r (Refused why) (sym (told t (done_of Answered) r) ∙ is) in
      refusal_ends n s A k flags moment why r t Answered (refusal_left A (new_work moment 0) why c refused)

  taken : IsTidy n s A → ByServer A → Behind.out.reply ≡ Some (Refused why)
      → RefusalLeaves w s why (effect_step w E s Asked)
  taken k flags is =
      let e = ends k flags is in
      let here = after_itself w.stores s Behind.store in
      record {
        void = refl;
        made = e.made;
        still = λ j apart. other_after w.stores s Behind.store j apart;
        other = λ no. (here ∙ (e.other no).0, (e.other no).1);
        missing = λ file not_yet.
            subst (λ (b : Store). AsksFor A b file Behind.out.sent) (sym here) (e.missing file not_yet);
      }

  abbrev Stepping : Bool → Bool → Step
  Stepping t u = cond t (given_step w E s Asked u) (idle_step w E (Some (why_void n s)))

  leaves_by : (IsLive n w s → IsTidy n s A × ByServer A) → (t u : Bool) → is_live n w s ≡ t
      → (Stepping t u).entry.reply ≡ Some (Refused why) → RefusalLeaves w s why (Stepping t u)
  leaves_by k true true live is = let here = k (live_is n w s live) in taken here.0 here.1 is
  leaves_by k true false live is = absurd (none-some (Refused why) is)
  leaves_by k false u live is = absurd (none-some (Refused why) is)

-- REFUSALS CHANGE NOTHING
pub refusals_change_nothing : (n : ℕ) → TidinessIsGiven n → RefusalsChangeNothing n
refusals_change_nothing n given events s moment c why is =
    let w = run n events in
    leaves_by n w s moment c why
    (λ live. (tidy n given events s live.least live.most, flags_by_server n events s live.least live.most))
    (is_live n w s) (is_due (removals w.journal) c) refl is
