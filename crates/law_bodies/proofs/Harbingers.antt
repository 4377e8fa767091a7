-- THE FIRST HARBINGER of a version in a run: its sender is asked, and all others hear of it.
use Rattle.std.proofs.Common.{[], ℕ, ◌≡◌, ◌++◌, Bool, true, false, not, cond, List, ◌∷◌, None, refl, sym, ap, subst, ◌∙◌, All}
use Rattle.std.proofs.lemmas.Bool.{and_parts, false≢true, not-true}
use Rattle.std.proofs.lemmas.List.Elements.{All-nil}
use Rattle.pg_run.specs.pg_base.declared.head.Head.{Head}
use Rattle.pg_run.specs.pg_event.declared.event.Event.{Event}
use Rattle.pg_run.specs.pg_msg.declared.message.Ends.{Ends}
use Rattle.pg_run.specs.pg_msg.declared.message.Message.{Message}
use Rattle.pg_run.specs.pg_msg.declared.work.Linked.{Linked}
use Rattle.pg_run.specs.pg_msg.declared.work.Work.{Work}
use Rattle.pg_run.specs.pg_msg.Work.{new_work}
use Rattle.pg_run.specs.pg_store.declared.store.Store.{Store}
use Rattle.pg_run.specs.pg_store.Births.{has_birth}
use Rattle.pg_run.specs.pg_store.Links.{is_new_link, knows_later, put_link}
use Rattle.pg_run.specs.pg_pieces.declared.accepting.EdgeUse.TheVariants as manner
use Rattle.pg_run.specs.pg_pieces.Accepting.{accept, is_accepted, is_current, link_peer, meets, with_gone, with_link}
use Rattle.pg_run.specs.pg_pieces.Done.{Done, idle}
use Rattle.pg_run.specs.pg_server.declared.input.Input.TheVariants as input
use Rattle.pg_run.specs.pg_server.Local.{Effect, closed, effect, finished, receive}
use Rattle.pg_run.specs.pg_server.pg_transfer.Harbinger.{harbinger, heard, heard_along}
use Rattle.pg_run.specs.theory_flood_pieces.Whole.{IsWhole}
use Rattle.pg_run.specs.Bodies.{FirstHarbingersAsk, HearsFirst, IsOfLink, SendsFirst}
use Rattle.pg_run.specs.Laws.{store_after}
use Rattle.pg_run.specs.Run.{Step, Taking, World, next, run, start}
use Rattle.pg_run.proofs.theory_flood.Flood.{after_itself}
use Rattle.pg_run.proofs.Frame.{acts_is, next_is, run_more}
use Rattle.pg_run.proofs.Ticks.{IsTidy}
use Rattle.law_ticks.specs.Given.{TidinessIsGiven}
use Rattle.law_ticks.proofs.Ticks.{tidy}
use Rattle.law_bodies.proofs.First.{Leaving, closed_first, no_keys, sends_first}
use Rattle.law_bodies.proofs.Keys.{link_cells}
use Rattle.law_bodies.proofs.Linked.{beside_itself, put_beside}

module _ (n : ℕ) (given : TidinessIsGiven n) (events : List Event) (event : Event) (s from : ℕ)
    (ends : Ends) (head : Head) (h : HearsFirst n (run n events) event s from ends head) where
  abbrev W : World
  W = run n events

  abbrev A : Store
  A = W.stores s

  abbrev Arriving : Taking
  Arriving = record { server = s; asked = input.Arrival h.packet }

  abbrev Work0 : Work
  Work0 = new_work 0 from

  tidy_at : (all : List Event) → IsTidy n s (store_after n all s)
  tidy_at all =
      let acts = acts_is n W event Arriving h.takes in tidy n given all s acts.least acts.most

  -- ---- it is accepted

  current : (has_birth A ends.file ends.receiver ≡ true)
      × (not (knows_later A ends.file from ends.sender) ≡ true)
  current =
      and_parts (has_birth A ends.file ends.receiver) (not (knows_later A ends.file from ends.sender))
      (and_parts (is_current A from ends) (meets A from manner.Makes ends) h.accepted).0

  linked_is : accept A ends manner.Makes Work0 ≡ link_peer A ends.file from ends.sender Work0
  linked_is =
      let later = knows_later A ends.file from ends.sender in
      let linked = link_peer A ends.file from ends.sender Work0 in
      ap (λ t. cond t (cond later (idle A Work0) linked) (idle A (with_gone A ends manner.Makes Work0))) current.0
      ∙ ap (λ t. cond t (idle A Work0) linked) (not-true later current.1)

  -- ---- by whether it made an edge

  abbrev HeardIf : Bool → Done
  HeardIf t = heard (cond t (put_link A ends.file from ends.sender) A) ends h.tag head
      (with_link t Work0 ends.file from)

  abbrev Ending : Bool → Effect
  Ending t = closed None (HeardIf t)

  heard_is : harbinger A ends h.tag head Work0
      ≡ HeardIf (is_new_link A ends.file from ends.sender)
  heard_is =
      let linked = accept A ends manner.Makes Work0 in
      ap (λ t. cond t (idle A Work0) (heard_along (is_accepted A from manner.Makes ends) ends h.tag head linked)) h.file
      ∙ ap (λ t. heard_along t ends h.tag head linked) h.accepted
      ∙ ap (λ (d : Done). heard_along true ends h.tag head d) linked_is

  abbrev End : Bool → Message → ℕ → Effect
  End t m g = cond t (closed None (cond t (receive A m (new_work 0 g)) (idle A (new_work 0 g))))
      (finished None (cond t (receive A m (new_work 0 g)) (idle A (new_work 0 g))))

  effect_is : effect A (input.Arrival h.packet) ≡ closed None (harbinger A ends h.tag head Work0)
  effect_is = λ i. End (h.heard i) (h.is i) (h.sender i)

  ending_is : effect A (input.Arrival h.packet)
      ≡ Ending (is_new_link A ends.file from ends.sender)
  ending_is = effect_is ∙ ap (closed None) heard_is

  abbrev Sends : Effect → Type 0
  Sends e = SendsFirst A e.store from ends head e.out.sent

  by_link : (t : Bool) → is_new_link A ends.file from ends.sender ≡ t
      → IsWhole n s (Ending t).store → Sends (Ending t)
  by_link true is whole =
      let a = A in
      let b = put_link A ends.file from ends.sender in
      let ls : List Linked = record { file = ends.file; peer = from } ∷ [] in
      let beside = put_beside A ends.file from ends.sender in
      let k = tidy_at events in
      let same = closed_first n s A k b ls from ends h.tag head beside h.uncovered h.unannounced h.unawaited in
      let then = subst (λ (e : Effect). IsWhole n s e.store) same whole in
      subst Sends (sym same)
      (sends_first n s A k b ls from ends h.tag head beside
      (link_cells n s (Leaving n s A k b ls from ends h.tag head beside).store then ends.file from)
      (λ old. absurd (false≢true (sym old ∙ is))))
  by_link false is whole =
      let beside = beside_itself A ends.file in
      let k = tidy_at events in
      let same = closed_first n s A k A [] from ends h.tag head beside h.uncovered h.unannounced h.unawaited in
      let none = no_keys n s A k A [] from ends h.tag head beside refl in
      subst Sends (sym same)
      (sends_first n s A k A [] from ends h.tag head beside
      (subst (All (IsOfLink (Leaving n s A k A [] from ends h.tag head beside).store from ends.file)) (sym none)
      (All-nil (IsOfLink (Leaving n s A k A [] from ends h.tag head beside).store from ends.file)))
      (λ old. (none, refl)))

  -- ---- in the run

  abbrev Behind : Effect
  Behind = effect A (input.Arrival h.packet)

  store_is : store_after n (events ++ event ∷ []) s ≡ Behind.store
  store_is =
      ap (λ (v : World). v.stores s) (run_more n (start n) events event)
      ∙ ap (λ (step : Step). step.stores s) (next_is n W event Arriving h.takes)
      ∙ after_itself W.stores s Behind.store

  all_sends : Sends Behind
  all_sends =
      let t = is_new_link A ends.file from ends.sender in
      let whole = subst (IsWhole n s) store_is (tidy_at (events ++ event ∷ [])).whole in
      subst Sends (sym ending_is)
      (by_link t refl (subst (λ (e : Effect). IsWhole n s e.store) ending_is whole))

  pub asks_first : SendsFirst A ((next n W event).stores s) from ends head (next n W event).entry.sent
  asks_first =
      subst (λ (step : Step). SendsFirst A (step.stores s) from ends head step.entry.sent)
      (sym (next_is n W event Arriving h.takes))
      (subst (λ (b : Store). SendsFirst A b from ends head Behind.out.sent)
      (sym (after_itself W.stores s Behind.store)) all_sends)

pub first_harbingers_ask : (n : ℕ) → TidinessIsGiven n → FirstHarbingersAsk n
first_harbingers_ask n given events event s from ends head h = asks_first n given events event s from ends head h
