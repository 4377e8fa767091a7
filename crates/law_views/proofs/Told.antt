-- The laws of views.
use Rattle.std.proofs.Common.{[], ℕ, ◌≡◌, true, List, ◌∷◌, ◌++◌, length, take, Option, None, Some, inl, inr, refl, sym, ap, subst, ◌∙◌}
use Rattle.std.proofs.lemmas.List.{append-nil, append_assoc}
use Rattle.std.proofs.lemmas.List.Elements.{All-contains}
use Rattle.law_frame.specs.pg_run.pg_event.declared.event.Event.{Event}
use Rattle.law_frame.proofs.pg_run.theory_flood.Flood.{here}
use Rattle.law_frame.specs.pg_run.pg_intent.Target.{IsLiveOther}
use Rattle.law_frame.specs.pg_run.pg_register.Flag.{is_removed}
use Rattle.law_frame.specs.pg_run.pg_store.declared.store.Store.{Store}
use Rattle.law_frame.specs.pg_run.pg_store.Seen.{removed_of, server_of}
use Rattle.law_frame.specs.pg_run.pg_server.Local.{effect}
use Rattle.law_frame.specs.pg_run.Journal.{mail, removals}
use Rattle.law_frame.specs.pg_run.Run.{Step, Taking, World, next, run, start, taking_in}
use Rattle.law_frame.specs.pg_run.Views.{MessagesAreOfViews, MessagesAreSentInView, ViewsArePrefixes, ViewsGrow}
use Rattle.law_frame.proofs.pg_run.Frame.{IsFramed, acts_is, framed, run_more}
use Rattle.law_views.proofs.Fine.{IsOfLive, IsSent}
use Rattle.law_views.proofs.Lists.{one_leads, stays_removed}
use Rattle.law_views.proofs.Seen.{IsPeer}
use Rattle.law_views.proofs.Targets.{live_test}
use Rattle.law_views.proofs.Worlds.{IsOf, front, leaves, run_holds}
use Rattle.law_views.specs.Premises.{StandOn}

pub views_are_prefixes : (n : ℕ) → StandOn n → ViewsArePrefixes n
views_are_prefixes n stand events s least most =
    let a = (run n events).stores s in
    let k = (run_holds n stand events).servers s least most in
    let R = removed_of a in
    record {
      front = k.front;
      within = k.within;
      own = k.own;
      edges = λ file x e there among. one_leads (IsPeer n s R) x.edges e among (k.seen.edges file x there);
      wishes = λ file wish there some.
          live_test a wish.target
          (subst (λ (m : ℕ). IsLiveOther m (server_of a) R wish.target) (sym k.seen.servers)
          (subst (λ (j : ℕ). IsLiveOther n j R wish.target) (sym k.seen.server) (k.seen.wishes file wish there some)));
    }

pub messages_are_of_views : (n : ℕ) → StandOn n → MessagesAreOfViews n
messages_are_of_views n stand events m sent =
    let w = run n events in
    let k = All-contains (IsOf (removals w.journal) w.stores) (mail w.journal) m (run_holds n stand events).messages sent in
    record {
      view = k.view;
      sender = k.sender;
      origin = λ ends from birth hops word is.
          subst (IsOfLive (take m.packet.view (removals w.journal))) is k.live;
    }

pub messages_are_sent : (n : ℕ) → StandOn n → MessagesAreSentInView n
messages_are_sent n stand events event s asked takes m sent =
    let w = run n events in
    let t : Taking = record { server = s; asked = asked } in
    let left = leaves n stand events event t takes (acts_is n w event t takes) (run_holds n stand events) in
    let one = All-contains (IsSent n s left.view) (effect (w.stores s) asked).out.sent m left.sent sent in
    (one.from, one.view ∙ ap (λ (xs : List ℕ). length xs) (sym left.seen.removed))

-- ---- along runs

module _ (n : ℕ) (stand : StandOn n) (s t : ℕ) where
  abbrev IsGone : Store → Type 0
  IsGone a = is_removed (removed_of a) t ≡ true

  framed_gone : (events : List Event) (event : Event) (o : Option Taking) (step : Step) → taking_in n (run n events) event ≡ o
      → IsFramed n (run n events) event o step → IsGone ((run n events).stores s) → IsGone (step.stores s)
  framed_gone events event None step is f gone =
      subst (λ (z : Step). IsGone (z.stores s)) (sym f.1) gone
  framed_gone events event (Some u) step is f gone =
      let w = run n events in
      let a = w.stores u.server in
      let b = (effect a u.asked).store in
      let k = run_holds n stand events in
      let left = leaves n stand events event u is f.0 k in
      let grown = front n stand events event u is f.0 k in
      let later : is_removed (removed_of a) t ≡ true → IsGone b =
      λ h. ap (λ (xs : List ℕ). is_removed xs t) (left.seen.removed ∙ grown.grown) ∙ stays_removed (removed_of a) grown.more t h in
      subst (λ (z : Step). IsGone (z.stores s)) (sym f.1) (elim (here w.stores u.server b s) [
        | inl e ↦ subst IsGone (sym e.1) (later (subst (λ (i : ℕ). IsGone (w.stores i)) e.0 gone))
        | inr e ↦ subst IsGone (sym e.1) gone
      ])

  one_more : (events : List Event) (event : Event) → IsGone ((run n events).stores s)
      → IsGone ((run n (events ++ event ∷ [])).stores s)
  one_more events event gone =
      let w = run n events in
      subst (λ (v : World). IsGone (v.stores s)) (sym (run_more n (start n) events event))
      (framed_gone events event (taking_in n w event) (next n w event) refl (framed n w event) gone)

  gone_on : (more events : List Event) → IsGone ((run n events).stores s) → IsGone ((run n (events ++ more)).stores s)
  gone_on [] events gone = subst (λ (es : List Event). IsGone ((run n es).stores s)) (sym (append-nil events)) gone
  gone_on (event ∷ more) events gone =
      subst (λ (es : List Event). IsGone ((run n es).stores s)) (append_assoc events (event ∷ []) more)
      (gone_on more (events ++ event ∷ []) (one_more events event gone))

pub views_grow : (n : ℕ) → StandOn n → ViewsGrow n
views_grow n stand events more s least most t gone = gone_on n stand s t more events gone
