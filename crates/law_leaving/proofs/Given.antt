-- All that is asked of moments and events, from what other laws give.
use Rattle.std.proofs.Common.{ℕ, ◌≡◌, true, List, [], ◌∷◌, ◌++◌, Some, sym, subst}
use Rattle.pg_run.specs.pg_base.declared.id.FileId.{FileId}
use Rattle.pg_run.specs.pg_event.declared.event.Event.{Event}
use Rattle.theory_leaving.specs.Moment.{IsKept}
use Rattle.theory_leaving.specs.Rule.{Rule}
use Rattle.pg_run.specs.pg_register.Flag.{is_removed}
use Rattle.pg_run.specs.Run.{Taking, run, taking_in}
use Rattle.pg_run.specs.pg_store.Seen.{removed_of}
use Rattle.law_leaving.specs.Premises.{StandOn}
use Rattle.law_leaving.specs.Seen.{leaving, turn}
use Rattle.law_leaving.specs.Taken.{Site}
use Rattle.law_leaving.proofs.Acks.{acks}
use Rattle.law_leaving.proofs.Behind.{stays_or_goes}
use Rattle.law_leaving.proofs.InOrder.{in_order}
use Rattle.law_leaving.proofs.Rules.{Sends, byes, bye_oks, dropped, edges, ends, goes, owes, site_is, turn_to}
use Rattle.law_leaving.proofs.Said.{answers_are_to_accepted, byes_are_answered, byes_are_owed}
use Rattle.law_leaving.proofs.Stands.{Stands}
use Rattle.law_leaving.proofs.Start.{starts}
use Rattle.law_leaving.proofs.Unremoved.{stays_removed, unremoved}

module _ (n : ℕ) (on : StandOn n) (sends : Sends n) (file : FileId) (events : List Event) (event : Event) (t : Taking)
    (is : taking_in n (run n events) event ≡ Some t) (k : IsKept (leaving n file) events) where
  rule_is : Rule (leaving n file) events (events ++ event ∷ []) (turn n events event t)
  rule_is =
      let P : Site → Type 0 = (λ z.
      Rule (leaving n file) events (events ++ event ∷ []) (turn_to n on sends file events event t is k z)) in
      subst P (sym (site_is n on sends file events event t is k))
      (record {
        edges = edges n on sends file events event t is k;
        goes = goes n on sends file events event t is k;
        drops = dropped n on sends file events event t is k;
        owes = owes n on sends file events event t is k;
        ends = ends n on sends file events event t is k;
        removed = λ u h. subst (λ (z : Site). is_removed (removed_of z.store) u ≡ true)
            (site_is n on sends file events event t is k) (stays_removed n on events event t is u h);
        acks = λ m o own u b q g among ack.
            acks n on events event t.server t.asked is sends.answers file m o own u b q g among ack;
        byes = byes n on sends file events event t is k;
        bye_oks = bye_oks n on sends file events event t is k;
      })

pub stands : (n : ℕ) → StandOn n → Stands n
stands n on =
    let whole = on.whole in
    let intends = on.intents in
    let sends : Sends n = record {
      answers = answers_are_to_accepted n whole intends;
      owed = byes_are_owed n whole intends;
      answered = byes_are_answered n whole intends;
    } in
    record {
      start = starts n;
      order = in_order n on sends.answers;
      stay = stays_or_goes n on;
      rule = rule_is n on sends;
      unremoved = unremoved n on;
    }
