-- EVERY RUN KEEPS THE EDGES, with what was taken.
use mathlib.Core.Path.{fun_ext}
use Rattle.std.proofs.Common.{ℕ, ◌≡◌, ◌==◌, Bool, true, false, cond, List, ◌++◌, Some, refl, subst}
use Rattle.std.proofs.lemmas.List.Elements.{All-append, All-contains}
use Rattle.pg_run.specs.pg_event.declared.event.Event.{Event}
use Rattle.pg_run.specs.theory_flood.Protocol.{KeepsEdges, Promised}
use Rattle.pg_run.specs.theory_flood.World.{after}
use Rattle.pg_run.proofs.theory_flood.Late.{late}
use Rattle.pg_run.specs.pg_msg.declared.message.Sent.{Sent}
use Rattle.pg_run.specs.theory_flood_pieces.Seen.{says}
use Rattle.pg_run.specs.pg_server.declared.input.Input.{Input}
use Rattle.pg_run.specs.pg_server.declared.input.Input.TheVariants as input
use Rattle.pg_run.specs.pg_server.Local.{effect}
use Rattle.pg_run.specs.pg_store.declared.store.Store.{Store}
use Rattle.pg_run.specs.Journal.{mail}
use Rattle.pg_run.specs.Ruled.{heard_in}
use Rattle.pg_run.specs.Run.{Taking, World, effect_step, run, taking_in, took_after, world_after}
use Rattle.pg_run.specs.Took.{Take}
use Rattle.pg_run.proofs.Frame.{Acts, HasCome, all_parts, holds_in_runs, no_server_comes}
use Rattle.law_leaving.specs.Answers.{AnswersAreToAccepted}
use Rattle.law_leaving.specs.Premises.{StandOn}
use Rattle.law_leaving.specs.Taken.{Site, site, taking}
use Rattle.law_leaving.proofs.Start.{start_taken}
use Rattle.law_leaving.proofs.Taking.{late_rule}

abbrev Keeps : World → Type 0
Keeps w = KeepsEdges taking (site w) (mail w.journal)

-- the order of messages does not matter
other_way : (nodes : ℕ → Site) (ms sent : List Sent) → KeepsEdges taking nodes (ms ++ sent) → KeepsEdges taking nodes (sent ++ ms)
other_way nodes ms sent k =
    let P : Sent → Type 0 = (λ m. Promised taking nodes (says m)) in
    let parts = all_parts P ms sent k.promises in
    record { edges = k.edges; promises = All-append P sent ms parts.1 parts.0; notes = k.notes }

-- what each server holds and took, where one acts
both_after : (w : World) (s : ℕ) (b : Store) (t : List Take) (k : ℕ) (here : Bool)
    → ◌≡◌ {A = Site} (cond here (record { store = b; took = t }) (site w k))
    (record { store = cond here b (w.stores k); took = cond here t (w.took k) })
both_after w s b t k true = refl
both_after w s b t k false = refl

module _ (n : ℕ) (on : StandOn n) (answers : AnswersAreToAccepted n) (events : List Event) (event : Event) (t : Taking)
    (is : taking_in n (run n events) event ≡ Some t) (acts : Acts n (run n events) t) (k : Keeps (run n events)) where
  abbrev W : World
  W = run n events

  abbrev S : ℕ
  S = t.server

  abbrev B : Store
  B = (effect (W.stores S) t.asked).store

  abbrev U : List Take
  U = took_after (W.stores S) (W.asked S) (W.took S) t.asked

  abbrev Next : Site
  Next = record { store = B; took = U }

  abbrev Out : List Sent
  Out = (effect (W.stores S) t.asked).out.sent

  heard_by : (asked : Input) → HasCome W S asked → Promised taking (site W) (heard_in S asked)
  heard_by (input.Call moment call) came = tt
  heard_by (input.Tick moment word) came = tt
  heard_by (input.Arrival packet) came =
      let m : Sent = record { to = S; packet = packet } in
      All-contains (λ (x : Sent). Promised taking (site W) (says x)) (mail W.journal) m k.promises came
  heard_by input.Restart came = tt

  acted : Keeps (world_after W (effect_step W event S t.asked))
  acted =
      let kept : KeepsEdges taking (after (site W) S Next) (Out ++ mail W.journal) =
      other_way (after (site W) S Next) (mail W.journal) Out
      (late taking (site W) S Next (heard_in S t.asked) Out (mail W.journal) (λ a x h. h) k (heard_by t.asked acts.came)
      (late_rule n on answers events event S t.asked is)) in
      let P : (ℕ → Site) → Type 0 = (λ nodes. KeepsEdges taking nodes (Out ++ mail W.journal)) in
      subst P (fun_ext (λ (i : ℕ). both_after W S B U i (i == S))) kept

pub runs_keep_taken : (n : ℕ) → StandOn n → AnswersAreToAccepted n → (events : List Event)
    → KeepsEdges taking (site (run n events)) (mail (run n events).journal)
runs_keep_taken n on answers events = holds_in_runs n Keeps (record {
  first = start_taken n;
  idle = λ w event cause k. record { edges = k.edges; promises = k.promises; notes = k.notes };
  comes = λ past event server is k. absurd (no_server_comes event server is);
  acts = λ before event t is acts k. acted n on answers before event t is acts k;
}) events
