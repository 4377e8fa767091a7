-- A Want for a head is answered by the shortest change that what was made and taken leads to.
use Rattle.std.proofs.Common.{ℕ, ◌≡◌, ◌<◌, ◌^◌, List, Option, option_map, sym, ap, subst, ◌∙◌}
use Rattle.pg_run.specs.pg_delta.declared.delta.KeptDelta.{KeptDelta}
use Rattle.pg_run.specs.pg_delta.Chain.{IsDelta}
use Rattle.pg_run.specs.pg_delta.Kept.{kept_deltas}
use Rattle.pg_run.specs.pg_replica.declared.replica.Replica.{Replica}
use Rattle.pg_run.specs.pg_replica.Replicas.{or_nothing}
use Rattle.pg_run.specs.Deltas.{WantsGetTheShortestChange, deltas_after}
use Rattle.pg_run.specs.Run.{Step, Taking, run}
use Rattle.pg_run.specs.pg_pieces.declared.accepting.EdgeUse.TheVariants as manner
use Rattle.pg_run.specs.pg_server.declared.input.Input.TheVariants as input
use Rattle.pg_run.specs.pg_store.Store.{replica_of}
use Rattle.law_contents.specs.Together.{StandOn}
use Rattle.law_contents.proofs.Accepted.{accepted_there}
use Rattle.law_contents.proofs.Changes.{core_of}
use Rattle.law_contents.proofs.KeptRuns.{keeps_what_it_made_or_took}
use Rattle.law_contents.proofs.Runs.{run_sound}
use Rattle.pg_run.proofs.Frame.{acts_is, next_is}
use Rattle.pg_run.proofs.theory_bodies.Computing.{HaveRanges}
use Rattle.law_ticks.specs.Given.{TidinessIsGiven}
use Rattle.law_ticks.proofs.Ticks.{tidy}
use Rattle.law_deltas.proofs.Answered.{Change, only_answers}
use Rattle.law_deltas.proofs.Computed.{delta_is}

-- THE SHORTEST CHANGE
pub wants_get_the_shortest_change : (n : ℕ) → n < 2 ^ 32 → StandOn n → TidinessIsGiven n
    → WantsGetTheShortestChange n
wants_get_the_shortest_change n small stand given events event s from ends wanted v i =
    let w = run n events in
    let a = w.stores s in
    let t : Taking = record { server = s; asked = input.Arrival i.packet } in
    let acts = acts_is n w event t i.takes in
    let k = tidy n given events s acts.least acts.most in
    let x = accepted_there a from manner.Needs ends i.accepted in
    let c = Change a from ends wanted v i.file i.accepted i.offset i.head in
    let deltas = kept_deltas (deltas_after n events s ends.file) in
    let here : (replica_of a ends.file).kept ≡ x.0.kept =
    ap (λ (o : Option Replica). (or_nothing o).kept) x.1 in
    let ranges : HaveRanges (replica_of a ends.file).kept =
    subst HaveRanges (sym here)
    (((run_sound n small stand events).stands s).ranges ends.file (core_of x.0)
    (ap (option_map core_of) x.1)) in
    let same : (replica_of a ends.file).kept ≡ deltas =
    here
    ∙ keeps_what_it_made_or_took n small stand events ends.file s acts.least acts.most x.0 x.1 in
    let P : List KeptDelta → Type 0 =
    (λ ds. IsDelta ds wanted.heads v.head.stamp v.head.length c) in (
      c,
      subst P same
          (delta_is (replica_of a ends.file).kept ranges wanted.heads v.head.stamp v.head.length),
      ap (λ (step : Step). step.entry.sent) (next_is n w event t i.takes)
          ∙ only_answers a from ends wanted v i.file i.accepted i.offset i.head n s k i.packet
          i.heard i.is i.sender,
    )
