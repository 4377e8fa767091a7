use Rattle.std.proofs.Common.{◌*◌, ◌∙◌, [], ◌∷◌, ap, subst}
use Rattle.pg_event.specs.declared.event.Event.{Event}
use Rattle.pg_make.specs.Event.{next_event}
use Rattle.pg_make.specs.Made.{settling_after}
use Rattle.pg_sched.specs.declared.line.Line.TheVariants.{Happens}
use Rattle.rand_pcg.specs.Lcg.{Lcg}
use Rattle.pg_replay.specs.Soaked.{SoaksOn}
use Rattle.pg_replay.proofs.Soaked.{soaks_then}
use Rattle.pg_replay.proofs.soak.Soak.take_numbered.Goals as goal

pub returns-clause-lines : goal.returns-clause-lines
returns-clause-lines c =
    let a = c.args.self.now in
    let b = c.take.new.self in
    let d = c.take_settling.new.self in
    let rest = settling_after c.args.number in
    let P : Event × Lcg → Type 0 = λ p. SoaksOn a d (Happens p.0 ∷ rest) in
    subst P (c.in_ok-event.ensures.event
    ∙ ap (λ s. next_event s (10 * c.args.number) c.args.words.now) c.servers-servers.ensures)
    (soaks_then a b d (Happens c.in_ok-event.event ∷ []) rest c.in_ok-take.ensures c.in_ok-take_settling.ensures)

pub returns-clause-words : goal.returns-clause-words
returns-clause-words c =
    ap (λ (p : Event × Lcg). p.1) (c.in_ok-event.ensures.event
    ∙ ap (λ s. next_event s (10 * c.args.number) c.args.words.now) c.servers-servers.ensures)
