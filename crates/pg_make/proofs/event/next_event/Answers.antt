use Rattle.std.proofs.Common.{arith, subst, sym}
use Rattle.pg_event.specs.declared.event.Event.{Event}
use Rattle.pg_sched.specs.Line.{IsLine}
use Rattle.pg_sched.specs.declared.line.Line.TheVariants.{Happens}
use Rattle.rand_pcg.specs.Lcg.{Lcg}
use Rattle.pg_make.proofs.Spelled.{event_line}
use Rattle.pg_make.proofs.event.next_event.Goals as goal

pub returns-clause-line : goal.returns-clause-line
returns-clause-line c =
    let P : Event × Lcg → Type 0 = λ p. IsLine (Happens p.0) in
    subst P (sym c.in_ok-draw_event.ensures) (event_line c.args.servers c.args.moment c.args.words.now c.requires (omega arith))
