use Rattle.std.proofs.Common.{ap, length, sym, ◌∙◌}
use Rattle.pg_event.specs.declared.quiet.Cause.TheVariants.{Message}
use Rattle.pg_event.specs.declared.quiet.Quiet.TheVariants.{Waits}
use Rattle.pg_world.proofs.Waiting.{none_there, waits_for, waits_message, waits_not, waits_view}
use Rattle.pg_world.proofs.machine.Machine.quiet.Goals as goal

pub returns-in-Some : goal.returns-in-Some
returns-in-Some c = λ w h.
    ap (λ x. Waits (Message x)) c.summary.ensures
    ∙ waits_message (length c.args.self.now.servers.items) w c.args.self.now.bag c.in-Some.sent.now h.bag c.in-Some.ensures

pub returns-in-Some-lagging : goal.returns-in-Some-lagging
returns-in-Some-lagging c = λ w h.
    let none = none_there c.args.self.now.bag (sym c.in-None.ensures) in
    waits_view (length c.args.self.now.servers.items) w (sym h.bag ∙ none) c.in-Some-lagging.cause (c.in-Some-lagging.ensures w h)

pub returns-in-Some-owed : goal.returns-in-Some-owed
returns-in-Some-owed c = λ w h.
    let none = none_there c.args.self.now.bag (sym c.in-None.ensures) in
    waits_for (length c.args.self.now.servers.items) w (sym h.bag ∙ none) (c.in-None-lagging.ensures w h) c.in-Some-owed.cause
    (c.in-Some-owed.ensures w h)

pub returns-in-None-owed : goal.returns-in-None-owed
returns-in-None-owed c = λ w h.
    let none = none_there c.args.self.now.bag (sym c.in-None.ensures) in
    waits_not (length c.args.self.now.servers.items) w (sym h.bag ∙ none) (c.in-None-lagging.ensures w h) (c.in-None-owed.ensures w h)
