use Rattle.std.proofs.Common.{ap, ◌∙◌}
use Rattle.pg_server.specs.Local.{Effect}
use Rattle.pg_server.proofs.Results.{effect_is}
use Rattle.pg_server.proofs.server.Server.step.Goals as goal

pub returns-clause-store : goal.returns-clause-store
returns-clause-store c =
    c.in_ok-out.ensures.store ∙ ap (λ (e : Effect). e.store) (effect_is c.args.self.now.store c.args.input)

pub returns-clause-out : goal.returns-clause-out
returns-clause-out c =
    c.in_ok-out.ensures.out ∙ ap (λ (e : Effect). e.out) (effect_is c.args.self.now.store c.args.input)
