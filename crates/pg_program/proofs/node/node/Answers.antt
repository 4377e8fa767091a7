use Rattle.std.proofs.Common.{refl, rules}
use Rattle.pg_program.proofs.Nodes.{answered_before, answered_named, is_utf8, survives_idle, survives_named}
use Rattle.pg_program.proofs.node.node.Goals as goal

pub unreachable-requires : goal.unreachable-requires
unreachable-requires g c = absurd (c.in-Err.ensures.cases.0 (is_utf8 c.args.name.now c.requires.named))

pub returns-in-Err-choose-clause-safe : goal.returns-in-Err-choose-clause-safe
returns-in-Err-choose-clause-safe g c = survives_idle _ _ _ _ _ _ _ _ _ _ refl (λ tells. search rules)

pub returns-in-Ok-choose-clause-safe : goal.returns-in-Ok-choose-clause-safe
returns-in-Ok-choose-clause-safe g c =
    survives_named _ _ _ _ _ _ _ _ _ _ _ _ _ _ _ _ _ _ (λ tells. search rules) c.serve.ensures.served

pub returns-in-Ok-choose-clause-answers : goal.returns-in-Ok-choose-clause-answers
returns-in-Ok-choose-clause-answers g c = λ tells.
    answered_before _ _ _ _ _ _ _ _ _ c.choose.ensures.cause.later
    (answered_named _ _ _ _ _ _ c.args.name.now (g.D.Disk.told c.args.disk.now)
    (g.D.Disk.told c.choose.new.self) _ (search rules) (c.serve.ensures.found tells))
