use Rattle.std.proofs.Common.{ap, ◌∙◌}
use Rattle.pg_content.specs.Index.{IndexValue, has_upto, covers_least}
use Rattle.pg_content.proofs.index.Index.covers_least.Goals as goal

pub returns-in-Some : goal.returns-in-Some
returns-in-Some c = ap (λ o. has_upto o c.args.number) c.in-Some.ensures.value ∙ ap (λ (i : IndexValue). covers_least i.least (c.args.actor, c.args.number)) c.self.view_is

pub returns-in-None : goal.returns-in-None
returns-in-None c = ap (λ o. has_upto o c.args.number) c.in-None.ensures.value ∙ ap (λ (i : IndexValue). covers_least i.least (c.args.actor, c.args.number)) c.self.view_is
