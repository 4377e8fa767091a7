use Rattle.std.proofs.Common.{sym, ap, ◌∙◌}
use Rattle.pg_base.specs.Vector.{raised}
use Rattle.pg_content.proofs.Indexes.{joined_from, joined_past}
use Rattle.pg_content.proofs.index.raise_at.Goals as goal

pub returns-in_ok-raise-in-Some : goal.returns-in_ok-raise-in-Some
returns-in_ok-raise-in-Some c rest was =
    c.in_ok-raise-in-Some.ensures.ok ∙ ap (λ es. raised es c.in-Some.actor c.in-Some.number) was ∙ sym (joined_from c.args.vector.now rest c.args.index (c.in-Some.actor, c.in-Some.number) (sym c.in-Some.ensures.entry))

pub returns-in-None : goal.returns-in-None
returns-in-None c rest was = was ∙ sym (joined_past c.args.vector.now rest c.args.index (sym c.in-None.ensures.entry))
