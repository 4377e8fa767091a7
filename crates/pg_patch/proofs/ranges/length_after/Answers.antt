use Rattle.std.proofs.Common.{rules, ◌∙◌, ap}
use Rattle.pg_patch.specs.Ranges.{length_of}
use Rattle.pg_patch.proofs.Composed.{length-applied}
use Rattle.pg_patch.proofs.ranges.length_after.Goals as goal

pub returns-clause-of_the_result : goal.returns-clause-of_the_result
returns-clause-of_the_result c = λ body e. length-applied body c.args.ranges.now ∙ ap (λ n. length_of n c.args.ranges.now) e ∙ search rules
