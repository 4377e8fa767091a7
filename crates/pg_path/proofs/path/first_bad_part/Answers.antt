use Rattle.std.proofs.Common.{rules, tests, ◌==◌}
use Rattle.std.proofs.lemmas.Iterator.{IsFirst-from_position}
use Rattle.std.proofs.lemmas.Iterator.Splits.{YieldsList-from_slice_split}
use Rattle.pg_path.specs.Path.{IsComponent}
use Rattle.pg_path.proofs.Firsts.{found, none}
use Rattle.pg_path.proofs.path.first_bad_part.Goals as goal

pub returns-clause-found : goal.returns-clause-found
returns-clause-found c =
    found IsComponent _ c.position.result
    (IsFirst-from_position _ _ c.position.result (λ p. ¬ (IsComponent p)) IsComponent c.position.ensures.ran
    (YieldsList-from_slice_split _ (λ b. b == 47) c.args.text.now c.split.ensures.rest c.split.ensures.done c.split.ensures.closure (λ x b q h. search (rules, tests)))
    (λ x q k. search (rules, tests)) (λ x q k. search (rules, tests)))

pub returns-clause-none : goal.returns-clause-none
returns-clause-none c =
    none IsComponent _ c.position.result
    (IsFirst-from_position _ _ c.position.result (λ p. ¬ (IsComponent p)) IsComponent c.position.ensures.ran
    (YieldsList-from_slice_split _ (λ b. b == 47) c.args.text.now c.split.ensures.rest c.split.ensures.done c.split.ensures.closure (λ x b q h. search (rules, tests)))
    (λ x q k. search (rules, tests)) (λ x q k. search (rules, tests)))
