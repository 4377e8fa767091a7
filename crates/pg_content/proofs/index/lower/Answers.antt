use Rattle.std.proofs.Common.{◌≡◌, ap, ◌∙◌}
use Rattle.std.specs.Map.{lookup}
use Rattle.std.specs.BTreeMap.{is_at}
use Rattle.pg_base.specs.Vector.{actor_cmp}
use Rattle.pg_content.proofs.Indexes.{lowest, lowered}
use Rattle.pg_content.proofs.index.lower.Goals as goal
use Rattle.pg_content.proofs.index.lower.Goals.{in-Some, in-None}

pub returns : goal.returns
returns c =
    let low : c.match-get.number ≡ lowest (lookup (is_at (actor_cmp c.args.actor)) c.args.least.now.entries) c.args.number = elim c.match-get.branch [
      | in-Some w ↦ w.number-is ∙ w.min-number.ensures ∙ ap (λ o. lowest o c.args.number) w.in-Some.ensures.value
      | in-None w ↦ w.number-is ∙ ap (λ o. lowest o c.args.number) w.in-None.ensures.value
    ] in
    lowered c.args.least.now.entries c.insert.new.self.entries c.args.actor c.args.number c.match-get.number low c.in_ok-insert.ensures.entries
