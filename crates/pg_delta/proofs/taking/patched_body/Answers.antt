use Rattle.std.proofs.Common.{ap, ◌∙◌}
use Rattle.pg_patch.specs.Ranges.{applied}
use Rattle.pg_content.specs.Content.{shown_bytes}
use Rattle.pg_delta.proofs.Fronts.{front_enough}
use Rattle.pg_delta.proofs.taking.patched_body.Goals as goal

pub returns : goal.returns
returns c =
    let r = c.args.ranges.now in
    c.in_ok-apply-2.ensures ∙ ap (λ xs. applied xs r) (c.as_slice-3.ensures ∙ c.in_ok-view.ensures)
    ∙ front_enough (shown_bytes c.args.content.now) r c.parts-parts.ensures.ranges c.requires
