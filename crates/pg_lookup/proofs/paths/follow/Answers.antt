use Rattle.std.proofs.Common.{Bool, ◌∙◌, ap, sym, ◌+◌, drop, take}
use Rattle.pg_lookup.specs.Walk.{and_then, look_up, walk_from}
use Rattle.pg_lookup.proofs.Steps.{one_step}
use Rattle.pg_lookup.proofs.paths.follow.Goals as goal

pub returns : goal.returns
returns c =
    let a = c.args in
    let rest = drop (a.index + 1) (take a.count a.path.now) in
    one_step a.names.now a.found a.index a.count a.needs_dir a.path.now c.part.result.now
    c.requires.inside c.requires.some c.part.ensures.bytes
    ∙ ap (λ (b : Bool). and_then (look_up a.names.now a.found (a.index + 1) b c.part.result.now)
    (λ next. walk_from a.names.now next (a.index + 1 + 1) a.needs_dir rest))
    (sym c.is_dir_needed-needs_dir.ensures)
    ∙ ap (λ r. and_then r (λ next. walk_from a.names.now next (a.index + 1 + 1) a.needs_dir rest))
    (sym c.look_up.ensures)
