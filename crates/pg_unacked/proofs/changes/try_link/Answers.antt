use Rattle.std.proofs.Common.{◌∙◌, ap, cond}
use Rattle.pg_edges.specs.Edges.{new_edge, put_edge}
use Rattle.pg_unacked.proofs.Redues.{redues_made}
use Rattle.pg_unacked.proofs.changes.try_link.Goals as goal

pub returns-clause-due : goal.returns-clause-due
returns-clause-due c =
    let es = c.args.edges.now in
    redues_made c.args.file es _ c.remove_file.new.self c.args.link.0 c.args.link.1 c.args.keys.now c.args.tags.now c.remove_file.ensures
    c.add_keys.ensures.others c.in_ok-add_keys.ensures.own
    (c.in_ok-made.ensures.edges
    ∙ ap (λ b. cond b (put_edge es (new_edge c.args.link.0 c.args.link.1 c.args.keys.now c.args.tags.now)) es) c.requires.makes)
