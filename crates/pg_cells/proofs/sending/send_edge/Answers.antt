use Rattle.std.proofs.Common.{◌∙◌, ◌++◌, ap, List}
use Rattle.std.specs.List.{flat_map}
use Rattle.pg_pieces.specs.pg_msg.declared.message.Sent.{Sent}
use Rattle.pg_cells.specs.KeyFilter.{chosen_cells}
use Rattle.pg_cells.proofs.Listed.{chosen_edge}
use Rattle.pg_cells.proofs.sending.send_edge.Goals as goal

pub loop-entry-init : goal.loop-entry-init
loop-entry-init c =
    let s = c.args.store.now in
    let w = c.args.choice.now in
    let e = c.args.edge.now in
    ap (λ (l : List Sent). c.args.sent.now ++ l)
    (ap (flat_map (chosen_cells s w c.args.file c.args.birth e)) c.as_slice-entry-items.ensures ∙ chosen_edge s w c.args.file c.args.birth e)
