use Rattle.std.proofs.Common.{List, ◌++◌, ◌+◌, ◌∙◌, ap, sym, drop}
use Rattle.std.specs.List.{flat_map}
use Rattle.std.proofs.lemmas.List.{append_assoc, at_drop_more}
use Rattle.pg_base.specs.declared.id.FileId.{FileId}
use Rattle.pg_cells.specs.pg_msg.declared.work.Slot.{Slot}
use Rattle.pg_calls.specs.GivingUp.{cells_of}
use Rattle.pg_calls.proofs.giving_up.push_cells.Goals as goal

pub loop-dir-preserved : goal.loop-dir-preserved
loop-dir-preserved c =
    let names = c.args.names.now in
    let ds = c.args.dirs.now in
    let i = c.loop-dir.dir-index in
    let slots = c.loop-dir.slots in
    ap (λ (ss : List Slot). ss ++ flat_map (cells_of names) (drop (i + 1) ds)) c.in_ok-add_cells.ensures
    ∙ append_assoc slots (cells_of names _) (flat_map (cells_of names) (drop (i + 1) ds))
    ∙ sym (at_drop_more (λ (rest : List FileId). slots ++ flat_map (cells_of names) rest) ds i _ c.loop-dir-test.true)
    ∙ c.loop-dir.invariant
