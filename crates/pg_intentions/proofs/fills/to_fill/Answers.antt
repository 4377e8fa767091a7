use Rattle.std.proofs.Common.{ap, sym, ◌∙◌, ◌+◌, drop, List, []}
use Rattle.std.proofs.lemmas.List.{at_drop_more}
use Rattle.pg_base.specs.declared.id.FileId.{FileId}
use Rattle.pg_graph.specs.pg_replica.Index.{Files}
use Rattle.pg_intentions.proofs.DirtyFills.{dirty_fills, with_all}
use Rattle.pg_intentions.proofs.fills.to_fill.Goals as goal

pub loop-file-init : goal.loop-file-init
loop-file-init c =
    let s = c.args.names.now in
    let d = c.dirty_things.ensures in
    ap (λ (fs : Files). with_all s fs c.as_slice-file-items.result.now) c.new-files.ensures.empty
    ∙ ap (with_all s []) c.as_slice-file-items.ensures.ids
    ∙ dirty_fills s c.dirty_things.result.now d.sorted d.ordered d.calm

pub loop-file-preserved : goal.loop-file-preserved
loop-file-preserved c =
    let s = c.args.names.now in
    let xs = c.as_slice-file-items.result.now in
    let i = c.loop-file.file-index in
    ap (λ (fs : Files). with_all s fs (drop (i + 1) xs)) c.in_ok-add_known.ensures
    ∙ sym (at_drop_more (λ (qs : List FileId). with_all s c.loop-file.files.entries qs) xs i _ c.loop-file-test.true)
    ∙ c.loop-file.invariant
