use Rattle.std.proofs.Common.{sym, ap, ◌∙◌, ◌+◌, drop, List}
use Rattle.std.proofs.lemmas.List.{at_drop_more}
use Rattle.std.specs.List.{find}
use Rattle.pg_base.specs.declared.id.FileId.{FileId}
use Rattle.pg_store.specs.pg_names.Names.{known}
use Rattle.pg_pieces.specs.Parting.{is_child_at}
use Rattle.pg_pieces.proofs.FirstChild.{first_other, first_root, passed}
use Rattle.pg_pieces.proofs.parting.first_child.Goals as goal

pub returns-then-is_child_at : goal.returns-then-is_child_at
returns-then-is_child_at c =
    first_root c.args.names.now c.args.dir.now c.dirty_things-dirty.ensures.sorted (sym c.is_child_at.ensures ∙ c.if-is_child_at.true)

pub loop-file-init : goal.loop-file-init
loop-file-init c =
    let s = c.args.names.now in
    let dir = c.args.dir.now in
    ap (λ (xs : List FileId). find (λ q. is_child_at dir q (known s q)) xs)
    (c.as_slice-file-items.ensures.ids ∙ c.children.ensures)
    ∙ first_other s dir c.dirty_things-dirty.ensures.sorted (sym c.is_child_at.ensures ∙ c.if-is_child_at.false)

pub loop-file-preserved : goal.loop-file-preserved
loop-file-preserved c =
    let s = c.args.names.now in
    let dir = c.args.dir.now in
    let xs = c.as_slice-file-items.result.now in
    let i = c.loop-file.file-index in
    passed (λ (q : FileId). is_child_at dir q (known s q)) _ (drop (i + 1) xs) (sym c.is_child_at-in-loop-file.ensures ∙ c.if-is_child_at-2.false)
    ∙ sym (at_drop_more (λ (qs : List FileId). find (λ (q : FileId). is_child_at dir q (known s q)) qs) xs i _ c.loop-file-test.true)
    ∙ c.loop-file.invariant
