use Rattle.std.proofs.Common.{ap, ◌∙◌, ◌+◌, drop}
use Rattle.std.proofs.lemmas.List.{drop_all, drop_more}
use Rattle.pg_index.specs.Ids.{is_one_of}
use Rattle.pg_names.proofs.Marking.{goes_all, goes_from, goes_on}
use Rattle.pg_names.proofs.marks.mark_each.Goals as goal

pub loop-file-init : goal.loop-file-init
loop-file-init c = goes_from c.args.marks.now c.args.files.now _ c.as_slice-file-items.ensures.ids

pub loop-file-preserved : goal.loop-file-preserved
loop-file-preserved c =
    let fs = c.as_slice-file-items.result.now in
    let i = c.loop-file.file-index in
    goes_on c.args.marks.now c.loop-file.marks _ c.args.files.now (drop i fs) (drop (i + 1) fs) _ c.loop-file.invariant (drop_more fs i _ c.loop-file-test.true) c.in_ok-insert.ensures.ok

pub returns-clause-stays : goal.returns-clause-stays
returns-clause-stays c = c.loop-file.invariant.stays

pub returns-clause-all : goal.returns-clause-all
returns-clause-all c =
    let fs = c.as_slice-file-items.result.now in
    let i = c.loop-file.file-index in
    goes_all c.args.marks.now c.loop-file.marks c.args.files.now (drop i fs) c.loop-file.invariant (drop_all i fs c.loop-file-test.false)

pub returns-in_err-insert-clause-stays : goal.returns-in_err-insert-clause-stays
returns-in_err-insert-clause-stays c = λ q h. ap (is_one_of q) c.in_err-insert.ensures.err ∙ c.loop-file.invariant.stays q h
