use Rattle.std.proofs.Common.{ap, sym, ◌∙◌, ◌+◌, drop, List}
use Rattle.std.proofs.lemmas.List.{at_drop_more}
use Rattle.pg_base.specs.declared.id.FileId.{FileId}
use Rattle.pg_graph.specs.pg_msg.declared.work.Work.{Work}
use Rattle.pg_intentions.specs.Inviting.{invite_each}
use Rattle.pg_intentions.proofs.inviting.invite_each.Goals as goal

pub loop-file-preserved : goal.loop-file-preserved
loop-file-preserved c =
    let fs = c.args.files.now in
    let i = c.loop-file.file-index in
    ap (λ (v : Work). invite_each c.args.store.now (drop (i + 1) fs) v) c.in_ok-invite.ensures
    ∙ sym (at_drop_more (λ (rest : List FileId). invite_each c.args.store.now rest c.loop-file.work) fs i _ c.loop-file-test.true)
    ∙ c.loop-file.invariant
