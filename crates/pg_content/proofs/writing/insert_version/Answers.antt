use Rattle.std.proofs.Common.{ap, arith}
use Rattle.pg_base.specs.declared.head.Head.{Head}
use Rattle.pg_base.specs.Version.{stamp_of}
use Rattle.pg_content.proofs.Inserting.{stop-most}
use Rattle.pg_content.proofs.StampOrder.{insert_made}
use Rattle.pg_content.proofs.writing.insert_version.Goals as goal

pub insert-requires : goal.insert-requires
insert-requires c =
    let most = stop-most stamp_of c.head.result.now.stamp c.deref.result.now in
    let e = c.index_of-index.ensures in
    let l = c.deref.ensures.len in
    omega arith

pub returns-clause-ok : goal.returns-clause-ok
returns-clause-ok c =
    insert_made c.args.v c.args.heads.now.items c.deref.result.now c.insert.new.self.items c.head.result.now.stamp c.index_of-index.result c.in_ok-insert.ensures.items c.index_of-index.ensures c.deref.ensures.value (ap (λ (h : Head). h.stamp) c.head.ensures.head)
