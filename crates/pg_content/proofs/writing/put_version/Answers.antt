use Rattle.std.proofs.Common.{ap, ◌∙◌, not, subst, sym}
use Rattle.std.specs.List.{filter}
use Rattle.pg_base.specs.Version.{VersionValue, stamp_of}
use Rattle.pg_content.specs.Content.{InStampOrder, covers_version}
use Rattle.pg_content.specs.Shown.{inserted}
use Rattle.pg_content.proofs.StampOrder.{InStampOrder-filter}
use Rattle.pg_content.proofs.writing.put_version.Goals as goal

pub insert_version-requires : goal.insert_version-requires
insert_version-requires c =
    let stays = λ (h : VersionValue). not (covers_version c.args.v.head.vector h) in
    subst InStampOrder (sym (c.drop_covered.ensures.heads ∙ ap (filter stays) c.in_ok-reserve.ensures.items)) (InStampOrder-filter stays c.args.heads.now.items c.requires)

pub returns-clause-ok : goal.returns-clause-ok
returns-clause-ok c =
    let stays = λ (h : VersionValue). not (covers_version c.args.v.head.vector h) in
    c.in_ok-insert_version.ensures.ok ∙ ap (inserted stamp_of c.args.v) (c.drop_covered.ensures.heads ∙ ap (filter stays) c.in_ok-reserve.ensures.items)
