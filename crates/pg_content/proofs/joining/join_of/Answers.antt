use Rattle.std.proofs.Common.{ap, ◌∙◌}
use Rattle.pg_base.specs.declared.head.Head.{Head}
use Rattle.pg_base.specs.Vector.{joined}
use Rattle.pg_base.specs.Version.{VersionValue}
use Rattle.pg_content.proofs.Joins.{join_more, join_whole, known_below, sound_from}
use Rattle.pg_content.proofs.joining.join_of.Goals as goal

pub loop-version-preserved : goal.loop-version-preserved
loop-version-preserved c =
    join_more c.args.versions.now c.loop-version.version-index c.version-item.result c.loop-version.all c.join.new.self c.loop-version-test.true
    (sound_from c.version-item.result _ c.head.result.now c.version-item.is c.head.ensures.head c.head.ensures.version c.in_ok-join.ensures.other)
    (c.in_ok-join.ensures.ok ∙ ap (λ (h : Head). joined c.loop-version.all h.vector) c.head.ensures.head ∙ ap (λ (v : VersionValue). joined c.loop-version.all v.head.vector) c.version-item.is)
    c.loop-version.invariant

pub returns-clause-all : goal.returns-clause-all
returns-clause-all c = (join_whole c.args.versions.now c.loop-version.version-index c.loop-version.all c.loop-version-test.false c.loop-version.invariant).1

pub returns-clause-most : goal.returns-clause-most
returns-clause-most c =
    let whole = join_whole c.args.versions.now c.loop-version.version-index c.loop-version.all c.loop-version-test.false c.loop-version.invariant in
    known_below c.args.versions.now c.loop-version.all whole.0 whole.1
