use Rattle.std.proofs.Common.{ℕ, List, ap, not, take, ◌∙◌}
use Rattle.std.specs.List.{count_by}
use Rattle.pg_base.specs.declared.head.Head.{Head}
use Rattle.pg_base.specs.Version.{VersionValue}
use Rattle.pg_base.proofs.Vectors.{Entry}
use Rattle.pg_content.specs.Content.{is_covered}
use Rattle.pg_content.proofs.Joins.{counted_more, counted_whole, sound_from}
use Rattle.pg_content.proofs.joining.actor_count.Goals as goal

pub loop-index-preserved : goal.loop-index-preserved
loop-index-preserved c =
    let fresh : List Entry → ℕ = λ es. count_by (λ (e : Entry). not (is_covered (take c.loop-index.index c.args.versions.now) e.0 1)) es in
    counted_more c.args.versions.now c.loop-index.index c.loop-index.count c.saturating_add-count.result c.new_actor_count.result c.index-versions-index.result c.loop-index-test.true
    (sound_from c.index-versions-index.result _ c.head.result.now c.index-versions-index.is c.head.ensures.head c.head.ensures.version c.new_actor_count.ensures.vector)
    (c.new_actor_count.ensures.count ∙ ap (λ (h : Head). fresh h.vector) c.head.ensures.head ∙ ap (λ (v : VersionValue). fresh v.head.vector) c.index-versions-index.is)
    c.saturating_add-count.ensures c.loop-index.invariant

pub returns-clause-count : goal.returns-clause-count
returns-clause-count c = (counted_whole c.args.versions.now c.loop-index.index c.loop-index.count c.loop-index-test.false c.loop-index.invariant).1

pub returns-clause-sound : goal.returns-clause-sound
returns-clause-sound c = (counted_whole c.args.versions.now c.loop-index.index c.loop-index.count c.loop-index-test.false c.loop-index.invariant).0
