use Rattle.std.proofs.Common.{true, false, ◌∙◌, sym}
use Rattle.pg_content.proofs.Joins.{many_by}
use Rattle.pg_content.proofs.content.Content.has_many_actors.Goals as goal

pub returns-then-covers : goal.returns-then-covers
returns-then-covers c =
    many_by c.args.self.now.heads c.actor_count-count.ensures.sound c.args.actor true c.actor_count-count.result (sym c.covers.ensures.test ∙ c.if-covers.true) c.actor_count-count.ensures.count

pub returns-else-covers : goal.returns-else-covers
returns-else-covers c =
    many_by c.args.self.now.heads c.actor_count-count.ensures.sound c.args.actor false c.actor_count-count.result (sym c.covers.ensures.test ∙ c.if-covers.false) c.actor_count-count.ensures.count
