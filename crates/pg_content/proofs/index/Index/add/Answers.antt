use Rattle.pg_content.proofs.Indexes.{added_by}
use Rattle.pg_content.proofs.index.Index.add.Goals as goal

pub returns : goal.returns
returns c =
    added_by _ _ _ _ _ _ _ c.self.view_is c.head-head.ensures.head c.actor.ensures c.head-head.ensures.version c.raise_all.ensures.vector c.in_ok-raise_all.ensures.known c.in_ok-lower.ensures
