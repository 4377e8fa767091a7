use Rattle.std.proofs.Common.{◌∙◌}
use Rattle.pg_store.proofs.AtEnd.{dirty_end}
use Rattle.pg_store.proofs.store.Store.have_own_flag_at_end.Goals as goal

pub returns : goal.returns
returns c =
    rw (← c.self.view_is)
    (c.is_any_at_end.ensures ∙ dirty_end c.self.inside.names c.dirty.result.now c.dirty.ensures.calm c.as_map-held.ensures.sorted)
