use Rattle.std.proofs.Common.{◌∙◌}
use Rattle.pg_store.proofs.Marked.{whole_fresh}
use Rattle.pg_store.proofs.AllListed.{listed_all}
use Rattle.pg_store.proofs.store.Store.walkers.Goals as goal

pub returns : goal.returns
returns c =
    let i = c.self.inside in
    rw (← c.self.view_is)
    (c.as_slice.ensures.ids
    ∙ listed_all i.names i.replicas i.seekers.walkers c.as_slice.ensures.sorted c.as_map-held.ensures.sorted
    (λ q free. (c.self.invariant q).1 (whole_fresh i.seekers q c.if-self.false c.if-not-self.false)))
