use Rattle.pg_store.proofs.Marked.{filled_aside, marked_then, names_by, same_replicas}
use Rattle.pg_store.proofs.store.Store.fill.Goals as goal

pub invariant_of-self : goal.invariant_of-self
invariant_of-self c =
    let i = c.self.inside in
    let f = c.args.file.now in
    marked_then f i.names c.fill.new.self i.replicas i.replicas i.seekers c.mark.new.self c.mark.ensures
    (names_by f i.names c.fill.new.self _ c.fill.ensures (filled_aside i.names f)) (same_replicas f i.replicas) c.self.invariant
