use Rattle.pg_store.proofs.Marked.{entry_aside, marked_then, names_by, raised_by, same_replicas}
use Rattle.pg_store.proofs.store.Store.put_entry.Goals as goal

pub invariant_of-self-2 : goal.invariant_of-self-2
invariant_of-self-2 c =
    let i = c.self.inside in
    let f = c.args.dir in
    marked_then f i.names c.raise.new.self i.replicas i.replicas i.seekers c.mark.new.self c.mark.ensures
    (raised_by f i.names c.join_entry.new.self c.raise.new.self _ c.raise.ensures (names_by f i.names c.join_entry.new.self _ c.in_ok-join_entry.ensures.joined (entry_aside i.names f c.args.entry)))
    (same_replicas f i.replicas) c.self.invariant
