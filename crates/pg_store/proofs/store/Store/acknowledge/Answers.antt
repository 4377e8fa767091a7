use Rattle.pg_store.proofs.Marked.{marked_then, replicas_by, same_names, acked_aside}
use Rattle.pg_store.proofs.store.Store.acknowledge.Goals as goal

pub invariant_of-self : goal.invariant_of-self
invariant_of-self c =
    let i = c.self.inside in
    let f = c.args.file in
    marked_then f i.names i.names i.replicas c.acknowledge.new.self i.seekers c.mark.new.self c.mark.ensures (same_names f i.names)
    (replicas_by f i.replicas c.acknowledge.new.self _ c.acknowledge.ensures (acked_aside i.replicas f c.args.link.now c.args.key c.args.tag _)) c.self.invariant
