use Rattle.pg_store.proofs.Marked.{marked_then, replicas_by, same_names, keeping_aside}
use Rattle.pg_store.proofs.store.Store.keep_delta.Goals as goal

pub invariant_of-self-2 : goal.invariant_of-self-2
invariant_of-self-2 c =
    let i = c.self.inside in
    let f = c.args.file in
    marked_then f i.names i.names i.replicas c.keep_delta.new.self i.seekers c.mark.new.self c.mark.ensures (same_names f i.names)
    (replicas_by f i.replicas c.keep_delta.new.self _ c.in_ok-keep_delta.ensures (keeping_aside i.replicas f c.args.delta _)) c.self.invariant
