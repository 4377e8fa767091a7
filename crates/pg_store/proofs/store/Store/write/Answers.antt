use Rattle.pg_store.proofs.Marked.{marked_then, raised_by, replicas_by, same_names, writing_aside}
use Rattle.pg_store.proofs.store.Store.write.Goals as goal

pub invariant_of-self-2 : goal.invariant_of-self-2
invariant_of-self-2 c =
    let i = c.self.inside in
    let f = c.args.file in
    marked_then f i.names c.raise.new.self i.replicas c.write.new.self i.seekers c.mark.new.self c.mark.ensures (raised_by f i.names i.names c.raise.new.self _ c.raise.ensures (same_names f i.names))
    (replicas_by f i.replicas c.write.new.self _ c.in_ok-bases.ensures.replicas (writing_aside i.replicas f c.args.stamp c.args.ranges.now i.tags _)) c.self.invariant
