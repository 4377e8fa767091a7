use Rattle.pg_store.proofs.Marked.{marked_then, replicas_by, same_names, touched_aside}
use Rattle.pg_store.proofs.store.Store.touch.Goals as goal

pub invariant_of-self-2 : goal.invariant_of-self-2
invariant_of-self-2 c =
    let i = c.self.inside in
    let f = c.args.file in
    marked_then f i.names i.names i.replicas c.touch.new.self i.seekers c.mark.new.self c.mark.ensures (same_names f i.names)
    (replicas_by f i.replicas c.touch.new.self _ c.in_ok-touch.ensures.replicas (touched_aside i.replicas f c.args.key i.tags _)) c.self.invariant
