use Rattle.pg_store.proofs.Marked.{gone_aside, marked_then, names_by, replicas_by, without_aside}
use Rattle.pg_store.proofs.store.Store.let_go.Goals as goal

pub invariant_of-self-2 : goal.invariant_of-self-2
invariant_of-self-2 c =
    let i = c.self.inside in
    let f = c.args.file.now in
    marked_then f i.names c.let_go.new.self i.replicas c.remove.new.self i.seekers c.mark.new.self c.mark.ensures
    (names_by f i.names c.let_go.new.self _ c.in_ok-let_go.ensures.ok (gone_aside i.names f))
    (replicas_by f i.replicas c.remove.new.self _ c.remove.ensures.replicas (without_aside i.replicas f)) c.self.invariant
