use Rattle.pg_store.proofs.Marked.{begun_aside, marked_then, names_by, put_aside, raised_by, replicas_by}
use Rattle.pg_store.proofs.store.Store.begin.Goals as goal

pub invariant_of-self-2 : goal.invariant_of-self-2
invariant_of-self-2 c =
    let i = c.self.inside in
    let f = c.args.file in
    marked_then f i.names c.raise.new.self i.replicas c.add.new.self i.seekers c.mark.new.self c.mark.ensures
    (raised_by f i.names c.begin.new.self c.raise.new.self _ c.raise.ensures (names_by f i.names c.begin.new.self _ c.in_ok-begin.ensures (begun_aside i.names f c.args.own c.args.full)))
    (replicas_by f i.replicas c.add.new.self _ c.in_ok-add.ensures.ok (put_aside i.replicas f _)) c.self.invariant
