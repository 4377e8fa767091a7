use Rattle.pg_replica.specs.Replicas.{lists_peer, replica_in, replicas_unlinked}
use Rattle.pg_store.specs.Links.{is_linked}
use Rattle.pg_store.proofs.Marked.{marked_then, same_names, tested_aside, unlinked_aside}
use Rattle.pg_store.proofs.Old.{changed_if, seen}
use Rattle.pg_store.proofs.store.Store.unlink.Goals as goal

pub invariant_of-self : goal.invariant_of-self
invariant_of-self c =
    let i = c.self.inside in
    let f = c.args.file in
    marked_then f i.names i.names i.replicas c.unlink.new.self i.seekers c.mark.new.self c.mark.ensures (same_names f i.names)
    (tested_aside i.replicas (replicas_unlinked i.replicas f c.args.peer c.args.birth (replica_in i.replicas f)) c.unlink.new.self f
    (lists_peer (replica_in i.replicas f) c.args.peer c.args.birth) c.unlink.ensures
    (unlinked_aside i.replicas f c.args.peer c.args.birth (replica_in i.replicas f))) c.self.invariant

pub returns : goal.returns
returns c =
    let a = seen c.self.inside in
    rw (← c.self.view_is) (changed_if a _ _ (is_linked a c.args.file c.args.peer c.args.birth) c.unlink.ensures)
