use Rattle.pg_store.proofs.Old.{old_place_taken}
use Rattle.pg_store.proofs.Marked.{marked_then, names_by, place_aside, raised_by, same_replicas}
use Rattle.pg_store.proofs.store.Store.take_place.Goals as goal

pub returns-then-not-branch-clause-store : goal.returns-then-not-branch-clause-store
returns-then-not-branch-clause-store c =
    rw (← c.self.view_is)
    (old_place_taken _ c.args.file c.join_place.new.self c.in_ok-join_place.field-0 c.args.place
    c.in_ok-join_place.ensures.joined c.in_ok-join_place.ensures.news c.if-not-branch.true)

pub invariant_of-self-then-not-branch : goal.invariant_of-self-then-not-branch
invariant_of-self-then-not-branch c =
    let i = c.self.inside in
    let f = c.args.file in
    marked_then f i.names c.join_place.new.self i.replicas i.replicas i.seekers c.mark.new.self c.mark.ensures
    (names_by f i.names c.join_place.new.self _ c.in_ok-join_place.ensures.joined (place_aside i.names f c.args.place))
    (same_replicas f i.replicas) c.self.invariant

pub invariant_of-self-2 : goal.invariant_of-self-2
invariant_of-self-2 c =
    let i = c.self.inside in
    let f = c.args.file in
    marked_then f i.names c.raise.new.self i.replicas i.replicas i.seekers c.mark.new.self c.mark.ensures
    (raised_by f i.names c.join_place.new.self c.raise.new.self _ c.raise.ensures (names_by f i.names c.join_place.new.self _ c.in_ok-join_place.ensures.joined (place_aside i.names f c.args.place)))
    (same_replicas f i.replicas) c.self.invariant
