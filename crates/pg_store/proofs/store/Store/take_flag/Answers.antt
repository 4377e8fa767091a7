use Rattle.pg_store.proofs.Old.{old_flag_taken}
use Rattle.pg_store.proofs.Marked.{flag_aside, marked_then, names_by, same_replicas}
use Rattle.pg_store.proofs.store.Store.take_flag.Goals as goal

pub returns-then-not-branch-clause-store : goal.returns-then-not-branch-clause-store
returns-then-not-branch-clause-store c =
    rw (← c.self.view_is)
    (old_flag_taken _ c.args.file c.join_flag.new.self c.in_ok-join_flag.field-0 c.args.flag
    c.in_ok-join_flag.ensures.joined c.in_ok-join_flag.ensures.news c.if-not-branch.true)

pub invariant_of-self-then-not-branch : goal.invariant_of-self-then-not-branch
invariant_of-self-then-not-branch c =
    let i = c.self.inside in
    let f = c.args.file in
    marked_then f i.names c.join_flag.new.self i.replicas i.replicas i.seekers c.mark.new.self c.mark.ensures
    (names_by f i.names c.join_flag.new.self _ c.in_ok-join_flag.ensures.joined (flag_aside i.names f c.args.flag))
    (same_replicas f i.replicas) c.self.invariant

pub invariant_of-self-2 : goal.invariant_of-self-2
invariant_of-self-2 c =
    let i = c.self.inside in
    let f = c.args.file in
    marked_then f i.names c.join_flag.new.self i.replicas i.replicas i.seekers c.mark.new.self c.mark.ensures
    (names_by f i.names c.join_flag.new.self _ c.in_ok-join_flag.ensures.joined (flag_aside i.names f c.args.flag))
    (same_replicas f i.replicas) c.self.invariant
