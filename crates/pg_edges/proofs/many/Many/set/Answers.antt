use Rattle.pg_edges.proofs.Searching.{put_at, put_gap}
use Rattle.pg_edges.proofs.many.Many.set.Goals as goal

pub invariant_of-self : goal.invariant_of-self
invariant_of-self c = put_at c.self.inside.tags.items c.args.self.now c.args.key c.in-Ok.at c.args.tag c.self.invariant c.self.view_is c.in-Ok.ensures.found

pub invariant_of-self-in-Err : goal.invariant_of-self-in-Err
invariant_of-self-in-Err c =
    put_gap c.self.inside.tags.items c.args.self.now c.insert.new.self.items c.args.key c.in-Err.at c.args.tag
    c.self.invariant c.self.view_is c.in-Err.ensures.missing c.in_ok-insert-in-Err.ensures.items

pub returns-in-Ok-clause-ordered : goal.returns-in-Ok-clause-ordered
returns-in-Ok-clause-ordered c = put_at c.self.inside.tags.items c.args.self.now c.args.key c.in-Ok.at c.args.tag c.self.invariant c.self.view_is c.in-Ok.ensures.found

pub returns-in_ok-insert-in-Err-clause-ordered : goal.returns-in_ok-insert-in-Err-clause-ordered
returns-in_ok-insert-in-Err-clause-ordered c =
    put_gap c.self.inside.tags.items c.args.self.now c.insert.new.self.items c.args.key c.in-Err.at c.args.tag
    c.self.invariant c.self.view_is c.in-Err.ensures.missing c.in_ok-insert-in-Err.ensures.items
