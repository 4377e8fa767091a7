use Rattle.std.proofs.Common.{ap, arith, get_or, length, ◌+◌, ◌-◌, ◌<◌, ◌≡◌, ◌∙◌}
use Rattle.std.proofs.lemmas.Bool.Decides.{nat_tests}
use Rattle.std.proofs.lemmas.List.{get_or_default}
use Rattle.pg_edges.specs.declared.edge.Edge.{Edge}
use Rattle.pg_edges.proofs.Lists.{past_last, past_none}
use Rattle.pg_edges.proofs.edges.is_past.Goals as goal

pub returns-then-count-eq0 : goal.returns-then-count-eq0
returns-then-count-eq0 c = λ t. past_none c.args.edges.now c.args.peer c.if-count-eq0.true

pub returns : goal.returns
returns c = λ t.
    let es = c.args.edges.now in
    let x = c.index-edges-count.result in
    let last = length es - 1 in
    let some : last + 1 ≡ length es = (let n = c.if-count-eq0.false in omega arith) in
    let below : x.peer < c.args.peer = grind (arith, nat_tests) in
    past_last es c.args.peer last c.requires some
    (λ d. let same : x.peer ≡ (get_or es last d).peer = ap (λ (e : Edge). e.peer) (c.index-edges-count.is ∙ get_or_default es last x d (omega arith)) in omega arith)
