use Rattle.std.proofs.Common.{ℕ, List, ◌+◌, ◌∙◌, ap, drop, sym}
use Rattle.std.proofs.lemmas.List.{at_drop_more, drop_all}
use Rattle.pg_names.specs.Names.{NamesValue}
use Rattle.pg_state_read.specs.Whole.{with_removed}
use Rattle.pg_state_read.proofs.whole.put_removed.Goals as goal

pub loop-server-preserved : goal.loop-server-preserved
loop-server-preserved c =
    let left : List ℕ = drop (c.loop-server.server-index + 1) c.args.removed.now in
    ap (λ (names : NamesValue). with_removed names left) c.in_ok-remove_server.ensures
    ∙ sym (at_drop_more (λ (rest : List ℕ). with_removed c.loop-server.names rest) c.args.removed.now c.loop-server.server-index _ c.loop-server-test.true)
    ∙ c.loop-server.invariant

pub returns : goal.returns
returns c =
    sym (ap (λ (rest : List ℕ). with_removed c.loop-server.names rest) (drop_all c.loop-server.server-index c.args.removed.now c.loop-server-test.false))
    ∙ c.loop-server.invariant
