use Rattle.std.proofs.Common.{◌≡◌, length, subst}
use Rattle.pg_graph.specs.pg_store.declared.store.Store.{Store}
use Rattle.pg_intentions.specs.Requests.{asks}
use Rattle.pg_intentions.proofs.Steps.{all_pieces, one_piece}
use Rattle.pg_intentions.proofs.requests.ask_every.Goals as goal

pub loop-k-preserved : goal.loop-k-preserved
loop-k-preserved c =
    let s = c.args.store.now in
    one_piece (asks s) s.intents c.loop-k.k _ c.loop-k.sent _ _ (subst (λ (b : Store). c.len-count.result ≡ length b.intents) c.store.view_is c.len-count.ensures.len) c.loop-k-test.true c.in_ok-ask_at.ensures c.loop-k.invariant

pub returns : goal.returns
returns c =
    let s = c.args.store.now in
    all_pieces (asks s) s.intents c.loop-k.k _ c.loop-k.sent _ (subst (λ (b : Store). c.len-count.result ≡ length b.intents) c.store.view_is c.len-count.ensures.len) c.loop-k-test.false c.loop-k.invariant
