use Rattle.std.proofs.Common.{◌≡◌, length, subst}
use Rattle.pg_graph.specs.pg_store.declared.store.Store.{Store}
use Rattle.pg_intentions.specs.Beginning.{ended_key_of}
use Rattle.pg_intentions.proofs.Steps.{all_pieces, one_piece}
use Rattle.pg_intentions.proofs.beginning.ended_keys.Goals as goal

pub loop-k-preserved : goal.loop-k-preserved
loop-k-preserved c =
    let s = c.args.store.now in
    one_piece (ended_key_of s c.args.files.now.entries) s.intents c.loop-k.k _ c.loop-k.keys _ _
    (subst (λ (b : Store). c.len-count.result ≡ length b.intents) c.store.view_is c.len-count.ensures.len) c.loop-k-test.true c.in_ok-add_ended.ensures c.loop-k.invariant

pub returns-clause-keys : goal.returns-clause-keys
returns-clause-keys c =
    let s = c.args.store.now in
    all_pieces (ended_key_of s c.args.files.now.entries) s.intents c.loop-k.k _ c.loop-k.keys _
    (subst (λ (b : Store). c.len-count.result ≡ length b.intents) c.store.view_is c.len-count.ensures.len) c.loop-k-test.false c.loop-k.invariant
