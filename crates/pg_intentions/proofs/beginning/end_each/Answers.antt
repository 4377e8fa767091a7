use Rattle.std.proofs.Common.{ap, sym, ◌∙◌, ◌+◌, drop, List}
use Rattle.std.proofs.lemmas.List.{at_drop_more}
use Rattle.pg_graph.specs.pg_intent.declared.intent.Intent.{Intent}
use Rattle.pg_graph.specs.pg_intent.Intents.{ended_each}
use Rattle.pg_intentions.proofs.beginning.end_each.Goals as goal

pub loop-key-preserved : goal.loop-key-preserved
loop-key-preserved c =
    let ks = c.args.keys.now in
    let i = c.loop-key.key-index in
    ap (λ (is : List Intent). ended_each is (drop (i + 1) ks)) c.end.ensures.ended
    ∙ sym (at_drop_more (ended_each c.loop-key.intents) ks i _ c.loop-key-test.true) ∙ c.loop-key.invariant
