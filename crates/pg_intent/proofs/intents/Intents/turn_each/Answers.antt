use Rattle.std.proofs.Common.{ap, sym, ◌∙◌, ◌+◌, drop, List}
use Rattle.std.proofs.lemmas.List.{at_drop_more}
use Rattle.pg_intent.specs.declared.intent.Intent.{Intent}
use Rattle.pg_intent.specs.declared.key.IntentKey.{IntentKey}
use Rattle.pg_intent.specs.Intents.{turned_each}
use Rattle.pg_intent.proofs.intents.Intents.turn_each.Goals as goal

pub loop-key-preserved : goal.loop-key-preserved
loop-key-preserved c =
    let ks = c.args.keys.now in
    let i = c.loop-key.key-index in
    ap (λ (is : List Intent). turned_each is (drop (i + 1) ks) c.args.to) c.turn.ensures
    ∙ sym (at_drop_more (λ (rest : List IntentKey). turned_each c.loop-key.self rest c.args.to) ks i _ c.loop-key-test.true)
    ∙ c.loop-key.invariant
