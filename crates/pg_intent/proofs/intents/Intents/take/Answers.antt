use Rattle.std.proofs.Common.{List, ap, ◌∙◌}
use Rattle.pg_intent.specs.declared.intent.Intent.{Intent}
use Rattle.pg_intent.specs.Intents.{ended, intent_at}
use Rattle.pg_intent.proofs.Entries.{get_is, removed_is, own_key, single_key, values_are}
use Rattle.pg_intent.proofs.Kept.{own-ended}
use Rattle.pg_intent.proofs.intents.Intents.take.Goals as goal

pub invariant_of-self : goal.invariant_of-self
invariant_of-self c =
    let are = removed_is c.self.inside.by_key c.self.invariant.own c.args.key.now c.shift_remove.new.self.entries c.self.invariant.single c.shift_remove.ensures.entries in
    record {
      own = own_key _ _ are;
      single = single_key _ _ are (own-ended _ c.args.key.now c.self.invariant.single);
    }

pub returns-clause-taken : goal.returns-clause-taken
returns-clause-taken c =
    c.shift_remove.ensures.value ∙ get_is c.self.inside.by_key c.self.invariant.own c.args.key.now
    ∙ ap (λ (is : List Intent). intent_at is c.args.key.now) c.self.view_is

pub returns-clause-ended : goal.returns-clause-ended
returns-clause-ended c =
    values_are _ _ (removed_is c.self.inside.by_key c.self.invariant.own c.args.key.now c.shift_remove.new.self.entries c.self.invariant.single c.shift_remove.ensures.entries)
    ∙ ap (λ (is : List Intent). ended is c.args.key.now) c.self.view_is
