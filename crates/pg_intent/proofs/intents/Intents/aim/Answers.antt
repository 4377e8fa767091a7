use Rattle.std.proofs.Common.{List, ap, sym, ◌∙◌}
use Rattle.pg_intent.specs.declared.intent.Intent.{Intent}
use Rattle.pg_intent.specs.Intents.{aimed}
use Rattle.pg_intent.proofs.Begun.{aimed_is, aimed_none}
use Rattle.pg_intent.proofs.Entries.{own_key, single_key, values_are}
use Rattle.pg_intent.proofs.Kept.{own-aimed}
use Rattle.pg_intent.proofs.intents.Intents.aim.Goals as goal

pub invariant_of-self-2 : goal.invariant_of-self-2
invariant_of-self-2 c =
    let w = c.aim.new.self in
    let are = aimed_is c.self.inside.by_key c.self.invariant.own c.args.key.now _ w c.args.target (c.get_mut.follows.lender w).entries
    (sym c.in-Some.ensures.value) c.aim.ensures (c.get_mut.follows.holds w).0 in
    record {
      own = own_key _ _ are;
      single = single_key _ _ are (own-aimed _ c.args.key.now c.args.target c.self.invariant.single);
    }

pub returns : goal.returns
returns c =
    let w = c.aim.new.self in
    values_are _ _ (aimed_is c.self.inside.by_key c.self.invariant.own c.args.key.now _ w c.args.target (c.get_mut.follows.lender w).entries
    (sym c.in-Some.ensures.value) c.aim.ensures (c.get_mut.follows.holds w).0)
    ∙ ap (λ (is : List Intent). aimed is c.args.key.now c.args.target) c.self.view_is

pub returns-in_default : goal.returns-in_default
returns-in_default c =
    aimed_none c.self.inside.by_key c.get_mut.follows.lender-at-none c.get_mut.follows.holds-at-none c.self.invariant.own c.args.key.now c.args.target
    (sym c.in_default.ensures.value)
    ∙ ap (λ (is : List Intent). aimed is c.args.key.now c.args.target) c.self.view_is
