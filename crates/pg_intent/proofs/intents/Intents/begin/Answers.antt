use Rattle.std.proofs.Common.{List, not, ap, sym, ◌∙◌}
use Rattle.std.proofs.lemmas.Result.{err_from_is_err_and}
use Rattle.pg_intent.specs.declared.intent.Intent.{Intent}
use Rattle.pg_intent.specs.Intent.{key_of}
use Rattle.pg_intent.specs.Intents.{begun, stands}
use Rattle.pg_intent.proofs.Begun.{again_is, new_is, put_at, same_is, stood, stood_not}
use Rattle.pg_intent.proofs.Entries.{own_key, single_key, values_are}
use Rattle.pg_intent.proofs.Kept.{own-begun}
use Rattle.pg_intent.proofs.intents.Intents.begin.Goals as goal

-- ---- one with its key stands

pub invariant_of-self : goal.invariant_of-self
invariant_of-self c =
    let w = c.rejoin.new.self in
    let are = same_is c.self.inside.by_key c.self.invariant.own c.key-key.result _ w (c.get_mut.follows.lender w).entries
    (sym c.in-Some.ensures.value) c.in_err-rejoin-in-Some.ensures.err (c.get_mut.follows.holds w).0 in
    record { own = own_key _ _ are; single = single_key _ _ are c.self.invariant.single }

pub returns-in_err-rejoin-in-Some-clause-err : goal.returns-in_err-rejoin-in-Some-clause-err
returns-in_err-rejoin-in-Some-clause-err c =
    let w = c.rejoin.new.self in
    let p = err_from_is_err_and c.from_residual.result c.from_residual.ensures.1 in
    rw p.1 (values_are _ _ (same_is c.self.inside.by_key c.self.invariant.own c.key-key.result _ w (c.get_mut.follows.lender w).entries
    (sym c.in-Some.ensures.value) c.in_err-rejoin-in-Some.ensures.err (c.get_mut.follows.holds w).0) ∙ c.self.view_is)

pub invariant_of-self-in-Some : goal.invariant_of-self-in-Some
invariant_of-self-in-Some c =
    let w = c.rejoin.new.self in
    let are = again_is c.self.inside.by_key c.self.invariant.own c.args.intent c.key-key.result c.key-key.ensures _ w (c.get_mut.follows.lender w).entries
    (sym c.in-Some.ensures.value) c.in_ok-rejoin-in-Some.ensures.ok (c.get_mut.follows.holds w).0 in
    record { own = own_key _ _ are; single = single_key _ _ are (own-begun _ c.args.intent c.self.invariant.single) }

pub returns-in_ok-rejoin-in-Some-clause-begun : goal.returns-in_ok-rejoin-in-Some-clause-begun
returns-in_ok-rejoin-in-Some-clause-begun c =
    let w = c.rejoin.new.self in
    values_are _ _ (again_is c.self.inside.by_key c.self.invariant.own c.args.intent c.key-key.result c.key-key.ensures _ w (c.get_mut.follows.lender w).entries
    (sym c.in-Some.ensures.value) c.in_ok-rejoin-in-Some.ensures.ok (c.get_mut.follows.holds w).0)
    ∙ ap (λ (is : List Intent). begun is c.args.intent) c.self.view_is

pub returns-in_ok-rejoin-in-Some-clause-news : goal.returns-in_ok-rejoin-in-Some-clause-news
returns-in_ok-rejoin-in-Some-clause-news c =
    sym (ap not (stood c.self.inside.by_key c.self.invariant.own c.args.intent c.key-key.result c.key-key.ensures _ (sym c.in-Some.ensures.value)))
    ∙ ap (λ (is : List Intent). not (stands is (key_of c.args.intent))) c.self.view_is

-- ---- none does

pub invariant_of-self-in-None : goal.invariant_of-self-in-None
invariant_of-self-in-None c =
    let are = new_is c.self.inside.by_key c.self.invariant.own c.args.intent c.key-key.result c.key-key.ensures c.insert.new.self.entries
    (sym c.in-None.ensures.value) (put_at _ _ c.get_mut.follows.holds-at-none c.args.intent c.key-key.result c.insert.new.self.entries c.in_ok-insert-in-None.ensures.entries) in
    record { own = own_key _ _ are; single = single_key _ _ are (own-begun _ c.args.intent c.self.invariant.single) }

pub returns-in_ok-insert-in-None-clause-begun : goal.returns-in_ok-insert-in-None-clause-begun
returns-in_ok-insert-in-None-clause-begun c =
    values_are _ _ (new_is c.self.inside.by_key c.self.invariant.own c.args.intent c.key-key.result c.key-key.ensures c.insert.new.self.entries
    (sym c.in-None.ensures.value) (put_at _ _ c.get_mut.follows.holds-at-none c.args.intent c.key-key.result c.insert.new.self.entries c.in_ok-insert-in-None.ensures.entries))
    ∙ ap (λ (is : List Intent). begun is c.args.intent) c.self.view_is

pub returns-in_ok-insert-in-None-clause-news : goal.returns-in_ok-insert-in-None-clause-news
returns-in_ok-insert-in-None-clause-news c =
    sym (ap not (stood_not c.self.inside.by_key c.self.invariant.own c.args.intent c.key-key.result c.key-key.ensures (sym c.in-None.ensures.value)))
    ∙ ap (λ (is : List Intent). not (stands is (key_of c.args.intent))) c.self.view_is
