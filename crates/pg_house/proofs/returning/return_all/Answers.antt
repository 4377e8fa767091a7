use Rattle.std.proofs.Common.{◌≡◌, ◌<◌, ℕ, length, ap, sym, subst, ◌∙◌, None}
use Rattle.pg_names.specs.Names.{directories}
use Rattle.pg_house.specs.Work.{State, state_of}
use Rattle.pg_house.specs.Returning.{first_returning, return_first}
use Rattle.pg_house.proofs.Repeating.{stepped, ended, none_returns}
use Rattle.pg_house.proofs.Keys.{return_dirs}
use Rattle.pg_house.proofs.Lasting.{return_up, within}
use Rattle.pg_house.proofs.returning.return_all.Goals as goal

pub returns-then-not-branch-clause-back : goal.returns-then-not-branch-clause-back
returns-then-not-branch-clause-back c =
    let ds = directories c.args.names.now in
    let m = c.args.moment in
    let st : State = state_of c.loop-i.names c.loop-i.work in
    let t : State = state_of c.return_first.new.names c.return_first.new.work in
    let step : t ≡ return_first m ds st = c.in_ok-return_first.ensures.back ∙ ap (λ es. return_first m es st) c.loop-i.invariant.2 in
    let dirs : directories t.names ≡ ds = ap (λ (u : State). directories u.names) step ∙ return_dirs m ds st ∙ c.loop-i.invariant.2 in
    let none : first_returning t.names ds ≡ None = ap (first_returning t.names) (sym dirs) ∙ c.in_ok-return_first.ensures.none c.if-not-branch.true in
    ended (return_first m ds) _ c.loop-i.i st t _ c.loop-i-test.true step (none_returns m ds t none) c.loop-i.invariant.0

pub returns-then-not-branch-clause-last : goal.returns-then-not-branch-clause-last
returns-then-not-branch-clause-last c =
    let ds = directories c.args.names.now in
    let m = c.args.moment in
    let st : State = state_of c.loop-i.names c.loop-i.work in
    let t : State = state_of c.return_first.new.names c.return_first.new.work in
    let step : t ≡ return_first m ds st = c.in_ok-return_first.ensures.back ∙ ap (λ es. return_first m es st) c.loop-i.invariant.2 in
    within t.names.last c.args.names.now.last c.loop-i.i (length ds) (return_up m ds st t c.args.names.now.last c.loop-i.i step c.loop-i.invariant.1) (subst (λ (n : ℕ). c.loop-i.i < n) c.loop-i.invariant.3 c.loop-i-test.true)

pub loop-i-preserved : goal.loop-i-preserved
loop-i-preserved c =
    let ds = directories c.args.names.now in
    let m = c.args.moment in
    let st : State = state_of c.loop-i.names c.loop-i.work in
    let t : State = state_of c.return_first.new.names c.return_first.new.work in
    let step : t ≡ return_first m ds st = c.in_ok-return_first.ensures.back ∙ ap (λ es. return_first m es st) c.loop-i.invariant.2 in (
      stepped (return_first m ds) _ c.loop-i.i st t _ c.loop-i-test.true step c.loop-i.invariant.0,
      return_up m ds st t c.args.names.now.last c.loop-i.i step c.loop-i.invariant.1,
      ap (λ (u : State). directories u.names) step ∙ return_dirs m ds st ∙ c.loop-i.invariant.2,
      c.loop-i.invariant.3,
    )
