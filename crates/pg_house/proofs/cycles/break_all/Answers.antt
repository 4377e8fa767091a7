use Rattle.std.proofs.Common.{◌≡◌, length, ap, sym, ◌∙◌, None}
use Rattle.pg_names.specs.Names.{directories}
use Rattle.pg_house.specs.Work.{State, state_of}
use Rattle.pg_house.specs.Cycles.{break_first, first_moving}
use Rattle.pg_house.proofs.Repeating.{stepped, ended, none_moves}
use Rattle.pg_house.proofs.Keys.{break_dirs}
use Rattle.pg_house.proofs.Lasting.{break_up}
use Rattle.pg_house.proofs.cycles.break_all.Goals as goal

pub returns-then-not-branch : goal.returns-then-not-branch
returns-then-not-branch c =
    let ds = directories c.args.names.now in
    let m = c.args.moment in
    let st : State = state_of c.loop-i.names c.loop-i.work in
    let t : State = state_of c.break_first.new.names c.break_first.new.work in
    let step : t ≡ break_first m ds st = c.in_ok-break_first.ensures.broken ∙ ap (λ es. break_first m es st) c.loop-i.invariant.2 in
    let dirs : directories t.names ≡ ds = ap (λ (u : State). directories u.names) step ∙ break_dirs m ds st ∙ c.loop-i.invariant.2 in
    let none : first_moving t.names (length ds) None ds ≡ None = ap (λ es. first_moving t.names (length es) None es) (sym dirs) ∙ c.in_ok-break_first.ensures.none c.if-not-branch.true in
    ended (break_first m ds) _ c.loop-i.i st t _ c.loop-i-test.true step (none_moves m ds t none) c.loop-i.invariant.0

pub loop-i-preserved : goal.loop-i-preserved
loop-i-preserved c =
    let ds = directories c.args.names.now in
    let m = c.args.moment in
    let st : State = state_of c.loop-i.names c.loop-i.work in
    let t : State = state_of c.break_first.new.names c.break_first.new.work in
    let step : t ≡ break_first m ds st = c.in_ok-break_first.ensures.broken ∙ ap (λ es. break_first m es st) c.loop-i.invariant.2 in (
      stepped (break_first m ds) _ c.loop-i.i st t _ c.loop-i-test.true step c.loop-i.invariant.0,
      break_up m ds st t c.args.names.now.last c.loop-i.i step c.loop-i.invariant.1,
      ap (λ (u : State). directories u.names) step ∙ break_dirs m ds st ∙ c.loop-i.invariant.2,
      c.loop-i.invariant.3,
    )
