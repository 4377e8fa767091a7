use Rattle.std.proofs.Common.{◌≡◌, length, ap, sym, ◌∙◌, subst, ◌+◌, ◌≤◌, ◌<◌, ◌^◌, max, ℕ, List, arith}
use Rattle.pg_base.specs.declared.id.FileId.{FileId}
use Rattle.pg_names.specs.Names.{directories}
use Rattle.pg_house.specs.Work.{State, state_of}
use Rattle.pg_house.specs.Passing.{pass_all}
use Rattle.pg_house.specs.Placing.{repeated}
use Rattle.pg_house.specs.Returning.{return_first}
use Rattle.pg_house.specs.Cycles.{break_first}
use Rattle.pg_house.proofs.Keys.{pass_all_dirs, returns_dirs}
use Rattle.pg_house.proofs.Lasting.{room, more_room, pass_all_last}
use Rattle.pg_house.proofs.rules.run.Goals as goal

pub return_all-requires : goal.return_all-requires
return_all-requires c =
    let st : State = state_of c.args.names.now c.args.work.now in
    let ds = directories st.names in
    let fs = c.args.files.now in
    let m = c.args.moment in
    let one : State = state_of c.pass_all.new.names c.pass_all.new.work in
    let p : one ≡ pass_all st ds fs = c.in_ok-pass_all.ensures in
    let d1 : directories one.names ≡ ds = ap (λ (u : State). directories u.names) p ∙ pass_all_dirs st ds fs in
    subst (λ (es : List FileId). max (2 ^ 62) one.names.last + length es < 2 ^ 63) (sym d1) (room st one ds fs (length ds) p c.requires.last c.requires.few)

pub break_all-requires-clause-few : goal.break_all-requires-clause-few
break_all-requires-clause-few c =
    let st : State = state_of c.args.names.now c.args.work.now in
    let ds = directories st.names in
    let fs = c.args.files.now in
    let m = c.args.moment in
    let one : State = state_of c.pass_all.new.names c.pass_all.new.work in
    let p : one ≡ pass_all st ds fs = c.in_ok-pass_all.ensures in
    let d1 : directories one.names ≡ ds = ap (λ (u : State). directories u.names) p ∙ pass_all_dirs st ds fs in
    let two : State = state_of c.return_all.new.names c.return_all.new.work in
    let r : two ≡ repeated (length ds) (return_first m ds) one = c.in_ok-return_all.ensures.back ∙ ap (λ es. repeated (length es) (return_first m es) one) d1 in
    let d2 : directories two.names ≡ ds = ap (λ (u : State). directories u.names) r ∙ returns_dirs m ds (length ds) one ∙ d1 in
    let few : length ds < 2 ^ 60 = c.requires.few in
    subst (λ (es : List FileId). length es < 2 ^ 62) (sym d2) (omega arith)

pub break_all-requires-clause-last : goal.break_all-requires-clause-last
break_all-requires-clause-last c =
    let st : State = state_of c.args.names.now c.args.work.now in
    let ds = directories st.names in
    let fs = c.args.files.now in
    let m = c.args.moment in
    let one : State = state_of c.pass_all.new.names c.pass_all.new.work in
    let p : one ≡ pass_all st ds fs = c.in_ok-pass_all.ensures in
    let d1 : directories one.names ≡ ds = ap (λ (u : State). directories u.names) p ∙ pass_all_dirs st ds fs in
    let two : State = state_of c.return_all.new.names c.return_all.new.work in
    let r : two ≡ repeated (length ds) (return_first m ds) one = c.in_ok-return_all.ensures.back ∙ ap (λ es. repeated (length es) (return_first m es) one) d1 in
    let d2 : directories two.names ≡ ds = ap (λ (u : State). directories u.names) r ∙ returns_dirs m ds (length ds) one ∙ d1 in
    let same = ap (λ (u : State). u.names.last) p ∙ pass_all_last st ds fs in
    let first = subst (λ (n : ℕ). n ≤ 2 ^ 62 + 2 ^ 40) (sym same) c.requires.last in
    let up = subst (λ (es : List FileId). two.names.last ≤ max (2 ^ 62) one.names.last + length es) d1 c.in_ok-return_all.ensures.last in
    subst (λ (es : List FileId). max (2 ^ 62) two.names.last + length es < 2 ^ 63) (sym d2)
    (more_room two.names.last one.names.last (length ds) up first c.requires.few)

pub returns : goal.returns
returns c =
    let st : State = state_of c.args.names.now c.args.work.now in
    let ds = directories st.names in
    let fs = c.args.files.now in
    let m = c.args.moment in
    let one : State = state_of c.pass_all.new.names c.pass_all.new.work in
    let p : one ≡ pass_all st ds fs = c.in_ok-pass_all.ensures in
    let d1 : directories one.names ≡ ds = ap (λ (u : State). directories u.names) p ∙ pass_all_dirs st ds fs in
    let two : State = state_of c.return_all.new.names c.return_all.new.work in
    let r : two ≡ repeated (length ds) (return_first m ds) one = c.in_ok-return_all.ensures.back ∙ ap (λ es. repeated (length es) (return_first m es) one) d1 in
    let d2 : directories two.names ≡ ds = ap (λ (u : State). directories u.names) r ∙ returns_dirs m ds (length ds) one ∙ d1 in
    c.in_ok-break_all.ensures
    ∙ ap (λ es. repeated (length es) (break_first m es) two) d2
    ∙ ap (λ (u : State). repeated (length ds) (break_first m ds) u) (r ∙ ap (λ (u : State). repeated (length ds) (return_first m ds) u) p)
