use Rattle.std.proofs.Common.{Err, ap, arith, subst, sym}
use Rattle.pg_path.specs.Path.{HasBadName}
use Rattle.pg_checks.specs.declared.call_error.CallError.{CallError}
use Rattle.pg_checks.specs.Answer.{Tells}
use Rattle.pg_checks.specs.Paths.{path_of}
use Rattle.pg_checks.proofs.Components.{bad_component, bad_number, whole_path}
use Rattle.pg_checks.proofs.paths.path_of.Goals as goal

pub overflow_cast-component : goal.overflow_cast-component
overflow_cast-component c =
    let bad : HasBadName c.args.text.now c.in-Err-BadName.component = (c.in-Err-BadName.ensures.bad c.in-Err-BadName.component).0 (ap Err c.in-Err-BadName.field-0-is) in
    let few = bad_number c.args.text.now c.in-Err-BadName.component bad in
    omega arith

pub returns-in-Ok : goal.returns-in-Ok
returns-in-Ok c =
    whole_path c.args.text.now c.in-Ok.path c.in-Ok.ensures.found.0 c.in-Ok.ensures.found.1 c.in-Ok.ensures.parts

pub returns-in-Err-BadName : goal.returns-in-Err-BadName
returns-in-Err-BadName c =
    let bad : HasBadName c.args.text.now c.in-Err-BadName.component = (c.in-Err-BadName.ensures.bad c.in-Err-BadName.component).0 (ap Err c.in-Err-BadName.field-0-is) in
    subst (λ (why : CallError). Tells (Err why) (path_of c.args.text.now)) (sym c.refused-in-Err-BadName.ensures)
    (bad_component c.args.text.now c.in-Err-BadName.component bad)
