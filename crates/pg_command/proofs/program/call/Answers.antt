use Rattle.std.proofs.Common.{◌∙◌, ap}
use Rattle.std.proofs.lemmas.Result.{IfOk-weaker}
use Rattle.clap.specs.Simple.{app_of_fields}
use Rattle.pg_command.proofs.Apps.{with_argument}
use Rattle.pg_command.proofs.program.call.Goals as goal

pub returns : goal.returns
returns c =
    let own = ap app_of_fields c.after_help.ensures ∙ ap app_of_fields c.override_usage.ensures
    ∙ ap app_of_fields c.about.ensures ∙ c.new.ensures.app in
    let one = with_argument c.in_ok-arg.ensures own c.value.ensures.rule c.value.ensures.local in
    IfOk-weaker c.arg-2.result _ _ (λ m adds. with_argument adds one c.value-2.ensures.rule c.value-2.ensures.local) c.arg-2.ensures
