use Rattle.std.proofs.Common.{◌∙◌, ap}
use Rattle.std.proofs.lemmas.Result.{IfOk-weaker}
use Rattle.clap.specs.Simple.{app_of_fields}
use Rattle.pg_command.proofs.Apps.{with_argument}
use Rattle.pg_command.proofs.program.node.Goals as goal

pub returns : goal.returns
returns c =
    let own = ap app_of_fields c.about.ensures ∙ c.new.ensures.app in
    let one = with_argument c.in_ok-arg.ensures own c.value.ensures.rule c.value.ensures.local in
    let two = with_argument c.in_ok-arg-2.ensures one c.value-2.ensures.rule c.value-2.ensures.local in
    let three = with_argument c.in_ok-arg-3.ensures two c.value-3.ensures.rule c.value-3.ensures.local in
    let four = with_argument c.in_ok-arg-4.ensures three c.value-4.ensures.rule c.value-4.ensures.local in
    IfOk-weaker c.arg-5.result _ _ (λ m adds. with_argument adds four c.value-5.ensures.rule c.value-5.ensures.local) c.arg-5.ensures
