use Rattle.std.proofs.Common.{◌∙◌, ap, rules}
use Rattle.std.proofs.lemmas.Result.{IfOk-weaker}
use Rattle.clap.specs.Simple.{app_of_fields}
use Rattle.pg_command.proofs.Apps.{with_argument}
use Rattle.pg_command.proofs.program.replay.Goals as goal
use Rattle.pg_command.specs.Program.{meters_rule}

pub returns : goal.returns
returns c =
    let own = ap app_of_fields c.about.ensures ∙ c.new-2.ensures.app in
    IfOk-weaker c.arg.result _ _ (λ m adds. with_argument {rule = meters_rule} adds own (search rules) (search rules)) c.arg.ensures
