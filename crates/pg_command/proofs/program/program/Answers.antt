use Rattle.std.proofs.Common.{◌∙◌, ap, codes, refl, true}
use Rattle.std.proofs.lemmas.Result.{IfOk-weaker}
use Rattle.clap.specs.Simple.{app_of_fields, new_app}
use Rattle.pg_command.proofs.Apps.{with_command, with_setting}
use Rattle.pg_command.proofs.program.program.Goals as goal

pub returns : goal.returns
returns c =
    let told = ap app_of_fields c.about.ensures ∙ c.new.ensures.app in
    let bare = with_setting c.about.result c.no_binary_name.result (new_app (codes "pangaea"))
    (λ s. record s { no_binary_name = true }) (ap app_of_fields c.no_binary_name.ensures) told in
    let plain = with_setting c.no_binary_name.result c.disable_help_subcommand.result _
    (λ s. record s { disable_help_subcommand = true }) (ap app_of_fields c.disable_help_subcommand.ensures) bare in
    let top = with_setting c.disable_help_subcommand.result c.subcommand_required.result _
    (λ s. record s { subcommand_required = true }) (ap app_of_fields c.subcommand_required.ensures) plain in
    let one = with_command c.in_ok-subcommand.ensures top c.in_ok-replay.ensures refl in
    let two = with_command c.in_ok-subcommand-2.ensures one c.in_ok-make.ensures refl in
    let three = with_command c.in_ok-subcommand-3.ensures two c.in_ok-soak.ensures refl in
    let four = with_command c.in_ok-subcommand-4.ensures three c.in_ok-node.ensures refl in
    IfOk-weaker c.subcommand-5.result _ _ (λ m adds. with_command adds four c.in_ok-call.ensures refl) c.subcommand-5.ensures
