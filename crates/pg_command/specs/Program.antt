-- The program's commands as clap has them.
use Rattle.std.specs.Prelude.{true, Some, codes}
use Rattle.clap.specs.Simple.{App, new_app, new_rule, on_top, with_rule, with_subcommand}
use Rattle.clap.specs.Walk.{Rule, Text}
use Rattle.clap.specs.declared.builder.action.ArgAction.TheVariants.{SetTrue}

-- a word that has to be there
abbrev pub value_rule : Text → Rule
value_rule name = record (new_rule name) { required = true }

abbrev pub meters_rule : Rule
meters_rule = record (new_rule (codes "meters")) {
  long = Some (codes "meters");
  action = Some SetTrue;
}

abbrev pub replay_app : App
replay_app = with_rule (new_app (codes "replay")) meters_rule

abbrev pub numbers_app : Text → App
numbers_app name =
    with_rule (with_rule (with_rule (new_app name) (value_rule (codes "SEED")))
    (value_rule (codes "SERVERS")))
    (value_rule (codes "EVENTS"))

abbrev pub node_app : App
node_app =
    with_rule (with_rule (with_rule (with_rule (with_rule (new_app (codes "node"))
    (value_rule (codes "SERVER")))
    (value_rule (codes "SERVERS")))
    (value_rule (codes "PORT")))
    (value_rule (codes "NAME")))
    (value_rule (codes "TURNS"))

abbrev pub call_app : App
call_app =
    with_rule (with_rule (new_app (codes "call")) (value_rule (codes "SERVER")))
    (value_rule (codes "PORT"))

abbrev pub top_app : App
top_app = on_top (λ s. record s {
  no_binary_name = true;
  disable_help_subcommand = true;
  subcommand_required = true;
}) (new_app (codes "pangaea"))

-- one level of subcommands
abbrev pub program_app : App
program_app =
    with_subcommand (with_subcommand (with_subcommand (with_subcommand (with_subcommand top_app
    replay_app.top)
    (numbers_app (codes "make")).top)
    (numbers_app (codes "soak")).top)
    node_app.top)
    call_app.top
