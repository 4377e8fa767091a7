-- The program's commands are those of `specs/Program.antt`.
use Rattle.std.proofs.Common.{◌≡◌, ◌∙◌, ◌&&◌, Bool, ap, ap₂, false, not, true, List, refl, subst}
use Rattle.clap.specs.Built.{AddsArg, AddsSubcommand}
use Rattle.clap.specs.Simple.{App, HasMatchesOf, Shape, app_of, on_top, subcommand_of, subcommand_rows_of, with_rule, with_subcommand}
use Rattle.clap.specs.Walk.{Rule, Text, rule_of}
use Rattle.clap.specs.declared.builder.arg.Arg.{Arg}
use Rattle.clap.specs.declared.builder.command.Command.{Command}
use Rattle.clap.specs.declared.parser.matches.ArgMatches.{ArgMatches}
use Rattle.pg_command.specs.Program.{program_app}

-- a setting of the command itself
pub with_setting : (old new : Command) (app : App) (f : Shape → Shape)
    → app_of new ≡ on_top f (app_of old)
    → app_of old ≡ app
    → app_of new ≡ on_top f app
with_setting old new app f is own = is ∙ ap (on_top f) own

pub with_argument : {old new : Command} {a : Arg} {app : App} {rule : Rule} → AddsArg old a new
    → app_of old ≡ app
    → rule_of a ≡ rule
    → a.global ≡ false
    → app_of new ≡ with_rule app rule
with_argument adds own is local = adds.shape local ∙ ap₂ with_rule own is

third : (x y z rest : Bool) → (x && (not y && (not z && rest))) ≡ true → z ≡ false
third false y z rest h = let bad : false ≡ true = h in absurd cc
third true true z rest h = let bad : false ≡ true = h in absurd cc
third true false true rest h = let bad : false ≡ true = h in absurd cc
third true false false rest h = refl

-- a plain command has no global argument
pub with_command : {old sub new : Command} {app under : App} → AddsSubcommand old sub new
    → app_of old ≡ app
    → app_of sub ≡ under
    → under.top.is_plain ≡ true
    → app_of new ≡ with_subcommand app under.top
with_command adds own is plain =
    adds.shape (third _ _ _ _ (ap (λ (a : App). a.top.is_plain) is ∙ plain))
    ∙ ap₂ with_subcommand own (ap (λ (a : App). a.top) is)

-- what the matches have
pub matches_are : (app : App) (words : List Text) (m : ArgMatches) → app ≡ program_app
    → HasMatchesOf app words m
    → subcommand_rows_of m ≡ subcommand_of program_app words
matches_are app words m is has = (subst (λ a. HasMatchesOf a words m) is has refl).1
