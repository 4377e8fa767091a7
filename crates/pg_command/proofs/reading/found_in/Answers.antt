use Rattle.std.proofs.Common.{◌∙◌, ap, map, option_map, sym}
use Rattle.std.specs.String.{string_bytes}
use Rattle.clap.specs.Simple.{subcommand_of}
use Rattle.pg_command.proofs.Values.{one_named}
use Rattle.pg_command.proofs.reading.found_in.Goals as goal
use Rattle.pg_command.specs.Program.{program_app}

pub returns : goal.returns
returns c =
    sym (c.in-Some.ensures.rows ∙ ap (option_map (λ p. p.1)) c.in_ok-matches.ensures)

pub unreachable-requires : goal.unreachable-requires
unreachable-requires c =
    one_named (subcommand_of program_app (map string_bytes c.args.words.now)) c.requires.named
    (c.in-None.ensures.rows ∙ ap (option_map (λ p. p.1)) c.in_ok-matches.ensures)
