use Rattle.std.proofs.Common.{◌∙◌, ap, map}
use Rattle.std.specs.String.{string_bytes}
use Rattle.clap.specs.Takes.{takes}
use Rattle.pg_command.proofs.Apps.{matches_are}
use Rattle.pg_command.proofs.reading.matches_of.Goals as goal

pub returns-in-Ok : goal.returns-in-Ok
returns-in-Ok c =
    matches_are _ (map string_bytes c.args.words.now) c.in-Ok.matches c.in_ok-program.ensures c.in-Ok.ensures.matches

pub unreachable-requires : goal.unreachable-requires
unreachable-requires c =
    let short = c.in-Err.ensures.passes (ap (λ a. takes a (map string_bytes c.args.words.now)) c.in_ok-program.ensures ∙ c.requires) in
    absurd (c.in_default.not-OutOfMemory (c.kind.ensures ∙ short))
