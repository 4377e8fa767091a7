use Rattle.std.proofs.Common.{map}
use Rattle.std.specs.String.{string_bytes}
use Rattle.clap.specs.Matches.{found_of}
use Rattle.pg_command.proofs.Metered.{metered_is, metered_named, metered_taken}
use Rattle.pg_command.proofs.reading.metered_read.Goals as goal

pub found_in-requires-clause-taken : goal.found_in-requires-clause-taken
found_in-requires-clause-taken c = metered_taken (map string_bytes c.args.words.now) c.args.checked c.requires

pub found_in-requires-clause-named : goal.found_in-requires-clause-named
found_in-requires-clause-named c = metered_named (map string_bytes c.args.words.now) c.args.checked c.requires

pub returns : goal.returns
returns c =
    metered_is (map string_bytes c.args.words.now) c.args.checked (found_of c.in_ok-found.found) c.get_flag.result
    c.requires c.in_ok-found.ensures c.get_flag.ensures.value c.get_flag.ensures.other
