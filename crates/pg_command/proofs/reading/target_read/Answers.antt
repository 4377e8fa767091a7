use Rattle.std.proofs.Common.{arith, codes, decimal, map}
use Rattle.std.specs.String.{string_bytes}
use Rattle.pg_command.proofs.Rows.{call_port, call_server}
use Rattle.pg_command.proofs.Values.{are_named, call_given, call_taken, number_stands}
use Rattle.pg_command.proofs.reading.target_read.Goals as goal

pub found_in-requires-clause-taken : goal.found_in-requires-clause-taken
found_in-requires-clause-taken c =
    call_taken (map string_bytes c.args.words.now) c.args.server c.args.port (omega arith) (omega arith) c.requires

pub found_in-requires-clause-named : goal.found_in-requires-clause-named
found_in-requires-clause-named c =
    are_named (map string_bytes c.args.words.now) _ (call_given (map string_bytes c.args.words.now) c.args.server c.args.port (omega arith) (omega arith) c.requires)

pub number_at-from-requires : goal.number_at-from-requires
number_at-from-requires c =
    rw c.from.ensures (number_stands (map string_bytes c.args.words.now) _ _ (codes "SERVER") (decimal c.args.server) c.in_ok-found.ensures
    (call_given (map string_bytes c.args.words.now) c.args.server c.args.port (omega arith) (omega arith) c.requires)
    (call_server (decimal c.args.server) (decimal c.args.port)))

pub number_at-at-requires : goal.number_at-at-requires
number_at-at-requires c =
    rw c.from-2.ensures (number_stands (map string_bytes c.args.words.now) _ _ (codes "PORT") (decimal c.args.port) c.in_ok-found.ensures
    (call_given (map string_bytes c.args.words.now) c.args.server c.args.port (omega arith) (omega arith) c.requires)
    (call_port (decimal c.args.server) (decimal c.args.port)))
