use Rattle.std.proofs.Common.{codes, decimal, map}
use Rattle.std.specs.String.{string_bytes}
use Rattle.pg_command.proofs.Rows.{numbers_events, numbers_seed, numbers_servers}
use Rattle.pg_command.proofs.Values.{are_named, number_stands, numbers_given, numbers_taken}
use Rattle.pg_command.proofs.reading.numbers_read.Goals as goal

pub found_in-requires-clause-taken : goal.found_in-requires-clause-taken
found_in-requires-clause-taken c =
    numbers_taken (map string_bytes c.args.words.now) c.args.checked c.requires.fits c.requires.spelled

pub found_in-requires-clause-named : goal.found_in-requires-clause-named
found_in-requires-clause-named c =
    are_named (map string_bytes c.args.words.now) _ (numbers_given (map string_bytes c.args.words.now) c.args.checked c.requires.fits c.requires.spelled)

pub number_at-seed-requires : goal.number_at-seed-requires
number_at-seed-requires c =
    let n = c.args.checked in
    number_stands (map string_bytes c.args.words.now) _ _ (codes "SEED") (decimal n.seed) c.in_ok-found.ensures
    (numbers_given (map string_bytes c.args.words.now) n c.requires.fits c.requires.spelled)
    (numbers_seed (decimal n.seed) (decimal n.servers) (decimal n.events))

pub number_at-servers-requires : goal.number_at-servers-requires
number_at-servers-requires c =
    let n = c.args.checked in
    rw c.from.ensures (number_stands (map string_bytes c.args.words.now) _ _ (codes "SERVERS") (decimal n.servers) c.in_ok-found.ensures
    (numbers_given (map string_bytes c.args.words.now) n c.requires.fits c.requires.spelled)
    (numbers_servers (decimal n.seed) (decimal n.servers) (decimal n.events)))

pub number_at-events-requires : goal.number_at-events-requires
number_at-events-requires c =
    let n = c.args.checked in
    number_stands (map string_bytes c.args.words.now) _ _ (codes "EVENTS") (decimal n.events) c.in_ok-found.ensures
    (numbers_given (map string_bytes c.args.words.now) n c.requires.fits c.requires.spelled)
    (numbers_events (decimal n.seed) (decimal n.servers) (decimal n.events))
