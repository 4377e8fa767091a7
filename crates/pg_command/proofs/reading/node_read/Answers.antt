use Rattle.std.proofs.Common.{codes, decimal, map}
use Rattle.std.specs.String.{string_bytes}
use Rattle.pg_command.proofs.Rows.{node_name, node_port, node_server, node_servers, node_turns}
use Rattle.pg_command.proofs.Values.{are_named, node_given, node_taken, number_stands, text_stands}
use Rattle.pg_command.proofs.reading.node_read.Goals as goal

pub found_in-requires-clause-taken : goal.found_in-requires-clause-taken
found_in-requires-clause-taken c =
    let n = c.args.checked in
    node_taken (map string_bytes c.args.words.now) n.server n.servers n.port n.name.now n.turns c.requires.fits c.requires.spelled

pub found_in-requires-clause-named : goal.found_in-requires-clause-named
found_in-requires-clause-named c =
    let n = c.args.checked in
    are_named (map string_bytes c.args.words.now) _ (node_given (map string_bytes c.args.words.now) n.server n.servers n.port n.name.now n.turns c.requires.fits c.requires.spelled)

pub number_at-server-requires : goal.number_at-server-requires
number_at-server-requires c =
    let n = c.args.checked in
    rw c.from.ensures (number_stands (map string_bytes c.args.words.now) _ _ (codes "SERVER") (decimal n.server) c.in_ok-found.ensures
    (node_given (map string_bytes c.args.words.now) n.server n.servers n.port n.name.now n.turns c.requires.fits c.requires.spelled)
    (node_server (decimal n.server) (decimal n.servers) (decimal n.port) n.name.now (decimal n.turns)))

pub number_at-servers-requires : goal.number_at-servers-requires
number_at-servers-requires c =
    let n = c.args.checked in
    rw c.from-2.ensures (number_stands (map string_bytes c.args.words.now) _ _ (codes "SERVERS") (decimal n.servers) c.in_ok-found.ensures
    (node_given (map string_bytes c.args.words.now) n.server n.servers n.port n.name.now n.turns c.requires.fits c.requires.spelled)
    (node_servers (decimal n.server) (decimal n.servers) (decimal n.port) n.name.now (decimal n.turns)))

pub number_at-port-requires : goal.number_at-port-requires
number_at-port-requires c =
    let n = c.args.checked in
    rw c.from-3.ensures (number_stands (map string_bytes c.args.words.now) _ _ (codes "PORT") (decimal n.port) c.in_ok-found.ensures
    (node_given (map string_bytes c.args.words.now) n.server n.servers n.port n.name.now n.turns c.requires.fits c.requires.spelled)
    (node_port (decimal n.server) (decimal n.servers) (decimal n.port) n.name.now (decimal n.turns)))

pub text_at-name-requires : goal.text_at-name-requires
text_at-name-requires c =
    let n = c.args.checked in
    text_stands (map string_bytes c.args.words.now) _ _ (codes "NAME") n.name.now c.in_ok-found.ensures
    (node_given (map string_bytes c.args.words.now) n.server n.servers n.port n.name.now n.turns c.requires.fits c.requires.spelled)
    (node_name (decimal n.server) (decimal n.servers) (decimal n.port) n.name.now (decimal n.turns))

pub number_at-turns-requires : goal.number_at-turns-requires
number_at-turns-requires c =
    let n = c.args.checked in
    number_stands (map string_bytes c.args.words.now) _ _ (codes "TURNS") (decimal n.turns) c.in_ok-found.ensures
    (node_given (map string_bytes c.args.words.now) n.server n.servers n.port n.name.now n.turns c.requires.fits c.requires.spelled)
    (node_turns (decimal n.server) (decimal n.servers) (decimal n.port) n.name.now (decimal n.turns))
