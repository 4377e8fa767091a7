use Rattle.std.proofs.Common.{◌≡◌, ◌++◌, take}
use Rattle.std.specs.List.{flat_map}
use Rattle.pg_codec.specs.Spelling.{number_bytes}
use Rattle.pg_state.proofs.state.write_each_server.Given as goal

abbrev pub invariant-loop-server : goal.invariant-loop-server
invariant-loop-server l = l.out ≡ l.fn.out ++ flat_map (number_bytes 4) (take l.server-index l.servers)
