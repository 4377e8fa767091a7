use Rattle.std.proofs.Common.{◌<◌, ◌^◌, arith}
use Rattle.pg_cells.proofs.pg_store.InTime.{last_in_time}
use Rattle.pg_calls.proofs.InTime.{move_in_time}
use Rattle.pg_calls.proofs.naming.rename.Goals as goal

pub move_thing-requires : goal.move_thing-requires
move_thing-requires c =
    let early : c.args.store.now.names.last < 2 ^ 62 =
    last_in_time c.args.store.now (move_in_time c.args.store.now c.args.from.now c.args.to.now c.in-Ok.found c.in-Ok.ensures) in
    omega arith
