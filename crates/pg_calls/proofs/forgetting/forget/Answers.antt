use Rattle.std.proofs.Common.{◌<◌, ◌^◌, arith}
use Rattle.pg_cells.proofs.pg_store.InTime.{last_in_time}
use Rattle.pg_calls.proofs.Lost.{lost_in_time}
use Rattle.pg_calls.proofs.forgetting.forget.Goals as goal

pub forget_lost-requires : goal.forget_lost-requires
forget_lost-requires c =
    let early : c.args.store.now.names.last < 2 ^ 62 =
    last_in_time c.args.store.now (lost_in_time c.args.store.now c.args.id c.in-Ok.id c.in-Ok.ensures) in
    omega arith
