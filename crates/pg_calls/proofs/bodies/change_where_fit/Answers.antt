use Rattle.std.proofs.Common.{ap}
use Rattle.pg_base.specs.declared.stamp.Stamp.{Stamp}
use Rattle.pg_calls.proofs.InTime.{room_in_time}
use Rattle.pg_calls.proofs.bodies.change_where_fit.Goals as goal

pub make_version-requires-clause-room : goal.make_version-requires-clause-room
make_version-requires-clause-room c =
    room_in_time c.args.store.now c.args.file c.next_stamp-stamp.result.server
    (ap (λ (s : Stamp). s.server) c.next_stamp-stamp.ensures) c.requires
