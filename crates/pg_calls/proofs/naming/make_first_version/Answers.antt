use Rattle.pg_cells.specs.pg_store.Store.{replica_of}
use Rattle.pg_calls.proofs.First.{never_refused, room_at_first}
use Rattle.pg_calls.proofs.naming.make_first_version.Goals as goal

pub make_version-requires-clause-room : goal.make_version-requires-clause-room
make_version-requires-clause-room c =
    room_at_first (replica_of c.args.store.now c.args.id) c.next_stamp-stamp.result.server c.requires.1

pub unreachable-requires : goal.unreachable-requires
unreachable-requires c =
    never_refused (replica_of c.args.store.now c.args.id) c.next_stamp-stamp.result.server
    c.first_ranges-ranges.result c.in-Err-TooLong.field-0 c.requires.1 c.first_ranges-ranges.ensures
    (c.in-Err-TooLong.ensures.refused (λ h. let k = c.in-Err-TooLong.field-0-is in cc))

pub unreachable-requires-in-Err-ManyActors : goal.unreachable-requires-in-Err-ManyActors
unreachable-requires-in-Err-ManyActors c =
    never_refused (replica_of c.args.store.now c.args.id) c.next_stamp-stamp.result.server
    c.first_ranges-ranges.result c.in-Err-ManyActors.field-0 c.requires.1 c.first_ranges-ranges.ensures
    (c.in-Err-ManyActors.ensures.refused (λ h. let k = c.in-Err-ManyActors.field-0-is in cc))
