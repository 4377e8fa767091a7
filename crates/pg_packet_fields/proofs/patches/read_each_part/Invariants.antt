use Rattle.std.proofs.Common.{◌≡◌, ◌-◌, []}
use Rattle.pg_patch.specs.Parts.{AreInOrder}
use Rattle.pg_packet_fields.specs.Lists.{many}
use Rattle.pg_packet_fields.specs.Patches.{part_at, to_room, whole_room}
use Rattle.pg_packet_fields.proofs.Parts.{next_of}
use Rattle.pg_packet_fields.proofs.patches.read_each_part.Given as goal

abbrev pub invariant-loop : goal.invariant-loop
invariant-loop l = (many (part_at l.least) to_room (l.count - l.counter) (record { from = l.from; left = l.left }) l.parts l.reader ≡ many (part_at l.least) to_room l.count whole_room [] l.fn.reader)
    × AreInOrder 0 l.parts l.least × (l.from ≡ next_of 0 l.parts)
