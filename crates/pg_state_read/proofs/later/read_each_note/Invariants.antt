use Rattle.std.proofs.Common.{◌≡◌, ◌-◌, [], None}
use Rattle.pg_announced.specs.Announced.{key_cmp}
use Rattle.pg_packet_fields.specs.Lists.{many}
use Rattle.pg_state_read.specs.Later.{note_at, to_noted}
use Rattle.pg_state_fields.proofs.Lasts.{Up}
use Rattle.pg_state_read.proofs.later.read_each_note.Given as goal

abbrev pub invariant-loop : goal.invariant-loop
invariant-loop l = (many note_at to_noted (l.count - l.counter) l.last l.notes l.reader ≡ many note_at to_noted l.count None [] l.fn.reader) × Up key_cmp l.last l.notes
