use Rattle.std.proofs.Common.{◌≡◌, ◌-◌, [], None}
use Rattle.pg_base.specs.Id.{file_cmp}
use Rattle.pg_packet_fields.specs.Lists.{many}
use Rattle.pg_state_read.specs.Later.{to_wished, wish_at}
use Rattle.pg_state_fields.proofs.Lasts.{Up}
use Rattle.pg_state_read.proofs.later.read_each_wish.Given as goal

abbrev pub invariant-loop : goal.invariant-loop
invariant-loop l = (many wish_at to_wished (l.count - l.counter) l.last l.wishes l.reader ≡ many wish_at to_wished l.count None [] l.fn.reader) × Up file_cmp l.last l.wishes
