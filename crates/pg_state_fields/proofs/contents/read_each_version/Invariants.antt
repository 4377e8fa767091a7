use Rattle.std.proofs.Common.{◌≡◌, ◌-◌, [], None}
use Rattle.pg_content.specs.Content.{InStampOrder}
use Rattle.pg_packet_fields.specs.Lists.{many}
use Rattle.pg_state_fields.proofs.HeadsLast.{UpLast}
use Rattle.pg_state_fields.specs.Contents.{to_stamp, version_at}
use Rattle.pg_state_fields.proofs.contents.read_each_version.Given as goal

abbrev pub invariant-loop : goal.invariant-loop
invariant-loop l = (many version_at to_stamp (l.count - l.counter) l.last l.heads l.reader ≡ many version_at to_stamp l.count None [] l.fn.reader)
    × (InStampOrder l.heads × UpLast l.last l.heads)
