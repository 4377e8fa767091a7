use Rattle.std.proofs.Common.{refl}
use Rattle.pg_node_entry.proofs.Written.{call_written, front_long}
use Rattle.pg_node_entry.proofs.writing.write_noted_call.Goals as goal

pub behind_front-requires : goal.behind_front-requires
behind_front-requires c = front_long _ _ _ _ c.as_slice.ensures c.in_ok-bytes.ensures refl

pub returns-clause-bytes : goal.returns-clause-bytes
returns-clause-bytes c =
    call_written _ _ _ _ _ _ _ _ c.args.moment c.args.call c.in_ok-extend.ensures.ok c.in_ok-write_u8.ensures c.behind_front.ensures c.as_slice.ensures c.in_ok-bytes.ensures
    refl c.call-packet.ensures
