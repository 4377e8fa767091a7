use Rattle.std.proofs.Common.{sym, arith}
use Rattle.pg_packet_read.proofs.Named.{other_target, read_target}
use Rattle.pg_packet_read.proofs.texts.target_of.Goals as goal

pub returns-in-Ok : goal.returns-in-Ok
returns-in-Ok c = read_target c.args.text.now c.in-Ok.id (omega arith) (omega arith) c.in-Ok.ensures.found

pub returns-in_ok-path-in-Err : goal.returns-in_ok-path-in-Err
returns-in_ok-path-in-Err c = rw c.in_ok-path-in-Err.ensures (sym (other_target c.args.text.now c.in-Err.ensures.refused))
