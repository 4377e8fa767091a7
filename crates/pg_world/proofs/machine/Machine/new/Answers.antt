use Rattle.std.proofs.Common.{arith, rules}
use Rattle.pg_world.proofs.Standing.{server_more}
use Rattle.pg_world.proofs.machine.Machine.new.Goals as goal

pub loop-k-preserved : goal.loop-k-preserved
loop-k-preserved c =
    let old = c.loop-k.invariant in
    record {
      count = omega (arith, old.count, c.loop-k.all.ok.0, c.in_ok-push.ensures.len, c.push.new.self.ok.0);
      each = server_more c.loop-k.all.items c.push.new.self.items c.args.servers c.loop-k.k _ old.count c.in_ok-push.ensures.items old.each (search rules);
    }
