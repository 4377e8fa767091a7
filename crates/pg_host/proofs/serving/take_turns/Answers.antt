use Rattle.std.proofs.Common.{◌≡◌, Bool, false, inl, inr, ℕ, refl, subst, arith}
use Rattle.pg_host.specs.Host.{Scene, scene}
use Rattle.pg_host.specs.Savings.{GoesOn}
use Rattle.pg_host.proofs.Ended.{later_fault}
use Rattle.pg_host.proofs.Turns.{goes_on_none, goes_on_then, runs_on_failed, runs_on_spent, runs_on_stopped}
use Rattle.pg_host.proofs.serving.take_turns.Goals as goal

pub turns-init : goal.turns-init
turns-init g c = record {
  goes = goes_on_none c.args.server c.args.servers g.N.Net.tells g.C.Clock.tells g.D.Disk.tells c.args.port 1 c.args.entries (scene (g.N.Net.told c.args.net.now) (g.N.Net.takes c.args.net.now) (g.C.Clock.told c.args.clock.now) (g.D.Disk.told c.args.disk.now) c.args.log.now c.args.node.now.store) refl c.place_fits.ensures (let fits = c.ranges.entries.fits in omega arith);
  since = omega arith;
  going = c.requires.going;
  open_ = c.requires.open;
  fits = c.requires.fits;
  net_later = omega arith;
  disk_later = omega arith;
}

pub turns-preserved : goal.turns-preserved
turns-preserved g c =
    let a : Scene = scene (g.N.Net.told c.args.net.now) (g.N.Net.takes c.args.net.now) (g.C.Clock.told c.args.clock.now) (g.D.Disk.told c.args.disk.now) c.args.log.now c.args.node.now.store in
    let m : Scene = scene (g.N.Net.told c.turns.net) (g.N.Net.takes c.turns.net) (g.C.Clock.told c.turns.clock) (g.D.Disk.told c.turns.disk) c.turns.log c.turns.node.store in
    let b : Scene = scene (g.N.Net.told c.turn_on.new.net) (g.N.Net.takes c.turn_on.new.net) (g.C.Clock.told c.turn_on.new.clock) (g.D.Disk.told c.turn_on.new.disk) c.turn_on.new.log c.turn_on.new.node.store in
    record {
      goes = goes_on_then c.args.server c.args.servers g.N.Net.tells g.C.Clock.tells g.D.Disk.tells c.args.port 1 c.args.entries c.turns.count.since c.turns.count.entries c.turns._turn a m c.turns.invariant.goes
          c.turn_on.new.count.since c.turn_on.new.count.entries 1 false b
          (subst (λ (t : Bool). GoesOn g.N.Net.tells g.C.Clock.tells g.D.Disk.tells c.args.server c.args.servers c.args.port c.turns.count.since c.turns.count.entries c.turn_on.new.count.since c.turn_on.new.count.entries 1 t m b) c.if-stop.false c.in-Ok.ensures.goes);
      since = c.turn_on.ensures.since;
      open_ = c.in-Ok.ensures.ready;
      going = c.in-Ok.ensures.going;
      fits = c.in-Ok.ensures.fits;
      net_later = omega (arith, c.turns.invariant.net_later, c.turn_on.ensures.net_later);
      disk_later = omega (arith, c.turns.invariant.disk_later, c.turn_on.ensures.disk_later);
    }

pub returns-then-stop-clause-runs : goal.returns-then-stop-clause-runs
returns-then-stop-clause-runs g c =
    let a : Scene = scene (g.N.Net.told c.args.net.now) (g.N.Net.takes c.args.net.now) (g.C.Clock.told c.args.clock.now) (g.D.Disk.told c.args.disk.now) c.args.log.now c.args.node.now.store in
    let m : Scene = scene (g.N.Net.told c.turns.net) (g.N.Net.takes c.turns.net) (g.C.Clock.told c.turns.clock) (g.D.Disk.told c.turns.disk) c.turns.log c.turns.node.store in
    let b : Scene = scene (g.N.Net.told c.turn_on.new.net) (g.N.Net.takes c.turn_on.new.net) (g.C.Clock.told c.turn_on.new.clock) (g.D.Disk.told c.turn_on.new.disk) c.turn_on.new.log c.turn_on.new.node.store in
    runs_on_stopped c.args.server c.args.servers g.N.Net.tells g.C.Clock.tells g.D.Disk.tells c.args.port 1 1 c.args.entries c.turns.count.since c.turns.count.entries c.args.turns refl a m c.turns._turn
    c.turn_on.new.count.since c.turn_on.new.count.entries b (omega arith) c.turns.invariant.goes
    (subst (λ (t : Bool). GoesOn g.N.Net.tells g.C.Clock.tells g.D.Disk.tells c.args.server c.args.servers c.args.port c.turns.count.since c.turns.count.entries c.turn_on.new.count.since c.turn_on.new.count.entries 1 t m b) c.if-stop.true c.in-Ok.ensures.goes)

pub returns-in-Err-clause-runs : goal.returns-in-Err-clause-runs
returns-in-Err-clause-runs g c =
    let a : Scene = scene (g.N.Net.told c.args.net.now) (g.N.Net.takes c.args.net.now) (g.C.Clock.told c.args.clock.now) (g.D.Disk.told c.args.disk.now) c.args.log.now c.args.node.now.store in
    let m : Scene = scene (g.N.Net.told c.turns.net) (g.N.Net.takes c.turns.net) (g.C.Clock.told c.turns.clock) (g.D.Disk.told c.turns.disk) c.turns.log c.turns.node.store in
    let b : Scene = scene (g.N.Net.told c.turn_on.new.net) (g.N.Net.takes c.turn_on.new.net) (g.C.Clock.told c.turn_on.new.clock) (g.D.Disk.told c.turn_on.new.disk) c.turn_on.new.log c.turn_on.new.node.store in
    runs_on_failed c.args.server c.args.servers g.N.Net.tells g.C.Clock.tells g.D.Disk.tells c.args.port 1 1 c.args.entries c.turns.count.since c.turns.count.entries c.args.turns refl a m c.turns._turn (g.N.Net.faults c.turns.net) (g.N.Net.faults c.turn_on.new.net) (g.D.Disk.faults c.turns.disk) (g.D.Disk.faults c.turn_on.new.disk) c.in-Err.status b (omega arith)
    c.in-Err.ensures.err c.turns.invariant.goes c.in-Err.ensures.ends

pub returns-in-Err-clause-end : goal.returns-in-Err-clause-end
returns-in-Err-clause-end g c =
    inr (later_fault (g.N.Net.faults c.args.net.now) (g.N.Net.faults c.turns.net) (g.N.Net.faults c.turn_on.new.net) (g.N.Net.faults c.turn_on.new.net)
    (g.D.Disk.faults c.args.disk.now) (g.D.Disk.faults c.turns.disk) (g.D.Disk.faults c.turn_on.new.disk) (g.D.Disk.faults c.turn_on.new.disk)
    c.turns.invariant.net_later (omega arith) c.turns.invariant.disk_later (omega arith) c.in-Err.status c.in-Err.ensures.err)

pub returns-clause-runs : goal.returns-clause-runs
returns-clause-runs g c =
    let a : Scene = scene (g.N.Net.told c.args.net.now) (g.N.Net.takes c.args.net.now) (g.C.Clock.told c.args.clock.now) (g.D.Disk.told c.args.disk.now) c.args.log.now c.args.node.now.store in
    let m : Scene = scene (g.N.Net.told c.turns.net) (g.N.Net.takes c.turns.net) (g.C.Clock.told c.turns.clock) (g.D.Disk.told c.turns.disk) c.turns.log c.turns.node.store in
    let all : c.turns._turn ≡ c.args.turns = omega arith in
    runs_on_spent c.args.server c.args.servers g.N.Net.tells g.C.Clock.tells g.D.Disk.tells c.args.port 1 1 c.args.entries c.turns.count.since c.turns.count.entries c.args.turns refl a m
    (subst (λ (k : ℕ). GoesOn g.N.Net.tells g.C.Clock.tells g.D.Disk.tells c.args.server c.args.servers c.args.port 1 c.args.entries c.turns.count.since c.turns.count.entries k false a m) all c.turns.invariant.goes)
