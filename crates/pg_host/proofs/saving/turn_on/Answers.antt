use Rattle.std.proofs.Common.{◌≡◌, Bool, Option, sym, subst, ℕ, List}
use Rattle.pg_checkpoint.specs.Saves.{AreSettled, Loads, SlotsLeave}
use Rattle.pg_checkpoint.specs.Slots.{Slot}
use Rattle.pg_disk.specs.Told.{Told}
use Rattle.pg_saving.specs.Saves.{LeavesSaved}
use Rattle.pg_store.specs.declared.store.Store.{Store}
use Rattle.pg_host.specs.Host.{Scene, scene}
use Rattle.pg_host.specs.Savings.{GoesOn, is_due}
use Rattle.pg_host.specs.Slots.{SavesIf}
use Rattle.pg_host.proofs.Turns.{ends_safely, ends_saving, goes_on_one}
use Rattle.pg_host.proofs.saving.turn_on.Goals as goal

pub returns-in-Err-clause-ends : goal.returns-in-Err-clause-ends
returns-in-Err-clause-ends g c =
    let a : Scene = scene (g.N.Net.told c.args.net.now) (g.N.Net.takes c.args.net.now) (g.C.Clock.told c.args.clock.now) (g.D.Disk.told c.args.disk.now) c.args.log.now c.args.node.now.store in
    let b : Scene = scene (g.N.Net.told c.turn.new.net) (g.N.Net.takes c.turn.new.net) (g.C.Clock.told c.turn.new.clock) (g.D.Disk.told c.turn.new.disk) c.turn.new.log c.turn.new.server.store in
    ends_safely c.args.server c.args.servers g.N.Net.tells g.C.Clock.tells g.D.Disk.tells c.args.port c.args.count.now.entries a b c.in-Err.ensures.ends c.turn.ensures.others

pub returns-in-Ok-save_behind-clause-goes : goal.returns-in-Ok-save_behind-clause-goes
returns-in-Ok-save_behind-clause-goes g c =
    let a : Scene = scene (g.N.Net.told c.args.net.now) (g.N.Net.takes c.args.net.now) (g.C.Clock.told c.args.clock.now) (g.D.Disk.told c.args.disk.now) c.args.log.now c.args.node.now.store in
    let b : Scene = scene (g.N.Net.told c.turn.new.net) (g.N.Net.takes c.turn.new.net) (g.C.Clock.told c.turn.new.clock) (g.D.Disk.told c.turn.new.disk) c.turn.new.log c.turn.new.server.store in
    let d : Scene = scene (g.N.Net.told c.turn.new.net) (g.N.Net.takes c.turn.new.net) (g.C.Clock.told c.turn.new.clock) (g.D.Disk.told c.save_behind.new.disk) c.turn.new.log c.turn.new.server.store in
    let disk : Told = g.D.Disk.told c.save_behind.new.disk in
    let st : c.store.result.now ≡ c.turn.new.server.store = c.store.ensures in
    let count : ℕ = c.save_behind.new.count.entries in
    let due : Bool = is_due c.in-Ok.came c.save_behind.new.count.since in
    subst (λ (t : Bool). GoesOn g.N.Net.tells g.C.Clock.tells g.D.Disk.tells c.args.server c.args.servers c.args.port c.args.count.now.since c.args.count.now.entries c.save_behind.new.count.since count 1 t a d) (sym c.stops.ensures)
    (goes_on_one c.args.server c.args.servers g.N.Net.tells g.C.Clock.tells g.D.Disk.tells c.args.port c.in-Ok.came c.args.count.now.since c.args.count.now.entries c.save_behind.new.count.since count a b c.in-Ok.ensures.turns
    c.turn.ensures.others c.place_fits.ensures c.save_behind.ensures.entries c.save_behind.ensures.since disk c.save_behind.ensures.others
    (λ tells settled was loads. subst (λ (s : Store). SlotsLeave b.disk disk (LeavesSaved c.args.server c.args.servers count s was)) st (c.save_behind.ensures.any_moment tells settled was loads))
    (λ tells was loads. subst (λ (s : Store). (now : Option Slot) × Loads disk now × SavesIf due c.args.server c.args.servers count s was now) st (c.in-Ok-save_behind.ensures.saved tells was loads))
    c.in-Ok-save_behind.ensures.settled)

pub returns-in-Err-save_behind-clause-ends : goal.returns-in-Err-save_behind-clause-ends
returns-in-Err-save_behind-clause-ends g c =
    let a : Scene = scene (g.N.Net.told c.args.net.now) (g.N.Net.takes c.args.net.now) (g.C.Clock.told c.args.clock.now) (g.D.Disk.told c.args.disk.now) c.args.log.now c.args.node.now.store in
    let b : Scene = scene (g.N.Net.told c.turn.new.net) (g.N.Net.takes c.turn.new.net) (g.C.Clock.told c.turn.new.clock) (g.D.Disk.told c.turn.new.disk) c.turn.new.log c.turn.new.server.store in
    let disk : Told = g.D.Disk.told c.save_behind.new.disk in
    let st : c.store.result.now ≡ c.turn.new.server.store = c.store.ensures in
    let count : ℕ = c.save_behind.new.count.entries in
    ends_saving c.args.server c.args.servers g.N.Net.tells g.C.Clock.tells g.D.Disk.tells c.args.port c.in-Ok.came c.args.count.now.since c.args.count.now.entries c.save_behind.new.count.since count a b c.in-Ok.ensures.turns
    c.turn.ensures.others c.place_fits.ensures c.save_behind.ensures.entries c.save_behind.ensures.since disk c.save_behind.ensures.others
    (λ tells settled was loads. subst (λ (s : Store). SlotsLeave b.disk disk (LeavesSaved c.args.server c.args.servers count s was)) st (c.save_behind.ensures.any_moment tells settled was loads))
