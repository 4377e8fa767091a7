use Rattle.std.proofs.Common.{◌≡◌, None, false, length, true, sym, ◌∙◌}
use Rattle.pg_event.specs.declared.event.Event.TheVariants.{Deliver}
use Rattle.pg_server.specs.declared.input.Input.TheVariants as input
use Rattle.pg_world.specs.Stands.{IsEntryBy, IsEntryOf, lives}
use Rattle.pg_world.proofs.Standing.{all_ok, delivered, each_there, entry_by, entry_live, live_is_server, lives_same, lost_delivered, none_delivered, then_if}
use Rattle.pg_world.proofs.machine.Machine.deliver.Goals as goal

pub act-requires : goal.act-requires
act-requires c =
    live_is_server _ c.take_message.new.self.removed c.in-Some.message.to (sym c.is_live.ensures ∙ c.if-not-is_live.false)

pub returns-in_default-clause-state : goal.returns-in_default-clause-state
returns-in_default-clause-state c = λ w h.
    none_delivered c.args.self.now c.take_message.new.self w (length c.args.self.now.servers.items) c.args.number h
    c.in_default.ensures.servers c.in_default.ensures.removed c.in_default.ensures.bag c.in_default.ensures.found

pub returns-then-not-is_live-clause-state : goal.returns-then-not-is_live-clause-state
returns-then-not-is_live-clause-state c = λ w h.
    let m = c.args.self.now in
    let k = c.take_message.new.self in
    let n = length m.servers.items in
    let x = c.in-Some.message in
    let away : lives n m.removed x.to ≡ false =
    lives_same m k x.to c.in-Some.ensures.servers c.in-Some.ensures.removed ∙ sym c.is_live.ensures ∙ c.if-not-is_live.true in
    lost_delivered m k w n c.args.number h c.in-Some.ensures.servers c.in-Some.ensures.removed c.in-Some.ensures.bag x
    c.in-Some.ensures.found away

pub returns-clause-state : goal.returns-clause-state
returns-clause-state c =
    let m = c.args.self.now in
    let k = c.take_message.new.self in
    let n = length m.servers.items in
    let x = c.in-Some.message in
    let live : lives n m.removed x.to ≡ true =
    lives_same m k x.to c.in-Some.ensures.servers c.in-Some.ensures.removed ∙ sym c.is_live.ensures ∙ c.if-not-is_live.false in
    all_ok c.act.result _ _ _ _ c.act.ensures.servers c.act.ensures.bag c.act.ensures.removed
    (λ servers bag kept. λ w h.
    delivered m k w n c.args.number h c.in-Some.ensures.servers c.in-Some.ensures.removed c.in-Some.ensures.bag c.act.new.self x
    c.in-Some.ensures.found live servers bag kept)

pub returns-in_default-clause-entry : goal.returns-in_default-clause-entry
returns-in_default-clause-entry c = λ w h.
    let m = c.args.self.now in
    entry_by m c.take_message.new.self w (length m.servers.items) c.args.number h
    c.in_default.ensures.servers c.in_default.ensures.removed c.in_default.ensures.bag _ None c.in_default.ensures.found c.idle_entry.ensures

pub returns-then-not-is_live-clause-entry : goal.returns-then-not-is_live-clause-entry
returns-then-not-is_live-clause-entry c = λ w h.
    let m = c.args.self.now in
    let k = c.take_message.new.self in
    let n = length m.servers.items in
    let x = c.in-Some.message in
    let away : lives n m.removed x.to ≡ false =
    lives_same m k x.to c.in-Some.ensures.servers c.in-Some.ensures.removed ∙ sym c.is_live.ensures ∙ c.if-not-is_live.true in
    entry_live m k w n c.args.number h c.in-Some.ensures.servers c.in-Some.ensures.removed c.in-Some.ensures.bag _ x false
    c.in-Some.ensures.found away c.idle_entry-then-not-is_live.ensures

pub returns-clause-entry : goal.returns-clause-entry
returns-clause-entry c =
    let m = c.args.self.now in
    let k = c.take_message.new.self in
    let n = length m.servers.items in
    let x = c.in-Some.message in
    let e = Deliver c.args.number in
    let live : lives n m.removed x.to ≡ true =
    lives_same m k x.to c.in-Some.ensures.servers c.in-Some.ensures.removed ∙ sym c.is_live.ensures ∙ c.if-not-is_live.false in
    then_if c.act.result (IsEntryBy k e x.to (input.Arrival x.packet)) (IsEntryOf m e) c.act.ensures.entry
    (λ entry by. λ w h.
    entry_live m k w n c.args.number h c.in-Some.ensures.servers c.in-Some.ensures.removed c.in-Some.ensures.bag entry x true
    c.in-Some.ensures.found live
    (by w.stores (each_there m k w n c.args.number h c.in-Some.ensures.servers c.in-Some.ensures.removed c.in-Some.ensures.bag)))
