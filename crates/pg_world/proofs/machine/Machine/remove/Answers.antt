use Rattle.std.proofs.Common.{◌≡◌, Some, None, length}
use Rattle.pg_event.specs.declared.entry.Entry.{Entry}
use Rattle.pg_event.specs.declared.event.Event.TheVariants.{Remove}
use Rattle.pg_run.specs.Run.{idle_entry}
use Rattle.pg_world.specs.Stands.{IsEntryOf}
use Rattle.pg_world.proofs.Standing.{all_ok, not_removed, removal_entry, removed, then_if}
use Rattle.pg_world.proofs.machine.Machine.remove.Goals as goal

pub returns-in-Some-clause-state : goal.returns-in-Some-clause-state
returns-in-Some-clause-state c = λ w h.
    let m = c.args.self.now in
    not_removed m m w (length m.servers.items) c.args.server h c.in-Some.cause c.in-Some.ensures

pub returns-in-Some-clause-entry : goal.returns-in-Some-clause-entry
returns-in-Some-clause-entry c = λ w h.
    let m = c.args.self.now in
    removal_entry m m w (length m.servers.items) c.args.server h c.idle_entry.result (Some c.in-Some.cause) c.in-Some.ensures c.idle_entry.ensures

pub returns-in-None-clause-state : goal.returns-in-None-clause-state
returns-in-None-clause-state c =
    let m = c.args.self.now in
    all_ok c.remove_live.result _ _ _ _ c.remove_live.ensures.bag c.remove_live.ensures.servers c.remove_live.ensures.removed
    (λ left same grown. λ w h. removed m c.remove_live.new.self w (length m.servers.items) c.args.server h c.in-None.ensures left same grown)

pub returns-in-None-clause-entry : goal.returns-in-None-clause-entry
returns-in-None-clause-entry c =
    let m = c.args.self.now in
    then_if c.remove_live.result (λ (entry : Entry). entry ≡ idle_entry (Remove c.args.server) None) (IsEntryOf m (Remove c.args.server))
    c.remove_live.ensures.entry
    (λ entry is. λ w h. removal_entry m m w (length m.servers.items) c.args.server h entry None c.in-None.ensures is)
