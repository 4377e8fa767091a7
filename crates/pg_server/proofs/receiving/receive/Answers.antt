use Rattle.std.proofs.Common.{◌≡◌, OnOk, subst, sym}
use Rattle.pg_entries.specs.declared.entry.Entry.{Entry}
use Rattle.pg_calls.specs.pg_msg.declared.message.Message.{Message}
use Rattle.pg_calls.specs.pg_repair.Confirming.{confirm}
use Rattle.pg_server.specs.Local.{receive}
use Rattle.pg_server.proofs.receiving.receive.Goals as goal

pub returns-in-Confirm-clause-store : goal.returns-in-Confirm-clause-store
returns-in-Confirm-clause-store c =
    subst (λ (m : Message). OnOk c.confirm.result (c.confirm.new.store ≡ (receive c.args.store.now m c.args.work.now).store)) (sym c.in-Confirm.is)
    (subst (λ (e : Entry). OnOk c.confirm.result (c.confirm.new.store ≡ (confirm c.args.store.now c.in-Confirm.dir e c.args.work.now).store))
    c.get-in-Confirm.ensures c.confirm.ensures.store)

pub returns-in-Confirm-clause-work : goal.returns-in-Confirm-clause-work
returns-in-Confirm-clause-work c =
    subst (λ (m : Message). OnOk c.confirm.result (c.confirm.new.work ≡ (receive c.args.store.now m c.args.work.now).work)) (sym c.in-Confirm.is)
    (subst (λ (e : Entry). OnOk c.confirm.result (c.confirm.new.work ≡ (confirm c.args.store.now c.in-Confirm.dir e c.args.work.now).work))
    c.get-in-Confirm.ensures c.confirm.ensures.work)
