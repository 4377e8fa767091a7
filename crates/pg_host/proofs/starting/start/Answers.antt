use Rattle.std.proofs.Common.{◌≡◌, ◌∙◌, ◌+◌, inl, ℕ, List, Option, ap, sym, subst, length, refl, rules}
use Rattle.pg_checkpoint.specs.Saves.{Loads}
use Rattle.pg_checkpoint.specs.Slots.{Slot}
use Rattle.pg_disk.specs.Told.{Told, given}
use Rattle.pg_disk.specs.Moments.{LeavesSince}
use Rattle.pg_disk.specs.Synced.{KeepsOthers}
use Rattle.pg_disk.proofs.Moments.{keeps_then}
use Rattle.pg_log.specs.Bytes.{OpensTo}
use Rattle.pg_log.specs.Log.{Stands}
use Rattle.pg_node_entry.specs.Entries.{entry_bytes}
use Rattle.pg_saving.specs.Usable.{usable}
use Rattle.pg_event.specs.declared.status.Status.TheVariants as status
use Rattle.pg_host.specs.Logs.{LeavesLog, begin_entry}
use Rattle.pg_host.specs.Starts.{IsFolded, IsNoFold}
use Rattle.pg_host.proofs.Refused.{log_left, no_refusal_disk, no_refusal_disk_fault, no_refusal_memory}
use Rattle.pg_host.proofs.Starts.{start_moments, started, still_opens, unstarted_fold}
use Rattle.pg_host.proofs.starting.start.Goals as goal

pub returns-in-DiskFault-clause-any_moment : goal.returns-in-DiskFault-clause-any_moment
returns-in-DiskFault-clause-any_moment g c = λ tells settled entries opens.
    still_opens c.args.server c.args.servers (g.D.Disk.told c.args.disk.now) (g.D.Disk.told c.open.new.disk) entries (c.open.ensures.any_moment tells settled entries opens)

pub returns-in-Err-loaded-clause-any_moment : goal.returns-in-Err-loaded-clause-any_moment
returns-in-Err-loaded-clause-any_moment g c = λ tells settled entries opens.
    let here : LeavesSince 0 (g.D.Disk.told c.args.disk.now) (g.D.Disk.told c.loaded.new.disk) (λ file. OpensTo file entries) =
    subst (λ (t : Told). LeavesSince 0 (g.D.Disk.told c.args.disk.now) t (λ file. OpensTo file entries)) (sym (c.loaded.ensures.same tells)) (c.open.ensures.any_moment tells settled entries opens) in
    still_opens c.args.server c.args.servers (g.D.Disk.told c.args.disk.now) (g.D.Disk.told c.loaded.new.disk) entries here

pub returns-in-Err-loaded-clause-others : goal.returns-in-Err-loaded-clause-others
returns-in-Err-loaded-clause-others g c = λ tells. subst (λ (t : Told). KeepsOthers 0 (g.D.Disk.told c.args.disk.now) t) (sym (c.loaded.ensures.same tells)) (c.open.ensures.others tells)

pub returns-in-Err-folded-clause-any_moment : goal.returns-in-Err-folded-clause-any_moment
returns-in-Err-folded-clause-any_moment g c = λ tells settled entries opens.
    let here : LeavesSince 0 (g.D.Disk.told c.args.disk.now) (g.D.Disk.told c.loaded.new.disk) (λ file. OpensTo file entries) =
    subst (λ (t : Told). LeavesSince 0 (g.D.Disk.told c.args.disk.now) t (λ file. OpensTo file entries)) (sym (c.loaded.ensures.same tells)) (c.open.ensures.any_moment tells settled entries opens) in
    still_opens c.args.server c.args.servers (g.D.Disk.told c.args.disk.now) (g.D.Disk.told c.loaded.new.disk) entries here

pub returns-in-Err-folded-clause-others : goal.returns-in-Err-folded-clause-others
returns-in-Err-folded-clause-others g c = λ tells. subst (λ (t : Told). KeepsOthers 0 (g.D.Disk.told c.args.disk.now) t) (sym (c.loaded.ensures.same tells)) (c.open.ensures.others tells)

pub returns-in-Err-folded-clause-err : goal.returns-in-Err-folded-clause-err
returns-in-Err-folded-clause-err g c =
    unstarted_fold g.D.Disk.tells c.args.server c.args.servers (given (g.D.Disk.told c.args.disk.now) 0) (g.D.Disk.faults c.args.disk.now) (g.D.Disk.faults c.loaded.new.disk) c.in-Err-folded.status c.in-Ok.opened.1
    c.in-Ok.ensures.opened (subst (λ (es : List (List ℕ)). IsNoFold c.args.server c.args.servers es c.in-Err-folded.status) c.as_slice.ensures c.in-Err-folded.ensures.err)

pub returns-in-Ok-append-clause-started : goal.returns-in-Ok-append-clause-started
returns-in-Ok-append-clause-started g c =
    let d0 : Told = g.D.Disk.told c.args.disk.now in
    let dm : Told = g.D.Disk.told c.loaded.new.disk in
    let same : g.D.Disk.tells → dm ≡ g.D.Disk.told c.open.new.disk = c.loaded.ensures.same in
    started c.args.server c.args.servers d0 dm (g.D.Disk.told c.append.new.disk) c.in-Ok.opened.1 (entry_bytes c.begin_entry-entry.result)
    (c.begin_entry-entry.ensures.is ∙ ap (begin_entry c.args.server c.args.servers) c.is_empty.ensures) g.D.Disk.tells c.append.new.log c.in-Ok-folded.node.store (c.len-count.result + 1) c.in-Ok-loaded.checkpoint
    (λ tells. subst (λ (t : Told). KeepsOthers 0 d0 t) (sym (same tells)) (c.open.ensures.others tells)) c.in-Ok.ensures.opened
    (λ tells. let found = c.in-Ok-loaded.ensures.loaded tells in
    (found.0, subst (λ (t : Told). Loads t found.0) (sym (same tells)) found.1, found.2 ∙ ap (λ (n : ℕ). usable c.args.server c.args.servers n found.0) c.len-count.ensures))
    (subst (λ (es : List (List ℕ)). IsFolded c.args.server c.args.servers c.in-Ok-loaded.checkpoint es c.in-Ok-folded.node.store) c.as_slice.ensures c.in-Ok-folded.ensures.folded)
    (λ tells. c.in-Ok-append.ensures.kept tells c.in-Ok.opened.1 (subst (λ (t : Told). Stands c.in-Ok.opened.0 t c.in-Ok.opened.1) (sym (same tells)) (c.in-Ok.ensures.stands tells)))
    (ap (λ (n : ℕ). n + 1) c.len-count.ensures)

pub returns-in-Ok-append-clause-any_moment : goal.returns-in-Ok-append-clause-any_moment
returns-in-Ok-append-clause-any_moment g c = λ tells settled entries opens.
    let d0 : Told = g.D.Disk.told c.args.disk.now in
    let dm : Told = g.D.Disk.told c.loaded.new.disk in
    let same : dm ≡ g.D.Disk.told c.open.new.disk = c.loaded.ensures.same tells in
    start_moments c.args.server c.args.servers d0 dm (g.D.Disk.told c.append.new.disk) c.in-Ok.opened.1 (entry_bytes c.begin_entry-entry.result)
    (c.begin_entry-entry.ensures.is ∙ ap (begin_entry c.args.server c.args.servers) c.is_empty.ensures) (subst (λ (t : Told). KeepsOthers 0 d0 t) (sym same) (c.open.ensures.others tells)) (c.in-Ok.ensures.opened tells) entries opens
    (subst (λ (t : Told). LeavesSince 0 d0 t (λ file. OpensTo file entries)) (sym same) (c.open.ensures.any_moment tells settled entries opens))
    (c.append.ensures.any_moment tells c.in-Ok.opened.1 (subst (λ (t : Told). Stands c.in-Ok.opened.0 t c.in-Ok.opened.1) (sym same) (c.in-Ok.ensures.stands tells)))

pub returns-in-Ok-append-clause-others : goal.returns-in-Ok-append-clause-others
returns-in-Ok-append-clause-others g c = λ tells.
    keeps_then 0 (g.D.Disk.told c.args.disk.now) (g.D.Disk.told c.loaded.new.disk) (g.D.Disk.told c.append.new.disk)
    (subst (λ (t : Told). KeepsOthers 0 (g.D.Disk.told c.args.disk.now) t) (sym (c.loaded.ensures.same tells)) (c.open.ensures.others tells)) (c.append.ensures.others tells)

pub returns-clause-any_moment : goal.returns-clause-any_moment
returns-clause-any_moment g c = λ tells settled entries opens.
    let d0 : Told = g.D.Disk.told c.args.disk.now in
    let dm : Told = g.D.Disk.told c.loaded.new.disk in
    let same : dm ≡ g.D.Disk.told c.open.new.disk = c.loaded.ensures.same tells in
    start_moments c.args.server c.args.servers d0 dm (g.D.Disk.told c.append.new.disk) c.in-Ok.opened.1 (entry_bytes c.begin_entry-entry.result)
    (c.begin_entry-entry.ensures.is ∙ ap (begin_entry c.args.server c.args.servers) c.is_empty.ensures) (subst (λ (t : Told). KeepsOthers 0 d0 t) (sym same) (c.open.ensures.others tells)) (c.in-Ok.ensures.opened tells) entries opens
    (subst (λ (t : Told). LeavesSince 0 d0 t (λ file. OpensTo file entries)) (sym same) (c.open.ensures.any_moment tells settled entries opens))
    (c.append.ensures.any_moment tells c.in-Ok.opened.1 (subst (λ (t : Told). Stands c.in-Ok.opened.0 t c.in-Ok.opened.1) (sym same) (c.in-Ok.ensures.stands tells)))

pub returns-clause-others : goal.returns-clause-others
returns-clause-others g c = λ tells.
    keeps_then 0 (g.D.Disk.told c.args.disk.now) (g.D.Disk.told c.loaded.new.disk) (g.D.Disk.told c.append.new.disk)
    (subst (λ (t : Told). KeepsOthers 0 (g.D.Disk.told c.args.disk.now) t) (sym (c.loaded.ensures.same tells)) (c.open.ensures.others tells)) (c.append.ensures.others tells)

pub returns-in-OutOfMemory-clause-refused : goal.returns-in-OutOfMemory-clause-refused
returns-in-OutOfMemory-clause-refused g c = λ refusal. absurd (no_refusal_memory status.OutOfMemory refl refusal)

pub returns-in-DiskFault-clause-refused : goal.returns-in-DiskFault-clause-refused
returns-in-DiskFault-clause-refused g c = λ refusal. absurd (no_refusal_disk status.DiskFault refl refusal)

pub returns-in-BadLog-clause-refused : goal.returns-in-BadLog-clause-refused
returns-in-BadLog-clause-refused g c = λ refusal tells. inl (c.open.ensures.bad c.in-BadLog.place (search rules) tells).1

pub returns-in-Err-loaded-clause-refused : goal.returns-in-Err-loaded-clause-refused
returns-in-Err-loaded-clause-refused g c = λ refusal.
    absurd (no_refusal_disk_fault (g.D.Disk.faults c.open.new.disk) (g.D.Disk.faults c.loaded.new.disk) c.in-Err-loaded.status c.in-Err-loaded.ensures.err refusal)

pub returns-in-Err-folded-clause-refused : goal.returns-in-Err-folded-clause-refused
returns-in-Err-folded-clause-refused g c = λ refusal tells.
    let d0 : Told = g.D.Disk.told c.args.disk.now in
    subst (λ (t : Told). LeavesLog d0 t) (sym (c.loaded.ensures.same tells))
    (log_left c.args.server c.args.servers d0 (g.D.Disk.told c.open.new.disk) c.in-Ok.opened.1 c.in-Err-folded.status (c.in-Ok.ensures.opened tells) (c.in-Ok.ensures.cut tells) (c.in-Ok.ensures.stands tells).settled
    (λ settled. c.open.ensures.any_moment tells settled c.in-Ok.opened.1 (c.in-Ok.ensures.opened tells)) (c.open.ensures.others tells)
    (subst (λ (es : List (List ℕ)). IsNoFold c.args.server c.args.servers es c.in-Err-folded.status) c.as_slice.ensures c.in-Err-folded.ensures.err) refusal)

pub returns-clause-refused : goal.returns-clause-refused
returns-clause-refused g c = λ refusal.
    absurd (no_refusal_disk_fault (g.D.Disk.faults c.loaded.new.disk) (g.D.Disk.faults c.append.new.disk) c.in-Err-append.status c.in-Err-append.ensures.err refusal)
