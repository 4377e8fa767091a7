use Rattle.std.proofs.Common.{◌∙◌, ◌++◌, ℕ, List, ap}
use Rattle.pg_node_entry.specs.Entries.{entry_bytes}
use Rattle.pg_host.proofs.Leaves.{none_done, same_entry}
use Rattle.pg_host.proofs.keeping.append.Goals as goal

pub returns-in-Err-clause-any_moment : goal.returns-in-Err-clause-any_moment
returns-in-Err-clause-any_moment g c = λ tells entries stands. none_done c.args.log.now (g.D.Disk.told c.args.disk.now) entries (entry_bytes c.args.entry) stands

pub returns-in-OutOfMemory-clause-any_moment : goal.returns-in-OutOfMemory-clause-any_moment
returns-in-OutOfMemory-clause-any_moment g c = λ tells entries stands.
    same_entry (g.D.Disk.told c.args.disk.now) (g.D.Disk.told c.append.new.disk) entries c.as_slice.result.now (entry_bytes c.args.entry)
    (c.as_slice.ensures ∙ c.in-Ok.ensures.bytes ∙ ap (λ (l : List ℕ). l ++ entry_bytes c.args.entry) c.clear.ensures) (c.append.ensures.any_moment tells entries stands)

pub returns-in-DiskFault-clause-any_moment : goal.returns-in-DiskFault-clause-any_moment
returns-in-DiskFault-clause-any_moment g c = λ tells entries stands.
    same_entry (g.D.Disk.told c.args.disk.now) (g.D.Disk.told c.append.new.disk) entries c.as_slice.result.now (entry_bytes c.args.entry)
    (c.as_slice.ensures ∙ c.in-Ok.ensures.bytes ∙ ap (λ (l : List ℕ). l ++ entry_bytes c.args.entry) c.clear.ensures) (c.append.ensures.any_moment tells entries stands)
