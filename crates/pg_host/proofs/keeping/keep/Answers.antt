use Rattle.std.proofs.Common.{ap}
use Rattle.pg_node_entry.specs.Entries.{entry_bytes}
use Rattle.pg_host.specs.Entries.{entry_for}
use Rattle.pg_host.proofs.Leaves.{same_entry}
use Rattle.pg_host.proofs.keeping.keep.Goals as goal

pub returns-in-Err-clause-any_moment : goal.returns-in-Err-clause-any_moment
returns-in-Err-clause-any_moment g c = λ tells entries stands.
    same_entry (g.D.Disk.told c.args.disk.now) (g.D.Disk.told c.append.new.disk) entries (entry_bytes c.noted.result) (entry_for c.args.input) (ap entry_bytes c.noted.ensures)
    (c.append.ensures.any_moment tells entries stands)
