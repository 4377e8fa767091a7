use Rattle.std.proofs.Common.{sym, ap, ◌∙◌}
use Rattle.pg_replica.specs.Replica.{cell_at}
use Rattle.pg_replica.proofs.Cells.{cell_at-version, cell_at-other}
use Rattle.pg_replica.proofs.replica.Replica.cell_at.Goals as goal

pub returns-in-Version : goal.returns-in-Version
returns-in-Version c =
    let heads = c.args.self.now.content.heads in
    c.at.ensures ∙ sym (cell_at-version heads c.in-Version.stamp) ∙ ap (cell_at heads) (sym c.in-Version.is)

pub returns-in_default : goal.returns-in_default
returns-in_default c = sym (cell_at-other c.args.self.now.content.heads c.args.key.now c.in_default.not-Version)
