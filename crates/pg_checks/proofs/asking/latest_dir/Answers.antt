use Rattle.std.proofs.Common.{ap, ◌∙◌, None}
use Rattle.pg_checks.specs.Asking.{latest}
use Rattle.pg_checks.proofs.Holders.{latest_holder}
use Rattle.pg_checks.proofs.asking.latest_dir.Goals as goal

pub returns : goal.returns
returns c =
    let s = c.args.names.now in
    c.last_cell.ensures ∙ ap (latest s c.args.file None) (c.as_slice.ensures.ids ∙ c.holders.ensures)
    ∙ latest_holder s c.args.file
