use Rattle.std.proofs.Common.{◌∙◌, sym}
use Rattle.pg_checks.proofs.Components.{ends_in_name}
use Rattle.pg_checks.proofs.paths.ends_in_name.Goals as goal

pub returns-else-is_empty : goal.returns-else-is_empty
returns-else-is_empty c =
    ends_in_name c.args.path.now c.is_client_name.result c.last_of.result.now (sym c.is_empty.ensures ∙ c.if-is_empty.false) c.last_of.ensures c.is_client_name.ensures
