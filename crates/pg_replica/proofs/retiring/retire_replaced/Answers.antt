use Rattle.std.proofs.Common.{sym, ap, ◌∙◌}
use Rattle.pg_content.specs.Content.{covers_version}
use Rattle.pg_replica.specs.Replica.{keys, without_keys}
use Rattle.pg_replica.proofs.Cells.{none_gone}
use Rattle.pg_replica.proofs.retiring.retire_replaced.Goals as goal

pub returns-else-replaces-clause-edges : goal.returns-else-replaces-clause-edges
returns-else-replaces-clause-edges c =
    let none = none_gone (covers_version c.args.version.now.head.vector) c.args.content.now.heads (sym c.replaces.ensures ∙ c.if-replaces.false) in
    sym (ap (λ vs. without_keys c.args.edges.now (keys vs)) none)
