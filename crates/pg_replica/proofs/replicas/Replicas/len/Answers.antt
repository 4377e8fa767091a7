use Rattle.std.proofs.Common.{sym, ap, ◌∙◌, length}
use Rattle.pg_replica.specs.Replicas.{ByFile}
use Rattle.pg_replica.proofs.Counting.{length-in_order}
use Rattle.pg_replica.proofs.replicas.Replicas.len.Goals as goal

pub returns-clause-len : goal.returns-clause-len
returns-clause-len c =
    c.len.ensures.len ∙ sym (length-in_order c.self.inside.by_file.entries c.len.ensures.unique)
    ∙ ap (λ (rs : ByFile). length rs) c.self.view_is
