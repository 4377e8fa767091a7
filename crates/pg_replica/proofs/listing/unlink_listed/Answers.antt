use Rattle.std.proofs.Common.{sym, ap, refl, ◌∙◌}
use Rattle.pg_base.proofs.Orders.{file_order_is}
use Rattle.pg_edges.specs.Edges.{are_clean}
use Rattle.pg_replica.proofs.Clean.{clean_unlinked}
use Rattle.pg_replica.proofs.Relisting.{relists_less, relists_same}
use Rattle.pg_replica.proofs.listing.unlink_listed.Goals as goal

pub returns-then-is_clean-clause-listed : goal.returns-then-is_clean-clause-listed
returns-then-is_clean-clause-listed c =
    relists_less _ _ c.args.file _ _ _ file_order_is c.remove.ensures.updates.0 (sym c.is_clean.ensures ∙ c.if-is_clean.true)

pub returns-else-is_clean-clause-listed : goal.returns-else-is_clean-clause-listed
returns-else-is_clean-clause-listed c =
    relists_same _ _ c.args.file _ _ refl (λ clean.
    ap are_clean c.unlink_due.ensures.edges ∙ clean_unlinked c.args.replica.now.edges c.args.peer c.args.birth clean)
