use Rattle.std.proofs.Common.{sym, ◌∙◌}
use Rattle.pg_base.proofs.Orders.{file_order_is}
use Rattle.pg_replica.proofs.Relisting.{relists_more}
use Rattle.pg_replica.proofs.Takings.{old_link}
use Rattle.pg_replica.proofs.listing.link_listed.Goals as goal

pub returns-then-not-makes_edge-clause-replica : goal.returns-then-not-makes_edge-clause-replica
returns-then-not-makes_edge-clause-replica c =
    sym (old_link c.args.replica.now c.args.peer c.args.birth c.args.keys.now c.args.tags.now (sym c.makes_edge.ensures ∙ c.if-not-makes_edge.true))

pub returns-clause-listed : goal.returns-clause-listed
returns-clause-listed c = relists_more _ _ c.args.file _ _ _ file_order_is c.in_ok-insert.ensures.entries
