use Rattle.std.proofs.Common.{rules}
use Rattle.pg_base.specs.Id.{is_same_file}
use Rattle.pg_unacked.specs.declared.due.Due.{Due}
use Rattle.pg_unacked.proofs.Peers.{forgotten}
use Rattle.pg_unacked.proofs.unacked.Unacked.forget.Goals as goal

pub returns : goal.returns
returns c =
    forgotten _ (λ (d : Due). is_same_file c.args.file.now d.file) _ (λ k v b w f' t. search rules) _ _ _ c.retain.ensures.was_ordered c.retain.ensures.filtered c.self.view_is
