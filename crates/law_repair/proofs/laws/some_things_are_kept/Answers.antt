use Rattle.law_repair.proofs.Parted.{loss_parts}
use Rattle.law_repair.proofs.Witness.{loss_is_not_kept, removal_keeps_the_root}
use Rattle.law_repair.proofs.laws.some_things_are_kept.Goals as goal

pub returns-clause-kept : goal.returns-clause-kept
returns-clause-kept c = removal_keeps_the_root

pub returns-clause-lost : goal.returns-clause-lost
returns-clause-lost c = loss_is_not_kept

pub returns-clause-parted : goal.returns-clause-parted
returns-clause-parted c = loss_parts
