use Rattle.law_order.proofs.Shown.{names_distinct}
use Rattle.law_order.proofs.Told.{all_named, directories_told, placed_well}
use Rattle.law_order.proofs.laws.all_is_named.Goals as goal

pub returns-clause-named : goal.returns-clause-named
returns-clause-named c = all_named

pub returns-clause-placed : goal.returns-clause-placed
returns-clause-placed c = placed_well

pub returns-clause-distinct : goal.returns-clause-distinct
returns-clause-distinct c = names_distinct

pub returns-clause-told : goal.returns-clause-told
returns-clause-told c = directories_told
