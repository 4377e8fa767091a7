use Rattle.law_names.proofs.Runs.{stand_on}
use Rattle.law_lists.proofs.Listing.{returns_list}
use Rattle.law_lists.proofs.laws.returns_list_a_child.Goals as goal

pub returns : goal.returns
returns c = λ n on ordered. returns_list n (stand_on n on) ordered
