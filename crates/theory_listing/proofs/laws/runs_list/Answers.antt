use Rattle.theory_listing.proofs.Worlds.{runs_list}
use Rattle.theory_listing.proofs.laws.runs_list.Goals as goal

pub returns : goal.returns
returns g c = runs_list g.F.Listing.protocol
