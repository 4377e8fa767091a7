use Rattle.theory_listing.proofs.Worlds.{runs_keep}
use Rattle.theory_listing.proofs.laws.runs_keep.Goals as goal

pub returns : goal.returns
returns g c = runs_keep g.F.Listing.protocol
