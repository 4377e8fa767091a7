use Rattle.theory_listing.proofs.Quiet.{quiet_tree}
use Rattle.theory_listing.proofs.laws.quiet_tree.Goals as goal

pub returns : goal.returns
returns g c = quiet_tree g.F.Listing.protocol
