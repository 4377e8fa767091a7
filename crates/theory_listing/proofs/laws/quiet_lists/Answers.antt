use Rattle.theory_listing.proofs.Quiet.{quiet_lists}
use Rattle.theory_listing.proofs.laws.quiet_lists.Goals as goal

pub returns : goal.returns
returns g c = quiet_lists g.F.Listing.protocol
