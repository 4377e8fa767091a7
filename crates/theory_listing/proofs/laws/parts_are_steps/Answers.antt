use Rattle.theory_listing.proofs.Parts.{parts_are_steps, places_are_known}
use Rattle.theory_listing.proofs.laws.parts_are_steps.Goals as goal

pub returns-clause-steps : goal.returns-clause-steps
returns-clause-steps g c = parts_are_steps g.F.Listing.protocol

pub returns-clause-places : goal.returns-clause-places
returns-clause-places g c = places_are_known g.F.Listing.protocol
