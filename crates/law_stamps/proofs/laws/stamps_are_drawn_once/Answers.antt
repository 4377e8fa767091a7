use Rattle.law_stamps.proofs.Stamped.{stamps_are_drawn_once}
use Rattle.law_stamps.proofs.laws.stamps_are_drawn_once.Goals as goal

pub returns : goal.returns
returns c = stamps_are_drawn_once
