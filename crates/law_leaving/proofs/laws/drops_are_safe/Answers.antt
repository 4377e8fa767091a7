use Rattle.law_leaving.proofs.Safe.{drops_are_safe}
use Rattle.law_leaving.proofs.laws.drops_are_safe.Goals as goal

pub returns : goal.returns
returns c n on given = drops_are_safe n on given
