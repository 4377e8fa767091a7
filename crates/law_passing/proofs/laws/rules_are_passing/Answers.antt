use Rattle.law_passing.proofs.House.{house_follows}
use Rattle.law_passing.proofs.laws.rules_are_passing.Goals as goal

pub returns : goal.returns
returns c = λ moment st takes k apart dirs last.
    let f = house_follows moment st takes k apart dirs last in
    record { more = f.more; made = f.is; tells = f.stands.tells }
