use Rattle.theory_bodies.proofs.Agreeing.{asked_is_noted, notes_agree}
use Rattle.theory_bodies.proofs.laws.notes_agree_with_what_was_asked.Goals as goal

pub returns : goal.returns
returns c = record { on = notes_agree; noted = asked_is_noted }
