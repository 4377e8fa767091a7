use Rattle.law_printable.proofs.Waiting.{answers, entries, places}
use Rattle.law_printable.proofs.laws.entries_suit.Goals as goal

pub returns-clause-entries : goal.returns-clause-entries
returns-clause-entries c = entries

pub returns-clause-answers : goal.returns-clause-answers
returns-clause-answers c = answers

pub returns-clause-places : goal.returns-clause-places
returns-clause-places c = places
