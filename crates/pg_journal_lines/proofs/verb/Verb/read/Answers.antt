use Rattle.std.proofs.Common.{rules, tests, ◌≡◌, ◌≢◌}
use Rattle.std.proofs.lemmas.Iterator.{YieldsList-from_slice, first_from_find}
use Rattle.std.proofs.lemmas.Iterator.Consumers.{YieldsList-from_copied}
use Rattle.pg_journal_lines.specs.Reading.{verb_word}
use Rattle.pg_journal_lines.proofs.VerbWords.{none_named, verbs}
use Rattle.pg_journal_lines.proofs.verb.Verb.read.Goals as goal

pub returns-clause-none : goal.returns-clause-none
returns-clause-none c =
    let word = c.args.word.now in
    none_named word _ _ (first_from_find _ _ c.find.result (λ v. word ≡ verb_word v) (λ v. word ≢ verb_word v) c.find.ensures.ran (YieldsList-from_copied (YieldsList-from_slice verbs cc))
    (λ x q k. search (rules, tests)) (λ x q k. search (rules, tests)))
