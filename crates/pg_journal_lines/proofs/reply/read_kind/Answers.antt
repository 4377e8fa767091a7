use Rattle.std.proofs.Common.{rules, tests, ◌≡◌, ◌≢◌}
use Rattle.std.proofs.lemmas.Iterator.{YieldsList-from_slice, first_from_find}
use Rattle.std.proofs.lemmas.Iterator.Consumers.{YieldsList-from_copied}
use Rattle.pg_journal_lines.specs.Told.{head_word}
use Rattle.pg_journal_lines.proofs.ReplyKinds.{kinds, none_named}
use Rattle.pg_journal_lines.proofs.reply.read_kind.Goals as goal

pub returns-clause-none : goal.returns-clause-none
returns-clause-none c =
    let word = c.args.word.now in
    none_named word _ _ (first_from_find _ _ c.find.result (λ k. word ≡ head_word k) (λ k. word ≢ head_word k) c.find.ensures.ran (YieldsList-from_copied (YieldsList-from_slice kinds cc))
    (λ x q k. search (rules, tests)) (λ x q k. search (rules, tests)))
