use Rattle.std.proofs.Common.{◌≡◌, ◌∙◌, ap, take}
use Rattle.pg_journal_lines.proofs.Behinds.{other_found, other_none}
use Rattle.pg_journal_lines.proofs.reading.other_of.Goals as goal
use Rattle.pg_journal_lines.specs.Reading.{too_many}
use Rattle.pg_words.specs.Words.{words_in}
use Rattle.pg_words.proofs.ListWords.{texts}

pub returns-clause-found : goal.returns-clause-found
returns-clause-found c =
    let words = texts (take c.first_words-count.result c.first_words-count.new.room) in
    let cut : words ≡ take too_many (words_in c.args.text.now) = c.first_words-count.ensures.first ∙ ap (λ n. take n (words_in c.args.text.now)) c.first_words-count.auto.room in
    other_found c.args.text.now words c.in_ok-found.found cut c.in_ok-found.ensures.found

pub returns-clause-none : goal.returns-clause-none
returns-clause-none c =
    let words = texts (take c.first_words-count.result c.first_words-count.new.room) in
    let cut : words ≡ take too_many (words_in c.args.text.now) = c.first_words-count.ensures.first ∙ ap (λ n. take n (words_in c.args.text.now)) c.first_words-count.auto.room in
    other_none c.args.text.now words c.in_ok-found.found cut c.in_ok-found.ensures.none
