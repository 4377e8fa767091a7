use Rattle.std.proofs.Common.{◌≡◌, ◌≤◌, length, ◌∙◌, sym, ap, List, ℕ, take, subst}
use Rattle.std.proofs.lemmas.Result.{IfOk-weaker, IfErr-weaker}
use Rattle.pg_call.specs.declared.fault.Fault.{Fault}
use Rattle.pg_sched.specs.Cause.{IsWordsCause}
use Rattle.pg_sched.specs.Line.{HasWords, IsLine, line_words, line_body}
use Rattle.pg_call.specs.declared.error.WordsError.TheVariants.{Bad}
use Rattle.pg_sched.specs.declared.line.Line.{Line}
use Rattle.pg_sched.proofs.Words.{text-again, no_more, words_cause}
use Rattle.pg_sched.proofs.reading.spelled_line.Goals as goal
use Rattle.pg_words.specs.Words.{words_in}
use Rattle.pg_words.proofs.ListWords.{texts}

spelled : (l : Line) (text : List ℕ) → HasWords l → length text ≤ 70000 → text ≡ line_body l → IsLine l × (text ≡ line_body l)
spelled l text h short e = let P : List ℕ → Type 0 = λ t. length t ≤ 70000 in (record { words = h; short = subst P e short }, e)

pub returns-clause-found : goal.returns-clause-found
returns-clause-found c =
    let words = texts (take c.first_words-count.result c.first_words-count.new.room) in
    let cut : take 8 (words_in c.args.text.now) ≡ words = ap (λ n. take n (words_in c.args.text.now)) (sym c.first_words-count.auto.room) ∙ sym c.first_words-count.ensures.first in
    IfOk-weaker c.line_of.result (λ l. HasWords l × (words ≡ line_words l)) (λ l. IsLine l × (c.args.text.now ≡ line_body l))
    (λ l h. spelled l c.args.text.now h.0 c.requires (text-again c.args.text.now l (no_more l (words_in c.args.text.now) h.0 (cut ∙ h.1)))) c.line_of.ensures.found

pub returns-clause-bad : goal.returns-clause-bad
returns-clause-bad c =
    let words = texts (take c.first_words-count.result c.first_words-count.new.room) in
    let cut : take 8 (words_in c.args.text.now) ≡ words = ap (λ n. take n (words_in c.args.text.now)) (sym c.first_words-count.auto.room) ∙ sym c.first_words-count.ensures.first in
    IfErr-weaker c.line_of.result (λ e. (f : Fault) → e ≡ Bad f → IsWordsCause words f) (λ e. (f : Fault) → e ≡ Bad f → IsWordsCause (words_in c.args.text.now) f)
    (λ e h f q. let P : List (List ℕ) → Type 0 = λ ws. IsWordsCause ws f in words_cause (words_in c.args.text.now) f (subst P (sym cut) (h f q))) c.line_of.ensures.bad
