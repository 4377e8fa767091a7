-- What the words behind a verb are, where they spell a line.
use Rattle.std.proofs.Common.{ℕ, ◌≡◌, ◌≢◌, ◌<◌, ◌^◌, List, [], ◌∷◌, ◌++◌, Option, Some, None, IfSome, IfNone, sym, ap, ◌∙◌, codes, decimal, All, take, append_assoc}
use Rattle.std.proofs.lemmas.List.{append_cancel_left}
use Rattle.pg_base.proofs.Parts.{cut_same, not_cut}
use Rattle.pg_call.specs.declared.reply.Reply.{Reply}
use Rattle.pg_sched.specs.declared.line.Line.{Line}
use Rattle.pg_sched.specs.Line.{line_body, IsLine}
use Rattle.pg_trace.specs.declared.journal_line.JournalLine.{JournalLine}
use Rattle.pg_trace.specs.declared.journal_line.JournalLine.TheVariants.{Event, Tick}
use Rattle.pg_journal_lines.specs.declared.verb.Verb.{Verb}
use Rattle.pg_journal_lines.specs.declared.verb.Verb.TheVariants as verb
use Rattle.pg_trace.specs.JournalLine.{printed_words, printed_body, printed_text, IsPrinted}
use Rattle.pg_call.specs.Reply.{IsReply}
use Rattle.pg_journal_lines.specs.Reading.{Reads, told_words, too_many, verb_word, verb_of, event_text}
use Rattle.pg_journal_lines.proofs.ReplyLacks.{tick_reply}
use Rattle.pg_journal_lines.proofs.OnePrinted.{event_only}
use Rattle.pg_words.specs.Words.{words_in}
use Rattle.pg_words.proofs.Lacking.{space, Lacks-decimal}
use Rattle.pg_words.proofs.Splitting.{word_at}
use Rattle.pg_journal_lines.proofs.PrintedWords.{spelled, event_body, words-first, text-again, printed_body-lacks}

-- a server that told something, as these words say
abbrev pub IsTold : List (List ℕ) → Type 0
IsTold words = (n : ℕ) × (r : Reply) × (n < 2 ^ 32) × IsReply r × (words ≡ told_words n r)

pub tick_told : (words : List (List ℕ)) (p : JournalLine) → Reads verb.Tick words p → IsTold words
tick_told words (Tick n r) h = let f = h.fits in (n, r, f.0, tick_reply r f.1, h.behind)
tick_told words p h = absurd (let v = h.verb in cc)

-- an event's number and line, as these texts spell them
abbrev pub IsEvent : List ℕ → List ℕ → Type 0
IsEvent number what = (n : ℕ) × (l : Line) × (n < 2 ^ 64) × IsLine l × (number ≡ decimal n) × (what ≡ line_body l)

pub event_is : (number what : List ℕ) (p : JournalLine) → All (λ b. b ≢ 32) number → IsPrinted p → event_text number what ≡ printed_body p → IsEvent number what
event_is number what (Event n l) lacks fits e =
    let same = append_cancel_left (codes "event ") (number ++ 32 ∷ what) (decimal n ++ 32 ∷ line_body l) (e ∙ event_body n l) in
    let cut = cut_same 32 number what (decimal n) (line_body l) lacks (Lacks-decimal 32 n space fits.0) same in
    (n, l, fits.0, fits.1, cut.0, cut.1)
event_is number what p lacks fits e = absurd (let h = event_only p (number ++ 32 ∷ what) (sym e) in cc)

-- a text that does not begin as an event's is none
pub uncut : {X : Type 0} (o : Option X) (text rest : List ℕ) → text ≡ codes "event " ++ rest → IfNone o (All (λ b. b ≢ 32) rest) → IfNone o ((number what : List ℕ) → text ≡ event_text number what → ⊥)
uncut {X} (Some x) text rest e h = tt
uncut {X} None text rest e h = λ number what f. not_cut 32 rest number what h (append_cancel_left (codes "event ") rest (number ++ 32 ∷ what) (sym e ∙ f))

pub no_verb : (words : List (List ℕ)) (word : List ℕ) (rest : List (List ℕ)) → words ≡ word ∷ rest → ((v : Verb) → word ≢ verb_word v) → (p : JournalLine) → words ≡ printed_words p → ⊥
no_verb words word rest e h p f = h (verb_of p) (ap (word_at 0) (sym e ∙ f ∙ spelled p))

pub other_found : (text : List ℕ) (words : List (List ℕ)) (o : Option JournalLine) → words ≡ take too_many (words_in text) → IfSome o (λ p. IsPrinted p × (words ≡ printed_words p)) → IfSome o (λ p. IsPrinted p × (text ≡ printed_body p))
other_found text words None e h = tt
other_found text words (Some p) e h = (h.0, text-again text p h.0 (sym e ∙ h.1))

pub other_none : (text : List ℕ) (words : List (List ℕ)) (o : Option JournalLine) → words ≡ take too_many (words_in text)
    → IfNone o ((p : JournalLine) → IsPrinted p → verb_of p ≢ verb.Event → words ≡ printed_words p → ⊥) → IfNone o ((p : JournalLine) → IsPrinted p → verb_of p ≢ verb.Event → text ≡ printed_body p → ⊥)
other_none text words (Some p) e h = tt
other_none text words None e h = λ p fits other f. h p fits other (e ∙ words-first text p fits other f)

-- a line that is an event is one by its text
pub event_words : (p : JournalLine) (text : List ℕ) → text ≡ printed_body p → ((number what : List ℕ) → text ≡ event_text number what → ⊥) → verb_of p ≢ verb.Event
event_words (Event n l) text e h v = h (decimal n) (line_body l) (e ∙ event_body n l)
event_words p text e h v = cc

-- what was cut at the first line feed is the body of the line that stands there
pub printed_cut : (text cut after : List ℕ) (line : JournalLine) (rest : List ℕ) → IsPrinted line → All (λ b. b ≢ 10) cut → text ≡ cut ++ 10 ∷ after → text ≡ printed_text line ++ rest → cut ≡ printed_body line
printed_cut text cut after line rest fits lacks e f =
    (cut_same 10 cut after (printed_body line) rest lacks (printed_body-lacks line fits) (sym e ∙ f ∙ append_assoc (printed_body line) (10 ∷ []) rest)).0
