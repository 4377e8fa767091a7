-- A journal's line is its first word and the words behind it, and is cut into them again.
use Rattle.std.proofs.Common.{ℕ, ◌≡◌, ◌≢◌, ◌<◌, ◌^◌, List, [], ◌∷◌, ◌++◌, refl, sym, ap, ◌∙◌, arith, codes, decimal, length, take, subst}
use Rattle.std.proofs.lemmas.List.{take_all}
use Rattle.std.specs.List.{AllByRecursion, join_with_byte}
use Rattle.std.proofs.lemmas.List.Elements.{All-append, All-cons}
use Rattle.std.proofs.lemmas.List.Splits.{join_with_byte-slice_split}
use Rattle.pg_call.specs.declared.call.Call.TheVariants as call
use Rattle.pg_event.specs.declared.event.Event.TheVariants as event
use Rattle.pg_event.proofs.Quiets.{few_asked}
use Rattle.pg_msg.specs.UpdateText.{update_spelling}
use Rattle.pg_msg.specs.declared.update.Update.{Update}
use Rattle.pg_msg.specs.declared.update.Update.TheVariants as update
use Rattle.pg_journal_lines.proofs.ReplyLacks.{few_replied, tick_reply}
use Rattle.pg_sched.specs.declared.line.Line.{Line}
use Rattle.pg_sched.specs.declared.line.Line.TheVariants as line
use Rattle.pg_sched.specs.Line.{line_body, line_words, IsLine}
use Rattle.pg_sched.proofs.Lines.{line_body-lacks}
use Rattle.pg_trace.specs.declared.journal_line.JournalLine.{JournalLine}
use Rattle.pg_trace.specs.declared.journal_line.JournalLine.TheVariants.{Event, Call, Tick, Void, Made, Sent, Asked, Replica, Nowhere, Meter}
use Rattle.pg_trace.specs.declared.replica.ShownContent.{ShownContent}
use Rattle.pg_trace.specs.declared.replica.ShownContent.TheVariants as contents
use Rattle.pg_trace.specs.JournalLine.{contents_words, printed_words, printed_body, IsPrinted}
use Rattle.pg_journal_lines.specs.declared.verb.Verb.TheVariants as verb
use Rattle.pg_journal_lines.specs.Reading.{too_many, verb_word, verb_of, words_behind, event_text}
use Rattle.pg_journal_lines.proofs.Lacking.{Lacks-verb, behind-lack}
use Rattle.pg_words.specs.Words.{words_in}
use Rattle.pg_words.proofs.Lacking.{Ends, space, feed, Lacks-decimal}
use Rattle.pg_words.proofs.Splitting.{Lacks, Lacks-join, split-join, take_short}

-- the words of a line are its verb and the words behind it
pub spelled : (p : JournalLine) → printed_words p ≡ verb_word (verb_of p) ∷ words_behind p
spelled (Event n what) = refl
spelled p = refl

some_line : (what : Line) → 0 < length (line_words what)
some_line (line.Happens (event.Tick s m w)) = omega arith
some_line what = omega arith

joined : (word : List ℕ) (words : List (List ℕ)) → 0 < length words → join_with_byte 32 (word ∷ words) ≡ word ++ 32 ∷ join_with_byte 32 words
joined word [] h = absurd (omega arith)
joined word (next ∷ words) h = refl

-- an event's text is cut by its first two spaces
pub event_body : (n : ℕ) (what : Line) → printed_body (Event n what) ≡ event_text (decimal n) (line_body what)
event_body n what = ap (λ (t : List ℕ). codes "event" ++ 32 ∷ t) (joined (decimal n) (line_words what) (some_line what))

ten : ◌≢◌ {A = ℕ} 32 10
ten e = let e' : ◌≡◌ {A = ℕ} 32 10 = e in omega arith

event-lacks : (n : ℕ) (what : Line) → n < 2 ^ 64 → IsLine what → Lacks 10 (event_text (decimal n) (line_body what))
event-lacks n what lt h =
    All-append (λ b. b ≢ 10) (codes "event") (32 ∷ (decimal n ++ 32 ∷ line_body what)) (Lacks-verb 10 verb.Event feed)
    (All-cons (λ b. b ≢ 10) 32 (decimal n ++ 32 ∷ line_body what) ten
    (All-append (λ b. b ≢ 10) (decimal n) (32 ∷ line_body what) (Lacks-decimal 10 n feed lt)
    (All-cons (λ b. b ≢ 10) 32 (line_body what) ten (line_body-lacks what h))))

words-lack : (c : ℕ) (p : JournalLine) → Ends c → c < 33 → IsPrinted p → verb_of p ≢ verb.Event → AllByRecursion (Lacks c) (verb_word (verb_of p) ∷ words_behind p)
words-lack c p h low fits other = (Lacks-verb c (verb_of p) h, behind-lack c p h low fits other)

other-lacks : (p : JournalLine) → IsPrinted p → verb_of p ≢ verb.Event → Lacks 10 (printed_body p)
other-lacks p fits other = let P : List (List ℕ) → Type 0 = λ ws. Lacks 10 (join_with_byte 32 ws) in subst P (sym (spelled p)) (Lacks-join 10 32 (verb_word (verb_of p) ∷ words_behind p) ten (words-lack 10 p feed (omega arith) fits other))

-- no line has a line feed in it
pub printed_body-lacks : (p : JournalLine) → IsPrinted p → Lacks 10 (printed_body p)
printed_body-lacks (Event n what) fits = let P : List ℕ → Type 0 = Lacks 10 in subst P (sym (event_body n what)) (event-lacks n what fits.0 fits.1)
printed_body-lacks p fits = other-lacks p fits (λ e. cc)

-- the words of a line that is no event, from its text
pub words-again : (p : JournalLine) → IsPrinted p → verb_of p ≢ verb.Event → words_in (printed_body p) ≡ printed_words p
words-again p fits other =
    ap (λ ws. words_in (join_with_byte 32 ws)) (spelled p) ∙ split-join 32 (verb_word (verb_of p)) (words_behind p) (words-lack 32 p space (omega arith) fits other) ∙ sym (spelled p)

few_line : (what : Line) → length (line_words what) < 8
few_line (line.Happens (event.Call s m (call.Mkdir p))) = omega arith
few_line what = omega arith

few_made : (u : Update) → length (update_spelling u) < 12
few_made (update.Version v) = omega arith
few_made u = omega arith

few_contents : (c : ShownContent) → length (contents_words c) < 6
few_contents (contents.File s n b) = omega arith
few_contents (contents.Dir n) = omega arith

few_words : (p : JournalLine) → IsPrinted p → length (printed_words p) < too_many
few_words (Event n what) fits = let h = few_line what in omega arith
few_words (Call k n r) fits = let h = few_replied r fits.1 in omega arith
few_words (Tick n r) fits = let h = few_replied r (tick_reply r fits.1) in omega arith
few_words (Void n v) fits = omega arith
few_words (Made u) fits = let h = few_made u in omega arith
few_words (Sent s) fits = omega arith
few_words (Asked w q) fits = let h = few_asked q in omega arith
few_words (Replica r) fits = let h = few_contents r.contents in omega arith
few_words (Nowhere f) fits = omega arith
few_words (Meter k n) fits = omega arith

-- a text whose first words are those of a line is the line's
pub text-again : (text : List ℕ) (p : JournalLine) → IsPrinted p → take too_many (words_in text) ≡ printed_words p → text ≡ printed_body p
text-again text p fits e =
    let n = ap length e in
    let few = few_words p fits in
    sym (join_with_byte-slice_split 32 text) ∙ ap (join_with_byte 32) (sym (take_short too_many (words_in text) (omega arith)) ∙ e)

-- the first words of a line's text are all its words
pub words-first : (text : List ℕ) (p : JournalLine) → IsPrinted p → verb_of p ≢ verb.Event → text ≡ printed_body p → take too_many (words_in text) ≡ printed_words p
words-first text p fits other e =
    let few = few_words p fits in
    ap (λ t. take too_many (words_in t)) e ∙ ap (take too_many) (words-again p fits other) ∙ take_all too_many (printed_words p) (omega arith)
