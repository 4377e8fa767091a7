-- No two lines have one spelling.
use Rattle.std.proofs.Common.{ℕ, ◌≡◌, List, Option, None, Some, refl, sym, ap, ◌∙◌, arith, codes, length, eqb, subst}
use Rattle.std.specs.List.{slice_split}
use Rattle.std.proofs.lemmas.Fmt.{decimal_injective}
use Rattle.pg_base.specs.declared.id.FileId.{FileId}
use Rattle.pg_sched.specs.declared.line.Line.{Line}
use Rattle.pg_sched.specs.declared.line.Line.TheVariants.{Happens, Settle, Show, Quiet, Trace, MeterOff}
use Rattle.pg_event.specs.declared.event.Event.TheVariants.{Call, Tick, Deliver, Lose, Repeat, Restart, Remove}
use Rattle.pg_sched.specs.declared.line.Form.{Form}
use Rattle.pg_sched.specs.declared.line.Form.TheVariants.{Full, Short}
use Rattle.pg_sched.specs.declared.verb.Verb.{Verb}
use Rattle.pg_sched.specs.declared.verb.Verb.TheVariants as verb
use Rattle.pg_sched.specs.Fields.{verb_word}
use Rattle.pg_call.proofs.CallSpelling.{one_call}
use Rattle.pg_call.specs.Call.{call_words}
use Rattle.pg_call.specs.declared.call.Call as call
use Rattle.pg_sched.specs.Line.{form_word, line_words, line_body, HasWords, IsLine}
use Rattle.pg_words.proofs.Splitting.{behind, word_at}
use Rattle.pg_words.proofs.Stamps.{same_server}
use Rattle.pg_base.proofs.Spellings.{spelling-same}
use Rattle.pg_sched.proofs.Table.{not_call, same_verb}
use Rattle.pg_sched.proofs.Words.{words-again}

same_form : (a b : Form) → form_word a ≡ form_word b → a ≡ b
same_form Full Full e = refl
same_form Short Short e = refl
same_form Full Short e = absurd (let n : 4 ≡ 5 = ap length e in omega arith)
same_form Short Full e = absurd (let n : 5 ≡ 4 = ap length e in omega arith)

-- the line is one of the verb, or a call where there is none
abbrev Shape : Option Verb → Line → Type 0
Shape None line = (s m : ℕ) × (c : call.Call) × (line ≡ Happens (Call s m c))
Shape (Some verb.Tick) line = (s m w : ℕ) × (line ≡ Happens (Tick s m w))
Shape (Some verb.Deliver) line = (n : ℕ) × (line ≡ Happens (Deliver n))
Shape (Some verb.Lose) line = (n : ℕ) × (line ≡ Happens (Lose n))
Shape (Some verb.Repeat) line = (n : ℕ) × (line ≡ Happens (Repeat n))
Shape (Some verb.Restart) line = (n : ℕ) × (line ≡ Happens (Restart n))
Shape (Some verb.Remove) line = (n : ℕ) × (line ≡ Happens (Remove n))
Shape (Some verb.Settle) line = (r m : ℕ) × (line ≡ Settle r m)
Shape (Some verb.Quiet) line = line ≡ Quiet
Shape (Some verb.Trace) line = (f : Form) × (line ≡ Trace f)
Shape (Some verb.Show) line = (f : FileId) × (line ≡ Show f)
Shape (Some verb.Meter) line = (n : ℕ) × (line ≡ MeterOff n)

abbrev verb_of : Line → Option Verb
verb_of (Happens (Call s m c)) = None
verb_of (Happens (Tick s m w)) = Some verb.Tick
verb_of (Happens (Deliver n)) = Some verb.Deliver
verb_of (Happens (Lose n)) = Some verb.Lose
verb_of (Happens (Repeat n)) = Some verb.Repeat
verb_of (Happens (Restart n)) = Some verb.Restart
verb_of (Happens (Remove n)) = Some verb.Remove
verb_of (Settle r m) = Some verb.Settle
verb_of Quiet = Some verb.Quiet
verb_of (Trace f) = Some verb.Trace
verb_of (Show f) = Some verb.Show
verb_of (MeterOff n) = Some verb.Meter

shape : (line : Line) → Shape (verb_of line) line
shape (Happens (Call s m c)) = (s, m, c, refl)
shape (Happens (Tick s m w)) = (s, m, w, refl)
shape (Happens (Deliver n)) = (n, refl)
shape (Happens (Lose n)) = (n, refl)
shape (Happens (Repeat n)) = (n, refl)
shape (Happens (Restart n)) = (n, refl)
shape (Happens (Remove n)) = (n, refl)
shape (Settle r m) = (r, m, refl)
shape Quiet = refl
shape (Trace f) = (f, refl)
shape (Show f) = (f, refl)
shape (MeterOff n) = (n, refl)

-- the first word of a line
abbrev head_word : Option Verb → List ℕ
head_word None = codes "call"
head_word (Some v) = verb_word v

same_head : (a b : Option Verb) → head_word a ≡ head_word b → a ≡ b
same_head None None e = refl
same_head (Some v) (Some u) e = ap Some (same_verb v u e)
same_head None (Some v) e = absurd (not_call v (sym e))
same_head (Some v) None e = absurd (not_call v e)

first_word : (line : Line) → word_at 0 (line_words line) ≡ head_word (verb_of line)
first_word (Happens (Call s m c)) = refl
first_word (Happens (Tick s m w)) = refl
first_word (Happens (Deliver n)) = refl
first_word (Happens (Lose n)) = refl
first_word (Happens (Repeat n)) = refl
first_word (Happens (Restart n)) = refl
first_word (Happens (Remove n)) = refl
first_word (Settle r m) = refl
first_word Quiet = refl
first_word (Trace f) = refl
first_word (Show f) = refl
first_word (MeterOff n) = refl

-- lines with the same words have the same shape
same_shape : (x y : Line) → line_words x ≡ line_words y → Shape (verb_of x) y
same_shape x y e =
    let same : verb_of y ≡ verb_of x = same_head (verb_of y) (verb_of x) (sym (first_word y) ∙ ap (word_at 0) (sym e) ∙ first_word x) in
    let P : Option Verb → Type 0 = λ v. Shape v y in subst P same (shape y)

-- what is to be shown of a line of the same words
abbrev Same : Line → Line → Type 0
Same x y = HasWords x → HasWords y → line_words x ≡ line_words y → x ≡ y

same_call : (s m t n : ℕ) (c d : call.Call) → Same (Happens (Call s m c)) (Happens (Call t n d))
same_call s m t n c d hx hy e =
    let server : s ≡ t = same_server s t hx.0 hy.0 (ap (word_at 1) e) in
    let moment : m ≡ n = decimal_injective m n hx.1 hy.1 (ap (word_at 2) e) in
    let called : call_words c ≡ call_words d = ap (λ ws. behind (behind (behind ws))) e in
    let same : c ≡ d = one_call c d hx.2 hy.2 called in
    cc

same_tick : (s m w t n u : ℕ) → Same (Happens (Tick s m w)) (Happens (Tick t n u))
same_tick s m w t n u hx hy e =
    let server : s ≡ t = same_server s t hx.0 hy.0 (ap (word_at 1) e) in
    let moment : m ≡ n = decimal_injective m n hx.1 hy.1 (ap (word_at 2) e) in
    let word : w ≡ u = decimal_injective w u hx.2 hy.2 (ap (word_at 3) e) in
    cc

same_settle : (r m q n : ℕ) → Same (Settle r m) (Settle q n)
same_settle r m q n hx hy e =
    let rounds : r ≡ q = same_server r q hx.0 hy.0 (ap (word_at 1) e) in
    let moment : m ≡ n = decimal_injective m n hx.1 hy.1 (ap (word_at 2) e) in
    cc

same_as : (x y z : Line) → y ≡ z → Same x z → Same x y
same_as x y z e h = let P : Line → Type 0 = Same x in subst P (sym e) h

same_words : (x y : Line) → Shape (verb_of x) y → Same x y
same_words (Happens (Call s m c)) y h = same_as _ y _ h.3 (same_call s m h.0 h.1 c h.2)
same_words (Happens (Tick s m w)) y h = same_as _ y _ h.3 (same_tick s m w h.0 h.1 h.2)
same_words (Happens (Deliver n)) y h = same_as _ y _ h.1 (λ hx hy e. ap (λ q. Happens (Deliver q)) (decimal_injective n h.0 hx hy (ap (word_at 1) e)))
same_words (Happens (Lose n)) y h = same_as _ y _ h.1 (λ hx hy e. ap (λ q. Happens (Lose q)) (decimal_injective n h.0 hx hy (ap (word_at 1) e)))
same_words (Happens (Repeat n)) y h = same_as _ y _ h.1 (λ hx hy e. ap (λ q. Happens (Repeat q)) (decimal_injective n h.0 hx hy (ap (word_at 1) e)))
same_words (Happens (Restart n)) y h = same_as _ y _ h.1 (λ hx hy e. ap (λ q. Happens (Restart q)) (same_server n h.0 hx hy (ap (word_at 1) e)))
same_words (Happens (Remove n)) y h = same_as _ y _ h.1 (λ hx hy e. ap (λ q. Happens (Remove q)) (same_server n h.0 hx hy (ap (word_at 1) e)))
same_words (Settle r m) y h = same_as _ y _ h.2 (same_settle r m h.0 h.1)
same_words Quiet y h = λ hx hy e. sym h
same_words (Trace f) y h = same_as _ y _ h.1 (λ hx hy e. ap Trace (same_form f h.0 (ap (word_at 1) e)))
same_words (Show f) y h = same_as _ y _ h.1 (λ hx hy e. ap Show (spelling-same f h.0 hx hy (ap (word_at 1) e)))
same_words (MeterOff n) y h = same_as _ y _ h.1 (λ hx hy e. ap MeterOff (decimal_injective n h.0 hx hy (ap (word_at 2) e)))

pub one_line : (x y : Line) → IsLine x → IsLine y → line_body x ≡ line_body y → x ≡ y
one_line x y hx hy e =
    let words = sym (words-again x hx.words) ∙ ap (slice_split (λ b. eqb b 32)) e ∙ words-again y hy.words in
    same_words x y (same_shape x y words) hx.words hy.words words
