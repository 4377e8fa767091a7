-- The words of a line have no space, so a line is cut into its words again; and a line is
-- printable, and not long.
use Rattle.std.proofs.Common.{rules, ℕ, ◌≡◌, ◌<◌, ◌≤◌, ◌^◌, ◌+◌, Bor, List, [], ◌∷◌, eqb, refl, sym, ap, ◌∙◌, arith, All, inl, inr, take, drop, length, subst, ◌-◌, length-append, take_all, codes}
use Rattle.std.specs.List.{AllByRecursion, join_with_byte, slice_split}
use Rattle.std.proofs.lemmas.List.Elements.{All-append, All-cons, All-weaker, All-nil}
use Rattle.std.proofs.lemmas.List.Splits.{join_with_byte-slice_split}
use Rattle.pg_call.specs.Call as call
use Rattle.pg_call.specs.Fields.{Field, call_fields, AreWordsOf, AreCounted}
use Rattle.pg_call.specs.declared.call.CallKind.{CallKind}
use Rattle.pg_call.specs.declared.call.CallKind.TheVariants as called
use Rattle.pg_call.specs.declared.fault.Fault.{Fault}
use Rattle.pg_call.proofs.CallTable.{same_count}
use Rattle.pg_sched.specs.Cause.{IsPrintable, IsCalledCause, IsWordsCause, IsRestCause}
use Rattle.pg_words.specs.Words.{words_in}
use Rattle.pg_sched.specs.Fields.{called_fields, fields, verb_word}
use Rattle.pg_sched.specs.Line.{line_words, line_body, HasWords, IsLine}
use Rattle.pg_event.specs.declared.event.Event.TheVariants.{Deliver, Tick}
use Rattle.pg_sched.specs.declared.line.Line.{Line}
use Rattle.pg_sched.specs.declared.line.Line.TheVariants.{Happens}
use Rattle.pg_sched.specs.declared.verb.Verb.{Verb}
use Rattle.pg_sched.specs.declared.verb.Verb.TheVariants as verb
use Rattle.pg_sched.proofs.Table.{tabled, no_words_cause, IsOfCall, IsOfVerb}
use Rattle.pg_sched.proofs.WordBytes.{most, word_few, word_each, verb_each, call_each, called_each, IsBounded}
use Rattle.pg_words.proofs.ListWords.{texts}
use Rattle.pg_words.proofs.WordIndexes.{at}
use Rattle.pg_words.proofs.Splitting.{split-join, take_short}
use Rattle.pg_words.proofs.WordBytes.{IsWordByte, lack_space}

each_of : (fs : List Field) (words : List (List ℕ)) → AreWordsOf fs words → AllByRecursion (All IsWordByte) words
each_of [] [] h = tt
each_of [] (word ∷ words) h = absurd h
each_of (field ∷ fs) [] h = absurd h
each_of (field ∷ fs) (word ∷ words) h = (word_each field word h.0, each_of fs words h.1)

few_fields : (v : Verb) → length (fields v) < 4
few_fields verb.Tick = omega arith
few_fields verb.Deliver = omega arith
few_fields verb.Lose = omega arith
few_fields verb.Repeat = omega arith
few_fields verb.Restart = omega arith
few_fields verb.Remove = omega arith
few_fields verb.Settle = omega arith
few_fields verb.Quiet = omega arith
few_fields verb.Trace = omega arith
few_fields verb.Show = omega arith
few_fields verb.Meter = omega arith

few_arguments : (k : CallKind) → length (call_fields k) < 4
few_arguments called.Mkdir = omega arith
few_arguments called.Create = omega arith
few_arguments called.Write = omega arith
few_arguments called.Cut = omega arith
few_arguments called.Read = omega arith
few_arguments called.Fresh = omega arith
few_arguments called.Ls = omega arith
few_arguments called.Stat = omega arith
few_arguments called.Rename = omega arith
few_arguments called.Unlink = omega arith
few_arguments called.Rmdir = omega arith
few_arguments called.Forget = omega arith
few_arguments called.Demote = omega arith
few_arguments called.Drop = omega arith
few_arguments called.Giveup = omega arith
few_arguments called.Status = omega arith
few_arguments called.Stop = omega arith

-- words that a line may have: one, and not too many behind it
record AreLineWords (words : List (List ℕ)) : Type 0 where
  pub first : List ℕ
  pub rest : List (List ℕ)
  pub words_are : words ≡ first ∷ rest
  pub few : length rest < 7
  pub each : AllByRecursion (All IsWordByte) (first ∷ rest)

of_verb : (words : List (List ℕ)) → IsOfVerb words → AreLineWords words
of_verb words t =
    let n = same_count (fields t.verb) t.rest t.each in
    let m = few_fields t.verb in
    record { first = verb_word t.verb; rest = t.rest; words_are = t.words_are; few = omega arith; each = (verb_each t.verb, each_of (fields t.verb) t.rest t.each) }

of_call : (words : List (List ℕ)) → IsOfCall words → AreLineWords words
of_call words t =
    let each = each_of (called_fields t.kind) (t.server ∷ t.moment ∷ t.rest) t.each in
    let n = same_count (call_fields t.kind) t.rest t.each.1.1 in
    let m = few_arguments t.kind in
    record {
      first = codes "call";
      rest = t.server ∷ t.moment ∷ call.kind_word t.kind ∷ t.rest;
      words_are = t.words_are;
      few = omega arith;
      each = (call_each, (each.0, (each.1.0, (called_each t.kind, each.1.1))));
    }

line_words_are : (line : Line) → HasWords line → AreLineWords (line_words line)
line_words_are line h = elim (tabled line h) [ inl t ↦ of_verb (line_words line) t | inr t ↦ of_call (line_words line) t ]

words_same : (ws : List (List ℕ)) → AreLineWords ws → slice_split (λ b. eqb b 32) (join_with_byte 32 ws) ≡ ws
words_same ws t = ap (λ x. slice_split (λ b. eqb b 32) (join_with_byte 32 x)) t.words_are ∙ split-join 32 t.first t.rest (lack_space (t.first ∷ t.rest) t.each) ∙ sym t.words_are

-- the words of a line, from its text
pub words-again : (line : Line) → HasWords line → slice_split (λ b. eqb b 32) (line_body line) ≡ line_words line
words-again line h = words_same (line_words line) (line_words_are line h)

pub text-again : (text : List ℕ) (line : Line) → slice_split (λ b. eqb b 32) text ≡ line_words line → text ≡ line_body line
text-again text line e = sym (join_with_byte-slice_split 32 text) ∙ ap (join_with_byte 32) e

-- a text whose words have a fault is no line
pub no_line : (text : List ℕ) (f : Fault) → IsWordsCause (words_in text) f → (line : Line) → IsLine line → text ≡ line_body line → ⊥
no_line text f cause line h e =
    let P : List (List ℕ) → Type 0 = λ ws. IsWordsCause ws f in
    no_words_cause line f h.words (subst P (ap (slice_split (λ b. eqb b 32)) e ∙ words-again line h.words) cause)

-- no line has more than seven words
few_words : (line : Line) → HasWords line → length (line_words line) < 8
few_words line h =
    let t = line_words_are line h in
    let few = t.few in
    let e = ap length t.words_are in
    omega arith

-- words whose first eight are those of a line are no more
pub no_more : (line : Line) (words : List (List ℕ)) → HasWords line → take 8 words ≡ line_words line → words ≡ line_words line
no_more line words h e = let n = few_words line h in let m = ap length e in sym (take_short 8 words (omega arith)) ∙ e

-- a fault of the first words is one of all, where more were taken than are wanted
rest_cause : (n : ℕ) (fs : List Field) (words : List (List ℕ)) (f : Fault) → length fs < n → IsRestCause fs (take n words) f → IsRestCause fs words f
rest_cause n fs words f few (inl b) =
    inl (
      λ h. let k = h.count in
          let same : take n words ≡ words = take_all n words (omega arith) in
          let P : List (List ℕ) → Type 0 = AreCounted fs in b.0 (subst P (sym same) h),
      b.1,
    )
rest_cause n fs words f few (inr b) =
    let counted = b.0 in
    let k = counted.count in
    let P : List (List ℕ) → Type 0 = λ ws. IsRestCause fs ws f in
    subst P (take_short n words (omega arith)) (inr b)

called_cause : (words : List (List ℕ)) (f : Fault) → IsCalledCause (take 7 words) f → IsCalledCause words f
called_cause [] f h = h
called_cause (s ∷ []) f h = h
called_cause (s ∷ m ∷ []) f h = h
called_cause (s ∷ m ∷ c ∷ words) f (inl h) = inl h
called_cause (s ∷ m ∷ c ∷ words) f (inr h) = let few = few_arguments h.0 in inr (h.0, h.1, rest_cause 6 (called_fields h.0) (s ∷ m ∷ words) f (omega arith) h.2)

pub words_cause : (words : List (List ℕ)) (f : Fault) → IsWordsCause (take 8 words) f → IsWordsCause words f
words_cause [] f h = h
words_cause (word ∷ words) f (inl h) = inl h
words_cause (word ∷ words) f (inr (inl h)) = let few = few_fields h.0 in inr (inl (h.0, h.1, rest_cause 7 (fields h.0) words f (omega arith) h.2))
words_cause (word ∷ words) f (inr (inr h)) = inr (inr (h.0, called_cause words f h.1))

-- where there are three words, the cause stands behind the word that names the call
pub called_there : (ws : List (Bor (List ℕ))) (d : Bor (List ℕ)) (k : CallKind) (f : Fault) → 3 ≤ length ws → at ws d 2 ≡ call.kind_word k
    → IsRestCause (called_fields k) (at ws d 0 ∷ at ws d 1 ∷ texts (take (length ws - 3) (drop 3 ws))) f → IsCalledCause (texts ws) f
called_there [] d k f h e r = absurd (omega arith)
called_there (s ∷ []) d k f h e r = absurd (omega arith)
called_there (s ∷ m ∷ []) d k f h e r = absurd (omega arith)
called_there (s ∷ m ∷ c ∷ ws) d k f h e r =
    let P : List (Bor (List ℕ)) → Type 0 = λ x. IsRestCause (called_fields k) (s.now ∷ m.now ∷ texts x) f in
    inr (k, e, subst P (take_all (length (s ∷ m ∷ c ∷ ws) - 3) ws (omega arith)) r)

printable : (word : List ℕ) → All IsWordByte word → All IsPrintable word
printable word h = All-weaker IsWordByte IsPrintable (λ b p. let low = p.0 in let high = p.1 in (omega arith, omega arith)) word h

join_printable : (words : List (List ℕ)) → AllByRecursion (All IsWordByte) words → All IsPrintable (join_with_byte 32 words)
join_printable [] h = All-nil IsPrintable
join_printable (word ∷ []) h = printable word h.0
join_printable (word ∷ next ∷ words) h =
    All-append IsPrintable word (32 ∷ join_with_byte 32 (next ∷ words)) (printable word h.0)
    (All-cons IsPrintable 32 (join_with_byte 32 (next ∷ words)) (omega arith, omega arith) (join_printable (next ∷ words) h.1))

-- a line is printable
pub line_printable : (line : Line) → HasWords line → All IsPrintable (line_body line)
line_printable line h =
    let t = line_words_are line h in
    let P : List (List ℕ) → Type 0 = λ ws. All IsPrintable (join_with_byte 32 ws) in
    subst P (sym t.words_are) (join_printable (t.first ∷ t.rest) t.each)

-- a line that is no call is not long

abbrev AreBounded : List Field → Type 0
AreBounded fs = AllByRecursion IsBounded fs

abbrev room : List Field → ℕ
room [] = 0
room (field ∷ fs) = 1 + most field + room fs

body_short : (word : List ℕ) (fs : List Field) (words : List (List ℕ)) → AreBounded fs → AreWordsOf fs words → length (join_with_byte 32 (word ∷ words)) ≤ length word + room fs
body_short word [] [] b h = omega arith
body_short word [] (next ∷ words) b h = absurd h
body_short word (field ∷ fs) [] b h = absurd h
body_short word (field ∷ fs) (next ∷ words) b h =
    let few = word_few field next b.0 h.0 in
    let more = body_short next fs words b.1 h.1 in
    let e = length-append word (32 ∷ join_with_byte 32 (next ∷ words)) in
    omega arith

room_short : (v : Verb) → AreBounded (fields v) × (length (verb_word v) + room (fields v) ≤ 70000)
room_short verb.Tick = (search rules, omega arith)
room_short verb.Deliver = (search rules, omega arith)
room_short verb.Lose = (search rules, omega arith)
room_short verb.Repeat = (search rules, omega arith)
room_short verb.Restart = (search rules, omega arith)
room_short verb.Remove = (search rules, omega arith)
room_short verb.Settle = (search rules, omega arith)
room_short verb.Quiet = (search rules, omega arith)
room_short verb.Trace = (search rules, omega arith)
room_short verb.Show = (search rules, omega arith)
room_short verb.Meter = (search rules, omega arith)

-- the words of a verb are those of a line
pub verb_line : (line : Line) → HasWords line → IsOfVerb (line_words line) → IsLine line
verb_line line h t =
    let P : List (List ℕ) → Type 0 = λ ws. length (join_with_byte 32 ws) ≤ 70000 in
    let most = room_short t.verb in
    let short = body_short (verb_word t.verb) (fields t.verb) t.rest most.0 t.each in
    let bound = most.1 in
    record { words = h; short = subst P (sym t.words_are) (omega arith) }

-- the lines of a settling's events
pub deliver_line : (n : ℕ) → n < 2 ^ 64 → IsLine (Happens (Deliver n))
deliver_line n h = verb_line (Happens (Deliver n)) h (record { verb = verb.Deliver; rest = _; words_are = refl; each = ((n, h, refl), tt) })

pub tick_line : (s m w : ℕ) → s < 2 ^ 32 → m < 2 ^ 64 → w < 2 ^ 64 → IsLine (Happens (Tick s m w))
tick_line s m w hs hm hw = verb_line (Happens (Tick s m w)) (hs, hm, hw) (record { verb = verb.Tick; rest = _; words_are = refl; each = ((s, hs, refl), ((m, hm, refl), ((w, hw, refl), tt))) })
