-- Each bad line has one cause, and no line has one.
use Rattle.std.proofs.Common.{ℕ, ◌≡◌, ◌≢◌, ◌≤◌, ◌<◌, List, [], ◌∷◌, ◌++◌, length, refl, sym, ap, ◌∙◌, arith, All, inl, inr, subst, append_assoc}
use Rattle.std.proofs.lemmas.List.Elements.{All-head, All-tail, All-weaker}
use Rattle.pg_base.proofs.Parts.{not_cut}
use Rattle.pg_sched.specs.Cause.{Unless, IsPrintable, IsEnded, IsCutCause, IsCause, IsCalledCause, IsWordsCause, IsRestCause, first_line}
use Rattle.pg_words.specs.Words.{words_in}
use Rattle.pg_sched.specs.Fields.{called_fields, fields}
use Rattle.pg_call.specs.Fields.{Field, IsBadWord}
use Rattle.pg_call.specs.declared.call.CallKind.{CallKind}
use Rattle.pg_call.proofs.CallTable.{same_kind}
use Rattle.pg_sched.specs.Line.{line_body, IsLine}
use Rattle.pg_sched.specs.Schedule.{LacksLine}
use Rattle.pg_call.specs.declared.fault.Fault.{Fault}
use Rattle.pg_call.specs.declared.fault.Fault.TheVariants as fault
use Rattle.pg_sched.specs.declared.line.Line.{Line}
use Rattle.pg_sched.specs.declared.verb.Verb.{Verb}
use Rattle.pg_sched.proofs.Lines.{line_body-lacks}
use Rattle.pg_sched.proofs.Table.{not_call, same_verb, no_words_cause}
use Rattle.pg_sched.proofs.Words.{words-again, line_printable}
use Rattle.pg_words.proofs.Splitting.{Lacks, eqb-off}

-- the text's first line, where it was cut

first_step : (x : ℕ) (xs : List ℕ) → x ≢ 10 → first_line (x ∷ xs) ≡ x ∷ first_line xs
first_step x xs ne = rw (eqb-off x 10 ne) refl

pub first_cut : (line rest : List ℕ) → Lacks 10 line → first_line (line ++ 10 ∷ rest) ≡ line
first_cut [] rest h = refl
first_cut (x ∷ xs) rest h =
    first_step x (xs ++ 10 ∷ rest) (All-head (λ b. b ≢ 10) x xs h) ∙ ap (λ ys. x ∷ ys) (first_cut xs rest (All-tail (λ b. b ≢ 10) x xs h))

pub first_whole : (text : List ℕ) → Lacks 10 text → first_line text ≡ text
first_whole [] h = refl
first_whole (x ∷ xs) h = first_step x xs (All-head (λ b. b ≢ 10) x xs h) ∙ ap (λ ys. x ∷ ys) (first_whole xs (All-tail (λ b. b ≢ 10) x xs h))

pub first_of : (text line rest : List ℕ) → text ≡ line ++ 10 ∷ rest → Lacks 10 line → first_line text ≡ line
first_of text line rest e h = ap first_line e ∙ first_cut line rest h

-- one cause

once : {P B C : Type 0} (f g x : Fault) → Unless P (f ≡ x) B → Unless P (g ≡ x) C → (B → C → f ≡ g) → f ≡ g
once f g x (inl a) (inl b) next = a.1 ∙ sym b.1
once f g x (inl a) (inr b) next = absurd (a.0 b.0)
once f g x (inr a) (inl b) next = absurd (b.0 a.0)
once f g x (inr a) (inr b) next = next a.1 b.1

one_bad_word : (fs : List Field) (words : List (List ℕ)) (f g : Fault) → IsBadWord fs words f → IsBadWord fs words g → f ≡ g
one_bad_word [] words f g a b = absurd a
one_bad_word (field ∷ fs) [] f g a b = absurd a
one_bad_word (field ∷ fs) (word ∷ words) f g (inl a) (inl b) = a.1 ∙ sym b.1
one_bad_word (field ∷ fs) (word ∷ words) f g (inl a) (inr b) = absurd (a.0 b.0)
one_bad_word (field ∷ fs) (word ∷ words) f g (inr a) (inl b) = absurd (b.0 a.0)
one_bad_word (field ∷ fs) (word ∷ words) f g (inr a) (inr b) = one_bad_word fs words f g a.1 b.1

one_rest_cause : (fs : List Field) (words : List (List ℕ)) (f g : Fault) → IsRestCause fs words f → IsRestCause fs words g → f ≡ g
one_rest_cause fs words f g a b = once f g fault.Words a b (one_bad_word fs words f g)

one_called_cause : (words : List (List ℕ)) (f g : Fault) → IsCalledCause words f → IsCalledCause words g → f ≡ g
one_called_cause [] f g a b = a ∙ sym b
one_called_cause (s ∷ []) f g a b = a ∙ sym b
one_called_cause (s ∷ m ∷ []) f g a b = a ∙ sym b
one_called_cause (s ∷ m ∷ c ∷ words) f g (inl a) (inl b) = a.1 ∙ sym b.1
one_called_cause (s ∷ m ∷ c ∷ words) f g (inl a) (inr b) = absurd (a.0 b.0 b.1)
one_called_cause (s ∷ m ∷ c ∷ words) f g (inr a) (inl b) = absurd (b.0 a.0 a.1)
one_called_cause (s ∷ m ∷ c ∷ words) f g (inr a) (inr b) =
    let P : CallKind → Type 0 = λ k. IsRestCause (called_fields k) (s ∷ m ∷ words) g in
    one_rest_cause (called_fields a.0) (s ∷ m ∷ words) f g a.2 (subst P (same_kind b.0 a.0 (sym b.1 ∙ a.1)) b.2)

one_words_cause : (words : List (List ℕ)) (f g : Fault) → IsWordsCause words f → IsWordsCause words g → f ≡ g
one_words_cause [] f g a b = a ∙ sym b
one_words_cause (word ∷ words) f g (inl a) (inl b) = a.2 ∙ sym b.2
one_words_cause (word ∷ words) f g (inl a) (inr (inl b)) = absurd (a.0 b.0 b.1)
one_words_cause (word ∷ words) f g (inl a) (inr (inr b)) = absurd (a.1 b.0)
one_words_cause (word ∷ words) f g (inr (inl a)) (inl b) = absurd (b.0 a.0 a.1)
one_words_cause (word ∷ words) f g (inr (inl a)) (inr (inl b)) =
    let P : Verb → Type 0 = λ v. IsRestCause (fields v) words g in
    one_rest_cause (fields a.0) words f g a.2 (subst P (same_verb b.0 a.0 (sym b.1 ∙ a.1)) b.2)
one_words_cause (word ∷ words) f g (inr (inl a)) (inr (inr b)) = absurd (not_call a.0 (sym a.1 ∙ b.0))
one_words_cause (word ∷ words) f g (inr (inr a)) (inl b) = absurd (b.1 a.0)
one_words_cause (word ∷ words) f g (inr (inr a)) (inr (inl b)) = absurd (not_call b.0 (sym b.1 ∙ a.0))
one_words_cause (word ∷ words) f g (inr (inr a)) (inr (inr b)) = one_called_cause words f g a.1 b.1

-- a bad line has one cause
pub one_cause : (n : ℕ) (text : List ℕ) (f g : Fault) → IsCause n text f → IsCause n text g → f ≡ g
one_cause n text f g a b =
    once f g fault.Byte a b (λ a1 b1. once f g fault.Long a1 b1 (λ a2 b2. once f g fault.End a2 b2 (λ a3 b3. once f g fault.Header a3 b3
    (one_words_cause (words_in (first_line text)) f g))))

-- what can be cut is printable, short and ended
pub no_cut_cause : (text line rest : List ℕ) (f : Fault) → text ≡ line ++ 10 ∷ rest → Lacks 10 line → All IsPrintable line → length line ≤ 70000 → IsCutCause text f → ⊥
no_cut_cause text line rest f e lacks p q (inl a) = let P : List ℕ → Type 0 = All IsPrintable in a.0 (subst P (sym (first_of text line rest e lacks)) p)
no_cut_cause text line rest f e lacks p q (inr (a, inl b)) = let P : List ℕ → Type 0 = λ l. length l ≤ 70000 in b.0 (subst P (sym (first_of text line rest e lacks)) q)
no_cut_cause text line rest f e lacks p q (inr (a, inr (b, d))) = d.0 (inr (line, rest, e))

-- a cause behind the cut
pub later_cause : (n : ℕ) (text line rest : List ℕ) (f : Fault) → text ≡ line ++ 10 ∷ rest → Lacks 10 line → All IsPrintable line → length line ≤ 70000
    → Unless (2 ≤ n) (f ≡ fault.Header) (IsWordsCause (words_in line) f) → IsCause n text f
later_cause n text line rest f e lacks p q h =
    let first = sym (first_of text line rest e lacks) in
    let P : List ℕ → Type 0 = All IsPrintable in
    let Q : List ℕ → Type 0 = λ l. length l ≤ 70000 in
    let R : List ℕ → Type 0 = λ l. Unless (2 ≤ n) (f ≡ fault.Header) (IsWordsCause (words_in l) f) in
    inr (subst P first p, inr (subst Q first q, inr (inr (line, rest, e), subst R first h)))

-- of a check of the bytes that end at the first line feed, or where the text does
pub check_cause : (text line : List ℕ) (f : Fault) → first_line text ≡ line → Unless (All IsPrintable line) (f ≡ fault.Byte) ((70000 < length line) × (f ≡ fault.Long)) → IsCutCause text f
check_cause text line f e (inl a) = let P : List ℕ → Type 0 = λ l. All IsPrintable l → ⊥ in inl (subst P (sym e) a.0, a.1)
check_cause text line f e (inr (p, a)) =
    let P : List ℕ → Type 0 = All IsPrintable in
    let Q : List ℕ → Type 0 = λ l. 70000 < length l in
    let long = subst Q (sym e) a.0 in
    inr (subst P (sym e) p, inl (λ h. omega arith, a.1))

not_ended : (text : List ℕ) → 0 < length text → Lacks 10 text → IsEnded text → ⊥
not_ended text some lacks (inl e) = let n = ap length e in omega arith
not_ended text some lacks (inr e) = not_cut 10 text e.0 e.1 lacks e.2

pub end_cause : (text : List ℕ) → 0 < length text → Lacks 10 text → All IsPrintable text → length text ≤ 70000 → IsCutCause text fault.End
end_cause text some lacks p q =
    let first = sym (first_whole text lacks) in
    let P : List ℕ → Type 0 = All IsPrintable in
    let Q : List ℕ → Type 0 = λ l. length l ≤ 70000 in
    inr (subst P first p, inr (subst Q first q, (not_ended text some lacks, refl)))

pub printable_lacks : (line : List ℕ) → All IsPrintable line → Lacks 10 line
printable_lacks line h = All-weaker IsPrintable (λ b. b ≢ 10) (λ b p e. let low = p.0 in let e' : b ≡ 10 = e in omega arith) line h

-- where a cause is, is no line
line_cause : (line : Line) (text rest : List ℕ) (f : Fault) → IsLine line → text ≡ line_body line ++ 10 ∷ rest → IsCause 2 text f → ⊥
line_cause line text rest f fits e (inl a) = no_cut_cause text (line_body line) rest f e (line_body-lacks line fits) (line_printable line fits.words) fits.short (inl a)
line_cause line text rest f fits e (inr (p, inl a)) = no_cut_cause text (line_body line) rest f e (line_body-lacks line fits) (line_printable line fits.words) fits.short (inr (p, inl a))
line_cause line text rest f fits e (inr (p, inr (q, inl a))) = no_cut_cause text (line_body line) rest f e (line_body-lacks line fits) (line_printable line fits.words) fits.short (inr (p, inr (q, a)))
line_cause line text rest f fits e (inr (p, inr (q, inr (d, inl a)))) = a.0 (omega arith)
line_cause line text rest f fits e (inr (p, inr (q, inr (d, inr (r, a))))) =
    let P : List (List ℕ) → Type 0 = λ ws. IsWordsCause ws f in
    let words = ap words_in (first_of text (line_body line) rest e (line_body-lacks line fits)) ∙ words-again line fits.words in
    no_words_cause line f fits.words (subst P words a)

pub cause_lacks : (text : List ℕ) (f : Fault) → 0 < length text → IsCause 2 text f → LacksLine text
cause_lacks text f some cause = record {
  some = λ e. let n = ap length e in omega arith;
  none = λ line rest fits e. line_cause line text rest f fits (e ∙ append_assoc (line_body line) (10 ∷ []) rest) cause;
}
