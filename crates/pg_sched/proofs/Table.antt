-- Each line's words are those that the table asks for, of a verb or of a call, and words that are
-- those have no fault.
use Rattle.std.proofs.Common.{rules, ℕ, ◌≡◌, ◌⊎◌, List, ◌∷◌, refl, sym, ap, ◌∙◌, inl, inr, subst, cond, ◌==◌, codes}
use Rattle.pg_call.specs.Call as call
use Rattle.pg_call.specs.Fields.{Field, AreWordsOf}
use Rattle.pg_call.specs.declared.call.CallKind.{CallKind}
use Rattle.pg_call.specs.declared.fault.Fault.{Fault}
use Rattle.pg_call.proofs.CallTable.{byte_at, call_tabled, counted, no_bad_word, same_kind}
use Rattle.pg_event.specs.Event.{called_words}
use Rattle.pg_event.specs.declared.event.Event.TheVariants.{Call, Tick, Deliver, Lose, Repeat, Restart, Remove}
use Rattle.pg_sched.specs.Cause.{IsRestCause, IsCalledCause, IsWordsCause}
use Rattle.pg_sched.specs.Fields.{called_fields, fields, verb_word}
use Rattle.pg_sched.specs.Line.{form_word, line_words, HasWords}
use Rattle.pg_sched.specs.declared.line.Form.{Form}
use Rattle.pg_sched.specs.declared.line.Form.TheVariants.{Full, Short}
use Rattle.pg_sched.specs.declared.line.Line.{Line}
use Rattle.pg_sched.specs.declared.line.Line.TheVariants.{Happens, Settle, Show, Quiet, Trace, MeterOff}
use Rattle.pg_sched.specs.declared.verb.Verb.{Verb}
use Rattle.pg_sched.specs.declared.verb.Verb.TheVariants as verb

-- the words are a verb's
pub record IsOfVerb (words : List (List ℕ)) : Type 0 where
  pub verb : Verb
  pub rest : List (List ℕ)
  pub words_are : words ≡ verb_word verb ∷ rest
  pub each : AreWordsOf (fields verb) rest

-- the words are a call's
pub record IsOfCall (words : List (List ℕ)) : Type 0 where
  pub kind : CallKind
  pub server : List ℕ
  pub moment : List ℕ
  pub rest : List (List ℕ)
  pub words_are : words ≡ called_words server moment (call.kind_word kind ∷ rest)
  pub each : AreWordsOf (called_fields kind) (server ∷ moment ∷ rest)

form_is : (form : Form) → (form_word form ≡ codes "full") ⊎ (form_word form ≡ codes "short")
form_is Full = inl refl
form_is Short = inr refl

pub tabled : (line : Line) → HasWords line → IsOfVerb (line_words line) ⊎ IsOfCall (line_words line)
tabled (Happens (Call s m c)) h =
    inr (record { kind = call.call_kind c; server = _; moment = _; rest = call.argument_words c; words_are = refl; each = ((s, h.0, refl), ((m, h.1, refl), call_tabled c h.2)) })
tabled (Happens (Tick s m w)) h = inl (record { verb = verb.Tick; rest = _; words_are = refl; each = ((s, h.0, refl), ((m, h.1, refl), ((w, h.2, refl), tt))) })
tabled (Happens (Deliver n)) h = inl (record { verb = verb.Deliver; rest = _; words_are = refl; each = ((n, h, refl), tt) })
tabled (Happens (Lose n)) h = inl (record { verb = verb.Lose; rest = _; words_are = refl; each = ((n, h, refl), tt) })
tabled (Happens (Repeat n)) h = inl (record { verb = verb.Repeat; rest = _; words_are = refl; each = ((n, h, refl), tt) })
tabled (Happens (Restart s)) h = inl (record { verb = verb.Restart; rest = _; words_are = refl; each = ((s, h, refl), tt) })
tabled (Happens (Remove s)) h = inl (record { verb = verb.Remove; rest = _; words_are = refl; each = ((s, h, refl), tt) })
tabled (Settle r m) h = inl (record { verb = verb.Settle; rest = _; words_are = refl; each = ((r, h.0, refl), ((m, h.1, refl), tt)) })
tabled (Show f) h = inl (record { verb = verb.Show; rest = _; words_are = refl; each = ((f, h, refl), tt) })
tabled Quiet h = inl (record { verb = verb.Quiet; rest = _; words_are = refl; each = tt })
tabled (Trace form) h = inl (record { verb = verb.Trace; rest = _; words_are = refl; each = (form_is form, tt) })
tabled (MeterOff n) h = inl (record { verb = verb.Meter; rest = _; words_are = refl; each = (refl, ((n, h, refl), tt)) })

-- the verb of a word, by its first three bytes
abbrev verb_from : List ℕ → Verb
verb_from word =
    cond (byte_at 0 word == 100) verb.Deliver
    (cond (byte_at 0 word == 108) verb.Lose
    (cond (byte_at 0 word == 109) verb.Meter
    (cond (byte_at 0 word == 113) verb.Quiet
    (cond (byte_at 0 word == 114) (cond (byte_at 2 word == 112) verb.Repeat (cond (byte_at 2 word == 115) verb.Restart verb.Remove))
    (cond (byte_at 1 word == 101) verb.Settle
    (cond (byte_at 1 word == 104) verb.Show
    (cond (byte_at 1 word == 105) verb.Tick verb.Trace)))))))

verb_again : (v : Verb) → verb_from (verb_word v) ≡ v
verb_again verb.Tick = refl
verb_again verb.Deliver = refl
verb_again verb.Lose = refl
verb_again verb.Repeat = refl
verb_again verb.Restart = refl
verb_again verb.Remove = refl
verb_again verb.Settle = refl
verb_again verb.Quiet = refl
verb_again verb.Trace = refl
verb_again verb.Show = refl
verb_again verb.Meter = refl

-- no two verbs are one word
pub same_verb : (v u : Verb) → verb_word v ≡ verb_word u → v ≡ u
same_verb v u e = sym (verb_again v) ∙ ap verb_from e ∙ verb_again u

-- and none is the word of calls
pub not_call : (v : Verb) → verb_word v ≡ codes "call" → ⊥
not_call = search rules

no_rest_cause : (fs : List Field) (rest : List (List ℕ)) (f : Fault) → AreWordsOf fs rest → IsRestCause fs rest f → ⊥
no_rest_cause fs rest f h (inl b) = b.0 (counted fs rest h)
no_rest_cause fs rest f h (inr b) = no_bad_word fs rest f h b.1

no_verb_cause : (v : Verb) (rest : List (List ℕ)) (f : Fault) → AreWordsOf (fields v) rest → IsWordsCause (verb_word v ∷ rest) f → ⊥
no_verb_cause v rest f h (inl b) = b.0 v refl
no_verb_cause v rest f h (inr (inl b)) = let P : Verb → Type 0 = λ u. IsRestCause (fields u) rest f in no_rest_cause (fields v) rest f h (subst P (sym (same_verb v b.0 b.1)) b.2)
no_verb_cause v rest f h (inr (inr b)) = not_call v b.0

no_called_cause : (k : CallKind) (s m : List ℕ) (rest : List (List ℕ)) (f : Fault) → AreWordsOf (called_fields k) (s ∷ m ∷ rest) → IsCalledCause (s ∷ m ∷ call.kind_word k ∷ rest) f → ⊥
no_called_cause k s m rest f h (inl b) = b.0 k refl
no_called_cause k s m rest f h (inr b) =
    let P : CallKind → Type 0 = λ u. IsRestCause (called_fields u) (s ∷ m ∷ rest) f in
    no_rest_cause (called_fields k) (s ∷ m ∷ rest) f h (subst P (sym (same_kind k b.0 b.1)) b.2)

no_call_cause : (k : CallKind) (s m : List ℕ) (rest : List (List ℕ)) (f : Fault) → AreWordsOf (called_fields k) (s ∷ m ∷ rest) → IsWordsCause (called_words s m (call.kind_word k ∷ rest)) f → ⊥
no_call_cause k s m rest f h (inl b) = b.1 refl
no_call_cause k s m rest f h (inr (inl b)) = not_call b.0 (sym b.1)
no_call_cause k s m rest f h (inr (inr b)) = no_called_cause k s m rest f h b.1

-- the words of a line have no fault
pub no_words_cause : (line : Line) (f : Fault) → HasWords line → IsWordsCause (line_words line) f → ⊥
no_words_cause line f h b =
    let P : List (List ℕ) → Type 0 = λ ws. IsWordsCause ws f in
    elim (tabled line h) [ inl t ↦ no_verb_cause t.verb t.rest f t.each (subst P t.words_are b) | inr t ↦ no_call_cause t.kind t.server t.moment t.rest f t.each (subst P t.words_are b) ]
