-- What is read of words, and that it is all that there is.
use Rattle.std.proofs.Common.{ℕ, ◌≡◌, ◌≢◌, ◌≤◌, ◌<◌, ◌^◌, ◌-◌, ◌⊎◌, ◌∙◌, List, [], ◌∷◌, Result, Ok, Err, IfOk, IfErr, ap, arith, codes, decimal, drop, get_or, inl, inr, length, map, refl, sym, subst, take}
use Rattle.std.proofs.lemmas.Fmt.{decimal_injective}
use Rattle.std.proofs.lemmas.List.{length-take-le}
use Rattle.std.specs.Global.{Global}
use Rattle.std.specs.Prelude.{String}
use Rattle.std.specs.String.{string_bytes}
use Rattle.pg_call.proofs.CallTable.{no_bad_word}
use Rattle.pg_call.specs.Call.{kind_word}
use Rattle.pg_call.specs.Fields.{AreWordsOf, Field, IsBadWord}
use Rattle.pg_call.specs.declared.call.Call.{Call}
use Rattle.pg_call.specs.declared.call.CallKind.{CallKind}
use Rattle.pg_call.specs.declared.error.WordsError.{WordsError}
use Rattle.pg_call.specs.declared.error.WordsError.TheVariants.{Bad}
use Rattle.pg_call.specs.declared.fault.Fault.{Fault}
use Rattle.pg_command.proofs.Commands.{no_fault}
use Rattle.pg_command.proofs.Faults.{fault_of_verb, is_fault_of, one_fault}
use Rattle.pg_command.proofs.One.{one_command}
use Rattle.pg_command.specs.Slots.{AreArguments, Lacks}
use Rattle.pg_command.specs.Slots.Slot.{Number}
use Rattle.pg_command.specs.Verb.{IsVerb, verb_word}
use Rattle.pg_command.specs.Words.{Asks, IsAskedWord, IsFault, IsFaultIn, IsFaultOf, Words, asked_word, words_behind}
use Rattle.pg_command.specs.declared.asked.Asked.{Asked}
use Rattle.pg_command.specs.declared.asked.Asked.TheVariants as asked
use Rattle.pg_command.specs.declared.command.Command.{Command}
use Rattle.pg_command.specs.declared.error.CommandError.{CommandError}
use Rattle.pg_command.specs.declared.error.CommandError.TheVariants as wrong
use Rattle.pg_command.specs.declared.verb.Verb.{Verb}

-- ---- what is found is all that there is

abbrev pub Told : Words → CommandError → Type 0
Told words e = (k : ℕ) → e ≡ wrong.Usage k → IsFault words k

abbrev pub Untold : Words → CommandError → Type 0
Untold words e = e ≡ wrong.OutOfMemory → (k : ℕ) → IsFault words k → ⊥

pub asked_is : (words : Words) (r : Result Command CommandError) → IfOk r (λ c. Asks words c)
    → IfErr r (λ e. Told words e)
    → (c : Command)
    → Asks words c
    → (r ≡ Ok c) ⊎ (r ≡ Err wrong.OutOfMemory)
asked_is words (Ok d) found told c asks =
    inl (ap Ok (one_command (words_behind words) d c found.fits asks.fits found.spelled asks.spelled))
asked_is words (Err wrong.OutOfMemory) found told c asks = inr refl
asked_is words (Err (wrong.Usage k)) found told c asks =
    absurd (no_fault (words_behind words) c k asks.fits asks.spelled (told k refl))

pub fault_is : (words : Words) (r : Result Command CommandError) → IfOk r (λ c. Asks words c)
    → IfErr r (λ e. Told words e)
    → IfErr r (λ e. Untold words e)
    → (k : ℕ)
    → IsFault words k
    → r ≡ Err (wrong.Usage k)
fault_is words (Ok d) found told untold k fault =
    absurd (no_fault (words_behind words) d k found.fits found.spelled fault)
fault_is words (Err wrong.OutOfMemory) found told untold k fault =
    absurd (untold refl k fault)
fault_is words (Err (wrong.Usage j)) found told untold k fault =
    ap (λ n. Err (wrong.Usage n)) (one_fault (words_behind words) j k (told j refl).1 fault.1)

pub told_of : (words : Words) (r : Result Command CommandError) → IfErr r (λ e. Told words e)
    → (k : ℕ)
    → r ≡ Err (wrong.Usage k)
    → IsFault words k
told_of words (Ok d) told k is = absurd cc
told_of words (Err e) told k is = told k cc

-- ---- single words

-- a number that is less than the least or more than the most is none between these
pub out_of_range : (words : List (String Global)) (word : String Global) (bytes : List ℕ) (least most n : ℕ)
    → 1 ≤ length words
    → word ≡ get_or words 0 word
    → bytes ≡ string_bytes word
    → bytes ≡ decimal n
    → n < 2 ^ 64
    → most < 2 ^ 64
    → (n < least) ⊎ ((least ≤ n) × (most < n))
    → Lacks (Number least most) (map string_bytes words)
out_of_range [] word bytes least most n long is same found fits most_fits out = absurd (omega arith)
out_of_range (x ∷ xs) word bytes least most n long is same found fits most_fits out = λ h.
    let low = h.low in
    let high = h.high in
    let e : decimal n ≡ decimal h.number = sym found ∙ same ∙ ap string_bytes is ∙ h.spelled in
    let is_it : n ≡ h.number = decimal_injective n h.number fits (omega arith) e in
    elim out [
      | inl a ↦ absurd (omega arith)
      | inr b ↦ absurd (let over = b.1 in omega arith)
    ]

-- where one word stands alone, the words are it
pub only_word : (words : List (String Global)) (word : String Global) (bytes text : List ℕ)
    → 1 ≤ length words
    → word ≡ get_or words 0 word
    → bytes ≡ string_bytes word
    → bytes ≡ text
    → length (take (length words - 1) (drop 1 words)) ≡ 0
    → codes "replay" ∷ text ∷ [] ≡ codes "replay" ∷ map string_bytes words
only_word [] word bytes text long is same found none = absurd (omega arith)
only_word (x ∷ []) word bytes text long is same found none =
    let e : text ≡ string_bytes x = sym found ∙ same ∙ ap string_bytes is in cc
only_word (x ∷ y ∷ ys) word bytes text long is same found none =
    let all = length-take-le (length (x ∷ y ∷ ys) - 1) (y ∷ ys) (omega arith) in
    absurd (omega (arith, none, all))

-- what names no call and no tick names nothing to be asked for
no_asked_of : (word : List ℕ) (a : Asked) → word ≡ asked_word a → (word ≡ codes "tick" → ⊥)
    → ((k : CallKind) → word ≢ kind_word k)
    → ⊥
no_asked_of word (asked.Call k) e tick none = none k e
no_asked_of word asked.Tick e tick none = tick e

pub no_asked : (word : List ℕ) → (word ≡ codes "tick" → ⊥) → ((k : CallKind) → word ≢ kind_word k)
    → IsAskedWord word
    → ⊥
no_asked word tick none h = no_asked_of word h.asked h.spelled tick none

-- a word that is none of these names no command
pub no_verb : (word : List ℕ) → ((v : Verb) → word ≢ verb_word v) → IsVerb word → ⊥
no_verb word none h = none h.verb h.spelled

-- ---- what stands behind a verb is what stands in all words

pub lift_wrong : (words : List (List ℕ)) (v : Verb) (rest : List (List ℕ)) (r : Result Command CommandError)
    → IfErr r (λ e. (k : ℕ) → e ≡ wrong.Usage k → IsFaultOf v rest k)
    → words ≡ verb_word v ∷ rest
    → IfErr r (λ e. (k : ℕ) → e ≡ wrong.Usage k → IsFaultIn words k)
lift_wrong words v rest (Ok c) h same = tt
lift_wrong words v rest (Err e) h same = λ k is.
    let P : List (List ℕ) → Type 0 = λ ws. IsFaultIn ws k in
    subst P (sym same) (is_fault_of v rest k (h k is))

pub lift_memory : (words : List (List ℕ)) (v : Verb) (rest : List (List ℕ)) (r : Result Command CommandError)
    → IfErr r (λ e. e ≡ wrong.OutOfMemory → (k : ℕ) → IsFaultOf v rest k → ⊥)
    → words ≡ verb_word v ∷ rest
    → IfErr r (λ e. e ≡ wrong.OutOfMemory → (k : ℕ) → IsFaultIn words k → ⊥)
lift_memory words v rest (Ok c) h same = tt
lift_memory words v rest (Err e) h same = λ is k fault.
    let P : List (List ℕ) → Type 0 = λ ws. IsFaultIn ws k in
    h is k (fault_of_verb v rest k (subst P same fault))

-- no word is at fault: so it is said of any error
pub no_memory_fault : {A : Type 0} (F : ℕ → Type 0) (r : Result A CommandError) → ((k : ℕ) → F k → ⊥)
    → IfErr r (λ e. e ≡ wrong.OutOfMemory → (k : ℕ) → F k → ⊥)
no_memory_fault F (Ok c) h = tt
no_memory_fault F (Err e) h = λ is. h

-- ---- the words of a call

words_of_fields : (fields : List Field) (words : List (List ℕ)) → AreArguments fields words
    → AreWordsOf fields words
words_of_fields [] [] h = tt
words_of_fields [] (w ∷ ws) h = h
words_of_fields (x ∷ xs) [] h = h
words_of_fields (x ∷ xs) (w ∷ ws) h = (h.0.spelled, words_of_fields xs ws h.1)

-- words that are arguments have no fault
pub no_call_fault : (fields : List Field) (words read : List (List ℕ)) (r : Result Call WordsError)
    (error : WordsError) (f : Fault)
    → r ≡ Err error
    → error ≡ Bad f
    → IfErr r (λ e. (g : Fault) → e ≡ Bad g → IsBadWord fields read g)
    → AreArguments fields words
    → read ≡ words
    → ⊥
no_call_fault fields words read r error f is bad told are same =
    let P : Result Call WordsError → Type 0 =
    λ x. IfErr x (λ e. (g : Fault) → e ≡ Bad g → IsBadWord fields read g) in
    let Q : List (List ℕ) → Type 0 = λ ws. IsBadWord fields ws f in
    no_bad_word fields words f (words_of_fields fields words are) (subst Q same (subst P is told f bad))
