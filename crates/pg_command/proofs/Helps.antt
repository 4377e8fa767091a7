-- Words that ask for help ask for nothing else.
use Rattle.std.proofs.Common.{ℕ, ◌≡◌, ◌==◌, ◌∙◌, T, nat_eq, Bool, Option, Some, None, List, [], ◌∷◌, ap, cond, codes, true, false, refl, sym, subst}
use Rattle.pg_call.proofs.CallTable.{byte_at}
use Rattle.pg_command.proofs.Faults.{verb_from}
use Rattle.pg_command.specs.Verb.{help_on, help_word, verb_word}
use Rattle.pg_command.specs.declared.command.Help.{Help}
use Rattle.pg_command.specs.declared.verb.Verb.{Verb}
use Rattle.pg_command.specs.declared.verb.Verb.TheVariants as verb
use Rattle.pg_words.proofs.Splitting.{behind, word_at}

-- words behind that of a verb, where there is one
abbrev pub with_verb : Option Verb → List (List ℕ) → List (List ℕ)
with_verb None words = words
with_verb (Some verb) words = verb_word verb ∷ words

pub help_spelled : (of : Option Verb) (long : Bool)
    → help_on of long ≡ with_verb of (help_word long ∷ [])
help_spelled None long = refl
help_spelled (Some v) long = refl

-- the verb that the first word names: none where it begins with a hyphen
abbrev pub verb_in : List (List ℕ) → Option Verb
verb_in words = cond (byte_at 0 (word_at 0 words) == 45) None (Some (verb_from (word_at 0 words)))

pub verb_of_help : (of : Option Verb) (long : Bool) → verb_in (help_on of long) ≡ of
verb_of_help None false = refl
verb_of_help None true = refl
verb_of_help (Some verb.Replay) long = refl
verb_of_help (Some verb.Make) long = refl
verb_of_help (Some verb.Soak) long = refl
verb_of_help (Some verb.Node) long = refl
verb_of_help (Some verb.Call) long = refl

rest_behind : (of : Option Verb) (xs ys : List (List ℕ)) → with_verb of xs ≡ with_verb of ys
    → xs ≡ ys
rest_behind None xs ys e = e
rest_behind (Some v) xs ys e = ap behind e

pub one_rest : (a b : Option Verb) (xs ys : List (List ℕ)) → a ≡ b
    → with_verb a xs ≡ with_verb b ys
    → xs ≡ ys
one_rest a b xs ys same e =
    rest_behind b xs ys (ap (λ o. with_verb o xs) (sym same) ∙ e)

-- ---- the words themselves

third_of_meters : (word : List ℕ) → word ≡ codes "--meters" → T (nat_eq (byte_at 2 word) 109)
third_of_meters word e =
    let P : List ℕ → Type 0 = λ w. T (nat_eq (byte_at 2 w) 109) in subst P (sym e) tt

pub not_meters : (long : Bool) → help_word long ≡ codes "--meters" → ⊥
not_meters false e = third_of_meters (help_word false) e
not_meters true e = third_of_meters (help_word true) e

second_hyphen : (word : List ℕ) → word ≡ help_word true → T (nat_eq (byte_at 1 word) 45)
second_hyphen word e =
    let P : List ℕ → Type 0 = λ w. T (nat_eq (byte_at 1 w) 45) in subst P (sym e) tt

one_long : (a b : Bool) → help_word a ≡ help_word b → a ≡ b
one_long false false e = refl
one_long true true e = refl
one_long false true e = absurd (second_hyphen (help_word false) e)
one_long true false e = absurd (second_hyphen (help_word false) (sym e))

help_of_parts : (a b : Option Verb) (x y : Bool) → a ≡ b → x ≡ y
    → ◌≡◌ {A = Help} (record { of = a; long = x }) (record { of = b; long = y })
help_of_parts a b x y e f = cc

pub one_help : (x y : Help) → x.of ≡ y.of → help_word x.long ≡ help_word y.long → x ≡ y
one_help x y e f = help_of_parts x.of y.of x.long y.long e (one_long x.long y.long f)
