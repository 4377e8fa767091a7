-- Each call's words are those that the table asks for, and words that are those have no fault.
use Rattle.std.proofs.Common.{ℕ, ◌≡◌, ◌<◌, List, [], ◌∷◌, length, refl, sym, ap, ◌∙◌, All, inl, inr, subst, cond, ◌==◌, zero, suc, arith}
use Rattle.std.proofs.lemmas.List.Elements.{All-nil, All-cons}
use Rattle.pg_base.specs.declared.policy.Policy.{Policy}
use Rattle.pg_base.specs.declared.policy.Policy.TheVariants as policy
use Rattle.pg_call.specs.Call.{call_kind, call_words, argument_words, kind_word, policy_word, target_word, IsCall, IsTarget}
use Rattle.pg_call.specs.Fields.{Field, call_fields, AreCounted, AreWordsOf, IsBadWord, IsWordOf}
use Rattle.pg_call.specs.Fields.Field.{Narrow, Wide, Count, Bytes, AnyId, Path, PathOrId, PolicyName, Form, Off}
use Rattle.pg_call.specs.declared.call.Call.{Call}
use Rattle.pg_call.specs.declared.call.Call.TheVariants as call
use Rattle.pg_call.specs.declared.call.CallKind.{CallKind}
use Rattle.pg_call.specs.declared.call.CallKind.TheVariants as kind
use Rattle.pg_call.specs.declared.call.Target.{Target}
use Rattle.pg_call.specs.declared.call.Target.TheVariants as target
use Rattle.pg_call.specs.declared.fault.Fault.{Fault}
use Rattle.pg_words.proofs.HexWords.{hex_word-not_empty}
use Rattle.pg_words.proofs.Splitting.{behind, word_at}
use Rattle.pg_words.proofs.WordBytes.{decimal_word, spelling_word}

pub call_tabled : (c : Call) → IsCall c → AreWordsOf (call_fields (call_kind c)) (argument_words c)
call_tabled (call.Mkdir p) h = (h, tt)
call_tabled (call.Create p l) h = (h, ((l, refl), tt))
call_tabled (call.Write p o b) h = (h.0, ((o, h.1, refl), ((b, h.2, refl), tt)))
call_tabled (call.Cut p n) h = (h.0, ((n, h.1, refl), tt))
call_tabled (call.Read p o n) h = (h.0, ((o, h.1, refl), ((n, h.2, refl), tt)))
call_tabled (call.Fresh p) h = (h, tt)
call_tabled (call.Ls p n) h = (h.0, ((n, h.1, refl), tt))
call_tabled (call.Stat t) h = ((t, h, refl), tt)
call_tabled (call.Rename p q) h = (h.0, (h.1, tt))
call_tabled (call.Unlink p) h = (h, tt)
call_tabled (call.Rmdir p) h = (h, tt)
call_tabled (call.Forget f) h = ((f, h, refl), tt)
call_tabled (call.Demote t) h = ((t, h, refl), tt)
call_tabled (call.Drop t) h = ((t, h, refl), tt)
call_tabled (call.Giveup v s) h = ((v, h.0, refl), ((s, h.1, refl), tt))
call_tabled call.Status h = tt
call_tabled call.Stop h = tt

-- the byte with an index, or 0
abbrev pub byte_at : ℕ → List ℕ → ℕ
byte_at n [] = 0
byte_at zero (x ∷ xs) = x
byte_at (suc n) (x ∷ xs) = byte_at n xs

-- the kind of a word, by its bytes
abbrev kind_from : List ℕ → CallKind
kind_from word =
    cond (byte_at 0 word == 109) kind.Mkdir
    (cond (byte_at 0 word == 119) kind.Write
    (cond (byte_at 0 word == 108) kind.Ls
    (cond (byte_at 0 word == 117) kind.Unlink
    (cond (byte_at 0 word == 103) kind.Giveup
    (cond (byte_at 0 word == 99) (cond (byte_at 1 word == 114) kind.Create kind.Cut)
    (cond (byte_at 0 word == 102) (cond (byte_at 1 word == 114) kind.Fresh kind.Forget)
    (cond (byte_at 0 word == 100) (cond (byte_at 1 word == 114) kind.Drop kind.Demote)
    (cond (byte_at 0 word == 114) (cond (byte_at 1 word == 109) kind.Rmdir (cond (byte_at 2 word == 97) kind.Read kind.Rename))
    (cond (byte_at 2 word == 111) kind.Stop (cond (byte_at 4 word == 117) kind.Status kind.Stat))))))))))

kind_again : (k : CallKind) → kind_from (kind_word k) ≡ k
kind_again kind.Mkdir = refl
kind_again kind.Create = refl
kind_again kind.Write = refl
kind_again kind.Cut = refl
kind_again kind.Read = refl
kind_again kind.Fresh = refl
kind_again kind.Ls = refl
kind_again kind.Stat = refl
kind_again kind.Rename = refl
kind_again kind.Unlink = refl
kind_again kind.Rmdir = refl
kind_again kind.Forget = refl
kind_again kind.Demote = refl
kind_again kind.Drop = refl
kind_again kind.Giveup = refl
kind_again kind.Status = refl
kind_again kind.Stop = refl

-- no two kinds have one word
pub same_kind : (a b : CallKind) → kind_word a ≡ kind_word b → a ≡ b
same_kind a b e = sym (kind_again a) ∙ ap kind_from e ∙ kind_again b

pub no_bad_word : (fs : List Field) (words : List (List ℕ)) (f : Fault) → AreWordsOf fs words → IsBadWord fs words f → ⊥
no_bad_word [] [] f h b = b
no_bad_word [] (word ∷ words) f h b = b
no_bad_word (field ∷ fs) [] f h b = b
no_bad_word (field ∷ fs) (word ∷ words) f h (inl b) = b.0 h.0
no_bad_word (field ∷ fs) (word ∷ words) f h (inr b) = no_bad_word fs words f h.1 b.1

pub same_count : (fs : List Field) (words : List (List ℕ)) → AreWordsOf fs words → length words ≡ length fs
same_count [] [] h = refl
same_count [] (word ∷ words) h = absurd h
same_count (field ∷ fs) [] h = absurd h
same_count (field ∷ fs) (word ∷ words) h = ap suc (same_count fs words h.1)

target_some : (t : Target) → IsTarget t → 0 < length (target_word t)
target_some (target.Path p) h = let text = h.0 in text.some
target_some (target.Id f) h = let w = spelling_word f h in w.some

policy_some : (p : Policy) → 0 < length (policy_word p)
policy_some policy.Last = omega arith
policy_some policy.Join = omega arith

abbrev HasByte : List ℕ → Type 0
HasByte word = 0 < length word

-- no word of a field is empty
pub word_some : (field : Field) (word : List ℕ) → IsWordOf field word → 0 < length word
word_some Narrow word h = let lt = h.1 in let w = decimal_word h.0 (omega arith) in subst HasByte (sym h.2) w.some
word_some Wide word h = let w = decimal_word h.0 h.1 in subst HasByte (sym h.2) w.some
word_some Count word h = let le = h.1 in let w = decimal_word h.0 (omega arith) in subst HasByte (sym h.2) w.some
word_some Bytes word h = subst HasByte (sym h.2) (hex_word-not_empty h.0)
word_some AnyId word h = let w = spelling_word h.0 h.1 in subst HasByte (sym h.2) w.some
word_some Path word h = h.some
word_some PathOrId word h = subst HasByte (sym h.2) (target_some h.0 h.1)
word_some PolicyName word h = subst HasByte (sym h.1) (policy_some h.0)
word_some Form word (inl e) = subst HasByte (sym e) (omega arith)
word_some Form word (inr e) = subst HasByte (sym e) (omega arith)
word_some Off word h = subst HasByte (sym h) (omega arith)

all_some : (fs : List Field) (words : List (List ℕ)) → AreWordsOf fs words → All (λ w. 0 < length w) words
all_some [] [] h = All-nil (λ w. 0 < length w)
all_some [] (word ∷ words) h = absurd h
all_some (field ∷ fs) [] h = absurd h
all_some (field ∷ fs) (word ∷ words) h = All-cons (λ w. 0 < length w) word words (word_some field word h.0) (all_some fs words h.1)

pub counted : (fs : List Field) (words : List (List ℕ)) → AreWordsOf fs words → AreCounted fs words
counted fs words h = record { count = same_count fs words h; some = all_some fs words h }

-- words behind a call's own that are none of its kind's are no call's
abbrev Spells : CallKind → List (List ℕ) → Call → Type 0
Spells k words c = IsCall c × (kind_word k ∷ words ≡ call_words c)

of_kind : (k : CallKind) (words : List (List ℕ)) (c : Call) → Spells k words c → AreWordsOf (call_fields k) words
of_kind k words c h =
    let same : call_kind c ≡ k = sym (same_kind k (call_kind c) (ap (word_at 0) h.1)) in
    let rest : argument_words c ≡ words = sym (ap behind h.1) in
    let P : CallKind → Type 0 = λ x. AreWordsOf (call_fields x) words in
    let Q : List (List ℕ) → Type 0 = λ ws. AreWordsOf (call_fields (call_kind c)) ws in
    subst P same (subst Q rest (call_tabled c h.0))

pub no_kind : (word : List ℕ) (words : List (List ℕ)) → ((k : CallKind) → word ≡ kind_word k → ⊥) → (c : Call) → word ∷ words ≡ call_words c → ⊥
no_kind word words none c e = none (call_kind c) (ap (word_at 0) e)

pub not_counted : (k : CallKind) (words : List (List ℕ)) → (AreCounted (call_fields k) words → ⊥) → (c : Call) → IsCall c → kind_word k ∷ words ≡ call_words c → ⊥
not_counted k words none c h e = none (counted (call_fields k) words (of_kind k words c (h, e)))

pub no_bad_call : (k : CallKind) (words : List (List ℕ)) (f : Fault) → IsBadWord (call_fields k) words f → (c : Call) → IsCall c → kind_word k ∷ words ≡ call_words c → ⊥
no_bad_call k words f bad c h e = no_bad_word (call_fields k) words f (of_kind k words c (h, e)) bad
