-- Words have one fault at most.
use Rattle.std.proofs.Common.{ℕ, ◌≡◌, ◌+◌, ◌==◌, ◌∙◌, T, nat_eq, List, [], ◌∷◌, ap, cond, inl, inr, map, refl, sym, subst}
use Rattle.pg_call.proofs.CallTable.{byte_at, same_kind}
use Rattle.pg_call.specs.Call.{kind_word}
use Rattle.pg_call.specs.Fields.{Field}
use Rattle.pg_call.specs.declared.call.CallKind.{CallKind}
use Rattle.pg_call.specs.declared.call.CallKind.TheVariants as kind
use Rattle.pg_command.specs.Slots.{AreArguments, Fits, IsFirstWrong, Slot}
use Rattle.pg_command.specs.Slots.Slot.{Argued}
use Rattle.pg_command.specs.Verb.{verb_word}
use Rattle.pg_command.specs.Words.{IsFaultBehind, IsFaultIn, IsFaultOf, IsFaultOfArguments, IsFaultOfAsked, IsFaultOfCall, IsFaultOfNode, IsFaultOfPort, asked_fields, asked_word, node_slots, number_slots, replay_slots}
use Rattle.pg_command.specs.declared.asked.Asked.{Asked}
use Rattle.pg_command.specs.declared.asked.Asked.TheVariants as asked
use Rattle.pg_command.specs.declared.verb.Verb.{Verb}
use Rattle.pg_command.specs.declared.verb.Verb.TheVariants as verb
use Rattle.pg_sched.specs.Cause.{Unless}

-- ---- words that differ

abbrev pub verb_from : List ℕ → Verb
verb_from word =
    cond (byte_at 0 word == 114) verb.Replay
    (cond (byte_at 0 word == 109) verb.Make
    (cond (byte_at 0 word == 115) verb.Soak
    (cond (byte_at 0 word == 110) verb.Node verb.Call)))

verb_again : (v : Verb) → verb_from (verb_word v) ≡ v
verb_again verb.Replay = refl
verb_again verb.Make = refl
verb_again verb.Soak = refl
verb_again verb.Node = refl
verb_again verb.Call = refl

pub same_verb : (a b : Verb) → verb_word a ≡ verb_word b → a ≡ b
same_verb a b e = sym (verb_again a) ∙ ap verb_from e ∙ verb_again b

-- the word of a tick is no call's: no call's begins with its first letter
begins_as_tick : (word : List ℕ) → word ≡ asked_word asked.Tick → T (nat_eq (byte_at 0 word) 116)
begins_as_tick word e = let P : List ℕ → Type 0 = λ w. T (nat_eq (byte_at 0 w) 116) in subst P (sym e) tt

pub not_tick : (k : CallKind) → kind_word k ≡ asked_word asked.Tick → ⊥
not_tick kind.Mkdir e = begins_as_tick (kind_word kind.Mkdir) e
not_tick kind.Create e = begins_as_tick (kind_word kind.Create) e
not_tick kind.Write e = begins_as_tick (kind_word kind.Write) e
not_tick kind.Cut e = begins_as_tick (kind_word kind.Cut) e
not_tick kind.Read e = begins_as_tick (kind_word kind.Read) e
not_tick kind.Fresh e = begins_as_tick (kind_word kind.Fresh) e
not_tick kind.Ls e = begins_as_tick (kind_word kind.Ls) e
not_tick kind.Stat e = begins_as_tick (kind_word kind.Stat) e
not_tick kind.Rename e = begins_as_tick (kind_word kind.Rename) e
not_tick kind.Unlink e = begins_as_tick (kind_word kind.Unlink) e
not_tick kind.Rmdir e = begins_as_tick (kind_word kind.Rmdir) e
not_tick kind.Forget e = begins_as_tick (kind_word kind.Forget) e
not_tick kind.Demote e = begins_as_tick (kind_word kind.Demote) e
not_tick kind.Drop e = begins_as_tick (kind_word kind.Drop) e
not_tick kind.Giveup e = begins_as_tick (kind_word kind.Giveup) e
not_tick kind.Status e = begins_as_tick (kind_word kind.Status) e
not_tick kind.Stop e = begins_as_tick (kind_word kind.Stop) e

pub same_asked : (a b : Asked) → asked_word a ≡ asked_word b → a ≡ b
same_asked (asked.Call a) (asked.Call b) e = ap asked.Call (same_kind a b e)
same_asked (asked.Call a) asked.Tick e = absurd (not_tick a e)
same_asked asked.Tick (asked.Call b) e = absurd (not_tick b (sym e))
same_asked asked.Tick asked.Tick e = refl

-- ---- one fault

-- two ways in which the same holds, or else the same, are one
pub one_unless : {P A B : Type 0} (j k n : ℕ) → Unless P (j ≡ n) A → Unless P (k ≡ n) B
    → (A → B → j ≡ k)
    → j ≡ k
one_unless j k n (inl f) (inl g) h = f.1 ∙ sym g.1
one_unless j k n (inl f) (inr g) h = absurd (f.0 g.0)
one_unless j k n (inr f) (inl g) h = absurd (g.0 f.0)
one_unless j k n (inr f) (inr g) h = h f.1 g.1

-- one of two words that are each the first that is wrong is the other
pub one_wrong : (at : ℕ) (slots : List Slot) (words : List (List ℕ)) (j k : ℕ)
    → IsFirstWrong at slots words j
    → IsFirstWrong at slots words k
    → j ≡ k
one_wrong at [] [] j k f g = absurd f
one_wrong at [] (w ∷ ws) j k f g = f ∙ sym g
one_wrong at (s ∷ ss) [] j k f g = f ∙ sym g
one_wrong at (s ∷ ss) (w ∷ ws) j k f g = one_unless j k at f g (one_wrong (at + 1) ss ws j k)

one_of_node : (words : List (List ℕ)) (j k : ℕ) → IsFaultOfNode words j → IsFaultOfNode words k
    → j ≡ k
one_of_node [] j k f g = f ∙ sym g
one_of_node (w ∷ ws) j k f g = one_unless j k 2 f g (one_wrong 3 node_slots ws j k)

one_of_arguments : (word : List ℕ) (words : List (List ℕ)) (j k : ℕ)
    → IsFaultOfArguments word words j
    → IsFaultOfArguments word words k
    → j ≡ k
one_of_arguments word words j k f g =
    let P : Asked → Type 0 = λ a. IsFirstWrong 5 (map Argued (asked_fields a)) words j in
    let same = same_asked f.asked g.asked (sym f.spelled ∙ g.spelled) in
    one_wrong 5 (map Argued (asked_fields g.asked)) words j k (subst P same f.wrong) g.wrong

one_of_asked : (words : List (List ℕ)) (j k : ℕ) → IsFaultOfAsked words j
    → IsFaultOfAsked words k
    → j ≡ k
one_of_asked [] j k f g = f ∙ sym g
one_of_asked (w ∷ ws) j k f g = one_unless j k 4 f g (one_of_arguments w ws j k)

one_of_port : (words : List (List ℕ)) (j k : ℕ) → IsFaultOfPort words j → IsFaultOfPort words k
    → j ≡ k
one_of_port [] j k f g = f ∙ sym g
one_of_port (w ∷ ws) j k f g = one_unless j k 3 f g (one_of_asked ws j k)

one_of_call : (words : List (List ℕ)) (j k : ℕ) → IsFaultOfCall words j → IsFaultOfCall words k
    → j ≡ k
one_of_call [] j k f g = f ∙ sym g
one_of_call (w ∷ ws) j k f g = one_unless j k 2 f g (one_of_port ws j k)

one_of : (v : Verb) (words : List (List ℕ)) (j k : ℕ) → IsFaultOf v words j → IsFaultOf v words k
    → j ≡ k
one_of verb.Replay words j k f g = one_wrong 2 (replay_slots words) words j k f g
one_of verb.Make words j k f g = one_wrong 2 number_slots words j k f g
one_of verb.Soak words j k f g = one_wrong 2 number_slots words j k f g
one_of verb.Node words j k f g = one_of_node words j k f g
one_of verb.Call words j k f g = one_of_call words j k f g

one_behind : (word : List ℕ) (words : List (List ℕ)) (j k : ℕ) → IsFaultBehind word words j
    → IsFaultBehind word words k
    → j ≡ k
one_behind word words j k f g =
    let P : Verb → Type 0 = λ v. IsFaultOf v words j in
    let same = same_verb f.verb g.verb (sym f.spelled ∙ g.spelled) in
    one_of g.verb words j k (subst P same f.wrong) g.wrong

pub one_fault : (words : List (List ℕ)) (j k : ℕ) → IsFaultIn words j → IsFaultIn words k → j ≡ k
one_fault [] j k f g = f ∙ sym g
one_fault (w ∷ ws) j k f g = one_unless j k 1 f g (one_behind w ws j k)

-- ---- where there is none

-- each word fits its slot, and there are as many
abbrev pub AreFit : List Slot → List (List ℕ) → Type 0
AreFit [] [] = Unit {0}
AreFit [] (word ∷ words) = ⊥
AreFit (slot ∷ slots) [] = ⊥
AreFit (slot ∷ slots) (word ∷ words) = Fits slot word × AreFit slots words

pub none_wrong : (at : ℕ) (slots : List Slot) (words : List (List ℕ)) (k : ℕ) → AreFit slots words
    → IsFirstWrong at slots words k
    → ⊥
none_wrong at [] [] k h f = f
none_wrong at [] (w ∷ ws) k h f = h
none_wrong at (s ∷ ss) [] k h f = h
none_wrong at (s ∷ ss) (w ∷ ws) k h (inl f) = f.0 h.0
none_wrong at (s ∷ ss) (w ∷ ws) k h (inr f) = none_wrong (at + 1) ss ws k h.1 f.1

-- arguments fit the slots of their fields
pub arguments_fit : (fields : List Field) (words : List (List ℕ)) → AreArguments fields words
    → AreFit (map Argued fields) words
arguments_fit [] [] h = tt
arguments_fit [] (w ∷ ws) h = h
arguments_fit (x ∷ xs) [] h = h
arguments_fit (x ∷ xs) (w ∷ ws) h = (h.0, arguments_fit xs ws h.1)

-- a word that names a command is at fault only by those behind it
pub fault_of_verb : (v : Verb) (words : List (List ℕ)) (k : ℕ) → IsFaultIn (verb_word v ∷ words) k
    → IsFaultOf v words k
fault_of_verb v words k (inl f) = absurd (f.0 (record { verb = v; spelled = refl }))
fault_of_verb v words k (inr f) =
    let P : Verb → Type 0 = λ u. IsFaultOf u words k in
    subst P (same_verb f.1.verb v (sym f.1.spelled)) f.1.wrong

-- and such a fault is one of all words
pub is_fault_of : (v : Verb) (words : List (List ℕ)) (k : ℕ) → IsFaultOf v words k
    → IsFaultIn (verb_word v ∷ words) k
is_fault_of v words k f =
    inr (record { verb = v; spelled = refl }, record { verb = v; spelled = refl; wrong = f })
