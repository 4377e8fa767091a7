-- The newest flags of a set: there is one list of them, whatever the order in which they came.
use Rattle.std.proofs.Common.{ℕ, ◌≡◌, ◌==◌, ◌&&◌, ◌||◌, nat_lt, eqb, Bool, true, false, cond, List, [], ◌∷◌, Option, None, Some, refl, sym, ap, subst, ◌∙◌, inl, inr, ◌⊎◌, arith}
use Rattle.std.proofs.lemmas.Bool.Decides.{nat_tests}
use Rattle.std.proofs.lemmas.Option.{none-some, same_Some}
use Rattle.pg_run.specs.pg_content.Content.{Among}
use Rattle.pg_run.specs.pg_register.declared.flag.Flag.{Flag}
use Rattle.pg_run.specs.pg_register.Flag.{flag_of, is_older, join_flag, join_flags, newest}
use Rattle.pg_run.proofs.pg_register.ByServer.{IsByServer-join_flag, IsByServer-join_flags, IsByServer-nil, flag_of-join_flag, flag_of-join_flags, same_flags}
use Rattle.pg_run.specs.theory_flood_pieces.UpTo.{IsFlagKnownBy, IsFlagUpTo}
use Rattle.pg_run.proofs.theory_flood_pieces.UpTo.{known_further}
use Rattle.pg_run.proofs.theory_flood_pieces.Flags.{flag_joined, flag_server, flag_there, flags_joined, flags_there}
use Rattle.law_passing.specs.Newest.{AreNewest, HaveOwnNumbers}

-- ---- there is one list of the newest

same_birth : (b n c m : ℕ) → (nat_lt b c || (b == c && nat_lt n m)) ≡ false → (nat_lt c b || (c == b && nat_lt m n)) ≡ false → b ≡ c
same_birth b n c m h k = grind (arith, nat_tests)

same_number : (b n c m : ℕ) → (nat_lt b c || (b == c && nat_lt n m)) ≡ false → (nat_lt c b || (c == b && nat_lt m n)) ≡ false → n ≡ m
same_number b n c m h k = grind (arith, nat_tests)

module _ (P : Flag → Type 0) (one : HaveOwnNumbers P) where
  one_flag : (f g : Flag) → P f → P g → IsFlagUpTo f g → IsFlagUpTo g f → f ≡ g
  one_flag f g p q up down =
      one f g p q up.0 (same_birth f.birth f.number g.birth g.number down.1 up.1) (same_number f.birth f.number g.birth g.number down.1 up.1)

  known_at : (gs : List Flag) (f : Flag) (n : ℕ) (o : Option Flag) → AreNewest P gs → P f → f.server ≡ n → flag_of gs n ≡ o → IsFlagKnownBy (Some f) o
  known_at gs f n o k p e h =
      let Q : Option Flag → Type 0 = λ x. IsFlagKnownBy (Some f) x in
      subst Q (ap (flag_of gs) e ∙ h) (k.up f p)

  found_by : (fs gs : List Flag) → AreNewest P fs → AreNewest P gs → (n : ℕ) (o q : Option Flag) → flag_of fs n ≡ o → flag_of gs n ≡ q → o ≡ q
  found_by fs gs k l n None None h i = refl
  found_by fs gs k l n None (Some g) h i = absurd (known_at fs g n None k (l.there n g i) (flag_server gs n g i) h)
  found_by fs gs k l n (Some f) None h i = absurd (known_at gs f n None l (k.there n f h) (flag_server fs n f h) i)
  found_by fs gs k l n (Some f) (Some g) h i =
      ap Some (one_flag f g (k.there n f h) (l.there n g i) (known_at gs f n (Some g) l (k.there n f h) (flag_server fs n f h) i)
      (known_at fs g n (Some f) k (l.there n g i) (flag_server gs n g i) h))

  pub newest_once : (fs gs : List Flag) → AreNewest P fs → AreNewest P gs → fs ≡ gs
  newest_once fs gs k l = same_flags fs gs k.sorted l.sorted (λ n. found_by fs gs k l n (flag_of fs n) (flag_of gs n) refl refl)

-- of the same flags
pub newest_same : {P Q : Flag → Type 0} → ((f : Flag) → P f → Q f) → ((f : Flag) → Q f → P f) → (fs : List Flag) → AreNewest P fs → AreNewest Q fs
newest_same to back fs k = record { sorted = k.sorted; there = λ n f h. to f (k.there n f h); up = λ f h. k.up f (back f h) }

-- of none
pub newest_none : (P : Flag → Type 0) → ((f : Flag) → P f → ⊥) → AreNewest P []
newest_none P none = record { sorted = IsByServer-nil; there = λ n f h. absurd (none-some f h); up = λ f h. absurd (none f h) }

-- ---- one more

newer_is : (t : Bool) (f g h : Flag) → cond t g f ≡ h → (h ≡ g) ⊎ (h ≡ f)
newer_is true f g h e = inl (sym e)
newer_is false f g h e = inr (sym e)

newest_is : (o : Option Flag) (g h : Flag) → newest o (Some g) ≡ Some h → (h ≡ g) ⊎ (o ≡ Some h)
newest_is None g h e = inl (sym (same_Some g h e))
newest_is (Some f) g h e = elim (newer_is (is_older f g) f g h (same_Some _ h e)) [ inl new ↦ inl new | inr old ↦ inr (ap Some (sym old)) ]

more_by : (fs : List Flag) (g h : Flag) (n : ℕ) (t : Bool) → cond t (newest (flag_of fs n) (Some g)) (flag_of fs n) ≡ Some h → (h ≡ g) ⊎ (flag_of fs n ≡ Some h)
more_by fs g h n true e = newest_is (flag_of fs n) g h e
more_by fs g h n false e = inr e

module _ (P : Flag → Type 0) (fs : List Flag) (k : AreNewest P fs) (g : Flag) where
  abbrev More : Flag → Type 0
  More f = (f ≡ g) ⊎ P f

  more_there : (n : ℕ) (f : Flag) → flag_of (join_flag fs g) n ≡ Some f → More f
  more_there n f h = elim (more_by fs g f n (eqb g.server n) (sym (flag_of-join_flag g fs n) ∙ h)) [ inl new ↦ inl new | inr old ↦ inr (k.there n f old) ]

  more_up : (f : Flag) → More f → IsFlagKnownBy (Some f) (flag_of (join_flag fs g) f.server)
  more_up f (inl e) = let Q : Flag → Type 0 = λ x. IsFlagKnownBy (Some x) (flag_of (join_flag fs g) x.server) in subst Q (sym e) (flag_there fs g)
  more_up f (inr h) = known_further (Some f) (flag_of fs f.server) (flag_of (join_flag fs g) f.server) (k.up f h) (flag_joined fs g f.server)

  pub newest_more : AreNewest (λ f. (f ≡ g) ⊎ P f) (join_flag fs g)
  newest_more = record { sorted = IsByServer-join_flag g fs k.sorted; there = more_there; up = more_up }

-- ---- a list of more

to_list : (P : Flag → Type 0) (g : Flag) (gs : List Flag) (f : Flag) → Among f gs ⊎ ((f ≡ g) ⊎ P f) → Among f (g ∷ gs) ⊎ P f
to_list P g gs f (inl h) = inl (inr h)
to_list P g gs f (inr (inl e)) = inl (inl e)
to_list P g gs f (inr (inr h)) = inr h

from_list : (P : Flag → Type 0) (g : Flag) (gs : List Flag) (f : Flag) → Among f (g ∷ gs) ⊎ P f → Among f gs ⊎ ((f ≡ g) ⊎ P f)
from_list P g gs f (inl (inl e)) = inr (inl e)
from_list P g gs f (inl (inr h)) = inl h
from_list P g gs f (inr h) = inr (inr h)

right_only : (P : Flag → Type 0) (f : Flag) → Among f [] ⊎ P f → P f
right_only P f (inl h) = absurd h
right_only P f (inr h) = h

pub newest_list : (P : Flag → Type 0) (fs gs : List Flag) → AreNewest P fs → AreNewest (λ f. Among f gs ⊎ P f) (join_flags fs gs)
newest_list P fs [] k = newest_same {P = P} {Q = λ f. Among f [] ⊎ P f} (λ f. inr) (right_only P) fs k
newest_list P fs (g ∷ gs) k =
    let M : Flag → Type 0 = λ f. (f ≡ g) ⊎ P f in
    newest_same {P = λ f. Among f gs ⊎ M f} {Q = λ f. Among f (g ∷ gs) ⊎ P f} (to_list P g gs) (from_list P g gs) (join_flags (join_flag fs g) gs)
    (newest_list M (join_flag fs g) gs (newest_more P fs k g))

left_only : (gs : List Flag) (f : Flag) → Among f gs ⊎ ⊥ → Among f gs
left_only gs f (inl h) = h
left_only gs f (inr h) = absurd h

-- so those of a list are the ones that are computed
pub newest_of : (gs : List Flag) → AreNewest (λ f. Among f gs) (join_flags [] gs)
newest_of gs =
    let None' : Flag → Type 0 = λ f. ⊥ in
    newest_same {P = λ f. Among f gs ⊎ None' f} {Q = λ f. Among f gs} (left_only gs) (λ f. inl) (join_flags [] gs) (newest_list None' [] gs (newest_none None' (λ f h. h)))

-- ---- of two sets

of_both : (o p : Option Flag) (h : Flag) → newest o p ≡ Some h → (o ≡ Some h) ⊎ (p ≡ Some h)
of_both None p h e = inr e
of_both (Some f) None h e = inl e
of_both (Some f) (Some g) h e = elim (newest_is (Some f) g h e) [ inl new ↦ inr (ap Some (sym new)) | inr old ↦ inl old ]

module _ (P Q : Flag → Type 0) (fs gs : List Flag) (k : AreNewest P fs) (l : AreNewest Q gs) where
  both_there : (n : ℕ) (f : Flag) → flag_of (join_flags fs gs) n ≡ Some f → P f ⊎ Q f
  both_there n f h =
      elim (of_both (flag_of fs n) (flag_of gs n) f (sym (flag_of-join_flags fs gs n l.sorted) ∙ h)) [
        | inl one ↦ inl (k.there n f one)
        | inr two ↦ inr (l.there n f two)
      ]

  both_up : (f : Flag) → P f ⊎ Q f → IsFlagKnownBy (Some f) (flag_of (join_flags fs gs) f.server)
  both_up f (inl h) = known_further (Some f) (flag_of fs f.server) (flag_of (join_flags fs gs) f.server) (k.up f h) (flags_joined fs gs f.server)
  both_up f (inr h) = known_further (Some f) (flag_of gs f.server) (flag_of (join_flags fs gs) f.server) (l.up f h) (flags_there fs gs f.server)

  pub newest_both : AreNewest (λ f. P f ⊎ Q f) (join_flags fs gs)
  newest_both = record { sorted = IsByServer-join_flags fs gs k.sorted; there = both_there; up = both_up }
