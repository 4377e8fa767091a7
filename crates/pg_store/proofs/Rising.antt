-- Flags that were joined with others: they are as before, or of one server there is a newer one.
use Rattle.std.proofs.Common.{ℕ, ◌≡◌, Bool, true, false, cond, eqb, Option, None, Some, List, [], ◌∷◌, refl, sym, ap, ◌∙◌, subst, inl, inr, ◌⊎◌, arith}
use Rattle.std.proofs.lemmas.Bool.{false≢true}
use Rattle.std.proofs.lemmas.Bool.Decides.{nat_tests, Decides-eqb}
use Rattle.pg_base.specs.declared.id.FileId.{FileId}
use Rattle.pg_register.specs.declared.flag.Flag.{Flag}
use Rattle.pg_register.specs.Flag.{flag_of, is_new, is_older, join_flag, join_flags, put_flag}
use Rattle.pg_register.proofs.ByServer.{flag_of-put_flag, not_older}
use Rattle.pg_entries.specs.declared.entry.Entry.{Entry}
use Rattle.pg_names.specs.declared.attributes.Attributes.{Attributes}
use Rattle.pg_names.specs.Names.{NamesValue, cell_at}
use Rattle.pg_house.specs.Passing.{greatest, joined_with}

-- of a server there is a newer flag
abbrev pub NewAt : List Flag → List Flag → ℕ → Type 0
NewAt fs gs n = (f : Flag) × (flag_of gs n ≡ Some f) × (is_new (flag_of fs n) f ≡ true)

-- or the same one
abbrev NoneOlder : List Flag → List Flag → ℕ → Type 0
NoneOlder fs gs n = (flag_of gs n ≡ flag_of fs n) ⊎ NewAt fs gs n

abbrev pub SomeNew : List Flag → List Flag → Type 0
SomeNew fs gs = (n : ℕ) × NewAt fs gs n

pub record Rises (fs gs : List Flag) : Type 0 where
  pub each : (n : ℕ) → NoneOlder fs gs n
  pub some : (gs ≡ fs) ⊎ SomeNew fs gs

pub Rises-refl : (fs : List Flag) → Rises fs fs
Rises-refl fs = record { each = λ n. inl refl; some = inl refl }

newer_on : (o : Option Flag) (f g : Flag) → is_new o f ≡ true → is_older f g ≡ true → is_new o g ≡ true
newer_on None f g a b = refl
newer_on (Some h) f g a b = grind (arith, nat_tests)

-- ---- one step behind another

module _ (fs gs hs : List Flag) (n : ℕ) where
  later : NewAt fs gs n → NoneOlder gs hs n → NewAt fs hs n
  later a (inl same) = (a.0, same ∙ a.1, a.2)
  later a (inr b) = (b.0, b.1, newer_on (flag_of fs n) a.0 b.0 a.2 (sym (ap (λ o. is_new o b.0) a.1) ∙ b.2))

  earlier : flag_of gs n ≡ flag_of fs n → NewAt gs hs n → NewAt fs hs n
  earlier same b = (b.0, b.1, ap (λ o. is_new o b.0) (sym same) ∙ b.2)

  both : NoneOlder fs gs n → NoneOlder gs hs n → NoneOlder fs hs n
  both (inl a) (inl b) = inl (b ∙ a)
  both (inl a) (inr b) = inr (earlier a b)
  both (inr a) b = inr (later a b)

  new_behind : NoneOlder fs gs n → NewAt gs hs n → NewAt fs hs n
  new_behind (inl a) b = earlier a b
  new_behind (inr a) b = later a (inr b)

module _ (fs gs hs : List Flag) (a : Rises fs gs) (b : Rises gs hs) where
  some_by : (gs ≡ fs) ⊎ SomeNew fs gs → (hs ≡ gs) ⊎ SomeNew gs hs → (hs ≡ fs) ⊎ SomeNew fs hs
  some_by x (inr new) = inr (new.0, new_behind fs gs hs new.0 (a.each new.0) new.1)
  some_by (inl x) (inl y) = inl (y ∙ x)
  some_by (inr new) (inl y) = inr (new.0, later fs gs hs new.0 new.1 (b.each new.0))

  pub Rises-trans : Rises fs hs
  Rises-trans = record { each = λ n. both fs gs hs n (a.each n) (b.each n); some = some_by a.some b.some }

-- ---- one flag more

module _ (fs : List Flag) (f : Flag) (new : is_new (flag_of fs f.server) f ≡ true) where
  put_at : (n : ℕ) (t : Bool) → eqb f.server n ≡ t → NoneOlder fs (put_flag fs f) n
  put_at n false e = inl (flag_of-put_flag f fs n ∙ ap (λ b. cond b (Some f) (flag_of fs n)) e)
  put_at n true e = inr (
    f,
    flag_of-put_flag f fs n ∙ ap (λ b. cond b (Some f) (flag_of fs n)) e,
    subst (λ k. is_new (flag_of fs k) f ≡ true) ((Decides-eqb f.server n).0 e) new,
  )

  here : (t : Bool) → eqb f.server f.server ≡ t → NewAt fs (put_flag fs f) f.server
  here true e = (f, flag_of-put_flag f fs f.server ∙ ap (λ b. cond b (Some f) (flag_of fs f.server)) e, new)
  here false e = absurd (false≢true (sym e ∙ (Decides-eqb f.server f.server).1 refl))

  put_rises : Rises fs (put_flag fs f)
  put_rises = record { each = λ n. put_at n (eqb f.server n) refl; some = inr (f.server, here (eqb f.server f.server) refl) }

joined_by : (fs : List Flag) (f : Flag) (t : Bool) → is_new (flag_of fs f.server) f ≡ t → Rises fs (cond t (put_flag fs f) fs)
joined_by fs f true new = put_rises fs f new
joined_by fs f false old = Rises-refl fs

joined_all : (fs gs : List Flag) → Rises fs (join_flags fs gs)
joined_all fs [] = Rises-refl fs
joined_all fs (g ∷ gs) =
    Rises-trans fs (join_flag fs g) (join_flags (join_flag fs g) gs) (joined_by fs g (is_new (flag_of fs g.server) g) refl) (joined_all (join_flag fs g) gs)

-- ---- the greatest of what is known of a thing

with_rises : (top : Attributes) (o : Option Entry) → Rises top.flags (joined_with top o).flags
with_rises top None = Rises-refl top.flags
with_rises top (Some c) = joined_all top.flags c.flags

pub greatest_rises : (s : NamesValue) (f : FileId) (top : Attributes) (ds : List FileId) → Rises top.flags (greatest s f top ds).flags
greatest_rises s f top [] = Rises-refl top.flags
greatest_rises s f top (d ∷ ds) =
    let next = joined_with top (cell_at s d f) in
    Rises-trans top.flags next.flags (greatest s f next ds).flags (with_rises top (cell_at s d f)) (greatest_rises s f next ds)

-- a newer flag is another one
pub new_differs : (fs gs : List Flag) (n : ℕ) → NewAt fs gs n → flag_of gs n ≡ flag_of fs n → ⊥
new_differs fs gs n new same =
    let held : is_new (Some new.0) new.0 ≡ true = sym (ap (λ o. is_new o new.0) (sym same ∙ new.1)) ∙ new.2 in
    false≢true (sym (not_older new.0) ∙ held)
