-- Flags that are joined.
use Rattle.std.proofs.Common.{◌≡◌, ℕ, Bool, true, false, cond, eqb, List, [], ◌∷◌, Option, None, Some, refl, sym, ap, ◌∙◌, arith}
use Rattle.std.proofs.lemmas.Bool.Decides.{nat_tests}
use Rattle.pg_register.specs.declared.flag.Flag.{Flag}
use Rattle.pg_register.specs.Flag.{IsByServer, flag_of, is_older, join_flag, join_flags, newer_flag, newest}
use Rattle.pg_register.proofs.ByServer.{IsByServer-join_flag, IsByServer-join_flags, flag_of-join_flag, flag_of-join_flags, same_flags}
use Rattle.pg_house.proofs.Truths.{chosen}

newest_same : (o : Option Flag) → newest o o ≡ o
newest_same None = refl
newest_same (Some a) = ap Some (chosen (λ (f : Flag). f ≡ a) (is_older a a) a a refl refl)

-- flags joined with themselves
pub join_same : (fs : List Flag) → IsByServer fs → join_flags fs fs ≡ fs
join_same fs sorted = same_flags (join_flags fs fs) fs (IsByServer-join_flags fs fs sorted) sorted (λ s. flag_of-join_flags fs fs s sorted ∙ newest_same (flag_of fs s))

-- a server of which there was a flag has one
stays_at : (o : Option Flag) (f g : Flag) (t : Bool) → o ≡ Some g → (h : Flag) × (cond t (newest o (Some f)) o ≡ Some h)
stays_at o f g true e = (newer_flag g f, ap (λ (x : Option Flag). newest x (Some f)) e)
stays_at o f g false e = (g, e)

flag_stays : (fs : List Flag) (f : Flag) (s : ℕ) (g : Flag) → flag_of fs s ≡ Some g → (h : Flag) × (flag_of (join_flag fs f) s ≡ Some h)
flag_stays fs f s g e = let x = stays_at (flag_of fs s) f g _ e in (x.0, flag_of-join_flag f fs s ∙ x.1)

pub flags_stay : (fs gs : List Flag) (s : ℕ) (g : Flag) → flag_of fs s ≡ Some g → (h : Flag) × (flag_of (join_flags fs gs) s ≡ Some h)
flags_stay fs [] s g e = (g, e)
flags_stay fs (f ∷ gs) s g e = let x = flag_stays fs f s g e in flags_stay (join_flag fs f) gs s x.0 x.1

-- ---- what was joined is joined again

older_once : (a b : Flag) → is_older a b ≡ true → is_older b a ≡ false
older_once a b h = grind (arith, nat_tests)

again_by : (a b : Flag) (t : Bool) → is_older a b ≡ t → newest (Some (cond t b a)) (Some a) ≡ Some (cond t b a)
again_by a b true h = ap (λ t. Some (cond t a b)) (older_once a b h)
again_by a b false h = newest_same (Some a)

newest_again : (o p : Option Flag) → newest (newest o p) o ≡ newest o p
newest_again None None = refl
newest_again None (Some b) = refl
newest_again (Some a) None = newest_same (Some a)
newest_again (Some a) (Some b) = again_by a b (is_older a b) refl

at_again : (o p : Option Flag) (t : Bool) → newest (cond t (newest o p) o) o ≡ cond t (newest o p) o
at_again o p true = newest_again o p
at_again o p false = newest_same o

-- a flag that came to these flags, and then these
pub join_again : (fs : List Flag) (f : Flag) → IsByServer fs → join_flags (join_flag fs f) fs ≡ join_flag fs f
join_again fs f sorted =
    let more = IsByServer-join_flag f fs sorted in
    same_flags (join_flags (join_flag fs f) fs) (join_flag fs f) (IsByServer-join_flags (join_flag fs f) fs more) more
    (λ s. flag_of-join_flags (join_flag fs f) fs s sorted
    ∙ ap (λ (o : Option Flag). newest o (flag_of fs s)) (flag_of-join_flag f fs s) ∙ at_again (flag_of fs s) (Some f) (eqb f.server s)
    ∙ sym (flag_of-join_flag f fs s))
