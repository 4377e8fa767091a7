-- What is said of flags is said of those that they are joined to.
use Rattle.std.proofs.Common.{ℕ, ◌≡◌, ◌==◌, Bool, true, false, cond, List, [], ◌∷◌, Option, Some, Less, Equal, Greater, subst, All}
use Rattle.std.specs.declared.cmp.Ordering.{Ordering}
use Rattle.std.specs.Ordering.{match_ordering, nat_cmp}
use Rattle.std.proofs.lemmas.List.Elements.{All-cons, All-head, All-nil, All-tail}
use Rattle.pg_run.specs.pg_register.declared.flag.Flag.{Flag}
use Rattle.pg_run.specs.pg_register.Flag.{flag_of, is_new, join_flag, join_flags, put_flag}

module _ (P : Flag → Type 0) where
  put_by : (h f : Flag) (fs : List Flag) (o : Ordering) → P h → P f → All P fs → All P (put_flag fs f)
      → All P (match_ordering o (f ∷ h ∷ fs) (f ∷ fs) (h ∷ put_flag fs f))
  put_by h f fs Less one two rest more = All-cons P f (h ∷ fs) two (All-cons P h fs one rest)
  put_by h f fs Equal one two rest more = All-cons P f fs two rest
  put_by h f fs Greater one two rest more = All-cons P h (put_flag fs f) one more

  put_all : (fs : List Flag) (f : Flag) → All P fs → P f → All P (put_flag fs f)
  put_all [] f all one = All-cons P f [] one (All-nil P)
  put_all (h ∷ fs) f all one =
      let rest = All-tail P h fs all in
      put_by h f fs (nat_cmp f.server h.server) (All-head P h fs all) one rest (put_all fs f rest one)

  join_by : (fs gs : List Flag) (t : Bool) → All P fs → All P gs → All P (cond t gs fs)
  join_by fs gs true old new = new
  join_by fs gs false old new = old

  pub join_all : (fs : List Flag) (f : Flag) → All P fs → P f → All P (join_flag fs f)
  join_all fs f all one = join_by fs (put_flag fs f) (is_new (flag_of fs f.server) f) all (put_all fs f all one)

  pub joins_all : (gs fs : List Flag) → All P fs → All P gs → All P (join_flags fs gs)
  joins_all [] fs all more = all
  joins_all (g ∷ gs) fs all more =
      joins_all gs (join_flag fs g) (join_all fs g all (All-head P g gs more)) (All-tail P g gs more)

  found_by : (f g : Flag) (o : Option Flag) (t : Bool) → P f → (o ≡ Some g → P g) → cond t (Some f) o ≡ Some g → P g
  found_by f g o true one rest there = subst P (let same : f ≡ g = cc in same) one
  found_by f g o false one rest there = rest there

  -- the flag of a server is one of them
  pub found_says : (fs : List Flag) (s : ℕ) (g : Flag) → All P fs → flag_of fs s ≡ Some g → P g
  found_says [] s g all there = cc
  found_says (f ∷ fs) s g all there =
      found_by f g (flag_of fs s) (f.server == s) (All-head P f fs all) (found_says fs s g (All-tail P f fs all)) there
