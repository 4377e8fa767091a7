-- What holds of each of some flags holds of each when they are joined.
use Rattle.std.proofs.Common.{List, [], ◌∷◌, Less, Equal, Greater, All}
use Rattle.std.specs.declared.cmp.Ordering.{Ordering}
use Rattle.std.specs.Ordering.{match_ordering, nat_cmp}
use Rattle.std.proofs.lemmas.List.Elements.{All-cons, All-head, All-nil, All-tail}
use Rattle.law_frame.specs.pg_run.pg_register.declared.flag.Flag.{Flag}
use Rattle.law_frame.specs.pg_run.pg_register.Flag.{flag_of, is_new, join_flag, join_flags, put_flag}
use Rattle.law_frame.proofs.pg_run.theory_flood_pieces.Choices.{chosen}

module _ (P : Flag → Type 0) where
  put_by : (f h : Flag) (hs : List Flag) (o : Ordering) → P f → All P (h ∷ hs) → All P (put_flag hs f)
      → All P (match_ordering o (f ∷ h ∷ hs) (f ∷ hs) (h ∷ put_flag hs f))
  put_by f h hs Less here all more = All-cons P f (h ∷ hs) here all
  put_by f h hs Equal here all more = All-cons P f hs here (All-tail P h hs all)
  put_by f h hs Greater here all more = All-cons P h (put_flag hs f) (All-head P h hs all) more

  all_put : (f : Flag) (fs : List Flag) → P f → All P fs → All P (put_flag fs f)
  all_put f [] here all = All-cons P f [] here (All-nil P)
  all_put f (h ∷ hs) here all = put_by f h hs (nat_cmp f.server h.server) here all (all_put f hs here (All-tail P h hs all))

  pub all_join : (fs : List Flag) (f : Flag) → P f → All P fs → All P (join_flag fs f)
  all_join fs f here all = chosen (λ (xs : List Flag). All P xs) (is_new (flag_of fs f.server) f) (put_flag fs f) fs (all_put f fs here all) all

  pub all_joined : (fs gs : List Flag) → All P fs → All P gs → All P (join_flags fs gs)
  all_joined fs [] all more = all
  all_joined fs (g ∷ gs) all more = all_joined (join_flag fs g) gs (all_join fs g (All-head P g gs more) all) (All-tail P g gs more)
