-- Takes that tell no more than others are told apart where these are.
use Rattle.std.proofs.Common.{List, [], ◌∷◌, inl, inr}
use Rattle.pg_run.specs.Took.{Take}
use Rattle.pg_run.specs.Took.Take.{TookFlag, TookPlace}
use Rattle.pg_run.proofs.Knowing.{Within, told_itself, within_back, within_parts, within_then}
use Rattle.law_passing.specs.Tells.{AreApart, KnowsPlace}
use Rattle.law_passing.proofs.Latest.{any_of}
use Rattle.law_passing.proofs.Takes.{flag_known, place_known}

pub apart_within : (new old : List Take) → Within new old → AreApart old → AreApart new
apart_within new old w apart = record {
  places = λ f a b h k. apart.places f a b
      (any_of f (KnowsPlace new f) (KnowsPlace old f) (λ p q. place_known f old p (w (TookPlace q.0 f p) q.1)) a h)
      (any_of f (KnowsPlace new f) (KnowsPlace old f) (λ p q. place_known f old p (w (TookPlace q.0 f p) q.1)) b k);
  flags = λ f a b h k. apart.flags f a b (flag_known f old a (w (TookFlag h.0 f a) h.1)) (flag_known f old b (w (TookFlag k.0 f b) k.1));
}

-- with one take more on both sides
pub one_more : (u : Take) (takes old : List Take) → Within takes old → Within (u ∷ takes) (u ∷ old)
one_more u takes old w =
    within_parts (u ∷ []) takes (u ∷ old)
    (λ v k. told_itself v (u ∷ old) (elim k [ inl same ↦ inl same | inr none ↦ absurd none ]))
    (within_then takes old (u ∷ old) w (within_back (u ∷ []) old))
