-- Whether passing changes something; and whoever has passed passes again without a change.
use Rattle.std.proofs.Common.{◌≡◌, ◌≢◌, ℕ, ◌<◌, Bool, true, false, List, [], ◌∷◌, length, Option, None, Some, refl, sym, ap, ◌∙◌, subst, arith, inl, inr, ◌⊎◌}
use Rattle.std.proofs.lemmas.Bool.{false≢true}
use Rattle.std.proofs.lemmas.List.{length-append}
use Rattle.std.proofs.lemmas.Option.{none-some, same_Some}
use Rattle.pg_run.specs.pg_base.declared.id.FileId.{FileId}
use Rattle.pg_run.specs.pg_edges.declared.key.Key.TheVariants as key
use Rattle.pg_run.specs.pg_house.Facts.{HasPassed}
use Rattle.pg_run.specs.pg_house.Passing.{gets, given, greatest, is_held_back, offered, own_taken, pass, pass_own, passed, spread, took}
use Rattle.pg_run.specs.pg_house.Work.{State}
use Rattle.pg_run.specs.pg_names.declared.attributes.Attributes.{Attributes}
use Rattle.pg_run.specs.pg_names.Names.{directories, own_at}
use Rattle.pg_run.specs.pg_names.Same.{is_same_own}
use Rattle.pg_run.proofs.pg_house.AfterPassing.{after_own}
use Rattle.pg_run.proofs.pg_house.Idle.{AreHeld, pass_idle}
use Rattle.pg_run.proofs.pg_house.Settling.{dirs_held}
use Rattle.pg_run.proofs.pg_house.Truths.{chosen_false, chosen_true}
use Rattle.pg_run.proofs.pg_names.Alike.{own-refl}
use Rattle.law_house.specs.Steps.{Passes}

-- ---- what is noted of keys grows, or nothing changed

abbrev touched_keys : State → ℕ
touched_keys st = length st.work.touched

abbrev Grows : State → State → Type 0
Grows a b = (b ≡ a) ⊎ (touched_keys a < touched_keys b)

grows_trans : (a b c : State) → Grows a b → Grows b c → Grows a c
grows_trans a b c (inl e) (inl g) = inl (g ∙ e)
grows_trans a b c (inl e) (inr lt) = inr (subst (λ x. touched_keys x < touched_keys c) e lt)
grows_trans a b c (inr lt) (inl g) = inr (subst (λ x. touched_keys a < touched_keys x) (sym g) lt)
grows_trans a b c (inr lt) (inr more) = inr (omega (arith, lt, more))

grown : (a b : State) → Grows a b → (b ≡ a) ⊎ (b ≢ a)
grown a b (inl e) = inl e
grown a b (inr lt) = inr (λ e. let n = touched_keys a in let same : touched_keys b ≡ n = ap touched_keys e in absurd (omega (arith, lt, same)))

module _ (f : FileId) (own top : Attributes) (back : Bool) where
  given_grows : (st : State) (d : FileId) → touched_keys st < touched_keys (given st f top d)
  given_grows st d = let e = length-append st.work.touched (record { file = d; key = key.Entry f } ∷ []) in omega (arith, e)

  offered_grows : (st : State) (d : FileId) → Grows st (offered st f own top back d)
  offered_grows st d = by (gets st.names f own top back d) refl
    where
      by : (t : Bool) → gets st.names f own top back d ≡ t → Grows st (offered st f own top back d)
      by true e = inr (subst (λ x. touched_keys st < touched_keys x) (sym (chosen_true (gets st.names f own top back d) (given st f top d) st e)) (given_grows st d))
      by false e = inl (chosen_false (gets st.names f own top back d) (given st f top d) st e)

  spread_grows : (st : State) (ds : List FileId) → Grows st (spread st f own top back ds)
  spread_grows st [] = inl refl
  spread_grows st (d ∷ ds) =
      let next = offered st f own top back d in
      grows_trans st next (spread next f own top back ds) (offered_grows st d) (spread_grows next ds)

  -- a pass changes nothing, or something
  passed_decided : (st : State) (ds : List FileId) → own_at st.names f ≡ Some own
      → (passed st ds f own top back ≡ st) ⊎ (passed st ds f own top back ≢ st)
  passed_decided st ds held = by (is_same_own own taken) refl
    where
      taken : Attributes
      taken = own_taken own top back

      by : (t : Bool) → is_same_own own taken ≡ t → (passed st ds f own top back ≡ st) ⊎ (passed st ds f own top back ≢ st)
      by true e =
          let s = spread st f own top back ds in
          let is = chosen_true (is_same_own own taken) s (took s f own taken) e in
          subst (λ x. (x ≡ st) ⊎ (x ≢ st)) (sym is) (grown st s (spread_grows st ds))
      by false e = inr (λ same.
          let now : own_at st.names f ≡ Some taken = ap (λ (x : State). own_at x.names f) (sym same) ∙ after_own st ds f own top back held in
          let is : taken ≡ own = same_Some taken own (sym now ∙ held) in
          false≢true (sym e ∙ ap (is_same_own own) is ∙ own-refl own))

module _ (st : State) (ds : List FileId) (f : FileId) where
  by_own : (o : Option Attributes) → own_at st.names f ≡ o → (pass_own st ds f o ≡ st) ⊎ (pass_own st ds f o ≢ st)
  by_own None h = inl refl
  by_own (Some own) h =
      let top = greatest st.names f own ds in
      passed_decided f own top (is_held_back st.names.removed f own top) st ds h

  pub decided : (pass st ds f ≡ st) ⊎ (pass st ds f ≢ st)
  decided = by_own (own_at st.names f) refl

-- ---- whoever has passed does not pass

-- what is not held has
pub absent : (st : State) (ds : List FileId) (f : FileId) → own_at st.names f ≡ None → HasPassed st.names ds f
absent st ds f none own h = absurd (none-some own (sym none ∙ h))

pub idle : (st : State) (ds : List FileId) (f : FileId) → directories st.names ≡ ds → HasPassed st.names ds f → Passes st f → ⊥
idle st ds f same k p =
    p.changes (ap (λ x. pass st x f) same ∙ pass_idle st ds f (subst (AreHeld st.names) same (dirs_held st.names)) k)
