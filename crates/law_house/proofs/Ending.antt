-- The house ends by steps, and in no other way.
use Rattle.std.proofs.Common.{◌≡◌, ℕ, zero, suc, true, not, List, [], ◌∷◌, length, Option, None, Some, refl, sym, ap, ◌∙◌, subst, inl, inr, ◌⊎◌}
use Rattle.std.specs.List.{filter}
use Rattle.std.specs.Map.{keys_of}
use Rattle.std.specs.Ordering.{is_gt, is_lt}
use Rattle.std.specs.declared.cmp.Ordering.{Ordering}
use Rattle.std.specs.declared.cmp.Ordering.TheVariants.{Less, Equal, Greater}
use Rattle.std.proofs.lemmas.Bool.{false≢true, not-true, not_from_false}
use Rattle.std.proofs.lemmas.List.Kept.{IsStrictlySortedBy-filter}
use Rattle.pg_run.specs.pg_base.declared.id.FileId.{FileId}
use Rattle.pg_run.specs.pg_base.Id.{file_cmp}
use Rattle.pg_run.specs.pg_house.Facts.{AreOrdered, HasPassed, is_among}
use Rattle.pg_run.specs.pg_house.House.{house, movable}
use Rattle.pg_run.specs.pg_house.Passing.{pass, pass_all}
use Rattle.pg_run.specs.pg_house.Placing.{place_at}
use Rattle.pg_run.specs.pg_house.Work.{State, is_root}
use Rattle.pg_run.specs.pg_names.declared.attributes.Attributes.{Attributes}
use Rattle.pg_run.specs.pg_names.Names.{directories, is_dir, own_at}
use Rattle.pg_run.specs.pg_register.Place.{root, tilde_name}
use Rattle.pg_run.proofs.pg_base.Orders.{file_exact}
use Rattle.pg_run.proofs.pg_house.Counting.{among_kept, kept_dir}
use Rattle.pg_run.proofs.pg_house.Ends.{One, Two, first_dirs, key_of_held, no_cycle, one_last, one_settled, two_all}
use Rattle.pg_run.proofs.pg_house.Ordered.{pass_ordered}
use Rattle.pg_run.proofs.pg_house.Passes.{all_pass}
use Rattle.pg_run.proofs.pg_house.Truths.{bool_cases}
use Rattle.law_house.specs.Steps.{AreFit, EndsIn, HouseGoesBySteps, IsAtEnd, IsStep, StepsTo, made_live}
use Rattle.law_house.proofs.Breaking.{KeptAll, all_break, none_returns}
use Rattle.law_house.proofs.Climbing.{round_of}
use Rattle.law_house.proofs.Deciding.{absent}
use Rattle.law_house.proofs.Moving.{NotLess, as_gt}
use Rattle.law_house.proofs.Placing.{none_passes}
use Rattle.law_house.proofs.Returning.{Kept, all_return}
use Rattle.law_house.proofs.Walking.{AllButThese, Reaches, all_passing, and_then}

-- ---- there is a way

all_ordered : (st : State) (ds fs : List FileId) → AreOrdered st.names → AreOrdered (pass_all st ds fs).names
all_ordered st ds [] ordered = ordered
all_ordered st ds (f ∷ fs) ordered = all_ordered (pass st ds f) ds fs (pass_ordered st ds f ordered)

module _ (moment : ℕ) (st : State) (fit : AreFit st.names) where
  abbrev Ds : List FileId
  Ds = directories st.names

  abbrev Fs : List FileId
  Fs = movable st.names

  abbrev Passed : State
  Passed = One moment st fit.of_dirs fit.by_server

  abbrev Back : State
  Back = Two moment st fit.of_dirs fit.by_server fit.last

  all_to_pass : AllButThese st Ds Fs
  all_to_pass g other = by (own_at st.names g) refl
    where
      by : (o : Option Attributes) → own_at st.names g ≡ o → (is_among g Fs ≡ true) ⊎ HasPassed st.names Ds g
      by None h = inr (absent st Ds g h)
      by (Some own) h = inl (among_kept (λ f. not (is_root f)) (keys_of st.names.held) g (key_of_held st.names g own h) (not_from_false (is_root g) other))

  passing : Reaches moment st Passed
  passing =
      all_passing moment st Ds Fs refl (first_dirs moment st fit.of_dirs fit.by_server)
      (IsStrictlySortedBy-filter file_cmp (λ f. not (is_root f)) (keys_of st.names.held) fit.things)
      (λ g among. not-true (is_root g) (kept_dir (λ f. not (is_root f)) (keys_of st.names.held) g among)) all_to_pass

  passed_kept : Kept Ds Passed
  passed_kept = record {
    same = ap (filter is_dir) (all_pass st Ds Fs (first_dirs moment st fit.of_dirs fit.by_server)).keys;
    settled = one_settled moment st fit.of_dirs fit.by_server;
    last = one_last moment st fit.of_dirs fit.by_server fit.last;
    ordered = all_ordered st Ds Fs fit.entries;
  }

  returning : Reaches moment Passed Back × Kept Ds Back
  returning =
      all_return moment Ds (IsStrictlySortedBy-filter file_cmp is_dir (keys_of st.names.held) fit.things) (length Ds) Passed passed_kept

  breaking : Reaches moment Back (house moment st) × KeptAll moment Ds (house moment st)
  breaking = all_break moment Ds (length Ds) Back (record { same = returning.1.same; all = two_all moment st fit.of_dirs fit.by_server fit.last })

  at_end : IsAtEnd (house moment st)
  at_end = record {
    passed = none_passes moment Ds (house moment st) breaking.1.same breaking.1.all.0;
    returned = none_returns (house moment st).names breaking.1.all.2;
    unmoved = λ d c.
        let r = round_of (house moment st).names d c in
        no_cycle moment st fit.of_dirs fit.by_server fit.last d c.0 r.inner r.back;
  }

  pub ends : EndsIn moment st (house moment st)
  ends =
      let way = and_then moment st Passed (house moment st) passing (and_then moment Passed Back (house moment st) returning.0 breaking.0) in
      record { steps = way.0; leads = way.1; ends = at_end }

-- ---- and no other

same_of : (a b : FileId) → NotLess a b → NotLess b a → a ≡ b
same_of a b h g = by (file_cmp a b) refl
  where
    by : (o : Ordering) → file_cmp a b ≡ o → a ≡ b
    by Less e = absurd (false≢true (sym h ∙ ap is_lt e))
    by Equal e = file_exact a b e
    by Greater e = absurd (false≢true (sym g ∙ as_gt b a ∙ ap is_gt e))

not_less : (a b : FileId) → (is_lt (file_cmp a b) ≡ true → ⊥) → NotLess a b
not_less a b none = elim (bool_cases (is_lt (file_cmp a b))) [ inl t ↦ absurd (none t) | inr e ↦ e ]

module _ (moment : ℕ) (a : State) where
  one_way : (b c : State) → IsStep moment a b → IsStep moment a c → b ≡ c
  one_way b c (inl p) (inl q) =
      let same = same_of p.file q.file (not_less p.file q.file (λ lt. q.least p.file lt p.applies)) (not_less q.file p.file (λ lt. p.least q.file lt q.applies)) in
      p.does ∙ ap (pass a (directories a.names)) same ∙ sym q.does
  one_way b c (inl p) (inr (inl q)) = absurd (q.passed p.file p.applies)
  one_way b c (inl p) (inr (inr q)) = absurd (q.passed p.file p.applies)
  one_way b c (inr (inl p)) (inl q) = absurd (p.passed q.file q.applies)
  one_way b c (inr (inl p)) (inr (inl q)) =
      let same = same_of p.dir q.dir (not_less p.dir q.dir (λ lt. q.least p.dir lt p.applies)) (not_less q.dir p.dir (λ lt. p.least q.dir lt q.applies)) in
      p.does ∙ ap (λ d. let place = place_at a.names d in made_live moment a d place.parent place.name) same ∙ sym q.does
  one_way b c (inr (inl p)) (inr (inr q)) = absurd (q.returned p.dir p.applies)
  one_way b c (inr (inr p)) (inl q) = absurd (p.passed q.file q.applies)
  one_way b c (inr (inr p)) (inr (inl q)) = absurd (p.returned q.dir q.applies)
  one_way b c (inr (inr p)) (inr (inr q)) =
      let same = same_of p.dir q.dir (q.applies.least p.dir p.applies.latest) (p.applies.least q.dir q.applies.latest) in
      p.does ∙ ap (λ d. made_live moment a d root (tilde_name d)) same ∙ sym q.does

  no_way : (b : State) → IsAtEnd a → IsStep moment a b → ⊥
  no_way b end (inl p) = end.passed p.file p.applies
  no_way b end (inr (inl p)) = end.returned p.dir p.applies
  no_way b end (inr (inr p)) = end.unmoved p.dir p.applies.latest.cycle

one_end : (moment n k : ℕ) (a b c : State) → StepsTo moment n a b → IsAtEnd b → StepsTo moment k a c → IsAtEnd c → b ≡ c
one_end moment zero zero a b c h e g f = sym h ∙ g
one_end moment zero (suc k) a b c h e g f = absurd (no_way moment a g.0 (subst IsAtEnd (sym h) e) g.1)
one_end moment (suc n) zero a b c h e g f = absurd (no_way moment a h.0 (subst IsAtEnd (sym g) f) h.1)
one_end moment (suc n) (suc k) a b c h e g f =
    let same = one_way moment a g.0 h.0 g.1 h.1 in
    one_end moment n k h.0 b c h.2 e (subst (λ x. StepsTo moment k x c) same g.2) f

pub by_steps : HouseGoesBySteps
by_steps moment st fit =
    let w = ends moment st fit in
    record {
      ends = w;
      only = λ end way. one_end moment way.steps w.steps st end (house moment st) way.leads way.ends w.leads w.ends;
    }
