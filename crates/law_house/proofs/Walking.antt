-- Steps one behind the other; passing as steps.
use Rattle.std.proofs.Common.{◌≡◌, ℕ, zero, suc, true, false, List, [], ◌∷◌, refl, sym, ap, ◌∙◌, subst, inl, inr, ◌⊎◌}
use Rattle.std.specs.List.{AllByRecursion, filter}
use Rattle.std.specs.List.Sorted.{IsStrictlySortedBy}
use Rattle.std.specs.Ordering.{is_lt}
use Rattle.std.specs.declared.cmp.Ordering.TheVariants.{Less}
use Rattle.std.proofs.lemmas.Bool.{false≢true, or_left, or_right}
use Rattle.pg_run.specs.pg_base.declared.id.FileId.{FileId}
use Rattle.pg_run.specs.pg_base.Id.{file_cmp, is_same_file}
use Rattle.pg_run.specs.pg_house.Facts.{HasPassed, is_among}
use Rattle.pg_run.specs.pg_house.Passing.{pass, pass_all}
use Rattle.pg_run.specs.pg_house.Work.{State, is_root}
use Rattle.pg_run.specs.pg_names.Names.{directories, is_dir}
use Rattle.pg_run.proofs.pg_base.Orders.{is_same_file-refl, is_same_file-true}
use Rattle.pg_run.proofs.pg_house.AfterPassing.{AreDirs}
use Rattle.pg_run.proofs.pg_house.Passes.{one_pass}
use Rattle.pg_run.proofs.pg_house.Touches.{passed_of}
use Rattle.pg_run.proofs.pg_house.Truths.{or_cases}
use Rattle.law_house.specs.Steps.{Passes, StepsTo}
use Rattle.law_house.proofs.Deciding.{decided, idle}
use Rattle.law_house.proofs.Moving.{less_one_way}

-- ---- some steps

abbrev pub Reaches : ℕ → State → State → Type 0
Reaches moment a b = (n : ℕ) × StepsTo moment n a b

then_by : (moment n : ℕ) (a b c : State) → StepsTo moment n a b → Reaches moment b c → Reaches moment a c
then_by moment zero a b c h r = subst (λ x. Reaches moment x c) (sym h) r
then_by moment (suc n) a b c h r =
    let more = then_by moment n h.0 b c h.2 r in
    (suc more.0, (h.0, h.1, more.1))

pub and_then : (moment : ℕ) (a b c : State) → Reaches moment a b → Reaches moment b c → Reaches moment a c
and_then moment a b c h r = then_by moment h.0 a b c h.1 r

-- ---- ids in order

among_all : (P : FileId → Type 0) (fs : List FileId) (g : FileId) → AllByRecursion P fs → is_among g fs ≡ true → P g
among_all P [] g all h = absurd (false≢true h)
among_all P (f ∷ fs) g all h =
    elim (or_cases (is_same_file f g) (is_among g fs) h) [
      | inl same ↦ subst P (is_same_file-true f g same) all.0
      | inr more ↦ among_all P fs g all.1 more
    ]

pub not_itself : (f : FileId) → is_lt (file_cmp f f) ≡ true → ⊥
not_itself f h = false≢true (sym (less_one_way f f h) ∙ h)

-- what is less than the first is not there
pub above_first : (f g : FileId) (fs : List FileId) → IsStrictlySortedBy file_cmp (f ∷ fs) → is_among g (f ∷ fs) ≡ true → is_lt (file_cmp g f) ≡ true → ⊥
unfolding IsStrictlySortedBy
above_first f g fs sorted among lt =
    elim (or_cases (is_same_file f g) (is_among g fs) among) [
      | inl same ↦ not_itself g (subst (λ x. is_lt (file_cmp g x) ≡ true) (is_same_file-true f g same) lt)
      | inr more ↦
          let above = among_all (λ y. file_cmp f y ≡ Less) fs g sorted.0 more in
          false≢true (sym (less_one_way f g (ap is_lt above)) ∙ lt)
    ]

pub sorted_rest : (f : FileId) (fs : List FileId) → IsStrictlySortedBy file_cmp (f ∷ fs) → IsStrictlySortedBy file_cmp fs
unfolding IsStrictlySortedBy
sorted_rest f fs sorted = sorted.1

-- ---- passing

-- one thing passes, where no lesser one does: in one step, or in none
pub one_passing : (moment : ℕ) (st : State) (ds : List FileId) (f : FileId) → directories st.names ≡ ds → is_root f ≡ false
    → ((g : FileId) → is_lt (file_cmp g f) ≡ true → Passes st g → ⊥)
    → Reaches moment st (pass st ds f)
one_passing moment st ds f same other least =
    elim (decided st ds f) [
      | inl still ↦ (0, sym still)
      | inr apart ↦ (
        1,
        (
          pass st ds f,
          inl (record {
            file = f;
            applies = record { other = other; changes = λ e. apart (ap (λ x. pass st x f) (sym same) ∙ e) };
            least = least;
            does = ap (λ x. pass st x f) (sym same);
          }),
          refl,
        ),
      )
    ]

-- each of these is to pass, or has passed
abbrev pub AllButThese : State → List FileId → List FileId → Type 0
AllButThese st ds fs = (g : FileId) → is_root g ≡ false → (is_among g fs ≡ true) ⊎ HasPassed st.names ds g

-- things pass by id
pub all_passing : (moment : ℕ) (st : State) (ds fs : List FileId) → directories st.names ≡ ds → AreDirs st.names ds
    → IsStrictlySortedBy file_cmp fs → ((g : FileId) → is_among g fs ≡ true → is_root g ≡ false) → AllButThese st ds fs
    → Reaches moment st (pass_all st ds fs)
all_passing moment st ds [] same dirs sorted others rest = (0, refl)
all_passing moment st ds (f ∷ fs) same dirs sorted others rest =
    let next = pass st ds f in
    let one = one_pass st ds f dirs in
    let here : is_among f (f ∷ fs) ≡ true = or_left (is_same_file f f) (is_among f fs) (is_same_file-refl f) in
    and_then moment st next (pass_all next ds fs)
    (one_passing moment st ds f same (others f here) lesser)
    (all_passing moment next ds fs (ap (filter is_dir) one.touches.keys ∙ same) one.dirs (sorted_rest f fs sorted)
    (λ g among. others g (or_right (is_same_file f g) (is_among g fs) among)) more)
  where
    lesser : (g : FileId) → is_lt (file_cmp g f) ≡ true → Passes st g → ⊥
    lesser g lt p = elim (rest g p.other) [
      | inl among ↦ above_first f g fs sorted among lt
      | inr k ↦ idle st ds g same k p
    ]

    has : (g : FileId) → (is_same_file f g ≡ true) ⊎ HasPassed st.names ds g → HasPassed (pass st ds f).names ds g
    has g = passed_of f st.names (pass st ds f).names (one_pass st ds f dirs).touches ds (one_pass st ds f dirs).passed g

    more : AllButThese (pass st ds f) ds fs
    more g other = elim (rest g other) [
      | inl among ↦ elim (or_cases (is_same_file f g) (is_among g fs) among) [
        | inl same ↦ inr (has g (inl same))
        | inr later ↦ inl later
      ]
      | inr k ↦ inr (has g (inr k))
    ]
