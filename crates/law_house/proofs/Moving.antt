-- Who moves is the least of the latest members of all cycles.
use Rattle.std.proofs.Common.{◌≡◌, ℕ, zero, suc, ◌<◌, ◌≤◌, ◌+◌, ◌-◌, Bool, true, false, List, [], ◌∷◌, length, Option, None, Some, refl, sym, ap, ◌∙◌, subst, arith, inl, inr}
use Rattle.std.specs.Map.{keys_of}
use Rattle.std.specs.Ordering.{is_gt, is_lt, ordering_reverse}
use Rattle.std.specs.declared.cmp.Ordering.{Ordering}
use Rattle.std.specs.declared.cmp.Ordering.TheVariants.{Less, Equal, Greater}
use Rattle.std.proofs.lemmas.Bool.{false≢true}
use Rattle.std.proofs.lemmas.Bool.Decides.{nat_tests}
use Rattle.std.proofs.lemmas.Cmp.{upto}
use Rattle.std.proofs.lemmas.Option.{none-some, same_Some}
use Rattle.pg_run.specs.pg_base.declared.id.FileId.{FileId}
use Rattle.pg_run.specs.pg_base.declared.stamp.Stamp.{Stamp}
use Rattle.pg_run.specs.pg_base.Id.{file_cmp, is_same_file}
use Rattle.pg_run.specs.pg_base.Stamp.{is_before}
use Rattle.pg_run.specs.pg_house.Cycles.{above, climb, first_moving, is_inner, is_lost, later, latest, latest_member, least, least_moving}
use Rattle.pg_run.specs.pg_house.Facts.{is_among}
use Rattle.pg_run.specs.pg_house.Placing.{place_at}
use Rattle.pg_run.specs.pg_names.Names.{NamesValue, directories, is_dir}
use Rattle.pg_run.proofs.pg_base.Orders.{file_total, is_same_file-true}
use Rattle.pg_run.proofs.pg_house.AllClimb.{climb_add, inner_below, latest_has, moving_member, none_lost}
use Rattle.pg_run.proofs.pg_house.Counting.{among_kept}
use Rattle.pg_run.proofs.pg_house.Ends.{key_of_held}
use Rattle.pg_run.proofs.pg_house.NoCycles.{inner_parts}
use Rattle.pg_run.proofs.pg_house.Truths.{bool_cases, chosen_false, chosen_true, or_cases}
use Rattle.pg_run.proofs.Pigeons.{twice}
use Rattle.law_house.specs.Standing.{IsLatestInCycle, IsWhoMoves, LeadsTo}
use Rattle.law_house.proofs.Climbing.{Round, again, all_inner, climbed, in_cycle, leads, round_at, round_of, within}

-- ---- orders

-- b is no later than a
abbrev NotBefore : Stamp → Stamp → Type 0
NotBefore a b = is_before a b ≡ false

not_before_trans : (a b c : Stamp) → NotBefore a b → NotBefore b c → NotBefore a c
not_before_trans a b c h g = grind (arith, nat_tests)

before_one_way : (a b : Stamp) → is_before a b ≡ true → NotBefore b a
before_one_way a b h = grind (arith, nat_tests)

abbrev pub NotLess : FileId → FileId → Type 0
NotLess a b = is_lt (file_cmp a b) ≡ false

turned : (o : Ordering) → is_lt (ordering_reverse o) ≡ is_gt o
turned Less = refl
turned Equal = refl
turned Greater = refl

pub as_gt : (a b : FileId) → is_lt (file_cmp a b) ≡ is_gt (file_cmp b a)
as_gt a b = ap is_lt (file_total.antisymm a b) ∙ turned (file_cmp b a)

pub not_less_trans : (a b c : FileId) → NotLess a b → NotLess b c → NotLess a c
not_less_trans a b c h g =
    as_gt a c ∙ upto file_total c b a (sym (as_gt b c) ∙ g) (sym (as_gt a b) ∙ h)

less_by : (t : Bool) (a b : FileId) → is_lt (file_cmp a b) ≡ true → is_lt (file_cmp b a) ≡ t → t ≡ false
less_by false a b h g = refl
less_by true a b h g = absurd (both (file_cmp a b) h (sym (turned (file_cmp a b)) ∙ ap is_lt (sym (file_total.antisymm b a)) ∙ g))
  where
    both : (o : Ordering) → is_lt o ≡ true → is_gt o ≡ true → ⊥
    both Less l m = false≢true m
    both Equal l m = false≢true m
    both Greater l m = false≢true l

pub less_one_way : (a b : FileId) → is_lt (file_cmp a b) ≡ true → NotLess b a
less_one_way a b h = less_by (is_lt (file_cmp b a)) a b h refl

-- ---- the least of those that would move

module _ (s : NamesValue) (n : ℕ) where
  abbrev UpTo : Option FileId → FileId → Type 0
  UpTo o m = (f : FileId) → o ≡ Some f → NotLess f m

  -- the lesser of two is not greater than either
  lesser_held : (o : Option FileId) (c m : FileId) → UpTo (least o c) m → UpTo o m
  lesser_held None c m up f h = absurd (none-some f h)
  lesser_held (Some held) c m up f h = subst (λ g. NotLess g m) (same_Some held f h) (by (is_lt (file_cmp c held)) refl)
    where
      by : (t : Bool) → is_lt (file_cmp c held) ≡ t → NotLess held m
      by true e = not_less_trans held c m (less_one_way c held e) (up c (chosen_true (is_lt (file_cmp c held)) (Some c) (Some held) e))
      by false e = up held (chosen_false (is_lt (file_cmp c held)) (Some c) (Some held) e)

  lesser_new : (o : Option FileId) (c m : FileId) → UpTo (least o c) m → NotLess c m
  lesser_new None c m up = up c refl
  lesser_new (Some held) c m up = by (is_lt (file_cmp c held)) refl
    where
      by : (t : Bool) → is_lt (file_cmp c held) ≡ t → NotLess c m
      by true e = up c (chosen_true (is_lt (file_cmp c held)) (Some c) (Some held) e)
      by false e = not_less_trans c held m e (up held (chosen_false (is_lt (file_cmp c held)) (Some c) (Some held) e))

  moving_held : (o : Option FileId) (d m : FileId) → UpTo (least_moving s n o d) m → UpTo o m
  moving_held o d m up = by (is_lost s n d) refl
    where
      by : (t : Bool) → is_lost s n d ≡ t → UpTo o m
      by true e = lesser_held o (latest_member s n d) m (subst (λ p. UpTo p m) (chosen_true (is_lost s n d) (least o (latest_member s n d)) o e) up)
      by false e = subst (λ p. UpTo p m) (chosen_false (is_lost s n d) (least o (latest_member s n d)) o e) up

  not_itself : (f : FileId) → NotLess f f
  not_itself f = elim (bool_cases (is_lt (file_cmp f f))) [ inl t ↦ less_one_way f f t | inr e ↦ e ]

  first_held : (o : Option FileId) (ds : List FileId) (m : FileId) → first_moving s n o ds ≡ Some m → UpTo o m
  first_held o [] m h = λ f g. subst (NotLess f) (same_Some f m (sym g ∙ h)) (not_itself f)
  first_held o (d ∷ ds) m h = moving_held o d m (first_held (least_moving s n o d) ds m h)

  -- none that would move is less than who does
  pub first_least : (o : Option FileId) (ds : List FileId) (m d : FileId) → first_moving s n o ds ≡ Some m → is_among d ds ≡ true → is_lost s n d ≡ true
      → NotLess (latest_member s n d) m
  first_least o [] m d h among lost = absurd (false≢true among)
  first_least o (e ∷ ds) m d h among lost =
      elim (or_cases (is_same_file e d) (is_among d ds) among) [
        | inl same ↦
            let here : e ≡ d = is_same_file-true e d same in
            let lost_here : is_lost s n e ≡ true = ap (is_lost s n) here ∙ lost in
            let up = first_held (least_moving s n o e) ds m h in
            subst (λ q. NotLess (latest_member s n q) m) here
            (lesser_new o (latest_member s n e) m (subst (λ p. UpTo p m) (chosen_true (is_lost s n e) (least o (latest_member s n e)) o lost_here) up))
        | inr more ↦ first_least (least_moving s n o e) ds m d h more lost
      ]

-- ---- the latest of so many

module _ (s : NamesValue) where
  abbrev stamp_of : FileId → Stamp
  stamp_of d = (place_at s d).stamp

  abbrev NoLater : FileId → FileId → Type 0
  NoLater a b = NotBefore (stamp_of a) (stamp_of b)

  itself : (a : Stamp) → NotBefore a a
  itself a = grind (arith, nat_tests)

  later_than : (a b : FileId) → (NoLater (later s a b) a) × (NoLater (later s a b) b)
  later_than a b = by (is_before (stamp_of a) (stamp_of b)) refl
    where
      by : (t : Bool) → is_before (stamp_of a) (stamp_of b) ≡ t → (NoLater (later s a b) a) × (NoLater (later s a b) b)
      by true e =
          let is : b ≡ later s a b = sym (chosen_true (is_before (stamp_of a) (stamp_of b)) b a e) in
          subst (λ q. (NoLater q a) × (NoLater q b)) is (before_one_way (stamp_of a) (stamp_of b) e, itself (stamp_of b))
      by false e =
          let is : a ≡ later s a b = sym (chosen_false (is_before (stamp_of a) (stamp_of b)) b a e) in
          subst (λ q. (NoLater q a) × (NoLater q b)) is (itself (stamp_of a), e)

  latest_best : (n : ℕ) (best d : FileId) → NoLater (latest s n best d) best
  latest_best zero best d = itself (stamp_of best)
  latest_best (suc n) best d =
      not_before_trans (stamp_of (latest s n (later s best d) (above s d))) (stamp_of (later s best d)) (stamp_of best)
      (latest_best n (later s best d) (above s d)) (later_than best d).0

  latest_each : (n i : ℕ) (best d : FileId) → i < n → NoLater (latest s n best d) (climb s i d)
  latest_each zero i best d lt = absurd (omega arith)
  latest_each (suc n) zero best d lt =
      not_before_trans (stamp_of (latest s n (later s best d) (above s d))) (stamp_of (later s best d)) (stamp_of d)
      (latest_best n (later s best d) (above s d)) (later_than best d).1
  latest_each (suc n) (suc i) best d lt = latest_each n i (later s best d) (above s d) (omega arith)

  -- where none is later it is the first
  latest_first : (n : ℕ) (best d : FileId) → ((i : ℕ) → NoLater best (climb s i d)) → latest s n best d ≡ best
  latest_first zero best d none = refl
  latest_first (suc n) best d none =
      ap (λ b. latest s n b (above s d)) (chosen_false (is_before (stamp_of best) (stamp_of d)) d best (none 0))
      ∙ latest_first n best (above s d) (λ i. none (suc i))

-- ---- of all held directories

module _ (s : NamesValue) where
  abbrev Ds : List FileId
  Ds = directories s

  abbrev Most : ℕ
  Most = length Ds

  inner_in : (d : FileId) → is_inner s d ≡ true → is_among d Ds ≡ true
  inner_in d h =
      let parts = inner_parts s d h in
      among_kept is_dir (keys_of s.held) d (key_of_held s d parts.held.0 parts.held.1) parts.dir

  -- who never comes out comes round, by no more steps than there are directories
  record Comes (d : FileId) : Type 0 where
    k : ℕ
    few : suc k ≤ Most
    round : Round s k (climb s Most d)

  -- where the same comes behind i steps and behind j, so it does from any later one on
  goes_round : (d : FileId) (i k : ℕ) → climb s i d ≡ climb s (i + suc k) d → (rest : ℕ)
      → climb s (suc k) (climb s (i + rest) d) ≡ climb s (i + rest) d
  goes_round d i k same rest =
      let swap : (i + rest) + suc k ≡ (i + suc k) + rest = omega arith in
      sym (climb_add s (i + rest) (suc k) d) ∙ ap (λ m. climb s m d) swap ∙ climb_add s (i + suc k) rest d
      ∙ ap (climb s rest) (sym same) ∙ sym (climb_add s i rest d)

  inner_to : (d : FileId) (most i : ℕ) → is_lost s most d ≡ true → i ≤ most + most → is_inner s (climb s i d) ≡ true
  inner_to d most i lost le =
      let parts : i + (most + most - i) ≡ most + most = omega (arith, le) in
      inner_below s i (most + most - i) d (ap (λ m. is_inner s (climb s m d)) parts ∙ lost)

  round_at_most : (d : FileId) (most i j : ℕ) → is_lost s most d ≡ true → i < j → j ≤ most → climb s i d ≡ climb s j d
      → Round s (j - (i + 1)) (climb s most d)
  round_at_most d most i j lost lt le same =
      let up : j ≡ i + suc (j - (i + 1)) = omega (arith, lt) in
      let from : i + (most - i) ≡ most = omega (arith, lt, le) in
      record {
        inner = inner_to d most most lost (omega arith);
        back = subst (λ m. climb s (suc (j - (i + 1))) (climb s m d) ≡ climb s m d) from
            (goes_round d i (j - (i + 1)) (same ∙ ap (λ m. climb s m d) up) (most - i));
      }

  comes : (d : FileId) → is_lost s Most d ≡ true → Comes d
  comes d lost =
      let t = twice (λ i. climb s i d) Most Ds (omega arith) (λ i le. inner_in (climb s i d) (inner_to d Most i lost (omega (arith, le)))) in
      let lt = t.2 in
      let le = t.3 in
      record {
        k = t.1 - (t.0 + 1);
        few = omega (arith, lt, le);
        round = round_at_most d Most t.0 t.1 lost lt le t.4;
      }

  -- so the latest of so many is the latest of its cycle
  candidate : (d : FileId) → is_lost s Most d ≡ true → IsLatestInCycle s (latest_member s Most d)
  candidate d lost =
      let c = comes d lost in
      let e = climb s Most d in
      let here = member c in
      let at : latest_member s Most d ≡ climb s here.0 e = here.1 in
      subst (IsLatestInCycle s) (sym at) (record {
        cycle = in_cycle s c.k (climb s here.0 e) (round_at s c.k e c.round here.0);
        latest = λ m member way. subst (λ q. NoLater s q member) at (no_later c here.0 m member way);
      })
    where
      member : Comes d → (i : ℕ) × (latest_member s Most d ≡ climb s i (climb s Most d))
      member c = latest_has (λ q. (i : ℕ) × (q ≡ climb s i (climb s Most d))) s Most (climb s Most d) (climb s Most d) (0, refl) (λ i lt. (i, refl))

      no_later : (c : Comes d) (i m : ℕ) (other : FileId) → LeadsTo s m (climb s i (climb s Most d)) other → NoLater s (latest_member s Most d) other
      no_later c i m other way =
          let e = climb s Most d in
          let w = within s c.k e c.round (i + m) in
          let few : w.0 < Most = let lt = w.1 in let le = c.few in omega arith in
          let is : climb s w.0 e ≡ other = sym w.2 ∙ climb_add s i m e ∙ climbed s m (climb s i e) other way in
          subst (NoLater s (latest_member s Most d)) is (latest_each s Most w.0 e e few)

  -- and the latest of a cycle is one of those that would move
  record Moves (m : FileId) : Type 0 where
    from : FileId
    among : is_among from Ds ≡ true
    lost : is_lost s Most from ≡ true
    is : latest_member s Most from ≡ m

  would_move : (m : FileId) → IsLatestInCycle s m → Moves m
  would_move m l =
      let r = round_of s m l.cycle in
      let k = l.cycle.0 in
      let a = again s k m r Most in
      let from = climb s a.0 m in
      let swap : a.0 + Most ≡ Most + a.0 = omega arith in
      let up : climb s Most from ≡ m = sym (climb_add s a.0 Most m) ∙ ap (λ n. climb s n m) swap ∙ a.1 in
      record {
        from = from;
        among = inner_in from (all_inner s k m r a.0);
        lost = all_inner s k from (round_at s k m r a.0) (Most + Most);
        is = ap (λ q. latest s Most q q) up
            ∙ latest_first s Most m m (λ i. l.latest i (climb s i m) (leads s i m (λ j lt. all_inner s k m r j)));
      }

  by_first : (o : Option FileId) → first_moving s Most None Ds ≡ o → IsWhoMoves s o
  by_first None h = λ d c.
      let r = round_of s d c in
      false≢true (sym (none_lost s Most None Ds d h (inner_in d r.inner)) ∙ all_inner s c.0 d r (Most + Most))
  by_first (Some m) h = record {
    latest = elim (moving_member s Most None Ds m h) [
      | inl never ↦ absurd (none-some m never)
      | inr by ↦ subst (IsLatestInCycle s) by.2 (candidate by.0 by.1)
    ];
    least = λ other l.
        let w = would_move other l in
        subst (λ q. is_lt (file_cmp q m) ≡ false) w.is (first_least s Most None Ds m w.from h w.among w.lost);
  }

pub who_moves : (names : NamesValue) → IsWhoMoves names
    (first_moving names (length (directories names)) None (directories names))
who_moves names = by_first names (first_moving names (length (directories names)) None (directories names)) refl
