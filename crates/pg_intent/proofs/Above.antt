-- The next target: the first of the live other servers above, else the first of all.
use Rattle.std.proofs.Common.{ℕ, zero, suc, ◌≡◌, ◌≢◌, ◌∙◌, ◌+◌, ◌-◌, ◌<◌, ◌≤◌, ◌==◌, ◌||◌, ◌++◌, ◌⊎◌, inl, inr, Bool, true, false, not, cond, eqb, Option, None, Some, List, [], ◌∷◌, refl, sym, ap, subst, arith, true≢false}
use Rattle.std.specs.Option.{option_or, unwrap_or}
use Rattle.std.proofs.lemmas.Bool.{and_parts, and_from, cases_lt, eq-eqb, ne_eqb, not_from_false, not-true}
use Rattle.pg_register.specs.Flag.{is_removed}
use Rattle.pg_intent.specs.Target.{IsLiveOther, IsNextTarget, first_above, is_live_other, next_target}

pub not_equal : (a b : ℕ) → not (a == b) ≡ true → a ≡ b → ⊥
not_equal a b h same = absurd (true≢false (sym (eq-eqb a b same) ∙ not-true (a == b) h))

-- who is not removed, and is not the one that is removed now, is not removed then
pub still_apart : (removed : List ℕ) (server t : ℕ) → is_removed removed t ≡ false → (server == t) ≡ false → is_removed (removed ++ server ∷ []) t ≡ false
still_apart [] server t old new = ap (λ (b : Bool). b || false) new
still_apart (x ∷ removed) server t old new = by (x == t) old (λ rest. still_apart removed server t rest new)
  where
    by : (b : Bool) → (b || is_removed removed t) ≡ false → (is_removed removed t ≡ false → is_removed (removed ++ server ∷ []) t ≡ false)
        → (b || is_removed (removed ++ server ∷ []) t) ≡ false
    by true h more = h
    by false h more = more h

some_is : (x y : ℕ) → ◌≡◌ {A = Option ℕ} (Some x) (Some y) → x ≡ y
some_is x y e = cc

module _ (test : ℕ → Bool) where
  -- the first of the numbers above n up to m, taken apart
  one_above : (n m : ℕ) → n < m → first_above test n (m - n) ≡ cond (test (n + 1)) (Some (n + 1)) (first_above test (n + 1) (m - (n + 1)))
  one_above n m lt = let e : m - n ≡ suc (m - (n + 1)) = omega arith in ap (first_above test n) e

  pub goes_on : (n m : ℕ) (r : Option ℕ) → n < m → test (n + 1) ≡ false → first_above test n (m - n) ≡ r → first_above test (n + 1) (m - (n + 1)) ≡ r
  goes_on n m r lt fails all = sym (ap (λ b. cond b (Some (n + 1)) (first_above test (n + 1) (m - (n + 1)))) fails) ∙ sym (one_above n m lt) ∙ all

  pub stops : (n m : ℕ) (r : Option ℕ) → n < m → test (n + 1) ≡ true → first_above test n (m - n) ≡ r → Some (n + 1) ≡ r
  stops n m r lt passes all = sym (ap (λ b. cond b (Some (n + 1)) (first_above test (n + 1) (m - (n + 1)))) passes) ∙ sym (one_above n m lt) ∙ all

  pub ends : (n m : ℕ) (r : Option ℕ) → m ≤ n → first_above test n (m - n) ≡ r → None ≡ r
  ends n m r le all = let e : m - n ≡ 0 = omega arith in sym (ap (first_above test n) e) ∙ all

  -- the first that passes is above n, and none before it passes
  record IsFirst (n k r : ℕ) : Type 0 where
    pub over : n < r
    pub upto : r ≤ n + k
    pub passes : test r ≡ true
    pub fails : (u : ℕ) → n < u → u < r → test u ≡ false

  next_or : (n u : ℕ) → n < u → (u ≡ n + 1) ⊎ (n + 1 < u)
  next_or n u lt = elim (cases_lt (n + 1) u) [
    | inl l ↦ inr l
    | inr r ↦ inl (omega arith)
  ]

  is_first : (n k r : ℕ) → first_above test n k ≡ Some r → IsFirst n k r
  is_first n zero r h = absurd (let e : ◌≡◌ {A = Option ℕ} None (Some r) = h in cc)
  is_first n (suc k) r h = by (test (n + 1)) refl (is_first (n + 1) k r) h
    where
      by : (t : Bool) → test (n + 1) ≡ t → (first_above test (n + 1) k ≡ Some r → IsFirst (n + 1) k r) → cond t (Some (n + 1)) (first_above test (n + 1) k) ≡ Some r → IsFirst n (suc k) r
      by true e below g =
          let same : n + 1 ≡ r = some_is (n + 1) r g in
          record {
            over = omega arith;
            upto = omega arith;
            passes = ap test (sym same) ∙ e;
            fails = λ u low high. absurd (omega arith);
          }
      by false e below g =
          let rest = below g in
          record {
            over = omega (arith, rest.over);
            upto = omega (arith, rest.upto);
            passes = rest.passes;
            fails = λ u low high. elim (next_or n u low) [
              | inl same ↦ ap test same ∙ e
              | inr above ↦ rest.fails u above high
            ];
          }

  fails_all : (n k : ℕ) → first_above test n k ≡ None → (u : ℕ) → n < u → u ≤ n + k → test u ≡ false
  fails_all n zero h u low high = absurd (omega arith)
  fails_all n (suc k) h u low high = by (test (n + 1)) refl (λ g above. fails_all (n + 1) k g u above (omega arith)) h
    where
      by : (t : Bool) → test (n + 1) ≡ t → (first_above test (n + 1) k ≡ None → n + 1 < u → test u ≡ false) → cond t (Some (n + 1)) (first_above test (n + 1) k) ≡ None → test u ≡ false
      by true e rest g = absurd (let x : ◌≡◌ {A = Option ℕ} (Some (n + 1)) None = g in cc)
      by false e rest g = elim (next_or n u low) [
        | inl same ↦ ap test same ∙ e
        | inr above ↦ rest g above
      ]

-- ---- live other servers

module _ (n s : ℕ) (removed : List ℕ) where
  passes : (u : ℕ) → IsLiveOther n s removed u → is_live_other s removed u ≡ true
  passes u live =
      and_from (not (eqb u s)) (not (is_removed removed u)) (not_from_false (eqb u s) (ne_eqb u s live.differs))
      (not_from_false (is_removed removed u) live.stays)

  lives : (u : ℕ) → 1 ≤ u → u ≤ n → is_live_other s removed u ≡ true → IsLiveOther n s removed u
  lives u low high h =
      let p = and_parts (not (eqb u s)) (not (is_removed removed u)) h in
      record {
        from = low;
        upto = high;
        differs = not_equal u s p.0;
        stays = not-true (is_removed removed u) p.1;
      }

  -- the first that passes is live, where the numbers that are tried are of servers
  pub lives_above : (t k r : ℕ) → (t < r → r ≤ t + k → r ≤ n) → first_above (is_live_other s removed) t k ≡ Some r → IsLiveOther n s removed r
  lives_above t k r fits h =
      let first = is_first (is_live_other s removed) t k r h in
      lives r (omega (arith, first.over)) (fits first.over first.upto) first.passes

  next_by : (t : ℕ) (a b : Option ℕ) → first_above (is_live_other s removed) t (n - t) ≡ a → first_above (is_live_other s removed) 0 n ≡ b
      → unwrap_or (option_or a b) 0 ≢ 0 → IsLiveOther n s removed (unwrap_or (option_or a b) 0)
  next_by t (Some r) b e f some = lives_above t (n - t) r (λ low high. omega (arith, low, high)) e
  next_by t None (Some r) e f some = lives_above 0 n r (λ low high. omega (arith, high)) f
  next_by t None None e f some = absurd (some refl)

  -- WHO IS ASKED NEXT IS LIVE, where there is one
  pub next_lives : (t : ℕ) → next_target n s removed t ≢ 0 → IsLiveOther n s removed (next_target n s removed t)
  next_lives t = next_by t (first_above (is_live_other s removed) t (n - t)) (first_above (is_live_other s removed) 0 n) refl refl

  absent : {P : Type 0} (u : ℕ) → IsLiveOther n s removed u → is_live_other s removed u ≡ false → P
  absent u live h = absurd (true≢false (sym (passes u live) ∙ h))

  is_next : (t : ℕ) → IsNextTarget n s removed t (next_target n s removed t)
  is_next t = by (first_above test t (n - t)) (first_above test 0 n) refl refl
    where
      test : ℕ → Bool
      test = is_live_other s removed

      by : (a b : Option ℕ) → first_above (is_live_other s removed) t (n - t) ≡ a → first_above (is_live_other s removed) 0 n ≡ b
          → IsNextTarget n s removed t (unwrap_or (option_or a b) 0)
      by (Some r) b e f =
          let first = is_first (is_live_other s removed) t (n - t) r e in
          let upto : r ≤ n = elim (cases_lt t n) [
            | inl l ↦ omega (arith, first.upto)
            | inr g ↦ absurd (omega (arith, first.upto, first.over))
          ] in
          let live = lives r (omega (arith, first.over)) upto first.passes in
          record {
            above = λ u is lt. (
              live,
              first.over,
              elim (cases_lt u r) [
                | inl l ↦ absent u is (first.fails u lt l)
                | inr g ↦ g
              ],
            );
            around = λ all u is. absurd (let le = all r live in omega (arith, first.over));
            none = λ no. absurd (no r live);
          }
      by None (Some r) e f =
          let first = is_first (is_live_other s removed) 0 n r f in
          let live = lives r (omega (arith, first.over)) (omega (arith, first.upto)) first.passes in
          record {
            above = λ u is lt. absent u is (fails_all (is_live_other s removed) t (n - t) e u lt (omega (arith, is.upto)));
            around = λ all u is. (
              live,
              elim (cases_lt u r) [
                | inl l ↦ absent u is (first.fails u (omega (arith, is.from)) l)
                | inr g ↦ g
              ],
            );
            none = λ no. absurd (no r live);
          }
      by None None e f = record {
        above = λ u is lt. absent u is (fails_all (is_live_other s removed) t (n - t) e u lt (omega (arith, is.upto)));
        around = λ all u is. absent u is (fails_all (is_live_other s removed) 0 n f u (omega (arith, is.from)) (omega (arith, is.upto)));
        none = λ no. refl;
      }

  pub is_next_as : (t r : ℕ) → r ≡ next_target n s removed t → IsNextTarget n s removed t r
  is_next_as t r e = subst (IsNextTarget n s removed t) (sym e) (is_next t)
