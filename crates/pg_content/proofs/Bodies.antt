-- What heads show, and the length of what ranges make of it.
use Rattle.std.proofs.Common.{◌≡◌, ℕ, ◌+◌, ◌-◌, ◌<◌, ◌≤◌, ◌^◌, min, max, Bool, true, false, cond, eqb, List, [], ◌∷◌, ◌++◌, length, map, take, drop, get_or, inl, inr, refl, sym, ap, subst, ◌∙◌, arith}
use Rattle.std.proofs.lemmas.Bool.{cases_lt}
use Rattle.std.proofs.lemmas.Bool.Decides.{nat_tests}
use Rattle.std.proofs.lemmas.List.{drop_more, drop_all, take_all, append_assoc, append-nil, length-take-le, take-append-le, drop-append-le}
use Rattle.std.proofs.Math.Seq.{drop-append-add, take-append-add}
use Rattle.std.proofs.lemmas.List.Elements.{All-head}
use Rattle.pg_base.specs.declared.stamp.Stamp.{Stamp}
use Rattle.pg_base.specs.Stamp.{UpTo, is_before}
use Rattle.pg_patch.specs.Ranges.{RangesValue, applied, length_of}
use Rattle.pg_patch.proofs.Composed.{length-applied}
use Rattle.pg_base.specs.declared.policy.Policy.TheVariants.{Last, Join}
use Rattle.pg_base.specs.Version.{VersionValue}
use Rattle.pg_content.specs.Shown.{inserted, by_stamp, last_body, all_bodies, shown}
use Rattle.pg_content.specs.Content.{ContentValue, InStampOrder, bodies_of, shown_bytes, body_limit}
use Rattle.pg_content.proofs.StampOrder.{After}

-- ---- what is shown

-- the bodies with their stamps
abbrev pub stamped : VersionValue → Stamp × List ℕ
stamped v = (v.head.stamp, v.body)

pub all_stamped : (vs : List VersionValue) → all_bodies (map stamped vs) ≡ bodies_of vs
all_stamped [] = refl
all_stamped (v ∷ vs) = ap (λ b. v.body ++ b) (all_stamped vs)

not_after : (s t : Stamp) (b : Bool) → is_before t s ≡ b → UpTo s t → b ≡ false
not_after s t true e le = absurd (let p = le.time in let q = le.server in grind (arith, nat_tests))
not_after s t false e le = refl

first_inserted : (v : VersionValue) (vs : List VersionValue) → After v vs → inserted (λ x. x.0) (stamped v) (map stamped vs) ≡ stamped v ∷ map stamped vs
first_inserted v [] h = refl
first_inserted v (w ∷ ws) h =
    ap (λ b. cond b (stamped w ∷ inserted (λ x. x.0) (stamped v) (map stamped ws)) (stamped v ∷ stamped w ∷ map stamped ws)) (not_after v.head.stamp w.head.stamp (is_before w.head.stamp v.head.stamp) refl (All-head (λ (x : VersionValue). UpTo v.head.stamp x.head.stamp) w ws h))

-- heads are in the order of their stamps already
pub by_stamp-sorted : (vs : List VersionValue) → InStampOrder vs → by_stamp (λ x. x.0) (map stamped vs) ≡ map stamped vs
by_stamp-sorted [] h = refl
by_stamp-sorted (v ∷ vs) h = ap (λ xs. inserted (λ x. x.0) (stamped v) xs) (by_stamp-sorted vs h.1) ∙ first_inserted v vs h.0

last_from : (v : VersionValue) (vs : List VersionValue) → bodies_of (drop (length vs) (v ∷ vs)) ≡ last_body (map stamped (v ∷ vs))
last_from v [] = append-nil v.body
last_from v (w ∷ ws) = last_from w ws

-- all of them from the last on
pub last_is : (vs : List VersionValue) (n : ℕ) → n ≡ length vs - 1 → bodies_of (drop n vs) ≡ last_body (map stamped vs)
last_is [] n e = ap bodies_of (drop_all n [] (omega arith))
last_is (v ∷ vs) n e = ap (λ k. bodies_of (drop k (v ∷ vs))) (let x : n ≡ length vs = omega arith in x) ∙ last_from v vs

pub shown_last : (c : ContentValue) (n : ℕ) → InStampOrder c.heads → c.policy ≡ Last → n ≡ length c.heads - 1 → bodies_of (drop n c.heads) ≡ shown_bytes c
shown_last c n order policy e =
    last_is c.heads n e ∙ ap last_body (sym (by_stamp-sorted c.heads order)) ∙ ap (λ p. shown p (map stamped c.heads)) (sym policy)

pub shown_join : (c : ContentValue) → InStampOrder c.heads → c.policy ≡ Join → bodies_of c.heads ≡ shown_bytes c
shown_join c order policy =
    sym (all_stamped c.heads) ∙ ap all_bodies (sym (by_stamp-sorted c.heads order)) ∙ ap (λ p. shown p (map stamped c.heads)) (sym policy)

-- ---- loops over versions

pub bodies_at : (vs : List VersionValue) (i : ℕ) (v : VersionValue) → i < length vs → v ≡ get_or vs i v → bodies_of (drop i vs) ≡ v.body ++ bodies_of (drop (i + 1) vs)
bodies_at vs i v lt e = ap bodies_of (drop_more vs i v lt) ∙ ap (λ (x : VersionValue). x.body ++ bodies_of (drop (i + 1) vs)) (sym e)

pub bodies_past : (vs : List VersionValue) (i : ℕ) → length vs ≤ i → bodies_of (drop i vs) ≡ []
bodies_past vs i le = ap bodies_of (drop_all i vs le)

-- ---- the length of what ranges make

short_by : (b : Bool) (n keep least : ℕ) → max (cond b (min n 18446744073709551615) (min (min n 18446744073709551615) keep)) least ≤ 1048576 → max (cond b (min n 18446744073709551615) (min (min n 18446744073709551615) keep)) least ≡ max (cond b n (min n keep)) least
short_by true n keep least h = omega arith
short_by false n keep least h = omega arith

long_by : (b : Bool) (n keep least : ℕ) → 1048576 < max (cond b (min n 18446744073709551615) (min (min n 18446744073709551615) keep)) least → 1048576 < max (cond b n (min n keep)) least
long_by true n keep least h = omega arith
long_by false n keep least h = omega arith

-- where the length was cut at the greatest number, a result that is short enough has the length all
-- the same
pub short_is : (body : List ℕ) (r : RangesValue) (n m : ℕ) → n ≡ min (length body) (2 ^ 64 - 1) → m ≡ length_of n r → m ≤ body_limit → m ≡ length (applied body r)
short_is body r n m cut e h =
    let f : m ≡ length_of (min (length body) (2 ^ 64 - 1)) r = e ∙ ap (λ k. length_of k r) cut in
    let P : ℕ → Type 0 = λ k. k ≤ body_limit in
    f ∙ short_by (eqb r.keep 4294967295) (length body) r.keep r.least (subst P f h) ∙ sym (length-applied body r)

pub long_is : (body : List ℕ) (r : RangesValue) (n m : ℕ) → n ≡ min (length body) (2 ^ 64 - 1) → m ≡ length_of n r → body_limit < m → body_limit < length (applied body r)
long_is body r n m cut e h =
    let f : m ≡ length_of (min (length body) (2 ^ 64 - 1)) r = e ∙ ap (λ k. length_of k r) cut in
    let P : ℕ → Type 0 = λ k. body_limit < k in
    subst P (sym (length-applied body r)) (long_by (eqb r.keep 4294967295) (length body) r.keep r.least (subst P f h))

-- ---- a view over several bodies

drop_over : (skip j e : ℕ) (xs ys : List ℕ) → j ≡ min skip (length xs) → e ≡ skip - j → drop skip (xs ++ ys) ≡ drop j xs ++ drop e ys
drop_over skip j e xs ys at left =
    elim (cases_lt (length xs) skip) [
      | inl past ↦
          let there : skip ≡ length xs + e = omega arith in
          let none : drop j xs ≡ [] = drop_all j xs (omega arith) in
          ap (λ k. drop k (xs ++ ys)) there ∙ drop-append-add xs ys e ∙ sym (ap (λ zs. zs ++ drop e ys) none)
      | inr within ↦
          let here : skip ≡ j = omega arith in
          let all : e ≡ 0 = omega arith in
          drop-append-le skip xs ys within ∙ (λ i. drop (here i) xs ++ drop (sym all i) ys)
    ]

take_over : (left j e : ℕ) (xs ys : List ℕ) → j ≡ min left (length xs) → e ≡ left - j → take left (xs ++ ys) ≡ take j xs ++ take e ys
take_over left j e xs ys at rest =
    elim (cases_lt (length xs) left) [
      | inl past ↦
          let there : left ≡ length xs + e = omega arith in
          let all : take j xs ≡ xs = take_all j xs (omega arith) in
          ap (λ k. take k (xs ++ ys)) there ∙ take-append-add xs ys e ∙ sym (ap (λ zs. zs ++ take e ys) all)
      | inr within ↦
          let here : left ≡ j = omega arith in
          let none : e ≡ 0 = omega arith in
          take-append-le left xs ys within ∙ sym (append-nil (take left xs)) ∙ (λ i. take (here i) xs ++ take (sym none i) ys)
    ]

-- one body more: so many of its bytes were skipped, and a piece of the rest was taken
pub view_step : (out new body rest piece all : List ℕ) (skip start left count : ℕ) → start ≡ min skip (length body) → count ≡ min left (length (drop start body)) → piece ≡ take count (drop start body) → new ≡ out ++ piece → all ≡ body ++ rest
    → new ++ take (left - length piece) (drop (skip - start) rest) ≡ out ++ take left (drop skip all)
view_step out new body rest piece all skip start left count from most is more whole =
    let size : length piece ≡ count = ap length is ∙ length-take-le count (drop start body) (omega arith) in
    ap (λ zs. zs ++ take (left - length piece) (drop (skip - start) rest)) (more ∙ ap (λ zs. out ++ zs) is)
    ∙ append_assoc out (take count (drop start body)) (take (left - length piece) (drop (skip - start) rest))
    ∙ ap (λ zs. out ++ zs) (sym (take_over left count (left - length piece) (drop start body) (drop (skip - start) rest) most (omega arith)))
    ∙ ap (λ zs. out ++ take left zs) (sym (drop_over skip start (skip - start) body rest from refl))
    ∙ ap (λ zs. out ++ take left (drop skip zs)) (sym whole)

pub taken_all : (out all : List ℕ) (left skip : ℕ) → all ≡ [] → out ++ take left (drop skip all) ≡ out
taken_all out all left skip none = ap (λ zs. out ++ take left (drop skip zs)) none ∙ ap (λ zs. out ++ take left zs) (drop_all skip [] (omega arith)) ∙ ap (λ zs. out ++ zs) (take_all left [] (omega arith)) ∙ append-nil out
