-- How many actors there are after a raise and a join.
use Rattle.std.proofs.Common.{◌≡◌, ℕ, ◌+◌, ◌≤◌, max, Bool, true, false, cond, not, nat_le, None, Some, Option, IfSome, unwrap_or, List, [], ◌∷◌, length, refl, sym, ap, ◌∙◌, arith}
use Rattle.std.specs.List.{count_by, sum_by}
use Rattle.std.specs.Option.{option_map}
use Rattle.std.specs.Map.{values_of, lookup}
use Rattle.std.specs.BTreeMap.{is_at, insert_entry}
use Rattle.std.proofs.lemmas.Bool.Decides.{nat_tests}
use Rattle.std.proofs.lemmas.List.Sums.{sum_by-cons}
use Rattle.std.proofs.lemmas.Map.Entries.{sum_by-insert_entry}
use Rattle.pg_base.specs.declared.vector.Actor.{Actor}
use Rattle.pg_base.specs.Vector.{actor_cmp, IsVector, number_at, raised, joined}
use Rattle.pg_base.proofs.Vectors.{Entry, actor_total, Above-tail, IsEntry-head, IsVector-tail, IsVector-joined, least_found, number_at-above, number_at-joined, raised-more}

one : ℕ → ℕ
one n = 1

ones : (es : List Entry) → sum_by one (values_of es) ≡ length es
unfolding one
ones [] = refl
ones (e ∷ es) = sum_by-cons one e.1 (values_of es) ∙ omega (arith, ones es)

has_number : (o : Option ℕ) → IfSome o (λ n. 1 ≤ n) → unwrap_or (option_map one o) 0 ≡ cond (nat_le 1 (unwrap_or o 0)) 1 0
unfolding one
has_number None h = refl
has_number (Some n) h = grind (arith, nat_tests)

-- one more, unless the actor was there
pub length-raised : (es : List Entry) (a : Actor) (n : ℕ) → IsVector es → 1 ≤ n → length (raised es a n) + cond (nat_le 1 (number_at es a)) 1 0 ≡ length es + 1
unfolding one
length-raised es a n v more =
    let m = max (number_at es a) n in
    let sum = sum_by-insert_entry one actor_total es a m v.sorted in
    let size = ap length (raised-more es a n more) in
    let found = has_number (lookup (is_at (actor_cmp a)) es) (least_found es a v) in
    omega (arith, ones es, ones (insert_entry actor_cmp es a m))

more_by : (b : Bool) (n m k l : ℕ) → n + cond b 1 0 ≡ m + k + 1 → l ≡ cond (not b) 1 0 + k → n ≡ m + l
more_by true n m k l e f = omega arith
more_by false n m k l e f = omega arith

-- as many more as the first has actors that the second has not
pub length-joined : (xs ys : List Entry) → IsVector xs → IsVector ys → length (joined xs ys) ≡ length ys + count_by (λ e. not (nat_le 1 (number_at ys e.0))) xs
length-joined [] ys v w = omega arith
length-joined (x ∷ xs) ys v w =
    let new : Entry → Bool = λ e. not (nat_le 1 (number_at ys e.0)) in
    let tail = IsVector-tail x xs v in
    let none = number_at-above x.0 xs (Above-tail x xs v) in
    let same : number_at (joined xs ys) x.0 ≡ number_at ys x.0 = omega (arith, number_at-joined xs ys tail x.0) in
    let step = length-raised (joined xs ys) x.0 x.1 (IsVector-joined xs ys tail w) (IsEntry-head x xs v).least in
    let past : length (joined (x ∷ xs) ys) + cond (nat_le 1 (number_at ys x.0)) 1 0 ≡ length (joined xs ys) + 1 = ap (λ n. length (joined (x ∷ xs) ys) + cond (nat_le 1 n) 1 0) (sym same) ∙ step in
    more_by (nat_le 1 (number_at ys x.0)) (length (joined (x ∷ xs) ys)) (length ys) (count_by new xs) (count_by new (x ∷ xs)) (past ∙ ap (λ n. n + 1) (length-joined xs ys tail w)) (sum_by-cons (λ e. cond (new e) 1 0) x xs)
