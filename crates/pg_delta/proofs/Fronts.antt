-- What ranges make of what is shown, and the stamps of heads.
use Rattle.std.proofs.Common.{◌≡◌, ℕ, ◌<◌, ◌≤◌, ◌⊎◌, ◌↔◌, ◌^◌, ◌-◌, min, max, Bool, true, false, cond, ltb, eqb, List, [], ◌∷◌, length, take, drop, get_or, inl, inr, refl, sym, ap, ◌∙◌, arith}
use Rattle.std.proofs.lemmas.Bool.{cases_eq}
use Rattle.std.proofs.lemmas.Bool.Decides.{nat_tests}
use Rattle.std.proofs.lemmas.List.{append-nil, take_all, get_or-take, length-take}
use Rattle.pg_base.specs.declared.policy.Policy.{Policy}
use Rattle.pg_base.specs.declared.policy.Policy.TheVariants.{Last, Join}
use Rattle.pg_base.specs.declared.stamp.Stamp.{Stamp}
use Rattle.pg_patch.specs.Parts.{byte_or}
use Rattle.pg_patch.specs.Ranges.{RangesValue, IsRanges, all, applied, kept, length_of}
use Rattle.pg_patch.proofs.Composed.{applied_from, get_or-applied, kept-all, kept-some, length-applied}
use Rattle.pg_content.specs.Shown.{shown}

-- ---- one head

pub shown_one : (policy : Policy) (s : Stamp) (body : List ℕ) → shown policy ((s, body) ∷ []) ≡ body
shown_one Last s body = refl
shown_one Join s body = append-nil body

-- ---- the length of what ranges make

-- where the length was cut at the greatest number, a result that is short is the same
short_by : (b : Bool) (n keep least m : ℕ) → m < 2 ^ 32 → (max (cond b (min n 18446744073709551615) (min (min n 18446744073709551615) keep)) least ≡ m) ↔ (max (cond b n (min n keep)) least ≡ m)
short_by true n keep least m h = (λ e. omega arith, λ e. omega arith)
short_by false n keep least m h = (λ e. omega arith, λ e. omega arith)

pub length_is : (body : List ℕ) (r : RangesValue) (n m : ℕ) → n ≡ min (length body) (2 ^ 64 - 1) → m < 2 ^ 32 → (length_of n r ≡ m) ↔ (length (applied body r) ≡ m)
length_is body r n m cut h =
    let cases = short_by (eqb r.keep 4294967295) (length body) r.keep r.least m h in
    let same = ap (λ k. length_of k r) cut in
    let long = length-applied body r in
    (λ e. long ∙ cases.0 (sym same ∙ e), λ e. same ∙ cases.1 (sym long ∙ e))

-- ---- the front of a body is enough

front_byte : (b : Bool) (body : List ℕ) (most i k : ℕ) → ltb i k ≡ b → k ≤ most → cond b (get_or (take most body) i 0) 0 ≡ cond b (get_or body i 0) 0
front_byte true body most i k e le = get_or-take most body i 0 (let h : i < k = grind (arith, nat_tests) in omega arith)
front_byte false body most i k e le = refl

-- where not all of a body stays, what stays is within its front
front_kept : (body : List ℕ) (keep : ℕ) → keep < all → kept keep (length (take all body)) ≡ kept keep (length body)
front_kept body keep h =
    kept-some keep (length (take all body)) h ∙ (let n = length-take all body in omega arith) ∙ sym (kept-some keep (length body) h)

front_part : (body : List ℕ) (r : RangesValue) → r.keep < all → applied (take all body) r ≡ applied body r
front_part body r h =
    let same = front_kept body r.keep h in
    let most = kept-some r.keep (length body) h in
    applied_from body (applied (take all body) r) r (length-applied (take all body) r ∙ ap (λ k. max k r.least) same) (λ i lt.
    get_or-applied (take all body) r i 0 (omega (arith, length-applied (take all body) r))
    ∙ ap (byte_or r.parts i) (ap (λ k. cond (ltb i k) (get_or (take all body) i 0) 0) same ∙ front_byte (ltb i (kept r.keep (length body))) body all i (kept r.keep (length body)) refl (omega arith)))

front_all : (body : List ℕ) (r : RangesValue) → r.keep ≡ all → length (applied body r) < 2 ^ 32 → applied (take all body) r ≡ applied body r
front_all body r h short =
    let long = kept-all r.keep (length body) h in
    ap (λ xs. applied xs r) (take_all all body (omega (arith, length-applied body r)))

front_by : (body : List ℕ) (r : RangesValue) → IsRanges r → length (applied body r) < 2 ^ 32 → (r.keep ≡ all) ⊎ (r.keep ≡ all → ⊥) → applied (take all body) r ≡ applied body r
front_by body r k short (inl h) = front_all body r h short
front_by body r k short (inr h) = front_part body r (omega (arith, k.keep))

-- ranges make the same of a body's front where they make no more than 2^32 - 1 bytes
pub front_enough : (body : List ℕ) (r : RangesValue) → IsRanges r → length (applied body r) < 2 ^ 32 → applied (take all (drop 0 body)) r ≡ applied body r
front_enough body r k short = front_by body r k short (cases_eq r.keep all)
