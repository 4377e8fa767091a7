-- How many bytes parts have.
use Rattle.std.proofs.Common.{ℕ, ◌≡◌, ◌≤◌, ◌↔◌, arith, IsTrue, nat_le, List, [], ◌∷◌, length, refl, sym, subst, ◌∙◌}
use Rattle.std.proofs.lemmas.Bool.Decides.{nat_tests}
use Rattle.std.proofs.lemmas.List.Sums.{sum_by-cons}
use Rattle.pg_patch.specs.declared.part.Part.{Part}
use Rattle.pg_patch.specs.Parts.{bytes_of_parts}
use Rattle.pg_packet_write.specs.Fits.{laid}

pub laid_is : (parts : List Part) → bytes_of_parts parts ≡ laid parts
laid_is [] = refl
laid_is (p ∷ ps) = omega (arith, sum_by-cons (λ (q : Part). length q.bytes) p ps, laid_is ps)

low : (n : ℕ) → IsTrue (nat_le n 30000) ↔ (n ≤ 30000)
low n = (λ h. grind (arith, nat_tests), λ h. grind (arith, nat_tests))

-- the test of how many bytes parts have
pub short_is : (parts : List Part) (n : ℕ) → n ≡ bytes_of_parts parts → IsTrue (nat_le n 30000) ↔ (laid parts ≤ 30000)
short_is parts n is =
    let t = low n in
    let same : n ≡ laid parts = is ∙ laid_is parts in
    (λ h. subst (λ k. k ≤ 30000) same (t.0 h), λ h. t.1 (subst (λ k. k ≤ 30000) (sym same) h))
