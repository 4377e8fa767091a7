-- How long parts are.
use Rattle.std.proofs.Common.{◌≡◌, ℕ, zero, suc, ◌^◌, ◌<◌, ◌≤◌, List, [], ◌∷◌, length, get_or, arith, subst, sym}
use Rattle.pg_patch.specs.declared.part.Part.{Part}
use Rattle.pg_packet_write.specs.Fits.{laid}

each_short : (parts : List Part) (i : ℕ) (d : Part) → i < length parts → length ((get_or parts i d).bytes) ≤ laid parts
each_short [] i d lt = absurd (omega arith)
each_short (p ∷ ps) zero d lt = omega arith
each_short (p ∷ ps) (suc i) d lt = let less = each_short ps i d (omega arith) in omega (arith, less)

-- each is no longer than all
pub part_short : (parts : List Part) (i : ℕ) (part d : Part) → i < length parts → part ≡ get_or parts i d → laid parts ≤ 30000
    → length part.bytes < 2 ^ 32
part_short parts i part d lt is few =
    let less = each_short parts i d lt in
    subst (λ (p : Part). length p.bytes < 2 ^ 32) (sym is) (omega (arith, less, few))
