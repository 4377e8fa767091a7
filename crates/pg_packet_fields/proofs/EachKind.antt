-- Values of several kinds, each kind with fields of its own.
use Rattle.std.proofs.Common.{◌≡◌, ℕ, List, refl, sym, subst}
use Rattle.pg_codec.specs.Reading.{Field, seen_as}
use Rattle.pg_codec.specs.Laws.{IsField}
use Rattle.pg_packet_fields.proofs.Joining.{view_is}

found : {K T : Type 0} (kind : T → K) (F : T → Type 0) (Parts : K → Type 0) (made : (k : K) → Parts k → T)
    (k : K) (t : T) (x : Parts (kind t)) → made (kind t) x ≡ t → F t → kind t ≡ k
    → (y : Parts k) × F (made k y) × (made k y ≡ t)
found kind F Parts made k t x same fits is =
    subst (λ j. (y : Parts j) × F (made j y) × (made j y ≡ t)) is (x, subst F (sym same) fits, same)

-- Where the fields of each kind make its values, they are read as a value of the kind.
pub of_kinds : {K T E : Type 0} (kind : T → K) (F : T → Type 0) (behind : T → List ℕ)
    (Parts : K → Type 0) (made : (k : K) → Parts k → T) (parts_at : (k : K) → Field E (Parts k))
    → ((k : K) (x : Parts k) → kind (made k x) ≡ k)
    → ((t : T) → (x : Parts (kind t)) × (made (kind t) x ≡ t))
    → ((k : K) → IsField (λ (x : Parts k). F (made k x)) (λ (x : Parts k). behind (made k x)) (parts_at k))
    → (k : K) → IsField (λ t. F t × (kind t ≡ k)) behind (seen_as (made k) (parts_at k))
of_kinds {T = T} kind F behind Parts made parts_at kinds parts fields k =
    view_is (fields k) (made k) (λ (t : T). F t × (kind t ≡ k)) behind
    (λ x fits. ((fits, kinds k x), refl))
    (λ t fits. let p = parts t in found kind F Parts made k t p.0 p.1 fits.0 fits.1)
