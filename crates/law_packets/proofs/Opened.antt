-- Texts that begin a packet but for the count of the list at their end.
use Rattle.std.proofs.Common.{◌≡◌, ℕ, ◌^◌, ◌<◌, ◌⊎◌, inl, inr, List, [], ◌++◌, refl, sym, ap, subst, ◌∙◌, append_assoc}
use Rattle.pg_codec.specs.Reading.{Field, number_at}
use Rattle.pg_codec.specs.Laws.{HasWidth, IsField}
use Rattle.pg_codec.specs.Spelling.{number_bytes}
use Rattle.pg_packet_fields.specs.Faults.{of_packet}
use Rattle.pg_packet_fields.specs.Lists.{list_at}
use Rattle.pg_packet_fields.specs.declared.error.PacketError.{PacketError}
use Rattle.law_packets.specs.Lists.{IsOpen, Opens}
use Rattle.law_packets.proofs.Lists.{Inner, OpenList, list_none, list_told}
use Rattle.law_packets.proofs.Sure.{IsRelation, IsSure, Reached}
use Rattle.law_packets.proofs.Telling.{IsTold, Starts, other_reached}

abbrev pub SameBut : List ℕ → List ℕ → Type 0
SameBut a b = (before : List ℕ) × (whole : List ℕ) × (begun : List ℕ) × (b ≡ before ++ begun) × (a ≡ before ++ whole) × ((whole ≡ begun) ⊎ Opens whole begun)

pub same : IsRelation SameBut
same = record {
  here = λ b. ([], b, b, refl, refl, inl refl);
  behind = λ front a b h. (
    front ++ h.0,
    h.1,
    h.2,
    ap (λ (t : List ℕ). front ++ t) h.3 ∙ sym (append_assoc front h.0 h.2),
    ap (λ (t : List ℕ). front ++ t) h.4 ∙ sym (append_assoc front h.0 h.1),
    h.5,
  );
}

open_reached : {X S : Type 0} (item : S → Field PacketError X) (Fits : S → X → Type 0) (next : S → X → S) (s : X → List ℕ) (LeavesNone : S → List ℕ → Type 0) (size most : ℕ) (start : S)
    → ((whole begun : List ℕ) → IsOpen size most Fits next start s LeavesNone whole begun → Opens whole begun)
    → Starts (list_at size most item next start) [] → (b : List ℕ) → OpenList item Fits next s LeavesNone size most start b → Reached SameBut (list_at size most item next start) b
open_reached item Fits next s LeavesNone size most start opens none b (inl is) = record { whole = []; same = subst (λ (t : List ℕ). SameBut [] t) (sym is) (same.here []); starts = none }
open_reached item Fits next s LeavesNone size most start opens none b (inr o) = record { whole = o.0; same = ([], o.0, b, refl, refl, inr (opens o.0 b o.1)); starts = o.2 }

-- a list of items that are told
pub list_sure : {X S : Type 0} (item : S → Field PacketError X) (Fits : S → X → Type 0) (next : S → X → S) (s : X → List ℕ) (LeavesNone : S → List ℕ → Type 0)
    → ((state : S) → IsField (Fits state) s (item state)) → ((state : S) → IsTold (Inner (item state) (LeavesNone state)) (item state))
    → (size most : ℕ) (start : S) → 0 < size → most < 256 ^ size → IsField (HasWidth size) (number_bytes size) (of_packet (number_at size))
    → ((whole begun : List ℕ) → IsOpen size most Fits next start s LeavesNone whole begun → Opens whole begun)
    → IsSure SameBut (list_at size most item next start)
list_sure item Fits next s LeavesNone field told size most start some width number opens =
    let none = list_none item Fits next s field size most start width number in
    record {
      told = other_reached (OpenList item Fits next s LeavesNone size most start) (Reached SameBut (list_at size most item next start)) (list_at size most item next start)
          (list_told item Fits next s LeavesNone field told size most start some width number)
          (λ b width p. open_reached item Fits next s LeavesNone size most start opens none b p);
      some = none;
    }
