-- Lists behind their counts: where one is read in part, items stand there in their order, and maybe the beginning of one more.
use Rattle.std.proofs.Common.{◌≡◌, ℕ, zero, suc, ◌+◌, ◌^◌, ◌<◌, ◌≤◌, ◌⊎◌, inl, inr, List, [], ◌∷◌, ◌++◌, length, refl, sym, ap, subst, ◌∙◌, append_assoc, arith}
use Rattle.std.specs.Prelude.{nat_le}
use Rattle.std.specs.List.{flat_map}
use Rattle.std.proofs.lemmas.List.{append-nil}
use Rattle.std.proofs.lemmas.List.Concat.{flat_map-cons}
use Rattle.pg_codec.specs.Reading.{Field, followed_by, seen_as, checked, number_at}
use Rattle.pg_codec.specs.Laws.{AreBytes, HasWidth, IsField}
use Rattle.pg_codec.specs.Spelling.{number_bytes}
use Rattle.pg_packet_fields.specs.Faults.{of_packet}
use Rattle.pg_packet_fields.specs.Lists.{AreListed, Chain, count_of, list_at, many}
use Rattle.pg_packet_fields.specs.declared.error.PacketError.{PacketError}
use Rattle.pg_packet_fields.proofs.Many.{count_field, list_is}
use Rattle.pg_packet_write.specs.Fields.{listed}
use Rattle.law_packets.specs.Lists.{Begins, IsOpen, after}
use Rattle.law_packets.proofs.Atoms.{Nothing, number_width}
use Rattle.law_packets.proofs.Checks.{most_check}
use Rattle.law_packets.proofs.Plain.{checked_number}
use Rattle.law_packets.proofs.Sure.{alone_told}
use Rattle.law_packets.proofs.Telling.{IsTold, Reads, Starts, bound_told, bytes_back, bytes_front, bytes_join, pair, reads_field, seen_told}

-- ---- one item behind another

-- nothing of an item, its beginning, or what leaves none
abbrev pub Inner : {X : Type 0} → Field PacketError X → (List ℕ → Type 0) → List ℕ → Type 0
Inner read LeavesNone b = (b ≡ []) ⊎ (Starts read b ⊎ LeavesNone b)

abbrev pub Within : {X S : Type 0} → (S → Field PacketError X) → (S → X → Type 0) → (S → X → S) → (X → List ℕ) → (S → List ℕ → Type 0) → ℕ → S → List ℕ → Type 0
Within {X = X} item Fits next s LeavesNone n state b =
    (items : List X) × (part : List ℕ) × (b ≡ flat_map s items ++ part) × (length items < n) × Chain Fits next state items
    × Inner (item (after next state items)) (LeavesNone (after next state items)) part

one_more : {X S : Type 0} (item : S → Field PacketError X) (Fits : S → X → Type 0) (next : S → X → S) (s : X → List ℕ) (LeavesNone : S → List ℕ → Type 0)
    → ((state : S) → IsField (Fits state) s (item state))
    → (n : ℕ) (state : S) (x : X) (text b : List ℕ) → AreBytes (text ++ b) → Reads (item state) text x
    → Within item Fits next s LeavesNone n (next state x) b → Within item Fits next s LeavesNone (suc n) state (text ++ b)
one_more item Fits next s LeavesNone field n state x text b width reads w =
    let r = reads_field (Fits state) s (item state) (field state) text x (bytes_front text b width) reads in
    let grouped : flat_map s (x ∷ w.0) ++ w.1 ≡ s x ++ (flat_map s w.0 ++ w.1) = ap (λ (t : List ℕ). t ++ w.1) (flat_map-cons s x w.0) ∙ append_assoc (s x) (flat_map s w.0) w.1 in
    let all : text ++ b ≡ flat_map s (x ∷ w.0) ++ w.1 = ap (λ (t : List ℕ). t ++ b) r.1 ∙ ap (λ (t : List ℕ). s x ++ t) w.2 ∙ sym grouped in
    let fewer = w.3 in
    (x ∷ w.0, w.1, all, omega (arith, fewer), (r.0, w.4), w.5)

many_told : {X S : Type 0} (item : S → Field PacketError X) (Fits : S → X → Type 0) (next : S → X → S) (s : X → List ℕ) (LeavesNone : S → List ℕ → Type 0)
    → ((state : S) → IsField (Fits state) s (item state)) → ((state : S) → IsTold (Inner (item state) (LeavesNone state)) (item state))
    → (n : ℕ) (state : S) (done : List X) → IsTold (Within item Fits next s LeavesNone n state) (many item next n state done)
unfolding many
many_told {X = X} item Fits next s LeavesNone field told zero state done = alone_told (Within item Fits next s LeavesNone zero state) done
many_told {X = X} item Fits next s LeavesNone field told (suc n) state done =
    bound_told (Inner (item state) (LeavesNone state)) (Within item Fits next s LeavesNone (suc n) state) (λ x. Within item Fits next s LeavesNone n (next state x)) (item state) (λ x. many item next n (next state x) (done ++ x ∷ []))
    (told state) (λ x. many_told item Fits next s LeavesNone field told n (next state x) (done ++ x ∷ []))
    (λ b width inner. ([], b, refl, omega arith, tt, inner))
    (λ x text b width reads w. one_more item Fits next s LeavesNone field n state x text b width reads w)

-- ---- lists

starts_none : {X : Type 0} (read : Field PacketError X) (b : List ℕ) → Starts read b → Starts read []
starts_none {X = X} read b s =
    let value : X = s.value in
    record { value = value; more = b ++ s.more; width = s.width; reads = s.reads }

inner_spelled : {X : Type 0} (Fits : X → Type 0) (s : X → List ℕ) (read : Field PacketError X) (N : List ℕ → Type 0) → IsField Fits s read → (b : List ℕ)
    → Inner read N b → (b ≡ []) ⊎ (Begins Fits s b ⊎ N b)
inner_spelled Fits s read N field b (inl none) = inl none
inner_spelled Fits s read N field b (inr (inl starts)) =
    let r = reads_field Fits s read field (b ++ starts.more) starts.value starts.width starts.reads in
    inr (inl (record { value = starts.value; more = starts.more; fits = r.0; spelled = sym r.1 }))
inner_spelled Fits s read N field b (inr (inr none)) = inr (inr none)

list_starts : {X S : Type 0} (item : S → Field PacketError X) (Fits : S → X → Type 0) (next : S → X → S) (s : X → List ℕ) → ((state : S) → IsField (Fits state) s (item state))
    → (size most : ℕ) (start : S) → most < 256 ^ size → IsField (HasWidth size) (number_bytes size) (of_packet (number_at size))
    → (items : List X) → AreListed most Fits next start items → AreBytes (flat_map s items) → Starts (list_at size most item next start) (listed size s items)
unfolding listed
list_starts {X = X} item Fits next s field size most start width number items fits bytes =
    let read : Field PacketError (List X) = list_at size most item next start in
    let text = listed size s items in
    let all : AreBytes text = bytes_join (number_bytes size (length items)) (flat_map s items) (number_width size (length items)) bytes in
    let reads : Reads read text items = λ place rest. (list_is Fits next s item field size most start width number).again items place rest fits in
    record {
      value = items;
      more = [];
      width = subst AreBytes (sym (append-nil text)) all;
      reads = subst (λ (t : List ℕ). Reads read t items) (sym (append-nil text)) reads;
    }

-- nothing of a list, or one that is open, and what is read for it
abbrev pub OpenList : {X S : Type 0} → (S → Field PacketError X) → (S → X → Type 0) → (S → X → S) → (X → List ℕ) → (S → List ℕ → Type 0) → ℕ → ℕ → S → List ℕ → Type 0
OpenList item Fits next s LeavesNone size most start b =
    (b ≡ []) ⊎ ((whole : List ℕ) × IsOpen size most Fits next start s LeavesNone whole b × Starts (list_at size most item next start) whole)

list_open : {X S : Type 0} (item : S → Field PacketError X) (Fits : S → X → Type 0) (next : S → X → S) (s : X → List ℕ) (LeavesNone : S → List ℕ → Type 0)
    → ((state : S) → IsField (Fits state) s (item state))
    → (size most : ℕ) (start : S) → most < 256 ^ size → IsField (HasWidth size) (number_bytes size) (of_packet (number_at size))
    → (count : ℕ) (text b : List ℕ) → AreBytes (text ++ b) → Reads (checked (count_of most) (of_packet (number_at size))) text count
    → Within item Fits next s LeavesNone count start b → OpenList item Fits next s LeavesNone size most start (text ++ b)
list_open item Fits next s LeavesNone field size most start width number count text b bytes reads w =
    let r = reads_field (λ n. n ≤ most) (number_bytes size) (checked (count_of most) (of_packet (number_at size))) (count_field size most width number) text count (bytes_front text b bytes) reads in
    let all : text ++ b ≡ number_bytes size count ++ (flat_map s w.0 ++ w.1) = ap (λ (t : List ℕ). t ++ b) r.1 ∙ ap (λ (t : List ℕ). number_bytes size count ++ t) w.2 in
    let few = r.0 in
    let fewer = w.3 in
    let inside : AreBytes (flat_map s w.0) = bytes_front (flat_map s w.0) w.1 (subst AreBytes w.2 (bytes_back text b bytes)) in
    inr (
      listed size s w.0,
      record {
        items = w.0;
        count = count;
        part = w.1;
        fewer = w.3;
        few = r.0;
        chain = w.4;
        is_whole = refl;
        is_open = all;
        within = inner_spelled (Fits (after next start w.0)) s (item (after next start w.0)) (LeavesNone (after next start w.0)) (field (after next start w.0)) w.1 w.5;
      },
      list_starts item Fits next s field size most start width number w.0 (record { few = omega (arith, few, fewer); chain = w.4 }) inside,
    )

pub list_told : {X S : Type 0} (item : S → Field PacketError X) (Fits : S → X → Type 0) (next : S → X → S) (s : X → List ℕ) (LeavesNone : S → List ℕ → Type 0)
    → ((state : S) → IsField (Fits state) s (item state)) → ((state : S) → IsTold (Inner (item state) (LeavesNone state)) (item state))
    → (size most : ℕ) (start : S) → 0 < size → most < 256 ^ size → IsField (HasWidth size) (number_bytes size) (of_packet (number_at size))
    → IsTold (OpenList item Fits next s LeavesNone size most start) (list_at size most item next start)
list_told {X = X} item Fits next s LeavesNone field told size most start some width number =
    let Open : List ℕ → Type 0 = OpenList item Fits next s LeavesNone size most start in
    let count_at : Field PacketError ℕ = checked (count_of most) (of_packet (number_at size)) in
    let rows : ℕ → Field PacketError (List X) = λ count. many item next count start [] in
    seen_told Open (λ (x : ℕ × List X). x.1) (followed_by count_at rows)
    (bound_told Nothing Open (λ count. Within item Fits next s LeavesNone count start) count_at (λ count. seen_as (pair count) (rows count))
    (checked_number size (count_of most) some (most_check (λ n. nat_le n most)))
    (λ count. seen_told (Within item Fits next s LeavesNone count start) (pair count) (rows count) (many_told item Fits next s LeavesNone field told count start []))
    (λ b bytes none. inl none)
    (list_open item Fits next s LeavesNone field size most start width number))

pub list_none : {X S : Type 0} (item : S → Field PacketError X) (Fits : S → X → Type 0) (next : S → X → S) (s : X → List ℕ) → ((state : S) → IsField (Fits state) s (item state))
    → (size most : ℕ) (start : S) → most < 256 ^ size → IsField (HasWidth size) (number_bytes size) (of_packet (number_at size)) → Starts (list_at size most item next start) []
list_none item Fits next s field size most start width number =
    starts_none (list_at size most item next start) (listed size s []) (list_starts item Fits next s field size most start width number [] (record { few = omega arith; chain = tt }) (λ i. omega arith))
