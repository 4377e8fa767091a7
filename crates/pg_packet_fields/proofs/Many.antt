-- A list is a field where each of its items is one behind the item before it.
use Rattle.std.proofs.Common.{◌≡◌, ℕ, zero, suc, ◌+◌, ◌^◌, ◌≤◌, ◌<◌, Bool, true, false, cond, leb, ltb, eqb, List, [], ◌∷◌, ◌++◌, length, Option, Some, None, Ok, Err, refl, sym, ap, subst, ◌∙◌, append_assoc, arith, inl, inr, lt_of_le_of_lt}
use Rattle.std.specs.Prelude.{◌&&◌, ◌||◌}
use Rattle.std.specs.List.{flat_map}
use Rattle.std.proofs.lemmas.Bool.{leb-true, le-leb, ltb-true, lt-ltb, eqb-true, eq-eqb}
use Rattle.std.proofs.lemmas.List.{append-nil, length-append}
use Rattle.std.proofs.lemmas.List.Concat.{flat_map-cons}
use Rattle.pg_base.specs.Stamp.{IsBefore, is_before}
use Rattle.pg_base.specs.declared.stamp.Stamp.{Stamp}
use Rattle.pg_codec.specs.Unread.{Unread}
use Rattle.pg_codec.specs.Spelling.{number_bytes, stamp_bytes}
use Rattle.pg_codec.specs.Reading.{Field, checked, followed_by, number_at, stamp_at}
use Rattle.pg_codec.specs.Laws.{AreBytes, HasStampWidth, HasWidth, IsField, Takes}
use Rattle.pg_codec.proofs.Binding.{bind_ok, both_are, checked_is, ok_is, seen_is, takes_then}
use Rattle.pg_codec.proofs.Ids.{stamp_field}
use Rattle.pg_codec.proofs.Numbers.{short_field}
use Rattle.pg_packet_write.specs.Fields.{listed, stamps_bytes}
use Rattle.pg_packet_fields.specs.Faults.{of_packet}
use Rattle.pg_packet_fields.specs.Lists.{AreListed, AreStamps, Chain, IsLater, count_of, is_later, later_at, later_of, list_at, many, stamps_at, to_last}
use Rattle.pg_packet_fields.specs.declared.error.PacketError.{PacketError}
use Rattle.pg_packet_fields.specs.declared.error.PacketError.TheVariants.{BadTag, TooLong}
use Rattle.pg_packet_fields.proofs.Joining.{packet_is}

-- the items that were read behind those that were there
record Reads {X S : Type 0} (Fits : S → X → Type 0) (next : S → X → S) (s : X → List ℕ) (n : ℕ) (state : S) (done : List X) (from : Unread) (all : List X) (to : Unread) : Type 0 where
  items : List X
  are : all ≡ done ++ items
  count : length items ≡ n
  chain : Chain Fits next state items
  taken : Takes from (flat_map s items) to

many_takes : {X S E : Type 0} (Fits : S → X → Type 0) (next : S → X → S) (s : X → List ℕ) (item : S → Field E X)
    → ((state : S) → IsField (Fits state) s (item state))
    → (n : ℕ) (state : S) (done : List X) (from : Unread) (x : List X × Unread) → AreBytes from.rest
    → many item next n state done from ≡ Ok x → Reads Fits next s n state done from x.0 x.1
unfolding many
many_takes {X = X} {S = S} {E = E} Fits next s item field zero state done from x bytes e =
    let made : List X × Unread = (done, from) in
    let none : Takes from [] from = record { parts = refl; place = omega arith; width = bytes } in
    subst (λ (y : List X × Unread). Reads Fits next s zero state done from y.0 y.1) (ok_is E made x e)
    (record { items = []; are = sym (append-nil done); count = refl; chain = tt; taken = none })
many_takes {X = X} {S = S} {E = E} Fits next s item field (suc n) state done from x bytes e =
    let a = bind_ok (item state from) (λ x. many item next n (next state x.0) (done ++ x.0 ∷ []) x.1) x e in
    let t = (field state).takes from a.0 bytes a.1 in
    let r = many_takes Fits next s item field n (next state a.0.0) (done ++ a.0.0 ∷ []) a.0.1 x t.1.width a.2 in
    let both : Takes from (s a.0.0 ++ flat_map s r.items) x.1 = takes_then from (s a.0.0) a.0.1 (flat_map s r.items) x.1 t.1 r.taken in
    record {
      items = a.0.0 ∷ r.items;
      are = r.are ∙ append_assoc done (a.0.0 ∷ []) r.items;
      count = ap suc r.count;
      chain = (t.0, r.chain);
      taken = subst (λ (b : List ℕ). Takes from b x.1) (sym (flat_map-cons s a.0.0 r.items)) both;
    }

many_again : {X S E : Type 0} (Fits : S → X → Type 0) (next : S → X → S) (s : X → List ℕ) (item : S → Field E X)
    → ((state : S) → IsField (Fits state) s (item state))
    → (xs : List X) (state : S) (done : List X) (place : ℕ) (rest : List ℕ) → Chain Fits next state xs
    → many item next (length xs) state done (record { place = place; rest = flat_map s xs ++ rest })
    ≡ Ok (done ++ xs, record { place = place + length (flat_map s xs); rest = rest })
unfolding many
many_again Fits next s item field [] state done place rest chain =
    let same : done ≡ done ++ [] = sym (append-nil done) in
    let here : place ≡ place + 0 = omega arith in
    ap (λ (d : List _). Ok (d, record { place = place; rest = rest })) same ∙ ap (λ (p : ℕ). Ok (done ++ [], record { place = p; rest = rest })) here
many_again {X = X} {S = S} {E = E} Fits next s item field (x ∷ xs) state done place rest chain =
    let after : ℕ → Unread = λ (p : ℕ). record { place = p; rest = rest } in
    let one = (field state).again x place (flat_map s xs ++ rest) chain.0 in
    let two = many_again Fits next s item field xs (next state x) (done ++ x ∷ []) (place + length (s x)) rest chain.1 in
    let grouped : flat_map s (x ∷ xs) ++ rest ≡ s x ++ (flat_map s xs ++ rest) = ap (λ (b : List ℕ). b ++ rest) (flat_map-cons s x xs) ∙ append_assoc (s x) (flat_map s xs) rest in
    let long = ap length (flat_map-cons s x xs) in
    let far : place + length (s x) + length (flat_map s xs) ≡ place + length (flat_map s (x ∷ xs)) = omega (arith, long, length-append (s x) (flat_map s xs)) in
    let joined : many item next (suc (length xs)) state done (record { place = place; rest = s x ++ (flat_map s xs ++ rest) }) ≡ Ok ((done ++ x ∷ []) ++ xs, after (place + length (s x) + length (flat_map s xs))) = rw one two in
    ap (λ (b : List ℕ). many item next (suc (length xs)) state done (record { place = place; rest = b })) grouped ∙ joined
    ∙ ap (λ (d : List X). Ok (d, after (place + length (s x) + length (flat_map s xs)))) (append_assoc done (x ∷ []) xs)
    ∙ ap (λ (p : ℕ). Ok (done ++ x ∷ xs, after p)) far

-- so many items in a row
pub record IsRow {X S : Type 0} (Fits : S → X → Type 0) (next : S → X → S) (start : S) (n : ℕ) (xs : List X) : Type 0 where
  pub count : length xs ≡ n
  pub chain : Chain Fits next start xs

pub many_is : {X S E : Type 0} (Fits : S → X → Type 0) (next : S → X → S) (s : X → List ℕ) (item : S → Field E X)
    → ((state : S) → IsField (Fits state) s (item state))
    → (start : S) (n : ℕ) → IsField (IsRow Fits next start n) (flat_map s) (many item next n start [])
many_is {X = X} {S = S} {E = E} Fits next s item field start n = record {
  takes = λ from x bytes e.
      let r = many_takes Fits next s item field n start [] from x bytes e in
      subst (λ (xs : List X). IsRow Fits next start n xs × Takes from (flat_map s xs) x.1) (sym r.are) (record { count = r.count; chain = r.chain }, r.taken);
  again = λ xs place rest fits.
      let read = many_again Fits next s item field xs start [] place rest fits.chain in
      subst (λ (k : ℕ). many item next k start [] (record { place = place; rest = flat_map s xs ++ rest }) ≡ Ok (xs, record { place = place + length (flat_map s xs); rest = rest })) fits.count read;
}

count_case : (t : Bool) (most place n k : ℕ) → leb n most ≡ t → cond t (Ok n) (Err (TooLong place)) ≡ Ok k → (k ≤ most) × (k ≡ n)
count_case true most place n k test e =
    let same : n ≡ k = ok_is PacketError n k e in
    let few = leb-true n most test in
    (omega (arith, same, few), sym same)
count_case false most place n k test e = absurd cc

-- a count up to the most, of so many bytes
pub count_field : (size most : ℕ) → most < 256 ^ size → IsField (HasWidth size) (number_bytes size) (of_packet (number_at size))
    → IsField (λ n. n ≤ most) (number_bytes size) (checked (count_of most) (of_packet (number_at size)))
count_field size most width field = checked_is (count_of most) (HasWidth size) (number_bytes size) (of_packet (number_at size)) (λ n. n ≤ most) (number_bytes size)
    (λ place n k fits e. let both = count_case (leb n most) most place n k refl e in (both.0, ap (number_bytes size) both.1))
    (λ k few. (k, lt_of_le_of_lt few width, λ place. let test : leb k most ≡ true = le-leb k most few in rw test refl)) field

abbrev row_view : {X : Type 0} → ℕ × List X → List X
row_view x = x.1

list_to : {X S : Type 0} (Fits : S → X → Type 0) (next : S → X → S) (s : X → List ℕ) (size most : ℕ) (start : S) (n : ℕ) (xs : List X)
    → n ≤ most → IsRow Fits next start n xs
    → AreListed most Fits next start xs × (listed size s xs ≡ number_bytes size n ++ flat_map s xs)
unfolding listed
list_to Fits next s size most start n xs few row =
    let same = row.count in
    (record { few = omega (arith, few, same); chain = row.chain }, ap (λ (k : ℕ). number_bytes size k ++ flat_map s xs) same)

-- A count and so many items.
pub list_is : {X S : Type 0} (Fits : S → X → Type 0) (next : S → X → S) (s : X → List ℕ) (item : S → Field PacketError X)
    → ((state : S) → IsField (Fits state) s (item state))
    → (size most : ℕ) (start : S) → most < 256 ^ size → IsField (HasWidth size) (number_bytes size) (of_packet (number_at size))
    → IsField (AreListed most Fits next start) (listed size s) (list_at size most item next start)
list_is {X = X} Fits next s item field size most start width number = seen_is row_view (λ (x : ℕ × List X). (x.0 ≤ most) × IsRow Fits next start x.0 x.1) (λ x. number_bytes size x.0 ++ flat_map s x.1)
    (followed_by (checked (count_of most) (of_packet (number_at size))) (λ count. many item next count start [])) (AreListed most Fits next start) (listed size s)
    (λ x fits. list_to Fits next s size most start x.0 x.1 fits.0 fits.1)
    (λ xs fits. ((length xs, xs), (fits.few, record { count = refl; chain = fits.chain }), refl))
    (both_are (λ n. n ≤ most) (number_bytes size) (checked (count_of most) (of_packet (number_at size))) (IsRow Fits next start) (λ n. flat_map s) (λ count. many item next count start []) (count_field size most width number)
    (λ n _. many_is Fits next s item field start n))

before_case : (t u v : Bool) (a b : Stamp) → ltb a.time b.time ≡ t → eqb a.time b.time ≡ u → ltb a.server b.server ≡ v
    → (t || (u && v)) ≡ true → IsBefore a b
before_case true u v a b p q r e = inl (ltb-true _ _ p)
before_case false true true a b p q r e = inr (eqb-true _ _ q, ltb-true _ _ r)
before_case false true false a b p q r e = absurd cc
before_case false false v a b p q r e = absurd cc

before_is : (a b : Stamp) → is_before a b ≡ true → IsBefore a b
before_is a b e = before_case (ltb a.time b.time) (eqb a.time b.time) (ltb a.server b.server) a b refl refl refl e

either : (t : Bool) → (t || true) ≡ true
either true = refl
either false = refl

is_before_is : (a b : Stamp) → IsBefore a b → is_before a b ≡ true
is_before_is a b (inl lt) = let one : ltb a.time b.time ≡ true = lt-ltb _ _ lt in rw one refl
is_before_is a b (inr both) =
    let same : eqb a.time b.time ≡ true = eq-eqb _ _ both.0 in
    let less : ltb a.server b.server ≡ true = lt-ltb _ _ both.1 in
    rw (same, less) (either (ltb a.time b.time))

later_case : (t : Bool) (last : Option Stamp) (place : ℕ) (a b : Stamp) → HasStampWidth a → is_later last a ≡ t
    → cond t (Ok a) (Err (BadTag place)) ≡ Ok b → IsLater last b × (stamp_bytes b ≡ stamp_bytes a)
later_case true None place a b width test e =
    subst (λ (x : Stamp). IsLater None x × (stamp_bytes x ≡ stamp_bytes a)) (ok_is PacketError a b e) (width, refl)
later_case true (Some last) place a b width test e =
    subst (λ (x : Stamp). IsLater (Some last) x × (stamp_bytes x ≡ stamp_bytes a)) (ok_is PacketError a b e) ((before_is last a test, width), refl)
later_case false last place a b width test e = absurd cc

later_back : (last : Option Stamp) (s : Stamp) → IsLater last s → HasStampWidth s × ((place : ℕ) → later_of last place s ≡ Ok s)
later_back None s fits = (fits, λ place. refl)
later_back (Some last) s fits = (fits.1, λ place. let test : is_before last s ≡ true = is_before_is last s fits.0 in rw test refl)

later_field : (last : Option Stamp) → IsField (IsLater last) stamp_bytes (later_at last)
unfolding later_at
later_field last = checked_is (later_of last) HasStampWidth stamp_bytes (of_packet stamp_at) (IsLater last) stamp_bytes
    (λ place a b fits e. later_case (is_later last a) last place a b fits refl e)
    (λ s fits. let b = later_back last s fits in (s, b.0, b.1)) (packet_is HasStampWidth stamp_bytes stamp_at stamp_field)

pub stamps_field : IsField AreStamps stamps_bytes stamps_at
unfolding stamps_at stamps_bytes
stamps_field = list_is IsLater to_last stamp_bytes later_at later_field 2 256 None (omega arith) (packet_is (HasWidth 2) (number_bytes 2) (number_at 2) short_field)
