-- Ranges as words: their parts one by one, cut at their colon, and no two lists of parts with one
-- spelling.
use Rattle.std.proofs.Common.{ℕ, ◌≡◌, ◌≢◌, ◌<◌, ◌≤◌, ◌^◌, ◌+◌, ◌==◌, List, [], ◌∷◌, ◌++◌, cond, ◌⊎◌, inl, inr, length, refl, sym, ap, ◌∙◌, subst, arith, codes, decimal, All}
use Rattle.std.specs.List.{AllByRecursion}
use Rattle.std.proofs.lemmas.Bool.Decides.{eqb_tells}
use Rattle.std.proofs.lemmas.Fmt.{decimal_injective}
use Rattle.std.proofs.lemmas.List.Elements.{All-append, All-cons, All-from_recursion}
use Rattle.hex.specs.Hex.{encode_lower}
use Rattle.pg_base.proofs.Parts.{cut_same, not_cut, decimal-without}
use Rattle.pg_patch.specs.declared.part.Part.{Part}
use Rattle.pg_patch.specs.Parts.{end_of, AreInOrder}
use Rattle.pg_patch.specs.Ranges.{RangesValue, IsRanges, all}
use Rattle.pg_msg.specs.UpdateText.{ArePartBytes, IsPart, keep_word, part_word, parts_word}
use Rattle.pg_words.specs.HexWord.{hex_word}
use Rattle.pg_words.proofs.HexWords.{one_hex_word}
use Rattle.pg_words.proofs.Lacking.{Ends, comma, either, literal, Lacks-hex, Lacks-server}
use Rattle.pg_words.proofs.ListWords.{one_list}
use Rattle.pg_words.proofs.Splitting.{Lacks}
use Rattle.pg_words.proofs.Stamps.{same_server}

each_fits : (from least : ℕ) (ps : List Part) → least < 2 ^ 32 → AreInOrder from ps least → ArePartBytes ps → AllByRecursion IsPart ps
each_fits from least [] lt order bytes = tt
each_fits from least (p ∷ ps) lt order bytes =
    let some = order.1 in
    let ends : p.offset + length p.bytes ≤ least = order.2 in (
      record {
        offset = omega arith;
        holds = record { each = bytes.0; some = some; few = omega arith };
      },
      each_fits (end_of p + 1) least ps lt order.3 bytes.1,
    )

-- ranges have parts that have a spelling
pub ranges_fit : (r : RangesValue) → IsRanges r → ArePartBytes r.parts → AllByRecursion IsPart r.parts
ranges_fit r is bytes = each_fits 0 r.least r.parts is.least is.parts bytes

-- the bytes of such parts are bytes
pub part_bytes : (ps : List Part) → AllByRecursion IsPart ps → ArePartBytes ps
part_bytes [] h = tt
part_bytes (p ∷ ps) h = (h.0.holds.each, part_bytes ps h.1)

pub colon_free : (n : ℕ) → n < 2 ^ 32 → All (λ z. z ≢ 58) (decimal n)
colon_free n lt = decimal-without 58 n (λ r. omega arith) (omega arith)

-- what is cut at the colon of a part is its offset and its bytes
pub part_cut : (word a b : List ℕ) (p : Part) → IsPart p → All (λ z. z ≢ 58) a → word ≡ a ++ 58 ∷ b → word ≡ part_word p → (a ≡ decimal p.offset) × (b ≡ hex_word p.bytes)
part_cut word a b p fits h e f = cut_same 58 a b (decimal p.offset) (hex_word p.bytes) h (colon_free p.offset fits.offset) (sym e ∙ f)

pub part_uncut : (word : List ℕ) (p : Part) → All (λ z. z ≢ 58) word → word ≡ part_word p → ⊥
part_uncut word p h e = not_cut 58 word (decimal p.offset) (hex_word p.bytes) h e

-- bytes, one at least, are no dash
pub some_digits : (bs : List ℕ) → 0 < length bs → hex_word bs ≡ encode_lower bs
some_digits [] h = absurd (omega arith)
some_digits (b ∷ bs) h = refl

pub Lacks-part : (c : ℕ) (p : Part) → Ends c → IsPart p → Lacks c (part_word p)
Lacks-part c p h fits =
    let low = h.low in
    let other : c ≢ 58 = omega arith in
    All-append (λ b. b ≢ c) (decimal p.offset) (58 ∷ hex_word p.bytes) (Lacks-server c p.offset h fits.offset)
    (All-cons (λ b. b ≢ c) 58 (hex_word p.bytes) (λ e. other (sym e)) (Lacks-hex c p.bytes h fits.holds.each))

pub Lacks-keep : (c n : ℕ) → Ends c → n < 2 ^ 32 → Lacks c (keep_word n)
Lacks-keep c n h lt =
    let low = h.low in
    either (Lacks c) (n == all) (codes "all") (decimal n) (literal c (codes "all") (omega arith)) (Lacks-server c n h lt)

part_of_parts : (o : ℕ) (b : List ℕ) (p : ℕ) (d : List ℕ) → o ≡ p → b ≡ d → (let x : Part = record { offset = o; bytes = b } in let y : Part = record { offset = p; bytes = d } in x ≡ y)
part_of_parts o b p d e f = cc

same_part : (a b : Part) → IsPart a → IsPart b → part_word a ≡ part_word b → a ≡ b
same_part a b ha hb e =
    let cut = part_cut (part_word a) (decimal a.offset) (hex_word a.bytes) b hb (colon_free a.offset ha.offset) refl e in
    part_of_parts a.offset a.bytes b.offset b.bytes (same_server a.offset b.offset ha.offset hb.offset cut.0) (one_hex_word a.bytes b.bytes ha.holds.each hb.holds.each cut.1)

no_part : (p : Part) → codes "-" ≡ part_word p → ⊥
no_part p e = part_uncut (codes "-") p (All-from_recursion (λ z. z ≢ 58) (codes "-") (omega arith)) e

pub same_parts : (a b : List Part) → AllByRecursion IsPart a → AllByRecursion IsPart b → parts_word a ≡ parts_word b → a ≡ b
same_parts a b ha hb e = one_list part_word IsPart (λ p h. Lacks-part 44 p comma h) same_part (λ p h. no_part p) a b ha hb e

not_all : (n : ℕ) → n < 2 ^ 32 → codes "all" ≡ decimal n → ⊥
not_all n lt e = not_cut 97 (decimal n) [] (codes "ll") (decimal-without 97 n (λ r. omega arith) (omega arith)) (sym e)

-- whether the number stands for all
pub keep_cases : (n : ℕ) → ((n ≡ all) × (keep_word n ≡ codes "all")) ⊎ ((n ≢ all) × (keep_word n ≡ decimal n))
keep_cases n = elim (eqb_tells n all) [ inl p ↦ inl (p.1, ap (λ t. cond t (codes "all") (decimal n)) p.0) | inr p ↦ inr (p.1, ap (λ t. cond t (codes "all") (decimal n)) p.0) ]

-- where the number that stands for all is written, no other number is
pub no_keep : (word : List ℕ) (n k : ℕ) → n < 2 ^ 32 → n ≡ all → k < 2 ^ 32 → word ≡ decimal n → (word ≡ codes "all" → ⊥) → word ≡ keep_word k → ⊥
no_keep word n k ln is lk e other f = elim (keep_cases k) [
  | inl p ↦ other (f ∙ p.1)
  | inr p ↦ p.0 (same_server k n lk ln (sym p.1 ∙ sym f ∙ e) ∙ is)
]

pub same_keep : (a b : ℕ) → a < 2 ^ 32 → b < 2 ^ 32 → keep_word a ≡ keep_word b → a ≡ b
same_keep a b ha hb e = elim (keep_cases a) [
  | inl p ↦ elim (keep_cases b) [ inl q ↦ p.0 ∙ sym q.0 | inr q ↦ absurd (not_all b hb (sym p.1 ∙ e ∙ q.1)) ]
  | inr p ↦ elim (keep_cases b) [ inl q ↦ absurd (not_all a ha (sym q.1 ∙ sym e ∙ p.1)) | inr q ↦ same_server a b ha hb (sym p.1 ∙ e ∙ q.1) ]
]

pub no_ranges : (word count : List ℕ) (parts : List Part) (least : ℕ) → least < 2 ^ 32 → AllByRecursion IsPart parts → word ≡ parts_word parts → count ≡ decimal least → (AreInOrder 0 parts least → ⊥)
    → (r : RangesValue) → IsRanges r → ArePartBytes r.parts → count ≡ decimal r.least → word ≡ parts_word r.parts → ⊥
no_ranges word count parts least lt each e f none r is bytes g h =
    let same : r.parts ≡ parts = same_parts r.parts parts (ranges_fit r is bytes) each (sym h ∙ e) in
    let low = is.least in
    let ends : r.least ≡ least = decimal_injective r.least least (omega arith) (omega arith) (sym g ∙ f) in
    let P : List Part → Type 0 = λ ps. AreInOrder 0 ps least in
    let Q : ℕ → Type 0 = λ n. AreInOrder 0 r.parts n in
    none (subst P same (subst Q ends is.parts))
