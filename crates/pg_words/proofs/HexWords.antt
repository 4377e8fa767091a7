-- Words of hexadecimal digits.
use Rattle.std.proofs.Common.{ℕ, ◌≡◌, ◌<◌, ◌≤◌, ◌*◌, ◌+◌, List, [], ◌∷◌, length, Option, Some, None, IfSome, IfNone, Result, Ok, refl, ap, ◌∙◌, sym, subst, arith, zero, suc, ◌++◌, ◌/◌, ◌%◌, slice_index, All, inl, inr, codes, append_assoc, length-append, length-drop, get_or, take, take_all, drop, ◌-◌}
use Rattle.std.specs.List.{AllByRecursion}
use Rattle.std.specs.Str.{IsAscii}
use Rattle.std.proofs.lemmas.List.{append-nil}
use Rattle.std.proofs.lemmas.List.Elements.{All-cons, All-nil, All-head, All-tail, All-get_or, All-from_recursion}
use Rattle.hex.specs.Hex.{encode_lower, encode_with, decode_of, IsBytes, lower_digits}
use Rattle.hex.proofs.HexLemmas.{decode_of-encode_lower, length-encode_with, IsAscii-encode_with}
use Rattle.pg_words.specs.HexWord.{hex_word, AreAtMost, AreBytes, AreEncoded, IsLowerDigit}

pub length-encode : (bs : List ℕ) → length (encode_lower bs) ≡ 2 * length bs
length-encode bs = length-encode_with lower_digits bs

ascii : (xs : List ℕ) → AllByRecursion (λ x. x < 128) xs → IsAscii xs
ascii [] h i = omega arith
ascii (x ∷ xs) h zero = h.0
ascii (x ∷ xs) h (suc i) = ascii xs h.1 i

pub IsAscii-encode : (bs : List ℕ) → IsAscii (encode_lower bs)
IsAscii-encode bs = IsAscii-encode_with lower_digits bs (ascii lower_digits (omega arith))

pub encode-nil : [] ≡ encode_lower []
unfolding encode_with
encode-nil = refl

-- the digits of joined bytes are their digits joined
pub encode-append : (xs ys : List ℕ) → encode_lower (xs ++ ys) ≡ encode_lower xs ++ encode_lower ys
unfolding encode_with
encode-append [] ys = refl
encode-append (x ∷ xs) ys = ap (λ ds. slice_index lower_digits (x / 16) ∷ slice_index lower_digits (x % 16) ∷ ds) (encode-append xs ys)

pub hex_word-not_empty : (bs : List ℕ) → 0 < length (hex_word bs)
hex_word-not_empty [] = omega arith
hex_word-not_empty (b ∷ bs) = let e = length-encode (b ∷ bs) in omega arith

pub few_digits : (bs : List ℕ) → length bs ≤ 32768 → length (hex_word bs) ≤ 65536
few_digits [] h = omega arith
few_digits (b ∷ bs) h = let e = length-encode (b ∷ bs) in omega arith

pub IsBytes-from_all : (xs : List ℕ) → AllByRecursion (λ x. x < 256) xs → IsBytes xs
IsBytes-from_all [] h i = omega arith
IsBytes-from_all (x ∷ xs) h zero = h.0
IsBytes-from_all (x ∷ xs) h (suc i) = IsBytes-from_all xs h.1 i

-- what is encoded has digits in lower case

lower_table : AllByRecursion IsLowerDigit lower_digits
lower_table = (inl (omega arith, omega arith), (inl (omega arith, omega arith), (inl (omega arith, omega arith), (inl (omega arith, omega arith), (inl (omega arith, omega arith), (inl (omega arith, omega arith), (inl (omega arith, omega arith), (inl (omega arith, omega arith), (inl (omega arith, omega arith), (inl (omega arith, omega arith), (inr (omega arith, omega arith), (inr (omega arith, omega arith), (inr (omega arith, omega arith), (inr (omega arith, omega arith), (inr (omega arith, omega arith), (inr (omega arith, omega arith), tt))))))))))))))))

digit_lower : (d : ℕ) → d < 16 → IsLowerDigit (slice_index lower_digits d)
digit_lower d lt = All-get_or IsLowerDigit lower_digits d 0 lt (All-from_recursion IsLowerDigit lower_digits lower_table)

pub encode_each : (bs : List ℕ) → AllByRecursion (λ b. b < 256) bs → All IsLowerDigit (encode_lower bs)
unfolding encode_with
encode_each [] h = All-nil IsLowerDigit
encode_each (b ∷ bs) h =
    let lt = h.0 in
    All-cons IsLowerDigit (slice_index lower_digits (b / 16)) (slice_index lower_digits (b % 16) ∷ encode_lower bs) (digit_lower (b / 16) (omega arith))
    (All-cons IsLowerDigit (slice_index lower_digits (b % 16)) (encode_lower bs) (digit_lower (b % 16) (omega arith)) (encode_each bs h.1))

-- as many pairs as bytes
pub few_pairs : (word bytes : List ℕ) (most : ℕ) → AreBytes most bytes → word ≡ encode_lower bytes → length word / 2 ≤ most
few_pairs word bytes most h e =
    let few = h.few in
    let twice = length-encode bytes in
    let same = ap length e in
    omega arith

-- what pairs of digits decode to is encoded as the word

All-behind : (xs ys : List ℕ) → All IsLowerDigit (xs ++ ys) → All IsLowerDigit ys
All-behind [] ys h = h
All-behind (x ∷ xs) ys h = All-behind xs ys (All-tail IsLowerDigit x (xs ++ ys) h)

high_of : (h l : ℕ) → l < 16 → (h * 16 + l) / 16 ≡ h
high_of h l lt = omega arith

low_of : (h l : ℕ) → l < 16 → (h * 16 + l) % 16 ≡ l
low_of h l lt = omega arith

-- two digits are those of the byte that they make
pub byte_digits : (h l high low : ℕ) → l < 16 → slice_index lower_digits h ≡ high → slice_index lower_digits l ≡ low → encode_lower ((h * 16 + l) ∷ []) ≡ high ∷ low ∷ []
unfolding encode_with
byte_digits h l high low lt eh el =
    ap (λ n. slice_index lower_digits n ∷ slice_index lower_digits ((h * 16 + l) % 16) ∷ []) (high_of h l lt)
    ∙ ap (λ n. slice_index lower_digits h ∷ slice_index lower_digits n ∷ []) (low_of h l lt)
    ∙ ap (λ x. x ∷ slice_index lower_digits l ∷ []) eh ∙ ap (λ y. high ∷ y ∷ []) el

-- at the start nothing is read
pub none_read : (word bytes : List ℕ) → bytes ≡ [] → AllByRecursion (λ b. b < 256) bytes × (word ≡ encode_lower bytes ++ word)
none_read word bytes e =
    let P : List ℕ → Type 0 = AllByRecursion (λ b. b < 256) in
    (subst P (sym e) tt, ap (λ d. d ++ word) encode-nil ∙ ap (λ b. encode_lower b ++ word) (sym e))

front_pair : (rest : List ℕ) → 2 ≤ length rest → rest ≡ get_or rest 0 0 ∷ get_or rest 1 0 ∷ drop 2 rest
front_pair [] h = absurd (omega arith)
front_pair (a ∷ []) h = absurd (omega arith)
front_pair (a ∷ b ∷ rest) h = refl

each_more : (bytes : List ℕ) (byte : ℕ) → AllByRecursion (λ b. b < 256) bytes → byte < 256 → AllByRecursion (λ b. b < 256) (bytes ++ byte ∷ [])
each_more [] byte h lt = (lt, tt)
each_more (b ∷ bytes) byte h lt = (h.0, each_more bytes byte h.1 lt)

-- two digits more are one byte more
pub two_read : (word bytes rest new : List ℕ) (byte : ℕ) → 2 ≤ length rest → byte < 256 → AllByRecursion (λ b. b < 256) bytes → word ≡ encode_lower bytes ++ rest
    → encode_lower (byte ∷ []) ≡ get_or rest 0 0 ∷ get_or rest 1 0 ∷ [] → new ≡ bytes ++ byte ∷ []
    → AllByRecursion (λ b. b < 256) new × (word ≡ encode_lower new ++ take (length rest - 2) (drop 2 rest))
two_read word bytes rest new byte some lt each so_far digits pushed =
    let P : List ℕ → Type 0 = AllByRecursion (λ b. b < 256) in
    let more = drop 2 rest in
    let long = length-drop 2 rest in (
      subst P (sym pushed) (each_more bytes byte each lt),
      so_far
          ∙ ap (λ r. encode_lower bytes ++ r) (front_pair rest some ∙ ap (λ ds. ds ++ more) (sym digits))
          ∙ sym (append_assoc (encode_lower bytes) (encode_lower (byte ∷ [])) more)
          ∙ ap (λ ds. ds ++ more) (sym (encode-append bytes (byte ∷ [])))
          ∙ ap (λ b. encode_lower b ++ more) (sym pushed)
          ∙ ap (λ d. encode_lower new ++ d) (sym (take_all (length rest - 2) more (omega arith))),
    )

-- digits that spell bytes are digits in lower case, and none of them is left over
pub no_digits : (word bytes rest digits : List ℕ) → 2 ≤ length rest → word ≡ encode_lower bytes ++ rest
    → (IsLowerDigit (get_or rest 0 0) → IsLowerDigit (get_or rest 1 0) → ⊥) → AreEncoded digits word → ⊥
no_digits word bytes rest digits some so_far other is =
    let P : List ℕ → Type 0 = All IsLowerDigit in
    let high = get_or rest 0 0 in
    let low = get_or rest 1 0 in
    let more = drop 2 rest in
    let each = subst P (sym is.spelled ∙ so_far ∙ ap (λ r. encode_lower bytes ++ r) (front_pair rest some)) (encode_each digits is.each) in
    let behind = All-behind (encode_lower bytes) (high ∷ low ∷ more) each in
    other (All-head IsLowerDigit high (low ∷ more) behind) (All-head IsLowerDigit low more (All-tail IsLowerDigit high (low ∷ more) behind))

pub no_half : (word bytes rest digits : List ℕ) → word ≡ encode_lower bytes ++ rest → 0 < length rest → length rest < 2 → AreEncoded digits word → ⊥
no_half word bytes rest digits so_far some few is =
    let e = ap length (sym is.spelled ∙ so_far) in
    omega (arith, length-append (encode_lower bytes) rest, length-encode bytes, length-encode digits)

-- all digits are read
pub all_read : (word bytes rest : List ℕ) → AllByRecursion (λ b. b < 256) bytes → word ≡ encode_lower bytes ++ rest → length rest ≡ 0 → AreEncoded bytes word
all_read word bytes [] each so_far end = record { each = each; spelled = so_far ∙ append-nil (encode_lower bytes) }
all_read word bytes (x ∷ xs) each so_far end = absurd (omega arith)

pub encoded_bytes : (word bytes : List ℕ) (most : ℕ) → AreEncoded bytes word → 0 < length word → length word / 2 ≤ most → AreBytes most bytes × (word ≡ encode_lower bytes)
encoded_bytes word bytes most is some few =
    let e = ap length is.spelled in
    let twice = length-encode bytes in
    (record { each = is.each; some = omega arith; few = omega arith }, is.spelled)

pub some_digits : (word bytes : List ℕ) (most : ℕ) → AreBytes most bytes → word ≡ encode_lower bytes → length word ≡ 0 → ⊥
some_digits word bytes most are e none = let some = are.some in let same = ap length e in omega (arith, length-encode bytes)

ok_same : {E : Type 0} (a b : List ℕ) → ◌≡◌ {A = Result (List ℕ) E} (Ok a) (Ok b) → a ≡ b
ok_same {E} a b e = cc

not_dash : (b : ℕ) (bs : List ℕ) → codes "-" ≡ encode_lower (b ∷ bs) → ⊥
not_dash b bs e = let n = ap length e in let m = length-encode (b ∷ bs) in omega arith

-- no two lists of bytes have one word
pub one_hex_word : (a b : List ℕ) → AllByRecursion (λ x. x < 256) a → AllByRecursion (λ x. x < 256) b → hex_word a ≡ hex_word b → a ≡ b
one_hex_word [] [] ha hb e = refl
one_hex_word [] (y ∷ ys) ha hb e = absurd (not_dash y ys e)
one_hex_word (x ∷ xs) [] ha hb e = absurd (not_dash x xs (sym e))
one_hex_word (x ∷ xs) (y ∷ ys) ha hb e =
    let left = decode_of-encode_lower (x ∷ xs) (IsBytes-from_all (x ∷ xs) ha) in
    let right = decode_of-encode_lower (y ∷ ys) (IsBytes-from_all (y ∷ ys) hb) in
    ok_same (x ∷ xs) (y ∷ ys) (sym left ∙ ap decode_of e ∙ right)

-- the word of some bytes, or a dash

pub word_found : (most : ℕ) (word : List ℕ) (o : Option (List ℕ)) → IfSome o (λ b. AreBytes most b × (word ≡ encode_lower b)) → IfSome o (λ b. AreAtMost most b × (word ≡ hex_word b))
word_found most word None h = tt
word_found most word (Some []) h = let s = h.0.some in absurd (omega arith)
word_found most word (Some (x ∷ xs)) h = (record { each = h.0.each; few = h.0.few }, h.1)

no_word : (most : ℕ) (word : List ℕ) → (word ≡ codes "-" → ⊥) → ((b : List ℕ) → AreBytes most b → word ≡ encode_lower b → ⊥) → (b : List ℕ) → AreAtMost most b → word ≡ hex_word b → ⊥
no_word most word other h [] fits e = other e
no_word most word other h (x ∷ xs) fits e = h (x ∷ xs) (record { each = fits.each; some = omega arith; few = fits.few }) e

pub word_none : (most : ℕ) (word : List ℕ) (o : Option (List ℕ)) → (word ≡ codes "-" → ⊥) → IfNone o ((b : List ℕ) → AreBytes most b → word ≡ encode_lower b → ⊥)
    → IfNone o ((b : List ℕ) → AreAtMost most b → word ≡ hex_word b → ⊥)
word_none most word (Some x) other h = tt
word_none most word None other h = no_word most word other h
