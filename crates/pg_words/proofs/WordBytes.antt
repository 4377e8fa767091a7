-- The bytes of words: how many there are, and that each is printable and no space.
use Rattle.std.proofs.Common.{ℕ, ◌≡◌, ◌≢◌, ◌<◌, ◌≤◌, ◌^◌, List, [], ◌∷◌, length, arith, codes, decimal, All, inl, inr, length-append}
use Rattle.std.specs.List.{AllByRecursion}
use Rattle.std.proofs.lemmas.Fmt.{digits_decimal, length-decimal-le, decimal_nonempty}
use Rattle.std.proofs.lemmas.Str.Parse.{digit_at}
use Rattle.std.proofs.lemmas.List.Elements.{All-from_recursion, All-append, All-cons, All-weaker, All-from_get_or}
use Rattle.hex.specs.Hex.{encode_lower}
use Rattle.pg_base.specs.declared.id.Kind.{Kind}
use Rattle.pg_base.specs.declared.id.Kind.TheVariants.{Dir, File}
use Rattle.pg_base.specs.declared.id.FileId.{FileId}
use Rattle.pg_base.specs.Id as id
use Rattle.pg_base.proofs.Numerals.{own}
use Rattle.pg_words.specs.HexWord.{hex_word, IsLowerDigit}
use Rattle.pg_words.proofs.HexWords.{encode_each}
use Rattle.pg_words.proofs.Splitting.{Lacks}

abbrev pub IsWordByte : ℕ → Type 0
IsWordByte b = (33 ≤ b) × (b ≤ 126)

-- bytes, one at least and not too many, and each can stand in a word
pub record IsWord (most : ℕ) (word : List ℕ) : Type 0 where
  pub some : 0 < length word
  pub few : length word ≤ most
  pub each : All IsWordByte word

pub decimal_each : (n : ℕ) → n < 2 ^ 64 → All IsWordByte (decimal n)
decimal_each n lt = All-from_get_or IsWordByte (decimal n) 0 (λ i l. let d = digit_at (decimal n) i (own.to (decimal n) (digits_decimal own n lt)) l in (omega arith, omega arith))

pub decimal_word : (n : ℕ) → n < 2 ^ 64 → IsWord 20 (decimal n)
decimal_word n lt = record { some = decimal_nonempty n lt; few = length-decimal-le 20 n (omega arith) (omega arith) lt; each = decimal_each n lt }

letter_byte : (k : Kind) → IsWordByte (id.letter k)
letter_byte Dir = (omega arith, omega arith)
letter_byte File = (omega arith, omega arith)

pub spelling_word : (file : FileId) → id.Fits file → IsWord 42 (id.spelling file)
spelling_word file fits =
    let server = fits.server in
    let s = decimal_word file.server (omega arith) in
    let n = decimal_word file.number fits.number in
    let fs = s.few in
    let fn = n.few in
    let long = length-append (decimal file.server) (46 ∷ decimal file.number) in
    record {
      some = omega arith;
      few = omega arith;
      each = All-cons IsWordByte (id.letter file.kind) _ (letter_byte file.kind)
          (All-append IsWordByte (decimal file.server) (46 ∷ decimal file.number) s.each
          (All-cons IsWordByte 46 (decimal file.number) (omega arith, omega arith) n.each));
    }

digit_byte : (b : ℕ) → IsLowerDigit b → IsWordByte b
digit_byte b (inl h) = let low = h.0 in let high = h.1 in (omega arith, omega arith)
digit_byte b (inr h) = let low = h.0 in let high = h.1 in (omega arith, omega arith)

pub hex_each : (bs : List ℕ) → AllByRecursion (λ b. b < 256) bs → All IsWordByte (hex_word bs)
hex_each [] h = All-from_recursion IsWordByte (codes "-") (omega arith)
hex_each (b ∷ bs) h = All-weaker IsLowerDigit IsWordByte digit_byte (encode_lower (b ∷ bs)) (encode_each (b ∷ bs) h)

lacks_space : (word : List ℕ) → All IsWordByte word → Lacks 32 word
lacks_space word h = All-weaker IsWordByte (λ b. b ≢ 32) (λ b p e. let low = p.0 in let e' : b ≡ 32 = e in omega arith) word h

-- words have no space
pub lack_space : (words : List (List ℕ)) → AllByRecursion (All IsWordByte) words → AllByRecursion (Lacks 32) words
lack_space [] h = tt
lack_space (word ∷ words) h = (lacks_space word h.0, lack_space words h.1)
