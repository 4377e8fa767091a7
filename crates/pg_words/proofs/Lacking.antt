-- Which bytes words lack: those at which words, items and lines end.
use Rattle.std.proofs.Common.{ℕ, ◌≡◌, ◌≢◌, ◌<◌, ◌^◌, Bool, cond, List, [], ◌∷◌, map, true, false, arith, codes, decimal, inl, inr}
use Rattle.std.specs.List.{AllByRecursion}
use Rattle.std.proofs.lemmas.List.Elements.{All-from_recursion, All-append, All-cons, All-weaker}
use Rattle.hex.specs.Hex.{encode_lower}
use Rattle.pg_base.specs.declared.id.Kind.{Kind}
use Rattle.pg_base.specs.declared.id.Kind.TheVariants.{Dir, File}
use Rattle.pg_base.specs.declared.id.FileId.{FileId}
use Rattle.pg_base.specs.declared.stamp.Stamp.{Stamp}
use Rattle.pg_base.specs.Id as id
use Rattle.pg_base.specs.StampText.{stamp_text}
use Rattle.pg_base.proofs.Parts.{decimal-without}
use Rattle.pg_words.specs.HexWord.{hex_word, IsLowerDigit}
use Rattle.pg_words.specs.ListWord.{list_word}
use Rattle.pg_words.specs.StampWord.{IsStamp}
use Rattle.pg_words.proofs.HexWords.{encode_each}
use Rattle.pg_words.proofs.Splitting.{Lacks}

-- a byte at which items, words or lines end: below the dash
pub record Ends (c : ℕ) : Type 0 where
  pub low : c < 45

pub space : Ends 32
space = record { low = omega arith }

pub feed : Ends 10
feed = record { low = omega arith }

pub comma : Ends 44
comma = record { low = omega arith }

pub literal : (c : ℕ) (w : List ℕ) → AllByRecursion (λ b. b ≢ c) w → Lacks c w
literal c w h = All-from_recursion (λ b. b ≢ c) w h

-- a choice has what both sides have
pub either : {A : Type 0} (P : A → Type 0) (t : Bool) (x y : A) → P x → P y → P (cond t x y)
either {A} P true x y a b = a
either {A} P false x y a b = b

pub Lacks-decimal : (c n : ℕ) → Ends c → n < 2 ^ 64 → Lacks c (decimal n)
Lacks-decimal c n h lt = let low = h.low in decimal-without c n (λ r. omega arith) lt

pub Lacks-server : (c n : ℕ) → Ends c → n < 2 ^ 32 → Lacks c (decimal n)
Lacks-server c n h lt = Lacks-decimal c n h (omega arith)

Lacks-letter : (c : ℕ) (k : Kind) → Ends c → id.letter k ≢ c
Lacks-letter c Dir h e = let low = h.low in let e' : 100 ≡ c = e in omega arith
Lacks-letter c File h e = let low = h.low in let e' : 102 ≡ c = e in omega arith

pub Lacks-spelling : (c : ℕ) (file : FileId) → Ends c → id.Fits file → Lacks c (id.spelling file)
Lacks-spelling c file h fits =
    let low = h.low in
    All-cons (λ b. b ≢ c) (id.letter file.kind) _ (Lacks-letter c file.kind h)
    (All-append (λ b. b ≢ c) (decimal file.server) (46 ∷ decimal file.number) (Lacks-server c file.server h fits.server)
    (All-cons (λ b. b ≢ c) 46 (decimal file.number) (λ e. omega arith) (Lacks-decimal c file.number h fits.number)))

digit_other : (c : ℕ) → Ends c → (x : ℕ) → IsLowerDigit x → x ≢ c
digit_other c h x (inl p) e = let low = h.low in let least = p.0 in let e' : x ≡ c = e in omega arith
digit_other c h x (inr p) e = let low = h.low in let least = p.0 in let e' : x ≡ c = e in omega arith

Lacks-digits : (c : ℕ) (bs : List ℕ) → Ends c → AllByRecursion (λ b. b < 256) bs → Lacks c (encode_lower bs)
Lacks-digits c bs h fits = All-weaker IsLowerDigit (λ x. x ≢ c) (digit_other c h) (encode_lower bs) (encode_each bs fits)

pub Lacks-hex : (c : ℕ) (bs : List ℕ) → Ends c → AllByRecursion (λ b. b < 256) bs → Lacks c (hex_word bs)
Lacks-hex c [] h fits = let low = h.low in literal c (codes "-") (omega arith)
Lacks-hex c (b ∷ bs) h fits = Lacks-digits c (b ∷ bs) h fits

pub Lacks-stamp : (c : ℕ) (s : Stamp) → Ends c → IsStamp s → Lacks c (stamp_text s)
Lacks-stamp c s h fits =
    let low = h.low in
    All-append (λ b. b ≢ c) (decimal s.time) (64 ∷ decimal s.server) (Lacks-decimal c s.time h fits.time)
    (All-cons (λ b. b ≢ c) 64 (decimal s.server) (λ e. omega arith) (Lacks-server c s.server h fits.server))

-- items lack the byte, and it is no comma
Lacks-items : {A : Type 0} (text : A → List ℕ) (P : A → Type 0) (c : ℕ) → 44 ≢ c → ((x : A) → P x → Lacks c (text x)) → (x : A) (xs : List A)
    → AllByRecursion P (x ∷ xs) → Lacks c (list_word (map text (x ∷ xs)))
Lacks-items {A} text P c ne each x [] h = each x h.0
Lacks-items {A} text P c ne each x (y ∷ ys) h =
    All-append (λ b. b ≢ c) (text x) (44 ∷ list_word (map text (y ∷ ys))) (each x h.0)
    (All-cons (λ b. b ≢ c) 44 (list_word (map text (y ∷ ys))) ne (Lacks-items text P c ne each y ys h.1))

pub Lacks-list : {A : Type 0} (text : A → List ℕ) (P : A → Type 0) (c : ℕ) → Ends c → 44 ≢ c → ((x : A) → P x → Lacks c (text x)) → (xs : List A)
    → AllByRecursion P xs → Lacks c (list_word (map text xs))
Lacks-list {A} text P c ends ne each [] h = let low = ends.low in literal c (codes "-") (omega arith)
Lacks-list {A} text P c ends ne each (x ∷ xs) h = Lacks-items text P c ne each x xs h
