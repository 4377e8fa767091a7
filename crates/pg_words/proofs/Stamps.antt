-- Stamps as words: cut at their sign, and no two with one spelling.
use Rattle.std.proofs.Common.{ℕ, ◌≡◌, ◌≢◌, ◌<◌, ◌^◌, List, ◌∷◌, ◌++◌, refl, sym, ◌∙◌, arith, codes, decimal, All}
use Rattle.std.specs.List.{AllByRecursion}
use Rattle.std.proofs.lemmas.Fmt.{decimal_injective}
use Rattle.std.proofs.lemmas.List.Elements.{All-from_recursion}
use Rattle.pg_base.proofs.Orders.{stamp_of_parts}
use Rattle.pg_base.proofs.Parts.{cut_same, not_cut, decimal-without}
use Rattle.pg_base.proofs.Spellings.{spelling-same}
use Rattle.pg_base.specs.Id.{spelling}
use Rattle.pg_base.specs.StampText.{stamp_text}
use Rattle.pg_base.specs.declared.id.FileId.{FileId}
use Rattle.pg_base.specs.declared.stamp.Stamp.{Stamp}
use Rattle.pg_words.specs.FileWord.{IsFile}
use Rattle.pg_words.specs.StampWord.{IsStamp, stamps_word}
use Rattle.pg_words.proofs.Lacking.{comma, Lacks-stamp}
use Rattle.pg_words.proofs.ListWords.{one_list}

pub same_server : (n k : ℕ) → n < 2 ^ 32 → k < 2 ^ 32 → decimal n ≡ decimal k → n ≡ k
same_server n k ln lk e = decimal_injective n k (omega arith) (omega arith) e

pub same_file : (a b : FileId) → IsFile a → IsFile b → spelling a ≡ spelling b → a ≡ b
same_file a b ha hb e = spelling-same a b ha.fits hb.fits e

-- what is cut at the sign of a stamp is its time and its server
pub stamp_cut : (word a b : List ℕ) (s : Stamp) → IsStamp s → All (λ z. z ≢ 64) a → word ≡ a ++ 64 ∷ b → word ≡ stamp_text s → (a ≡ decimal s.time) × (b ≡ decimal s.server)
stamp_cut word a b s fits h e f = cut_same 64 a b (decimal s.time) (decimal s.server) h (decimal-without 64 s.time (λ r. omega arith) fits.time) (sym e ∙ f)

pub stamp_uncut : (word : List ℕ) (s : Stamp) → All (λ z. z ≢ 64) word → word ≡ stamp_text s → ⊥
stamp_uncut word s h e = not_cut 64 word (decimal s.time) (decimal s.server) h e

pub same_stamp : (a b : Stamp) → IsStamp a → IsStamp b → stamp_text a ≡ stamp_text b → a ≡ b
same_stamp a b ha hb e =
    let p = stamp_cut (stamp_text a) (decimal a.time) (decimal a.server) b hb (decimal-without 64 a.time (λ r. omega arith) ha.time) refl e in
    stamp_of_parts a.time b.time a.server b.server (decimal_injective a.time b.time ha.time hb.time p.0) (same_server a.server b.server ha.server hb.server p.1)

no_head : (s : Stamp) → codes "-" ≡ stamp_text s → ⊥
no_head s e = not_cut 64 (codes "-") (decimal s.time) (decimal s.server) (All-from_recursion (λ z. z ≢ 64) (codes "-") (omega arith)) e

pub same_stamps : (a b : List Stamp) → AllByRecursion IsStamp a → AllByRecursion IsStamp b → stamps_word a ≡ stamps_word b → a ≡ b
same_stamps a b ha hb e = one_list stamp_text IsStamp (λ s h. Lacks-stamp 44 s comma h) same_stamp (λ s h. no_head s) a b ha hb e
