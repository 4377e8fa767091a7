-- Places as words: no two with the same words, and which bytes these lack.
use Rattle.std.proofs.Common.{rules, ℕ, ◌≡◌, ◌≢◌, ◌<◌, ◌⊎◌, inl, inr, List, [], ◌∷◌, Bool, true, false, refl, sym, ap, subst, arith, codes, length}
use Rattle.std.proofs.lemmas.List.Elements.{All-cons, All-weaker}
use Rattle.std.specs.List.{AllByRecursion}
use Rattle.pg_base.specs.Id.{Fits, spelling}
use Rattle.pg_base.specs.declared.id.FileId.{FileId}
use Rattle.pg_base.specs.declared.stamp.Stamp.{Stamp}
use Rattle.pg_path.specs.Name.{IsClientName, IsNameByte}
use Rattle.pg_register.specs.Place.{IsPlaceName, tilde_name}
use Rattle.pg_register.specs.declared.place.Place.{Place}
use Rattle.pg_words.specs.ChoiceWord.{life_word}
use Rattle.pg_words.specs.FileWord.{IsDirectory}
use Rattle.pg_words.specs.PlaceWords.{IsPlace, name_word, place_words}
use Rattle.pg_words.proofs.Stamps.{same_stamp}
use Rattle.pg_words.proofs.Lacking.{Ends, literal, Lacks-spelling, Lacks-stamp}
use Rattle.pg_words.proofs.Splitting.{Lacks, word_at}
use Rattle.pg_base.proofs.Spellings.{spelling-same}

abbrev mark : List ℕ → ℕ
mark [] = 0
mark (x ∷ xs) = x

-- a slash is no name
no_slash : IsPlaceName (47 ∷ []) → ⊥
no_slash (inl e) = let n = ap length e in absurd (omega arith)
no_slash (inr (inl h)) = (h.each 0 0 (omega arith)).no_slash refl
no_slash (inr (inr h)) = let n : ◌≡◌ {A = ℕ} 47 126 = ap mark h.2 in omega arith

pub same_name : (a b : List ℕ) → IsPlaceName a → IsPlaceName b → name_word a ≡ name_word b → a ≡ b
same_name [] [] ha hb e = refl
same_name [] (x ∷ xs) ha hb e = absurd (no_slash (subst IsPlaceName (sym e) hb))
same_name (x ∷ xs) [] ha hb e = absurd (no_slash (subst IsPlaceName e ha))
same_name (x ∷ xs) (y ∷ ys) ha hb e = e

pub same_life : (a b : Bool) → life_word a ≡ life_word b → a ≡ b
same_life = search rules

place_of_parts : (s t : Stamp) (p q : FileId) (n m : List ℕ) (a b : Bool) → s ≡ t → p ≡ q → n ≡ m → a ≡ b
    → ◌≡◌ {A = Place} (record { stamp = s; parent = p; name = n; live = a }) (record { stamp = t; parent = q; name = m; live = b })
place_of_parts s t p q n m a b es ep en el = cc

pub same_place : (a b : Place) → IsPlace a → IsPlace b → place_words a ≡ place_words b → a ≡ b
same_place a b ha hb e = place_of_parts a.stamp b.stamp a.parent b.parent a.name b.name a.live b.live
    (same_stamp a.stamp b.stamp ha.stamp hb.stamp (ap (word_at 0) e))
    (spelling-same a.parent b.parent ha.parent.fits hb.parent.fits (ap (word_at 1) e))
    (same_name a.name b.name ha.name hb.name (ap (word_at 2) e))
    (same_life a.live b.live (ap (word_at 3) e))

name_other : (c : ℕ) → c < 33 → (b : ℕ) → IsNameByte b → b ≢ c
name_other c low b is e = let least = is.least in let e' : b ≡ c = e in omega arith

-- a name has bytes that can be seen
Lacks-name : (c : ℕ) (n : List ℕ) → c < 33 → IsPlaceName n → Lacks c (name_word n)
Lacks-name c [] low is = literal c (codes "/") (omega arith)
Lacks-name c (x ∷ xs) low (inl e) = let n = ap length e in absurd (omega arith)
Lacks-name c (x ∷ xs) low (inr (inl h)) = All-weaker IsNameByte (λ b. b ≢ c) (name_other c low) (x ∷ xs) h.each
Lacks-name c (x ∷ xs) low (inr (inr h)) =
    let lack : Lacks c (tilde_name h.0) = All-cons (λ b. b ≢ c) 126 (spelling h.0) (λ e. omega arith) (Lacks-spelling c h.0 (record { low = omega arith }) h.1) in
    subst (Lacks c) (sym h.2) lack

Lacks-life : (c : ℕ) (live : Bool) → Ends c → Lacks c (life_word live)
Lacks-life c true h = let low = h.low in literal c (codes "live") (omega arith)
Lacks-life c false h = let low = h.low in literal c (codes "dead") (omega arith)

pub place-lack : (c : ℕ) (p : Place) → c < 33 → IsPlace p → AllByRecursion (Lacks c) (place_words p)
place-lack c p low is =
    let ends : Ends c = record { low = omega arith } in
    (Lacks-stamp c p.stamp ends is.stamp, (Lacks-spelling c p.parent ends is.parent.fits, (Lacks-name c p.name low is.name, (Lacks-life c p.live ends, tt))))
