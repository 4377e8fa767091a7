-- Entries that are read one behind another.
use Rattle.std.proofs.Common.{◌≡◌, ℕ, ◌+◌, ◌-◌, ◌<◌, List, [], ◌∷◌, ◌++◌, length, take, drop, sym, ◌∙◌, ap, subst, arith, length-append, length-drop}
use Rattle.std.proofs.lemmas.List.{take_all}
use Rattle.pg_log.specs.Bytes.{AllFit, front, BeginsWith, IsBadTail, IsBadAt}
use Rattle.pg_log.proofs.Blocks.{AllFit-push, front-push}
use Rattle.pg_log.proofs.Bad.{bad_behind}

-- the entries were read, and this is the rest
pub record IsRead (file : List ℕ) (entries : List (List ℕ)) (rest : List ℕ) : Type 0 where
  pub fit : AllFit entries
  pub read : file ≡ front entries ++ rest

pub read_more : (file rest entry : List ℕ) (entries new : List (List ℕ)) → AllFit entries → file ≡ front entries ++ rest → BeginsWith rest entry → new ≡ entries ++ entry ∷ []
    → IsRead file new (take (length rest - (5 + length entry)) (drop (5 + length entry) rest))
read_more file rest entry entries new fit read begins new_is =
    let behind : List ℕ = drop (5 + length entry) rest in
    let all : take (length rest - (5 + length entry)) behind ≡ behind = take_all (length rest - (5 + length entry)) behind (omega (arith, length-drop (5 + length entry) rest)) in
    subst (λ (es : List (List ℕ)). IsRead file es (take (length rest - (5 + length entry)) behind)) (sym new_is) (record {
      fit = AllFit-push entries entry fit begins.fits;
      read = read ∙ ap (λ (l : List ℕ). front entries ++ l) begins.spelled ∙ sym (front-push entries entry behind) ∙ ap (λ (l : List ℕ). front (entries ++ entry ∷ []) ++ l) (sym all);
    })

-- how many bytes were read
pub count_read : (file rest : List ℕ) (entries : List (List ℕ)) → file ≡ front entries ++ rest → length file - length rest ≡ length (front entries)
count_read file rest entries read = let size = ap length read in omega (arith, size, length-append (front entries) rest)

pub bad_read : (file rest : List ℕ) (entries : List (List ℕ)) (place : ℕ) → AllFit entries → 17 < length file → file ≡ front entries ++ rest → IsBadTail rest place → IsBadAt file (length file - length rest + place)
bad_read file rest entries place fit long read bad =
    subst (λ (n : ℕ). IsBadAt file (n + place)) (sym (count_read file rest entries read)) (bad_behind entries rest file place fit read long bad)
