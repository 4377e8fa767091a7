-- Truth values, ids and stamps are fields.
use Rattle.std.proofs.Common.{◌≡◌, ℕ, zero, suc, Bool, true, false, cond, eqb, List, [], ◌∷◌, ◌++◌, Result, Ok, Err, refl, sym, subst, arith}
use Rattle.std.proofs.lemmas.Bool.{eqb-true}
use Rattle.pg_base.specs.Id.{Fits, letter}
use Rattle.pg_base.specs.declared.id.Kind.{Kind}
use Rattle.pg_base.specs.declared.id.Kind.TheVariants.{Dir, File}
use Rattle.pg_base.specs.declared.id.FileId.{FileId}
use Rattle.pg_base.specs.declared.stamp.Stamp.{Stamp}
use Rattle.pg_codec.specs.declared.error.ReadError.{ReadError}
use Rattle.pg_codec.specs.declared.error.ReadError.TheVariants.{BadTag}
use Rattle.pg_codec.specs.Spelling.{file_bytes, flag_bytes, number_bytes, stamp_bytes}
use Rattle.pg_codec.specs.Reading.{file_at, flag_at, flag_of, kind_at, kind_of, number_at, stamp_at, followed_by}
use Rattle.pg_codec.specs.Laws.{Any, HasStampWidth, HasWidth, IsField}
use Rattle.pg_codec.proofs.Binding.{both_are, checked_is, seen_is}
use Rattle.pg_codec.proofs.Numbers.{byte_field, narrow_field, wide_field}

abbrev given : {X : Type 0} → X → Result X ReadError
given x = Ok x

flag_to : (place a : ℕ) (b : Bool) → flag_of place a ≡ Ok b → flag_bytes b ≡ number_bytes 1 a
unfolding flag_bytes number_bytes
flag_to place zero b e = let same : false ≡ b = cc in subst (λ (x : Bool). flag_bytes x ≡ number_bytes 1 0) same refl
flag_to place (suc zero) b e = let same : true ≡ b = cc in subst (λ (x : Bool). flag_bytes x ≡ number_bytes 1 1) same refl
flag_to place (suc (suc n)) b e = absurd cc

flag_back : (b : Bool) → (a : ℕ) × HasWidth 1 a × ((place : ℕ) → flag_of place a ≡ Ok b)
flag_back false = (0, omega arith, λ place. refl)
flag_back true = (1, omega arith, λ place. refl)

pub flag_field : IsField Any flag_bytes flag_at
unfolding flag_at
flag_field = checked_is flag_of (HasWidth 1) (number_bytes 1) (number_at 1) Any flag_bytes
    (λ place a b fits e. (tt, flag_to place a b e)) (λ b fits. flag_back b) byte_field

abbrev kind_bytes : Kind → List ℕ
kind_bytes k = letter k ∷ []

kind_case : (t u : Bool) (place a : ℕ) (k : Kind) → eqb a 100 ≡ t → eqb a 102 ≡ u
    → cond t (given Dir) (cond u (Ok File) (Err (BadTag place))) ≡ Ok k → kind_bytes k ≡ number_bytes 1 a
unfolding number_bytes
kind_case true u place a k p q e =
    let at : a ≡ 100 = eqb-true a 100 p in
    let same : Dir ≡ k = cc in
    subst (λ (x : ℕ). kind_bytes k ≡ number_bytes 1 x) (sym at) (subst (λ (y : Kind). kind_bytes y ≡ number_bytes 1 100) same refl)
kind_case false true place a k p q e =
    let at : a ≡ 102 = eqb-true a 102 q in
    let same : File ≡ k = cc in
    subst (λ (x : ℕ). kind_bytes k ≡ number_bytes 1 x) (sym at) (subst (λ (y : Kind). kind_bytes y ≡ number_bytes 1 102) same refl)
kind_case false false place a k p q e = absurd cc

kind_back : (k : Kind) → (a : ℕ) × HasWidth 1 a × ((place : ℕ) → kind_of place a ≡ Ok k)
kind_back Dir = (100, omega arith, λ place. refl)
kind_back File = (102, omega arith, λ place. refl)

kind_field : IsField Any kind_bytes kind_at
unfolding kind_at
kind_field = checked_is kind_of (HasWidth 1) (number_bytes 1) (number_at 1) Any kind_bytes
    (λ place a k fits e. (tt, kind_case (eqb a 100) (eqb a 102) place a k refl refl e)) (λ k fits. kind_back k) byte_field

abbrev file_view : Kind × (ℕ × ℕ) → FileId
file_view x = record { kind = x.0; server = x.1.0; number = x.1.1 }

pub file_field : IsField Fits file_bytes file_at
unfolding file_at file_bytes
file_field = seen_is file_view
    (λ x. Any x.0 × (HasWidth 4 x.1.0 × HasWidth 8 x.1.1))
    (λ x. kind_bytes x.0 ++ (number_bytes 4 x.1.0 ++ number_bytes 8 x.1.1))
    (followed_by kind_at (λ k. followed_by (number_at 4) (λ s. number_at 8)))
    Fits file_bytes
    (λ x fits. (record { server = fits.1.0; number = fits.1.1 }, refl))
    (λ id fits. ((id.kind, (id.server, id.number)), (tt, (fits.server, fits.number)), refl))
    (both_are Any kind_bytes kind_at (λ k x. HasWidth 4 x.0 × HasWidth 8 x.1) (λ k x. number_bytes 4 x.0 ++ number_bytes 8 x.1) (λ k. followed_by (number_at 4) (λ s. number_at 8)) kind_field
    (λ k _. both_are (HasWidth 4) (number_bytes 4) (number_at 4) (λ s. HasWidth 8) (λ s. number_bytes 8) (λ s. number_at 8) narrow_field (λ s _. wide_field)))

abbrev stamp_view : ℕ × ℕ → Stamp
stamp_view x = record { time = x.0; server = x.1 }

pub stamp_field : IsField HasStampWidth stamp_bytes stamp_at
unfolding stamp_at stamp_bytes
stamp_field = seen_is stamp_view (λ x. HasWidth 8 x.0 × HasWidth 4 x.1) (λ x. number_bytes 8 x.0 ++ number_bytes 4 x.1)
    (followed_by (number_at 8) (λ t. number_at 4)) HasStampWidth stamp_bytes
    (λ x fits. (record { time = fits.0; server = fits.1 }, refl))
    (λ s fits. ((s.time, s.server), (fits.time, fits.server), refl))
    (both_are (HasWidth 8) (number_bytes 8) (number_at 8) (λ t. HasWidth 4) (λ t. number_bytes 4) (λ t. number_at 4) wide_field (λ t _. narrow_field))
