-- What a reader answers that is right in what it refuses, where a text has one first bad line at
-- most.
use Rattle.std.proofs.Common.{ℕ, ◌≡◌, ◌⊎◌, inl, inr, refl}
use Rattle.pg_call.specs.declared.fault.Fault.{Fault}
use Rattle.pg_sched.specs.declared.error.ReadError.{ReadError}
use Rattle.pg_sched.specs.declared.error.ReadError.TheVariants.{BadLine, OutOfMemory}

bad_line : (n m : ℕ) (f g : Fault) → n ≡ m → f ≡ g → ◌≡◌ {A = ReadError} (BadLine n f) (BadLine m g)
bad_line n m f g e q = cc

pub bad_parts : (n m : ℕ) (f g : Fault) → ◌≡◌ {A = ReadError} (BadLine n f) (BadLine m g) → (n ≡ m) × (f ≡ g)
bad_parts n m f g e = (cc, cc)

-- where the text has a first bad line, it refuses that line, unless memory runs out
pub refused_there : (IsFirst : ℕ → Fault → Type 0) → ((n m : ℕ) (f g : Fault) → IsFirst n f → IsFirst m g → (n ≡ m) × (f ≡ g)) → (e : ReadError)
    → ((m : ℕ) (g : Fault) → e ≡ BadLine m g → IsFirst m g) → (n : ℕ) (f : Fault) → IsFirst n f → (e ≡ BadLine n f) ⊎ (e ≡ OutOfMemory)
refused_there IsFirst once OutOfMemory h n f bad = inr refl
refused_there IsFirst once (BadLine m g) h n f bad = let one = once m n g f (h m g refl) bad in inl (bad_line m n g f one.0 one.1)

-- where it has none, only memory can have run out
pub refused_never : (IsFirst : ℕ → Fault → Type 0) → ((m : ℕ) (g : Fault) → IsFirst m g → ⊥) → (e : ReadError) → ((m : ℕ) (g : Fault) → e ≡ BadLine m g → IsFirst m g)
    → e ≡ OutOfMemory
refused_never IsFirst none OutOfMemory h = refl
refused_never IsFirst none (BadLine m g) h = absurd (none m g (h m g refl))
