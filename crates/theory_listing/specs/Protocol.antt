-- What a protocol says of its servers, so that directories can be read in them.
use Rattle.std.specs.Prelude.{ℕ, ◌≡◌, ◌≢◌, ◌⊎◌, Option, Some}

-- N: what a server holds. F: things, directories among them. P: places. S: stamps of places
-- root: the one thing that stands in no directory
-- IsBelow: the first stamp is older than the second
-- own: the place of a thing that is held
-- birth: the birth of the replica of a thing that is held
-- IsPast: a replica of a thing was held with this birth, and is held with it no more
-- cell: the place that a held directory has for a child
-- patch: the place in an owed Patch, of a directory and a child
-- Confirms: a Confirm is owed, of a directory and a child
-- IsBack: a place that is known of a held thing is held back from it
-- view: how many changes of the servers this server has entered
pub record Protocol (N F P S : Type 0) : Type 1 where
  pub root : F
  pub parent : P → F
  pub IsLive : P → Type 0
  pub stamp : P → S
  pub IsBelow : S → S → Type 0
  pub own : N → F → Option P
  pub birth : N → F → ℕ
  pub IsPast : N → F → ℕ → Type 0
  pub cell : N → F → F → Option P
  pub patch : N → F → F → Option P
  pub Confirms : N → F → F → Type 0
  pub IsBack : N → F → P → Type 0
  pub view : N → ℕ

module _ {N F P S : Type 0} (p : Protocol N F P S) where
  -- what has to be true of the order of stamps
  pub record IsOrdered : Type 0 where
    pub further : (a b c : S) → p.IsBelow a b → p.IsBelow b c → p.IsBelow a c
    pub never : (a : S) → p.IsBelow a a → ⊥

  abbrev pub AtMost : S → S → Type 0
  AtMost a b = (a ≡ b) ⊎ p.IsBelow a b

  -- there is a place, and its stamp is at least this one, or above it
  abbrev pub AtLeast : S → Option P → Type 0
  AtLeast t o = (r : P) × (o ≡ Some r) × AtMost t (p.stamp r)

  abbrev pub Above : S → Option P → Type 0
  Above t o = (r : P) × (o ≡ Some r) × p.IsBelow t (p.stamp r)

  -- the first place is the second, or an older one
  abbrev pub IsUpTo : P → P → Type 0
  IsUpTo q r = (q ≡ r) ⊎ p.IsBelow (p.stamp q) (p.stamp r)

  -- a live place of the child in the directory
  pub record IsIn (d c : F) (q : P) : Type 0 where
    pub live : p.IsLive q
    pub parent : p.parent q ≡ d
    pub inner : c ≢ p.root

  -- the server holds the directory, and it lists the child with this place
  pub record Lists (a : N) (d c : F) (q : P) : Type 0 where
    pub cell : p.cell a d c ≡ Some q
    pub is_in : IsIn d c q
