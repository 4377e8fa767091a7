-- Who was asked last for a version, and from which byte on; and that what is noted agrees with it.
use Rattle.std.specs.Prelude.{ℕ, ◌≡◌, ◌≢◌, ◌⊎◌, Option, None, Some, length}
use Rattle.theory_bodies.specs.Protocol.{Note}

-- a server asked this one for a version, from this byte on
pub record Asking : Type 0 where
  pub target : ℕ
  pub offset : ℕ

abbrev pub asking_of : Note → Asking
asking_of n = record { target = n.source; offset = length n.bytes }

-- What is noted of a version agrees with what was asked, unless the version is covered here: who
-- is asked by the note was asked last, from the first byte that is not here; and who was asked
-- last is asked by the note
pub record AreAgreed (Covered : Type 0) (asked : Option Asking) (note : Option Note) : Type 0 where
  pub noted : (n : Note) → note ≡ Some n → n.source ≢ 0 → asked ≡ Some (asking_of n)
  pub asks : (t : Asking) → asked ≡ Some t
      → Covered ⊎ ((n : Note) × (note ≡ Some n) × (asking_of n ≡ t))

-- an event asks for the version: whom it notes from then on, from the first byte that is not here
-- then
pub record IsWanted (now : Option Asking) (behind : Option Note) : Type 0 where
  pub note : Note
  pub noted : behind ≡ Some note
  pub asked : now ≡ Some (asking_of note)

-- or nobody is asked any more, as at a tick, a restart, a view that is entered, and where who was
-- asked has no body now
pub record IsReleased (now : Option Asking) (behind : Option Note) : Type 0 where
  pub asked : now ≡ None
  pub lost : (n : Note) → behind ≡ Some n → n.source ≡ 0

-- or the version is covered from then on, and not noted
pub record IsCovered (Covered : Type 0) (was now : Option Asking)
    (behind : Option Note) : Type 0 where
  pub asked : now ≡ was
  pub covered : Covered
  pub ended : behind ≡ None

-- or nothing of it changes
pub record IsIdle (was now : Option Asking) (before behind : Option Note) : Type 0 where
  pub asked : now ≡ was
  pub note : behind ≡ before

abbrev pub AskStep : Type 0 → Option Asking → Option Asking → Option Note → Option Note → Type 0
AskStep Covered was now before behind = IsWanted now behind ⊎ (IsReleased now behind
    ⊎ (IsCovered Covered was now behind ⊎ IsIdle was now before behind))
