-- Where a listed child is, what messages promise, and what holds in every world that a run reaches.
use Rattle.std.specs.Prelude.{ℕ, ◌≡◌, ◌≤◌, ◌⊎◌, All, None, Some}
use Rattle.theory_listing.specs.Protocol.{Protocol, IsIn, Lists}
use Rattle.theory_listing.specs.World.{Saying, Message, World, IsCurrent}
use Rattle.theory_listing.specs.World.Saying.{Told, TellOk, LeaveOk, Other}
use Rattle.theory_listing.specs.Rule.{IsSettled, IsKnownAt, IsSupersededAt, IsToldAt}

module _ {N F P S : Type 0} (p : Protocol N F P S) where
  -- of some server that is current it is so
  pub record Somewhere (w : World N F P S) (A : N → Type 0) : Type 0 where
    pub server : ℕ
    pub current : IsCurrent p w server
    pub has : A (w.nodes server)

  -- the child is held with this place, or the place is superseded
  abbrev pub IsKnown : World N F P S → F → F → P → Type 0
  IsKnown w d c q = Somewhere w (λ a. IsKnownAt p a d c q)

  -- there is a later place for the child in the directory, or on its way there
  abbrev pub IsSuperseded : World N F P S → F → F → P → Type 0
  IsSuperseded w d c q = Somewhere w (λ a. IsSupersededAt p a d c q)

  -- the directory has a cell of this stamp or a later one
  abbrev pub IsTold : World N F P S → F → F → S → Type 0
  IsTold w d c t = Somewhere w (λ a. IsToldAt p a d c t)

  -- the sender of a LeaveOk does not hold that birth any more, or holds the thing as it did, or the
  -- place is superseded
  abbrev pub StillKnown : World N F P S → N → F → ℕ → P → F → Type 0
  StillKnown w a f birth q d =
      p.IsPast a f birth ⊎ ((p.own a f ≡ Some q) × (p.birth a f ≡ birth)) ⊎ IsSuperseded w d f q

  -- what a message promises, for as long as its view has entered the last removal
  abbrev pub Promise : World N F P S → ℕ → Saying F P S → Type 0
  Promise w s (Told way d c q) = IsIn p d c q → IsKnown w d c q
  Promise w s (TellOk d c t) = IsTold w d c t
  Promise w s (LeaveOk f birth q) =
      (d : F) → IsIn p d f q → StillKnown w (w.nodes s) f birth q d
  Promise w s Other = Unit {0}

  -- a message is of no later view than its sender's now, and keeps its promise
  pub record IsPromised (w : World N F P S) (m : Message F P S) : Type 0 where
    pub view : m.view ≤ p.view (w.nodes m.sender)
    pub says : w.least ≤ m.view → Promise w m.sender m.says

  -- each server is settled; a child that a directory lists, and that is not held beside it, is
  -- asked after, or known; and all messages keep their promises
  pub record Kept (w : World N F P S) : Type 0 where
    pub settled : (s : ℕ) → IsSettled p (w.nodes s)
    pub listed :
        (s : ℕ) (d c : F) (q : P)
        → IsCurrent p w s → Lists p (w.nodes s) d c q → p.own (w.nodes s) c ≡ None
        → p.Confirms (w.nodes s) d c ⊎ IsKnown w d c q
    pub promises : All (IsPromised w) w.messages
