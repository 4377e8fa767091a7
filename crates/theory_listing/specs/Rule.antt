-- What holds of one server behind each step, and what a step may do to it.
use Rattle.std.specs.Prelude.{ℕ, ◌≡◌, ◌≢◌, ◌<◌, ◌≤◌, ◌⊎◌, true, List, All, None, Some}
use Rattle.theory_listing.specs.Protocol.{Protocol, Above, AtLeast, IsIn, IsUpTo, Lists}
use Rattle.theory_listing.specs.World.{Way, Saying, Message, World}
use Rattle.theory_listing.specs.World.Way.{SureCell, PlaceIs, Tell}
use Rattle.theory_listing.specs.World.Saying.{Told, TellOk, LeaveOk, Other}

module _ {N F P S : Type 0} (p : Protocol N F P S) where
  abbrev pub Holds : N → F → Type 0
  Holds a f = (q : P) × (p.own a f ≡ Some q)

  abbrev pub HasCell : N → F → F → Type 0
  HasCell a d c = (q : P) × (p.cell a d c ≡ Some q)

  -- What one server knows of a child of a directory. The place is superseded: there is a later one
  -- for the child in the directory, or on its way there
  abbrev pub IsSupersededAt : N → F → F → P → Type 0
  IsSupersededAt a d c q =
      Above p (p.stamp q) (p.cell a d c) ⊎ Above p (p.stamp q) (p.patch a d c)

  -- the child is held with this place, or the place is superseded
  abbrev pub IsKnownAt : N → F → F → P → Type 0
  IsKnownAt a d c q = (p.own a c ≡ Some q) ⊎ IsSupersededAt a d c q

  -- the directory has a cell of this stamp or a later one
  abbrev pub IsToldAt : N → F → F → S → Type 0
  IsToldAt a d c t = AtLeast p t (p.cell a d c)

  -- What holds of one server behind each step
  -- cells: only held directories have cells
  -- passing: a cell for a held child has the child's own place, or a later one that is not live,
  --   and is held back
  -- own_parent: a held directory has a cell for each held child that is live in it
  -- patch_of: a Patch with a live place has the child's own place
  -- not_past: a birth that is held is not past
  pub record IsSettled (a : N) : Type 0 where
    pub cells : (d c : F) (q : P) → p.cell a d c ≡ Some q → Holds a d
    pub passing :
        (d c : F) (q r : P)
        → c ≢ p.root → p.own a c ≡ Some q → p.cell a d c ≡ Some r
        → (q ≡ r) ⊎ ((p.IsLive r → ⊥) × p.IsBelow (p.stamp q) (p.stamp r))
    pub own_parent :
        (d c : F) (q : P)
        → p.own a c ≡ Some q → IsIn p d c q → Holds a d → HasCell a d c
    pub patch_of : (d c : F) (q : P) → p.patch a d c ≡ Some q → IsIn p d c q → p.own a c ≡ Some q
    pub not_past : (f : F) (n : ℕ) → Holds a f → p.birth a f ≡ n → p.IsPast a f n → ⊥

  -- what a server may send, by what it is behind the step
  abbrev pub MaySend : N → Saying F P S → Type 0
  MaySend b (Told SureCell d c q) = (p.cell b d c ≡ Some q) × (p.Confirms b d c → ⊥)
  MaySend b (Told PlaceIs d c q) = IsIn p d c q → IsKnownAt b d c q
  MaySend b (Told Tell d c q) = p.patch b d c ≡ Some q
  MaySend b (TellOk d c t) = IsToldAt b d c t
  MaySend b (LeaveOk f birth q) =
      (p.birth b f ≡ birth) × ((d : F) → IsIn p d f q → IsKnownAt b d f q)
  MaySend b Other = Unit {0}

  -- this message told that the child has this place
  abbrev pub IsJustTold : Message F P S → F → F → P → Type 0
  IsJustTold heard d c q = (way : Way) × (heard.says ≡ Told way d c q)

  -- The rule for one server that held a, heard this, and then holds b and sends these
  -- views, hears: a server goes on in views, and hears messages of its own view
  -- birth, past: a thing keeps its birth while it is held, and a birth that is past stays past
  -- own_grows, cells_grow: the own place of a held thing and the cells of a held directory stay, or
  --   go to later stamps
  -- taken: where a place is replaced in the very step in which its parent becomes held, the parent
  --   has a cell for the child
  -- patch_begun: where a place is replaced and its parent is not held, a Patch has a later place
  -- patch_ends: a Patch grows, goes into the directory that becomes held, or ends by the TellOk
  --   with its stamp
  -- let_go: a thing is let go only by the LeaveOk with its place, and its birth is past
  -- confirm_ends: a Confirm for a child that is still listed and not held ends only by a message
  --   with its place
  -- listed_new: a child that is newly listed and not held is asked after, or was told in this step
  -- enters: who enters the last removal asks after each child that is listed and not held
  pub record MayStep
      (least : ℕ) (a b : N) (heard : Message F P S) (sent : List (Saying F P S)) : Type 0 where
    pub settled : IsSettled b
    pub views : p.view a ≤ p.view b
    pub hears : (heard.says ≡ Other) ⊎ (heard.view ≡ p.view a)
    pub birth : (f : F) → Holds a f → Holds b f → p.birth b f ≡ p.birth a f
    pub past : (f : F) (n : ℕ) → p.IsPast a f n → p.IsPast b f n
    pub own_grows : (f : F) (q r : P) → p.own a f ≡ Some q → p.own b f ≡ Some r → IsUpTo p q r
    pub cells_grow :
        (d c : F) (q : P) → p.cell a d c ≡ Some q → Holds b d → IsToldAt b d c (p.stamp q)
    pub taken :
        (d c : F) (q r : P)
        → p.own a d ≡ None → Holds b d → p.own a c ≡ Some q → IsIn p d c q
        → p.own b c ≡ Some r → p.IsBelow (p.stamp q) (p.stamp r) → HasCell b d c
    pub patch_begun :
        (d c : F) (q r : P)
        → p.own a c ≡ Some q → IsIn p d c q
        → p.own b c ≡ Some r → p.IsBelow (p.stamp q) (p.stamp r)
        → p.own b d ≡ None → Above p (p.stamp q) (p.patch b d c)
    pub patch_ends :
        (d c : F) (q : P)
        → p.patch a d c ≡ Some q
        → AtLeast p (p.stamp q) (p.patch b d c) ⊎ IsToldAt b d c (p.stamp q)
        ⊎ (heard.says ≡ TellOk d c (p.stamp q))
    pub let_go :
        (f : F) (q : P)
        → p.own a f ≡ Some q → p.own b f ≡ None
        → p.IsPast b f (p.birth a f) × ((n : ℕ) × (heard.says ≡ LeaveOk f n q))
    pub confirm_ends :
        (d c : F) (q : P)
        → p.Confirms a d c → Lists p b d c q → p.own b c ≡ None
        → p.Confirms b d c ⊎ IsJustTold heard d c q
    pub listed_new :
        (d c : F) (q : P)
        → Lists p b d c q → p.own b c ≡ None
        → (p.cell a d c ≡ Some q) ⊎ p.Confirms b d c ⊎ IsJustTold heard d c q
    pub enters :
        p.view a < least → least ≤ p.view b
        → (d c : F) (q : P) → Lists p b d c q → p.own b c ≡ None → p.Confirms b d c
    pub sends : All (MaySend b) sent

  -- What the rest of the protocol gives where a server that is current drops a thing: who sent the
  -- LeaveOk is another server and live, holds the thing with the birth that it named, and has every
  -- cell of the replica that goes
  pub record IsSafeDrop
      (w : World N F P S) (s : ℕ) (a : N) (heard : Message F P S) (f : F) : Type 0 where
    pub other : heard.sender ≢ s
    pub live : w.live heard.sender ≡ true
    pub holds : Holds (w.nodes heard.sender) f
    pub birth :
        (n : ℕ) (q : P) → heard.says ≡ LeaveOk f n q → p.birth (w.nodes heard.sender) f ≡ n
    pub cells :
        (c : F) (q : P)
        → p.cell a f c ≡ Some q → IsToldAt (w.nodes heard.sender) f c (p.stamp q)
