-- A step in two parts: what the handler of a call or message does first, and what the house rules
-- and the intentions do behind it. Each part has facts of its own; together they are the rule.
use Rattle.std.specs.Prelude.{ℕ, ◌≡◌, ◌≤◌, ◌<◌, ◌⊎◌, List, All, None, Some}
use Rattle.theory_listing.specs.Protocol.{Protocol, Above, AtLeast, IsIn, IsOrdered, IsUpTo, Lists}
use Rattle.theory_listing.specs.World.{Message, Saying}
use Rattle.theory_listing.specs.World.Saying.{LeaveOk, Other, TellOk}
use Rattle.theory_listing.specs.Rule.{Holds, HasCell, IsJustTold, IsKnownAt, IsSettled, IsToldAt, MaySend, MayStep}

module _ {N F P S : Type 0} (p : Protocol N F P S) where
  -- no directory has a later place for the child, but one that is held back
  abbrev pub NoneLater : N → F → P → Type 0
  NoneLater m c q =
      (e : F) (r : P)
      → p.cell m e c ≡ Some r → p.IsBelow (p.stamp q) (p.stamp r) → p.IsBack m c r

  -- The first part, by the handler: a server held a, heard this, and now holds m
  -- taken: beside a directory that becomes held, a child that was live in it is listed by it, or no
  --   place of the child was touched
  pub record FirstPart (least : ℕ) (a m : N) (heard : Message F P S) : Type 0 where
    pub views : p.view a ≤ p.view m
    pub hears : (heard.says ≡ Other) ⊎ (heard.view ≡ p.view a)
    pub birth : (f : F) → Holds p a f → Holds p m f → p.birth m f ≡ p.birth a f
    pub past : (f : F) (n : ℕ) → p.IsPast a f n → p.IsPast m f n
    pub own_grows : (f : F) (q r : P) → p.own a f ≡ Some q → p.own m f ≡ Some r → IsUpTo p q r
    pub cells_grow :
        (d c : F) (q : P) → p.cell a d c ≡ Some q → Holds p m d → IsToldAt p m d c (p.stamp q)
    pub taken :
        (d c : F) (q r : P)
        → p.own a d ≡ None → Holds p m d → p.own a c ≡ Some q → IsIn p d c q → p.own m c ≡ Some r
        → HasCell p m d c ⊎ ((q ≡ r) × NoneLater m c q)
    pub patch_ends :
        (d c : F) (q : P)
        → p.patch a d c ≡ Some q
        → AtLeast p (p.stamp q) (p.patch m d c) ⊎ IsToldAt p m d c (p.stamp q)
        ⊎ (heard.says ≡ TellOk d c (p.stamp q))
    pub let_go :
        (f : F) (q : P)
        → p.own a f ≡ Some q → p.own m f ≡ None
        → p.IsPast m f (p.birth a f) × ((n : ℕ) × (heard.says ≡ LeaveOk f n q))
    pub confirm_ends :
        (d c : F) (q : P)
        → p.Confirms a d c → Lists p m d c q → p.own m c ≡ None
        → p.Confirms m d c ⊎ IsJustTold p heard d c q
    pub listed_new :
        (d c : F) (q : P)
        → Lists p m d c q → p.own m c ≡ None
        → (p.cell a d c ≡ Some q) ⊎ p.Confirms m d c ⊎ IsJustTold p heard d c q
    pub enters :
        p.view a < least → least ≤ p.view m
        → (d c : F) (q : P) → Lists p m d c q → p.own m c ≡ None → p.Confirms m d c

  -- The second part, by the house rules and the intentions: the server held a before the event, m
  -- behind the first part, and now holds b
  -- holds, gone: nothing becomes held, and nothing is let go
  -- unheld: cells for children that are not held stay
  -- parent: a held directory has in the end a cell for each held child that was live in it at the
  --   start, unless a later place was there that the child takes
  -- patch_begun: of a live place that stood before the event or behind its first part, and was
  --   replaced
  pub record SecondPart (a m b : N) : Type 0 where
    pub settled : IsSettled p b
    pub view : p.view b ≡ p.view m
    pub holds : (f : F) → Holds p m f → Holds p b f
    pub gone : (f : F) → p.own m f ≡ None → p.own b f ≡ None
    pub birth : (f : F) → Holds p m f → p.birth b f ≡ p.birth m f
    pub past : (f : F) (n : ℕ) → p.IsPast m f n → p.IsPast b f n
    pub own_grows : (f : F) (q r : P) → p.own m f ≡ Some q → p.own b f ≡ Some r → IsUpTo p q r
    pub cells_grow : (d c : F) (q : P) → p.cell m d c ≡ Some q → IsToldAt p b d c (p.stamp q)
    pub unheld : (d c : F) → p.own m c ≡ None → p.cell b d c ≡ p.cell m d c
    pub parent :
        (d c : F) (q : P)
        → p.own m c ≡ Some q → IsIn p d c q → Holds p m d → NoneLater m c q → HasCell p b d c
    pub patch_begun :
        (d c : F) (q r : P)
        → (p.own a c ≡ Some q) ⊎ (p.own m c ≡ Some q) → IsIn p d c q
        → p.own b c ≡ Some r → p.IsBelow (p.stamp q) (p.stamp r)
        → p.own b d ≡ None → Above p (p.stamp q) (p.patch b d c)
    pub patch_ends :
        (d c : F) (q : P)
        → p.patch m d c ≡ Some q
        → AtLeast p (p.stamp q) (p.patch b d c) ⊎ IsToldAt p b d c (p.stamp q)
    pub confirms :
        (d c : F) (q : P)
        → p.Confirms m d c → Lists p b d c q → p.own b c ≡ None → p.Confirms b d c

  abbrev pub PartsAreSteps : Type 0
  PartsAreSteps =
      IsOrdered p → (least : ℕ) (a m b : N) (heard : Message F P S) (sent : List (Saying F P S))
      → FirstPart least a m heard → SecondPart a m b → All (MaySend p b) sent
      → MayStep p least a b heard sent

  -- a PlaceIs or a LeaveOk tells the own place behind the first part: in the end it is known
  abbrev pub PlacesAreKnown : Type 0
  PlacesAreKnown =
      IsOrdered p → (least : ℕ) (a m b : N) (heard : Message F P S)
      → FirstPart least a m heard → SecondPart a m b
      → (d c : F) (q : P)
      → p.own m c ≡ Some q → IsIn p d c q → HasCell p m d c ⊎ NoneLater m c q
      → IsKnownAt p b d c q
