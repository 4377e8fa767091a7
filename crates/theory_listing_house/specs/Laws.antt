-- What the house rules give to the listings.
use Rattle.std.specs.Prelude.{ℕ, ◌≡◌, ◌⊎◌, None, Some}
use Rattle.pg_base.specs.declared.id.FileId.{FileId}
use Rattle.pg_register.specs.declared.place.Place.{Place}
use Rattle.pg_register.specs.Place.{root}
use Rattle.pg_names.specs.Names.{NamesValue}
use Rattle.pg_house.specs.Work.{State}
use Rattle.pg_house.specs.Facts.{AreByServer, IsLast, IsLeft, IsOfDirs}
use Rattle.pg_house.specs.House.{house}
use Rattle.theory_listing.specs.Protocol.{IsIn, IsUpTo}
use Rattle.theory_listing.specs.Rule.{HasCell, Holds, IsSettled, IsToldAt}
use Rattle.theory_listing.specs.Parts.{NoneLater}
use Rattle.theory_listing.specs.Laws.{climb}
use Rattle.theory_listing_house.specs.Listing.{listing}

-- only held directories have cells; a cell for a held child has the child's own place, or a later
-- one that is held back; and a held directory has a cell for each held child that is live in it
abbrev pub SettledBehind : Type 0
SettledBehind =
    (moment : ℕ) (st : State) → IsOfDirs st.names → AreByServer st.names
    → IsSettled listing (house moment st).names

-- a held directory has in the end a cell for each held child that was live in it at the start,
-- unless a later place was there that the child takes
abbrev pub ParentsAtStart : Type 0
ParentsAtStart =
    (moment : ℕ) (st : State) → IsOfDirs st.names → AreByServer st.names
    → (d c : FileId) (q : Place)
    → listing.own st.names c ≡ Some q → IsIn listing d c q → Holds listing st.names d
    → NoneLater listing st.names c q → HasCell listing (house moment st).names d c

-- cells stay, and none goes to an earlier stamp
abbrev pub CellsGrow : Type 0
CellsGrow =
    (moment : ℕ) (st : State) → IsOfDirs st.names → AreByServer st.names → IsLast st.names
    → (d c : FileId) (q : Place)
    → listing.cell st.names d c ≡ Some q → IsToldAt listing (house moment st).names d c q.stamp

-- what is held stays held, with the same place or one of a later stamp
abbrev pub OwnPlacesGrow : Type 0
OwnPlacesGrow =
    (moment : ℕ) (st : State) → IsOfDirs st.names → AreByServer st.names → IsLast st.names
    → (f : FileId) (q : Place)
    → listing.own st.names f ≡ Some q
    → (r : Place) × (listing.own (house moment st).names f ≡ Some r) × IsUpTo listing q r

-- what is not held in the end was not held before, and its cells are as they were
abbrev pub UnheldStay : Type 0
UnheldStay =
    (moment : ℕ) (st : State) (f : FileId)
    → listing.own (house moment st).names f ≡ None
    → (listing.own st.names f ≡ None)
    × ((d : FileId) → listing.cell (house moment st).names d f ≡ listing.cell st.names d f)

-- nothing becomes held
abbrev pub NothingBegins : Type 0
NothingBegins =
    (moment : ℕ) (st : State) (f : FileId)
    → listing.own st.names f ≡ None → listing.own (house moment st).names f ≡ None

-- where the place of a thing is a later one in the end, it is noted that it left the directory in
-- which it was live at the start
abbrev pub ReplacedAreNoted : Type 0
ReplacedAreNoted =
    (moment : ℕ) (st : State) (d c : FileId) (q r : Place)
    → listing.own st.names c ≡ Some q → IsIn listing d c q
    → listing.own (house moment st).names c ≡ Some r
    → listing.IsBelow (listing.stamp q) (listing.stamp r)
    → IsLeft (house moment st).work d c

-- it is the root, or it is not held live
abbrev pub IsOutside : NamesValue → FileId → Type 0
IsOutside names f =
    (f ≡ root) ⊎ ((q : Place) → listing.own names f ≡ Some q → listing.IsLive q → ⊥)

-- a climb from the thing comes there
abbrev pub ComesOut : NamesValue → FileId → Type 0
ComesOut names f = (n : ℕ) × IsOutside names (climb listing names f n)

-- from each thing a climb comes out, so there is no cycle
abbrev pub ClimbsComeOut : Type 0
ClimbsComeOut =
    (moment : ℕ) (st : State) → IsOfDirs st.names → AreByServer st.names → IsLast st.names
    → (f : FileId) → ComesOut (house moment st).names f
