-- The house rules are the second part of a step, but for what the intentions give.
use Rattle.std.specs.Prelude.{ℕ, ◌≡◌, ◌⊎◌, None, Some}
use Rattle.pg_base.specs.declared.id.FileId.{FileId}
use Rattle.pg_base.specs.declared.stamp.Stamp.{Stamp}
use Rattle.pg_register.specs.declared.place.Place.{Place}
use Rattle.pg_msg.specs.declared.work.Work.{Work}
use Rattle.pg_names.specs.Names.{NamesValue}
use Rattle.pg_house.specs.Work.{state_of}
use Rattle.pg_house.specs.Facts.{AreByServer, IsLast, IsOfDirs}
use Rattle.pg_house.specs.House.{house}
use Rattle.theory_listing.specs.Protocol.{Protocol, Above, AtLeast, IsIn, Lists}
use Rattle.theory_listing.specs.Rule.{Holds, IsToldAt}
use Rattle.theory_listing.specs.Parts.{SecondPart}
use Rattle.theory_listing_house.specs.Listing.{Beside, HaveSamePlaces, listing_of}

module _ {N : Type 0} (see : N → NamesValue) (beside : Beside N) where
  abbrev pub Seen : Protocol N FileId Place Stamp
  Seen = listing_of see beside

  -- What the intentions give of a second part: the server held a before the event, m behind the
  -- first part, and holds b in the end
  pub record Intends (a m b : N) : Type 0 where
    pub view : beside.view b ≡ beside.view m
    pub birth : (f : FileId) → Holds Seen m f → beside.birth b f ≡ beside.birth m f
    pub past : (f : FileId) (n : ℕ) → beside.IsPast m f n → beside.IsPast b f n
    pub not_past :
        (f : FileId) (n : ℕ)
        → Holds Seen b f → beside.birth b f ≡ n → beside.IsPast b f n → ⊥
    pub patch_of :
        (d c : FileId) (q : Place)
        → beside.patch b d c ≡ Some q → IsIn Seen d c q → Seen.own b c ≡ Some q
    pub patch_begun :
        (d c : FileId) (q r : Place)
        → (Seen.own a c ≡ Some q) ⊎ (Seen.own m c ≡ Some q) → IsIn Seen d c q
        → Seen.own b c ≡ Some r → Seen.IsBelow (Seen.stamp q) (Seen.stamp r)
        → Seen.own b d ≡ None → Above Seen (Seen.stamp q) (beside.patch b d c)
    pub patch_ends :
        (d c : FileId) (q : Place)
        → beside.patch m d c ≡ Some q
        → AtLeast Seen (Seen.stamp q) (beside.patch b d c) ⊎ IsToldAt Seen b d c (Seen.stamp q)
    pub confirms :
        (d c : FileId) (q : Place)
        → beside.Confirms m d c → Lists Seen b d c q → Seen.own b c ≡ None → beside.Confirms b d c

  -- where the places in the end are those behind the rules
  abbrev pub RulesAreSecondParts : Type 0
  RulesAreSecondParts =
      (moment : ℕ) (work : Work) (a m b : N)
      → IsOfDirs (see m) → AreByServer (see m) → IsLast (see m)
      → HaveSamePlaces (house moment (state_of (see m) work)).names (see b)
      → Intends a m b → SecondPart Seen a m b
