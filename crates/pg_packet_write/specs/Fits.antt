-- What has a spelling in a packet. Numbers have their widths by their types.
use Rattle.std.specs.Prelude.{ℕ, ◌≡◌, ◌+◌, ◌^◌, ◌<◌, ◌≤◌, List, [], ◌∷◌, length}
use Rattle.std.specs.List.{AllByRecursion}
use Rattle.pg_base.specs.declared.head.Head.{Head}
use Rattle.pg_base.specs.declared.stamp.Stamp.{Stamp}
use Rattle.pg_base.specs.declared.vector.Actor.{Actor}
use Rattle.pg_base.specs.Stamp.{IsBefore}
use Rattle.pg_base.specs.Version.{VersionValue}
use Rattle.pg_register.specs.declared.flag.Flag.{Flag}
use Rattle.pg_entries.specs.declared.entry.Entry.{Entry}
use Rattle.pg_entries.specs.declared.cell.Cell.{Cell}
use Rattle.pg_entries.specs.declared.cell.Cell.TheVariants as cell
use Rattle.pg_edges.specs.declared.key.Key.{Key}
use Rattle.pg_edges.specs.declared.key.Key.TheVariants as key
use Rattle.pg_patch.specs.declared.part.Part.{Part}
use Rattle.pg_patch.specs.Ranges.{RangesValue}
use Rattle.pg_words.specs.PlaceWords.{IsPlace}

-- servers have the numbers 1 to 64
pub record IsServer (server : ℕ) : Type 0 where
  pub least : 1 ≤ server
  pub most : server ≤ 64

-- at most 64 flags, each of a server
pub record FitGolds (flags : List Flag) : Type 0 where
  pub few : length flags ≤ 64
  pub each : AllByRecursion (λ (flag : Flag). IsServer flag.server) flags

pub record FitsEntry (e : Entry) : Type 0 where
  pub place : IsPlace e.place
  pub flags : FitGolds e.flags

-- at most 256 actors, each of a server
pub record FitsVector (vector : List (Actor × ℕ)) : Type 0 where
  pub few : length vector ≤ 256
  pub each : AllByRecursion (λ (known : Actor × ℕ). IsServer known.0.server) vector

-- versions of an actor are numbered from 1 on
pub record FitsHead (h : Head) : Type 0 where
  pub number : 1 ≤ h.number
  pub vector : FitsVector h.vector

-- a body of at most 1,024 bytes, of the length that the head names
pub record FitsVersion (v : VersionValue) : Type 0 where
  pub head : FitsHead v.head
  pub short : v.head.length ≤ 1024
  pub body : length v.body ≡ v.head.length

-- how many bytes the parts have together
abbrev pub laid : List Part → ℕ
laid [] = 0
laid (p ∷ ps) = length p.bytes + laid ps

-- at most 200 parts, of at most 30,000 bytes together
pub record FitsRanges (r : RangesValue) : Type 0 where
  pub few : length r.parts ≤ 200
  pub short : laid r.parts ≤ 30000

-- each before the next
abbrev pub RiseBehind : Stamp → List Stamp → Type 0
RiseBehind stamp [] = Unit {0}
RiseBehind stamp (next ∷ stamps) = IsBefore stamp next × RiseBehind next stamps

abbrev pub Rise : List Stamp → Type 0
Rise [] = Unit {0}
Rise (stamp ∷ stamps) = RiseBehind stamp stamps

-- at most 256 stamps, each before the next
pub record FitStamps (stamps : List Stamp) : Type 0 where
  pub few : length stamps ≤ 256
  pub rise : Rise stamps

-- the server of a flag is one
abbrev pub FitsKey : Key → Type 0
FitsKey key.Place = Unit {0}
FitsKey (key.Flag server) = IsServer server
FitsKey (key.Entry child) = Unit {0}
FitsKey (key.Version stamp) = Unit {0}

abbrev pub FitsCell : Cell → Type 0
FitsCell (cell.Place place) = IsPlace place
FitsCell (cell.Flag flag) = IsServer flag.server
FitsCell (cell.Entry entry sure) = FitsEntry entry
FitsCell (cell.Version version) = FitsVersion version

-- bytes whose number takes so many bytes
pub record FitsCount (width : ℕ) (bytes : List ℕ) : Type 0 where
  pub short : length bytes < 256 ^ width
