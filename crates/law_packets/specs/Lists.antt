-- Lists that are not whole: their count says more than stands behind it.
use Rattle.std.specs.Prelude.{ℕ, ◌≡◌, ◌<◌, ◌≤◌, ◌⊎◌, List, [], ◌∷◌, ◌++◌, length, None}
use Rattle.std.specs.List.{flat_map}
use Rattle.pg_base.specs.declared.vector.Actor.{Actor}
use Rattle.pg_codec.specs.Spelling.{number_bytes, stamp_bytes}
use Rattle.pg_packet_fields.specs.Heads.{IsBirth, IsFrom, IsKnown, nobody, to_actor}
use Rattle.pg_packet_fields.specs.Lists.{Chain, IsLater, to_last}
use Rattle.pg_packet_fields.specs.Patches.{IsLong, IsOffset, IsPartIn, Room, to_room, whole_room}
use Rattle.pg_packet_fields.specs.Places.{IsGold, to_server}
use Rattle.pg_packet_write.specs.Fields.{gold_bytes, known_bytes, listed, part_bytes}

-- the spelling of some value that fits begins so
pub record Begins {X : Type 0} (Fits : X → Type 0) (spelling : X → List ℕ) (bytes : List ℕ)
    : Type 0 where
  pub value : X
  pub more : List ℕ
  pub fits : Fits value
  pub spelled : spelling value ≡ bytes ++ more

-- what is known behind these items
abbrev pub after : {X S : Type 0} → (S → X → S) → S → List X → S
after next state [] = state
after next state (x ∷ xs) = after next (next state x) xs

-- How a list of so many items begins, each as it has to be behind those before it: a count, fewer
-- items than it says, and nothing, the beginning of an item, or what leaves no item to come. The
-- whole list is that of the items alone.
pub record IsOpen {X S : Type 0} (size most : ℕ) (Fits : S → X → Type 0) (next : S → X → S)
    (start : S) (spelling : X → List ℕ) (LeavesNone : S → List ℕ → Type 0)
    (whole begun : List ℕ) : Type 0 where
  pub items : List X
  pub count : ℕ
  pub part : List ℕ
  pub fewer : length items < count
  pub few : count ≤ most
  pub chain : Chain Fits next start items
  pub is_whole : whole ≡ listed size spelling items
  pub is_open : begun ≡ number_bytes size count ++ (flat_map spelling items ++ part)
  pub within : (part ≡ [])
      ⊎ (Begins (Fits (after next start items)) spelling part
      ⊎ LeavesNone (after next start items) part)

abbrev pub Never : {S : Type 0} → S → List ℕ → Type 0
Never state bytes = ⊥

-- a server in its order, of which no birth is behind the last actor
pub record LeavesNoBirth (last : Actor) (bytes : List ℕ) : Type 0 where
  pub server : ℕ
  pub from : IsFrom last.server server
  pub spelled : bytes ≡ number_bytes 4 server
  pub none : (birth : ℕ) → IsBirth last server birth → ⊥

-- an offset in its order, behind which no part has room
pub record LeavesNoRoom (least : ℕ) (room : Room) (bytes : List ℕ) : Type 0 where
  pub offset : ℕ
  pub from : IsOffset room offset
  pub spelled : bytes ≡ number_bytes 4 offset
  pub none : (long : ℕ) → IsLong least room offset long → ⊥

abbrev pub AreOpenFlags : List ℕ → List ℕ → Type 0
AreOpenFlags whole begun = IsOpen 1 64 IsGold to_server 0 gold_bytes Never whole begun

abbrev pub IsOpenVector : List ℕ → List ℕ → Type 0
IsOpenVector whole begun =
    IsOpen 2 256 IsKnown to_actor nobody known_bytes LeavesNoBirth whole begun

abbrev pub AreOpenStamps : List ℕ → List ℕ → Type 0
AreOpenStamps whole begun = IsOpen 2 256 IsLater to_last None stamp_bytes Never whole begun

-- `least`, and parts behind it
pub record AreOpenParts (whole begun : List ℕ) : Type 0 where
  pub least : ℕ
  pub parts : List ℕ
  pub begun_parts : List ℕ
  pub is_open : IsOpen 4 200 (IsPartIn least) to_room whole_room part_bytes (LeavesNoRoom least)
      parts begun_parts
  pub whole_is : whole ≡ number_bytes 4 least ++ parts
  pub open_is : begun ≡ number_bytes 4 least ++ begun_parts

-- flags, actors, stamps or parts
abbrev pub Opens : List ℕ → List ℕ → Type 0
Opens whole begun = AreOpenFlags whole begun
    ⊎ (IsOpenVector whole begun ⊎ (AreOpenStamps whole begun ⊎ AreOpenParts whole begun))
