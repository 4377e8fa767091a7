-- What messages tell of versions and their bodies, and when it is true.
use Rattle.std.specs.Prelude.{ℕ, ◌≡◌, List, length, take, drop}
use Rattle.pg_base.specs.declared.head.Head.{Head}
use Rattle.pg_base.specs.declared.id.FileId.{FileId}
use Rattle.pg_base.specs.declared.stamp.Stamp.{Stamp}
use Rattle.pg_base.specs.Version.{VersionValue}
use Rattle.pg_patch.specs.Ranges.{RangesValue}
use Rattle.pg_delta.specs.Leading.{IsTrueDelta}
use Rattle.pg_delta.specs.Taking.{delta_to}
use Rattle.theory_bodies.specs.Book.{Book, IsHeadIn, IsVersionIn, body_in}

-- Announces: a harbinger of a version, from one server to another, under a tag; 0 where its sender
--   only heard of it
-- Brings: a version, whole
-- Gives: bytes of its body from an offset on, from a server
-- Changes: its body as a change of what these heads show, from a server
pub data Telling : Type 0 where
  Announces : (from to : ℕ) (file : FileId) (tag : ℕ) (head : Head) → Telling
  Brings : (file : FileId) (version : VersionValue) → Telling
  Gives : (from : ℕ) (file : FileId) (head : Head) (offset : ℕ) (bytes : List ℕ) → Telling
  Changes : (from : ℕ) (file : FileId) (head : Head) (bases : List Stamp) (ranges : RangesValue)
      → Telling
  Silent : Telling

-- these bytes stand at the offset
abbrev pub IsSlice : List ℕ → ℕ → List ℕ → Type 0
IsSlice body offset bytes = bytes ≡ take (length bytes) (drop offset body)

-- what is told is so, by the histories
abbrev pub IsTrue : Book → Telling → Type 0
IsTrue b (Announces from to file tag head) = IsHeadIn b file head
IsTrue b (Brings file version) = IsVersionIn b file version
IsTrue b (Gives from file head offset bytes) =
    IsHeadIn b file head × IsSlice (body_in b file head.stamp) offset bytes
IsTrue b (Changes from file head bases ranges) =
    IsHeadIn b file head
    × IsTrueDelta (b.policy file) (b.made file) (delta_to bases head.stamp ranges)
IsTrue b Silent = Unit {0}
