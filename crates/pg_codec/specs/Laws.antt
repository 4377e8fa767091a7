-- What holds of a field that is written and read.
use Rattle.std.specs.Prelude.{◌≡◌, ℕ, ◌+◌, ◌^◌, ◌<◌, List, ◌++◌, length, slice_index, Ok}
use Rattle.pg_base.specs.declared.stamp.Stamp.{Stamp}
use Rattle.pg_codec.specs.Unread.{Unread}
use Rattle.pg_codec.specs.Reading.{Field}

-- each is below 256
abbrev pub AreBytes : List ℕ → Type 0
AreBytes bytes = (i : ℕ) → slice_index bytes i < 256

-- these bytes were read
pub record Takes (from : Unread) (bytes : List ℕ) (to : Unread) : Type 0 where
  pub parts : from.rest ≡ bytes ++ to.rest
  pub place : to.place ≡ from.place + length bytes
  pub width : AreBytes to.rest

-- What is read is a value that fits, and its one spelling was taken. A value that fits is read
-- again from its spelling, whatever follows.
pub record IsField {X E : Type 0} (Fits : X → Type 0) (spelling : X → List ℕ)
    (read : Field E X) : Type 0 where
  pub takes : (from : Unread) (x : X × Unread) → AreBytes from.rest → read from ≡ Ok x
      → Fits x.0 × Takes from (spelling x.0) x.1
  pub again : (x : X) (place : ℕ) (rest : List ℕ) → Fits x
      → read (record { place = place; rest = spelling x ++ rest })
      ≡ Ok (x, record { place = place + length (spelling x); rest = rest })

-- below 2 to the number of its bits
abbrev pub HasWidth : ℕ → ℕ → Type 0
HasWidth width n = n < 256 ^ width

-- every value
abbrev pub Any : {X : Type 0} → X → Type 0
Any x = Unit {0}

pub record HasStampWidth (s : Stamp) : Type 0 where
  pub time : s.time < 2 ^ 64
  pub server : s.server < 2 ^ 32
