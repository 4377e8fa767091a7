-- Where bytes stop being a state, said by what states there are, and not by how they are read.
use Rattle.std.specs.Prelude.{ℕ, ◌≡◌, ◌<◌, ◌≤◌, false, List, ◌++◌, length}
use Rattle.pg_state.specs.Spelling.{state_bytes}
use Rattle.pg_store.specs.declared.store.Store.{Store}
use Rattle.pg_state_read.specs.Built.{IsWholeState}
use Rattle.pg_state_read.specs.Spelling.{marked_spelling}
use Rattle.pg_state_read.specs.Whole.{AreParts, are_in_time, last_place}
use Rattle.pg_state_read.specs.declared.parts.Parts.{Parts}

-- some state begins so
pub record BeginsState (bytes : List ℕ) : Type 0 where
  pub store : Store
  pub more : List ℕ
  pub whole : IsWholeState store
  pub spelled : state_bytes store ≡ bytes ++ more

-- the field at the place is one with which no state begins so
pub record IsBadAt (bytes : List ℕ) (place : ℕ) : Type 0 where
  pub before : List ℕ
  pub field : List ℕ
  pub rest : List ℕ
  pub parts : bytes ≡ before ++ (field ++ rest)
  pub at : place ≡ length before
  pub some : 0 < length field
  pub none : BeginsState (before ++ field) → ⊥

-- The bytes end at the place, in a field of which there are not all bytes: each state that begins
-- as before the field has at least so many bytes behind that.
pub record IsShortAt (bytes : List ℕ) (place : ℕ) : Type 0 where
  pub before : List ℕ
  pub field : List ℕ
  pub least : ℕ
  pub parts : bytes ≡ before ++ field
  pub at : place ≡ length bytes
  pub fewer : length field < least
  pub each : (store : Store) (more : List ℕ) → IsWholeState store
      → state_bytes store ≡ before ++ more → least ≤ length more

-- the parts of a state end at the place, and more stands behind them
pub record EndsAt (bytes : List ℕ) (place : ℕ) : Type 0 where
  pub parts : Parts
  pub rest : List ℕ
  pub whole : AreParts parts
  pub spelled : bytes ≡ marked_spelling parts ++ rest
  pub at : place ≡ length (marked_spelling parts)
  pub some : 0 < length rest

-- the parts of a state, of which one has a later time than the greatest one, which is at the place
pub record IsLateAt (bytes : List ℕ) (place : ℕ) : Type 0 where
  pub parts : Parts
  pub whole : AreParts parts
  pub spelled : bytes ≡ marked_spelling parts
  pub late : are_in_time parts ≡ false
  pub at : place ≡ last_place parts.servers
