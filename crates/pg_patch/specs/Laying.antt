-- Laying parts down in order: the parts that are done, and the one that may still grow.
use Rattle.std.specs.Prelude.{ℕ, ◌≡◌, List, [], ◌∷◌, ◌++◌, ◌<◌, ◌≤◌, ◌&&◌, if◌then◌else◌, nat_le, nat_lt, max}
use Rattle.pg_patch.specs.declared.part.Part.{Part}
use Rattle.pg_patch.specs.declared.laying.Open.{Open}
use Rattle.pg_patch.specs.declared.laying.Open.TheVariants.{Nothing, Whole, Joined}
use Rattle.pg_patch.specs.declared.laying.Laying.{Laying}
use Rattle.pg_patch.specs.Ranges.{RangesValue, all}
use Rattle.pg_patch.specs.Parts.{byte_of, byte_or, AreInOrder}

abbrev pub opened : Open → List Part
opened Nothing = []
opened (Whole p) = p ∷ []
opened (Joined offset bytes) = record { offset = offset; bytes = bytes.items } ∷ []

-- all that was laid
abbrev pub laid : Laying → List Part
laid l = l.done.items ++ opened l.open

-- what was laid is in order and ends at `at` or before it, and where no part is open none is done
pub record IsLaid (l : Laying) (at : ℕ) : Type 0 where
  pub parts : AreInOrder 0 (laid l) at
  pub begun : opened l.open ≡ [] → l.done.items ≡ []

-- the bytes of the part from `start` to `end` were laid too
pub record Adds (old new : List Part) (p : Part) (start «end» : ℕ) : Type 0 where
  pub bytes : (index other : ℕ) → byte_or new index other
      ≡ (if nat_le start index && nat_lt index «end»
      then byte_of p index
      else byte_or old index other)

-- behind the old parts, the new ones have what the others have from one index to another, and the
-- rest has all that the others have behind it
pub record Between (old new others rest : List Part) (from to : ℕ) : Type 0 where
  pub begins : (index other : ℕ) → index < from → byte_or new index other ≡ byte_or old index other
  pub goes_on : (index other : ℕ) → from ≤ index → index < to
      → byte_or new index other ≡ byte_or others index other
  pub rest_holds : (index other : ℕ) → to ≤ index
      → byte_or others index other ≡ byte_or rest index other
  pub rest_order : AreInOrder 0 rest all

-- the upper parts over the lower ones, which are cut at the limit
pub record IsLaidOver (lower upper : RangesValue) (limit : ℕ) (new : List Part) : Type 0 where
  pub order : AreInOrder 0 new (max limit upper.least)
  pub bytes : (index other : ℕ) → byte_or new index other
      ≡ byte_or upper.parts index
      (if nat_lt index limit then byte_or lower.parts index other else other)
