-- What a clock tells, and clocks in memory.
use Rattle.std.specs.Prelude.{ℕ, zero, suc, ◌≡◌, ◌+◌, ◌-◌, ◌^◌, min, List, [], ◌∷◌, ◌++◌, length, take, get_or}

-- the moments and the words that it gave, the first of them first
pub record Told : Type 0 where
  pub moments : List ℕ
  pub words : List ℕ

-- These numbers more were given, in this order. The list takes them up to 2^64 - 1 numbers in all,
-- and then stays as it is: so all of them, where the list has room for them.
abbrev pub AreNoted : List ℕ → List ℕ → List ℕ → Type 0
AreNoted old new numbers = new ≡ old ++ take (2 ^ 64 - 1 - length old) numbers

-- numbers that are given in order, and how many were given
pub record Numbers : Type 0 where
  pub items : List ℕ
  pub made : ℕ

-- what is given with this index: behind the end the last one again, and 0 where there is none
abbrev pub item_at : List ℕ → ℕ → ℕ
item_at items index = get_or items (min index (length items - 1)) 0

-- what is given first
abbrev pub first : List ℕ → ℕ → List ℕ
first items zero = []
first items (suc n) = first items n ++ item_at items n ∷ []

-- one more was given
abbrev pub moved : Numbers → Numbers
moved numbers = record { items = numbers.items; made = min (numbers.made + 1) (2 ^ 64 - 1) }

pub record Remembered : Type 0 where
  pub moments : Numbers
  pub words : Numbers

abbrev pub fresh : List ℕ → List ℕ → Remembered
fresh moments words = record {
  moments = record { items = moments; made = 0 };
  words = record { items = words; made = 0 };
}

abbrev pub told_of : Remembered → Told
told_of clock = record {
  moments = first clock.moments.items clock.moments.made;
  words = first clock.words.items clock.words.made;
}

-- of a clock that does not tell
abbrev pub untold : Told
untold = record { moments = []; words = [] }
