-- Words that tell which of two things holds.
use Rattle.std.specs.Prelude.{ℕ, Bool, true, false, List, codes}

-- whether a file stands at its place
abbrev pub life_word : Bool → List ℕ
life_word true = codes "live"
life_word false = codes "dead"

-- whether a flag is raised
abbrev pub raised_word : Bool → List ℕ
raised_word true = codes "raised"
raised_word false = codes "lowered"

-- whether a replica is gold
abbrev pub gold_word : Bool → List ℕ
gold_word true = codes "gold"
gold_word false = codes "bronze"

-- whether a replica has all that it asked for
abbrev pub full_word : Bool → List ℕ
full_word true = codes "full"
full_word false = codes "filling"
