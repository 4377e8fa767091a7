-- Things that are up to each other are the same, where no two places of one thing have one stamp
-- and no two flags of one server have one birth and number.
use Rattle.std.proofs.Common.{ℕ, ◌≡◌, ◌==◌, ◌&&◌, ◌||◌, nat_lt, false, List, Option, None, Some, refl, ap, arith}
use Rattle.std.proofs.lemmas.Bool.Decides.{nat_tests}
use Rattle.pg_run.proofs.pg_base.Orders.{UpTo-same}
use Rattle.pg_run.specs.pg_register.declared.flag.Flag.{Flag}
use Rattle.pg_run.specs.pg_register.declared.place.Place.{Place}
use Rattle.pg_run.specs.pg_register.Flag.{IsByServer, flag_of}
use Rattle.pg_run.specs.pg_register.Laws.{IsOneFlag, IsOnePlace}
use Rattle.pg_run.proofs.pg_register.ByServer.{same_flags}
use Rattle.pg_run.specs.pg_entries.declared.entry.Entry.{Entry}
use Rattle.pg_run.proofs.pg_names.Alike.{entry_of_parts}
use Rattle.pg_run.specs.theory_flood_pieces.Names.{IsEntryKnownBy}
use Rattle.pg_run.specs.theory_flood_pieces.UpTo.{AreFlagsUpTo, IsEntryUpTo, IsFlagKnownBy, IsFlagUpTo, IsPlaceUpTo}

-- ---- places

pub same_place : (p q : Place) → IsOnePlace p q → IsPlaceUpTo p q → IsPlaceUpTo q p → p ≡ q
same_place p q one up down = one (UpTo-same p.stamp q.stamp up down)

-- ---- flags

pub record SameNumbers (f g : Flag) : Type 0 where
  pub birth : f.birth ≡ g.birth
  pub number : f.number ≡ g.number

neither : (b n c m : ℕ) → (nat_lt c b || (c == b && nat_lt m n)) ≡ false
    → (nat_lt b c || (b == c && nat_lt n m)) ≡ false → b ≡ c
neither b n c m h g = grind (arith, nat_tests)

neither_number : (b n c m : ℕ) → (nat_lt c b || (c == b && nat_lt m n)) ≡ false
    → (nat_lt b c || (b == c && nat_lt n m)) ≡ false → n ≡ m
neither_number b n c m h g = grind (arith, nat_tests)

same_numbers : (f g : Flag) → IsFlagUpTo f g → IsFlagUpTo g f → SameNumbers f g
same_numbers f g up down = record {
  birth = neither f.birth f.number g.birth g.number up.1 down.1;
  number = neither_number f.birth f.number g.birth g.number up.1 down.1;
}

same_known : (o p : Option Flag) → IsOneFlag o p → IsFlagKnownBy o p → IsFlagKnownBy p o → o ≡ p
same_known None None one up down = refl
same_known None (Some g) one up down = absurd down
same_known (Some f) None one up down = absurd up
same_known (Some f) (Some g) one up down =
    let e = same_numbers f g up down in
    ap Some (one f g refl refl e.birth e.number)

pub flags_alike : (fs gs : List Flag) → IsByServer fs → IsByServer gs
    → ((m : ℕ) → IsOneFlag (flag_of fs m) (flag_of gs m)) → AreFlagsUpTo fs gs → AreFlagsUpTo gs fs
    → fs ≡ gs
flags_alike fs gs first second one up down =
    same_flags fs gs first second
    (λ m. same_known (flag_of fs m) (flag_of gs m) (one m) (up m) (down m))

-- ---- entries

-- what is asked of two cells for one child
pub record AreOneEntry (x y : Entry) : Type 0 where
  pub place : IsOnePlace x.place y.place
  pub first : IsByServer x.flags
  pub second : IsByServer y.flags
  pub flags : (m : ℕ) → IsOneFlag (flag_of x.flags m) (flag_of y.flags m)

entry_alike : (x y : Entry) → AreOneEntry x y → IsEntryUpTo x y → IsEntryUpTo y x → x ≡ y
entry_alike x y one up down =
    entry_of_parts x.child y.child x.place y.place x.flags y.flags up.child
    (same_place x.place y.place one.place up.place down.place)
    (flags_alike x.flags y.flags one.first one.second one.flags up.flags down.flags)

pub entries_alike : (o p : Option Entry)
    → ((x y : Entry) → o ≡ Some x → p ≡ Some y → AreOneEntry x y) → IsEntryKnownBy o p
    → IsEntryKnownBy p o → o ≡ p
entries_alike None None one up down = refl
entries_alike None (Some y) one up down = absurd down
entries_alike (Some x) None one up down = absurd up
entries_alike (Some x) (Some y) one up down =
    ap Some (entry_alike x y (one x y refl refl) up down)
