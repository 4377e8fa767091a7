-- Which cells are up to others.
use Rattle.std.proofs.Common.{ℕ, ◌≡◌, ◌==◌, ◌&&◌, ◌||◌, nat_lt, false, List, Option, None, Some, refl, ◌∙◌, arith}
use Rattle.std.proofs.lemmas.Bool.Decides.{nat_tests}
use Rattle.pg_base.proofs.Orders.{UpTo-refl, UpTo-trans}
use Rattle.pg_content.proofs.Covering.{upto_itself, upto_trans}
use Rattle.theory_flood.specs.Protocol.{IsOrdered}
use Rattle.pg_register.specs.declared.flag.Flag.{Flag}
use Rattle.pg_register.specs.Flag.{flag_of}
use Rattle.pg_register.proofs.ByServer.{not_older}
use Rattle.pg_entries.specs.declared.cell.Cell.{Cell}
use Rattle.pg_entries.specs.declared.cell.Cell.TheVariants as cell
use Rattle.pg_entries.specs.declared.entry.Entry.{Entry}
use Rattle.theory_flood_pieces.specs.Seen.{standing}
use Rattle.theory_flood_pieces.specs.UpTo.{AreFlagsUpTo, IsEntryUpTo, IsFlagKnownBy, IsFlagUpTo, IsUpTo}

-- ---- flags

pub flag_itself : (f : Flag) → IsFlagUpTo f f
flag_itself f = (refl, not_older f)

older_by : (b n c m d k : ℕ) → (nat_lt c b || (c == b && nat_lt m n)) ≡ false → (nat_lt d c || (d == c && nat_lt k m)) ≡ false → (nat_lt d b || (d == b && nat_lt k n)) ≡ false
older_by b n c m d k h g = grind (arith, nat_tests)

pub flag_further : (f g h : Flag) → IsFlagUpTo f g → IsFlagUpTo g h → IsFlagUpTo f h
flag_further f g h one two = (one.0 ∙ two.0, older_by f.birth f.number g.birth g.number h.birth h.number one.1 two.1)

pub known_itself : (o : Option Flag) → IsFlagKnownBy o o
known_itself None = tt
known_itself (Some f) = flag_itself f

pub known_further : (o p q : Option Flag) → IsFlagKnownBy o p → IsFlagKnownBy p q → IsFlagKnownBy o q
known_further None p q one two = tt
known_further (Some f) None q one two = absurd one
known_further (Some f) (Some g) None one two = absurd two
known_further (Some f) (Some g) (Some h) one two = flag_further f g h one two

pub flags_themselves : (fs : List Flag) → AreFlagsUpTo fs fs
flags_themselves fs n = known_itself (flag_of fs n)

pub flags_further : (fs gs hs : List Flag) → AreFlagsUpTo fs gs → AreFlagsUpTo gs hs → AreFlagsUpTo fs hs
flags_further fs gs hs one two n = known_further (flag_of fs n) (flag_of gs n) (flag_of hs n) (one n) (two n)

-- ---- entries

pub entry_itself : (e : Entry) → IsEntryUpTo e e
entry_itself e = record { child = refl; place = UpTo-refl e.place.stamp; flags = flags_themselves e.flags }

pub entry_further : (a b c : Entry) → IsEntryUpTo a b → IsEntryUpTo b c → IsEntryUpTo a c
entry_further a b c one two = record {
  child = one.child ∙ two.child;
  place = UpTo-trans a.place.stamp b.place.stamp c.place.stamp one.place two.place;
  flags = flags_further a.flags b.flags c.flags one.flags two.flags;
}

-- ---- cells

pub cell_itself : (c : Cell) → IsUpTo c c
cell_itself (cell.Place a) = UpTo-refl a.stamp
cell_itself (cell.Flag a) = flag_itself a
cell_itself (cell.Entry a sure) = entry_itself a
cell_itself (cell.Version a) = upto_itself a.head.vector

pub cell_further : (a b c : Cell) → IsUpTo a b → IsUpTo b c → IsUpTo a c
cell_further (cell.Place a) (cell.Place b) (cell.Place c) h k = UpTo-trans a.stamp b.stamp c.stamp h k
cell_further (cell.Flag a) (cell.Flag b) (cell.Flag c) h k = flag_further a b c h k
cell_further (cell.Entry a s) (cell.Entry b t) (cell.Entry c u) h k = entry_further a b c h k
cell_further (cell.Version a) (cell.Version b) (cell.Version c) h k = upto_trans a.head.vector b.head.vector c.head.vector h k
cell_further (cell.Place a) (cell.Flag b) c h k = absurd h
cell_further (cell.Place a) (cell.Entry b t) c h k = absurd h
cell_further (cell.Place a) (cell.Version b) c h k = absurd h
cell_further (cell.Flag a) (cell.Place b) c h k = absurd h
cell_further (cell.Flag a) (cell.Entry b t) c h k = absurd h
cell_further (cell.Flag a) (cell.Version b) c h k = absurd h
cell_further (cell.Entry a s) (cell.Place b) c h k = absurd h
cell_further (cell.Entry a s) (cell.Flag b) c h k = absurd h
cell_further (cell.Entry a s) (cell.Version b) c h k = absurd h
cell_further (cell.Version a) (cell.Place b) c h k = absurd h
cell_further (cell.Version a) (cell.Flag b) c h k = absurd h
cell_further (cell.Version a) (cell.Entry b t) c h k = absurd h
cell_further (cell.Place a) (cell.Place b) (cell.Flag c) h k = absurd k
cell_further (cell.Place a) (cell.Place b) (cell.Entry c u) h k = absurd k
cell_further (cell.Place a) (cell.Place b) (cell.Version c) h k = absurd k
cell_further (cell.Flag a) (cell.Flag b) (cell.Place c) h k = absurd k
cell_further (cell.Flag a) (cell.Flag b) (cell.Entry c u) h k = absurd k
cell_further (cell.Flag a) (cell.Flag b) (cell.Version c) h k = absurd k
cell_further (cell.Entry a s) (cell.Entry b t) (cell.Place c) h k = absurd k
cell_further (cell.Entry a s) (cell.Entry b t) (cell.Flag c) h k = absurd k
cell_further (cell.Entry a s) (cell.Entry b t) (cell.Version c) h k = absurd k
cell_further (cell.Version a) (cell.Version b) (cell.Place c) h k = absurd k
cell_further (cell.Version a) (cell.Version b) (cell.Flag c) h k = absurd k
cell_further (cell.Version a) (cell.Version b) (cell.Entry c u) h k = absurd k

pub in_order : IsOrdered standing
in_order = record { same = cell_itself; further = cell_further }
