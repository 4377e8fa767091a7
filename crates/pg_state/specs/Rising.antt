-- Stamps one behind another.
use Rattle.std.specs.Prelude.{List, Option, None, Some}
use Rattle.pg_base.specs.declared.stamp.Stamp.{Stamp}
use Rattle.pg_base.specs.Stamp.{IsBefore}
use Rattle.pg_packet_write.specs.Fits.{Rise, RiseBehind}

-- the stamp comes behind the other, if there is one
abbrev pub Follows : Option Stamp → Stamp → Type 0
Follows None stamp = Unit {0}
Follows (Some before) stamp = IsBefore before stamp

-- each before the next, and the first behind the other, if there is one
abbrev pub RiseFrom : Option Stamp → List Stamp → Type 0
RiseFrom None stamps = Rise stamps
RiseFrom (Some before) stamps = RiseBehind before stamps
