-- The kinds of meters: what they are spelled as.
use Rattle.std.specs.Prelude.{ℕ, List, codes}
use Rattle.pg_event.specs.declared.meter.MeterKind.{MeterKind}
use Rattle.pg_event.specs.declared.meter.MeterKind.TheVariants.{Packets, Bodies, Repeats}

abbrev pub meter_word : MeterKind → List ℕ
meter_word Packets = codes "packets"
meter_word Bodies = codes "bodies"
meter_word Repeats = codes "repeats"
