-- What contracts see of the outside at one moment.
use Rattle.std.specs.Prelude.{ℕ, List}
use Rattle.std.specs.declared.option.Option.{Option}
use Rattle.pg_disk.specs.Told.{Told as DiskTold}
use Rattle.pg_net.specs.Clock.{Told as ClockTold}
use Rattle.pg_net.specs.Net.{Told as NetTold}

-- What is left to read, what was written, what net, disk and clock told, how many takes answered,
-- and how many calls failed.
pub record Seen : Type 0 where
  pub input : Option (List ℕ)
  pub output : Option (List ℕ)
  pub net : NetTold
  pub takes : ℕ
  pub disk : DiskTold
  pub clock : ClockTold
  pub read_faults : ℕ
  pub write_faults : ℕ
  pub net_faults : ℕ
  pub disk_faults : ℕ

abbrev pub seen : Option (List ℕ) → ℕ → Option (List ℕ) → ℕ → NetTold → ℕ → ℕ → DiskTold → ℕ
    → ClockTold → Seen
seen input read_faults output write_faults net takes net_faults disk disk_faults clock = record {
  input = input;
  output = output;
  net = net;
  takes = takes;
  disk = disk;
  clock = clock;
  read_faults = read_faults;
  write_faults = write_faults;
  net_faults = net_faults;
  disk_faults = disk_faults;
}
