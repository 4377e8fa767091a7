-- What a command does, in one record for each kind of command, and what it leaves alone.
use Rattle.std.specs.Prelude.{ℕ, ◌≡◌, ◌≢◌, ◌≤◌, ◌⊎◌, ◌↔◌, List, Some, IfSome, length}
use Rattle.std.specs.Io.KnownBytes.{Appends, IsAtEnd}
use Rattle.std.specs.declared.option.Option.{Option}
use Rattle.pg_program.specs.Ending.{EndsOnly, FirstBadIs, IsCallEnd, IsFileEnd, IsTextEnd}
use Rattle.pg_program.specs.Outside.{Answers, Does, IsSafe}
use Rattle.pg_program.specs.Seen.{Seen}
use Rattle.pg_program.specs.Written.{AppendsPrefix, IsGoodInput, IsTooLong, WritesAll, WritesPrefix, handed, most_input}
use Rattle.pg_call.specs.declared.fault.Fault.{Fault}
use Rattle.pg_command.specs.Words.{Asks, IsFault, Words}
use Rattle.pg_command.specs.declared.command.Command.{Command}
use Rattle.pg_command.specs.declared.command.Command.TheVariants.{Replay, Make, Soak, Node, Call, Help}
use Rattle.pg_event.specs.declared.status.Status.{Status}
use Rattle.pg_event.specs.declared.status.Status.TheVariants as status
use Rattle.pg_host.specs.Causes.{IsEnd}
use Rattle.pg_io.specs.Causes.{Rose}
use Rattle.pg_make.specs.Made.{made_text}
use Rattle.pg_meter.specs.declared.meter.Reading.{Reading}
use Rattle.pg_replay.specs.Soaking.{soak_text}
use Rattle.pg_sched.specs.Schedule.{IsFirstBad}

-- a schedule is read, and the journal of its run is written
pub record Replays (meters : List Reading) (s : Status) (a b : Seen) : Type 0 where
  pub done : s ≡ status.Done → WritesAll meters a.input a.output b.output
  pub whole : s ≡ status.Done → IsAtEnd b.input
  pub whole_first : s ≡ status.WriteFault → IsAtEnd b.input
  pub prefix : s ≡ status.WriteFault → WritesPrefix meters a.input a.output b.output
  pub read : s ≡ status.ReadFault → Rose a.read_faults b.read_faults
  pub write : s ≡ status.WriteFault → Rose a.write_faults b.write_faults
  pub long : s ≡ status.InputLong → IfSome a.input IsTooLong
  pub short : (input : List ℕ) → a.input ≡ Some input → IsTooLong input
      → (Rose a.read_faults b.read_faults → ⊥) → EndsOnly s status.InputLong
  pub bad : (n : ℕ) (f : Fault) → s ≡ status.BadLine n f → FirstBadIs a.input n f
  pub whole_bad : (n : ℕ) (f : Fault) → s ≡ status.BadLine n f → IsAtEnd b.input
  pub first_bad : (input : List ℕ) (n : ℕ) (f : Fault) → a.input ≡ Some input
      → length input ≤ most_input → IsFirstBad input n f
      → (Rose a.read_faults b.read_faults → ⊥) → EndsOnly s (status.BadLine n f)
  pub complete : IsGoodInput a.input → (Rose a.read_faults b.read_faults → ⊥)
      → (Rose a.write_faults b.write_faults → ⊥) → EndsOnly s status.Done
  pub ends : IsFileEnd s

-- such a text is written
pub record WritesText (IsText : List ℕ → Type 0) (s : Status) (a b : Seen) : Type 0 where
  pub done : s ≡ status.Done → (text : List ℕ) × IsText text × Appends a.output b.output text
  pub prefix : s ≡ status.WriteFault
      → (text : List ℕ) × IsText text × AppendsPrefix a.output b.output text
  pub write : s ≡ status.WriteFault → Rose a.write_faults b.write_faults
  pub complete : (Rose a.write_faults b.write_faults → ⊥) → EndsOnly s status.Done
  pub ends : IsTextEnd s

pub record Nodes (nt ct dt : Type 0) (command : Command) (s : Status) (a b : Seen) : Type 0 where
  pub does : Does nt ct dt command s a.net b.net a.takes b.takes a.clock b.clock a.disk b.disk
      a.output b.output
  pub safe : IsSafe nt dt command a.net b.net a.disk b.disk
  pub answers : dt → Answers command a.net_faults b.net_faults a.disk_faults b.disk_faults a.disk s
  pub ends : IsEnd a.net_faults b.net_faults a.disk_faults b.disk_faults s

pub record Calls (nt ct dt : Type 0) (command : Command) (s : Status) (a b : Seen) : Type 0 where
  pub does : Does nt ct dt command s a.net b.net a.takes b.takes a.clock b.clock a.disk b.disk
      a.output b.output
  pub net : s ≡ status.NetFault → Rose a.net_faults b.net_faults
  pub write : s ≡ status.WriteFault → Rose a.write_faults b.write_faults
  pub ends : IsCallEnd s

-- `nt`, `ct` and `dt` say that net, clock and disk tell
abbrev pub Acts : (nt ct dt : Type 0) → Command → List Reading → Status → Seen → Seen → Type 0
Acts nt ct dt (Replay metered) meters s a b = Replays (handed metered meters) s a b
Acts nt ct dt (Make n) meters s a b =
    WritesText (λ text. text ≡ made_text n.seed n.servers n.events) s a b
Acts nt ct dt (Soak n) meters s a b =
    WritesText (λ text. text ≡ soak_text n.seed n.servers n.events) s a b
Acts nt ct dt (Node server servers port name turns) meters s a b =
    Nodes nt ct dt (Node server servers port name turns) s a b
Acts nt ct dt (Call server port request) meters s a b =
    Calls nt ct dt (Call server port request) s a b
Acts nt ct dt (Help help) meters s a b = WritesText (λ text. Unit {0}) s a b

-- what a command leaves alone of source, sink, net, disk and clock
abbrev pub Keeps : {S K N D C : Type 0} → Command → Status → (s0 s1 : S) → (k0 k1 : K)
    → (n0 n1 : N) → (d0 d1 : D) → (c0 c1 : C) → Type 0
Keeps (Replay metered) s s0 s1 k0 k1 n0 n1 d0 d1 c0 c1 =
    (n1 ≡ n0) × (d1 ≡ d0) × (c1 ≡ c0) × (s ≢ status.Done → s ≢ status.WriteFault → k1 ≡ k0)
Keeps (Make numbers) s s0 s1 k0 k1 n0 n1 d0 d1 c0 c1 = (s1 ≡ s0) × (n1 ≡ n0) × (d1 ≡ d0)
    × (c1 ≡ c0) × (s ≢ status.Done → s ≢ status.WriteFault → k1 ≡ k0)
Keeps (Soak numbers) s s0 s1 k0 k1 n0 n1 d0 d1 c0 c1 = (s1 ≡ s0) × (n1 ≡ n0) × (d1 ≡ d0)
    × (c1 ≡ c0) × (s ≢ status.Done → s ≢ status.WriteFault → k1 ≡ k0)
Keeps (Node server servers port name turns) s s0 s1 k0 k1 n0 n1 d0 d1 c0 c1 =
    (s1 ≡ s0) × (k1 ≡ k0)
Keeps (Call server port request) s s0 s1 k0 k1 n0 n1 d0 d1 c0 c1 =
    (s1 ≡ s0) × (d1 ≡ d0) × (c1 ≡ c0)
Keeps (Help help) s s0 s1 k0 k1 n0 n1 d0 d1 c0 c1 = (s1 ≡ s0) × (n1 ≡ n0) × (d1 ≡ d0)
    × (c1 ≡ c0) × (s ≢ status.Done → s ≢ status.WriteFault → k1 ≡ k0)

-- WHAT A COMMAND DOES, and what it leaves alone
pub record Obeys {S K N D C : Type 0} (nt ct dt : Type 0) (command : Command)
    (meters : List Reading) (s : Status) (a b : Seen) (s0 s1 : S) (k0 k1 : K) (n0 n1 : N)
    (d0 d1 : D) (c0 c1 : C) : Type 0 where
  pub acts : Acts nt ct dt command meters s a b
  pub keeps : Keeps command s s0 s1 k0 k1 n0 n1 d0 d1 c0 c1

-- WHAT IS DONE FOR WORDS. Where they ask for nothing, or memory ran out before that was known,
-- nothing is done.
pub record Heeds {S K N D C : Type 0} (nt ct dt : Type 0) (words : Words) (meters : List Reading)
    (s : Status) (a b : Seen) (s0 s1 : S) (k0 k1 : K) (n0 n1 : N) (d0 d1 : D) (c0 c1 : C)
    : Type 0 where
  pub obeys : (command : Command) → Asks words command
      → Obeys nt ct dt command meters s a b s0 s1 k0 k1 n0 n1 d0 d1 c0 c1
  pub usage : (n : ℕ) → s ≡ status.Usage n ↔ IsFault words n
  pub other : ((command : Command) × Asks words command)
      ⊎ (((s ≡ status.OutOfMemory) ⊎ ((n : ℕ) × (s ≡ status.Usage n)))
      × (s1 ≡ s0) × (k1 ≡ k0) × (n1 ≡ n0) × (d1 ≡ d0) × (c1 ≡ c0))
