-- What is said of any command, by what is said of each kind.
use Rattle.std.proofs.Common.{ℕ, ◌≡◌, ◌⊎◌, List, inl, inr, sym, subst, IfSome}
use Rattle.std.specs.Io.KnownBytes.{Appends, IsAtEnd}
use Rattle.pg_program.proofs.Nodes.{disk_cause, net_cause, node_end}
use Rattle.pg_program.specs.Acts.{Acts, Calls, Nodes, Replays, WritesText}
use Rattle.pg_program.specs.Ending.{FirstBadIs, IsCallEnd, IsFileEnd, IsNodeEnd, IsTextEnd}
use Rattle.pg_program.specs.Outside.{Answers, Does, IsSafe}
use Rattle.pg_program.specs.Seen.{Seen}
use Rattle.pg_program.specs.Written.{AppendsPrefix, IsTooLong, Writes, WritesFront, handed}
use Rattle.pg_call.specs.declared.fault.Fault.{Fault}
use Rattle.pg_command.specs.Words.{Asks, AsksForCall, AsksForNode, IsOfNode, Words}
use Rattle.pg_command.specs.declared.command.Command.{Command}
use Rattle.pg_command.specs.declared.command.Command.TheVariants.{Replay, Make, Soak, Node, Call, Help}
use Rattle.pg_event.specs.declared.status.Status.{Status}
use Rattle.pg_event.specs.declared.status.Status.TheVariants as status
use Rattle.pg_host.specs.Causes.{IsEnd}
use Rattle.pg_io.specs.Causes.{Rose}
use Rattle.pg_meter.specs.declared.meter.Reading.{Reading}

-- ---- what is written

pub writes : (nt ct dt : Type 0) (c : Command) (meters : List Reading) (s : Status) (a b : Seen)
    → Acts nt ct dt c meters s a b
    → s ≡ status.Done
    → Writes c meters a.input a.output b.output
writes nt ct dt (Replay metered) meters s a b h e = h.done e
writes nt ct dt (Make n) meters s a b h e = let x = h.done e in subst (λ t. Appends a.output b.output t) x.1 x.2
writes nt ct dt (Soak n) meters s a b h e = let x = h.done e in subst (λ t. Appends a.output b.output t) x.1 x.2
writes nt ct dt (Node server servers port name turns) meters s a b h e = tt
writes nt ct dt (Call server port request) meters s a b h e = tt
writes nt ct dt (Help help) meters s a b h e = let x = h.done e in (x.0, x.2)

pub fronts : (nt ct dt : Type 0) (c : Command) (meters : List Reading) (s : Status) (a b : Seen)
    → Acts nt ct dt c meters s a b
    → s ≡ status.WriteFault
    → WritesFront c meters a.input a.output b.output
fronts nt ct dt (Replay metered) meters s a b h e = h.prefix e
fronts nt ct dt (Make n) meters s a b h e =
    let x = h.prefix e in subst (λ t. AppendsPrefix a.output b.output t) x.1 x.2
fronts nt ct dt (Soak n) meters s a b h e =
    let x = h.prefix e in subst (λ t. AppendsPrefix a.output b.output t) x.1 x.2
fronts nt ct dt (Node server servers port name turns) meters s a b h e = tt
fronts nt ct dt (Call server port request) meters s a b h e = tt
fronts nt ct dt (Help help) meters s a b h e = let x = h.prefix e in (x.0, x.2)

-- ---- what is done on net, disk and clock

pub does : (nt ct dt : Type 0) (c : Command) (meters : List Reading) (s : Status) (a b : Seen)
    → Acts nt ct dt c meters s a b
    → Does nt ct dt c s a.net b.net a.takes b.takes a.clock b.clock a.disk b.disk a.output b.output
does nt ct dt (Replay metered) meters s a b h = tt
does nt ct dt (Make n) meters s a b h = tt
does nt ct dt (Soak n) meters s a b h = tt
does nt ct dt (Node server servers port name turns) meters s a b h = h.does
does nt ct dt (Call server port request) meters s a b h = h.does
does nt ct dt (Help help) meters s a b h = tt

pub safe : (nt ct dt : Type 0) (c : Command) (meters : List Reading) (s : Status) (a b : Seen)
    → Acts nt ct dt c meters s a b
    → IsSafe nt dt c a.net b.net a.disk b.disk
safe nt ct dt (Replay metered) meters s a b h = tt
safe nt ct dt (Make n) meters s a b h = tt
safe nt ct dt (Soak n) meters s a b h = tt
safe nt ct dt (Node server servers port name turns) meters s a b h = h.safe
safe nt ct dt (Call server port request) meters s a b h = tt
safe nt ct dt (Help help) meters s a b h = tt

pub answers : (nt ct dt : Type 0) (c : Command) (meters : List Reading) (s : Status) (a b : Seen)
    → Acts nt ct dt c meters s a b
    → dt
    → Answers c a.net_faults b.net_faults a.disk_faults b.disk_faults a.disk s
answers nt ct dt (Replay metered) meters s a b h tells = tt
answers nt ct dt (Make n) meters s a b h tells = tt
answers nt ct dt (Soak n) meters s a b h tells = tt
answers nt ct dt (Node server servers port name turns) meters s a b h tells = h.answers tells
answers nt ct dt (Call server port request) meters s a b h tells = tt
answers nt ct dt (Help help) meters s a b h tells = tt

-- ---- when it ends how

pub record Ended (words : Words) (s : Status) (a b : Seen) : Type 0 where
  pub read : s ≡ status.ReadFault → Rose a.read_faults b.read_faults
  pub write : s ≡ status.WriteFault → Rose a.write_faults b.write_faults
  pub net : s ≡ status.NetFault → Rose a.net_faults b.net_faults
  pub disk : s ≡ status.DiskFault → Rose a.disk_faults b.disk_faults
  pub long : s ≡ status.InputLong → IfSome a.input IsTooLong
  pub bad : (n : ℕ) (f : Fault) → s ≡ status.BadLine n f → FirstBadIs a.input n f
  pub whole_bad : (n : ℕ) (f : Fault) → s ≡ status.BadLine n f → IsAtEnd b.input
  pub bad_log : (place : ℕ) → s ≡ status.BadLog place → AsksForNode words
  pub other_log : (server servers : ℕ) → s ≡ status.OtherLog server servers → AsksForNode words
  pub spent : s ≡ status.TurnsSpent → (AsksForCall words → ⊥) → AsksForNode words
  pub refused : (n : ℕ) → s ≡ status.Refused n → AsksForCall words

replay_ended : (words : Words) (meters : List Reading) (s : Status) (a b : Seen)
    → Replays meters s a b
    → Ended words s a b
replay_ended words meters s a b h = record {
  read = h.read;
  write = h.write;
  net = λ e. absurd (subst IsFileEnd e h.ends);
  disk = λ e. absurd (subst IsFileEnd e h.ends);
  long = h.long;
  bad = h.bad;
  whole_bad = h.whole_bad;
  bad_log = λ place e. absurd (subst IsFileEnd e h.ends);
  other_log = λ server servers e. absurd (subst IsFileEnd e h.ends);
  spent = λ e none. absurd (subst IsFileEnd e h.ends);
  refused = λ n e. absurd (subst IsFileEnd e h.ends);
}

text_ended : (words : Words) (IsText : List ℕ → Type 0) (s : Status) (a b : Seen)
    → WritesText IsText s a b
    → Ended words s a b
text_ended words IsText s a b h = record {
  read = λ e. absurd (subst IsTextEnd e h.ends);
  write = h.write;
  net = λ e. absurd (subst IsTextEnd e h.ends);
  disk = λ e. absurd (subst IsTextEnd e h.ends);
  long = λ e. absurd (subst IsTextEnd e h.ends);
  bad = λ n f e. absurd (subst IsTextEnd e h.ends);
  whole_bad = λ n f e. absurd (subst IsTextEnd e h.ends);
  bad_log = λ place e. absurd (subst IsTextEnd e h.ends);
  other_log = λ server servers e. absurd (subst IsTextEnd e h.ends);
  spent = λ e none. absurd (subst IsTextEnd e h.ends);
  refused = λ n e. absurd (subst IsTextEnd e h.ends);
}

node_ended : (nt ct dt : Type 0) (words : Words) (c : Command) (s : Status) (a b : Seen)
    → AsksForNode words
    → Nodes nt ct dt c s a b
    → Ended words s a b
node_ended nt ct dt words c s a b asks h =
    let n = a.net_faults in
    let m = b.net_faults in
    let d = a.disk_faults in
    let e = b.disk_faults in
    let ends = node_end n m d e s h.ends in
    record {
      read = λ is. absurd (subst IsNodeEnd is ends);
      write = λ is. absurd (subst IsNodeEnd is ends);
      net = net_cause n m d e s h.ends;
      disk = disk_cause n m d e s h.ends;
      long = λ is. absurd (subst IsNodeEnd is ends);
      bad = λ k f is. absurd (subst IsNodeEnd is ends);
      whole_bad = λ k f is. absurd (subst IsNodeEnd is ends);
      bad_log = λ place is. asks;
      other_log = λ server servers is. asks;
      spent = λ is none. asks;
      refused = λ k is. absurd (subst IsNodeEnd is ends);
    }

call_ended : (nt ct dt : Type 0) (words : Words) (c : Command) (s : Status) (a b : Seen)
    → AsksForCall words
    → Calls nt ct dt c s a b
    → Ended words s a b
call_ended nt ct dt words c s a b asks h = record {
  read = λ e. absurd (subst IsCallEnd e h.ends);
  write = h.write;
  net = h.net;
  disk = λ e. absurd (subst IsCallEnd e h.ends);
  long = λ e. absurd (subst IsCallEnd e h.ends);
  bad = λ n f e. absurd (subst IsCallEnd e h.ends);
  whole_bad = λ n f e. absurd (subst IsCallEnd e h.ends);
  bad_log = λ place e. absurd (subst IsCallEnd e h.ends);
  other_log = λ server servers e. absurd (subst IsCallEnd e h.ends);
  spent = λ e none. absurd (none asks);
  refused = λ n e. asks;
}

pub ended : (nt ct dt : Type 0) (words : Words) (c : Command) (meters : List Reading) (s : Status)
    (a b : Seen)
    → Asks words c
    → Acts nt ct dt c meters s a b
    → Ended words s a b
ended nt ct dt words (Replay metered) meters s a b asks h =
    replay_ended words (handed metered meters) s a b h
ended nt ct dt words (Make n) meters s a b asks h = text_ended words _ s a b h
ended nt ct dt words (Soak n) meters s a b asks h = text_ended words _ s a b h
ended nt ct dt words (Node server servers port name turns) meters s a b asks h =
    let c = Node server servers port name turns in
    node_ended nt ct dt words c s a b (c, tt, asks) h
ended nt ct dt words (Call server port request) meters s a b asks h =
    let c = Call server port request in
    call_ended nt ct dt words c s a b (c, tt, asks) h
ended nt ct dt words (Help help) meters s a b asks h = text_ended words _ s a b h

pub node_ends : (nt ct dt : Type 0) (c : Command) (meters : List Reading) (s : Status) (a b : Seen)
    → IsOfNode c
    → Acts nt ct dt c meters s a b
    → IsEnd a.net_faults b.net_faults a.disk_faults b.disk_faults s
node_ends nt ct dt (Replay metered) meters s a b is h = absurd is
node_ends nt ct dt (Make n) meters s a b is h = absurd is
node_ends nt ct dt (Soak n) meters s a b is h = absurd is
node_ends nt ct dt (Node server servers port name turns) meters s a b is h = h.ends
node_ends nt ct dt (Call server port request) meters s a b is h = absurd is
node_ends nt ct dt (Help help) meters s a b is h = absurd is

-- what is begun does not end by a word at fault
pub not_usage : (nt ct dt : Type 0) (c : Command) (meters : List Reading) (s : Status) (n : ℕ)
    (a b : Seen)
    → Acts nt ct dt c meters s a b
    → s ≡ status.Usage n
    → ⊥
not_usage nt ct dt (Replay metered) meters s n a b h e = subst IsFileEnd e h.ends
not_usage nt ct dt (Make x) meters s n a b h e = subst IsTextEnd e h.ends
not_usage nt ct dt (Soak x) meters s n a b h e = subst IsTextEnd e h.ends
not_usage nt ct dt (Node server servers port name turns) meters s n a b h e =
    subst IsNodeEnd e
    (node_end a.net_faults b.net_faults a.disk_faults b.disk_faults s h.ends)
not_usage nt ct dt (Call server port request) meters s n a b h e = subst IsCallEnd e h.ends
not_usage nt ct dt (Help help) meters s n a b h e = subst IsTextEnd e h.ends

-- it was not begun: by a word at fault, or for want of memory
abbrev pub IsUnbegun : Status → Type 0
IsUnbegun status.OutOfMemory = Unit {0}
IsUnbegun (status.Usage n) = Unit {0}
IsUnbegun _ = ⊥

pub unbegun : (s : Status) → (s ≡ status.OutOfMemory) ⊎ ((n : ℕ) × (s ≡ status.Usage n)) → IsUnbegun s
unbegun s (inl is) = subst IsUnbegun (sym is) tt
unbegun s (inr is) = subst IsUnbegun (sym is.1) tt

pub unbegun_ended : (words : Words) (s : Status) (a b : Seen) → IsUnbegun s → Ended words s a b
unbegun_ended words s a b h = record {
  read = λ e. absurd (subst IsUnbegun e h);
  write = λ e. absurd (subst IsUnbegun e h);
  net = λ e. absurd (subst IsUnbegun e h);
  disk = λ e. absurd (subst IsUnbegun e h);
  long = λ e. absurd (subst IsUnbegun e h);
  bad = λ n f e. absurd (subst IsUnbegun e h);
  whole_bad = λ n f e. absurd (subst IsUnbegun e h);
  bad_log = λ place e. absurd (subst IsUnbegun e h);
  other_log = λ server servers e. absurd (subst IsUnbegun e h);
  spent = λ e none. absurd (subst IsUnbegun e h);
  refused = λ n e. absurd (subst IsUnbegun e h);
}
