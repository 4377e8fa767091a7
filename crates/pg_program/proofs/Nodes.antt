-- A node over the files of its name, or one that did nothing.
use Rattle.std.proofs.Common.{ℕ, ◌≡◌, ◌+◌, ◌-◌, ◌^◌, ◌≤◌, ◌<◌, ◌⊎◌, ◌∙◌, arith, min, List, [], ◌∷◌, ◌++◌, None, ap, inl, inr, length, refl, sym, subst, take}
use Rattle.std.proofs.lemmas.List.{append-nil}
use Rattle.std.proofs.lemmas.Str.{IsUtf8-from_ascii}
use Rattle.std.proofs.lemmas.Str.Ascii.{IsAscii-from_all}
use Rattle.std.specs.List.{slice_index_or}
use Rattle.std.specs.Str.{IsUtf8}
use Rattle.std.specs.declared.option.Option.{Option}
use Rattle.pg_program.specs.Ending.{IsNodeEnd}
use Rattle.pg_program.specs.Outside.{Survives, choosing}
use Rattle.pg_checkpoint.specs.Saves.{AreSettled}
use Rattle.pg_command.specs.Slots.{IsNameByte, IsNodeName}
use Rattle.pg_disk.proofs.Moments.{leaves_started}
use Rattle.pg_disk.specs.Disk.{IsImage, IsSettled}
use Rattle.pg_disk.specs.Moments.{LeavesSince}
use Rattle.pg_disk.specs.Told.{Event, given, given_of, steps, steps_of}
use Rattle.pg_disk.specs.Told.{Told as DiskTold}
use Rattle.pg_event.specs.declared.status.Status.{Status}
use Rattle.pg_event.specs.declared.status.Status.TheVariants as status
use Rattle.pg_host.specs.Causes.{IsEnd, IsFault, IsWhole}
use Rattle.pg_host.specs.Entries.{entries_for}
use Rattle.pg_host.specs.Host.{IsAnswered, Served}
use Rattle.pg_host.specs.Inputs.{asked}
use Rattle.pg_host.specs.Logs.{IsFound, Old, OpensToSome, begin_entry, begun, is_empty}
use Rattle.pg_host.specs.Sends.{sends}
use Rattle.pg_host.specs.Slots.{Agree, AgreeSince, FilesLeave}
use Rattle.pg_host.proofs.Files.{files_started}
use Rattle.pg_io.specs.Causes.{Rose}
use Rattle.pg_log.specs.Bytes.{OpensTo}
use Rattle.pg_net.specs.Clock.{Told as ClockTold}
use Rattle.pg_net.specs.Net.{Datagram}
use Rattle.pg_net.specs.Net.{Told as NetTold}
use Rattle.pg_saving.specs.declared.loading.Checkpoint.{Checkpoint}

-- ---- its name

low : (byte : ℕ) → IsNameByte byte → byte < 128
low byte (inl letter) = let most = letter.1 in omega arith
low byte (inr digit) = let most = digit.1 in omega arith

pub is_utf8 : (name : List ℕ) → IsNodeName name → IsUtf8 name
is_utf8 name h =
    IsUtf8-from_ascii name
    (IsAscii-from_all name (λ k d within. low (slice_index_or name k d) (h.each k d within)))

-- ---- how it ends

rose_before : (before mid now : ℕ) → before ≤ mid → Rose mid now → Rose before now
rose_before before mid now later rose =
    let all : min (mid + 1) (2 ^ 64 - 1) ≤ now = rose in omega (arith, later, all)

fault_before : (n m c d e : ℕ) (s : Status) → c ≤ d → IsFault n m d e s → IsFault n m c e s
fault_before n m c d e s later (inl is) = inl is
fault_before n m c d e s later (inr (inl is)) = inr (inl is)
fault_before n m c d e s later (inr (inr is)) = inr (inr (is.0, rose_before c d e later is.1))

pub end_before : (n m c d e : ℕ) (s : Status) → c ≤ d → IsEnd n m d e s → IsEnd n m c e s
end_before n m c d e s later (inl whole) = inl whole
end_before n m c d e s later (inr (inl fault)) = inr (inl (fault_before n m c d e s later fault))
end_before n m c d e s later (inr (inr refused)) = inr (inr refused)

pub node_end : (n m d e : ℕ) (s : Status) → IsEnd n m d e s → IsNodeEnd s
node_end n m d e s (inl (inl is)) = subst IsNodeEnd (sym is) tt
node_end n m d e s (inl (inr is)) = subst IsNodeEnd (sym is) tt
node_end n m d e s (inr (inl (inl is))) = subst IsNodeEnd (sym is) tt
node_end n m d e s (inr (inl (inr (inl is)))) = subst IsNodeEnd (sym is.0) tt
node_end n m d e s (inr (inl (inr (inr is)))) = subst IsNodeEnd (sym is.0) tt
node_end n m d e s (inr (inr (inl is))) = subst IsNodeEnd (sym is.1) tt
node_end n m d e s (inr (inr (inr is))) = subst IsNodeEnd (sym is.2) tt

-- a fault has its cause
net_rose : (n m d e : ℕ) → IsEnd n m d e status.NetFault → Rose n m
net_rose n m d e (inl (inl is)) = absurd cc
net_rose n m d e (inl (inr is)) = absurd cc
net_rose n m d e (inr (inl (inl is))) = absurd cc
net_rose n m d e (inr (inl (inr (inl is)))) = is.1
net_rose n m d e (inr (inl (inr (inr is)))) = let bad = is.0 in absurd cc
net_rose n m d e (inr (inr (inl is))) = let bad = is.1 in absurd cc
net_rose n m d e (inr (inr (inr is))) = let bad = is.2 in absurd cc

disk_rose : (n m d e : ℕ) → IsEnd n m d e status.DiskFault → Rose d e
disk_rose n m d e (inl (inl is)) = absurd cc
disk_rose n m d e (inl (inr is)) = absurd cc
disk_rose n m d e (inr (inl (inl is))) = absurd cc
disk_rose n m d e (inr (inl (inr (inl is)))) = let bad = is.0 in absurd cc
disk_rose n m d e (inr (inl (inr (inr is)))) = is.1
disk_rose n m d e (inr (inr (inl is))) = let bad = is.1 in absurd cc
disk_rose n m d e (inr (inr (inr is))) = let bad = is.2 in absurd cc

pub net_cause : (n m d e : ℕ) (s : Status) → IsEnd n m d e s → s ≡ status.NetFault → Rose n m
net_cause n m d e s end is = net_rose n m d e (subst (IsEnd n m d e) is end)

pub disk_cause : (n m d e : ℕ) (s : Status) → IsEnd n m d e s → s ≡ status.DiskFault → Rose d e
disk_cause n m d e s end is = disk_rose n m d e (subst (IsEnd n m d e) is end)

-- ---- the log that it found

-- memory ran out, or a call failed
abbrev IsStopped : Status → Type 0
IsStopped status.OutOfMemory = Unit {0}
IsStopped status.NetFault = Unit {0}
IsStopped status.DiskFault = Unit {0}
IsStopped _ = ⊥

fault_stopped : (n m d e : ℕ) (s : Status) → IsFault n m d e s → IsStopped s
fault_stopped n m d e s (inl is) = subst IsStopped (sym is) tt
fault_stopped n m d e s (inr (inl is)) = subst IsStopped (sym is.0) tt
fault_stopped n m d e s (inr (inr is)) = subst IsStopped (sym is.0) tt

stopped_not_whole : (s : Status) → IsStopped s → IsWhole s → ⊥
stopped_not_whole s stopped (inl is) = subst IsStopped is stopped
stopped_not_whole s stopped (inr is) = subst IsStopped is stopped

-- where it ended by a fault nothing is said of the log
pub answered_by_fault : (server servers n m d e : ℕ) (file : List ℕ) (s : Status)
    → IsFault n m d e s
    → IsAnswered server servers n m d e file s
answered_by_fault server servers n m d e file s fault =
    let stopped = fault_stopped n m d e s fault in
    record {
      bad = λ place is. absurd (subst IsStopped is stopped);
      other = λ a b is. absurd (subst IsStopped is stopped);
      good = λ whole. absurd (stopped_not_whole s stopped whole);
      from_bad = λ place bad. inr fault;
      from_other = λ a b other. inr fault;
      from_good = λ good. inr fault;
    }

or_before : {A : Type 0} → (n m c d e : ℕ) (s : Status) → c ≤ d → A ⊎ IsFault n m d e s
    → A ⊎ IsFault n m c e s
or_before n m c d e s later (inl a) = inl a
or_before n m c d e s later (inr fault) = inr (fault_before n m c d e s later fault)

pub answered_before : (server servers n m c d e : ℕ) (file : List ℕ) (s : Status) → c ≤ d
    → IsAnswered server servers n m d e file s
    → IsAnswered server servers n m c e file s
answered_before server servers n m c d e file s later x = record {
  bad = x.bad;
  other = x.other;
  good = x.good;
  from_bad = λ place bad. or_before n m c d e s later (x.from_bad place bad);
  from_other = λ a b other. or_before n m c d e s later (x.from_other a b other);
  from_good = λ good. or_before n m c d e s later (x.from_good good);
}

-- ---- what a crash leaves

-- where no step was made, what was there
still_opens : (name : List ℕ) (history : List Event) (entries more : List (List ℕ))
    → IsSettled (steps_of name 0 history)
    → OpensTo (given_of name 0 history) entries
    → (image : List ℕ)
    → IsImage (steps_of name 0 history) image
    → OpensToSome entries more image
still_opens name history entries more settled opens image is =
    let here = subst (λ file. OpensTo file entries) (sym (settled image is)) opens in
    (0, omega arith, subst (λ all. OpensTo image all) (sym (append-nil entries)) here)

-- where a crash leaves just what a read gives, what is said of that is said of what it leaves
here_left : (name : List ℕ) (h : List Event) (P : (log first second : List ℕ) → Type 0)
    → IsSettled (steps_of name 0 h)
    → IsSettled (steps_of name 1 h)
    → IsSettled (steps_of name 2 h)
    → P (given_of name 0 h) (given_of name 1 h) (given_of name 2 h)
    → FilesLeave name h h P
here_left name h P log first second here = files_started name P h (λ l a b is_l is_a is_b.
    subst (λ (x : List ℕ). P x a b) (sym (log l is_l))
    (subst (λ (x : List ℕ). P (given_of name 0 h) x b) (sym (first a is_a))
    (subst (λ (x : List ℕ). P (given_of name 0 h) (given_of name 1 h) x) (sym (second b is_b)) here)))

pub survives_idle : (nt dt : Type 0) (server servers port : ℕ) (name : List ℕ) (n0 n1 : NetTold)
    (d0 d1 : DiskTold)
    → n1 ≡ n0
    → (dt → d1 ≡ d0)
    → Survives nt dt server servers port name n0 n1 d0 d1
survives_idle nt dt server servers port name n0 n1 d0 d1 net disk = record {
  old = None;
  checkpoint = None;
  inputs = [];
  is_old = inl refl;
  folds = λ tells agree. refl;
  read = refl;
  leaves = λ tells settled entries opens.
      let more = begin_entry server servers (is_empty entries) ∷ [] in
      let P = OpensToSome entries more in
      let here = leaves_started name 0 P d0.history
      (still_opens name d0.history entries more settled opens) in
      let Q : DiskTold → Type 0 = λ d. LeavesSince 0 (choosing name d0) d P in
      subst Q (sym (disk tells)) here;
  kept = λ listens tells settled entries opens image is. inl (ap (λ (n : NetTold). n.sent) net);
  agree = λ tells log first second entries opens agree.
      let here = here_left name d0.history (Agree server servers) log first second agree in
      let Q : DiskTold → Type 0 = λ d. FilesLeave name d0.history d.history (Agree server servers) in
      subst Q (sym (disk tells)) here;
}

-- what it went on with, if it took any, is what it found under its name
old_named : (dt : Type 0) (server servers : ℕ) (checkpoint : Option Checkpoint) (old : Old)
    (name : List ℕ) (chosen d0 : DiskTold) (gave : List (Option Datagram)) (moments words : List ℕ)
    → (dt → chosen ≡ choosing name d0)
    → (gave ≡ []) ⊎ (dt → IsFound server servers checkpoint old (given chosen 0) (given chosen 1)
    (given chosen 2))
    → (asked gave moments words ≡ [])
    ⊎ (dt → IsFound server servers checkpoint old (given_of name 0 d0.history)
    (given_of name 1 d0.history) (given_of name 2 d0.history))
old_named dt server servers checkpoint old name chosen d0 gave moments words is (inl none) =
    inl (ap (λ (g : List (Option Datagram)). asked g moments words) none)
old_named dt server servers checkpoint old name chosen d0 gave moments words is (inr found) =
    inr (λ tells. subst (λ (d : DiskTold).
    IsFound server servers checkpoint old (given d 0) (given d 1) (given d 2)) (is tells) (found tells))

-- what is said of the disk as it was when the name was chosen, is said of the disk before
pub survives_named : (nt ct dt : Type 0) (server servers port turns : ℕ) (s : Status)
    (n0 n1 : NetTold) (t0 t1 : ℕ) (c0 c1 : ClockTold) (name : List ℕ) (chosen d0 d1 : DiskTold)
    → (dt → chosen ≡ choosing name d0)
    → Served nt ct dt server servers port turns s n0 n1 t0 t1 c0 c1 chosen d1
    → Survives nt dt server servers port name n0 n1 d0 d1
survives_named nt ct dt server servers port turns s n0 n1 t0 t1 c0 c1 name chosen d0 d1 is x =
    let inputs = asked x.gave x.moments x.words in
    record {
      old = x.old;
      checkpoint = x.checkpoint;
      inputs = inputs;
      is_old = old_named dt server servers x.checkpoint x.old name chosen d0 x.gave x.moments x.words
          is x.is_old;
      folds = λ tells.
          let Q : DiskTold → Type 0 = λ d. Agree server servers (given d 0) (given d 1) (given d 2)
          → begun server servers x.checkpoint x.old ≡ begun server servers None x.old in
          subst Q (is tells) (x.folds tells);
      read = x.read;
      leaves = λ tells.
          let Q : DiskTold → Type 0 = λ d. IsSettled (steps d 0) → (entries : List (List ℕ))
          → OpensTo (given d 0) entries
          → LeavesSince 0 d d1 (OpensToSome entries
          (begin_entry server servers (is_empty entries) ∷ entries_for inputs)) in
          subst Q (is tells) (x.leaves tells);
      kept = λ listens tells.
          let at : d1.chosen ≡ name =
          (x.others tells).chosen ∙ ap (λ (d : DiskTold). d.chosen) (is tells) in
          let Q : DiskTold → List ℕ → Type 0 = λ d own. IsSettled (steps d 0)
          → (entries : List (List ℕ)) → OpensTo (given d 0) entries
          → (image : List ℕ) → IsImage (steps_of own 0 d1.history) image
          → (n1.sent ≡ n0.sent) ⊎ ((k : ℕ)
          × OpensTo image (entries ++ begin_entry server servers (is_empty entries)
          ∷ entries_for (take k inputs))
          × ((n : ℕ) × (n1.sent ≡ n0.sent
          ++ take n (sends port (begun server servers x.checkpoint x.old) (take k inputs))))) in
          subst (λ own. Q (choosing name d0) own) at
          (subst (λ d. Q d d1.chosen) (is tells) (x.kept listens tells));
      agree = λ tells log first second.
          let Q : DiskTold → Type 0 = λ d. IsSettled (steps d 0) → AreSettled d
          → (entries : List (List ℕ)) → OpensTo (given d 0) entries
          → Agree server servers (given d 0) (given d 1) (given d 2)
          → AgreeSince server servers d d1 in
          let there : Q (choosing name d0) = subst Q (is tells) (x.agree tells) in
          there log (record { first = first; second = second });
    }

-- what was found in the file is said of the file of the name
pub answered_named : (server servers n m d e : ℕ) (name : List ℕ) (told chosen : DiskTold) (s : Status)
    → chosen ≡ choosing name told
    → IsAnswered server servers n m d e (given chosen 0) s
    → IsAnswered server servers n m d e (given_of name 0 told.history) s
answered_named server servers n m d e name told chosen s is x =
    subst (λ (c : DiskTold). IsAnswered server servers n m d e (given c 0) s) is x
