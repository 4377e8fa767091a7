-- A log that a server does not go on with is left as it was.
use Rattle.std.proofs.Common.{◌≡◌, ◌⊎◌, inl, inr, ℕ, ◌+◌, ◌<◌, List, [], length, take, sym, ◌∙◌, subst}
use Rattle.pg_disk.specs.Disk.{IsSettled}
use Rattle.pg_disk.specs.Told.{Told, given, steps}
use Rattle.pg_disk.specs.Moments.{LeavesSince}
use Rattle.pg_disk.specs.Synced.{KeepsOthers}
use Rattle.pg_event.specs.declared.status.Status.{Status}
use Rattle.pg_event.specs.declared.status.Status.TheVariants as status
use Rattle.pg_log.specs.Bytes.{OpensTo, front}
use Rattle.pg_host.specs.Causes.{IsDiskFault, IsFault, IsRefusal, IsWhole}
use Rattle.pg_host.specs.Logs.{LeavesLog}
use Rattle.pg_host.specs.Starts.{IsNoFold}
use Rattle.pg_host.proofs.Logs.{none_bad_at, none_log}

-- ---- what is no refusal

pub no_refusal_memory : (e : Status) → e ≡ status.OutOfMemory → IsRefusal e → ⊥
no_refusal_memory e is (inl bad) = let same : status.OutOfMemory ≡ status.BadLog bad.0 = sym is ∙ bad.1 in cc
no_refusal_memory e is (inr other) = let same : status.OutOfMemory ≡ status.OtherLog other.0 other.1 = sym is ∙ other.2 in cc

pub no_refusal_net : (e : Status) → e ≡ status.NetFault → IsRefusal e → ⊥
no_refusal_net e is (inl bad) = let same : status.NetFault ≡ status.BadLog bad.0 = sym is ∙ bad.1 in cc
no_refusal_net e is (inr other) = let same : status.NetFault ≡ status.OtherLog other.0 other.1 = sym is ∙ other.2 in cc

pub no_refusal_disk : (e : Status) → e ≡ status.DiskFault → IsRefusal e → ⊥
no_refusal_disk e is (inl bad) = let same : status.DiskFault ≡ status.BadLog bad.0 = sym is ∙ bad.1 in cc
no_refusal_disk e is (inr other) = let same : status.DiskFault ≡ status.OtherLog other.0 other.1 = sym is ∙ other.2 in cc

no_refusal_done : (e : Status) → e ≡ status.Done → IsRefusal e → ⊥
no_refusal_done e is (inl bad) = let same : status.Done ≡ status.BadLog bad.0 = sym is ∙ bad.1 in cc
no_refusal_done e is (inr other) = let same : status.Done ≡ status.OtherLog other.0 other.1 = sym is ∙ other.2 in cc

no_refusal_spent : (e : Status) → e ≡ status.TurnsSpent → IsRefusal e → ⊥
no_refusal_spent e is (inl bad) = let same : status.TurnsSpent ≡ status.BadLog bad.0 = sym is ∙ bad.1 in cc
no_refusal_spent e is (inr other) = let same : status.TurnsSpent ≡ status.OtherLog other.0 other.1 = sym is ∙ other.2 in cc

pub no_refusal_disk_fault : (before now : ℕ) (e : Status) → IsDiskFault before now e → IsRefusal e → ⊥
no_refusal_disk_fault before now e (inl memory) = no_refusal_memory e memory
no_refusal_disk_fault before now e (inr fault) = no_refusal_disk e fault.0

pub no_refusal_fault : (n0 n1 d0 d1 : ℕ) (e : Status) → IsFault n0 n1 d0 d1 e → IsRefusal e → ⊥
no_refusal_fault n0 n1 d0 d1 e (inl memory) = no_refusal_memory e memory
no_refusal_fault n0 n1 d0 d1 e (inr (inl net)) = no_refusal_net e net.0
no_refusal_fault n0 n1 d0 d1 e (inr (inr disk)) = no_refusal_disk e disk.0

pub no_refusal_whole : (e : Status) → IsWhole e → IsRefusal e → ⊥
no_refusal_whole e (inl done) = no_refusal_done e done
no_refusal_whole e (inr spent) = no_refusal_spent e spent

-- ---- what is one

-- entries that are refused are some
some_entry : (server servers : ℕ) (entries : List (List ℕ)) (e : Status) → IsNoFold server servers entries e → IsRefusal e → entries ≡ [] → ⊥
some_entry server servers entries e (inl memory) refusal none = no_refusal_memory e memory refusal
some_entry server servers entries e (inr (inl bad)) refusal none = none_bad_at bad.2.before bad.2.entry bad.2.behind (sym none ∙ bad.2.whole)
some_entry server servers entries e (inr (inr other)) refusal none = none_log other.0 other.1 other.3.inputs entries none other.3.is

long_file : (file : List ℕ) (entries : List (List ℕ)) → OpensTo file entries → (entries ≡ [] → ⊥) → 17 < length file
long_file file entries (inl short) some = absurd (some short.1)
long_file file entries (inr long) some = long.0

-- of a log that was opened, what stood behind its closed gate was cut off
pub log_left : (server servers : ℕ) (d0 d1 : Told) (entries : List (List ℕ)) (e : Status) → OpensTo (given d0 0) entries
    → (17 < length (given d0 0) → given d1 0 ≡ take (length (front entries) + 1) (given d0 0)) → IsSettled (steps d1 0)
    → (IsSettled (steps d0 0) → LeavesSince 0 d0 d1 (λ file. OpensTo file entries)) → KeepsOthers 0 d0 d1 → IsNoFold server servers entries e → IsRefusal e → LeavesLog d0 d1
log_left server servers d0 d1 entries e opens cut settled moments others no_fold refusal = inr (
  entries,
  record {
    opens = opens;
    cut = cut (long_file (given d0 0) entries opens (some_entry server servers entries e no_fold refusal));
    settled = settled;
    moments = moments;
    others = others;
  },
)
