-- How a server that runs ends.
use Rattle.std.proofs.Common.{◌≡◌, ◌⊎◌, inl, inr, ℕ, ◌+◌, ◌-◌, ◌^◌, ◌≤◌, min, List, refl, sym, ◌∙◌, ap, subst, arith}
use Rattle.pg_event.specs.declared.status.Status.{Status}
use Rattle.pg_event.specs.declared.status.Status.TheVariants as status
use Rattle.pg_io.specs.Causes.{Rose}
use Rattle.pg_host.specs.Causes.{IsEnd, IsFault, IsRefusal, IsWhole}
use Rattle.pg_host.specs.Host.{IsAnswered}
use Rattle.pg_host.specs.Logs.{IsBadLog, IsOtherLog, IsOwnLog}
use Rattle.pg_host.specs.Starts.{IsUnstarted}
use Rattle.pg_host.proofs.Refused.{no_refusal_fault, no_refusal_whole}
use Rattle.pg_host.proofs.Logs.{not_bad_other, not_bad_own, not_own_other, one_bad_place, one_other}

-- ---- it did not end by itself

abbrev pub IsPart : Status → Type 0
IsPart s = (s ≡ status.Done → ⊥) × (s ≡ status.TurnsSpent → ⊥)

pub not_whole : (s : Status) → IsPart s → IsWhole s → ⊥
not_whole s part (inl is) = part.0 is
not_whole s part (inr is) = part.1 is

pub done_not_spent : status.Done ≡ status.TurnsSpent → ⊥
done_not_spent is = cc

pub spent_not_done : status.TurnsSpent ≡ status.Done → ⊥
spent_not_done is = cc

part_memory : (s : Status) → s ≡ status.OutOfMemory → IsPart s
part_memory s is = (λ done. (let e : status.OutOfMemory ≡ status.Done = sym is ∙ done in cc), λ spent. (let e : status.OutOfMemory ≡ status.TurnsSpent = sym is ∙ spent in cc))

part_net : (s : Status) → s ≡ status.NetFault → IsPart s
part_net s is = (λ done. (let e : status.NetFault ≡ status.Done = sym is ∙ done in cc), λ spent. (let e : status.NetFault ≡ status.TurnsSpent = sym is ∙ spent in cc))

part_disk : (s : Status) → s ≡ status.DiskFault → IsPart s
part_disk s is = (λ done. (let e : status.DiskFault ≡ status.Done = sym is ∙ done in cc), λ spent. (let e : status.DiskFault ≡ status.TurnsSpent = sym is ∙ spent in cc))

part_bad : (s : Status) (place : ℕ) → s ≡ status.BadLog place → IsPart s
part_bad s place is = (λ done. (let e : status.BadLog place ≡ status.Done = sym is ∙ done in cc), λ spent. (let e : status.BadLog place ≡ status.TurnsSpent = sym is ∙ spent in cc))

part_other : (s : Status) (a b : ℕ) → s ≡ status.OtherLog a b → IsPart s
part_other s a b is = (λ done. (let e : status.OtherLog a b ≡ status.Done = sym is ∙ done in cc), λ spent. (let e : status.OtherLog a b ≡ status.TurnsSpent = sym is ∙ spent in cc))

pub fault_part : (m n k l : ℕ) (s : Status) → IsFault m n k l s → IsPart s
fault_part m n k l s (inl is) = part_memory s is
fault_part m n k l s (inr (inl is)) = part_net s is.0
fault_part m n k l s (inr (inr is)) = part_disk s is.0

refusal_part : (s : Status) → IsRefusal s → IsPart s
refusal_part s (inl is) = part_bad s is.0 is.1
refusal_part s (inr is) = part_other s is.0 is.1 is.2

pub net_part : IsPart status.NetFault
net_part = part_net status.NetFault refl

pub memory_part : IsPart status.OutOfMemory
memory_part = part_memory status.OutOfMemory refl

pub unstarted_part : (dt : Type 0) (server servers : ℕ) (file : List ℕ) (before now : ℕ) (s : Status) → IsUnstarted dt server servers file before now s → IsPart s
unstarted_part dt server servers file before now s (inl is) = part_memory s is
unstarted_part dt server servers file before now s (inr (inl is)) = part_disk s is.0
unstarted_part dt server servers file before now s (inr (inr (inl is))) = part_bad s is.0 is.1
unstarted_part dt server servers file before now s (inr (inr (inr is))) = part_other s is.0 is.1 is.2

-- ---- a fault of a part is one of the whole

rose_before : (l m n o : ℕ) → l ≤ m → n ≤ o → Rose m n → Rose l o
rose_before l m n o later more rose = let all : min (m + 1) (2 ^ 64 - 1) ≤ n = rose in omega (arith, later, more, all)

module _ (l m n o h i j k : ℕ) (net_before : l ≤ m) (net_behind : n ≤ o) (disk_before : h ≤ i) (disk_behind : j ≤ k) (s : Status) where
  pub later_fault : IsFault m n i j s → IsFault l o h k s
  later_fault (inl is) = inl is
  later_fault (inr (inl is)) = inr (inl (is.0, rose_before l m n o net_before net_behind is.1))
  later_fault (inr (inr is)) = inr (inr (is.0, rose_before h i j k disk_before disk_behind is.1))

  pub later_or : IsWhole s ⊎ IsFault m n i j s → IsWhole s ⊎ IsFault l o h k s
  later_or (inl whole) = inl whole
  later_or (inr fault) = inr (later_fault fault)

-- it went on with its log
pub runs_no_refusal : (m n k l : ℕ) (s : Status) → IsWhole s ⊎ IsFault m n k l s → IsRefusal s → ⊥
runs_no_refusal m n k l s (inl whole) = no_refusal_whole s whole
runs_no_refusal m n k l s (inr fault) = no_refusal_fault m n k l s fault

pub run_end : (m n k l : ℕ) (s : Status) → IsWhole s ⊎ IsFault m n k l s → IsEnd m n k l s
run_end m n k l s (inl whole) = inl whole
run_end m n k l s (inr fault) = inr (inl fault)

pub unstarted_end : (dt : Type 0) (server servers : ℕ) (file : List ℕ) (m n k l : ℕ) (s : Status) → IsUnstarted dt server servers file k l s → IsEnd m n k l s
unstarted_end dt server servers file m n k l s (inl is) = inr (inl (inl is))
unstarted_end dt server servers file m n k l s (inr (inl is)) = inr (inl (inr (inr is)))
unstarted_end dt server servers file m n k l s (inr (inr (inl is))) = inr (inr (inl (is.0, is.1)))
unstarted_end dt server servers file m n k l s (inr (inr (inr is))) = inr (inr (inr (is.0, is.1, is.2)))

net_rose : (m n k l : ℕ) (s : Status) → s ≡ status.NetFault → IsEnd m n k l s → Rose m n
net_rose m n k l s net (inl (inl is)) = absurd (let e : status.Done ≡ status.NetFault = sym is ∙ net in cc)
net_rose m n k l s net (inl (inr is)) = absurd (let e : status.TurnsSpent ≡ status.NetFault = sym is ∙ net in cc)
net_rose m n k l s net (inr (inl (inl is))) = absurd (let e : status.OutOfMemory ≡ status.NetFault = sym is ∙ net in cc)
net_rose m n k l s net (inr (inl (inr (inl is)))) = is.1
net_rose m n k l s net (inr (inl (inr (inr is)))) = absurd (let e : status.DiskFault ≡ status.NetFault = sym is.0 ∙ net in cc)
net_rose m n k l s net (inr (inr (inl is))) = absurd (let e : status.BadLog is.0 ≡ status.NetFault = sym is.1 ∙ net in cc)
net_rose m n k l s net (inr (inr (inr is))) = absurd (let e : status.OtherLog is.0 is.1 ≡ status.NetFault = sym is.2 ∙ net in cc)

disk_rose : (m n k l : ℕ) (s : Status) → s ≡ status.DiskFault → IsEnd m n k l s → Rose k l
disk_rose m n k l s disk (inl (inl is)) = absurd (let e : status.Done ≡ status.DiskFault = sym is ∙ disk in cc)
disk_rose m n k l s disk (inl (inr is)) = absurd (let e : status.TurnsSpent ≡ status.DiskFault = sym is ∙ disk in cc)
disk_rose m n k l s disk (inr (inl (inl is))) = absurd (let e : status.OutOfMemory ≡ status.DiskFault = sym is ∙ disk in cc)
disk_rose m n k l s disk (inr (inl (inr (inl is)))) = absurd (let e : status.NetFault ≡ status.DiskFault = sym is.0 ∙ disk in cc)
disk_rose m n k l s disk (inr (inl (inr (inr is)))) = is.1
disk_rose m n k l s disk (inr (inr (inl is))) = absurd (let e : status.BadLog is.0 ≡ status.DiskFault = sym is.1 ∙ disk in cc)
disk_rose m n k l s disk (inr (inr (inr is))) = absurd (let e : status.OtherLog is.0 is.1 ≡ status.DiskFault = sym is.2 ∙ disk in cc)

pub end_net : (m n k l : ℕ) (s : Status) → IsEnd m n k l s → s ≡ status.NetFault → Rose m n
end_net m n k l s end net = net_rose m n k l s net end

pub end_disk : (m n k l : ℕ) (s : Status) → IsEnd m n k l s → s ≡ status.DiskFault → Rose k l
end_disk m n k l s end disk = disk_rose m n k l s disk end

-- ---- what the log that was found has to do with it

one_place : (s : Status) (p q : ℕ) → s ≡ status.BadLog p → s ≡ status.BadLog q → q ≡ p
one_place s p q is also = let e : status.BadLog p ≡ status.BadLog q = sym is ∙ also in cc

bad_is_other : (s : Status) (p a b : ℕ) → s ≡ status.BadLog p → s ≡ status.OtherLog a b → ⊥
bad_is_other s p a b is also = let e : status.BadLog p ≡ status.OtherLog a b = sym is ∙ also in cc

same_server : (s : Status) (a b c d : ℕ) → s ≡ status.OtherLog a b → s ≡ status.OtherLog c d → a ≡ c
same_server s a b c d is also = let e : status.OtherLog a b ≡ status.OtherLog c d = sym is ∙ also in cc

same_servers : (s : Status) (a b c d : ℕ) → s ≡ status.OtherLog a b → s ≡ status.OtherLog c d → b ≡ d
same_servers s a b c d is also = let e : status.OtherLog a b ≡ status.OtherLog c d = sym is ∙ also in cc

fault_bad : (m n k l p : ℕ) (s : Status) → IsFault m n k l s → s ≡ status.BadLog p → ⊥
fault_bad m n k l p s (inl is) bad = let e : status.OutOfMemory ≡ status.BadLog p = sym is ∙ bad in cc
fault_bad m n k l p s (inr (inl is)) bad = let e : status.NetFault ≡ status.BadLog p = sym is.0 ∙ bad in cc
fault_bad m n k l p s (inr (inr is)) bad = let e : status.DiskFault ≡ status.BadLog p = sym is.0 ∙ bad in cc

fault_other : (m n k l a b : ℕ) (s : Status) → IsFault m n k l s → s ≡ status.OtherLog a b → ⊥
fault_other m n k l a b s (inl is) other = let e : status.OutOfMemory ≡ status.OtherLog a b = sym is ∙ other in cc
fault_other m n k l a b s (inr (inl is)) other = let e : status.NetFault ≡ status.OtherLog a b = sym is.0 ∙ other in cc
fault_other m n k l a b s (inr (inr is)) other = let e : status.DiskFault ≡ status.OtherLog a b = sym is.0 ∙ other in cc

whole_bad : (p : ℕ) (s : Status) → IsWhole s → s ≡ status.BadLog p → ⊥
whole_bad p s whole bad = not_whole s (part_bad s p bad) whole

whole_other : (a b : ℕ) (s : Status) → IsWhole s → s ≡ status.OtherLog a b → ⊥
whole_other a b s whole other = not_whole s (part_other s a b other) whole

module _ (server servers m n k l : ℕ) (file : List ℕ) (s : Status) where
  -- memory ran out, or a call failed
  pub answered_fault : IsFault m n k l s → IsAnswered server servers m n k l file s
  answered_fault fault = record {
    bad = λ place is. absurd (fault_bad m n k l place s fault is);
    other = λ a b is. absurd (fault_other m n k l a b s fault is);
    good = λ whole. absurd (not_whole s (fault_part m n k l s fault) whole);
    from_bad = λ place is. inr fault;
    from_other = λ a b is. inr fault;
    from_good = λ own. inr fault;
  }

  answered_bad : (place : ℕ) → s ≡ status.BadLog place → IsBadLog file place → IsAnswered server servers m n k l file s
  answered_bad place is bad = record {
    bad = λ p also. subst_place p (one_place s place p is also);
    other = λ a b also. absurd (bad_is_other s place a b is also);
    good = λ whole. absurd (whole_bad place s whole is);
    from_bad = λ p also. inl (is ∙ ap status.BadLog (one_bad_place file place p bad also));
    from_other = λ a b other. absurd (not_bad_other server servers place a b file bad other);
    from_good = λ own. absurd (not_bad_own server servers place file bad own);
  } where
    subst_place : (p : ℕ) → p ≡ place → IsBadLog file p
    subst_place p same = subst (λ (q : ℕ). IsBadLog file q) (sym same) bad

  answered_other : (a b : ℕ) → s ≡ status.OtherLog a b → IsOtherLog server servers a b file → IsAnswered server servers m n k l file s
  answered_other a b is other = record {
    bad = λ p also. absurd (bad_is_other s p a b also is);
    other = λ c d also. of_same c d (same_server s a b c d is also) (same_servers s a b c d is also);
    good = λ whole. absurd (whole_other a b s whole is);
    from_bad = λ p bad. absurd (not_bad_other server servers p a b file bad other);
    from_other = λ c d also.
        let same = one_other server servers a b c d file other also in
        inl (is ∙ (λ i. status.OtherLog (same.0 i) (same.1 i)));
    from_good = λ own. absurd (not_own_other server servers a b file own other);
  } where
    of_same : (c d : ℕ) → a ≡ c → b ≡ d → IsOtherLog server servers c d file
    of_same c d first second = subst (λ (y : ℕ). IsOtherLog server servers c y file) second (subst (λ (x : ℕ). IsOtherLog server servers x b file) first other)

  -- it did not start
  pub answered_unstarted : (dt : Type 0) → dt → IsUnstarted dt server servers file k l s → IsAnswered server servers m n k l file s
  answered_unstarted dt tells (inl is) = answered_fault (inl is)
  answered_unstarted dt tells (inr (inl is)) = answered_fault (inr (inr is))
  answered_unstarted dt tells (inr (inr (inl is))) = answered_bad is.0 is.1 (is.2 tells)
  answered_unstarted dt tells (inr (inr (inr is))) = answered_other is.0 is.1 is.2 (is.3 tells)

  -- it started
  pub answered_started : IsOwnLog server servers file → IsWhole s ⊎ IsFault m n k l s → IsAnswered server servers m n k l file s
  answered_started own (inr fault) = answered_fault fault
  answered_started own (inl whole) = record {
    bad = λ place is. absurd (whole_bad place s whole is);
    other = λ a b is. absurd (whole_other a b s whole is);
    good = λ is. own;
    from_bad = λ place bad. absurd (not_bad_own server servers place file bad own);
    from_other = λ a b other. absurd (not_own_other server servers a b file own other);
    from_good = λ is. inl whole;
  }
