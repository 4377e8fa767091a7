-- How a start goes.
use Rattle.std.proofs.Common.{◌≡◌, ◌⊎◌, inl, inr, ℕ, ◌+◌, ◌-◌, ◌≤◌, List, [], ◌∷◌, ◌++◌, length, drop, Bool, Option, Some, None, IfSome, refl, sym, ◌∙◌, ap, subst, arith}
use Rattle.pg_checkpoint.specs.Saves.{Loads}
use Rattle.pg_checkpoint.specs.Slots.{Slot}
use Rattle.pg_disk.specs.Told.{Told, given}
use Rattle.pg_disk.specs.Moments.{LeavesSince}
use Rattle.pg_disk.specs.Synced.{KeepsOthers}
use Rattle.pg_disk.proofs.Moments.{leaves_since_then, leaves_weaker}
use Rattle.pg_event.specs.declared.status.Status.{Status}
use Rattle.pg_event.specs.declared.status.Status.TheVariants as status
use Rattle.pg_io.specs.Causes.{Rose}
use Rattle.pg_node_input.specs.law_lengths.Laws.{store_behind}
use Rattle.pg_node_input.specs.law_lengths.law_spelled.Stores.{FitsStore}
use Rattle.pg_log.specs.Bytes.{IsBadAt, OpensTo}
use Rattle.pg_log.specs.Log.{Stands, OpensWithOrWithout}
use Rattle.pg_log.proofs.Unique.{opens_once}
use Rattle.pg_server.specs.Local.{effect_of}
use Rattle.pg_server.specs.declared.input.Input.{Input}
use Rattle.pg_server.specs.declared.input.Input.TheVariants.{Restart}
use Rattle.pg_saving.specs.Usable.{IsUsable, usable}
use Rattle.pg_saving.specs.declared.loading.Checkpoint.{Checkpoint}
use Rattle.pg_state.specs.Fits.{FitsState}
use Rattle.pg_store.specs.Store.{new_store}
use Rattle.pg_store.specs.declared.store.Store.{Store}
use Rattle.pg_host.specs.Logs.{AreInputs, IsStart, begin_entry, folded_on, is_empty}
use Rattle.pg_host.specs.Starts.{IsFold, IsFolded, IsLogFold, IsNoFold, IsOn, IsUnstarted, LeavesAtStart, Started}
use Rattle.pg_host.proofs.Files.{slots_loaded}
use Rattle.pg_host.proofs.Fitting.{state_fits}

-- ---- what it goes on from

module _ (server servers : ℕ) where
  pub on_none : (checkpoint : Option Checkpoint) (s : Store) → checkpoint ≡ None → s ≡ new_store servers server → IsOn server servers checkpoint s 0
  on_none checkpoint s none new = subst (λ (o : Option Checkpoint). IsOn server servers o s 0) (sym none) (new, refl)

  pub on_some : (checkpoint : Option Checkpoint) (c : Checkpoint) (s : Store) → checkpoint ≡ Some c → s ≡ c.store → IsOn server servers checkpoint s (c.folded - 1)
  on_some checkpoint c s some is = subst (λ (o : Option Checkpoint). IsOn server servers o s (c.folded - 1)) (sym some) (is, refl)

pub on_usable : (checkpoint : Option Checkpoint) (c : Checkpoint) → checkpoint ≡ Some c → IfSome checkpoint (λ x. FitsState x.store × (1 ≤ x.folded)) → FitsState c.store × (1 ≤ c.folded)
on_usable checkpoint c some usable = subst (λ (o : Option Checkpoint). IfSome o (λ x. FitsState x.store × (1 ≤ x.folded))) some usable

pub on_fits : (checkpoint : Option Checkpoint) (c : Checkpoint) (s : Store) → checkpoint ≡ Some c → IfSome checkpoint (λ x. FitsState x.store × (1 ≤ x.folded)) → s ≡ c.store → FitsStore s
on_fits checkpoint c s some usable is = subst FitsStore (sym is) (state_fits c.store (on_usable checkpoint c some usable).0)

-- ---- the fold

module _ (server servers : ℕ) (checkpoint : Option Checkpoint) (entries : List (List ℕ)) where
  -- over a log without entries nothing is folded in a checkpoint
  pub folded_none : (s : Store) (skip : ℕ) → entries ≡ [] → IfSome checkpoint (λ c. IsUsable server servers (length entries) c) → IsOn server servers checkpoint s skip → IsFolded server servers checkpoint entries s
  folded_none s skip none usable on = record { old = None; is = none; store_is = new_by checkpoint usable on }
    where
      new_by : (c : Option Checkpoint) → IfSome c (λ x. IsUsable server servers (length entries) x) → IsOn server servers c s skip → s ≡ new_store servers server
      new_by None usable_ on_ = on_.0
      new_by (Some c) usable_ on_ =
          let some : 1 ≤ c.folded = usable_.some in
          let within : c.folded ≤ length entries = usable_.within in
          let empty : length entries ≡ 0 = ap length none in
          absurd (omega (arith, some, within, empty))

  module _ (first : List ℕ) (later : List (List ℕ)) (whole : entries ≡ first ∷ later) where
    behind_on : (c : Option Checkpoint) (inputs : List Input) (s0 : Store) (skip : ℕ) → IsOn server servers c s0 skip → store_behind s0 (drop skip inputs) ≡ folded_on server servers c inputs
    behind_on None inputs s0 skip on = ap (λ (s : Store). store_behind s (drop skip inputs)) on.0 ∙ ap (λ (k : ℕ). store_behind (new_store servers server) (drop k inputs)) on.1
    behind_on (Some c) inputs s0 skip on = ap (λ (s : Store). store_behind s (drop skip inputs)) on.0 ∙ ap (λ (k : ℕ). store_behind c.store (drop k inputs)) on.1

    pub folded_some : (skip : ℕ) (s0 s1 : Store) → IsOn server servers checkpoint s0 skip → IsLogFold server servers first later skip s0 s1 → IsFolded server servers checkpoint entries s1
    folded_some skip s0 s1 on log = record {
      old = Some log.fold.inputs;
      is = record { first = first; later = later; whole = whole; start = log.start; are = log.fold.read };
      store_is = log.restarted ∙ ap (λ (s : Store). (effect_of s Restart).store) (log.fold.store ∙ behind_on checkpoint log.fold.inputs s0 skip on);
    }

module _ (server servers own of : ℕ) (first : List ℕ) (later : List (List ℕ)) (start : IsStart own of first) where
  pub log_fold : (skip : ℕ) (s0 s1 s2 : Store) → own ≡ server → of ≡ servers → IsFold later skip s0 s1 → s2 ≡ (effect_of s1 Restart).store → IsLogFold server servers first later skip s0 s2
  log_fold skip s0 s1 s2 same all fold restarted = record {
    start = subst (λ (n : ℕ). IsStart n servers first) same (subst (λ (n : ℕ). IsStart own n first) all start);
    behind = s1;
    fold = fold;
    restarted = restarted;
  }

  pub folded_other : (e : Status) → e ≡ status.OtherLog own of → ((own ≡ server) × (of ≡ servers) → ⊥) → (inputs : List Input) × AreInputs later inputs → IsNoFold server servers (first ∷ later) e
  folded_other e is another inputs = inr (inr (
    own,
    of,
    is,
    record {
      inputs = inputs.0;
      is = record { first = first; later = later; whole = refl; start = start; are = inputs.1 };
      another = another;
    },
  ))

-- ---- the log, opened and gone on with

pub still_opens : (server servers : ℕ) (d0 dm : Told) (entries : List (List ℕ)) → LeavesSince 0 d0 dm (λ file. OpensTo file entries)
    → LeavesSince 0 d0 dm (OpensWithOrWithout entries (begin_entry server servers (is_empty entries)))
still_opens server servers d0 dm entries leaves =
    leaves_weaker d0.chosen 0 (λ file. OpensTo file entries) (OpensWithOrWithout entries (begin_entry server servers (is_empty entries))) d0.history dm.history (λ image opens. inl opens) leaves

module _ (server servers : ℕ) (d0 dm d1 : Told) (records : List (List ℕ)) (bytes : List ℕ) (is : bytes ≡ begin_entry server servers (is_empty records)) where
  -- the log was opened, and the entry of the start appended or tried
  pub start_moments : KeepsOthers 0 d0 dm → OpensTo (given d0 0) records → (entries : List (List ℕ)) → OpensTo (given d0 0) entries → LeavesSince 0 d0 dm (λ file. OpensTo file entries)
      → LeavesSince 0 dm d1 (OpensWithOrWithout records bytes) → LeavesSince 0 d0 d1 (OpensWithOrWithout entries (begin_entry server servers (is_empty entries)))
  start_moments keeps opened entries opens opening appending =
      let same : records ≡ entries = opens_once (given d0 0) records entries opened opens in
      leaves_since_then 0 0 (OpensWithOrWithout entries (begin_entry server servers (is_empty entries))) d0 dm d1 keeps
      (still_opens server servers d0 dm entries opening)
      (subst (λ (es : List (List ℕ)). LeavesSince 0 dm d1 (OpensWithOrWithout es (begin_entry server servers (is_empty es)))) same
      (subst (λ (b : List ℕ). LeavesSince 0 dm d1 (OpensWithOrWithout records b)) is appending))

  pub started : (dt : Type 0) (log : Option ℕ) (store : Store) (count : ℕ) (checkpoint : Option Checkpoint) → (dt → KeepsOthers 0 d0 dm) → (dt → OpensTo (given d0 0) records)
      → (dt → (slot : Option Slot) × Loads dm slot × (checkpoint ≡ usable server servers (length records) slot)) → IsFolded server servers checkpoint records store → (dt → Stands log d1 (records ++ bytes ∷ []))
      → count ≡ length records + 1 → Started dt server servers d0 d1 log store count
  started dt log store count checkpoint keeps opened loaded folded stands counted = record {
    entries = records;
    opened = opened;
    checkpoint = checkpoint;
    loaded = λ tells. let found = loaded tells in (found.0, slots_loaded d0 dm (keeps tells) found.0 found.1, found.2);
    folded = folded;
    stands = λ tells. subst (λ (b : List ℕ). Stands log d1 (records ++ b ∷ [])) is (stands tells);
    counted = counted;
  }

module _ (dt : Type 0) (server servers : ℕ) (file : List ℕ) (before now : ℕ) (e : Status) where
  pub unstarted_bad : (place : ℕ) → e ≡ status.BadLog place → (dt → IsBadAt file place) → IsUnstarted dt server servers file before now e
  unstarted_bad place is bad = inr (inr (inl (place, is, λ tells. inl (bad tells))))

  pub unstarted_fold : (records : List (List ℕ)) → (dt → OpensTo file records) → IsNoFold server servers records e → IsUnstarted dt server servers file before now e
  unstarted_fold records opened (inl memory) = inl memory
  unstarted_fold records opened (inr (inl bad)) = inr (inr (inl (bad.0, bad.1, λ tells. inr (records, opened tells, bad.2))))
  unstarted_fold records opened (inr (inr other)) = inr (inr (inr (
    other.0,
    other.1,
    other.2,
    λ tells. record { entries = records; opens = opened tells; inputs = other.3.inputs; is = other.3.is; another = other.3.another },
  )))
