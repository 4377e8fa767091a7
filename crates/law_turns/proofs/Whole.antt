-- The end of an event: intentions end, and others begin in turn.
use Rattle.std.proofs.Common.{◌≡◌, Bool, true, false, cond, List, [], ◌∷◌, refl, subst, sym}
use Rattle.std.specs.List.{AllByRecursion, filter}
use Rattle.std.specs.List.Sorted.{IsStrictlySortedBy}
use Rattle.std.specs.Map.{keys_of}
use Rattle.std.proofs.lemmas.List.{append-nil}
use Rattle.pg_run.specs.pg_base.Id.{file_cmp}
use Rattle.pg_run.specs.pg_intent.declared.intent.Intent.{Intent}
use Rattle.pg_run.specs.pg_intent.declared.key.IntentKey.{IntentKey}
use Rattle.pg_run.specs.pg_intent.declared.key.IntentKey.TheVariants as key
use Rattle.pg_run.specs.pg_intent.Intent.{key_of}
use Rattle.pg_run.specs.pg_intentions.Beginning.{begin_end, end_others, still_stands}
use Rattle.pg_run.specs.pg_intentions.Confirms.{begin_confirm}
use Rattle.pg_run.specs.pg_intentions.Fills.{begin_fill, begin_fills, files_to_fill, to_fill}
use Rattle.pg_run.specs.pg_intentions.Intending.{in_order}
use Rattle.pg_run.specs.pg_intentions.Patches.{begin_patch, begin_patches}
use Rattle.pg_run.specs.pg_intentions.Seeks.{begin_seek, begin_seeks, to_seek}
use Rattle.pg_run.specs.pg_msg.declared.work.Work.{Work}
use Rattle.pg_run.specs.pg_msg.Work.{slot_cmp}
use Rattle.pg_run.specs.pg_pieces.Done.{Done}
use Rattle.pg_run.specs.pg_store.declared.store.Store.{Store}
use Rattle.pg_run.proofs.pg_intentions.Steady.{IsSteady, confirm_stays, each_stays, fill_stays, patch_stays, seek_stays, stays, stays_on}
use Rattle.law_turns.proofs.Aims.{IsAimed}
use Rattle.law_turns.proofs.EachKind.{Bounded, Split, confirm_one, fill_one, kind_begins, patch_one, seek_one, targets_are}
use Rattle.law_turns.proofs.Shapes.{all_to, none_began}
use Rattle.law_turns.proofs.Sorting.{fills_sorted, rising, seeks_sorted, slots_sorted}

filter_at : {A : Type 0} (P : A → Type 0) (p : A → Bool) (x : A) (xs : List A) (t : Bool) → P x → AllByRecursion P (filter p xs)
    → AllByRecursion P (cond t (x ∷ filter p xs) (filter p xs))
filter_at P p x xs true here rest = (here, rest)
filter_at P p x xs false here rest = rest

all_filter : {A : Type 0} (P : A → Type 0) (p : A → Bool) (xs : List A) → AllByRecursion P xs → AllByRecursion P (filter p xs)
all_filter P p [] all = tt
all_filter P p (x ∷ xs) all = filter_at P p x xs (p x) all.0 (all_filter P p xs all.1)

module _ (Old : IntentKey → Type 0) (a : Store) (w : Work) (older : AllByRecursion (λ i. Old (key_of i)) a.intents)
    (things : IsStrictlySortedBy file_cmp (keys_of a.names.held)) where
  abbrev Ended : Store
  Ended = end_others a (files_to_fill a.names)

  abbrev IsSplit : List Intent → Type 0
  IsSplit is = Split Old Ended w is

  begins : (q : IsSplit Ended.intents) × (q.new ≡ [])
  begins =
      none_began Old (IsAimed Ended w.from) Ended.intents
      (all_filter (λ i. Old (key_of i)) (still_stands a (files_to_fill a.names)) a.intents older) (sym (append-nil Ended.intents))

  -- ---- Patches

  abbrev Patched : Done
  Patched = begin_patches Ended w

  patched : (q : IsSplit Patched.store.intents) × Bounded 2 q.new
  patched =
      kind_begins Old Ended w begin_patch (λ slot. key.Patch slot.dir slot.child) 1 (λ slot. refl) patch_stays (patch_one Old Ended w)
      (in_order w.left) Ended w (stays Ended w) begins.0
      (rising (λ slot. key.Patch slot.dir slot.child) slot_cmp (λ x y h. h) (in_order w.left) (slots_sorted w.left))
      (subst (Bounded 1) (sym begins.1) tt)

  patched_steady : IsSteady Ended w Patched
  patched_steady = each_stays begin_patch patch_stays (in_order w.left) Ended w

  -- ---- Fills

  abbrev Filled : Done
  Filled = begin_fills Patched.store (to_fill a.names) Patched.work

  filled : (q : IsSplit Filled.store.intents) × Bounded 3 q.new
  filled =
      kind_begins Old Ended w begin_fill key.Fill 2 (λ f. refl) fill_stays (fill_one Old Ended w)
      (to_fill a.names) Patched.store Patched.work patched_steady patched.0
      (rising key.Fill file_cmp (λ x y h. h) (to_fill a.names) (fills_sorted a.names)) patched.1

  filled_steady : IsSteady Ended w Filled
  filled_steady = stays_on patched_steady (each_stays begin_fill fill_stays (to_fill a.names) Patched.store Patched.work)

  -- ---- Seeks

  abbrev Sought : Done
  Sought = begin_seeks Filled.store (to_seek a) Filled.work

  sought : (q : IsSplit Sought.store.intents) × Bounded 4 q.new
  sought =
      kind_begins Old Ended w begin_seek key.Seek 3 (λ f. refl) seek_stays (seek_one Old Ended w)
      (to_seek a) Filled.store Filled.work filled_steady filled.0
      (rising key.Seek file_cmp (λ x y h. h) (to_seek a) (seeks_sorted a things)) filled.1

  sought_steady : IsSteady Ended w Sought
  sought_steady = stays_on filled_steady (each_stays begin_seek seek_stays (to_seek a) Filled.store Filled.work)

  -- ---- Confirms

  abbrev End : Done
  End = begin_end a w

  ended : (q : IsSplit End.store.intents) × Bounded 5 q.new
  ended =
      kind_begins Old Ended w begin_confirm (λ slot. key.Confirm slot.dir slot.child) 4 (λ slot. refl) confirm_stays (confirm_one Old Ended w)
      (in_order Sought.work.unsure) Sought.store Sought.work sought_steady sought.0
      (rising (λ slot. key.Confirm slot.dir slot.child) slot_cmp (λ x y h. h) (in_order Sought.work.unsure) (slots_sorted Sought.work.unsure)) sought.1

  end_steady : IsSteady Ended w End
  end_steady =
      stays_on sought_steady (each_stays begin_confirm confirm_stays (in_order Sought.work.unsure) Sought.store Sought.work)

  -- what began, in turn, with targets as they are in the end
  pub in_turn : (q : IsSplit End.store.intents) × AllByRecursion (IsAimed End.store w.from) q.new
  in_turn = (
    ended.0,
    all_to (IsAimed Ended w.from) (IsAimed End.store w.from)
        (targets_are Old Ended w End.store End.work end_steady end_steady.from) ended.0.new ended.0.first,
  )
