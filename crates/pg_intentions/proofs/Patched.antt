-- Which Patches stand behind the end of an event.
use Rattle.std.proofs.Common.{◌≡◌, ℕ, ◌==◌, is_some, Bool, true, false, not, cond, ◌&&◌, ◌||◌, List, [], ◌∷◌, Option, Some, Less, Equal, Greater, refl, sym, ap, ◌∙◌}
use Rattle.std.specs.declared.cmp.Ordering.{Ordering}
use Rattle.std.specs.BTreeMap.{insert_entry, is_at}
use Rattle.std.specs.List.{AllByRecursion, list_any}
use Rattle.std.specs.List.Sorted.{IsStrictlySortedBy}
use Rattle.std.specs.Map.{keys_of, lookup}
use Rattle.std.specs.Ordering.{is_eq, ordering_then}
use Rattle.std.proofs.lemmas.Bool.{false≢true, or_parts, and_parts}
use Rattle.std.proofs.lemmas.Map.Keys.{sorted_head, sorted_tail}
use Rattle.pg_base.specs.declared.id.FileId.{FileId}
use Rattle.pg_base.specs.Id.{file_cmp, is_same_file}
use Rattle.pg_base.proofs.Entries.{IsStrictlySortedBy-insert_entry}
use Rattle.pg_base.proofs.Maps.{lookup-insert_entry}
use Rattle.pg_base.proofs.Orders.{is_same_file-true}
use Rattle.pg_graph.specs.pg_intent.declared.intent.Intent.{Intent}
use Rattle.pg_graph.specs.pg_intent.declared.intent.Intent.TheVariants as intent
use Rattle.pg_graph.specs.pg_intent.declared.key.IntentKey.{IntentKey}
use Rattle.pg_graph.specs.pg_intent.declared.key.IntentKey.TheVariants as intent_key
use Rattle.pg_graph.specs.pg_intent.Target.{next_target as next_of}
use Rattle.pg_graph.specs.pg_intent.Intents.{begun_on, has_key, intent_at}
use Rattle.pg_graph.proofs.pg_intent.Found.{begun_found}
use Rattle.pg_graph.specs.pg_msg.declared.work.Slot.{Slot}
use Rattle.pg_graph.specs.pg_msg.declared.work.Work.{Work}
use Rattle.pg_graph.specs.pg_msg.Work.{slot_cmp}
use Rattle.pg_graph.proofs.pg_msg.Slots.{slot_total}
use Rattle.pg_graph.specs.pg_names.Names.{NamesValue, own_or_blank}
use Rattle.pg_graph.specs.pg_names.Names.{is_held as held_in}
use Rattle.pg_graph.specs.pg_replica.Index.{Files}
use Rattle.pg_graph.specs.pg_store.declared.store.Store.{Store}
use Rattle.pg_graph.specs.pg_store.Servers.{first_target}
use Rattle.pg_graph.specs.pg_store.Store.{is_held}
use Rattle.pg_graph.specs.pg_pieces.Done.{idle}
use Rattle.pg_intentions.specs.Beginning.{begin_end, end_others, still_stands}
use Rattle.pg_repair.specs.Confirming.{entry_for, own_entry}
use Rattle.pg_intentions.specs.Confirms.{begin_confirm}
use Rattle.pg_intentions.specs.Fills.{begin_fill, begin_fills, files_to_fill, to_fill}
use Rattle.pg_intentions.specs.Intending.{Slots, add_slots, begin_intent, each, in_order}
use Rattle.pg_intentions.specs.Needed.{IsPatched}
use Rattle.pg_intentions.specs.Patches.{begin_patch, begin_patches, is_slot, patch_again, patch_of, was_left}
use Rattle.pg_intentions.specs.Seeks.{begin_seek, begin_seeks, to_seek}
use Rattle.pg_intentions.proofs.Needs.{either_in, turned}
use Rattle.pg_intentions.proofs.Standing.{begun_other, confirm_at, each_at, either_at, fill_other, filtered, seek_other}
use Rattle.pg_intentions.proofs.Steady.{patch_stays}

-- ---- slots in order stand once

-- none stands twice
abbrev Once : List Slot → Type 0
Once [] = Unit {0}
Once (s ∷ ss) = (list_any (is_slot s.dir s.child) ss ≡ false) × Once ss

less_differs : (o p : Ordering) → ordering_then o p ≡ Less → (is_eq o && is_eq p) ≡ false
less_differs Less p h = refl
less_differs Greater p h = refl
less_differs Equal Less h = refl
less_differs Equal Greater h = refl
less_differs Equal Equal h = absurd cc

none_less : (s : Slot) (ss : List Slot) → AllByRecursion (λ (y : Slot). slot_cmp s y ≡ Less) ss → list_any (is_slot s.dir s.child) ss ≡ false
none_less s [] h = refl
none_less s (y ∷ ys) h =
    ap (λ t. t || list_any (is_slot s.dir s.child) ys) (less_differs (file_cmp s.dir y.dir) (file_cmp s.child y.child) h.0) ∙ none_less s ys h.1

once : (ss : List Slot) → IsStrictlySortedBy slot_cmp ss → Once ss
once [] h = tt
once (s ∷ ss) h = (none_less s ss (sorted_head slot_cmp s ss h), once ss (sorted_tail slot_cmp s ss h))

none_sorted : IsStrictlySortedBy slot_cmp (keys_of {X = Unit {0}} [])
unfolding IsStrictlySortedBy
none_sorted = tt

added_sorted : (ss : List Slot) (slots : Slots) → IsStrictlySortedBy slot_cmp (keys_of slots) → IsStrictlySortedBy slot_cmp (keys_of (add_slots slots ss))
added_sorted [] slots h = h
added_sorted (s ∷ ss) slots h = added_sorted ss (insert_entry slot_cmp slots s tt) (IsStrictlySortedBy-insert_entry slot_cmp slot_total s tt slots h)

in_order_once : (ss : List Slot) → Once (in_order ss)
in_order_once ss = once (in_order ss) (added_sorted ss [] none_sorted)

-- ---- those in order are those that were noted

then_same : (o p : Ordering) → is_eq (ordering_then o p) ≡ (is_eq o && is_eq p)
then_same Less p = refl
then_same Equal p = refl
then_same Greater p = refl

or_none : (t : Bool) → (t || false) ≡ t
or_none true = refl
or_none false = refl

found_by : (t u rest : Bool) (v : Unit {0}) (o : Option (Unit {0})) → t ≡ u → rest ≡ is_some o → (u || rest) ≡ is_some (cond t (Some v) o)
found_by true true rest v o same h = refl
found_by true false rest v o same h = absurd (false≢true (sym same))
found_by false true rest v o same h = absurd (false≢true same)
found_by false false rest v o same h = h

module _ (d c : FileId) where
  abbrev this : Slot
  this = record { dir = d; child = c }

  slot_at : (x : Slot) → is_at (slot_cmp this) x ≡ is_slot d c x
  slot_at x = then_same (file_cmp d x.dir) (file_cmp c x.child)

  among_slots : (es : Slots) → list_any (is_slot d c) (keys_of es) ≡ is_some (lookup (is_at (slot_cmp this)) es)
  among_slots [] = refl
  among_slots (e ∷ es) =
      found_by (is_at (slot_cmp this) e.0) (is_slot d c e.0) (list_any (is_slot d c) (keys_of es)) e.1 (lookup (is_at (slot_cmp this)) es)
      (slot_at e.0) (among_slots es)

  put_slot : (es : Slots) (x : Slot) → list_any (is_slot d c) (keys_of (insert_entry slot_cmp es x tt)) ≡ (is_slot d c x || list_any (is_slot d c) (keys_of es))
  put_slot es x =
      let o = lookup (is_at (slot_cmp this)) es in
      among_slots (insert_entry slot_cmp es x tt)
      ∙ ap is_some (lookup-insert_entry slot_cmp slot_total this x tt es)
      ∙ either_in (is_at (slot_cmp this) x) o
      ∙ ap (λ t. t || is_some o) (slot_at x)
      ∙ ap (λ t. is_slot d c x || t) (sym (among_slots es))

  added_any : (ss : List Slot) (es : Slots) → list_any (is_slot d c) (keys_of (add_slots es ss)) ≡ (list_any (is_slot d c) ss || list_any (is_slot d c) (keys_of es))
  added_any [] es = refl
  added_any (s ∷ ss) es =
      added_any ss (insert_entry slot_cmp es s tt)
      ∙ ap (λ t. list_any (is_slot d c) ss || t) (put_slot es s)
      ∙ turned (list_any (is_slot d c) ss) (is_slot d c s) (list_any (is_slot d c) (keys_of es))

  pub in_order_any : (ss : List Slot) → list_any (is_slot d c) (in_order ss) ≡ list_any (is_slot d c) ss
  in_order_any ss = added_any ss [] ∙ or_none (list_any (is_slot d c) ss)

-- ---- what is found with the key of a Patch

module _ (d c : FileId) where
  abbrev key : IntentKey
  key = intent_key.Patch d c

  abbrev told : Store → Work → Intent
  told s w = patch_again s d c w

  abbrev target_in : ℕ → NamesValue → ℕ → ℕ
  target_in servers names from = cond (from == 0) (next_of servers names.server names.removed names.server) from

  abbrev told_in : Option Intent → NamesValue → ℕ → ℕ → Intent
  told_in o names servers from = begun_on o (intent.Patch d (entry_for c (own_or_blank names c)) (target_in servers names from))

  told_same : (s t : Store) (v w : Work) → t.names ≡ s.names → t.servers ≡ s.servers → w.from ≡ v.from
      → intent_at t.intents key ≡ intent_at s.intents key → told t w ≡ told s v
  told_same s t v w names servers from found =
      ap (λ (o : Option Intent). told_in o t.names t.servers w.from) found
      ∙ ap (λ (n : NamesValue). told_in (intent_at s.intents key) n t.servers w.from) names
      ∙ ap (λ (k : ℕ). told_in (intent_at s.intents key) s.names k w.from) servers
      ∙ ap (λ (k : ℕ). told_in (intent_at s.intents key) s.names s.servers k) from

  pub other_at : (s : Store) (x : Slot) (w : Work) → is_slot d c x ≡ false → intent_at (begin_patch s x w).store.intents key ≡ intent_at s.intents key
  other_at s x w other =
      either_at key (intent_at s.intents key) (is_held s x.dir) (idle s w) (begin_intent s (patch_of s x w) w) refl
      (begun_other s (patch_of s x w) w key other)

  others_at : (xs : List Slot) (s : Store) (w : Work) → list_any (is_slot d c) xs ≡ false
      → intent_at (each begin_patch s xs w).store.intents key ≡ intent_at s.intents key
  others_at [] s w none = refl
  others_at (x ∷ xs) s w none =
      let parts = or_parts (is_slot d c x) (list_any (is_slot d c) xs) none in
      others_at xs (begin_patch s x w).store (begin_patch s x w).work parts.1 ∙ other_at s x w parts.0

  here_at : (s : Store) (x : Slot) (w : Work) → is_slot d c x ≡ true → is_held s d ≡ false
      → intent_at (begin_patch s x w).store.intents key ≡ Some (told s w)
  here_at s x w same away =
      let parts = and_parts (is_same_file d x.dir) (is_same_file c x.child) same in
      let dir = is_same_file-true d x.dir parts.0 in
      let child = is_same_file-true c x.child parts.1 in
      let o = intent_at s.intents key in
      let to = first_target s w.from in
      ap (λ (t : Bool). intent_at (cond t (idle s w) (begin_intent s (patch_of s x w) w)).store.intents key) (sym (ap (is_held s) dir) ∙ away)
      ∙ begun_found s.intents (patch_of s x w) key
      ∙ ap (λ (t : Bool). cond t (Some (begun_on o (patch_of s x w))) o) same
      ∙ sym (ap (λ (y : FileId). Some (begun_on o (intent.Patch y (own_entry s c) to))) dir
      ∙ ap (λ (y : FileId). Some (begun_on o (intent.Patch x.dir (own_entry s y) to))) child)

  patches_by : (x : Slot) (xs : List Slot) (s : Store) (w : Work) → Once (x ∷ xs) → (t : Bool) → is_slot d c x ≡ t
      → ((a : Store) (v : Work) → list_any (is_slot d c) xs ≡ true → is_held a d ≡ false → intent_at (each begin_patch a xs v).store.intents key ≡ Some (told a v))
      → (t || list_any (is_slot d c) xs) ≡ true → is_held s d ≡ false
      → intent_at (each begin_patch s (x ∷ xs) w).store.intents key ≡ Some (told s w)
  patches_by x xs s w single true same rest some away =
      let parts = and_parts (is_same_file d x.dir) (is_same_file c x.child) same in
      let none = ap (λ (y : FileId). list_any (is_slot y c) xs) (is_same_file-true d x.dir parts.0)
      ∙ ap (λ (y : FileId). list_any (is_slot x.dir y) xs) (is_same_file-true c x.child parts.1) ∙ single.0 in
      others_at xs (begin_patch s x w).store (begin_patch s x w).work none ∙ here_at s x w same away
  patches_by x xs s w single false same rest some away =
      let e = begin_patch s x w in
      let stays = patch_stays s x w in
      rest e.store e.work some (ap (λ (n : NamesValue). held_in n d) stays.names ∙ away)
      ∙ ap (λ (i : Intent). Some i) (told_same s e.store w e.work stays.names stays.servers stays.from (other_at s x w same))

  patches_at : (xs : List Slot) → Once xs → (s : Store) (w : Work) → list_any (is_slot d c) xs ≡ true → is_held s d ≡ false
      → intent_at (each begin_patch s xs w).store.intents key ≡ Some (told s w)
  patches_at [] single s w some away = absurd (false≢true some)
  patches_at (x ∷ xs) single s w some away = patches_by x xs s w single (is_slot d c x) refl (patches_at xs single.1) some away

  -- no Patch ends here
  tested : (s : Store) (files : Files) (i : Intent) → has_key key i ≡ true → still_stands s files i ≡ true
  tested s files (intent.Bye file birth peer peer_birth) h = refl
  tested s files (intent.Seek file target) h = absurd (false≢true h)
  tested s files (intent.Fill file birth target) h = absurd (false≢true h)
  tested s files (intent.Patch dir entry target) h = refl
  tested s files (intent.Confirm dir child target) h = absurd (false≢true h)
  tested s files (intent.Leave file peer peer_birth) h = absurd (false≢true h)

  pub ended_at : (s : Store) → intent_at (end_others s (files_to_fill s.names)).intents key ≡ intent_at s.intents key
  ended_at s = filtered key (still_stands s (files_to_fill s.names)) true (tested s (files_to_fill s.names)) s.intents

  -- what begins behind the Patches has another key
  pub behind_at : (s : Store) (w : Work) → intent_at (begin_end s w).store.intents key
      ≡ intent_at (begin_patches (end_others s (files_to_fill s.names)) w).store.intents key
  behind_at s w =
      let p = begin_patches (end_others s (files_to_fill s.names)) w in
      let q = begin_fills p.store (to_fill s.names) p.work in
      let r = begin_seeks q.store (to_seek s) q.work in
      each_at begin_confirm key (confirm_at key (λ a b. refl)) (in_order r.work.unsure) r.store r.work
      ∙ each_at begin_seek key (seek_other key (λ a. refl)) (to_seek s) q.store q.work
      ∙ each_at begin_fill key (fill_other key (λ a. refl)) (to_fill s.names) p.store p.work

  -- a live place of the child in the directory was replaced, and the directory is not held
  pub patched : (s : Store) (w : Work) → list_any (is_slot d c) w.left ≡ true → is_held s d ≡ false
      → intent_at (begin_end s w).store.intents key ≡ Some (told s w)
  patched s w some away =
      let a = end_others s (files_to_fill s.names) in
      behind_at s w ∙ patches_at (in_order w.left) (in_order_once w.left) a w (in_order_any d c w.left ∙ some) away
      ∙ ap (λ (i : Intent). Some i) (told_same s a w w refl refl refl (ended_at s))

  -- or none was
  pub unpatched : (s : Store) (w : Work) → list_any (is_slot d c) w.left ≡ false
      → intent_at (begin_end s w).store.intents key ≡ intent_at s.intents key
  unpatched s w none =
      behind_at s w ∙ others_at (in_order w.left) (end_others s (files_to_fill s.names)) w (in_order_any d c w.left ∙ none) ∙ ended_at s

  -- where the directory is held no Patch for it begins
  held_by : (s : Store) (x : Slot) (w : Work) → is_held s d ≡ true → (t : Bool) → is_slot d c x ≡ t
      → intent_at (begin_patch s x w).store.intents key ≡ intent_at s.intents key
  held_by s x w here true same =
      let dir = is_same_file-true d x.dir (and_parts (is_same_file d x.dir) (is_same_file c x.child) same).0 in
      ap (λ (t : Bool). intent_at (cond t (idle s w) (begin_intent s (patch_of s x w) w)).store.intents key) (sym (ap (is_held s) dir) ∙ here)
  held_by s x w here false other = other_at s x w other

  helds_at : (xs : List Slot) (s : Store) (w : Work) → is_held s d ≡ true
      → intent_at (each begin_patch s xs w).store.intents key ≡ intent_at s.intents key
  helds_at [] s w here = refl
  helds_at (x ∷ xs) s w here =
      let e = begin_patch s x w in
      helds_at xs e.store e.work (ap (λ (n : NamesValue). held_in n d) (patch_stays s x w).names ∙ here)
      ∙ held_by s x w here (is_slot d c x) refl

  patched_by : (s : Store) (w : Work) (t u : Bool) → was_left w d c ≡ t → is_held s d ≡ u
      → intent_at (begin_end s w).store.intents key ≡ cond (t && not u) (Some (told s w)) (intent_at s.intents key)
  patched_by s w true true left here = behind_at s w ∙ helds_at (in_order w.left) (end_others s (files_to_fill s.names)) w here ∙ ended_at s
  patched_by s w true false left away = patched s w left away
  patched_by s w false u left held = unpatched s w left

  pub is_patched : (s : Store) (w : Work) → IsPatched s w d c
  is_patched s w = patched_by s w (was_left w d c) (is_held s d) refl refl
