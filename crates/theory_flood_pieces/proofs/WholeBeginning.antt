-- A replica that begins, of what was not held, leaves a server whole; and so does a replica that is
-- full.
use Rattle.std.proofs.Common.{ℕ, ◌≡◌, Bool, true, false, cond, not, List, [], ◌∷◌, ◌++◌, get_or, Option, None, Some, is_some, refl, sym, ap, subst, ◌∙◌, All}
use Rattle.std.specs.List.{IsAmong, filter}
use Rattle.std.proofs.lemmas.List.{get_or_default}
use Rattle.std.proofs.lemmas.List.Elements.{All-filter, All-head, All-tail}
use Rattle.pg_base.specs.declared.id.FileId.{FileId}
use Rattle.pg_base.specs.declared.policy.Policy.{Policy}
use Rattle.pg_base.specs.Id.{is_same_file}
use Rattle.pg_base.proofs.Orders.{is_same_file-true}
use Rattle.pg_entries.specs.declared.entry.Entry.{Entry}
use Rattle.pg_cells.specs.pg_intent.declared.intent.Intent.{Intent}
use Rattle.pg_cells.specs.pg_intent.declared.intent.Intent.TheVariants as intent
use Rattle.pg_cells.specs.pg_intent.declared.key.IntentKey.{IntentKey}
use Rattle.pg_cells.specs.pg_intent.declared.key.IntentKey.TheVariants as intent_key
use Rattle.pg_cells.specs.pg_intent.Intents.{ended, has_key, intent_at}
use Rattle.pg_cells.specs.pg_names.declared.attributes.Attributes.{Attributes}
use Rattle.pg_cells.specs.pg_names.Names.{InodeValue, fill, filled, is_dir, known, own_of}
use Rattle.pg_cells.proofs.pg_names.Holding.{fill_own}
use Rattle.pg_cells.proofs.pg_names.Lookups.{update_frame}
use Rattle.pg_register.specs.Flag.{IsByServer}
use Rattle.pg_cells.specs.pg_replica.Replica.{new_replica}
use Rattle.pg_cells.specs.pg_store.declared.store.Store.{Store}
use Rattle.pg_cells.specs.pg_store.Beginning.{begin, patch_key, patches_of, put_new, take_patch, take_patches, take_told, take_told_in, with_intents}
use Rattle.pg_cells.specs.pg_store.Store.{is_held, with_names}
use Rattle.pg_cells.proofs.pg_store.Pairs.{new_together}
use Rattle.theory_flood_pieces.specs.Whole.{IsWhole, PatchesAreForDirs}
use Rattle.theory_flood_pieces.proofs.Beginning.{none_known}
use Rattle.theory_flood_pieces.proofs.Graphs.{no_edges}
use Rattle.theory_flood_pieces.proofs.Orderly.{orderly_begun, orderly_filled}
use Rattle.theory_flood_pieces.proofs.Whole.{graphs_of, graphs_put, whole_by, whole_entry}

-- ---- members of what is left

among_itself : {A : Type 0} (xs : List A) → All (IsAmong xs) xs
among_itself xs i d lt = (i, (lt, get_or_default xs i d (get_or xs i d) lt))

pub left_among : {A : Type 0} (p : A → Bool) (x : A) (xs : List A) → IsAmong (filter p xs) x → IsAmong xs x
left_among p x xs k =
    subst (IsAmong xs) (sym k.1.1) (All-filter p (IsAmong xs) xs (among_itself xs) k.0 x k.1.0)

-- a Patch is for a directory
abbrev pub IsForDir : Intent → Type 0
IsForDir (intent.Bye file birth peer peer_birth) = Unit {0}
IsForDir (intent.Seek file target) = Unit {0}
IsForDir (intent.Fill file birth target) = Unit {0}
IsForDir (intent.Patch dir e target) = is_dir dir ≡ true
IsForDir (intent.Confirm dir child target) = Unit {0}
IsForDir (intent.Leave file peer peer_birth) = Unit {0}

for_dir : (i : Intent) → ((dir : FileId) (e : Entry) (target : ℕ) → i ≡ intent.Patch dir e target → is_dir dir ≡ true) → IsForDir i
for_dir (intent.Bye file birth peer peer_birth) h = tt
for_dir (intent.Seek file target) h = tt
for_dir (intent.Fill file birth target) h = tt
for_dir (intent.Patch dir e target) h = h dir e target refl
for_dir (intent.Confirm dir child target) h = tt
for_dir (intent.Leave file peer peer_birth) h = tt

pub are_for_dirs : (a : Store) → PatchesAreForDirs a → All IsForDir a.intents
are_for_dirs a h i d lt =
    for_dir (get_or a.intents i d) (λ dir e target is. h dir e target (subst (IsAmong a.intents) is (among_itself a.intents i d lt)))

pub dirs_are_for : (a : Store) → All IsForDir a.intents → PatchesAreForDirs a
dirs_are_for a h dir e target k = subst IsForDir (sym k.1.1) (h k.0 (intent.Patch dir e target) k.1.0)

-- so what is no directory has none
none_by : (dir to : FileId) (e : Entry) → is_dir dir ≡ false → is_dir to ≡ true → (t : Bool) → is_same_file to dir ≡ t → cond t (intent_key.Patch dir e.child ∷ []) [] ≡ []
none_by dir to e other of_dir true same =
    let z : true ≡ false = sym of_dir ∙ ap is_dir (is_same_file-true to dir same) ∙ other in
    absurd (let y = z in cc)
none_by dir to e other of_dir false apart = refl

no_patch : (dir : FileId) → is_dir dir ≡ false → (i : Intent) → IsForDir i → patch_key dir i ≡ []
no_patch dir other (intent.Bye file birth peer peer_birth) h = refl
no_patch dir other (intent.Seek file target) h = refl
no_patch dir other (intent.Fill file birth target) h = refl
no_patch dir other (intent.Patch to e target) h = none_by dir to e other h (is_same_file to dir) refl
no_patch dir other (intent.Confirm to child target) h = refl
no_patch dir other (intent.Leave file peer peer_birth) h = refl

no_patches : (dir : FileId) → is_dir dir ≡ false → (is : List Intent) → All IsForDir is → patches_of dir is ≡ []
no_patches dir other [] h = refl
no_patches dir other (i ∷ is) h =
    ap (λ ks. ks ++ patches_of dir is) (no_patch dir other i (All-head IsForDir i is h))
    ∙ no_patches dir other is (All-tail IsForDir i is h)

-- ---- the Patches are taken

module _ (n s : ℕ) (dir : FileId) (of_dir : is_dir dir ≡ true) where
  told_whole : (a : Store) → IsWhole n s a → (i : Intent) → IsWhole n s (take_told a dir i)
  told_whole a k (intent.Bye file birth peer peer_birth) = k
  told_whole a k (intent.Seek file target) = k
  told_whole a k (intent.Fill file birth target) = k
  told_whole a k (intent.Patch to entry target) = whole_entry n s a k dir entry of_dir
  told_whole a k (intent.Confirm to child target) = k
  told_whole a k (intent.Leave file peer peer_birth) = k

  told_in_whole : (a : Store) → IsWhole n s a → (o : Option Intent) → IsWhole n s (take_told_in a dir o)
  told_in_whole a k None = k
  told_in_whole a k (Some i) = told_whole a k i

  patch_whole : (a : Store) → IsWhole n s a → (q : IntentKey) → IsWhole n s (take_patch a dir q)
  patch_whole a k q =
      let rest = with_intents a (ended a.intents q) in
      let fewer : PatchesAreForDirs rest = λ d e target among. k.patches d e target (left_among (λ i. not (has_key q i)) (intent.Patch d e target) a.intents among) in
      told_in_whole rest (whole_by n s a rest k refl refl k.names (graphs_of n s a k) k.together fewer) (intent_at a.intents q)

  pub patches_whole : (ks : List IntentKey) (a : Store) → IsWhole n s a → IsWhole n s (take_patches a dir ks)
  patches_whole [] a k = k
  patches_whole (q ∷ qs) a k = patches_whole qs (take_patch a dir q) (patch_whole a k q)

-- ---- a replica begins

module _ (n s : ℕ) (a : Store) (file : FileId) (birth : ℕ) (policy : Policy) (own : Attributes) (full : Bool) (away : is_held a file ≡ false) (flags : IsByServer own.flags) (k : IsWhole n s a) where
  abbrev New : Store
  New = put_new a file birth policy own full

  new_whole : IsWhole n s New
  new_whole =
      whole_by n s a New k refl refl (orderly_begun a.names file own full (none_known (known a.names file) away) flags k.names)
      (graphs_put n s a.replicas file (graphs_of n s a k) (new_replica birth policy) (no_edges n s))
      (new_together a file birth policy own full k.together) k.patches

  by_kind : (t : Bool) → is_dir file ≡ t → IsWhole n s (begin a file birth policy own full)
  by_kind true of_dir = patches_whole n s file of_dir (patches_of file a.intents) New new_whole
  by_kind false other =
      let P : List IntentKey → Type 0 = λ ks. IsWhole n s (take_patches New file ks) in
      subst P (sym (no_patches file other a.intents (are_for_dirs a k.patches))) new_whole

  pub whole_begun : IsWhole n s (begin a file birth policy own full)
  whole_begun = by_kind (is_dir file) refl

-- ---- a replica is full

some_own : (o : Option InodeValue) → is_some o ≡ is_some (own_of o)
some_own None = refl
some_own (Some x) = refl

pub whole_filled : (n s : ℕ) (a : Store) (file : FileId) → IsWhole n s a → IsWhole n s (with_names a (fill a.names file))
whole_filled n s a file k =
    whole_by n s a (with_names a (fill a.names file)) k (update_frame a.names file filled).server refl (orderly_filled a.names file k.names) (graphs_of n s a k)
    (λ f. k.together f ∙ held_same f) k.patches
  where
    held_same : (f : FileId) → is_held a f ≡ is_held (with_names a (fill a.names file)) f
    held_same f =
        some_own (known a.names f) ∙ ap (λ (o : Option Attributes). is_some o) (sym (fill_own a.names file f))
        ∙ sym (some_own (known (fill a.names file) f))
