-- Each Leave that stands behind the end of an event may still stand.
use Rattle.std.proofs.Common.{ℕ, ◌≡◌, Bool, true, false, cond, ◌++◌, List, [], ◌∷◌, filter, Option, None, Some, is_some, refl, ap, ◌∙◌}
use Rattle.std.specs.List.{AllByRecursion}
use Rattle.pg_base.specs.declared.id.FileId.{FileId}
use Rattle.pg_graph.specs.pg_intent.declared.intent.Intent.{Intent}
use Rattle.pg_graph.specs.pg_intent.declared.intent.Intent.TheVariants as intent
use Rattle.pg_graph.specs.pg_intent.declared.key.IntentKey.{IntentKey}
use Rattle.pg_graph.specs.pg_intent.declared.key.IntentKey.TheVariants as intent_key
use Rattle.pg_graph.specs.pg_intent.Intent.{aimed_at, key_of, rejoined}
use Rattle.pg_graph.specs.pg_intent.Intents.{begun, changed, has_key, stands}
use Rattle.pg_graph.specs.pg_msg.declared.work.Slot.{Slot}
use Rattle.pg_graph.specs.pg_msg.declared.work.Work.{Work}
use Rattle.pg_graph.specs.pg_names.Names.{NamesValue}
use Rattle.pg_graph.specs.pg_replica.Index.{Files}
use Rattle.pg_graph.specs.pg_replica.Replicas.{ByFile}
use Rattle.pg_graph.specs.pg_store.declared.store.Store.{Store}
use Rattle.pg_graph.specs.pg_store.declared.wishes.Wish.{Wish}
use Rattle.pg_graph.specs.pg_store.Births.{fill_at, wish_at}
use Rattle.pg_graph.specs.pg_store.Store.{is_held}
use Rattle.pg_graph.specs.pg_pieces.Done.{Done, idle}
use Rattle.pg_intentions.specs.Beginning.{begin_end, end_others, still_stands}
use Rattle.pg_intentions.specs.Confirms.{begin_confirm, confirm_of, is_doubtful}
use Rattle.pg_intentions.specs.Fills.{begin_fill, begin_fills, fill_of, files_to_fill, to_fill, with_fill_birth, without_wished}
use Rattle.pg_intentions.specs.Intending.{begin_intent, each, in_order}
use Rattle.pg_intentions.specs.Patches.{begin_patch, begin_patches, patch_of}
use Rattle.pg_graph.specs.Leaving.{may_still_leave}
use Rattle.pg_intentions.specs.Seeks.{aim_seek, begin_seek, begin_seeks, has_seek, seek_again, seek_target, to_seek, was_linked}

-- a Leave may still stand; of the others nothing is said
abbrev pub Passes : Store → Intent → Type 0
Passes a (intent.Bye file birth peer peer_birth) = Unit {0}
Passes a (intent.Seek file target) = Unit {0}
Passes a (intent.Fill file birth target) = Unit {0}
Passes a (intent.Patch dir entry target) = Unit {0}
Passes a (intent.Confirm dir child target) = Unit {0}
Passes a (intent.Leave file peer peer_birth) = may_still_leave a file peer peer_birth ≡ true

abbrev pub AllPass : Store → List Intent → Type 0
AllPass a is = AllByRecursion (Passes a) is

module _ (a : Store) where
  -- ---- some end

  tested : (files : Files) (i : Intent) → still_stands a files i ≡ true → Passes a i
  tested files (intent.Bye file birth peer peer_birth) h = tt
  tested files (intent.Seek file target) h = tt
  tested files (intent.Fill file birth target) h = tt
  tested files (intent.Patch dir entry target) h = tt
  tested files (intent.Confirm dir child target) h = tt
  tested files (intent.Leave file peer peer_birth) h = h

  kept_pass : (files : Files) (i : Intent) (left : List Intent) (t : Bool) → still_stands a files i ≡ t → AllPass a left
      → AllPass a (cond t (i ∷ left) left)
  kept_pass files i left true h rest = (tested files i h, rest)
  kept_pass files i left false h rest = rest

  filter_pass : (files : Files) (is : List Intent) → AllPass a (filter (still_stands a files) is)
  filter_pass files [] = tt
  filter_pass files (i ∷ is) =
      kept_pass files i (filter (still_stands a files) is) (still_stands a files i) refl (filter_pass files is)

  -- ---- one begins, or asks another server

  either_pass : (t : Bool) (is js : List Intent) → AllPass a is → AllPass a js → AllPass a (cond t is js)
  either_pass true is js one other = one
  either_pass false is js one other = other

  changed_pass : (f : Intent → Intent) → ((i : Intent) → Passes a i → Passes a (f i)) → (is : List Intent) (k : IntentKey)
      → AllPass a is → AllPass a (changed f is k)
  changed_pass f one [] k h = tt
  changed_pass f one (i ∷ is) k h =
      either_pass (has_key k i) (f i ∷ is) (i ∷ changed f is k) (one i h.0, h.1) (h.0, changed_pass f one is k h.1)

  last_pass : (is : List Intent) (i : Intent) → AllPass a is → Passes a i → AllPass a (is ++ i ∷ [])
  last_pass [] i h p = (p, tt)
  last_pass (j ∷ is) i h p = (h.0, last_pass is i h.1 p)

  rejoined_pass : (j i : Intent) → Passes a j → Passes a (rejoined j i)
  rejoined_pass (intent.Bye file birth peer peer_birth) i p = tt
  rejoined_pass (intent.Seek file target) i p = tt
  rejoined_pass (intent.Fill file birth target) i p = tt
  rejoined_pass (intent.Patch dir entry target) (intent.Patch d e t) p = tt
  rejoined_pass (intent.Patch dir entry target) i p = tt
  rejoined_pass (intent.Confirm dir child target) i p = tt
  rejoined_pass (intent.Leave file peer peer_birth) i p = p

  aimed_pass : (to : ℕ) (j : Intent) → Passes a j → Passes a (aimed_at to j)
  aimed_pass to (intent.Bye file birth peer peer_birth) p = tt
  aimed_pass to (intent.Seek file target) p = tt
  aimed_pass to (intent.Fill file birth target) p = tt
  aimed_pass to (intent.Patch dir entry target) p = tt
  aimed_pass to (intent.Confirm dir child target) p = tt
  aimed_pass to (intent.Leave file peer peer_birth) p = p

  begun_pass : (is : List Intent) (i : Intent) → AllPass a is → Passes a i → AllPass a (begun is i)
  begun_pass is i h p =
      either_pass (stands is (key_of i)) (changed (λ (held : Intent). rejoined held i) is (key_of i)) (is ++ i ∷ [])
      (changed_pass (λ (held : Intent). rejoined held i) (λ j q. rejoined_pass j i q) is (key_of i) h) (last_pass is i h p)

  -- ---- each piece

  abbrev Pass : Done → Type 0
  Pass d = AllPass a d.store.intents

  either_done : (t : Bool) (d e : Done) → Pass d → Pass e → Pass (cond t d e)
  either_done true d e one other = one
  either_done false d e one other = other

  patch_pass : (s : Store) (slot : Slot) (w : Work) → AllPass a s.intents → Pass (begin_patch s slot w)
  patch_pass s slot w h =
      either_done (is_held s slot.dir) (idle s w) (begin_intent s (patch_of s slot w) w) h
      (begun_pass s.intents (patch_of s slot w) h tt)

  confirm_pass : (s : Store) (slot : Slot) (w : Work) → AllPass a s.intents → Pass (begin_confirm s slot w)
  confirm_pass s slot w h =
      either_done (is_doubtful s slot.dir slot.child) (begin_intent s (confirm_of s slot) w) (idle s w)
      (begun_pass s.intents (confirm_of s slot) h tt) h

  wished_pass : (s : Store) (file : FileId) (o : Option Wish) → AllPass a s.intents → AllPass a (without_wished s file o).intents
  wished_pass s file None h = h
  wished_pass s file (Some wish) h = h

  birth_pass : (s : Store) (file : FileId) (held : Bool) → AllPass a s.intents
      → AllPass a (cond held s (without_wished s file (wish_at s file))).intents
  birth_pass s file true h = h
  birth_pass s file false h = wished_pass s file (wish_at s file) h

  fill_pass : (s : Store) (file : FileId) (w : Work) → AllPass a s.intents → Pass (begin_fill s file w)
  fill_pass s file w h =
      let b = with_fill_birth s file in
      either_done (is_some (fill_at s file)) (idle s w) (begin_intent b (fill_of s file w) w) h
      (begun_pass b.intents (fill_of s file w) (birth_pass s file (is_held s file) h) tt)

  aims_pass : (s : Store) (file : FileId) (t : Bool) → AllPass a s.intents → AllPass a (cond t (aim_seek s file) s).intents
  aims_pass s file true h =
      changed_pass (aimed_at (seek_target s file)) (aimed_pass (seek_target s file)) s.intents (intent_key.Seek file) h
  aims_pass s file false h = h

  seek_pass : (s : Store) (file : FileId) (w : Work) → AllPass a s.intents → Pass (begin_seek s file w)
  seek_pass s file w h =
      let i = intent.Seek file (seek_target s file) in
      either_done (has_seek s file) (idle (seek_again s file w) w) (begin_intent s i w)
      (aims_pass s file (was_linked w.linked file) h) (begun_pass s.intents i h tt)

  each_pass : {A : Type 0} (step : Store → A → Work → Done)
      → ((s : Store) (x : A) (w : Work) → AllPass a s.intents → Pass (step s x w))
      → (xs : List A) (s : Store) (w : Work) → AllPass a s.intents → Pass (each step s xs w)
  each_pass step one [] s w h = h
  each_pass step one (x ∷ xs) s w h = each_pass step one xs (step s x w).store (step s x w).work (one s x w h)

-- ---- behind the end of an event

pub ended_pass : (s : Store) (w : Work) → AllPass s (begin_end s w).store.intents
ended_pass s w =
    let files = files_to_fill s.names in
    let b = end_others s files in
    let p = begin_patches b w in
    let q = begin_fills p.store (to_fill s.names) p.work in
    let r = begin_seeks q.store (to_seek s) q.work in
    each_pass s begin_confirm (confirm_pass s) (in_order r.work.unsure) r.store r.work
    (each_pass s begin_seek (seek_pass s) (to_seek s) q.store q.work
    (each_pass s begin_fill (fill_pass s) (to_fill s.names) p.store p.work
    (each_pass s begin_patch (patch_pass s) (in_order w.left) b w (filter_pass s files s.intents))))

-- by names and edges alone
leave_moved : (s t : Store) → t.names ≡ s.names → t.replicas ≡ s.replicas → (file : FileId) (peer birth : ℕ)
    → may_still_leave t file peer birth ≡ may_still_leave s file peer birth
leave_moved s t names replicas file peer birth =
    ap (λ (n : NamesValue). may_still_leave (record t { names = n }) file peer birth) names
    ∙ ap (λ (r : ByFile). may_still_leave (record s { replicas = r }) file peer birth) replicas

module _ (s t : Store) (names : t.names ≡ s.names) (replicas : t.replicas ≡ s.replicas) where
  one_moved : (i : Intent) → Passes s i → Passes t i
  one_moved (intent.Bye file birth peer peer_birth) p = tt
  one_moved (intent.Seek file target) p = tt
  one_moved (intent.Fill file birth target) p = tt
  one_moved (intent.Patch dir entry target) p = tt
  one_moved (intent.Confirm dir child target) p = tt
  one_moved (intent.Leave file peer peer_birth) p = leave_moved s t names replicas file peer peer_birth ∙ p

  pub all_moved : (is : List Intent) → AllPass s is → AllPass t is
  all_moved [] h = tt
  all_moved (i ∷ is) h = (one_moved i h.0, all_moved is h.1)
