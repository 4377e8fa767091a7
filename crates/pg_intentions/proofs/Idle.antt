-- Where nothing is left to do, the end of an event leaves all as it is.
use Rattle.std.proofs.Common.{◌≡◌, Bool, true, false, cond, List, [], ◌∷◌, filter, is_some, refl, sym, ap, ◌∙◌}
use Rattle.std.specs.List.{AllByRecursion, list_any}
use Rattle.std.specs.Map.{keys_of}
use Rattle.std.proofs.lemmas.Bool.{false≢true, or_left, or_right}
use Rattle.pg_base.specs.declared.id.FileId.{FileId}
use Rattle.pg_base.specs.Id.{is_same_file}
use Rattle.pg_base.proofs.Orders.{is_same_file-refl}
use Rattle.pg_graph.specs.pg_intent.declared.intent.Intent.{Intent}
use Rattle.pg_graph.specs.pg_intent.declared.intent.Intent.TheVariants as intent
use Rattle.pg_graph.specs.pg_intent.declared.key.IntentKey.{IntentKey}
use Rattle.pg_graph.specs.pg_intent.declared.key.IntentKey.TheVariants as intent_key
use Rattle.pg_graph.specs.pg_intent.Intent.{key_of}
use Rattle.pg_graph.specs.pg_intent.Intents.{has_key, intent_at, stands}
use Rattle.pg_graph.proofs.pg_intent.Found.{stands_is}
use Rattle.pg_graph.proofs.pg_intent.SameKey.{is_same_key-refl}
use Rattle.pg_graph.specs.pg_msg.declared.work.Slot.{Slot}
use Rattle.pg_graph.specs.pg_msg.declared.work.Work.{Work}
use Rattle.pg_graph.specs.pg_names.Names.{NamesValue}
use Rattle.pg_graph.specs.pg_store.declared.store.Store.{Store}
use Rattle.pg_graph.specs.pg_store.Beginning.{with_intents}
use Rattle.pg_graph.specs.pg_store.Births.{fill_at}
use Rattle.pg_graph.specs.pg_pieces.Done.{Done, idle}
use Rattle.pg_intentions.specs.Beginning.{begin_end, confirms_after, end_others, fills_after, seeks_after, still_stands}
use Rattle.pg_intentions.specs.Confirms.{begin_confirm, is_doubtful}
use Rattle.pg_intentions.specs.Fills.{files_to_fill, is_in, to_fill}
use Rattle.pg_intentions.specs.Intending.{each, in_order}
use Rattle.pg_intentions.specs.Needed.{LeavesNothing}
use Rattle.pg_intentions.specs.Patches.{begin_patch, begin_patches}
use Rattle.pg_intentions.specs.Seeks.{has_seek, is_seeking, to_seek}
use Rattle.pg_intentions.proofs.Leaves.{AllPass, Passes, all_moved, ended_pass}
use Rattle.pg_intentions.proofs.Sought.{has_its_seek, seeks_moved}
use Rattle.pg_intentions.proofs.Standing.{among, confirmed_in_doubt, has_its_fill, moved}
use Rattle.pg_intentions.proofs.Steady.{HaveFills, HaveSeeks, begin_end_stays, fills_idle, seeks_idle}

-- ---- all of a list pass

kept_by : (test : Intent → Bool) (i : Intent) (is : List Intent) (t : Bool) → t ≡ true → filter test is ≡ is
    → cond t (i ∷ filter test is) (filter test is) ≡ i ∷ is
kept_by test i is true h rest = ap (λ (xs : List Intent). i ∷ xs) rest
kept_by test i is false h rest = absurd (false≢true h)

all_kept : (test : Intent → Bool) (is : List Intent) → AllByRecursion (λ (i : Intent). test i ≡ true) is → filter test is ≡ is
all_kept test [] h = refl
all_kept test (i ∷ is) h = kept_by test i is (test i) h.0 (all_kept test is h.1)

-- ---- a server's intentions

-- Fills stand of just what is to be filled
abbrev pub FillsFit : Store → Type 0
FillsFit a = (file : FileId) → is_some (fill_at a file) ≡ is_in (files_to_fill a.names) file

-- Confirms only of children in doubt
abbrev pub ConfirmsFit : Store → Type 0
ConfirmsFit a = (dir child : FileId) → is_some (intent_at a.intents (intent_key.Confirm dir child)) ≡ true → is_doubtful a dir child ≡ true

-- Seeks stand of just what seeks
abbrev pub SeeksFit : Store → Type 0
SeeksFit a = (file : FileId) → has_seek a file ≡ is_seeking a file

module _ (a : Store) (fills : FillsFit a) (seeks : SeeksFit a) (confirms : ConfirmsFit a) (leaves : AllPass a a.intents) where
  each_stands : (i : Intent) → stands a.intents (key_of i) ≡ true → Passes a i → still_stands a (files_to_fill a.names) i ≡ true
  each_stands (intent.Bye file birth peer peer_birth) h p = refl
  each_stands (intent.Seek file target) h p = sym (seeks file) ∙ h
  each_stands (intent.Fill file birth target) h p = sym (fills file) ∙ sym (stands_is a.intents (intent_key.Fill file)) ∙ h
  each_stands (intent.Patch dir entry target) h p = refl
  each_stands (intent.Confirm dir child target) h p = confirms dir child (sym (stands_is a.intents (intent_key.Confirm dir child)) ∙ h)
  each_stands (intent.Leave file peer peer_birth) h p = p

  -- of these, which are among all
  all_stand : (is : List Intent) → ((k : IntentKey) → stands is k ≡ true → stands a.intents k ≡ true) → AllPass a is
      → AllByRecursion (λ (i : Intent). still_stands a (files_to_fill a.names) i ≡ true) is
  all_stand [] part pass = tt
  all_stand (i ∷ is) part pass = (
    each_stands i (part (key_of i) (or_left (has_key (key_of i) i) (stands is (key_of i)) (is_same_key-refl (key_of i)))) pass.0,
    all_stand is (λ (k : IntentKey) (h : stands is k ≡ true). part k (or_right (has_key k i) (stands is k) h)) pass.1,
  )

  all_filled : (files : List FileId) → ((f : FileId) → list_any (is_same_file f) files ≡ true → is_some (fill_at a f) ≡ true) → HaveFills a files
  all_filled [] part = tt
  all_filled (file ∷ files) part = (
    part file (or_left (is_same_file file file) (list_any (is_same_file file) files) (is_same_file-refl file)),
    all_filled files (λ (f : FileId) (h : list_any (is_same_file f) files ≡ true). part f (or_right (is_same_file f file) (list_any (is_same_file f) files) h)),
  )

  have_fills : HaveFills a (to_fill a.names)
  have_fills =
      all_filled (to_fill a.names)
      (λ (f : FileId) (h : list_any (is_same_file f) (to_fill a.names) ≡ true). fills f ∙ sym (among f (files_to_fill a.names)) ∙ h)

  sought_by : (file : FileId) (rest : List FileId) (t : Bool) → is_seeking a file ≡ t → HaveSeeks a rest → HaveSeeks a (cond t (file ∷ rest) rest)
  sought_by file rest true h have = (seeks file ∙ h, have)
  sought_by file rest false h have = have

  have_seeks : (files : List FileId) → HaveSeeks a (filter (is_seeking a) files)
  have_seeks [] = tt
  have_seeks (file ∷ files) = sought_by file (filter (is_seeking a) files) (is_seeking a file) refl (have_seeks files)

  none_ends : end_others a (files_to_fill a.names) ≡ a
  none_ends = ap (with_intents a) (all_kept (still_stands a (files_to_fill a.names)) a.intents (all_stand a.intents (λ (k : IntentKey) (h : stands a.intents k ≡ true). h) leaves))

  -- no slot and no edge was noted: nothing ends or begins
  pub nothing_to_do : (w : Work) → w.left ≡ [] → w.unsure ≡ [] → w.linked ≡ [] → begin_end a w ≡ idle a w
  nothing_to_do w left unsure linked =
      ap (λ (s : Store). confirms_after (seeks_after (to_seek a) (fills_after (to_fill a.names) (begin_patches s w)))) none_ends
      ∙ ap (λ (ss : List Slot). confirms_after (seeks_after (to_seek a) (fills_after (to_fill a.names) (each begin_patch a (in_order ss) w)))) left
      ∙ ap (λ (d : Done). confirms_after (seeks_after (to_seek a) d)) (fills_idle a w (to_fill a.names) have_fills)
      ∙ ap confirms_after (seeks_idle a w (to_seek a) (have_seeks (keys_of a.names.held)) linked)
      ∙ ap (λ (ss : List Slot). each begin_confirm a (in_order ss) w) unsure

-- ---- behind the end of an event

pub fills_fit : (s : Store) (w : Work) → FillsFit (begin_end s w).store
fills_fit s w file = has_its_fill s w file ∙ ap (λ (n : NamesValue). is_in (files_to_fill n) file) (sym (begin_end_stays s w).names)

pub seeks_fit : (s : Store) (w : Work) → SeeksFit (begin_end s w).store
seeks_fit s w file =
    has_its_seek s w file
    ∙ sym (seeks_moved file s (begin_end s w).store (begin_end_stays s w).names (begin_end_stays s w).replicas)

pub confirms_fit : (s : Store) (w : Work) → ConfirmsFit (begin_end s w).store
confirms_fit s w dir child = λ there.
    moved dir child s (begin_end s w).store (begin_end_stays s w).names ∙ confirmed_in_doubt s w dir child there

pub leaves_pass : (s : Store) (w : Work) → AllPass (begin_end s w).store (begin_end s w).store.intents
leaves_pass s w =
    let b = (begin_end s w).store in
    let same = begin_end_stays s w in
    all_moved s b same.names same.replicas b.intents (ended_pass s w)

pub leaves_nothing : (s : Store) (w : Work) → LeavesNothing s w
leaves_nothing s w later =
    nothing_to_do (begin_end s w).store (fills_fit s w) (seeks_fit s w) (confirms_fit s w) (leaves_pass s w) later
