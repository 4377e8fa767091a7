-- Which intentions begin behind an event that left names as they were, and of replicas all but one:
-- a Seek of that file, or none.
use Rattle.std.proofs.Common.{ℕ, ◌≡◌, ◌&&◌, ◌||◌, ◌++◌, ◌⊎◌, Bool, true, false, not, cond, List, [], ◌∷◌, filter, Option, None, Some, is_some, inl, inr, refl, sym, ap, subst, ◌∙◌}
use Rattle.std.specs.List.{list_any}
use Rattle.std.specs.Map.{keys_of}
use Rattle.std.specs.Option.{option_map}
use Rattle.std.proofs.lemmas.Bool.{false≢true, or_left, or_right}
use Rattle.pg_run.specs.pg_base.declared.id.FileId.{FileId}
use Rattle.pg_run.specs.pg_base.Id.{is_same_file}
use Rattle.pg_run.specs.pg_names.Names.{NamesValue, is_held, own_or_blank}
use Rattle.pg_run.specs.pg_register.Flag.{is_raised}
use Rattle.pg_run.specs.pg_replica.declared.replica.Replica.{Replica}
use Rattle.pg_run.specs.pg_replica.Index.{Files}
use Rattle.pg_run.specs.pg_replica.Replicas.{or_nothing}
use Rattle.pg_run.specs.pg_intent.declared.intent.Intent.{Intent}
use Rattle.pg_run.specs.pg_intent.declared.intent.Intent.TheVariants as intent
use Rattle.pg_run.specs.pg_intent.declared.key.IntentKey.{IntentKey}
use Rattle.pg_run.specs.pg_intent.declared.key.IntentKey.TheVariants as intent_key
use Rattle.pg_run.specs.pg_intent.Intent.{aimed_at}
use Rattle.pg_run.specs.pg_intent.Intents.{begun_on, has_key, intent_at}
use Rattle.pg_run.specs.pg_msg.declared.work.Slot.{Slot}
use Rattle.pg_run.specs.pg_msg.declared.work.Work.{Work}
use Rattle.pg_run.specs.pg_msg.Work.{new_work}
use Rattle.pg_run.specs.pg_store.declared.store.Store.{Store}
use Rattle.pg_run.specs.pg_store.Births.{fill_at}
use Rattle.pg_run.specs.pg_store.Store.{replica_at}
use Rattle.pg_run.specs.pg_pieces.Done.{Done, idle}
use Rattle.pg_run.specs.pg_intentions.Beginning.{begin_end, confirms_after, end_others, fills_after, seeks_after, still_stands}
use Rattle.pg_run.specs.pg_intentions.Confirms.{begin_confirm}
use Rattle.pg_run.specs.pg_intentions.Fills.{files_to_fill, is_in, to_fill}
use Rattle.pg_run.specs.pg_intentions.Intending.{begin_intent, each, in_order, with_begun_if}
use Rattle.pg_run.specs.pg_intentions.Patches.{begin_patch}
use Rattle.pg_run.specs.pg_intentions.Seeks.{aim_seek, begin_seek, begin_seeks, has_seek, is_apart, is_seeking, matches, seek_again, seek_target, to_seek, was_linked}
use Rattle.pg_run.proofs.pg_base.Orders.{is_same_file-refl, is_same_file-true}
use Rattle.pg_run.proofs.pg_intent.Found.{aimed_found, begun_found}
use Rattle.pg_run.proofs.pg_intentions.Idle.{FillsFit, SeeksFit, fills_fit, seeks_fit}
use Rattle.pg_run.proofs.pg_intentions.Sought.{stands_there}
use Rattle.pg_run.proofs.pg_intentions.Standing.{among, filtered}
use Rattle.pg_run.proofs.pg_intentions.Steady.{HaveFills, each_stays, fills_idle, seek_stays}
use Rattle.pg_run.proofs.Ticks.{StaysIntended}

-- ---- what seeks, by its names and its replica

abbrev seeking_by : FileId → NamesValue → Option Replica → Bool
seeking_by f names o =
    let flags = (own_or_blank names f).flags in
    let x = or_nothing o in
    is_held names f && cond (is_raised flags names.server x.birth)
    (list_any (is_apart names.server names.removed x.edges) flags)
    (not (list_any (matches names.removed flags) x.edges))

pub same_seeking : (a b : Store) (f : FileId) → b.names ≡ a.names → replica_at b f ≡ replica_at a f
    → is_seeking b f ≡ is_seeking a f
same_seeking a b f names replica =
    ap (λ (n : NamesValue). seeking_by f n (replica_at b f)) names ∙ ap (seeking_by f a.names) replica

-- ---- what stands, behind one that begins or is aimed anew

module _ (f : FileId) where
  same_aimed : (same : Bool) (to : ℕ) (o : Option Intent)
      → is_some (cond same (option_map (aimed_at to) o) o) ≡ is_some o
  same_aimed true to None = refl
  same_aimed true to (Some i) = refl
  same_aimed false to o = refl

  aimed_stands : (s : Store) (g : FileId) (t : Bool)
      → has_seek (cond t (aim_seek s g) s) f ≡ has_seek s f
  aimed_stands s g true =
      stands_there f (aim_seek s g)
      ∙ ap is_some (aimed_found s.intents (intent_key.Seek g) (seek_target s g) (intent_key.Seek f))
      ∙ same_aimed (is_same_file f g) (seek_target s g) (intent_at s.intents (intent_key.Seek f))
      ∙ sym (stands_there f s)
  aimed_stands s g false = refl

  some_by : (same : Bool) (i : Intent) (o : Option Intent)
      → is_some (cond same (Some i) o) ≡ (same || is_some o)
  some_by true i o = refl
  some_by false i o = refl

  begun_stands : (s : Store) (g : FileId) (w : Work)
      → has_seek (begin_intent s (intent.Seek g (seek_target s g)) w).store f
      ≡ (is_same_file f g || has_seek s f)
  begun_stands s g w =
      let i = intent.Seek g (seek_target s g) in
      let k = intent_key.Seek f in
      stands_there f (begin_intent s i w).store ∙ ap is_some (begun_found s.intents i k)
      ∙ some_by (is_same_file f g) (begun_on (intent_at s.intents k) i) (intent_at s.intents k)
      ∙ ap (λ t. is_same_file f g || t) (sym (stands_there f s))

-- ---- what stands behind those that end

module _ (f : FileId) (b : Store) (files : Files) where
  seek_tested : (i : Intent) → has_key (intent_key.Seek f) i ≡ true
      → still_stands b files i ≡ is_seeking b f
  seek_tested (intent.Bye file birth peer peer_birth) h = absurd (false≢true h)
  seek_tested (intent.Seek file target) h = sym (ap (is_seeking b) (is_same_file-true f file h))
  seek_tested (intent.Fill file birth target) h = absurd (false≢true h)
  seek_tested (intent.Patch dir entry target) h = absurd (false≢true h)
  seek_tested (intent.Confirm dir child target) h = absurd (false≢true h)
  seek_tested (intent.Leave file peer peer_birth) h = absurd (false≢true h)

  fill_tested : (i : Intent) → has_key (intent_key.Fill f) i ≡ true
      → still_stands b files i ≡ is_in files f
  fill_tested (intent.Bye file birth peer peer_birth) h = absurd (false≢true h)
  fill_tested (intent.Seek file target) h = absurd (false≢true h)
  fill_tested (intent.Fill file birth target) h =
      sym (ap (is_in files) (is_same_file-true f file h))
  fill_tested (intent.Patch dir entry target) h = absurd (false≢true h)
  fill_tested (intent.Confirm dir child target) h = absurd (false≢true h)
  fill_tested (intent.Leave file peer peer_birth) h = absurd (false≢true h)

  kept_seek : is_seeking b f ≡ true → has_seek (end_others b files) f ≡ has_seek b f
  kept_seek seeks =
      let k = intent_key.Seek f in
      stands_there f (end_others b files)
      ∙ ap is_some (filtered k (still_stands b files) (is_seeking b f) seek_tested b.intents)
      ∙ ap (λ t. is_some (cond t (intent_at b.intents k) None)) seeks ∙ sym (stands_there f b)

  kept_fill : is_in files f ≡ true
      → is_some (fill_at (end_others b files) f) ≡ is_some (fill_at b f)
  kept_fill fills =
      let k = intent_key.Fill f in
      ap is_some (filtered k (still_stands b files) (is_in files f) fill_tested b.intents)
      ∙ ap (λ t. is_some (cond t (intent_at b.intents k) None)) fills

-- Fills of all these stand
all_filled : (s : Store) (files : List FileId)
    → ((f : FileId) → list_any (is_same_file f) files ≡ true → is_some (fill_at s f) ≡ true)
    → HaveFills s files
all_filled s [] part = tt
all_filled s (file ∷ files) part = (
  part file (or_left (is_same_file file file) (list_any (is_same_file file) files) (is_same_file-refl file)),
  all_filled s files (λ f h. part f (or_right (is_same_file f file) (list_any (is_same_file f) files) h)),
)

-- ---- which begin

-- a server that held a, where nothing was left to do, holds b: names and intentions are as they
-- were, and so are all replicas but that of one file
module _ (a b : Store) (file : FileId) (still : StaysIntended a) (names : b.names ≡ a.names)
    (intents : b.intents ≡ a.intents)
    (others : (f : FileId) → is_same_file f file ≡ false → replica_at b f ≡ replica_at a f) where
  abbrev Key : IntentKey
  Key = intent_key.Seek file

  -- none, or a Seek of the file, of which none stood, and which seeks now
  abbrev pub IsBegun : List IntentKey → Type 0
  IsBegun ks = (ks ≡ [])
      ⊎ ((ks ≡ Key ∷ []) × (has_seek a file ≡ false) × (is_seeking b file ≡ true))

  rested : begin_end a (new_work 0 0) ≡ idle a (new_work 0 0)
  rested = still (new_work 0 0) refl refl refl

  fills : FillsFit a
  fills = subst (λ (d : Done). FillsFit d.store) rested (fills_fit a (new_work 0 0))

  pub seeks : SeeksFit a
  seeks = subst (λ (d : Done). SeeksFit d.store) rested (seeks_fit a (new_work 0 0))

  same_seek : (f : FileId) → has_seek b f ≡ has_seek a f
  same_seek f = ap (λ (is : List Intent). has_seek (record b { intents = is }) f) intents

  abbrev Files_b : Files
  Files_b = files_to_fill b.names

  abbrev E : Store
  E = end_others b Files_b

  have_fills : HaveFills E (to_fill b.names)
  have_fills =
      all_filled E (to_fill b.names)
      (λ f h. let there : is_in Files_b f ≡ true = sym (among f Files_b) ∙ h in
      kept_fill f b Files_b there
      ∙ ap (λ (is : List Intent). is_some (fill_at (record b { intents = is }) f)) intents
      ∙ fills f ∙ ap (λ (n : NamesValue). is_in (files_to_fill n) f) (sym names) ∙ there)

  -- ---- the Seeks

  abbrev Seeking : List FileId → Type 0
  Seeking [] = Unit {0}
  Seeking (g ∷ gs) = (is_seeking b g ≡ true) × Seeking gs

  picked : (t : Bool) (g : FileId) (gs : List FileId) → is_seeking b g ≡ t → Seeking gs
      → Seeking (cond t (g ∷ gs) gs)
  picked true g gs is rest = (is, rest)
  picked false g gs is rest = rest

  all_seek : (gs : List FileId) → Seeking (filter (is_seeking b) gs)
  all_seek [] = tt
  all_seek (g ∷ gs) =
      picked (is_seeking b g) g (filter (is_seeking b) gs) refl (all_seek gs)

  -- of all other files that seek one stands
  abbrev OthersStand : Store → Type 0
  OthersStand s = (f : FileId) → is_seeking b f ≡ true → is_same_file f file ≡ false
      → has_seek s f ≡ true

  -- none began, and one of the file stands where it stood; or it began
  abbrev IsOn : Store → List IntentKey → Type 0
  IsOn s ks = ((ks ≡ []) × (is_seeking b file ≡ true → has_seek a file ≡ true → has_seek s file ≡ true))
      ⊎ ((ks ≡ Key ∷ []) × (has_seek a file ≡ false) × (is_seeking b file ≡ true)
      × (has_seek s file ≡ true))

  abbrev GoesOn : Done → Type 0
  GoesOn d = OthersStand d.store × IsOn d.store d.work.begun

  ends_so : (s : Store) (ks : List IntentKey) → IsOn s ks → IsBegun ks
  ends_so s ks on = elim on [ inl none ↦ inl none.0 | inr one ↦ inr (one.0, one.1, one.2) ]

  module _ (s : Store) (g : FileId) (w : Work) (seeking : is_seeking b g ≡ true)
      (stand : OthersStand s) (on : IsOn s w.begun) where
    abbrev I : Intent
    I = intent.Seek g (seek_target s g)

    -- it stands: at most another server is asked
    again : GoesOn (idle (seek_again s g w) w)
    again =
        let t = was_linked w.linked g in
        let same : has_seek (seek_again s g w) file ≡ has_seek s file = aimed_stands file s g t in (
          λ f seeks_too apart. aimed_stands f s g t ∙ stand f seeks_too apart,
          elim on [
            | inl none ↦ inl (none.0, λ seeks_too had. same ∙ none.1 seeks_too had)
            | inr one ↦ inr (one.0, one.1, one.2, same ∙ one.3)
          ],
        )

    begins : has_seek s g ≡ false → (is_same : g ≡ file) → has_seek a file ≡ false
        → w.begun ≡ [] → GoesOn (begin_intent s I w)
    begins missing is_same had none = (
      λ f seeks_too apart. begun_stands f s g w
          ∙ or_right (is_same_file f g) (has_seek s f) (stand f seeks_too apart),
      inr (
        ap (λ t. (with_begun_if (not t) w (intent_key.Seek g)).begun) missing
            ∙ ap (λ (ks : List IntentKey). ks ++ intent_key.Seek g ∷ []) none
            ∙ ap (λ (f : FileId). intent_key.Seek f ∷ []) is_same,
        had,
        subst (λ (f : FileId). is_seeking b f ≡ true) is_same seeking,
        begun_stands file s g w
            ∙ or_left (is_same_file file g) (has_seek s file)
            (ap (is_same_file file) is_same ∙ is_same_file-refl file),
      ),
    )

    had_none : (had : Bool) → has_seek a file ≡ had → has_seek s g ≡ false → g ≡ file
        → (w.begun ≡ []) × (is_seeking b file ≡ true → has_seek a file ≡ true → has_seek s file ≡ true)
        → GoesOn (begin_intent s I w)
    had_none true had missing is_same none =
        let there = none.1 (subst (λ (f : FileId). is_seeking b f ≡ true) is_same seeking) had in
        absurd (false≢true (sym missing ∙ ap (has_seek s) is_same ∙ there))
    had_none false had missing is_same none = begins missing is_same had none.0

    of_this : has_seek s g ≡ false → g ≡ file → GoesOn (begin_intent s I w)
    of_this missing is_same = elim on [
      | inl none ↦ had_none (has_seek a file) refl missing is_same none
      | inr one ↦ absurd (false≢true (sym missing ∙ ap (has_seek s) is_same ∙ one.3))
    ]

    by_file : (same : Bool) → is_same_file g file ≡ same → has_seek s g ≡ false
        → GoesOn (begin_intent s I w)
    by_file true same missing = of_this missing (is_same_file-true g file same)
    by_file false same missing = absurd (false≢true (sym missing ∙ stand g seeking same))

    by_standing : (t : Bool) → has_seek s g ≡ t
        → GoesOn (cond t (idle (seek_again s g w) w) (begin_intent s I w))
    by_standing true is = again
    by_standing false is = by_file (is_same_file g file) refl is

    one_goes : GoesOn (begin_seek s g w)
    one_goes = by_standing (has_seek s g) refl

  each_goes : (gs : List FileId) (s : Store) (w : Work) → Seeking gs → OthersStand s
      → IsOn s w.begun → IsBegun (begin_seeks s gs w).work.begun
  each_goes [] s w seeking stand on = ends_so s w.begun on
  each_goes (g ∷ gs) s w seeking stand on =
      let d = begin_seek s g w in
      let k = one_goes s g w seeking.0 stand on in
      each_goes gs d.store d.work seeking.1 k.0 k.1

  -- ---- all

  stood : (f : FileId) → is_seeking b f ≡ true → has_seek a f ≡ true → has_seek E f ≡ true
  stood f seeking had = kept_seek f b Files_b seeking ∙ same_seek f ∙ had

  module _ (w : Work) (left : w.left ≡ []) (unsure : w.unsure ≡ []) (begun : w.begun ≡ []) where
    abbrev Sought : Done
    Sought = begin_seeks E (to_seek b) w

    sought : IsBegun Sought.work.begun
    sought =
        each_goes (to_seek b) E w (all_seek (keys_of b.names.held))
        (λ f seeking apart.
        stood f seeking (seeks f ∙ sym (same_seeking a b f names (others f apart)) ∙ seeking))
        (inl (begun, stood file))

    no_doubt : Sought.work.unsure ≡ []
    no_doubt = (each_stays begin_seek seek_stays (to_seek b) E w).unsure ∙ unsure

    ends_as : begin_end b w ≡ Sought
    ends_as =
        let behind : Done → Done = λ d. confirms_after (seeks_after (to_seek b) d) in
        ap (λ (ss : List Slot). behind (fills_after (to_fill b.names) (each begin_patch E (in_order ss) w)))
        left
        ∙ ap behind (fills_idle E w (to_fill b.names) have_fills)
        ∙ ap (λ (ss : List Slot). each begin_confirm Sought.store (in_order ss) Sought.work) no_doubt

    -- WHAT BEGINS
    pub which_begin : IsBegun (begin_end b w).work.begun
    which_begin = subst (λ (d : Done). IsBegun d.work.begun) (sym ends_as) sought
