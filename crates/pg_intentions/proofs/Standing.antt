-- Which intentions stand behind the end of an event, by what is found with each key.
use Rattle.std.proofs.Common.{◌≡◌, Bool, true, false, cond, ◌&&◌, ◌||◌, List, [], ◌∷◌, filter, Option, None, Some, is_some, refl, sym, ap, ◌∙◌}
use Rattle.std.specs.BTreeMap.{is_at}
use Rattle.std.specs.List.{list_any}
use Rattle.std.specs.Map.{keys_of, lookup}
use Rattle.std.specs.Option.{option_map}
use Rattle.std.proofs.lemmas.Bool.{false≢true}
use Rattle.pg_base.specs.declared.id.FileId.{FileId}
use Rattle.pg_base.specs.Id.{file_cmp, is_same_file}
use Rattle.pg_base.proofs.Orders.{is_same_file-true}
use Rattle.pg_graph.specs.pg_intent.declared.intent.Intent.{Intent}
use Rattle.pg_graph.specs.pg_intent.declared.intent.Intent.TheVariants as intent
use Rattle.pg_graph.specs.pg_intent.declared.key.IntentKey.{IntentKey}
use Rattle.pg_graph.specs.pg_intent.declared.key.IntentKey.TheVariants as intent_key
use Rattle.pg_graph.specs.pg_intent.Intent.{aimed_at, key_of}
use Rattle.pg_graph.specs.pg_intent.Intents.{begun_on, has_key, intent_at}
use Rattle.pg_graph.specs.pg_intent.Key.{is_same_key}
use Rattle.pg_graph.proofs.pg_intent.Found.{aimed_found, begun_found}
use Rattle.pg_graph.specs.pg_msg.declared.work.Slot.{Slot}
use Rattle.pg_graph.specs.pg_msg.declared.work.Work.{Work}
use Rattle.pg_graph.specs.pg_names.Names.{NamesValue}
use Rattle.pg_graph.specs.pg_replica.Index.{Files}
use Rattle.pg_graph.specs.pg_store.declared.store.Store.{Store}
use Rattle.pg_graph.specs.pg_store.declared.wishes.Wish.{Wish}
use Rattle.pg_graph.specs.pg_store.Births.{fill_at, wish_at}
use Rattle.pg_graph.specs.pg_store.Store.{is_held}
use Rattle.pg_graph.specs.pg_pieces.Done.{Done, idle}
use Rattle.pg_intentions.specs.Beginning.{begin_end, end_others, still_stands}
use Rattle.pg_intentions.specs.Confirms.{begin_confirm, confirm_of, is_doubtful, is_doubtful_in}
use Rattle.pg_intentions.specs.Fills.{begin_fill, begin_fills, fill_of, files_to_fill, is_in, to_fill, with_fill_birth, without_wished}
use Rattle.pg_intentions.specs.Intending.{begin_intent, each, in_order}
use Rattle.pg_intentions.specs.Needed.{HasItsFill, IsConfirmedInDoubt}
use Rattle.pg_intentions.specs.Patches.{begin_patch, begin_patches, patch_of}
use Rattle.pg_intentions.specs.Seeks.{aim_seek, begin_seek, begin_seeks, has_seek, seek_again, seek_target, to_seek, was_linked}
use Rattle.pg_intentions.proofs.Needs.{turned}
use Rattle.pg_intentions.proofs.Steady.{confirm_stays, each_stays, fill_stays, patch_stays, seek_stays, stays_on}

-- ---- those that pass a test of their key

filtered_by : (k : IntentKey) (test : Intent → Bool) (t : Bool) (i : Intent) (is : List Intent) (h u : Bool) → has_key k i ≡ h → (h ≡ true → u ≡ t)
    → intent_at (filter test is) k ≡ cond t (intent_at is k) None
    → intent_at (cond u (i ∷ filter test is) (filter test is)) k ≡ cond t (cond h (Some i) (intent_at is k)) None
filtered_by k test t i is true true has same rest =
    ap (λ (b : Bool). cond b (Some i) (intent_at (filter test is) k)) has ∙ ap (λ (b : Bool). cond b (Some i) None) (same refl)
filtered_by k test t i is true false has same rest =
    rest ∙ sym (ap (λ (b : Bool). cond b (intent_at is k) None) (same refl)) ∙ ap (λ (b : Bool). cond b (Some i) None) (same refl)
filtered_by k test t i is false true has same rest = ap (λ (b : Bool). cond b (Some i) (intent_at (filter test is) k)) has ∙ rest
filtered_by k test t i is false false has same rest = rest

none_either : (t : Bool) → ◌≡◌ {A = Option Intent} None (cond t None None)
none_either true = refl
none_either false = refl

-- where all with a key pass or none does
pub filtered : (k : IntentKey) (test : Intent → Bool) (t : Bool) → ((i : Intent) → has_key k i ≡ true → test i ≡ t)
    → (is : List Intent) → intent_at (filter test is) k ≡ cond t (intent_at is k) None
filtered k test t same [] = none_either t
filtered k test t same (i ∷ is) = filtered_by k test t i is (has_key k i) (test i) refl (same i) (filtered k test t same is)

-- ---- an intention with another key begins

pub begun_other : (s : Store) (i : Intent) (w : Work) (k : IntentKey) → is_same_key k (key_of i) ≡ false
    → intent_at (begin_intent s i w).store.intents k ≡ intent_at s.intents k
begun_other s i w k other =
    begun_found s.intents i k ∙ ap (λ (b : Bool). cond b (Some (begun_on (intent_at s.intents k) i)) (intent_at s.intents k)) other

pub either_at : (k : IntentKey) (o : Option Intent) (t : Bool) (d e : Done) → intent_at d.store.intents k ≡ o → intent_at e.store.intents k ≡ o
    → intent_at (cond t d e).store.intents k ≡ o
either_at k o true d e one other = one
either_at k o false d e one other = other

pub each_at : {A : Type 0} (step : Store → A → Work → Done) (k : IntentKey)
    → ((s : Store) (x : A) (w : Work) → intent_at (step s x w).store.intents k ≡ intent_at s.intents k)
    → (xs : List A) (s : Store) (w : Work) → intent_at (each step s xs w).store.intents k ≡ intent_at s.intents k
each_at step k one [] s w = refl
each_at step k one (x ∷ xs) s w = each_at step k one xs (step s x w).store (step s x w).work ∙ one s x w

pub patch_at : (k : IntentKey) → ((d c : FileId) → is_same_key k (intent_key.Patch d c) ≡ false)
    → (s : Store) (slot : Slot) (w : Work) → intent_at (begin_patch s slot w).store.intents k ≡ intent_at s.intents k
patch_at k other s slot w =
    either_at k (intent_at s.intents k) (is_held s slot.dir) (idle s w) (begin_intent s (patch_of s slot w) w) refl
    (begun_other s (patch_of s slot w) w k (other slot.dir slot.child))

pub confirm_at : (k : IntentKey) → ((d c : FileId) → is_same_key k (intent_key.Confirm d c) ≡ false)
    → (s : Store) (slot : Slot) (w : Work) → intent_at (begin_confirm s slot w).store.intents k ≡ intent_at s.intents k
confirm_at k other s slot w =
    either_at k (intent_at s.intents k) (is_doubtful s slot.dir slot.child) (begin_intent s (confirm_of s slot) w) (idle s w)
    (begun_other s (confirm_of s slot) w k (other slot.dir slot.child)) refl

-- a birth that is given out, or a wish that ends, leaves intentions as they are
wished_at : (s : Store) (file : FileId) (o : Option Wish) → (without_wished s file o).intents ≡ s.intents
wished_at s file None = refl
wished_at s file (Some wish) = refl

birth_at : (s : Store) (file : FileId) (held : Bool) → (cond held s (without_wished s file (wish_at s file))).intents ≡ s.intents
birth_at s file true = refl
birth_at s file false = wished_at s file (wish_at s file)

pub fill_other : (k : IntentKey) → ((f : FileId) → is_same_key k (intent_key.Fill f) ≡ false)
    → (s : Store) (file : FileId) (w : Work) → intent_at (begin_fill s file w).store.intents k ≡ intent_at s.intents k
fill_other k other s file w =
    let b = with_fill_birth s file in
    either_at k (intent_at s.intents k) (is_some (fill_at s file)) (idle s w) (begin_intent b (fill_of s file w) w) refl
    (begun_other b (fill_of s file w) w k (other file) ∙ ap (λ (is : List Intent). intent_at is k) (birth_at s file (is_held s file)))

-- where a Seek asks another server, it stands as it did
aims_by : (s : Store) (file : FileId) (t : Bool) (k : IntentKey) → is_same_key k (intent_key.Seek file) ≡ false
    → intent_at (cond t (aim_seek s file) s).intents k ≡ intent_at s.intents k
aims_by s file true k other =
    aimed_found s.intents (intent_key.Seek file) (seek_target s file) k
    ∙ ap (λ (b : Bool). cond b (option_map (aimed_at (seek_target s file)) (intent_at s.intents k)) (intent_at s.intents k)) other
aims_by s file false k other = refl

pub seek_other : (k : IntentKey) → ((f : FileId) → is_same_key k (intent_key.Seek f) ≡ false)
    → (s : Store) (file : FileId) (w : Work) → intent_at (begin_seek s file w).store.intents k ≡ intent_at s.intents k
seek_other k other s file w =
    let i = intent.Seek file (seek_target s file) in
    either_at k (intent_at s.intents k) (has_seek s file) (idle (seek_again s file w) w) (begin_intent s i w)
    (aims_by s file (was_linked w.linked file) k (other file)) (begun_other s i w k (other file))

-- ---- Fills

module _ (f : FileId) where
  stays_there : (s : Store) (g : FileId) (same : Bool) → is_same_file f g ≡ same → is_some (fill_at s g) ≡ true
      → is_some (fill_at s f) ≡ (same || is_some (fill_at s f))
  stays_there s g true same there = ap (λ (x : FileId). is_some (fill_at s x)) (is_same_file-true f g same) ∙ there
  stays_there s g false same there = refl

  some_by : (same : Bool) (i : Intent) (o : Option Intent) → is_some (cond same (Some i) o) ≡ (same || is_some o)
  some_by true i o = refl
  some_by false i o = refl

  begins_there : (s : Store) (g : FileId) (w : Work)
      → is_some (fill_at (begin_intent (with_fill_birth s g) (fill_of s g w) w).store f) ≡ (is_same_file f g || is_some (fill_at s f))
  begins_there s g w =
      let b = with_fill_birth s g in
      let i = fill_of s g w in
      ap is_some (begun_found b.intents i (intent_key.Fill f))
      ∙ some_by (is_same_file f g) (begun_on (intent_at b.intents (intent_key.Fill f)) i) (intent_at b.intents (intent_key.Fill f))
      ∙ ap (λ (is : List Intent). is_same_file f g || is_some (intent_at is (intent_key.Fill f))) (birth_at s g (is_held s g))

  fill_by : (s : Store) (g : FileId) (w : Work) (t : Bool) → is_some (fill_at s g) ≡ t
      → is_some (fill_at (cond t (idle s w) (begin_intent (with_fill_birth s g) (fill_of s g w) w)).store f) ≡ (is_same_file f g || is_some (fill_at s f))
  fill_by s g w true there = stays_there s g (is_same_file f g) refl there
  fill_by s g w false there = begins_there s g w

  -- each of these has one then
  fills_at : (files : List FileId) (s : Store) (w : Work)
      → is_some (fill_at (begin_fills s files w).store f) ≡ (list_any (is_same_file f) files || is_some (fill_at s f))
  fills_at [] s w = refl
  fills_at (g ∷ gs) s w =
      let d = begin_fill s g w in
      fills_at gs d.store d.work
      ∙ ap (λ t. list_any (is_same_file f) gs || t) (fill_by s g w (is_some (fill_at s g)) refl)
      ∙ turned (list_any (is_same_file f) gs) (is_same_file f g) (is_some (fill_at s f))

  among_by : {X : Type 0} (same : Bool) (rest : Bool) (x : X) (o : Option X) → rest ≡ is_some o → (same || rest) ≡ is_some (cond same (Some x) o)
  among_by true rest x o h = refl
  among_by false rest x o h = h

  pub among : {X : Type 0} (es : List (FileId × X)) → list_any (is_same_file f) (keys_of es) ≡ is_some (lookup (is_at (file_cmp f)) es)
  among [] = refl
  among (e ∷ es) = among_by (is_same_file f e.0) (list_any (is_same_file f) (keys_of es)) e.1 (lookup (is_at (file_cmp f)) es) (among es)

  tested : (s : Store) (files : Files) (i : Intent) → has_key (intent_key.Fill f) i ≡ true → still_stands s files i ≡ is_in files f
  tested s files (intent.Bye file birth peer peer_birth) h = absurd (false≢true h)
  tested s files (intent.Seek file target) h = absurd (false≢true h)
  tested s files (intent.Fill file birth target) h = sym (ap (is_in files) (is_same_file-true f file h))
  tested s files (intent.Patch dir entry target) h = absurd (false≢true h)
  tested s files (intent.Confirm dir child target) h = absurd (false≢true h)
  tested s files (intent.Leave file peer peer_birth) h = absurd (false≢true h)

  -- where it is to be filled it has one, and where it is not the one that stood has ended
  pub whole : (t : Bool) (o : Option Intent) → (t || is_some (cond t o None)) ≡ t
  whole true o = refl
  whole false o = refl

pub has_its_fill : (store : Store) (work : Work) (file : FileId) → HasItsFill store work file
has_its_fill store work file =
    let k = intent_key.Fill file in
    let files = files_to_fill store.names in
    let a = end_others store files in
    let p = begin_patches a work in
    let q = begin_fills p.store (to_fill store.names) p.work in
    let r = begin_seeks q.store (to_seek store) q.work in
    ap is_some (each_at begin_confirm k (confirm_at k (λ d c. refl)) (in_order r.work.unsure) r.store r.work
    ∙ each_at begin_seek k (seek_other k (λ f. refl)) (to_seek store) q.store q.work)
    ∙ fills_at file (to_fill store.names) p.store p.work
    ∙ ap (λ t. t || is_some (fill_at p.store file)) (among file files)
    ∙ ap (λ (o : Option Intent). is_in files file || is_some o)
    (each_at begin_patch k (patch_at k (λ d c. refl)) (in_order work.left) a work
    ∙ filtered k (still_stands store files) (is_in files file) (tested file store files) store.intents)
    ∙ whole file (is_in files file) (intent_at store.intents k)

-- where some end a Fill stays just where its file is to be filled
pub fill_ended : (s : Store) (file : FileId) → fill_at (end_others s (files_to_fill s.names)) file
    ≡ cond (is_in (files_to_fill s.names) file) (fill_at s file) None
fill_ended s file =
    filtered (intent_key.Fill file) (still_stands s (files_to_fill s.names)) (is_in (files_to_fill s.names) file) (tested file s (files_to_fill s.names)) s.intents

-- ---- Confirms

module _ (dir child : FileId) where
  abbrev key : IntentKey
  key = intent_key.Confirm dir child

  both_same : (a b : Bool) → (a && b) ≡ true → (a ≡ true) × (b ≡ true)
  both_same true b h = (refl, h)
  both_same false b h = absurd (false≢true h)

  pub tested_too : (s : Store) (files : Files) (i : Intent) → has_key key i ≡ true → still_stands s files i ≡ is_doubtful s dir child
  tested_too s files (intent.Bye file birth peer peer_birth) h = absurd (false≢true h)
  tested_too s files (intent.Seek file target) h = absurd (false≢true h)
  tested_too s files (intent.Fill file birth target) h = absurd (false≢true h)
  tested_too s files (intent.Patch d entry target) h = absurd (false≢true h)
  tested_too s files (intent.Confirm d c target) h =
      let same = both_same (is_same_file dir d) (is_same_file child c) h in
      sym (ap (λ (x : FileId). is_doubtful s x child) (is_same_file-true dir d same.0) ∙ ap (is_doubtful s d) (is_same_file-true child c same.1))
  tested_too s files (intent.Leave file peer peer_birth) h = absurd (false≢true h)

  -- whatever stands is in doubt
  abbrev InDoubt : Store → Type 0
  InDoubt s = is_some (intent_at s.intents key) ≡ true → is_doubtful s dir child ≡ true

  begins_by : (s : Store) (slot : Slot) (w : Work) (same : Bool) → is_same_key key (key_of (confirm_of s slot)) ≡ same
      → is_doubtful s slot.dir slot.child ≡ true → InDoubt s → InDoubt (begin_intent s (confirm_of s slot) w).store
  begins_by s slot w true same doubt before = λ there.
      let parts = both_same (is_same_file dir slot.dir) (is_same_file child slot.child) same in
      ap (λ (x : FileId). is_doubtful s x child) (is_same_file-true dir slot.dir parts.0)
      ∙ ap (is_doubtful s slot.dir) (is_same_file-true child slot.child parts.1) ∙ doubt
  begins_by s slot w false same doubt before = λ there. before (sym (ap is_some (begun_other s (confirm_of s slot) w key same)) ∙ there)

  confirm_by : (s : Store) (slot : Slot) (w : Work) (t : Bool) → is_doubtful s slot.dir slot.child ≡ t → InDoubt s
      → InDoubt (cond t (begin_intent s (confirm_of s slot) w) (idle s w)).store
  confirm_by s slot w true doubt before = begins_by s slot w (is_same_key key (key_of (confirm_of s slot))) refl doubt before
  confirm_by s slot w false doubt before = before

  each_in_doubt : (slots : List Slot) (s : Store) (w : Work) → InDoubt s → InDoubt (each begin_confirm s slots w).store
  each_in_doubt [] s w before = before
  each_in_doubt (slot ∷ slots) s w before =
      let d = begin_confirm s slot w in
      each_in_doubt slots d.store d.work (confirm_by s slot w (is_doubtful s slot.dir slot.child) refl before)

  -- by names alone
  pub moved : (s t : Store) → t.names ≡ s.names → is_doubtful t dir child ≡ is_doubtful s dir child
  moved s t same = ap (λ (n : NamesValue). is_doubtful_in n dir child) same

  chosen : (t : Bool) (o : Option Intent) → is_some (cond t o None) ≡ true → t ≡ true
  chosen true o h = refl
  chosen false o h = absurd (false≢true h)

pub confirmed_in_doubt : (store : Store) (work : Work) (dir child : FileId) → IsConfirmedInDoubt store work dir child
confirmed_in_doubt store work dir child =
    let k = key dir child in
    let files = files_to_fill store.names in
    let a = end_others store files in
    let p = begin_patches a work in
    let q = begin_fills p.store (to_fill store.names) p.work in
    let r = begin_seeks q.store (to_seek store) q.work in
    let before = each_stays begin_patch patch_stays (in_order work.left) a work in
    let behind = stays_on (each_stays begin_fill fill_stays (to_fill store.names) p.store p.work)
    (each_stays begin_seek seek_stays (to_seek store) q.store q.work) in
    let last = each_stays begin_confirm confirm_stays (in_order r.work.unsure) r.store r.work in
    let found : intent_at r.store.intents k ≡ cond (is_doubtful store dir child) (intent_at store.intents k) None =
    each_at begin_seek k (seek_other k (λ f. refl)) (to_seek store) q.store q.work
    ∙ each_at begin_fill k (fill_other k (λ f. refl)) (to_fill store.names) p.store p.work
    ∙ each_at begin_patch k (patch_at k (λ d c. refl)) (in_order work.left) a work
    ∙ filtered k (still_stands store files) (is_doubtful store dir child) (tested_too dir child store files) store.intents in
    let first : InDoubt dir child r.store = λ there.
    moved dir child store r.store (behind.names ∙ before.names)
    ∙ chosen dir child (is_doubtful store dir child) (intent_at store.intents k) (sym (ap is_some found) ∙ there) in
    λ there.
    sym (moved dir child store (begin_end store work).store (last.names ∙ behind.names ∙ before.names))
    ∙ each_in_doubt dir child (in_order r.work.unsure) r.store r.work first there
