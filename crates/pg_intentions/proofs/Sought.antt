-- Which Seeks stand behind the end of an event.
use Rattle.std.proofs.Common.{◌≡◌, ℕ, Bool, true, false, not, cond, ◌&&◌, ◌||◌, List, [], ◌∷◌, filter, Option, None, Some, is_some, refl, sym, ap, ◌∙◌}
use Rattle.std.specs.List.{list_any}
use Rattle.std.specs.Map.{keys_of}
use Rattle.std.specs.Option.{option_map}
use Rattle.std.proofs.lemmas.Bool.{false≢true}
use Rattle.pg_base.specs.declared.id.FileId.{FileId}
use Rattle.pg_base.specs.Id.{is_same_file}
use Rattle.pg_base.proofs.Orders.{is_same_file-true}
use Rattle.pg_graph.specs.pg_intent.declared.intent.Intent.{Intent}
use Rattle.pg_graph.specs.pg_intent.declared.intent.Intent.TheVariants as intent
use Rattle.pg_graph.specs.pg_intent.declared.key.IntentKey.{IntentKey}
use Rattle.pg_graph.specs.pg_intent.declared.key.IntentKey.TheVariants as intent_key
use Rattle.pg_graph.specs.pg_intent.Intent.{aimed_at}
use Rattle.pg_graph.specs.pg_intent.Intents.{begun_on, has_key, intent_at}
use Rattle.pg_graph.proofs.pg_intent.Found.{aimed_found, begun_found, stands_is}
use Rattle.pg_graph.specs.pg_msg.declared.work.Work.{Work}
use Rattle.pg_graph.specs.pg_names.Names.{NamesValue}
use Rattle.pg_graph.specs.pg_replica.Index.{Files}
use Rattle.pg_graph.specs.pg_replica.Replicas.{ByFile}
use Rattle.pg_graph.specs.pg_store.declared.store.Store.{Store}
use Rattle.pg_graph.specs.pg_store.Store.{is_held}
use Rattle.pg_graph.specs.pg_pieces.Done.{Done, idle}
use Rattle.pg_graph.specs.pg_pieces.Golds.{is_gold}
use Rattle.pg_intentions.specs.Beginning.{begin_end, end_others, still_stands}
use Rattle.pg_intentions.specs.Confirms.{begin_confirm}
use Rattle.pg_intentions.specs.Fills.{begin_fill, begin_fills, files_to_fill, to_fill}
use Rattle.pg_intentions.specs.Intending.{begin_intent, in_order}
use Rattle.pg_intentions.specs.Needed.{HasItsSeek}
use Rattle.pg_intentions.specs.Patches.{begin_patch, begin_patches}
use Rattle.pg_intentions.specs.Seeks.{aim_seek, begin_seek, begin_seeks, has_gold_apart, has_gold_edge, has_seek, is_seeking, seek_again, seek_target, to_seek, was_linked}
use Rattle.pg_intentions.proofs.Needs.{turned}
use Rattle.pg_intentions.proofs.Standing.{among, confirm_at, each_at, fill_other, filtered, patch_at, whole}

module _ (f : FileId) where
  abbrev key : IntentKey
  key = intent_key.Seek f

  -- one stands
  abbrev There : Store → Bool
  There s = is_some (intent_at s.intents key)

  pub stands_there : (s : Store) → has_seek s f ≡ There s
  stands_there s = stands_is s.intents key

  -- ---- what comes of one that seeks

  same_aimed : (same : Bool) (to : ℕ) (o : Option Intent) → is_some (cond same (option_map (aimed_at to) o) o) ≡ is_some o
  same_aimed true to None = refl
  same_aimed true to (Some i) = refl
  same_aimed false to o = refl

  aimed_there : (s : Store) (g : FileId) (t : Bool) → There (cond t (aim_seek s g) s) ≡ There s
  aimed_there s g true =
      ap is_some (aimed_found s.intents (intent_key.Seek g) (seek_target s g) key)
      ∙ same_aimed (is_same_file f g) (seek_target s g) (intent_at s.intents key)
  aimed_there s g false = refl

  stays_there : (s : Store) (g : FileId) (same : Bool) → is_same_file f g ≡ same → has_seek s g ≡ true → There s ≡ (same || There s)
  stays_there s g true same there =
      sym (stands_there s) ∙ ap (has_seek s) (is_same_file-true f g same) ∙ there
  stays_there s g false same there = refl

  some_by : (same : Bool) (i : Intent) (o : Option Intent) → is_some (cond same (Some i) o) ≡ (same || is_some o)
  some_by true i o = refl
  some_by false i o = refl

  begins_there : (s : Store) (g : FileId) (w : Work) → There (begin_intent s (intent.Seek g (seek_target s g)) w).store ≡ (is_same_file f g || There s)
  begins_there s g w =
      let i = intent.Seek g (seek_target s g) in
      ap is_some (begun_found s.intents i key) ∙ some_by (is_same_file f g) (begun_on (intent_at s.intents key) i) (intent_at s.intents key)

  seek_by : (s : Store) (g : FileId) (w : Work) (t : Bool) → has_seek s g ≡ t
      → There (cond t (idle (seek_again s g w) w) (begin_intent s (intent.Seek g (seek_target s g)) w)).store ≡ (is_same_file f g || There s)
  seek_by s g w true there = aimed_there s g (was_linked w.linked g) ∙ stays_there s g (is_same_file f g) refl there
  seek_by s g w false there = begins_there s g w

  -- each of these has one then
  seeks_at : (files : List FileId) (s : Store) (w : Work) → There (begin_seeks s files w).store ≡ (list_any (is_same_file f) files || There s)
  seeks_at [] s w = refl
  seeks_at (g ∷ gs) s w =
      let d = begin_seek s g w in
      seeks_at gs d.store d.work
      ∙ ap (λ t. list_any (is_same_file f) gs || t) (seek_by s g w (has_seek s g) refl)
      ∙ turned (list_any (is_same_file f) gs) (is_same_file f g) (There s)

  -- ---- those that seek

  picked_by : (test : FileId → Bool) (g : FileId) (gs : List FileId) (same t : Bool) → is_same_file f g ≡ same → test g ≡ t
      → list_any (is_same_file f) (filter test gs) ≡ (test f && list_any (is_same_file f) gs)
      → list_any (is_same_file f) (cond t (g ∷ filter test gs) (filter test gs)) ≡ (test f && (same || list_any (is_same_file f) gs))
  picked_by test g gs true true same is rest =
      ap (λ t. t || list_any (is_same_file f) (filter test gs)) same
      ∙ sym (ap (λ t. t && true) (ap test (is_same_file-true f g same) ∙ is))
  picked_by test g gs true false same is rest =
      let none : test f ≡ false = ap test (is_same_file-true f g same) ∙ is in
      rest ∙ ap (λ t. t && list_any (is_same_file f) gs) none ∙ sym (ap (λ t. t && true) none)
  picked_by test g gs false true same is rest = ap (λ t. t || list_any (is_same_file f) (filter test gs)) same ∙ rest
  picked_by test g gs false false same is rest = rest

  neither : (t : Bool) → false ≡ (t && false)
  neither true = refl
  neither false = refl

  picked : (test : FileId → Bool) (gs : List FileId) → list_any (is_same_file f) (filter test gs) ≡ (test f && list_any (is_same_file f) gs)
  picked test [] = neither (test f)
  picked test (g ∷ gs) = picked_by test g gs (is_same_file f g) (test g) refl refl (picked test gs)

  held_too : (held more : Bool) → ((held && more) && held) ≡ (held && more)
  held_too true true = refl
  held_too true false = refl
  held_too false more = refl

  pub among_seekers : (s : Store) → list_any (is_same_file f) (to_seek s) ≡ is_seeking s f
  among_seekers s =
      picked (is_seeking s) (keys_of s.names.held)
      ∙ ap (λ t. is_seeking s f && t) (among f s.names.held)
      ∙ held_too (is_held s f) (cond (is_gold s f) (has_gold_apart s f) (not (has_gold_edge s f)))

  tested : (s : Store) (files : Files) (i : Intent) → has_key key i ≡ true → still_stands s files i ≡ is_seeking s f
  tested s files (intent.Bye file birth peer peer_birth) h = absurd (false≢true h)
  tested s files (intent.Seek file target) h = sym (ap (is_seeking s) (is_same_file-true f file h))
  tested s files (intent.Fill file birth target) h = absurd (false≢true h)
  tested s files (intent.Patch dir entry target) h = absurd (false≢true h)
  tested s files (intent.Confirm dir child target) h = absurd (false≢true h)
  tested s files (intent.Leave file peer peer_birth) h = absurd (false≢true h)

  -- by names and edges alone
  pub seeks_moved : (s t : Store) → t.names ≡ s.names → t.replicas ≡ s.replicas → is_seeking t f ≡ is_seeking s f
  seeks_moved s t names replicas =
      ap (λ (n : NamesValue). is_seeking (record t { names = n }) f) names
      ∙ ap (λ (r : ByFile). is_seeking (record s { replicas = r }) f) replicas

pub has_its_seek : (store : Store) (work : Work) (file : FileId) → HasItsSeek store work file
has_its_seek store work file =
    let k = intent_key.Seek file in
    let files = files_to_fill store.names in
    let a = end_others store files in
    let p = begin_patches a work in
    let q = begin_fills p.store (to_fill store.names) p.work in
    let r = begin_seeks q.store (to_seek store) q.work in
    stands_there file (begin_end store work).store
    ∙ ap is_some (each_at begin_confirm k (confirm_at k (λ d c. refl)) (in_order r.work.unsure) r.store r.work)
    ∙ seeks_at file (to_seek store) q.store q.work
    ∙ ap (λ t. t || There file q.store) (among_seekers file store)
    ∙ ap (λ (o : Option Intent). is_seeking store file || is_some o)
    (each_at begin_fill k (fill_other k (λ g. refl)) (to_fill store.names) p.store p.work
    ∙ each_at begin_patch k (patch_at k (λ d c. refl)) (in_order work.left) a work
    ∙ filtered k (still_stands store files) (is_seeking store file) (tested file store files) store.intents)
    ∙ whole file (is_seeking store file) (intent_at store.intents k)
