-- THE INTENTIONS BEHIND AN EVENT: what outlives each that ends and begins outlives all.
use Rattle.std.proofs.Common.{◌≡◌, true, false, All, List, [], ◌∷◌, Option, None, Some, is_some, sym, subst, ◌∙◌}
use Rattle.std.specs.BTreeMap.{insert_entry}
use Rattle.std.specs.Map.{keys_of}
use Rattle.std.specs.Prelude.{Contains}
use Rattle.std.proofs.lemmas.List.Elements.{All-cons, All-contains_itself, All-head, All-nil, All-tail, filter_passes}
use Rattle.pg_run.specs.pg_base.declared.id.FileId.{FileId}
use Rattle.pg_run.proofs.pg_base.Entries.{All-insert_entry}
use Rattle.pg_run.specs.pg_intent.declared.intent.Intent.TheVariants as intent
use Rattle.pg_run.specs.pg_msg.declared.work.Slot.{Slot}
use Rattle.pg_run.specs.pg_msg.declared.work.Work.{Work}
use Rattle.pg_run.specs.pg_msg.Work.{slot_cmp}
use Rattle.pg_run.proofs.pg_msg.Slots.{slot_exact}
use Rattle.pg_run.specs.pg_store.declared.store.Store.{Store}
use Rattle.pg_run.specs.pg_store.declared.wishes.Wish.{Wish}
use Rattle.pg_run.specs.pg_store.Births.{fill_at, wish_at, with_birth, with_wishes}
use Rattle.pg_run.specs.pg_store.Store.{is_held}
use Rattle.pg_run.specs.pg_store.Wishes.{without_wish}
use Rattle.pg_run.specs.pg_pieces.Done.{Done, idle}
use Rattle.pg_run.specs.pg_intentions.Beginning.{end_others}
use Rattle.pg_run.specs.pg_intentions.Confirms.{begin_confirm, confirm_of, is_doubtful}
use Rattle.pg_run.specs.pg_intentions.Fills.{begin_fill, begin_fills, fill_of, files_to_fill, to_fill, with_fill_birth, without_wished}
use Rattle.pg_run.specs.pg_intentions.Intending.{Slots, add_slots, begin_intent, each, in_order}
use Rattle.pg_run.specs.pg_intentions.Patches.{begin_patch, begin_patches, patch_of}
use Rattle.pg_run.specs.pg_intentions.Seeks.{aim_seek, begin_seek, begin_seeks, has_seek, is_seeking, seek_again, seek_target, to_seek, was_linked}
use Rattle.pg_run.specs.pg_server.Local.{intended}
use Rattle.pg_run.proofs.pg_intentions.Steady.{each_stays, fill_stays, patch_stays, seek_stays}
use Rattle.pg_run.proofs.theory_flood_pieces.Choices.{chosen, decided}

-- behind this moment
--
-- ends: those end whose condition does not hold any more
-- patches, fills, seeks, confirms: one of this kind begins, of what was noted or is held
-- aims_seek: a Seek asks anew
pub record KeepsEnds (first : Done) (I : Done → Type 0) : Type 0 where
  pub ends : I first
      → I (idle (end_others first.store (files_to_fill first.store.names)) first.work)
  pub patches : (d : Done) (slot : Slot)
      → (is_held d.store slot.dir ≡ false) × Contains first.work.left slot
      → I d → I (begin_intent d.store (patch_of d.store slot d.work) d.work)
  pub fills : (d : Done) (file : FileId) → is_some (fill_at d.store file) ≡ false → I d
      → I (begin_intent (with_fill_birth d.store file) (fill_of d.store file d.work) d.work)
  pub seeks : (d : Done) (file : FileId)
      → (has_seek d.store file ≡ false) × (is_seeking first.store file ≡ true)
      → I d → I (begin_intent d.store (intent.Seek file (seek_target d.store file)) d.work)
  pub aims_seek : (d : Done) (file : FileId) → I d → I (idle (aim_seek d.store file) d.work)
  pub confirms : (d : Done) (slot : Slot)
      → (is_doubtful d.store slot.dir slot.child ≡ true) × Contains first.work.unsure slot
      → I d → I (begin_intent d.store (confirm_of d.store slot) d.work)

-- what the birth of a Fill keeps: that of the replica, of the wish, which ends, or a fresh one
pub fill_born : (P : Store → Type 0) (a : Store) (file : FileId) → P a → P (with_birth a)
    → P (with_wishes a (without_wish a.wishes file)) → P (with_fill_birth a file)
fill_born P a file same drawn ended =
    chosen P (is_held a file) a (without_wished a file (wish_at a file)) same (by (wish_at a file))
  where
    by : (o : Option Wish) → P (without_wished a file o)
    by None = drawn
    by (Some wish) = ended

-- ---- slots in order are those that were noted

module _ (P : Slot → Type 0) where
  abbrev Of : Slot × Unit {0} → Type 0
  Of e = P e.0

  added_have : (slots : List Slot) (es : Slots) → All P slots → All Of es
      → All Of (add_slots es slots)
  added_have [] es all have = have
  added_have (s ∷ ss) es all have =
      let here = All-head P s ss all in
      added_have ss (insert_entry slot_cmp es s tt) (All-tail P s ss all)
      (All-insert_entry slot_cmp Of s tt es have here (λ e same. subst P (slot_exact s e.0 same) here))

  keys_have : (es : Slots) → All Of es → All P (keys_of es)
  keys_have [] all = All-nil P
  keys_have (e ∷ es) all =
      All-cons P e.0 (keys_of es) (All-head Of e es all) (keys_have es (All-tail Of e es all))

  in_order_have : (slots : List Slot) → All P slots → All P (in_order slots)
  in_order_have slots all =
      keys_have (add_slots [] slots) (added_have slots [] all (All-nil Of))

-- ---- the walk

module _ (first : Done) (I : Done → Type 0) (k : KeepsEnds first I) where
  each_keeps : {A : Type 0} (P : A → Type 0) (step : Store → A → Work → Done)
      → ((d : Done) (x : A) → P x → I d → I (step d.store x d.work))
      → (xs : List A) → All P xs → (d : Done) → I d → I (each step d.store xs d.work)
  each_keeps P step one [] all d h = h
  each_keeps P step one (x ∷ xs) all d h =
      each_keeps P step one xs (All-tail P x xs all) (step d.store x d.work)
      (one d x (All-head P x xs all) h)

  patch_keeps : (d : Done) (slot : Slot) → Contains first.work.left slot → I d
      → I (begin_patch d.store slot d.work)
  patch_keeps d slot noted h =
      decided I (is_held d.store slot.dir) (idle d.store d.work)
      (begin_intent d.store (patch_of d.store slot d.work) d.work) (λ held. h)
      (λ away. k.patches d slot (away, noted) h)

  fill_keeps : (d : Done) (file : FileId) → Unit {0} → I d → I (begin_fill d.store file d.work)
  fill_keeps d file any h =
      decided I (is_some (fill_at d.store file)) (idle d.store d.work)
      (begin_intent (with_fill_birth d.store file) (fill_of d.store file d.work) d.work)
      (λ stands. h) (λ none. k.fills d file none h)

  seek_keeps : (d : Done) (file : FileId) → is_seeking first.store file ≡ true → I d
      → I (begin_seek d.store file d.work)
  seek_keeps d file seeking h =
      let begins = begin_intent d.store (intent.Seek file (seek_target d.store file)) d.work in
      decided I (has_seek d.store file) (idle (seek_again d.store file d.work) d.work) begins
      (λ stands. chosen (λ (b : Store). I (idle b d.work)) (was_linked d.work.linked file)
      (aim_seek d.store file) d.store (k.aims_seek d file h) h)
      (λ none. k.seeks d file (none, seeking) h)

  confirm_keeps : (d : Done) (slot : Slot) → Contains first.work.unsure slot → I d
      → I (begin_confirm d.store slot d.work)
  confirm_keeps d slot noted h =
      decided I (is_doubtful d.store slot.dir slot.child)
      (begin_intent d.store (confirm_of d.store slot) d.work) (idle d.store d.work)
      (λ doubted. k.confirms d slot (doubted, noted) h) (λ no. h)

  pub intents_keep : I first → I (intended first)
  intents_keep h =
      let a = first.store in
      let w = first.work in
      let rest = end_others a (files_to_fill a.names) in
      let one = begin_patches rest w in
      let two = begin_fills one.store (to_fill a.names) one.work in
      let three = begin_seeks two.store (to_seek a) two.work in
      let same : three.work.unsure ≡ w.unsure =
      (each_stays begin_seek seek_stays (to_seek a) two.store two.work).unsure
      ∙ (each_stays begin_fill fill_stays (to_fill a.names) one.store one.work).unsure
      ∙ (each_stays begin_patch patch_stays (in_order w.left) rest w).unsure in
      let Left = Contains w.left in
      let Unsure = Contains w.unsure in
      let unsure = subst (All Unsure) (sym same) (All-contains_itself w.unsure) in
      each_keeps Unsure begin_confirm confirm_keeps (in_order three.work.unsure)
      (in_order_have Unsure three.work.unsure unsure) three
      (each_keeps (λ (f : FileId). is_seeking a f ≡ true) begin_seek seek_keeps (to_seek a)
      (filter_passes (is_seeking a) (keys_of a.names.held)) two
      (each_keeps (λ (f : FileId). Unit {0}) begin_fill fill_keeps (to_fill a.names)
      (λ i d lt. tt) one
      (each_keeps Left begin_patch patch_keeps (in_order w.left)
      (in_order_have Left w.left (All-contains_itself w.left)) (idle rest w) (k.ends h))))
