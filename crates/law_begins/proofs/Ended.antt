-- The end of an event: of a Confirm of which none stood, one stands only where its cell was noted.
use Rattle.std.proofs.Common.{◌≡◌, ◌⊎◌, Bool, true, false, cond, List, [], ◌∷◌, Option, None, inl, inr, refl, sym, ap, ◌∙◌}
use Rattle.std.proofs.lemmas.Bool.{and_parts}
use Rattle.law_frame.specs.pg_run.pg_base.declared.id.FileId.{FileId}
use Rattle.law_frame.specs.pg_run.pg_base.Id.{is_same_file}
use Rattle.law_frame.specs.pg_run.pg_edges.declared.key.Key.TheVariants as key
use Rattle.law_frame.specs.pg_run.pg_intent.declared.intent.Intent.{Intent}
use Rattle.law_frame.specs.pg_run.pg_intent.declared.key.IntentKey.{IntentKey}
use Rattle.law_frame.specs.pg_run.pg_intent.declared.key.IntentKey.TheVariants as intent_key
use Rattle.law_frame.specs.pg_run.pg_intent.Intents.{intent_at}
use Rattle.law_frame.specs.pg_run.pg_intent.Key.{is_same_key}
use Rattle.law_frame.specs.pg_run.pg_msg.declared.update.Update.TheVariants as update
use Rattle.law_frame.specs.pg_run.pg_msg.declared.work.Slot.{Slot}
use Rattle.law_frame.specs.pg_run.pg_msg.declared.work.Work.{Work}
use Rattle.law_frame.specs.pg_run.pg_msg.Work.{with_made}
use Rattle.law_frame.specs.pg_run.pg_cells.Settling.{settle}
use Rattle.law_frame.specs.pg_run.pg_pieces.Done.{Done, idle}
use Rattle.law_frame.specs.pg_run.pg_pieces.Making.{own_next}
use Rattle.law_frame.specs.pg_run.pg_house.Work.{state_of}
use Rattle.law_frame.specs.pg_run.pg_intentions.Beginning.{begin_end, end_others, still_stands}
use Rattle.law_frame.specs.pg_run.pg_intentions.Confirms.{begin_confirm, confirm_of, is_doubtful}
use Rattle.law_frame.specs.pg_run.pg_intentions.Fills.{begin_fill, begin_fills, files_to_fill, to_fill}
use Rattle.law_frame.specs.pg_run.pg_intentions.Intending.{begin_intent, each, in_order}
use Rattle.law_frame.specs.pg_run.pg_intentions.Patches.{begin_patch, begin_patches}
use Rattle.law_frame.specs.pg_run.pg_intentions.Seeks.{begin_seek, begin_seeks, to_seek}
use Rattle.law_frame.specs.pg_run.pg_store.declared.store.Store.{Store}
use Rattle.law_frame.specs.pg_run.pg_store.Store.{is_newer_flag}
use Rattle.law_frame.proofs.pg_run.pg_base.Orders.{is_same_file-true}
use Rattle.law_frame.proofs.pg_run.pg_cells.Settled.{settle_keeps}
use Rattle.law_frame.proofs.pg_run.pg_intentions.Standing.{begun_other, each_at, fill_other, filtered, patch_at, seek_other, tested_too}
use Rattle.law_frame.proofs.pg_run.pg_intentions.Steady.{each_stays, fill_stays, patch_stays, seek_stays}
use Rattle.law_order.proofs.Sounding.{rules_intents}
use Rattle.law_frame.proofs.pg_run.theory_flood_pieces.Choices.{chosen}
use Rattle.theory_listing_house.proofs.Works.{house_unsure}
use Rattle.law_begins.proofs.Pieces.{IsPlain, flag_none, news_doubts}

module _ (dir child : FileId) where
  abbrev pub ConfirmKey : IntentKey
  ConfirmKey = intent_key.Confirm dir child

  pub plain : IsPlain ConfirmKey
  plain = record { no_bye = λ f b p. refl; no_leave = λ f. refl }

  abbrev pub NoConfirm : Store → Type 0
  NoConfirm a = intent_at a.intents ConfirmKey ≡ None

  -- ---- the house rules

  module _ (slots : List Slot) where
    abbrev Noted : Store → Work → Type 0
    Noted b v = NoConfirm b × (v.unsure ≡ slots)

    settled_notes : (a : Store) (w : Work) → Noted a w → Noted (settle a w).store (settle a w).work
    settled_notes a w h =
        settle_keeps Noted
        (λ b v k. (ap (λ (is : List Intent). intent_at is ConfirmKey) (rules_intents b v) ∙ k.0, house_unsure v.now (state_of b.names v) ∙ k.1))
        (λ b f v less k.
        let g = own_next b f true in
        (flag_none ConfirmKey plain b f g k.0, news_doubts (is_newer_flag b f g) (with_made v (update.Flag f g)) f (key.Flag g.server) ∙ k.1))
        a w h

  -- ---- intentions

  module _ (a : Store) (w : Work) (none : NoConfirm a) where
    abbrev Ended : Store
    Ended = end_others a (files_to_fill a.names)

    abbrev Patched : Done
    Patched = begin_patches Ended w

    abbrev Filled : Done
    Filled = begin_fills Patched.store (to_fill a.names) Patched.work

    abbrev Sought : Done
    Sought = begin_seeks Filled.store (to_seek a) Filled.work

    before : NoConfirm Sought.store
    before =
        each_at begin_seek ConfirmKey (seek_other ConfirmKey (λ f. refl)) (to_seek a) Filled.store Filled.work
        ∙ each_at begin_fill ConfirmKey (fill_other ConfirmKey (λ f. refl)) (to_fill a.names) Patched.store Patched.work
        ∙ each_at begin_patch ConfirmKey (patch_at ConfirmKey (λ d c. refl)) (in_order w.left) Ended w
        ∙ filtered ConfirmKey (still_stands a (files_to_fill a.names)) (is_doubtful a dir child)
        (tested_too dir child a (files_to_fill a.names)) a.intents
        ∙ ap (λ (o : Option Intent). cond (is_doubtful a dir child) o None) none ∙ either (is_doubtful a dir child)
      where
        either : (t : Bool) → ◌≡◌ {A = Option Intent} (cond t None None) None
        either true = refl
        either false = refl

    noted : Sought.work.unsure ≡ w.unsure
    noted =
        (each_stays begin_seek seek_stays (to_seek a) Filled.store Filled.work).unsure
        ∙ (each_stays begin_fill fill_stays (to_fill a.names) Patched.store Patched.work).unsure
        ∙ (each_stays begin_patch patch_stays (in_order w.left) Ended w).unsure

    abbrev Last : List Slot → Store
    Last slots = (each begin_confirm Sought.store (in_order slots) Sought.work).store

    end_is : (slots : List Slot) → w.unsure ≡ slots → (begin_end a w).store ≡ Last slots
    end_is slots same = ap Last (noted ∙ same)

    pub none_noted : w.unsure ≡ [] → NoConfirm (begin_end a w).store
    none_noted same = ap (λ (b : Store). intent_at b.intents ConfirmKey) (end_is [] same) ∙ before

    abbrev IsThis : Slot → Type 0
    IsThis slot = (slot.dir ≡ dir) × (slot.child ≡ child)

    other_stays : (slot : Slot) (t : Bool) → is_same_key ConfirmKey (intent_key.Confirm slot.dir slot.child) ≡ t
        → NoConfirm (begin_confirm Sought.store slot Sought.work).store ⊎ IsThis slot
    other_stays slot true same =
        let parts = and_parts (is_same_file dir slot.dir) (is_same_file child slot.child) same in
        inr (sym (is_same_file-true dir slot.dir parts.0), sym (is_same_file-true child slot.child parts.1))
    other_stays slot false other =
        inl (chosen (λ (d : Done). NoConfirm d.store) (is_doubtful Sought.store slot.dir slot.child)
        (begin_intent Sought.store (confirm_of Sought.store slot) Sought.work) (idle Sought.store Sought.work)
        (begun_other Sought.store (confirm_of Sought.store slot) Sought.work ConfirmKey other ∙ before) before)

    pub one_noted : (slot : Slot) → w.unsure ≡ slot ∷ [] → NoConfirm (begin_end a w).store ⊎ IsThis slot
    one_noted slot same = elim (other_stays slot (is_same_key ConfirmKey (intent_key.Confirm slot.dir slot.child)) refl) [
      | inl none ↦ inl (ap (λ (b : Store). intent_at b.intents ConfirmKey) (end_is (slot ∷ []) same) ∙ none)
      | inr this ↦ inr this
    ]

  -- ---- both

  pub closed_none : (d : Done) → NoConfirm d.store → d.work.unsure ≡ [] → NoConfirm (begin_end (settle d.store d.work).store (settle d.store d.work).work).store
  closed_none d none same =
      let s = settled_notes [] d.store d.work (none, same) in
      none_noted (settle d.store d.work).store (settle d.store d.work).work s.0 s.1

  pub closed_one : (d : Done) (slot : Slot) → NoConfirm d.store → d.work.unsure ≡ slot ∷ []
      → NoConfirm (begin_end (settle d.store d.work).store (settle d.store d.work).work).store ⊎ ((slot.dir ≡ dir) × (slot.child ≡ child))
  closed_one d slot none same =
      let s = settled_notes (slot ∷ []) d.store d.work (none, same) in
      one_noted (settle d.store d.work).store (settle d.store d.work).work s.0 slot s.1
