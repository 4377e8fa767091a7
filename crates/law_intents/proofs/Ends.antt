-- Behind an event: intentions have begun and ended.
use Rattle.std.proofs.Common.{ℕ, ◌≡◌, ◌≤◌, ◌&&◌, ◌||◌, Bool, true, false, cond, not, List, [], ◌∷◌, Option, None, Some, inl, inr, refl, sym, ap, subst, ◌∙◌}
use Rattle.std.specs.List.{list_any}
use Rattle.std.proofs.lemmas.Bool.{and_parts, false≢true}
use Rattle.std.proofs.lemmas.Option.{none-some, same_Some}
use Rattle.law_frame.specs.pg_run.pg_base.declared.id.FileId.{FileId}
use Rattle.law_frame.specs.pg_run.pg_base.Id.{is_same_file}
use Rattle.law_frame.specs.pg_run.pg_base.Stamp.{is_before}
use Rattle.law_frame.proofs.pg_run.pg_base.Orders.{is_same_file-refl, is_same_file-true}
use Rattle.law_frame.specs.pg_run.pg_entries.declared.entry.Entry.{Entry}
use Rattle.law_frame.specs.pg_run.pg_intent.declared.intent.Intent.{Intent}
use Rattle.law_frame.specs.pg_run.pg_intent.declared.intent.Intent.TheVariants as intent
use Rattle.law_frame.specs.pg_run.pg_intent.declared.key.IntentKey.TheVariants as intent_key
use Rattle.law_frame.specs.pg_run.pg_intent.Intents.{begun_on, intent_at}
use Rattle.law_frame.specs.pg_run.pg_msg.declared.work.Slot.{Slot}
use Rattle.law_frame.specs.pg_run.pg_msg.declared.work.Work.{Work}
use Rattle.law_frame.specs.pg_run.pg_names.declared.attributes.Attributes.{Attributes}
use Rattle.law_frame.specs.pg_run.pg_names.Names.{NamesValue, or_blank, own_at, own_or_blank}
use Rattle.law_frame.specs.pg_run.pg_register.declared.place.Place.{Place}
use Rattle.law_frame.specs.pg_run.pg_store.declared.store.Store.{Store}
use Rattle.law_frame.specs.pg_run.pg_store.Seen.{removed_of, server_of}
use Rattle.law_frame.specs.pg_run.pg_store.Store.{is_held}
use Rattle.law_frame.specs.pg_run.pg_pieces.Done.{idle}
use Rattle.law_frame.specs.pg_run.pg_intentions.Beginning.{begin_end}
use Rattle.law_frame.specs.pg_run.pg_repair.Confirming.{own_entry}
use Rattle.law_frame.specs.pg_run.pg_intentions.Patches.{is_slot, patch_again, patch_of, was_left}
use Rattle.law_frame.proofs.pg_run.pg_intentions.Idle.{ConfirmsFit, SeeksFit, confirms_fit, leaves_pass, seeks_fit}
use Rattle.law_frame.proofs.pg_run.pg_intentions.Leaves.{AllPass}
use Rattle.law_frame.proofs.pg_run.pg_intentions.Patched.{is_patched}
use Rattle.law_frame.proofs.pg_run.pg_intentions.Steady.{begin_end_stays}
use Rattle.law_frame.proofs.pg_run.theory_flood_pieces.Choices.{chosen}
use Rattle.law_intents.proofs.Far.{AreAimed, Far}
use Rattle.law_intents.proofs.Goes.{ArePatchesSoFar, IsLeftIn, IsPatchSoFar, IsSlot, IsToldOf, told_at, told_of}
use Rattle.law_intents.proofs.Asked.{FlagsAreOfServers, end_aiming}

-- server s of n behind an event
pub record IsResting (n s : ℕ) (a : Store) : Type 0 where
  pub servers : a.servers ≡ n
  pub server : server_of a ≡ s
  pub aims : AreAimed n s (removed_of a) a.intents
  pub confirms : ConfirmsFit a
  pub seeks : 1 ≤ s → s ≤ n → SeeksFit a
  pub patches : ArePatchesSoFar a.names [] a.intents
  pub leaves : AllPass a a.intents

-- ---- Patches behind the end

module _ (dir child : FileId) where
  one_any : (ss : List Slot) → IsLeftIn ss dir child → list_any (is_slot dir child) ss ≡ true
  one_any [] h = absurd h
  one_any (x ∷ xs) (inl same) =
      ap (λ (y : Slot). is_slot dir child y || list_any (is_slot dir child) xs) same
      ∙ ap (λ (t : Bool). (t && is_same_file child child) || list_any (is_slot dir child) xs) (is_same_file-refl dir)
      ∙ ap (λ (t : Bool). t || list_any (is_slot dir child) xs) (is_same_file-refl child)
  one_any (x ∷ xs) (inr more) = by (is_slot dir child x) (one_any xs more)
    where
      by : (t : Bool) → list_any (is_slot dir child) xs ≡ true → (t || list_any (is_slot dir child) xs) ≡ true
      by true rest = refl
      by false rest = rest

  any_one : (ss : List Slot) → list_any (is_slot dir child) ss ≡ true → IsLeftIn ss dir child
  any_one [] h = absurd (false≢true h)
  any_one (x ∷ xs) h = by (is_slot dir child x) refl (any_one xs) h
    where
      by : (t : Bool) → is_slot dir child x ≡ t → (list_any (is_slot dir child) xs ≡ true → IsLeftIn xs dir child) → (t || list_any (is_slot dir child) xs) ≡ true → IsLeftIn (x ∷ xs) dir child
      by true same more rest =
          let parts = and_parts (is_same_file dir x.dir) (is_same_file child x.child) same in
          let slot : FileId → FileId → Slot = λ d c. record { dir = d; child = c } in
          inl (ap (λ (y : FileId). slot y x.child) (sym (is_same_file-true dir x.dir parts.0)) ∙ ap (λ (y : FileId). slot dir y) (sym (is_same_file-true child x.child parts.1)))
      by false other more rest = inr (more rest)

module _ (n s : ℕ) (r : List ℕ) (a : Store) (w : Work) (k : Far n s r (idle a w)) (dir child : FileId) where
  abbrev Told : Entry → Type 0
  Told e = IsPatchSoFar a.names [] dir child e

  own_of_child : (own : Attributes) → own_at a.names child ≡ Some own → own_or_blank a.names child ≡ own
  own_of_child own at = ap (or_blank child) at

  -- it begins, or begins again
  again_by : (o : Option Intent) (e : Entry) → is_held a dir ≡ false → IsSlot a.names (record { dir = dir; child = child }) → intent_at a.intents (intent_key.Patch dir child) ≡ o
      → told_of (Some (begun_on o (patch_of a (record { dir = dir; child = child }) w))) ≡ Some e → Told e
  again_by None e away slot at told =
      let same : own_entry a child ≡ e = same_Some (own_entry a child) e told in
      record {
        away = away;
        inner = slot.0;
        own = slot.1.0;
        held = slot.1.1;
        of = sym (ap (λ (x : Entry). x.child) same);
        place = inl (sym (ap (λ (o : Attributes). o.place) (own_of_child slot.1.0 slot.1.1)) ∙ ap (λ (x : Entry). x.place) same);
      }
  again_by (Some (intent.Patch d f t)) e away slot at told =
      let was = k.patches dir child f (ap told_of at) in
      let now : Place = (own_or_blank a.names child).place in
      let new : Place = cond (is_before f.place.stamp now.stamp) now f.place in
      let own : was.own.place ≡ now = sym (ap (λ (o : Attributes). o.place) (own_of_child was.own was.held)) in
      let place : was.own.place ≡ new = joined_place was.own.place now f.place own was.place in
      let joined = same_Some _ e told in
      record {
        away = away;
        inner = was.inner;
        own = was.own;
        held = was.held;
        of = sym (ap (λ (x : Entry). x.child) joined) ∙ was.of;
        place = inl (place ∙ ap (λ (x : Entry). x.place) joined);
      }
    where
      joined_place : (p now old : Place) → p ≡ now → IsToldOf w.left dir child old p → p ≡ cond (is_before old.stamp now.stamp) now old
      joined_place p now old own (inl same) = chosen (λ (x : Place). p ≡ x) (is_before old.stamp now.stamp) now old own same
      joined_place p now old own (inr before) =
          own ∙ sym (ap (λ (t : Bool). cond t now old) (subst (λ (x : Place). is_before old.stamp x.stamp ≡ true) own before.0))
  again_by (Some (intent.Bye file birth peer peer_birth)) e away slot at told = absurd (none-some e told)
  again_by (Some (intent.Seek file target)) e away slot at told = absurd (none-some e told)
  again_by (Some (intent.Fill file birth target)) e away slot at told = absurd (none-some e told)
  again_by (Some (intent.Confirm to other target)) e away slot at told = absurd (none-some e told)
  again_by (Some (intent.Leave file peer peer_birth)) e away slot at told = absurd (none-some e told)

  -- or it is as it was
  still_by : (old own : Place) → was_left w dir child ≡ false → IsToldOf w.left dir child old own → IsToldOf [] dir child old own
  still_by old own none (inl same) = inl same
  still_by old own none (inr before) =
      inr (before.0, λ live parent. absurd (false≢true (sym none ∙ one_any dir child w.left (before.1 live parent))))

  told_by : (t u : Bool) (e : Entry) → was_left w dir child ≡ t → is_held a dir ≡ u
      → told_of (cond (t && not u) (Some (patch_again a dir child w)) (intent_at a.intents (intent_key.Patch dir child))) ≡ Some e → Told e
  told_by true true e left held told = absurd (false≢true (sym (k.patches dir child e told).away ∙ held))
  told_by true false e left away told =
      again_by (intent_at a.intents (intent_key.Patch dir child)) e away (k.slots _ (any_one dir child w.left left)) refl told
  told_by false u e none held told =
      let was = k.patches dir child e told in
      record {
        away = was.away;
        inner = was.inner;
        own = was.own;
        held = was.held;
        of = was.of;
        place = still_by e.place was.own.place none was.place;
      }

  pub patch_end : (e : Entry) → told_at (begin_end a w).store.intents dir child ≡ Some e → IsPatchSoFar (begin_end a w).store.names [] dir child e
  patch_end e h =
      subst (λ (m : NamesValue). IsPatchSoFar m [] dir child e) (sym (begin_end_stays a w).names)
      (told_by (was_left w dir child) (is_held a dir) e refl refl (sym (ap told_of (is_patched dir child a w)) ∙ h))

-- INTENTIONS BEGIN AND END
pub resting_end : (n s : ℕ) (r : List ℕ) (a : Store) (w : Work) → Far n s r (idle a w) → FlagsAreOfServers n a.names → IsResting n s (begin_end a w).store
resting_end n s r a w k flags =
    let stays = begin_end_stays a w in
    let ended = end_aiming n s r a w (record { servers = k.servers; server = k.server; removed = k.removed; from = k.from; flags = flags; aims = k.aims }) in
    record {
      servers = stays.servers ∙ k.servers;
      server = ap (λ (m : NamesValue). m.server) stays.names ∙ k.server;
      aims = subst (λ (l : List ℕ). AreAimed n s l (begin_end a w).store.intents) (sym (ap (λ (m : NamesValue). m.removed) stays.names ∙ k.removed)) ended.aims;
      confirms = confirms_fit a w;
      seeks = λ least most. seeks_fit a w;
      patches = λ dir child e h. patch_end n s r a w k dir child e h;
      leaves = leaves_pass a w;
    }
