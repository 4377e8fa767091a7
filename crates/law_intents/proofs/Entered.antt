-- A view is entered: who is removed is asked no more, and what was for it alone has ended.
use Rattle.std.proofs.Common.{ℕ, ◌≡◌, ◌==◌, ◌++◌, Bool, true, false, cond, get_or, List, [], ◌∷◌, Option, None, Some, refl, sym, ap, subst, ◌∙◌, eq-eqb}
use Rattle.std.specs.Map.{keys_of}
use Rattle.std.proofs.lemmas.Bool.{false≢true, ne_eqb}
use Rattle.std.proofs.lemmas.Option.{none-some, same_Some}
use Rattle.law_frame.specs.pg_run.pg_base.declared.id.FileId.{FileId}
use Rattle.law_frame.specs.pg_run.pg_edges.declared.edge.Edge.{Edge}
use Rattle.law_frame.specs.pg_run.pg_entries.declared.entry.Entry.{Entry}
use Rattle.law_frame.specs.pg_run.pg_intent.declared.intent.Intent.{Intent}
use Rattle.law_frame.specs.pg_run.pg_intent.declared.intent.Intent.TheVariants as intent
use Rattle.law_frame.specs.pg_run.pg_intent.declared.key.IntentKey.{IntentKey}
use Rattle.law_frame.specs.pg_run.pg_intent.declared.key.IntentKey.TheVariants as intent_key
use Rattle.law_frame.specs.pg_run.pg_intent.Intent.{aimed_at, key_of, target_of}
use Rattle.law_frame.specs.pg_run.pg_intent.Intents.{HaveOwnKeys, has_key, intent_at, keys_to, turned_at, turned_each}
use Rattle.law_frame.specs.pg_run.pg_intent.Key.{is_for_peer}
use Rattle.law_frame.proofs.pg_run.pg_intent.Above.{still_apart}
use Rattle.law_frame.proofs.pg_run.pg_intent.SameKey.{is_same_key-true}
use Rattle.law_frame.proofs.pg_run.pg_intent.Stands.{all_found}
use Rattle.law_frame.proofs.pg_run.pg_intent.Turned.{own-turned, turn_found}
use Rattle.law_frame.specs.pg_run.pg_msg.declared.work.Work.{Work}
use Rattle.law_frame.specs.pg_run.pg_names.Names.{NamesValue, remove_server}
use Rattle.law_frame.specs.pg_run.pg_store.declared.store.Store.{Store}
use Rattle.law_frame.specs.pg_run.pg_store.Seen.{removed_of}
use Rattle.law_frame.specs.pg_run.pg_store.Servers.{next_target}
use Rattle.law_frame.specs.pg_run.pg_store.Views.{cut_each, enter, with_removed}
use Rattle.law_frame.proofs.pg_run.pg_store.Entered.{cuts_intents, enter_names}
use Rattle.law_frame.specs.pg_run.pg_pieces.Done.{Done, idle}
use Rattle.law_frame.proofs.pg_run.pg_graph.LeaveOk.{found_keyed}
use Rattle.law_frame.specs.pg_run.pg_intentions.Inviting.{invite_along, invite_each, invite_of, invites, loose_edge}
use Rattle.law_frame.specs.pg_run.pg_calls.GivingUp.{doubt_all, enter_view}
use Rattle.law_frame.specs.pg_run.theory_flood_pieces.Whole.{IsWhole}
use Rattle.law_frame.proofs.pg_run.theory_flood_pieces.Views.{whole_enter}
use Rattle.law_order.proofs.Pieces.{found_has}
use Rattle.law_intents.proofs.Aimed.{next_aims}
use Rattle.law_intents.proofs.Far.{Aims, AreAimed, Far, IsBeside, aimed_told, beside_either, beside_itself, far_work}
use Rattle.law_intents.proofs.Goes.{IsPatchSoFar, IsSlot, told_at, told_of}

-- ---- one server more is removed

turned_apart : (t server : ℕ) → (t == server) ≡ false → (server == t) ≡ false
turned_apart t server other = ne_eqb server t (λ e. absurd (false≢true (sym other ∙ eq-eqb t server (sym e))))

module _ (n s : ℕ) (r : List ℕ) (server : ℕ) where
  abbrev Later : List ℕ
  Later = r ++ server ∷ []

  -- ---- who is asked then

  still_aims : (t : ℕ) → (t == server) ≡ false → Aims n s r t → Aims n s Later t
  still_aims t other was some =
      let here = was some in
      record { other = here.other; stays = still_apart r server t here.stays (turned_apart t server other) }

  abbrev AimsAt : Intent → Type 0
  AimsAt i = Aims n s Later (target_of i)

  aimed_here : (to : ℕ) (i j : Intent) → Aims n s Later to → cond (is_for_peer (key_of i)) None (Some (aimed_at to i)) ≡ Some j → AimsAt j
  aimed_here to (intent.Bye f b p c) j here e = absurd (none-some j e)
  aimed_here to (intent.Seek f t) j here e = subst AimsAt (same_Some (intent.Seek f to) j e) here
  aimed_here to (intent.Fill f b t) j here e = subst AimsAt (same_Some (intent.Fill f b to) j e) here
  aimed_here to (intent.Patch dir x t) j here e = subst AimsAt (same_Some (intent.Patch dir x to) j e) here
  aimed_here to (intent.Confirm dir g t) j here e = subst AimsAt (same_Some (intent.Confirm dir g to) j e) here
  aimed_here to (intent.Leave f p c) j here e = absurd (none-some j e)

  turned_aims : (to : ℕ) (q : IntentKey) (i j : Intent) → has_key q i ≡ true → Aims n s Later to → Aims n s r (target_of i)
      → turned_at server to q (Some i) ≡ Some j → AimsAt j
  turned_aims to q i j has here was h = by (target_of i == server) refl h
    where
      by : (t : Bool) → (target_of i == server) ≡ t → cond t (cond (is_for_peer q) None (Some (aimed_at to i))) (Some i) ≡ Some j → AimsAt j
      by false other e = subst AimsAt (same_Some i j e) (still_aims (target_of i) other was)
      by true same e =
          aimed_here to i j here
          (subst (λ (k : IntentKey). cond (is_for_peer k) None (Some (aimed_at to i)) ≡ Some j) (is_same_key-true q (key_of i) has) e)

  found_aims : (is : List Intent) (to : ℕ) (q : IntentKey) (j : Intent) (o : Option Intent) → Aims n s Later to → AreAimed n s r is
      → intent_at is q ≡ o → turned_at server to q o ≡ Some j → AimsAt j
  found_aims is to q j None here all at e = absurd (none-some j e)
  found_aims is to q j (Some i) here all at e =
      turned_aims to q i j (found_keyed q i is at) here (found_has (λ (x : Intent). Aims n s r (target_of x)) q i is all at) e

  pub turned_all : (is : List Intent) (to : ℕ) → HaveOwnKeys is → Aims n s Later to → AreAimed n s r is
      → AreAimed n s Later (turned_each is (keys_to server is) to)
  turned_all is to own here all i d lt =
      let js = turned_each is (keys_to server is) to in
      let j = get_or js i d in
      let found = all_found js (own-turned (keys_to server is) is to own) i d lt in
      found_aims is to (key_of j) j (intent_at is (key_of j)) here all refl (sym (turn_found server is to (key_of j) own) ∙ found)

  -- ---- Patches are as they were

  told_by : (to : ℕ) (t : Bool) (i : Intent) → told_of (cond t (Some (aimed_at to i)) (Some i)) ≡ told_of (Some i)
  told_by to true i = aimed_told to (Some i)
  told_by to false i = refl

  told_of_turned : (to : ℕ) (dir child : FileId) (o : Option Intent) → told_of (turned_at server to (intent_key.Patch dir child) o) ≡ told_of o
  told_of_turned to dir child None = refl
  told_of_turned to dir child (Some i) = told_by to (target_of i == server) i

  told_turned : (is : List Intent) (to : ℕ) (dir child : FileId) → HaveOwnKeys is
      → told_at (turned_each is (keys_to server is) to) dir child ≡ told_at is dir child
  told_turned is to dir child own =
      let q = intent_key.Patch dir child in
      ap told_of (turn_found server is to q own) ∙ told_of_turned to dir child (intent_at is q)

  -- ---- who is asked to be gold

  along_beside : (b : Store) (f : FileId) (w : Work) (o : Option Edge) → IsBeside w (invite_along b f o w)
  along_beside b f w None = beside_itself w
  along_beside b f w (Some e) = record { left = refl; from = refl }

  invites_beside : (b : Store) (fs : List FileId) (w : Work) → IsBeside w (invite_each b fs w)
  invites_beside b [] w = beside_itself w
  invites_beside b (f ∷ fs) w =
      let one = beside_either w (invites b f) (invite_along b f (loose_edge b f) w) w (along_beside b f w (loose_edge b f)) (beside_itself w) in
      let rest = invites_beside b fs (invite_of b f w) in
      record { left = rest.left ∙ one.left; from = rest.from ∙ one.from }

  -- ---- all of it

  module _ (d : Done) (whole : IsWhole n s d.store) (keys : HaveOwnKeys d.store.intents) (nobody : d.work.from ≡ 0) (k : Far n s r d) where
    abbrev Before : Store
    Before = d.store

    abbrev Behind : Store
    Behind = enter Before server

    abbrev Cut : Store
    Cut = cut_each server (with_removed Before server) (keys_of Before.names.held)

    abbrev to : ℕ
    to = next_target Cut server

    cut_is : Cut.intents ≡ Before.intents
    cut_is = cuts_intents server (keys_of Before.names.held) (with_removed Before server)

    cut_keys : HaveOwnKeys Cut.intents
    cut_keys = subst HaveOwnKeys (sym cut_is) keys

    names_are : Behind.names ≡ remove_server Before.names server
    names_are = enter_names Before server

    removed_are : removed_of Behind ≡ Later
    removed_are = ap (λ (m : NamesValue). m.removed) names_are ∙ ap (λ (l : List ℕ). l ++ server ∷ []) k.removed

    after : IsWhole n s Behind
    after = whole_enter n s server Before whole

    patch_was : (dir child : FileId) (e : Entry) → told_at Behind.intents dir child ≡ Some e → IsPatchSoFar Before.names d.work.left dir child e
    patch_was dir child e h =
        k.patches dir child e (sym (ap (λ (is : List Intent). told_at is dir child) cut_is) ∙ sym (told_turned Cut.intents to dir child cut_keys) ∙ h)

    patch_now : (dir child : FileId) (e : Entry) → told_at Behind.intents dir child ≡ Some e
        → IsPatchSoFar (remove_server Before.names server) d.work.left dir child e
    patch_now dir child e h =
        let was = patch_was dir child e h in
        record { away = was.away; inner = was.inner; own = was.own; held = was.held; of = was.of; place = was.place }

    entered : Far n s Later (idle Behind d.work)
    entered = record {
      servers = after.servers;
      server = after.server;
      removed = removed_are;
      from = λ some. absurd (some nobody);
      aims = turned_all Cut.intents to cut_keys (next_aims n s Later Cut after.servers after.server removed_are server)
          (subst (AreAimed n s r) (sym cut_is) k.aims);
      slots = λ x h. subst (λ (m : NamesValue). IsSlot m x) (sym names_are) (k.slots x h);
      patches = λ dir child e h. subst (λ (m : NamesValue). IsPatchSoFar m d.work.left dir child e) (sym names_are) (patch_now dir child e h);
    }

    -- A VIEW IS ENTERED
    pub far_enter : Far n s Later (enter_view Before server d.work)
    far_enter =
        let w = doubt_all Behind d.work in
        let files = keys_of Behind.names.held in
        let beside = invites_beside Behind files w in
        far_work n s Later (idle Behind d.work) (invite_each Behind files w) entered (record { left = beside.left; from = beside.from })

pub far_entered : (n s : ℕ) (r : List ℕ) (d : Done) (server : ℕ) → IsWhole n s d.store → HaveOwnKeys d.store.intents → d.work.from ≡ 0 → Far n s r d
    → Far n s (r ++ server ∷ []) (enter_view d.store server d.work)
far_entered n s r d server whole keys nobody k = far_enter n s r server d whole keys nobody k
