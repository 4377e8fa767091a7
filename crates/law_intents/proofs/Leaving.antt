-- Replicas that leave, in the midst of an event: who is told of it is another server, and Patches
-- are of what stays.
use Rattle.std.proofs.Common.{ℕ, ◌≡◌, ◌≢◌, ◌==◌, ◌||◌, Bool, true, false, cond, not, List, [], ◌∷◌, Option, None, Some, is_some, All, get_or, refl, sym, ap, subst, ◌∙◌}
use Rattle.std.specs.List.{IsAmong, find}
use Rattle.std.proofs.lemmas.Bool.{and_parts, eqb-true, false≢true}
use Rattle.std.proofs.lemmas.List.{get_or_default}
use Rattle.std.proofs.lemmas.List.Elements.{All-head, All-nil, All-tail}
use Rattle.std.proofs.lemmas.Option.{none-some, same_Some}
use Rattle.law_frame.specs.pg_run.pg_base.declared.id.FileId.{FileId}
use Rattle.law_frame.specs.pg_run.pg_base.Id.{is_same_file}
use Rattle.law_frame.proofs.pg_run.pg_base.Orders.{is_same_file-refl, is_same_file-true}
use Rattle.law_frame.specs.pg_run.pg_edges.declared.edge.Edge.{Edge}
use Rattle.law_frame.specs.pg_run.pg_edges.declared.key.Key.{Key}
use Rattle.law_frame.specs.pg_run.pg_edges.Edges.{edge_to, is_listed, keys_if_born}
use Rattle.law_frame.specs.pg_run.pg_entries.declared.entry.Entry.{Entry}
use Rattle.law_frame.specs.pg_run.pg_intent.declared.intent.Intent.{Intent}
use Rattle.law_frame.specs.pg_run.pg_intent.declared.intent.Intent.TheVariants as intent
use Rattle.law_frame.specs.pg_run.pg_intent.declared.key.IntentKey.{IntentKey}
use Rattle.law_frame.specs.pg_run.pg_intent.declared.key.IntentKey.TheVariants as intent_key
use Rattle.law_frame.specs.pg_run.pg_intent.Intent.{is_about, key_of, target_of}
use Rattle.law_frame.specs.pg_run.pg_intent.Intents.{begun, begun_on, has_key, intent_at, stands}
use Rattle.law_frame.specs.pg_run.pg_intent.Key.{is_same_key}
use Rattle.law_frame.proofs.pg_run.pg_intent.Found.{begun_found}
use Rattle.law_frame.specs.pg_run.pg_msg.declared.work.Slot.{Slot}
use Rattle.law_frame.specs.pg_run.pg_msg.declared.work.Work.{Work}
use Rattle.law_frame.specs.pg_run.pg_msg.Work.{with_begun}
use Rattle.law_frame.proofs.pg_run.pg_names.Gone.{gone_away, gone_own_other}
use Rattle.law_frame.specs.pg_run.pg_register.Flag.{is_removed}
use Rattle.law_frame.specs.pg_run.pg_replica.declared.replica.Replica.{Replica}
use Rattle.law_frame.specs.pg_run.pg_replica.Replica.{are_none}
use Rattle.law_frame.specs.pg_run.pg_replica.Replicas.{or_nothing}
use Rattle.law_frame.specs.pg_run.pg_house.Facts.{IsOneOf}
use Rattle.law_frame.specs.pg_run.pg_store.declared.store.Store.{Store}
use Rattle.law_frame.specs.pg_run.pg_store.Beginning.{let_go, with_intents}
use Rattle.law_frame.specs.pg_run.pg_store.Links.{is_clean}
use Rattle.law_frame.specs.pg_run.pg_store.Store.{replica_at, replica_of}
use Rattle.law_frame.specs.pg_run.pg_store.Together.{AreBirths}
use Rattle.law_frame.specs.pg_run.pg_pieces.Done.{Done, idle}
use Rattle.law_frame.specs.pg_run.pg_pieces.Intending.{begin_intent, with_begun_if}
use Rattle.law_frame.proofs.pg_run.pg_graph.LeaveOk.{found_keyed}
use Rattle.law_frame.specs.pg_run.theory_flood_pieces.Whole.{AreEdges, IsEdge, IsOther, IsWhole}
use Rattle.law_frame.proofs.pg_run.theory_flood_pieces.Choices.{found_replica}
use Rattle.law_order.proofs.Intended.{all_begun}
use Rattle.law_intents.proofs.Asked.{rejoined_target}
use Rattle.law_intents.proofs.Far.{Aims, Far, IsBeside, beside_either, beside_itself, far_work}
use Rattle.law_intents.proofs.Goes.{told_at, told_of}

-- ---- who is listed is another server

module _ (n s : ℕ) where
  edge_other : (es : List Edge) (peer : ℕ) (e : Edge) → All (IsEdge n s) es → edge_to es peer ≡ Some e → IsOther n s peer
  edge_other [] peer e all h = absurd (none-some e h)
  edge_other (d ∷ es) peer e all h = by (d.peer == peer) refl h (edge_other es peer e (All-tail (IsEdge n s) d es all))
    where
      by : (t : Bool) → (d.peer == peer) ≡ t → cond t (Some d) (edge_to es peer) ≡ Some e → (edge_to es peer ≡ Some e → IsOther n s peer) → IsOther n s peer
      by true same here more = subst (IsOther n s) (eqb-true d.peer peer same) (All-head (IsEdge n s) d es all).other
      by false apart later more = more later

  listed_by : (es : List Edge) (peer birth : ℕ) (o : Option Edge) → All (IsEdge n s) es → edge_to es peer ≡ o → is_some (keys_if_born o birth) ≡ true → IsOther n s peer
  listed_by es peer birth None all at h = absurd (false≢true h)
  listed_by es peer birth (Some e) all at h = edge_other es peer e all at

  pub listed_other : (es : List Edge) (peer birth : ℕ) → All (IsEdge n s) es → is_listed es peer birth ≡ true → IsOther n s peer
  listed_other es peer birth all h = listed_by es peer birth (edge_to es peer) all refl h

  edges_by : (a : Store) (f : FileId) (o : Option Replica) → IsWhole n s a → replica_at a f ≡ o → All (IsEdge n s) (or_nothing o).edges
  edges_by a f None k at = All-nil (IsEdge n s)
  edges_by a f (Some x) k at = (found_replica (λ (z : Replica). AreEdges n s z.edges) f x a.replicas k.replicas at).each

  pub edges_whole : (a : Store) (f : FileId) → IsWhole n s a → All (IsEdge n s) (replica_of a f).edges
  edges_whole a f k = edges_by a f (replica_at a f) k refl

  some_keys : (o : Option (List (Key × ℕ))) → are_none o ≡ true → is_some o ≡ true
  some_keys None h = absurd (false≢true h)
  some_keys (Some ks) h = refl

  pub clean_other : (a : Store) (f : FileId) (peer birth : ℕ) → IsWhole n s a → is_clean a f peer birth ≡ true → IsOther n s peer
  clean_other a f peer birth k h = listed_other (replica_of a f).edges peer birth (edges_whole a f k) (some_keys _ h)

module _ (n s : ℕ) (r : List ℕ) where
  -- ---- an intention begins that is no Patch

  begun_told : (is : List Intent) (i : Intent) (dir child : FileId) → is_same_key (intent_key.Patch dir child) (key_of i) ≡ false → told_at (begun is i) dir child ≡ told_at is dir child
  begun_told is i dir child other =
      let k = intent_key.Patch dir child in
      ap told_of (begun_found is i k ∙ ap (λ (t : Bool). cond t (Some (begun_on (intent_at is k) i)) (intent_at is k)) other)

  beside_begun : (t : Bool) (w : Work) (k : IntentKey) → IsBeside w (with_begun_if t w k)
  beside_begun t w k = beside_either w t (with_begun w k) w (record { left = refl; from = refl }) (beside_itself w)

  pub far_begins : (d : Done) (i : Intent) → Aims n s r (target_of i) → ((dir child : FileId) → is_same_key (intent_key.Patch dir child) (key_of i) ≡ false) → Far n s r d
      → Far n s r (begin_intent d.store i d.work)
  far_begins d i here other k =
      let e = idle (with_intents d.store (begun d.store.intents i)) d.work in
      let begun_here : Far n s r e = record {
        servers = k.servers;
        server = k.server;
        removed = k.removed;
        from = k.from;
        aims = all_begun (λ (j : Intent). Aims n s r (target_of j)) d.store.intents i k.aims here
            (λ held same was. subst (Aims n s r) (sym (rejoined_target held i)) was);
        slots = k.slots;
        patches = λ dir child entry h. k.patches dir child entry (sym (begun_told d.store.intents i dir child (other dir child)) ∙ h);
      } in
      far_work n s r e (begin_intent d.store i d.work).work begun_here (beside_begun (not (stands d.store.intents (key_of i))) d.work (key_of i))

-- ---- what is intended is about something else

none_found : {A : Type 0} (p q : A → Bool) (xs : List A) (x : A) → find p xs ≡ None → find q xs ≡ Some x → p x ≡ false
none_found p q [] x none h = absurd (none-some x h)
none_found {A} p q (y ∷ ys) x none h = by (p y) (q y) refl none h (none_found p q ys x)
  where
    by : (t u : Bool) → p y ≡ t → cond t (Some y) (find p ys) ≡ None → cond u (Some y) (find q ys) ≡ Some x → (find p ys ≡ None → find q ys ≡ Some x → p x ≡ false) → p x ≡ false
    by true u e other here more = absurd (none-some y (sym other))
    by false true e other here more = subst (λ (z : A). p z ≡ false) (same_Some y x here) e
    by false false e other here more = more other here

second_false : (t u : Bool) → (t || u) ≡ false → u ≡ false
second_false false u h = h
second_false true u h = absurd (false≢true (sym h))

turned : (f g : FileId) (t : Bool) → is_same_file f g ≡ t → is_same_file g f ≡ false → t ≡ false
turned f g false e h = refl
turned f g true e h =
    absurd (false≢true (sym h ∙ ap (λ (x : FileId). is_same_file g x) (is_same_file-true f g e) ∙ is_same_file-refl g))

module _ (is : List Intent) (f : FileId) (quiet : find (is_about f) is ≡ None) where
  told_by : (dir child : FileId) (e : Entry) (o : Option Intent) → intent_at is (intent_key.Patch dir child) ≡ o → told_of o ≡ Some e → is_same_file child f ≡ false
  told_by dir child e None at told = absurd (none-some e told)
  told_by dir child e (Some (intent.Patch to entry target)) at told =
      let i = intent.Patch to entry target in
      let has = found_keyed (intent_key.Patch dir child) i is at in
      let same = is_same_file-true child entry.child (and_parts (is_same_file dir to) (is_same_file child entry.child) has).1 in
      let about = none_found (is_about f) (has_key (intent_key.Patch dir child)) is i quiet at in
      ap (λ (x : FileId). is_same_file x f) same ∙ second_false (is_same_file to f) (is_same_file entry.child f) about
  told_by dir child e (Some (intent.Bye file birth peer peer_birth)) at told = absurd (none-some e told)
  told_by dir child e (Some (intent.Seek file target)) at told = absurd (none-some e told)
  told_by dir child e (Some (intent.Fill file birth target)) at told = absurd (none-some e told)
  told_by dir child e (Some (intent.Confirm to other target)) at told = absurd (none-some e told)
  told_by dir child e (Some (intent.Leave file peer peer_birth)) at told = absurd (none-some e told)

  told_apart : (dir child : FileId) (e : Entry) → told_at is dir child ≡ Some e → is_same_file f child ≡ false
  told_apart dir child e told =
      turned f child (is_same_file f child) refl (told_by dir child e (intent_at is (intent_key.Patch dir child)) refl told)

-- ---- leave is given

-- no edge is to one of these servers
abbrev pub EdgesAreLive : Store → List ℕ → Type 0
EdgesAreLive a r = (file : FileId) (x : Replica) (e : Edge) → replica_at a file ≡ Some x → IsAmong x.edges e → is_removed r e.peer ≡ false

-- at the beginning of an event: no place was replaced yet
pub record IsOpening (n s : ℕ) (r : List ℕ) (d : Done) : Type 0 where
  pub births : AreBirths d.store
  pub whole : IsWhole n s d.store
  pub live : EdgesAreLive d.store r
  pub none : (x : Slot) → IsOneOf x d.work.left → ⊥

module _ (n s : ℕ) (r : List ℕ) where
  -- a replica goes
  pub far_goes : (d : Done) (f : FileId) → ((x : Slot) → IsOneOf x d.work.left → ⊥) → find (is_about f) d.store.intents ≡ None → Far n s r d → Far n s r (idle (let_go d.store f) d.work)
  far_goes d f none quiet k = record {
    servers = k.servers;
    server = k.server;
    removed = k.removed;
    from = k.from;
    aims = k.aims;
    slots = λ x h. absurd (none x h);
    patches = λ dir child e told. (
        let was = k.patches dir child e told in
        let apart = told_apart d.store.intents f quiet dir child e told in
        record {
          away = gone_away d.store.names f dir was.away;
          inner = was.inner;
          own = was.own;
          held = gone_own_other d.store.names f child apart ∙ was.held;
          of = was.of;
          place = was.place;
        });
  }

  -- each edge is to another server, which is not removed
  abbrev pub Live : Edge → Type 0
  Live e = IsEdge n s e × (is_removed r e.peer ≡ false)

  module _ (d : Done) (first : IsOpening n s r d) where
    live_here : (f : FileId) (x : Replica) → replica_at d.store f ≡ Some x → All Live x.edges
    live_here f x at i e lt = (
      (found_replica (λ (z : Replica). AreEdges n s z.edges) f x d.store.replicas first.whole.replicas at).each i e lt,
      first.live f x (get_or x.edges i e) at (i, (lt, get_or_default x.edges i e (get_or x.edges i e) lt)),
    )

    pub live_edges : (f : FileId) (o : Option Replica) → replica_at d.store f ≡ o → All Live (or_nothing o).edges
    live_edges f None at = All-nil Live
    live_edges f (Some x) at = live_here f x at
