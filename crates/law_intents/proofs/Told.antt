-- What is intended, in the words of the laws.
use Rattle.std.proofs.Common.{ℕ, ◌≡◌, ◌≢◌, ◌⊎◌, ◌↔◌, ◌≤◌, ◌==◌, ◌&&◌, Bool, true, false, cond, not, nat_le, is_some, List, [], ◌∷◌, Option, None, Some, All, inl, inr, refl, sym, ap, subst, ◌∙◌}
use Rattle.std.specs.List.{IsAmong}
use Rattle.std.proofs.lemmas.Bool.{and_parts, false≢true, le-leb, ne_eqb, or_left, or_right}
use Rattle.std.proofs.lemmas.List.Elements.{All-cons, All-head, All-nil, All-tail}
use Rattle.std.proofs.lemmas.Option.{none-some, same_Some}
use Rattle.law_frame.specs.pg_run.pg_base.declared.id.FileId.{FileId}
use Rattle.law_frame.specs.pg_run.pg_base.Id.{is_same_file}
use Rattle.law_frame.specs.pg_run.pg_base.Stamp.{UpTo}
use Rattle.law_frame.proofs.pg_run.pg_base.Orders.{UpTo-refl, is_before-true, is_same_file-true}
use Rattle.law_frame.specs.pg_run.pg_entries.declared.entry.Entry.{Entry}
use Rattle.law_frame.specs.pg_run.pg_entries.Entry.{is_listed}
use Rattle.law_frame.specs.pg_run.pg_intent.declared.intent.Intent.{Intent}
use Rattle.law_frame.specs.pg_run.pg_intent.declared.intent.Intent.TheVariants as intent
use Rattle.law_frame.specs.pg_run.pg_intent.declared.key.IntentKey.{IntentKey}
use Rattle.law_frame.specs.pg_run.pg_intent.declared.key.IntentKey.TheVariants as key
use Rattle.law_frame.specs.pg_run.pg_intent.Intent.{key_of, target_of}
use Rattle.law_frame.specs.pg_run.pg_intent.Intents.{has_key, intent_at, stands}
use Rattle.law_frame.proofs.pg_run.pg_intent.Found.{stands_is}
use Rattle.law_frame.proofs.pg_run.pg_intent.SameKey.{is_same_key-refl}
use Rattle.law_frame.specs.pg_run.pg_msg.declared.message.Message.TheVariants as message
use Rattle.law_frame.specs.pg_run.pg_names.declared.attributes.Attributes.{Attributes}
use Rattle.law_frame.specs.pg_run.pg_names.Names.{InodeValue, cell_at, known, own_at, own_of}
use Rattle.law_frame.specs.pg_run.pg_register.declared.place.Place.{Place}
use Rattle.law_frame.specs.pg_run.pg_register.Flag.{is_raised, is_removed}
use Rattle.law_frame.specs.pg_run.pg_register.Place.{root}
use Rattle.law_frame.specs.pg_run.pg_replica.declared.replica.Replica.{Replica}
use Rattle.law_frame.specs.pg_run.pg_replica.Replicas.{lists_peer}
use Rattle.law_frame.specs.pg_run.pg_store.declared.store.Store.{Store}
use Rattle.law_frame.specs.pg_run.pg_store.Births.{birth_of}
use Rattle.law_frame.specs.pg_run.pg_store.Links.{is_linked}
use Rattle.law_frame.specs.pg_run.pg_store.Seen.{removed_of, server_of}
use Rattle.law_frame.specs.pg_run.pg_store.Servers.{is_live_other}
use Rattle.law_frame.specs.pg_run.pg_store.Store.{is_held, replica_at}
use Rattle.law_frame.specs.pg_run.pg_pieces.Golds.{flags_of}
use Rattle.law_frame.specs.pg_run.pg_graph.Leaving.{may_still_leave}
use Rattle.law_frame.proofs.pg_run.pg_graph.LeaveOk.{found_keyed}
use Rattle.law_frame.specs.pg_run.pg_intentions.Confirms.{is_doubtful_cell}
use Rattle.law_frame.specs.pg_run.pg_intentions.Fills.{files_to_fill, is_in}
use Rattle.law_frame.specs.pg_run.pg_intentions.Needed.{IsToFill as IsNeeded}
use Rattle.law_frame.specs.pg_run.pg_intentions.Requests.{bye_message, confirm_message, leave_message}
use Rattle.law_frame.proofs.pg_run.pg_intentions.Idle.{nothing_to_do}
use Rattle.law_frame.proofs.pg_run.pg_intentions.Leaves.{AllPass, Passes, all_moved}
use Rattle.law_frame.proofs.pg_run.pg_intentions.Needs.{what_is_needed}
use Rattle.law_frame.specs.pg_run.pg_server.Local.{without_sources, without_volatile}
use Rattle.law_frame.proofs.pg_run.theory_flood_pieces.Together.{held_of_replica, own_of_held}
use Rattle.law_frame.specs.pg_run.Intending.{IntendsInOrder, IntentionsAreInOrder, IsPatchOf, IsToFill, LeavesStand}
use Rattle.law_frame.specs.pg_run.Run.{run}
use Rattle.law_frame.specs.pg_run.Views.{ViewsArePrefixes}
use Rattle.law_order.specs.Laws.{files_of}
use Rattle.law_order.specs.Named.{naming}
use Rattle.law_order.specs.Saying.{AreIntended, IsIntended, Saying}
use Rattle.law_order.proofs.Ended.{IsAtRest}
use Rattle.law_order.proofs.Pieces.{found_has}
use Rattle.law_order.proofs.Runs.{sound_run}
use Rattle.law_intents.specs.Laws.{HasRequest, IntentionsHaveRequests, IsStill, NothingIsLeftToDo}
use Rattle.law_intents.proofs.Ends.{IsResting}
use Rattle.law_intents.proofs.Far.{Aims, IsLive}
use Rattle.law_intents.proofs.Goes.{IsToldOf, told_of}
use Rattle.law_intents.proofs.Runs.{all_rest}

module _ (p : Saying) (other : (file : FileId) → p.IsChild file → is_same_file file root ≡ false) (n s : ℕ) (least : 1 ≤ s) (most : s ≤ n) (a : Store) (k : IsAtRest p n s a) (r : IsResting n s a) where
  -- ---- Fills

  known_by : (child : FileId) (own : Attributes) (o : Option InodeValue) → known a.names child ≡ o → own_of o ≡ Some own → (x : InodeValue) × (known a.names child ≡ Some x) × (x.own ≡ own)
  known_by child own None at h = absurd (none-some own h)
  known_by child own (Some x) at h = (x, at, same_own x h)
    where
      same_own : (x : InodeValue) → Some x.own ≡ Some own → x.own ≡ own
      same_own x e = cc

  to_needed : (file : FileId) → IsToFill a file → IsNeeded a.names file
  to_needed file (inl x) = inl x
  to_needed file (inr l) =
      let x = known_by l.child l.own (known a.names l.child) refl l.held in
      inr (record {
        away = l.away;
        child = l.child;
        x = x.0;
        held = x.1;
        inner = l.inner;
        live = ap (λ (o : Attributes). o.place.live) x.2 ∙ l.live;
        parent = ap (λ (o : Attributes). o.place.parent) x.2 ∙ l.parent;
      })

  from_needed : (file : FileId) → IsNeeded a.names file → IsToFill a file
  from_needed file (inl x) = inl x
  from_needed file (inr l) =
      inr (record {
        away = l.away;
        child = l.child;
        own = l.x.own;
        held = ap own_of l.held;
        inner = l.inner;
        live = l.live;
        parent = l.parent;
      })

  fill_is : (file : FileId) → stands a.intents (key.Fill file) ≡ is_in (files_to_fill a.names) file
  fill_is file = stands_is a.intents (key.Fill file) ∙ k.fills file

  fills : (file : FileId) → stands a.intents (key.Fill file) ≡ true ↔ IsToFill a file
  fills file =
      let needed = what_is_needed a.names file k.sound.named.tidy.keys in
      (λ there. from_needed file (needed.0 (sym (fill_is file) ∙ there)), λ lacks. fill_is file ∙ needed.1 (to_needed file lacks))

  contained_by : (file : FileId) (own : Attributes) → own_at a.names file ≡ Some own → is_same_file file root ≡ false → own.place.live ≡ true
      → (t : Bool) → is_held a own.place.parent ≡ t → (is_held a own.place.parent ≡ true) ⊎ (stands a.intents (key.Fill own.place.parent) ≡ true)
  contained_by file own held inner live true here = inl here
  contained_by file own held inner live false away =
      inr ((fills own.place.parent).1 (inr (record { away = away; child = file; own = own; held = held; inner = inner; live = live; parent = refl })))

  -- ---- Confirms

  doubtful : (dir child : FileId) (o : Option Entry) → cell_at a.names dir child ≡ o → is_doubtful_cell a.names dir child o ≡ true
      → (cell : Entry) × (cell_at a.names dir child ≡ Some cell) × (is_listed dir cell ≡ true) × (is_held a child ≡ false)
  doubtful dir child None at h = absurd (false≢true h)
  doubtful dir child (Some e) at h =
      let parts = and_parts (is_listed dir e) (not (is_held a child)) h in
      (e, at, parts.0, not_held (is_held a child) parts.1)
    where
      not_held : (t : Bool) → not t ≡ true → t ≡ false
      not_held true h = absurd (false≢true h)
      not_held false h = refl

  confirms : (dir child : FileId) → stands a.intents (key.Confirm dir child) ≡ true
      → (cell : Entry) × (cell_at a.names dir child ≡ Some cell) × (is_listed dir cell ≡ true) × (is_held a child ≡ false)
  confirms dir child there =
      doubtful dir child (cell_at a.names dir child) refl (r.confirms dir child (sym (stands_is a.intents (key.Confirm dir child)) ∙ there))

  -- ---- Patches

  up_to : (dir child : FileId) (told own : Place) → IsToldOf [] dir child told own → UpTo told.stamp own.stamp
  up_to dir child told own (inl same) = subst (λ (x : Place). UpTo told.stamp x.stamp) (sym same) (UpTo-refl told.stamp)
  up_to dir child told own (inr before) = is_before-true told.stamp own.stamp before.0

  same_place : (dir child : FileId) (told own : Place) → IsToldOf [] dir child told own → told.live ≡ true → told.parent ≡ dir → own ≡ told
  same_place dir child told own (inl same) live parent = same
  same_place dir child told own (inr before) live parent = absurd (before.1 live parent)

  patches : (dir child : FileId) (e : Entry) (target : ℕ) → intent_at a.intents (key.Patch dir child) ≡ Some (intent.Patch dir e target) → IsPatchOf a dir e
  patches dir child e target at =
      let was = r.patches dir child e (ap told_of at) in
      record {
        away = was.away;
        own = was.own;
        held = subst (λ (f : FileId). own_at a.names f ≡ Some was.own) (sym was.of) was.held;
        upto = up_to dir child e.place was.own.place was.place;
        same = same_place dir child e.place was.own.place was.place;
      }

  -- ---- Leaves

  passes_at : (is : List Intent) (q : IntentKey) (i : Intent) → AllPass a is → intent_at is q ≡ Some i → Passes a i
  passes_at [] q i all h = absurd (none-some i h)
  passes_at (j ∷ is) q i all h = by (has_key q j) (passes_at is q i all.1) h
    where
      by : (t : Bool) → (intent_at is q ≡ Some i → Passes a i) → cond t (Some j) (intent_at is q) ≡ Some i → Passes a i
      by true more same = subst (Passes a) (same_Some j i same) all.0
      by false more later = more later

  -- what lists a peer is held
  lists_by : (file : FileId) (peer birth : ℕ) (o : Option Replica) → replica_at a file ≡ o → lists_peer o peer birth ≡ true → is_held a file ≡ true
  lists_by file peer birth None at h = absurd (false≢true h)
  lists_by file peer birth (Some x) at h = held_of_replica a k.sound.whole.together file x at

  may_held : (file : FileId) (peer birth : ℕ) → may_still_leave a file peer birth ≡ true → is_held a file ≡ true
  may_held file peer birth h =
      lists_by file peer birth (replica_at a file) refl (and_parts (is_linked a file peer birth) (is_raised (flags_of a file) peer birth) h).0

  leaves : LeavesStand a
  leaves file peer birth at =
      let i = intent.Leave file peer birth in
      let passes : may_still_leave a file peer birth ≡ true = passes_at a.intents (key.Leave file) i r.leaves at in
      let said : IsIntended p i = found_has (IsIntended p) (key.Leave file) i a.intents k.sound.named.intents at in
      (may_held file peer birth passes, other file said.1, passes)

  leave_held : (file : FileId) (i : Intent) → has_key (key.Leave file) i ≡ true → Passes a i → is_held a file ≡ true
  leave_held file (intent.Leave f peer birth) same passes =
      subst (λ (g : FileId). is_held a g ≡ true) (sym (is_same_file-true file f same)) (may_held f peer birth passes)
  leave_held file (intent.Bye f birth peer peer_birth) same passes = absurd (false≢true same)
  leave_held file (intent.Seek f target) same passes = absurd (false≢true same)
  leave_held file (intent.Fill f birth target) same passes = absurd (false≢true same)
  leave_held file (intent.Patch dir entry target) same passes = absurd (false≢true same)
  leave_held file (intent.Confirm dir child target) same passes = absurd (false≢true same)

  leaving_by : (file : FileId) (o : Option Intent) → intent_at a.intents (key.Leave file) ≡ o → is_some o ≡ true → is_held a file ≡ true
  leaving_by file None at h = absurd (false≢true h)
  leaving_by file (Some i) at h =
      leave_held file i (found_keyed (key.Leave file) i a.intents at) (passes_at a.intents (key.Leave file) i r.leaves at)

  leaving_held : (file : FileId) → stands a.intents (key.Leave file) ≡ true → is_held a file ≡ true
  leaving_held file there =
      leaving_by file (intent_at a.intents (key.Leave file)) refl (sym (stands_is a.intents (key.Leave file)) ∙ there)

  -- ---- targets

  live_other : (t : ℕ) → IsLive n s (removed_of a) t → is_live_other a t ≡ true
  live_other t o =
      let one : nat_le 1 t ≡ true = le-leb 1 t o.other.least in
      let two : nat_le t a.servers ≡ true = le-leb t a.servers (subst (λ (m : ℕ). t ≤ m) (sym r.servers) o.other.most) in
      let three : (t == server_of a) ≡ false = ne_eqb t (server_of a) (λ e. o.other.apart (e ∙ r.server)) in
      ap (λ (x : Bool). x && (nat_le t a.servers && (not (t == server_of a) && not (is_removed (removed_of a) t)))) one
      ∙ ap (λ (x : Bool). x && (not (t == server_of a) && not (is_removed (removed_of a) t))) two
      ∙ ap (λ (x : Bool). not x && not (is_removed (removed_of a) t)) three
      ∙ ap (λ (x : Bool). not x) o.stays

  targets : (i : Intent) → IsAmong a.intents i → target_of i ≢ 0 → is_live_other a (target_of i) ≡ true
  targets i at some =
      let here : Aims n s (removed_of a) (target_of i) =
      subst (λ (j : Intent). Aims n s (removed_of a) (target_of j)) (sym at.1.1) (r.aims at.0 i at.1.0) in
      live_other (target_of i) (here some)

  pub intends : IntendsInOrder a
  intends = record {
    held = record { together = k.sound.whole.together; births = k.sound.births; root = k.sound.named.tidy.top };
    keys = k.sound.keys;
    fills = fills;
    contained = λ file own held inner live. contained_by file own held inner live (is_held a own.place.parent) refl;
    confirms = confirms;
    patches = patches;
    seeks = r.seeks least most;
    leaves = leaves;
    targets = targets;
  }

  -- ---- nothing is left to do

  pub still : IsStill a
  still = (
    λ work left unsure linked. nothing_to_do a k.fills (r.seeks least most) r.confirms r.leaves work left unsure linked,
    (
      λ work left unsure linked. nothing_to_do (without_volatile a) k.fills (r.seeks least most) r.confirms (all_moved a (without_volatile a) refl refl a.intents r.leaves) work left unsure linked,
      λ work left unsure linked. nothing_to_do (without_sources a) k.fills (r.seeks least most) r.confirms (all_moved a (without_sources a) refl refl a.intents r.leaves) work left unsure linked,
    ),
  )

  -- ---- requests

  has_request : (i : Intent) → IsIntended p i → stands a.intents (key_of i) ≡ true → HasRequest a i
  has_request (intent.Bye file birth peer peer_birth) said there = (bye_message file birth peer_birth, refl)
  has_request (intent.Seek file target) said there = (message.Seek file (birth_of a file), refl)
  has_request (intent.Fill file birth target) said there = (message.Fetch file birth, refl)
  has_request (intent.Patch dir entry target) said there = (message.Tell dir entry, refl)
  has_request (intent.Confirm dir child target) said there =
      let cell = confirms dir child there in
      (message.Confirm dir cell.0, ap (confirm_message dir) cell.1)
  has_request (intent.Leave file peer peer_birth) said there =
      let own = own_of_held a.names file (leaving_held file there) in
      (message.Leave (record { file = file; sender = birth_of a file; receiver = peer_birth }) own.0.place.stamp, ap (leave_message a file peer_birth) own.1)

  all_ask : (is : List Intent) → AreIntended p is → ((q : IntentKey) → stands is q ≡ true → stands a.intents q ≡ true) → All (HasRequest a) is
  all_ask [] all part = All-nil (HasRequest a)
  all_ask (i ∷ is) all part =
      All-cons (HasRequest a) i is
      (has_request i (All-head (IsIntended p) i is all) (part (key_of i) (or_left (has_key (key_of i) i) (stands is (key_of i)) (is_same_key-refl (key_of i)))))
      (all_ask is (All-tail (IsIntended p) i is all) (λ (q : IntentKey) (h : stands is q ≡ true). part q (or_right (has_key q i) (stands is q) h)))

  pub asked : All (HasRequest a) a.intents
  asked = all_ask a.intents k.sound.named.intents (λ q h. h)

-- ---- the laws

pub in_order : (n : ℕ) → ViewsArePrefixes n → IntentionsAreInOrder n
in_order n views events s least most =
    let w = run n events in
    intends (naming n (files_of w.stores)) (λ file apart. apart) n s least most (w.stores s) ((sound_run n events).servers s) (all_rest n views events s)

pub nothing_left : (n : ℕ) → ViewsArePrefixes n → NothingIsLeftToDo n
nothing_left n views events s least most =
    let w = run n events in
    still (naming n (files_of w.stores)) (λ file apart. apart) n s least most (w.stores s) ((sound_run n events).servers s) (all_rest n views events s)

pub have_requests : (n : ℕ) → ViewsArePrefixes n → IntentionsHaveRequests n
have_requests n views events s least most =
    let w = run n events in
    asked (naming n (files_of w.stores)) (λ file apart. apart) n s least most (w.stores s) ((sound_run n events).servers s) (all_rest n views events s)
