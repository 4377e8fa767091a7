-- What holds in the midst of an event: who is asked is another server, and Patches and what was
-- noted are of held things.
use Rattle.std.proofs.Common.{ℕ, ◌≡◌, ◌≢◌, ◌⊎◌, Bool, true, false, cond, not, ◌&&◌, List, Option, None, Some, All, inl, inr, refl, sym, ap, subst, ◌∙◌}
use Rattle.std.specs.Option.{option_map}
use Rattle.std.proofs.lemmas.Bool.{false≢true}
use Rattle.std.proofs.lemmas.Option.{none-some}
use Rattle.std.proofs.lemmas.List.Elements.{All-filter}
use Rattle.law_frame.specs.pg_run.pg_base.declared.id.FileId.{FileId}
use Rattle.law_frame.specs.pg_run.pg_base.Version.{VersionValue}
use Rattle.law_frame.specs.pg_run.pg_edges.declared.key.Key.{Key}
use Rattle.law_frame.specs.pg_run.pg_edges.declared.key.Key.TheVariants as key
use Rattle.law_frame.specs.pg_run.pg_entries.declared.cell.Cell.{Cell}
use Rattle.law_frame.specs.pg_run.pg_entries.declared.cell.Cell.TheVariants as cells
use Rattle.law_frame.specs.pg_run.pg_entries.declared.entry.Entry.{Entry}
use Rattle.law_frame.specs.pg_run.pg_intent.declared.intent.Intent.{Intent}
use Rattle.law_frame.specs.pg_run.pg_intent.declared.intent.Intent.TheVariants as intent
use Rattle.law_frame.specs.pg_run.pg_intent.declared.key.IntentKey.{IntentKey}
use Rattle.law_frame.specs.pg_run.pg_intent.declared.key.IntentKey.TheVariants as intent_key
use Rattle.law_frame.specs.pg_run.pg_intent.Intent.{aimed_at, target_of}
use Rattle.law_frame.specs.pg_run.pg_intent.Intents.{aimed, ended, has_key, intent_at}
use Rattle.law_frame.specs.pg_run.pg_intent.Key.{is_same_key}
use Rattle.law_frame.proofs.pg_run.pg_intent.Found.{aimed_found, ended_found}
use Rattle.law_frame.specs.pg_run.pg_msg.declared.update.Update.TheVariants as update
use Rattle.law_frame.specs.pg_run.pg_msg.declared.work.Slot.{Slot}
use Rattle.law_frame.specs.pg_run.pg_msg.declared.work.Work.{Work}
use Rattle.law_frame.specs.pg_run.pg_msg.Work.{with_left, with_linked, with_made, with_touched, with_unsure}
use Rattle.law_frame.specs.pg_run.pg_names.declared.attributes.Attributes.{Attributes}
use Rattle.law_frame.specs.pg_run.pg_names.Names.{is_place_new, join_entry, or_blank, own_at, own_or_blank, with_flag, with_joined}
use Rattle.law_frame.specs.pg_run.pg_register.declared.flag.Flag.{Flag}
use Rattle.law_frame.specs.pg_run.pg_register.declared.place.Place.{Place}
use Rattle.law_frame.specs.pg_run.pg_register.Flag.{is_removed}
use Rattle.law_frame.specs.pg_run.pg_house.Facts.{IsOneOf}
use Rattle.law_frame.specs.pg_run.pg_house.Work.{is_root, note_left}
use Rattle.law_frame.specs.pg_run.pg_store.declared.store.Store.{Store}
use Rattle.law_frame.specs.pg_run.pg_store.Beginning.{with_intents}
use Rattle.law_frame.specs.pg_run.pg_store.Links.{is_new_link, link, put_link}
use Rattle.law_frame.specs.pg_run.pg_store.Seen.{removed_of, server_of}
use Rattle.law_frame.specs.pg_run.pg_store.Store.{entry_news, is_new_version, is_newer_entry, is_newer_flag, is_newer_place, put_entry, put_flag, put_place, put_version}
use Rattle.law_frame.specs.pg_run.pg_pieces.Accepting.{link_peer, with_link}
use Rattle.law_frame.specs.pg_run.pg_cells.Cells.{taken}
use Rattle.law_frame.specs.pg_run.pg_pieces.Done.{Done, idle}
use Rattle.law_frame.specs.pg_run.pg_pieces.Making.{make_flag, own_next, raise_flag}
use Rattle.law_frame.specs.pg_run.pg_pieces.Taking.{is_any_news, is_place_news, take_entry_cell, take_entry_noted, take_flag_noted, take_place_noted, take_version_noted, with_doubt, with_left_if, with_news}
use Rattle.law_frame.specs.pg_run.pg_calls.Making.{make_place}
use Rattle.law_frame.specs.pg_run.theory_flood_pieces.Whole.{IsOther}
use Rattle.law_frame.proofs.pg_run.theory_flood_pieces.Choices.{chosen}
use Rattle.law_order.proofs.Intended.{all_changed}
use Rattle.law_intents.proofs.Goes.{ArePatchesSoFar, GoesOn, IsSlot, goes_place, goes_raised, goes_same, goes_update, patch_goes, slot_goes, told_at, told_of}

-- another server of n than s, that is none of the removed ones
pub record IsLive (n s : ℕ) (removed : List ℕ) (t : ℕ) : Type 0 where
  pub other : IsOther n s t
  pub stays : is_removed removed t ≡ false

-- nobody is asked, or such a server
abbrev pub Aims : ℕ → ℕ → List ℕ → ℕ → Type 0
Aims n s removed t = t ≢ 0 → IsLive n s removed t

abbrev pub AreAimed : ℕ → ℕ → List ℕ → List Intent → Type 0
AreAimed n s removed is = All (λ (i : Intent). Aims n s removed (target_of i)) is

-- server s of n, in whose view these are removed, in the midst of an event
pub record IsFar (n s : ℕ) (r : List ℕ) (d : Done) : Type 0 where
  pub servers : d.store.servers ≡ n
  pub server : server_of d.store ≡ s
  pub removed : removed_of d.store ≡ r
  pub from : Aims n s r d.work.from
  pub aims : AreAimed n s r d.store.intents
  pub slots : (x : Slot) → IsOneOf x d.work.left → IsSlot d.store.names x
  pub patches : ArePatchesSoFar d.store.names d.work.left d.store.intents

-- in the view that it has then
abbrev pub IsFarThen : ℕ → ℕ → Done → Type 0
IsFarThen n s d = IsFar n s (removed_of d.store) d

pub far_then : (n s : ℕ) (r : List ℕ) (d : Done) → IsFar n s r d → IsFarThen n s d
far_then n s r d k = subst (λ (l : List ℕ). IsFar n s l d) (sym k.removed) k

-- ---- what stays

-- all that counts here
pub record IsSame (a b : Store) : Type 0 where
  pub servers : b.servers ≡ a.servers
  pub names : b.names ≡ a.names
  pub intents : b.intents ≡ a.intents

pub same_itself : (a : Store) → IsSame a a
same_itself a = record { servers = refl; names = refl; intents = refl }

pub same_either : (a : Store) (t : Bool) (b c : Store) → IsSame a b → IsSame a c → IsSame a (cond t b c)
same_either a t b c one other = chosen (λ (x : Store). IsSame a x) t b c one other

pub record IsBeside (w v : Work) : Type 0 where
  pub left : v.left ≡ w.left
  pub from : v.from ≡ w.from

pub beside_itself : (w : Work) → IsBeside w w
beside_itself w = record { left = refl; from = refl }

pub beside_either : (w : Work) (t : Bool) (u v : Work) → IsBeside w u → IsBeside w v → IsBeside w (cond t u v)
beside_either w t u v one other = chosen (λ (x : Work). IsBeside w x) t u v one other

pub beside_news : (t : Bool) (w : Work) (f : FileId) (q : Key) → IsBeside w (with_news t w f q)
beside_news t w f q = beside_either w t (with_touched w f q) w (record { left = refl; from = refl }) (beside_itself w)

beside_link : (t : Bool) (w : Work) (f : FileId) (peer : ℕ) → IsBeside w (with_link t w f peer)
beside_link t w f peer = beside_either w t (with_linked w f peer) w (record { left = refl; from = refl }) (beside_itself w)

beside_doubt : (t : Bool) (w : Work) (d f : FileId) → IsBeside w (with_doubt t w d f)
beside_doubt t w d f = beside_either w t (with_unsure w d f) w (record { left = refl; from = refl }) (beside_itself w)

left_from : (w : Work) (f : FileId) (old : Place) → (note_left w f old).from ≡ w.from
left_from w f old = chosen (λ (v : Work). v.from ≡ w.from) (old.live && not (is_root f)) (with_left w old.parent f) w refl refl

-- ---- Patches behind a change of what is intended

pub aimed_told : (to : ℕ) (o : Option Intent) → told_of (option_map (aimed_at to) o) ≡ told_of o
aimed_told to None = refl
aimed_told to (Some (intent.Bye file birth peer peer_birth)) = refl
aimed_told to (Some (intent.Seek file target)) = refl
aimed_told to (Some (intent.Fill file birth target)) = refl
aimed_told to (Some (intent.Patch dir entry target)) = refl
aimed_told to (Some (intent.Confirm dir child target)) = refl
aimed_told to (Some (intent.Leave file peer peer_birth)) = refl

aimed_by : (to : ℕ) (t : Bool) (o : Option Intent) → told_of (cond t (option_map (aimed_at to) o) o) ≡ told_of o
aimed_by to true o = aimed_told to o
aimed_by to false o = refl

pub told_aimed : (is : List Intent) (q : IntentKey) (to : ℕ) (dir child : FileId) → told_at (aimed is q to) dir child ≡ told_at is dir child
told_aimed is q to dir child =
    let k = intent_key.Patch dir child in
    ap told_of (aimed_found is q to k) ∙ aimed_by to (is_same_key k q) (intent_at is k)

ended_by : (t : Bool) (o : Option Intent) (e : Entry) → told_of (cond t None o) ≡ Some e → (told_of o ≡ Some e) × (t ≡ false)
ended_by true o e h = absurd (none-some e h)
ended_by false o e h = (h, refl)

pub told_ended : (is : List Intent) (q : IntentKey) (dir child : FileId) (e : Entry) → told_at (ended is q) dir child ≡ Some e
    → (told_at is dir child ≡ Some e) × (is_same_key (intent_key.Patch dir child) q ≡ false)
told_ended is q dir child e h =
    let k = intent_key.Patch dir child in
    ended_by (is_same_key k q) (intent_at is k) e (sym (ap told_of (ended_found is q k)) ∙ h)

pub aimed_target : (n s : ℕ) (r : List ℕ) (to : ℕ) (i : Intent) → Aims n s r to → Aims n s r (target_of i) → Aims n s r (target_of (aimed_at to i))
aimed_target n s r to (intent.Bye file birth peer peer_birth) here was = was
aimed_target n s r to (intent.Seek file target) here was = here
aimed_target n s r to (intent.Fill file birth target) here was = here
aimed_target n s r to (intent.Patch dir entry target) here was = here
aimed_target n s r to (intent.Confirm dir child target) here was = here
aimed_target n s r to (intent.Leave file peer peer_birth) here was = was

module _ (n s : ℕ) (r : List ℕ) where
  abbrev pub Far : Done → Type 0
  Far d = IsFar n s r d

  -- ---- one step

  pub far_on : (d : Done) (b : Store) (v : Work) → Far d → b.servers ≡ d.store.servers → b.intents ≡ d.store.intents → v.from ≡ d.work.from
      → GoesOn d.store.names d.work.left b.names v.left → Far (idle b v)
  far_on d b v k servers intents from g = record {
    servers = servers ∙ k.servers;
    server = g.server ∙ k.server;
    removed = g.removed ∙ k.removed;
    from = subst (Aims n s r) (sym from) k.from;
    aims = subst (AreAimed n s r) (sym intents) k.aims;
    slots = λ x h. slots_by x (g.slots x h);
    patches = λ dir child e h. patch_goes d.store.names d.work.left b.names v.left g dir child e
        (k.patches dir child e (sym (ap (λ (is : List Intent). told_at is dir child) intents) ∙ h));
  }
    where
      slots_by : (x : Slot) → IsOneOf x d.work.left ⊎ IsSlot d.store.names x → IsSlot b.names x
      slots_by x (inl old) = slot_goes d.store.names d.work.left b.names v.left g x (k.slots x old)
      slots_by x (inr new) = slot_goes d.store.names d.work.left b.names v.left g x new

  -- all that counts stays
  pub far_with : (d : Done) (b : Store) (v : Work) → Far d → IsSame d.store b → IsBeside d.work v → Far (idle b v)
  far_with d b v k same beside =
      far_on d b v k same.servers same.intents beside.from (goes_same d.store.names d.work.left b.names v.left same.names beside.left)

  -- the work alone
  pub far_work : (d : Done) (v : Work) → Far d → IsBeside d.work v → Far (idle d.store v)
  far_work d v k beside = far_with d d.store v k (same_itself d.store) beside

  -- ---- intentions ask another server, or end

  pub far_aimed : (d : Done) (q : IntentKey) (to : ℕ) → Aims n s r to → Far d → Far (idle (with_intents d.store (aimed d.store.intents q to)) d.work)
  far_aimed d q to here k = record {
    servers = k.servers;
    server = k.server;
    removed = k.removed;
    from = k.from;
    aims = all_changed (λ (i : Intent). Aims n s r (target_of i)) (aimed_at to) q (λ held same was. aimed_target n s r to held here was) d.store.intents k.aims;
    slots = k.slots;
    patches = λ dir child e h. k.patches dir child e (sym (told_aimed d.store.intents q to dir child) ∙ h);
  }

  pub far_ended : (d : Done) (q : IntentKey) → Far d → Far (idle (with_intents d.store (ended d.store.intents q)) d.work)
  far_ended d q k = record {
    servers = k.servers;
    server = k.server;
    removed = k.removed;
    from = k.from;
    aims = All-filter (λ (i : Intent). not (has_key q i)) (λ (i : Intent). Aims n s r (target_of i)) d.store.intents k.aims;
    slots = k.slots;
    patches = λ dir child e h. k.patches dir child e (told_ended d.store.intents q dir child e h).0;
  }

  -- ---- a link

  pub far_link : (d : Done) (f : FileId) (peer birth : ℕ) → Far d → Far (link_peer d.store f peer birth d.work)
  far_link d f peer birth k =
      let t = is_new_link d.store f peer birth in
      far_with d (link d.store f peer birth) (with_link t d.work f peer) k
      (same_either d.store t (put_link d.store f peer birth) d.store (record { servers = refl; names = refl; intents = refl }) (same_itself d.store))
      (beside_link t d.work f peer)

  -- ---- a place

  new_own : (o : Option Attributes) (place : Place) → is_place_new o place ≡ true → (own : Attributes) × (o ≡ Some own)
  new_own None place h = absurd (false≢true h)
  new_own (Some own) place h = (own, refl)

  abbrev PlaceTaken : Done → FileId → Place → Bool → Done
  PlaceTaken d f place t = record {
    store = cond t (put_place d.store f place) d.store;
    work = with_news t (with_left_if t d.work f (own_or_blank d.store.names f).place) f key.Place;
  }

  pub far_place : (d : Done) (f : FileId) (place : Place) → Far d → Far (take_place_noted d.store f place d.work)
  far_place d f place k = by (is_newer_place d.store f place) refl
    where
      by : (t : Bool) → is_newer_place d.store f place ≡ t → Far (PlaceTaken d f place t)
      by false old = far_work d d.work k (beside_itself d.work)
      by true new =
          let own = new_own (own_at d.store.names f) place new in
          let is : own_or_blank d.store.names f ≡ own.0 = ap (or_blank f) own.1 in
          let later : is_place_new (Some own.0) place ≡ true = sym (ap (λ (o : Option Attributes). is_place_new o place) own.1) ∙ new in
          let P : Attributes → Type 0 = λ o. Far (idle (put_place d.store f place) (with_touched (note_left d.work f o.place) f key.Place)) in
          subst P (sym is)
          (far_on d (put_place d.store f place) (with_touched (note_left d.work f own.0.place) f key.Place) k refl refl (left_from d.work f own.0.place)
          (goes_place d.store.names d.work f place own.0 own.1 later))

  -- one is made
  pub far_made : (d : Done) (f : FileId) (place : Place) → Far d → Far (make_place f place d)
  far_made d f place k =
      let w = with_made d.work (update.Place f place) in
      far_place (idle d.store w) f place (far_work d w k (record { left = refl; from = refl }))

  -- ---- flags

  pub far_flag : (d : Done) (f : FileId) (flag : Flag) → Far d → Far (take_flag_noted d.store f flag d.work)
  far_flag d f flag k =
      let t = is_newer_flag d.store f flag in
      let beside = beside_news t d.work f (key.Flag flag.server) in
      let v = with_news t d.work f (key.Flag flag.server) in
      chosen (λ (b : Store). Far (idle b v)) t (put_flag d.store f flag) d.store
      (far_work (idle (put_flag d.store f flag) d.work) v
      (far_on d (put_flag d.store f flag) d.work k refl refl refl (goes_update d.store.names f (with_flag flag) (λ x. refl) d.work.left)) beside)
      (far_work d v k beside)

  -- the server makes its flag
  pub far_flagged : (d : Done) (f : FileId) (raised : Bool) → Far d → Far (make_flag d.store f (own_next d.store f raised) d.work)
  far_flagged d f raised k =
      let flag = own_next d.store f raised in
      let made = with_made d.work (update.Flag f flag) in
      far_flag (idle d.store made) f flag (far_work d made k (record { left = refl; from = refl }))

  pub far_raised : (d : Done) (f : FileId) → Far d → Far (raise_flag d.store f d.work)
  far_raised d f k = far_flagged d f true k

  -- ---- an entry, a version

  pub far_entry : (d : Done) (dir : FileId) (e : Entry) → Far d → Far (take_entry_noted d.store dir e d.work)
  far_entry d dir e k =
      let t = is_any_news (entry_news d.store dir e) in
      let v = with_news t d.work dir (key.Entry e.child) in
      let beside = beside_news t d.work dir (key.Entry e.child) in
      chosen (λ (b : Store). Far (idle b v)) (is_newer_entry d.store dir e) (put_entry d.store dir e) d.store
      (far_work (idle (put_entry d.store dir e) d.work) v
      (far_on d (put_entry d.store dir e) d.work k refl refl refl
      (goes_raised d.store.names d.work.left (join_entry d.store.names dir e) d.work.left _
      (goes_update d.store.names dir (with_joined e) (λ x. refl) d.work.left))) beside)
      (far_work d v k beside)

  far_entry_cell : (d : Done) (dir : FileId) (e : Entry) (sure : Bool) → Far d → Far (take_entry_cell d.store dir e sure d.work)
  far_entry_cell d dir e sure k =
      let noted = take_entry_noted d.store dir e d.work in
      far_work noted (with_doubt (is_place_news (entry_news d.store dir e) && not sure) noted.work dir e.child) (far_entry d dir e k)
      (beside_doubt (is_place_news (entry_news d.store dir e) && not sure) noted.work dir e.child)

  far_version : (d : Done) (f : FileId) (v : VersionValue) → Far d → Far (take_version_noted d.store f v d.work)
  far_version d f v k =
      let t = is_new_version d.store f v in
      let w = with_news t d.work f (key.Version v.head.stamp) in
      let beside = beside_news t d.work f (key.Version v.head.stamp) in
      chosen (λ (b : Store). Far (idle b w)) t (put_version d.store f v) d.store
      (far_work (idle (put_version d.store f v) d.work) w
      (far_on d (put_version d.store f v) d.work k refl refl refl
      (goes_raised d.store.names d.work.left d.store.names d.work.left _ (goes_same d.store.names d.work.left d.store.names d.work.left refl refl))) beside)
      (far_work d w k beside)

  -- A CELL IS TAKEN
  pub far_taken : (d : Done) (f : FileId) (x : Cell) → Far d → Far (taken d.store f x d.work)
  far_taken d f (cells.Place place) k = far_place d f place k
  far_taken d f (cells.Flag flag) k = far_flag d f flag k
  far_taken d f (cells.Entry e sure) k = far_entry_cell d f e sure k
  far_taken d f (cells.Version v) k = far_version d f v k
