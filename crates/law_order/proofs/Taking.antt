-- What a held thing takes, and what is answered, in the midst of an event.
use Rattle.std.proofs.Common.{ℕ, ◌≡◌, ◌&&◌, Bool, true, false, not, cond, [], ◌∷◌, Option, None, Some, refl, sym, ap, subst, ◌∙◌}
use Rattle.std.proofs.lemmas.List.Elements.{All-append, All-cons, All-nil}
use Rattle.law_frame.specs.pg_run.pg_base.declared.id.FileId.{FileId}
use Rattle.law_frame.specs.pg_run.pg_base.Version.{VersionValue}
use Rattle.law_frame.specs.pg_run.pg_edges.declared.key.Key.{Key}
use Rattle.law_frame.specs.pg_run.pg_edges.declared.key.Key.TheVariants as key
use Rattle.law_frame.specs.pg_run.pg_entries.declared.entry.Entry.{Entry}
use Rattle.law_frame.specs.pg_run.pg_intent.declared.intent.Intent.{Intent}
use Rattle.law_frame.specs.pg_run.pg_intent.declared.key.IntentKey.{IntentKey}
use Rattle.law_frame.specs.pg_run.pg_intent.declared.key.IntentKey.TheVariants as intent_key
use Rattle.law_frame.specs.pg_run.pg_intent.Intent.{key_of}
use Rattle.law_frame.specs.pg_run.pg_intent.Intents.{begun, stands}
use Rattle.law_frame.specs.pg_run.pg_intent.Key.{is_same_key}
use Rattle.law_frame.proofs.pg_run.pg_intent.Kept.{own-begun}
use Rattle.law_frame.specs.pg_run.pg_msg.declared.message.Message.{Message}
use Rattle.law_frame.specs.pg_run.pg_msg.declared.message.Sent.{Sent}
use Rattle.law_frame.specs.pg_run.pg_msg.declared.update.Update.TheVariants as update
use Rattle.law_frame.specs.pg_run.pg_msg.declared.work.Work.{Work}
use Rattle.law_frame.specs.pg_run.pg_msg.Work.{with_begun, with_linked, with_made, with_tail, with_touched, with_unsure}
use Rattle.law_frame.specs.pg_run.pg_names.declared.attributes.Attributes.{Attributes}
use Rattle.law_frame.specs.pg_run.pg_names.Names.{is_place_new, or_blank, own_at, own_or_blank}
use Rattle.law_frame.specs.pg_run.pg_register.declared.flag.Flag.{Flag}
use Rattle.law_frame.specs.pg_run.pg_register.declared.place.Place.{Place}
use Rattle.law_frame.specs.pg_run.pg_house.Work.{note_left, state_of}
use Rattle.law_frame.specs.pg_run.pg_store.declared.store.Store.{Store}
use Rattle.law_frame.specs.pg_run.pg_store.Beginning.{with_intents}
use Rattle.law_frame.specs.pg_run.pg_store.Links.{is_new_link}
use Rattle.law_frame.specs.pg_run.pg_store.Seen.{removed_of}
use Rattle.law_frame.specs.pg_run.pg_store.Store.{entry_news, is_new_version, is_newer_flag, is_newer_place}
use Rattle.law_frame.specs.pg_run.pg_pieces.Accepting.{link_peer, with_link}
use Rattle.law_frame.specs.pg_run.pg_pieces.Done.{Done, idle}
use Rattle.law_frame.specs.pg_run.pg_pieces.Intending.{begin_intent, with_begun_if}
use Rattle.law_frame.specs.pg_run.pg_pieces.Making.{make_flag, own_next, raise_flag}
use Rattle.law_frame.specs.pg_run.pg_pieces.Posting.{post, reply, sent_to}
use Rattle.law_frame.specs.pg_run.pg_cells.Settling.{ruled}
use Rattle.law_frame.specs.pg_run.pg_pieces.Taking.{is_any_news, is_place_news, take_entry_cell, take_entry_noted, take_flag_noted, take_place_noted, take_version_noted, with_doubt, with_left_if, with_news}
use Rattle.law_frame.specs.pg_run.pg_calls.Making.{make_place}
use Rattle.law_frame.specs.pg_run.theory_flood_pieces.Whole.{IsOther}
use Rattle.law_frame.proofs.pg_run.theory_flood_pieces.Choices.{chosen, decided}
use Rattle.law_order.specs.Saying.{IsClosed, IsIntended, IsSaidOfMessage, IsSaidTold, Saying}
use Rattle.law_order.proofs.BirthsStay.{other_births}
use Rattle.law_order.proofs.HouseFrame.{SendsSame, house_frame, left_sends, sends_either, sends_same}
use Rattle.law_order.proofs.HouseSays.{AreLeft, left_said}
use Rattle.law_order.proofs.Intended.{begun_said}
use Rattle.law_order.proofs.Sent.{AreSaidOf, IsSoundSoFar}
use Rattle.law_order.proofs.Sounding.{Sound, sound_alike, sound_entry, sound_flag, sound_link, sound_place, sound_rules, sound_version}

-- the same was replaced and sent
pub record IsBeside (w v : Work) : Type 0 where
  pub left : v.left ≡ w.left
  pub sent : v.sent ≡ w.sent
  pub tail : v.tail ≡ w.tail

pub beside_itself : (w : Work) → IsBeside w w
beside_itself w = record { left = refl; sent = refl; tail = refl }

pub beside_either : (w : Work) (t : Bool) (u v : Work) → IsBeside w u → IsBeside w v → IsBeside w (cond t u v)
beside_either w t u v one other = chosen (λ (x : Work). IsBeside w x) t u v one other

pub beside_news : (t : Bool) (w : Work) (f : FileId) (q : Key) → IsBeside w (with_news t w f q)
beside_news t w f q = beside_either w t (with_touched w f q) w (record { left = refl; sent = refl; tail = refl }) (beside_itself w)

beside_link : (t : Bool) (w : Work) (f : FileId) (peer : ℕ) → IsBeside w (with_link t w f peer)
beside_link t w f peer = beside_either w t (with_linked w f peer) w (record { left = refl; sent = refl; tail = refl }) (beside_itself w)

beside_doubt : (t : Bool) (w : Work) (d f : FileId) → IsBeside w (with_doubt t w d f)
beside_doubt t w d f = beside_either w t (with_unsure w d f) w (record { left = refl; sent = refl; tail = refl }) (beside_itself w)

beside_begun : (t : Bool) (w : Work) (k : IntentKey) → IsBeside w (with_begun_if t w k)
beside_begun t w k = beside_either w t (with_begun w k) w (record { left = refl; sent = refl; tail = refl }) (beside_itself w)

-- server s of n: its own flags may be said, and it is named, as others are
pub record IsMember (p : Saying) (n s : ℕ) : Type 0 where
  pub flags : (flag : Flag) → flag.server ≡ s → p.IsFlag flag
  pub named : p.IsServer s
  pub others : (t : ℕ) → p.IsServer t → (t ≡ s → ⊥) → IsOther n s t

module _ (p : Saying) (c : IsClosed p) (n s : ℕ) where
  abbrev pub SoFar : Done → Type 0
  SoFar d = IsSoundSoFar p c n s d

  -- with another store, and a work that is beside
  pub so_with : (d : Done) (a : Store) (w : Work) → SoFar d → Sound p n s a → IsBeside d.work w → SoFar (idle a w)
  so_with d a w k sound same = record {
    store = sound;
    left = subst (AreLeft p c) (sym same.left) k.left;
    sent = subst (AreSaidOf p) (sym same.sent) k.sent;
    tail = subst (AreSaidOf p) (sym same.tail) k.tail;
  }

  -- with another store and the same work
  pub so_store : (d : Done) (a : Store) → SoFar d → Sound p n s a → SoFar (idle a d.work)
  so_store d a k sound = so_with d a d.work k sound (beside_itself d.work)

  -- a message is sent
  pub so_sent : (d : Done) (to : ℕ) (m : Message) → SoFar d → IsSaidOfMessage p m → SoFar (idle d.store (post d.store to m d.work))
  so_sent d to m k said =
      let P : Sent → Type 0 = λ x. IsSaidOfMessage p x.packet.message in
      let one = sent_to d.store to m in
      record {
        store = k.store;
        left = k.left;
        sent = All-append P d.work.sent (one ∷ []) k.sent (All-cons P one [] said (All-nil P));
        tail = k.tail;
      }

  pub so_reply : (d : Done) (m : Message) → SoFar d → IsSaidOfMessage p m → SoFar (idle d.store (reply d.store m d.work))
  so_reply d m k said = so_sent d d.work.from m k said

  -- or goes last
  pub so_tail : (d : Done) (to : ℕ) (m : Message) → SoFar d → IsSaidOfMessage p m → SoFar (idle d.store (with_tail d.work (sent_to d.store to m)))
  so_tail d to m k said =
      let P : Sent → Type 0 = λ x. IsSaidOfMessage p x.packet.message in
      let one = sent_to d.store to m in
      record {
        store = k.store;
        left = k.left;
        sent = k.sent;
        tail = All-append P d.work.tail (one ∷ []) k.tail (All-cons P one [] said (All-nil P));
      }

  pub so_link : (d : Done) (f : FileId) (peer birth : ℕ) → IsOther n s peer → SoFar d → SoFar (link_peer d.store f peer birth d.work)
  so_link d f peer birth other k =
      let after = link_peer d.store f peer birth d.work in
      so_with d after.store after.work k (sound_link p n s d.store k.store f peer birth other) (beside_link (is_new_link d.store f peer birth) d.work f peer)

  -- ---- a place

  new_own : (o : Option Attributes) (place : Place) → is_place_new o place ≡ true → (own : Attributes) × (o ≡ Some own)
  new_own None place h = absurd (let z : false ≡ true = h in cc)
  new_own (Some own) place h = (own, refl)

  place_left : (d : Done) (f : FileId) (place : Place) → SoFar d
      → AreLeft p c (with_left_if (is_newer_place d.store f place) d.work f (own_or_blank d.store.names f).place).left
  place_left d f place k =
      let old = (own_or_blank d.store.names f).place in
      decided (λ (w : Work). AreLeft p c w.left) (is_newer_place d.store f place) (note_left d.work f old) d.work
      (λ new.
      let own = new_own (own_at d.store.names f) place new in
      let was = k.store.named.said.own f own.0 own.1 in
      let here = subst (λ (o : Attributes). p.IsPlace f o.place) (sym (ap (or_blank f) own.1)) was.place in
      left_said p c d.work f old was.thing here k.left)
      (λ none. k.left)

  left_same : (t : Bool) (w : Work) (f : FileId) (old : Place) → SendsSame w (with_left_if t w f old)
  left_same t w f old = sends_either w t (note_left w f old) w (left_sends w f old) (sends_same w)

  pub so_place : (d : Done) (f : FileId) (place : Place) → p.IsPlace f place → SoFar d → SoFar (take_place_noted d.store f place d.work)
  so_place d f place here k =
      let t = is_newer_place d.store f place in
      let w = with_left_if t d.work f (own_or_blank d.store.names f).place in
      let same = beside_news t w f key.Place in
      let was = left_same t d.work f (own_or_blank d.store.names f).place in
      record {
        store = sound_place p n s d.store k.store f place here;
        left = subst (AreLeft p c) (sym same.left) (place_left d f place k);
        sent = subst (AreSaidOf p) (sym (same.sent ∙ was.sent)) k.sent;
        tail = subst (AreSaidOf p) (sym (same.tail ∙ was.tail)) k.tail;
      }

  -- one is made
  pub so_made : (d : Done) (f : FileId) (place : Place) → p.IsPlace f place → SoFar d → SoFar (make_place f place d)
  so_made d f place here k =
      let w = with_made d.work (update.Place f place) in
      so_place (idle d.store w) f place here (so_with d d.store w k k.store (record { left = refl; sent = refl; tail = refl }))

  -- ---- flags

  pub so_flag : (d : Done) (f : FileId) (flag : Flag) → p.IsFlag flag → SoFar d → SoFar (take_flag_noted d.store f flag d.work)
  so_flag d f flag here k =
      let after = take_flag_noted d.store f flag d.work in
      so_with d after.store after.work k (sound_flag p n s d.store k.store f flag here) (beside_news (is_newer_flag d.store f flag) d.work f (key.Flag flag.server))

  -- the server makes its flag
  pub so_flagged : (d : Done) (f : FileId) (raised : Bool) → IsMember p n s → SoFar d → SoFar (make_flag d.store f (own_next d.store f raised) d.work)
  so_flagged d f raised mine k =
      let flag = own_next d.store f raised in
      let made = with_made d.work (update.Flag f flag) in
      so_flag (idle d.store made) f flag (mine.flags flag k.store.whole.server)
      (so_with d d.store made k k.store (record { left = refl; sent = refl; tail = refl }))

  pub so_raised : (d : Done) (f : FileId) → IsMember p n s → SoFar d → SoFar (raise_flag d.store f d.work)
  so_raised d f mine k = so_flagged d f true mine k

  -- ---- the house rules run

  pub so_rules : (d : Done) → SoFar d → SoFar (ruled d)
  so_rules d k =
      let behind = sound_rules p n s d.store k.store c d.work k.left in
      let same = (house_frame (removed_of d.store) d.work d.work.now (state_of d.store.names d.work) (record { removed = refl; work = sends_same d.work })).work in
      record {
        store = behind.0;
        left = behind.1;
        sent = subst (AreSaidOf p) (sym same.sent) k.sent;
        tail = subst (AreSaidOf p) (sym same.tail) k.tail;
      }

  -- ---- an entry, a version

  pub so_entry : (d : Done) (dir : FileId) (e : Entry) → IsSaidTold p dir e → SoFar d → SoFar (take_entry_noted d.store dir e d.work)
  so_entry d dir e here k =
      let after = take_entry_noted d.store dir e d.work in
      so_with d after.store after.work k (sound_entry p n s d.store k.store dir e here) (beside_news (is_any_news (entry_news d.store dir e)) d.work dir (key.Entry e.child))

  pub so_entry_cell : (d : Done) (dir : FileId) (e : Entry) (sure : Bool) → IsSaidTold p dir e → SoFar d → SoFar (take_entry_cell d.store dir e sure d.work)
  so_entry_cell d dir e sure here k =
      let noted = take_entry_noted d.store dir e d.work in
      let after = take_entry_cell d.store dir e sure d.work in
      so_with noted after.store after.work (so_entry d dir e here k) (so_entry d dir e here k).store
      (beside_doubt (is_place_news (entry_news d.store dir e) && not sure) noted.work dir e.child)

  pub so_version : (d : Done) (f : FileId) (v : VersionValue) → SoFar d → SoFar (take_version_noted d.store f v d.work)
  so_version d f v k =
      let after = take_version_noted d.store f v d.work in
      so_with d after.store after.work k (sound_version p n s d.store k.store f v) (beside_news (is_new_version d.store f v) d.work f (key.Version v.head.stamp))

  -- ---- an intention begins that is no Fill

  sound_begins : (a : Store) (i : Intent) (w : Work) → ((q : FileId) → is_same_key (intent_key.Fill q) (key_of i) ≡ false) → IsIntended p i → Sound p n s a
      → Sound p n s (begin_intent a i w).store
  sound_begins a i w other here k =
      sound_alike p n s a k (with_intents a (begun a.intents i)) (record { servers = refl; tags = refl; names = refl; replicas = refl })
      (other_births a i w other k.births) (own-begun a.intents i k.keys) (begun_said p a.intents i k.named.intents here)

  pub so_begins : (d : Done) (i : Intent) → ((q : FileId) → is_same_key (intent_key.Fill q) (key_of i) ≡ false) → IsIntended p i → SoFar d → SoFar (begin_intent d.store i d.work)
  so_begins d i other here k =
      let after = begin_intent d.store i d.work in
      so_with d after.store after.work k (sound_begins d.store i d.work other here k.store)
      (beside_begun (not (stands d.store.intents (key_of i))) d.work (key_of i))
