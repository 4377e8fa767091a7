-- What stands at a key, and what is noted to be confirmed: the pieces of handlers begin nothing,
-- and note nothing.
use Rattle.std.proofs.Common.{ℕ, ◌≡◌, ◌&&◌, Bool, true, false, cond, not, List, [], ◌∷◌, Option, None, refl, ap, ◌∙◌}
use Rattle.std.specs.Option.{option_map}
use Rattle.law_frame.specs.pg_run.pg_base.declared.id.FileId.{FileId}
use Rattle.law_frame.specs.pg_run.pg_base.declared.policy.Policy.{Policy}
use Rattle.law_frame.specs.pg_run.pg_base.Version.{VersionValue}
use Rattle.law_frame.specs.pg_run.pg_edges.declared.key.Key.{Key}
use Rattle.law_frame.specs.pg_run.pg_edges.declared.key.Key.TheVariants as key
use Rattle.law_frame.specs.pg_run.pg_entries.declared.entry.Entry.{Entry}
use Rattle.law_frame.specs.pg_run.pg_house.Work.{is_root, note_left}
use Rattle.law_frame.specs.pg_run.pg_intent.declared.intent.Intent.{Intent}
use Rattle.law_frame.specs.pg_run.pg_intent.declared.key.IntentKey.{IntentKey}
use Rattle.law_frame.specs.pg_run.pg_intent.declared.key.IntentKey.TheVariants as intent_key
use Rattle.law_frame.specs.pg_run.pg_intent.Intent.{aimed_at, key_of}
use Rattle.law_frame.specs.pg_run.pg_intent.Intents.{aimed, ended, intent_at, stands}
use Rattle.law_frame.specs.pg_run.pg_intent.Key.{is_same_key}
use Rattle.law_frame.specs.pg_run.pg_msg.declared.message.Ends.{Ends}
use Rattle.law_frame.specs.pg_run.pg_msg.declared.update.Update.TheVariants as update
use Rattle.law_frame.specs.pg_run.pg_msg.declared.work.Work.{Work}
use Rattle.law_frame.specs.pg_run.pg_msg.Work.{with_begun, with_left, with_linked, with_made, with_touched}
use Rattle.law_frame.specs.pg_run.pg_names.declared.attributes.Attributes.{Attributes}
use Rattle.law_frame.specs.pg_run.pg_names.Names.{own_or_blank}
use Rattle.law_frame.specs.pg_run.pg_pieces.declared.accepting.EdgeUse.TheVariants as manner
use Rattle.law_frame.specs.pg_run.pg_pieces.Accepting.{accept, link_peer, with_gone, with_link}
use Rattle.law_frame.specs.pg_run.pg_pieces.Done.{Done, idle}
use Rattle.law_frame.specs.pg_run.pg_pieces.Intending.{begin_intent, with_begun_if}
use Rattle.law_frame.specs.pg_run.pg_pieces.Making.{make_flag}
use Rattle.law_frame.specs.pg_run.pg_pieces.Posting.{reply}
use Rattle.law_frame.specs.pg_run.pg_pieces.Taking.{is_any_news, take_entry_noted, take_flag_noted, take_place_noted, with_left_if, with_news}
use Rattle.law_frame.specs.pg_run.pg_msg.declared.message.Message.TheVariants as message
use Rattle.law_frame.specs.pg_run.pg_register.declared.flag.Flag.{Flag}
use Rattle.law_frame.specs.pg_run.pg_register.declared.place.Place.{Place}
use Rattle.law_frame.specs.pg_run.pg_store.declared.store.Store.{Store}
use Rattle.law_frame.specs.pg_run.pg_store.Beginning.{begin, patches_of, put_new, take_patch, take_patches, with_intents}
use Rattle.law_frame.specs.pg_run.pg_store.Births.{has_birth, is_pending}
use Rattle.law_frame.specs.pg_run.pg_store.Links.{is_linked, is_new_link, knows_later, link, put_link, unlink}
use Rattle.law_frame.specs.pg_run.pg_store.Store.{entry_news, is_new_version, is_newer_entry, is_newer_flag, is_newer_place, put_entry, put_flag, put_place, put_version, take_entry, take_flag, take_place, take_version}
use Rattle.law_frame.proofs.pg_run.pg_intent.Found.{aimed_found, ended_found}
use Rattle.law_frame.proofs.pg_run.pg_intentions.Standing.{begun_other}
use Rattle.law_frame.proofs.pg_run.theory_flood_pieces.Choices.{chosen}
use Rattle.law_order.proofs.Sounding.{patch_intents}

-- ---- what is noted

abbrev pub Doubts : Work → Work → Type 0
Doubts w v = v.unsure ≡ w.unsure

pub news_doubts : (t : Bool) (w : Work) (f : FileId) (q : Key) → Doubts w (with_news t w f q)
news_doubts t w f q = chosen (Doubts w) t (with_touched w f q) w refl refl

left_doubts : (w : Work) (f : FileId) (p : Place) → Doubts w (note_left w f p)
left_doubts w f p = chosen (Doubts w) (p.live && not (is_root f)) (with_left w p.parent f) w refl refl

left_if_doubts : (t : Bool) (w : Work) (f : FileId) (p : Place) → Doubts w (with_left_if t w f p)
left_if_doubts t w f p = chosen (Doubts w) t (note_left w f p) w (left_doubts w f p) refl

link_doubts : (t : Bool) (w : Work) (f : FileId) (peer : ℕ) → Doubts w (with_link t w f peer)
link_doubts t w f peer = chosen (Doubts w) t (with_linked w f peer) w refl refl

begun_doubts : (t : Bool) (w : Work) (k : IntentKey) → Doubts w (with_begun_if t w k)
begun_doubts t w k = chosen (Doubts w) t (with_begun w k) w refl refl

-- ---- what stands at a key that is neither a Bye's nor a Leave's

pub record IsPlain (k : IntentKey) : Type 0 where
  pub no_bye : (f : FileId) (birth peer : ℕ) → is_same_key k (intent_key.Bye f birth peer) ≡ false
  pub no_leave : (f : FileId) → is_same_key k (intent_key.Leave f) ≡ false

module _ (k : IntentKey) (plain : IsPlain k) where
  abbrev pub None_at : Store → Type 0
  None_at a = intent_at a.intents k ≡ None

  -- none stands there, and none is noted to be confirmed
  abbrev pub Rests : Done → Type 0
  Rests d = None_at d.store × (d.work.unsure ≡ [])

  none_either : (t : Bool) → ◌≡◌ {A = Option Intent} (cond t None None) None
  none_either true = refl
  none_either false = refl

  -- ---- stores

  pub link_none : (a : Store) (f : FileId) (p n : ℕ) → None_at a → None_at (link a f p n)
  link_none a f p n h = chosen None_at (is_new_link a f p n) (put_link a f p n) a h h

  pub unlink_none : (a : Store) (f : FileId) (p n : ℕ) → None_at a → None_at (unlink a f p n)
  unlink_none a f p n h = chosen None_at (is_linked a f p n) _ a h h

  pub place_none : (a : Store) (f : FileId) (p : Place) → None_at a → None_at (take_place a f p)
  place_none a f p h = chosen None_at (is_newer_place a f p) (put_place a f p) a h h

  pub flag_none : (a : Store) (f : FileId) (g : Flag) → None_at a → None_at (take_flag a f g)
  flag_none a f g h = chosen None_at (is_newer_flag a f g) (put_flag a f g) a h h

  pub entry_none : (a : Store) (d : FileId) (e : Entry) → None_at a → None_at (take_entry a d e)
  entry_none a d e h = chosen None_at (is_newer_entry a d e) (put_entry a d e) a h h

  pub version_none : (a : Store) (f : FileId) (v : VersionValue) → None_at a → None_at (take_version a f v)
  version_none a f v h = chosen None_at (is_new_version a f v) (put_version a f v) a h h

  pub aimed_none : (a : Store) (q : IntentKey) (to : ℕ) → None_at a → None_at (with_intents a (aimed a.intents q to))
  aimed_none a q to h =
      aimed_found a.intents q to k
      ∙ ap (λ (o : Option Intent). cond (is_same_key k q) (option_map (aimed_at to) o) o) h ∙ none_either (is_same_key k q)

  pub ended_none : (a : Store) (q : IntentKey) → None_at a → None_at (with_intents a (ended a.intents q))
  ended_none a q h =
      ended_found a.intents q k ∙ ap (λ (o : Option Intent). cond (is_same_key k q) None o) h ∙ none_either (is_same_key k q)

  patches_none : (dir : FileId) (ks : List IntentKey) (a : Store) → None_at a → None_at (take_patches a dir ks)
  patches_none dir [] a h = h
  patches_none dir (q ∷ ks) a h =
      patches_none dir ks (take_patch a dir q)
      (ap (λ (is : List Intent). intent_at is k) (patch_intents a dir q) ∙ ended_none a q h)

  pub begin_none : (a : Store) (f : FileId) (n : ℕ) (policy : Policy) (own : Attributes) (full : Bool) → None_at a
      → None_at (begin a f n policy own full)
  begin_none a f n policy own full h = patches_none f (patches_of f a.intents) (put_new a f n policy own full) h

  -- ---- with what is noted

  pub linked_rests : (a : Store) (f : FileId) (p n : ℕ) (w : Work) → Rests (idle a w) → Rests (link_peer a f p n w)
  linked_rests a f p n w h = (link_none a f p n h.0, link_doubts (is_new_link a f p n) w f p ∙ h.1)

  pub place_rests : (a : Store) (f : FileId) (p : Place) (w : Work) → Rests (idle a w) → Rests (take_place_noted a f p w)
  place_rests a f p w h =
      let news = is_newer_place a f p in
      let old = (own_or_blank a.names f).place in
      (place_none a f p h.0, news_doubts news (with_left_if news w f old) f key.Place ∙ left_if_doubts news w f old ∙ h.1)

  pub flag_rests : (a : Store) (f : FileId) (g : Flag) (w : Work) → Rests (idle a w) → Rests (take_flag_noted a f g w)
  flag_rests a f g w h = (flag_none a f g h.0, news_doubts (is_newer_flag a f g) w f (key.Flag g.server) ∙ h.1)

  pub entry_rests : (a : Store) (d : FileId) (e : Entry) (w : Work) → Rests (idle a w) → Rests (take_entry_noted a d e w)
  entry_rests a d e w h =
      (entry_none a d e h.0, news_doubts (is_any_news (entry_news a d e)) w d (key.Entry e.child) ∙ h.1)

  pub version_rests : (a : Store) (f : FileId) (v : VersionValue) (w : Work) → Rests (idle a w) → Rests (idle (take_version a f v) (with_news (is_new_version a f v) w f (key.Version v.head.stamp)))
  version_rests a f v w h =
      (version_none a f v h.0, news_doubts (is_new_version a f v) w f (key.Version v.head.stamp) ∙ h.1)

  pub raised_rests : (a : Store) (f : FileId) (g : Flag) (w : Work) → Rests (idle a w) → Rests (make_flag a f g w)
  raised_rests a f g w h = flag_rests a f g (with_made w (update.Flag f g)) h

  pub begun_rests : (a : Store) (i : Intent) (w : Work) → is_same_key k (key_of i) ≡ false → Rests (idle a w) → Rests (begin_intent a i w)
  begun_rests a i w other h =
      (begun_other a i w k other ∙ h.0, begun_doubts (not (stands a.intents (key_of i))) w (key_of i) ∙ h.1)

  -- ---- a message is accepted

  gone_rests : (a : Store) (x : Ends) (w : Work) (t : Bool) → Rests (idle a w)
      → Rests (idle a (cond t w (reply a (message.Gone x.file x.receiver) w)))
  gone_rests a x w true h = h
  gone_rests a x w false h = h

  pub accept_makes : (a : Store) (x : Ends) (w : Work) → Rests (idle a w) → Rests (accept a x manner.Makes w)
  accept_makes a x w h =
      let late = knows_later a x.file w.from x.sender in
      let met = link_peer a x.file w.from x.sender w in
      chosen Rests (has_birth a x.file x.receiver) (cond late (idle a w) met) (idle a (with_gone a x manner.Makes w))
      (chosen Rests late (idle a w) met h (linked_rests a x.file w.from x.sender w h))
      (gone_rests a x w (is_pending a x.file x.receiver) h)
