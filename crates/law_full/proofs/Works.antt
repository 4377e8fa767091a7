-- What comes of an event, piece by piece: what each piece keeps of it, what is taken keeps.
use Rattle.std.proofs.Common.{ℕ, ◌≡◌, ◌&&◌, not, Bool, true, false}
use Rattle.law_frame.specs.pg_run.pg_base.declared.id.FileId.{FileId}
use Rattle.law_frame.specs.pg_run.pg_base.Version.{VersionValue}
use Rattle.law_frame.specs.pg_run.pg_edges.declared.key.Key.{Key}
use Rattle.law_frame.specs.pg_run.pg_edges.declared.key.Key.TheVariants as key
use Rattle.law_frame.specs.pg_run.pg_entries.declared.entry.Entry.{Entry}
use Rattle.law_frame.specs.pg_run.pg_house.Work.{is_root, note_left}
use Rattle.law_frame.specs.pg_run.pg_msg.declared.message.Message.{Message}
use Rattle.law_frame.specs.pg_run.pg_msg.declared.message.Message.TheVariants as message
use Rattle.law_frame.specs.pg_run.pg_msg.declared.message.Sent.{Sent}
use Rattle.law_frame.specs.pg_run.pg_msg.declared.update.Update.TheVariants as update
use Rattle.law_frame.specs.pg_run.pg_msg.declared.work.Work.{Work}
use Rattle.law_frame.specs.pg_run.pg_intent.declared.key.IntentKey.{IntentKey}
use Rattle.law_frame.specs.pg_run.pg_pieces.Intending.{with_begun_if}
use Rattle.law_frame.specs.pg_run.pg_msg.Work.{with_begun, with_left, with_linked, with_made, with_sent, with_tail, with_touched, with_unsure}
use Rattle.law_frame.specs.pg_run.pg_register.declared.flag.Flag.{Flag}
use Rattle.law_frame.specs.pg_run.pg_register.declared.place.Place.{Place}
use Rattle.law_frame.specs.pg_run.pg_names.Names.{own_or_blank}
use Rattle.law_frame.specs.pg_run.pg_store.declared.store.Store.{Store}
use Rattle.law_frame.specs.pg_run.pg_store.Store.{entry_news, is_new_version, is_newer_flag, is_newer_place}
use Rattle.law_frame.specs.pg_run.pg_pieces.Accepting.{with_link}
use Rattle.law_frame.specs.pg_run.pg_pieces.Making.{make_flag, own_next}
use Rattle.law_frame.specs.pg_run.pg_cells.Settling.{rules, settle}
use Rattle.law_frame.specs.pg_run.pg_pieces.Taking.{is_any_news, is_place_news, take_entry_cell, take_entry_noted, take_flag_noted, take_place_noted, take_version_noted, with_doubt, with_left_if, with_news}
use Rattle.law_frame.proofs.pg_run.pg_cells.Settled.{settle_keeps}
use Rattle.law_frame.proofs.pg_run.theory_flood_pieces.Choices.{chosen}

-- a message that tells of no cell, grants nothing, does not say that a replica is full, and asks
-- nobody to confirm
abbrev pub is_plain : Message → Bool
is_plain (message.Cell ends tag c) = false
is_plain (message.Grant ends granted) = false
is_plain (message.Full ends) = false
is_plain (message.Confirm dir entry) = false
is_plain _ = true

-- a property of what comes of an event that these keep: what is noted, intentions that begin, flags
-- that are made, and plain messages, also such as go last
pub record IsClosed (Q : Work → Type 0) : Type 0 where
  pub touched : (w : Work) (f : FileId) (q : Key) → Q w → Q (with_touched w f q)
  pub left : (w : Work) (d f : FileId) → Q w → Q (with_left w d f)
  pub unsure : (w : Work) (d f : FileId) → Q w → Q (with_unsure w d f)
  pub linked : (w : Work) (f : FileId) (peer : ℕ) → Q w → Q (with_linked w f peer)
  pub begun : (w : Work) (i : IntentKey) → Q w → Q (with_begun w i)
  pub flagged : (w : Work) (f : FileId) (g : Flag) → Q w → Q (with_made w (update.Flag f g))
  pub sent : (w : Work) (x : Sent) → is_plain x.packet.message ≡ true → Q w → Q (with_sent w x)
  pub last : (w : Work) (x : Sent) → is_plain x.packet.message ≡ true → Q w → Q (with_tail w x)

module _ (Q : Work → Type 0) (k : IsClosed Q) where
  news_sends : (news : Bool) (w : Work) (f : FileId) (q : Key) → Q w → Q (with_news news w f q)
  news_sends news w f q h = chosen Q news (with_touched w f q) w (k.touched w f q h) h

  left_sends : (w : Work) (f : FileId) (old : Place) → Q w → Q (note_left w f old)
  left_sends w f old h = chosen Q (old.live && not (is_root f)) (with_left w old.parent f) w (k.left w old.parent f h) h

  left_if_sends : (news : Bool) (w : Work) (f : FileId) (old : Place) → Q w → Q (with_left_if news w f old)
  left_if_sends news w f old h = chosen Q news (note_left w f old) w (left_sends w f old h) h

  doubt_sends : (doubt : Bool) (w : Work) (d g : FileId) → Q w → Q (with_doubt doubt w d g)
  doubt_sends doubt w d g h = chosen Q doubt (with_unsure w d g) w (k.unsure w d g h) h

  pub link_sends : (news : Bool) (w : Work) (f : FileId) (peer : ℕ) → Q w → Q (with_link news w f peer)
  link_sends news w f peer h = chosen Q news (with_linked w f peer) w (k.linked w f peer h) h

  pub begun_sends : (news : Bool) (w : Work) (i : IntentKey) → Q w → Q (with_begun_if news w i)
  begun_sends news w i h = chosen Q news (with_begun w i) w (k.begun w i h) h

  pub place_sends : (a : Store) (f : FileId) (p : Place) (w : Work) → Q w → Q (take_place_noted a f p w).work
  place_sends a f p w h =
      let news = is_newer_place a f p in
      let old = (own_or_blank a.names f).place in
      news_sends news (with_left_if news w f old) f key.Place (left_if_sends news w f old h)

  pub flag_sends : (a : Store) (f : FileId) (g : Flag) (w : Work) → Q w → Q (take_flag_noted a f g w).work
  flag_sends a f g w h = news_sends (is_newer_flag a f g) w f (key.Flag g.server) h

  pub made_sends : (a : Store) (f : FileId) (g : Flag) (w : Work) → Q w → Q (make_flag a f g w).work
  made_sends a f g w h = flag_sends a f g (with_made w (update.Flag f g)) (k.flagged w f g h)

  -- what the house rules keep of it too, settling keeps
  pub settled_sends : ((a : Store) (w : Work) → Q w → Q (rules a w).work) → (a : Store) (w : Work) → Q w → Q (settle a w).work
  settled_sends ruled a w h =
      settle_keeps (λ (b : Store) (v : Work). Q v) ruled (λ b f v less. made_sends b f (own_next b f true) v) a w h

  pub entry_sends : (a : Store) (d : FileId) (e : Entry) (w : Work) → Q w → Q (take_entry_noted a d e w).work
  entry_sends a d e w h = news_sends (is_any_news (entry_news a d e)) w d (key.Entry e.child) h

  pub cell_sends : (a : Store) (d : FileId) (e : Entry) (sure : Bool) (w : Work) → Q w → Q (take_entry_cell a d e sure w).work
  cell_sends a d e sure w h =
      doubt_sends (is_place_news (entry_news a d e) && not sure) (take_entry_noted a d e w).work d e.child (entry_sends a d e w h)

  pub version_sends : (a : Store) (f : FileId) (v : VersionValue) (w : Work) → Q w → Q (take_version_noted a f v w).work
  version_sends a f v w h = news_sends (is_new_version a f v) w f (key.Version v.head.stamp) h
