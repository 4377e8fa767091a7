-- Of what a handler does to a work this sends nothing more, and makes nothing: what is touched,
-- left, linked, doubted, begun.
use Rattle.std.proofs.Common.{ℕ, ◌≡◌, ◌∙◌, ◌&&◌, Bool, not, refl}
use Rattle.pg_base.specs.declared.id.FileId.{FileId}
use Rattle.pg_base.specs.Version.{VersionValue}
use Rattle.pg_edges.specs.declared.key.Key.{Key}
use Rattle.pg_edges.specs.declared.key.Key.TheVariants as key
use Rattle.pg_entries.specs.declared.entry.Entry.{Entry}
use Rattle.pg_server.specs.pg_pieces.pg_house.Work.{is_root, note_left}
use Rattle.pg_server.specs.pg_pieces.pg_intent.declared.key.IntentKey.{IntentKey}
use Rattle.pg_server.specs.pg_pieces.pg_msg.declared.work.Work.{Work}
use Rattle.pg_server.specs.pg_pieces.pg_msg.Work.{with_begun, with_left, with_linked, with_touched, with_unsure}
use Rattle.pg_server.specs.pg_pieces.pg_names.Names.{own_or_blank}
use Rattle.pg_register.specs.declared.flag.Flag.{Flag}
use Rattle.pg_register.specs.declared.place.Place.{Place}
use Rattle.pg_server.specs.pg_pieces.pg_store.declared.store.Store.{Store}
use Rattle.pg_server.specs.pg_pieces.pg_store.Links.{is_new_link}
use Rattle.pg_server.specs.pg_pieces.pg_store.Store.{entry_news, is_new_version, is_newer_flag, is_newer_place}
use Rattle.pg_server.specs.pg_pieces.Accepting.{link_peer, with_link}
use Rattle.pg_server.specs.pg_pieces.Intending.{with_begun_if}
use Rattle.pg_server.specs.pg_pieces.Taking.{is_any_news, is_place_news, take_entry_cell, take_entry_noted, take_flag_noted, take_place_noted, take_version_noted, with_doubt, with_left_if, with_news}
use Rattle.theory_flood_pieces.proofs.Choices.{chosen}

-- the same is sent, be it last, and to the same server it answers
pub record SameMail (v w : Work) : Type 0 where
  pub sent : w.sent ≡ v.sent
  pub tail : w.tail ≡ v.tail
  pub from : w.from ≡ v.from

-- and the same was made
pub record IsStill (v w : Work) : Type 0 where
  pub mail : SameMail v w
  pub made : w.made ≡ v.made

pub same_mail : (w : Work) → SameMail w w
same_mail w = record { sent = refl; tail = refl; from = refl }

pub still : (w : Work) → IsStill w w
still w = record { mail = same_mail w; made = refl }

pub then_still : (u v w : Work) → IsStill u v → IsStill v w → IsStill u w
then_still u v w one two = record {
  mail = record {
    sent = two.mail.sent ∙ one.mail.sent;
    tail = two.mail.tail ∙ one.mail.tail;
    from = two.mail.from ∙ one.mail.from;
  };
  made = two.made ∙ one.made;
}

-- ---- one of them

pub begun_still : (t : Bool) (w : Work) (k : IntentKey) → IsStill w (with_begun_if t w k)
begun_still t w k =
    chosen (IsStill w) t (with_begun w k) w (record { mail = record { sent = refl; tail = refl; from = refl }; made = refl }) (still w)

pub news_still : (t : Bool) (w : Work) (f : FileId) (k : Key) → IsStill w (with_news t w f k)
news_still t w f k =
    chosen (IsStill w) t (with_touched w f k) w (record { mail = record { sent = refl; tail = refl; from = refl }; made = refl }) (still w)

note_still : (w : Work) (f : FileId) (old : Place) → IsStill w (note_left w f old)
note_still w f old =
    chosen (IsStill w) (old.live && not (is_root f)) (with_left w old.parent f) w
    (record { mail = record { sent = refl; tail = refl; from = refl }; made = refl }) (still w)

left_still : (t : Bool) (w : Work) (f : FileId) (old : Place) → IsStill w (with_left_if t w f old)
left_still t w f old = chosen (IsStill w) t (note_left w f old) w (note_still w f old) (still w)

link_still : (t : Bool) (w : Work) (f : FileId) (peer : ℕ) → IsStill w (with_link t w f peer)
link_still t w f peer =
    chosen (IsStill w) t (with_linked w f peer) w (record { mail = record { sent = refl; tail = refl; from = refl }; made = refl }) (still w)

doubt_still : (t : Bool) (w : Work) (dir child : FileId) → IsStill w (with_doubt t w dir child)
doubt_still t w dir child =
    chosen (IsStill w) t (with_unsure w dir child) w (record { mail = record { sent = refl; tail = refl; from = refl }; made = refl }) (still w)

-- ---- what is taken, and an edge

pub place_still : (a : Store) (f : FileId) (place : Place) (w : Work) → IsStill w (take_place_noted a f place w).work
place_still a f place w =
    let news = is_newer_place a f place in
    let left = with_left_if news w f (own_or_blank a.names f).place in
    then_still w left (with_news news left f key.Place) (left_still news w f (own_or_blank a.names f).place) (news_still news left f key.Place)

pub flag_still : (a : Store) (f : FileId) (flag : Flag) (w : Work) → IsStill w (take_flag_noted a f flag w).work
flag_still a f flag w = news_still (is_newer_flag a f flag) w f (key.Flag flag.server)

pub entry_still : (a : Store) (dir : FileId) (e : Entry) (w : Work) → IsStill w (take_entry_noted a dir e w).work
entry_still a dir e w = news_still (is_any_news (entry_news a dir e)) w dir (key.Entry e.child)

pub doubted_still : (a : Store) (dir : FileId) (e : Entry) (sure : Bool) (w : Work)
    → IsStill (take_entry_noted a dir e w).work (take_entry_cell a dir e sure w).work
doubted_still a dir e sure w =
    doubt_still (is_place_news (entry_news a dir e) && not sure) (take_entry_noted a dir e w).work dir e.child

pub entry_cell_still : (a : Store) (dir : FileId) (e : Entry) (sure : Bool) (w : Work) → IsStill w (take_entry_cell a dir e sure w).work
entry_cell_still a dir e sure w =
    then_still w (take_entry_noted a dir e w).work (take_entry_cell a dir e sure w).work (entry_still a dir e w) (doubted_still a dir e sure w)

pub version_still : (a : Store) (f : FileId) (v : VersionValue) (w : Work) → IsStill w (take_version_noted a f v w).work
version_still a f v w = news_still (is_new_version a f v) w f (key.Version v.head.stamp)

pub linked_still : (a : Store) (f : FileId) (peer birth : ℕ) (w : Work) → IsStill w (link_peer a f peer birth w).work
linked_still a f peer birth w = link_still (is_new_link a f peer birth) w f peer
