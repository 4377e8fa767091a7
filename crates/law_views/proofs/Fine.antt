-- In the midst of an event: what is seen of the server, and that what it has sent is from it and in
-- its view.
use Rattle.std.proofs.Common.{[], ℕ, ◌≡◌, Bool, false, not, List, ◌∷◌, length, refl, sym, ap, subst, All}
use Rattle.std.proofs.lemmas.List.Elements.{All-append, All-cons, All-nil}
use Rattle.law_frame.specs.pg_run.pg_base.declared.id.FileId.{FileId}
use Rattle.law_frame.specs.pg_run.pg_base.Version.{VersionValue}
use Rattle.law_frame.specs.pg_run.pg_entries.declared.entry.Entry.{Entry}
use Rattle.law_frame.specs.pg_run.pg_intent.declared.intent.Intent.{Intent}
use Rattle.law_frame.specs.pg_run.pg_intent.Intent.{key_of}
use Rattle.law_frame.specs.pg_run.pg_intent.Intents.{stands}
use Rattle.law_frame.specs.pg_run.pg_msg.declared.message.Message.{Message}
use Rattle.law_frame.specs.pg_run.pg_msg.declared.message.Message.TheVariants as message
use Rattle.law_frame.specs.pg_run.pg_msg.declared.message.Sent.{Sent}
use Rattle.law_frame.specs.pg_run.pg_msg.declared.update.Update.TheVariants as update
use Rattle.law_frame.specs.pg_run.pg_msg.declared.work.Work.{Work}
use Rattle.law_frame.specs.pg_run.pg_msg.Work.{with_made}
use Rattle.law_frame.specs.pg_run.pg_register.declared.flag.Flag.{Flag}
use Rattle.law_frame.specs.pg_run.pg_register.declared.place.Place.{Place}
use Rattle.law_frame.specs.pg_run.pg_register.Flag.{is_removed}
use Rattle.law_frame.specs.pg_run.pg_store.declared.store.Store.{Store}
use Rattle.law_frame.specs.pg_run.pg_store.Beginning.{with_intents}
use Rattle.law_frame.specs.pg_run.pg_store.Links.{link}
use Rattle.law_frame.specs.pg_run.pg_store.Store.{take_entry, take_flag, take_place, take_version}
use Rattle.law_frame.specs.pg_run.pg_pieces.Accepting.{link_peer}
use Rattle.law_frame.specs.pg_run.pg_pieces.Done.{Done, idle}
use Rattle.law_frame.specs.pg_run.pg_pieces.Intending.{begin_intent}
use Rattle.law_frame.specs.pg_run.pg_pieces.Making.{make_flag}
use Rattle.law_frame.specs.pg_run.pg_calls.Making.{make_place}
use Rattle.law_frame.specs.pg_run.pg_pieces.Posting.{post, sent_to}
use Rattle.law_frame.specs.pg_run.pg_pieces.Taking.{take_entry_cell, take_entry_noted, take_flag_noted, take_place_noted, take_version_noted}
use Rattle.law_frame.proofs.pg_run.Still.{begun_still, entry_cell_still, entry_still, flag_still, linked_still, place_still, version_still}
use Rattle.law_views.proofs.Seen.{IsPeer, IsSeen, seen_entry, seen_flag, seen_intents, seen_link, seen_place, seen_version}

-- a walk is of a server that is not removed
abbrev pub IsOfLive : List ℕ → Message → Type 0
IsOfLive R (message.Walk ends origin birth hops word) = is_removed R origin ≡ false
IsOfLive R _ = Unit {0}

module _ (n s : ℕ) (R : List ℕ) where
  pub record IsSent (m : Sent) : Type 0 where
    pub from : m.packet.from ≡ s
    pub view : m.packet.view ≡ length R
    pub live : IsOfLive R m.packet.message

  pub record IsFine (d : Done) : Type 0 where
    pub seen : IsSeen n s R d.store
    pub sent : All IsSent d.work.sent

  pub sent_is : (a : Store) (to : ℕ) (m : Message) → IsOfLive R m → IsSeen n s R a → IsSent (sent_to a to m)
  sent_is a to m live k = record {
    from = k.server;
    view = ap (λ (removed : List ℕ). length removed) k.removed;
    live = live;
  }

  -- what else is noted does not count
  pub worked : (d : Done) (b : Store) (w : Work) → w.sent ≡ d.work.sent → IsSeen n s R b → IsFine d → IsFine (idle b w)
  worked d b w same seen k = record { seen = seen; sent = subst (All IsSent) (sym same) k.sent }

  pub stored : (d : Done) (b : Store) → IsSeen n s R b → IsFine d → IsFine (idle b d.work)
  stored d b seen k = record { seen = seen; sent = k.sent }

  pub posted : (d : Done) (to : ℕ) (m : Message) → IsOfLive R m → IsFine d → IsFine (idle d.store (post d.store to m d.work))
  posted d to m live k =
      let one = sent_to d.store to m in
      record {
        seen = k.seen;
        sent = All-append IsSent d.work.sent (one ∷ []) k.sent
            (All-cons IsSent one [] (sent_is d.store to m live k.seen) (All-nil IsSent));
      }

  pub intending : (d : Done) (is : List Intent) → IsFine d → IsFine (idle (with_intents d.store is) d.work)
  intending d is k = stored d (with_intents d.store is) (seen_intents n s R d.store is k.seen) k

  pub linked : (d : Done) (file : FileId) (peer birth : ℕ) → IsPeer n s R peer → IsFine d → IsFine (link_peer d.store file peer birth d.work)
  linked d file peer birth of k =
      worked d (link d.store file peer birth) (link_peer d.store file peer birth d.work).work
      (linked_still d.store file peer birth d.work).mail.sent (seen_link n s R d.store file peer birth of k.seen) k

  -- ---- what is taken

  pub place_fine : (d : Done) (file : FileId) (place : Place) → IsFine d → IsFine (take_place_noted d.store file place d.work)
  place_fine d file place k =
      worked d (take_place d.store file place) (take_place_noted d.store file place d.work).work
      (place_still d.store file place d.work).mail.sent (seen_place n s R d.store file place k.seen) k

  pub flag_fine : (d : Done) (file : FileId) (flag : Flag) → IsFine d → IsFine (take_flag_noted d.store file flag d.work)
  flag_fine d file flag k =
      worked d (take_flag d.store file flag) (take_flag_noted d.store file flag d.work).work
      (flag_still d.store file flag d.work).mail.sent (seen_flag n s R d.store file flag k.seen) k

  pub entry_fine : (d : Done) (dir : FileId) (e : Entry) → IsFine d → IsFine (take_entry_noted d.store dir e d.work)
  entry_fine d dir e k =
      worked d (take_entry d.store dir e) (take_entry_noted d.store dir e d.work).work
      (entry_still d.store dir e d.work).mail.sent (seen_entry n s R d.store dir e k.seen) k

  pub entry_cell_fine : (d : Done) (dir : FileId) (e : Entry) (sure : Bool) → IsFine d → IsFine (take_entry_cell d.store dir e sure d.work)
  entry_cell_fine d dir e sure k =
      worked d (take_entry d.store dir e) (take_entry_cell d.store dir e sure d.work).work
      (entry_cell_still d.store dir e sure d.work).mail.sent (seen_entry n s R d.store dir e k.seen) k

  pub version_fine : (d : Done) (file : FileId) (v : VersionValue) → IsFine d → IsFine (take_version_noted d.store file v d.work)
  version_fine d file v k =
      worked d (take_version d.store file v) (take_version_noted d.store file v d.work).work
      (version_still d.store file v d.work).mail.sent (seen_version n s R d.store file v k.seen) k

  -- ---- what is made

  pub place_made : (file : FileId) (place : Place) (d : Done) → IsFine d → IsFine (make_place file place d)
  place_made file place d k =
      let w = with_made d.work (update.Place file place) in
      place_fine (idle d.store w) file place (worked d d.store w refl k.seen k)

  pub flag_made : (file : FileId) (flag : Flag) (d : Done) → IsFine d → IsFine (make_flag d.store file flag d.work)
  flag_made file flag d k =
      let w = with_made d.work (update.Flag file flag) in
      flag_fine (idle d.store w) file flag (worked d d.store w refl k.seen k)

  -- an intention begins
  pub begun_fine : (d : Done) (i : Intent) → IsFine d → IsFine (begin_intent d.store i d.work)
  begun_fine d i k =
      let w = begin_intent d.store i d.work in
      worked d w.store w.work (begun_still (not (stands d.store.intents (key_of i))) d.work (key_of i)).mail.sent
      (seen_intents n s R d.store w.store.intents k.seen) k
