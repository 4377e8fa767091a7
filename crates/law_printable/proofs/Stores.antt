-- What a server takes, links and begins keeps places that suit; and what it notes and posts.
use Rattle.std.proofs.Common.{ℕ, ◌≡◌, ◌&&◌, not, Bool, List, [], ◌∷◌, Option, None, Some, refl}
use Rattle.std.proofs.lemmas.List.Elements.{All-push}
use Rattle.law_frame.specs.pg_run.pg_base.declared.id.FileId.{FileId}
use Rattle.law_frame.specs.pg_run.pg_base.declared.id.Kind.TheVariants.{Dir}
use Rattle.law_frame.specs.pg_run.pg_base.declared.policy.Policy.{Policy}
use Rattle.law_frame.specs.pg_run.pg_base.Version.{VersionValue}
use Rattle.law_frame.specs.pg_run.pg_entries.declared.entry.Entry.{Entry}
use Rattle.law_frame.specs.pg_run.pg_edges.declared.key.Key.{Key}
use Rattle.law_frame.specs.pg_run.pg_edges.declared.key.Key.TheVariants as key
use Rattle.law_frame.specs.pg_run.pg_intent.declared.intent.Intent.{Intent}
use Rattle.law_frame.specs.pg_run.pg_intent.declared.intent.Intent.TheVariants as intent
use Rattle.law_frame.specs.pg_run.pg_intent.declared.key.IntentKey.{IntentKey}
use Rattle.law_frame.specs.pg_run.pg_intent.Intents.{ended, intent_at}
use Rattle.law_frame.specs.pg_run.pg_msg.declared.message.Message.{Message}
use Rattle.law_frame.specs.pg_run.pg_msg.declared.work.Work.{Work}
use Rattle.law_frame.specs.pg_run.pg_msg.Work.{with_linked, with_touched, with_unsure}
use Rattle.law_frame.specs.pg_run.pg_register.declared.flag.Flag.{Flag}
use Rattle.law_frame.specs.pg_run.pg_register.declared.place.Place.{Place}
use Rattle.law_frame.specs.pg_run.pg_names.declared.attributes.Attributes.{Attributes}
use Rattle.law_frame.specs.pg_run.pg_names.Names.{NamesValue, own_or_blank}
use Rattle.law_frame.specs.pg_run.pg_store.declared.store.Store.{Store}
use Rattle.law_frame.specs.pg_run.pg_store.Beginning.{begin, patches_of, put_new, take_patch, take_patches, take_told, take_told_in, with_intents}
use Rattle.law_frame.specs.pg_run.pg_store.Links.{is_linked, is_new_link, link, put_link, unlink}
use Rattle.law_frame.specs.pg_run.pg_store.Store.{entry_news, is_new_version, is_newer_entry, is_newer_flag, is_newer_place, put_entry, put_flag, put_place, put_version, take_entry, take_flag, take_place, take_version, touch, with_names}
use Rattle.law_frame.specs.pg_run.pg_house.Work.{note_left}
use Rattle.law_frame.proofs.pg_run.pg_house.Truths.{chosen}
use Rattle.law_frame.specs.pg_run.pg_pieces.Accepting.{link_peer, with_link}
use Rattle.law_frame.specs.pg_run.pg_pieces.Done.{Done, idle}
use Rattle.law_frame.specs.pg_run.pg_pieces.Posting.{post, sent_to}
use Rattle.law_frame.specs.pg_run.pg_pieces.Taking.{is_any_news, is_place_news, take_entry_cell, take_entry_noted, take_flag_noted, take_place_noted, take_version_noted, with_doubt, with_left_if, with_news}
use Rattle.law_printable.proofs.House.{IsOfDir, WorkSuits, noted_suits}
use Rattle.law_printable.proofs.Intents.{AllIntents, SuitsIntent, ended_suit, found_suits}
use Rattle.law_printable.proofs.Messages.{Suits, SuitsPost, sent_suits}
use Rattle.law_printable.proofs.Places.{IsOwnPlace, NamesSuit, SuitsEntry, begin_suits, blank_suits, join_entry_suits, join_flag_suits, join_place_suits}

pub record StoreSuits (s : Store) : Type 0 where
  pub names : NamesSuit s.names
  pub intents : AllIntents s.intents

pub record DoneSuits (done : Done) : Type 0 where
  pub store : StoreSuits done.store
  pub work : WorkSuits Suits done.work

-- ---- what a store takes and links

module _ (s : Store) (h : StoreSuits s) where
  pub named_suits : (n : NamesValue) → NamesSuit n → StoreSuits (with_names s n)
  named_suits n k = record { names = k; intents = h.intents }

  pub intended_suits : (is : List Intent) → AllIntents is → StoreSuits (with_intents s is)
  intended_suits is k = record { names = h.names; intents = k }

  pub touch_suits : (f : FileId) (k : Key) → StoreSuits (touch s f k)
  touch_suits f k = record { names = h.names; intents = h.intents }

  pub place_suits : (f : FileId) (p : Place) → IsOwnPlace f p → StoreSuits (take_place s f p)
  place_suits f p k =
      chosen StoreSuits (is_newer_place s f p) (put_place s f p) s
      (record { names = join_place_suits s.names f p k h.names; intents = h.intents }) h

  pub flag_suits : (f : FileId) (g : Flag) → StoreSuits (take_flag s f g)
  flag_suits f g =
      chosen StoreSuits (is_newer_flag s f g) (put_flag s f g) s
      (record { names = join_flag_suits s.names f g h.names; intents = h.intents }) h

  pub entry_suits : (d : FileId) (e : Entry) → SuitsEntry e.child e → StoreSuits (take_entry s d e)
  entry_suits d e k =
      chosen StoreSuits (is_newer_entry s d e) (put_entry s d e) s
      (record { names = join_entry_suits s.names d e k h.names; intents = h.intents }) h

  pub version_suits : (f : FileId) (v : VersionValue) → StoreSuits (take_version s f v)
  version_suits f v =
      chosen StoreSuits (is_new_version s f v) (put_version s f v) s (record { names = h.names; intents = h.intents }) h

  pub link_suits : (f : FileId) (peer birth : ℕ) → StoreSuits (link s f peer birth)
  link_suits f peer birth =
      chosen StoreSuits (is_new_link s f peer birth) (put_link s f peer birth) s (record { names = h.names; intents = h.intents }) h

  pub unlink_suits : (f : FileId) (peer birth : ℕ) → StoreSuits (unlink s f peer birth)
  unlink_suits f peer birth =
      chosen StoreSuits (is_linked s f peer birth) _ s (record { names = h.names; intents = h.intents }) h

-- ---- a replica begins

told_suits : (s : Store) (dir : FileId) (i : Intent) → StoreSuits s → SuitsIntent i → StoreSuits (take_told s dir i)
told_suits s dir (intent.Patch to entry target) h k = entry_suits s h dir entry k.1
told_suits s dir i h k = h

told_in_suits : (s : Store) (dir : FileId) (o : Option Intent) → StoreSuits s → ((i : Intent) → o ≡ Some i → SuitsIntent i)
    → StoreSuits (take_told_in s dir o)
told_in_suits s dir None h each = h
told_in_suits s dir (Some i) h each = told_suits s dir i h (each i refl)

patch_suits : (s : Store) (dir : FileId) (k : IntentKey) → StoreSuits s → StoreSuits (take_patch s dir k)
patch_suits s dir k h =
    told_in_suits (with_intents s (ended s.intents k)) dir (intent_at s.intents k)
    (intended_suits s h (ended s.intents k) (ended_suit s.intents k h.intents)) (λ i e. found_suits s.intents k i h.intents e)

patches_suit : (s : Store) (dir : FileId) (ks : List IntentKey) → StoreSuits s → StoreSuits (take_patches s dir ks)
patches_suit s dir [] h = h
patches_suit s dir (k ∷ ks) h = patches_suit (take_patch s dir k) dir ks (patch_suits s dir k h)

pub begun_suits : (s : Store) (f : FileId) (birth : ℕ) (policy : Policy) (own : Attributes) (full : Bool) → IsOwnPlace f own.place → StoreSuits s
    → StoreSuits (begin s f birth policy own full)
begun_suits s f birth policy own full k h =
    patches_suit (put_new s f birth policy own full) f (patches_of f s.intents)
    (record { names = begin_suits s.names f own full k h.names; intents = h.intents })

-- ---- what is noted of an event

pub news_suits : (news : Bool) (work : Work) (f : FileId) (k : Key) → WorkSuits Suits work → WorkSuits Suits (with_news news work f k)
news_suits news work f k h =
    chosen (WorkSuits Suits) news (with_touched work f k) work
    (record { made = h.made; sent = h.sent; left = h.left; unsure = h.unsure }) h

left_suits : (news : Bool) (work : Work) (f : FileId) (old : Place) → old.parent.kind ≡ Dir → WorkSuits Suits work
    → WorkSuits Suits (with_left_if news work f old)
left_suits news work f old k h = chosen (WorkSuits Suits) news (note_left work f old) work (noted_suits Suits work f old k h) h

linked_suits : (news : Bool) (work : Work) (f : FileId) (peer : ℕ) → WorkSuits Suits work → WorkSuits Suits (with_link news work f peer)
linked_suits news work f peer h =
    chosen (WorkSuits Suits) news (with_linked work f peer) work
    (record { made = h.made; sent = h.sent; left = h.left; unsure = h.unsure }) h

doubt_suits : (doubt : Bool) (work : Work) (d c : FileId) → d.kind ≡ Dir → WorkSuits Suits work → WorkSuits Suits (with_doubt doubt work d c)
doubt_suits doubt work d c k h =
    chosen (WorkSuits Suits) doubt (with_unsure work d c) work
    (record { made = h.made; sent = h.sent; left = h.left; unsure = All-push IsOfDir work.unsure (record { dir = d; child = c }) h.unsure k }) h

pub posted : (s : Store) (to : ℕ) (m : Message) (work : Work) → SuitsPost m → WorkSuits Suits work → WorkSuits Suits (post s to m work)
posted s to m work k h = record {
  made = h.made;
  sent = All-push Suits work.sent (sent_to s to m) h.sent (sent_suits s to m k);
  left = h.left;
  unsure = h.unsure;
}

-- ---- what a thing takes, with what is noted of it

module _ (s : Store) (work : Work) (h : DoneSuits (idle s work)) where
  pub place_noted : (f : FileId) (p : Place) → IsOwnPlace f p → DoneSuits (take_place_noted s f p work)
  place_noted f p k =
      let old : Place = (own_or_blank s.names f).place in
      let news : Bool = is_newer_place s f p in
      record {
        store = place_suits s h.store f p k;
        work = news_suits news (with_left_if news work f old) f key.Place
            (left_suits news work f old (blank_suits s.names h.store.names f).parent h.work);
      }

  pub flag_noted : (f : FileId) (g : Flag) → DoneSuits (take_flag_noted s f g work)
  flag_noted f g = record {
    store = flag_suits s h.store f g;
    work = news_suits (is_newer_flag s f g) work f (key.Flag g.server) h.work;
  }

  pub entry_noted : (d : FileId) (e : Entry) → SuitsEntry e.child e → DoneSuits (take_entry_noted s d e work)
  entry_noted d e k = record {
    store = entry_suits s h.store d e k;
    work = news_suits (is_any_news (entry_news s d e)) work d (key.Entry e.child) h.work;
  }

  pub entry_taken : (d : FileId) (e : Entry) (sure : Bool) → d.kind ≡ Dir → SuitsEntry e.child e → DoneSuits (take_entry_cell s d e sure work)
  entry_taken d e sure dir k = record {
    store = entry_suits s h.store d e k;
    work = doubt_suits (is_place_news (entry_news s d e) && not sure) (take_entry_noted s d e work).work d e.child dir (entry_noted d e k).work;
  }

  pub version_noted : (f : FileId) (v : VersionValue) → DoneSuits (take_version_noted s f v work)
  version_noted f v = record {
    store = version_suits s h.store f v;
    work = news_suits (is_new_version s f v) work f (key.Version v.head.stamp) h.work;
  }

  pub peer_linked : (f : FileId) (peer birth : ℕ) → DoneSuits (link_peer s f peer birth work)
  peer_linked f peer birth = record {
    store = link_suits s h.store f peer birth;
    work = linked_suits (is_new_link s f peer birth) work f peer h.work;
  }
