-- What is said of births and flags is said behind each piece of a message.
use Rattle.std.proofs.Common.{ℕ, ◌≡◌, Bool, true, false, refl, sym, ◌∙◌}
use Rattle.pg_run.specs.pg_base.declared.id.FileId.{FileId}
use Rattle.pg_run.specs.pg_base.Version.{VersionValue}
use Rattle.pg_run.specs.pg_entries.declared.entry.Entry.{Entry}
use Rattle.pg_run.specs.pg_intent.declared.key.IntentKey.{IntentKey}
use Rattle.pg_run.specs.pg_intent.Intents.{aimed}
use Rattle.pg_run.specs.pg_msg.declared.message.Message.{Message}
use Rattle.pg_run.specs.pg_msg.declared.message.Message.TheVariants as message
use Rattle.pg_run.specs.pg_register.declared.flag.Flag.{Flag}
use Rattle.pg_run.specs.pg_register.declared.place.Place.{Place}
use Rattle.pg_run.specs.pg_store.declared.store.Store.{Store}
use Rattle.pg_run.specs.pg_store.Beginning.{with_intents}
use Rattle.pg_run.specs.pg_store.Store.{is_held}
use Rattle.pg_run.specs.pg_store.Together.{HoldsAsBefore, birth_at}
use Rattle.pg_run.proofs.pg_store.Pairs.{link_as_before}
use Rattle.pg_run.specs.pg_pieces.Accepting.{link_peer}
use Rattle.pg_run.specs.pg_pieces.Done.{Done, idle}
use Rattle.pg_run.specs.pg_msg.Work.{with_tail}
use Rattle.pg_run.specs.pg_pieces.Posting.{post, sent_to}
use Rattle.pg_run.specs.pg_pieces.Taking.{take_entry_cell, take_entry_noted, take_flag_noted, take_place_noted, take_version_noted}
use Rattle.pg_run.specs.Births.{AllNamed}
use Rattle.pg_run.proofs.Still.{SameMail, entry_cell_still, entry_still, flag_still, linked_still, place_still, same_mail, version_still}
use Rattle.law_births.specs.Flags.{SaysEntry, SaysStore}
use Rattle.law_births.proofs.EndsSay.{SaysEnds, ends_link, ends_stay}
use Rattle.law_births.proofs.Mails.{OfBirths, Owed, SaysAll}
use Rattle.law_births.proofs.Pieces.{Stays, entry_stays, flag_stays, place_stays, version_stays}
use Rattle.law_births.proofs.Saying.{Born, IsSaid, said_last, said_on, said_post}
use Rattle.law_births.proofs.StoreSays.{say_aimed, say_entry, say_flag, say_link, say_place, say_version}

abbrev pub begins_replica : Message → Bool
begins_replica (message.Grant ends granted) = true
begins_replica _ = false

-- it is said, and the birth of each replica here was given out; what is held, and its births, are as
-- at first, where no replica begins
pub record IsBehind (P : FileId → ℕ → ℕ → Type 0) (G : FileId → ℕ → Type 0) (s from : ℕ) (a : Store) (m : Message) (d : Done) : Type 0 where
  pub fine : IsSaid P (OfBirths P) G s from d
  pub born : Born P (OfBirths P) G s from d.store
  pub births : begins_replica m ≡ false → (f : FileId) → birth_at d.store f ≡ birth_at a f
  pub holds : begins_replica m ≡ false → (f : FileId) → is_held d.store f ≡ is_held a f

module _ (P : FileId → ℕ → ℕ → Type 0) (G : FileId → ℕ → Type 0) (s from : ℕ) (a : Store) (m : Message) where
  abbrev Q : FileId → Flag → Type 0
  Q f flag = OfBirths P f flag

  abbrev Behind : Done → Type 0
  Behind d = IsBehind P G s from a m d

  pub behind_same : (d e : Done) → Behind d → IsSaid P Q G s from e → ((f : FileId) → birth_at e.store f ≡ birth_at d.store f)
      → ((f : FileId) → is_held e.store f ≡ is_held d.store f) → Behind e
  behind_same d e k fine births holds = record {
    fine = fine;
    born = λ f n is. k.born f n (sym (births f) ∙ is);
    births = λ none f. births f ∙ k.births none f;
    holds = λ none f. holds f ∙ k.holds none f;
  }

  -- another store
  pub behind_edges : (d e : Done) → Behind d → SaysStore Q (Owed P G s) s e.store → SaysEnds P e.store → SameMail d.work e.work
      → HoldsAsBefore d.store e.store → Behind e
  behind_edges d e k store edges mail same = behind_same d e k (said_on P Q G s from d e k.fine store edges mail) same.births same.held

  behind_stays : (d e : Done) → Behind d → SaysStore Q (Owed P G s) s e.store → Stays d.store e.store → SameMail d.work e.work → Behind e
  behind_stays d e k store stays mail = behind_edges d e k store (ends_stay P stays k.fine.edges) mail stays.before

  pub behind_store : (d : Done) (b : Store) → Behind d → SaysStore Q (Owed P G s) s b → Stays d.store b → Behind (idle b d.work)
  behind_store d b k store stays = behind_stays d (idle b d.work) k store stays (same_mail d.work)

  pub behind_cell : (d : Done) (dir : FileId) (e : Entry) (sure : Bool) → SaysEntry Q e → Behind d → Behind (take_entry_cell d.store dir e sure d.work)
  behind_cell d dir e sure all k =
      behind_stays d (take_entry_cell d.store dir e sure d.work) k (say_entry Q (Owed P G s) s d.store dir e all k.fine.store)
      (entry_stays d.store dir e) (entry_cell_still d.store dir e sure d.work).mail

  pub behind_version : (d : Done) (f : FileId) (v : VersionValue) → Behind d → Behind (take_version_noted d.store f v d.work)
  behind_version d f v k =
      behind_stays d (take_version_noted d.store f v d.work) k (say_version Q (Owed P G s) s d.store f v k.fine.store) (version_stays d.store f v)
      (version_still d.store f v d.work).mail

  -- another server is asked
  pub behind_aim : (d : Done) (q : IntentKey) (peer : ℕ) → Behind d → Behind (idle (with_intents d.store (aimed d.store.intents q peer)) d.work)
  behind_aim d q peer k =
      let b = with_intents d.store (aimed d.store.intents q peer) in
      behind_same d (idle b d.work) k
      (said_on P Q G s from d (idle b d.work) k.fine (say_aimed Q (Owed P G s) s d.store q peer k.fine.store) k.fine.edges (same_mail d.work))
      (λ f. refl) (λ f. refl)

  pub behind_link : (d : Done) (f : FileId) (peer birth : ℕ) → P f peer birth → Behind d → Behind (link_peer d.store f peer birth d.work)
  behind_link d f peer birth one k =
      behind_edges d (link_peer d.store f peer birth d.work) k (say_link Q (Owed P G s) s d.store f peer birth k.fine.store)
      (ends_link P d.store f peer birth one k.fine.edges) (linked_still d.store f peer birth d.work).mail
      (link_as_before d.store f peer birth)

  pub behind_post : (d : Done) (peer : ℕ) (r : Message) → AllNamed P s peer r → SaysAll Q G r → Behind d → Behind (idle d.store (post d.store peer r d.work))
  behind_post d peer r names all k =
      behind_same d (idle d.store (post d.store peer r d.work)) k (said_post P Q G s from d.store peer r d.work names all k.fine) (λ f. refl) (λ f. refl)

  pub behind_place : (d : Done) (f : FileId) (place : Place) → Behind d → Behind (take_place_noted d.store f place d.work)
  behind_place d f place k =
      behind_stays d (take_place_noted d.store f place d.work) k (say_place Q (Owed P G s) s d.store f place k.fine.store) (place_stays d.store f place)
      (place_still d.store f place d.work).mail

  pub behind_flag : (d : Done) (f : FileId) (flag : Flag) → Q f flag → Behind d → Behind (take_flag_noted d.store f flag d.work)
  behind_flag d f flag one k =
      behind_stays d (take_flag_noted d.store f flag d.work) k (say_flag Q (Owed P G s) s d.store f flag one k.fine.store) (flag_stays d.store f flag)
      (flag_still d.store f flag d.work).mail

  pub behind_entry : (d : Done) (dir : FileId) (e : Entry) → SaysEntry Q e → Behind d → Behind (take_entry_noted d.store dir e d.work)
  behind_entry d dir e all k =
      behind_stays d (take_entry_noted d.store dir e d.work) k (say_entry Q (Owed P G s) s d.store dir e all k.fine.store) (entry_stays d.store dir e)
      (entry_still d.store dir e d.work).mail

  -- a message goes last
  pub behind_last : (d : Done) (peer : ℕ) (r : Message) → AllNamed P s peer r → SaysAll Q G r → Behind d
      → Behind (idle d.store (with_tail d.work (sent_to d.store peer r)))
  behind_last d peer r names all k =
      behind_same d (idle d.store (with_tail d.work (sent_to d.store peer r))) k (said_last P Q G s from d.store peer r d.work names all k.fine)
      (λ f. refl) (λ f. refl)
