-- What is said of births and flags is said of what a server holds and sends in an event.
use Rattle.std.proofs.Common.{inl, inr, ℕ, ◌≡◌, false, Some, All, refl, sym, subst, ◌∙◌}
use Rattle.std.proofs.lemmas.List.Elements.{All-push}
use Rattle.pg_run.specs.pg_base.declared.id.FileId.{FileId}
use Rattle.pg_run.specs.pg_base.Id.{is_same_file}
use Rattle.pg_run.proofs.pg_base.Orders.{is_same_file-true}
use Rattle.pg_run.specs.pg_msg.declared.message.Granted.{Granted}
use Rattle.pg_run.specs.pg_replica.Replica.{new_replica}
use Rattle.pg_run.specs.pg_store.Beginning.{patches_of, put_new}
use Rattle.pg_run.specs.pg_store.Store.{replica_at}
use Rattle.pg_run.proofs.pg_store.Given.{born_behind, born_by}
use Rattle.pg_run.proofs.pg_store.Pairs.{patches_as_before}
use Rattle.pg_run.specs.pg_repair.Granting.{begun_by, granted_own}
use Rattle.pg_run.specs.pg_entries.declared.entry.Entry.{Entry}
use Rattle.pg_run.specs.pg_msg.declared.message.Ends.{Ends}
use Rattle.pg_run.specs.pg_msg.declared.message.Message.{Message}
use Rattle.pg_run.specs.pg_msg.declared.work.Work.{Work}
use Rattle.pg_run.specs.pg_msg.Work.{with_tail}
use Rattle.pg_run.specs.pg_register.declared.flag.Flag.{Flag}
use Rattle.pg_run.specs.pg_register.declared.place.Place.{Place}
use Rattle.pg_run.specs.pg_store.declared.store.Store.{Store}
use Rattle.pg_run.specs.pg_store.Births.{birth_of, has_birth, is_pending}
use Rattle.pg_run.specs.pg_store.Together.{birth_at}
use Rattle.pg_run.specs.pg_pieces.Done.{Done, idle}
use Rattle.pg_run.specs.pg_pieces.Posting.{post, reply, sent_to}
use Rattle.pg_run.specs.pg_pieces.Taking.{take_entry_noted, take_place_noted}
use Rattle.pg_run.specs.Births.{AllNamed}
use Rattle.law_births.specs.Flags.{SaysEntry, SaysStore}
use Rattle.law_births.proofs.Ends.{ends}
use Rattle.law_births.proofs.EndsSay.{SaysEnds, ends_stay}
use Rattle.law_births.proofs.Here.{birth_is}
use Rattle.law_births.proofs.Pieces.{entry_stays, place_stays}
use Rattle.law_births.proofs.StoreSays.{say_entry, say_place}
use Rattle.law_births.proofs.Mails.{Owed, SaysAll, SaysSent}
use Rattle.pg_run.proofs.Still.{SameMail, entry_still, place_still}

-- in the midst of an event at server s, in which a message came from this server
pub record IsSaid (P : FileId → ℕ → ℕ → Type 0) (Q : FileId → Flag → Type 0) (G : FileId → ℕ → Type 0) (s from : ℕ) (d : Done) : Type 0 where
  pub store : SaysStore Q (Owed P G s) s d.store
  pub edges : SaysEnds P d.store
  pub sent : All (SaysSent P Q G s) d.work.sent
  pub tail : All (SaysSent P Q G s) d.work.tail
  pub asker : d.work.from ≡ from

module _ (P : FileId → ℕ → ℕ → Type 0) (Q : FileId → Flag → Type 0) (G : FileId → ℕ → Type 0) (s from : ℕ) where
  abbrev pub Said : Done → Type 0
  Said d = IsSaid P Q G s from d

  pub said_on : (d e : Done) → Said d → SaysStore Q (Owed P G s) s e.store → SaysEnds P e.store → SameMail d.work e.work → Said e
  said_on d e k store edges mail = record {
    store = store;
    edges = edges;
    sent = subst (All (SaysSent P Q G s)) (sym mail.sent) k.sent;
    tail = subst (All (SaysSent P Q G s)) (sym mail.tail) k.tail;
    asker = mail.from ∙ k.asker;
  }

  -- ---- pieces

  pub said_place : (a : Store) (f : FileId) (place : Place) (w : Work) → Said (idle a w) → Said (take_place_noted a f place w)
  said_place a f place w k =
      said_on (idle a w) (take_place_noted a f place w) k (say_place Q (Owed P G s) s a f place k.store) (ends_stay P (place_stays a f place) k.edges)
      (place_still a f place w).mail

  pub said_entry : (a : Store) (dir : FileId) (e : Entry) (w : Work) → SaysEntry Q e → Said (idle a w) → Said (take_entry_noted a dir e w)
  said_entry a dir e w one k =
      said_on (idle a w) (take_entry_noted a dir e w) k (say_entry Q (Owed P G s) s a dir e one k.store) (ends_stay P (entry_stays a dir e) k.edges)
      (entry_still a dir e w).mail

  -- one message more
  pub said_post : (a : Store) (to : ℕ) (m : Message) (w : Work) → AllNamed P s to m → SaysAll Q G m → Said (idle a w) → Said (idle a (post a to m w))
  said_post a to m w named says k = record {
    store = k.store;
    edges = k.edges;
    sent = All-push (SaysSent P Q G s) w.sent (sent_to a to m) k.sent (named, (says, k.store.names.server));
    tail = k.tail;
    asker = k.asker;
  }

  -- and one that goes last
  pub said_last : (a : Store) (to : ℕ) (m : Message) (w : Work) → AllNamed P s to m → SaysAll Q G m → Said (idle a w)
      → Said (idle a (with_tail w (sent_to a to m)))
  said_last a to m w named says k = record {
    store = k.store;
    edges = k.edges;
    sent = k.sent;
    tail = All-push (SaysSent P Q G s) w.tail (sent_to a to m) k.tail (named, (says, k.store.names.server));
    asker = k.asker;
  }

  pub said_reply : (a : Store) (m : Message) (w : Work) → AllNamed P s from m → SaysAll Q G m → Said (idle a w) → Said (idle a (reply a m w))
  said_reply a m w named says k =
      let N : ℕ → Type 0 = λ z. AllNamed P s z m in
      said_post a w.from m w (subst N (sym k.asker) named) says k

  -- where the replica is not here and not to come, it is gone
  abbrev pub Fresh : Store → Ends → Type 0
  Fresh a ends = has_birth a ends.file ends.receiver ≡ false → is_pending a ends.file ends.receiver ≡ false → G ends.file ends.receiver

  -- the birth of the replica here was given out
  abbrev pub Born : Store → Type 0
  Born a = (f : FileId) (n : ℕ) → birth_at a f ≡ Some n → P f s n

  pub own_named : (a : Store) (f : FileId) → Born a → (n : ℕ) × (birth_at a f ≡ Some n) → P f s (birth_of a f)
  own_named a f born here = subst (P f s) (sym (birth_is a f here.0 here.1)) (born f here.0 here.1)

  -- a replica begins with a birth that was given out
  pub born_begun : (a : Store) (ends : Ends) (g : Granted) → P ends.file s ends.receiver → Born a → Born (begun_by a ends g)
  born_begun a ends g one born f n there =
      let own = granted_own g in
      let new = put_new a ends.file ends.receiver g.policy own false in
      let at : birth_at new f ≡ Some n = sym ((patches_as_before new ends.file (patches_of ends.file a.intents)).births f) ∙ there in
      elim (born_by ends.receiver n (replica_at a f) (new_replica ends.receiver g.policy) (is_same_file f ends.file) refl
      (sym (born_behind a ends.file ends.receiver g.policy own false f) ∙ at)) [
        | inl here ↦ subst (λ (q : FileId). P q s n) (sym (is_same_file-true f ends.file here.0)) (subst (P ends.file s) here.1 one)
        | inr was ↦ born f n was.1
      ]
