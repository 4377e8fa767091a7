-- What is said of flags is said of what a server holds and sends in answer to a message that raises
-- none.
use Rattle.std.proofs.Common.{ℕ, ◌≡◌, ◌||◌, Bool, cond, List, All, sym, subst, ◌∙◌}
use Rattle.std.proofs.lemmas.List.Elements.{All-push}
use Rattle.law_frame.specs.pg_run.pg_base.declared.id.FileId.{FileId}
use Rattle.law_frame.specs.pg_run.pg_base.Version.{VersionValue}
use Rattle.law_frame.specs.pg_run.pg_entries.declared.entry.Entry.{Entry}
use Rattle.law_frame.specs.pg_run.pg_msg.declared.message.Ends.{Ends}
use Rattle.law_frame.specs.pg_run.pg_msg.declared.message.Message.{Message}
use Rattle.law_frame.specs.pg_run.pg_msg.declared.message.Message.TheVariants as message
use Rattle.law_frame.specs.pg_run.pg_msg.declared.message.Sent.{Sent}
use Rattle.law_frame.specs.pg_run.pg_msg.declared.update.Update.{Update}
use Rattle.law_frame.specs.pg_run.pg_msg.declared.work.Work.{Work}
use Rattle.law_frame.specs.pg_run.pg_msg.Work.{with_tail}
use Rattle.law_frame.specs.pg_run.pg_register.declared.flag.Flag.{Flag}
use Rattle.law_frame.specs.pg_run.pg_register.declared.place.Place.{Place}
use Rattle.law_frame.specs.pg_run.pg_store.declared.store.Store.{Store}
use Rattle.law_frame.specs.pg_run.pg_store.Births.{has_birth, is_pending}
use Rattle.law_frame.specs.pg_run.pg_store.Links.{knows_later}
use Rattle.law_frame.specs.pg_run.pg_pieces.declared.accepting.EdgeUse.{EdgeUse}
use Rattle.law_frame.specs.pg_run.pg_pieces.declared.accepting.EdgeUse.TheVariants as manner
use Rattle.law_frame.specs.pg_run.pg_pieces.Accepting.{accept, is_answer, link_peer, with_gone}
use Rattle.law_frame.specs.pg_run.pg_pieces.Done.{Done, idle}
use Rattle.law_frame.specs.pg_run.pg_pieces.Posting.{post, reply, sent_to}
use Rattle.law_frame.specs.pg_run.pg_pieces.Taking.{take_entry_cell, take_entry_noted, take_flag_noted, take_place_noted, take_version_noted}
use Rattle.law_frame.proofs.pg_run.theory_flood_pieces.Choices.{chosen}
use Rattle.law_births.specs.Flags.{AnyBye, SaysEntry, SaysMessage, SaysStore}
use Rattle.law_births.proofs.StoreSays.{say_entry, say_flag, say_link, say_place, say_version}
use Rattle.law_frame.proofs.pg_run.Still.{IsStill, doubted_still, entry_still, flag_still, linked_still, place_still, version_still}

-- it is said of what a message brings
abbrev pub SaysSent : (FileId → Flag → Type 0) → Sent → Type 0
SaysSent Q m = SaysMessage Q m.packet.message

-- in the midst of an event at server s, in which just this was made
pub record Says (Q : FileId → Flag → Type 0) (s : ℕ) (us : List Update) (d : Done) : Type 0 where
  pub store : SaysStore Q AnyBye s d.store
  pub sent : All (SaysSent Q) d.work.sent
  pub tail : All (SaysSent Q) d.work.tail
  pub made : d.work.made ≡ us

module _ (Q : FileId → Flag → Type 0) (s : ℕ) (us : List Update) where
  abbrev pub Said : Done → Type 0
  Said d = Says Q s us d

  pub said_on : (d e : Done) → Said d → SaysStore Q AnyBye s e.store → IsStill d.work e.work → Said e
  said_on d e k store on = record {
    store = store;
    sent = subst (All (SaysSent Q)) (sym on.mail.sent) k.sent;
    tail = subst (All (SaysSent Q)) (sym on.mail.tail) k.tail;
    made = on.made ∙ k.made;
  }

  -- ---- pieces

  pub said_place : (a : Store) (f : FileId) (place : Place) (w : Work) → Said (idle a w)
      → Said (take_place_noted a f place w)
  said_place a f place w k =
      said_on (idle a w) (take_place_noted a f place w) k (say_place Q AnyBye s a f place k.store)
      (place_still a f place w)

  pub said_flag : (a : Store) (f : FileId) (flag : Flag) (w : Work) → Q f flag → Said (idle a w)
      → Said (take_flag_noted a f flag w)
  said_flag a f flag w one k =
      said_on (idle a w) (take_flag_noted a f flag w) k (say_flag Q AnyBye s a f flag one k.store)
      (flag_still a f flag w)

  pub said_entry : (a : Store) (dir : FileId) (e : Entry) (w : Work) → SaysEntry Q e
      → Said (idle a w) → Said (take_entry_noted a dir e w)
  said_entry a dir e w one k =
      said_on (idle a w) (take_entry_noted a dir e w) k (say_entry Q AnyBye s a dir e one k.store)
      (entry_still a dir e w)

  pub said_entry_cell : (a : Store) (dir : FileId) (e : Entry) (sure : Bool) (w : Work)
      → SaysEntry Q e → Said (idle a w) → Said (take_entry_cell a dir e sure w)
  said_entry_cell a dir e sure w one k =
      let d = take_entry_noted a dir e w in
      said_on d (take_entry_cell a dir e sure w) (said_entry a dir e w one k)
      (say_entry Q AnyBye s a dir e one k.store)
      (doubted_still a dir e sure w)

  pub said_version : (a : Store) (f : FileId) (v : VersionValue) (w : Work) → Said (idle a w)
      → Said (take_version_noted a f v w)
  said_version a f v w k =
      said_on (idle a w) (take_version_noted a f v w) k (say_version Q AnyBye s a f v k.store)
      (version_still a f v w)

  pub said_link : (a : Store) (f : FileId) (p b : ℕ) (w : Work) → Said (idle a w)
      → Said (link_peer a f p b w)
  said_link a f p b w k =
      said_on (idle a w) (link_peer a f p b w) k (say_link Q AnyBye s a f p b k.store)
      (linked_still a f p b w)

  -- one message more
  pub said_post : (a : Store) (to : ℕ) (m : Message) (w : Work) → SaysMessage Q m
      → Said (idle a w) → Said (idle a (post a to m w))
  said_post a to m w says k = record {
    store = k.store;
    sent = All-push (SaysSent Q) w.sent (sent_to a to m) k.sent says;
    tail = k.tail;
    made = k.made;
  }

  -- and one that goes last
  pub said_last : (a : Store) (to : ℕ) (m : Message) (w : Work) → SaysMessage Q m
      → Said (idle a w) → Said (idle a (with_tail w (sent_to a to m)))
  said_last a to m w says k = record {
    store = k.store;
    sent = k.sent;
    tail = All-push (SaysSent Q) w.tail (sent_to a to m) k.tail says;
    made = k.made;
  }

  -- ---- links

  gone_says : (a : Store) (ends : Ends) (man : EdgeUse) (w : Work) → Said (idle a w)
      → Said (idle a (with_gone a ends man w))
  gone_says a ends man w k =
      chosen (λ (v : Work). Said (idle a v)) (is_answer man || is_pending a ends.file ends.receiver) w
      (reply a (message.Gone ends.file ends.receiver) w) k
      (said_post a w.from (message.Gone ends.file ends.receiver) w tt k)

  -- a message that links nobody
  pub said_asked : (a : Store) (ends : Ends) (w : Work) → Said (idle a w)
      → Said (accept a ends manner.Needs w)
  said_asked a ends w k =
      chosen Said (has_birth a ends.file ends.receiver)
      (cond (knows_later a ends.file w.from ends.sender) (idle a w) (idle a w))
      (idle a (with_gone a ends manner.Needs w))
      (chosen Said (knows_later a ends.file w.from ends.sender) (idle a w) (idle a w) k k)
      (gone_says a ends manner.Needs w k)
