-- What comes of a message that is sent plainly, of an intention that begins, and of a server that
-- is removed.
use Rattle.std.proofs.Common.{ℕ, ◌≡◌, ◌++◌, ◌∷◌, [], not, true, List, Option, None, Some, refl, sym, subst}
use Rattle.std.specs.List.{flat_map}
use Rattle.std.specs.Map.{keys_of}
use Rattle.std.proofs.lemmas.List.{append-nil, append_assoc}
use Rattle.law_frame.specs.pg_run.pg_base.declared.id.FileId.{FileId}
use Rattle.law_frame.specs.pg_run.pg_edges.declared.edge.Edge.{Edge}
use Rattle.law_frame.specs.pg_run.pg_intent.declared.intent.Intent.{Intent}
use Rattle.law_frame.specs.pg_run.pg_intent.Intent.{key_of}
use Rattle.law_frame.specs.pg_run.pg_intent.Intents.{stands}
use Rattle.law_frame.specs.pg_run.pg_msg.declared.message.Message.{Message}
use Rattle.law_frame.specs.pg_run.pg_msg.declared.work.Work.{Work}
use Rattle.law_frame.specs.pg_run.pg_store.declared.store.Store.{Store}
use Rattle.law_frame.specs.pg_run.pg_pieces.Done.{Done}
use Rattle.law_frame.specs.pg_run.pg_pieces.Intending.{begin_intent}
use Rattle.law_frame.specs.pg_run.pg_pieces.Posting.{post, sent_to}
use Rattle.law_frame.specs.pg_run.pg_calls.GivingUp.{cells_of, doubt_all, enter_view}
use Rattle.law_frame.specs.pg_run.pg_intentions.Inviting.{invite_along, invite_each, invite_of, invites, loose_edge}
use Rattle.law_frame.specs.pg_run.pg_msg.declared.work.Slot.{Slot}
use Rattle.law_frame.specs.pg_run.pg_names.Names.{directories}
use Rattle.law_frame.specs.pg_run.pg_store.Views.{enter}
use Rattle.law_frame.proofs.pg_run.theory_flood_pieces.Choices.{chosen}
use Rattle.law_full.proofs.Works.{IsClosed, begun_sends, is_plain}

module _ (Q : Work → Type 0) (k : IsClosed Q) where
  abbrev OfDone : Done → Type 0
  OfDone d = Q d.work

  pub plain_sends : (a : Store) (to : ℕ) (m : Message) (w : Work) → is_plain m ≡ true → Q w → Q (post a to m w)
  plain_sends a to m w is h = k.sent w (sent_to a to m) is h

  -- ---- an intention begins

  pub intent_sends : (d : Done) (i : Intent) → OfDone d → OfDone (begin_intent d.store i d.work)
  intent_sends d i h = begun_sends Q k (not (stands d.store.intents (key_of i))) d.work (key_of i) h

  -- ---- a server is removed

  abbrev with_slots : Work → List Slot → Work
  with_slots w slots = record w { unsure = slots }

  slots_send : (slots : List Slot) (w : Work) → Q w → Q (with_slots w (w.unsure ++ slots))
  slots_send [] w h = subst (λ (us : List Slot). Q (with_slots w us)) (sym (append-nil w.unsure)) h
  slots_send (x ∷ xs) w h =
      subst (λ (us : List Slot). Q (with_slots w us)) (append_assoc w.unsure (x ∷ []) xs)
      (slots_send xs (with_slots w (w.unsure ++ x ∷ [])) (k.unsure w x.dir x.child h))

  along_invited : (a : Store) (file : FileId) (o : Option Edge) (w : Work) → Q w → Q (invite_along a file o w)
  along_invited a file None w h = h
  along_invited a file (Some e) w h = k.last w _ refl h

  invites_send : (files : List FileId) (a : Store) (w : Work) → Q w → Q (invite_each a files w)
  invites_send [] a w h = h
  invites_send (file ∷ files) a w h =
      invites_send files a (invite_of a file w)
      (chosen Q (invites a file) (invite_along a file (loose_edge a file) w) w (along_invited a file (loose_edge a file) w h) h)

  pub entered_sends : (a : Store) (server : ℕ) (w : Work) → Q w → OfDone (enter_view a server w)
  entered_sends a server w h =
      let b = enter a server in
      invites_send (keys_of b.names.held) b (doubt_all b w)
      (slots_send (flat_map (cells_of b.names) (directories b.names)) w h)
