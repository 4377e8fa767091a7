-- A view is entered: the server is sound behind it, and what it asks others for is said.
use Rattle.std.proofs.Common.{ℕ, ◌≡◌, List, [], ◌∷◌, Option, None, Some, refl, sym, subst}
use Rattle.std.specs.Map.{keys_of}
use Rattle.law_frame.specs.pg_run.pg_base.declared.id.FileId.{FileId}
use Rattle.law_frame.specs.pg_run.pg_edges.declared.edge.Edge.{Edge}
use Rattle.law_frame.specs.pg_run.pg_intent.Intents.{HaveOwnKeys, keys_to}
use Rattle.law_frame.proofs.pg_run.pg_intent.Turned.{own-turned}
use Rattle.law_frame.specs.pg_run.pg_msg.declared.message.Message.TheVariants as message
use Rattle.law_frame.specs.pg_run.pg_msg.declared.work.Work.{Work}
use Rattle.law_frame.specs.pg_run.pg_names.Names.{NamesValue}
use Rattle.law_frame.specs.pg_run.pg_store.declared.store.Store.{Store}
use Rattle.law_frame.specs.pg_run.pg_store.Servers.{next_target}
use Rattle.law_frame.specs.pg_run.pg_store.Views.{cut_each, enter, with_removed}
use Rattle.law_frame.proofs.pg_run.pg_store.Entered.{cuts_intents, enter_names}
use Rattle.law_frame.proofs.pg_run.pg_store.Entering.{enter_births}
use Rattle.law_frame.specs.pg_run.pg_pieces.Accepting.{ends_to}
use Rattle.law_frame.specs.pg_run.pg_pieces.Done.{Done, idle}
use Rattle.law_frame.specs.pg_run.pg_intentions.Inviting.{invite_along, invite_each, invite_of, invites, loose_edge}
use Rattle.law_frame.specs.pg_run.pg_calls.GivingUp.{doubt_all, enter_view}
use Rattle.law_frame.proofs.pg_run.theory_flood_pieces.Choices.{chosen}
use Rattle.law_frame.proofs.pg_run.theory_flood_pieces.Views.{whole_enter}
use Rattle.law_order.specs.Saying.{AreIntended, IsClosed, IsSaidOf, Saying}
use Rattle.law_order.specs.Sound.{AreTidy}
use Rattle.law_order.proofs.Intended.{turns_said}
use Rattle.law_order.proofs.NamesSay.{said_removed}
use Rattle.law_order.proofs.Sounding.{Sound}
use Rattle.law_order.proofs.Taking.{SoFar, so_tail, so_with}
use Rattle.law_order.proofs.Tidy.{tidy_removed}

module _ (p : Saying) (n s : ℕ) (a : Store) (server : ℕ) (k : Sound p n s a) where
  abbrev Files : List FileId
  Files = keys_of a.names.held

  abbrev Cut : Store
  Cut = cut_each server (with_removed a server) Files

  abbrev to : ℕ
  to = next_target Cut server

  -- its edges are of no intention
  cut_is : Cut.intents ≡ a.intents
  cut_is = cuts_intents server Files (with_removed a server)

  own_keys : HaveOwnKeys (enter a server).intents
  own_keys = own-turned (keys_to server Cut.intents) Cut.intents to (subst HaveOwnKeys (sym cut_is) k.keys)

  intended : AreIntended p (enter a server).intents
  intended = turns_said p (keys_to server Cut.intents) Cut.intents to (subst (AreIntended p) (sym cut_is) k.named.intents)

  -- THE VIEW IS ENTERED
  pub sound_enter : Sound p n s (enter a server)
  sound_enter =
      let names = enter_names a server in
      record {
        whole = whole_enter n s server a k.whole;
        births = enter_births a server k.births;
        keys = own_keys;
        named = record {
          tidy = subst (λ (m : NamesValue). AreTidy m) (sym names) (tidy_removed a.names server k.named.tidy);
          said = subst (λ (m : NamesValue). IsSaidOf p m) (sym names) (said_removed p a.names server k.named.said);
          intents = intended;
        };
      }

module _ (p : Saying) (c : IsClosed p) (n s : ℕ) where
  abbrev Far : Done → Type 0
  Far d = SoFar p c n s d

  -- ---- who is asked to be gold

  so_along : (b : Store) (f : FileId) (w : Work) (o : Option Edge) → Far (idle b w) → Far (idle b (invite_along b f o w))
  so_along b f w None k = k
  so_along b f w (Some e) k = so_tail p c n s (idle b w) e.peer (message.Invite (ends_to b f e.birth)) k tt

  so_invites : (b : Store) (fs : List FileId) (w : Work) → Far (idle b w) → Far (idle b (invite_each b fs w))
  so_invites b [] w k = k
  so_invites b (f ∷ fs) w k =
      so_invites b fs (invite_of b f w)
      (chosen (λ (v : Work). Far (idle b v)) (invites b f) (invite_along b f (loose_edge b f) w) w (so_along b f w (loose_edge b f) k) k)

  -- ---- all of it

  pub so_entered : (d : Done) (server : ℕ) → Far d → Far (enter_view d.store server d.work)
  so_entered d server k =
      let b = enter d.store server in
      let w = doubt_all b d.work in
      so_invites b (keys_of b.names.held) w
      (so_with p c n s d b w k (sound_enter p n s d.store server k.store) (record { left = refl; sent = refl; tail = refl }))
