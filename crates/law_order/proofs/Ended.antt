-- An event behind its first effect: the house rules run, intentions begin and end, and what is
-- touched is sent.
use Rattle.std.proofs.Common.{ℕ, ◌++◌, sym, subst}
use Rattle.std.proofs.lemmas.List.Elements.{All-append}
use Rattle.law_frame.specs.pg_run.pg_call.declared.reply.Reply.{Reply}
use Rattle.law_frame.specs.pg_run.pg_msg.declared.message.Sent.{Sent}
use Rattle.law_frame.specs.pg_run.pg_msg.declared.work.Work.{Work}
use Rattle.std.specs.Prelude.{Option}
use Rattle.law_frame.specs.pg_run.pg_store.declared.store.Store.{Store}
use Rattle.law_frame.specs.pg_run.pg_pieces.Done.{Done, idle}
use Rattle.law_frame.specs.pg_run.pg_cells.Finish.{finish}
use Rattle.law_frame.specs.pg_run.pg_cells.Settling.{settle}
use Rattle.law_frame.proofs.pg_run.pg_cells.Settled.{settle_gives}
use Rattle.law_frame.specs.pg_run.pg_intentions.Beginning.{begin_end}
use Rattle.law_frame.specs.pg_run.pg_intentions.Requests.{ask_begun}
use Rattle.law_frame.proofs.pg_run.pg_intentions.Idle.{FillsFit, fills_fit}
use Rattle.law_frame.proofs.pg_run.pg_intentions.Steady.{begin_end_stays}
use Rattle.law_frame.specs.pg_run.pg_server.Local.{Effect, closed, finished}
use Rattle.law_order.specs.Saying.{IsClosed, IsSaidOfMessage, Saying}
use Rattle.law_order.specs.Sound.{IsSettled}
use Rattle.law_order.proofs.BirthsStay.{given_end}
use Rattle.law_order.proofs.HouseSays.{AreLeft}
use Rattle.law_order.proofs.Intended.{keeps_end}
use Rattle.law_order.proofs.Sent.{AreSaidOf, end_said}
use Rattle.law_order.proofs.Settled.{settled}
use Rattle.law_order.proofs.Sounding.{Sound, sound_alike}
use Rattle.law_order.proofs.Taking.{IsMember, SoFar, so_raised, so_rules}

-- behind an event: Fills stand of just what is to be filled, and names are as the house rules leave
-- them
pub record IsAtRest (p : Saying) (n s : ℕ) (a : Store) : Type 0 where
  pub sound : Sound p n s a
  pub fills : FillsFit a
  pub settled : IsSettled a.names

-- and what was sent in it
pub record IsDone (p : Saying) (n s : ℕ) (e : Effect) : Type 0 where
  pub rest : IsAtRest p n s e.store
  pub sent : AreSaidOf p e.out.sent

module _ (p : Saying) (c : IsClosed p) (n s : ℕ) where
  -- INTENTIONS BEGIN AND END
  pub sound_end : (a : Store) (w : Work) → Sound p n s a → AreLeft p c w.left → Sound p n s (begin_end a w).store
  sound_end a w k left =
      let stays = begin_end_stays a w in
      let given = given_end (idle a w) (k.whole.together, k.births, k.keys) in
      sound_alike p n s a k (begin_end a w).store
      (record { servers = stays.servers; tags = stays.tags; names = stays.names; replicas = stays.replicas })
      given.1 given.2
      (keeps_end p c a w (k.named.said, k.named.intents) left).1

  -- THE HOUSE RULES RUN, and golds are raised
  abbrev IsBehindRules : Done → Type 0
  IsBehindRules d = SoFar p c n s d × IsSettled d.store.names

  so_settled : (mine : IsMember p n s) (d : Done) → SoFar p c n s d → IsBehindRules (settle d.store d.work)
  so_settled mine d k =
      settle_gives (SoFar p c n s) IsBehindRules
      (λ e far. (so_rules p c n s e far, settled e.store e.work far.store.whole.names))
      (λ e f behind none. so_raised p c n s e f mine behind.0) d k

  -- what is sent at the end, with what goes last
  done_said : (a : Store) (sound : Sound p n s a) (w : Work) → AreSaidOf p w.sent → AreSaidOf p w.tail → AreSaidOf p ((ask_begun a (finish a w)).sent ++ w.tail)
  done_said a sound w sent tail =
      All-append (λ (m : Sent). IsSaidOfMessage p m.packet.message) (ask_begun a (finish a w)).sent w.tail (end_said p n s a sound w sent) tail

  -- an event that takes effect
  pub closed_sound : (mine : IsMember p n s) (answer : Option Reply) (d : Done) → SoFar p c n s d → IsDone p n s (closed answer d)
  closed_sound mine answer d k =
      let m = settle d.store d.work in
      let behind = so_settled mine d k in
      let b = begin_end m.store m.work in
      let stays = begin_end_stays m.store m.work in
      let sound = sound_end m.store m.work behind.0.store behind.0.left in
      record {
        rest = record {
          sound = sound;
          fills = fills_fit m.store m.work;
          settled = subst IsSettled (sym stays.names) behind.1;
        };
        sent = done_said b.store sound b.work (subst (AreSaidOf p) (sym stays.sent) behind.0.sent) (subst (AreSaidOf p) (sym stays.tail) behind.0.tail);
      }

  -- and one that does not
  pub finished_sound : (answer : Option Reply) (d : Done) → IsAtRest p n s d.store → AreSaidOf p d.work.sent → AreSaidOf p d.work.tail → IsDone p n s (finished answer d)
  finished_sound answer d k sent tail = record { rest = k; sent = done_said d.store k.sound d.work sent tail }
