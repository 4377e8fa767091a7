-- What an event keeps of names: its first effect, then the house rules, and flags that are raised
-- behind them. Intentions that end and begin leave names.
use Rattle.std.proofs.Common.{ℕ, ◌≡◌, true, Option, drop, length, sym, subst}
use Rattle.law_frame.specs.pg_run.pg_base.declared.id.FileId.{FileId}
use Rattle.law_frame.specs.pg_run.pg_register.declared.flag.Flag.{Flag}
use Rattle.law_frame.specs.pg_run.pg_msg.declared.work.Work.{Work}
use Rattle.law_frame.specs.pg_run.pg_msg.Work.{new_work}
use Rattle.law_frame.specs.pg_run.pg_call.declared.reply.Reply.{Reply}
use Rattle.law_frame.specs.pg_run.pg_house.House.{house}
use Rattle.law_frame.specs.pg_run.pg_house.Work.{state_of}
use Rattle.law_frame.specs.pg_run.pg_msg.declared.message.Packet.{Packet}
use Rattle.law_frame.specs.pg_run.pg_names.Names.{NamesValue, join_flag}
use Rattle.law_frame.specs.pg_run.pg_store.declared.store.Store.{Store}
use Rattle.law_frame.specs.pg_run.pg_store.Store.{is_newer_flag, put_flag, with_names}
use Rattle.law_frame.specs.pg_run.pg_pieces.Done.{Done, idle}
use Rattle.law_frame.specs.pg_run.pg_pieces.Making.{own_next, raise_flag}
use Rattle.law_frame.specs.pg_run.pg_cells.Settling.{rules}
use Rattle.law_frame.proofs.pg_run.pg_cells.Settled.{settle_keeps}
use Rattle.law_frame.proofs.pg_run.pg_intentions.Steady.{begin_end_stays}
use Rattle.law_frame.specs.pg_run.pg_server.declared.input.Input.{Input}
use Rattle.law_frame.specs.pg_run.pg_server.declared.input.Input.TheVariants as input
use Rattle.law_frame.specs.pg_run.pg_server.Local.{Effect, closed, effect, finished, first_effect, is_heard, receive, reply_to, settled, takes_effect}
use Rattle.law_frame.proofs.pg_run.theory_flood_pieces.Choices.{chosen, decided}
use Rattle.law_frame.proofs.pg_run.theory_flood_pieces.Touching.{same_names}

-- what the house rules keep, and a flag that comes, all of it keeps that stands behind the first
-- effect
pub record RulesKeep (P : NamesValue → Type 0) : Type 0 where
  pub rules : (moment : ℕ) (s : NamesValue) (work : Work) → P s → P (house moment (state_of s work)).names
  pub flag : (s : NamesValue) (f : FileId) (g : Flag) → P s → P (join_flag s f g)

module _ (P : NamesValue → Type 0) (k : RulesKeep P) where
  abbrev OfDone : Done → Type 0
  OfDone d = P d.store.names

  ruled_kept : (a : Store) (work : Work) → P a.names → OfDone (rules a work)
  ruled_kept a work h =
      let st = house work.now (state_of a.names work) in
      subst P (sym (same_names (with_names a st.names) (drop (length work.touched) st.work.touched))) (k.rules work.now a.names work h)

  raised_kept : (a : Store) (f : FileId) (work : Work) → P a.names → OfDone (raise_flag a f work)
  raised_kept a f work h =
      let g = own_next a f true in
      chosen (λ (b : Store). P b.names) (is_newer_flag a f g) (put_flag a f g) a (k.flag a.names f g h) h

  settled_kept : (d : Done) → OfDone d → OfDone (settled d)
  settled_kept d h = settle_keeps (λ (a : Store) (work : Work). P a.names) ruled_kept (λ a f work less. raised_kept a f work) d.store d.work h

  closed_kept : (r : Option Reply) (d : Done) → OfDone d → P (closed r d).store.names
  closed_kept r d h = subst P (sym (begin_end_stays (settled d).store (settled d).work).names) (settled_kept d h)

  -- so an event keeps what its first effect and these keep
  pub effect_kept : (a : Store) (asked : Input) → OfDone (first_effect a asked) → P (effect a asked).store.names
  effect_kept a asked h =
      let d = first_effect a asked in
      let r = reply_to a asked in
      chosen (λ (e : Effect). P e.store.names) (takes_effect a asked) (closed r d) (finished r d) (closed_kept r d h) h

-- where a message is not heard nothing is done
pub arrival_kept : (P : NamesValue → Type 0) (a : Store) (packet : Packet) → P a.names
    → (is_heard a packet ≡ true → P (receive a packet.message (new_work 0 packet.from)).store.names)
    → P (first_effect a (input.Arrival packet)).store.names
arrival_kept P a packet h come =
    decided (λ (d : Done). P d.store.names) (is_heard a packet) (receive a packet.message (new_work 0 packet.from)) (idle a (new_work 0 packet.from)) come (λ none. h)
