-- Ticks, messages and restarts make no version.
use Rattle.std.proofs.Common.{ℕ, ◌≡◌, ◌≢◌, ◌==◌, ◌&&◌, Bool, true, false, not, cond, List, [], ◌++◌, map, Option, None, Some, refl, sym, ap, subst, ◌∙◌, arith}
use Rattle.std.specs.Prelude.{nat_le}
use Rattle.std.proofs.lemmas.Bool.{and_parts}
use mathlib.Core.Path.{fun_ext}
use Rattle.pg_run.specs.pg_announced.Announced.{AreSorted}
use Rattle.pg_run.specs.pg_announced.declared.announced.Announced.{Announced}
use Rattle.pg_run.proofs.pg_announced.Sorted.{sorted_none, sorted_released}
use Rattle.pg_run.specs.pg_base.declared.id.FileId.{FileId}
use Rattle.pg_run.specs.pg_base.declared.policy.Policy.{Policy}
use Rattle.pg_run.specs.pg_call.declared.refusal.Refusal.TheVariants.{ClockEnd}
use Rattle.pg_run.specs.pg_call.declared.reply.Reply.TheVariants as reply
use Rattle.pg_run.specs.pg_msg.declared.message.Packet.{Packet}
use Rattle.pg_run.specs.pg_msg.declared.work.Work.{Work}
use Rattle.pg_run.specs.pg_msg.Numbers.{is_in_range}
use Rattle.pg_run.specs.pg_msg.Work.{new_work}
use Rattle.pg_run.specs.pg_register.Flag.{is_removed}
use Rattle.pg_run.specs.Asking.{Asked}
use Rattle.pg_run.specs.Carried.{carried, gone_by}
use Rattle.pg_run.specs.Journal.{Born}
use Rattle.pg_run.specs.Run.{removed_then, took_after}
use Rattle.pg_run.specs.Took.{Take, take_of, without_gone}
use Rattle.pg_run.specs.pg_store.declared.store.Store.{Store}
use Rattle.pg_run.specs.pg_store.Seen.{removed_of, server_of, view_of}
use Rattle.pg_run.specs.theory_bodies.Telling.Telling.{Silent}
use Rattle.pg_run.specs.pg_store.Servers.{is_live_other}
use Rattle.pg_run.specs.pg_store.Store.{is_before_clock_end}
use Rattle.pg_run.specs.pg_pieces.Done.{Done, idle}
use Rattle.pg_run.specs.pg_cells.Sending.{is_any}
use Rattle.pg_run.specs.pg_cells.Ticks.{tick}
use Rattle.pg_run.specs.pg_intentions.Requests.{ask_all}
use Rattle.pg_run.specs.pg_server.declared.input.Input.TheVariants as input
use Rattle.pg_run.specs.pg_server.Local.{effect, is_heard, receive, sent_again, ticked, without_sources, without_volatile}
use Rattle.law_contents.proofs.Agreed.{Agrees}
use Rattle.law_contents.proofs.Asking.{all_asked_carry}
use Rattle.law_contents.proofs.Carrying.{Carries}
use Rattle.law_contents.proofs.Changes.{Keeps, Keeps-refl}
use Rattle.law_contents.proofs.Effects.{IsPassive, passive_by, quiet_both}
use Rattle.law_contents.proofs.Arrivals.{Arrives}
use Rattle.law_contents.proofs.Going.{came_left}
use Rattle.law_contents.proofs.Handlers.{walk_of_quiet}
use Rattle.law_contents.proofs.NotesCome.{fewer_come, tick_comes}
use Rattle.law_contents.proofs.Quiet.{Quiet, quiet_idle, quiet_store, quiet_then}
use Rattle.law_contents.proofs.Receiving.{receive_arrives}
use Rattle.law_contents.proofs.Sending.{more_carry}
use Rattle.law_contents.proofs.Servers.{Came, IsServer, Stands, came_of}
use Rattle.law_contents.proofs.Transfer.{noted_stands, noting}

-- wishes are lost
without_wishes : (a : Store) → Keeps a (record a { wishes = [] })
without_wishes a = record {
  server = refl;
  last = omega arith;
  files = omega arith;
  order = λ h. h;
  full = λ f h. h;
  each = λ f. refl;
  view = refl;
  notes = refl;
}

none_noted : (n : Announced) → None ≡ Some n → ⊥
none_noted n e = cc

some_sender : (n : ℕ) → nat_le 1 n ≡ true → n ≢ 0
some_sender n some none = absurd (let z : false ≡ true = sym (ap (nat_le 1) none) ∙ some in cc)

-- a server sent what is heard
pub heard_sender : (a : Store) (packet : Packet) → is_heard a packet ≡ true → packet.from ≢ 0
heard_sender a packet heard =
    let live = and_parts (is_live_other a packet.from) (is_in_range packet.message)
    (and_parts (packet.view == view_of a)
    (is_live_other a packet.from && is_in_range packet.message)
    (and_parts (is_before_clock_end a) ((packet.view == view_of a)
    && (is_live_other a packet.from && is_in_range packet.message)) heard).1).1 in
    some_sender packet.from
    (and_parts (nat_le 1 packet.from) (nat_le packet.from a.servers
    && (not (packet.from == server_of a) && not (is_removed (removed_of a) packet.from)))
    live.0).0

module _ {s : ℕ} {a : Store} {us : List Born} {p : FileId → Policy} {N : FileId → Type 0}
    (before : List Take) (k : IsServer s a us p N (came_of before)) (wants : Asked)
    (agrees : Agrees a us (came_of before) wants) where
  -- ---- a tick

  module _ (moment word : ℕ) where
    abbrev work : Work
    work = new_work moment 0

    abbrev first : Bool → Done
    first t = cond t (ticked a word work) (idle a work)

    -- nobody is asked any more
    abbrev Behind : Store
    Behind = without_sources a

    still : Quiet us p N a work (idle a work)
    still = quiet_idle us p N a work

    behind_sorted : AreSorted Behind.announced
    behind_sorted = sorted_released a.announced k.stands.sorted

    behind_stands : Stands s Behind us p (came_of before)
    behind_stands =
        noted_stands k moment 0 (idle a work) still Silent tt Behind.announced behind_sorted
        (tick_comes s Silent a.announced)

    abbrev asked : Work
    asked = ask_all Behind (tick Behind work)

    asked_quiet : Quiet us p N Behind work (idle Behind asked)
    asked_quiet = record {
      keeps = Keeps-refl Behind;
      none = refl;
      takes = λ q. refl;
      sent = λ h. all_asked_carry us p N Behind (tick Behind work)
          (more_carry behind_stands N is_any work.sent h);
      tail = λ h. h;
    }

    again_quiet : Quiet us p N a work (idle a (sent_again Behind word work))
    again_quiet =
        let q = quiet_then us p N asked_quiet (walk_of_quiet us p N Behind asked word) in
        record {
          keeps = Keeps-refl a;
          none = q.none;
          takes = q.takes;
          sent = q.sent;
          tail = q.tail;
        }

    ticked_arrives
        : Arrives s a us p N (came_of before) (first true) (map take_of (first true).work.made ++ [])
    ticked_arrives =
        noting k moment 0 (idle a work) still Silent tt Behind.announced behind_sorted
        (tick_comes s Silent a.announced) (sent_again Behind word work) again_quiet

    -- A TICK
    pub tick_passive : IsPassive s a us p N (effect a (input.Tick moment word))
        (took_after a wants before (input.Tick moment word))
    tick_passive =
        passive_by before k (removed_then a (input.Tick moment word)) before
        (Some (cond (is_before_clock_end a) reply.Done (reply.Refused ClockEnd))) first
        (λ t. map take_of (first t).work.made ++ []) (is_before_clock_end a)
        (λ e. ticked_arrives)
        (quiet_both before k moment 0 (first false) still).1

  -- ---- a message

  module _ (packet : Packet) (h : Carries us p N packet.message) where
    abbrev arrived : Bool → Done
    arrived t =
        cond t (receive a packet.message (new_work 0 packet.from))
        (idle a (new_work 0 packet.from))

    -- whose replica goes
    abbrev gone : Option FileId
    gone = gone_by a packet.from packet.message

    left_arrives : is_heard a packet ≡ true → Arrives s a us p N (came_of (without_gone gone before)) (arrived true)
        (map take_of (arrived true).work.made ++ carried a wants packet.from packet.message)
    left_arrives heard =
        subst (λ (c : Came). Arrives s a us p N c (arrived true)
        (map take_of (arrived true).work.made ++ carried a wants packet.from packet.message))
        (sym (fun_ext (came_left gone before)))
        (receive_arrives k packet.from (heard_sender a packet heard) wants agrees packet.message h)

    -- A MESSAGE
    pub arrived_passive : IsPassive s a us p N (effect a (input.Arrival packet))
        (took_after a wants before (input.Arrival packet))
    arrived_passive =
        passive_by before k (removed_then a (input.Arrival packet)) (without_gone gone before) None arrived
        (λ t. map take_of (arrived t).work.made ++ carried a wants packet.from packet.message)
        (is_heard a packet) left_arrives
        (quiet_both before k 0 packet.from (arrived false)
        (quiet_idle us p N a (new_work 0 packet.from))).1

  -- ---- a restart

  -- wishes are lost, and what is noted
  abbrev Bare : Store
  Bare = record a { wishes = [] }

  abbrev restarted : Done
  restarted = idle (without_volatile a) (new_work 0 0)

  bare_quiet : Quiet us p N a (new_work 0 0) (idle Bare (new_work 0 0))
  bare_quiet = quiet_store us p N a Bare (new_work 0 0) (without_wishes a)

  restarted_arrives : Arrives s a us p N (came_of before) restarted []
  restarted_arrives =
      noting k 0 0 (idle Bare (new_work 0 0)) bare_quiet Silent tt [] (sorted_none [] refl)
      (fewer_come s Silent a.announced [] (λ f stamp n e. absurd (none_noted n e))) (new_work 0 0)
      (quiet_idle us p N Bare (new_work 0 0))

  -- A RESTART
  pub restart_passive : IsPassive s a us p N (effect a input.Restart)
      (took_after a wants before input.Restart)
  restart_passive =
      passive_by before k (removed_then a input.Restart) before None (λ t. restarted)
      (λ t. map take_of restarted.work.made ++ []) (is_before_clock_end a) (λ e. restarted_arrives)
      restarted_arrives
