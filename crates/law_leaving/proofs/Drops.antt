-- What a replica that goes had, who gave it leave has.
use Rattle.std.proofs.Common.{ℕ, ◌≡◌, false, List, [], ◌∷◌, ◌++◌, Some, option_map, refl, sym, ap, subst, ◌∙◌}
use Rattle.std.proofs.lemmas.Bool.{false_from_ne_true}
use Rattle.pg_run.specs.pg_base.declared.id.FileId.{FileId}
use Rattle.pg_run.specs.pg_entries.declared.cell.Cell.{Cell}
use Rattle.pg_run.specs.pg_entries.declared.cell.Cell.TheVariants as cell
use Rattle.pg_run.specs.pg_event.declared.event.Event.{Event}
use Rattle.pg_run.specs.theory_flood.Server.{HoldsAll, Replica as Seen}
use Rattle.pg_run.proofs.theory_flood.Servers.{some_same}
use Rattle.theory_leaving.specs.Laws.{HasAll}
use Rattle.theory_leaving.specs.Protocol.{Word}
use Rattle.theory_leaving.proofs.Golds.{drop_law}
use Rattle.pg_run.specs.pg_msg.declared.message.Message.{Message}
use Rattle.pg_run.specs.pg_msg.declared.message.Sent.{Sent}
use Rattle.pg_run.specs.theory_flood_pieces.Seen.{plain, seen}
use Rattle.pg_run.specs.theory_flood_pieces.UpTo.{IsUpTo}
use Rattle.pg_run.proofs.theory_flood_pieces.Grown.{holds_itself}
use Rattle.pg_run.proofs.theory_flood_pieces.Stores.{plain_at}
use Rattle.pg_run.specs.pg_register.Flag.{is_removed}
use Rattle.pg_run.specs.pg_replica.declared.replica.Replica.{Replica}
use Rattle.pg_run.specs.pg_server.declared.input.Input.TheVariants as input
use Rattle.pg_run.specs.pg_store.declared.store.Store.{Store}
use Rattle.pg_run.specs.pg_store.Seen.{removed_of}
use Rattle.pg_run.specs.pg_store.Store.{replica_at}
use Rattle.pg_run.specs.Laws.{store_after}
use Rattle.pg_run.specs.Leaving.{Goes}
use Rattle.pg_run.specs.Run.{Taking, World, run}
use Rattle.pg_run.specs.Took.{Take}
use Rattle.law_leaving.specs.Laws.{HasAllOf}
use Rattle.law_leaving.proofs.Stands.{Stands}
use Rattle.law_leaving.specs.Seen.{leaving, turn, word_of}
use Rattle.law_leaving.specs.Taken.{IsTaken, site}
use Rattle.law_leaving.proofs.Flags.{seen_of, sound}
use Rattle.law_leaving.proofs.Kept.{kept}
use Rattle.law_leaving.proofs.Leaves.{IsLeave, leave_by}
use Rattle.law_leaving.proofs.Moments.{follows, went_now}
use Rattle.law_leaving.proofs.Words.{giver, leave_ok_says, speaker, speaks}

plain_taken : (takes : List Take) (file : FileId) (c : Cell) → IsTaken takes file (plain c) → IsTaken takes file c
plain_taken takes file (cell.Place p) h = h
plain_taken takes file (cell.Flag f) h = h
plain_taken takes file (cell.Entry e sure) h = h
plain_taken takes file (cell.Version v) h = h

-- a replica goes at server s by the leave of another that has all of it
pub record IsLeft (n : ℕ) (events : List Event) (s from : ℕ) (file : FileId) (m : Message) : Type 0 where
  pub leave : IsLeave (store_after n events s) from m file
  pub all : HasAllOf (run n events) s file from leave.ends.sender

module _ (n : ℕ) (file : FileId) (w : World) (s t birth : ℕ) where
  -- as the edges see it, and as it is
  all_of : is_removed (removed_of (w.stores s)) t ≡ false → (x : Replica) → replica_at (w.stores s) file ≡ Some x
      → HasAll (leaving n file) (site w t) birth (seen (w.stores s) file x) → HasAllOf w s file t birth
  all_of there x is h =
      let b = w.stores t in
      let r = seen_of b file h.replica (replica_at b file) refl h.held.0 in
      let P : Seen Cell → Type 0 = (λ z. HoldsAll IsUpTo (plain_at (w.stores s) file) z.cells) in
      let all : HoldsAll IsUpTo (plain_at (w.stores s) file) (plain_at b file) = subst P (sym r.2) h.all in
      record {
        there = there;
        cells = record {
          replica = r.0;
          held = r.1;
          born = ap (λ (z : Seen Cell). z.birth) r.2 ∙ h.held.1;
          all = λ k c at. holds_itself b file c (all k (plain c) (ap (option_map plain) at));
        };
        took = λ k c at. plain_taken (w.took t) file c (h.took k (plain c) (ap (option_map plain) at));
      }

module _ (n : ℕ) (on : Stands n) (events : List Event) (event : Event) (s from : ℕ) (file : FileId) (goes : Goes n events event s file from) where
  abbrev A : Store
  A = store_after n events s

  abbrev M : Message
  M = goes.packet.message

  left_by : IsLeave A goes.packet.from M file → IsLeft n events s from file M
  left_by leave =
      let x = leave.replica in
      let t : Taking = record { server = s; asked = input.Arrival goes.packet } in
      let d =
      drop_law (leaving n file) (sound n file) events (events ++ event ∷ []) (turn n events event t) (on.order file events) (kept n on file events)
      (record { follows = follows n events event file t goes.takes on.stay; rule = on.rule file events event t goes.takes (kept n on file events) })
      (on.unremoved events event t goes.takes) x.birth (seen A file x) (ap (option_map (seen A file)) leave.held, refl)
      (went_now n events event file s x from goes leave.held) in
      let m : Sent = record { to = s; packet = goes.packet } in
      let says : word_of file goes.packet.from s M ≡ Word.LeaveOk d.0 d.1 s x.birth =
      (let P : Sent → Type 0 = (λ z. word_of file z.packet.from z.to z.packet.message ≡ Word.LeaveOk d.0 d.1 s x.birth) in
      subst P (sym (some_same m d.2.0 d.2.1)) d.2.2) in
      let peer : d.0 ≡ from = ap (speaker goes.packet.from) (sym says) ∙ speaks file goes.packet.from s M ∙ goes.sender in
      let birth : d.1 ≡ leave.ends.sender =
      ap giver (sym says ∙ leave_ok_says file goes.packet.from s M leave.ends leave.stamp leave.is leave.of) in
      let all = all_of n file (run n events) s d.0 d.1 (false_from_ne_true (is_removed (removed_of A) d.0) d.3) x leave.held d.4 in
      let P : ℕ → Type 0 = (λ z. HasAllOf (run n events) s file z d.1) in
      let Q : ℕ → Type 0 = (λ z. HasAllOf (run n events) s file from z) in
      let R : ℕ → Type 0 = (λ z. IsLeave A z M file) in
      record { leave = subst R goes.sender leave; all = subst Q birth (subst P peer all) }

  pub left : IsLeft n events s from file M
  left = left_by (leave_by A goes.packet.from M file goes.gone)
