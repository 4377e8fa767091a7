-- Views are fronts of the removals, and stay such along a run.
use Rattle.std.proofs.Common.{ℕ, ◌≡◌, ◌≤◌, ◌==◌, ◌+◌, ◌++◌, true, List, length, take, sym, ap, subst, ◌∙◌, arith}
use Rattle.std.proofs.lemmas.Bool.{and_parts, eqb-true}
use Rattle.std.proofs.lemmas.List.{length-append, take-append-le}
use Rattle.pg_run.specs.pg_msg.declared.message.Packet.{Packet}
use Rattle.pg_run.specs.pg_register.declared.place.Place.{Place}
use Rattle.pg_run.specs.pg_register.Flag.{is_removed}
use Rattle.pg_run.specs.pg_store.declared.store.Store.{Store}
use Rattle.pg_run.specs.pg_store.Seen.{removed_of, view_of}
use Rattle.pg_run.specs.pg_store.Store.{is_before_clock_end}
use Rattle.pg_run.specs.pg_server.Local.{is_heard}
use Rattle.pg_run.specs.Journal.{removals}
use Rattle.pg_run.specs.Run.{Step, World, world_after}
use Rattle.pg_run.specs.Views.{IsInView, removed_by}
use Rattle.pg_run.proofs.Removals.{removals_grow}
use Rattle.law_returns.specs.Gate.{IsStillThere}

-- a front of some stays one of more
up_to : (v a b : ℕ) → v ≤ a → v ≤ a + b
up_to v a b h = omega arith

within_more : (v : ℕ) (xs ys zs : List ℕ) → zs ≡ xs ++ ys → v ≤ length xs → v ≤ length zs
within_more v xs ys zs e h =
    subst (λ (n : ℕ). v ≤ n) (sym (ap (λ (l : List ℕ). length l) e ∙ length-append xs ys)) (up_to v (length xs) (length ys) h)

module _ (w : World) (step : Step) where
  abbrev Then : World
  Then = world_after w step

  -- an entry more leaves what was a front
  pub within_on : (v : ℕ) → v ≤ length (removals w.journal) → v ≤ length (removals Then.journal)
  within_on v h =
      let more = removals_grow step.entry w.journal in
      within_more v (removals w.journal) more.0 (removals Then.journal) more.1 h

  pub front_on : (v : ℕ) → v ≤ length (removals w.journal) → removed_by Then v ≡ removed_by w v
  front_on v h =
      let more = removals_grow step.entry w.journal in
      ap (λ (l : List ℕ). take v l) more.1 ∙ take-append-le v (removals w.journal) more.0 h

  pub still_on : (v : ℕ) (place : Place) → v ≤ length (removals w.journal) → IsStillThere (removed_by Then v) place → IsStillThere (removed_by w v) place
  still_on v place h there = ap (λ (l : List ℕ). is_removed l place.stamp.server) (sym (front_on v h)) ∙ there

-- what is not removed by the view of a server is not removed there
pub view_still : (w : World) (s : ℕ) (a : Store) (v : ℕ) (place : Place) → IsInView w s a → v ≡ view_of a → IsStillThere (removed_by w v) place → IsStillThere (removed_of a) place
view_still w s a v place k same there =
    ap (λ (l : List ℕ). is_removed l place.stamp.server) (sym (ap (removed_by w) same ∙ k.front)) ∙ there

pub still_view : (w : World) (s : ℕ) (a : Store) (v : ℕ) (place : Place) → IsInView w s a → v ≡ view_of a → IsStillThere (removed_of a) place → IsStillThere (removed_by w v) place
still_view w s a v place k same there =
    ap (λ (l : List ℕ). is_removed l place.stamp.server) (ap (removed_by w) same ∙ k.front) ∙ there

pub view_within : (w : World) (s : ℕ) (a : Store) (v : ℕ) → IsInView w s a → v ≡ view_of a → v ≤ length (removals w.journal)
view_within w s a v k same = subst (λ (n : ℕ). n ≤ length (removals w.journal)) (sym same) k.within

-- what is heard has the server's view
pub heard_view : (a : Store) (packet : Packet) → is_heard a packet ≡ true → packet.view ≡ view_of a
heard_view a packet h = eqb-true packet.view (view_of a) (and_parts (packet.view == view_of a) _ (and_parts (is_before_clock_end a) _ h).1).0
