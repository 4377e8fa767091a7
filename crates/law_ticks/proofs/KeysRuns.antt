-- In every world that a run reaches each key on an edge has a cell.
use Rattle.std.proofs.Common.{ℕ, ◌≡◌, Bool, true, false, cond, Option, None, Some, refl, sym, subst, ◌∙◌}
use Rattle.std.proofs.lemmas.Option.{none-some, same_Some}
use Rattle.law_frame.specs.pg_run.pg_base.declared.id.FileId.{FileId}
use Rattle.law_frame.specs.pg_run.pg_base.Id.{is_same_file}
use Rattle.law_frame.specs.pg_run.pg_register.Place.{root}
use Rattle.law_frame.proofs.pg_run.theory_flood.Worlds.{clean_tags}
use Rattle.law_frame.specs.pg_run.pg_msg.declared.message.Packet.{Packet}
use Rattle.law_frame.specs.pg_run.pg_msg.Work.{new_work}
use Rattle.law_frame.specs.pg_run.pg_replica.declared.replica.Replica.{Replica}
use Rattle.law_frame.specs.pg_run.pg_replica.Root.{first_root}
use Rattle.law_frame.specs.pg_run.pg_store.declared.store.Store.{Store}
use Rattle.law_frame.specs.pg_run.pg_store.Store.{new_store, replica_at, with_names}
use Rattle.law_frame.specs.pg_run.pg_store.Views.{with_removed}
use Rattle.law_frame.specs.pg_run.pg_server.declared.input.Input.{Input}
use Rattle.law_frame.specs.pg_run.pg_server.declared.input.Input.TheVariants as input
use Rattle.law_frame.specs.pg_run.pg_server.Local.{effect, without_sources, without_volatile}
use Rattle.law_frame.proofs.pg_run.theory_flood_pieces.Graphs.{new_clean}
use Rattle.law_frame.specs.pg_run.Run.{World, run}
use Rattle.law_frame.proofs.pg_run.Event.{Comes, IsKeptByParts, store_kept}
use Rattle.law_frame.proofs.pg_run.Frame.{OutlivesEvents, each_after, holds_in_runs, no_server_comes}
use Rattle.law_ticks.specs.Laws.{KeysHaveCells}
use Rattle.law_frame.specs.pg_run.pg_names.Names.{NamesValue, remove_server}
use Rattle.law_frame.specs.pg_run.pg_edges.declared.key.Key.{Key}
use Rattle.law_ticks.proofs.Keyed.{NameHas}
use Rattle.law_ticks.proofs.KeysCells.{AllHaveCells, HaveCells, HaveIn, beside_have, entry_have, flag_have, named_have, place_have, removed_up}
use Rattle.law_ticks.proofs.KeysLinks.{acknowledged_have, kept_have, link_have, unlink_have}
use Rattle.law_ticks.proofs.Intended.{intended_left, settled_left}
use Rattle.law_ticks.proofs.KeysVersions.{begin_have, fill_have, goes_have, ruled_have, version_have, write_have}
use Rattle.law_ticks.proofs.Called.{called}
use Rattle.law_ticks.proofs.Pieces.{OutlivesPieces, received}

pieces : OutlivesPieces AllHaveCells
pieces = record {
  place = λ a f place h. place_have a f place h;
  flag = λ a f flag h. flag_have a f flag h;
  entry = λ a d e h. entry_have a d e h;
  version = λ a f v h. version_have a f v h;
  keeps = λ a f d h. kept_have a f d h;
  write = λ a f stamp ranges h. write_have a f stamp ranges h;
  link = λ a f peer birth h. link_have a f peer birth h;
  unlink = λ a f peer birth h. unlink_have a f peer birth h;
  answer = λ a f edge k tag h. acknowledged_have a f edge k tag h;
  begin = λ a f birth policy own full h. begin_have a f birth policy own full h;
  fill = λ a f h. fill_have a f h;
  goes = λ a f h. goes_have a f h;
  beside = λ a b names replicas h. unseen_have a b names replicas h;
  removed = λ a server h.
      unseen_have (with_names a (remove_server a.names server)) (with_removed a server) refl refl
      (named_have a (remove_server a.names server) (removed_up a.names server) h);
  rules = λ a work h. ruled_have a work h;
}
  where
    unseen_have : (a b : Store) → b.names ≡ a.names → b.replicas ≡ a.replicas → AllHaveCells a → AllHaveCells b
    unseen_have a b names replicas h =
        let P : NamesValue → Type 0 = λ s. (f : FileId) (k : Key) → NameHas a.names f k → NameHas s f k in
        beside_have a b replicas (subst P (sym names) (λ f k x. x)) h

-- any packet may come
abbrev Any : Packet → Type 0
Any packet = Unit {0}

comes : (asked : Input) → Comes Any asked
comes (input.Call moment call) = tt
comes (input.Tick moment word) = tt
comes (input.Arrival packet) = tt
comes input.Restart = tt

parts : IsKeptByParts Any AllHaveCells
parts = record {
  calls = λ a moment c h. called AllHaveCells pieces a c (new_work moment 0) h;
  arrivals = λ a packet heard came h. received AllHaveCells pieces a packet.message (new_work 0 packet.from) h;
  ticks = λ a h. pieces.beside a (without_sources a) refl refl h;
  restarts = λ a h. pieces.beside a (without_volatile a) refl refl h;
  rules = λ d h. settled_left AllHaveCells pieces d.store d.work h;
  intentions = λ d h. intended_left AllHaveCells pieces d.store d.work h;
}

effect_have : (a : Store) (asked : Input) → AllHaveCells a → AllHaveCells (effect a asked).store
effect_have a asked h = store_kept Any AllHaveCells parts a asked (comes asked) h

-- ---- the start

start_by : (n s : ℕ) (f : FileId) (t : Bool) → HaveIn (new_store n s) f (cond t (Some (first_root s n)) None)
start_by n s f true = λ p b q g h. absurd (none-some g (sym (clean_tags (first_root s n).edges p b q (new_clean n s)) ∙ h))
start_by n s f false = tt

start_have : (n s : ℕ) → AllHaveCells (new_store n s)
start_have n s = record { each = λ f. start_by n s f (is_same_file f root) }

-- ---- any run

abbrev EachHasCells : World → Type 0
EachHasCells w = (s : ℕ) → AllHaveCells (w.stores s)

outlives : (n : ℕ) → OutlivesEvents n EachHasCells
outlives n = record {
  first = λ s. start_have n s;
  idle = λ w event cause h. h;
  comes = λ past event server is k. absurd (no_server_comes event server is);
  acts = λ events event t is k h.
      (let w = run n events in
      each_after (λ s a. AllHaveCells a) w.stores t.server (effect (w.stores t.server) t.asked).store h (effect_have (w.stores t.server) t.asked (h t.server)));
}

-- of a replica that is held
found_by : (a : Store) (f : FileId) (o : Option Replica) (x : Replica) → o ≡ Some x → HaveIn a f o → HaveCells a f x.edges
found_by a f None x e h = absurd (none-some x e)
found_by a f (Some y) x e h = subst (λ (z : Replica). HaveCells a f z.edges) (same_Some y x e) h

-- KEYS ARE CELLS, after all events
pub run_cells : (n : ℕ) → KeysHaveCells n
run_cells n events s least most f x p b q g held h =
    let a = (run n events).stores s in
    found_by a f (replica_at a f) x held ((holds_in_runs n EachHasCells (outlives n) events s).each f) p b q g h
