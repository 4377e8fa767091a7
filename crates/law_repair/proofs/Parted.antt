-- Two replicas of a thing that are apart where all is quiet: what is asked of a world for this is
-- one word, which is computed in one walk over the events of a run.
use Rattle.std.proofs.Common.{ℕ, ◌≡◌, ◌&&◌, not, Bool, true, false, List, [], ◌∷◌, Option, None, Some, is_some, refl, sym, ap, ◌∙◌, inl, inr}
use Rattle.std.proofs.lemmas.Bool.{and_parts, false≢true, not-true}
use Rattle.pg_run.specs.pg_base.declared.id.FileId.{FileId}
use Rattle.pg_run.specs.pg_base.declared.id.Kind.TheVariants.{Dir}
use Rattle.pg_run.specs.pg_base.Id.{is_same_file}
use Rattle.pg_run.specs.pg_edges.declared.edge.Edge.{Edge}
use Rattle.pg_run.specs.pg_edges.Edges.{is_listed}
use Rattle.pg_run.specs.pg_event.declared.event.Event.{Event}
use Rattle.pg_run.specs.pg_names.declared.attributes.Attributes.{Attributes}
use Rattle.pg_run.specs.pg_names.Names.{own_at}
use Rattle.pg_run.specs.pg_patch.Ranges.{applied}
use Rattle.pg_run.specs.pg_replica.declared.replica.Replica.{Replica}
use Rattle.pg_run.specs.pg_store.Store.{replica_at}
use Rattle.pg_run.specs.Graphs.{HasEdge, Holds, IsChain, IsConnected}
use Rattle.pg_run.specs.Quiet.{IsQuiet, quiet_of}
use Rattle.pg_run.specs.Run.{World, is_live, run}
use Rattle.pg_run.proofs.QuietAnswers.{quiet_is_told}
use Rattle.law_repair.specs.Witness.{ArePartedBy, LossParts, moved, parting}
use Rattle.law_repair.proofs.Unkept.{quiet_by, waits}

-- ---- what is computed

abbrev has_none : List Edge → Bool
has_none [] = true
has_none (e ∷ es) = false

-- there is a replica, with no edge
abbrev is_alone : Option Replica → Bool
is_alone None = false
is_alone (Some x) = has_none x.edges

-- it stands in this directory
abbrev is_in : FileId → Option Attributes → Bool
is_in dir None = false
is_in dir (Some own) = is_same_file own.place.parent dir

-- all is quiet; and of two live servers that hold the thing one has no edge for it, and has it in
-- this directory, and the other does not
abbrev is_parted : ℕ → World → FileId → ℕ → ℕ → FileId → Bool
is_parted n w file s t dir = not (waits n w) && (is_live n w s && (is_live n w t
    && (is_alone (replica_at (w.stores s) file) && (is_some (replica_at (w.stores t) file)
    && (is_in dir (own_at (w.stores s).names file) && not (is_in dir (own_at (w.stores t).names file)))))))

-- ---- what it says

unlisted : (es : List Edge) (peer birth : ℕ) → has_none es ≡ true → is_listed es peer birth ≡ true → ⊥
unlisted [] peer birth none h = false≢true h
unlisted (e ∷ es) peer birth none h = false≢true none

alone_there : (o : Option Replica) → is_alone o ≡ true → (x : Replica) × (o ≡ Some x)
alone_there None h = absurd (false≢true h)
alone_there (Some x) h = (x, refl)

some_there : (o : Option Replica) → is_some o ≡ true → (x : Replica) × (o ≡ Some x)
some_there None h = absurd (false≢true h)
some_there (Some x) h = (x, refl)

module _ (n : ℕ) (w : World) (file : FileId) (s t : ℕ) (dir : FileId) (is : is_parted n w file s t dir ≡ true) where
  facts : (waits n w ≡ false) × (is_live n w s ≡ true) × (is_live n w t ≡ true) × (is_alone (replica_at (w.stores s) file) ≡ true)
      × (is_some (replica_at (w.stores t) file) ≡ true) × (is_in dir (own_at (w.stores s).names file) ≡ true)
      × (is_in dir (own_at (w.stores t).names file) ≡ false)
  facts =
      let quiet = and_parts (not (waits n w)) _ is in
      let here = and_parts (is_live n w s) _ quiet.1 in
      let there = and_parts (is_live n w t) _ here.1 in
      let alone = and_parts (is_alone (replica_at (w.stores s) file)) _ there.1 in
      let held = and_parts (is_some (replica_at (w.stores t) file)) _ alone.1 in
      let place = and_parts (is_in dir (own_at (w.stores s).names file)) _ held.1 in (
        not-true (waits n w) quiet.0,
        here.0,
        there.0,
        alone.0,
        held.0,
        place.0,
        not-true (is_in dir (own_at (w.stores t).names file)) place.1,
      )

  no_edge : (u : ℕ) → HasEdge w file s u → ⊥
  no_edge u h = unlisted h.here.replica.edges u h.there.replica.birth (sym (ap is_alone h.here.is) ∙ facts.3) h.names

  no_chain : (u : ℕ) (us : List ℕ) → IsChain w file s us u → ⊥
  no_chain u [] h = no_edge u h
  no_chain u (v ∷ vs) h = no_edge v h.0

  differ : own_at (w.stores s).names file ≡ own_at (w.stores t).names file → ⊥
  differ same = false≢true (sym facts.6 ∙ ap (is_in dir) (sym same) ∙ facts.5)

  here : Holds w file s
  here = let x = alone_there (replica_at (w.stores s) file) facts.3 in record { replica = x.0; is = x.1 }

  there : Holds w file t
  there = let x = some_there (replica_at (w.stores t) file) facts.4 in record { replica = x.0; is = x.1 }

  apart : IsConnected n w file → ⊥
  apart connected = elim (connected s t facts.1 facts.2 here there) [
    | inl same ↦ differ (ap (λ i. own_at (w.stores i).names file) same)
    | inr joined ↦ no_chain t joined.0 joined.1
  ]

  quiet : IsQuiet n w
  quiet = (quiet_is_told n w).0 (quiet_by (quiet_of n w) facts.0)

parted_by : (n : ℕ) (events : List Event) (file : FileId) (s t : ℕ) (dir : FileId) → is_parted n (run n events) file s t dir ≡ true
    → ArePartedBy n file events
parted_by n events file s t dir is = record {
  quiet = quiet n (run n events) file s t dir is;
  apart = apart n (run n events) file s t dir is;
  here = s;
  there = t;
  differ = differ n (run n events) file s t dir is;
}

-- ---- the run

pub loss_parts : LossParts
unfolding applied
loss_parts = parted_by 3 parting moved 2 3 (record { kind = Dir; server = 1; number = 1 }) refl
