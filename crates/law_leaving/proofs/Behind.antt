-- What a server holds behind an event: each replica is held on, or goes; and what went is over.
use Rattle.std.proofs.Common.{ℕ, ◌≡◌, true, List, [], ◌∷◌, ◌++◌, append_assoc, Option, None, Some, option_map, eq-eqb, refl, sym, ap, subst, ◌∙◌, inl, inr, ◌⊎◌}
use Rattle.std.proofs.lemmas.Bool.{false≢true}
use Rattle.std.proofs.lemmas.Option.{none-some, same_Some}
use Rattle.pg_run.specs.pg_base.declared.id.FileId.{FileId}
use Rattle.pg_run.specs.pg_edges.declared.key.Key.{Key}
use Rattle.pg_run.specs.pg_entries.declared.cell.Cell.{Cell}
use Rattle.pg_run.specs.pg_event.declared.event.Event.{Event}
use Rattle.pg_run.specs.theory_flood.Server.{Holds}
use Rattle.pg_run.proofs.theory_flood.Flood.{after_itself}
use Rattle.pg_run.specs.theory_flood_pieces.UpTo.{IsUpTo}
use Rattle.pg_run.specs.pg_replica.declared.replica.Replica.{Replica}
use Rattle.pg_run.specs.pg_replica.Replicas.{is_of_birth}
use Rattle.pg_run.specs.pg_server.declared.input.Input.{Input}
use Rattle.pg_run.specs.pg_server.declared.input.Input.TheVariants as input
use Rattle.pg_run.specs.pg_server.Local.{effect, takes_effect}
use Rattle.pg_run.specs.pg_store.declared.store.Store.{Store}
use Rattle.pg_run.specs.pg_store.Cells.{cell_at}
use Rattle.pg_run.specs.pg_store.Store.{replica_at}
use Rattle.pg_run.specs.pg_store.Together.{IsOver, birth_at}
use Rattle.pg_run.proofs.pg_store.Over.{over_stays}
use Rattle.pg_run.specs.Carried.{gone_in}
use Rattle.pg_run.specs.Laws.{TakesIn, store_after}
use Rattle.pg_run.specs.Leaving.{Goes, Went, WhatWentIsOver}
use Rattle.pg_run.specs.Run.{Step, World, run, start}
use Rattle.pg_run.proofs.Frame.{acts_is, next_is, run_more}
use Rattle.law_leaving.specs.Premises.{StandOn}

-- a replica is held on in another store, with its birth, and holds no less there
pub record IsHeldOn (a b : Store) (file : FileId) (x : Replica) : Type 0 where
  pub replica : Replica
  pub held : replica_at b file ≡ Some replica
  pub born : replica.birth ≡ x.birth
  pub cells : (k : Key) (c : Cell) → cell_at a file k ≡ Some c → Holds IsUpTo (cell_at b file) c

-- where a server takes an input, what is held is held on, or goes
abbrev pub EachStaysOrGoes : ℕ → Type 0
EachStaysOrGoes n = (events : List Event) (event : Event) (s : ℕ) (asked : Input) → TakesIn n (run n events) event s asked
    → (file : FileId) (x : Replica) → replica_at (store_after n events s) file ≡ Some x
    → IsHeldOn (store_after n events s) (store_after n (events ++ event ∷ []) s) file x
    ⊎ ((from : ℕ) × Goes n events event s file from)

-- the replica of a birth
pub born_at : (o : Option Replica) (birth : ℕ) → option_map (λ (x : Replica). x.birth) o ≡ Some birth
    → (x : Replica) × (o ≡ Some x) × (x.birth ≡ birth)
born_at None birth e = absurd (none-some birth e)
born_at (Some x) birth e = (x, refl, same_Some x.birth birth e)

-- what is over is not held
pub over_not : (a : Store) (file : FileId) (birth : ℕ) → IsOver a file birth → birth_at a file ≡ Some birth → ⊥
over_not a file birth over e =
    let x = born_at (replica_at a file) birth e in
    false≢true (sym over.away ∙ ap (λ o. is_of_birth o birth) x.1 ∙ eq-eqb x.0.birth birth x.2)

module _ (n : ℕ) where
  -- behind an event in which a server takes an input
  pub behind_is : (events : List Event) (event : Event) (s : ℕ) (asked : Input) → TakesIn n (run n events) event s asked
      → store_after n (events ++ event ∷ []) s ≡ (effect (store_after n events s) asked).store
  behind_is events event s asked is =
      let W = run n events in
      ap (λ (v : World). v.stores s) (run_more n (start n) events event)
      ∙ ap (λ (z : Step). z.stores s) (next_is n W event (record { server = s; asked = asked }) is)
      ∙ after_itself W.stores s (effect (W.stores s) asked).store

  -- what went in these events went in these and one more
  abbrev pub went_more : (events : List Event) (event : Event) (s : ℕ) (file : FileId) (x : Replica) → Went n events s file x
      → Went n (events ++ event ∷ []) s file x
  went_more events event s file x w =
      let split : events ++ event ∷ [] ≡ w.before ++ w.event ∷ (w.behind ++ event ∷ []) =
      ap (λ es. es ++ event ∷ []) w.split ∙ append_assoc w.before (w.event ∷ w.behind) (event ∷ []) in
      record { before = w.before; event = w.event; behind = w.behind ++ event ∷ []; split = split; from = w.from; goes = w.goes; stood = w.stood }

  module _ (on : StandOn n) where
    -- WHAT WENT IS OVER
    pub what_went_is_over : WhatWentIsOver n
    what_went_is_over events s file x w =
        let a = store_after n w.before s in
        let asked = input.Arrival w.goes.packet in
        let more = w.before ++ w.event ∷ [] in
        let acts = acts_is n (run n w.before) w.event (record { server = s; asked = asked }) w.goes.takes in
        let then : IsOver (effect a asked).store file x.birth =
        on.events.over w.before w.event s asked w.goes.takes file x.birth w.goes.heard w.goes.gone (ap (option_map (λ (r : Replica). r.birth)) w.stood) in
        let over : IsOver (store_after n more s) file x.birth =
        subst (λ (z : Store). IsOver z file x.birth) (sym (behind_is w.before w.event s asked w.goes.takes)) then in
        let whole : more ++ w.behind ≡ events = append_assoc w.before (w.event ∷ []) w.behind ∙ sym w.split in
        subst (λ (es : List Event). IsOver (store_after n es s) file x.birth) whole
        (over_stays (store_after n more s) (store_after n (more ++ w.behind) s) file x.birth
        (on.births.on more w.behind s acts.least acts.most) over)

    goes_by : (events : List Event) (event : Event) (s : ℕ) (file : FileId) (asked : Input) → TakesIn n (run n events) event s asked
        → takes_effect (store_after n events s) asked ≡ true → gone_in (store_after n events s) asked ≡ Some file
        → (from : ℕ) × Goes n events event s file from
    goes_by events event s file (input.Call moment call) is heard gone = absurd (none-some file gone)
    goes_by events event s file (input.Tick moment word) is heard gone = absurd (none-some file gone)
    goes_by events event s file (input.Arrival packet) is heard gone =
        (packet.from, record { packet = packet; takes = is; heard = heard; gone = gone; sender = refl })
    goes_by events event s file input.Restart is heard gone = absurd (none-some file gone)

    pub stays_or_goes : EachStaysOrGoes n
    stays_or_goes events event s asked is file x here =
        let a = store_after n events s in
        let b = (effect a asked).store in
        let born : birth_at a file ≡ Some x.birth = ap (option_map (λ (r : Replica). r.birth)) here in
        elim ((on.grow events event s asked is).1 file x.birth born) [
          | inl grown ↦
              let y = born_at (replica_at b file) x.birth grown.0 in
              let P : Store → Type 0 = (λ z. IsHeldOn a z file x) in
              inl (subst P (sym (behind_is events event s asked is))
              (record { replica = y.0; held = y.1; born = y.2; cells = grown.1.cells }))
          | inr over ↦ elim (on.events.ends events event s asked is file x.birth born) [
            | inl there ↦ absurd (over_not b file x.birth over there)
            | inr goes ↦ inr (goes_by events event s file asked is goes.0 goes.1)
          ]
        ]
