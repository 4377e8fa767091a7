-- In each event an edge goes only by its peer's word, or where the peer is removed, and a replica
-- only with leave.
use Rattle.std.proofs.Common.{ℕ, ◌≡◌, ◌≤◌, ◌<◌, ◌⊎◌, arith, true, cond, List, Option, None, Some, inl, inr, refl, sym, ap, subst, ◌∙◌}
use Rattle.std.specs.Option.{option_map}
use Rattle.std.proofs.lemmas.Bool.{and_parts, cases_lt}
use Rattle.std.proofs.lemmas.Option.{none-some}
use Rattle.pg_run.specs.pg_base.declared.id.FileId.{FileId}
use Rattle.pg_run.specs.pg_edges.Edges.{is_listed}
use Rattle.pg_run.specs.pg_event.declared.event.Event.{Event}
use Rattle.pg_run.specs.pg_msg.declared.message.Message.{Message}
use Rattle.pg_run.specs.pg_msg.Work.{new_work}
use Rattle.pg_run.specs.pg_graph.Leaving.{may_leave}
use Rattle.pg_run.specs.pg_replica.declared.replica.Replica.{Replica}
use Rattle.pg_run.specs.pg_server.declared.input.Input.{Input}
use Rattle.pg_run.specs.pg_server.declared.input.Input.TheVariants as input
use Rattle.pg_run.specs.pg_server.Local.{effect, first_effect, takes_effect}
use Rattle.pg_run.specs.pg_store.declared.store.Store.{Store}
use Rattle.pg_run.specs.pg_store.Store.{replica_at}
use Rattle.pg_run.specs.pg_store.Together.{IsOver, birth_at}
use Rattle.pg_run.specs.Carried.{gone_by, gone_in}
use Rattle.pg_run.specs.Going.{BirthsEndByLeave, EdgesGoByWord, IsRemovedBehind, SaysItWent}
use Rattle.pg_run.specs.Laws.{TakesIn, store_after}
use Rattle.pg_run.specs.Ruled.{WhatGoesIsOver}
use Rattle.pg_run.specs.Run.{run}
use Rattle.pg_run.proofs.Frame.{acts_is}
use Rattle.law_births.specs.Premises.{FillsAlwaysStand, NextIdsAreFree}
use Rattle.law_births.proofs.Alone.{alone_always}
use Rattle.law_births.proofs.Effects.{LetsIn, effect_moves, end_moves}
use Rattle.law_births.proofs.Entering.{removed_behind}
use Rattle.law_births.proofs.Ends.{born_listed, born_to, ends, listed_born}
use Rattle.law_births.proofs.Gone.{went_over}
use Rattle.law_births.proofs.Has.{IsAlone, born_of, over_goes}
use Rattle.law_births.proofs.Leaves.{born_of_shape}
use Rattle.law_births.proofs.Moving.{AnyWhy, Moves, Why, some_shape}
use Rattle.law_births.proofs.Owing.{leave_born, leave_is}
use Rattle.law_births.proofs.Pieces.{Shape, shape, shape_at}

-- why an edge goes in an event, and why a replica does
abbrev WhyIn : Store → Input → Why
WhyIn a asked = record {
  edge = λ file peer birth. SaysItWent a asked file peer birth ⊎ IsRemovedBehind a asked peer;
  replica = λ file. (takes_effect a asked ≡ true) × (gone_in a asked ≡ Some file);
}

lets_in : (a : Store) (asked : Input) → LetsIn (WhyIn a asked) a asked
lets_in a asked = record {
  says = λ packet is heard. record {
    gone = λ file birth same. inl (record { packet = packet; hears = record { is = is; heard = heard }; from = refl; says = inl same });
    bye = λ x same. inl (record { packet = packet; hears = record { is = is; heard = heard }; from = refl; says = inr (x, same, refl, refl) });
    leave = λ x stamp same now. (
      heard,
      ap (gone_in a) is ∙ ap (λ (m : Message). gone_by a packet.from m) same ∙ ap (λ t. cond t (Some x.file) None) now,
    );
  };
  enters = λ moment c is view server u same at file birth. inr (removed_behind a asked moment view server u (is ∙ ap (input.Call moment) same) at);
}

some_same : (m k : ℕ) → ◌≡◌ {A = Option ℕ} (Some m) (Some k) → m ≡ k
some_same m k e = cc

-- a replica that goes leaves its birth over
gone_over : (a : Store) (asked : Input) (file : FileId) (birth : ℕ) → IsAlone a → takes_effect a asked ≡ true → gone_in a asked ≡ Some file
    → birth_at a file ≡ Some birth → IsOver (effect a asked).store file birth
gone_over a (input.Call moment call) file birth alone heard gone there = absurd (none-some file gone)
gone_over a (input.Tick moment word) file birth alone heard gone there = absurd (none-some file gone)
gone_over a (input.Arrival packet) file birth alone heard gone there =
    let k = leave_is a packet.from packet.message file gone in
    let x = k.0 in
    let w = new_work 0 packet.from in
    let asked = input.Arrival packet in
    let at_end : IsOver (effect a asked).store x.file x.receiver =
    over_goes (first_effect a asked).store (effect a asked).store x.file x.receiver (end_moves AnyWhy a asked).goes
    (went_over a packet x k.1 k.2 heard k.3 alone) in
    let R : FileId → Type 0 = λ f. birth_at a f ≡ Some birth → IsOver (effect a asked).store f birth in
    subst R k.4
    (λ born.
    let may = (and_parts (may_leave a x k.1 w) _ k.3).0 in
    let same : x.receiver ≡ birth = some_same x.receiver birth (sym (leave_born a x k.1 w may) ∙ born) in
    subst (IsOver (effect a asked).store x.file) same at_end) there
gone_over a input.Restart file birth alone heard gone there = absurd (none-some file gone)

up_by : (birth later : ℕ) → birth ≤ later → (later ≡ birth) ⊎ (birth < later)
up_by birth later up = elim (cases_lt birth later) [ inl less ↦ inr less | inr more ↦ inl (omega (arith, up, more)) ]

module _ (n : ℕ) (fills : FillsAlwaysStand n) (free : NextIdsAreFree n) where
  moved : (events : List Event) (e : Event) (s : ℕ) (asked : Input) → TakesIn n (run n events) e s asked
      → Moves (WhyIn (store_after n events s) asked) (store_after n events s) (effect (store_after n events s) asked).store
  moved events e s asked takes =
      let a = store_after n events s in
      let acts = acts_is n (run n events) e (record { server = s; asked = asked }) takes in
      effect_moves (WhyIn a asked) a (fills events s acts.least acts.most) (free events s acts.least acts.most) asked (lets_in a asked)

  -- BIRTHS END BY LEAVE
  pub births_end_by_leave : BirthsEndByLeave n
  births_end_by_leave events e s asked takes file birth there =
      let a = store_after n events s in
      let b = (effect a asked).store in
      let x = born_of (replica_at a file) birth there in
      let at : shape_at a file ≡ Some (birth, ends x.0.edges) =
      ap (option_map shape) x.1 ∙ ap (λ (z : ℕ). Some (z, ends x.0.edges)) x.2 in
      elim ((moved events e s asked takes).edges (alone_always n fills free events s) file birth (ends x.0.edges) at) [
        | inl k ↦ inl (born_of_shape (replica_at b file) birth k.0 k.1)
        | inr w ↦ inr w.2
      ]

  -- WHAT GOES IS OVER
  pub what_goes_is_over : WhatGoesIsOver n
  what_goes_is_over events e s asked takes file birth heard gone there =
      gone_over (store_after n events s) asked file birth (alone_always n fills free events s) heard gone there

  later_by : (fs : List (ℕ × ℕ)) (y : Replica) (peer birth later : ℕ) → fs ≡ ends y.edges → born_to fs peer ≡ Some later → birth ≤ later
      → (is_listed y.edges peer birth ≡ true) ⊎ ((m : ℕ) × (birth < m) × (is_listed y.edges peer m ≡ true))
  later_by fs y peer birth later same there up =
      let listed : is_listed y.edges peer later ≡ true =
      listed_born y.edges peer later (subst (λ (l : List (ℕ × ℕ)). born_to l peer ≡ Some later) same there) in
      elim (up_by birth later up) [
        | inl is ↦ inl (subst (λ m. is_listed y.edges peer m ≡ true) is listed)
        | inr less ↦ inr (later, less, listed)
      ]

  -- EDGES GO BY WORD
  pub edges_go_by_word : EdgesGoByWord n
  edges_go_by_word events e s asked takes file x y peer birth old new listed =
      let a = store_after n events s in
      let b = (effect a asked).store in
      let at : shape_at a file ≡ Some (x.birth, ends x.edges) = ap (option_map shape) old in
      let behind : shape_at b file ≡ Some (y.birth, ends y.edges) = ap (option_map shape) new in
      elim ((moved events e s asked takes).edges (alone_always n fills free events s) file x.birth (ends x.edges) at) [
        | inl k ↦ (
            let same = (some_shape x.birth y.birth k.0 (ends y.edges) (sym k.1 ∙ behind)).1 in
            elim (k.3 peer birth (born_listed x.edges peer birth listed)) [
              | inl up ↦ elim (later_by k.0 y peer birth up.0 same up.1 up.2) [ inl stays ↦ inl stays | inr later ↦ inr (inl later) ]
              | inr went ↦ inr (inr went)
            ])
        | inr w ↦ absurd (let z : ◌≡◌ {A = Option Shape} None (Some (y.birth, ends y.edges)) = sym w.0 ∙ behind in cc)
      ]
