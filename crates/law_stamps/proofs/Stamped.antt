-- In every world that a run reaches no version has the stamp of a place.
use Rattle.std.proofs.Common.{ℕ, ◌≡◌, ◌≢◌, ◌<◌, ◌≤◌, ◌^◌, List, [], Option, refl, sym, ap, subst, ◌∙◌, inl, inr, ◌⊎◌, arith}
use Rattle.std.proofs.lemmas.List.Elements.{All-contains, All-nil}
use Rattle.pg_run.specs.pg_base.declared.id.FileId.{FileId}
use Rattle.pg_run.specs.pg_base.declared.stamp.Stamp.{Stamp}
use Rattle.pg_run.specs.pg_call.declared.call.Call.{Call}
use Rattle.pg_run.specs.pg_content.Content.{Among}
use Rattle.pg_run.specs.pg_event.declared.entry.VoidCause.{VoidCause}
use Rattle.pg_run.specs.pg_event.declared.event.Event.{Event}
use Rattle.pg_run.specs.pg_msg.declared.update.MadeVersion.{MadeVersion}
use Rattle.pg_run.specs.pg_msg.Work.{new_work}
use Rattle.pg_run.specs.pg_register.declared.place.Place.{Place}
use Rattle.pg_run.specs.pg_server.declared.input.Input.{Input}
use Rattle.pg_run.specs.pg_server.declared.input.Input.TheVariants as input
use Rattle.pg_run.specs.pg_server.Local.{Effect, closed, effect, finished, first_effect, reply_to, takes_effect}
use Rattle.pg_run.specs.pg_store.declared.store.Store.{Store}
use Rattle.pg_run.specs.pg_pieces.Done.{Done, idle}
use Rattle.pg_run.specs.Journal.{Born, born_at, born_in, mail, versions_in}
use Rattle.pg_run.specs.Run.{Taking, World, effect_step, idle_step, run, world_after}
use Rattle.pg_run.proofs.pg_content.Members.{among_map}
use Rattle.pg_run.proofs.theory_flood_pieces.Choices.{chosen}
use Rattle.pg_run.proofs.Frame.{Acts, HasCome, holds_in_runs, no_server_comes}
use Rattle.pg_run.proofs.Lists.{among_parts, contained_among}
use Rattle.law_contents.specs.Together.{StandOn}
use Rattle.law_contents.proofs.Carrying.{policies}
use Rattle.law_contents.proofs.Ends.{closed_ends}
use Rattle.law_contents.proofs.HarbingersCame.{carries_input}
use Rattle.law_contents.proofs.Inputs.{arrived_passive, restart_passive, tick_passive}
use Rattle.law_contents.proofs.RunLaws.{one_version_a_stamp}
use Rattle.law_contents.proofs.Runs.{run_sound, server_now}
use Rattle.law_contents.proofs.Servers.{IsServer, came_of}
use Rattle.law_contents.proofs.Wanted.{wanted_run}
use Rattle.law_contents.proofs.Worlds.{IsNamed}
use Rattle.law_places.proofs.Effects.{Leaves, OfInput, effect_leaves, input_further}
use Rattle.law_places.proofs.Fine.{AreKnown, IsFine}
use Rattle.law_places.proofs.Known.{intents_further, names_further}
use Rattle.law_places.proofs.Messages.{OfSent}
use Rattle.law_places.proofs.OnePlace.{one_made_place_a_stamp}
use Rattle.law_places.proofs.Origins.{IsFrom, IsMade, all_made, made_of, one_parts}
use Rattle.law_places.proofs.Worlds.{AllKnown, run_known}
use Rattle.law_stamps.specs.Stamps.{OneStampEach, VersionsAreNoPlaces}
use Rattle.law_stamps.proofs.Called.{Any, call_drawn}
use Rattle.law_stamps.proofs.Off.{ended_off}
use Rattle.law_stamps.proofs.Rooted.{root_stays}

-- ---- one event

-- a version that is made has a stamp that its server drew in the event, and no place that is made
-- then has its time
abbrev IsDrawn : ℕ → ℕ → Effect → MadeVersion → Type 0
IsDrawn s least e u = (u.stamp.server ≡ s) × (least < u.stamp.time)
    × ((f : FileId) (p : Place) → IsMade e.out.made f p → p.stamp.time ≢ u.stamp.time)

abbrev AreDrawn : ℕ → ℕ → Effect → Type 0
AreDrawn s least e = (u : MadeVersion) → Among u (versions_in e.out.made) → IsDrawn s least e u

none_drawn : (s least : ℕ) (e : Effect) → versions_in e.out.made ≡ [] → AreDrawn s least e
none_drawn s least e none u there = absurd (subst (Among u) none there)

module _ (n : ℕ) (small : n < 2 ^ 32) (stand : StandOn n) (events : List Event) where
  abbrev W : World
  W = run n events

  sounded : (e : Event) (s : ℕ) (asked : Input) → 1 ≤ s → s ≤ n
      → IsServer s (W.stores s) W.history (policies W.journal) (λ f. IsNamed W.stores f)
      (came_of (W.took s))
  sounded e s asked least most =
      server_now n small W (stand.both events) (wanted_run n stand.named stand.intends events)
      (run_sound n small stand events) e s asked least most

  module _ (e : Event) (s : ℕ) (least : 1 ≤ s) (most : s ≤ n) where
    abbrev A : Store
    A = W.stores s

    k : AllKnown W
    k = run_known n stand.intends events

    abbrev From : FileId → Place → Type 0
    From = IsFrom (all_made W.journal)

    known : AreKnown Any A
    known = record {
      names = names_further From Any (λ f p h. tt) A.names (k.known s).names;
      intents = intents_further From Any (λ f p h. tt) A.intents (k.known s).intents;
    }

    come_of : (asked : Input) → HasCome W s asked → OfInput From asked
    come_of (input.Call moment c) h = tt
    come_of (input.Tick moment word) h = tt
    come_of (input.Arrival packet) h =
        All-contains (OfSent From) (mail W.journal)
        (record { to = s; packet = packet }) k.sent h
    come_of input.Restart h = tt

    -- places: their stamps were drawn in the event
    places : (asked : Input) → HasCome W s asked
        → Leaves Any (λ f apart. tt) s least A (effect A asked)
    places asked come =
        effect_leaves Any (λ f apart. tt) s least A known (k.timed s) (k.server s)
        (root_stays A (stand.intends events s least most)) asked
        (input_further From Any (λ f p h. tt) asked (come_of asked come))
        (λ f p h. tt)

    -- ---- versions

    module _ (moment : ℕ) (c : Call) where
      abbrev Asked : Input
      Asked = input.Call moment c

      abbrev First : Done
      First = first_effect A Asked

      abbrev Closed : Effect
      Closed = closed (reply_to A Asked) First

      abbrev Plain : Effect
      Plain = finished (reply_to A Asked) First

      fine : IsFine Any s A.names.last (idle A (new_work moment 0))
      fine = record {
        known = known;
        timed = k.timed s;
        sent = All-nil (OfSent Any);
        drawn = record {
          server = k.server s;
          low = omega arith;
          each = λ f p h. absurd h;
          one = λ f g p q h i same. absurd h;
        };
      }

      end_made : versions_in (effect A Asked).out.made ≡ versions_in First.work.made
      end_made =
          chosen (λ (x : Effect). versions_in x.out.made ≡ versions_in First.work.made)
          (takes_effect A Asked) Closed Plain
          (closed_ends First.store First.work (reply_to A Asked)).made refl

      call_versions : AreDrawn s A.names.last (effect A Asked)
      call_versions u there =
          let server = sounded e s Asked least most in
          let first = call_drawn server moment fine c u (subst (Among u) end_made there) in
          let R : Effect → Type 0 = λ x. (f : FileId) (p : Place) → IsMade x.out.made f p
          → p.stamp.time ≢ u.stamp.time in (
            first.0,
            first.1,
            chosen R (takes_effect A Asked) Closed Plain (ended_off u.stamp.time First first.2).off
                first.2.off,
          )

    versions : (asked : Input) → HasCome W s asked → AreDrawn s A.names.last (effect A asked)
    versions (input.Call moment c) come = call_versions moment c
    versions (input.Tick moment word) come =
        let i = input.Tick moment word in
        none_drawn s A.names.last (effect A i)
        (tick_passive (W.took s) (sounded e s i least most) (W.asked s)
        ((run_sound n small stand events).agreed s) moment word).none
    versions (input.Arrival packet) come =
        let i = input.Arrival packet in
        let h = carries_input W.history (policies W.journal) (IsNamed W.stores) W s i
        (run_sound n small stand events).carried come in
        none_drawn s A.names.last (effect A i)
        (arrived_passive (W.took s) (sounded e s i least most) (W.asked s)
        ((run_sound n small stand events).agreed s) packet h).none
    versions input.Restart come =
        none_drawn s A.names.last (effect A input.Restart)
        (restart_passive (W.took s) (sounded e s input.Restart least most) (W.asked s)
        ((run_sound n small stand events).agreed s)).none

-- ---- a world

-- no version that was made has the stamp of a place that was
pub record IsApart (w : World) : Type 0 where
  pub apart : (u : Born) (f : FileId) (p : Place) → Among u w.history
      → IsMade (all_made w.journal) f p → u.made.stamp ≢ p.stamp

module _ (n : ℕ) (small : n < 2 ^ 32) (stand : StandOn n) where
  module _ (events : List Event) (e : Event) (t : Taking) (acts : Acts n (run n events) t)
      (h : IsApart (run n events)) where
    abbrev V : World
    V = run n events

    abbrev S : ℕ
    S = t.server

    abbrev B : Store
    B = V.stores S

    abbrev E : Effect
    E = effect B t.asked

    made_here : AreDrawn S B.names.last E
    made_here = versions n small stand events e S acts.least acts.most t.asked acts.came

    -- two stamps that are the same are of one server and one time
    both_new : (u : Born) (f : FileId) (p : Place) → Among u (born_in E.store E.out.made)
        → IsMade E.out.made f p → u.made.stamp ≢ p.stamp
    both_new u f p new made same =
        let at = among_map (born_at E.store) (versions_in E.out.made) u new in
        let stamp : u.made.stamp ≡ at.0.stamp = ap (λ (x : Born). x.made.stamp) at.2 in
        let is = made_here at.0 at.1 in
        is.2 f p made (ap (λ (x : Stamp). x.time) (sym same ∙ stamp))

    new_version : (u : Born) (f : FileId) (p : Place) → Among u (born_in E.store E.out.made)
        → IsMade (all_made V.journal) f p → u.made.stamp ≢ p.stamp
    new_version u f p new old same =
        let at = among_map (born_at E.store) (versions_in E.out.made) u new in
        let stamp : u.made.stamp ≡ at.0.stamp = ap (λ (x : Born). x.made.stamp) at.2 in
        let is = made_here at.0 at.1 in
        let was = ((run_known n stand.intends events).each f p old).1 in
        let here : p.stamp ≡ at.0.stamp = sym same ∙ stamp in
        let time = ap (λ (x : Stamp). x.time) here in
        let last = ap (λ i. (V.stores i).names.last) (ap (λ (x : Stamp). x.server) here ∙ is.0) in
        let late = is.1 in
        omega arith

    new_place : (u : Born) (f : FileId) (p : Place) → Among u V.history
        → IsMade E.out.made f p → u.made.stamp ≢ p.stamp
    new_place u f p old new same =
        let here = places n small stand events e S acts.least acts.most t.asked acts.came in
        let is = here.drawn.each f p new in
        let was = (run_sound n small stand events).dated u old in
        let time = ap (λ (x : Stamp). x.time) same in
        let last = ap (λ i. (V.stores i).names.last) (ap (λ (x : Stamp). x.server) same ∙ is.0) in
        let late = is.1 in
        omega arith

    by_age : (u : Born) (f : FileId) (p : Place)
        → Among u (born_in E.store E.out.made) ⊎ Among u V.history
        → IsMade E.out.made f p ⊎ IsMade (all_made V.journal) f p → u.made.stamp ≢ p.stamp
    by_age u f p (inl a) (inl b) = both_new u f p a b
    by_age u f p (inl a) (inr b) = new_version u f p a b
    by_age u f p (inr a) (inl b) = new_place u f p a b
    by_age u f p (inr a) (inr b) = h.apart u f p a b

    acted : IsApart (world_after V (effect_step V e S t.asked))
    acted = record {
      apart = λ u f p a b. by_age u f p (among_parts u (born_in E.store E.out.made) V.history a)
          (one_parts _ E.out.made (all_made V.journal) b);
    }

  idle_apart : (w : World) (e : Event) (cause : Option VoidCause) → IsApart w
      → IsApart (world_after w (idle_step w e cause))
  idle_apart w e cause h = record { apart = h.apart }

  run_apart : (events : List Event) → IsApart (run n events)
  run_apart events =
      holds_in_runs n IsApart (record {
        first = record { apart = λ u f p a b. absurd a };
        idle = idle_apart;
        comes = λ past event server is k. absurd (no_server_comes event server is);
        acts = λ some e t taking acts h. acted some e t acts h;
      }) events

  versions_are_no_places : VersionsAreNoPlaces n
  versions_are_no_places events u f p made was =
      let w = run n events in
      (run_apart events).apart u f p (contained_among w.history u made) (made_of w.journal f p was)

  -- ONE STAMP
  pub stamps_are_drawn_once : OneStampEach n
  stamps_are_drawn_once = record {
    versions = one_version_a_stamp n small stand;
    places = one_made_place_a_stamp n stand.intends;
    apart = versions_are_no_places;
  }
