-- In every world that a run reaches each place that is known or told was made, or there from the
-- start on, and no two that were made have one stamp.
use Rattle.std.proofs.Common.{[], ℕ, ◌≡◌, ◌≢◌, ◌≤◌, ◌&&◌, not, Bool, true, false, cond, List, ◌++◌, Option, None, Some, refl, sym, ap, subst, ◌∙◌, inl, inr, ◌⊎◌, arith, All}
use Rattle.std.proofs.lemmas.Bool.{false≢true}
use Rattle.std.proofs.lemmas.List.Elements.{All-append, All-contains, All-nil}
use Rattle.std.proofs.lemmas.Option.{none-some, same_Some}
use Rattle.law_frame.specs.pg_run.pg_base.declared.id.FileId.{FileId}
use Rattle.law_frame.specs.pg_run.pg_base.declared.stamp.Stamp.{Stamp}
use Rattle.law_frame.specs.pg_run.pg_base.Id.{is_same_file}
use Rattle.law_frame.proofs.pg_run.pg_base.Orders.{is_same_file-refl, is_same_file-true}
use Rattle.law_frame.specs.pg_run.pg_event.declared.event.Event.{Event}
use Rattle.law_frame.specs.pg_run.pg_event.declared.event.Event.TheVariants.{Tick, Restart}
use Rattle.law_frame.specs.pg_run.pg_event.declared.entry.VoidCause.{VoidCause}
use Rattle.law_frame.specs.pg_run.theory_flood.World.{after}
use Rattle.law_frame.proofs.pg_run.theory_flood.Flood.{after_itself, here}
use Rattle.law_frame.proofs.pg_run.pg_house.Noting.{one_front}
use Rattle.law_frame.proofs.pg_run.pg_house.Truths.{or_cases}
use Rattle.law_frame.specs.pg_run.pg_msg.declared.update.Update.{Update}
use Rattle.law_frame.specs.pg_run.pg_msg.declared.update.Update.TheVariants as update
use Rattle.law_frame.specs.pg_run.pg_names.declared.attributes.Attributes.{Attributes}
use Rattle.law_frame.specs.pg_run.pg_names.Names.{entry_in, new_held, new_names, own_of}
use Rattle.law_frame.proofs.pg_run.pg_names.Holding.{begun_known}
use Rattle.law_frame.specs.pg_run.pg_register.declared.place.Place.{Place}
use Rattle.law_frame.specs.pg_run.pg_register.Place.{blank_place, root, root_place}
use Rattle.law_frame.specs.pg_run.pg_server.declared.input.Input.{Input}
use Rattle.law_frame.specs.pg_run.pg_server.declared.input.Input.TheVariants as input
use Rattle.law_frame.specs.pg_run.pg_server.Local.{Effect, effect}
use Rattle.law_frame.specs.pg_run.pg_store.declared.store.Store.{Store}
use Rattle.law_frame.specs.pg_run.pg_store.declared.wishes.Wish.{Wish}
use Rattle.law_frame.specs.pg_run.pg_store.Births.{fill_at, is_fill_at, is_pending, wish_at}
use Rattle.law_frame.specs.pg_run.pg_store.Seen.{server_of}
use Rattle.law_frame.specs.pg_run.pg_store.Start.{first_names, root_own}
use Rattle.law_frame.specs.pg_run.pg_store.Store.{is_held}
use Rattle.law_frame.specs.pg_run.pg_store.Wishes.{is_with_birth}
use Rattle.law_frame.proofs.pg_run.pg_calls.Walked.{full_held}
use Rattle.law_frame.specs.pg_run.Intending.{HoldsBoth, IntendsInOrder, IntentionsAreInOrder}
use Rattle.law_frame.specs.pg_run.Journal.{mail}
use Rattle.law_frame.specs.pg_run.Run.{World, effect_step, idle_step, run, start, world_after}
use Rattle.law_frame.proofs.pg_run.Frame.{HasCome, holds_in_runs, no_server_comes}
use Rattle.law_places.proofs.Origins.{IsFrom, IsMade, all_made, one_behind, one_parts}
use Rattle.law_places.proofs.Effects.{Leaves, OfInput, effect_leaves, input_further}
use Rattle.law_places.proofs.Fine.{AreKnown}
use Rattle.law_places.proofs.Leaving.{RootStays}
use Rattle.law_places.proofs.Messages.{OfSent, sent_further}
use Rattle.law_places.proofs.Timed.{AreTimed, UpTo}
use Rattle.law_places.proofs.Known.{AreNames, intents_further, names_further}

-- ---- no replica of the root is to come

module _ (a : Store) (k : HoldsBoth a) where
  held : is_held a root ≡ true
  held = full_held a.names root k.root

  unwished : (birth : ℕ) (o : Option Wish) → wish_at a root ≡ o → is_with_birth o birth ≡ true → ⊥
  unwished birth None e h = false≢true h
  unwished birth (Some wish) e h = false≢true (sym (k.births.wished root wish e).0 ∙ held)

  unfilled : (t : Bool) → is_held a root ≡ t → (b : Bool) → (not t && b) ≡ true → t ≡ true → ⊥
  unfilled true e b h same = false≢true h
  unfilled false e b h same = false≢true same

  pending_by : (f : FileId) (birth : ℕ) → is_pending a f birth ≡ true → (t : Bool) → is_same_file f root ≡ t → t ≡ false
  pending_by f birth h false e = refl
  pending_by f birth h true e =
      let at : f ≡ root = is_same_file-true f root e in
      let here : is_pending a root birth ≡ true = sym (ap (λ (x : FileId). is_pending a x birth) at) ∙ h in
      elim (or_cases (is_with_birth (wish_at a root) birth) (not (is_held a root) && is_fill_at (fill_at a root) birth) here) [
        | inl wish ↦ absurd (unwished birth (wish_at a root) refl wish)
        | inr fill ↦ absurd (unfilled (is_held a root) refl (is_fill_at (fill_at a root) birth) fill held)
      ]

  none_pending : (f : FileId) (birth : ℕ) → is_pending a f birth ≡ true → is_same_file f root ≡ false
  none_pending f birth h = pending_by f birth h (is_same_file f root) refl

-- and none goes
root_stays : (a : Store) → IntendsInOrder a → RootStays a
root_stays a k = record {
  pending = none_pending a k.held;
  leaves = λ f peer birth stood. (k.leaves f peer birth stood).1;
}

-- ---- a world

pub record AllKnown (w : World) : Type 0 where
  pub known : (s : ℕ) → AreKnown (IsFrom (all_made w.journal)) (w.stores s)
  pub timed : (s : ℕ) → AreTimed (w.stores s).names
  pub server : (s : ℕ) → server_of (w.stores s) ≡ s
  pub sent : All (OfSent (IsFrom (all_made w.journal))) (mail w.journal)
  pub each : (f : FileId) (p : Place) → IsMade (all_made w.journal) f p
      → (1 ≤ p.stamp.time) × (p.stamp.time ≤ (w.stores p.stamp.server).names.last)
  pub one : (f g : FileId) (p q : Place) → IsMade (all_made w.journal) f p → IsMade (all_made w.journal) g q
      → p.stamp ≡ q.stamp → (f ≡ g) × (p ≡ q)

-- the first of two is no less, and of the second
past : (a b c : ℕ) → a ≤ b → b ≤ c → a ≤ c
past a b c h g = omega arith

module _ (w : World) (k : AllKnown w) (event : Event) (s : ℕ) (some : 1 ≤ s) (asked : Input) (holds : IntendsInOrder (w.stores s))
    (asks : OfInput (IsFrom (all_made w.journal)) asked) where
  abbrev A : Store
  A = w.stores s

  abbrev E : Effect
  E = effect A asked

  abbrev Old : List Update
  Old = all_made w.journal

  abbrev Now : List Update
  Now = E.out.made ++ Old

  abbrev P : FileId → Place → Type 0
  P = IsFrom Now

  up : (f : FileId) (p : Place) → IsFrom Old f p → P f p
  up f p (inl first) = inl first
  up f p (inr made) = inr (one_behind (update.Place f p) E.out.made Old made)

  blanks : (f : FileId) → is_same_file f root ≡ false → P f (blank_place f)
  blanks f apart = inl (inr (apart, refl))

  further : (i : ℕ) → AreKnown P (w.stores i)
  further i = record { names = names_further (IsFrom Old) P up (w.stores i).names (k.known i).names; intents = intents_further (IsFrom Old) P up (w.stores i).intents (k.known i).intents }

  left : Leaves P blanks s some A E
  left =
      effect_leaves P blanks s some A (further s) (k.timed s) (k.server s) (root_stays A holds) asked (input_further (IsFrom Old) P up asked asks)
      (λ f p h. inr (one_front (update.Place f p) E.out.made Old h))

  abbrev Stores : ℕ → Store
  Stores = after w.stores s E.store

  at_each : (Q : ℕ → Store → Type 0) → Q s E.store → ((i : ℕ) → i ≢ s → Q i (w.stores i)) → (i : ℕ) → Q i (Stores i)
  at_each Q new old i = elim (here w.stores s E.store i) [
    | inl at ↦ subst (Q i) (sym at.1) (subst (λ (j : ℕ). Q j E.store) (sym at.0) new)
    | inr at ↦ subst (Q i) (sym at.1) (old i at.0)
  ]

  -- greatest times do not fall
  later_by : (i : ℕ) → (w.stores i).names.last ≤ (Stores i).names.last
  later_by = at_each (λ i a. (w.stores i).names.last ≤ a.names.last) left.drawn.low (λ i other. omega arith)

  drawn_by : (p : Place) → p.stamp.server ≡ s → p.stamp.time ≤ E.store.names.last → p.stamp.time ≤ (Stores p.stamp.server).names.last
  drawn_by p own h =
      let at : Stores p.stamp.server ≡ E.store = ap Stores own ∙ after_itself w.stores s E.store in
      let e = ap (λ (a : Store). a.names.last) at in
      omega arith

  each_by : (f : FileId) (p : Place) → IsMade E.out.made f p ⊎ IsMade Old f p → (1 ≤ p.stamp.time) × (p.stamp.time ≤ (Stores p.stamp.server).names.last)
  each_by f p (inl new) =
      let x = left.drawn.each f p new in
      (let t = x.1 in omega arith, drawn_by p x.0 x.2)
  each_by f p (inr old) =
      let x = k.each f p old in
      (x.0, past p.stamp.time (w.stores p.stamp.server).names.last (Stores p.stamp.server).names.last x.1 (later_by p.stamp.server))

  -- a stamp that is drawn was none before
  apart : (f g : FileId) (p q : Place) → IsMade E.out.made f p → IsMade Old g q → p.stamp ≡ q.stamp → ⊥
  apart f g p q new old e =
      let x = left.drawn.each f p new in
      let y = (k.each g q old).1 in
      let server : q.stamp.server ≡ s = sym (ap (λ (t : Stamp). t.server) e) ∙ x.0 in
      let time : p.stamp.time ≡ q.stamp.time = ap (λ (t : Stamp). t.time) e in
      let at = ap (λ (i : ℕ). (w.stores i).names.last) server in
      let late = x.1 in
      omega arith

  one_by : (f g : FileId) (p q : Place) → IsMade E.out.made f p ⊎ IsMade Old f p → IsMade E.out.made g q ⊎ IsMade Old g q → p.stamp ≡ q.stamp → (f ≡ g) × (p ≡ q)
  one_by f g p q (inl a) (inl b) e = left.drawn.one f g p q a b e
  one_by f g p q (inl a) (inr b) e = absurd (apart f g p q a b e)
  one_by f g p q (inr a) (inl b) e = absurd (apart g f q p b a (sym e))
  one_by f g p q (inr a) (inr b) e = k.one f g p q a b e

  parts : (f : FileId) (p : Place) → IsMade Now f p → IsMade E.out.made f p ⊎ IsMade Old f p
  parts f p h = one_parts (update.Place f p) E.out.made Old h

  acted : AllKnown (world_after w (effect_step w event s asked))
  acted = record {
    known = at_each (λ i a. AreKnown P a) left.known (λ i other. further i);
    timed = at_each (λ i a. AreTimed a.names) left.timed (λ i other. k.timed i);
    server = at_each (λ i a. server_of a ≡ i) left.drawn.server (λ i other. k.server i);
    sent = All-append (OfSent P) E.out.sent (mail w.journal) left.sent (sent_further (IsFrom Old) P up (mail w.journal) k.sent);
    each = λ f p h. each_by f p (parts f p h);
    one = λ f g p q h i e. one_by f g p q (parts f p h) (parts g q i) e;
  }

-- ---- the start

pub own_first : (n : ℕ) (q : FileId) (o : Attributes) (t : Bool) → is_same_file q root ≡ t → own_of (cond t (Some (new_held (root_own n) true)) None) ≡ Some o → (q ≡ root) × (root_own n ≡ o)
own_first n q o false e h = absurd (none-some o h)
own_first n q o true e h = (is_same_file-true q root e, same_Some (root_own n) o h)

pub no_cell : (n : ℕ) (c : FileId) (t : Bool) → entry_in c (cond t (Some (new_held (root_own n) true)) None) ≡ None
no_cell n c true = refl
no_cell n c false = refl

module _ (P : FileId → Place → Type 0) (root_may : P root root_place) where
  first_known : (n s : ℕ) → AreNames P (first_names n s)
  first_known n s =
      let found = begun_known (new_names s) root (root_own n) true in
      record {
        own = λ q o h. (
            let r = own_first n q o (is_same_file q root) refl (sym (ap own_of (found q)) ∙ h) in
            subst (λ (f : FileId). P f o.place) (sym r.0) (subst (λ (x : Attributes). P root x.place) r.1 root_may));
        child = λ d c e h. absurd (none-some e (sym (ap (entry_in c) (found d) ∙ no_cell n c (is_same_file d root)) ∙ h));
        cells = λ d c e h. absurd (none-some e (sym (ap (entry_in c) (found d) ∙ no_cell n c (is_same_file d root)) ∙ h));
        top = (root_own n, ap own_of (found root) ∙ ap (λ t. own_of (cond t (Some (new_held (root_own n) true)) None)) (is_same_file-refl root));
      }

start_known : (n : ℕ) → AllKnown (start n)
start_known n = record {
  known = λ s. record { names = first_known (IsFrom []) (inl (inl (is_same_file-refl root, refl))) n s; intents = tt };
  timed = λ s. first_known (UpTo 0) (omega arith) n s;
  server = λ s. refl;
  sent = All-nil (OfSent (IsFrom []));
  each = λ f p h. absurd h;
  one = λ f g p q h i e. absurd h;
}

-- ---- all events

-- no server takes anything
still : (w : World) (event : Event) (cause : Option VoidCause) → AllKnown w → AllKnown (world_after w (idle_step w event cause))
still w event cause k = record { known = k.known; timed = k.timed; server = k.server; sent = k.sent; each = k.each; one = k.one }

-- a message that came tells of what may stand
come_of : (w : World) → AllKnown w → (s : ℕ) (asked : Input) → HasCome w s asked → OfInput (IsFrom (all_made w.journal)) asked
come_of w k s (input.Call moment c) h = tt
come_of w k s (input.Tick moment word) h = tt
come_of w k s (input.Arrival packet) h = All-contains (OfSent (IsFrom (all_made w.journal))) (mail w.journal) (record { to = s; packet = packet }) k.sent h
come_of w k s input.Restart h = tt

pub run_known : (n : ℕ) → IntentionsAreInOrder n → (events : List Event) → AllKnown (run n events)
run_known n order events = holds_in_runs n AllKnown (record {
  first = start_known n;
  idle = still;
  comes = λ past event server is k. absurd (no_server_comes event server is);
  acts = λ some event t taking acts k. (
      let w = run n some in
      acted w k event t.server acts.least t.asked (order some t.server acts.least acts.most) (come_of w k t.server t.asked acts.came));
}) events
