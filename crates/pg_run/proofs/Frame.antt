-- An event of a run: one server of the run takes an input, or all but the entry is as it was. What
-- holds at the start, and outlives both, holds in every run.
use Rattle.std.proofs.Common.{[], ℕ, ◌≡◌, ◌==◌, ◌≢◌, ◌≤◌, Bool, true, false, cond, List, ◌∷◌, ◌++◌, Option, None, Some, inl, inr, refl, sym, ap, subst, ◌∙◌, All}
use Rattle.std.specs.Prelude.{Contains, nat_le, not}
use Rattle.std.proofs.lemmas.Bool.{and_parts, leb-true, not-true}
use Rattle.std.proofs.lemmas.List.Elements.{All-append, All-cons, All-contains_itself, All-filter, All-head, All-nil, All-tail}
use Rattle.pg_server.specs.pg_pieces.pg_msg.declared.message.Sent.{Sent}
use Rattle.pg_server.specs.pg_pieces.pg_call.declared.call.Call.{Call}
use Rattle.pg_event.specs.declared.entry.Entry.{Entry}
use Rattle.pg_event.specs.declared.entry.VoidCause.{VoidCause}
use Rattle.pg_event.specs.declared.entry.VoidCause.TheVariants.{Last, NoMessage, Unremoved}
use Rattle.pg_event.specs.declared.event.Event.{Event}
use Rattle.pg_event.specs.declared.event.Event.TheVariants.{Call as Called, Tick, Deliver, Lose, Repeat, Restart, Remove}
use Rattle.theory_flood.specs.World.{after}
use Rattle.theory_flood.proofs.Flood.{after_itself, here}
use Rattle.pg_register.specs.Flag.{is_removed}
use Rattle.pg_server.specs.declared.input.Input.{Input}
use Rattle.pg_server.specs.declared.input.Input.TheVariants as input
use Rattle.pg_run.specs.Journal.{bag, bag_after, bag_behind, mail, message_at, removals, to_live}
use Rattle.pg_run.specs.Run.{Step, Taking, World, bag_step, coming_in, delivery_step, effect_step, given_step, idle_step, is_due, is_last, is_live, is_server, next, run, run_from, start, taking_in, taking_message, why_void, world_after}
use Rattle.pg_run.proofs.Bags.{at_message, left_copied, left_without}

-- ---- what is under way was sent once

-- what holds of all of two lists holds of all of each
pub all_parts : (P : Sent → Type 0) (ms ns : List Sent) → All P (ms ++ ns) → All P ms × All P ns
all_parts P [] ns h = (All-nil P, h)
all_parts P (m ∷ ms) ns h =
    let rest = all_parts P ms ns (All-tail P m (ms ++ ns) h) in
    (All-cons P m ms (All-head P m (ms ++ ns) h) rest.0, rest.1)

module _ (P : Sent → Type 0) (removed : List ℕ) (ms : List Sent) (void : Option VoidCause) (sent : List Sent)
    (old : All P ms) (new : All P sent) where
  -- of what is sent, what goes to live servers
  live : All P (to_live removed sent)
  live = All-filter (λ m. not (is_removed removed m.to)) P sent new

  left_behind : (server : ℕ) (o : Option VoidCause) → All P (bag_behind ms server o)
  left_behind server None = All-filter (λ m. not (m.to == server)) P ms old
  left_behind server (Some cause) = old

  under_way_after : (event : Event) → All P (bag_after removed ms event void sent)
  under_way_after (Called server moment call) = All-append P ms (to_live removed sent) old live
  under_way_after (Tick server moment word) = All-append P ms (to_live removed sent) old live
  under_way_after (Deliver number) =
      All-append P _ (to_live removed sent) (left_without P ms number (message_at ms number) old) live
  under_way_after (Lose number) = left_without P ms number (message_at ms number) old
  under_way_after (Repeat number) =
      left_copied P ms (message_at ms number) old (λ m is. at_message P ms number m old is)
  under_way_after (Restart server) = All-append P ms (to_live removed sent) old live
  under_way_after (Remove server) = left_behind server void

-- what holds of all messages ever sent holds of those under way
pub all_under_way : (P : Sent → Type 0) (journal : List Entry) → All P (mail journal)
    → All P (bag journal)
all_under_way P [] h = h
all_under_way P (entry ∷ earlier) h =
    let parts = all_parts P entry.sent (mail earlier) h in
    under_way_after P (removals earlier) (bag earlier) entry.void entry.sent (all_under_way P earlier parts.1) parts.0 entry.event

-- the message with a number was sent
pub was_sent : (journal : List Entry) (number : ℕ) (m : Sent)
    → message_at (bag journal) number ≡ Some m → Contains (mail journal) m
was_sent journal number m is =
    at_message (Contains (mail journal)) (bag journal) number m
    (all_under_way (Contains (mail journal)) journal (All-contains_itself (mail journal))) is

-- ---- one event

-- the message that a server takes was sent to it
abbrev pub HasCome : World → ℕ → Input → Type 0
HasCome w s (input.Call moment call) = Unit {0}
HasCome w s (input.Tick moment word) = Unit {0}
HasCome w s (input.Arrival packet) = Contains (mail w.journal) (record { to = s; packet = packet })
HasCome w s input.Restart = Unit {0}

-- a giveup that a server takes is of a server that was removed so
abbrev pub WasDue : World → Input → Type 0
WasDue w (input.Call moment call) = is_due (removals w.journal) call ≡ true
WasDue w _ = Unit {0}

-- a server of the run that is not removed takes an input
pub record Acts (n : ℕ) (w : World) (t : Taking) : Type 0 where
  pub least : 1 ≤ t.server
  pub most : t.server ≤ n
  pub live : is_removed (removals w.journal) t.server ≡ false
  pub came : HasCome w t.server t.asked
  pub due : WasDue w t.asked

-- what a live server is
pub record IsLive (n : ℕ) (w : World) (s : ℕ) : Type 0 where
  pub least : 1 ≤ s
  pub most : s ≤ n
  pub live : is_removed (removals w.journal) s ≡ false

pub live_is : (n : ℕ) (w : World) (s : ℕ) → is_live n w s ≡ true → IsLive n w s
live_is n w s h =
    let gone = is_removed (removals w.journal) s in
    let parts = and_parts (is_server n s) (not gone) h in
    let ends = and_parts (nat_le 1 s) (nat_le s n) parts.0 in
    record { least = leb-true 1 s ends.0; most = leb-true s n ends.1; live = not-true gone parts.1 }

-- what comes of an event in which this is taken, or nothing
abbrev pub IsFramed : ℕ → World → Event → Option Taking → Step → Type 0
IsFramed n w event None step = (cause : Option VoidCause) × (step ≡ idle_step w event cause)
IsFramed n w event (Some t) step = Acts n w t × (step ≡ effect_step w event t.server t.asked)

module _ (n : ℕ) (w : World) (event : Event) where
  by_server : (s : ℕ) (asked : Input) (cause : Option VoidCause) → HasCome w s asked → WasDue w asked
      → (t : Bool) → is_live n w s ≡ t
      → IsFramed n w event (cond t (Some (record { server = s; asked = asked })) None)
      (cond t (effect_step w event s asked) (idle_step w event cause))
  by_server s asked cause came due true is =
      let live = live_is n w s is in
      (record { least = live.least; most = live.most; live = live.live; came = came; due = due }, refl)
  by_server s asked cause came due false is = (cause, refl)

  by_message : (o : Option Sent) → ((m : Sent) → o ≡ Some m → Contains (mail w.journal) m)
      → IsFramed n w event (taking_message n w o) (delivery_step n w event o)
  by_message None sent = (Some NoMessage, refl)
  by_message (Some m) sent =
      by_server m.to (input.Arrival m.packet) None (sent m refl) tt (is_live n w m.to) refl

  by_bag : (o : Option Sent) → IsFramed n w event None (bag_step w event o)
  by_bag None = (Some NoMessage, refl)
  by_bag (Some m) = (None, refl)

by_call : (n : ℕ) (w : World) (s moment : ℕ) (call : Call) (t u : Bool) → is_live n w s ≡ t
    → is_due (removals w.journal) call ≡ u
    → IsFramed n w (Called s moment call)
    (cond u (cond t (Some (record { server = s; asked = input.Call moment call })) None) None)
    (cond t (given_step w (Called s moment call) s (input.Call moment call) u)
    (idle_step w (Called s moment call) (Some (why_void n s))))
by_call n w s moment call true true is due =
    by_server n w (Called s moment call) s (input.Call moment call) None tt due true is
by_call n w s moment call true false is due = (Some Unremoved, refl)
by_call n w s moment call false true is due = (Some (why_void n s), refl)
by_call n w s moment call false false is due = (Some (why_void n s), refl)

by_removal : (n : ℕ) (w : World) (s : ℕ) (t : Bool)
    → IsFramed n w (Remove s) None
    (cond t (idle_step w (Remove s) (cond (is_last n w) (Some Last) None))
    (idle_step w (Remove s) (Some (why_void n s))))
by_removal n w s true = (cond (is_last n w) (Some Last) None, refl)
by_removal n w s false = (Some (why_void n s), refl)

-- THE FRAME of an event
pub framed : (n : ℕ) (w : World) (event : Event)
    → IsFramed n w event (taking_in n w event) (next n w event)
framed n w (Called s moment call) =
    by_call n w s moment call (is_live n w s) (is_due (removals w.journal) call) refl refl
framed n w (Tick s moment word) =
    by_server n w (Tick s moment word) s (input.Tick moment word) (Some (why_void n s)) tt tt
    (is_live n w s) refl
framed n w (Deliver number) =
    by_message n w (Deliver number) (message_at (bag w.journal) number)
    (λ m is. was_sent w.journal number m is)
framed n w (Lose number) = by_bag n w (Lose number) (message_at (bag w.journal) number)
framed n w (Repeat number) = by_bag n w (Repeat number) (message_at (bag w.journal) number)
framed n w (Restart s) =
    by_server n w (Restart s) s input.Restart (Some (why_void n s)) tt tt (is_live n w s) refl
framed n w (Remove s) = by_removal n w s (is_live n w s)

-- where a server takes an input, that is what the event does
pub next_is : (n : ℕ) (w : World) (event : Event) (t : Taking) → taking_in n w event ≡ Some t
    → next n w event ≡ effect_step w event t.server t.asked
next_is n w event t is =
    (subst (λ (o : Option Taking). IsFramed n w event o (next n w event)) is (framed n w event)).1

-- and it is a server of the run
pub acts_is : (n : ℕ) (w : World) (event : Event) (t : Taking) → taking_in n w event ≡ Some t
    → Acts n w t
acts_is n w event t is =
    (subst (λ (o : Option Taking). IsFramed n w event o (next n w event)) is (framed n w event)).0

-- ---- what each server has

-- what holds of the server that did it, and of the others before, holds of all
pub each_after : {N : Type 0} (P : ℕ → N → Type 0) (nodes : ℕ → N) (s : ℕ) (b : N)
    → ((j : ℕ) → P j (nodes j)) → P s b → (j : ℕ) → P j (after nodes s b j)
each_after P nodes s b all new j = elim (here nodes s b j) [
  | inl e ↦ subst (P j) (sym e.1) (subst (λ k. P k b) (sym e.0) new)
  | inr e ↦ subst (P j) (sym e.1) (all j)
]

pub other_after : {N : Type 0} (nodes : ℕ → N) (s : ℕ) (b : N) (j : ℕ) → j ≢ s
    → after nodes s b j ≡ nodes j
other_after nodes s b j apart =
    elim (here nodes s b j) [ inl e ↦ absurd (apart e.0) | inr e ↦ e.1 ]

-- the same of two things that each server has
pub pair_after : {M N : Type 0} (P : ℕ → M → N → Type 0) (ms : ℕ → M) (ns : ℕ → N) (s : ℕ) (b : M)
    (c : N) → ((j : ℕ) → P j (ms j) (ns j)) → P s b c
    → (j : ℕ) → P j (after ms s b j) (after ns s c j)
pair_after P ms ns s b c all new j = elim (here ms s b j) [
  | inl e ↦ (
      let right : after ns s c j ≡ c = ap (after ns s c) e.0 ∙ after_itself ns s c in
      subst (λ x. P j x (after ns s c j)) (sym e.1)
      (subst (P j b) (sym right) (subst (λ k. P k b c) (sym e.0) new)))
  | inr e ↦ subst (λ x. P j x (after ns s c j)) (sym e.1)
      (subst (P j (ms j)) (sym (other_after ns s c j e.0)) (all j))
]

-- ---- events one after another

-- one event more
pub run_more : (n : ℕ) (w : World) (events : List Event) (event : Event)
    → run_from n w (events ++ event ∷ [])
    ≡ world_after (run_from n w events) (next n (run_from n w events) event)
run_more n w [] event = refl
run_more n w (e ∷ events) event = run_more n (world_after w (next n w e)) events event

-- no event admits a server, so whatever is said of the runs outlives those that do
pub no_server_comes : (event : Event) (server : ℕ) → coming_in event ≡ Some server → ⊥
no_server_comes event server h = absurd (let z : None ≡ Some server = h in cc)

-- first: it holds at the start
-- idle: it outlives an event in which no server takes an input
-- comes: and one in which a server comes
-- acts: and one in which a server takes an input
pub record OutlivesEvents (n : ℕ) (P : World → Type 0) : Type 0 where
  pub first : P (start n)
  pub idle : (w : World) (event : Event) (cause : Option VoidCause) → P w
      → P (world_after w (idle_step w event cause))
  pub comes : (events : List Event) (event : Event) (server : ℕ) → coming_in event ≡ Some server
      → P (run n events) → P (world_after (run n events) (next n (run n events) event))
  pub acts : (events : List Event) (event : Event) (t : Taking)
      → taking_in n (run n events) event ≡ Some t → Acts n (run n events) t → P (run n events)
      → P (world_after (run n events) (effect_step (run n events) event t.server t.asked))

module _ (n : ℕ) (P : World → Type 0) (k : OutlivesEvents n P) where
  kept_by : (events : List Event) (event : Event) (o : Option Taking) (step : Step)
      → taking_in n (run n events) event ≡ o → IsFramed n (run n events) event o step
      → P (run n events) → P (world_after (run n events) step)
  kept_by events event None step is f h =
      subst (λ (z : Step). P (world_after (run n events) z)) (sym f.1)
      (k.idle (run n events) event f.0 h)
  kept_by events event (Some t) step is f h =
      subst (λ (z : Step). P (world_after (run n events) z)) (sym f.1)
      (k.acts events event t is f.0 h)

  -- an event in which a server comes, or any other
  kept_at : (events : List Event) (event : Event) (o : Option ℕ) → coming_in event ≡ o
      → P (run n events) → P (world_after (run n events) (next n (run n events) event))
  kept_at events event None is h =
      let w = run n events in
      kept_by events event (taking_in n w event) (next n w event) refl (framed n w event) h
  kept_at events event (Some server) is h = k.comes events event server is h

  kept_on : (before events : List Event) → P (run n before) → P (run_from n (run n before) events)
  kept_on before [] h = h
  kept_on before (event ∷ events) h =
      let w = run n before in
      let more : run n (before ++ event ∷ []) ≡ world_after w (next n w event) =
      run_more n (start n) before event in
      let then : P (world_after w (next n w event)) =
      kept_at before event (coming_in event) refl h in
      subst (λ (v : World). P (run_from n v events)) more
      (kept_on (before ++ event ∷ []) events (subst P (sym more) then))

  -- IN EVERY RUN
  pub holds_in_runs : (events : List Event) → P (run n events)
  holds_in_runs events = kept_on [] events k.first
