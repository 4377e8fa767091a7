-- The program's servers and messages, after an event, are the world's.
use Rattle.std.proofs.Common.{ℕ, ◌≡◌, ◌≤◌, ◌<◌, ◌+◌, ◌⊎◌, ◌&&◌, ◌==◌, ◌-◌, get_or, Result, Ok, Err, OnOk, IfOk, ◌++◌, Bool, true, false, cond, Option, None, Some, List, [], ◌∷◌, refl, sym, ap, subst, ◌∙◌, zero, suc, slice_get, arith, inl, inr, length}
use Rattle.std.specs.Option.{option_eq}
use Rattle.std.specs.Prelude.{nat_eq}
use Rattle.std.proofs.lemmas.Bool.{and_parts, cases_lt, ne_eqb}
use Rattle.std.proofs.lemmas.List.{append-nil, get_or_append_left, get_or_push}
use Rattle.pg_call.specs.declared.call.Call.{Call}
use Rattle.pg_store.specs.Store.{new_store}
use Rattle.pg_msg.specs.declared.message.Sent.{Sent}
use Rattle.pg_event.specs.declared.entry.Entry.{Entry}
use Rattle.pg_event.specs.declared.entry.VoidCause.{VoidCause}
use Rattle.pg_event.specs.declared.entry.VoidCause.TheVariants.{Last, NoMessage, Unremoved}
use Rattle.pg_event.specs.declared.event.Event.{Event}
use Rattle.pg_event.specs.declared.event.Event.TheVariants.{Call as Called, Deliver, Remove}
use Rattle.pg_server.specs.declared.input.Input.{Input}
use Rattle.pg_server.specs.declared.input.Input.TheVariants as input
use Rattle.pg_server.specs.declared.server.Server.{Server}
use Rattle.pg_server.specs.Local.{effect}
use Rattle.pg_run.specs.Journal.{bag, bag_after, message_at, removals, removed_in, to_live, without, without_to}
use Rattle.pg_run.specs.Run.{World, Step, call_step, delivery_step, effect_step, given_step, idle_step, is_due, is_last, is_live, is_removal, is_server, next, removal_step, run_from, server_step, why_void, world_after}
use Rattle.pg_world.specs.declared.machine.Machine.{Machine}
use Rattle.pg_world.specs.Stands.{AddsOnly, BagBehind, EachStands, EachStandsBehind, IsStepEntry, Stands, StepsBehind, lives, removal_at, step_by, void_at, void_call, void_giveup, void_or, void_removal}

-- ---- who is live

pub live_is_server : (n : ℕ) (removed : List ℕ) (server : ℕ) → lives n removed server ≡ true → is_server n server ≡ true
live_is_server n removed server h = (and_parts (is_server n server) _ h).0

pub none_is_server : (n : ℕ) (removed : List ℕ) (server : ℕ) → void_at n removed server ≡ None → is_server n server ≡ true
none_is_server n removed server h = live_is_server n removed server (by (lives n removed server) h)
  where
    by : (t : Bool) → cond t None (Some (why_void n server)) ≡ None → t ≡ true
    by true e = refl
    by false e = absurd (let z : ◌≡◌ {A = Option VoidCause} (Some (why_void n server)) None = e in cc)

-- a call that is not void is to a live server
pub call_is_server : (n : ℕ) (removed : List ℕ) (server : ℕ) (c : Call) → void_call n removed server c ≡ None → is_server n server ≡ true
call_is_server n removed server c h = by (void_at n removed server) refl h
  where
    by : (o : Option VoidCause) → void_at n removed server ≡ o → void_call n removed server c ≡ None → is_server n server ≡ true
    by None e k = none_is_server n removed server e
    by (Some v) e k =
        absurd (let z : ◌≡◌ {A = Option VoidCause} (Some v) None = sym (ap (λ o. void_or o (void_giveup removed c)) e) ∙ k in cc)

pub live_so : (m : Machine) (w : World) (n server : ℕ) → Stands m w → lives n m.removed server ≡ is_live n w server
live_so m w n server h = ap (λ (r : List ℕ). lives n r server) h.removed

-- the same servers live in two machines with the same servers and removals
pub lives_same : (m k : Machine) (server : ℕ) → k.servers ≡ m.servers → k.removed ≡ m.removed
    → lives (length m.servers.items) m.removed server ≡ lives (length k.servers.items) k.removed server
lives_same m k server servers removed =
    ap (λ (j : _). lives j m.removed server) (sym (ap (λ (v : _). length v.items) servers))
    ∙ ap (λ (r : _). lives (length k.servers.items) r server) (sym removed)

-- the removal of a number
pub removal_by : (removed : List ℕ) (number server : ℕ) (o : Option ℕ) → o ≡ removal_at removed number
    → option_eq nat_eq o (Some server) ≡ is_removal removed number server
removal_by removed zero server o is = ap (λ p. option_eq nat_eq p (Some server)) is
removal_by removed (suc k) server o is =
    let test : (suc k == 0) ≡ false = ne_eqb (suc k) 0 (λ e. absurd (omega (arith, e))) in
    let place : suc k - 1 ≡ k = omega arith in
    ap (λ p. option_eq nat_eq p (Some server))
    (is ∙ ap (λ b. cond b None (slice_get removed (suc k - 1))) test ∙ ap (slice_get removed) place)

-- ---- an event in which no server does anything

pub still : (m : Machine) (w : World) (e : Event) (void : Option VoidCause) → Stands m w
    → bag_after (removals w.journal) (bag w.journal) e void [] ≡ bag w.journal
    → removed_in e void (removals w.journal) ≡ removals w.journal
    → Stands m (world_after w (idle_step w e void))
still m w e void h same left = record {
  each = h.each;
  removed = h.removed ∙ sym left;
  bag = h.bag ∙ sym same;
}

-- ---- an event in which one does

-- b: behind it
pub acted : (m b : Machine) (w : World) (e : Event) (server : ℕ) (asked : Input) → Stands m w → AddsOnly w e
    → EachStandsBehind m b server asked → BagBehind m b server asked → b.removed ≡ m.removed
    → Stands b (world_after w (effect_step w e server asked))
acted m b w e server asked h adds each bags same =
    let sent = (effect (w.stores server) asked).out.sent in
    record {
      each = each w.stores h.each;
      removed = same ∙ h.removed ∙ sym (adds.removed None);
      bag = bags w.stores h.each
          ∙ ap (λ ms. ms ++ to_live m.removed sent) h.bag
          ∙ ap (λ (r : List ℕ). bag w.journal ++ to_live r sent) h.removed
          ∙ sym (adds.bag None sent);
    }

-- a void event of this kind
pub idled : (m : Machine) (w : World) (e : Event) (cause : VoidCause) → Stands m w → AddsOnly w e
    → Stands m (world_after w (idle_step w e (Some cause)))
idled m w e cause h adds =
    still m w e (Some cause) h (adds.bag (Some cause) [] ∙ append-nil (bag w.journal)) (adds.removed (Some cause))

-- ---- which step it is

pub served_is : (n : ℕ) (w : World) (e : Event) (server : ℕ) (asked : Input)
    → step_by (void_at n (removals w.journal) server) w e server asked ≡ server_step n w e server asked
served_is n w e server asked = by (is_live n w server)
  where
    by : (t : Bool) → step_by (cond t None (Some (why_void n server))) w e server asked
        ≡ cond t (effect_step w e server asked) (idle_step w e (Some (why_void n server)))
    by true = refl
    by false = refl

pub called_is : (n : ℕ) (w : World) (server moment : ℕ) (c : Call)
    → step_by (void_call n (removals w.journal) server c) w (Called server moment c) server (input.Call moment c)
    ≡ call_step n w server moment c
called_is n w server moment c = by (is_live n w server) (is_due (removals w.journal) c)
  where
    by : (t u : Bool)
        → step_by (void_or (cond t None (Some (why_void n server))) (cond u None (Some Unremoved))) w (Called server moment c) server (input.Call moment c)
        ≡ cond t (given_step w (Called server moment c) server (input.Call moment c) u) (idle_step w (Called server moment c) (Some (why_void n server)))
    by true true = refl
    by true false = refl
    by false u = refl

pub removed_is : (n : ℕ) (w : World) (server : ℕ)
    → idle_step w (Remove server) (void_removal n (removals w.journal) server) ≡ removal_step n w (Remove server) server
removed_is n w server = by (is_live n w server)
  where
    by : (t : Bool)
        → idle_step w (Remove server) (void_or (cond t None (Some (why_void n server))) (cond (is_last n w) (Some Last) None))
        ≡ cond t (idle_step w (Remove server) (cond (is_last n w) (Some Last) None)) (idle_step w (Remove server) (Some (why_void n server)))
    by true = refl
    by false = refl

-- ---- a call, a tick, a restart

-- why it is void in the machine, and in the world
void_there : (m : Machine) (w : World) (why : List ℕ → Option VoidCause) (void : Option VoidCause) → Stands m w → void ≡ why m.removed
    → void ≡ why (removals w.journal)
void_there m w why void h is = is ∙ ap why h.removed

module _ (m b : Machine) (n : ℕ) (void : Option VoidCause) (e : Event) (server : ℕ) (asked : Input) where
  pub served : (w : World) → void ≡ void_at n m.removed server → StepsBehind m b void e server asked → Stands m w → AddsOnly w e
      → Stands b (world_after w (server_step n w e server asked))
  served w is steps h adds =
      subst (λ (s : Step). Stands b (world_after w s))
      (ap (λ (v : Option VoidCause). step_by v w e server asked) (void_there m w (λ r. void_at n r server) void h is) ∙ served_is n w e server asked)
      (steps w h adds)

  pub served_entry : (w : World) (entry : Entry) → void ≡ void_at n m.removed server → IsStepEntry m void e server asked entry → Stands m w
      → entry ≡ (server_step n w e server asked).entry
  served_entry w entry is tells h =
      tells w h ∙ ap (λ (s : Step). s.entry)
      (ap (λ (v : Option VoidCause). step_by v w e server asked) (void_there m w (λ r. void_at n r server) void h is) ∙ served_is n w e server asked)

module _ (m b : Machine) (n : ℕ) (void : Option VoidCause) (server moment : ℕ) (c : Call) where
  pub called : (w : World) → void ≡ void_call n m.removed server c
      → StepsBehind m b void (Called server moment c) server (input.Call moment c) → Stands m w
      → Stands b (world_after w (call_step n w server moment c))
  called w is steps h =
      subst (λ (s : Step). Stands b (world_after w s))
      (ap (λ (v : Option VoidCause). step_by v w (Called server moment c) server (input.Call moment c)) (void_there m w (λ r. void_call n r server c) void h is) ∙ called_is n w server moment c)
      (steps w h (record { bag = λ void sent. refl; removed = λ void. refl }))

  pub called_entry : (w : World) (entry : Entry) → void ≡ void_call n m.removed server c
      → IsStepEntry m void (Called server moment c) server (input.Call moment c) entry → Stands m w
      → entry ≡ (call_step n w server moment c).entry
  called_entry w entry is tells h =
      tells w h ∙ ap (λ (s : Step). s.entry)
      (ap (λ (v : Option VoidCause). step_by v w (Called server moment c) server (input.Call moment c)) (void_there m w (λ r. void_call n r server c) void h is) ∙ called_is n w server moment c)

-- ---- a delivery

module _ (m k : Machine) (w : World) (n number : ℕ) (h : Stands m w) (same : k.servers ≡ m.servers) (stay : k.removed ≡ m.removed)
    (taken : k.bag ≡ without m.bag number (message_at m.bag number)) where
  -- the bag without the message
  bag_without : k.bag ≡ without (bag w.journal) number (message_at (bag w.journal) number)
  bag_without = taken ∙ ap (λ xs. without xs number (message_at xs number)) h.bag

  there : (o : Option Sent) → o ≡ message_at m.bag number → message_at (bag w.journal) number ≡ o
  there o e = ap (λ xs. message_at xs number) (sym h.bag) ∙ sym e

  pub each_there : EachStands k.servers.items w.stores
  each_there = subst (λ (xs : List Server). EachStands xs w.stores) (sym (ap (λ (v : _). v.items) same)) h.each

  -- it comes to nobody
  idle_there : (void : Option VoidCause) → Stands k (world_after w (idle_step w (Deliver number) void))
  idle_there void = record {
    each = each_there;
    removed = stay ∙ h.removed;
    bag = bag_without ∙ sym (append-nil (without (bag w.journal) number (message_at (bag w.journal) number)));
  }

  by_message : (b : Machine) (o : Option Sent) → o ≡ message_at m.bag number
      → Stands b (world_after w (delivery_step n w (Deliver number) o)) → Stands b (world_after w (next n w (Deliver number)))
  by_message b o e x = subst (λ (o : Option Sent). Stands b (world_after w (delivery_step n w (Deliver number) o))) (sym (there o e)) x

  by_live : (b : Machine) (x : Sent) (t : Bool) → lives n m.removed x.to ≡ t
      → Stands b (world_after w (cond t (effect_step w (Deliver number) x.to (input.Arrival x.packet)) (idle_step w (Deliver number) None)))
      → Stands b (world_after w (delivery_step n w (Deliver number) (Some x)))
  by_live b x t e y =
      subst (λ (t : Bool). Stands b (world_after w (cond t (effect_step w (Deliver number) x.to (input.Arrival x.packet)) (idle_step w (Deliver number) None))))
      (sym e ∙ live_so m w n x.to h) y

  pub none_delivered : None ≡ message_at m.bag number → Stands k (world_after w (next n w (Deliver number)))
  none_delivered e = by_message k None e (idle_there (Some NoMessage))

  pub lost_delivered : (x : Sent) → Some x ≡ message_at m.bag number → lives n m.removed x.to ≡ false
      → Stands k (world_after w (next n w (Deliver number)))
  lost_delivered x e away = by_message k (Some x) e (by_live k x false away (idle_there None))

  -- b: after the server took it
  pub delivered : (b : Machine) (x : Sent) → Some x ≡ message_at m.bag number → lives n m.removed x.to ≡ true
      → EachStandsBehind k b x.to (input.Arrival x.packet) → BagBehind k b x.to (input.Arrival x.packet) → b.removed ≡ k.removed
      → Stands b (world_after w (next n w (Deliver number)))
  delivered b x e live each bags kept =
      let sent = (effect (w.stores x.to) (input.Arrival x.packet)).out.sent in
      by_message b (Some x) e (by_live b x true live (record {
        each = each w.stores each_there;
        removed = kept ∙ stay ∙ h.removed;
        bag = bags w.stores each_there
            ∙ ap (λ ms. ms ++ to_live k.removed sent) bag_without
            ∙ ap (λ (r : List ℕ). without (bag w.journal) number (message_at (bag w.journal) number) ++ to_live r sent) (stay ∙ h.removed);
      }))

  -- what its entry says
  pub entry_by : (entry : Entry) (o : Option Sent) → o ≡ message_at m.bag number → entry ≡ (delivery_step n w (Deliver number) o).entry
      → entry ≡ (next n w (Deliver number)).entry
  entry_by entry o e is = is ∙ ap (λ o. (delivery_step n w (Deliver number) o).entry) (sym (there o e))

  pub entry_live : (entry : Entry) (x : Sent) (t : Bool) → Some x ≡ message_at m.bag number → lives n m.removed x.to ≡ t
      → entry ≡ (cond t (effect_step w (Deliver number) x.to (input.Arrival x.packet)) (idle_step w (Deliver number) None)).entry
      → entry ≡ (next n w (Deliver number)).entry
  entry_live entry x t e live is =
      entry_by entry (Some x) e
      (is ∙ ap (λ t. (cond t (effect_step w (Deliver number) x.to (input.Arrival x.packet)) (idle_step w (Deliver number) None)).entry)
      (sym live ∙ live_so m w n x.to h))

-- ---- a removal

module _ (m b : Machine) (w : World) (n server : ℕ) (h : Stands m w) where
  by_void : (x : Machine) (o : Option VoidCause) → o ≡ void_removal n m.removed server
      → Stands x (world_after w (idle_step w (Remove server) o)) → Stands x (world_after w (next n w (Remove server)))
  by_void x o is y =
      subst (λ (s : Step). Stands x (world_after w s))
      (ap (idle_step w (Remove server)) (is ∙ ap (λ (r : List ℕ). void_removal n r server) h.removed) ∙ removed_is n w server) y

  pub not_removed : (cause : VoidCause) → Some cause ≡ void_removal n m.removed server → Stands m (world_after w (next n w (Remove server)))
  not_removed cause is = by_void m (Some cause) is (still m w (Remove server) (Some cause) h refl refl)

  pub removed : None ≡ void_removal n m.removed server → b.bag ≡ without_to server m.bag → b.servers ≡ m.servers
      → b.removed ≡ m.removed ++ server ∷ [] → Stands b (world_after w (next n w (Remove server)))
  removed is left same grown = by_void b None is (record {
    each = subst (λ (xs : List Server). EachStands xs w.stores) (sym (ap (λ (v : _). v.items) same)) h.each;
    removed = grown ∙ ap (λ (r : List ℕ). r ++ server ∷ []) h.removed;
    bag = left ∙ ap (without_to server) h.bag;
  })

  pub removal_entry : (entry : Entry) (o : Option VoidCause) → o ≡ void_removal n m.removed server
      → entry ≡ (idle_step w (Remove server) o).entry → entry ≡ (next n w (Remove server)).entry
  removal_entry entry o is e =
      e ∙ ap (λ (s : Step). s.entry)
      (ap (idle_step w (Remove server)) (is ∙ ap (λ (r : List ℕ). void_removal n r server) h.removed) ∙ removed_is n w server)

-- ---- events one behind the other

pub run_from-append : (n : ℕ) (w : World) (first more : List Event) → run_from n w (first ++ more) ≡ run_from n (run_from n w first) more
run_from-append n w [] more = refl
run_from-append n w (x ∷ xs) more = run_from-append n (world_after w (next n w x)) xs more

-- ---- the servers at the start

-- one server more that has taken nothing
pub server_more : (ns ms : List Server) (servers k : ℕ) (x : Server) → length ns ≡ k → ms ≡ ns ++ x ∷ []
    → ((i : ℕ) (d : Server) → i < k → (get_or ns i d).store ≡ new_store servers (i + 1)) → x.store ≡ new_store servers (k + 1)
    → (i : ℕ) (d : Server) → i < k + 1 → (get_or ms i d).store ≡ new_store servers (i + 1)
server_more ns ms servers k x count is each last i d lt =
    ap (λ (l : List Server). (get_or l i d).store) is ∙ at (cases_lt i k)
  where
    at : (i < k) ⊎ (k ≤ i) → (get_or (ns ++ x ∷ []) i d).store ≡ new_store servers (i + 1)
    at (inl h) = ap (λ (n : Server). n.store) (get_or_append_left ns (x ∷ []) d i (omega arith)) ∙ each i d h
    at (inr h) =
        let same : k ≡ i = omega arith in
        ap (λ (n : Server). n.store) (get_or_push ns x d i (omega arith)) ∙ last ∙ ap (λ j. new_store servers (j + 1)) same

-- what two clauses of one call say where it succeeded
pub both_ok : {T E : Type 0} (r : Result T E) (A B C : Type 0) → OnOk r A → OnOk r B → (A → B → C) → OnOk r C
both_ok (Ok x) A B C a b f = f a b
both_ok (Err e) A B C a b f = tt

pub all_ok : {T E : Type 0} (r : Result T E) (A B C D : Type 0) → OnOk r A → OnOk r B → OnOk r C → (A → B → C → D) → OnOk r D
all_ok (Ok x) A B C D a b c f = f a b c
all_ok (Err e) A B C D a b c f = tt

-- what one says
pub then_ok : {T E : Type 0} (r : Result T E) (A B : Type 0) → OnOk r A → (A → B) → OnOk r B
then_ok (Ok x) A B a f = f a
then_ok (Err e) A B a f = tt

pub then_if : {T E : Type 0} (r : Result T E) (A B : T → Type 0) → IfOk r A → ((x : T) → A x → B x) → IfOk r B
then_if (Ok x) A B a f = f x a
then_if (Err e) A B a f = tt
