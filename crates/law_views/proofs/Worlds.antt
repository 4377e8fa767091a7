-- Views along runs: each server is in a view that is a front of the removals, and all messages are
-- of views that their senders had.
use Rattle.std.proofs.Common.{[], ℕ, ◌≡◌, ◌≤◌, ◌+◌, ◌==◌, ◌&&◌, true, false, List, ◌∷◌, ◌++◌, length, take, slice_get, suc, Option, None, Some, ◌⊎◌, inl, inr, refl, sym, ap, subst, ◌∙◌, arith, All}
use Rattle.std.proofs.lemmas.Bool.{and_parts, eqb-true, ne_eqb}
use Rattle.std.proofs.lemmas.List.{append-nil, length-append, take-append-le}
use Rattle.std.proofs.lemmas.List.Elements.{All-append, All-contains, All-nil, All-weaker}
use Rattle.std.proofs.lemmas.Option.{none-some, slice_get_within}
use Rattle.law_frame.specs.pg_run.pg_call.declared.call.Call.TheVariants as call
use Rattle.law_frame.specs.pg_run.pg_edges.Edges.{peers}
use Rattle.law_frame.specs.pg_run.pg_event.declared.entry.VoidCause.{VoidCause}
use Rattle.law_frame.specs.pg_run.pg_event.declared.event.Event.{Event}
use Rattle.law_frame.specs.pg_run.theory_flood.World.{after}
use Rattle.law_frame.proofs.pg_run.theory_flood.Flood.{after_itself, here}
use Rattle.law_frame.proofs.pg_run.pg_intent.Above.{still_apart}
use Rattle.law_frame.specs.pg_run.pg_msg.declared.message.Packet.{Packet}
use Rattle.law_frame.specs.pg_run.pg_msg.declared.message.Sent.{Sent}
use Rattle.law_frame.specs.pg_run.pg_msg.Numbers.{is_in_range}
use Rattle.law_frame.proofs.pg_run.Bags.{All-every}
use Rattle.law_frame.specs.pg_run.pg_register.Flag.{is_removed}
use Rattle.law_frame.specs.pg_run.pg_store.declared.store.Store.{Store}
use Rattle.law_frame.specs.pg_run.pg_store.Seen.{removed_of, view_of}
use Rattle.law_frame.specs.pg_run.pg_store.Servers.{is_live_other}
use Rattle.law_frame.specs.pg_run.pg_store.Store.{is_before_clock_end, new_store}
use Rattle.law_frame.specs.pg_run.pg_calls.GivingUp.{is_next_view, may_give_up}
use Rattle.law_frame.specs.pg_run.pg_server.declared.input.Input.{Input}
use Rattle.law_frame.specs.pg_run.pg_server.declared.input.Input.TheVariants as input
use Rattle.law_frame.specs.pg_run.pg_server.Local.{effect, is_heard}
use Rattle.law_frame.specs.pg_run.Journal.{mail, removals, removed_in}
use Rattle.law_frame.specs.pg_run.Run.{Taking, World, effect_step, idle_entry, idle_step, is_removal, run, start, taking_in, world_after}
use Rattle.law_frame.proofs.pg_run.Frame.{Acts, HasCome, WasDue, holds_in_runs, no_server_comes}
use Rattle.law_frame.proofs.pg_run.Removals.{none_removed, removals_grow}
use Rattle.law_views.proofs.Effects.{Gives, HearsLive, Leaves, effect_leaves}
use Rattle.law_views.proofs.Fine.{IsOfLive, IsSent}
use Rattle.law_views.proofs.Lists.{same_number, take_one}
use Rattle.law_views.proofs.Seen.{IsSeen}
use Rattle.law_views.proofs.Targets.{live_parts}
use Rattle.law_views.specs.Premises.{StandOn}

-- ---- one server, and one message

-- in a run with these removals
pub record IsIn (n : ℕ) (gone : List ℕ) (s : ℕ) (a : Store) : Type 0 where
  pub seen : IsSeen n s (removed_of a) a
  pub front : take (view_of a) gone ≡ removed_of a
  pub within : view_of a ≤ length gone
  pub own : is_removed (removed_of a) s ≡ false

-- whose senders have these stores
pub record IsOf (gone : List ℕ) (stores : ℕ → Store) (m : Sent) : Type 0 where
  pub view : m.packet.view ≤ view_of (stores m.packet.from)
  pub within : m.packet.view ≤ length gone
  pub sender : is_removed (take m.packet.view gone) m.packet.from ≡ false
  pub live : IsOfLive (take m.packet.view gone) m.packet.message

-- ---- removals grow

module _ (gone more : List ℕ) where
  within_more : (k : ℕ) → k ≤ length gone → k ≤ length (gone ++ more)
  within_more k h =
      let e = length-append gone more in
      omega (arith, h, e)

  in_more : (n s : ℕ) (a : Store) → IsIn n gone s a → IsIn n (gone ++ more) s a
  in_more n s a k = record {
    seen = k.seen;
    front = take-append-le (view_of a) gone more k.within ∙ k.front;
    within = within_more (view_of a) k.within;
    own = k.own;
  }

  of_more : (stores : ℕ → Store) (m : Sent) → IsOf gone stores m → IsOf (gone ++ more) stores m
  of_more stores m k =
      let same : take m.packet.view gone ≡ take m.packet.view (gone ++ more) =
      sym (take-append-le m.packet.view gone more k.within) in
      record {
        view = k.view;
        within = within_more m.packet.view k.within;
        sender = subst (λ (xs : List ℕ). is_removed xs m.packet.from ≡ false) same k.sender;
        live = subst (λ (xs : List ℕ). IsOfLive xs m.packet.message) same k.live;
      }

-- ---- a server that takes an input

-- the view that it is in then is a front too
pub record IsFront (gone : List ℕ) (s : ℕ) (a : Store) (view : List ℕ) : Type 0 where
  pub front : take (length view) gone ≡ view
  pub within : length view ≤ length gone
  pub own : is_removed view s ≡ false
  pub more : List ℕ
  pub grown : view ≡ removed_of a ++ more

next_number : (k v : ℕ) → k ≡ v + 1 → k ≡ suc v
next_number k v h = omega (arith, h)

module _ (n : ℕ) (gone : List ℕ) (s : ℕ) (a : Store) (k : IsIn n gone s a) where
  stays_front : IsFront gone s a (removed_of a)
  stays_front = record {
    front = k.front;
    within = k.within;
    own = k.own;
    more = [];
    grown = sym (append-nil (removed_of a));
  }

  -- a removal more, which is the next one
  given_front : (number server : ℕ) → may_give_up a number server ≡ true → is_removal gone number server ≡ true
      → IsFront gone s a (removed_of a ++ server ∷ [])
  given_front number server may due =
      let v = view_of a in
      let R = removed_of a in
      let parts = and_parts (is_next_view a number) (is_live_other a server) may in
      let count : number ≡ suc v = next_number number v (eqb-true number (v + 1) parts.0) in
      let now : is_removal gone (suc v) server ≡ true = subst (λ (j : ℕ). is_removal gone j server ≡ true) count due in
      let found : slice_get gone v ≡ Some server = same_number (slice_get gone v) server now in
      let less = slice_get_within gone v server found in
      let long : length (R ++ server ∷ []) ≡ v + 1 = length-append R (server ∷ []) in
      let apart = (live_parts a server parts.1).differs in
      record {
        front = ap (λ (j : ℕ). take j gone) (next_number (length (R ++ server ∷ [])) v long) ∙ take_one gone v server found ∙ ap (λ (xs : List ℕ). xs ++ server ∷ []) k.front;
        within = omega (arith, long, less);
        own = still_apart R server s k.own (ne_eqb server s (λ e. apart (e ∙ sym k.seen.server)));
        more = server ∷ [];
        grown = refl;
      }

-- ---- a world

pub record Holds (n : ℕ) (w : World) : Type 0 where
  pub servers : (s : ℕ) → 1 ≤ s → s ≤ n → IsIn n (removals w.journal) s (w.stores s)
  pub messages : All (IsOf (removals w.journal) w.stores) (mail w.journal)

-- an event in which no server takes an input
idle_holds : (n : ℕ) (w : World) (event : Event) (cause : Option VoidCause) → Holds n w
    → Holds n (world_after w (idle_step w event cause))
idle_holds n w event cause k =
    let gone = removals w.journal in
    let grown = removals_grow (idle_entry event cause) w.journal in
    let Then : List ℕ → Type 0 = λ xs. ((s : ℕ) → 1 ≤ s → s ≤ n → IsIn n xs s (w.stores s)) × All (IsOf xs w.stores) (mail w.journal) in
    let both : Then (removed_in event cause gone) = subst Then (sym grown.1) (
      λ s least most. in_more gone grown.0 n s (w.stores s) (k.servers s least most),
      All-weaker (IsOf gone w.stores) (IsOf (gone ++ grown.0) w.stores) (λ m h. of_more gone grown.0 w.stores m h) (mail w.journal) k.messages,
    ) in
    record { servers = both.0; messages = both.1 }

-- one in which a server does
module _ (n : ℕ) (stand : StandOn n) (events : List Event) (event : Event) (t : Taking)
    (takes : taking_in n (run n events) event ≡ Some t) (act : Acts n (run n events) t) (k : Holds n (run n events)) where
  abbrev W : World
  W = run n events

  abbrev S : ℕ
  S = t.server

  abbrev A : Store
  A = W.stores S

  abbrev B : Store
  B = (effect A t.asked).store

  abbrev Gone : List ℕ
  Gone = removals W.journal

  pub in_view : IsIn n Gone S A
  in_view = k.servers S act.least act.most

  live_heard : (packet : Packet) → HasCome W S (input.Arrival packet) → is_heard A packet ≡ true
      → IsOfLive (removed_of A) packet.message
  live_heard packet came heard =
      let m : Sent = record { to = S; packet = packet } in
      let is = All-contains (IsOf Gone W.stores) (mail W.journal) m k.messages came in
      let parts = and_parts (is_before_clock_end A) (packet.view == view_of A && (is_live_other A packet.from && is_in_range packet.message)) heard in
      let view : packet.view ≡ view_of A =
      eqb-true packet.view (view_of A) (and_parts (packet.view == view_of A) (is_live_other A packet.from && is_in_range packet.message) parts.1).0 in
      let same : take packet.view Gone ≡ removed_of A = ap (λ (j : ℕ). take j Gone) view ∙ in_view.front in
      subst (λ (xs : List ℕ). IsOfLive xs packet.message) same is.live

  live_by : (asked : Input) → HasCome W S asked → HearsLive A asked
  live_by (input.Arrival packet) came = live_heard packet came
  live_by (input.Call moment c) came = tt
  live_by (input.Tick moment word) came = tt
  live_by input.Restart came = tt

  pub leaves : Leaves n S A in_view.seen (stand.whole events S act.least act.most).together (stand.flags events S act.least act.most) in_view.own t.asked
  leaves =
      effect_leaves n S A in_view.seen (stand.whole events S act.least act.most).together (stand.flags events S act.least act.most)
      in_view.own t.asked (live_by t.asked act.came)

  due_by : (asked : Input) → WasDue W asked → (moment number server : ℕ) → asked ≡ input.Call moment (call.Giveup number server)
      → is_removal Gone number server ≡ true
  due_by asked due moment number server is = subst (WasDue W) is due

  front_by : (how : (leaves.view ≡ removed_of A) ⊎ Gives A t.asked leaves.view) → IsFront Gone S A leaves.view
  front_by (inl same) = subst (IsFront Gone S A) (sym same) (stays_front n Gone S A in_view)
  front_by (inr g) =
      subst (IsFront Gone S A) (sym g.entered)
      (given_front n Gone S A in_view g.number g.server g.may (due_by t.asked act.due g.moment g.number g.server g.is))

  pub front : IsFront Gone S A leaves.view
  front = front_by leaves.how

  removed_is : removed_of B ≡ leaves.view
  removed_is = leaves.seen.removed

  stays_in : IsIn n Gone S B
  stays_in = record {
    seen = subst (λ (xs : List ℕ). IsSeen n S xs B) (sym removed_is) leaves.seen;
    front = subst (λ (xs : List ℕ). take (length xs) Gone ≡ xs) (sym removed_is) front.front;
    within = subst (λ (xs : List ℕ). length xs ≤ length Gone) (sym removed_is) front.within;
    own = subst (λ (xs : List ℕ). is_removed xs S ≡ false) (sym removed_is) front.own;
  }

  abbrev Then : ℕ → Store
  Then = after W.stores S B

  servers_by : (j : ℕ) → 1 ≤ j → j ≤ n → IsIn n Gone j (Then j)
  servers_by j least most = elim (here W.stores S B j) [
    | inl e ↦ subst (IsIn n Gone j) (sym e.1) (subst (λ (i : ℕ). IsIn n Gone i B) (sym e.0) stays_in)
    | inr e ↦ subst (IsIn n Gone j) (sym e.1) (k.servers j least most)
  ]

  -- views grow
  longer : view_of A ≤ view_of B
  longer =
      let one = ap (λ (xs : List ℕ). length xs) removed_is in
      let two = ap (λ (xs : List ℕ). length xs) front.grown in
      let three = length-append (removed_of A) front.more in
      omega (arith, one, two, three)

  later_by : (j : ℕ) → view_of (W.stores j) ≤ view_of (Then j)
  later_by j = elim (here W.stores S B j) [
    | inl e ↦ subst (λ (b : Store). view_of (W.stores j) ≤ view_of b) (sym e.1)
        (subst (λ (i : ℕ). view_of (W.stores i) ≤ view_of B) (sym e.0) longer)
    | inr e ↦ subst (λ (b : Store). view_of (W.stores j) ≤ view_of b) (sym e.1) (let h : view_of (W.stores j) ≤ view_of (W.stores j) = omega arith in h)
  ]

  upto : (x y z : ℕ) → x ≤ y → y ≤ z → x ≤ z
  upto x y z h g = omega (arith, h, g)

  old_on : (m : Sent) → IsOf Gone W.stores m → IsOf Gone Then m
  old_on m h = record {
    view = upto m.packet.view (view_of (W.stores m.packet.from)) (view_of (Then m.packet.from)) h.view (later_by m.packet.from);
    within = h.within;
    sender = h.sender;
    live = h.live;
  }

  view_then : view_of (Then S) ≡ length leaves.view
  view_then = ap view_of (after_itself W.stores S B) ∙ ap (λ (xs : List ℕ). length xs) removed_is

  new_of : (m : Sent) → IsSent n S leaves.view m → IsOf Gone Then m
  new_of m h =
      let same : take m.packet.view Gone ≡ leaves.view = ap (λ (j : ℕ). take j Gone) h.view ∙ front.front in
      let most = front.within in
      let count = h.view in
      let then : view_of (Then m.packet.from) ≡ length leaves.view = ap (λ (j : ℕ). view_of (Then j)) h.from ∙ view_then in
      record {
        view = omega (arith, count, then);
        within = omega (arith, count, most);
        sender = subst (λ (xs : List ℕ). is_removed xs m.packet.from ≡ false) (sym same)
            (ap (is_removed leaves.view) h.from ∙ front.own);
        live = subst (λ (xs : List ℕ). IsOfLive xs m.packet.message) (sym same) h.live;
      }

  pub acted_holds : Holds n (world_after W (effect_step W event S t.asked))
  acted_holds =
      let gone : removed_in event None Gone ≡ Gone = none_removed n W event t takes None Gone in
      let sent = (effect A t.asked).out.sent in
      let Q : List ℕ → Type 0 = λ xs. ((j : ℕ) → 1 ≤ j → j ≤ n → IsIn n xs j (Then j)) × All (IsOf xs Then) (sent ++ mail W.journal) in
      let both : Q (removed_in event None Gone) = subst Q (sym gone) (
        servers_by,
        All-append (IsOf Gone Then) sent (mail W.journal)
            (All-weaker (IsSent n S leaves.view) (IsOf Gone Then) new_of sent leaves.sent)
            (All-weaker (IsOf Gone W.stores) (IsOf Gone Then) old_on (mail W.journal) k.messages),
      ) in
      record { servers = both.0; messages = both.1 }

-- ---- the start

start_seen : (n s : ℕ) → IsSeen n s [] (new_store n s)
start_seen n s = record {
  removed = refl;
  server = refl;
  servers = refl;
  edges = λ file x there. All-every (λ (t : ℕ). is_removed [] t ≡ false) (peers x.edges) (λ t. refl);
  wishes = λ file wish there. absurd (none-some wish there);
}

start_holds : (n : ℕ) → Holds n (start n)
start_holds n = record {
  servers = λ s least most. record { seen = start_seen n s; front = refl; within = omega arith; own = refl };
  messages = All-nil (IsOf [] (start n).stores);
}

pub run_holds : (n : ℕ) → StandOn n → (events : List Event) → Holds n (run n events)
run_holds n stand =
    holds_in_runs n (Holds n) (record {
      first = start_holds n;
      idle = idle_holds n;
      comes = λ past event server is k. absurd (no_server_comes event server is);
      acts = λ events event t takes act k. acted_holds n stand events event t takes act k;
    })
