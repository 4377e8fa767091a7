-- What comes of a tick and of a restart, where a server is as each event leaves it: the house rules
-- and the intentions behind them find nothing to do.
use Rattle.std.proofs.Common.{[], ℕ, ◌≡◌, ◌&&◌, Bool, true, false, cond, not, Option, Some, None, List, ◌∷◌, ◌++◌, drop, length, inl, inr, refl, sym, ap, subst, ◌∙◌, All}
use Rattle.std.specs.Prelude.{Contains}
use Rattle.std.specs.List.Sorted.{IsStrictlySortedBy}
use Rattle.std.specs.Map.{keys_of}
use Rattle.std.specs.List.{filter, flat_map}
use Rattle.std.proofs.lemmas.List.{append-nil}
use Rattle.std.proofs.lemmas.List.Folds.{list_any-from_Any}
use Rattle.pg_base.specs.declared.id.FileId.{FileId}
use Rattle.pg_base.specs.Id.{file_cmp}
use Rattle.pg_register.specs.declared.flag.Flag.{Flag}
use Rattle.pg_register.specs.Flag.{flag_of, is_live}
use Rattle.pg_server.specs.pg_pieces.pg_names.Names.{InodeValue, known}
use Rattle.pg_edges.specs.declared.key.Key.{Key}
use Rattle.pg_edges.specs.declared.edge.Edge.{Edge}
use Rattle.pg_server.specs.pg_pieces.pg_replica.declared.replica.Replica.{Replica}
use Rattle.pg_server.specs.pg_pieces.pg_msg.declared.message.Sent.{Sent}
use Rattle.pg_server.specs.pg_pieces.pg_msg.declared.work.Touched.{Touched}
use Rattle.pg_server.specs.pg_pieces.pg_msg.declared.work.Work.{Work}
use Rattle.pg_server.specs.pg_pieces.pg_msg.Work.{new_work}
use Rattle.pg_event.specs.declared.event.Event.{Event}
use Rattle.pg_event.specs.declared.event.Event.TheVariants.{Restart, Tick}
use Rattle.pg_server.specs.pg_pieces.pg_house.Facts.{AreOrdered}
use Rattle.pg_server.specs.pg_pieces.pg_house.Work.{state_of}
use Rattle.theory_flood.specs.World.{after}
use Rattle.theory_flood.proofs.Flood.{after_itself, here}
use Rattle.pg_server.specs.pg_pieces.pg_store.declared.store.Store.{Store}
use Rattle.pg_server.specs.pg_pieces.pg_store.Births.{birth_of}
use Rattle.pg_server.specs.pg_pieces.pg_store.Seen.{removed_of, server_of}
use Rattle.pg_server.specs.pg_pieces.pg_store.Store.{is_before_clock_end}
use Rattle.pg_server.specs.pg_pieces.Done.{Done, idle}
use Rattle.pg_server.specs.pg_cells.Sending.{cells_where, edge_cells, is_any, is_chosen, key_cell, replica_cells}
use Rattle.pg_server.specs.pg_pieces.Golds.{goldless, is_goldless, is_goldless_held, is_of_later, sees_gold}
use Rattle.pg_server.specs.pg_cells.Settling.{golds_raised, raise_golds, rules, settle, touch_all, with_state}
use Rattle.pg_server.specs.pg_cells.Ticks.{tick}
use Rattle.theory_flood_pieces.specs.Whole.{IsWhole}
use Rattle.pg_server.specs.pg_intentions.Beginning.{begin_end}
use Rattle.pg_server.specs.pg_intentions.Requests.{ask_all, asks}
use Rattle.pg_server.specs.declared.input.Input.TheVariants as input
use Rattle.pg_server.specs.Local.{Effect, closed, effect, finished, intended, sent_again, settled, without_sources, without_volatile}
use Rattle.pg_server.specs.pg_pieces.pg_call.declared.refusal.Refusal.TheVariants.{ClockEnd}
use Rattle.pg_server.specs.pg_pieces.pg_call.declared.reply.Reply.{Reply}
use Rattle.pg_server.specs.pg_pieces.pg_call.declared.reply.Reply.TheVariants as reply
use Rattle.pg_run.specs.Golds.{FullSeeGold}
use Rattle.pg_run.specs.Laws.{AtEach, IsInOrder}
use Rattle.pg_run.specs.Run.{World, effect_entry, effect_step, idle_step, run, why_void}
use Rattle.pg_run.specs.Ticks.{IsRefused, RestartLoses, RestartsLoseWishes, SendsWhatItOwes, TickSends, TicksSendWhatIsOwed, let_through}
use Rattle.pg_run.proofs.Frame.{live_is, other_after}
use Rattle.pg_run.proofs.OwedCells.{KeysAreCells, all_owed, all_sent, all_told}
use Rattle.pg_run.proofs.OwedOrder.{owed_sorted}
use Rattle.pg_run.proofs.Requests.{HasRequest, requests_sent}
use Rattle.pg_run.proofs.StillRules.{house_still}
use Rattle.pg_run.proofs.Walks.{again_is, are_walks, tick_walks}

-- no intention ends or begins, where no place was replaced, no doubtful cell came and no edge was
-- made
abbrev pub StaysIntended : Store → Type 0
StaysIntended a = (work : Work) → work.left ≡ [] → work.unsure ≡ [] → work.linked ≡ []
    → begin_end a work ≡ idle a work

-- order, ordered: what the house rules leave golds: what is full sees a gold still, still_released,
-- still_without: the intentions are as what is held asks; so they are where of no version anybody
-- is asked, and without wishes asked: each has a message by_id: things are by id whole, cells: what
-- the edges leave
pub record IsTidy (n s : ℕ) (a : Store) : Type 0 where
  pub order : IsInOrder a.names
  pub ordered : AreOrdered a.names
  pub golds : FullSeeGold a
  pub still : StaysIntended a
  pub still_released : StaysIntended (without_sources a)
  pub still_without : StaysIntended (without_volatile a)
  pub asked : All (HasRequest a) a.intents
  pub by_id : IsStrictlySortedBy file_cmp (keys_of a.names.held)
  pub whole : IsWhole n s a
  pub cells : KeysAreCells a

-- ---- nothing was touched or linked

none_kept : (file : FileId) (peer : ℕ) (ks : List (Key × ℕ)) → filter (λ (k : Key × ℕ). is_chosen [] [] file peer k.0) ks ≡ []
none_kept file peer [] = refl
none_kept file peer (k ∷ ks) = none_kept file peer ks

edge_none : (a : Store) (file : FileId) (birth : ℕ) (es : List Edge) → flat_map (edge_cells a (is_chosen [] []) file birth) es ≡ []
edge_none a file birth [] = refl
edge_none a file birth (e ∷ es) =
    ap (λ ks. flat_map (key_cell a file birth e) ks ++ flat_map (edge_cells a (is_chosen [] []) file birth) es) (none_kept file e.peer e.keys)
    ∙ edge_none a file birth es

replica_none : (a : Store) (rs : List (FileId × Replica)) → flat_map (replica_cells a (is_chosen [] [])) rs ≡ []
replica_none a [] = refl
replica_none a (r ∷ rs) = ap (λ l. l ++ flat_map (replica_cells a (is_chosen [] [])) rs) (edge_none a r.0 r.1.birth r.1.edges) ∙ replica_none a rs

-- so no more is sent at the end, but the tail
pub nothing_more : (a : Store) (sent tail : List Sent) → ((sent ++ cells_where a (is_chosen [] [])) ++ []) ++ tail ≡ sent ++ tail
nothing_more a sent tail =
    ap (λ l. l ++ tail)
    (append-nil (sent ++ cells_where a (is_chosen [] [])) ∙ ap (λ l. sent ++ l) (replica_none a a.replicas) ∙ append-nil sent)

-- ---- nothing is left to do

-- what was touched before the house rules is not touched anew
none_anew : (ts : List Touched) → drop (length ts) ts ≡ []
none_anew [] = refl
none_anew (t ∷ ts) = none_anew ts

as_it_was : (a : Store) (work : Work) → with_state a work (state_of a.names work) ≡ idle a work
as_it_was a work = ap (λ (ts : List Touched). idle (touch_all a ts) work) (none_anew work.touched)

-- ---- nothing is goldless

-- what is full sees a gold
sees : (removed : List ℕ) (flags : List Flag) (flag : Flag) → Contains flags flag → is_live removed flag ≡ true
    → sees_gold removed flags ≡ true
sees removed flags flag there live =
    list_any-from_Any (is_live removed) flags (there.0, flag, there.1, there.2, live)

full_by : (full seen later : Bool) → (full ≡ true → seen ≡ true) → (full && (not seen && not later)) ≡ false
full_by false seen later h = refl
full_by true seen later h = ap (λ (t : Bool). not t && not later) (h refl)

module _ (a : Store) (golds : FullSeeGold a) where
  sees_one : (f : FileId) (o : Option InodeValue) → known a.names f ≡ o
      → is_goldless_held (removed_of a) (server_of a) (birth_of a f) o ≡ false
  sees_one f None is = refl
  sees_one f (Some x) is =
      full_by x.full (sees_gold (removed_of a) x.own.flags) (is_of_later (birth_of a f) (flag_of x.own.flags (server_of a)))
      (λ full. let gold = golds f x is full in sees (removed_of a) x.own.flags gold.0 gold.1 gold.2)

  none_of : (fs : List FileId) → filter (is_goldless a) fs ≡ []
  none_of [] = refl
  none_of (f ∷ fs) =
      ap (λ (t : Bool). cond t (f ∷ filter (is_goldless a) fs) (filter (is_goldless a) fs)) (sees_one f (known a.names f) refl)
      ∙ none_of fs

  pub none_goldless : goldless a ≡ []
  none_goldless = none_of (keys_of a.names.held)

-- SETTLING AGAIN changes nothing
module _ (a : Store) (order : IsInOrder a.names) (ordered : AreOrdered a.names) (golds : FullSeeGold a) where
  ruled_is : (work : Work) → rules a work ≡ idle a work
  ruled_is work = ap (with_state a work) (house_still work.now a.names work order ordered) ∙ as_it_was a work

  pub settled_is : (work : Work) → settle a work ≡ idle a work
  settled_is work =
      ap golds_raised (ruled_is work)
      ∙ ap (λ (fs : List FileId). raise_golds fs (idle a work)) (none_goldless a golds)

module _ (a : Store) (order : IsInOrder a.names) (ordered : AreOrdered a.names) (golds : FullSeeGold a) (still : StaysIntended a) where
  rest_is : (work : Work) → work.left ≡ [] → work.unsure ≡ [] → work.linked ≡ [] → intended (settled (idle a work)) ≡ idle a work
  rest_is work left unsure linked =
      ap intended (settled_is a order ordered golds work) ∙ still work left unsure linked

  pub closed_is : (r : Option Reply) (work : Work) → work.left ≡ [] → work.unsure ≡ [] → work.linked ≡ []
      → closed r (idle a work) ≡ finished r (idle a work)
  closed_is r work left unsure linked = ap (finished r) (rest_is work left unsure linked)

-- ---- a tick

module _ (a : Store) (moment word : ℕ) where
  abbrev Released : Store
  Released = without_sources a

  abbrev Ticking : Work
  Ticking = record (ask_all a (tick a (new_work moment 0))) { tail = tick_walks a word }

  again : sent_again Released word (new_work moment 0) ≡ Ticking
  again = again_is Released word (new_work moment 0)

  abbrev Sending : Effect
  Sending = finished (Some reply.Done) (idle Released Ticking)

  abbrev Refusing : Effect
  Refusing = finished (Some (reply.Refused ClockEnd)) (idle a (new_work moment 0))

  sent_is : Sending.out.sent ≡ (cells_where a is_any ++ flat_map (asks a) a.intents) ++ tick_walks a word
  sent_is = nothing_more Released (cells_where a is_any ++ flat_map (asks a) a.intents) (tick_walks a word)

  refuses : (event : Event) → IsRefused (effect_entry event Refusing)
  refuses event = record {
    reply = refl;
    made = refl;
    none = nothing_more a [] [];
  }

  module _ (n s : ℕ) (k : IsTidy n s a) (event : Event) where
    sends : SendsWhatItOwes a word (effect_entry event Sending)
    sends =
        let all = all_sent n s a k.whole k.cells in
        record {
          reply = refl;
          made = refl;
          cells = cells_where a is_any;
          requests = flat_map (asks a) a.intents;
          walks = tick_walks a word;
          sent = sent_is;
          owed = all_owed a (let_through a) (cells_where a is_any) all;
          asked = requests_sent a k.asked;
          walk = are_walks n s a k.whole word k.by_id;
          summaries = all_told a (let_through a) (cells_where a is_any) all;
          order = owed_sorted n s a k.whole;
        }

    closes : closed (Some reply.Done) (idle Released Ticking) ≡ Sending
    closes = closed_is Released k.order k.ordered k.golds k.still_released (Some reply.Done) Ticking refl refl refl

    -- it is sent, or refused; and then nobody is asked any more, or nothing changed
    abbrev IsTick : Bool → Effect → Type 0
    IsTick t done = (t ≡ true → SendsWhatItOwes a word (effect_entry event done)) × (¬ (t ≡ true) → IsRefused (effect_entry event done))
        × (t ≡ true → done.store ≡ Released) × (¬ (t ≡ true) → done.store ≡ a)

    abbrev Answering : Bool → Option Reply
    Answering t = Some (cond t reply.Done (reply.Refused ClockEnd))

    abbrev Working : Bool → Work → Done
    Working t w = cond t (idle Released w) (idle a (new_work moment 0))

    by_clock : (t : Bool) → IsTick t (cond t (closed (Answering t) (Working t Ticking)) (finished (Answering t) (Working t Ticking)))
    by_clock true = (
      λ e. subst (λ (done : Effect). SendsWhatItOwes a word (effect_entry event done)) (sym closes) sends,
      λ no. absurd (no refl),
      λ e. ap (λ (done : Effect). done.store) closes,
      λ no. absurd (no refl),
    )
    by_clock false = (
      λ e. absurd (let z : false ≡ true = e in cc),
      λ no. refuses event,
      λ e. absurd (let z : false ≡ true = e in cc),
      λ no. refl,
    )

    abbrev Leaving : Work → Effect
    Leaving w =
        let t = is_before_clock_end a in
        cond t (closed (Answering t) (Working t w)) (finished (Answering t) (Working t w))

    pub tick_is : IsTick (is_before_clock_end a) (effect a (input.Tick moment word))
    tick_is = subst (λ (w : Work). IsTick (is_before_clock_end a) (Leaving w)) (sym again) (by_clock (is_before_clock_end a))

-- ---- the laws, where it holds of each server what events leave

abbrev pub AreTidy : ℕ → Type 0
AreTidy n = (events : List Event) → AtEach n (λ s. IsTidy n s ((run n events).stores s))

tick_step : (n : ℕ) (w : World) (s moment word : ℕ) → IsTidy n s (w.stores s)
    → TickSends w.stores s word (effect_step w (Tick s moment word) s (input.Tick moment word))
tick_step n w s moment word k =
    let event = Tick s moment word in
    let a = w.stores s in
    let is = tick_is a moment word n s k event in
    let done = effect a (input.Tick moment word) in
    let itself : after w.stores s done.store s ≡ done.store = after_itself w.stores s done.store in
    record {
      void = refl;
      sends = is.0;
      loses = λ time. itself ∙ is.2 time;
      refuses = is.1;
      stays = λ late. itself ∙ is.3 late;
      still = λ t apart. other_after w.stores s done.store t apart;
    }

pub ticks_send_what_is_owed : (n : ℕ) → AreTidy n → TicksSendWhatIsOwed n
ticks_send_what_is_owed n tidy events s moment word live =
    let w = run n events in
    let is = live_is n w s live in
    let event = Tick s moment word in
    let P : Bool → Type 0 = (λ b. TickSends w.stores s word (cond b (effect_step w event s (input.Tick moment word)) (idle_step w event (Some (why_void n s))))) in
    subst P (sym live) (tick_step n w s moment word (tidy events s is.least is.most))

-- ---- a restart

module _ (n s : ℕ) (a : Store) (k : IsTidy n s a) where
  abbrev Lost : Store
  Lost = without_volatile a

  abbrev Bare : Effect
  Bare = finished None (idle Lost (new_work 0 0))

  bare_closed : closed None (idle Lost (new_work 0 0)) ≡ Bare
  bare_closed = closed_is Lost k.order k.ordered k.golds k.still_without None (new_work 0 0) refl refl refl

  either_way : (t : Bool) → cond t (closed None (idle Lost (new_work 0 0))) Bare ≡ Bare
  either_way true = bare_closed
  either_way false = refl

  pub restart_is : effect a input.Restart ≡ Bare
  restart_is = either_way (is_before_clock_end a)

  pub bare_sends : Bare.out.sent ≡ []
  bare_sends = nothing_more Lost [] []

restart_step : (n : ℕ) (w : World) (s : ℕ) → IsTidy n s (w.stores s)
    → RestartLoses w.stores s (effect_step w (Restart s) s input.Restart)
restart_step n w s k =
    let a = w.stores s in
    let is = restart_is n s a k in
    record {
      void = refl;
      reply = ap (λ (done : Effect). done.out.reply) is;
      made = ap (λ (done : Effect). done.out.made) is;
      sent = ap (λ (done : Effect). done.out.sent) is ∙ bare_sends n s a k;
      here = elim (here w.stores s (effect a input.Restart).store s) [
        | inl own ↦ own.1 ∙ ap (λ (done : Effect). done.store) is
        | inr other ↦ absurd (other.0 refl)
      ];
      still = λ t apart. elim (here w.stores s (effect a input.Restart).store t) [
        | inl own ↦ absurd (apart own.0)
        | inr other ↦ other.1
      ];
    }

pub restarts_lose_wishes : (n : ℕ) → AreTidy n → RestartsLoseWishes n
restarts_lose_wishes n tidy events s live =
    let w = run n events in
    let is = live_is n w s live in
    let event = Restart s in
    let P : Bool → Type 0 = (λ b. RestartLoses w.stores s (cond b (effect_step w event s input.Restart) (idle_step w event (Some (why_void n s))))) in
    subst P (sym live) (restart_step n w s (tidy events s is.least is.most))
