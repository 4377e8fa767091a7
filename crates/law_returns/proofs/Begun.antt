-- A removal is unknown before its maker makes it; from then on the gate stands.
use Rattle.std.proofs.Common.{[], ℕ, ◌≡◌, ◌<◌, ◌≤◌, ◌++◌, Bool, true, false, List, ◌∷◌, get_or, Contains, Option, None, Some, All, refl, sym, ap, subst, ◌∙◌, inl, inr, arith}
use Rattle.std.proofs.lemmas.Bool.{false≢true}
use Rattle.std.proofs.lemmas.List.Elements.{All-append, All-contains, All-nil}
use Rattle.pg_run.specs.pg_base.declared.id.FileId.{FileId}
use Rattle.pg_run.specs.pg_base.declared.stamp.Stamp.{Stamp}
use Rattle.pg_run.specs.pg_base.Id.{is_same_file}
use Rattle.pg_run.proofs.pg_base.Orders.{is_same_file-true}
use Rattle.pg_run.specs.pg_entries.declared.entry.Entry.{Entry}
use Rattle.pg_run.specs.pg_entries.Entry.{is_listed}
use Rattle.pg_run.specs.pg_call.declared.call.Call.{Call}
use Rattle.pg_run.specs.pg_event.declared.event.Event.{Event}
use Rattle.pg_run.specs.pg_event.declared.entry.Entry.{Entry as Line}
use Rattle.pg_run.proofs.theory_flood.Flood.{after_itself, here}
use Rattle.pg_run.specs.pg_msg.declared.message.Packet.{Packet}
use Rattle.pg_run.specs.pg_msg.declared.message.Sent.{Sent}
use Rattle.pg_run.specs.pg_msg.declared.update.Update.{Update}
use Rattle.pg_run.specs.pg_msg.declared.update.Update.TheVariants as update
use Rattle.pg_run.specs.pg_names.declared.attributes.Attributes.{Attributes}
use Rattle.pg_run.specs.pg_names.Names.{InodeValue, NamesValue, cell_at, is_dir, known, new_names, or_blank, own_at, own_of}
use Rattle.pg_run.proofs.pg_names.Holding.{begun_other, begun_same}
use Rattle.pg_run.specs.pg_register.declared.place.Place.{Place}
use Rattle.pg_run.specs.pg_register.Place.{blank_place, root}
use Rattle.pg_run.specs.pg_house.Facts.{IsLast}
use Rattle.pg_run.proofs.pg_house.Lasting.{drawn_late}
use Rattle.pg_run.specs.pg_store.declared.store.Store.{Store}
use Rattle.pg_run.specs.pg_store.Seen.{removed_of}
use Rattle.pg_run.specs.pg_store.Start.{first_names, root_own}
use Rattle.pg_run.specs.pg_calls.Making.{drawn}
use Rattle.pg_run.specs.pg_server.declared.input.Input.{Input}
use Rattle.pg_run.specs.pg_server.declared.input.Input.TheVariants as input
use Rattle.pg_run.specs.pg_server.Local.{effect, is_heard}
use Rattle.pg_run.proofs.theory_flood_pieces.Growth.{entry_known_itself}
use Rattle.pg_run.specs.Journal.{mail}
use Rattle.pg_run.specs.Laws.{TakesIn}
use Rattle.pg_run.specs.Run.{Step, World, effect_step, idle_step, next, run, run_from, start, world_after}
use Rattle.pg_run.specs.Views.{removed_by}
use Rattle.pg_run.proofs.Lists.{contained_among}
use Rattle.law_returns.specs.Gate.{Brings, EdgesAreKept, GateStands, IsDated, IsGated, IsStillThere, IsUnknown, IsUnknownAtFirst, KnowsChildren, KnowsOrOver, RemovedAreEmpty, Removes, place_at}
use Rattle.pg_run.proofs.Frame.{HasCome}
use Rattle.law_full.proofs.Acting.{next_by, runs_keep}
use Rattle.law_full.proofs.HousePlaces.{drawn_some}
use Rattle.law_full.proofs.Called.{IsGoing}
use Rattle.law_returns.proofs.Deaths.{IsCaused}
use Rattle.law_returns.proofs.Fronts.{heard_view, still_on, still_view, within_on}
use Rattle.law_returns.proofs.Gated.{Later, Stands, all_sent, caused, dated_before, dated_behind, gated_from, lasts, sent_known, still_sent, still_then, then_knows}
use Rattle.law_returns.proofs.Lasting.{still_before}
use Rattle.law_returns.proofs.Letters.{mindful_run, stands_run}
use Rattle.law_returns.proofs.MadeDeaths.{GoesIn, IsOfGoing, effect_made}
use Rattle.law_returns.proofs.Empty.{empty_by}

-- ---- places are not later than the greatest time

place_by : (s : NamesValue) (f : FileId) (o : Option Attributes) → own_at s f ≡ o → IsLast s → (or_blank f o).place.stamp.time ≤ s.last
place_by s f None h k = omega arith
place_by s f (Some b) h k = k.own f b h

place_last : (s : NamesValue) (f : FileId) → IsLast s → (place_at s f).stamp.time ≤ s.last
place_last s f k = place_by s f (own_at s f) refl k

not_both : (a b c : ℕ) → a ≤ b → b ≤ c → c < a → ⊥
not_both a b c h k l = omega arith

up_to : (a b c : ℕ) → a ≤ b → b < c → a < c
up_to a b c h l = omega arith

some_late : (a b : ℕ) → a < b → 1 ≤ b
some_late a b h = omega arith

-- what was made in the latest event
abbrev made_last : List Line → List Update
made_last [] = []
made_last (line ∷ lines) = line.made

-- ---- at the start nobody knows it

start_by : (n s : ℕ) (dir : FileId) (removal : Place) (t : Bool) → is_same_file dir root ≡ t → removal.live ≡ false → 1 ≤ removal.stamp.time → place_at (first_names n s) dir ≡ removal → ⊥
start_by n s dir removal true same dead late h =
    false≢true (sym dead ∙ ap (λ (p : Place). p.live) (sym h) ∙ ap (λ (o : Option InodeValue). (or_blank dir (own_of o)).place.live) (ap (known (first_names n s)) (is_same_file-true dir root same) ∙ begun_same (new_names s) root (root_own n) true))
start_by n s dir removal false other dead late h =
    let blank : place_at (first_names n s) dir ≡ blank_place dir = ap (λ (o : Option InodeValue). (or_blank dir (own_of o)).place) (begun_other (new_names s) root (root_own n) true dir other) in
    (let e : 0 ≡ removal.stamp.time = ap (λ (p : Place). p.stamp.time) (sym blank ∙ h) in omega (arith, e, late))

module _ (n : ℕ) (dir : FileId) (is : is_dir dir ≡ true) (removal : Place) (dead : removal.live ≡ false) (late : 1 ≤ removal.stamp.time) where
  abbrev Maker : ℕ
  Maker = removal.stamp.server

  abbrev NotBrought : World → Sent → Type 0
  NotBrought v m = Brings dir removal m.packet.message → IsDated v m × ¬ (IsStillThere (removed_by v m.packet.view) removal)

  pub unknown_start : IsUnknownAtFirst n dir removal (start n)
  unknown_start early = record {
    there = λ s least most there at. start_by n s dir removal (is_same_file dir root) refl dead late at;
    brought = All-nil (NotBrought (start n));
  }

  module _ (w : World) (k : Stands n w) (u : IsUnknownAtFirst n dir removal w) where
    module _ (event : Event) (s : ℕ) (asked : Input) (least : 1 ≤ s) (most : s ≤ n) (takes : TakesIn n w event s asked) (sent : HasCome w s asked) (next : Stands n (world_after w (effect_step w event s asked))) where
      abbrev End : Store
      End = (effect (w.stores s) asked).store

      abbrev Now : ℕ → Store
      Now = Later n dir is removal dead late w k event s asked least most takes sent

      at_itself : Now s ≡ End
      at_itself = after_itself w.stores s End

      abbrev Step_by : Step
      Step_by = effect_step w event s asked

      abbrev Next : World
      Next = world_after w Step_by

      not_sent : (packet : Packet) → is_heard (w.stores s) packet ≡ true → IsStillThere (removed_of (w.stores s)) removal → All (NotBrought w) (mail w.journal)
          → HasCome w s (input.Arrival packet) → Brings dir removal packet.message → ⊥
      not_sent packet heard there none way b =
          (All-contains (NotBrought w) (mail w.journal) (record { to = s; packet = packet }) none way b).1
          (still_view w s (w.stores s) packet.view removal (k.on.views s least most) (heard_view (w.stores s) packet heard) there)

      -- it does not come about, but at its maker
      not_caused : (x : Input) → HasCome w s x → IsUnknown n dir removal w → IsStillThere (removed_of (w.stores s)) removal → (Maker ≡ s → ⊥) → IsCaused (w.stores s) x dir removal → ⊥
      not_caused (input.Call moment c) way v there other (inl same) = v.there s least most there (sym same)
      not_caused (input.Call moment c) way v there other (inr now) = other (ap (λ (x : Stamp). x.server) now ∙ (k.on.whole s).server)
      not_caused (input.Tick moment word) way v there other same = v.there s least most there (sym same)
      not_caused (input.Arrival packet) way v there other (inl same) = v.there s least most there (sym same)
      not_caused (input.Arrival packet) way v there other (inr b) = not_sent packet b.0 there v.brought way b.1
      not_caused input.Restart way v there other same = v.there s least most there (sym same)

      unknown_acted : IsUnknownAtFirst n dir removal (world_after w (effect_step w event s asked))
      unknown_acted early =
          let before : (w.stores Maker).names.last < removal.stamp.time = up_to (w.stores Maker).names.last (Now Maker).names.last removal.stamp.time (lasts n dir is removal dead late w k event s asked least most takes sent Maker) early in
          let v = u before in
          let not_then : IsStillThere (removed_of End) removal → place_at End.names dir ≡ removal → ⊥ =
          λ there at. not_caused asked sent v (still_before (w.stores s) asked removal there)
          (λ same.
          let last : IsLast End.names = subst (λ (x : Store). IsLast x.names) at_itself (next.on.whole s).names.last in
          let time : removal.stamp.time ≤ End.names.last = subst (λ (p : Place). p.stamp.time ≤ End.names.last) at (place_last End.names dir last) in
          let here_now : Now Maker ≡ End = ap Now same ∙ at_itself in
          not_both removal.stamp.time End.names.last (Now Maker).names.last time (subst (λ (x : Store). End.names.last ≤ x.names.last) (sym here_now) (omega arith)) early)
          (caused n dir is removal dead late w k event s asked least most takes sent there at) in
          record {
            there = λ t l m there at. elim (here w.stores s End t) [
              | inl e ↦ not_then (subst (λ (x : Store). IsStillThere (removed_of x) removal) e.1 there)
                  (ap (λ (x : Store). place_at x.names dir) (sym e.1) ∙ at)
              | inr e ↦ v.there t l m (subst (λ (x : Store). IsStillThere (removed_of x) removal) e.1 there)
                  (ap (λ (x : Store). place_at x.names dir) (sym e.1) ∙ at)
            ];
            brought = All-append (NotBrought Next) (effect (w.stores s) asked).out.sent (mail w.journal)
                (all_sent n dir is removal dead late w k event s asked least most takes sent next.on (NotBrought Next) (λ m none b. absurd (none b))
                (λ m g b. let h = g b in (
                  dated_before n dir is removal dead late w k event s asked least most takes sent next.on m h.view,
                  λ there. v.there s least most (still_sent n dir is removal dead late w k event s asked least most takes sent next.on m h.view there) h.place,
                ))
                (λ m g b. let h = g b in (
                  dated_behind n dir is removal dead late w k event s asked least most takes sent next.on m h.view,
                  λ there. not_then (still_then n dir is removal dead late w k event s asked least most takes sent next.on m h.view there)
                      (ap (λ (x : Store). place_at x.names dir) (sym at_itself) ∙ h.place),
                )))
                (λ i d lt b.
                let m = get_or (mail w.journal) i d in
                let old = v.brought i d lt b in
                (within_on w Step_by m.packet.view old.0, λ there. old.1 (still_on w Step_by m.packet.view removal old.0 there)));
          }

    pub unknown_next : (e : Event) → Stands n (world_after w (next n w e)) → IsUnknownAtFirst n dir removal (world_after w (next n w e))
    unknown_next e then =
        next_by n w (λ (v : World). Stands n v → IsUnknownAtFirst n dir removal v) (record {
          still = λ event cause after early.
              (let v = u early in
              let step = idle_step w event cause in
              record {
                there = v.there;
                brought = λ i d lt b.
                    (let m = get_or (mail w.journal) i d in
                    let old = v.brought i d lt b in
                    (within_on w step m.packet.view old.0, λ there. old.1 (still_on w step m.packet.view removal old.0 there)));
              });
          acted = λ event s asked least most takes sent after. unknown_acted event s asked least most takes sent after;
        }) e then

    -- ---- its maker makes it

    abbrev Known : NamesValue
    Known = (w.stores Maker).names

    -- the gate stands, and the maker listed no child
    pub record Begins (v : World) : Type 0 where
      pub least : 1 ≤ Maker
      pub most : Maker ≤ n
      pub gated : IsGated n Known dir removal v
      pub empty : (child : FileId) (e : Entry) → cell_at Known dir child ≡ Some e → is_listed dir e ≡ false

    abbrev BeginsIf : World → Type 0
    BeginsIf v = Stands n v → Contains (made_last v.journal) (update.Place dir removal) → Begins v

    abbrev NoUpdates : List Update
    NoUpdates = []

    none_made : Contains NoUpdates (update.Place dir removal) → ⊥
    none_made at = (let lt = at.1 in omega arith)

    itself : (t : ℕ) → Maker ≡ t → KnowsChildren dir Known (w.stores t).names
    itself t same = subst (λ (i : ℕ). KnowsChildren dir Known (w.stores i).names) same (λ child. entry_known_itself (cell_at Known dir child))

    goes_by : (event : Event) (s moment : ℕ) (c : Call) → 1 ≤ s → s ≤ n → TakesIn n w event s (input.Call moment c) → IsGoing (w.stores s) moment dir removal
        → Stands n (world_after w (effect_step w event s (input.Call moment c)))
        → Contains (effect (w.stores s) (input.Call moment c)).out.made (update.Place dir removal)
        → Begins (world_after w (effect_step w event s (input.Call moment c)))
    goes_by event s moment c least most takes goes next made =
        let asked = input.Call moment c in
        let a = w.stores s in
        let end = (effect a asked).store in
        let now = Later n dir is removal dead late w k event s asked least most takes tt in
        let same : Maker ≡ s = ap (λ (x : Stamp). x.server) goes.now ∙ (k.on.whole s).server in
        let later : a.names.last < removal.stamp.time = subst (λ (x : Stamp). a.names.last < x.time) (sym goes.now) (drawn_late moment a.names.last (drawn a moment).time refl) in
        let v = u (subst (λ (i : ℕ). (w.stores i).names.last < removal.stamp.time) (sym same) later) in
        let now_known : place_at end.names dir ≡ removal → KnowsChildren dir Known end.names =
        then_knows n dir is removal dead late w k event s asked least most takes tt Known (itself s same) in
        let step = effect_step w event s asked in
        let P : Sent → Type 0 = λ m. (b : Brings dir removal m.packet.message) → IsDated (world_after w step) m
        × (IsStillThere (removed_by (world_after w step) m.packet.view) removal → 1 ≤ m.to → m.to ≤ n → KnowsOrOver dir Known (now m.to) b.ends.receiver) in
        record {
          least = subst (λ (i : ℕ). 1 ≤ i) (sym same) least;
          most = subst (λ (i : ℕ). i ≤ n) (sym same) most;
          gated = record {
            passed = next.on.made dir removal (inl (contained_among (effect a asked).out.made (update.Place dir removal) made));
            there = λ t l m there at. elim (here w.stores s end t) [
              | inl e ↦ subst (λ (x : Store). KnowsChildren dir Known x.names) (sym e.1)
                  (now_known (ap (λ (x : Store). place_at x.names dir) (sym e.1) ∙ at))
              | inr e ↦ absurd (v.there t l m (subst (λ (x : Store). IsStillThere (removed_of x) removal) e.1 there)
                  (ap (λ (x : Store). place_at x.names dir) (sym e.1) ∙ at))
            ];
            brought = All-append P (effect a asked).out.sent (mail w.journal)
                (sent_known n dir is removal dead late w k event s asked least most takes tt next.on Known (λ there at. itself s same) (λ there at. now_known at))
                (λ i d lt b.
                let m = get_or (mail w.journal) i d in
                let old = v.brought i d lt b in
                (within_on w step m.packet.view old.0, λ there l q. absurd (old.1 (still_on w step m.packet.view removal old.0 there))));
          };
          empty = λ child e at.
              (let here_at : cell_at a.names dir child ≡ Some e = ap (λ (i : ℕ). cell_at (w.stores i).names dir child) (sym same) ∙ at in
              empty_by dir (known a.names dir) (goes.empty is) child e here_at);
        }

    begins_by : (event : Event) (s : ℕ) (asked : Input) → 1 ≤ s → s ≤ n → TakesIn n w event s asked → GoesIn (w.stores s) asked dir removal
        → Stands n (world_after w (effect_step w event s asked)) → Contains (effect (w.stores s) asked).out.made (update.Place dir removal)
        → Begins (world_after w (effect_step w event s asked))
    begins_by event s (input.Call moment c) least most takes goes next made = goes_by event s moment c least most takes goes next made
    begins_by event s (input.Tick moment word) least most takes goes next made = absurd goes
    begins_by event s (input.Arrival packet) least most takes goes next made = absurd goes
    begins_by event s input.Restart least most takes goes next made = absurd goes

    pub begins_next : (e : Event) → BeginsIf (world_after w (next n w e))
    begins_next e =
        next_by n w BeginsIf (record {
          still = λ event cause next made. absurd (none_made made);
          acted = λ event s asked least most takes sent next made.
              begins_by event s asked least most takes
              (All-contains (IsOfGoing (w.stores s) asked) (effect (w.stores s) asked).out.made (update.Place dir removal) (effect_made (w.stores s) asked) made dir removal refl dead) next made;
        }) e

run_further : (n : ℕ) (w : World) (xs ys : List Event) → run_from n w (xs ++ ys) ≡ run_from n (run_from n w xs) ys
run_further n w [] ys = refl
run_further n w (x ∷ xs) ys = run_further n (world_after w (next n w x)) xs ys

-- ---- where a removal is made

-- it has a later time than the first
made_late : (n : ℕ) (before : List Event) (removing : Event) (dir : FileId) (removal : Place) → Removes n before removing dir removal → 1 ≤ removal.stamp.time
made_late n before removing dir removal r =
    next_by n (run n before) (λ (v : World). Contains (made_last v.journal) (update.Place dir removal) → 1 ≤ removal.stamp.time) (record {
      still = λ event cause made. absurd (let lt = made.1 in omega arith);
      acted = λ event s asked least most takes sent made.
          late_by ((run n before).stores s) asked
          (All-contains (IsOfGoing ((run n before).stores s) asked) (effect ((run n before).stores s) asked).out.made (update.Place dir removal) (effect_made ((run n before).stores s) asked) made dir removal refl r.dead);
    }) removing r.made
  where
    late_by : (a : Store) (x : Input) → GoesIn a x dir removal → 1 ≤ removal.stamp.time
    late_by a (input.Call moment c) goes = subst (λ (t : Stamp). 1 ≤ t.time) (sym goes.now) (drawn_some moment a.names.last)
    late_by a (input.Tick moment word) goes = absurd goes
    late_by a (input.Arrival packet) goes = absurd goes
    late_by a input.Restart goes = absurd goes

pub stands_all : (n : ℕ) → EdgesAreKept n → (events : List Event) → Stands n (run n events)
stands_all n edges events = record { on = stands_run n edges events; mindful = mindful_run n edges events }

module _ (n : ℕ) (edges : EdgesAreKept n) (before : List Event) (removing : Event) (dir : FileId) (removal : Place) (r : Removes n before removing dir removal) where
  abbrev pub Before : World
  Before = run n before

  abbrev Behind : World
  Behind = world_after Before (next n Before removing)

  pub is_late : 1 ≤ removal.stamp.time
  is_late = made_late n before removing dir removal r

  pub holds : (some : List Event) → Stands n (run_from n Before some)
  holds some = subst (Stands n) (run_further n (start n) before some) (stands_all n edges (before ++ some))

  pub unknown_before : IsUnknownAtFirst n dir removal Before
  unknown_before =
      runs_keep n (Stands n) (IsUnknownAtFirst n dir removal) (λ w e k then u. unknown_next n dir r.directory removal r.dead is_late w k u e then) (start n) before (stands_all n edges)
      (unknown_start n dir r.directory removal r.dead is_late)

  pub begins : Begins n dir r.directory removal r.dead is_late Before (holds []) unknown_before Behind
  begins = begins_next n dir r.directory removal r.dead is_late Before (holds []) unknown_before removing (holds (removing ∷ [])) r.made

  pub gated_behind : (between : List Event) → IsGated n (Before.stores removal.stamp.server).names dir removal (run n (before ++ removing ∷ between))
  gated_behind between =
      let P : World → Type 0 = IsGated n (Before.stores removal.stamp.server).names dir removal in
      subst P (sym (run_further n (start n) before (removing ∷ between)))
      (gated_from n dir r.directory removal r.dead is_late (Before.stores removal.stamp.server).names Behind between (λ some. holds (removing ∷ some)) begins.gated)

-- THE GATE STANDS
pub gate_stands : (n : ℕ) → EdgesAreKept n → GateStands n
gate_stands n edges before removing between dir removal r s least most there at =
    (gated_behind n edges before removing dir removal r between).there s least most there at

-- AND THE REMOVER LISTED NOTHING
pub removed_are_empty : (n : ℕ) → EdgesAreKept n → RemovedAreEmpty n
removed_are_empty n edges before removing dir removal r child e at = (begins n edges before removing dir removal r).empty child e at
