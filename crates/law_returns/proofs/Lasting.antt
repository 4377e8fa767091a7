-- The greatest time of a server never falls, and who is removed in its view stays so.
use Rattle.std.proofs.Common.{ℕ, ◌≡◌, ◌==◌, ◌||◌, ◌≤◌, ◌+◌, ◌++◌, ◌∷◌, ◌^◌, max, min, List, [], length, Bool, true, false, Option, None, Some, refl, sym, ap, ◌∙◌, arith}
use Rattle.std.proofs.lemmas.Bool.{false≢true}
use Rattle.pg_run.specs.pg_base.declared.id.FileId.{FileId}
use Rattle.pg_run.specs.pg_register.declared.place.Place.{Place}
use Rattle.pg_run.specs.pg_register.Flag.{is_removed}
use Rattle.pg_run.specs.pg_register.Place.{root, tilde_name}
use Rattle.pg_run.specs.pg_msg.declared.work.Work.{Work}
use Rattle.pg_run.specs.pg_msg.Work.{new_work}
use Rattle.pg_run.specs.pg_names.declared.attributes.Attributes.{Attributes}
use Rattle.pg_run.specs.pg_names.Names.{InodeValue, NamesValue, blank_own, directories, fill, filled, join_entry, join_flag, join_place, let_go, update, with_flag, with_joined, with_place}
use Rattle.pg_run.proofs.pg_names.Lookups.{update_frame}
use Rattle.pg_run.specs.pg_house.Cycles.{break_first, first_moving, moved}
use Rattle.pg_run.specs.pg_house.House.{house, movable}
use Rattle.pg_run.specs.pg_house.Passing.{pass_all}
use Rattle.pg_run.specs.pg_house.Placing.{drawn, place_at, placed}
use Rattle.pg_run.specs.pg_house.Returning.{first_returning, return_first, returned}
use Rattle.pg_run.specs.pg_house.Work.{State, state_of}
use Rattle.pg_run.proofs.pg_house.Lasting.{pass_all_last, placed_last}
use Rattle.pg_run.proofs.pg_house.Repeating.{repeated_keeps}
use Rattle.pg_run.specs.pg_store.declared.store.Store.{Store}
use Rattle.pg_run.specs.pg_store.Births.{draw_birth, with_birth}
use Rattle.pg_run.specs.pg_store.Seen.{removed_of}
use Rattle.pg_run.specs.pg_store.Store.{take_place}
use Rattle.pg_run.specs.pg_pieces.Making.{own_next}
use Rattle.pg_run.specs.pg_calls.Naming.{begun, next_id, place_in, with_id}
use Rattle.pg_run.specs.pg_server.declared.input.Input.{Input}
use Rattle.pg_run.specs.pg_server.declared.input.Input.TheVariants as input
use Rattle.pg_run.specs.pg_server.Local.{effect, first_effect}
use Rattle.pg_run.proofs.Ticked.{tick_store}
use Rattle.law_full.proofs.Calling.{CallsKeep, call_kept}
use Rattle.law_full.proofs.Coming.{receive_kept}
use Rattle.law_full.proofs.Effects.{arrival_kept, effect_kept}
use Rattle.law_full.proofs.HousePlaces.{house_stays}
use Rattle.law_full.proofs.Losing.{lost_kept}
use Rattle.law_full.proofs.Pieces.{AreKept, begin_kept, flag_kept, place_kept}
use Rattle.law_returns.specs.Gate.{IsStillThere}

-- ---- what any piece keeps, whatever comes

abbrev pub AnyPlace : FileId → Place → Type 0
AnyPlace f p = Unit {0}

abbrev pub AnyBegins : FileId → Attributes → Bool → Type 0
AnyBegins f own full = Unit {0}

abbrev pub AnyFills : FileId → Type 0
AnyFills f = Unit {0}

-- the house rules remove nobody
pub house_removed : (moment : ℕ) (s : NamesValue) (work : Work) → (house moment (state_of s work)).names.removed ≡ s.removed
house_removed moment s work =
    (house_stays root s.removed (λ (p : Place). Unit {0}) (λ u. Unit {0}) (record { taken = λ own top up q. tt; live = λ p live some. tt; made = λ f p live. tt }) moment (state_of s work)
    (record { removed = refl; place = tt; made = λ i d lt. tt })).removed

module _ (P : NamesValue → Type 0) (k : AreKept P AnyPlace AnyBegins AnyFills) (gone : (s : NamesValue) (f : FileId) → P s → P (let_go s f)) (rules : (moment : ℕ) (s : NamesValue) (work : Work) → P s → P (house moment (state_of s work)).names) where
  calls_any : (a : Store) (work : Work) → CallsKeep P a work
  calls_any a work = record {
    thing = λ kind policy new h.
        (let id = next_id a kind in
        let b = begun (with_id a) id policy in
        let p = place_in (with_id a) work.now new in
        let d = take_place b id p in
        flag_kept P AnyPlace AnyBegins AnyFills k d id (own_next d id true)
        (place_kept P AnyPlace AnyBegins AnyFills k b id p tt
        (begin_kept P AnyPlace AnyBegins AnyFills k (with_birth (with_id a)) id (draw_birth (with_id a)) policy (blank_own id) true tt h)));
    place = λ f p now h. place_kept P AnyPlace AnyBegins AnyFills k a f p tt h;
    flag = λ f g h. flag_kept P AnyPlace AnyBegins AnyFills k a f g h;
    raised = k.raised;
    lost = λ id found is h. lost_kept P AnyPlace AnyBegins AnyFills k a found work (record { placed = λ b. tt; fills = tt; known = λ p is. tt; anew = tt }) h;
    removed = λ server h. k.removed a.names server h;
  }

  pub first_any : (a : Store) (asked : Input) → P a.names → P (first_effect a asked).store.names
  first_any a (input.Call moment c) h = call_kept P a (new_work moment 0) (calls_any a (new_work moment 0)) h c
  first_any a (input.Tick moment word) h = tick_store a moment word (λ (b : Store). P b.names) h h
  first_any a (input.Arrival packet) h =
      arrival_kept P a packet h
      (λ heard. receive_kept P AnyPlace AnyBegins AnyFills k a h packet.message (new_work 0 packet.from)
      (record {
        cell = λ ends tag p same born. tt;
        confirm = λ dir e same. tt;
        grant = λ ends g same. tt;
        full = λ ends same born. tt;
        goes = λ ends stamp work same may. gone a.names ends.file h;
      }))
  first_any a input.Restart h = h

  -- AN EVENT
  pub effect_any : (a : Store) (asked : Input) → P a.names → P (effect a asked).store.names
  effect_any a asked h = effect_kept P (record { rules = rules; flag = k.flag }) a asked (first_any a asked h)

-- ---- who is removed

pub more_removed : (rs : List ℕ) (server t : ℕ) → is_removed rs t ≡ true → is_removed (rs ++ server ∷ []) t ≡ true
more_removed [] server t h = absurd (false≢true h)
more_removed (r ∷ rs) server t h = by (r == t) h (more_removed rs server t)
  where
    by : (b : Bool) → (b || is_removed rs t) ≡ true → (is_removed rs t ≡ true → is_removed (rs ++ server ∷ []) t ≡ true)
        → (b || is_removed (rs ++ server ∷ []) t) ≡ true
    by true k rest = refl
    by false k rest = rest k

module _ (t : ℕ) where
  abbrev RemovedIn : NamesValue → Type 0
  RemovedIn s = is_removed s.removed t ≡ true

  same_removed : (r q : List ℕ) → r ≡ q → is_removed q t ≡ true → is_removed r t ≡ true
  same_removed r q e h = ap (λ (rs : List ℕ). is_removed rs t) e ∙ h

  removed_kept : AreKept RemovedIn AnyPlace AnyBegins AnyFills
  removed_kept = record {
    place = λ s f p may h. same_removed (join_place s f p).removed s.removed (update_frame s f (with_place p)).removed h;
    flag = λ s f g h. same_removed (join_flag s f g).removed s.removed (update_frame s f (with_flag g)).removed h;
    entry = λ s d e h. same_removed (join_entry s d e).removed s.removed (update_frame s d (with_joined e)).removed h;
    raised = λ s time h. h;
    begun = λ s f own full may h. h;
    filled = λ s f may h. same_removed (fill s f).removed s.removed (update_frame s f filled).removed h;
    removed = λ s server h. more_removed s.removed server t h;
  }

  ruled_removed : (moment : ℕ) (s : NamesValue) (work : Work) → RemovedIn s → RemovedIn (house moment (state_of s work)).names
  ruled_removed moment s work h = same_removed (house moment (state_of s work)).names.removed s.removed (house_removed moment s work) h

  removed_first : (a : Store) (asked : Input) → RemovedIn a.names → RemovedIn (first_effect a asked).store.names
  removed_first a asked h = first_any RemovedIn removed_kept (λ s f k. k) ruled_removed a asked h

  removed_behind : (a : Store) (asked : Input) → RemovedIn a.names → RemovedIn (effect a asked).store.names
  removed_behind a asked h = effect_any RemovedIn removed_kept (λ s f k. k) ruled_removed a asked h

pub before_by : (b c : Bool) → (b ≡ true → c ≡ true) → c ≡ false → b ≡ false
before_by true c up h = absurd (false≢true (sym h ∙ up refl))
before_by false c up h = refl

-- who is not removed in the view behind an event, or behind its first effect, was not removed
-- before it
pub still_first : (a : Store) (asked : Input) (p : Place) → IsStillThere (removed_of (first_effect a asked).store) p → IsStillThere (removed_of a) p
still_first a asked p h = before_by (is_removed (removed_of a) p.stamp.server) _ (removed_first p.stamp.server a asked) h

pub still_before : (a : Store) (asked : Input) (p : Place) → IsStillThere (removed_of (effect a asked).store) p → IsStillThere (removed_of a) p
still_before a asked p h = before_by (is_removed (removed_of a) p.stamp.server) _ (removed_behind p.stamp.server a asked) h

-- ---- the greatest time

at_most : (n a b : ℕ) → n ≤ a → b ≡ a → n ≤ b
at_most n a b h e = omega (arith, h, e)

raised_most : (n a t : ℕ) → n ≤ a → n ≤ max a t
raised_most n a t h = grind arith

drawn_most : (moment last n t : ℕ) → t ≡ max (min moment (2 ^ 62)) (last + 1) → n ≤ last → n ≤ t
drawn_most moment last n t e h = grind arith

-- it has come so far
module _ (n : ℕ) where
  abbrev Comes : NamesValue → Type 0
  Comes s = n ≤ s.last

  changed_comes : (s : NamesValue) (f : FileId) (change : InodeValue → InodeValue) → Comes s → Comes (update s f change)
  changed_comes s f change h = at_most n s.last (update s f change).last h (update_frame s f change).last

  comes_kept : AreKept Comes AnyPlace AnyBegins AnyFills
  comes_kept = record {
    place = λ s f p may h. changed_comes s f (with_place p) h;
    flag = λ s f g h. changed_comes s f (with_flag g) h;
    entry = λ s d e h. changed_comes s d (with_joined e) h;
    raised = λ s time h. raised_most n s.last time h;
    begun = λ s f own full may h. h;
    filled = λ s f may h. changed_comes s f filled h;
    removed = λ s server h. h;
  }

  -- ---- the house rules

  abbrev StateComes : State → Type 0
  StateComes st = Comes st.names

  placed_comes : (moment : ℕ) (ds : List FileId) (st : State) (f q : FileId) (name : List ℕ) → StateComes st → StateComes (placed moment ds st f q name)
  placed_comes moment ds st f q name k =
      at_most n (drawn moment st.names).time (placed moment ds st f q name).names.last (drawn_most moment st.names.last n (drawn moment st.names).time refl k) (placed_last moment ds st f q name)

  returned_comes : (moment : ℕ) (ds : List FileId) (st : State) (o : Option FileId) → StateComes st → StateComes (returned moment ds st o)
  returned_comes moment ds st None k = k
  returned_comes moment ds st (Some d) k = placed_comes moment ds st d (place_at st.names d).parent (place_at st.names d).name k

  moved_comes : (moment : ℕ) (ds : List FileId) (st : State) (o : Option FileId) → StateComes st → StateComes (moved moment ds st o)
  moved_comes moment ds st None k = k
  moved_comes moment ds st (Some d) k = placed_comes moment ds st d root (tilde_name d) k

  house_comes : (moment : ℕ) (s : NamesValue) (work : Work) → Comes s → Comes (house moment (state_of s work)).names
  house_comes moment s work k =
      let st = state_of s work in
      let ds = directories s in
      let one = pass_all st ds (movable s) in
      repeated_keeps StateComes (break_first moment ds) (λ t q. moved_comes moment ds t (first_moving t.names (length ds) None ds) q) (length ds) _
      (repeated_keeps StateComes (return_first moment ds) (λ t q. returned_comes moment ds t (first_returning t.names ds) q) (length ds) _
      (at_most n s.last one.names.last k (pass_all_last st ds (movable s))))

itself : (n : ℕ) → n ≤ n
itself n = omega arith

pub last_up : (a : Store) (asked : Input) → a.names.last ≤ (effect a asked).store.names.last
last_up a asked = effect_any (Comes a.names.last) (comes_kept a.names.last) (λ s f k. k) (house_comes a.names.last) a asked (itself a.names.last)
