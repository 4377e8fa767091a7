-- Which stamps the places have that are made: those that the server drew, each later than the ones
-- before.
use Rattle.std.proofs.Common.{ℕ, ◌≡◌, ◌<◌, ◌≤◌, List, [], ◌∷◌, ◌++◌, length, Option, None, Some, refl, sym, ap, ◌∙◌, subst, inl, inr, ◌⊎◌, arith}
use Rattle.pg_base.specs.declared.id.FileId.{FileId}
use Rattle.pg_base.specs.declared.stamp.Stamp.{Stamp}
use Rattle.pg_register.specs.declared.place.Place.{Place}
use Rattle.pg_register.specs.Place.{root, tilde_name}
use Rattle.pg_edges.specs.declared.key.Key.TheVariants as key
use Rattle.pg_msg.specs.declared.update.Update.{Update}
use Rattle.pg_msg.specs.declared.update.Update.TheVariants as update
use Rattle.pg_msg.specs.Work.{with_made, with_touched}
use Rattle.pg_names.specs.declared.attributes.Attributes.{Attributes}
use Rattle.pg_names.specs.Names.{directories, own_at, with_last, with_own}
use Rattle.pg_names.proofs.Lookups.{SameFrame, SameFrame-refl, update_frame}
use Rattle.pg_house.specs.Work.{State}
use Rattle.pg_house.specs.Passing.{greatest, is_held_back, pass, pass_all, pass_own}
use Rattle.pg_house.specs.Placing.{drawn, live_place, made_at, own_with, place_at, placed}
use Rattle.pg_house.specs.Returning.{first_returning, return_first, returned}
use Rattle.pg_house.specs.Cycles.{break_first, first_moving, moved}
use Rattle.pg_house.specs.House.{house, movable}
use Rattle.pg_house.specs.Facts.{IsOneOf}
use Rattle.pg_house.proofs.AfterPassing.{after_frame}
use Rattle.pg_house.proofs.Lasting.{drawn_late, pass_all_last, placed_last}
use Rattle.pg_house.proofs.Made.{left_made, pass_made}
use Rattle.pg_house.proofs.Noting.{one_back}
use Rattle.pg_house.proofs.Repeating.{repeated_keeps}

abbrev pub IsMade : State → FileId → Place → Type 0
IsMade st f p = IsOneOf {A = Update} (update.Place f p) st.work.made

-- what was made since the greatest time of a server was this
-- each: a place has a stamp of the server, later than that time, and no later than the greatest now
-- one: no two have one stamp
pub record IsDrawn (s least : ℕ) (st : State) : Type 0 where
  pub server : st.names.server ≡ s
  pub low : least ≤ st.names.last
  pub each : (f : FileId) (p : Place) → IsMade st f p
      → (p.stamp.server ≡ s) × (least < p.stamp.time) × (p.stamp.time ≤ st.names.last)
  pub one : (f g : FileId) (p q : Place) → IsMade st f p → IsMade st g q
      → p.stamp ≡ q.stamp → (f ≡ g) × (p ≡ q)

pass_own_frame : (st : State) (ds : List FileId) (f : FileId) (o : Option Attributes) → SameFrame (pass_own st ds f o).names st.names
pass_own_frame st ds f None = SameFrame-refl st.names
pass_own_frame st ds f (Some own) =
    after_frame st ds f own (greatest st.names f own ds) (is_held_back st.names.removed f own (greatest st.names f own ds))

pub pass_frame : (st : State) (ds : List FileId) (f : FileId) → SameFrame (pass st ds f).names st.names
pass_frame st ds f = pass_own_frame st ds f (own_at st.names f)

same_place : (f g : FileId) (p q : Place) → ◌≡◌ {A = Update} (update.Place f p) (update.Place g q) → (f ≡ g) × (p ≡ q)
same_place f g p q e = (cc, cc)

-- ---- from one state to another, whose greatest time is no less

module _ (s least : ℕ) (a b : State) (k : IsDrawn s least a) (same : b.names.server ≡ a.names.server) where
  -- no place is made
  pub drawn_on : a.names.last ≤ b.names.last → ((f : FileId) (p : Place) → IsMade b f p → IsMade a f p) → IsDrawn s least b
  drawn_on up was = record {
    server = same ∙ k.server;
    low = let l = k.low in omega arith;
    each = λ g p h. (let x = k.each g p (was g p h) in (x.0, x.1, let m = x.2 in omega arith));
    one = λ f g p q h i e. k.one f g p q (was f p h) (was g q i) e;
  }

  -- this one is, with a later stamp
  module _ (f : FileId) (new : Place) (own : new.stamp.server ≡ s) (late : a.names.last < new.stamp.time) (upto : new.stamp.time ≤ b.names.last) (made : b.work.made ≡ a.work.made ++ update.Place f new ∷ []) where
    cases : (g : FileId) (p : Place) → IsMade b g p → IsMade a g p ⊎ ((f ≡ g) × (new ≡ p))
    cases g p h = elim (one_back (update.Place g p) (update.Place f new) a.work.made (subst (IsOneOf {A = Update} (update.Place g p)) made h)) [
      | inl old ↦ inl old
      | inr is ↦ inr (same_place f g new p is)
    ]

    -- a new stamp is none of those before
    apart : (g : FileId) (p : Place) → IsMade a g p → p.stamp ≡ new.stamp → ⊥
    apart g p h e =
        let m = (k.each g p h).2 in
        let t = ap (λ (x : Stamp). x.time) e in
        let l = late in
        omega arith

    one_by : (g i : FileId) (p q : Place) → IsMade a g p ⊎ ((f ≡ g) × (new ≡ p)) → IsMade a i q ⊎ ((f ≡ i) × (new ≡ q)) → p.stamp ≡ q.stamp → (g ≡ i) × (p ≡ q)
    one_by g i p q (inl x) (inl y) e = k.one g i p q x y e
    one_by g i p q (inl x) (inr y) e = absurd (apart g p x (e ∙ sym (ap (λ (z : Place). z.stamp) y.1)))
    one_by g i p q (inr x) (inl y) e = absurd (apart i q y (sym e ∙ sym (ap (λ (z : Place). z.stamp) x.1)))
    one_by g i p q (inr x) (inr y) e = (sym x.0 ∙ y.0, sym x.1 ∙ y.1)

    each_by : (g : FileId) (p : Place) → IsMade a g p ⊎ ((f ≡ g) × (new ≡ p)) → (p.stamp.server ≡ s) × (least < p.stamp.time) × (p.stamp.time ≤ b.names.last)
    each_by g p (inl x) =
        let r = k.each g p x in
        (r.0, r.1, let m = r.2 in let l = late in let u = upto in omega arith)
    each_by g p (inr x) =
        let t : p.stamp.time ≡ new.stamp.time = sym (ap (λ (z : Place). z.stamp.time) x.1) in
        let low = k.low in
        let l = late in
        let u = upto in
        (sym (ap (λ (z : Place). z.stamp.server) x.1) ∙ own, omega arith, omega arith)

    pub drawn_place : IsDrawn s least b
    drawn_place = record {
      server = same ∙ k.server;
      low = let l = k.low in let m = late in let u = upto in omega arith;
      each = λ g p h. each_by g p (cases g p h);
      one = λ g i p q h j e. one_by g i p q (cases g p h) (cases i q j) e;
    }

-- ---- the rules

module _ (s least : ℕ) where
  abbrev Drawn : State → Type 0
  Drawn st = IsDrawn s least st

  pass_drawn : (st : State) (ds : List FileId) (f : FileId) → Drawn st → Drawn (pass st ds f)
  pass_drawn st ds f k =
      let frame = pass_frame st ds f in
      drawn_on s least st (pass st ds f) k frame.server (let e = frame.last in omega arith)
      (λ g p h. subst (IsOneOf {A = Update} (update.Place g p)) (pass_made st ds f) h)

  all_drawn : (st : State) (ds fs : List FileId) → Drawn st → Drawn (pass_all st ds fs)
  all_drawn st ds [] k = k
  all_drawn st ds (f ∷ fs) k = all_drawn (pass st ds f) ds fs (pass_drawn st ds f k)

  made_drawn : (moment : ℕ) (st : State) (f parent : FileId) (name : List ℕ) → Drawn st → Drawn (made_at st f (live_place (drawn moment st.names) parent name))
  made_drawn moment st f parent name k =
      let new = live_place (drawn moment st.names) parent name in
      let frame = update_frame (with_last st.names new.stamp.time) f (with_own (own_with st.names f new)) in
      drawn_place s least st (made_at st f new) k frame.server f new k.server (drawn_late moment st.names.last new.stamp.time refl)
      (let e = frame.last in omega arith)
      (left_made (with_touched (with_made st.work (update.Place f new)) f key.Place) f (place_at st.names f))

  placed_drawn : (moment : ℕ) (ds : List FileId) (st : State) (f p : FileId) (name : List ℕ) → Drawn st → Drawn (placed moment ds st f p name)
  placed_drawn moment ds st f p name k =
      pass_drawn (made_at st f (live_place (drawn moment st.names) p name)) ds f (made_drawn moment st f p name k)

  returned_drawn : (moment : ℕ) (ds : List FileId) (st : State) (o : Option FileId) → Drawn st → Drawn (returned moment ds st o)
  returned_drawn moment ds st None k = k
  returned_drawn moment ds st (Some d) k = placed_drawn moment ds st d (place_at st.names d).parent (place_at st.names d).name k

  moved_drawn : (moment : ℕ) (ds : List FileId) (st : State) (o : Option FileId) → Drawn st → Drawn (moved moment ds st o)
  moved_drawn moment ds st None k = k
  moved_drawn moment ds st (Some d) k = placed_drawn moment ds st d root (tilde_name d) k

  -- all rules
  pub house_drawn : (moment : ℕ) (st : State) → Drawn st → Drawn (house moment st)
  house_drawn moment st k =
      let ds = directories st.names in
      let one = pass_all st ds (movable st.names) in
      repeated_keeps Drawn (break_first moment ds) (λ t q. moved_drawn moment ds t (first_moving t.names (length ds) None ds) q) (length ds) _
      (repeated_keeps Drawn (return_first moment ds) (λ t q. returned_drawn moment ds t (first_returning t.names ds) q) (length ds) one (all_drawn st ds (movable st.names) k))

-- ---- the greatest time does not fall

module _ (n : ℕ) where
  abbrev IsUp : State → Type 0
  IsUp st = n ≤ st.names.last

  placed_later : (moment : ℕ) (ds : List FileId) (st : State) (f p : FileId) (name : List ℕ) → IsUp st → IsUp (placed moment ds st f p name)
  placed_later moment ds st f p name k =
      let e = placed_last moment ds st f p name in
      let l = drawn_late moment st.names.last (placed moment ds st f p name).names.last e in
      omega arith

  returned_later : (moment : ℕ) (ds : List FileId) (st : State) (o : Option FileId) → IsUp st → IsUp (returned moment ds st o)
  returned_later moment ds st None k = k
  returned_later moment ds st (Some d) k = placed_later moment ds st d (place_at st.names d).parent (place_at st.names d).name k

  moved_later : (moment : ℕ) (ds : List FileId) (st : State) (o : Option FileId) → IsUp st → IsUp (moved moment ds st o)
  moved_later moment ds st None k = k
  moved_later moment ds st (Some d) k = placed_later moment ds st d root (tilde_name d) k

  house_up : (moment : ℕ) (st : State) → IsUp st → IsUp (house moment st)
  house_up moment st k =
      let ds = directories st.names in
      let one = pass_all st ds (movable st.names) in
      repeated_keeps IsUp (break_first moment ds) (λ t q. moved_later moment ds t (first_moving t.names (length ds) None ds) q) (length ds) _
      (repeated_keeps IsUp (return_first moment ds) (λ t q. returned_later moment ds t (first_returning t.names ds) q) (length ds) one
      (let e = pass_all_last st ds (movable st.names) in omega arith))

pub house_later : (moment : ℕ) (st : State) → st.names.last ≤ (house moment st).names.last
house_later moment st = house_up st.names.last moment st (omega arith)
