-- Which event gives a directory a dead place: a message that brings it, or a call at its maker.
use Rattle.std.proofs.Common.{ℕ, ◌≡◌, ◌≤◌, not, Bool, true, false, cond, List, [], ◌∷◌, ◌++◌, Option, None, Some, refl, sym, ap, subst, ◌∙◌, inl, inr, ◌⊎◌, arith}
use Rattle.std.proofs.lemmas.Bool.{and_parts, false≢true, and_from, not_from_false}
use Rattle.pg_run.specs.pg_base.declared.id.FileId.{FileId}
use Rattle.pg_run.specs.pg_base.Id.{is_same_file}
use Rattle.pg_run.specs.pg_base.Stamp.{is_before}
use Rattle.pg_run.proofs.pg_base.Orders.{is_same_file-true}
use Rattle.pg_run.specs.pg_register.declared.flag.Flag.{Flag}
use Rattle.pg_run.specs.pg_register.declared.place.Place.{Place}
use Rattle.pg_run.specs.pg_register.Flag.{is_removed}
use Rattle.pg_run.specs.pg_register.Place.{blank_place}
use Rattle.pg_run.specs.pg_entries.declared.cell.Cell.TheVariants as cell
use Rattle.pg_run.specs.pg_msg.declared.message.Message.TheVariants as message
use Rattle.pg_run.specs.pg_msg.declared.message.Packet.{Packet}
use Rattle.pg_run.specs.pg_msg.declared.update.Update.{Update}
use Rattle.pg_run.specs.pg_msg.declared.work.Work.{Work}
use Rattle.pg_run.specs.pg_msg.Work.{new_work}
use Rattle.pg_run.specs.pg_names.declared.attributes.Attributes.{Attributes}
use Rattle.pg_run.specs.pg_names.Names.{InodeValue, NamesValue, begin, blank_own, filled, is_dir, join_flag, join_place, known, let_go, or_blank, own_at, own_of, with_flag, with_joined, with_place}
use Rattle.pg_run.proofs.pg_names.Gone.{gone_known}
use Rattle.pg_run.proofs.pg_names.Holding.{begun_other, begun_same, fill_own}
use Rattle.pg_run.proofs.pg_names.Lookups.{flag_other, flag_same, joined_own, known_absent, own_with_flag, own_with_place, place_other, place_same, update_frame}
use Rattle.pg_run.specs.pg_house.House.{house}
use Rattle.pg_run.specs.pg_house.Passing.{is_held_back, own_taken}
use Rattle.pg_run.specs.pg_house.Work.{state_of}
use Rattle.pg_run.specs.pg_store.declared.store.Store.{Store}
use Rattle.pg_run.specs.pg_store.Births.{draw_birth, has_birth, with_birth}
use Rattle.pg_run.specs.pg_store.Store.{take_place}
use Rattle.pg_run.specs.pg_pieces.Making.{own_next}
use Rattle.pg_run.specs.pg_call.declared.call.Call.{Call}
use Rattle.pg_run.specs.pg_calls.Making.{drawn}
use Rattle.pg_run.specs.pg_calls.Naming.{begun, next_id, place_in, with_id}
use Rattle.pg_run.specs.pg_server.declared.input.Input.{Input}
use Rattle.pg_run.specs.pg_server.declared.input.Input.TheVariants as input
use Rattle.pg_run.specs.pg_server.Local.{effect, first_effect, is_heard}
use Rattle.pg_run.proofs.theory_flood_pieces.Choices.{chosen}
use Rattle.pg_run.proofs.Ticked.{tick_store}
use Rattle.law_full.proofs.Calling.{CallsKeep, call_kept}
use Rattle.law_full.proofs.Coming.{MayCome, receive_kept}
use Rattle.law_full.proofs.Effects.{arrival_kept, effect_kept}
use Rattle.law_full.proofs.HousePlaces.{IsUp, StaysSo, house_stays}
use Rattle.law_full.proofs.Pieces.{AreKept, begin_kept, flag_kept, place_kept}
use Rattle.law_full.proofs.Given.{last_live}
use Rattle.law_full.proofs.Losing.{lost_kept}
use Rattle.law_returns.specs.Gate.{Brings, IsMindful, IsStillThere, place_at}
use Rattle.law_returns.proofs.Lasting.{before_by, house_removed, more_removed}
use Rattle.pg_run.specs.pg_calls.Forgetting.{root_place}

-- a dead place is the one that the directory had, or has the stamp that is drawn now, or the
-- message, which is heard, brings it to the replica that is here
abbrev pub IsCaused : Store → Input → FileId → Place → Type 0
IsCaused a (input.Call moment c) d p = (p ≡ place_at a.names d) ⊎ (p.stamp ≡ drawn a moment)
IsCaused a (input.Tick moment word) d p = p ≡ place_at a.names d
IsCaused a (input.Arrival packet) d p = (p ≡ place_at a.names d)
    ⊎ ((is_heard a packet ≡ true) × (b : Brings d p packet.message) × (has_birth a d b.ends.receiver ≡ true))
IsCaused a input.Restart d p = p ≡ place_at a.names d

-- what a server hears is mindful
abbrev pub HearsMindful : Input → Type 0
HearsMindful (input.Call moment c) = Unit {0}
HearsMindful (input.Tick moment word) = Unit {0}
HearsMindful (input.Arrival packet) = IsMindful packet.message
HearsMindful input.Restart = Unit {0}

-- ---- one directory, and one of its dead places: where it has that, something holds

module _ (dir : FileId) (is : is_dir dir ≡ true) (removal : Place) (dead : removal.live ≡ false) (late : 1 ≤ removal.stamp.time) (Cause : Type 0) where
  -- where its maker is not removed, the place is caused
  abbrev pub At : NamesValue → Type 0
  At s = IsStillThere s.removed removal → place_at s dir ≡ removal → Cause

  abbrev If : Place → Type 0
  If p = p ≡ removal → Cause

  abbrev OfOwn : Option Attributes → Type 0
  OfOwn o = If (or_blank dir o).place

  abbrev pub MayPlace : FileId → Place → Type 0
  MayPlace f p = f ≡ dir → If p

  abbrev pub MayBegin : FileId → Attributes → Bool → Type 0
  MayBegin f own full = f ≡ dir → If own.place

  abbrev pub MayFill : FileId → Type 0
  MayFill f = Unit {0}

  pub live_not : (p : Place) → p.live ≡ true → If p
  live_not p live same = absurd (false≢true (sym dead ∙ ap (λ (q : Place). q.live) (sym same) ∙ live))

  pub blank_not : (f : FileId) → If (blank_place f)
  blank_not f same = absurd (let e : 0 ≡ removal.stamp.time = ap (λ (q : Place). q.stamp.time) same in omega (arith, e, late))

  placed_by : (s : NamesValue) (f : FileId) (p : Place) (o : Option Attributes) → own_at s f ≡ o → MayPlace f p → If (place_at s dir) → (t : Bool) → is_same_file f dir ≡ t → If (place_at (join_place s f p) dir)
  placed_by s f p None none may h t e = subst (λ (x : NamesValue). If (place_at x dir)) (sym (known_absent s f (with_place p) none)) h
  placed_by s f p (Some b) held may h false e = subst OfOwn (sym (place_other s f p dir e)) h
  placed_by s f p (Some b) held may h true e =
      let one : f ≡ dir = is_same_file-true f dir e in
      let now : own_at (join_place s f p) dir ≡ Some (own_with_place p b) = ap (own_at (join_place s f p)) (sym one) ∙ place_same s f p b held in
      let old : If b.place = subst OfOwn (ap (own_at s) (sym one) ∙ held) h in
      subst OfOwn (sym now) (chosen If (is_before b.place.stamp p.stamp) p b.place (may one) old)

  flagged_by : (s : NamesValue) (f : FileId) (g : Flag) (o : Option Attributes) → own_at s f ≡ o → If (place_at s dir) → (t : Bool) → is_same_file f dir ≡ t → If (place_at (join_flag s f g) dir)
  flagged_by s f g None none h t e = subst (λ (x : NamesValue). If (place_at x dir)) (sym (known_absent s f (with_flag g) none)) h
  flagged_by s f g (Some b) held h false e = subst OfOwn (sym (flag_other s f g dir e)) h
  flagged_by s f g (Some b) held h true e =
      let one : f ≡ dir = is_same_file-true f dir e in
      let now : own_at (join_flag s f g) dir ≡ Some (own_with_flag g b) = ap (own_at (join_flag s f g)) (sym one) ∙ flag_same s f g b held in
      subst OfOwn (sym now) (subst OfOwn (ap (own_at s) (sym one) ∙ held) h)

  begun_by : (s : NamesValue) (f : FileId) (own : Attributes) (full t : Bool) → is_same_file dir f ≡ t → MayBegin f own full → If (place_at s dir) → If (place_at (begin s f own full) dir)
  begun_by s f own full false e may h = subst (λ (o : Option InodeValue). OfOwn (own_of o)) (sym (begun_other s f own full dir e)) h
  begun_by s f own full true e may h =
      let one : dir ≡ f = is_same_file-true dir f e in
      subst (λ (o : Option InodeValue). OfOwn (own_of o)) (sym (ap (known (begin s f own full)) one ∙ begun_same s f own full)) (may (sym one))

  still : {r q : List ℕ} → r ≡ q → IsStillThere r removal → IsStillThere q removal
  still e h = ap (λ (rs : List ℕ). is_removed rs removal.stamp.server) (sym e) ∙ h

  -- who is not among more is not among fewer
  fewer : (rs : List ℕ) (server : ℕ) → IsStillThere (rs ++ server ∷ []) removal → IsStillThere rs removal
  fewer rs server h = before_by (is_removed rs removal.stamp.server) _ (more_removed rs server removal.stamp.server) h

  pub dead_kept : AreKept At MayPlace MayBegin MayFill
  dead_kept = record {
    place = λ s f p may h there. placed_by s f p (own_at s f) refl may (h (still (update_frame s f (with_place p)).removed there)) (is_same_file f dir) refl;
    flag = λ s f g h there. flagged_by s f g (own_at s f) refl (h (still (update_frame s f (with_flag g)).removed there)) (is_same_file f dir) refl;
    entry = λ s d e h there. subst OfOwn (sym (joined_own s d e dir)) (h (still (update_frame s d (with_joined e)).removed there));
    raised = λ s time h. h;
    begun = λ s f own full may h there. begun_by s f own full (is_same_file dir f) refl may (h there);
    filled = λ s f may h there. subst OfOwn (sym (fill_own s f dir)) (h (still (update_frame s f filled).removed there));
    removed = λ s server h there. h (fewer s.removed server there);
  }

  -- ---- a replica goes

  left_by : (s : NamesValue) (f : FileId) (t : Bool) → is_same_file f dir ≡ t → If (place_at s dir) → If (place_at (let_go s f) dir)
  left_by s f false e h =
      subst (λ (o : Option InodeValue). OfOwn (own_of o)) (sym (gone_known s f dir ∙ ap (λ (b : Bool). cond (not b) (known s dir) None) e)) h
  left_by s f true e h =
      subst (λ (o : Option InodeValue). OfOwn (own_of o)) (sym (gone_known s f dir ∙ ap (λ (b : Bool). cond (not b) (known s dir) None) e))
      (blank_not dir)

  pub left_kept : (s : NamesValue) (f : FileId) → At s → At (let_go s f)
  left_kept s f h there = left_by s f (is_same_file f dir) refl (h there)

  -- ---- the house rules

  module _ (R : List ℕ) (there : IsStillThere R removal) where
    taken_by : (own top : Attributes) (t : Bool) → is_held_back R dir own top ≡ t → IsUp own.place top.place → If own.place → If (own_taken own top t).place
    taken_by own top true back up h = h
    taken_by own top false back (inl same) h = λ e. h (sym same ∙ e)
    taken_by own top false back (inr later) h = λ e.
        let gone : top.place.live ≡ false = ap (λ (p : Place). p.live) e ∙ dead in
        let kept : is_removed R top.place.stamp.server ≡ false = ap (λ (p : Place). is_removed R p.stamp.server) e ∙ there in
        absurd (false≢true (sym back ∙ and_from (is_dir dir) _ is
        (and_from (not top.place.live) _ (not_from_false top.place.live gone)
        (and_from (is_before own.place.stamp top.place.stamp) _ later (not_from_false (is_removed R top.place.stamp.server) kept)))))

    dead_so : StaysSo dir R If (λ (u : Update). Unit {0})
    dead_so = record {
      taken = λ own top up h. taken_by own top (is_held_back R dir own top) refl up h;
      live = λ p live some. live_not p live;
      made = λ f p live. tt;
    }

  house_dead : (moment : ℕ) (s : NamesValue) (work : Work) → At s → At (house moment (state_of s work)).names
  house_dead moment s work h kept =
      let there : IsStillThere s.removed removal = still (house_removed moment s work) kept in
      (house_stays dir s.removed If (λ (u : Update). Unit {0}) (dead_so s.removed there) moment (state_of s work)
      (record { removed = refl; place = h there; made = λ i d lt. tt })).place

-- ---- an event

module _ (dir : FileId) (is : is_dir dir ≡ true) (removal : Place) (dead : removal.live ≡ false) (late : 1 ≤ removal.stamp.time) (a : Store) where
  abbrev pub Caused : Input → NamesValue → Type 0
  Caused asked s = At dir is removal dead late (IsCaused a asked dir removal) s

  -- ---- a call

  module _ (moment : ℕ) (c : Call) where
    abbrev Cause : Type 0
    Cause = IsCaused a (input.Call moment c) dir removal

    abbrev Places : FileId → Place → Type 0
    Places = MayPlace dir is removal dead late Cause

    abbrev Begins : FileId → Attributes → Bool → Type 0
    Begins = MayBegin dir is removal dead late Cause

    abbrev Fills : FileId → Type 0
    Fills = MayFill dir is removal dead late Cause

    abbrev Kept : AreKept (Caused (input.Call moment c)) Places Begins Fills
    Kept = dead_kept dir is removal dead late Cause

    pub calls_dead : CallsKeep (Caused (input.Call moment c)) a (new_work moment 0)
    calls_dead = record {
      thing = λ kind policy new h.
          (let id = next_id a kind in
          let b = begun (with_id a) id policy in
          let p = place_in (with_id a) moment new in
          let d = take_place b id p in
          flag_kept (Caused (input.Call moment c)) Places Begins Fills Kept d id (own_next d id true)
          (place_kept (Caused (input.Call moment c)) Places Begins Fills Kept b id p (λ same. live_not dir is removal dead late Cause p refl)
          (begin_kept (Caused (input.Call moment c)) Places Begins Fills Kept (with_birth (with_id a)) id (draw_birth (with_id a)) policy (blank_own id) true (λ same. blank_not dir is removal dead late Cause id) h)));
      place = λ f p now h.
          place_kept (Caused (input.Call moment c)) Places Begins Fills Kept a f p
          (λ same e. inr (ap (λ (q : Place). q.stamp) (sym e) ∙ now)) h;
      flag = λ f g h. flag_kept (Caused (input.Call moment c)) Places Begins Fills Kept a f g h;
      raised = λ s time h. h;
      lost = λ id found at h.
          lost_kept (Caused (input.Call moment c)) Places Begins Fills Kept a found (new_work moment 0) (record {
            placed = λ b same. live_not dir is removal dead late Cause (root_place b moment found) refl;
            fills = tt;
            known = λ p place same. live_not dir is removal dead late Cause p (last_live a found p place);
            anew = λ same. blank_not dir is removal dead late Cause found;
          }) h;
      removed = λ server h. Kept.removed a.names server h;
    }

  start_at : (asked : Input) → (place_at a.names dir ≡ removal → IsCaused a asked dir removal) → Caused asked a.names
  start_at asked h there = h

  -- ---- a message

  comes_dead : (packet : Packet) → is_heard a packet ≡ true → IsMindful packet.message
      → MayCome (Caused (input.Arrival packet)) (MayPlace dir is removal dead late (IsCaused a (input.Arrival packet) dir removal)) (MayBegin dir is removal dead late (IsCaused a (input.Arrival packet) dir removal))
      (MayFill dir is removal dead late (IsCaused a (input.Arrival packet) dir removal)) a packet.from packet.message
  comes_dead packet heard mindful =
      let Cause : Type 0 = IsCaused a (input.Arrival packet) dir removal in record {
        cell = λ ends tag p same born here e. inr (
          heard,
          record { ends = ends; tag = tag; is = same ∙ ap (λ (q : Place). message.Cell ends tag (cell.Place q)) e; here = here },
          subst (λ (f : FileId). has_birth a f ends.receiver ≡ true) here born,
        );
        confirm = λ d e same here. live_not dir is removal dead late Cause e.place (and_parts e.place.live (is_same_file e.place.parent d) (mindful.confirm d e same)).0;
        grant = λ ends g same here. elim (mindful.grant ends g same (ap is_dir here ∙ is)) [
          | inl live ↦ live_not dir is removal dead late (IsCaused a (input.Arrival packet) dir removal) g.place live
          | inr blank ↦ λ e. blank_not dir is removal dead late (IsCaused a (input.Arrival packet) dir removal) ends.file (sym blank ∙ e)
        ];
        full = λ ends same born. tt;
        goes = λ ends stamp work same may. left_kept dir is removal dead late Cause a.names ends.file (start_at (input.Arrival packet) (λ e. inl (sym e)));
      }

  -- ---- the first effect, and the event

  pub first_dead : (asked : Input) → HearsMindful asked → Caused asked (first_effect a asked).store.names
  first_dead (input.Call moment c) hears =
      call_kept (Caused (input.Call moment c)) a (new_work moment 0) (calls_dead moment c) (start_at (input.Call moment c) (λ e. inl (sym e))) c
  first_dead (input.Tick moment word) hears =
      let begins = start_at (input.Tick moment word) (λ e. sym e) in
      tick_store a moment word (λ (b : Store). Caused (input.Tick moment word) b.names) begins begins
  first_dead (input.Arrival packet) hears =
      let asked = input.Arrival packet in
      let Cause : Type 0 = IsCaused a asked dir removal in
      let begins = start_at asked (λ e. inl (sym e)) in
      arrival_kept (Caused asked) a packet begins
      (λ heard. receive_kept (Caused asked) (MayPlace dir is removal dead late Cause) (MayBegin dir is removal dead late Cause) (MayFill dir is removal dead late Cause)
      (dead_kept dir is removal dead late Cause) a begins packet.message (new_work 0 packet.from) (comes_dead packet heard hears))
  first_dead input.Restart hears = start_at input.Restart (λ e. sym e)

  pub effect_dead : (asked : Input) → HearsMindful asked → Caused asked (effect a asked).store.names
  effect_dead asked hears =
      let Cause : Type 0 = IsCaused a asked dir removal in
      effect_kept (Caused asked) (record { rules = house_dead dir is removal dead late Cause; flag = (dead_kept dir is removal dead late Cause).flag }) a asked
      (first_dead asked hears)
