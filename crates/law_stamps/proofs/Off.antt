-- Places that are made behind a time are none of that time.
use Rattle.std.proofs.Common.{ℕ, ◌≡◌, ◌≢◌, ◌<◌, ◌≤◌, true, List, [], ◌∷◌, ◌++◌, length, drop, Option, None, Some, refl, ap, subst, ◌∙◌, inl, inr, arith}
use Rattle.pg_run.specs.pg_base.declared.id.FileId.{FileId}
use Rattle.pg_run.specs.pg_edges.declared.key.Key.TheVariants as key
use Rattle.pg_run.specs.pg_house.Cycles.{break_first, first_moving, moved}
use Rattle.pg_run.specs.pg_house.Facts.{IsOneOf}
use Rattle.pg_run.specs.pg_house.House.{house, movable}
use Rattle.pg_run.specs.pg_house.Passing.{pass_all}
use Rattle.pg_run.specs.pg_house.Placing.{drawn, live_place, made_at, place_at, placed}
use Rattle.pg_run.specs.pg_house.Returning.{first_returning, return_first, returned}
use Rattle.pg_run.specs.pg_house.Work.{State, state_of}
use Rattle.pg_run.specs.pg_msg.declared.update.Update.{Update}
use Rattle.pg_run.specs.pg_msg.declared.update.Update.TheVariants as update
use Rattle.pg_run.specs.pg_msg.declared.work.Work.{Work}
use Rattle.pg_run.specs.pg_msg.Work.{with_made, with_touched}
use Rattle.pg_run.specs.pg_names.Names.{NamesValue, directories}
use Rattle.pg_run.specs.pg_names.Names as names
use Rattle.pg_run.specs.pg_pieces.Done.{Done}
use Rattle.pg_run.specs.pg_pieces.Making.{own_next, raise_flag}
use Rattle.pg_run.specs.pg_cells.Settling.{rules}
use Rattle.pg_run.specs.pg_register.declared.flag.Flag.{Flag}
use Rattle.pg_run.specs.pg_register.declared.place.Place.{Place}
use Rattle.pg_run.specs.pg_register.Place.{root, tilde_name}
use Rattle.pg_run.specs.pg_server.Local.{intended, settled}
use Rattle.pg_run.specs.pg_store.declared.store.Store.{Store}
use Rattle.pg_run.specs.pg_store.Store.{is_newer_flag, put_flag, take_flag, with_names}
use Rattle.pg_run.proofs.pg_cells.Settled.{settle_keeps}
use Rattle.pg_run.proofs.pg_house.Drawn.{IsMade}
use Rattle.pg_run.proofs.pg_house.Lasting.{drawn_late, pass_all_last, placed_last}
use Rattle.pg_run.proofs.pg_house.Made.{all_made, left_made, pass_made}
use Rattle.pg_run.proofs.pg_house.Noting.{one_back}
use Rattle.pg_run.proofs.pg_house.Repeating.{repeated_keeps}
use Rattle.pg_run.proofs.pg_intentions.Steady.{begin_end_stays}
use Rattle.pg_run.proofs.pg_names.Lookups.{update_frame}
use Rattle.pg_run.proofs.theory_flood_pieces.Choices.{chosen}
use Rattle.law_places.proofs.Behind.{touched_names}
use Rattle.law_places.proofs.Fine.{news_made}

-- this time is past, and no place that was made has it
pub record IsOff (time : ℕ) (st : State) : Type 0 where
  pub past : time ≤ st.names.last
  pub off : (f : FileId) (p : Place) → IsMade st f p → p.stamp.time ≢ time

module _ (time : ℕ) where
  abbrev Off : State → Type 0
  Off st = IsOff time st

  -- no place is made
  off_on : (a b : State) → a.names.last ≤ b.names.last
      → ((f : FileId) (p : Place) → IsMade b f p → IsMade a f p) → Off a → Off b
  off_on a b up was k = record {
    past = let l = k.past in omega arith;
    off = λ f p made. k.off f p (was f p made);
  }

  -- this one is, with a later time
  off_place : (a b : State) (f : FileId) (new : Place) → a.names.last < new.stamp.time
      → new.stamp.time ≤ b.names.last → b.work.made ≡ a.work.made ++ update.Place f new ∷ []
      → Off a → Off b
  off_place a b f new late upto made k = record {
    past = let l = k.past in omega arith;
    off = λ g p h. elim (one_back (update.Place g p) (update.Place f new) a.work.made
        (subst (IsOneOf {A = Update} (update.Place g p)) made h)) [
          | inl old ↦ k.off g p old
          | inr is ↦ λ e. (
              let same : new ≡ p = (let z : update.Place f new ≡ update.Place g p = is in cc) in
              let t : new.stamp.time ≡ p.stamp.time = ap (λ (x : Place). x.stamp.time) same in
              let l = k.past in
              omega arith)
        ];
  }

  -- ---- the house rules

  placed_off : (moment : ℕ) (ds : List FileId) (st : State) (f p : FileId) (name : List ℕ) → Off st
      → Off (placed moment ds st f p name)
  placed_off moment ds st f p name k =
      let new = live_place (drawn moment st.names) p name in
      let end = placed moment ds st f p name in
      let late = drawn_late moment st.names.last new.stamp.time refl in
      let work = with_touched (with_made st.work (update.Place f new)) f key.Place in
      off_place st end f new late (let e = placed_last moment ds st f p name in omega arith)
      (pass_made (made_at st f new) ds f ∙ left_made work f (place_at st.names f)) k

  returned_off : (moment : ℕ) (ds : List FileId) (st : State) (o : Option FileId) → Off st
      → Off (returned moment ds st o)
  returned_off moment ds st None k = k
  returned_off moment ds st (Some d) k =
      placed_off moment ds st d (place_at st.names d).parent (place_at st.names d).name k

  moved_off : (moment : ℕ) (ds : List FileId) (st : State) (o : Option FileId) → Off st
      → Off (moved moment ds st o)
  moved_off moment ds st None k = k
  moved_off moment ds st (Some d) k = placed_off moment ds st d root (tilde_name d) k

  house_off : (moment : ℕ) (st : State) → Off st → Off (house moment st)
  house_off moment st k =
      let ds = directories st.names in
      let one = pass_all st ds (movable st.names) in
      let made = all_made st ds (movable st.names) in
      let first : Off one =
      off_on st one (let e = pass_all_last st ds (movable st.names) in omega arith)
      (λ f p h. subst (IsOneOf {A = Update} (update.Place f p)) made h) k in
      repeated_keeps Off (break_first moment ds)
      (λ t q. moved_off moment ds t (first_moving t.names (length ds) None ds) q) (length ds) _
      (repeated_keeps Off (return_first moment ds)
      (λ t q. returned_off moment ds t (first_returning t.names ds) q) (length ds) one first)

  -- ---- the end of an event

  abbrev pub At : Store → Work → Type 0
  At a w = Off (state_of a.names w)

  rules_off : (a : Store) (w : Work) → At a w → At (rules a w).store (rules a w).work
  rules_off a w k =
      let st = state_of a.names w in
      let end = house w.now st in
      let ts = drop (length w.touched) end.work.touched in
      let same = touched_names ts (with_names a end.names) in
      off_on end (state_of (rules a w).store.names (rules a w).work)
      (let e = ap (λ (n : NamesValue). n.last) same in omega arith) (λ f p h. h)
      (house_off w.now st k)

  flag_last : (a : Store) (f : FileId) (flag : Flag)
      → (take_flag a f flag).names.last ≡ a.names.last
  flag_last a f flag =
      chosen (λ (b : Store). b.names.last ≡ a.names.last) (is_newer_flag a f flag)
      (put_flag a f flag) a (update_frame a.names f (names.with_flag flag)).last refl

  no_flag : (f g : FileId) (flag : Flag) (p : Place)
      → ◌≡◌ {A = Update} (update.Flag f flag) (update.Place g p) → ⊥
  no_flag f g flag p e = cc

  raised_off : (a : Store) (f : FileId) (w : Work) → At a w
      → At (raise_flag a f w).store (raise_flag a f w).work
  raised_off a f w k =
      let flag = own_next a f true in
      let u = update.Flag f flag in
      let made : (raise_flag a f w).work.made ≡ w.made ++ u ∷ [] =
      news_made (is_newer_flag a f flag) (with_made w u) f (key.Flag flag.server) in
      off_on (state_of a.names w) (state_of (raise_flag a f w).store.names (raise_flag a f w).work)
      (let e = flag_last a f flag in omega arith)
      (λ g p h. elim (one_back (update.Place g p) u w.made
      (subst (IsOneOf {A = Update} (update.Place g p)) made h)) [
        | inl old ↦ old
        | inr is ↦ absurd (no_flag f g flag p is)
      ]) k

  settled_off : (d : Done) → At d.store d.work → At (settled d).store (settled d).work
  settled_off d k = settle_keeps At rules_off (λ a f w less. raised_off a f w) d.store d.work k

  pub ended_off : (d : Done) → At d.store d.work
      → At (intended (settled d)).store (intended (settled d)).work
  ended_off d k =
      let mid = settled d in
      let stays = begin_end_stays mid.store mid.work in
      let end = intended mid in
      off_on (state_of mid.store.names mid.work) (state_of end.store.names end.work)
      (let e = ap (λ (n : NamesValue). n.last) stays.names in omega arith)
      (λ f p h. subst (IsOneOf {A = Update} (update.Place f p)) stays.made h) (settled_off d k)
