-- Behind the first effect of an event live places of directories alone are made.
use Rattle.std.proofs.Common.{[], ℕ, drop, length, ◌≡◌, ◌++◌, true, List, ◌∷◌, Option, None, Some, All, refl, sym, ap, subst, ◌∙◌, inl, inr}
use Rattle.std.specs.Map.{keys_of}
use Rattle.std.proofs.Math.Seq.{drop-append_seam}
use Rattle.std.proofs.lemmas.List.{append-nil, append_assoc}
use Rattle.std.proofs.lemmas.List.Elements.{All-append, All-cons, All-nil}
use Rattle.std.proofs.lemmas.Option.{none-some}
use Rattle.pg_run.specs.pg_base.declared.id.FileId.{FileId}
use Rattle.pg_run.specs.pg_register.declared.flag.Flag.{Flag}
use Rattle.pg_run.specs.pg_register.declared.place.Place.{Place}
use Rattle.pg_run.specs.pg_register.Place.{root, tilde_name}
use Rattle.pg_run.specs.pg_edges.declared.key.Key.TheVariants as key
use Rattle.pg_run.specs.pg_call.declared.reply.Reply.{Reply}
use Rattle.pg_run.specs.pg_msg.declared.update.Update.{Update}
use Rattle.pg_run.specs.pg_msg.declared.update.Update.TheVariants as update
use Rattle.pg_run.specs.pg_msg.declared.work.Work.{Work}
use Rattle.pg_run.specs.pg_msg.Work.{with_made, with_touched}
use Rattle.pg_run.specs.pg_names.Names.{directories, is_dir}
use Rattle.pg_run.specs.pg_house.Cycles.{break_first, first_moving, moved}
use Rattle.pg_run.specs.pg_house.Facts.{is_among}
use Rattle.pg_run.specs.pg_house.House.{house, movable}
use Rattle.pg_run.specs.pg_house.Passing.{pass, pass_all}
use Rattle.pg_run.specs.pg_house.Placing.{drawn, live_place, made_at, place_at, placed}
use Rattle.pg_run.specs.pg_house.Returning.{first_returning, is_returning, return_first, returned}
use Rattle.pg_run.specs.pg_house.Work.{State, state_of}
use Rattle.pg_run.proofs.pg_house.AllClimb.{IsDeep, member_deep, moving_member}
use Rattle.pg_run.proofs.pg_house.Counting.{find_found, kept_dir}
use Rattle.pg_run.proofs.pg_house.NoCycles.{inner_parts, some_dirs}
use Rattle.pg_run.proofs.pg_house.Repeating.{repeated_keeps}
use Rattle.pg_run.proofs.pg_house.Made.{left_made, pass_made}
use Rattle.pg_run.specs.pg_store.declared.store.Store.{Store}
use Rattle.pg_run.specs.pg_pieces.Done.{Done}
use Rattle.pg_run.specs.pg_cells.Settling.{settle}
use Rattle.pg_run.proofs.pg_intentions.Steady.{begin_end_stays}
use Rattle.pg_run.specs.pg_server.declared.input.Input.{Input}
use Rattle.pg_run.specs.pg_server.Local.{Effect, closed, finished, first_effect, reply_to, settled, takes_effect}
use Rattle.pg_run.proofs.theory_flood_pieces.Choices.{chosen}
use Rattle.law_full.proofs.Works.{IsClosed, settled_sends}
use Rattle.pg_run.specs.Run.{first_made, made_behind}

-- where an update is a place, it is a live one of a directory
abbrev pub IsLiveOfDir : Update → Type 0
IsLiveOfDir u = (f : FileId) (p : Place) → u ≡ update.Place f p → (is_dir f ≡ true) × (p.live ≡ true)

-- these were made behind the first ones: their places are live ones of directories
pub record Makes (base : List Update) (w : Work) : Type 0 where
  pub news : List Update
  pub is : w.made ≡ base ++ news
  pub dirs : All IsLiveOfDir news

no_place : (f : FileId) (g : Flag) (h : FileId) (p : Place) → update.Flag f g ≡ update.Place h p → ⊥
no_place f g h p same = cc

pub same_file_of : (f g : FileId) (p q : Place) → update.Place f p ≡ update.Place g q → f ≡ g
same_file_of f g p q h = cc

same_place_of : (f g : FileId) (p q : Place) → update.Place f p ≡ update.Place g q → p ≡ q
same_place_of f g p q h = cc

module _ (base : List Update) where
  abbrev OfState : State → Type 0
  OfState st = Makes base st.work

  pass_makes : (st : State) (ds : List FileId) (f : FileId) → OfState st → OfState (pass st ds f)
  pass_makes st ds f k = record { news = k.news; is = pass_made st ds f ∙ k.is; dirs = k.dirs }

  all_make : (st : State) (ds fs : List FileId) → OfState st → OfState (pass_all st ds fs)
  all_make st ds [] k = k
  all_make st ds (f ∷ fs) k = all_make (pass st ds f) ds fs (pass_makes st ds f k)

  placed_makes : (moment : ℕ) (ds : List FileId) (st : State) (f q : FileId) (name : List ℕ) → is_dir f ≡ true → OfState st → OfState (placed moment ds st f q name)
  placed_makes moment ds st f q name dir k =
      let new = live_place (drawn moment st.names) q name in
      let u = update.Place f new in
      pass_makes (made_at st f new) ds f (record {
        news = k.news ++ u ∷ [];
        is = left_made (with_touched (with_made st.work u) f key.Place) f (place_at st.names f) ∙ ap (λ us. us ++ u ∷ []) k.is ∙ append_assoc base k.news (u ∷ []);
        dirs = All-append IsLiveOfDir k.news (u ∷ []) k.dirs (All-cons IsLiveOfDir u [] (λ g p same. (ap is_dir (sym (same_file_of f g new p same)) ∙ dir, ap (λ (x : Place). x.live) (sym (same_place_of f g new p same)))) (All-nil IsLiveOfDir));
      })

  module _ (ds : List FileId) (dirs : (d : FileId) → is_among d ds ≡ true → is_dir d ≡ true) where
    returned_makes : (moment : ℕ) (st : State) (o : Option FileId) → first_returning st.names ds ≡ o → OfState st → OfState (returned moment ds st o)
    returned_makes moment st None h k = k
    returned_makes moment st (Some d) h k =
        placed_makes moment ds st d (place_at st.names d).parent (place_at st.names d).name (dirs d (find_found (is_returning st.names) ds d h).1) k

    moved_makes : (moment : ℕ) (st : State) (o : Option FileId) → first_moving st.names (length ds) None ds ≡ o → OfState st → OfState (moved moment ds st o)
    moved_makes moment st None h k = k
    moved_makes moment st (Some d) h k =
        elim (moving_member st.names (length ds) None ds d h) [
          | inl never ↦ absurd (none-some d never)
          | inr m ↦
              let deep : IsDeep st.names d = subst (IsDeep st.names) m.2 (member_deep st.names (length ds) m.0 (some_dirs moment ds st.names (length ds) ds d h) m.1) in
              placed_makes moment ds st d root (tilde_name d) (inner_parts st.names d deep.0).dir k
        ]

  house_makes : (moment : ℕ) (st : State) → OfState st → OfState (house moment st)
  house_makes moment st begins =
      let ds = directories st.names in
      let dirs = kept_dir is_dir (keys_of st.names.held) in
      repeated_keeps OfState (break_first moment ds) (λ t q. moved_makes ds dirs moment t (first_moving t.names (length ds) None ds) refl q) (length ds) _
      (repeated_keeps OfState (return_first moment ds) (λ t q. returned_makes ds dirs moment t (first_returning t.names ds) refl q) (length ds) _ (all_make st ds (movable st.names) begins))

  -- a flag is no place
  flag_makes : (f : FileId) (g : Flag) (w : Work) → Makes base w → Makes base (with_made w (update.Flag f g))
  flag_makes f g w k = record {
    news = k.news ++ update.Flag f g ∷ [];
    is = ap (λ us. us ++ update.Flag f g ∷ []) k.is ∙ append_assoc base k.news (update.Flag f g ∷ []);
    dirs = All-append IsLiveOfDir k.news (update.Flag f g ∷ []) k.dirs (All-cons IsLiveOfDir (update.Flag f g) [] (λ h p same. absurd (no_place f g h p same)) (All-nil IsLiveOfDir));
  }

  makes_closed : IsClosed (Makes base)
  makes_closed = record {
    touched = λ w f q h. record { news = h.news; is = h.is; dirs = h.dirs };
    left = λ w d f h. record { news = h.news; is = h.is; dirs = h.dirs };
    unsure = λ w d f h. record { news = h.news; is = h.is; dirs = h.dirs };
    linked = λ w f peer h. record { news = h.news; is = h.is; dirs = h.dirs };
    begun = λ w i h. record { news = h.news; is = h.is; dirs = h.dirs };
    flagged = λ w f g h. flag_makes f g w h;
    sent = λ w x is h. record { news = h.news; is = h.is; dirs = h.dirs };
    last = λ w x is h. record { news = h.news; is = h.is; dirs = h.dirs };
  }

  settle_makes : (a : Store) (w : Work) → w.made ≡ base → Makes base (settle a w).work
  settle_makes a w is =
      settled_sends (Makes base) makes_closed (λ b v k. house_makes v.now (state_of b.names v) k) a w
      (record { news = []; is = is ∙ sym (append-nil base); dirs = All-nil IsLiveOfDir })

-- ---- in an event

module _ (a : Store) (asked : Input) where
  abbrev Base : List Update
  Base = first_made a asked

  abbrev DirsBehind : Effect → Type 0
  DirsBehind done = All IsLiveOfDir (drop (length Base) done.out.made)

  closed_dirs : (answer : Option Reply) (d : Done) → d.work.made ≡ Base → DirsBehind (closed answer d)
  closed_dirs answer d is =
      let m = settle_makes Base d.store d.work is in
      subst (All IsLiveOfDir) (sym (ap (drop (length Base)) ((begin_end_stays (settled d).store (settled d).work).made ∙ m.is) ∙ drop-append_seam Base m.news)) m.dirs

  finished_dirs : (answer : Option Reply) (d : Done) → d.work.made ≡ Base → DirsBehind (finished answer d)
  finished_dirs answer d is =
      let none : drop (length Base) d.work.made ≡ [] = ap (drop (length Base)) (is ∙ sym (append-nil Base)) ∙ drop-append_seam Base [] in
      subst (All IsLiveOfDir) (sym none) (All-nil IsLiveOfDir)

  -- WHAT IS MADE BEHIND the first effect
  pub made_live : All IsLiveOfDir (made_behind a asked)
  made_live =
      let d = first_effect a asked in
      let r = reply_to a asked in
      chosen DirsBehind (takes_effect a asked) (closed r d) (finished r d) (closed_dirs r d refl) (finished_dirs r d refl)
