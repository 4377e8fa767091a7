-- The house rules run: a server knows just what its replicas took behind them.
use Rattle.std.proofs.Common.{ℕ, ◌≡◌, false, List, [], ◌∷◌, ◌++◌, length, Option, None, Some, refl, sym, ap, subst, ◌∙◌, inl, inr}
use Rattle.std.proofs.lemmas.Option.{none-some}
use Rattle.std.proofs.lemmas.List.{append-nil, append_assoc}
use Rattle.pg_run.specs.pg_base.declared.id.FileId.{FileId}
use Rattle.pg_run.specs.pg_edges.declared.key.Key.TheVariants as key
use Rattle.pg_run.specs.pg_register.Place.{root, tilde_name}
use Rattle.pg_run.specs.pg_msg.declared.update.Update.{Update}
use Rattle.pg_run.specs.pg_msg.declared.update.Update.TheVariants as update
use Rattle.pg_run.specs.pg_msg.Work.{with_made, with_touched}
use Rattle.pg_run.specs.pg_names.Names.{NamesValue, directories, known, own_at}
use Rattle.pg_run.specs.pg_house.Work.{State}
use Rattle.pg_run.specs.pg_house.Passing.{pass_all}
use Rattle.pg_run.specs.pg_house.Placing.{drawn, live_place, made_at, place_at, placed, repeated}
use Rattle.pg_run.specs.pg_house.Returning.{first_returning, is_returning, is_root, return_first, returned}
use Rattle.pg_run.specs.pg_house.Cycles.{break_first, first_moving, moved}
use Rattle.pg_run.specs.pg_house.House.{house, movable}
use Rattle.pg_run.specs.pg_house.Facts.{AreByServer, IsHeld, IsLast, IsOfDirs}
use Rattle.pg_run.proofs.pg_house.AfterPassing.{AreDirs}
use Rattle.pg_run.proofs.pg_house.AllClimb.{IsDeep, member_deep, moving_member}
use Rattle.pg_run.proofs.pg_house.AllReturned.{not_root, returning_by}
use Rattle.pg_run.proofs.pg_house.Counting.{find_found}
use Rattle.pg_run.proofs.pg_house.Ends.{first_dirs, one_last, one_settled}
use Rattle.pg_run.proofs.pg_house.Made.{all_made, left_made, pass_made}
use Rattle.pg_run.proofs.pg_house.NoCycles.{inner_parts, some_dirs}
use Rattle.pg_run.proofs.pg_house.Passes.{AllPass, all_pass}
use Rattle.pg_run.proofs.pg_house.Repeating.{repeated_keeps}
use Rattle.pg_run.proofs.pg_house.Settling.{dirs_held}
use Rattle.pg_run.specs.Took.{Take, take_of}
use Rattle.pg_run.specs.Passed.{passed, passed_with}
use Rattle.law_passing.specs.Tells.{AreApart, Tells}
use Rattle.law_passing.proofs.Coming.{all_come, held_by_keys, others_still}
use Rattle.law_passing.proofs.States.{tells_sorted}
use Rattle.law_passing.proofs.Movable.{is_movable, not_movable}
use Rattle.law_passing.proofs.PassedAll.{AllPassed, passed_apart, passed_tells}
use Rattle.law_passing.proofs.Rules.{Stands, placed_stands}

-- ---- one place more was made

with_one_more : (removed : List ℕ) (takes : List Take) (us : List Update) (u : Update) → passed_with removed takes (us ++ u ∷ []) ≡ passed removed (take_of u ∷ passed_with removed takes us)
with_one_more removed takes [] u = refl
with_one_more removed takes (v ∷ us) u = with_one_more removed (passed removed (take_of v ∷ takes)) us u

-- the rules made these behind what was made before
pub record Follows (removed : List ℕ) (ds : List FileId) (made : List Update) (start : List Take) (st : State) : Type 0 where
  pub more : List Update
  pub is : st.work.made ≡ made ++ more
  pub stands : Stands removed ds st (passed_with removed start more)

module _ (moment : ℕ) (removed : List ℕ) (ds : List FileId) (made : List Update) (start : List Take) where
  abbrev Goes : State → Type 0
  Goes = Follows removed ds made start

  place_follows : (st : State) → Goes st → (f p : FileId) (name : List ℕ) → IsHeld st.names f → is_root f ≡ false → Goes (placed moment ds st f p name)
  place_follows st k f p name held moves =
      let new = live_place (drawn moment st.names) p name in
      let u = update.Place f new in
      let made_now = made_at st f new in
      let so_far = passed_with removed start k.more in
      let P : List Take → Type 0 = λ x. Stands removed ds (placed moment ds st f p name) x in
      record {
        more = k.more ++ u ∷ [];
        is = pass_made made_now ds f ∙ left_made (with_touched (with_made st.work u) f key.Place) f (place_at st.names f)
            ∙ ap (λ us. us ++ u ∷ []) k.is ∙ append_assoc made k.more (u ∷ []);
        stands = subst P (sym (with_one_more removed start k.more u)) (placed_stands moment removed ds st so_far k.stands f p name held moves);
      }

  return_follows : (st : State) → Goes st → (o : Option FileId) → first_returning st.names ds ≡ o → Goes (returned moment ds st o)
  return_follows st k None h = k
  return_follows st k (Some d) h =
      let found = find_found (is_returning st.names) ds d h in
      let r = returning_by st.names d (known st.names d) refl found.0 in
      let moves = not_root d (own_at st.names d) r.dead_one in
      place_follows st k d (place_at st.names d).parent (place_at st.names d).name r.held moves

  move_follows : (st : State) → Goes st → (o : Option FileId) → first_moving st.names (length ds) None ds ≡ o → Goes (moved moment ds st o)
  move_follows st k None h = k
  move_follows st k (Some d) h =
      elim (moving_member st.names (length ds) None ds d h) [
        | inl never ↦ absurd (none-some d never)
        | inr m ↦ (
            let deep : IsDeep st.names d = subst (IsDeep st.names) m.2 (member_deep st.names (length ds) m.0 (some_dirs moment ds st.names (length ds) ds d h) m.1) in
            let inner = inner_parts st.names d deep.0 in
            place_follows st k d root (tilde_name d) inner.held inner.other)
      ]

  rules_follow : (st : State) → Goes st → Goes (repeated (length ds) (break_first moment ds) (repeated (length ds) (return_first moment ds) st))
  rules_follow st k =
      repeated_keeps Goes (break_first moment ds) (λ t q. move_follows t q (first_moving t.names (length ds) None ds) refl) (length ds) _
      (repeated_keeps Goes (return_first moment ds) (λ t q. return_follows t q (first_returning t.names ds) refl) (length ds) st k)

-- ---- all passes first

module _ (moment : ℕ) (st : State) (takes : List Take) (k : Tells st.names takes) (apart : AreApart takes) (of_dirs : IsOfDirs st.names) (last : IsLast st.names) where
  abbrev Names : NamesValue
  Names = st.names

  abbrev Ds : List FileId
  Ds = directories Names

  abbrev One : State
  One = pass_all st Ds (movable Names)

  sorted : AreByServer Names
  sorted = tells_sorted Names takes k

  dirs : AreDirs Names Ds
  dirs = first_dirs moment st of_dirs sorted

  one_pass : AllPass Ds Names One.names
  one_pass = all_pass st Ds (movable Names) dirs

  one_stays : (q : FileId) → IsHeld Names q → IsHeld One.names q
  one_stays q h = held_by_keys Names One.names one_pass.keys q h

  one_passed : AllPassed Names One.names Ds
  one_passed = record {
    stays = one_stays;
    was = one_pass.was;
    come = λ f own h free. all_come Ds f st (movable Names) own dirs (dirs_held Names) h (is_movable Names f own h free);
    still = λ f away. others_still Ds f st (movable Names) dirs (not_movable Names f away);
  }

  one_stands : Stands Names.removed Ds One (passed Names.removed takes)
  one_stands = record {
    settled = one_settled moment st of_dirs sorted;
    last = one_last moment st of_dirs sorted last;
    tells = passed_tells Names One.names takes Ds k apart dirs (dirs_held Names) one_passed;
    apart = passed_apart Names One.names takes Ds k apart dirs (dirs_held Names) one_passed;
    same_removed = one_pass.removed;
    dirs_held = λ q among. (let d = dirs_held Names q among in (one_stays q d.0, d.1));
  }

  -- all has passed, and no rule has made a place yet
  one_follows : Follows Names.removed Ds st.work.made (passed Names.removed takes) One
  one_follows = record {
    more = [];
    is = all_made st Ds (movable Names) ∙ sym (append-nil st.work.made);
    stands = one_stands;
  }

  -- THE HOUSE RULES RUN
  pub house_follows : Follows Names.removed Ds st.work.made (passed Names.removed takes) (house moment st)
  house_follows = rules_follow moment Names.removed Ds st.work.made (passed Names.removed takes) One one_follows
