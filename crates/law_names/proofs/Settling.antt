-- Behind the first effect the house rules run, and behind each flag that is raised they run again:
-- what a server knows then is what all of this comes to.
use Rattle.std.proofs.Common.{ℕ, ◌≡◌, true, List, [], ◌∷◌, ◌++◌, map, drop, length, refl, sym, ap, subst, ◌∙◌, inl, inr}
use Rattle.std.proofs.lemmas.List.{append-nil, append_assoc}
use Rattle.pg_run.specs.pg_base.declared.id.FileId.{FileId}
use Rattle.pg_run.specs.pg_content.Content.{Among}
use Rattle.pg_run.specs.pg_msg.declared.update.Update.{Update}
use Rattle.pg_run.specs.pg_msg.declared.update.Update.TheVariants as update
use Rattle.pg_run.specs.pg_msg.declared.work.Work.{Work}
use Rattle.pg_run.specs.pg_msg.Work.{with_made}
use Rattle.pg_run.specs.pg_house.Facts.{IsOneOf}
use Rattle.pg_run.specs.pg_house.House.{house}
use Rattle.pg_run.specs.pg_house.Work.{State, state_of}
use Rattle.pg_run.proofs.pg_house.Replaced.{made_stays}
use Rattle.pg_run.proofs.theory_flood_pieces.Settling.{goldless_own}
use Rattle.pg_run.proofs.theory_flood_pieces.Touching.{same_names}
use Rattle.pg_run.specs.pg_store.declared.store.Store.{Store}
use Rattle.pg_run.specs.pg_store.Store.{with_names}
use Rattle.pg_run.specs.pg_pieces.Done.{Done}
use Rattle.pg_run.specs.pg_pieces.Golds.{is_goldless}
use Rattle.pg_run.specs.pg_pieces.Making.{own_next, raise_flag}
use Rattle.pg_run.specs.pg_cells.Settling.{ruled, rules, settle}
use Rattle.pg_run.proofs.pg_cells.Settled.{settle_gives}
use Rattle.pg_run.specs.Passed.{passed, passed_with}
use Rattle.pg_run.specs.Took.{Take, take_of}
use Rattle.pg_run.proofs.Knowing.{Within, made_within, passed_within, told_itself, within_back, within_parts, within_then}
use Rattle.pg_run.proofs.Lists.{among_back, among_front}
use Rattle.law_names.specs.Goes.{Goes}
use Rattle.law_passing.specs.Tells.{AreApart}
use Rattle.law_names.proofs.Going.{goes_flag, goes_on}
use Rattle.law_names.proofs.Notes.{flag_noted_made}
use Rattle.law_passing.proofs.Apart.{apart_within, one_more}
use Rattle.law_passing.proofs.House.{house_follows}

-- ---- what was taken in an event tells no more than what was made, came, and was taken before

module _ (gone : List ℕ) (made : List Update) (first : List Take) where
  pub took_within : Within (passed_with gone (passed gone first) made) (map take_of made ++ first)
  took_within =
      within_then (passed_with gone (passed gone first) made) (map take_of made ++ passed gone first) (map take_of made ++ first)
      (made_within gone made (passed gone first))
      (within_parts (map take_of made) (passed gone first) (map take_of made ++ first)
      (λ u k. told_itself u (map take_of made ++ first) (among_front u (map take_of made) first k))
      (within_then (passed gone first) first (map take_of made ++ first) (passed_within gone first) (within_back (map take_of made) first)))

-- ---- updates behind others

with_more : (gone : List ℕ) (takes : List Take) (us vs : List Update) → passed_with gone takes (us ++ vs) ≡ passed_with gone (passed_with gone takes us) vs
with_more gone takes [] vs = refl
with_more gone takes (u ∷ us) vs = with_more gone (passed gone (take_of u ∷ takes)) us vs

-- ---- what was made stays made

among_one : (u : Update) (us : List Update) → Among u us → IsOneOf u us
among_one u [] h = absurd h
among_one u (x ∷ us) (inl e) = inl (sym e)
among_one u (x ∷ us) (inr h) = inr (among_one u us h)

one_among : (u : Update) (us : List Update) → IsOneOf u us → Among u us
one_among u [] h = absurd h
one_among u (x ∷ us) (inl e) = inl (sym e)
one_among u (x ∷ us) (inr h) = inr (one_among u us h)

module _ (u : Update) where
  ruled_stays : (d : Done) → Among u d.work.made → Among u (ruled d).work.made
  ruled_stays d h =
      let st = state_of d.store.names d.work in
      one_among u (house d.work.now st).work.made (made_stays d.work.now st u (among_one u d.work.made h))

  raised_stays : (d : Done) (f : FileId) → Among u d.work.made → Among u (raise_flag d.store f d.work).work.made
  raised_stays d f h =
      let g = own_next d.store f true in
      let P : List Update → Type 0 = λ us. Among u us in
      subst P (sym (flag_noted_made d.store f g (with_made d.work (update.Flag f g)))) (among_front u d.work.made (update.Flag f g ∷ []) h)

-- ---- the rules run

-- the rules made these
pub record RulesGo (gone : List ℕ) (takes : List Take) (a : Store) (w : Work) : Type 0 where
  pub more : List Update
  pub is : (rules a w).work.made ≡ w.made ++ more
  pub goes : Goes gone (rules a w).store.names (passed_with gone (passed gone takes) more)

module _ (gone : List ℕ) (takes : List Take) (a : Store) (w : Work) (k : Goes gone a.names takes) (apart : AreApart takes) where
  abbrev Rules : State
  Rules = house w.now (state_of a.names w)

  pub rules_go : RulesGo gone takes a w
  rules_go =
      let f = house_follows w.now (state_of a.names w) takes k.tells apart k.dirs k.last in
      let s = f.stands in
      let P : List ℕ → Type 0 = λ r. Goes r Rules.names (passed_with r (passed r takes) f.more) in
      let there = subst P k.same_removed (record {
        tells = s.tells;
        dirs = λ q c e h. (s.dirs_held q (s.settled.dirs.cells q c e h)).1;
        last = s.last;
        same_removed = s.same_removed;
      }) in
      record {
        more = f.more;
        is = f.is;
        goes = goes_on gone Rules.names (rules a w).store.names (passed_with gone (passed gone takes) f.more)
            (same_names (with_names a Rules.names) (drop (length w.touched) Rules.work.touched)) there;
      }

-- ---- in the midst of it

-- before the rules run: these updates were made behind the first ones, and with what the rules make
-- more the names will be what all of it comes to
pub record IsBefore (gone : List ℕ) (base : List Update) (now : List Take) (d : Done) : Type 0 where
  pub takes : List Take
  pub goes : Goes gone d.store.names takes
  pub apart : AreApart takes
  pub front : List Update
  pub is : d.work.made ≡ base ++ front
  pub then_is : (more : List Update) → passed_with gone (passed gone takes) more ≡ passed_with gone (passed gone now) (front ++ more)

-- and behind them: names are what all of it comes to
pub record Comes (gone : List ℕ) (base : List Update) (now : List Take) (d : Done) : Type 0 where
  pub more : List Update
  pub is : d.work.made ≡ base ++ more
  pub goes : Goes gone d.store.names (passed_with gone (passed gone now) more)

-- all that is made, with what was taken before it, is told apart
module _ (gone : List ℕ) (base : List Update) (now : List Take) (all : List Update)
    (apart : (us : List Update) → ((u : Update) → Among u us → Among u all) → AreApart (map take_of us ++ now)) where
  abbrev AreMade : List Update → Type 0
  AreMade us = (u : Update) → Among u us → Among u all

  -- of what was made so far
  abbrev Q : Done → Type 0
  Q d = AreMade d.work.made → IsBefore gone base now d

  abbrev P : Done → Type 0
  P d = AreMade d.work.made → Comes gone base now d

  begins : (d : Done) → Goes gone d.store.names now → d.work.made ≡ base → Q d
  begins d k is made = record {
    takes = now;
    goes = k;
    apart = apart [] (λ u none. absurd none);
    front = [];
    is = is ∙ sym (append-nil base);
    then_is = λ more. refl;
  }

  ruled_comes : (d : Done) → Q d → P (ruled d)
  ruled_comes d q made =
      let b = q (λ u h. made u (ruled_stays u d h)) in
      let r = rules_go gone b.takes d.store d.work b.goes b.apart in
      let G : List Take → Type 0 = λ takes. Goes gone (ruled d).store.names takes in
      record {
        more = b.front ++ r.more;
        is = r.is ∙ ap (λ us. us ++ r.more) b.is ∙ append_assoc base b.front r.more;
        goes = subst G (b.then_is r.more) r.goes;
      }

  -- ---- a flag is raised

  module _ (d : Done) (f : FileId) (c : Comes gone base now d) (less : is_goldless d.store f ≡ true) where
    abbrev U : Update
    U = update.Flag f (own_next d.store f true)

    abbrev T : List Take
    T = passed_with gone (passed gone now) c.more

    abbrev Raised : Done
    Raised = raise_flag d.store f d.work

    raised_made : Raised.work.made ≡ d.work.made ++ U ∷ []
    raised_made = flag_noted_made d.store f (own_next d.store f true) (with_made d.work U)

    raised_is : Raised.work.made ≡ base ++ (c.more ++ U ∷ [])
    raised_is = raised_made ∙ ap (λ us. us ++ U ∷ []) c.is ∙ append_assoc base c.more (U ∷ [])

    -- all of it was made by the end
    mine : AreMade Raised.work.made → AreMade (U ∷ c.more)
    mine made u h =
        let M : List Update → Type 0 = λ us. Among u us in
        let back : Among u (c.more ++ U ∷ []) → Among u all = λ k. made u (subst M (sym raised_is) (among_back u base (c.more ++ U ∷ []) k)) in
        elim h [
          | inl same ↦ back (among_back u c.more (U ∷ []) (inl same))
          | inr more ↦ back (among_front u c.more (U ∷ []) more)
        ]

    raised_before : AreMade Raised.work.made → IsBefore gone base now Raised
    raised_before made = record {
      takes = take_of U ∷ T;
      goes = goes_flag gone d.store T c.goes f (goldless_own d.store f less) (own_next d.store f true);
      apart = apart_within (take_of U ∷ T) (map take_of (U ∷ c.more) ++ now)
          (one_more (take_of U) T (map take_of c.more ++ now) (took_within gone c.more now)) (apart (U ∷ c.more) (mine made));
      front = c.more ++ U ∷ [];
      is = raised_is;
      then_is = λ more.
          sym (with_more gone (passed gone now) c.more (U ∷ more))
          ∙ ap (passed_with gone (passed gone now)) (sym (append_assoc c.more (U ∷ []) more));
    }

  raised_comes : (d : Done) (f : FileId) → P d → is_goldless d.store f ≡ true → Q (raise_flag d.store f d.work)
  raised_comes d f p less made = raised_before d f (p (λ u h. made u (raised_stays u d f h))) less made

  -- ALL OF IT
  pub settle_comes : (d : Done) → Goes gone d.store.names now → d.work.made ≡ base → ((u : Update) → Among u (settle d.store d.work).work.made → Among u all)
      → Comes gone base now (settle d.store d.work)
  settle_comes d k is made = settle_gives Q P ruled_comes raised_comes d (begins d k is) made
