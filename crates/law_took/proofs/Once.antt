-- What one input leaves of what each replica took.
use Rattle.std.proofs.Common.{◌≡◌, ◌≢◌, ℕ, Bool, true, false, cond, not, List, [], ◌∷◌, ◌++◌, map, Option, None, Some, ◌⊎◌, inl, inr, refl, sym, ap, subst, ◌∙◌}
use Rattle.std.specs.List.{filter, flat_map}
use Rattle.std.proofs.lemmas.Bool.{false≢true, not-true}
use Rattle.pg_run.specs.pg_base.declared.id.FileId.{FileId}
use Rattle.pg_run.specs.pg_base.Id.{is_same_file}
use Rattle.pg_run.specs.pg_content.Content.{Among}
use Rattle.pg_run.specs.pg_msg.declared.update.Update.{Update}
use Rattle.pg_run.specs.pg_register.declared.flag.Flag.{Flag}
use Rattle.pg_run.specs.pg_register.declared.place.Place.{Place}
use Rattle.pg_run.specs.pg_server.declared.input.Input.{Input}
use Rattle.pg_run.specs.pg_store.declared.store.Store.{Store}
use Rattle.pg_run.specs.Asking.{Asked}
use Rattle.pg_run.specs.Carried.{gone_in}
use Rattle.pg_run.specs.Passed.{flag_known_by, passed, passed_with, passes, place_known_by}
use Rattle.pg_run.specs.Run.{brought, made_behind, removed_then}
use Rattle.pg_run.specs.Took.{Take, Taker, held, is_of_replica, is_same_taker, take_of, without, without_gone}
use Rattle.pg_run.specs.Took.Take.{Began, TookFlag, TookPlace, TookVersion}
use Rattle.pg_run.specs.Took.Taker.{InDir, Itself}
use Rattle.pg_run.proofs.pg_base.Orders.{is_same_file-refl, is_same_file-true}
use Rattle.pg_run.proofs.Knowing.{Tells, Within, made_within, passed_within, told_itself, within_back, within_parts, within_then}
use Rattle.pg_run.proofs.Lists.{among_back, among_front, among_parts, among_pieces}
use Rattle.law_took.specs.Takers.{AnotherHas, IsOfNames, IsTaker, come, come_to}

-- ---- among those that are kept

kept_at : (p : Take → Bool) (t : Take) (ts : List Take) (u : Take) (keep : Bool) → p t ≡ keep → Among u (cond keep (t ∷ filter p ts) (filter p ts))
    → (Among u (filter p ts) → p u ≡ true) → p u ≡ true
kept_at p t ts u true is k rest = elim k [ inl same ↦ ap p same ∙ is | inr later ↦ rest later ]
kept_at p t ts u false is k rest = rest k

kept_pass : (p : Take → Bool) (ts : List Take) (u : Take) → Among u (filter p ts) → p u ≡ true
kept_pass p [] u k = absurd k
kept_pass p (t ∷ ts) u k = kept_at p t ts u (p t) refl k (kept_pass p ts u)

pass_at : (p : Take → Bool) (t : Take) (ts : List Take) (u : Take) (keep : Bool) → p t ≡ keep → p u ≡ true → (u ≡ t) ⊎ Among u ts
    → (Among u ts → Among u (filter p ts)) → Among u (cond keep (t ∷ filter p ts) (filter p ts))
pass_at p t ts u true is passes k rest = elim k [ inl same ↦ inl same | inr later ↦ inr (rest later) ]
pass_at p t ts u false is passes k rest =
    elim k [ inl same ↦ absurd (false≢true (sym is ∙ ap p (sym same) ∙ passes)) | inr later ↦ rest later ]

pass_kept : (p : Take → Bool) (ts : List Take) (u : Take) → p u ≡ true → Among u ts → Among u (filter p ts)
pass_kept p [] u passes k = absurd k
pass_kept p (t ∷ ts) u passes k = pass_at p t ts u (p t) refl passes k (pass_kept p ts u passes)

was_at : (p : Take → Bool) (t : Take) (ts : List Take) (u : Take) (keep : Bool) → Among u (cond keep (t ∷ filter p ts) (filter p ts))
    → (Among u (filter p ts) → Among u ts) → Among u (t ∷ ts)
was_at p t ts u true k rest = elim k [ inl same ↦ inl same | inr later ↦ inr (rest later) ]
was_at p t ts u false k rest = inr (rest k)

was_kept : (p : Take → Bool) (ts : List Take) (u : Take) → Among u (filter p ts) → Among u ts
was_kept p [] u k = absurd k
was_kept p (t ∷ ts) u k = was_at p t ts u (p t) k (was_kept p ts u)

-- what a replica took goes with it, and nothing else does
pub gone_lost : (file : FileId) (takes : List Take) (u : Take) → is_of_replica file u ≡ true → Among u (without file takes) → ⊥
gone_lost file takes u of k =
    false≢true (sym (not-true (is_of_replica file u) (kept_pass (λ t. not (is_of_replica file t)) takes u k)) ∙ of)

pub left_kept : (o : Option FileId) (takes : List Take) (u : Take) → ((file : FileId) → o ≡ Some file → is_of_replica file u ≡ false) → Among u takes
    → Among u (without_gone o takes)
left_kept None takes u stays k = k
left_kept (Some file) takes u stays k =
    pass_kept (λ t. not (is_of_replica file t)) takes u (ap not (stays file refl)) k

pub left_was : (o : Option FileId) (takes : List Take) (u : Take) → Among u (without_gone o takes) → Among u takes
left_was None takes u k = k
left_was (Some file) takes u k = was_kept (λ t. not (is_of_replica file t)) takes u k

-- ---- a taker, and any

same_taker : (a b : Taker) → is_same_taker a b ≡ true → a ≡ b
same_taker Itself Itself h = refl
same_taker Itself (InDir e) h = absurd (false≢true h)
same_taker (InDir d) Itself h = absurd (false≢true h)
same_taker (InDir d) (InDir e) h = ap InDir (is_same_file-true d e h)

taker_itself : (a : Taker) → is_same_taker a a ≡ true
taker_itself Itself = refl
taker_itself (InDir d) = is_same_file-refl d

other_taker : (a b : Taker) → is_same_taker a b ≡ false → a ≢ b
other_taker a b apart same = false≢true (sym apart ∙ ap (is_same_taker a) (sym same) ∙ taker_itself a)

-- whose a take is, by the test and in words
same_file : (f g : FileId) → f ≡ g → is_same_file f g ≡ true
same_file f g same = ap (is_same_file f) (sym same) ∙ is_same_file-refl f

pub taker_of : (file : FileId) (u : Take) → is_of_replica file u ≡ true → IsTaker u file
taker_of file (TookVersion f stamp) h = is_same_file-true f file h
taker_of file (TookPlace Itself thing place) h = is_same_file-true thing file h
taker_of file (TookPlace (InDir dir) thing place) h = is_same_file-true dir file h
taker_of file (TookFlag Itself thing flag) h = is_same_file-true thing file h
taker_of file (TookFlag (InDir dir) thing flag) h = is_same_file-true dir file h
taker_of file (Began f) h = is_same_file-true f file h

pub of_taker : (file : FileId) (u : Take) → IsTaker u file → is_of_replica file u ≡ true
of_taker file (TookVersion f stamp) h = same_file f file h
of_taker file (TookPlace Itself thing place) h = same_file thing file h
of_taker file (TookPlace (InDir dir) thing place) h = same_file dir file h
of_taker file (TookFlag Itself thing flag) h = same_file thing file h
of_taker file (TookFlag (InDir dir) thing flag) h = same_file dir file h
of_taker file (Began f) h = same_file f file h

one_of : {A : Type 0} (t : Bool) (x y : A) → Among x (cond t (y ∷ []) []) → (t ≡ true) × (x ≡ y)
one_of true x y k = elim k [ inl same ↦ (refl, same) | inr none ↦ absurd none ]
one_of false x y k = absurd k

-- whoever has a place, it is this replica or another
place_by : (by : Taker) (thing : FileId) (place : Place) (takes : List Take) (t : Take) → Among t takes → Among place (place_known_by thing t)
    → Among (TookPlace by thing place) takes ⊎ AnotherHas takes (TookPlace by thing place)
place_by by thing place takes (TookVersion f stamp) k h = absurd h
place_by by thing place takes (TookPlace other f p) k h =
    let is = one_of (is_same_file f thing) place p h in
    let here : Among (TookPlace other thing place) takes =
    subst (λ (q : Place). Among (TookPlace other thing q) takes) (sym is.1)
    (subst (λ (g : FileId). Among (TookPlace other g p) takes) (is_same_file-true f thing is.0) k) in
    either (is_same_taker other by) refl here
  where
    either : (same : Bool) → is_same_taker other by ≡ same → Among (TookPlace other thing place) takes
        → Among (TookPlace by thing place) takes ⊎ AnotherHas takes (TookPlace by thing place)
    either true same here = inl (subst (λ (b : Taker). Among (TookPlace b thing place) takes) (same_taker other by same) here)
    either false apart here = inr (other, other_taker other by apart, here)
place_by by thing place takes (TookFlag b f flag) k h = absurd h
place_by by thing place takes (Began f) k h = absurd h

flag_by : (by : Taker) (thing : FileId) (flag : Flag) (takes : List Take) (t : Take) → Among t takes → Among flag (flag_known_by thing t)
    → Among (TookFlag by thing flag) takes ⊎ AnotherHas takes (TookFlag by thing flag)
flag_by by thing flag takes (TookVersion f stamp) k h = absurd h
flag_by by thing flag takes (TookPlace b f p) k h = absurd h
flag_by by thing flag takes (TookFlag other f g) k h =
    let is = one_of (is_same_file f thing) flag g h in
    let here : Among (TookFlag other thing flag) takes =
    subst (λ (q : Flag). Among (TookFlag other thing q) takes) (sym is.1)
    (subst (λ (d : FileId). Among (TookFlag other d g) takes) (is_same_file-true f thing is.0) k) in
    either (is_same_taker other by) refl here
  where
    either : (same : Bool) → is_same_taker other by ≡ same → Among (TookFlag other thing flag) takes
        → Among (TookFlag by thing flag) takes ⊎ AnotherHas takes (TookFlag by thing flag)
    either true same here = inl (subst (λ (b : Taker). Among (TookFlag b thing flag) takes) (same_taker other by same) here)
    either false apart here = inr (other, other_taker other by apart, here)
flag_by by thing flag takes (Began f) k h = absurd h

-- what is told is taken by this replica, or by another
told_by : (takes : List Take) (u : Take) → IsOfNames u → Tells takes u → Among u takes ⊎ AnotherHas takes u
told_by takes (TookVersion file stamp) names told = absurd names
told_by takes (TookPlace by thing place) names told =
    let t = among_pieces (place_known_by thing) place takes told in place_by by thing place takes t.0 t.1 t.2
told_by takes (TookFlag by thing flag) names told =
    let t = among_pieces (flag_known_by thing) flag takes told in flag_by by thing flag takes t.0 t.1 t.2
told_by takes (Began file) names told = absurd names

-- ---- passing keeps what was taken

passed_has : (removed : List ℕ) (takes : List Take) (u : Take) → Among u takes → Among u (passed removed takes)
passed_has removed takes u k = among_back u (flat_map (passes removed takes) (held takes)) takes k

with_has : (removed : List ℕ) (us : List Update) (takes : List Take) (u : Take) → Among u takes → Among u (passed_with removed takes us)
with_has removed [] takes u k = k
with_has removed (v ∷ us) takes u k =
    with_has removed us (passed removed (take_of v ∷ takes)) u (passed_has removed (take_of v ∷ takes) u (inr k))

made_has : (removed : List ℕ) (us : List Update) (takes : List Take) (u : Take) → Among u (map take_of us) → Among u (passed_with removed takes us)
made_has removed [] takes u k = absurd k
made_has removed (v ∷ us) takes u k =
    let after = passed removed (take_of v ∷ takes) in
    elim k [
      | inl same ↦ with_has removed us after u (passed_has removed (take_of v ∷ takes) u (inl same))
      | inr later ↦ made_has removed us after u later
    ]

-- ---- one input that takes effect

module _ (store : Store) (wants : Asked) (takes : List Take) (asked : Input) where
  abbrev Removed : List ℕ
  Removed = removed_then store asked

  abbrev pub Left : List Take
  Left = without_gone (gone_in store asked) takes

  abbrev First : List Take
  First = brought store wants asked ++ Left

  abbrev Behind : List Take
  Behind = map take_of (made_behind store asked)

  abbrev pub End : List Take
  End = passed_with Removed (passed Removed First) (made_behind store asked)

  abbrev Come : List Take
  Come = come store wants asked

  abbrev All : List Take
  All = come_to store wants takes asked

  -- nothing else is known at the end
  behind_all : Within Behind All
  behind_all u k = told_itself u All (among_front u Come Left (among_front u Behind (brought store wants asked) k))

  first_all : Within First All
  first_all =
      within_parts (brought store wants asked) Left All
      (λ u k. told_itself u All (among_front u Come Left (among_back u Behind (brought store wants asked) k)))
      (within_back Come Left)

  end_all : Within End All
  end_all =
      within_then End (Behind ++ passed Removed First) All (made_within Removed (made_behind store asked) (passed Removed First))
      (within_parts Behind (passed Removed First) All behind_all
      (within_then (passed Removed First) First All (passed_within Removed First) first_all))

  -- it was there, and stays; or it came; or another has it
  pub taken_at : (u : Take) → IsOfNames u → Among u End → Among u Left ⊎ (Among u Come ⊎ AnotherHas All u)
  taken_at u names k = elim (told_by All u names (end_all u k)) [
    | inl here ↦ elim (among_parts u Come Left here) [ inl came ↦ inr (inl came) | inr left ↦ inl left ]
    | inr other ↦ inr (inr other)
  ]

  pub left_has : (u : Take) → Among u Left → Among u End
  left_has u k =
      with_has Removed (made_behind store asked) (passed Removed First) u
      (passed_has Removed First u (among_back u (brought store wants asked) Left k))

  pub come_has : (u : Take) → Among u Come → Among u End
  come_has u k = elim (among_parts u Behind (brought store wants asked) k) [
    | inl made ↦ made_has Removed (made_behind store asked) (passed Removed First) u made
    | inr came ↦
        with_has Removed (made_behind store asked) (passed Removed First) u
        (passed_has Removed First u (among_front u (brought store wants asked) Left came))
  ]
