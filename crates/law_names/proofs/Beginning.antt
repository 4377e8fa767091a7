-- A replica begins: with what it is granted, or with nothing; and a directory takes the entries of
-- its Patches.
use Rattle.std.proofs.Common.{ℕ, ◌≡◌, Bool, true, false, cond, List, [], ◌∷◌, ◌++◌, Option, None, Some, refl, sym, ap, subst, ◌∙◌, inl, inr, ◌⊎◌}
use Rattle.std.proofs.lemmas.Bool.{false≢true, or_parts}
use Rattle.pg_run.specs.pg_base.declared.id.FileId.{FileId}
use Rattle.pg_run.specs.pg_base.declared.policy.Policy.{Policy}
use Rattle.pg_run.specs.pg_base.Id.{is_same_file}
use Rattle.pg_run.specs.pg_base.Stamp.{is_before}
use Rattle.pg_run.proofs.pg_base.Orders.{is_same_file-refl, is_same_file-true}
use Rattle.pg_run.specs.pg_content.Content.{Among}
use Rattle.pg_run.proofs.pg_content.Members.{among_map, map_among}
use Rattle.pg_run.specs.pg_register.declared.flag.Flag.{Flag}
use Rattle.pg_run.specs.pg_register.declared.place.Place.{Place}
use Rattle.pg_run.specs.pg_register.Flag.{IsByServer, join_flags}
use Rattle.pg_run.specs.pg_register.Place.{blank_place, first_stamp, newer_place, root, root_place}
use Rattle.pg_run.specs.pg_names.declared.attributes.Attributes.{Attributes}
use Rattle.pg_run.specs.pg_names.Names.{InodeValue, NamesValue, begin, blank_own, known, new_held, or_blank, own_at, own_of, own_or_blank}
use Rattle.pg_run.proofs.pg_names.Holding.{begun_cells, begun_known}
use Rattle.pg_run.specs.pg_house.Facts.{IsHeld}
use Rattle.pg_run.specs.pg_house.Passing.{is_update}
use Rattle.pg_run.proofs.pg_house.Truths.{chosen_false}
use Rattle.pg_run.proofs.theory_flood_pieces.Orderly.{orderly_begun}
use Rattle.pg_run.specs.pg_store.declared.store.Store.{Store}
use Rattle.pg_run.specs.pg_store.Beginning.{put_new}
use Rattle.pg_run.specs.Took.{Take, Taker, first_place, flags_of, places_of}
use Rattle.pg_run.specs.Took.Take.{Began, TookFlag, TookPlace}
use Rattle.pg_run.specs.Took.Taker.{Itself}
use Rattle.pg_run.proofs.Lists.{among_back, among_front, among_parts}
use Rattle.law_names.specs.Goes.{Goes}
use Rattle.law_passing.specs.Newest.{AreNewest, IsLatest}
use Rattle.law_passing.specs.Tells.{HasFlag, HasPlace, Tells}
use Rattle.law_names.proofs.Entries.{alone, newest_themselves}
use Rattle.law_names.proofs.Going.{orderly_of}
use Rattle.law_passing.proofs.Latest.{latest_none, latest_same, latest_single}
use Rattle.law_passing.proofs.Newest.{newest_same}
use Rattle.law_passing.proofs.Pieces.{AreOf, OwnComes, own_tells}
use Rattle.law_names.proofs.Same.{begun_tells}
use Rattle.law_passing.proofs.Singles.{began_flag, began_place, flag_taker, flag_thing, not_flag, not_place, same_flag, same_place, same_taker, same_thing}

-- ---- the takes of a place that is no blank one, and of flags

here_by : (t : Bool) (x y : Take) → Among x (cond t (y ∷ []) []) → (t ≡ true) × (x ≡ y)
here_by true x y (inl e) = (refl, e)
here_by true x y (inr none) = absurd none
here_by false x y h = absurd h

module _ (f : FileId) (p : Place) (gs : List Flag) where
  abbrev pub granted : List Take
  granted = places_of Itself f p ++ flags_of Itself f gs

  from_places : (x : Take) → Among x (places_of Itself f p) → (is_update p ≡ true) × (x ≡ TookPlace Itself f p)
  from_places x h = here_by (is_update p) x (TookPlace Itself f p) h

  place_from : (b : Taker) (g : FileId) (q : Place) → Among (TookPlace b g q) granted → (is_update p ≡ true) × (TookPlace b g q ≡ TookPlace Itself f p)
  place_from b g q h = elim (among_parts (TookPlace b g q) (places_of Itself f p) (flags_of Itself f gs) h) [
    | inl place ↦ from_places (TookPlace b g q) place
    | inr flag ↦ (let r = among_map (TookFlag Itself f) gs (TookPlace b g q) flag in absurd (not_place b Itself g f q r.0 r.2))
  ]

  flag_from : (b : Taker) (g : FileId) (q : Flag) → Among (TookFlag b g q) granted → (r : Flag) × Among r gs × (TookFlag b g q ≡ TookFlag Itself f r)
  flag_from b g q h = elim (among_parts (TookFlag b g q) (places_of Itself f p) (flags_of Itself f gs) h) [
    | inl place ↦ absurd (not_flag b Itself g f p q (from_places (TookFlag b g q) place).1)
    | inr flag ↦ among_map (TookFlag Itself f) gs (TookFlag b g q) flag
  ]

  none_begins : (g : FileId) → Among (Began g) granted → ⊥
  none_begins g h = elim (among_parts (Began g) (places_of Itself f p) (flags_of Itself f gs) h) [
    | inl place ↦ began_place Itself g f p (from_places (Began g) place).1
    | inr flag ↦ (let r = among_map (TookFlag Itself f) gs (Began g) flag in began_flag Itself g f r.0 r.2)
  ]

  pub granted_all : AreOf granted Itself f
  granted_all = record {
    places = λ b g q h. (let i = (place_from b g q h).1 in (same_taker b Itself g f q p i, same_thing b Itself g f q p i));
    flags = λ b g q h. (let r = flag_from b g q h in (flag_taker b Itself g f q r.0 r.2, flag_thing b Itself g f q r.0 r.2));
    begin = none_begins;
  }

  -- the flags are the newest of them
  to_flag : (q : Flag) → Among q gs → HasFlag granted Itself f q
  to_flag q h = among_back (TookFlag Itself f q) (places_of Itself f p) (flags_of Itself f gs) (map_among (TookFlag Itself f) gs q h)

  from_flag : (q : Flag) → HasFlag granted Itself f q → Among q gs
  from_flag q h =
      let r = flag_from Itself f q h in
      let P : Flag → Type 0 = λ x. Among x gs in
      subst P (sym (same_flag Itself Itself f f q r.0 r.2)) r.1

  pub granted_newest : IsByServer gs → AreNewest (HasFlag granted Itself f) gs
  granted_newest sorted =
      newest_same {P = λ q. Among q gs} {Q = HasFlag granted Itself f} to_flag from_flag gs (newest_themselves gs sorted)

  -- and so is the place, where one that is not the blank one has a stamp
  in_places : (t : Bool) → t ≡ true → Among (TookPlace Itself f p) (cond t (TookPlace Itself f p ∷ []) [])
  in_places true e = inl refl
  in_places false e = absurd (false≢true e)

  latest_by : (t : Bool) → is_update p ≡ t → (is_update p ≡ false → p ≡ first_place f) → IsLatest f (HasPlace granted Itself f) p
  latest_by true e first =
      latest_same {f = f} {P = λ q. q ≡ p} {Q = HasPlace granted Itself f}
      (λ q i. among_front (TookPlace Itself f q) (places_of Itself f p) (flags_of Itself f gs)
      (let P : Place → Type 0 = λ x. Among (TookPlace Itself f x) (places_of Itself f p) in subst P (sym i) (in_places (is_update p) e)))
      (λ q h. same_place Itself Itself f f q p (place_from Itself f q h).1) p (latest_single f p)
  latest_by false e first =
      let P : Place → Type 0 = λ x. IsLatest f (HasPlace granted Itself f) x in
      subst P (sym (first e))
      (latest_none f (HasPlace granted Itself f) (λ q h. false≢true (sym e ∙ (place_from Itself f q h).0)))

  pub granted_latest : (is_update p ≡ false → p ≡ first_place f) → IsLatest f (HasPlace granted Itself f) p
  granted_latest first = latest_by (is_update p) refl first

-- ---- names behind it

own_cond : (t : Bool) (own : Attributes) (full : Bool) (o : Option InodeValue) → own_of (cond t (Some (new_held own full)) o) ≡ cond t (Some own) (own_of o)
own_cond true own full o = refl
own_cond false own full o = refl

pub begun_own : (s : NamesValue) (f : FileId) (own : Attributes) (full : Bool) (q : FileId) → own_at (begin s f own full) q ≡ cond (is_same_file q f) (Some own) (own_at s q)
begun_own s f own full q = ap own_of (begun_known s f own full q) ∙ own_cond (is_same_file q f) own full (known s q)

module _ (s : NamesValue) (f : FileId) (none : known s f ≡ None) where
  -- a thing of which nothing is known is blank
  was_blank : own_or_blank s f ≡ blank_own f
  was_blank = ap (λ o. or_blank f (own_of o)) none

  module _ (own : Attributes) (full : Bool) where
    abbrev Then : NamesValue
    Then = begin s f own full

    own_here : own_at Then f ≡ Some own
    own_here = begun_own s f own full f ∙ ap (λ t. cond t (Some own) (own_at s f)) (is_same_file-refl f)

    own_there : (q : FileId) → is_same_file q f ≡ false → own_at Then q ≡ own_at s q
    own_there q apart = begun_own s f own full q ∙ ap (λ t. cond t (Some own) (own_at s q)) apart

    stays_by : (q : FileId) (t : Bool) → is_same_file q f ≡ t → IsHeld s q → IsHeld Then q
    stays_by q true same h = let P : FileId → Type 0 = IsHeld Then in subst P (sym (is_same_file-true q f same)) (own, own_here)
    stays_by q false apart h = (h.0, own_there q apart ∙ h.1)

    only_by : (q : FileId) (t : Bool) → is_same_file q f ≡ t → IsHeld Then q → IsHeld s q ⊎ (q ≡ f)
    only_by q true same h = inr (is_same_file-true q f same)
    only_by q false apart h = inl (h.0, sym (own_there q apart) ∙ h.1)

  -- ---- first the thing is there, blank

  abbrev First : Bool → NamesValue
  First full = begin s f (blank_own f) full

  first_own : (full : Bool) (q : FileId) (t : Bool) → is_same_file q f ≡ t → own_or_blank (First full) q ≡ own_or_blank s q
  first_own full q true same =
      let P : FileId → Type 0 = λ x. own_or_blank (First full) x ≡ own_or_blank s x in
      subst P (sym (is_same_file-true q f same)) (ap (or_blank f) (own_here (blank_own f) full) ∙ sym was_blank)
  first_own full q false apart = ap (or_blank q) (own_there (blank_own f) full q apart)

  first_tells : (full : Bool) (takes : List Take) → Tells s takes → Tells (First full) (Began f ∷ takes)
  first_tells full takes k =
      begun_tells s (First full) takes f k (λ q. first_own full q (is_same_file q f) refl) (begun_cells s f (blank_own f) full none)
      (blank_own f, own_here (blank_own f) full) (λ q h. stays_by (blank_own f) full q (is_same_file q f) refl h)
      (λ q h. only_by (blank_own f) full q (is_same_file q f) refl h)

  -- ---- then it has this place and these flags

  module _ (own : Attributes) (full : Bool) (sorted : IsByServer own.flags) (first : is_before first_stamp own.place.stamp ≡ false → own.place ≡ blank_place f)
      (inner : is_same_file f root ≡ false) where
    first_is : first_place f ≡ blank_place f
    first_is = chosen_false (is_same_file f root) root_place (blank_place f) inner

    no_update : is_update own.place ≡ false → own.place ≡ first_place f
    no_update h = first (or_parts own.place.live (is_before first_stamp own.place.stamp) h).1 ∙ sym first_is

    newer_by : (t : Bool) → is_before first_stamp own.place.stamp ≡ t → own.place ≡ newer_place (blank_place f) own.place
    newer_by true e = sym (ap (λ t. cond t own.place (blank_place f)) e)
    newer_by false e = first e ∙ sym (ap (λ t. cond t own.place (blank_place f)) e)

    blank_is : own_or_blank (First full) f ≡ blank_own f
    blank_is = ap (or_blank f) (own_here (blank_own f) full)

    apart_back : (q : FileId) → is_same_file f q ≡ false → (t : Bool) → is_same_file q f ≡ t → t ≡ false
    apart_back q apart false e = refl
    apart_back q apart true e =
        absurd (false≢true (sym apart ∙ ap (is_same_file f) (is_same_file-true q f e) ∙ is_same_file-refl f))

    others : (q : FileId) → is_same_file f q ≡ false → own_or_blank (Then own full) q ≡ own_or_blank (First full) q
    others q apart =
        let e = apart_back q apart (is_same_file q f) refl in
        ap (or_blank q) (own_there own full q e) ∙ sym (ap (or_blank q) (own_there (blank_own f) full q e))

    stays_from : (q : FileId) (t : Bool) → is_same_file q f ≡ t → IsHeld (First full) q → IsHeld (Then own full) q
    stays_from q true same h = let P : FileId → Type 0 = IsHeld (Then own full) in subst P (sym (is_same_file-true q f same)) (own, own_here own full)
    stays_from q false apart h = (h.0, own_there own full q apart ∙ sym (own_there (blank_own f) full q apart) ∙ h.1)

    back_from : (q : FileId) (t : Bool) → is_same_file q f ≡ t → IsHeld (Then own full) q → IsHeld (First full) q
    back_from q true same h = let P : FileId → Type 0 = IsHeld (First full) in subst P (sym (is_same_file-true q f same)) (blank_own f, own_here (blank_own f) full)
    back_from q false apart h = (h.0, own_there (blank_own f) full q apart ∙ sym (own_there own full q apart) ∙ h.1)

    then_comes : OwnComes (First full) (Then own full) (granted f own.place own.flags) f own.place own.flags
    then_comes = record {
      all = granted_all f own.place own.flags;
      latest = granted_latest f own.place own.flags no_update;
      newest = granted_newest f own.place own.flags sorted;
      place = ap (λ o. (or_blank f o).place) (own_here own full)
          ∙ newer_by (is_before first_stamp own.place.stamp) refl ∙ ap (λ (o : Attributes). newer_place o.place own.place) (sym blank_is);
      flags = ap (λ o. (or_blank f o).flags) (own_here own full) ∙ sym (alone own.flags sorted) ∙ ap (λ (o : Attributes). join_flags o.flags own.flags) (sym blank_is);
      others = others;
      cells = λ d q. begun_cells s f own full none d q ∙ sym (begun_cells s f (blank_own f) full none d q);
      stays = λ q h. stays_from q (is_same_file q f) refl h;
      was = λ q h. back_from q (is_same_file q f) refl h;
    }

    pub then_tells : (takes : List Take) → Tells s takes → Tells (Then own full) (granted f own.place own.flags ++ (Began f ∷ takes))
    then_tells takes k =
        own_tells (First full) (Then own full) (Began f ∷ takes) (granted f own.place own.flags) f own.place own.flags (first_tells full takes k) then_comes

-- A REPLICA BEGINS
pub goes_begun : (removed : List ℕ) (a : Store) (now : List Take) → Goes removed a.names now → (f : FileId) → known a.names f ≡ None → is_same_file f root ≡ false
    → (birth : ℕ) (policy : Policy) (own : Attributes) (full : Bool) → IsByServer own.flags
    → (is_before first_stamp own.place.stamp ≡ false → own.place ≡ blank_place f)
    → Goes removed (put_new a f birth policy own full).names (granted f own.place own.flags ++ (Began f ∷ now))
goes_begun removed a now k f none inner birth policy own full sorted first =
    let tells = then_tells a.names f none own full sorted first inner now k.tells in
    let o = orderly_begun a.names f own full none sorted (orderly_of removed a.names now k) in
    record {
      tells = record { held = tells.held; told = tells.told; place = tells.place; flags = tells.flags; none = tells.none; some = tells.some };
      dirs = o.dirs;
      last = o.last;
      same_removed = k.same_removed;
    }
