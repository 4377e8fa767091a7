-- At the start of a run each server knows just what its replicas took: the root.
use Rattle.std.proofs.Common.{ℕ, ◌≡◌, Bool, true, false, cond, List, None, Some, refl, sym, ap, subst, ◌∙◌, inl, inr}
use Rattle.std.proofs.lemmas.Bool.{false≢true}
use Rattle.std.proofs.lemmas.Option.{none-some}
use Rattle.pg_run.specs.pg_base.declared.id.FileId.{FileId}
use Rattle.pg_run.specs.pg_base.Id.{is_same_file}
use Rattle.pg_run.proofs.pg_base.Orders.{is_same_file-refl, is_same_file-true}
use Rattle.pg_run.specs.pg_content.Content.{Among}
use Rattle.pg_run.proofs.pg_content.Members.{among_map}
use Rattle.pg_run.specs.pg_register.declared.flag.Flag.{Flag}
use Rattle.pg_run.specs.pg_register.declared.place.Place.{Place}
use Rattle.pg_run.specs.pg_register.Place.{blank_place, root, root_place}
use Rattle.pg_run.specs.pg_names.declared.attributes.Attributes.{Attributes}
use Rattle.pg_run.specs.pg_names.Names.{NamesValue, blank_own, cell_at, new_names, or_blank, own_at, own_or_blank}
use Rattle.pg_run.proofs.pg_names.Holding.{begun_cells}
use Rattle.pg_run.specs.pg_house.Facts.{IsHeld}
use Rattle.pg_run.proofs.pg_house.Truths.{chosen_false}
use Rattle.pg_run.proofs.theory_flood_pieces.Start.{first_sorted, start_whole}
use Rattle.pg_run.specs.pg_store.Start.{first_flags, first_names, root_own}
use Rattle.pg_run.specs.Known.{of_run}
use Rattle.pg_run.specs.Run.{start}
use Rattle.pg_run.specs.Took.{Take, Taker, first_takes, is_held}
use Rattle.pg_run.specs.Took.Take.{Began, TookFlag}
use Rattle.pg_run.specs.Took.Taker.{InDir, Itself}
use Rattle.pg_run.specs.Passed.{has_cell}
use Rattle.law_names.specs.Merged.{IsMerged, IsTakeTold}
use Rattle.law_passing.specs.Newest.{AreNewest, IsLatest}
use Rattle.law_passing.specs.Tells.{HasFlag, HasPlace, Tells}
use Rattle.law_names.proofs.Beginning.{begun_own, granted, granted_all, granted_latest, granted_newest}
use Rattle.law_passing.proofs.Latest.{latest_none, latest_same}
use Rattle.law_passing.proofs.Newest.{newest_none, newest_same}
use Rattle.law_passing.proofs.Pieces.{AreOf}
use Rattle.law_passing.proofs.Singles.{began_flag, began_place}
use Rattle.law_passing.proofs.Takes.{HasEntry, began_held, entry_there, held_began}

module _ (n s : ℕ) where
  abbrev Names : NamesValue
  Names = first_names n s

  abbrev Takes : List Take
  Takes = first_takes (first_flags n)

  abbrev Given : List Take
  Given = granted root root_place (first_flags n)

  -- ---- what is taken at the start

  all : AreOf Given Itself root
  all = granted_all root root_place (first_flags n)

  place_given : (b : Taker) (f : FileId) (q : Place) → HasPlace Takes b f q → HasPlace Given b f q
  place_given b f q (inl e) = absurd (began_place b root f q (sym e))
  place_given b f q (inr more) = more

  flag_given : (b : Taker) (f : FileId) (g : Flag) → HasFlag Takes b f g → HasFlag Given b f g
  flag_given b f g (inl e) = absurd (began_flag b root f g (sym e))
  flag_given b f g (inr more) = more

  only_root : (q : FileId) → Among (Began q) Takes → q ≡ root
  only_root q (inl e) = same e
    where
      same : Began q ≡ Began root → q ≡ root
      same h = cc
  only_root q (inr more) = absurd (all.begin q more)

  no_dir : (d : FileId) → InDir d ≡ Itself → ⊥
  no_dir d h = absurd (cc)

  no_entry : (d c : FileId) → HasEntry Takes d c → ⊥
  no_entry d c (inl h) = no_dir d (all.places (InDir d) c h.0 (place_given (InDir d) c h.0 h.1)).0
  no_entry d c (inr h) = no_dir d (all.flags (InDir d) c h.0 (flag_given (InDir d) c h.0 h.1)).0

  -- ---- what is known

  own_is : (q : FileId) → own_at Names q ≡ cond (is_same_file q root) (Some (root_own n)) None
  own_is q = begun_own (new_names s) root (root_own n) true q

  root_is : own_at Names root ≡ Some (root_own n)
  root_is = own_is root ∙ ap (λ t. cond t (Some (root_own n)) None) (is_same_file-refl root)

  root_known : own_or_blank Names root ≡ root_own n
  root_known = ap (or_blank root) root_is

  other_is : (f : FileId) → is_same_file f root ≡ false → own_at Names f ≡ None
  other_is f apart = own_is f ∙ ap (λ t. cond t (Some (root_own n)) None) apart

  other_known : (f : FileId) → is_same_file f root ≡ false → own_or_blank Names f ≡ blank_own f
  other_known f apart = ap (or_blank f) (other_is f apart)

  no_cells : (d c : FileId) → cell_at Names d c ≡ None
  no_cells d c = begun_cells (new_names s) root (root_own n) true refl d c

  apart_root : (f : FileId) → is_same_file f root ≡ false → f ≡ root → ⊥
  apart_root f apart e = false≢true (sym apart ∙ ap (λ x. is_same_file x root) e ∙ is_same_file-refl root)

  root_latest : IsLatest root (HasPlace Takes Itself root) root_place
  root_latest =
      latest_same {f = root} {P = HasPlace Given Itself root} {Q = HasPlace Takes Itself root} (λ q h. inr h) (λ q. place_given Itself root q) root_place
      (granted_latest root root_place (first_flags n) (λ h. absurd (false≢true (sym h))))

  root_newest : AreNewest (HasFlag Takes Itself root) (first_flags n)
  root_newest =
      newest_same {P = HasFlag Given Itself root} {Q = HasFlag Takes Itself root} (λ g h. inr h) (λ g. flag_given Itself root g) (first_flags n)
      (granted_newest root root_place (first_flags n) (first_sorted n))

  place_by : (f : FileId) (t : Bool) → is_same_file f root ≡ t → IsLatest f (HasPlace Takes Itself f) (own_or_blank Names f).place
  place_by f true same =
      let P : FileId → Type 0 = λ x. IsLatest x (HasPlace Takes Itself x) (own_or_blank Names x).place in
      let Q : Attributes → Type 0 = λ o. IsLatest root (HasPlace Takes Itself root) o.place in
      subst P (sym (is_same_file-true f root same)) (subst Q (sym root_known) root_latest)
  place_by f false apart =
      let Q : Attributes → Type 0 = λ o. IsLatest f (HasPlace Takes Itself f) o.place in
      let R : Place → Type 0 = λ p. IsLatest f (HasPlace Takes Itself f) p in
      subst Q (sym (other_known f apart)) (subst R (chosen_false (is_same_file f root) root_place (blank_place f) apart)
      (latest_none f (HasPlace Takes Itself f) (λ q h. apart_root f apart (all.places Itself f q (place_given Itself f q h)).1)))

  flags_by : (f : FileId) (t : Bool) → is_same_file f root ≡ t → AreNewest (HasFlag Takes Itself f) (own_or_blank Names f).flags
  flags_by f true same =
      let P : FileId → Type 0 = λ x. AreNewest (HasFlag Takes Itself x) (own_or_blank Names x).flags in
      let Q : Attributes → Type 0 = λ o. AreNewest (HasFlag Takes Itself root) o.flags in
      subst P (sym (is_same_file-true f root same)) (subst Q (sym root_known) root_newest)
  flags_by f false apart =
      let Q : Attributes → Type 0 = λ o. AreNewest (HasFlag Takes Itself f) o.flags in
      subst Q (sym (other_known f apart))
      (newest_none (HasFlag Takes Itself f) (λ g h. apart_root f apart (all.flags Itself f g (flag_given Itself f g h)).1))

  none_by : (d c : FileId) (t : Bool) → has_cell d c Takes ≡ t → t ≡ false
  none_by d c false e = refl
  none_by d c true e = absurd (no_entry d c (entry_there d c Takes e))

  held_by : (q : FileId) (t : Bool) → is_same_file q root ≡ t → IsHeld Names q → is_held q Takes ≡ true
  held_by q true same h = let P : FileId → Type 0 = λ x. is_held x Takes ≡ true in subst P (sym (is_same_file-true q root same)) (began_held Takes root (inl refl))
  held_by q false apart h = absurd (none-some h.0 (sym (other_is q apart) ∙ h.1))

  start_tells : Tells Names Takes
  start_tells = record {
    held = λ q h. (let P : FileId → Type 0 = λ x. IsHeld Names x in subst P (sym (only_root q (held_began Takes q h))) (root_own n, root_is));
    told = λ q h. held_by q (is_same_file q root) refl h;
    place = λ f. place_by f (is_same_file f root) refl;
    flags = λ f. flags_by f (is_same_file f root) refl;
    none = λ d c h. none_by d c (has_cell d c Takes) refl;
    some = λ d c e h. absurd (none-some e (sym (no_cells d c) ∙ h));
  }

  -- ---- and that was there

  first_told : (x : Take) → Among x Takes → IsTakeTold (of_run n (start n)) x
  first_told x (inl e) = subst (IsTakeTold (of_run n (start n))) (sym e) tt
  first_told x (inr (inl e)) = subst (IsTakeTold (of_run n (start n))) (sym e) (inl refl)
  first_told x (inr (inr more)) =
      let r = among_map (TookFlag Itself root) (first_flags n) x more in
      subst (IsTakeTold (of_run n (start n))) (sym r.2) (inl (refl, r.1))

  -- AT THE START
  pub start_merged : IsMerged n (start n) s
  start_merged =
      let o = (start_whole n s).names in
      record {
        goes = record { tells = start_tells; dirs = o.dirs; last = o.last; same_removed = refl };
        told = first_told;
      }
