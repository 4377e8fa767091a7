-- A replica goes, with all that it took: what is known then is what the replicas that are left
-- took.
use Rattle.std.proofs.Common.{ℕ, ◌≡◌, Bool, true, false, not, List, Option, None, Some, refl, sym, ap, subst, ◌∙◌, inl, inr}
use Rattle.std.proofs.lemmas.Bool.{false≢true, not-true}
use Rattle.pg_run.specs.pg_base.declared.id.FileId.{FileId}
use Rattle.pg_run.specs.pg_base.Id.{is_same_file}
use Rattle.pg_run.proofs.pg_base.Orders.{is_same_file-refl, is_same_file-true}
use Rattle.pg_run.specs.pg_content.Content.{Among}
use Rattle.pg_run.proofs.pg_content.Members.{among_filter, filter_among}
use Rattle.pg_run.specs.pg_register.declared.place.Place.{Place}
use Rattle.pg_run.specs.pg_register.Place.{blank_place, root, root_place}
use Rattle.pg_run.specs.pg_entries.declared.entry.Entry.{Entry}
use Rattle.pg_run.specs.pg_names.declared.attributes.Attributes.{Attributes}
use Rattle.pg_run.specs.pg_names.Names.{NamesValue, cell_at, let_go, or_blank, own_at, own_of, own_or_blank}
use Rattle.pg_run.proofs.pg_names.Gone.{gone_cell, gone_cell_other, gone_own, gone_own_other, gone_same}
use Rattle.pg_run.proofs.pg_house.Truths.{chosen_false}
use Rattle.pg_run.specs.Took.{Take, is_of_replica, without, without_gone}
use Rattle.pg_run.specs.Took.Take.{Began, TookFlag, TookPlace}
use Rattle.pg_run.specs.Took.Taker.{InDir, Itself}
use Rattle.pg_run.specs.Passed.{has_cell}
use Rattle.law_passing.specs.Newest.{AreNewest, IsLatest}
use Rattle.law_passing.specs.Tells.{HasFlag, HasPlace, IsCellOf, Tells}
use Rattle.law_passing.proofs.Latest.{latest_none, latest_same}
use Rattle.law_passing.proofs.Newest.{newest_none, newest_same}
use Rattle.law_passing.proofs.Takes.{HasEntry, began_held, entry_there, held_began, there_entry}
use Rattle.law_names.specs.Goes.{Goes}

turned : (f g : FileId) → is_same_file f g ≡ false → is_same_file g f ≡ false
turned f g apart = by (is_same_file g f) refl
  where
    by : (t : Bool) → is_same_file g f ≡ t → t ≡ false
    by false e = refl
    by true e =
        absurd (false≢true (sym apart ∙ ap (λ (x : FileId). is_same_file f x) (is_same_file-true g f e) ∙ is_same_file-refl f))

-- what is left was there
pub gone_among : (o : Option FileId) (takes : List Take) (x : Take) → Among x (without_gone o takes) → Among x takes
gone_among None takes x h = h
gone_among (Some f) takes x h = (among_filter (λ (t : Take). not (is_of_replica f t)) x takes h).0

module _ (f : FileId) (takes : List Take) where
  abbrev Rest : List Take
  Rest = without f takes

  stays : (x : Take) → is_of_replica f x ≡ false → Among x takes → Among x Rest
  stays x apart h = filter_among (λ (t : Take). not (is_of_replica f t)) x takes h (ap not apart)

  was : (x : Take) → Among x Rest → Among x takes
  was x h = gone_among (Some f) takes x h

  -- of another replica
  other : (x : Take) → Among x Rest → is_of_replica f x ≡ false
  other x h = not-true (is_of_replica f x) (among_filter (λ (t : Take). not (is_of_replica f t)) x takes h).1

  -- ---- entries

  entry_was : (d c : FileId) → HasEntry Rest d c → HasEntry takes d c
  entry_was d c (inl h) = inl (h.0, was (TookPlace (InDir d) c h.0) h.1)
  entry_was d c (inr h) = inr (h.0, was (TookFlag (InDir d) c h.0) h.1)

  entry_stays : (d c : FileId) → is_same_file d f ≡ false → HasEntry takes d c → HasEntry Rest d c
  entry_stays d c apart (inl h) = inl (h.0, stays (TookPlace (InDir d) c h.0) apart h.1)
  entry_stays d c apart (inr h) = inr (h.0, stays (TookFlag (InDir d) c h.0) apart h.1)

  entry_other : (d c : FileId) → HasEntry Rest d c → is_same_file d f ≡ false
  entry_other d c (inl h) = other (TookPlace (InDir d) c h.0) h.1
  entry_other d c (inr h) = other (TookFlag (InDir d) c h.0) h.1

  -- ---- what is told

  module _ (s : NamesValue) (inner : is_same_file f root ≡ false) (k : Tells s takes) where
    abbrev Then : NamesValue
    Then = let_go s f

    none_itself : (x : Take) → Among x Rest → is_of_replica f x ≡ is_same_file f f → ⊥
    none_itself x h is = false≢true (sym (other x h) ∙ is ∙ is_same_file-refl f)

    own_none : own_at Then f ≡ None
    own_none = ap own_of (gone_same s f)

    place_here : IsLatest f (HasPlace Rest Itself f) (own_or_blank Then f).place
    place_here =
        let Q : Attributes → Type 0 = λ o. IsLatest f (HasPlace Rest Itself f) o.place in
        let R : Place → Type 0 = λ p. IsLatest f (HasPlace Rest Itself f) p in
        subst Q (sym (ap (or_blank f) own_none)) (subst R (chosen_false (is_same_file f root) root_place (blank_place f) inner)
        (latest_none f (HasPlace Rest Itself f) (λ p h. none_itself (TookPlace Itself f p) h refl)))

    place_by : (q : FileId) (t : Bool) → is_same_file q f ≡ t → IsLatest q (HasPlace Rest Itself q) (own_or_blank Then q).place
    place_by q true same =
        let P : FileId → Type 0 = λ x. IsLatest x (HasPlace Rest Itself x) (own_or_blank Then x).place in
        subst P (sym (is_same_file-true q f same)) place_here
    place_by q false apart =
        let Q : Attributes → Type 0 = λ o. IsLatest q (HasPlace Rest Itself q) o.place in
        subst Q (sym (ap (or_blank q) (gone_own_other s f q (turned q f apart))))
        (latest_same {f = q} {P = HasPlace takes Itself q} {Q = HasPlace Rest Itself q} (λ p. stays (TookPlace Itself q p) apart) (λ p. was (TookPlace Itself q p)) (own_or_blank s q).place (k.place q))

    flags_here : AreNewest (HasFlag Rest Itself f) (own_or_blank Then f).flags
    flags_here =
        let Q : Attributes → Type 0 = λ o. AreNewest (HasFlag Rest Itself f) o.flags in
        subst Q (sym (ap (or_blank f) own_none))
        (newest_none (HasFlag Rest Itself f) (λ g h. none_itself (TookFlag Itself f g) h refl))

    flags_by : (q : FileId) (t : Bool) → is_same_file q f ≡ t → AreNewest (HasFlag Rest Itself q) (own_or_blank Then q).flags
    flags_by q true same =
        let P : FileId → Type 0 = λ x. AreNewest (HasFlag Rest Itself x) (own_or_blank Then x).flags in
        subst P (sym (is_same_file-true q f same)) flags_here
    flags_by q false apart =
        let Q : Attributes → Type 0 = λ o. AreNewest (HasFlag Rest Itself q) o.flags in
        subst Q (sym (ap (or_blank q) (gone_own_other s f q (turned q f apart))))
        (newest_same {P = HasFlag takes Itself q} {Q = HasFlag Rest Itself q} (λ g. stays (TookFlag Itself q g) apart) (λ g. was (TookFlag Itself q g)) (own_or_blank s q).flags (k.flags q))

    none_by : (d c : FileId) (t : Bool) → has_cell d c Rest ≡ t → cell_at Then d c ≡ None → t ≡ false
    none_by d c false e h = refl
    none_by d c true e h =
        let entry = entry_there d c Rest e in
        let apart = turned d f (entry_other d c entry) in
        absurd (false≢true (sym (k.none d c (sym (gone_cell_other s f d c apart) ∙ h)) ∙ there_entry d c takes (entry_was d c entry)))

    cell_is : (d c : FileId) (e : Entry) → is_same_file d f ≡ false → IsCellOf takes d c e → IsCellOf Rest d c e
    cell_is d c e apart is = record {
      child_is = is.child_is;
      has = there_entry d c Rest (entry_stays d c apart (entry_there d c takes is.has));
      place = latest_same {f = c} {P = HasPlace takes (InDir d) c} {Q = HasPlace Rest (InDir d) c} (λ p. stays (TookPlace (InDir d) c p) apart) (λ p. was (TookPlace (InDir d) c p)) e.place is.place;
      flags = newest_same {P = HasFlag takes (InDir d) c} {Q = HasFlag Rest (InDir d) c} (λ g. stays (TookFlag (InDir d) c g) apart) (λ g. was (TookFlag (InDir d) c g)) e.flags is.flags;
    }

    pub gone_tells : Tells Then Rest
    gone_tells = record {
      held = λ q h. (
          let began = held_began Rest q h in
          let own = k.held q (began_held takes q (was (Began q) began)) in
          (own.0, gone_own_other s f q (turned q f (other (Began q) began)) ∙ own.1));
      told = λ q h. (
          let own = gone_own s f q h.0 h.1 in
          began_held Rest q (stays (Began q) (turned f q own.0) (held_began takes q (k.told q (h.0, own.1)))));
      place = λ q. place_by q (is_same_file q f) refl;
      flags = λ q. flags_by q (is_same_file q f) refl;
      none = λ d c h. none_by d c (has_cell d c Rest) refl h;
      some = λ d c e h. (let cell = gone_cell s f d c e h in cell_is d c e (turned f d cell.0) (k.some d c e cell.1));
    }

-- A REPLICA GOES
pub goes_gone : (removed : List ℕ) (s : NamesValue) (takes : List Take) (f : FileId) → is_same_file f root ≡ false → Goes removed s takes → Goes removed (let_go s f) (without f takes)
goes_gone removed s takes f inner k = record {
  tells = gone_tells f takes s inner k.tells;
  dirs = λ d c e h. k.dirs d c e (gone_cell s f d c e h).1;
  last = record {
    own = λ q own h. k.last.own q own (gone_own s f q own h).1;
    cells = λ d c e h. k.last.cells d c e (gone_cell s f d c e h).1;
  };
  same_removed = k.same_removed;
}
