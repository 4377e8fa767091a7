-- The house rules are the second part of a step, but for what the intentions give.
use Rattle.std.proofs.Common.{ℕ, ◌≡◌, None, Some, sym, subst, ◌∙◌}
use Rattle.std.proofs.lemmas.Option.{none-some, same_Some}
use Rattle.pg_base.specs.declared.id.FileId.{FileId}
use Rattle.pg_register.specs.declared.place.Place.{Place}
use Rattle.pg_msg.specs.declared.work.Work.{Work}
use Rattle.pg_names.specs.Names.{NamesValue}
use Rattle.pg_house.specs.Work.{state_of}
use Rattle.pg_house.specs.Facts.{AreByServer, IsLast, IsOfDirs}
use Rattle.pg_house.specs.House.{house}
use Rattle.theory_listing.specs.Protocol.{IsIn, IsUpTo}
use Rattle.theory_listing.specs.Rule.{HasCell, Holds, IsSettled, IsToldAt}
use Rattle.theory_listing.specs.Parts.{NoneLater, SecondPart}
use Rattle.theory_listing_house.specs.Listing.{Beside, HaveSamePlaces, listing}
use Rattle.theory_listing_house.specs.Second.{Intends, RulesAreSecondParts, Seen}
use Rattle.theory_listing_house.proofs.Given.{cells_grow, nothing_begins, own_places_grow, parents_at_start, settled_behind, unheld_stay}

-- what the rules give, from one server's names to the next
record Gives (s t : NamesValue) : Type 0 where
  settled : IsSettled listing t
  own : (f : FileId) (q : Place) → listing.own s f ≡ Some q → (r : Place) × (listing.own t f ≡ Some r) × IsUpTo listing q r
  gone : (f : FileId) → listing.own s f ≡ None → listing.own t f ≡ None
  cells : (d c : FileId) (q : Place) → listing.cell s d c ≡ Some q → IsToldAt listing t d c q.stamp
  unheld : (d c : FileId) → listing.own s c ≡ None → listing.cell t d c ≡ listing.cell s d c
  parent : (d c : FileId) (q : Place) → listing.own s c ≡ Some q → IsIn listing d c q → Holds listing s d → NoneLater listing s c q → HasCell listing t d c

gives : (moment : ℕ) (s : NamesValue) (work : Work) → IsOfDirs s → AreByServer s → IsLast s → Gives s (house moment (state_of s work)).names
gives moment s work of_dirs sorted last =
    let st = state_of s work in
    record {
      settled = settled_behind moment st of_dirs sorted;
      own = own_places_grow moment st of_dirs sorted last;
      gone = nothing_begins moment st;
      cells = cells_grow moment st of_dirs sorted last;
      unheld = λ d c none. (unheld_stay moment st c (nothing_begins moment st c none)).1 d;
      parent = parents_at_start moment st of_dirs sorted;
    }

-- and where the places are the same
module _ (e t : NamesValue) (same : HaveSamePlaces e t) where
  holds_too : (f : FileId) → Holds listing e f → Holds listing t f
  holds_too f h = (h.0, same.own f ∙ h.1)

  held_too : (f : FileId) → Holds listing t f → Holds listing e f
  held_too f h = (h.0, sym (same.own f) ∙ h.1)

  has_too : (d c : FileId) → HasCell listing e d c → HasCell listing t d c
  has_too d c h = (h.0, same.cells d c ∙ h.1)

  settled_too : IsSettled listing e → IsSettled listing t
  settled_too k = record {
    cells = λ d c q h. holds_too d (k.cells d c q (sym (same.cells d c) ∙ h));
    passing = λ d c q r inner h i. k.passing d c q r inner (sym (same.own c) ∙ h) (sym (same.cells d c) ∙ i);
    own_parent = λ d c q h in_ held. has_too d c (k.own_parent d c q (sym (same.own c) ∙ h) in_ (held_too d held));
    patch_of = λ d c q h i. absurd (none-some q h);
    not_past = λ f n h e past. past;
  }

  gives_too : (s : NamesValue) → Gives s e → Gives s t
  gives_too s g = record {
    settled = settled_too g.settled;
    own = λ f q h. (let x = g.own f q h in (x.0, same.own f ∙ x.1, x.2));
    gone = λ f h. same.own f ∙ g.gone f h;
    cells = λ d c q h. (let x = g.cells d c q h in (x.0, same.cells d c ∙ x.1, x.2));
    unheld = λ d c h. same.cells d c ∙ g.unheld d c h;
    parent = λ d c q h in_ held none. has_too d c (g.parent d c q h in_ held none);
  }

module _ {N : Type 0} (see : N → NamesValue) (beside : Beside N) where
  -- a live place in a directory is so however the server is seen
  in_names : (d c : FileId) (q : Place) → IsIn (Seen see beside) d c q → IsIn listing d c q
  in_names d c q i = record { live = i.live; parent = i.parent; inner = i.inner }

  module _ (a m b : N) (g : Gives (see m) (see b)) (i : Intends see beside a m b) where
    own_grows : (f : FileId) (q r : Place) → listing.own (see m) f ≡ Some q → listing.own (see b) f ≡ Some r → IsUpTo listing q r
    own_grows f q r was now =
        let x = g.own f q was in
        subst (λ (z : Place). IsUpTo listing q z) (same_Some x.0 r (sym x.1 ∙ now)) x.2

    is_settled : IsSettled (Seen see beside) b
    is_settled = record {
      cells = g.settled.cells;
      passing = g.settled.passing;
      own_parent = λ d c q h in_ held. g.settled.own_parent d c q h (in_names d c q in_) held;
      patch_of = i.patch_of;
      not_past = i.not_past;
    }

    second : SecondPart (Seen see beside) a m b
    second = record {
      settled = is_settled;
      view = i.view;
      holds = λ f h. (let x = g.own f h.0 h.1 in (x.0, x.1));
      gone = g.gone;
      birth = i.birth;
      past = i.past;
      own_grows = own_grows;
      cells_grow = g.cells;
      unheld = g.unheld;
      parent = λ d c q h in_ held none. g.parent d c q h (in_names d c q in_) held none;
      patch_begun = i.patch_begun;
      patch_ends = i.patch_ends;
      confirms = i.confirms;
    }

  pub rules_are_second_parts : RulesAreSecondParts see beside
  rules_are_second_parts moment work a m b of_dirs sorted last same i =
      second a m b (gives_too (house moment (state_of (see m) work)).names (see b) same (see m) (gives moment (see m) work of_dirs sorted last)) i
