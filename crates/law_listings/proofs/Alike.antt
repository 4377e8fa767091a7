-- Stores that directories see alike: places, cells and Patches are the same, and Confirms go on. A
-- first part of a step may begin and end with such a change.
use Rattle.std.proofs.Common.{ℕ, ◌≡◌, ◌<◌, ◌≤◌, List, length, refl, sym, ap, subst, ◌∙◌, inl, inr}
use Rattle.pg_run.specs.pg_base.declared.id.FileId.{FileId}
use Rattle.pg_run.specs.pg_base.declared.stamp.Stamp.{Stamp}
use Rattle.pg_run.specs.pg_house.Holding.{waits}
use Rattle.pg_run.specs.pg_intent.declared.key.IntentKey.TheVariants as intent_key
use Rattle.pg_run.specs.pg_intent.Intents.{intent_at, stands}
use Rattle.theory_listing.specs.Protocol.{AtLeast, Lists}
use Rattle.theory_listing.specs.Parts.{FirstPart, NoneLater}
use Rattle.theory_listing.specs.Rule.{Holds, IsToldAt}
use Rattle.theory_listing.proofs.Handlers.{calm_first}
use Rattle.pg_run.specs.pg_names.Names.{cell_at, own_at}
use Rattle.pg_run.specs.pg_register.declared.place.Place.{Place}
use Rattle.pg_run.specs.pg_store.declared.store.Store.{Store}
use Rattle.pg_run.specs.pg_store.Seen.{removed_of, view_of}
use Rattle.theory_listing_house.specs.Listing.{cell_place, own_place}
use Rattle.theory_listing_house.proofs.Seen.{own_is}
use Rattle.law_listings.specs.Letters.{Letter, patch_place}
use Rattle.law_listings.proofs.PlacesAlone.{IsPart, of_places}

pub record Alike (a b : Store) : Type 0 where
  pub own : (f : FileId) → of_places.own b f ≡ of_places.own a f
  pub cells : (d c : FileId) → of_places.cell b d c ≡ of_places.cell a d c
  pub patches : (d c : FileId) → of_places.patch b d c ≡ of_places.patch a d c
  pub confirms : (d c : FileId) → of_places.Confirms a d c → of_places.Confirms b d c
  pub removed : removed_of b ≡ removed_of a

pub Alike-refl : (a : Store) → Alike a a
Alike-refl a = record { own = λ f. refl; cells = λ d c. refl; patches = λ d c. refl; confirms = λ d c h. h; removed = refl }

pub Alike-trans : {a b c : Store} → Alike a b → Alike b c → Alike a c
Alike-trans k l = record {
  own = λ f. l.own f ∙ k.own f;
  cells = λ d c. l.cells d c ∙ k.cells d c;
  patches = λ d c. l.patches d c ∙ k.patches d c;
  confirms = λ d c h. l.confirms d c (k.confirms d c h);
  removed = l.removed ∙ k.removed;
}

-- names and intentions are the same
pub alike_by : (a b : Store) → b.names ≡ a.names → b.intents ≡ a.intents → Alike a b
alike_by a b names intents = record {
  own = λ f. ap (λ n. own_place (own_at n f)) names;
  cells = λ d c. ap (λ n. cell_place (cell_at n d c)) names;
  patches = λ d c. ap (λ is. patch_place (intent_at is (intent_key.Patch d c))) intents;
  confirms = λ d c h. ap (λ is. stands is (intent_key.Confirm d c)) intents ∙ h;
  removed = ap (λ n. n.removed) names;
}

module _ (a b : Store) (k : Alike a b) where
  held_on : (f : FileId) → Holds of_places a f → Holds of_places b f
  held_on f h = (h.0, k.own f ∙ h.1)

  held_back : (f : FileId) → Holds of_places b f → Holds of_places a f
  held_back f h = (h.0, sym (k.own f) ∙ h.1)

  pub lists_on : (d c : FileId) (q : Place) → Lists of_places a d c q → Lists of_places b d c q
  lists_on d c q l = record { cell = k.cells d c ∙ l.cell; is_in = l.is_in }

  pub lists_back : (d c : FileId) (q : Place) → Lists of_places b d c q → Lists of_places a d c q
  lists_back d c q l = record { cell = sym (k.cells d c) ∙ l.cell; is_in = l.is_in }

  told_on : (d c : FileId) (t : Stamp) → IsToldAt of_places a d c t → IsToldAt of_places b d c t
  told_on d c t h = (h.0, k.cells d c ∙ h.1, h.2)

  patch_on : (d c : FileId) (t : Stamp) → AtLeast of_places t (of_places.patch a d c) → AtLeast of_places t (of_places.patch b d c)
  patch_on d c t h = (h.0, k.patches d c ∙ h.1, h.2)

  -- a place that is held back is so still
  back_on : (c : FileId) (r : Place) → of_places.IsBack a c r → of_places.IsBack b c r
  back_on c r back = λ own held.
      let was = own_is (own_at a.names c) own.place (sym (k.own c) ∙ ap own_place held) in
      ap (λ rs. waits rs c own.place r) k.removed ∙ sym (ap (λ (x : Place). waits (removed_of a) c x r) was.2) ∙ back was.0 was.1

  none_later_on : (c : FileId) (q : Place) → NoneLater of_places a c q → NoneLater of_places b c q
  none_later_on c q none = λ e r cell low. back_on c r (none e r (sym (k.cells e c) ∙ cell) low)

  -- the server is in the same view
  pub same_view : view_of b ≡ view_of a
  same_view = ap (λ (rs : List ℕ). length rs) k.removed

  pub view_on : (heard : Letter) → heard.view ≡ view_of a → heard.view ≡ view_of b
  view_on heard view = view ∙ sym same_view

  module _ (least : ℕ) (heard : Letter) where
    behind_at : (m : Store) → FirstPart of_places least b m heard → FirstPart of_places least a m heard
    behind_at m x = record {
      views = subst (λ (v : ℕ). v ≤ view_of m) same_view x.views;
      hears = elim x.hears [ inl other ↦ inl other | inr view ↦ inr (view ∙ same_view) ];
      birth = λ f was now. refl;
      past = λ f n h. h;
      own_grows = λ f q r was now. x.own_grows f q r (k.own f ∙ was) now;
      cells_grow = λ d c q was held. x.cells_grow d c q (k.cells d c ∙ was) held;
      taken = λ d c q r none held was in_ now. x.taken d c q r (k.own d ∙ none) held (k.own c ∙ was) in_ now;
      patch_ends = λ d c q was. x.patch_ends d c q (k.patches d c ∙ was);
      let_go = λ f q was none. x.let_go f q (k.own f ∙ was) none;
      confirm_ends = λ d c q asks l none. x.confirm_ends d c q (k.confirms d c asks) l none;
      listed_new = λ d c q l none. elim (x.listed_new d c q l none) [
        | inl was ↦ inl (sym (k.cells d c) ∙ was)
        | inr r ↦ inr r
      ];
      enters = λ low. x.enters (subst (λ (v : ℕ). v < least) (sym same_view) low);
    }

    before_at : (z : Store) → FirstPart of_places least z a heard → FirstPart of_places least z b heard
    before_at z x = record {
      views = subst (λ (v : ℕ). view_of z ≤ v) (sym same_view) x.views;
      hears = x.hears;
      birth = λ f was now. refl;
      past = λ f n h. h;
      own_grows = λ f q r was now. x.own_grows f q r was (sym (k.own f) ∙ now);
      cells_grow = λ d c q was held. told_on d c q.stamp (x.cells_grow d c q was (held_back d held));
      taken = λ d c q r none held was in_ now. elim (x.taken d c q r none (held_back d held) was in_ (sym (k.own c) ∙ now)) [
        | inl cell ↦ inl (cell.0, k.cells d c ∙ cell.1)
        | inr rest ↦ inr (rest.0, none_later_on c q rest.1)
      ];
      patch_ends = λ d c q was. elim (x.patch_ends d c q was) [
        | inl more ↦ inl (patch_on d c q.stamp more)
        | inr rest ↦ elim rest [ inl told ↦ inr (inl (told_on d c q.stamp told)) | inr said ↦ inr (inr said) ]
      ];
      let_go = λ f q was none. x.let_go f q was (sym (k.own f) ∙ none);
      confirm_ends = λ d c q asks l none. elim (x.confirm_ends d c q asks (lists_back d c q l) (sym (k.own c) ∙ none)) [
        | inl still ↦ inl (k.confirms d c still)
        | inr said ↦ inr said
      ];
      listed_new = λ d c q l none. elim (x.listed_new d c q (lists_back d c q l) (sym (k.own c) ∙ none)) [
        | inl was ↦ inl was
        | inr rest ↦ elim rest [ inl asks ↦ inr (inl (k.confirms d c asks)) | inr said ↦ inr (inr said) ]
      ];
      enters = λ low up d c q l none. k.confirms d c (
          x.enters low (subst (λ (v : ℕ). least ≤ v) same_view up) d c q (lists_back d c q l) (sym (k.own c) ∙ none));
    }

  -- what a server does behind such a change
  pub behind_alike : (heard : Letter) (m : Store) → IsPart b m heard → IsPart a m heard
  behind_alike heard m x = λ least. behind_at least heard m (x least)

  -- and before it
  pub before_alike : (heard : Letter) (z : Store) → IsPart z a heard → IsPart z b heard
  before_alike heard z x = λ least. before_at least heard z (x least)

-- nothing but such a change
pub alike_first : (a b : Store) (heard : Letter) → heard.view ≡ view_of a → Alike a b → IsPart a b heard
alike_first a b heard view k = λ least. calm_first of_places least a b heard (record {
  hears = inr view;
  view = same_view a b k;
  own = k.own;
  cells = k.cells;
  births = λ f was now. refl;
  past = λ f n h. h;
  patches = λ d c q h. inl (q, k.patches d c ∙ h, inl refl);
  confirms = λ d c q asks l none. inl (k.confirms d c asks);
})
