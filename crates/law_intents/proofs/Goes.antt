-- From one moment of an event to a later one: what is held stays, places go to later ones, and of
-- live ones that is noted.
use Rattle.std.proofs.Common.{ℕ, ◌≡◌, ◌⊎◌, Bool, true, false, cond, List, Option, None, Some, is_some, inl, inr, refl, sym, ap, subst, ◌∙◌}
use Rattle.std.proofs.lemmas.Option.{none-some, same_Some}
use Rattle.law_frame.specs.pg_run.pg_base.declared.id.FileId.{FileId}
use Rattle.law_frame.specs.pg_run.pg_base.Id.{is_same_file}
use Rattle.law_frame.specs.pg_run.pg_base.Stamp.{is_before}
use Rattle.law_frame.proofs.pg_run.pg_base.Orders.{is_same_file-true}
use Rattle.law_frame.specs.pg_run.pg_register.declared.place.Place.{Place}
use Rattle.law_frame.specs.pg_run.pg_entries.declared.entry.Entry.{Entry}
use Rattle.law_frame.specs.pg_run.pg_intent.declared.intent.Intent.{Intent}
use Rattle.law_frame.specs.pg_run.pg_intent.declared.intent.Intent.TheVariants as intent
use Rattle.law_frame.specs.pg_run.pg_intent.declared.key.IntentKey.TheVariants as intent_key
use Rattle.law_frame.specs.pg_run.pg_intent.Intents.{intent_at}
use Rattle.law_frame.specs.pg_run.pg_msg.declared.work.Slot.{Slot}
use Rattle.law_frame.specs.pg_run.pg_msg.declared.work.Work.{Work}
use Rattle.law_frame.specs.pg_run.pg_names.declared.attributes.Attributes.{Attributes}
use Rattle.law_frame.specs.pg_run.pg_names.Names.{InodeValue, NamesValue, is_held, join_place, known, own_at, own_of, raise, update, with_last, with_place}
use Rattle.law_frame.proofs.pg_run.pg_names.Lookups.{known_absent, known_other, known_same, own_with_place, place_other, place_same, update_frame}
use Rattle.law_frame.specs.pg_run.pg_house.Facts.{IsHeld, IsOneOf}
use Rattle.law_frame.specs.pg_run.pg_house.Work.{is_root, note_left}
use Rattle.law_frame.proofs.pg_run.pg_house.Noting.{noted_live, noted_only, noted_stays}
use Rattle.theory_listing_house.proofs.Seen.{before_trans}

-- ---- what is told of a child

-- the entry of a Patch
abbrev pub told_of : Option Intent → Option Entry
told_of (Some (intent.Patch dir entry target)) = Some entry
told_of _ = None

abbrev pub told_at : List Intent → FileId → FileId → Option Entry
told_at is dir child = told_of (intent_at is (intent_key.Patch dir child))

-- ---- places

abbrev pub IsLeftIn : List Slot → FileId → FileId → Type 0
IsLeftIn left dir child = IsOneOf {A = Slot} (record { dir = dir; child = child }) left

-- a later place, and where the one before was live it is noted that it was replaced
abbrev pub GoesTo : List Slot → FileId → Place → Place → Type 0
GoesTo left file old new =
    (new ≡ old) ⊎ ((is_before old.stamp new.stamp ≡ true) × (is_root file ≡ false → old.live ≡ true → IsLeftIn left old.parent file))

-- a place that was told to a directory, and the one that the child has: a later one, and where the
-- told one is live in the directory it is noted that it was replaced
abbrev pub IsToldOf : List Slot → FileId → FileId → Place → Place → Type 0
IsToldOf left dir child told own =
    (own ≡ told) ⊎ ((is_before told.stamp own.stamp ≡ true) × (told.live ≡ true → told.parent ≡ dir → IsLeftIn left dir child))

pub told_goes : (l k : List Slot) (dir child : FileId) (told p q : Place) → is_root child ≡ false → ((x : Slot) → IsOneOf x l → IsOneOf x k)
    → IsToldOf l dir child told p → GoesTo k child p q → IsToldOf k dir child told q
told_goes l k dir child told p q inner stays (inl same) (inl kept) = inl (kept ∙ same)
told_goes l k dir child told p q inner stays (inl same) (inr later) =
    inr (
      subst (λ (x : Place). is_before x.stamp q.stamp ≡ true) same later.0,
      λ live parent. (let here : IsLeftIn k p.parent child = later.1 inner (ap (λ (x : Place). x.live) same ∙ live) in
          subst (λ (d : FileId). IsLeftIn k d child) (ap (λ (x : Place). x.parent) same ∙ parent) here),
    )
told_goes l k dir child told p q inner stays (inr before) (inl kept) =
    inr (subst (λ (x : Place). is_before told.stamp x.stamp ≡ true) (sym kept) before.0, λ live parent. stays _ (before.1 live parent))
told_goes l k dir child told p q inner stays (inr before) (inr later) =
    inr (before_trans told.stamp p.stamp q.stamp before.0 later.0, λ live parent. stays _ (before.1 live parent))

-- ---- Patches

-- a directory that is not held is to be told of a held child
pub record IsPatchSoFar (m : NamesValue) (left : List Slot) (dir child : FileId) (entry : Entry) : Type 0 where
  pub away : is_held m dir ≡ false
  pub inner : is_root child ≡ false
  pub own : Attributes
  pub held : own_at m child ≡ Some own
  pub of : entry.child ≡ child
  pub place : IsToldOf left dir child entry.place own.place

abbrev pub ArePatchesSoFar : NamesValue → List Slot → List Intent → Type 0
ArePatchesSoFar m left is = (dir child : FileId) (e : Entry) → told_at is dir child ≡ Some e → IsPatchSoFar m left dir child e

-- what was noted: a held thing that is not the root
abbrev pub IsSlot : NamesValue → Slot → Type 0
IsSlot m x = (is_root x.child ≡ false) × IsHeld m x.child

-- ---- from one moment to a later one

pub record GoesOn (m : NamesValue) (l : List Slot) (b : NamesValue) (k : List Slot) : Type 0 where
  pub server : b.server ≡ m.server
  pub removed : b.removed ≡ m.removed
  pub held : (f : FileId) → is_held b f ≡ is_held m f
  pub own : (f : FileId) (o : Attributes) → own_at m f ≡ Some o → (x : Attributes) × (own_at b f ≡ Some x) × GoesTo k f o.place x.place
  pub stays : (x : Slot) → IsOneOf x l → IsOneOf x k
  pub slots : (x : Slot) → IsOneOf x k → IsOneOf x l ⊎ IsSlot m x

pub slot_goes : (m : NamesValue) (l : List Slot) (b : NamesValue) (k : List Slot) → GoesOn m l b k → (x : Slot) → IsSlot m x → IsSlot b x
slot_goes m l b k g x h = let own = g.own x.child h.1.0 h.1.1 in (h.0, (own.0, own.1))

pub patch_goes : (m : NamesValue) (l : List Slot) (b : NamesValue) (k : List Slot) → GoesOn m l b k
    → (dir child : FileId) (e : Entry) → IsPatchSoFar m l dir child e → IsPatchSoFar b k dir child e
patch_goes m l b k g dir child e h =
    let own = g.own child h.own h.held in
    record {
      away = g.held dir ∙ h.away;
      inner = h.inner;
      own = own.0;
      held = own.1;
      of = h.of;
      place = told_goes l k dir child e.place h.own.place own.0.place h.inner g.stays h.place own.2;
    }

-- ---- the same names

pub goes_same : (m : NamesValue) (l : List Slot) (b : NamesValue) (k : List Slot) → b ≡ m → k ≡ l → GoesOn m l b k
goes_same m l b k names left = record {
  server = ap (λ (x : NamesValue). x.server) names;
  removed = ap (λ (x : NamesValue). x.removed) names;
  held = λ f. ap (λ (x : NamesValue). is_held x f) names;
  own = λ f o h. (o, ap (λ (x : NamesValue). own_at x f) names ∙ h, inl refl);
  stays = λ x h. subst (λ (ss : List Slot). IsOneOf x ss) (sym left) h;
  slots = λ x h. inl (subst (λ (ss : List Slot). IsOneOf x ss) left h);
}

-- a stamp was taken
pub goes_raised : (m : NamesValue) (l : List Slot) (b : NamesValue) (k : List Slot) (last : ℕ) → GoesOn m l b k → GoesOn m l (with_last b last) k
goes_raised m l b k last g = record { server = g.server; removed = g.removed; held = g.held; own = g.own; stays = g.stays; slots = g.slots }

-- ---- what is held of one thing changes

module _ (m : NamesValue) (f : FileId) (change : InodeValue → InodeValue) where
  held_by : (o : Option InodeValue) → known m f ≡ o → is_held (update m f change) f ≡ is_held m f
  held_by None h = ap (λ (s : NamesValue). is_held s f) (known_absent m f change (ap own_of h))
  held_by (Some x) h = ap (λ (o : Option InodeValue). is_some o) (known_same m f change x h) ∙ sym (ap (λ (o : Option InodeValue). is_some o) h)

  held_of : (q : FileId) (t : Bool) → is_same_file f q ≡ t → is_held (update m f change) q ≡ is_held m q
  held_of q true same = subst (λ (g : FileId). is_held (update m f change) g ≡ is_held m g) (is_same_file-true f q same) (held_by (known m f) refl)
  held_of q false apart = ap (λ (o : Option InodeValue). is_some o) (known_other m f change q apart)

  pub update_held : (q : FileId) → is_held (update m f change) q ≡ is_held m q
  update_held q = held_of q (is_same_file f q) refl

  module _ (keeps : (x : InodeValue) → (change x).own.place ≡ x.own.place) (l : List Slot) where
    own_by : (y : Option InodeValue) (o : Attributes) → known m f ≡ y → own_of y ≡ Some o → (z : Attributes) × (own_at (update m f change) f ≡ Some z) × GoesTo l f o.place z.place
    own_by None o h e = absurd (none-some o e)
    own_by (Some x) o h e =
        ((change x).own, ap own_of (known_same m f change x h), inl (keeps x ∙ ap (λ (z : Attributes). z.place) (same_Some x.own o e)))

    own_goes : (q : FileId) (o : Attributes) → own_at m q ≡ Some o → (t : Bool) → is_same_file f q ≡ t
        → (z : Attributes) × (own_at (update m f change) q ≡ Some z) × GoesTo l q o.place z.place
    own_goes q o h true same =
        let P : FileId → Type 0 = λ g. own_at m g ≡ Some o → (z : Attributes) × (own_at (update m f change) g ≡ Some z) × GoesTo l g o.place z.place in
        subst P (is_same_file-true f q same) (λ e. own_by (known m f) o refl e) h
    own_goes q o h false apart = (o, ap own_of (known_other m f change q apart) ∙ h, inl refl)

    -- and its place does not
    pub goes_update : GoesOn m l (update m f change) l
    goes_update =
        let frame = update_frame m f change in
        record {
          server = frame.server;
          removed = frame.removed;
          held = update_held;
          own = λ q o h. own_goes q o h (is_same_file f q) refl;
          stays = λ x h. h;
          slots = λ x h. inl h;
        }

-- ---- a thing takes a later place

module _ (m : NamesValue) (work : Work) (f : FileId) (place : Place) (o : Attributes) (there : own_at m f ≡ Some o) (new : is_before o.place.stamp place.stamp ≡ true) where
  abbrev Then : NamesValue
  Then = raise (join_place m f place) place.stamp.time

  abbrev Left : List Slot
  Left = (note_left work f o.place).left

  own_here : (x : Attributes) → own_at m f ≡ Some x → (z : Attributes) × (own_at Then f ≡ Some z) × GoesTo Left f x.place z.place
  own_here x h =
      let same : o ≡ x = same_Some o x (sym there ∙ h) in
      let taken : cond (is_before o.place.stamp place.stamp) place o.place ≡ place = ap (λ (t : Bool). cond t place o.place) new in
      let later : is_before o.place.stamp (cond (is_before o.place.stamp place.stamp) place o.place).stamp ≡ true =
      ap (λ (p : Place). is_before o.place.stamp p.stamp) taken ∙ new in
      let goes : GoesTo Left f o.place (cond (is_before o.place.stamp place.stamp) place o.place) = inr (later, λ inner live. noted_live work f o.place inner live) in
      (own_with_place place o, place_same m f place o there, subst (λ (y : Attributes). GoesTo Left f y.place (cond (is_before o.place.stamp place.stamp) place o.place)) same goes)

  own_taken : (q : FileId) (x : Attributes) → own_at m q ≡ Some x → (t : Bool) → is_same_file f q ≡ t
      → (z : Attributes) × (own_at Then q ≡ Some z) × GoesTo Left q x.place z.place
  own_taken q x h true same =
      let P : FileId → Type 0 = λ g. own_at m g ≡ Some x → (z : Attributes) × (own_at Then g ≡ Some z) × GoesTo Left g x.place z.place in
      subst P (is_same_file-true f q same) (own_here x) h
  own_taken q x h false apart = (x, place_other m f place q apart ∙ h, inl refl)

  pub goes_place : GoesOn m work.left Then Left
  goes_place =
      let change = update_frame m f (with_place place) in
      record {
        server = change.server;
        removed = change.removed;
        held = λ q. update_held m f (with_place place) q;
        own = λ q x h. own_taken q x h (is_same_file f q) refl;
        stays = λ x h. noted_stays work f o.place x h;
        slots = λ x h. slots_by x (noted_only work f o.place x h);
      }
    where
      slots_by : (x : Slot) → IsOneOf x work.left ⊎ ((record { dir = o.place.parent; child = f } ≡ x) × (o.place.live ≡ true) × (is_root f ≡ false)) → IsOneOf x work.left ⊎ IsSlot m x
      slots_by x (inl old) = inl old
      slots_by x (inr this) =
          let child : f ≡ x.child = ap (λ (s : Slot). s.child) this.0 in
          inr (subst (λ (g : FileId). is_root g ≡ false) child this.2, (o, subst (λ (g : FileId). own_at m g ≡ Some o) child there))
