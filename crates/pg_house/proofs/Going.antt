-- What one state notes since another, and that the places that it knows were known or made.
use Rattle.std.proofs.Common.{◌≡◌, true, Some, refl, ap, ◌∙◌, subst, inl, inr, ◌⊎◌}
use Rattle.pg_base.specs.declared.id.FileId.{FileId}
use Rattle.pg_register.specs.declared.place.Place.{Place}
use Rattle.pg_entries.specs.declared.entry.Entry.{Entry}
use Rattle.pg_msg.specs.declared.update.Update.{Update}
use Rattle.pg_msg.specs.declared.work.Slot.{Slot}
use Rattle.pg_msg.specs.declared.work.Touched.{Touched}
use Rattle.pg_names.specs.declared.attributes.Attributes.{Attributes}
use Rattle.pg_names.specs.Names.{NamesValue, cell_at, own_at}
use Rattle.pg_house.specs.Work.{State}
use Rattle.pg_house.specs.Facts.{IsIn, IsKeptOrLeft, IsKnownPlace, IsLeft, IsNoted, IsOneOf, IsReplaced}
use Rattle.pg_house.proofs.Noting.{IsMoved}

-- each cell of a directory is one for its child
abbrev pub HaveChildren : NamesValue → Type 0
HaveChildren names = (d q : FileId) (c : Entry) → cell_at names d q ≡ Some c → c.child ≡ q

-- what one state notes since another, and what places it knows
pub record Goes (s t : State) : Type 0 where
  pub noted : IsNoted s t
  pub told : (x : Touched) → IsIn x s.work.touched → IsIn x t.work.touched
  pub made : (x : Update) → IsOneOf x s.work.made → IsOneOf x t.work.made
  pub own : (q : FileId) (a : Attributes) → own_at t.names q ≡ Some a → IsKnownPlace s.names t.work.made q a.place
  pub cells : (d q : FileId) (c : Entry) → cell_at t.names d q ≡ Some c → IsKnownPlace s.names t.work.made q c.place
  pub child : HaveChildren s.names → HaveChildren t.names

pub Goes-refl : (s : State) → Goes s s
Goes-refl s = record {
  noted = record { all = λ q a h. (a, h, λ other live. inl refl); only = λ x h. inl h; stays = λ x h. h };
  told = λ x h. h;
  made = λ x h. h;
  own = λ q a h. inl (a, h, refl);
  cells = λ d q c h. inr (inl (d, c, h, refl));
  child = λ h. h;
}

module _ (s t u : State) (a : Goes s t) (b : Goes t u) where
  -- what t knows of, s knows, or it was made
  known_made : (q : FileId) (p : Place) → IsKnownPlace s.names t.work.made q p → IsKnownPlace s.names u.work.made q p
  known_made q p (inl own) = inl own
  known_made q p (inr (inl cell)) = inr (inl cell)
  known_made q p (inr (inr new)) = inr (inr (b.made _ new))

  known_later : (q : FileId) (p : Place) → IsKnownPlace t.names u.work.made q p → IsKnownPlace s.names u.work.made q p
  known_later q p (inl own) = known_made q p (subst (IsKnownPlace s.names t.work.made q) own.2 (a.own q own.0 own.1))
  known_later q p (inr (inl cell)) = known_made q p (subst (IsKnownPlace s.names t.work.made q) cell.3 (a.cells cell.0 q cell.1 cell.2))
  known_later q p (inr (inr new)) = inr (inr new)

  place_later : (q : FileId) (one two three : Place) → two.live ≡ true → (two ≡ one) → ((two.live ≡ true) → (three ≡ two) ⊎ IsLeft u.work two.parent q) → (three ≡ one) ⊎ IsLeft u.work one.parent q
  place_later q one two three live same rest =
      elim (rest live) [
        | inl still ↦ inl (still ∙ same)
        | inr left ↦ inr (subst (λ (p : Place). IsLeft u.work p.parent q) same left)
      ]

  all_later : (q : FileId) (own : Attributes) → own_at s.names q ≡ Some own → IsKeptOrLeft u q own
  all_later q own h =
      let x = a.noted.all q own h in
      let y = b.noted.all q x.0 x.1 in (
        y.0,
        y.1,
        λ other live.
            elim (x.2 other live) [
              | inl same ↦ place_later q own.place x.0.place y.0.place (ap (λ (p : Place). p.live) same ∙ live) same (y.2 other)
              | inr left ↦ inr (b.noted.stays _ left)
            ],
      )

  replaced_first : (x : Slot) → IsReplaced s t x → IsReplaced s u x
  replaced_first x r =
      let y = b.noted.all x.child r.held.0 r.held.1 in
      record { place = r.place; known = known_made x.child r.place r.known; live = r.live; parent = r.parent; other = r.other; held = (y.0, y.1); touched = b.told _ r.touched }

  replaced_later : (x : Slot) → IsReplaced t u x → IsReplaced s u x
  replaced_later x r = record { place = r.place; known = known_later x.child r.place r.known; live = r.live; parent = r.parent; other = r.other; held = r.held; touched = r.touched }

  only_later : (x : Slot) → IsOneOf x u.work.left → IsOneOf x s.work.left ⊎ IsReplaced s u x
  only_later x h =
      elim (b.noted.only x h) [
        | inl mid ↦ elim (a.noted.only x mid) [
          | inl old ↦ inl old
          | inr new ↦ inr (replaced_first x new)
        ]
        | inr new ↦ inr (replaced_later x new)
      ]

  pub Goes-trans : Goes s u
  Goes-trans = record {
    noted = record { all = all_later; only = only_later; stays = λ x h. b.noted.stays x (a.noted.stays x h) };
    told = λ x h. b.told x (a.told x h);
    made = λ x h. b.made x (a.made x h);
    own = λ q o h. known_later q o.place (b.own q o h);
    cells = λ d q c h. known_later q c.place (b.cells d q c h);
    child = λ h. b.child (a.child h);
  }

-- a place that the thing had is known
pub moved_replaced : (s t : State) (x : Slot) → IsMoved s t x → IsReplaced s t x
moved_replaced s t x m = record { place = m.own.place; known = inl (m.own, m.was, refl); live = m.live; parent = m.parent; other = m.other; held = m.held; touched = m.touched }
