-- Behind the house rules a server is settled.
use Rattle.std.proofs.Common.{ℕ, ◌≡◌, ◌≢◌, ◌⊎◌, true, false, not, List, Some, sym, ap, ◌∙◌, subst, inl, inr}
use Rattle.std.proofs.lemmas.Bool.{false≢true, and_parts, not-true}
use Rattle.std.proofs.lemmas.Option.{none-some}
use Rattle.pg_base.specs.declared.id.FileId.{FileId}
use Rattle.pg_base.specs.Stamp.{is_before}
use Rattle.pg_register.specs.declared.place.Place.{Place}
use Rattle.pg_register.specs.Place.{root}
use Rattle.pg_entries.specs.declared.entry.Entry.{Entry}
use Rattle.pg_names.specs.declared.attributes.Attributes.{Attributes}
use Rattle.pg_names.specs.Names.{NamesValue, cell_at, directories, is_dir, own_at}
use Rattle.pg_house.specs.Holding.{waits}
use Rattle.pg_house.specs.Passing.{greatest, is_cell}
use Rattle.pg_house.specs.Facts.{OwnParent, Passing}
use Rattle.pg_house.proofs.Greatest.{cell_held}
use Rattle.pg_house.proofs.Greatest as great
use Rattle.theory_listing.specs.Protocol.{IsIn}
use Rattle.theory_listing.specs.Rule.{HasCell, Holds, IsSettled}
use Rattle.theory_listing_house.specs.Listing.{cell_place, listing, own_place}
use Rattle.theory_listing_house.proofs.Seen.{apart, cell_is, own_is}

-- a place that waits is dead, and later than the own one
pub dead_later : (removed : List ℕ) (f : FileId) (own top : Place) → waits removed f own top ≡ true → (top.live ≡ false) × (is_before own.stamp top.stamp ≡ true)
dead_later removed f own top h =
    let a = and_parts (is_dir f) _ h in
    let b = and_parts (not top.live) _ a.1 in
    (not-true top.live b.0, (and_parts (is_before own.stamp top.stamp) _ b.1).0)

module _ (s : NamesValue) (passing : Passing s) (parents : OwnParent s) where
  cells : (d c : FileId) (q : Place) → cell_place (cell_at s d c) ≡ Some q → Holds listing s d
  cells d c q h =
      let x = cell_is (cell_at s d c) q h in
      let b = cell_held s d c x.0 x.1 in
      (b.0.place, ap own_place b.1)

  -- the second place is not live, and later than the first
  abbrev IsDeadLater : Place → Place → Type 0
  IsDeadLater q r = ((r.live ≡ true) × (is_dir r.parent ≡ true) → ⊥) × (is_before q.stamp r.stamp ≡ true)

  passed : (d c : FileId) (q r : Place) → c ≢ root → own_place (own_at s c) ≡ Some q → cell_place (cell_at s d c) ≡ Some r → (q ≡ r) ⊎ IsDeadLater q r
  passed d c q r inner h i =
      let x = own_is (own_at s c) q h in
      let y = cell_is (cell_at s d c) r i in
      let k = passing c x.0 x.1 (apart c inner) in
      let top = greatest s c x.0 (directories s) in
      let e : top.place ≡ r = ap (λ (z : Entry). z.place) (sym (k.cells d y.0 y.1)) ∙ y.2 in
      elim k.place [
        | inl same ↦ inl (sym x.2 ∙ ap (λ (z : Attributes). z.place) same ∙ e)
        | inr back ↦
            let t = dead_later s.removed c x.0.place top.place back in
            inr (subst (λ u. IsDeadLater u r) x.2 (subst (IsDeadLater x.0.place) e (λ l. false≢true (sym t.0 ∙ l.0), t.1)))
      ]

  own_parent : (d c : FileId) (q : Place) → own_place (own_at s c) ≡ Some q → IsIn listing d c q → Holds listing s d → HasCell listing s d c
  own_parent d c q h in_ held =
      let x = own_is (own_at s c) q h in
      let up : x.0.place.parent ≡ d = ap (λ (z : Place). z.parent) x.2 ∙ in_.parent in
      let b = own_is (own_at s d) held.0 held.1 in
      let live : x.0.place.live ≡ true = ap (λ (z : Place). z.live) x.2 ∙ in_.live.0 in
      let dir : is_dir x.0.place.parent ≡ true = ap (λ (z : Place). is_dir z.parent) x.2 ∙ in_.live.1 in
      let has = parents c x.0 x.1 (apart c in_.inner) b.0 live (ap (own_at s) up ∙ b.1) dir in
      let cell = great.cell_is (cell_at s d c) (subst (λ z. is_cell (cell_at s z c) ≡ true) up has) in
      (cell.0.place, ap cell_place cell.1)

  pub settled : IsSettled listing s
  settled = record {
    cells = cells;
    passing = passed;
    own_parent = own_parent;
    patch_of = λ d c q h i. absurd (none-some q h);
    not_past = λ f n h e past. past;
  }
