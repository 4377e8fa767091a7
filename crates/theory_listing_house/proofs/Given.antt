-- What the house rules give to the listings.
use Rattle.std.proofs.Common.{ℕ, ◌≡◌, true, Option, None, Some, refl, sym, ap, ◌∙◌, subst, inl, inr}
use Rattle.std.proofs.lemmas.Bool.{false≢true}
use Rattle.std.proofs.lemmas.Option.{same_Some}
use Rattle.pg_base.specs.declared.id.FileId.{FileId}
use Rattle.pg_base.specs.Stamp.{is_before}
use Rattle.pg_register.specs.declared.place.Place.{Place}
use Rattle.pg_names.specs.declared.attributes.Attributes.{Attributes}
use Rattle.pg_names.specs.Names.{NamesValue, cell_at, is_dir, own_at}
use Rattle.pg_house.specs.Work.{State}
use Rattle.pg_house.specs.House.{house}
use Rattle.pg_house.specs.Facts.{IsLeft}
use Rattle.pg_house.proofs.Truths.{before_itself}
use Rattle.pg_house.proofs.Replaced.{noted}
use Rattle.pg_house.proofs.Greatest as great
use Rattle.pg_house.proofs.Ends as ends
use Rattle.theory_listing.specs.Protocol.{AtMost, IsUpTo}
use Rattle.theory_listing.specs.Parts.{NoneLater}
use Rattle.theory_listing_house.specs.Listing.{cell_place, listing, own_place}
use Rattle.theory_listing_house.specs.Laws.{CellsGrow, ClimbsComeOut, NothingBegins, OwnPlacesGrow, ParentsAtStart, ReplacedAreNoted, SettledBehind, UnheldStay}
use Rattle.theory_listing_house.proofs.Seen.{apart, at_most, cell_is, own_is, own_none}
use Rattle.theory_listing_house.proofs.Settled.{settled}
use Rattle.theory_listing_house.proofs.Leaving.{start_parent}
use Rattle.theory_listing_house.proofs.Later.{rules_grow}
use Rattle.theory_listing_house.proofs.Climbs.{rules_come_out}
use Rattle.theory_listing_house.proofs.Unheld.{rules_unheld, was_none}

pub settled_behind : SettledBehind
settled_behind moment st of_dirs sorted = settled (house moment st).names (ends.passing moment st of_dirs sorted) (ends.own_parent moment st of_dirs sorted)

pub parents_at_start : ParentsAtStart
parents_at_start moment st of_dirs sorted d c q h in_ there back =
    let x = own_is (own_at st.names c) q h in
    let b = own_is (own_at st.names d) there.0 there.1 in
    let up : x.0.place.parent ≡ d = ap (λ (z : Place). z.parent) x.2 ∙ in_.parent in
    let live : x.0.place.live ≡ true = ap (λ (z : Place). z.live) x.2 ∙ in_.live.0 in
    let dir : is_dir d ≡ true = ap is_dir (sym in_.parent) ∙ in_.live.1 in
    let has = start_parent moment st of_dirs sorted c d x.0 (apart c in_.inner) x.1 live up dir (b.0, b.1)
    (λ e r cell later. back e r.place (ap cell_place cell) (subst (λ (z : Place). is_before z.stamp r.place.stamp ≡ true) x.2 later) x.0 x.1) in
    let cell = great.cell_is (cell_at (house moment st).names d c) has in
    (cell.0.place, ap cell_place cell.1)

pub cells_grow : CellsGrow
cells_grow moment st of_dirs sorted last d c q h =
    let x = cell_is (cell_at st.names d c) q h in
    let e = (rules_grow moment st of_dirs sorted last).cells d c x.0 x.1 in
    (e.0.place, ap cell_place e.1, subst (λ (z : Place). AtMost listing z.stamp e.0.place.stamp) x.2 (at_most x.0.place.stamp e.0.place.stamp e.2))

pub own_places_grow : OwnPlacesGrow
own_places_grow moment st of_dirs sorted last f q h =
    let x = own_is (own_at st.names f) q h in
    let e = (rules_grow moment st of_dirs sorted last).own f x.0 x.1 in
    (e.0.place, ap own_place e.1, subst (λ (z : Place). IsUpTo listing z e.0.place) x.2 e.2)

pub nothing_begins : NothingBegins
nothing_begins moment st f h =
    let none = own_none (own_at st.names f) h in
    ap own_place (rules_unheld st.names f moment st (record { none = none; cells = λ d. refl })).none

pub unheld_stay : UnheldStay
unheld_stay moment st f h =
    let none = was_none moment st f (own_none (own_at (house moment st).names f) h) in
    let end = rules_unheld st.names f moment st (record { none = none; cells = λ d. refl }) in
    (ap own_place none, λ d. ap cell_place (end.cells d))

pub climbs_come_out : ClimbsComeOut
climbs_come_out moment st of_dirs sorted last f = rules_come_out moment st of_dirs sorted last f

pub replaced_are_noted : ReplacedAreNoted
replaced_are_noted moment st d c q r h in_ now later =
    let x = own_is (own_at st.names c) q h in
    let y = own_is (own_at (house moment st).names c) r now in
    let k = (noted moment st).all c x.0 x.1 in
    let live : x.0.place.live ≡ true = ap (λ (z : Place). z.live) x.2 ∙ in_.live.0 in
    let up : x.0.place.parent ≡ d = ap (λ (z : Place). z.parent) x.2 ∙ in_.parent in
    elim (k.2 (apart c in_.inner) live) [
      | inl same ↦
          let one : k.0 ≡ y.0 = same_Some k.0 y.0 (sym k.1 ∙ y.1) in
          let e : r ≡ q = sym y.2 ∙ ap (λ (z : Attributes). z.place) (sym one) ∙ same ∙ x.2 in
          absurd (false≢true (sym (before_itself q.stamp) ∙ subst (λ (z : Place). is_before q.stamp z.stamp ≡ true) e later))
      | inr left ↦ subst (λ (p : FileId). IsLeft (house moment st).work p c) up left
    ]
