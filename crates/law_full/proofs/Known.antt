-- What a peer knows of a place, and which places directories list.
use Rattle.std.proofs.Common.{ℕ, ◌≡◌, Bool, true, false, cond, List, Option, None, Some, refl, sym, ap, subst, ◌∙◌, inl}
use Rattle.std.proofs.lemmas.Bool.{false≢true}
use Rattle.std.proofs.lemmas.Option.{none-some, same_Some}
use Rattle.law_frame.specs.pg_run.pg_base.declared.id.FileId.{FileId}
use Rattle.law_frame.specs.pg_run.pg_base.Id.{is_same_file}
use Rattle.law_frame.specs.pg_run.pg_base.Stamp.{is_before}
use Rattle.law_frame.specs.pg_run.pg_base.Version.{VersionValue}
use Rattle.law_frame.specs.pg_run.pg_edges.declared.key.Key.{Key}
use Rattle.law_frame.specs.pg_run.pg_edges.declared.key.Key.TheVariants as key
use Rattle.law_frame.specs.pg_run.pg_entries.declared.cell.Cell.{Cell}
use Rattle.law_frame.specs.pg_run.pg_entries.declared.cell.Cell.TheVariants as cell
use Rattle.law_frame.specs.pg_run.pg_entries.declared.entry.Entry.{Entry}
use Rattle.law_frame.specs.pg_run.pg_event.declared.event.Event.{Event}
use Rattle.law_frame.specs.pg_run.theory_flood.Server.{Holds}
use Rattle.law_frame.specs.pg_run.pg_names.Names.{cell_at as entry_at, own_or_blank}
use Rattle.law_frame.specs.pg_run.pg_register.declared.flag.Flag.{Flag}
use Rattle.law_frame.specs.pg_run.pg_register.declared.place.Place.{Place}
use Rattle.law_frame.specs.pg_run.pg_register.Flag.{flag_of}
use Rattle.law_frame.specs.pg_run.pg_register.Place.{blank_place, first_stamp, root, root_place}
use Rattle.law_frame.specs.pg_run.pg_replica.Replica.{cell_at as head_at}
use Rattle.law_frame.specs.pg_run.pg_store.declared.store.Store.{Store}
use Rattle.law_frame.specs.pg_run.pg_store.Cells.{cell_at, entry_cell, flag_cell, is_sure, version_cell}
use Rattle.law_frame.specs.pg_run.pg_store.Store.{content_of}
use Rattle.law_frame.specs.pg_run.theory_flood_pieces.UpTo.{IsPlaceUpTo, IsUpTo}
use Rattle.law_frame.specs.pg_run.Known.{CarriedIsKnown, IsPlaceOf, PlacesHaveOwnStamps}
use Rattle.law_frame.specs.pg_run.Laws.{AtEach}
use Rattle.law_frame.specs.pg_run.Run.{run}
use Rattle.law_frame.specs.pg_run.Took.{first_place}
use Rattle.law_full.proofs.Given.{ListsLate}
use Rattle.law_full.proofs.Placed.{first_is}

-- ---- the place that a peer has

flag_no : (p : Place) (X : Type 0) (c : Cell) (o : Option Flag) → flag_cell o ≡ Some c → IsUpTo (cell.Place p) c → X
flag_no p X c None is up = absurd (none-some c is)
flag_no p X c (Some g) is up = absurd (subst (IsUpTo (cell.Place p)) (sym (same_Some (cell.Flag g) c is)) up)

entry_no : (p : Place) (X : Type 0) (c : Cell) (sure : Bool) (o : Option Entry) → entry_cell o sure ≡ Some c → IsUpTo (cell.Place p) c → X
entry_no p X c sure None is up = absurd (none-some c is)
entry_no p X c sure (Some e) is up = absurd (subst (IsUpTo (cell.Place p)) (sym (same_Some (cell.Entry e sure) c is)) up)

version_no : (p : Place) (X : Type 0) (c : Cell) (o : Option VersionValue) → version_cell o ≡ Some c → IsUpTo (cell.Place p) c → X
version_no p X c None is up = absurd (none-some c is)
version_no p X c (Some v) is up = absurd (subst (IsUpTo (cell.Place p)) (sym (same_Some (cell.Version v) c is)) up)

had_by : (b : Store) (f : FileId) (p : Place) (q : Key) (c : Cell) → cell_at b f q ≡ Some c → IsUpTo (cell.Place p) c → IsPlaceUpTo p (own_or_blank b.names f).place
had_by b f p key.Place c is up = subst (IsUpTo (cell.Place p)) (sym (same_Some (cell.Place (own_or_blank b.names f).place) c is)) up
had_by b f p (key.Flag n) c is up = flag_no p _ c (flag_of (own_or_blank b.names f).flags n) is up
had_by b f p (key.Entry g) c is up = entry_no p _ c (is_sure b f g) (entry_at b.names f g) is up
had_by b f p (key.Version stamp) c is up = version_no p _ c (head_at (content_of b f).heads (key.Version stamp)) is up

pub place_had : (b : Store) (f : FileId) (p : Place) → Holds IsUpTo (cell_at b f) (cell.Place p) → IsPlaceUpTo p (own_or_blank b.names f).place
place_had b f p h = had_by b f p h.key h.cell h.is h.upto

-- ---- the places that directories list

-- the first place of what is not the root is dead
first_dead : (child : FileId) → is_same_file child root ≡ false → (first_place child).live ≡ false
first_dead child inner = ap (λ (t : Bool). (cond t root_place (blank_place child)).live) inner

first_stamped : (child : FileId) → is_same_file child root ≡ false → (first_place child).stamp ≡ first_stamp
first_stamped child inner = ap (λ (t : Bool). (cond t root_place (blank_place child)).stamp) inner

module _ (n : ℕ) (known : CarriedIsKnown n) (stamps : PlacesHaveOwnStamps n) (events : List Event) where
  -- no two places have one stamp, so what has the first stamp is the first place
  late_by : (child : FileId) (p : Place) → (p ≡ first_place child → ⊥) → (p.stamp ≡ (first_place child).stamp → p ≡ first_place child)
      → is_same_file child root ≡ false → (t : Bool) → is_before first_stamp p.stamp ≡ t → t ≡ true
  late_by child p other one inner true e = refl
  late_by child p other one inner false e = absurd (other (one (first_is p.stamp e ∙ sym (first_stamped child inner))))

  pub lists_late : AtEach n (λ s. ListsLate ((run n events).stores s))
  lists_late s least most dir child e at live inner =
      let told = ((known events).stores s least most).cells dir child e at in
      let same : e.child ≡ child = told.0 in
      let place = told.1.place_is in
      late_by child e.place
      (λ first. false≢true (sym (first_dead child inner) ∙ ap (λ (p : Place). p.live) (sym first) ∙ live))
      (λ stamp. stamps events child e.place (first_place child)
      (subst (λ (f : FileId). IsPlaceOf (run n events) f e.place) same place) (inl refl) stamp)
      inner (is_before first_stamp e.place.stamp) refl
