-- Where a run is quiet, no place is held back, and each thing has the place that its parent has of
-- it.
use Rattle.std.proofs.Common.{ℕ, ◌≡◌, ◌&&◌, not, Bool, true, false, List, [], Option, Some, refl, sym, ap, subst, ◌∙◌, inl, inr}
use Rattle.std.specs.Map.{keys_of}
use Rattle.std.proofs.lemmas.Bool.{false≢true, and_from, and_left, not_from_false}
use Rattle.pg_run.specs.pg_base.declared.id.FileId.{FileId}
use Rattle.pg_run.specs.pg_base.Id.{is_same_file}
use Rattle.pg_run.specs.pg_base.Stamp.{is_before}
use Rattle.pg_run.proofs.pg_base.Orders.{is_same_file-refl, is_same_file-true}
use Rattle.pg_run.specs.pg_entries.declared.entry.Entry.{Entry}
use Rattle.pg_run.specs.pg_entries.Entry.{is_listed}
use Rattle.pg_run.specs.pg_names.declared.attributes.Attributes.{Attributes}
use Rattle.pg_run.specs.pg_names.Names.{NamesValue, cell_at, directories, is_dir, or_blank, own_at}
use Rattle.pg_run.specs.pg_register.declared.place.Place.{Place}
use Rattle.pg_run.specs.pg_register.Place.{first_stamp, root}
use Rattle.pg_run.specs.pg_house.Facts.{IsHeld, is_among}
use Rattle.pg_run.specs.pg_house.Holding.{held_back, is_back, is_dir_back}
use Rattle.pg_run.specs.pg_house.Passing.{cell_for, greatest, is_held_back}
use Rattle.pg_run.specs.pg_house.Returning.{is_dead, is_root}
use Rattle.pg_run.proofs.pg_house.Counting.{among_kept}
use Rattle.pg_run.proofs.pg_house.Ends.{key_of_held}
use Rattle.pg_run.proofs.pg_house.Greatest.{cell_is}
use Rattle.pg_run.specs.pg_store.declared.store.Store.{Store}
use Rattle.pg_run.specs.pg_store.Seen.{server_of}
use Rattle.pg_run.specs.pg_server.Owing.{held_at, owed}
use Rattle.pg_run.specs.Run.{World, is_live}
use Rattle.pg_run.proofs.QuietAnswers.{map_empty}
use Rattle.law_quiet.proofs.Across.{nothing_back}
use Rattle.law_quiet.proofs.Facts as facts
use Rattle.law_quiet.proofs.Facts.{Facts, all_full}

-- ---- nothing is held back

none_owed_back : (a : Store) → owed a ≡ [] → held_back a.names ≡ []
none_owed_back a h = map_empty (held_at (server_of a)) (held_back a.names) (nothing_back a h)

by_dir : (s : NamesValue) (f : FileId) (own : Attributes) (d t : Bool) → is_dir f ≡ d → is_dir_back s f ≡ t → held_back s ≡ [] → own_at s f ≡ Some own → is_same_file f root ≡ false → is_held_back s.removed f own (greatest s f own (directories s)) ≡ false
by_dir s f own false t file e none held apart = and_left (is_dir f) _ file
by_dir s f own true false dir e none held apart =
    ap (is_back s (directories s) f) (sym held) ∙ ap (λ b. not b && is_back s (directories s) f (own_at s f)) (sym apart) ∙ e
by_dir s f own true true dir e none held apart =
    let there = among_kept (is_dir_back s) (directories s) f (among_kept is_dir (keys_of s.held) f (key_of_held s f own held) dir) e in
    absurd (false≢true (ap (is_among f) (sym none) ∙ there))

-- a directory that is not dead, and has a place, is live
live_by : (d : FileId) (place : Place) (t : Bool) → place.live ≡ t → is_same_file d root ≡ false → is_before first_stamp place.stamp ≡ true
    → is_dead d place ≡ false → t ≡ true
live_by d place true e apart some alive = refl
live_by d place false e apart some alive =
    absurd (false≢true (sym alive ∙ and_from (not (is_root d)) _ (not_from_false (is_root d) apart) (and_from (not place.live) _ (not_from_false place.live e) some)))

module _ (n : ℕ) (w : World) (k : Facts n w) (s : ℕ) (there : is_live n w s ≡ true) where
  abbrev Names : NamesValue
  Names = (w.stores s).names

  abbrev Dirs : List FileId
  Dirs = directories Names

  none_back : held_back Names ≡ []
  none_back = none_owed_back (w.stores s) (k.quiet.nothing s there)

  -- each thing has the greatest place that is known of it
  pub is_greatest : (f : FileId) (own : Attributes) → own_at Names f ≡ Some own → is_same_file f root ≡ false → own ≡ greatest Names f own Dirs
  is_greatest f own held apart = elim ((k.order s there).passing f own held apart).place [
    | inl same ↦ same
    | inr back ↦ absurd (false≢true (sym (by_dir Names f own (is_dir f) (is_dir_back Names f) refl refl none_back held apart) ∙ back))
  ]

  -- and so has each cell for it
  pub cell_of_own : (d f : FileId) (c : Entry) (own : Attributes) → cell_at Names d f ≡ Some c → own_at Names f ≡ Some own → is_same_file f root ≡ false → c ≡ cell_for f own
  cell_of_own d f c own at held apart =
      ((k.order s there).passing f own held apart).cells d c at ∙ ap (cell_for f) (sym (is_greatest f own held apart))

  -- a directory that lists a child is live
  not_dead_by : (d : FileId) (own : Attributes) (f : FileId) (c : Entry) (t : Bool) → own_at Names d ≡ Some own → is_dir d ≡ true
      → cell_at Names d f ≡ Some c → is_listed d c ≡ true → is_dead d own.place ≡ t → t ≡ false
  not_dead_by d own f c false held dir at listed e = refl
  not_dead_by d own f c true held dir at listed e =
      absurd (false≢true (sym ((k.order s there).returned d own held dir e f c at) ∙ listed))

  lists_by : (d : FileId) (own : Attributes) (f : FileId) (c : Entry) (t : Bool) → is_same_file d root ≡ t → own_at Names d ≡ Some own → is_dir d ≡ true
      → cell_at Names d f ≡ Some c → is_listed d c ≡ true → own.place.live ≡ true
  lists_by d own f c true e held dir at listed =
      let P : FileId → Type 0 = λ x. own_at Names x ≡ Some own in
      ap (λ (p : Place). p.live) ((k.named s there).first own (subst P (is_same_file-true d root e) held))
  lists_by d own f c false apart held dir at listed =
      live_by d own.place own.place.live refl apart
      (ap (λ (o : Option Attributes). is_before first_stamp (or_blank d o).place.stamp) (sym held) ∙ k.placed s there d (all_full n w k s there d own held) apart)
      (not_dead_by d own f c (is_dead d own.place) held dir at listed refl)

  pub lists_live : (d : FileId) (own : Attributes) (f : FileId) (c : Entry) → own_at Names d ≡ Some own → is_dir d ≡ true
      → cell_at Names d f ≡ Some c → is_listed d c ≡ true → own.place.live ≡ true
  lists_live d own f c held dir at listed = lists_by d own f c (is_same_file d root) refl held dir at listed

  -- ---- a live thing

  module _ (f : FileId) (own : Attributes) (held : own_at Names f ≡ Some own) (apart : is_same_file f root ≡ false) (live : own.place.live ≡ true) where
    abbrev Parent : FileId
    Parent = own.place.parent

    pub parent_held : IsHeld Names Parent
    parent_held = facts.parent_held n w k s there f own held apart live

    pub parent_dir : is_dir Parent ≡ true
    parent_dir = (k.named s there).dirs f own held

    -- its parent has a cell for it
    pub parent_cell : (c : Entry) × (cell_at Names Parent f ≡ Some c) × (c ≡ cell_for f own)
    parent_cell =
        let c = cell_is (cell_at Names Parent f) ((k.order s there).own_parent f own held apart parent_held.0 live parent_held.1 parent_dir) in
        (c.0, c.1, cell_of_own Parent f c.0 own c.1 held apart)

    pub listed : is_listed Parent parent_cell.0 ≡ true
    listed =
        ap (is_listed Parent) parent_cell.2 ∙ and_from own.place.live (is_same_file Parent Parent) live (is_same_file-refl Parent)

    -- and is live
    pub parent_live : parent_held.0.place.live ≡ true
    parent_live = lists_live Parent parent_held.0 f parent_cell.0 parent_held.1 parent_dir parent_cell.1 listed
