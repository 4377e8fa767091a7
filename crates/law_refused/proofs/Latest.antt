-- The cell by which a call came to a thing is the one that the words of the law name.
use Rattle.std.proofs.Common.{◌≡◌, ◌⊎◌, Bool, true, false, cond, List, [], ◌∷◌, Option, None, Some, Less, Equal, Greater, inl, inr, refl, sym, ap, subst, ◌∙◌}
use Rattle.std.specs.BTreeMap.{is_at}
use Rattle.std.specs.List.{AllByRecursion}
use Rattle.std.specs.List.Sorted.{IsStrictlySortedBy}
use Rattle.std.specs.Map.{keys_of, lookup}
use Rattle.std.specs.Ordering.{ordering_reverse}
use Rattle.std.specs.declared.cmp.Ordering.{Ordering}
use Rattle.std.proofs.lemmas.Bool.{false≢true}
use Rattle.std.proofs.lemmas.Option.{none-some, same_Some}
use Rattle.pg_run.specs.pg_base.declared.id.FileId.{FileId}
use Rattle.pg_run.specs.pg_base.declared.stamp.Stamp.{Stamp}
use Rattle.pg_run.specs.pg_base.Id.{file_cmp}
use Rattle.pg_run.specs.pg_base.Stamp.{is_before}
use Rattle.pg_run.proofs.pg_base.Orders.{file_exact, file_total, is_same_file-true}
use Rattle.pg_run.specs.pg_content.Content.{Among}
use Rattle.pg_run.specs.pg_entries.declared.entry.Entry.{Entry}
use Rattle.pg_run.specs.pg_names.Names.{InodeValue, NamesValue, cell_at, entry_in, known}
use Rattle.pg_run.specs.pg_lookup.declared.paths.Way.{Way}
use Rattle.pg_run.specs.pg_lookup.declared.paths.Way.TheVariants as ways
use Rattle.pg_run.specs.pg_register.Flag.{IsByServer}
use Rattle.pg_run.specs.pg_store.declared.store.Store.{Store}
use Rattle.pg_run.specs.pg_checks.Asking.{cell_in, dir_by, is_later, later, latest}
use Rattle.law_refused.specs.Asked.{CameBy, IsLatestCell}
use Rattle.law_refused.proofs.Orders.{before_of, before_test, before_then, itself, less_of, lesser_of, not_behind, not_itself, not_twice}

-- ---- the latest of some directories

module _ (names : NamesValue) (file : FileId) where
  abbrev At : FileId → Option Entry
  At dir = cell_at names dir file

  -- of what was seen this directory has the latest cell, and of one stamp it is the first
  record IsBest (Seen : FileId → Type 0) (dir : FileId) : Type 0 where
    pub cell : Entry
    pub there : At dir ≡ Some cell
    pub seen : Seen dir
    pub latest : (f : FileId) (e : Entry) → Seen f → At f ≡ Some e → is_before cell.place.stamp e.place.stamp ≡ false
    pub first : (f : FileId) (e : Entry) → Seen f → At f ≡ Some e → file_cmp f dir ≡ Less → is_before e.place.stamp cell.place.stamp ≡ true

  -- or nothing that was seen has one
  abbrev Best : (FileId → Type 0) → Option FileId → Type 0
  Best Seen None = (f : FileId) (e : Entry) → Seen f → At f ≡ Some e → ⊥
  Best Seen (Some dir) = IsBest Seen dir

  -- whatever is seen in the one way is seen in the other
  alike : (S T : FileId → Type 0) → ((f : FileId) → S f → T f) → ((f : FileId) → T f → S f) → (o : Option FileId) → Best S o → Best T o
  alike S T to from None best = λ f e seen at. best f e (from f seen) at
  alike S T to from (Some dir) best = record {
    cell = best.cell;
    there = best.there;
    seen = to dir best.seen;
    latest = λ f e seen at. best.latest f e (from f seen) at;
    first = λ f e seen at below. best.first f e (from f seen) at below;
  }

  -- ---- one directory more

  module _ (Seen : FileId → Type 0) (dir : FileId) (above : (f : FileId) → Seen f → file_cmp f dir ≡ Less) where
    abbrev More : FileId → Type 0
    More f = Seen f ⊎ (f ≡ dir)

    -- its cell, where it has one
    its : (c : Option Entry) → At dir ≡ c → (f : FileId) (e : Entry) → f ≡ dir → At f ≡ Some e → c ≡ Some e
    its c is f e same at = sym is ∙ sym (ap At same) ∙ at

    none_there : (o : Option FileId) → At dir ≡ None → Best Seen o → Best More o
    none_there None is best = λ f e seen at. elim seen [
      | inl s ↦ best f e s at
      | inr same ↦ none-some e (its None is f e same at)
    ]
    none_there (Some d) is best = record {
      cell = best.cell;
      there = best.there;
      seen = inl best.seen;
      latest = λ f e seen at. elim seen [
        | inl s ↦ best.latest f e s at
        | inr same ↦ absurd (none-some e (its None is f e same at))
      ];
      first = λ f e seen at below. elim seen [
        | inl s ↦ best.first f e s at below
        | inr same ↦ absurd (none-some e (its None is f e same at))
      ];
    }

    module _ (c : Entry) (is : At dir ≡ Some c) where
      same_cell : (f : FileId) (e : Entry) → f ≡ dir → At f ≡ Some e → c ≡ e
      same_cell f e same at = same_Some c e (its (Some c) is f e same at)

      -- it is the first that has one
      begins : Best Seen None → IsBest More dir
      begins best = record {
        cell = c;
        there = is;
        seen = inr refl;
        latest = λ f e seen at. elim seen [
          | inl s ↦ absurd (best f e s at)
          | inr same ↦ subst (λ (x : Entry). is_before c.place.stamp x.place.stamp ≡ false) (same_cell f e same at) (itself c.place.stamp)
        ];
        first = λ f e seen at below. elim seen [
          | inl s ↦ absurd (best f e s at)
          | inr same ↦ absurd (not_itself dir (subst (λ (g : FileId). file_cmp g dir ≡ Less) same below))
        ];
      }

      module _ (d : FileId) (best : IsBest Seen d) where
        abbrev Held : Stamp
        Held = best.cell.place.stamp

        -- its cell is later
        goes_on : is_before Held c.place.stamp ≡ true → IsBest More dir
        goes_on later_one = record {
          cell = c;
          there = is;
          seen = inr refl;
          latest = λ f e seen at. elim seen [
            | inl s ↦ not_behind Held e.place.stamp c.place.stamp (best.latest f e s at) later_one
            | inr same ↦ subst (λ (x : Entry). is_before c.place.stamp x.place.stamp ≡ false) (same_cell f e same at) (itself c.place.stamp)
          ];
          first = λ f e seen at below. elim seen [
            | inl s ↦ before_then Held e.place.stamp c.place.stamp (best.latest f e s at) later_one
            | inr same ↦ absurd (not_itself dir (subst (λ (g : FileId). file_cmp g dir ≡ Less) same below))
          ];
        }

        -- it is not
        stays : is_before Held c.place.stamp ≡ false → IsBest More d
        stays none_later = record {
          cell = best.cell;
          there = best.there;
          seen = inl best.seen;
          latest = λ f e seen at. elim seen [
            | inl s ↦ best.latest f e s at
            | inr same ↦ subst (λ (x : Entry). is_before Held x.place.stamp ≡ false) (same_cell f e same at) none_later
          ];
          first = λ f e seen at below. elim seen [
            | inl s ↦ best.first f e s at below
            | inr same ↦ absurd (not_twice dir d (subst (λ (g : FileId). file_cmp g d ≡ Less) same below) (above d best.seen))
          ];
        }

        by : (t : Bool) → is_before Held c.place.stamp ≡ t → Best More (cond t (Some dir) (Some d))
        by true e = goes_on e
        by false e = stays e

    is_later_none : (x : Option Entry) → is_later x None ≡ false
    is_later_none None = refl
    is_later_none (Some e) = refl

    step_by : (o : Option FileId) (c : Option Entry) → At dir ≡ c → Best Seen o → Best More (cond (is_later (cell_in names file o) c) (Some dir) o)
    step_by o None is best =
        subst (λ t. Best More (cond t (Some dir) o)) (sym (is_later_none (cell_in names file o))) (none_there o is best)
    step_by None (Some c) is best = begins c is best
    step_by (Some d) (Some c) is best =
        subst (λ (x : Option Entry). Best More (cond (is_later x (Some c)) (Some dir) (Some d))) (sym best.there)
        (by c is d best (is_before best.cell.place.stamp c.place.stamp) refl)

    step : (o : Option FileId) → Best Seen o → Best More (later names file o dir)
    step o best = step_by o (At dir) refl best

  -- ---- all

  abbrev Above : FileId → List FileId → Type 0
  Above f dirs = AllByRecursion (λ g. file_cmp f g ≡ Less) dirs

  scanned : (Seen : FileId → Type 0) (o : Option FileId) (dirs : List FileId) → Best Seen o → IsStrictlySortedBy file_cmp dirs
      → ((f : FileId) → Seen f → Above f dirs) → Best (λ f. Seen f ⊎ Among f dirs) (latest names file o dirs)
  unfolding IsStrictlySortedBy
  scanned Seen o [] best sorted above =
      alike Seen (λ f. Seen f ⊎ Among f []) (λ f s. inl s) (λ f k. elim k [ inl s ↦ s | inr none ↦ absurd none ]) o best
  scanned Seen o (dir ∷ dirs) best sorted above =
      let now : FileId → Type 0 = λ f. Seen f ⊎ (f ≡ dir) in
      let next = step Seen dir (λ f s. (above f s).0) o best in
      let rest = scanned now (later names file o dir) dirs next sorted.1
      (λ f k. elim k [
        | inl s ↦ (above f s).1
        | inr same ↦ subst (λ g. Above g dirs) (sym same) sorted.0
      ]) in
      alike (λ f. now f ⊎ Among f dirs) (λ f. Seen f ⊎ Among f (dir ∷ dirs))
      (λ f k. elim k [
        | inl n ↦ elim n [ inl s ↦ inl s | inr same ↦ inr (inl same) ]
        | inr later_on ↦ inr (inr later_on)
      ])
      (λ f k. elim k [
        | inl s ↦ inl (inl s)
        | inr among ↦ elim among [ inl same ↦ inl (inr same) | inr later_on ↦ inr later_on ]
      ])
      (latest names file (later names file o dir) dirs) rest

  -- ---- what has a cell is held

  key_there : (f : FileId) (es : List (FileId × InodeValue)) (x : InodeValue) → lookup (is_at (file_cmp f)) es ≡ Some x → Among f (keys_of es)
  key_there f [] x h = absurd (none-some x h)
  key_there f (e ∷ es) x h = key_by (is_at (file_cmp f) e.0) refl h (key_there f es x)
    where
      key_by : (t : Bool) → is_at (file_cmp f) e.0 ≡ t → cond t (Some e.1) (lookup (is_at (file_cmp f)) es) ≡ Some x
          → (lookup (is_at (file_cmp f)) es ≡ Some x → Among f (keys_of es)) → Among f (keys_of (e ∷ es))
      key_by true same at rest = inl (is_same_file-true f e.0 same)
      key_by false apart at rest = inr (rest at)

  held_by : (f : FileId) (e : Entry) (o : Option InodeValue) → known names f ≡ o → entry_in file o ≡ Some e → Among f (keys_of names.held)
  held_by f e None is at = absurd (none-some e at)
  held_by f e (Some x) is at = key_there f names.held x is

  held_at : (f : FileId) (e : Entry) → At f ≡ Some e → Among f (keys_of names.held)
  held_at f e at = held_by f e (known names f) refl at

  abbrev Keys : FileId → Type 0
  Keys f = ⊥ ⊎ Among f (keys_of names.held)

  best_of_all : IsStrictlySortedBy file_cmp (keys_of names.held) → Best Keys (latest names file None (keys_of names.held))
  best_of_all sorted =
      scanned (λ f. ⊥) None (keys_of names.held) (λ f e seen at. seen) sorted (λ f seen. absurd seen)

-- ---- the cell by which a call came

module _ (a : Store) (sorted : IsStrictlySortedBy file_cmp (keys_of a.names.held)) (file : FileId) where
  abbrev CellAt : FileId → Option Entry
  CellAt dir = cell_at a.names dir file

  abbrev Seen : FileId → Type 0
  Seen f = Keys a.names file f

  abbrev Dirs : List FileId
  Dirs = keys_of a.names.held

  module _ (dir : FileId) (best : IsBest a.names file Seen dir) where
    latest_is : IsLatestCell a file best.cell
    latest_is = record {
      dir = dir;
      noted = best.there;
      latest = λ f e at earlier.
          false≢true (sym (best.latest f e (inr (held_at a.names file f e at)) at) ∙ before_test best.cell.place.stamp e.place.stamp earlier);
      first = λ f e at lesser.
          before_of e.place.stamp best.cell.place.stamp (best.first f e (inr (held_at a.names file f e at)) at (less_of f dir lesser));
    }

    -- there is no other
    only_by : (c : Entry) (k : IsLatestCell a file c) (o : Ordering) → file_cmp dir k.dir ≡ o → CellAt dir ≡ Some c
    only_by c k Less is =
        absurd (false≢true (sym (best.latest k.dir c (inr (held_at a.names file k.dir c k.noted)) k.noted)
        ∙ before_test best.cell.place.stamp c.place.stamp (k.first dir best.cell best.there (lesser_of dir k.dir is))))
    only_by c k Equal is = ap CellAt (file_exact dir k.dir is) ∙ k.noted
    only_by c k Greater is =
        let below : file_cmp k.dir dir ≡ Less = file_total.antisymm k.dir dir ∙ ap ordering_reverse is in
        absurd (k.latest dir best.cell best.there
        (before_of c.place.stamp best.cell.place.stamp
        (best.first k.dir c (inr (held_at a.names file k.dir c k.noted)) k.noted below)))

  found_by : (c : Entry) (o : Option FileId) → Best a.names file Seen o → cell_in a.names file o ≡ Some c → IsLatestCell a file c
  found_by c None best is = absurd (none-some c is)
  found_by c (Some dir) best is =
      subst (IsLatestCell a file) (same_Some best.cell c (sym best.there ∙ is)) (latest_is dir best)

  one_by : (c : Entry) (o : Option FileId) → Best a.names file Seen o → IsLatestCell a file c → cell_in a.names file o ≡ Some c
  one_by c None best k = absurd (best k.dir c (inr (held_at a.names file k.dir c k.noted)) k.noted)
  one_by c (Some dir) best k = only_by dir best c k (file_cmp dir k.dir) refl

  -- it is found
  pub came : (way : Way) (c : Entry) → cell_in a.names file (dir_by a.names file way) ≡ Some c → CameBy a file way c
  came ways.Start c is = none-some c is
  came (ways.Entry dir) c is = is
  came ways.Id c is = found_by c (latest a.names file None Dirs) (best_of_all a.names file sorted) is

  -- and no other one is it
  pub came_only : (way : Way) (c : Entry) → CameBy a file way c → cell_in a.names file (dir_by a.names file way) ≡ Some c
  came_only ways.Start c k = absurd k
  came_only (ways.Entry dir) c k = k
  came_only ways.Id c k = one_by c (latest a.names file None Dirs) (best_of_all a.names file sorted) k

-- its flags are by server
pub came_sorted : (a : Store) (file : FileId) → ((dir child : FileId) (e : Entry) → cell_at a.names dir child ≡ Some e → IsByServer e.flags)
    → (way : Way) (c : Entry) → CameBy a file way c → IsByServer c.flags
came_sorted a file cells ways.Start c k = absurd k
came_sorted a file cells (ways.Entry dir) c k = cells dir file c k
came_sorted a file cells ways.Id c k = cells k.dir file c k.noted
