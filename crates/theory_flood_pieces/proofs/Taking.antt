-- A place, a flag or an entry comes to a thing that is held: what edges promise is kept, and what
-- came is held.
use Rattle.std.proofs.Common.{ℕ, ◌≡◌, Bool, false, List, [], ◌∷◌, Option, None, Some, refl, sym, ap, subst, ◌∙◌}
use Rattle.std.proofs.lemmas.Option.{none-some}
use Rattle.pg_base.specs.declared.id.FileId.{FileId}
use Rattle.pg_base.specs.Stamp.{is_before}
use Rattle.pg_base.proofs.Orders.{is_before-false}
use Rattle.pg_edges.specs.declared.key.Key.{Key}
use Rattle.pg_edges.specs.declared.key.Key.TheVariants as key
use Rattle.theory_flood.specs.Server.{Holds}
use Rattle.theory_flood.proofs.Steps.{Steps}
use Rattle.pg_entries.specs.declared.cell.Cell.{Cell}
use Rattle.pg_entries.specs.declared.cell.Cell.TheVariants as cell
use Rattle.pg_entries.specs.declared.entry.Entry.{Entry}
use Rattle.pg_entries.specs.Entry.{brings, joined_to}
use Rattle.pg_cells.specs.pg_msg.declared.work.Touched.{Touched}
use Rattle.pg_cells.specs.pg_names.declared.attributes.Attributes.{Attributes}
use Rattle.pg_cells.specs.pg_names.Names.{InodeValue, NamesValue, cell_at as entry_at, entry_in, is_entry_new, is_flag_new, is_place_new, join_entry, join_flag, join_place, known, or_blank, own_at, own_of, own_or_blank, raise}
use Rattle.pg_cells.proofs.pg_names.Lookups.{flag_same, joined_same, own_with_flag, own_with_place, place_same, update_frame}
use Rattle.pg_cells.specs.pg_names.Names.{with_flag, with_joined, with_place}
use Rattle.pg_register.specs.declared.flag.Flag.{Flag}
use Rattle.pg_register.specs.declared.place.Place.{Place}
use Rattle.pg_register.specs.Flag as flags
use Rattle.pg_register.specs.Flag.{flag_of}
use Rattle.pg_cells.specs.pg_store.declared.store.Store.{Store}
use Rattle.pg_cells.specs.pg_store.Cells.{cell_at, entry_cell, flag_cell, is_sure}
use Rattle.pg_cells.specs.pg_store.Store.{is_newer_entry, is_newer_flag, is_newer_place, put_entry, put_flag, put_place, take_entry, take_flag, take_place, touch, with_names}
use Rattle.theory_flood_pieces.specs.Names.{AreNamesUpTo, IsEntryKnownBy, IsToldBy}
use Rattle.theory_flood_pieces.specs.Seen.{standing}
use Rattle.theory_flood_pieces.specs.UpTo.{IsFlagKnownBy, IsPlaceUpTo, IsUpTo}
use Rattle.theory_flood_pieces.specs.Whole.{AreByChild}
use Rattle.theory_flood_pieces.proofs.Choices.{decided}
use Rattle.theory_flood_pieces.proofs.Flags.{flag_server, flag_there, known_there, newer_of_both, old_entry, old_known}
use Rattle.theory_flood_pieces.proofs.Growth.{SameNames, entry_grows, entry_told, flag_grows, flag_told, names_further, place_grows, place_told, same_grow, same_told, told_further}
use Rattle.theory_flood_pieces.proofs.Touching.{IsTouchedBy, none_touched, one_touched, touched_behind, touched_steps}

-- ---- names, and the keys that tell of their change

-- names grew, and these keys tell of it
pub record Grew (ts : List Touched) (s t : NamesValue) : Type 0 where
  pub server : t.server ≡ s.server
  pub grow : AreNamesUpTo s t
  pub told : IsToldBy ts s t

pub grew_same : (ts : List Touched) (s t : NamesValue) → t.server ≡ s.server → SameNames s t → Grew ts s t
grew_same ts s t server k = record { server = server; grow = same_grow s t k; told = same_told ts s t k }

pub grew_further : (ts : List Touched) (s t u : NamesValue) → Grew ts s t → Grew ts t u → Grew ts s u
grew_further ts s t u a b = record { server = b.server ∙ a.server; grow = names_further s t u a.grow b.grow; told = told_further ts s t u a.told b.told }

pub grew_raised : (ts : List Touched) (s : NamesValue) (time : ℕ) → Grew ts s (raise s time)
grew_raised ts s time = grew_same ts s (raise s time) refl (record { own = λ f. refl; entries = λ d g. refl })

-- ---- a server whose names grew

-- the keys that tell of it were touched
pub record Took (ts : List Touched) (a b : Store) : Type 0 where
  pub touched : IsTouchedBy ts a b
  pub names : Grew ts a.names b.names

pub took_steps : (ts : List Touched) (a b : Store) → Took ts a b → Steps standing a b
took_steps ts a b k = touched_steps ts a b k.touched k.names.told k.names.grow

-- none had to be
pub took_none : (a : Store) (names : NamesValue) → Grew [] a.names names → Took [] a (with_names a names)
took_none a names k = record { touched = none_touched a (with_names a names) refl (λ f. refl); names = k }

-- nothing was done
pub took_nothing : (a : Store) → Took [] a a
took_nothing a = record {
  touched = none_touched a a refl (λ f. refl);
  names = grew_same [] a.names a.names refl (record { own = λ f. refl; entries = λ d g. refl });
}

-- one
pub took_one : (a : Store) (names : NamesValue) (f : FileId) (k : Key) → Grew (record { file = f; key = k } ∷ []) a.names names
    → Took (record { file = f; key = k } ∷ []) a (touch (with_names a names) f k)
took_one a names f k g = record {
  touched = touched_behind (record { file = f; key = k } ∷ []) a (touch (with_names a names) f k) names (one_touched (with_names a names) f k);
  names = g;
}

-- ---- what came is held

pub record Takes (a b : Store) (file : FileId) (c : Cell) : Type 0 where
  pub keys : List Touched
  pub took : Took keys a b
  pub holds : Holds IsUpTo (cell_at b file) c

place_held : (b : Store) (f : FileId) (place : Place) → IsPlaceUpTo place (own_or_blank b.names f).place → Holds IsUpTo (cell_at b f) (cell.Place place)
place_held b f place up = record { key = key.Place; cell = cell.Place (own_or_blank b.names f).place; is = refl; upto = up }

flag_held : (b : Store) (f : FileId) (flag : Flag) (o : Option Flag) → flag_of (own_or_blank b.names f).flags flag.server ≡ o → IsFlagKnownBy (Some flag) o → Holds IsUpTo (cell_at b f) (cell.Flag flag)
flag_held b f flag None is h = absurd h
flag_held b f flag (Some g) is h = record { key = key.Flag flag.server; cell = cell.Flag g; is = ap flag_cell is; upto = h }

entry_held : (b : Store) (d : FileId) (e : Entry) (sure : Bool) (o : Option Entry) → entry_at b.names d e.child ≡ o → IsEntryKnownBy (Some e) o → Holds IsUpTo (cell_at b d) (cell.Entry e sure)
entry_held b d e sure None is h = absurd h
entry_held b d e sure (Some g) is h = record {
  key = key.Entry e.child;
  cell = cell.Entry g (is_sure b d e.child);
  is = ap (λ (o : Option Entry). entry_cell o (is_sure b d e.child)) is;
  upto = h;
}

-- ---- a place

module _ (a : Store) (file : FileId) (mine : Attributes) (held_own : own_at a.names file ≡ Some mine) where
  mine_is : own_or_blank a.names file ≡ mine
  mine_is = ap (or_blank file) held_own

  module _ (place : Place) where
    abbrev Placed : NamesValue
    Placed = join_place a.names file place

    abbrev place_keys : List Touched
    place_keys = record { file = file; key = key.Place } ∷ []

    placed_grew : Grew place_keys a.names (raise Placed place.stamp.time)
    placed_grew =
        grew_further place_keys a.names Placed (raise Placed place.stamp.time)
        (record {
          server = (update_frame a.names file (with_place place)).server;
          grow = place_grows a.names file mine held_own place;
          told = place_told a.names file mine held_own place;
        })
        (grew_raised place_keys Placed place.stamp.time)

    placed_is : own_or_blank (raise Placed place.stamp.time) file ≡ own_with_place place mine
    placed_is = ap (or_blank file) (place_same a.names file place mine held_own)

    place_new : Takes a (put_place a file place) file (cell.Place place)
    place_new = record {
      keys = place_keys;
      took = took_one a (raise Placed place.stamp.time) file key.Place placed_grew;
      holds =
          let P : Attributes → Type 0 = λ o. IsPlaceUpTo place o.place in
          place_held (put_place a file place) file place (subst P (sym placed_is) (newer_of_both mine.place place).1);
    }

    place_old : is_newer_place a file place ≡ false → Takes a a file (cell.Place place)
    place_old old = record {
      keys = [];
      took = took_nothing a;
      holds =
          let P : Attributes → Type 0 = λ o. IsPlaceUpTo place o.place in
          let before : is_before mine.place.stamp place.stamp ≡ false = ap (λ o. is_place_new o place) (sym held_own) ∙ old in
          place_held a file place (subst P (sym mine_is) (is_before-false mine.place.stamp place.stamp before));
    }

    -- A PLACE IS TAKEN
    pub place_taken : Takes a (take_place a file place) file (cell.Place place)
    place_taken = decided (λ b. Takes a b file (cell.Place place)) (is_newer_place a file place) _ _ (λ new. place_new) place_old

  -- ---- a flag

  module _ (flag : Flag) where
    abbrev Flagged : NamesValue
    Flagged = join_flag a.names file flag

    abbrev flag_keys : List Touched
    flag_keys = record { file = file; key = key.Flag flag.server } ∷ []

    flagged_grew : Grew flag_keys a.names Flagged
    flagged_grew = record {
      server = (update_frame a.names file (with_flag flag)).server;
      grow = flag_grows a.names file mine held_own flag;
      told = flag_told a.names file mine held_own flag;
    }

    flagged_is : own_or_blank Flagged file ≡ own_with_flag flag mine
    flagged_is = ap (or_blank file) (flag_same a.names file flag mine held_own)

    flag_new : Takes a (put_flag a file flag) file (cell.Flag flag)
    flag_new = record {
      keys = flag_keys;
      took = took_one a Flagged file (key.Flag flag.server) flagged_grew;
      holds = flag_held (put_flag a file flag) file flag (flag_of (flags.join_flag mine.flags flag) flag.server)
          (ap (λ (o : Attributes). flag_of o.flags flag.server) flagged_is) (flag_there mine.flags flag);
    }

    flag_old : is_newer_flag a file flag ≡ false → Takes a a file (cell.Flag flag)
    flag_old old = record {
      keys = [];
      took = took_nothing a;
      holds =
          let before : flags.is_new (flag_of mine.flags flag.server) flag ≡ false = ap (λ o. is_flag_new o flag) (sym held_own) ∙ old in
          flag_held a file flag (flag_of mine.flags flag.server) (ap (λ (o : Attributes). flag_of o.flags flag.server) mine_is)
          (old_known (flag_of mine.flags flag.server) flag (λ f h. flag_server mine.flags flag.server f h) before);
    }

    -- A FLAG IS TAKEN
    pub flag_taken : Takes a (take_flag a file flag) file (cell.Flag flag)
    flag_taken = decided (λ b. Takes a b file (cell.Flag flag)) (is_newer_flag a file flag) _ _ (λ new. flag_new) flag_old

-- ---- an entry

new_by : (o : Option InodeValue) (b : Attributes) (e : Entry) → own_of o ≡ Some b → is_entry_new o e ≡ brings (entry_in e.child o) e
new_by None b e h = absurd (none-some b h)
new_by (Some x) b e h = refl

module _ (a : Store) (dir : FileId) (first : Attributes) (first_own : own_at a.names dir ≡ Some first) (e : Entry) (sure : Bool) (own : AreByChild a.names) where
  same_child : (held : Entry) → entry_at a.names dir e.child ≡ Some held → held.child ≡ e.child
  same_child held h = own dir e.child held h

  abbrev Joined : NamesValue
  Joined = join_entry a.names dir e

  abbrev entry_keys : List Touched
  entry_keys = record { file = dir; key = key.Entry e.child } ∷ []

  abbrev Raised : NamesValue
  Raised = raise Joined e.place.stamp.time

  joined_grew : Grew entry_keys a.names Raised
  joined_grew =
      grew_further entry_keys a.names Joined Raised
      (record {
        server = (update_frame a.names dir (with_joined e)).server;
        grow = entry_grows a.names dir first first_own e;
        told = entry_told a.names dir first first_own e;
      })
      (grew_raised entry_keys Joined e.place.stamp.time)

  entry_new : Takes a (put_entry a dir e) dir (cell.Entry e sure)
  entry_new = record {
    keys = entry_keys;
    took = took_one a Raised dir (key.Entry e.child) joined_grew;
    holds = entry_held (put_entry a dir e) dir e sure (Some (joined_to (entry_at a.names dir e.child) e))
        (joined_same a.names dir first e first_own) (known_there (entry_at a.names dir e.child) e same_child);
  }

  entry_old : is_newer_entry a dir e ≡ false → Takes a a dir (cell.Entry e sure)
  entry_old old = record {
    keys = [];
    took = took_nothing a;
    holds = entry_held a dir e sure (entry_at a.names dir e.child) refl
        (old_entry (entry_at a.names dir e.child) e same_child (sym (new_by (known a.names dir) first e first_own) ∙ old));
  }

  -- AN ENTRY IS TAKEN
  pub entry_taken : Takes a (take_entry a dir e) dir (cell.Entry e sure)
  entry_taken = decided (λ b. Takes a b dir (cell.Entry e sure)) (is_newer_entry a dir e) _ _ (λ new. entry_new) entry_old
