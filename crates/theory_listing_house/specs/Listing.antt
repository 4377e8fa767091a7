-- What a server knows of names, as directories see it.
use Rattle.std.specs.Prelude.{ℕ, ◌≡◌, true, Option, None, Some}
use Rattle.pg_base.specs.declared.id.FileId.{FileId}
use Rattle.pg_base.specs.declared.stamp.Stamp.{Stamp}
use Rattle.pg_base.specs.Stamp.{is_before}
use Rattle.pg_register.specs.declared.place.Place.{Place}
use Rattle.pg_register.specs.Place.{root}
use Rattle.pg_entries.specs.declared.entry.Entry.{Entry}
use Rattle.pg_names.specs.declared.attributes.Attributes.{Attributes}
use Rattle.pg_names.specs.Names.{NamesValue, cell_at, is_dir, own_at}
use Rattle.pg_house.specs.Holding.{waits}
use Rattle.theory_listing.specs.Protocol.{Protocol}

abbrev pub own_place : Option Attributes → Option Place
own_place None = None
own_place (Some own) = Some own.place

abbrev pub cell_place : Option Entry → Option Place
cell_place None = None
cell_place (Some cell) = Some cell.place

-- What a server keeps beside names, as `Protocol` has it: births, intentions, views
pub record Beside (N : Type 0) : Type 1 where
  pub birth : N → FileId → ℕ
  pub IsPast : N → FileId → ℕ → Type 0
  pub patch : N → FileId → FileId → Option Place
  pub Confirms : N → FileId → FileId → Type 0
  pub view : N → ℕ

-- Servers that keep names, and these things beside them. A place is live where its parent is a
-- directory, too, as the house rules give no other thing an entry
abbrev pub listing_of : {N : Type 0} → (N → NamesValue) → Beside N → Protocol N FileId Place Stamp
listing_of see beside = record {
  root = root;
  parent = λ place. place.parent;
  IsLive = λ place. (place.live ≡ true) × (is_dir place.parent ≡ true);
  stamp = λ place. place.stamp;
  IsBelow = λ a b. is_before a b ≡ true;
  own = λ node file. own_place (own_at (see node) file);
  birth = beside.birth;
  IsPast = beside.IsPast;
  cell = λ node dir child. cell_place (cell_at (see node) dir child);
  patch = beside.patch;
  Confirms = beside.Confirms;
  IsBack = λ node file place.
      (own : Attributes) → own_at (see node) file ≡ Some own
      → waits (see node).removed file own.place place ≡ true;
  view = beside.view;
}

-- names alone: one birth, which is never past, no intentions, and one view
abbrev pub nothing : Beside NamesValue
nothing = record {
  birth = λ names file. 1;
  IsPast = λ names file birth. ⊥;
  patch = λ names dir child. None;
  Confirms = λ names dir child. ⊥;
  view = λ names. 0;
}

abbrev pub listing : Protocol NamesValue FileId Place Stamp
listing = listing_of (λ names. names) nothing

-- the second knows of the same places as the first: of its things, and of children of its
-- directories
pub record HaveSamePlaces (s t : NamesValue) : Type 0 where
  pub own : (file : FileId) → listing.own t file ≡ listing.own s file
  pub cells : (dir child : FileId) → listing.cell t dir child ≡ listing.cell s dir child
