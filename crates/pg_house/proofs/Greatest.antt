-- The greatest of what is known of a file.
use Rattle.std.proofs.Common.{◌≡◌, ℕ, true, List, [], ◌∷◌, Option, None, Some, refl, sym, ap, ◌∙◌, inl, inr, ◌⊎◌}
use Rattle.std.proofs.lemmas.Bool.{false≢true, or_left, or_right}
use Rattle.std.proofs.lemmas.Option.{none-some}
use Rattle.pg_base.specs.declared.id.FileId.{FileId}
use Rattle.pg_base.specs.Id.{is_same_file}
use Rattle.pg_base.proofs.Orders.{is_same_file-true, is_same_file-refl}
use Rattle.pg_entries.specs.declared.entry.Entry.{Entry}
use Rattle.pg_names.specs.declared.attributes.Attributes.{Attributes}
use Rattle.pg_names.specs.Names.{InodeValue, NamesValue, own_of, own_at, cell_at, entry_in, known}
use Rattle.pg_names.proofs.Alike.{own_of_parts}
use Rattle.pg_base.specs.Stamp.{is_before}
use Rattle.pg_register.specs.declared.flag.Flag.{Flag}
use Rattle.pg_register.specs.declared.place.Place.{Place}
use Rattle.pg_register.specs.Flag.{IsByServer, flag_of, join_flags}
use Rattle.pg_register.specs.Place.{newer_place}
use Rattle.pg_register.proofs.ByServer.{IsByServer-join_flags}
use Rattle.pg_house.specs.Passing.{cell_for, greatest, is_cell, joined, joined_with}
use Rattle.pg_house.proofs.Flags.{flags_stay}
use Rattle.pg_house.proofs.Truths.{chosen, or_cases}
use Rattle.pg_house.specs.Facts.{is_among}

-- a directory with a cell is held
held_by : (o : Option InodeValue) (g : FileId) (c : Entry) → entry_in g o ≡ Some c → (b : Attributes) × (own_of o ≡ Some b)
held_by None g c h = absurd (none-some c h)
held_by (Some x) g c h = (x.own, refl)

pub cell_held : (s : NamesValue) (q g : FileId) (c : Entry) → cell_at s q g ≡ Some c → (b : Attributes) × (own_at s q ≡ Some b)
cell_held s q g c h = held_by (known s q) g c h

pub cell_is : (o : Option Entry) → is_cell o ≡ true → (c : Entry) × (o ≡ Some c)
cell_is None h = absurd (false≢true h)
cell_is (Some c) h = (c, refl)

-- the cell of one of the directories
abbrev pub SomeCell : NamesValue → FileId → List FileId → Type 0
SomeCell s f ds = (d : FileId) × (c : Entry) × (is_among d ds ≡ true) × (cell_at s d f ≡ Some c)

-- either one of the directories has a cell, or it is the own one
step : (s : NamesValue) (f d : FileId) (ds : List FileId) (top : Attributes) (o : Option Entry) → cell_at s d f ≡ o → ((greatest s f top ds ≡ top) ⊎ SomeCell s f ds) → (greatest s f (joined_with top o) ds ≡ top) ⊎ SomeCell s f (d ∷ ds)
step s f d ds top None h (inl same) = inl same
step s f d ds top None h (inr more) = inr (more.0, more.1, or_right (is_same_file d more.0) (is_among more.0 ds) more.2, more.3)
step s f d ds top (Some c) h any = inr (d, c, or_left (is_same_file d d) (is_among d ds) (is_same_file-refl d), h)

pub greatest_cases : (s : NamesValue) (f : FileId) (top : Attributes) (ds : List FileId) → (greatest s f top ds ≡ top) ⊎ SomeCell s f ds
greatest_cases s f top [] = inl refl
greatest_cases s f top (d ∷ ds) = step s f d ds top (cell_at s d f) refl (greatest_cases s f top ds)

-- where each cell is this one, it stays the greatest
abbrev pub AllAre : NamesValue → FileId → Attributes → Type 0
AllAre s f top = (d : FileId) (c : Entry) → cell_at s d f ≡ Some c → c ≡ cell_for f top

-- flags that are joined with themselves stay
abbrev pub StaysItself : Attributes → Type 0
StaysItself top = join_flags top.flags top.flags ≡ top.flags

-- what is known, joined with a cell of it
pub joined_same : (f : FileId) (top : Attributes) → StaysItself top → joined top (cell_for f top) ≡ top
joined_same f top still =
    own_of_parts (newer_place top.place top.place) top.place (join_flags top.flags top.flags) top.flags
    (chosen (λ p. p ≡ top.place) (is_before top.place.stamp top.place.stamp) top.place top.place refl refl) still

joined_all : (s : NamesValue) (f d : FileId) (top : Attributes) (o : Option Entry) → StaysItself top → cell_at s d f ≡ o → AllAre s f top → joined_with top o ≡ top
joined_all s f d top None still h all = refl
joined_all s f d top (Some c) still h all = ap (joined top) (all d c h) ∙ joined_same f top still

pub greatest_same : (s : NamesValue) (f : FileId) (top : Attributes) (ds : List FileId) → StaysItself top → AllAre s f top → greatest s f top ds ≡ top
greatest_same s f top [] still all = refl
greatest_same s f top (d ∷ ds) still all = ap (λ t. greatest s f t ds) (joined_all s f d top (cell_at s d f) still refl all) ∙ greatest_same s f top ds still all

-- and so from a lesser one, where one of the directories has a cell
met : (s : NamesValue) (f d q : FileId) (own top : Attributes) (ds : List FileId) (o : Option Entry) → StaysItself top → cell_at s d f ≡ o → AllAre s f top → joined own (cell_for f top) ≡ top → cell_at s q f ≡ Some (cell_for f top) → ((is_same_file d q ≡ true) ⊎ (is_among q ds ≡ true)) → ((is_among q ds ≡ true) → greatest s f own ds ≡ top) → greatest s f (joined_with own o) ds ≡ top
met s f d q own top ds (Some c) still h all up there which rest = ap (λ t. greatest s f t ds) (ap (joined own) (all d c h) ∙ up) ∙ greatest_same s f top ds still all
met s f d q own top ds None still h all up there (inr later) rest = rest later
met s f d q own top ds None still h all up there (inl same) rest = absurd (none-some (cell_for f top) (sym h ∙ ap (λ k. cell_at s k f) (is_same_file-true d q same) ∙ there))

pub greatest_meets : (s : NamesValue) (f q : FileId) (own top : Attributes) (ds : List FileId) → StaysItself top → AllAre s f top → joined own (cell_for f top) ≡ top → cell_at s q f ≡ Some (cell_for f top) → is_among q ds ≡ true → greatest s f own ds ≡ top
greatest_meets s f q own top [] still all up there among = absurd (false≢true among)
greatest_meets s f q own top (d ∷ ds) still all up there among =
    met s f d q own top ds (cell_at s d f) still refl all up there (or_cases (is_same_file d q) (is_among q ds) among) (λ later. greatest_meets s f q own top ds still all up there later)

-- its flags are by server
with_sorted : (top : Attributes) (o : Option Entry) → IsByServer top.flags → IsByServer (joined_with top o).flags
with_sorted top None sorted = sorted
with_sorted top (Some c) sorted = IsByServer-join_flags top.flags c.flags sorted

pub greatest_sorted : (s : NamesValue) (f : FileId) (top : Attributes) (ds : List FileId) → IsByServer top.flags → IsByServer (greatest s f top ds).flags
greatest_sorted s f top [] sorted = sorted
greatest_sorted s f top (d ∷ ds) sorted = greatest_sorted s f (joined_with top (cell_at s d f)) ds (with_sorted top (cell_at s d f) sorted)

-- and a server of which there was a flag has one
with_flag : (top : Attributes) (o : Option Entry) (server : ℕ) (g : Flag) → flag_of top.flags server ≡ Some g → (h : Flag) × (flag_of (joined_with top o).flags server ≡ Some h)
with_flag top None server g e = (g, e)
with_flag top (Some c) server g e = flags_stay top.flags c.flags server g e

pub greatest_flag : (s : NamesValue) (f : FileId) (top : Attributes) (ds : List FileId) (server : ℕ) (g : Flag) → flag_of top.flags server ≡ Some g → (h : Flag) × (flag_of (greatest s f top ds).flags server ≡ Some h)
greatest_flag s f top [] server g e = (g, e)
greatest_flag s f top (d ∷ ds) server g e = let next = with_flag top (cell_at s d f) server g e in greatest_flag s f (joined_with top (cell_at s d f)) ds server next.0 next.1

-- its place is the first one, or that of a cell
with_place : (P : Place → Type 0) (top : Attributes) (o : Option Entry) → P top.place → ((c : Entry) → o ≡ Some c → P c.place) → P (joined_with top o).place
with_place P top None first all = first
with_place P top (Some c) first all = chosen P (is_before top.place.stamp c.place.stamp) c.place top.place (all c refl) first

pub greatest_place : (P : Place → Type 0) (s : NamesValue) (f : FileId) → ((d : FileId) (c : Entry) → cell_at s d f ≡ Some c → P c.place) → (top : Attributes) (ds : List FileId) → P top.place → P (greatest s f top ds).place
greatest_place P s f all top [] first = first
greatest_place P s f all top (d ∷ ds) first = greatest_place P s f all (joined_with top (cell_at s d f)) ds (with_place P top (cell_at s d f) first (all d))
