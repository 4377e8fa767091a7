-- Places that are held back, by the latest places of things.
use Rattle.std.proofs.Common.{◌≡◌, false, not, ◌&&◌, List, [], ◌∷◌, Option, None, Some, refl, sym, ap, ◌∙◌}
use Rattle.pg_base.specs.declared.id.FileId.{FileId}
use Rattle.pg_entries.specs.declared.entry.Entry.{Entry}
use Rattle.pg_names.specs.declared.attributes.Attributes.{Attributes}
use Rattle.pg_names.specs.Names.{NamesValue, cell_at, directories, own_at}
use Rattle.pg_house.specs.Passing.{greatest, joined_with}
use Rattle.pg_house.specs.Holding.{is_back, is_dir_back, later, latest, waits}
use Rattle.pg_house.specs.Returning.{is_root}

joined_place : (top : Attributes) (o : Option Entry) → (joined_with top o).place ≡ later top.place o
joined_place top None = refl
joined_place top (Some cell) = refl

-- the place of the greatest is the latest place
pub latest_is : (s : NamesValue) (f : FileId) (top : Attributes) (ds : List FileId) → (greatest s f top ds).place ≡ latest s f top.place ds
latest_is s f top [] = refl
latest_is s f top (d ∷ ds) =
    latest_is s f (joined_with top (cell_at s d f)) ds ∙ ap (λ p. latest s f p ds) (joined_place top (cell_at s d f))

-- so it is enough to look at the latest place
pub back_is : (s : NamesValue) (d : FileId) (own : Attributes) → own_at s d ≡ Some own → is_root d ≡ false
    → waits s.removed d own.place (latest s d own.place (directories s)) ≡ is_dir_back s d
back_is s d own held other =
    ap (waits s.removed d own.place) (sym (latest_is s d own (directories s)))
    ∙ sym (ap (is_back s (directories s) d) held)
    ∙ sym (ap (λ t. not t && is_back s (directories s) d (own_at s d)) other)
