-- Ids that name files, and ids that name directories.
use Rattle.std.specs.Prelude.{◌≡◌}
use Rattle.pg_base.specs.declared.id.Kind.TheVariants.{Dir, File}
use Rattle.pg_base.specs.declared.id.FileId.{FileId}
use Rattle.pg_base.specs.Id as id

-- the id of a file, no directory
pub record IsFile (file : FileId) : Type 0 where
  pub kind : file.kind ≡ File
  pub fits : id.Fits file

-- the id of a directory
pub record IsDirectory (dir : FileId) : Type 0 where
  pub kind : dir.kind ≡ Dir
  pub fits : id.Fits dir
