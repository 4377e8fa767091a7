-- The words that tell of a version, as they were cut.
use Rattle.std.specs.Prelude.{ℕ, List}
use Rattle.pg_msg.specs.UpdateText.{version_words}
use Rattle.pg_msg.specs.declared.update.VersionWords.{VersionWords}

-- with those between them that stand in each such line
abbrev pub spelled_version : VersionWords → List (List ℕ)
spelled_version w =
    version_words w.file.now w.stamp.now w.bases.now w.keep.now w.least.now w.parts.now
