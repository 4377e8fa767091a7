-- What holds wherever a run is quiet: statements.
use Rattle.std.specs.Prelude.{ℕ, ◌≡◌}
use Rattle.pg_run.specs.pg_base.declared.id.FileId.{FileId}
use Rattle.pg_run.specs.pg_names.Names.{cell_at, own_or_blank}
use Rattle.pg_run.specs.pg_store.declared.store.Store.{Store}
use Rattle.pg_run.specs.pg_store.Store.{content_of}
use Rattle.pg_run.specs.Graphs.{AreJoined}
use Rattle.pg_run.specs.Laws.{AtLive, WhereQuiet}

-- two servers hold the same of a thing: place and flags, entries and content
pub record HoldTheSame (a b : Store) (file : FileId) : Type 0 where
  pub own : own_or_blank a.names file ≡ own_or_blank b.names file
  pub entries : (child : FileId) → cell_at a.names file child ≡ cell_at b.names file child
  pub content : content_of a file ≡ content_of b file

-- AGREEMENT WHEN QUIET: wherever no message is under way, each live server has entered the last
-- removal, and none owes anything, two of them that are joined by edges for a thing hold the same
-- of it
abbrev pub QuietStoresAgree : ℕ → Type 0
QuietStoresAgree servers = WhereQuiet servers (λ w. (file : FileId) → AtLive servers w (λ s.
    AtLive servers w (λ t. AreJoined w file s t → HoldTheSame (w.stores s) (w.stores t) file)))
