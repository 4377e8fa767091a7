-- A version is taken whose body came.
use Rattle.std.specs.Prelude.{ℕ}
use Rattle.pg_base.specs.Version.{VersionValue}
use Rattle.pg_pieces.specs.pg_msg.declared.message.Ends.{Ends}
use Rattle.pg_pieces.specs.pg_msg.declared.work.Work.{Work}
use Rattle.pg_pieces.specs.pg_store.declared.store.Store.{Store}
use Rattle.pg_pieces.specs.pg_store.Store.{take_version}
use Rattle.pg_pieces.specs.Done.{Done}
use Rattle.pg_pieces.specs.Taking.{take_version_noted}
use Rattle.pg_transfer.specs.Asking.{acknowledged}

-- and the tag under which it was announced is acknowledged
abbrev pub taken_for : Ends → ℕ → Store → VersionValue → Work → Done
taken_for ends tag store v work = record {
  store = take_version store ends.file v;
  work = acknowledged (take_version store ends.file v) ends v.head.stamp tag
      (take_version_noted store ends.file v work).work;
}
