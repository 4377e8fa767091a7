-- Flags that a server makes. It takes them as it takes what comes.
use Rattle.std.specs.Prelude.{Bool, true, false}
use Rattle.pg_base.specs.declared.id.FileId.{FileId}
use Rattle.pg_register.specs.declared.flag.Flag.{Flag}
use Rattle.pg_register.specs.Flag.{next_flag}
use Rattle.pg_store.specs.pg_house.pg_msg.declared.update.Update.TheVariants as update
use Rattle.pg_store.specs.pg_house.pg_msg.declared.work.Work.{Work}
use Rattle.pg_store.specs.pg_house.pg_msg.Work.{with_made}
use Rattle.pg_store.specs.pg_names.Names.{own_or_blank}
use Rattle.pg_store.specs.declared.store.Store.{Store}
use Rattle.pg_store.specs.Births.{birth_of}
use Rattle.pg_store.specs.Seen.{server_of}
use Rattle.pg_pieces.specs.Done.{Done}
use Rattle.pg_pieces.specs.Taking.{take_flag_noted}

-- the next flag of the server's replica of a thing
abbrev pub own_next : Store → FileId → Bool → Flag
own_next store file raised = next_flag (own_or_blank store.names file).flags (server_of store)
    (birth_of store file) raised

-- the server makes its flag of a thing, and takes it
abbrev pub make_flag : Store → FileId → Flag → Work → Done
make_flag store file flag work =
    take_flag_noted store file flag (with_made work (update.Flag file flag))

-- it raises it
abbrev pub raise_flag : Store → FileId → Work → Done
raise_flag store file work = make_flag store file (own_next store file true) work

-- it lowers it
abbrev pub lower_flag : Store → FileId → Work → Done
lower_flag store file work = make_flag store file (own_next store file false) work
