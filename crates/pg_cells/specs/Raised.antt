-- What changes where things that see no live gold become gold.
use Rattle.std.specs.Prelude.{◌≡◌, ◌++◌, List}
use Rattle.std.specs.List.{All}
use Rattle.std.specs.Map.{keys_of}
use Rattle.pg_base.specs.declared.id.FileId.{FileId}
use Rattle.pg_register.specs.declared.flag.Flag.{Flag}
use Rattle.pg_pieces.specs.pg_msg.declared.update.Update.{Update}
use Rattle.pg_pieces.specs.pg_msg.declared.update.Update.TheVariants as update
use Rattle.pg_pieces.specs.pg_names.Names.{cell_at, is_full, own_at}
use Rattle.pg_pieces.specs.pg_house.Calm.{IsSameOrPlaced, held_place}
use Rattle.pg_pieces.specs.pg_store.Seen.{removed_of, server_of}
use Rattle.pg_pieces.specs.pg_store.Together.{birth_at}
use Rattle.pg_pieces.specs.Done.{Done}

-- the update is that of a flag
abbrev pub IsFlagMade : Update → Type 0
IsFlagMade u = (file : FileId) × (flag : Flag) × (u ≡ update.Flag file flag)

-- but for flags, and the keys that are touched, all is as it was
-- places: what is held stands where it stood
-- cells: those in directories are just where they were, with the places that they had
-- full, keys: what is held, and is full
-- births: those of the replicas
-- last, server, removed: what else is known
-- store: of the rest only tags were drawn, and keys touched
-- made: flags were made
-- work: nothing else is noted
pub record DiffersByGolds (before after : Done) : Type 0 where
  pub places : (file : FileId) → held_place (own_at after.store.names file)
      ≡ held_place (own_at before.store.names file)
  pub cells : (dir child : FileId) → IsSameOrPlaced (cell_at before.store.names dir child)
      (cell_at after.store.names dir child)
  pub full : (file : FileId) → is_full after.store.names file ≡ is_full before.store.names file
  pub keys : keys_of after.store.names.held ≡ keys_of before.store.names.held
  pub births : (file : FileId) → birth_at after.store file ≡ birth_at before.store file
  pub last : after.store.names.last ≡ before.store.names.last
  pub server : server_of after.store ≡ server_of before.store
  pub removed : removed_of after.store ≡ removed_of before.store
  pub store : after.store ≡ record before.store {
    tags = after.store.tags;
    names = after.store.names;
    replicas = after.store.replicas;
  }
  pub made : (us : List Update)
      × (after.work.made ≡ before.work.made ++ us) × All IsFlagMade us
  pub work : after.work ≡ record before.work {
    made = after.work.made;
    touched = after.work.touched;
  }
