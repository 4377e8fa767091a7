-- What a server holds, as clauses see it.
use Rattle.std.specs.Prelude.{ℕ, List}
use Rattle.pg_announced.specs.Announced.{NotesValue}
use Rattle.pg_intent.specs.declared.intent.Intent.{Intent}
use Rattle.pg_names.specs.Names.{NamesValue}
use Rattle.pg_replica.specs.Replicas.{ByFile}
use Rattle.pg_store.specs.Wishes.{WishesValue}

-- servers: how many the run has
-- tags: the next tag that the server gives out
-- files: the number of the latest id that it gave out
-- births: the latest birth that it gave out
-- names: what it knows of names
-- replicas: those of all that it holds
-- announced: the versions that it heard of and does not cover
-- intents: its intentions, until others have answered
-- wishes: what its clients asked for that it does not hold
pub record StoreValue : Type 0 where
  pub servers : ℕ
  pub tags : ℕ
  pub files : ℕ
  pub births : ℕ
  pub names : NamesValue
  pub replicas : ByFile
  pub announced : NotesValue
  pub intents : List Intent
  pub wishes : WishesValue
