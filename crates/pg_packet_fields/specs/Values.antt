-- What fields can have.
use Rattle.std.specs.Prelude.{ℕ, ◌<◌, ◌^◌, List, length}
use Rattle.pg_base.specs.Id as id
use Rattle.pg_codec.specs.Laws.{AreBytes, HasStampWidth}
use Rattle.pg_edges.specs.declared.key.Key.{Key}
use Rattle.pg_edges.specs.declared.key.Key.TheVariants as key
use Rattle.pg_msg.specs.declared.message.Ends.{Ends}
use Rattle.pg_packet_write.specs.Fits.{IsServer}

abbrev pub IsKey : Key → Type 0
IsKey key.Place = Unit {0}
IsKey (key.Flag server) = IsServer server
IsKey (key.Entry child) = id.Fits child
IsKey (key.Version stamp) = HasStampWidth stamp

pub record AreEnds (ends : Ends) : Type 0 where
  pub file : id.Fits ends.file
  pub sender : ends.sender < 2 ^ 64
  pub receiver : ends.receiver < 2 ^ 64

-- a text whose length takes two bytes
pub record IsShortText (text : List ℕ) : Type 0 where
  pub short : length text < 2 ^ 16
  pub width : AreBytes text
