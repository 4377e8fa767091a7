-- What the types of items keep.
use Rattle.std.specs.Prelude.{ℕ, ◌<◌, ◌^◌}
use Rattle.pg_codec.specs.Laws.{AreBytes}
use Rattle.pg_patch.specs.declared.part.Part.{Part}
use Rattle.pg_register.specs.declared.flag.Flag.{Flag}

pub record HasFlagWidth (flag : Flag) : Type 0 where
  pub birth : flag.birth < 2 ^ 64
  pub number : flag.number < 2 ^ 64

abbrev pub HasPartBytes : Part → Type 0
HasPartBytes part = AreBytes part.bytes
