-- Stamps that have a spelling, and lists of stamps.
use Rattle.std.specs.Prelude.{ℕ, ◌<◌, ◌^◌, List, map}
use Rattle.pg_base.specs.StampText.{stamp_text}
use Rattle.pg_base.specs.declared.stamp.Stamp.{Stamp}
use Rattle.pg_words.specs.ListWord.{list_word}

-- numbers that a stamp can have
pub record IsStamp (stamp : Stamp) : Type 0 where
  pub time : stamp.time < 2 ^ 64
  pub server : stamp.server < 2 ^ 32

-- stamps with commas, or a dash
abbrev pub stamps_word : List Stamp → List ℕ
stamps_word stamps = list_word (map stamp_text stamps)
