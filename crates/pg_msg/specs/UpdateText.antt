-- Updates: what they are spelled as.
use Rattle.std.specs.Prelude.{ℕ, ◌<◌, ◌^◌, ◌==◌, if◌then◌else◌, List, [], ◌∷◌, ◌++◌, map, decimal, codes}
use Rattle.std.specs.List.{AllByRecursion}
use Rattle.pg_base.specs.Id as id
use Rattle.pg_base.specs.StampText.{stamp_text}
use Rattle.pg_patch.specs.declared.part.Part.{Part}
use Rattle.pg_patch.specs.Ranges.{IsRanges, all}
use Rattle.pg_msg.specs.declared.update.MadeVersion.{MadeVersion}
use Rattle.pg_msg.specs.declared.update.Update.{Update}
use Rattle.pg_msg.specs.declared.update.Update.TheVariants as update
use Rattle.pg_register.specs.declared.flag.Flag.{Flag}
use Rattle.pg_words.specs.ChoiceWord.{raised_word}
use Rattle.pg_words.specs.FileWord.{IsFile}
use Rattle.pg_words.specs.HexWord.{hex_word, AreBytes}
use Rattle.pg_words.specs.ListWord.{list_word}
use Rattle.pg_words.specs.PlaceWords.{IsPlace, place_words}
use Rattle.pg_words.specs.StampWord.{IsStamp, stamps_word}

-- how much of a body stays: all of it, or so many bytes
abbrev pub keep_word : ℕ → List ℕ
keep_word keep = if keep == all then codes "all" else decimal keep

-- where the part begins, and its bytes
abbrev pub part_word : Part → List ℕ
part_word p = decimal p.offset ++ 58 ∷ hex_word p.bytes

-- parts with commas, or a dash
abbrev pub parts_word : List Part → List ℕ
parts_word parts = list_word (map part_word parts)

-- a version that was made, with these words for the file, the stamp, the bases, what stays, the
-- least length and the parts
abbrev pub version_words : List ℕ → List ℕ → List ℕ → List ℕ → List ℕ → List ℕ → List (List ℕ)
version_words file stamp bases keep least parts =
    codes "version" ∷ file ∷ stamp ∷ codes "from" ∷ bases ∷ codes "keep" ∷ keep ∷ codes "least"
    ∷ least ∷ codes "parts" ∷ parts ∷ []

-- its file, its stamp, the stamps of its bases, and its ranges: what stays of what they show, how
-- long the body is at least, and what is laid over it
abbrev pub version_spelling : MadeVersion → List (List ℕ)
version_spelling u =
    version_words (id.spelling u.file) (stamp_text u.stamp) (stamps_word u.bases)
    (keep_word u.ranges.keep) (decimal u.ranges.least) (parts_word u.ranges.parts)

-- whose flag it is, of which birth, with which number, and whether it is raised
abbrev pub flag_words : Flag → List (List ℕ)
flag_words flag =
    decimal flag.server ∷ decimal flag.birth ∷ decimal flag.number ∷ raised_word flag.raised ∷ []

-- a version, a place or a flag that was made
abbrev pub update_spelling : Update → List (List ℕ)
update_spelling (update.Version made) = version_spelling made
update_spelling (update.Place file place) = codes "place" ∷ id.spelling file ∷ place_words place
update_spelling (update.Flag file flag) = codes "flag" ∷ id.spelling file ∷ flag_words flag

-- a part of ranges: an offset of 32 bits, and bytes, one at least and no more than have offsets of
-- 32 bits
pub record IsPart (part : Part) : Type 0 where
  pub offset : part.offset < 2 ^ 32
  pub holds : AreBytes 4294967295 part.bytes

abbrev pub ArePartBytes : List Part → Type 0
ArePartBytes parts = AllByRecursion (λ (p : Part). AllByRecursion (λ b. b < 256) p.bytes) parts

pub record IsMadeVersion (u : MadeVersion) : Type 0 where
  pub about : IsFile u.file
  pub at : IsStamp u.stamp
  pub from : AllByRecursion IsStamp u.bases
  pub ranges : IsRanges u.ranges
  pub bytes : ArePartBytes u.ranges.parts

pub record IsFlag (flag : Flag) : Type 0 where
  pub server : flag.server < 2 ^ 32
  pub birth : flag.birth < 2 ^ 64
  pub number : flag.number < 2 ^ 64

abbrev pub IsUpdate : Update → Type 0
IsUpdate (update.Version made) = IsMadeVersion made
IsUpdate (update.Place file place) = id.Fits file × IsPlace place
IsUpdate (update.Flag file flag) = id.Fits file × IsFlag flag
