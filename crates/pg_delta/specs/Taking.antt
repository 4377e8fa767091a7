-- Taking a version as a delta.
use Rattle.std.specs.Prelude.{List, map}
use Rattle.pg_base.specs.declared.head.Head.{Head}
use Rattle.pg_base.specs.declared.stamp.Stamp.{Stamp}
use Rattle.pg_base.specs.Version.{VersionValue, stamp_of}
use Rattle.pg_patch.specs.Ranges.{RangesValue, applied}
use Rattle.pg_content.specs.Content.{ContentValue, joined_content, shown_bytes}
use Rattle.pg_delta.specs.declared.delta.KeptDelta.{KeptDelta}

-- the stamps of the heads, in their order
abbrev pub stamps_of : ContentValue → List Stamp
stamps_of c = map stamp_of c.heads

-- the version of that head, whose body is what the ranges make of what is shown
abbrev pub patched_version : ContentValue → Head → RangesValue → VersionValue
patched_version c head ranges = record { head = head; body = applied (shown_bytes c) ranges }

-- the content with that version
abbrev pub with_patched : ContentValue → Head → RangesValue → ContentValue
with_patched c head ranges = joined_content c (patched_version c head ranges)

-- the delta to the version of the stamp
abbrev pub delta_to : List Stamp → Stamp → RangesValue → KeptDelta
delta_to from to ranges = record { from = from; to = to; ranges = ranges }
