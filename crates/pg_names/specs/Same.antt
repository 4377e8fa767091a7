-- Whether two places, flags or cells are the same.
use Rattle.std.specs.Prelude.{Bool, ◌==◌, ◌&&◌, not, if◌then◌else◌, List}
use Rattle.std.specs.Str.{bytes_eq}
use Rattle.std.specs.Cmp.Lexicographic.{pointwise}
use Rattle.pg_base.specs.declared.stamp.Stamp.{Stamp}
use Rattle.pg_base.specs.Id.{is_same_file}
use Rattle.pg_register.specs.declared.flag.Flag.{Flag}
use Rattle.pg_register.specs.declared.place.Place.{Place}
use Rattle.pg_entries.specs.declared.entry.Entry.{Entry}
use Rattle.pg_names.specs.declared.attributes.Attributes.{Attributes}

abbrev pub is_same_truth : Bool → Bool → Bool
is_same_truth a b = if a then b else not b

abbrev pub is_same_stamp : Stamp → Stamp → Bool
is_same_stamp a b = a.time == b.time && a.server == b.server

abbrev pub is_same_place : Place → Place → Bool
is_same_place a b = is_same_stamp a.stamp b.stamp && (is_same_file a.parent b.parent
    && (bytes_eq a.name b.name && is_same_truth a.live b.live))

abbrev pub is_same_flag : Flag → Flag → Bool
is_same_flag a b = a.server == b.server
    && (a.birth == b.birth && (a.number == b.number && is_same_truth a.raised b.raised))

abbrev pub is_same_flags : List Flag → List Flag → Bool
is_same_flags a b = pointwise is_same_flag a b

abbrev pub is_same_own : Attributes → Attributes → Bool
is_same_own a b = is_same_place a.place b.place && is_same_flags a.flags b.flags

abbrev pub is_same_entry : Entry → Entry → Bool
is_same_entry a b = is_same_file a.child b.child
    && (is_same_place a.place b.place && is_same_flags a.flags b.flags)
