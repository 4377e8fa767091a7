-- What a place or a flag that brings nothing leaves.
use Rattle.std.proofs.Common.{◌≡◌, false, cond, List, Option, None, Some, refl, ap, ◌∙◌}
use Rattle.std.specs.BTreeMap.{is_at}
use Rattle.std.proofs.lemmas.Map.Steps.{set_value_same}
use Rattle.pg_base.specs.declared.id.FileId.{FileId}
use Rattle.pg_base.specs.Id.{file_cmp}
use Rattle.pg_base.specs.Stamp.{is_before}
use Rattle.pg_register.specs.declared.flag.Flag.{Flag}
use Rattle.pg_register.specs.declared.place.Place.{Place}
use Rattle.pg_register.specs.Flag.{flag_of, is_new, put_flag}
use Rattle.pg_names.specs.Names.{InodeValue, NamesValue, changed, is_flag_new, is_place_new, join_flag, join_place, known, own_at, own_of, with_flag, with_held, with_place}

abbrev names_with : NamesValue → List (FileId × InodeValue) → NamesValue
names_with names held =
    record { server = names.server; last = names.last; removed = names.removed; held = held }

-- what is written stood there before
same_held : (names : NamesValue) (file : FileId) (x y : InodeValue) → known names file ≡ Some x → y ≡ x → with_held names file y ≡ names
same_held names file x y there same =
    ap (with_held names file) same ∙ ap (names_with names) (set_value_same (is_at (file_cmp file)) names.held x there)

-- ---- a place

place_stays : (x : InodeValue) (place : Place) → is_before x.own.place.stamp place.stamp ≡ false → with_place place x ≡ x
place_stays x place old = ap (λ b. record { full = x.full; own = record { place = cond b place x.own.place; flags = x.own.flags }; entries = x.entries }) old

place_by : (names : NamesValue) (file : FileId) (place : Place) (o : Option InodeValue) → known names file ≡ o
    → is_place_new (own_of o) place ≡ false → changed names file (with_place place) o ≡ names
place_by names file place None there old = refl
place_by names file place (Some x) there old = same_held names file x (with_place place x) there (place_stays x place old)

pub old_place : (names : NamesValue) (file : FileId) (place : Place) → is_place_new (own_at names file) place ≡ false
    → join_place names file place ≡ names
old_place names file place old = place_by names file place (known names file) refl old

-- ---- a flag

flag_stays : (x : InodeValue) (flag : Flag) → is_new (flag_of x.own.flags flag.server) flag ≡ false → with_flag flag x ≡ x
flag_stays x flag old =
    ap (λ b. record { full = x.full; own = record { place = x.own.place; flags = cond b (put_flag x.own.flags flag) x.own.flags }; entries = x.entries }) old

flag_by : (names : NamesValue) (file : FileId) (flag : Flag) (o : Option InodeValue) → known names file ≡ o
    → is_flag_new (own_of o) flag ≡ false → changed names file (with_flag flag) o ≡ names
flag_by names file flag None there old = refl
flag_by names file flag (Some x) there old = same_held names file x (with_flag flag x) there (flag_stays x flag old)

pub old_flag : (names : NamesValue) (file : FileId) (flag : Flag) → is_flag_new (own_at names file) flag ≡ false
    → join_flag names file flag ≡ names
old_flag names file flag old = flag_by names file flag (known names file) refl old
