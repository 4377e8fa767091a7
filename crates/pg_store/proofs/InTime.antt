-- What a clock that is not at its end says of numbers.
use Rattle.std.proofs.Common.{◌≡◌, ◌<◌, ◌≤◌, ◌^◌, true}
use Rattle.std.specs.Prelude.{nat_le, nat_lt}
use Rattle.std.proofs.lemmas.Bool.{and_parts, leb-true, ltb-true}
use Rattle.pg_base.specs.Stamp.{clock_end}
use Rattle.pg_store.specs.declared.store.Store.{Store}
use Rattle.pg_store.specs.Store.{has_time, is_before_clock_end}

time_parts : (store : Store) → is_before_clock_end store ≡ true → has_time store.names.last store.tags store.files store.births ≡ true
time_parts store h = (and_parts (has_time store.names.last store.tags store.files store.births) _ h).0

pub last_in_time : (store : Store) → is_before_clock_end store ≡ true → store.names.last < 2 ^ 62
last_in_time store h = ltb-true store.names.last clock_end (and_parts _ _ (time_parts store h)).0

pub tags_in_time : (store : Store) → is_before_clock_end store ≡ true → store.tags ≤ 2 ^ 62
tags_in_time store h = leb-true store.tags clock_end (and_parts _ _ (and_parts _ _ (time_parts store h)).1).0

pub files_in_time : (store : Store) → is_before_clock_end store ≡ true → store.files < 2 ^ 62
files_in_time store h =
    ltb-true store.files clock_end (and_parts _ _ (and_parts _ _ (and_parts _ _ (time_parts store h)).1).1).0

pub births_in_time : (store : Store) → is_before_clock_end store ≡ true → store.births < 2 ^ 62
births_in_time store h =
    let behind = and_parts (nat_lt store.names.last clock_end) _ (time_parts store h) in
    let later = and_parts (nat_le store.tags clock_end) _ behind.1 in
    ltb-true store.births clock_end (and_parts (nat_lt store.files clock_end) (nat_lt store.births clock_end) later.1).1
