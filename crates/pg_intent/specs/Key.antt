-- What tells one intention from another.
use Rattle.std.specs.Prelude.{ℕ, Bool, ◌==◌, ◌&&◌, true, false}
use Rattle.std.specs.Ordering.{nat_cmp, ordering_then}
use Rattle.std.specs.declared.cmp.Ordering.{Ordering}
use Rattle.std.specs.declared.cmp.Ordering.TheVariants.{Equal}
use Rattle.pg_base.specs.Id.{file_cmp, is_same_file}
use Rattle.pg_intent.specs.declared.key.IntentKey.{IntentKey}
use Rattle.pg_intent.specs.declared.key.IntentKey.TheVariants as key

-- of one kind, and about the same
abbrev pub is_same_key : IntentKey → IntentKey → Bool
is_same_key (key.Bye file birth peer) (key.Bye f b p) =
    is_same_file file f && (birth == b && peer == p)
is_same_key (key.Seek file) (key.Seek f) = is_same_file file f
is_same_key (key.Fill file) (key.Fill f) = is_same_file file f
is_same_key (key.Patch dir child) (key.Patch d c) = is_same_file dir d && is_same_file child c
is_same_key (key.Confirm dir child) (key.Confirm d c) = is_same_file dir d && is_same_file child c
is_same_key (key.Leave file) (key.Leave f) = is_same_file file f
is_same_key _ _ = false

-- a Bye and a Leave are for their peer alone
abbrev pub is_for_peer : IntentKey → Bool
is_for_peer (key.Bye file birth peer) = true
is_for_peer (key.Leave file) = true
is_for_peer _ = false

-- ---- which of two begins first, where one event begins both

-- Byes, then Patches, Fills, Seeks, Confirms, Leaves
abbrev pub rank : IntentKey → ℕ
rank (key.Bye file birth peer) = 0
rank (key.Patch dir child) = 1
rank (key.Fill file) = 2
rank (key.Seek file) = 3
rank (key.Confirm dir child) = 4
rank (key.Leave file) = 5

-- of one kind, by the file or directory, then by the child, or by birth and peer
abbrev pub same_rank_cmp : IntentKey → IntentKey → Ordering
same_rank_cmp (key.Bye file birth peer) (key.Bye f b p) =
    ordering_then (file_cmp file f) (ordering_then (nat_cmp birth b) (nat_cmp peer p))
same_rank_cmp (key.Patch dir child) (key.Patch d c) =
    ordering_then (file_cmp dir d) (file_cmp child c)
same_rank_cmp (key.Fill file) (key.Fill f) = file_cmp file f
same_rank_cmp (key.Seek file) (key.Seek f) = file_cmp file f
same_rank_cmp (key.Confirm dir child) (key.Confirm d c) =
    ordering_then (file_cmp dir d) (file_cmp child c)
same_rank_cmp (key.Leave file) (key.Leave f) = file_cmp file f
same_rank_cmp _ _ = Equal

abbrev pub key_cmp : IntentKey → IntentKey → Ordering
key_cmp a b = ordering_then (nat_cmp (rank a) (rank b)) (same_rank_cmp a b)
