-- Keys of replicas that peers have not acknowledged: their order, and which a peer has.
use Rattle.std.specs.Prelude.{ℕ, Bool, List, [], Option, None, Some}
use Rattle.std.specs.Ordering.{nat_cmp, ordering_then, is_eq}
use Rattle.std.specs.declared.cmp.Ordering.{Ordering}
use Rattle.std.specs.List.{list_any}
use Rattle.std.specs.BTreeMap.{is_at}
use Rattle.std.specs.Map.{lookup}
use Rattle.pg_base.specs.Id.{file_cmp}
use Rattle.pg_edges.specs.Key.{key_cmp}
use Rattle.pg_unacked.specs.declared.due.Due.{Due}

-- by file, and then by key
abbrev pub due_cmp : Due → Due → Ordering
due_cmp a b = ordering_then (file_cmp a.file b.file) (key_cmp a.key b.key)

abbrev pub is_same_due : Due → Due → Bool
is_same_due a b = is_eq (due_cmp a b)

-- the due is among these
abbrev pub is_due : Due → List Due → Bool
is_due due dues = list_any (is_same_due due) dues

-- the dues of each peer
abbrev pub UnackedValue : Type 0
UnackedValue = List (ℕ × List Due)

abbrev pub or_none : Option (List Due) → List Due
or_none None = []
or_none (Some dues) = dues

-- the dues of a peer: where it has none, no due
abbrev pub dues_to : UnackedValue → ℕ → List Due
dues_to unacked peer = or_none (lookup (is_at (nat_cmp peer)) unacked)

-- the peer has the due
abbrev pub has_due : UnackedValue → ℕ → Due → Bool
has_due unacked peer due = is_due due (dues_to unacked peer)
