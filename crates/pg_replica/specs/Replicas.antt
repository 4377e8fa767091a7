-- The replicas of a server, by file.
use Rattle.std.specs.Prelude.{ℕ, ◌==◌, Bool, false, if◌then◌else◌, List, length, not, Option, None, Some}
use Rattle.std.specs.List.{filter, list_any}
use Rattle.std.specs.BTreeMap.{is_at, insert_entry}
use Rattle.std.specs.Map.{lookup}
use Rattle.pg_base.specs.declared.id.FileId.{FileId}
use Rattle.pg_base.specs.Id.{file_cmp}
use Rattle.pg_base.specs.declared.policy.Policy.TheVariants.{Last}
use Rattle.pg_base.specs.declared.stamp.Stamp.{Stamp}
use Rattle.pg_base.specs.Version.{VersionValue}
use Rattle.pg_patch.specs.Ranges.{RangesValue}
use Rattle.pg_delta.specs.declared.delta.KeptDelta.{KeptDelta}
use Rattle.pg_edges.specs.declared.key.Key.{Key}
use Rattle.pg_edges.specs.Edges.{is_listed, makes_edge}
use Rattle.pg_replica.specs.declared.link.Link.{Link}
use Rattle.pg_replica.specs.declared.replica.Replica.{Replica}
use Rattle.pg_replica.specs.Replica.{covers, has_edge, knows_own_end, new_replica, own_actor, with_ack, with_head, with_kept, with_link, with_touch, with_unlink, with_write}

abbrev pub ByFile : Type 0
ByFile = List (FileId × Replica)

-- ---- look-ups

-- the replica of a file, if there is one
abbrev pub replica_in : ByFile → FileId → Option Replica
replica_in replicas file = lookup (is_at (file_cmp file)) replicas

-- what stands for a replica where there is none: no version, no edge, and no birth, since births
-- are at least 1
abbrev pub nothing : Replica
nothing = new_replica 0 Last

abbrev pub or_nothing : Option Replica → Replica
or_nothing None = nothing
or_nothing (Some x) = x

-- there is a replica, and it has this birth
abbrev pub is_of_birth : Option Replica → ℕ → Bool
is_of_birth None birth = false
is_of_birth (Some x) birth = x.birth == birth

-- there is one, and a link to this birth of a peer makes an edge of it
abbrev pub takes_link : Option Replica → ℕ → ℕ → Bool
takes_link None peer birth = false
takes_link (Some x) peer birth = makes_edge x.edges peer birth

-- there is one, and it has an edge to this birth of a peer
abbrev pub lists_peer : Option Replica → ℕ → ℕ → Bool
lists_peer None peer birth = false
lists_peer (Some x) peer birth = is_listed x.edges peer birth

-- there is one, and it does not cover the version
abbrev pub takes_version : Option Replica → VersionValue → Bool
takes_version None v = false
takes_version (Some x) v = not (covers x v)

-- the replica of a file, if there is one, knows a number at its end of this server
abbrev pub is_own_end_in : ℕ → Option Replica → Bool
is_own_end_in server None = false
is_own_end_in server (Some x) = knows_own_end server x

-- some replica does
abbrev pub have_own_end : ByFile → ℕ → Bool
have_own_end replicas server = list_any (λ r. knows_own_end server r.1) replicas

-- how many edges it has
abbrev pub edge_count : Option Replica → ℕ
edge_count None = 0
edge_count (Some x) = length x.edges

-- ---- changes. Where there is no replica of the file nothing changes

-- this is the replica of a file from now on
abbrev pub put_replica : ByFile → FileId → Replica → ByFile
put_replica replicas file x = insert_entry file_cmp replicas file x

-- the replica of a file goes
abbrev pub without_replica : ByFile → FileId → ByFile
without_replica replicas file = filter (λ r. not (is_at (file_cmp file) r.0)) replicas

-- a key is touched
abbrev pub replicas_touched : ByFile → FileId → Key → ℕ → Option Replica → ByFile
replicas_touched replicas file k tags None = replicas
replicas_touched replicas file k tags (Some x) =
    put_replica replicas file (with_touch x k tags)

-- a link to this birth of a peer makes an edge, on which these keys are touched
abbrev pub replicas_linked : ByFile → FileId → ℕ → ℕ → List Key → ℕ → Option Replica → ByFile
replicas_linked replicas file peer birth ks tags None = replicas
replicas_linked replicas file peer birth ks tags (Some x) =
    put_replica replicas file (with_link x peer birth ks tags)

-- the edge to this birth of a peer goes
abbrev pub replicas_unlinked : ByFile → FileId → ℕ → ℕ → Option Replica → ByFile
replicas_unlinked replicas file peer birth None = replicas
replicas_unlinked replicas file peer birth (Some x) =
    put_replica replicas file (with_unlink x peer birth)

-- a version that is not covered is a head from then on
abbrev pub replicas_taking : ByFile → FileId → VersionValue → ℕ → Option Replica → ByFile
replicas_taking replicas file v tags None = replicas
replicas_taking replicas file v tags (Some x) =
    put_replica replicas file (with_head x v tags)

-- a version of this stamp is made
abbrev pub replicas_writing :
    ByFile → FileId → Stamp → RangesValue → ℕ → Option Replica → ByFile
replicas_writing replicas file stamp ranges tags None = replicas
replicas_writing replicas file stamp ranges tags (Some x) =
    put_replica replicas file (with_write x (own_actor x stamp.server) stamp ranges tags)

-- one more delta is kept
abbrev pub replicas_keeping : ByFile → FileId → KeptDelta → Option Replica → ByFile
replicas_keeping replicas file delta None = replicas
replicas_keeping replicas file delta (Some x) = put_replica replicas file (with_kept x delta)

-- an answer comes along an edge
abbrev pub replicas_acked : ByFile → FileId → Link → Key → ℕ → Option Replica → ByFile
replicas_acked replicas file link k tag None = replicas
replicas_acked replicas file link k tag (Some x) =
    if has_edge x link
    then put_replica replicas file (with_ack x link.peer link.birth k tag)
    else replicas
