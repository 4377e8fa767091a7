-- What holds of the keys on the edges of a replica.
use Rattle.std.specs.Prelude.{ℕ, ◌≡◌, List, Some}
use Rattle.pg_edges.specs.declared.key.Key.{Key}
use Rattle.pg_edges.specs.declared.edge.Edge.{Edge}
use Rattle.pg_edges.specs.Edges.{tag_at}
use Rattle.pg_base.specs.Version.{VersionValue}
use Rattle.pg_content.specs.Content.{Among}
use Rattle.pg_replica.specs.declared.replica.Replica.{Replica}
use Rattle.pg_replica.specs.Replica.{key_of}

-- the key is that of one of these heads
abbrev pub IsKeyOf : List VersionValue → Key → Type 0
IsKeyOf heads k = (v : VersionValue) × Among v heads × (k ≡ key_of v)

-- each key that is unacknowledged on one of the edges is that of a head
abbrev pub OnlyHeads : List Edge → List VersionValue → Type 0
OnlyHeads es heads =
    (peer birth : ℕ) (k : Key) (tag : ℕ) → tag_at es peer birth k ≡ Some tag → IsKeyOf heads k

-- no key stands on an edge but a head's
abbrev pub KeysAreHeads : Replica → Type 0
KeysAreHeads x = OnlyHeads x.edges x.content.heads
