-- What may seek a gold replica, and what sends walks: indexes of what is held.
use Rattle.std.specs.Prelude.{ℕ, ◌≡◌, Bool, false, ◌&&◌, ◌||◌, not, if◌then◌else◌, List, Option, None, Some}
use Rattle.std.specs.List.{list_any}
use Rattle.pg_base.specs.declared.id.FileId.{FileId}
use Rattle.pg_base.specs.Id.{is_same_file}
use Rattle.pg_register.specs.declared.flag.Flag.{Flag}
use Rattle.pg_register.specs.Flag.{is_live_other, is_raised, is_removed}
use Rattle.pg_edges.specs.declared.edge.Edge.{Edge}
use Rattle.pg_edges.specs.Edges.{is_listed}
use Rattle.pg_index.specs.Ids.{is_one_of}
use Rattle.pg_house.specs.pg_msg.declared.work.Touched.{Touched}
use Rattle.pg_names.specs.declared.attributes.Attributes.{Attributes}
use Rattle.pg_names.specs.Names.{NamesValue, own_at}
use Rattle.pg_replica.specs.declared.replica.Replica.{Replica}
use Rattle.pg_replica.specs.Replicas.{ByFile, or_nothing, replica_in}
use Rattle.pg_store.specs.declared.seekers.Seekers.{Seekers}
use Rattle.pg_walkers.specs.Walkers.{sends_walks}

-- an edge matches a raised flag of a live server: that of its peer has the birth that it names
abbrev pub matches : List ℕ → List Flag → Edge → Bool
matches removed flags edge =
    is_raised flags edge.peer edge.birth && not (is_removed removed edge.peer)

-- the flag of another live gold replica, to which there is no edge
abbrev pub is_apart : ℕ → List ℕ → List Edge → Flag → Bool
is_apart server removed edges flag = is_live_other server removed flag
    && not (is_listed edges flag.server flag.birth)

-- a replica with these flags, this birth and these edges seeks: a gold one where it sees a live
-- gold of another server to which it has no edge, a bronze one where it has no edge to a live gold
-- that it sees
abbrev pub seeks : ℕ → List ℕ → List Flag → ℕ → List Edge → Bool
seeks server removed flags birth edges = if is_raised flags server birth
    then list_any (is_apart server removed edges) flags
    else not (list_any (matches removed flags) edges)

-- ---- what is marked

-- anything may seek, or this thing is among those that may
abbrev pub is_marked : Seekers → FileId → Bool
is_marked seekers file = seekers.all || is_one_of file seekers.ids

-- a key of the thing is among these
abbrev pub is_touched : FileId → List Touched → Bool
is_touched file touched = list_any (λ (t : Touched). is_same_file t.file file) touched

-- it may be listed wrong: something changed since the list was made, and this may be it
abbrev pub is_stale : Seekers → FileId → Bool
is_stale seekers file = seekers.all || (not seekers.whole && is_one_of file seekers.ids)

-- those that pass a test were marked, and what was marked stays so. The list is as before
pub record Marks (test : FileId → Bool) (old new : Seekers) : Type 0 where
  pub more : (q : FileId) → is_marked new q ≡ false
      → (test q ≡ false) × (is_marked old q ≡ false)
  pub walkers : new.walkers ≡ old.walkers
  pub whole : new.whole ≡ false

-- ---- what is not marked does not seek, and is listed just where it sends walks

abbrev pub seeks_as : ℕ → List ℕ → Option Attributes → Replica → Bool
seeks_as server removed None x = false
seeks_as server removed (Some own) x = seeks server removed own.flags x.birth x.edges

-- so of a thing that may be held
abbrev pub may_seek : NamesValue → ByFile → FileId → Bool
may_seek names replicas file = seeks_as names.server names.removed (own_at names file)
    (or_nothing (replica_in replicas file))

abbrev pub AreMarked : NamesValue → ByFile → Seekers → Type 0
AreMarked names replicas seekers = (file : FileId)
    → (is_marked seekers file ≡ false → may_seek names replicas file ≡ false)
    × (is_stale seekers file ≡ false
    → is_one_of file seekers.walkers ≡ sends_walks names replicas file)
