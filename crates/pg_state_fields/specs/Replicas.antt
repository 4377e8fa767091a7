-- Replicas, with what is known of the names of what they are of.
use Rattle.std.specs.Prelude.{◌≡◌, Bool, true, false, List, [], Option, None, Some}
use Rattle.pg_base.specs.Id as id
use Rattle.pg_base.specs.Id.{file_cmp}
use Rattle.pg_base.specs.declared.id.FileId.{FileId}
use Rattle.pg_base.specs.declared.id.Kind.{Kind}
use Rattle.pg_base.specs.declared.id.Kind.TheVariants.{Dir, File}
use Rattle.pg_base.specs.declared.policy.Policy.{Policy}
use Rattle.pg_base.specs.declared.policy.Policy.TheVariants.{Last, Join}
use Rattle.pg_base.specs.Version.{VersionValue}
use Rattle.pg_codec.specs.Laws.{Any, HasWidth}
use Rattle.pg_codec.specs.Reading.{Field, followed_by, seen_as, checked, number_at, flag_at}
use Rattle.pg_delta.specs.declared.delta.KeptDelta.{KeptDelta}
use Rattle.pg_edges.specs.declared.edge.Edge.{Edge}
use Rattle.pg_entries.specs.declared.entry.Entry.{Entry}
use Rattle.pg_names.specs.declared.attributes.Attributes.{Attributes}
use Rattle.pg_packet_fields.specs.Faults.{of_packet}
use Rattle.pg_packet_fields.specs.Reading.{policy_at}
use Rattle.pg_packet_fields.specs.declared.error.PacketError.{PacketError}
use Rattle.pg_state_fields.specs.declared.replicas.Front.{Front}
use Rattle.pg_state_fields.specs.declared.replicas.Inside.{Inside}
use Rattle.pg_state_fields.specs.declared.replicas.Held.{Held}
use Rattle.pg_state_fields.specs.Contents.{AreDeltas, AreHeads, deltas_at, heads_at}
use Rattle.pg_state_fields.specs.Edges.{AreEdges, edges_at}
use Rattle.pg_state_fields.specs.Flags.{AreEntries, IsOwn, entries_at, own_at}
use Rattle.pg_state_fields.specs.Orders.{AreCounted, Passes, counted_list_at, is_behind, next_file_at, tested_of}

-- a directory has the first of them
abbrev pub is_policy_of : Kind → Policy → Bool
is_policy_of Dir Last = true
is_policy_of Dir Join = false
is_policy_of File policy = true

unfoldable pub policy_of_at : Kind → Field PacketError Policy
policy_of_at kind from = checked (tested_of (is_policy_of kind)) policy_at from

-- an id behind the last one, birth, policy, whether it is full
unfoldable pub front_at : Option FileId → Field PacketError Front
front_at last from = seen_as
    (λ x. record { file = x.0; birth = x.1.0; policy = x.1.1.0; full = x.1.1.1 })
    (followed_by (next_file_at last) (λ file. followed_by (of_packet (number_at 8))
    (λ birth. followed_by (policy_of_at file.kind) (λ policy. of_packet flag_at)))) from

-- what a directory lists
abbrev pub with_entries : Policy → List Entry → Inside
with_entries policy entries = record {
  entries = entries;
  content = record { policy = policy; heads = [] };
  kept = [];
}

-- what a file holds
abbrev pub with_heads : Policy → List VersionValue → List KeptDelta → Inside
with_heads policy heads kept = record {
  entries = [];
  content = record { policy = policy; heads = heads };
  kept = kept;
}

-- the entries of a directory, the heads and the kept deltas of a file
unfoldable pub inside_at : Kind → Policy → Field PacketError Inside
inside_at Dir policy from = seen_as (with_entries policy) entries_at from
inside_at File policy from = seen_as (λ x. with_heads policy x.0 x.1)
    (followed_by heads_at (λ heads. deltas_at)) from

-- place and flags, what is inside, edges
unfoldable pub back_at : Kind → Policy → Field PacketError (Attributes × (Inside × List Edge))
back_at kind policy from =
    followed_by own_at (λ own. followed_by (inside_at kind policy) (λ inside. edges_at)) from

abbrev pub held_with : Front → Attributes → Inside → List Edge → Held
held_with front own inside edges = record {
  file = front.file;
  full = front.full;
  own = own;
  entries = inside.entries;
  replica = record {
    birth = front.birth;
    content = inside.content;
    kept = inside.kept;
    edges = edges;
  };
}

unfoldable pub held_at : Option FileId → Field PacketError Held
held_at last from = seen_as (λ x. held_with x.0 x.1.0 x.1.1.0 x.1.1.1)
    (followed_by (front_at last) (λ front. back_at front.file.kind front.policy)) from

abbrev pub to_held : Option FileId → Held → Option FileId
to_held last h = Some h.file

-- a count of four bytes, and so many replicas, by id
unfoldable pub all_held_at : Field PacketError (List Held)
all_held_at from = counted_list_at 4 held_at to_held None from

-- ---- what can be read

pub record IsFront (last : Option FileId) (f : Front) : Type 0 where
  pub file : Passes id.Fits (is_behind file_cmp last) f.file
  pub birth : HasWidth 8 f.birth
  pub policy : Passes Any (is_policy_of f.file.kind) f.policy

-- of a directory there are no heads and no deltas, of a file no entries
abbrev pub IsInside : Kind → Policy → Inside → Type 0
IsInside Dir policy inside = AreEntries inside.entries
    × (inside ≡ with_entries policy inside.entries)
IsInside File policy inside = (AreHeads inside.content.heads × AreDeltas inside.kept)
    × (inside ≡ with_heads policy inside.content.heads inside.kept)

abbrev pub front_of : Held → Front
front_of h = record {
  file = h.file;
  birth = h.replica.birth;
  policy = h.replica.content.policy;
  full = h.full;
}

abbrev pub inside_of : Held → Inside
inside_of h =
    record { entries = h.entries; content = h.replica.content; kept = h.replica.kept }

pub record IsHeld (last : Option FileId) (h : Held) : Type 0 where
  pub front : IsFront last (front_of h)
  pub own : IsOwn h.own
  pub inside : IsInside h.file.kind h.replica.content.policy (inside_of h)
  pub edges : AreEdges h.replica.edges

abbrev pub AreHeld : List Held → Type 0
AreHeld all = AreCounted 4 IsHeld to_held None all
