-- The store that is made of parts is spelled as the parts are.
use Rattle.std.proofs.Common.{◌≡◌, ℕ, List, [], ◌∷◌, ◌++◌, map, length, Option, None, Some, refl, sym, ap, ◌∙◌, append_assoc}
use Rattle.std.specs.List.{flat_map}
use Rattle.std.proofs.lemmas.List.{length-map}
use Rattle.std.proofs.lemmas.List.Concat.{flat_map-cons}
use Rattle.pg_base.specs.Id.{file_cmp}
use Rattle.pg_base.specs.declared.id.FileId.{FileId}
use Rattle.pg_base.specs.declared.id.Kind.{Kind}
use Rattle.pg_base.specs.declared.id.Kind.TheVariants.{Dir, File}
use Rattle.pg_base.proofs.Orders.{file_total}
use Rattle.pg_codec.specs.Spelling.{file_bytes, flag_bytes, number_bytes}
use Rattle.pg_entries.specs.declared.entry.Entry.{Entry}
use Rattle.pg_packet_write.specs.Fields.{entry_bytes, golds_bytes, listed, place_bytes, policy_bytes}
use Rattle.pg_replica.specs.Replicas.{ByFile, or_nothing, replica_in}
use Rattle.pg_replica.specs.declared.replica.Replica.{Replica}
use Rattle.pg_state.specs.Spelling.{child_bytes, content_bytes, counters_bytes, edge_bytes, held_bytes, inside_bytes, mark, replica_bytes, servers_bytes, state_bytes, waiting_bytes}
use Rattle.pg_state_read.specs.Built.{at_child, inode_of, named, plain_store, replicated}
use Rattle.pg_state_fields.specs.Replicas.{inside_of}
use Rattle.pg_state_fields.specs.Spelling.{back_bytes, front_bytes, held_spelling, inside_spelling}
use Rattle.pg_state_read.specs.Spelling.{counters_spelling, marked_spelling, parts_spelling, servers_spelling, waiting_spelling}
use Rattle.pg_state_read.specs.declared.parts.Parts.{Parts}
use Rattle.pg_state_fields.specs.declared.replicas.Held.{Held}
use Rattle.pg_state_read.proofs.Built.{found_in}
use Rattle.pg_state_fields.proofs.Lasts.{Up, none_up, up_more}
use Rattle.pg_state_read.proofs.Rows.{AreRows}

each_child : (es : List Entry) → flat_map child_bytes (map at_child es) ≡ flat_map entry_bytes es
unfolding child_bytes
each_child [] = refl
each_child (e ∷ es) =
    flat_map-cons child_bytes (at_child e) (map at_child es) ∙ ap (λ (rest : List ℕ). entry_bytes e ++ rest) (each_child es) ∙ sym (flat_map-cons entry_bytes e es)

children_same : (es : List Entry) → listed 4 child_bytes (map at_child es) ≡ listed 4 entry_bytes es
unfolding listed
children_same es =
    let long : length (map at_child es) ≡ length es = length-map es at_child in
    ap (λ (n : ℕ). number_bytes 4 n ++ flat_map child_bytes (map at_child es)) long ∙ ap (λ (rest : List ℕ). number_bytes 4 (length es) ++ rest) (each_child es)

inside_same : (kind : Kind) (h : Held) → inside_bytes kind (inode_of h) h.replica ≡ inside_spelling kind (inside_of h)
unfolding inside_bytes inside_spelling content_bytes
inside_same Dir h = children_same h.entries
inside_same File h = refl

four : (a b c d x : List ℕ) → (a ++ (b ++ (c ++ d))) ++ x ≡ a ++ (b ++ (c ++ (d ++ x)))
four a b c d x =
    append_assoc a (b ++ (c ++ d)) x ∙ ap (λ (y : List ℕ). a ++ y) (append_assoc b (c ++ d) x ∙ ap (λ (y : List ℕ). b ++ y) (append_assoc c d x))

seven : (a b c d f g i j e : List ℕ) → i ≡ j → a ++ (b ++ (c ++ (d ++ (f ++ (g ++ (i ++ e)))))) ≡ (a ++ (b ++ (c ++ d))) ++ ((f ++ g) ++ (j ++ e))
seven a b c d f g i j e same =
    ap (λ (y : List ℕ). a ++ (b ++ (c ++ (d ++ (f ++ (g ++ (y ++ e))))))) same
    ∙ ap (λ (y : List ℕ). a ++ (b ++ (c ++ (d ++ y)))) (sym (append_assoc f g (j ++ e)))
    ∙ sym (four a b c d ((f ++ g) ++ (j ++ e)))

held_same : (h : Held) → replica_bytes h.file (inode_of h) h.replica ≡ held_spelling h
unfolding replica_bytes held_spelling front_bytes back_bytes
held_same h = seven (file_bytes h.file) (number_bytes 8 h.replica.birth) (policy_bytes h.replica.content.policy) (flag_bytes h.full)
    (place_bytes h.own.place) (golds_bytes h.own.flags) (inside_bytes h.file.kind (inode_of h) h.replica) (inside_spelling h.file.kind (inside_of h)) (listed 1 edge_bytes h.replica.edges)
    (inside_same h.file.kind h)

-- each thing is spelled with its own replica
each_held : (last : Option FileId) (front : ByFile) (hs : List Held) → Up file_cmp last front → AreRows last hs
    → flat_map (held_bytes (front ++ map replicated hs)) (map named hs) ≡ flat_map held_spelling hs
unfolding held_bytes
each_held last front [] up row = refl
each_held last front (h ∷ hs) up row =
    let all : ByFile = front ++ map replicated (h ∷ hs) in
    let found : replica_in all h.file ≡ Some h.replica = found_in h.file h.replica front (map replicated hs) (up h.file row.0) in
    let here : held_bytes all (named h) ≡ held_spelling h = ap (λ (o : Option Replica). replica_bytes h.file (inode_of h) (or_nothing o)) found ∙ held_same h in
    let moved : (front ++ replicated h ∷ []) ++ map replicated hs ≡ all = append_assoc front (replicated h ∷ []) (map replicated hs) in
    let rest : flat_map (held_bytes all) (map named hs) ≡ flat_map held_spelling hs =
    ap (λ (rs : ByFile). flat_map (held_bytes rs) (map named hs)) (sym moved)
    ∙ each_held (Some h.file) (front ++ replicated h ∷ []) hs (up_more file_cmp file_total last h.file h.replica front up row.0) row.1.1 in
    flat_map-cons (held_bytes all) (named h) (map named hs) ∙ ap (λ (bytes : List ℕ). bytes ++ flat_map (held_bytes all) (map named hs)) here
    ∙ ap (λ (bytes : List ℕ). held_spelling h ++ bytes) rest ∙ sym (flat_map-cons held_spelling h hs)

all_same : (hs : List Held) → AreRows None hs → listed 4 (held_bytes (map replicated hs)) (map named hs) ≡ listed 4 held_spelling hs
unfolding listed
all_same hs row =
    let long : length (map named hs) ≡ length hs = length-map hs named in
    ap (λ (n : ℕ). number_bytes 4 n ++ flat_map (held_bytes (map replicated hs)) (map named hs)) long
    ∙ ap (λ (rest : List ℕ). number_bytes 4 (length hs) ++ rest) (each_held None [] hs (none_up Replica file_cmp) row)

pub store_spelled : (p : Parts) → AreRows None p.held → state_bytes (plain_store p) ≡ marked_spelling p
unfolding state_bytes marked_spelling parts_spelling servers_bytes servers_spelling counters_bytes counters_spelling waiting_bytes waiting_spelling
store_spelled p row =
    ap (λ (held : List ℕ). mark ++ (servers_spelling p.servers ++ (counters_spelling p.counters ++ (held ++ waiting_spelling p.waiting)))) (all_same p.held row)
