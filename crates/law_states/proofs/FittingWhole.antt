-- A store that can be read has a spelling.
use Rattle.std.proofs.Common.{◌≡◌, ℕ, ◌≤◌, true, false, List, [], ◌∷◌, ◌++◌, map, Option, None, Some, refl, sym, ap, subst, ◌∙◌, append_assoc, arith}
use Rattle.std.specs.Prelude.{nat_le, ◌&&◌}
use Rattle.std.specs.List.{AllByRecursion, list_all}
use Rattle.std.specs.List.Sorted.{IsStrictlySortedBy}
use Rattle.std.specs.Map.{keys_of}
use Rattle.std.proofs.lemmas.Bool.{leb-true}
use Rattle.std.proofs.lemmas.List.{length-map}
use Rattle.pg_base.specs.Id.{file_cmp}
use Rattle.pg_base.specs.Version.{VersionValue}
use Rattle.pg_base.specs.declared.id.FileId.{FileId}
use Rattle.pg_base.specs.declared.id.Kind.{Kind}
use Rattle.pg_base.specs.declared.id.Kind.TheVariants.{Dir, File}
use Rattle.pg_base.specs.declared.policy.Policy.{Policy}
use Rattle.pg_base.specs.declared.policy.Policy.TheVariants.{Last, Join}
use Rattle.pg_base.proofs.Orders.{file_total}
use Rattle.pg_entries.specs.declared.entry.Entry.{Entry}
use Rattle.pg_intent.specs.declared.intent.Intent.{Intent}
use Rattle.pg_intent.specs.declared.intent.Intent.TheVariants as intent
use Rattle.pg_names.specs.Names.{InodeValue}
use Rattle.pg_packet_fields.specs.Lists.{Chain}
use Rattle.pg_packet_fields.proofs.Fitting.{fits_place}
use Rattle.pg_packet_write.specs.Fits.{IsServer}
use Rattle.pg_replica.specs.Replicas.{ByFile, replica_in}
use Rattle.pg_replica.specs.declared.replica.Replica.{Replica}
use Rattle.pg_state.specs.Fits.{FitReplicas, FitServers, FitsBeside, FitsInside, FitsReplica, FitsState, IsBesideInTime, IsHeldInTime, IsIntentInTime}
use Rattle.pg_state_fields.specs.Orders.{AreCounted, unchanged}
use Rattle.pg_state_fields.specs.Replicas.{AreHeld, IsHeld, IsInside, inside_of, is_policy_of, to_held}
use Rattle.pg_state_fields.specs.declared.replicas.Held.{Held}
use Rattle.pg_state_fields.specs.declared.replicas.Inside.{Inside}
use Rattle.pg_state_fields.proofs.Lasts.{Up, none_up, up_more}
use Rattle.pg_state_read.specs.Built.{IsWholeState, at_child, inode_of, named, plain_store, replicated}
use Rattle.pg_state_read.specs.Whole.{AnyServer, AreParts, are_in_time, is_entry_in_time, is_head_in_time, is_held_in_time, is_intent_in_time}
use Rattle.pg_state_read.specs.declared.parts.Parts.{Parts}
use Rattle.pg_state_read.proofs.Built.{found_in}
use Rattle.pg_store.specs.declared.store.Store.{Store}
use Rattle.law_states.proofs.Fitting.{deltas_fit, edges_fit, entries_fit, flags_fit, heads_fit}
use Rattle.law_states.proofs.FittingRest.{intents_fit, notes_fit, wishes_fit}
use Rattle.law_states.proofs.Ordered.{Rows, all_of, both, sorted}

-- ---- one thing

last_is : (p : Policy) → is_policy_of Dir p ≡ true → p ≡ Last
last_is Last test = refl
last_is Join test = absurd (let k : false ≡ true = test in cc)

inside_fits : (kind : Kind) (h : Held) → is_policy_of kind h.replica.content.policy ≡ true → IsInside kind h.replica.content.policy (inside_of h)
    → FitsInside kind (inode_of h) h.replica
inside_fits Dir h test is = record {
  policy = last_is h.replica.content.policy test;
  heads = ap (λ (i : Inside). i.content.heads) is.1;
  kept = ap (λ (i : Inside). i.kept) is.1;
  children = entries_fit h.entries is.0;
}
inside_fits File h test is = record {
  entries = ap (λ (i : Inside). map at_child i.entries) is.1;
  heads = heads_fit h.replica.content.heads is.0.0;
  kept = deltas_fit h.replica.kept is.0.1;
}

held_fits : (last : Option FileId) (h : Held) → IsHeld last h → FitsReplica h.file (inode_of h) h.replica
held_fits last h is = record {
  place = fits_place h.own.place is.own.place;
  flags = flags_fit h.own.flags is.own.flags;
  inside = inside_fits h.file.kind h is.front.policy.1 is.inside;
  edges = edges_fit h.replica.edges is.edges;
}

each_held : (last : Option FileId) (hs : List Held) → Chain IsHeld to_held last hs → AllByRecursion (λ (h : Held). FitsReplica h.file (inode_of h) h.replica) hs
each_held last [] chain = tt
each_held last (h ∷ hs) chain = (held_fits last h chain.0, each_held (Some h.file) hs chain.1)

-- ---- each with its own replica

abbrev file_in : Held → FileId
file_in h = h.file

held_rows : (last : Option FileId) (hs : List Held) → Chain IsHeld to_held last hs → Rows file_cmp file_in last hs
held_rows last [] chain = tt
held_rows last (h ∷ hs) chain = (chain.0.front.file.1, held_rows (Some h.file) hs chain.1)

-- what holds of each with its replica holds of each with what is found
all_beside : (B : FileId → InodeValue → Option Replica → Type 0) (last : Option FileId) (front : ByFile) (hs : List Held) → Up file_cmp last front → Rows file_cmp file_in last hs
    → AllByRecursion (λ (h : Held). B h.file (inode_of h) (Some h.replica)) hs
    → AllByRecursion (λ (e : FileId × InodeValue). B e.0 e.1 (replica_in (front ++ map replicated hs) e.0)) (map named hs)
all_beside B last front [] up rows all = tt
all_beside B last front (h ∷ hs) up rows all =
    let found : replica_in (front ++ map replicated (h ∷ hs)) h.file ≡ Some h.replica = found_in h.file h.replica front (map replicated hs) (up h.file rows.0) in
    let moved : (front ++ replicated h ∷ []) ++ map replicated hs ≡ front ++ map replicated (h ∷ hs) = append_assoc front (replicated h ∷ []) (map replicated hs) in (
      subst (λ (o : Option Replica). B h.file (inode_of h) o) (sym found) all.0,
      subst (λ (rs : ByFile). AllByRecursion (λ (e : FileId × InodeValue). B e.0 e.1 (replica_in rs e.0)) (map named hs)) moved
          (all_beside B (Some h.file) (front ++ replicated h ∷ []) hs (up_more file_cmp file_total last h.file h.replica front up rows.0) rows.1 all.1),
    )

named_keys : (hs : List Held) → keys_of (map named hs) ≡ map file_in hs
named_keys [] = refl
named_keys (h ∷ hs) = ap (λ (ks : List FileId). h.file ∷ ks) (named_keys hs)

replicated_keys : (hs : List Held) → keys_of (map replicated hs) ≡ map file_in hs
replicated_keys [] = refl
replicated_keys (h ∷ hs) = ap (λ (ks : List FileId). h.file ∷ ks) (replicated_keys hs)

held_fit : (hs : List Held) → AreHeld hs → FitReplicas (map named hs) (map replicated hs)
held_fit hs are =
    let count = are.count in
    let long = length-map hs named in
    let rows = held_rows None hs are.chain in
    record {
      few = omega (arith, count, long);
      by_id = subst (λ (ks : List FileId). IsStrictlySortedBy file_cmp ks) (sym (named_keys hs)) (sorted file_cmp file_total file_in None hs rows);
      same = replicated_keys hs ∙ sym (named_keys hs);
      each = all_beside FitsBeside None [] hs (none_up Replica file_cmp) rows (each_held None hs are.chain);
    }

-- ---- the greatest time

children_timely : (last : ℕ) (es : List Entry) → list_all (is_entry_in_time last) es ≡ true
    → AllByRecursion (λ (e : FileId × Entry). e.1.place.stamp.time ≤ last) (map at_child es)
children_timely last [] test = tt
children_timely last (e ∷ es) test =
    let b = both (is_entry_in_time last e) (list_all (is_entry_in_time last) es) test in
    (leb-true e.place.stamp.time last b.0, children_timely last es b.1)

held_timely : (last : ℕ) (h : Held) → is_held_in_time last h ≡ true → IsHeldInTime last (inode_of h) h.replica
held_timely last h test =
    let a = both (nat_le h.own.place.stamp.time last) (list_all (is_entry_in_time last) h.entries && list_all (is_head_in_time last) h.replica.content.heads) test in
    let b = both (list_all (is_entry_in_time last) h.entries) (list_all (is_head_in_time last) h.replica.content.heads) a.1 in
    record {
      place = leb-true h.own.place.stamp.time last a.0;
      entries = children_timely last h.entries b.0;
      heads = all_of (λ (v : VersionValue). v.head.stamp.time ≤ last) (is_head_in_time last) (λ v t. leb-true v.head.stamp.time last t) h.replica.content.heads b.1;
    }

intent_timely : (last : ℕ) (i : Intent) → is_intent_in_time last i ≡ true → IsIntentInTime last i
intent_timely last (intent.Bye file birth peer peer_birth) test = tt
intent_timely last (intent.Seek file target) test = tt
intent_timely last (intent.Fill file birth target) test = tt
intent_timely last (intent.Patch dir entry target) test = leb-true entry.place.stamp.time last test
intent_timely last (intent.Confirm dir child target) test = tt
intent_timely last (intent.Leave file peer peer_birth) test = tt

-- ---- the whole

each_server : (servers : List ℕ) → Chain AnyServer unchanged tt servers → AllByRecursion IsServer servers
each_server [] chain = tt
each_server (s ∷ servers) chain = (chain.0, each_server servers chain.1)

servers_fit : (servers : List ℕ) → AreCounted 1 AnyServer unchanged tt servers → FitServers servers
servers_fit servers are = let count = are.count in record { few = omega (arith, count); each = each_server servers are.chain }

parts_fit : (p : Parts) → AreParts p → are_in_time p ≡ true → FitsState (plain_store p)
parts_fit p are test =
    let last = p.counters.last in
    let times = both (list_all (is_held_in_time last) p.held) (list_all (is_intent_in_time last) p.waiting.intents) test in
    let rows = held_rows None p.held are.held.chain in
    record {
      server = are.servers.server;
      servers = are.servers.servers;
      removed = servers_fit p.servers.removed are.servers.removed;
      tags = are.counters.some;
      replicas = held_fit p.held are.held;
      intents = intents_fit p.waiting.intents are.waiting.intents;
      wishes = wishes_fit p.waiting.wishes are.waiting.wishes;
      announced = notes_fit p.waiting.announced are.waiting.announced;
      time = record {
        held = all_beside (λ (file : FileId) (i : InodeValue) (o : Option Replica). IsBesideInTime last i o) None [] p.held (none_up Replica file_cmp) rows
            (all_of (λ (h : Held). IsHeldInTime last (inode_of h) h.replica) (is_held_in_time last) (held_timely last) p.held times.0);
        intents = all_of (IsIntentInTime last) (is_intent_in_time last) (intent_timely last) p.waiting.intents times.1;
      };
    }

pub fits : (store : Store) → IsWholeState store → FitsState store
fits store whole = subst FitsState whole.made (parts_fit whole.parts whole.whole whole.time)
