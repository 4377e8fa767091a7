-- A store that has a spelling is one that can be read.
use Rattle.std.proofs.Common.{◌≡◌, ℕ, true, List, [], ◌∷◌, map, refl, ap, ◌∙◌, arith}
use Rattle.std.specs.List.{AllByRecursion, list_all}
use Rattle.std.proofs.lemmas.Bool.{le-leb}
use Rattle.pg_base.specs.declared.id.FileId.{FileId}
use Rattle.pg_intent.specs.declared.intent.Intent.{Intent}
use Rattle.pg_intent.specs.declared.intent.Intent.TheVariants as intent
use Rattle.pg_names.specs.Names.{InodeValue}
use Rattle.pg_packet_fields.specs.Lists.{Chain}
use Rattle.pg_packet_write.specs.Fits.{IsServer}
use Rattle.pg_replica.specs.Replicas.{ByFile}
use Rattle.pg_state.specs.Fits.{FitServers, FitsState, IsIntentInTime}
use Rattle.pg_state_fields.specs.Orders.{AreCounted, unchanged}
use Rattle.pg_state_read.specs.Built.{IsWholeState, plain_store, replicated}
use Rattle.pg_state_read.specs.Whole.{AnyServer, AreParts, are_in_time, is_intent_in_time}
use Rattle.pg_state_read.specs.declared.parts.Parts.{Parts}
use Rattle.pg_store.specs.declared.store.Store.{Store}
use Rattle.law_states.specs.Widths.{HasStoreWidth}
use Rattle.law_states.proofs.Things.{all_named, all_replicated, things, things_are, things_timely}
use Rattle.law_states.proofs.Expected.{intents_are, notes_are, wishes_are}

abbrev parts_in : Store → Parts
parts_in store = record {
  servers = record { server = store.names.server; servers = store.servers; removed = store.names.removed };
  counters = record { last = store.names.last; files = store.files; births = store.births; tags = store.tags };
  held = things store.replicas store.names.held;
  waiting = record { intents = store.intents; wishes = store.wishes; announced = store.announced };
}

servers_chain : (servers : List ℕ) → AllByRecursion IsServer servers → Chain AnyServer unchanged tt servers
servers_chain [] fits = tt
servers_chain (s ∷ servers) fits = (fits.0, servers_chain servers fits.1)

servers_are : (servers : List ℕ) → FitServers servers → AreCounted 1 AnyServer unchanged tt servers
servers_are servers fits = let few = fits.few in record { count = omega (arith, few); chain = servers_chain servers fits.each }

parts_are : (store : Store) → FitsState store → HasStoreWidth store → AreParts (parts_in store)
parts_are store fits widths = record {
  servers = record { server = fits.server; servers = fits.servers; removed = servers_are store.names.removed fits.removed };
  counters = record { last = widths.last; files = widths.files; births = widths.births; some = fits.tags; tags = widths.tags };
  held = things_are store.replicas store.names.held fits.replicas widths.held;
  waiting = record {
    intents = intents_are store.intents fits.intents widths.intents;
    wishes = wishes_are store.wishes fits.wishes widths.wishes;
    announced = notes_are store.announced fits.announced widths.announced;
  };
}

intent_timely : (last : ℕ) (i : Intent) → IsIntentInTime last i → is_intent_in_time last i ≡ true
intent_timely last (intent.Bye file birth peer peer_birth) times = refl
intent_timely last (intent.Seek file target) times = refl
intent_timely last (intent.Fill file birth target) times = refl
intent_timely last (intent.Patch dir entry target) times = le-leb entry.place.stamp.time last times
intent_timely last (intent.Confirm dir child target) times = refl
intent_timely last (intent.Leave file peer peer_birth) times = refl

intents_timely : (last : ℕ) (is : List Intent) → AllByRecursion (IsIntentInTime last) is → list_all (is_intent_in_time last) is ≡ true
intents_timely last [] times = refl
intents_timely last (i ∷ is) times = rw (intent_timely last i times.0) (intents_timely last is times.1)

parts_timely : (store : Store) → FitsState store → are_in_time (parts_in store) ≡ true
parts_timely store fits =
    rw (things_timely store.names.last store.replicas store.names.held fits.time.held) (intents_timely store.names.last store.intents fits.time.intents)

abbrev store_of : Store → List (FileId × InodeValue) → ByFile → Store
store_of store held replicas = record {
  servers = store.servers;
  tags = store.tags;
  files = store.files;
  births = store.births;
  names = record { server = store.names.server; last = store.names.last; removed = store.names.removed; held = held };
  replicas = replicas;
  announced = store.announced;
  intents = store.intents;
  wishes = store.wishes;
}

parts_made : (store : Store) → FitsState store → plain_store (parts_in store) ≡ store
parts_made store fits =
    let all = things store.replicas store.names.held in
    ap (λ (held : List (FileId × InodeValue)). store_of store held (map replicated all)) (all_named store.replicas store.names.held fits.replicas.each)
    ∙ ap (λ (replicas : ByFile). store_of store store.names.held replicas) (all_replicated store.replicas store.names.held fits.replicas)

pub whole : (store : Store) → FitsState store → HasStoreWidth store → IsWholeState store
whole store fits widths =
    record { parts = parts_in store; whole = parts_are store fits widths; time = parts_timely store fits; made = parts_made store fits }
