-- The walk of a tick: all that it changes of the work is the tail, and it is the walk that the word
-- chooses.
use Rattle.std.proofs.Common.{[], ℕ, ◌≡◌, ◌≢◌, ◌≤◌, ◌<◌, ◌==◌, ◌&&◌, ◌/◌, ◌%◌, ◌⊎◌, Bool, true, false, cond, not, nat_lt, List, ◌∷◌, ◌++◌, length, get_or, slice_get, zero, suc, Option, Some, None, inl, inr, refl, sym, ap, ◌∙◌, arith}
use Rattle.std.specs.List.Sorted.{IsStrictlySortedBy}
use Rattle.std.specs.Map.{keys_of}
use Rattle.std.proofs.Math.Nat.{mod-lt}
use Rattle.std.proofs.lemmas.Bool.Decides.{nat_tests}
use Rattle.std.proofs.lemmas.List.{append-nil}
use Rattle.std.proofs.lemmas.Option.{same_Some, slice_get-get_or}
use Rattle.std.proofs.lemmas.List.Kept.{IsStrictlySortedBy-filter}
use Rattle.std.proofs.lemmas.Bool.{and_parts, and_from, not_from_false, not-true, or_left, or_right}
use Rattle.pg_base.specs.declared.id.FileId.{FileId}
use Rattle.pg_base.specs.Id.{file_cmp, is_same_file}
use Rattle.pg_base.proofs.Orders.{is_same_file-refl}
use Rattle.pg_edges.specs.declared.edge.Edge.{Edge}
use Rattle.pg_edges.specs.Edges.{AscendFrom, peers}
use Rattle.pg_server.specs.pg_pieces.pg_msg.declared.message.Message.TheVariants as message
use Rattle.pg_server.specs.pg_pieces.pg_msg.declared.message.Sent.{Sent}
use Rattle.pg_server.specs.pg_pieces.pg_msg.declared.work.Work.{Work}
use Rattle.pg_server.specs.pg_pieces.pg_msg.Work.{new_work}
use Rattle.pg_server.specs.pg_pieces.pg_names.declared.attributes.Attributes.{Attributes}
use Rattle.pg_server.specs.pg_pieces.pg_names.Names.{InodeValue, is_full_of, known, own_of}
use Rattle.pg_server.specs.pg_pieces.pg_house.Facts.{is_among}
use Rattle.pg_server.specs.pg_pieces.pg_house.Work.{is_root}
use Rattle.pg_server.proofs.pg_pieces.pg_house.Counting.{among_kept, kept_dir}
use Rattle.pg_server.proofs.pg_pieces.pg_house.Ends.{key_of_held}
use Rattle.theory_flood_pieces.specs.Whole.{AreEdges, IsWhole}
use Rattle.theory_flood_pieces.proofs.Choices.{found_replica}
use Rattle.pg_server.specs.pg_pieces.pg_replica.declared.replica.Replica.{Replica}
use Rattle.pg_server.specs.pg_pieces.pg_replica.Replicas.{or_nothing}
use Rattle.pg_server.specs.pg_pieces.pg_store.declared.store.Store.{Store}
use Rattle.pg_server.specs.pg_pieces.pg_store.Births.{birth_of}
use Rattle.pg_server.specs.pg_pieces.pg_store.Seen.{server_of}
use Rattle.pg_server.specs.pg_pieces.pg_store.Store.{is_full, replica_at}
use Rattle.pg_server.specs.pg_pieces.Posting.{sent_to}
use Rattle.pg_server.specs.pg_cells.Ticks.{tick}
use Rattle.pg_server.specs.pg_repair.Fetching.{ends_to}
use Rattle.pg_server.specs.pg_intentions.Requests.{ask_all}
use Rattle.pg_server.specs.pg_graph.Walks.{edges_of, has_few_edges, walk_along, walk_from, walk_of, walk_of_tick, with_few_edges}
use Rattle.pg_server.specs.Local.{sent_again}
use Rattle.pg_run.specs.Ticks.{AreWalks, HasFewEdges, IsWalk}

-- ---- what is added

abbrev with_more : Work → List Sent → Work
with_more w ms = record w { tail = w.tail ++ ms }

abbrev fresh : Work
fresh = new_work 0 0

with_none : (w : Work) → w ≡ with_more w []
with_none w = ap (λ (ms : List Sent). record w { tail = ms }) (sym (append-nil w.tail))

along_is : (a : Store) (file : FileId) (origin birth hops word : ℕ) (w : Work) (o : Option Edge)
    → walk_along a file origin birth hops word w o
    ≡ with_more w (walk_along a file origin birth hops word fresh o).tail
along_is a file origin birth hops word w None = with_none w
along_is a file origin birth hops word w (Some e) = refl

from_is : (a : Store) (word : ℕ) (w : Work) (o : Option FileId)
    → walk_from a word w o ≡ with_more w (walk_from a word fresh o).tail
from_is a word w None = with_none w
from_is a word w (Some file) =
    along_is a file (server_of a) (birth_of a file) 3 (word / length (edges_of a file)) w
    (slice_get (edges_of a file) (word % length (edges_of a file)))

tick_by : (a : Store) (word : ℕ) (w : Work) (t : Bool)
    → cond t w (walk_of a word (with_few_edges a) w)
    ≡ with_more w (cond t fresh (walk_of a word (with_few_edges a) fresh)).tail
tick_by a word w true = with_none w
tick_by a word w false =
    let files = with_few_edges a in
    from_is a (word / length files) w (slice_get files (word % length files))

-- the walk that goes last in a tick with this word, or none
abbrev pub tick_walks : Store → ℕ → List Sent
tick_walks a word = (walk_of_tick a word fresh).tail

pub walk_is : (a : Store) (word : ℕ) (w : Work)
    → walk_of_tick a word w ≡ record w { tail = w.tail ++ tick_walks a word }
walk_is a word w = tick_by a word w (word == 0)

-- ALL THAT A TICK LEAVES of the work
pub again_is : (a : Store) (word : ℕ) (w : Work) → sent_again a word w
    ≡ record (ask_all a (tick a w)) { tail = w.tail ++ tick_walks a word }
again_is a word w = walk_is a word (ask_all a (tick a w))

-- ---- which replicas have few edges

few_edges : (n : ℕ) → (nat_lt 0 n && nat_lt n 3) ≡ true → (1 ≤ n) × (n ≤ 2)
few_edges n h = let both = and_parts (nat_lt 0 n) (nat_lt n 3) h in (grind (arith, nat_tests, both.0), grind (arith, nat_tests, both.1))

few_test : (n : ℕ) → 1 ≤ n → n ≤ 2 → (nat_lt 0 n && nat_lt n 3) ≡ true
few_test n least most =
    and_from (nat_lt 0 n) (nat_lt n 3) (grind (arith, nat_tests)) (grind (arith, nat_tests))

full_own : (o : Option InodeValue) → is_full_of o ≡ true → (own : Attributes) × (own_of o ≡ Some own)
full_own None h = absurd (let z : false ≡ true = h in cc)
full_own (Some x) h = (x.own, refl)

module _ (a : Store) (file : FileId) where
  abbrev Count : ℕ
  Count = length (edges_of a file)

  has_few : has_few_edges a file ≡ true → HasFewEdges a file
  has_few h =
      let one = and_parts (not (is_root file)) (is_full a file && (nat_lt 0 Count && nat_lt Count 3)) h in
      let two = and_parts (is_full a file) (nat_lt 0 Count && nat_lt Count 3) one.1 in
      let count = few_edges Count two.1 in
      record {
        full = two.0;
        inner = not-true (is_root file) one.0;
        least = count.0;
        most = count.1;
      }

  few_has : HasFewEdges a file → has_few_edges a file ≡ true
  few_has k =
      and_from (not (is_root file)) (is_full a file && (nat_lt 0 Count && nat_lt Count 3))
      (not_from_false (is_root file) k.inner)
      (and_from (is_full a file) (nat_lt 0 Count && nat_lt Count 3) k.full (few_test Count k.least k.most))

  pub few_there : is_among file (with_few_edges a) ≡ true → HasFewEdges a file
  few_there among = has_few (kept_dir (has_few_edges a) (keys_of a.names.held) file among)

  there_few : HasFewEdges a file → is_among file (with_few_edges a) ≡ true
  there_few k =
      let own = full_own (known a.names file) k.full in
      among_kept (has_few_edges a) (keys_of a.names.held) file (key_of_held a.names file own.0 own.1) (few_has k)

-- ---- one is chosen

some_length : {A : Type 0} (xs : List A) → xs ≢ [] → 0 < length xs
some_length [] h = absurd (h refl)
some_length (x ∷ xs) h = omega arith

some_at : {A : Type 0} (xs : List A) (i : ℕ) → i < length xs → (x : A) × (slice_get xs i ≡ Some x)
some_at [] i lt = absurd (omega (arith, lt))
some_at (x ∷ xs) i lt = (get_or (x ∷ xs) i x, slice_get-get_or (x ∷ xs) i x lt)

pub at_among : (file : FileId) (fs : List FileId) (i : ℕ) → slice_get fs i ≡ Some file → is_among file fs ≡ true
at_among file [] i h = absurd (let z : None ≡ Some file = h in cc)
at_among file (f ∷ fs) zero h =
    or_left (is_same_file f file) (is_among file fs)
    (ap (λ (g : FileId). is_same_file g file) (same_Some f file h) ∙ is_same_file-refl file)
at_among file (f ∷ fs) (suc i) h = or_right (is_same_file f file) (is_among file fs) (at_among file fs i h)

module _ (n s : ℕ) (a : Store) (whole : IsWhole n s a) where
  by_peer_in : (file : FileId) (o : Option Replica) → replica_at a file ≡ o → AscendFrom 0 (peers (or_nothing o).edges)
  by_peer_in file None is = tt
  by_peer_in file (Some x) is = (found_replica (λ (r : Replica). AreEdges n s r.edges) file x a.replicas whole.replicas is).order

  by_peer : (file : FileId) → AscendFrom 0 (peers (edges_of a file))
  by_peer file = by_peer_in file (replica_at a file) refl

  module _ (word : ℕ) where
    abbrev Files : List FileId
    Files = with_few_edges a

    abbrev First : ℕ
    First = word / length Files

    walk_at : (file : FileId) → slice_get Files (word % length Files) ≡ Some file
        → (m : Sent) × ((walk_from a First fresh (Some file)).tail ≡ m ∷ []) × IsWalk a Files word m
    walk_at file chosen =
        let few = few_there a file (at_among file Files (word % length Files) chosen) in
        let edges = edges_of a file in
        let edge = some_at edges (First % length edges) (mod-lt First (omega (arith, few.least))) in
        let m = sent_to a edge.0.peer (message.Walk (ends_to a file edge.0.birth) (server_of a) (birth_of a file) 3 (First / length edges)) in (
          m,
          ap (λ (o : Option Edge). (walk_along a file (server_of a) (birth_of a file) 3 (First / length edges) fresh o).tail) edge.1,
          record {
            file = file;
            chosen = chosen;
            by_peer = by_peer file;
            edge = edge.0;
            along = edge.1;
            whole = refl;
          },
        )

    one_walk : word ≢ 0 → Files ≢ [] → (m : Sent) × (tick_walks a word ≡ m ∷ []) × IsWalk a Files word m
    one_walk some files =
        let file = some_at Files (word % length Files) (mod-lt word (some_length Files files)) in
        let walk = walk_at file.0 file.1 in
        let test : (word == 0) ≡ false = grind (arith, nat_tests) in
        let is : tick_walks a word ≡ (walk_from a First fresh (Some file.0)).tail =
        ap (λ (t : Bool). (cond t fresh (walk_of a word Files fresh)).tail) test
        ∙ ap (λ (o : Option FileId). (walk_from a First fresh o).tail) file.1 in
        (walk.0, is ∙ walk.1, walk.2)

    no_files : (fs : List FileId) → fs ≡ [] → (walk_of a word fs fresh).tail ≡ []
    no_files [] h = refl
    no_files (f ∷ fs) h = absurd (let z : f ∷ fs ≡ [] = h in cc)

    no_walk_by : (t : Bool) → (word == 0) ≡ t → (word ≡ 0) ⊎ (Files ≡ []) → (cond t fresh (walk_of a word Files fresh)).tail ≡ []
    no_walk_by true is h = refl
    no_walk_by false is (inl none) = absurd (grind (arith, nat_tests))
    no_walk_by false is (inr none) = no_files Files none

    -- THE WALK of a tick
    pub are_walks : IsStrictlySortedBy file_cmp (keys_of a.names.held) → AreWalks a word (tick_walks a word)
    are_walks by_id = record {
      files = Files;
      few = λ file. (few_there a file, there_few a file);
      order = IsStrictlySortedBy-filter file_cmp (has_few_edges a) (keys_of a.names.held) by_id;
      one = one_walk;
      none = no_walk_by (word == 0) refl;
    }
