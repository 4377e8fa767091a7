-- Replicas: what versions, links and answers make of them keeps vectors that fit, and edges to servers.
use Rattle.std.proofs.Common.{ℕ, ◌≡◌, ◌+◌, ◌≤◌, ◌==◌, ◌∙◌, true, cond, List, [], ◌∷◌, length, map, not, Option, None, Some, All, Less, Equal, Greater, ap, arith, subst}
use Rattle.std.specs.declared.cmp.Ordering.{Ordering}
use Rattle.std.specs.BTreeMap.{insert_entry}
use Rattle.std.specs.Cmp.{tied_itself}
use Rattle.std.specs.List.{filter}
use Rattle.std.specs.Ordering.{eq_by_cmp, is_eq, match_ordering, nat_cmp}
use Rattle.std.specs.Option.{option_eq}
use Rattle.std.specs.Prelude.{fold, max, nat_eq}
use Rattle.std.proofs.lemmas.List.Elements.{All-cons, All-filter, All-from_recursion, All-head, All-map, All-nil, All-tail, All-weaker, recursion_from_All}
use Rattle.pg_base.specs.declared.id.FileId.{FileId}
use Rattle.pg_base.specs.declared.policy.Policy.{Policy}
use Rattle.pg_base.specs.declared.policy.Policy.TheVariants.{Last}
use Rattle.pg_base.specs.declared.stamp.Stamp.{Stamp}
use Rattle.pg_base.specs.declared.vector.Actor.{Actor}
use Rattle.pg_base.specs.Id.{file_cmp}
use Rattle.pg_base.specs.Stamp.{is_before}
use Rattle.pg_base.specs.Vector.{actor_cmp, joined, number_at, raised}
use Rattle.pg_base.specs.Version.{VersionValue, actor_of, stamp_of}
use Rattle.pg_base.proofs.Entries.{All-insert_entry}
use Rattle.pg_base.proofs.Vectors.{actor_exact, actor_total, number_at-raised}
use Rattle.pg_patch.specs.Ranges.{RangesValue}
use Rattle.pg_content.specs.Content.{ContentValue, covers_version, is_covered, join_of, joined_version, next_vector, next_version, one_more, put_version}
use Rattle.pg_content.specs.Shown.{inserted}
use Rattle.pg_delta.specs.declared.delta.KeptDelta.{KeptDelta}
use Rattle.pg_edges.specs.declared.edge.Edge.{Edge}
use Rattle.pg_edges.specs.declared.key.Key.{Key}
use Rattle.pg_edges.specs.declared.key.Key.TheVariants as key
use Rattle.pg_edges.specs.Edges.{acked, is_listed, linked, makes_edge, new_edge, put_edge, retired, tag_at, take_off, taken_off, touched, unlinked, without_edge}
use Rattle.pg_edges.specs.Key.{key_cmp}
use Rattle.pg_server.specs.pg_pieces.pg_replica.declared.link.Link.{Link}
use Rattle.pg_server.specs.pg_pieces.pg_replica.declared.replica.Replica.{Replica}
use Rattle.pg_server.specs.pg_pieces.pg_replica.Replica.{covered_heads, has_edge, key_of, keys, new_replica, own_actor, with_ack, with_head, with_kept, with_link, with_touch, with_unlink, with_write, without_keys}
use Rattle.pg_server.specs.pg_pieces.pg_replica.Replicas.{ByFile, or_nothing, put_replica, replica_in, replicas_acked, replicas_keeping, replicas_linked, replicas_taking, replicas_touched, replicas_unlinked, replicas_writing, without_replica}
use Rattle.pg_server.proofs.pg_pieces.pg_house.Truths.{chosen}
use Rattle.theory_flood_pieces.proofs.Choices.{found_replica}
use Rattle.pg_packet_write.specs.Fits.{FitsHead, IsServer}
use Rattle.law_spelled.specs.Stores.{FitsReplica, MayBeServer}

abbrev pub IsToServer : Edge → Type 0
IsToServer e = MayBeServer e.peer

abbrev pub HasFitHead : VersionValue → Type 0
HasFitHead v = FitsHead v.head

-- ---- edges

put_by : (x e : Edge) (es : List Edge) (o : Ordering) → IsToServer x → All IsToServer (e ∷ es) → All IsToServer (put_edge es x)
    → All IsToServer (match_ordering o (x ∷ e ∷ es) (x ∷ es) (e ∷ put_edge es x))
put_by x e es Less k all more = All-cons IsToServer x (e ∷ es) k all
put_by x e es Equal k all more = All-cons IsToServer x es k (All-tail IsToServer e es all)
put_by x e es Greater k all more = All-cons IsToServer e (put_edge es x) (All-head IsToServer e es all) more

pub put_fits : (es : List Edge) (x : Edge) → IsToServer x → All IsToServer es → All IsToServer (put_edge es x)
put_fits [] x k all = All-cons IsToServer x [] k all
put_fits (e ∷ es) x k all = put_by x e es (nat_cmp x.peer e.peer) k all (put_fits es x k (All-tail IsToServer e es all))

linked_fit : (es : List Edge) (peer birth : ℕ) (ks : List Key) (tags : ℕ) → MayBeServer peer → All IsToServer es
    → All IsToServer (linked es peer birth ks tags)
linked_fit es peer birth ks tags k h =
    chosen (All IsToServer) (makes_edge es peer birth) (put_edge es (new_edge peer birth ks tags)) es
    (put_fits es (new_edge peer birth ks tags) k h) h

touched_fit : (es : List Edge) (k : Key) (tags : ℕ) → All IsToServer es → All IsToServer (touched es k tags)
touched_fit [] k tags h = h
touched_fit (e ∷ es) k tags h =
    All-cons IsToServer (record e { keys = insert_entry key_cmp e.keys k tags }) (touched es k (tags + 1)) (All-head IsToServer e es h)
    (touched_fit es k (tags + 1) (All-tail IsToServer e es h))

retired_fit : (es : List Edge) (k : Key) → All IsToServer es → All IsToServer (retired es k)
retired_fit es k h = All-map IsToServer (take_off k) es h

without_fit : (es : List Edge) (ks : List Key) → All IsToServer es → All IsToServer (without_keys es ks)
without_fit es [] h = h
without_fit es (k ∷ ks) h = without_fit (retired es k) ks (retired_fit es k h)

taken_fit : (es : List Edge) (peer : ℕ) (k : Key) → All IsToServer es → All IsToServer (taken_off es peer k)
taken_fit es peer k h =
    All-map IsToServer (λ e. cond (e.peer == peer) (take_off k e) e) es
    (All-weaker IsToServer (λ (e : Edge). IsToServer (cond (e.peer == peer) (take_off k e) e))
    (λ e to. chosen IsToServer (e.peer == peer) (take_off k e) e to to) es h)

acked_fit : (es : List Edge) (peer birth : ℕ) (k : Key) (tag : ℕ) → All IsToServer es → All IsToServer (acked es peer birth k tag)
acked_fit es peer birth k tag h =
    chosen (All IsToServer) (option_eq nat_eq (tag_at es peer birth k) (Some tag)) (taken_off es peer k) es (taken_fit es peer k h) h

unlinked_fit : (es : List Edge) (peer birth : ℕ) → All IsToServer es → All IsToServer (unlinked es peer birth)
unlinked_fit es peer birth h =
    chosen (All IsToServer) (is_listed es peer birth) (without_edge es peer) es (All-filter (λ e. not (e.peer == peer)) IsToServer es h) h

-- ---- heads

inserted_fit : (v : VersionValue) (vs : List VersionValue) → HasFitHead v → All HasFitHead vs → All HasFitHead (inserted stamp_of v vs)
inserted_fit v [] k h = All-cons HasFitHead v [] k h
inserted_fit v (y ∷ ys) k h =
    chosen (All HasFitHead) (is_before (stamp_of y) (stamp_of v)) (y ∷ inserted stamp_of v ys) (v ∷ y ∷ ys)
    (All-cons HasFitHead y (inserted stamp_of v ys) (All-head HasFitHead y ys h) (inserted_fit v ys k (All-tail HasFitHead y ys h)))
    (All-cons HasFitHead v (y ∷ ys) k h)

joined_fit : (vs : List VersionValue) (v : VersionValue) → HasFitHead v → All HasFitHead vs → All HasFitHead (joined_version vs v)
joined_fit vs v k h =
    let kept = filter (λ w. not (covers_version v.head.vector w)) vs in
    chosen (All HasFitHead) (is_covered vs (actor_of v.head) v.head.number) vs (put_version vs v) h
    (inserted_fit v kept k (All-filter (λ w. not (covers_version v.head.vector w)) HasFitHead vs h))

-- ---- the vector of a new version

abbrev IsAtServer : Actor × ℕ → Type 0
IsAtServer known = IsServer known.0.server

abbrev AreAtServers : List (Actor × ℕ) → Type 0
AreAtServers vector = All IsAtServer vector

raised_fits : (es : List (Actor × ℕ)) (a : Actor) (n : ℕ) → IsServer a.server → AreAtServers es → AreAtServers (raised es a n)
raised_fits es a n k h =
    let next = max (number_at es a) n in
    chosen AreAtServers (n == 0) es (insert_entry actor_cmp es a next) h
    (All-insert_entry actor_cmp IsAtServer a next es h k
    (λ e same. subst (λ (b : Actor). IsServer b.server) (actor_exact a e.0 same) k))

both_fit : (xs ys : List (Actor × ℕ)) → AreAtServers xs → AreAtServers ys → AreAtServers (joined xs ys)
both_fit [] ys h k = k
both_fit (x ∷ xs) ys h k =
    raised_fits (joined xs ys) x.0 x.1 (All-head IsAtServer x xs h) (both_fit xs ys (All-tail IsAtServer x xs h) k)

all_fit : (vs : List (List (Actor × ℕ))) (acc : List (Actor × ℕ)) → All AreAtServers vs → AreAtServers acc → AreAtServers (fold joined acc vs)
all_fit [] acc h k = k
all_fit (v ∷ vs) acc h k =
    all_fit vs (joined acc v) (All-tail AreAtServers v vs h) (both_fit acc v k (All-head AreAtServers v vs h))

known_at : (v : VersionValue) → HasFitHead v → AreAtServers v.head.vector
known_at v h = All-from_recursion IsAtServer v.head.vector h.vector.each

next_at : (vs : List VersionValue) (a : Actor) → IsServer a.server → All HasFitHead vs → AreAtServers (next_vector vs a)
next_at vs a k h =
    let vector : VersionValue → List (Actor × ℕ) = λ v. v.head.vector in
    raised_fits (join_of vs) a (number_at (join_of vs) a + 1) k
    (all_fit (map vector vs) [] (All-map AreAtServers vector vs (All-weaker HasFitHead (λ (v : VersionValue). AreAtServers v.head.vector) known_at vs h))
    (All-nil IsAtServer))

next_some : (es : List (Actor × ℕ)) (a : Actor) → 1 ≤ number_at (one_more es a) a
next_some es a =
    let next = number_at es a + 1 in
    let is = number_at-raised a a next es (omega arith) in
    let same : eq_by_cmp actor_cmp a a ≡ true = ap is_eq (tied_itself actor_total a) in
    let all : number_at (one_more es a) a ≡ max (number_at es a) next = is ∙ ap (λ t. cond t (max (number_at es a) next) (number_at es a)) same in
    omega (arith, all)

-- the version that an actor makes has few actors, where its vector has
pub next_fits : (c : ContentValue) (a : Actor) (stamp : Stamp) (ranges : RangesValue) → IsServer a.server → length (next_vector c.heads a) ≤ 256
    → All HasFitHead c.heads → FitsHead (next_version c a stamp ranges).head
next_fits c a stamp ranges k few h =
    let vector = next_vector c.heads a in
    record {
      number = next_some (join_of c.heads) a;
      vector = record { few = few; each = recursion_from_All IsAtServer vector (next_at c.heads a k h) };
    }

-- ---- a replica

pub nothing_fits : (birth : ℕ) (policy : Policy) → FitsReplica (new_replica birth policy)
nothing_fits birth policy = record { heads = All-nil HasFitHead; edges = All-nil IsToServer }

module _ (x : Replica) (h : FitsReplica x) where
  touch_fits : (k : Key) (tags : ℕ) → FitsReplica (with_touch x k tags)
  touch_fits k tags = record { heads = h.heads; edges = touched_fit x.edges k tags h.edges }

  link_fits : (peer birth : ℕ) (ks : List Key) (tags : ℕ) → MayBeServer peer → FitsReplica (with_link x peer birth ks tags)
  link_fits peer birth ks tags k = record { heads = h.heads; edges = linked_fit x.edges peer birth ks tags k h.edges }

  unlink_fits : (peer birth : ℕ) → FitsReplica (with_unlink x peer birth)
  unlink_fits peer birth = record { heads = h.heads; edges = unlinked_fit x.edges peer birth h.edges }

  keep_fits : (delta : KeptDelta) → FitsReplica (with_kept x delta)
  keep_fits delta = record { heads = h.heads; edges = h.edges }

  ack_fits : (peer birth : ℕ) (k : Key) (tag : ℕ) → FitsReplica (with_ack x peer birth k tag)
  ack_fits peer birth k tag = record { heads = h.heads; edges = acked_fit x.edges peer birth k tag h.edges }

  head_fits : (v : VersionValue) (tags : ℕ) → HasFitHead v → FitsReplica (with_head x v tags)
  head_fits v tags k =
      let gone = keys (covered_heads x.content.heads v) in
      record {
        heads = joined_fit x.content.heads v k h.heads;
        edges = touched_fit (without_keys x.edges gone) (key_of v) tags (without_fit x.edges gone h.edges);
      }

  write_fits : (stamp : Stamp) (ranges : RangesValue) (tags : ℕ) → IsServer stamp.server
      → length (next_vector x.content.heads (own_actor x stamp.server)) ≤ 256
      → FitsReplica (with_write x (own_actor x stamp.server) stamp ranges tags)
  write_fits stamp ranges tags k few =
      let actor = own_actor x stamp.server in
      let gone = keys x.content.heads in
      record {
        heads = All-cons HasFitHead (next_version x.content actor stamp ranges) [] (next_fits x.content actor stamp ranges k few h.heads) (All-nil HasFitHead);
        edges = touched_fit (without_keys x.edges gone) (key.Version stamp) tags (without_fit x.edges gone h.edges);
      }

-- ---- the replicas of a server

abbrev pub HasFitReplica : FileId × Replica → Type 0
HasFitReplica r = FitsReplica r.1

abbrev pub FitReplicas : ByFile → Type 0
FitReplicas rs = All HasFitReplica rs

pub replica_put : (rs : ByFile) (f : FileId) (x : Replica) → FitsReplica x → FitReplicas rs → FitReplicas (put_replica rs f x)
replica_put rs f x k h = All-insert_entry file_cmp HasFitReplica f x rs h k (λ e same. k)

pub replica_gone : (rs : ByFile) (f : FileId) → FitReplicas rs → FitReplicas (without_replica rs f)
replica_gone rs f h = All-filter _ HasFitReplica rs h

module _ (rs : ByFile) (f : FileId) (h : FitReplicas rs) where
  pub replica_found : (x : Replica) → replica_in rs f ≡ Some x → FitsReplica x
  replica_found x e = found_replica FitsReplica f x rs h e

  pub replica_or : (o : Option Replica) → replica_in rs f ≡ o → FitsReplica (or_nothing o)
  replica_or None e = nothing_fits 0 Last
  replica_or (Some x) e = replica_found x e

  pub touched_in : (k : Key) (tags : ℕ) (o : Option Replica) → replica_in rs f ≡ o → FitReplicas (replicas_touched rs f k tags o)
  touched_in k tags None e = h
  touched_in k tags (Some x) e = replica_put rs f (with_touch x k tags) (touch_fits x (replica_found x e) k tags) h

  pub linked_in : (peer birth : ℕ) (ks : List Key) (tags : ℕ) (o : Option Replica) → MayBeServer peer → replica_in rs f ≡ o
      → FitReplicas (replicas_linked rs f peer birth ks tags o)
  linked_in peer birth ks tags None k e = h
  linked_in peer birth ks tags (Some x) k e =
      replica_put rs f (with_link x peer birth ks tags) (link_fits x (replica_found x e) peer birth ks tags k) h

  pub unlinked_in : (peer birth : ℕ) (o : Option Replica) → replica_in rs f ≡ o → FitReplicas (replicas_unlinked rs f peer birth o)
  unlinked_in peer birth None e = h
  unlinked_in peer birth (Some x) e = replica_put rs f (with_unlink x peer birth) (unlink_fits x (replica_found x e) peer birth) h

  pub kept_in : (delta : KeptDelta) (o : Option Replica) → replica_in rs f ≡ o → FitReplicas (replicas_keeping rs f delta o)
  kept_in delta None e = h
  kept_in delta (Some x) e = replica_put rs f (with_kept x delta) (keep_fits x (replica_found x e) delta) h

  pub acked_in : (link : Link) (k : Key) (tag : ℕ) (o : Option Replica) → replica_in rs f ≡ o → FitReplicas (replicas_acked rs f link k tag o)
  acked_in link k tag None e = h
  acked_in link k tag (Some x) e =
      let y = with_ack x link.peer link.birth k tag in
      chosen FitReplicas (has_edge x link) (put_replica rs f y) rs
      (replica_put rs f y (ack_fits x (replica_found x e) link.peer link.birth k tag) h) h

  pub taken_in : (v : VersionValue) (tags : ℕ) (o : Option Replica) → HasFitHead v → replica_in rs f ≡ o → FitReplicas (replicas_taking rs f v tags o)
  taken_in v tags None k e = h
  taken_in v tags (Some x) k e = replica_put rs f (with_head x v tags) (head_fits x (replica_found x e) v tags k) h

  -- the new vector has few actors
  pub written_in : (stamp : Stamp) (ranges : RangesValue) (tags : ℕ) (o : Option Replica) → IsServer stamp.server
      → length (next_vector (or_nothing o).content.heads (own_actor (or_nothing o) stamp.server)) ≤ 256 → replica_in rs f ≡ o
      → FitReplicas (replicas_writing rs f stamp ranges tags o)
  written_in stamp ranges tags None k few e = h
  written_in stamp ranges tags (Some x) k few e =
      replica_put rs f (with_write x (own_actor x stamp.server) stamp ranges tags)
      (write_fits x (replica_found x e) stamp ranges tags k few) h
