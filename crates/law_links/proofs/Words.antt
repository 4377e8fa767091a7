-- What the definitions test of edges is what the words of the law say.
use Rattle.std.proofs.Common.{ℕ, ◌≡◌, ◌≢◌, ◌≤◌, ◌==◌, ◌&&◌, true, false, cond, not, List, Option, None, Some, is_some, refl, sym, ap, subst, ◌∙◌, eq-eqb, arith}
use Rattle.std.specs.Prelude.{Contains}
use Rattle.std.specs.List.{IsAmong}
use Rattle.std.proofs.lemmas.Bool.{and_from, le-ltb, not_from_false}
use Rattle.pg_run.specs.pg_edges.declared.edge.Edge.{Edge}
use Rattle.pg_run.specs.pg_edges.Edges.{AscendFrom, edge_to, is_listed, keys_if_born, peers}
use Rattle.pg_run.proofs.pg_content.Members.{all_among}
use Rattle.pg_run.specs.pg_msg.declared.message.Ends.{Ends}
use Rattle.pg_run.specs.pg_msg.declared.message.Message.{Message}
use Rattle.pg_run.specs.pg_msg.declared.message.Message.TheVariants as message
use Rattle.pg_run.specs.pg_replica.declared.replica.Replica.{Replica}
use Rattle.pg_run.specs.pg_replica.Replica.{has_edge, is_born_later}
use Rattle.pg_run.specs.pg_replica.Replicas.{is_of_birth, or_nothing}
use Rattle.pg_run.specs.pg_store.declared.store.Store.{Store}
use Rattle.pg_run.specs.pg_store.Births.{has_birth}
use Rattle.pg_run.specs.pg_store.Links.{knows_later}
use Rattle.pg_run.specs.pg_store.Seen.{server_of}
use Rattle.pg_run.specs.pg_store.Store.{is_full, is_held, replica_at, replica_of}
use Rattle.pg_run.specs.pg_pieces.declared.accepting.EdgeUse.TheVariants as manner
use Rattle.pg_run.specs.pg_pieces.Accepting.{is_accepted, is_current, meets}
use Rattle.pg_run.specs.pg_pieces.Done.{link_of}
use Rattle.pg_run.specs.theory_flood_pieces.Whole.{AreEdges, IsWhole}
use Rattle.pg_run.proofs.theory_flood_pieces.Choices.{found_replica}
use Rattle.pg_run.proofs.theory_flood_pieces.Found.{edges_found}
use Rattle.pg_run.proofs.Found.{listed_edge}
use Rattle.pg_run.proofs.Lists.{contained_among}
use Rattle.law_links.specs.Links.{ComesAlong, IsLinkedAt, IsLinkedBy, IsWalkEnd, LinkTo, NoneIsLater}

-- what a message links, by the tests of the definitions
abbrev pub IsTestedBy : Store → ℕ → LinkTo → Message → Type 0
IsTestedBy a from l (message.Fetch file birth) =
    (l ≡ record { file = file; peer = from; birth = birth }) × (is_full a file ≡ true)
IsTestedBy a from l (message.Seek file birth) =
    (l ≡ record { file = file; peer = from; birth = birth }) × (is_held a file ≡ true)
IsTestedBy a from l (message.Walk ends origin birth hops word) =
    (l ≡ record { file = ends.file; peer = origin; birth = birth })
    × (is_accepted a from manner.Needs ends ≡ true) × (origin ≢ server_of a)
    × IsWalkEnd hops from origin (replica_of a ends.file).edges
IsTestedBy a from l _ = ⊥

contained : {A : Type 0} (xs : List A) (x : A) → IsAmong xs x → Contains xs x
contained xs x k = (k.0, k.1.0, sym k.1.1)

-- ---- no later birth

not_later : (es : List Edge) (peer birth : ℕ) → ((e : Edge) → Contains es e → e.peer ≡ peer → e.birth ≤ birth)
    → is_born_later (edge_to es peer) birth ≡ false
not_later es peer birth none = by (edge_to es peer) refl
  where
    by : (o : Option Edge) → edge_to es peer ≡ o → is_born_later o birth ≡ false
    by None at = refl
    by (Some e) at =
        let listed : is_listed es peer e.birth ≡ true =
        ap (λ (o : Option Edge). is_some (keys_if_born o e.birth)) at ∙ ap (λ t. is_some (cond t (Some e.keys) None)) (eq-eqb e.birth e.birth refl) in
        let k = listed_edge es peer e.birth listed in
        let upto = none k.edge (contained es k.edge k.among) k.to in
        le-ltb birth e.birth (subst (λ m. m ≤ birth) k.born upto)

pub none_later : (a : Store) (l : LinkTo) → NoneIsLater a l → knows_later a l.file l.peer l.birth ≡ false
none_later a l none = by (replica_at a l.file) refl
  where
    by : (o : Option Replica) → replica_at a l.file ≡ o → is_born_later (edge_to (or_nothing o).edges l.peer) l.birth ≡ false
    by None is = refl
    by (Some x) is = not_later x.edges l.peer l.birth (none x is)

-- ---- along an edge

module _ (n s : ℕ) (a : Store) (whole : IsWhole n s a) (from : ℕ) where
  module _ (ends : Ends) (k : ComesAlong a from ends) where
    abbrev x : Replica
    x = k.replica

    order : AscendFrom 0 (peers x.edges)
    order = (found_replica (λ (z : Replica). AreEdges n s z.edges) ends.file x a.replicas whole.replicas k.held).order

    to_peer : edge_to x.edges from ≡ Some k.edge
    to_peer =
        subst (λ m. edge_to x.edges m ≡ Some k.edge) k.names.0
        (all_among (λ (e : Edge). edge_to x.edges e.peer ≡ Some e) x.edges k.edge (edges_found 0 x.edges order) (contained_among x.edges k.edge k.there))

    of_sender : is_listed x.edges from ends.sender ≡ true
    of_sender =
        ap (λ (o : Option Edge). is_some (keys_if_born o ends.sender)) to_peer
        ∙ ap (λ t. is_some (cond t (Some k.edge.keys) None)) (eq-eqb k.edge.birth ends.sender k.names.1)

    none_newer : is_born_later (edge_to x.edges from) ends.sender ≡ false
    none_newer =
        let same = k.names.1 in
        ap (λ (o : Option Edge). is_born_later o ends.sender) to_peer
        ∙ le-ltb ends.sender k.edge.birth (omega (arith, same))

    -- what the look-up of the thing's replica gives
    is_this : replica_of a ends.file ≡ x
    is_this = ap or_nothing k.held

    born : has_birth a ends.file ends.receiver ≡ true
    born = ap (λ (o : Option Replica). is_of_birth o ends.receiver) k.held ∙ eq-eqb x.birth ends.receiver k.birth

    later : knows_later a ends.file from ends.sender ≡ false
    later = ap (λ (r : Replica). is_born_later (edge_to r.edges from) ends.sender) is_this ∙ none_newer

    edge_there : has_edge (replica_of a ends.file) (link_of from ends) ≡ true
    edge_there =
        ap (λ (r : Replica). (ends.receiver == r.birth) && is_listed r.edges from ends.sender) is_this
        ∙ and_from (ends.receiver == x.birth) (is_listed x.edges from ends.sender) (eq-eqb ends.receiver x.birth (sym k.birth)) of_sender

    accepted : is_accepted a from manner.Needs ends ≡ true
    accepted =
        and_from (is_current a from ends) (meets a from manner.Needs ends)
        (and_from (has_birth a ends.file ends.receiver) (not (knows_later a ends.file from ends.sender)) born
        (not_from_false (knows_later a ends.file from ends.sender) later)) edge_there

  pub tested_by : (l : LinkTo) (m : Message) → IsLinkedBy a from l m → IsTestedBy a from l m
  tested_by l (message.Fetch file birth) h = h
  tested_by l (message.Seek file birth) h = h
  tested_by l (message.Walk ends origin birth hops word) h = (
    h.0,
    accepted ends h.1,
    h.2,
    subst (λ (r : Replica). IsWalkEnd hops from origin r.edges) (sym (is_this ends h.1)) h.3,
  )
  tested_by l m h = absurd h

-- ---- and so the edge behind the event

pub named_at : (b : Store) (l : LinkTo) → (y : Replica) × (replica_at b l.file ≡ Some y) × (is_listed y.edges l.peer l.birth ≡ true) → IsLinkedAt b l
named_at b l k =
    let y = k.0 in
    let e = listed_edge y.edges l.peer l.birth k.2 in
    (y, k.1, e.edge, contained y.edges e.edge e.among, (e.to, e.born))
