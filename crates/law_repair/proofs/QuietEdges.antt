-- Where a run is quiet, live servers have no key on any edge, know all removals, and each edge of
-- theirs is named back.
use Rattle.std.proofs.Common.{ℕ, ◌≡◌, ◌≤◌, ◌==◌, not, Bool, true, false, cond, List, [], ◌∷◌, Option, None, Some, is_some, length, All, refl, sym, ap, subst, ◌∙◌, inl, inr, arith}
use Rattle.std.specs.List.{IsAmong, flat_map}
use Rattle.std.proofs.lemmas.Bool.{and_from, eqb-true, false≢true}
use Rattle.std.proofs.lemmas.Bool.Decides.{nat_tests}
use Rattle.std.proofs.lemmas.List.{take_all}
use Rattle.std.proofs.lemmas.List.Elements.{All-cons, All-nil, All-weaker}
use Rattle.pg_run.specs.pg_base.declared.id.FileId.{FileId}
use Rattle.pg_run.specs.pg_edges.declared.edge.Edge.{Edge}
use Rattle.pg_run.specs.pg_edges.declared.key.Key.{Key}
use Rattle.pg_run.specs.pg_edges.declared.key.Key.TheVariants as key
use Rattle.pg_run.specs.pg_edges.Edges.{edge_to, is_listed, keys_if_born}
use Rattle.pg_run.specs.pg_edges.Keys.{tag_in}
use Rattle.pg_run.specs.pg_entries.declared.cell.Cell.TheVariants as cell
use Rattle.pg_run.specs.pg_event.declared.event.Event.{Event}
use Rattle.pg_run.specs.pg_event.declared.quiet.Owing.TheVariants as owing
use Rattle.pg_run.specs.pg_intent.declared.intent.Intent.TheVariants as intent
use Rattle.pg_run.specs.pg_names.Names.{own_or_blank}
use Rattle.pg_run.specs.pg_register.Flag.{is_removed}
use Rattle.pg_run.specs.pg_replica.declared.replica.Replica.{Replica}
use Rattle.pg_run.specs.pg_server.Owing.{edge_owes, owed, owed_keys, replica_owes}
use Rattle.pg_run.specs.pg_store.declared.store.Store.{Store}
use Rattle.pg_run.specs.pg_store.Seen.{removed_of, server_of, view_of}
use Rattle.pg_run.specs.pg_store.Store.{replica_at}
use Rattle.pg_run.specs.theory_flood_pieces.Whole.{AreEdges, IsEdge, IsOther, IsWhole}
use Rattle.pg_run.proofs.theory_flood_pieces.Choices.{found_replica}
use Rattle.pg_run.proofs.theory_flood_pieces.Found.{edges_found}
use Rattle.law_leaving.proofs.Lists.{member_at}
use Rattle.law_quiet.proofs.Across.{nothing_intended}
use Rattle.pg_run.specs.Graphs.{HasEdge}
use Rattle.pg_run.specs.Journal.{removals}
use Rattle.pg_run.specs.Leaving.{OwesBye}
use Rattle.pg_run.specs.Quiet.{IsQuiet}
use Rattle.pg_run.specs.Run.{World, is_live, is_server, run}
use Rattle.pg_run.proofs.Frame.{live_is}
use Rattle.pg_run.proofs.QuietAnswers.{both_empty, map_empty}
use Rattle.law_repair.specs.Given.{StandOn}

-- ---- where nothing is owed, no key stands

all_empty : {A B : Type 0} (f : A → List B) (xs : List A) → flat_map f xs ≡ [] → All (λ x. f x ≡ []) xs
all_empty f [] e = All-nil (λ x. f x ≡ [])
all_empty f (x ∷ xs) e = let b = both_empty (f x) (flat_map f xs) e in All-cons (λ z. f z ≡ []) x xs b.0 (all_empty f xs b.1)

abbrev IsBare : Edge → Type 0
IsBare e = e.keys ≡ []

bare_replica : (server : ℕ) (r : FileId × Replica) → replica_owes server r ≡ [] → All IsBare r.1.edges
bare_replica server r e =
    All-weaker (λ (x : Edge). edge_owes server r.0 x ≡ []) IsBare
    (λ x h. map_empty (λ (k : Key × ℕ). record { server = server; file = r.0; peer = x.peer; key = k.0 }) x.keys h)
    r.1.edges (all_empty (edge_owes server r.0) r.1.edges e)

no_keys : (a : Store) → owed a ≡ [] → owed_keys a ≡ []
no_keys a e = map_empty owing.Key (owed_keys a) (both_empty _ _ (both_empty _ _ e).1).0

bare_edges : (a : Store) (file : FileId) (x : Replica) → owed a ≡ [] → replica_at a file ≡ Some x → All IsBare x.edges
bare_edges a file x e is =
    found_replica (λ z. All IsBare z.edges) file x a.replicas
    (All-weaker (λ (r : FileId × Replica). replica_owes (server_of a) r ≡ [])
    (λ r. All IsBare r.1.edges) (λ r h. bare_replica (server_of a) r h) a.replicas
    (all_empty (replica_owes (server_of a)) a.replicas (no_keys a e))) is

server_is : (n s : ℕ) → 1 ≤ s → s ≤ n → is_server n s ≡ true
server_is n s least most = grind (arith, nat_tests)

-- ---- an edge is the one to its peer

pub edge_found : (n s : ℕ) (a : Store) (file : FileId) (x : Replica) (e : Edge) → IsWhole n s a → replica_at a file ≡ Some x
    → IsAmong x.edges e → edge_to x.edges e.peer ≡ Some e
edge_found n s a file x e whole is among =
    let graph : AreEdges n s x.edges = found_replica (λ z. AreEdges n s z.edges) file x a.replicas whole.replicas is in
    member_at (λ (y : Edge). edge_to x.edges y.peer ≡ Some y) x.edges e (edges_found 0 x.edges graph.order) among

pub edge_other : (n s : ℕ) (a : Store) (file : FileId) (x : Replica) (e : Edge) → IsWhole n s a → replica_at a file ≡ Some x
    → IsAmong x.edges e → IsOther n s e.peer
edge_other n s a file x e whole is among =
    let graph : AreEdges n s x.edges = found_replica (λ z. AreEdges n s z.edges) file x a.replicas whole.replicas is in
    (member_at (IsEdge n s) x.edges e graph.each among).other

born_by : (e : Edge) (birth : ℕ) (o : Option Edge) → o ≡ Some e → is_some (keys_if_born o birth) ≡ true → e.birth ≡ birth
born_by e birth o is h = by (e.birth == birth) refl (ap (λ (z : Option Edge). is_some (keys_if_born z birth)) (sym is) ∙ h)
  where
    by : (t : Bool) → (e.birth == birth) ≡ t → is_some (cond t (Some e.keys) None) ≡ true → e.birth ≡ birth
    by true same k = eqb-true e.birth birth same
    by false other k = absurd (false≢true k)

-- so it has the birth with which its peer is listed
pub edge_born : (es : List Edge) (e : Edge) (birth : ℕ) → edge_to es e.peer ≡ Some e → is_listed es e.peer birth ≡ true
    → e.birth ≡ birth
edge_born es e birth found h = born_by e birth (edge_to es e.peer) found h

module _ (n : ℕ) (on : StandOn n) (events : List Event) (quiet : IsQuiet n (run n events)) where
  abbrev W : World
  W = run n events

  abbrev A : ℕ → Store
  A s = W.stores s

  abbrev pub Lives : ℕ → Type 0
  Lives s = is_live n W s ≡ true

  pub whole_of : (s : ℕ) → Lives s → IsWhole n s (A s)
  whole_of s live = let i = live_is n W s live in on.holding.whole events s i.least i.most

  -- all removals are known to a live server
  pub all_known : (s : ℕ) → Lives s → removed_of (A s) ≡ removals W.journal
  all_known s live =
      let i = live_is n W s live in
      let all : length (removals W.journal) ≤ view_of (A s) = (let same = quiet.views s live in omega arith) in
      sym (on.quiet.views events s i.least i.most).front ∙ take_all (view_of (A s)) (removals W.journal) all

  pub lives_where : (t : ℕ) → 1 ≤ t → t ≤ n → is_removed (removals W.journal) t ≡ false → Lives t
  lives_where t least most kept = and_from (is_server n t) (not (is_removed (removals W.journal) t)) (server_is n t least most) (ap not kept)

  pub no_intents : (s : ℕ) → Lives s → (A s).intents ≡ []
  no_intents s live = nothing_intended (A s) (quiet.nothing s live)

  module _ (file : FileId) (s : ℕ) (live : Lives s) (x : Replica) (held : replica_at (A s) file ≡ Some x) (e : Edge) (among : IsAmong x.edges e) where
    other : IsOther n s e.peer
    other = edge_other n s (A s) file x e (whole_of s live) held among

    -- the peer is live
    pub peer_lives : Lives e.peer
    peer_lives =
        let i = live_is n W s live in
        let kept = (on.quiet.views events s i.least i.most).edges file x e held among in
        lives_where e.peer other.least other.most (ap (λ (rs : List ℕ). is_removed rs e.peer) (sym (all_known s live)) ∙ kept)

    bare : e.keys ≡ []
    bare = member_at IsBare x.edges e (bare_edges (A s) file x (quiet.nothing s live) held) among

    no_bye : OwesBye W s file x e → ⊥
    no_bye o =
        let k = subst (λ is. IsAmong is (intent.Bye file e.birth s x.birth)) (no_intents e.peer peer_lives) o.owed in
        absurd (let lt = k.1.0 in omega arith)

    -- and names this server back
    pub named_back : HasEdge W file s e.peer
    named_back =
        let i = live_is n W s live in
        let mine : is_removed (removed_of (A e.peer)) s ≡ false = ap (λ (rs : List ℕ). is_removed rs s) (all_known e.peer peer_lives) ∙ i.live in
        elim (on.quiet.heard events s i.least i.most file x e (record { is = held; among = among })
        (record {
          key = key.Place;
          cell = cell.Place (own_or_blank (A s).names file).place;
          is = refl;
          acknowledged = ap (λ (ks : List (Key × ℕ)). tag_in ks key.Place) bare;
        }) mine) [
          | inl back ↦ back
          | inr bye ↦ absurd (no_bye bye)
        ]

    same_replica : (y z : Replica) (o : Option Replica) → o ≡ Some y → o ≡ Some z → y ≡ z
    same_replica y z o a b = (let k : Some y ≡ Some z = sym a ∙ b in cc)

    -- the peer's replica has the birth that the edge names
    pub peer_born : named_back.there.replica.birth ≡ e.birth
    peer_born =
        let here = named_back.here in
        let same : here.replica ≡ x = same_replica here.replica x (replica_at (A s) file) here.is held in
        let names : is_listed x.edges e.peer named_back.there.replica.birth ≡ true =
        ap (λ (y : Replica). is_listed y.edges e.peer named_back.there.replica.birth) (sym same) ∙ named_back.names in
        sym (edge_born x.edges e named_back.there.replica.birth (edge_found n s (A s) file x e (whole_of s live) held among) names)
