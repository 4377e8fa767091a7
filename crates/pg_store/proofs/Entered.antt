-- What is found behind the view that a server enters.
use Rattle.std.proofs.Common.{ℕ, ◌≡◌, ◌==◌, ◌||◌, Bool, true, false, not, cond, Option, None, Some, is_some, List, [], ◌∷◌, refl, sym, ap, ◌∙◌, eq-eqb}
use Rattle.std.specs.BTreeMap.{is_at}
use Rattle.std.specs.List.{list_any}
use Rattle.std.specs.Map.{keys_of, lookup}
use Rattle.std.specs.Option.{option_map}
use Rattle.pg_base.specs.declared.id.FileId.{FileId}
use Rattle.pg_base.specs.Id.{file_cmp, is_same_file}
use Rattle.pg_base.proofs.Maps.{lookup-insert_entry}
use Rattle.pg_base.proofs.Orders.{file_total, is_same_file-true}
use Rattle.pg_edges.specs.declared.edge.Edge.{Edge}
use Rattle.pg_edges.specs.Edges.{edge_to, is_listed, keys_if_born, without_edge}
use Rattle.pg_edges.proofs.Edits.{not_taken_out}
use Rattle.pg_intent.specs.Intents.{keys_to, turned_each}
use Rattle.pg_names.specs.Names.{InodeValue, remove_server}
use Rattle.pg_replica.specs.declared.replica.Replica.{Replica}
use Rattle.pg_replica.specs.Replica.{with_unlink}
use Rattle.pg_replica.specs.Replicas.{lists_peer, or_nothing, replica_in, replicas_unlinked}
use Rattle.pg_store.specs.declared.store.Store.{Store}
use Rattle.pg_store.specs.Links.{is_linked}
use Rattle.pg_store.specs.Servers.{next_target}
use Rattle.pg_store.specs.Store.{replica_at}
use Rattle.pg_store.specs.Together.{AreTogether}
use Rattle.pg_store.specs.Views.{cut, cut_born, cut_each, enter, listed_birth, with_removed, without_peer}

-- ---- one replica

module _ (server : ℕ) where
  listed_there : (es : List Edge) (e : Edge) → edge_to es server ≡ Some e → is_listed es server e.birth ≡ true
  listed_there es e here =
      ap (λ o. is_some (keys_if_born o e.birth)) here
      ∙ ap (λ b. is_some (cond b (Some e.keys) None)) (eq-eqb e.birth e.birth refl)

  unlinked_is : (x : Replica) (e : Edge) → edge_to x.edges server ≡ Some e → with_unlink x server e.birth ≡ without_peer server x
  unlinked_is x e here =
      ap (λ b. record x { edges = cond b (without_edge x.edges server) x.edges }) (listed_there x.edges e here)

  unlisted_is : (x : Replica) → edge_to x.edges server ≡ None → without_peer server x ≡ x
  unlisted_is x none = ap (λ es. record x { edges = es }) (sym (not_taken_out x.edges server none))

  none_left : (es : List Edge) → edge_to (without_edge es server) server ≡ None
  none_left [] = refl
  none_left (e ∷ es) = by (e.peer == server) refl (none_left es)
    where
      by : (t : Bool) → (e.peer == server) ≡ t → edge_to (without_edge es server) server ≡ None
          → edge_to (cond (not t) (e ∷ without_edge es server) (without_edge es server)) server ≡ None
      by true same rest = rest
      by false other rest = ap (λ b. cond b (Some e) (edge_to (without_edge es server) server)) other ∙ rest

  -- no edge leads to the server any more
  pub none_to : (x : Replica) → edge_to (without_peer server x).edges server ≡ None
  none_to x = none_left x.edges

  twice : (x : Replica) → without_peer server (without_peer server x) ≡ without_peer server x
  twice x = unlisted_is (without_peer server x) (none_to x)

  map_twice : (o : Option Replica) → option_map (without_peer server) (option_map (without_peer server) o) ≡ option_map (without_peer server) o
  map_twice None = refl
  map_twice (Some x) = ap (λ (y : Replica). Some y) (twice x)

  -- ---- the edge of one thing

  module _ (a : Store) (f : FileId) where
    here_so : (q : FileId) (o : Option Replica) → is_same_file q f ≡ true → replica_at a f ≡ o → replica_at a q ≡ o
    here_so q o e there = ap (replica_at a) (is_same_file-true q f e) ∙ there

    none_out : (q : FileId) (t : Bool) → is_same_file q f ≡ t → replica_at a f ≡ None
        → replica_at a q ≡ cond t (option_map (without_peer server) (replica_at a q)) (replica_at a q)
    none_out q true e none =
        here_so q None e none ∙ sym (ap (option_map (without_peer server)) (here_so q None e none))
    none_out q false e none = refl

    same_out : (q : FileId) (t : Bool) (x : Replica) → is_same_file q f ≡ t → replica_at a f ≡ Some x → without_peer server x ≡ x
        → replica_at a q ≡ cond t (option_map (without_peer server) (replica_at a q)) (replica_at a q)
    same_out q true x e there same =
        here_so q (Some x) e there ∙ ap (λ (y : Replica). Some y) (sym same)
        ∙ sym (ap (option_map (without_peer server)) (here_so q (Some x) e there))
    same_out q false x e there same = refl

    put_out : (q : FileId) (t : Bool) (x y : Replica) → is_same_file q f ≡ t → replica_at a f ≡ Some x → y ≡ without_peer server x
        → cond t (Some y) (replica_at a q) ≡ cond t (option_map (without_peer server) (replica_at a q)) (replica_at a q)
    put_out q true x y e there same =
        ap (λ (y : Replica). Some y) same ∙ sym (ap (option_map (without_peer server)) (here_so q (Some x) e there))
    put_out q false x y e there same = refl

    edge_by : (x : Replica) → replica_at a f ≡ Some x → (q : FileId) (o : Option Edge) → edge_to x.edges server ≡ o
        → replica_at (cut_born server a f (option_map (λ e. e.birth) o)) q
        ≡ cond (is_same_file q f) (option_map (without_peer server) (replica_at a q)) (replica_at a q)
    edge_by x there q None none = same_out q (is_same_file q f) x refl there (unlisted_is x none)
    edge_by x there q (Some e) here =
        ap (λ b. replica_at (cond b (record a { replicas = replicas_unlinked a.replicas f server e.birth (replica_at a f) }) a) q)
        (ap (λ o. lists_peer o server e.birth) there ∙ listed_there x.edges e here)
        ∙ ap (λ o. replica_in (replicas_unlinked a.replicas f server e.birth o) q) there
        ∙ lookup-insert_entry file_cmp file_total q f (with_unlink x server e.birth) a.replicas
        ∙ put_out q (is_same_file q f) x (with_unlink x server e.birth) refl there (unlinked_is x e here)

    cut_by : (o : Option Replica) → replica_at a f ≡ o → (q : FileId)
        → replica_at (cut_born server a f (option_map (λ e. e.birth) (edge_to (or_nothing o).edges server))) q
        ≡ cond (is_same_file q f) (option_map (without_peer server) (replica_at a q)) (replica_at a q)
    cut_by None none q = none_out q (is_same_file q f) refl none
    cut_by (Some x) there q = edge_by x there q (edge_to x.edges server) refl

    pub cut_found : (q : FileId) → replica_at (cut server a f) q
        ≡ cond (is_same_file q f) (option_map (without_peer server) (replica_at a q)) (replica_at a q)
    cut_found q = cut_by (replica_at a f) refl q

    names_by : (o : Option ℕ) → (cut_born server a f o).names ≡ a.names
    names_by None = refl
    names_by (Some birth) = by (is_linked a f server birth)
      where
        by : (t : Bool) → (cond t (record a { replicas = replicas_unlinked a.replicas f server birth (replica_at a f) }) a).names ≡ a.names
        by true = refl
        by false = refl

    cut_names : (cut server a f).names ≡ a.names
    cut_names = names_by (listed_birth a f server)

    intents_by : (o : Option ℕ) → (cut_born server a f o).intents ≡ a.intents
    intents_by None = refl
    intents_by (Some birth) = by (is_linked a f server birth)
      where
        by : (t : Bool) → (cond t (record a { replicas = replicas_unlinked a.replicas f server birth (replica_at a f) }) a).intents ≡ a.intents
        by true = refl
        by false = refl

    cut_intents : (cut server a f).intents ≡ a.intents
    cut_intents = intents_by (listed_birth a f server)

  -- ---- those of some things

  pub cuts_found : (fs : List FileId) (a : Store) (q : FileId) → replica_at (cut_each server a fs) q
      ≡ cond (list_any (is_same_file q) fs) (option_map (without_peer server) (replica_at a q)) (replica_at a q)
  cuts_found [] a q = refl
  cuts_found (f ∷ fs) a q =
      cuts_found fs (cut server a f) q
      ∙ by (is_same_file q f) (list_any (is_same_file q) fs) (replica_at (cut server a f) q) (cut_found a f q)
    where
      by : (t u : Bool) (o : Option Replica) → o ≡ cond t (option_map (without_peer server) (replica_at a q)) (replica_at a q)
          → cond u (option_map (without_peer server) o) o
          ≡ cond (t || u) (option_map (without_peer server) (replica_at a q)) (replica_at a q)
      by true true o e = ap (option_map (without_peer server)) e ∙ map_twice (replica_at a q)
      by true false o e = e
      by false u o e = ap (λ p. cond u (option_map (without_peer server) p) p) e

  pub cuts_names : (fs : List FileId) (a : Store) → (cut_each server a fs).names ≡ a.names
  cuts_names [] a = refl
  cuts_names (f ∷ fs) a = cuts_names fs (cut server a f) ∙ cut_names a f

  pub cuts_intents : (fs : List FileId) (a : Store) → (cut_each server a fs).intents ≡ a.intents
  cuts_intents [] a = refl
  cuts_intents (f ∷ fs) a = cuts_intents fs (cut server a f) ∙ cut_intents a f

-- ---- those of all that is held

is_there : (q : FileId) (es : List (FileId × InodeValue)) → list_any (is_same_file q) (keys_of es) ≡ is_some (lookup (is_at (file_cmp q)) es)
is_there q [] = refl
is_there q (e ∷ es) = by (is_same_file q e.0) (is_there q es)
  where
    by : (t : Bool) → list_any (is_same_file q) (keys_of es) ≡ is_some (lookup (is_at (file_cmp q)) es)
        → (t || list_any (is_same_file q) (keys_of es)) ≡ is_some (cond t (Some e.1) (lookup (is_at (file_cmp q)) es))
    by true rest = refl
    by false rest = rest

of_all : (server : ℕ) (o : Option Replica) → cond (is_some o) (option_map (without_peer server) o) o ≡ option_map (without_peer server) o
of_all server None = refl
of_all server (Some x) = refl

module _ (a : Store) (server : ℕ) where
  pub enter_found : (q : FileId) → AreTogether a → replica_at (enter a server) q ≡ option_map (without_peer server) (replica_at a q)
  enter_found q together =
      cuts_found server (keys_of a.names.held) (with_removed a server) q
      ∙ ap (λ b. cond b (option_map (without_peer server) (replica_at a q)) (replica_at a q))
      (is_there q a.names.held ∙ sym (together q))
      ∙ of_all server (replica_at a q)

  pub enter_names : (enter a server).names ≡ remove_server a.names server
  enter_names = cuts_names server (keys_of a.names.held) (with_removed a server)

  -- its intentions are those that it had, but that none asks the server any more
  pub enter_intents : (enter a server).intents ≡ turned_each a.intents (keys_to server a.intents)
      (next_target (cut_each server (with_removed a server) (keys_of a.names.held)) server)
  enter_intents =
      let b = cut_each server (with_removed a server) (keys_of a.names.held) in
      ap (λ is. turned_each is (keys_to server is) (next_target b server)) (cuts_intents server (keys_of a.names.held) (with_removed a server))
