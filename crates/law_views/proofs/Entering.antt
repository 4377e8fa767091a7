-- A server enters a view: what is seen of it then.
use Rattle.std.proofs.Common.{[], ℕ, ◌≡◌, ◌==◌, false, List, ◌∷◌, ◌++◌, Option, None, Some, ◌⊎◌, inl, inr, refl, sym, ap, subst, ◌∙◌}
use Rattle.std.specs.Map.{keys_of}
use Rattle.std.specs.Option.{option_map}
use Rattle.std.proofs.lemmas.Option.{none-some, same_Some}
use Rattle.law_frame.specs.pg_run.pg_base.declared.id.FileId.{FileId}
use Rattle.law_frame.proofs.pg_run.pg_intent.Above.{still_apart}
use Rattle.law_frame.specs.pg_run.pg_names.Names.{NamesValue, remove_server}
use Rattle.law_frame.specs.pg_run.pg_replica.declared.replica.Replica.{Replica}
use Rattle.law_frame.specs.pg_run.pg_replica.Replicas.{ByFile, replicas_unlinked}
use Rattle.law_frame.specs.pg_run.pg_store.declared.store.Store.{Store}
use Rattle.law_frame.specs.pg_run.pg_store.declared.wishes.Wish.{Wish}
use Rattle.law_frame.specs.pg_run.pg_store.Links.{is_linked, unlink}
use Rattle.law_frame.specs.pg_run.pg_store.Seen.{removed_of, server_of}
use Rattle.law_frame.specs.pg_run.pg_store.Servers.{next_target}
use Rattle.law_frame.specs.pg_run.pg_store.Store.{replica_at}
use Rattle.law_frame.specs.pg_run.pg_store.Together.{AreTogether}
use Rattle.law_frame.specs.pg_run.pg_store.Views.{cut, cut_born, cut_each, enter, listed_birth, with_removed, without_peer}
use Rattle.law_frame.proofs.pg_run.pg_store.Entered.{enter_found, enter_names}
use Rattle.law_frame.proofs.pg_run.pg_store.Wished.{enter_wished}
use Rattle.law_frame.proofs.pg_run.theory_flood_pieces.Choices.{chosen}
use Rattle.law_views.proofs.Lists.{lead_on, turned_number}
use Rattle.law_views.proofs.Seen.{Asks, IsSeen, IsTarget, Leads}
use Rattle.law_views.proofs.Targets.{Asked, next_of_live}

-- ---- what edges that go leave as it is

module _ {A : Type 0} (of : Store → A) (same : (a : Store) (rs : ByFile) → of (record a { replicas = rs }) ≡ of a) (server : ℕ) where
  unlink_same : (a : Store) (file : FileId) (birth : ℕ) → of (unlink a file server birth) ≡ of a
  unlink_same a file birth =
      let rs = replicas_unlinked a.replicas file server birth (replica_at a file) in
      chosen (λ (b : Store). of b ≡ of a) (is_linked a file server birth) (record a { replicas = rs }) a (same a rs) refl

  born_same : (a : Store) (file : FileId) (o : Option ℕ) → of (cut_born server a file o) ≡ of a
  born_same a file None = refl
  born_same a file (Some birth) = unlink_same a file birth

  cuts_same : (files : List FileId) (a : Store) → of (cut_each server a files) ≡ of a
  cuts_same [] a = refl
  cuts_same (file ∷ files) a =
      cuts_same files (cut server a file) ∙ born_same a file (listed_birth a file server)

-- ---- the view

module _ (n s : ℕ) (R : List ℕ) (a : Store) (server : ℕ) (together : AreTogether a) (k : IsSeen n s R a) where
  abbrev pub Later : List ℕ
  Later = R ++ server ∷ []

  abbrev Cut : Store
  Cut = cut_each server (with_removed a server) (keys_of a.names.held)

  cut_servers : Cut.servers ≡ n
  cut_servers = cuts_same (λ (b : Store). b.servers) (λ b rs. refl) server (keys_of a.names.held) (with_removed a server) ∙ k.servers

  now_removed : (remove_server a.names server).removed ≡ Later
  now_removed = ap (λ (gone : List ℕ). gone ++ server ∷ []) k.removed

  abbrev Then : Store
  Then = enter a server

  then_removed : removed_of Then ≡ Later
  then_removed = ap (λ (m : NamesValue). m.removed) (enter_names a server) ∙ now_removed

  then_server : server_of Then ≡ s
  then_server = ap (λ (m : NamesValue). m.server) (enter_names a server) ∙ k.server

  next_asked : Asked n s Later (next_target Then server)
  next_asked = next_of_live n s Later Then cut_servers then_server then_removed server

  -- who was another live one and is not the server is so still
  still_target : (t : ℕ) → (server == t) ≡ false → IsTarget n s R t → IsTarget n s Later t
  still_target t apart h = record {
    from = h.from;
    upto = h.upto;
    differs = h.differs;
    stays = still_apart R server t h.stays apart;
  }

  edge_by : (o : Option Replica) (x : Replica) → ((y : Replica) → o ≡ Some y → Leads n s R y)
      → option_map (without_peer server) o ≡ Some x → Leads n s Later x
  edge_by None x of h = absurd (none-some x h)
  edge_by (Some y) x of h =
      subst (Leads n s Later) (same_Some (without_peer server y) x h) (lead_on R server y.edges (of y refl))

  wish_by : (w was : Wish) → (w.target ≡ next_target Then server) ⊎ ((w ≡ was) × ((was.target == server) ≡ false))
      → Asks n s R was → Asks n s Later w
  wish_by w was (inl same) of = subst (Asked n s Later) (sym same) next_asked
  wish_by w was (inr h) of =
      subst (Asks n s Later) (sym h.0)
      (λ some. still_target was.target (turned_number was.target server h.1) (of some))

  pub enter_seen : IsSeen n s Later Then
  enter_seen = record {
    removed = then_removed;
    server = then_server;
    servers = cut_servers;
    edges = λ q x there. edge_by (replica_at a q) x (λ y at. k.edges q y at) (sym (enter_found a server q together) ∙ there);
    wishes = λ q w there. (
        let was = enter_wished a server q w there in
        wish_by w was.0 was.3 (k.wishes q was.0 was.1));
  }
