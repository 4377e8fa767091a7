-- Who has acknowledged all that it was sent: the edge to it was there before the event, since a new
-- one has every key.
use Rattle.std.proofs.Common.{ℕ, ◌≡◌, ◌==◌, inl, inr, Bool, true, false, cond, List, [], ◌∷◌, Option, None, Some, option_map, refl, sym, ap, ◌∙◌}
use Rattle.std.specs.Prelude.{Contains}
use Rattle.std.specs.List.{IsAmong}
use Rattle.std.proofs.lemmas.Bool.{eqb-true, false≢true}
use Rattle.std.proofs.lemmas.Option.{none-some, same_Some}
use Rattle.law_frame.specs.pg_run.pg_base.declared.id.FileId.{FileId}
use Rattle.law_frame.specs.pg_run.pg_content.Content.{Among}
use Rattle.law_frame.specs.pg_run.pg_edges.declared.edge.Edge.{Edge}
use Rattle.law_frame.specs.pg_run.pg_edges.declared.key.Key.{Key}
use Rattle.law_frame.specs.pg_run.pg_edges.declared.key.Key.TheVariants as key
use Rattle.law_frame.specs.pg_run.pg_edges.Edges.{edge_to, is_none, keys_at, keys_if_born, makes_edge}
use Rattle.law_frame.specs.pg_run.pg_edges.Keys.{tag_in}
use Rattle.law_frame.proofs.pg_run.pg_edges.Links.{links}
use Rattle.law_frame.specs.pg_run.pg_names.Names.{is_held}
use Rattle.law_frame.specs.pg_run.pg_replica.declared.replica.Replica.{Replica}
use Rattle.law_frame.specs.pg_run.pg_replica.Replica.{are_none, is_clean_to, with_link}
use Rattle.law_frame.specs.pg_run.pg_replica.Replicas.{or_nothing, replicas_linked, takes_link}
use Rattle.law_frame.specs.pg_run.pg_store.declared.store.Store.{Store}
use Rattle.law_frame.specs.pg_run.pg_store.Links.{is_clean, is_new_link, keys, link, put_link}
use Rattle.law_frame.specs.pg_run.pg_store.Store.{replica_at}
use Rattle.law_frame.proofs.pg_run.theory_flood_pieces.AllKeys.{keys_all}
use Rattle.law_frame.proofs.pg_run.theory_flood_pieces.Stores.{Changes, replica_here}
use Rattle.law_frame.proofs.pg_run.Lists.{among_contained}

-- ---- an edge that is found

edge_by : (e x : Edge) (es : List Edge) (peer : ℕ) (t : Bool) → (x.peer == peer) ≡ t → cond t (Some x) (edge_to es peer) ≡ Some e
    → (edge_to es peer ≡ Some e → Among e es × (e.peer ≡ peer)) → Among e (x ∷ es) × (e.peer ≡ peer)
edge_by e x es peer true same h later =
    let is : x ≡ e = same_Some x e h in
    (inl (sym is), ap (λ (y : Edge). y.peer) (sym is) ∙ eqb-true x.peer peer same)
edge_by e x es peer false other h later = let r = later h in (inr r.0, r.1)

edge_in : (es : List Edge) (peer : ℕ) (e : Edge) → edge_to es peer ≡ Some e → Among e es × (e.peer ≡ peer)
edge_in [] peer e h = absurd (none-some e h)
edge_in (x ∷ es) peer e h = edge_by e x es peer (x.peer == peer) refl h (edge_in es peer e)

pub among_of : {A : Type 0} (xs : List A) (x : A) → Contains xs x → IsAmong xs x
among_of xs x c = (c.0, (c.1, sym c.2))

-- ---- no key

none_keys : (ks : List (Key × ℕ)) → is_none ks ≡ true → ks ≡ []
none_keys [] h = refl
none_keys (k ∷ ks) h = absurd (false≢true h)

keys_none : (o : Option (List (Key × ℕ))) → are_none o ≡ true → o ≡ Some []
keys_none None h = absurd (false≢true h)
keys_none (Some ks) h = ap Some (none_keys ks h)

abbrev NoKeys : List (Key × ℕ)
NoKeys = []

-- an edge to the birth, with no key
abbrev IsBare : Option Edge → ℕ → Type 0
IsBare o birth = (e : Edge) × (o ≡ Some e) × (e.birth ≡ birth) × (e.keys ≡ [])

born_by : (e : Edge) (birth : ℕ) (t : Bool) → (e.birth == birth) ≡ t → cond t (Some e.keys) None ≡ Some NoKeys → IsBare (Some e) birth
born_by e birth true is h = (e, refl, eqb-true e.birth birth is, same_Some e.keys NoKeys h)
born_by e birth false is h = absurd (none-some NoKeys h)

born : (o : Option Edge) (birth : ℕ) → keys_if_born o birth ≡ Some NoKeys → IsBare o birth
born None birth h = absurd (none-some NoKeys h)
born (Some e) birth h = born_by e birth (e.birth == birth) refl h

-- ---- a peer that has acknowledged all

pub record IsAcknowledged (a : Store) (f : FileId) (peer birth : ℕ) : Type 0 where
  pub replica : Replica
  pub is : replica_at a f ≡ Some replica
  pub edge : Edge
  pub among : IsAmong replica.edges edge
  pub peer_is : edge.peer ≡ peer
  pub birth_is : edge.birth ≡ birth
  pub none : edge.keys ≡ []

module _ (a : Store) (f : FileId) (peer birth : ℕ) where
  clean_by : (o : Option Replica) → replica_at a f ≡ o → is_clean_to (or_nothing o) peer birth ≡ true → IsAcknowledged a f peer birth
  clean_by None is h = absurd (false≢true h)
  clean_by (Some x) is h =
      let b = born (edge_to x.edges peer) birth (keys_none (keys_at x.edges peer birth) h) in
      let found = edge_in x.edges peer b.0 b.1 in
      record { replica = x; is = is; edge = b.0; among = among_of x.edges b.0 (among_contained x.edges b.0 found.0); peer_is = found.1; birth_is = b.2; none = b.3 }

  abbrev Linked : Store
  Linked = put_link a f peer birth

  -- a new edge has the place's key
  never_new : is_held a.names f ≡ true → (o : Option Replica) → replica_at a f ≡ o → is_new_link a f peer birth ≡ true → is_clean Linked f peer birth ≡ true → ⊥
  never_new held None is news h = false≢true (ap (λ (o : Option Replica). takes_link o peer birth) (sym is) ∙ news)
  never_new held (Some x) is news h =
      let ks = keys a f in
      let y = with_link x peer birth ks a.tags in
      let made : makes_edge x.edges peer birth ≡ true = ap (λ (o : Option Replica). takes_link o peer birth) (sym is) ∙ news in
      let change : Changes a Linked f x y = record { old = is; replicas = ap (replicas_linked a.replicas f peer birth ks a.tags) is } in
      let clean : is_clean_to y peer birth ≡ true = ap (λ (o : Option Replica). is_clean_to (or_nothing o) peer birth) (sym (replica_here a Linked f x y change)) ∙ h in
      let bare = keys_none (keys_at y.edges peer birth) clean in
      let fresh = (links x.edges peer birth ks a.tags made).fresh key.Place (keys_all a f key.Place _ held refl) in
      none_tag fresh.tag (sym (ap (option_map (λ (q : List (Key × ℕ)). tag_in q key.Place)) bare) ∙ fresh.is)
    where
      none_tag : (t : ℕ) → ◌≡◌ {A = Option (Option ℕ)} (Some None) (Some (Some t)) → ⊥
      none_tag t e = cc

  clean_at : is_held a.names f ≡ true → (t : Bool) → is_new_link a f peer birth ≡ t → is_clean (cond t Linked a) f peer birth ≡ true → IsAcknowledged a f peer birth
  clean_at held true news h = absurd (never_new held (replica_at a f) refl news h)
  clean_at held false news h = clean_by (replica_at a f) refl h

  -- IT HAD ACKNOWLEDGED ALL BEFORE
  pub clean_before : is_held a.names f ≡ true → is_clean (link a f peer birth) f peer birth ≡ true → IsAcknowledged a f peer birth
  clean_before held h = clean_at held (is_new_link a f peer birth) refl h
