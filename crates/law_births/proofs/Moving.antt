-- From one moment of a server to a later one: births are given out, and edges go up.
use Rattle.std.proofs.Common.{ℕ, ◌≡◌, ◌⊎◌, Bool, true, false, cond, List, length, Option, None, Some, is_some, inl, inr, refl, sym, ap, subst, ◌∙◌}
use Rattle.std.specs.Option.{option_map}
use Rattle.pg_run.specs.pg_base.declared.id.FileId.{FileId}
use Rattle.pg_run.specs.pg_base.declared.policy.Policy.{Policy}
use Rattle.pg_run.specs.pg_base.Id.{file_cmp, is_same_file}
use Rattle.pg_run.proofs.pg_base.Maps.{lookup-insert_entry}
use Rattle.pg_run.proofs.pg_base.Orders.{file_total, is_same_file-refl, is_same_file-true}
use Rattle.pg_run.specs.pg_edges.declared.key.Key.{Key}
use Rattle.pg_run.specs.pg_edges.Edges.{edge_to, linked, makes_edge, new_edge, put_edge}
use Rattle.pg_run.specs.pg_names.declared.attributes.Attributes.{Attributes}
use Rattle.pg_run.specs.pg_replica.declared.replica.Replica.{Replica}
use Rattle.pg_run.specs.pg_replica.Replica.{is_born_later, new_replica, with_link, with_unlink}
use Rattle.pg_run.specs.pg_replica.Replicas.{ByFile, or_nothing, put_replica, replica_in, replicas_linked, replicas_unlinked, takes_link}
use Rattle.pg_run.specs.pg_store.declared.store.Store.{Store}
use Rattle.pg_run.specs.pg_store.Beginning.{begin, patches_of, put_new}
use Rattle.pg_run.specs.pg_store.Links.{is_linked, is_new_link, keys, knows_later, link, put_link, unlink}
use Rattle.pg_run.specs.pg_store.Store.{is_held, replica_at, with_drawn}
use Rattle.pg_run.specs.pg_store.Together.{AreTogether, IsOver}
use Rattle.pg_run.proofs.pg_store.Pairs.{unlink_as_before}
use Rattle.law_births.proofs.Ends.{AreUp, NoneFalls, UpBut, born_to, ends, link_lists, link_up, none_falls, unlink_falls_not, unlink_up, up_but, up_falls_not, up_itself}
use Rattle.law_births.proofs.Has.{Goes, IsAlone, before_goes, goes_itself, goes_then, over_goes}
use Rattle.law_births.proofs.Pieces.{Shape, Stays, patches_stay, shape, shape_at}

-- why an edge to a birth of a peer goes, and why a replica goes
pub record Why : Type 1 where
  pub edge : FileId → ℕ → ℕ → Type 0
  pub replica : FileId → Type 0

-- where nobody asks
abbrev pub AnyWhy : Why
AnyWhy = record { edge = λ file peer birth. Unit {0}; replica = λ file. Unit {0} }

-- a replica is there with its birth, and no birth of a peer has fallen; and an edge that is gone
-- had to go
abbrev pub Keeps : Why → Store → FileId → ℕ → List (ℕ × ℕ) → Type 0
Keeps V b file n es = (fs : List (ℕ × ℕ)) × (shape_at b file ≡ Some (n, fs)) × NoneFalls es fs × UpBut (V.edge file) es fs

-- the replica of this birth went: the thing is not held, and the birth is over
abbrev pub WentOff : Why → Store → FileId → ℕ → Type 0
WentOff V b file n = (shape_at b file ≡ None) × IsOver b file n × V.replica file

-- what is held stays with its birth, and no birth of a peer falls; or it goes
abbrev pub EdgesMove : Why → Store → Store → Type 0
EdgesMove V a b = (file : FileId) (n : ℕ) (es : List (ℕ × ℕ)) → shape_at a file ≡ Some (n, es)
    → Keeps V b file n es ⊎ WentOff V b file n

pub record Moves (V : Why) (a b : Store) : Type 0 where
  pub goes : Goes a b
  pub edges : IsAlone a → EdgesMove V a b

-- as it was
pub keeps_same : (V : Why) (b : Store) (file : FileId) (n : ℕ) (es : List (ℕ × ℕ)) → shape_at b file ≡ Some (n, es) → Keeps V b file n es
keeps_same V b file n es there = (es, there, none_falls es, up_but (V.edge file) es es (up_itself es))

-- with edges that went up
pub keeps_up : (V : Why) (b : Store) (file : FileId) (n : ℕ) (es : List (ℕ × ℕ))
    → (fs : List (ℕ × ℕ)) × (shape_at b file ≡ Some (n, fs)) × AreUp es fs → Keeps V b file n es
keeps_up V b file n es k = (k.0, k.1, up_falls_not es k.0 k.2, up_but (V.edge file) es k.0 k.2)

pub moves_itself : {V : Why} → (a : Store) → Moves V a a
moves_itself {V} a = record { goes = goes_itself a; edges = λ k q n es there. inl (keeps_same V a q n es there) }

pub stays_goes : {a b : Store} → Stays a b → Goes a b
stays_goes {a} {b} s = before_goes a b s.before

-- and behind what leaves edges as they are
kept_on : (V : Why) (b c : Store) (q : FileId) (n : ℕ) (es : List (ℕ × ℕ)) → Goes b c → shape_at c q ≡ shape_at b q → Keeps V b q n es ⊎ WentOff V b q n
    → Keeps V c q n es ⊎ WentOff V c q n
kept_on V b c q n es g same k = elim k [
  | inl e ↦ inl (e.0, same ∙ e.1, e.2, e.3)
  | inr w ↦ inr (same ∙ w.0, over_goes b c q n g w.1, w.2)
]

pub moves_stay : {V : Why} {a b c : Store} → Moves V a b → Stays b c → Moves V a c
moves_stay {V} {a} {b} {c} m s = record {
  goes = goes_then m.goes (stays_goes s);
  edges = λ k q n es there. kept_on V b c q n es (stays_goes s) (s.shapes q) (m.edges k q n es there);
}

pub stay_moves : {V : Why} {a b c : Store} → Stays a b → Moves V b c → Moves V a c
stay_moves s m = record {
  goes = goes_then (stays_goes s) m.goes;
  edges = λ k q n es there. m.edges ((stays_goes s).alone k) q n es (s.shapes q ∙ there);
}

pub stays_moves : {V : Why} {a b : Store} → Stays a b → Moves V a b
stays_moves {V} {a} {b} s = record {
  goes = stays_goes s;
  edges = λ k q n es there. inl (keeps_same V b q n es (s.shapes q ∙ there));
}

-- births alone
pub goes_moves : {V : Why} {a b : Store} → Goes a b → ((q : FileId) → shape_at b q ≡ shape_at a q) → Moves V a b
goes_moves {V} {a} {b} g same = record {
  goes = g;
  edges = λ k q n es there. inl (keeps_same V b q n es (same q ∙ there));
}

-- and behind it
pub moves_goes : {V : Why} {a b c : Store} → Moves V a b → Goes b c → ((q : FileId) → shape_at c q ≡ shape_at b q) → Moves V a c
moves_goes {V} {a} {b} {c} m g same = record {
  goes = goes_then m.goes g;
  edges = λ k q n es there. kept_on V b c q n es g (same q) (m.edges k q n es there);
}

-- ---- one replica changed

pub some_shape : (m n : ℕ) (es fs : List (ℕ × ℕ)) → ◌≡◌ {A = Option Shape} (Some (m, es)) (Some (n, fs)) → (m ≡ n) × (es ≡ fs)
some_shape m n es fs e =
    let k : ◌≡◌ {A = Shape} (m, es) (n, fs) = cc in
    (ap (λ (z : Shape). z.0) k, ap (λ (z : Shape). z.1) k)

module _ (rs : ByFile) (file : FileId) (x y : Replica) (there : replica_in rs file ≡ Some x) (same : y.birth ≡ x.birth) where
  abbrev shape_in : ByFile → FileId → Option Shape
  shape_in zs q = option_map shape (replica_in zs q)

  put_by : (q : FileId) (t : Bool) → is_same_file q file ≡ t → (n : ℕ) (es : List (ℕ × ℕ)) → shape_in rs q ≡ Some (n, es)
      → (P : List (ℕ × ℕ) → List (ℕ × ℕ) → Type 0) → P (ends x.edges) (ends y.edges) → ((l : List (ℕ × ℕ)) → P l l)
      → (fs : List (ℕ × ℕ)) × (option_map shape (cond t (Some y) (replica_in rs q)) ≡ Some (n, fs)) × P es fs
  put_by q true e n es was P here other =
      let old = some_shape x.birth n (ends x.edges) es
      (sym (ap (option_map shape) (ap (replica_in rs) (is_same_file-true q file e) ∙ there)) ∙ was) in
      let Q : List (ℕ × ℕ) → Type 0 = λ l. P l (ends y.edges) in
      (ends y.edges, ap (λ (m : ℕ). Some (m, ends y.edges)) (same ∙ old.0), subst Q old.1 here)
  put_by q false e n es was P here other = (es, was, other es)

  put_shapes : (q : FileId) (n : ℕ) (es : List (ℕ × ℕ)) → shape_in rs q ≡ Some (n, es)
      → (P : List (ℕ × ℕ) → List (ℕ × ℕ) → Type 0) → P (ends x.edges) (ends y.edges) → ((l : List (ℕ × ℕ)) → P l l)
      → (fs : List (ℕ × ℕ)) × (shape_in (put_replica rs file y) q ≡ Some (n, fs)) × P es fs
  put_shapes q n es was P here other =
      let k = put_by q (is_same_file q file) refl n es was P here other in
      (k.0, ap (option_map shape) (lookup-insert_entry file_cmp file_total q file y rs) ∙ k.1, k.2)

-- ---- a link

module _ (a : Store) (file : FileId) (p b : ℕ) where
  linked_at : (o : Option Replica) → replica_at a file ≡ o → (q : FileId) (n : ℕ) (es : List (ℕ × ℕ)) → shape_at a q ≡ Some (n, es)
      → (fs : List (ℕ × ℕ))
      × (option_map shape (replica_in (replicas_linked a.replicas file p b (keys a file) a.tags o) q) ≡ Some (n, fs)) × AreUp es fs
  linked_at None there q n es was = (es, was, up_itself es)
  linked_at (Some x) there q n es was =
      put_shapes a.replicas file x (with_link x p b (keys a file) a.tags) there refl q n es was AreUp
      (link_up x.edges p b (keys a file) a.tags) up_itself

  linked_by : (t : Bool) (q : FileId) (n : ℕ) (es : List (ℕ × ℕ)) → shape_at a q ≡ Some (n, es)
      → (fs : List (ℕ × ℕ)) × (shape_at (cond t (put_link a file p b) a) q ≡ Some (n, fs)) × AreUp es fs
  linked_by true q n es was = linked_at (replica_at a file) refl q n es was
  linked_by false q n es was = (es, was, up_itself es)

  pub link_ups : (q : FileId) (n : ℕ) (es : List (ℕ × ℕ)) → shape_at a q ≡ Some (n, es)
      → (fs : List (ℕ × ℕ)) × (shape_at (link a file p b) q ≡ Some (n, fs)) × AreUp es fs
  link_ups q n es was = linked_by (is_new_link a file p b) q n es was

  -- where the thing is held, and no later birth of the peer is listed, this one is from then on
  put_here : (rs : ByFile) (y : Replica) → replica_in (put_replica rs file y) file ≡ Some y
  put_here rs y =
      lookup-insert_entry file_cmp file_total file file y rs ∙ ap (λ t. cond t (Some y) (replica_in rs file)) (is_same_file-refl file)

  names_by : (x : Replica) (ks : List Key) (tags : ℕ) (t : Bool) → makes_edge x.edges p b ≡ t
      → born_to (ends (linked x.edges p b ks tags)) p ≡ Some b
      → born_to (ends (cond t (linked x.edges p b ks tags) x.edges)) p ≡ Some b
  names_by x ks tags true makes lists = lists
  names_by x ks tags false makes lists =
      sym (ap (λ u. born_to (ends (cond u (put_edge x.edges (new_edge p b ks tags)) x.edges)) p) makes) ∙ lists

  here_by : (x : Replica) → replica_at a file ≡ Some x → (o : Option Replica) → o ≡ Some x → (t : Bool)
      → shape_at (cond t (with_drawn a (length (keys a file)) (replicas_linked a.replicas file p b (keys a file) a.tags o)) a) file
      ≡ Some (x.birth, ends (cond t (linked x.edges p b (keys a file) a.tags) x.edges))
  here_by x there None e t = cc
  here_by x there (Some z) e true =
      ap (option_map shape) (put_here a.replicas (with_link z p b (keys a file) a.tags))
      ∙ ap (λ (w : Replica). Some (shape (with_link w p b (keys a file) a.tags))) (let same : z ≡ x = cc in same)
  here_by x there (Some z) e false = ap (option_map shape) there

  pub linked_there : (x : Replica) → replica_at a file ≡ Some x → knows_later a file p b ≡ false
      → (fs : List (ℕ × ℕ)) × (shape_at (link a file p b) file ≡ Some (x.birth, fs)) × (born_to fs p ≡ Some b)
  linked_there x there later =
      let now : is_born_later (edge_to x.edges p) b ≡ false =
      sym (ap (λ (o : Option Replica). is_born_later (edge_to (or_nothing o).edges p) b) there) ∙ later in
      let makes : is_new_link a file p b ≡ makes_edge x.edges p b = ap (λ (o : Option Replica). takes_link o p b) there in
      let t = is_new_link a file p b in (
        ends (cond t (linked x.edges p b (keys a file) a.tags) x.edges),
        here_by x there (replica_at a file) there t,
        names_by x (keys a file) a.tags t (sym makes) (link_lists x.edges p b (keys a file) a.tags now),
      )

-- ---- an edge that goes

module _ (V : Why) (a : Store) (file : FileId) (p b : ℕ) (may : V.edge file p b) where
  abbrev LeftAt : ByFile → FileId → ℕ → List (ℕ × ℕ) → Type 0
  LeftAt rs q n es = (fs : List (ℕ × ℕ)) × (option_map shape (replica_in rs q) ≡ Some (n, fs)) × NoneFalls es fs × UpBut (V.edge q) es fs

  same_left : (q : FileId) (n : ℕ) (es : List (ℕ × ℕ)) → shape_at a q ≡ Some (n, es) → LeftAt a.replicas q n es
  same_left q n es was = (es, was, none_falls es, up_but (V.edge q) es es (up_itself es))

  put_left : (x : Replica) → replica_at a file ≡ Some x → (q : FileId) (t : Bool) → is_same_file q file ≡ t → (n : ℕ) (es : List (ℕ × ℕ))
      → shape_at a q ≡ Some (n, es)
      → (fs : List (ℕ × ℕ)) × (option_map shape (cond t (Some (with_unlink x p b)) (replica_at a q)) ≡ Some (n, fs)) × NoneFalls es fs × UpBut (V.edge q) es fs
  put_left x there q true e n es was =
      let old = some_shape x.birth n (ends x.edges) es
      (sym (ap (option_map shape) (ap (replica_at a) (is_same_file-true q file e) ∙ there)) ∙ was) in
      let gs = ends (with_unlink x p b).edges in
      let R : FileId → List (ℕ × ℕ) → Type 0 = λ f l. NoneFalls l gs × UpBut (V.edge f) l gs in
      let here : R file (ends x.edges) = (unlink_falls_not x.edges p b, unlink_up (V.edge file) x.edges p b may) in
      let both : R q es = subst (λ (f : FileId). R f es) (sym (is_same_file-true q file e)) (subst (R file) old.1 here) in
      (gs, ap (λ (m : ℕ). Some (m, gs)) old.0, both.0, both.1)
  put_left x there q false e n es was = same_left q n es was

  gone_at : (o : Option Replica) → replica_at a file ≡ o → (q : FileId) (n : ℕ) (es : List (ℕ × ℕ)) → shape_at a q ≡ Some (n, es)
      → LeftAt (replicas_unlinked a.replicas file p b o) q n es
  gone_at None there q n es was = same_left q n es was
  gone_at (Some x) there q n es was =
      let k = put_left x there q (is_same_file q file) refl n es was in
      (k.0, ap (option_map shape) (lookup-insert_entry file_cmp file_total q file (with_unlink x p b) a.replicas) ∙ k.1, k.2, k.3)

  gone_by : (t : Bool) (q : FileId) (n : ℕ) (es : List (ℕ × ℕ)) → shape_at a q ≡ Some (n, es)
      → Keeps V (cond t (record a { replicas = replicas_unlinked a.replicas file p b (replica_at a file) }) a) q n es
  gone_by true q n es was = gone_at (replica_at a file) refl q n es was
  gone_by false q n es was = keeps_same V a q n es was

  pub unlink_moves : Moves V a (unlink a file p b)
  unlink_moves = record {
    goes = before_goes a (unlink a file p b) (unlink_as_before a file p b);
    edges = λ k q n es there. inl (gone_by (is_linked a file p b) q n es there);
  }

-- ---- a replica begins

unheld_by : (o : Option Replica) → is_some o ≡ false → o ≡ None
unheld_by None e = refl
unheld_by (Some x) e = cc

pub unheld : (a : Store) (file : FileId) → AreTogether a → is_held a file ≡ false → replica_at a file ≡ None
unheld a file together away = unheld_by (replica_at a file) (together file ∙ away)

module _ (a : Store) (file : FileId) (birth : ℕ) (policy : Policy) (own : Attributes) (full : Bool) (none : replica_at a file ≡ None) where
  new_by : (q : FileId) (n : ℕ) (es : List (ℕ × ℕ)) (t : Bool) → is_same_file q file ≡ t → shape_at a q ≡ Some (n, es)
      → option_map shape (cond t (Some (new_replica birth policy)) (replica_at a q)) ≡ Some (n, es)
  new_by q n es true e there =
      absurd (let z : ◌≡◌ {A = Option Shape} None (Some (n, es)) =
      sym (ap (option_map shape) (ap (replica_at a) (is_same_file-true q file e) ∙ none)) ∙ there in cc)
  new_by q n es false e there = there

  pub begin_shapes : (q : FileId) (n : ℕ) (es : List (ℕ × ℕ)) → shape_at a q ≡ Some (n, es)
      → shape_at (begin a file birth policy own full) q ≡ Some (n, es)
  begin_shapes q n es there =
      (patches_stay (put_new a file birth policy own full) file (patches_of file a.intents)).shapes q
      ∙ ap (option_map shape) (lookup-insert_entry file_cmp file_total q file (new_replica birth policy) a.replicas)
      ∙ new_by q n es (is_same_file q file) refl there

  pub begin_edges : (V : Why) → EdgesMove V a (begin a file birth policy own full)
  begin_edges V q n es there = inl (keeps_same V (begin a file birth policy own full) q n es (begin_shapes q n es there))
