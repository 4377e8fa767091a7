-- The ends of edges: to which birth of each peer there is one.
use Rattle.std.proofs.Common.{ℕ, ◌≡◌, ◌≤◌, ◌+◌, ◌==◌, ◌⊎◌, arith, Bool, true, false, cond, List, [], ◌∷◌, Option, None, Some, is_some, nat_eq, eq-eqb, inl, inr, refl, sym, ap, subst, ◌∙◌}
use Rattle.std.specs.Prelude.{nat_lt}
use Rattle.std.specs.Option.{option_eq, option_map}
use Rattle.std.proofs.lemmas.Bool.{eqb-true, ltb-true}
use Rattle.std.proofs.lemmas.Bool.Decides.{nat_tests}
use Rattle.pg_run.specs.pg_edges.declared.key.Key.{Key}
use Rattle.pg_run.specs.pg_edges.declared.edge.Edge.{Edge}
use Rattle.pg_run.specs.pg_edges.Edges.{acked, edge_to, is_listed, is_older, keys_at, keys_if_born, linked, makes_edge, new_edge, put_edge, retired, tag_at, take_off, taken_off, touched, unlinked, without_edge}
use Rattle.pg_run.proofs.pg_edges.Lookups.{edge_to-put_edge, takes_out}
use Rattle.pg_run.specs.pg_replica.Replica.{is_born_later, without_keys}

-- the peers with the births that are listed
abbrev pub ends : List Edge → List (ℕ × ℕ)
ends [] = []
ends (e ∷ es) = (e.peer, e.birth) ∷ ends es

-- the birth of a peer that is listed
abbrev pub born_to : List (ℕ × ℕ) → ℕ → Option ℕ
born_to [] peer = None
born_to (e ∷ es) peer = cond (e.0 == peer) (Some e.1) (born_to es peer)

born_by : (e : Edge) (es : List Edge) (peer : ℕ) (t : Bool) → born_to (ends es) peer ≡ option_map (λ (x : Edge). x.birth) (edge_to es peer)
    → cond t (Some e.birth) (born_to (ends es) peer) ≡ option_map (λ (x : Edge). x.birth) (cond t (Some e) (edge_to es peer))
born_by e es peer true ih = refl
born_by e es peer false ih = ih

pub born_to-edge : (es : List Edge) (peer : ℕ) → born_to (ends es) peer ≡ option_map (λ (x : Edge). x.birth) (edge_to es peer)
born_to-edge [] peer = refl
born_to-edge (e ∷ es) peer = born_by e es peer (e.peer == peer) (born_to-edge es peer)

-- ---- changes of keys alone

pub ends-touched : (es : List Edge) (k : Key) (t : ℕ) → ends (touched es k t) ≡ ends es
ends-touched [] k t = refl
ends-touched (e ∷ es) k t = ap (λ (l : List (ℕ × ℕ)). (e.peer, e.birth) ∷ l) (ends-touched es k (t + 1))

pub ends-retired : (es : List Edge) (k : Key) → ends (retired es k) ≡ ends es
ends-retired [] k = refl
ends-retired (e ∷ es) k = ap (λ (l : List (ℕ × ℕ)). (e.peer, e.birth) ∷ l) (ends-retired es k)

pub ends-without : (ks : List Key) (es : List Edge) → ends (without_keys es ks) ≡ ends es
ends-without [] es = refl
ends-without (k ∷ ks) es = ends-without ks (retired es k) ∙ ends-retired es k

off_by : (e : Edge) (k : Key) (t : Bool) (l : List (ℕ × ℕ)) → ((cond t (take_off k e) e).peer, (cond t (take_off k e) e).birth) ∷ l ≡ (e.peer, e.birth) ∷ l
off_by e k true l = refl
off_by e k false l = refl

ends-taken_off : (es : List Edge) (peer : ℕ) (k : Key) → ends (taken_off es peer k) ≡ ends es
ends-taken_off [] peer k = refl
ends-taken_off (e ∷ es) peer k =
    off_by e k (e.peer == peer) (ends (taken_off es peer k))
    ∙ ap (λ (l : List (ℕ × ℕ)). (e.peer, e.birth) ∷ l) (ends-taken_off es peer k)

acked_by : (es fs : List Edge) (t : Bool) → ends fs ≡ ends es → ends (cond t fs es) ≡ ends es
acked_by es fs true same = same
acked_by es fs false same = refl

pub ends-acked : (es : List Edge) (peer birth : ℕ) (k : Key) (tag : ℕ) → ends (acked es peer birth k tag) ≡ ends es
ends-acked es peer birth k tag =
    acked_by es (taken_off es peer k) (option_eq nat_eq (tag_at es peer birth k) (Some tag)) (ends-taken_off es peer k)

-- ---- an edge that is made

-- each peer that was listed still is, with its birth or a greater one
abbrev pub AreUp : List (ℕ × ℕ) → List (ℕ × ℕ) → Type 0
AreUp es fs = (p d : ℕ) → born_to es p ≡ Some d → (e : ℕ) × (born_to fs p ≡ Some e) × (d ≤ e)

pub up_itself : (es : List (ℕ × ℕ)) → AreUp es es
up_itself es p d there = (d, there, omega arith)

at_most : (a b c : ℕ) → a ≤ b → b ≤ c → a ≤ c
at_most a b c h k = omega arith

pub up_further : (es fs gs : List (ℕ × ℕ)) → AreUp es fs → AreUp fs gs → AreUp es gs
up_further es fs gs one two p d there =
    let k = one p d there in
    let l = two p k.0 k.1 in
    (l.0, l.1, at_most d k.0 l.0 k.2 l.2)

put_born : (es : List Edge) (x : Edge) (p : ℕ) → born_to (ends (put_edge es x)) p ≡ cond (x.peer == p) (Some x.birth) (born_to (ends es) p)
put_born es x p =
    born_to-edge (put_edge es x) p ∙ ap (option_map (λ (z : Edge). z.birth)) (edge_to-put_edge es x p)
    ∙ chosen (x.peer == p)
  where
    chosen : (t : Bool) → option_map (λ (z : Edge). z.birth) (cond t (Some x) (edge_to es p)) ≡ cond t (Some x.birth) (born_to (ends es) p)
    chosen true = refl
    chosen false = sym (born_to-edge es p)

less_up : (x birth d : ℕ) → nat_lt x birth ≡ true → x ≡ d → d ≤ birth
less_up x birth d less same = let l = ltb-true x birth less in omega (arith, same)

older_up : (o : Option Edge) (birth d : ℕ) → is_older o birth ≡ true → option_map (λ (z : Edge). z.birth) o ≡ Some d → d ≤ birth
older_up None birth d old there = cc
older_up (Some e) birth d old there =
    less_up e.birth birth d old (let same : e.birth ≡ d = cc in same)

some_birth : (a b : ℕ) → ◌≡◌ {A = Option ℕ} (Some a) (Some b) → a ≡ b
some_birth a b e = cc

put_up : (es : List Edge) (x : Edge) → makes_edge es x.peer x.birth ≡ true → AreUp (ends es) (ends (put_edge es x))
put_up es x makes p d there = at (x.peer == p) refl
  where
    at : (t : Bool) → (x.peer == p) ≡ t → (e : ℕ) × (born_to (ends (put_edge es x)) p ≡ Some e) × (d ≤ e)
    at true same =
        let here : x.peer ≡ p = eqb-true x.peer p same in
        let was : option_map (λ (z : Edge). z.birth) (edge_to es x.peer) ≡ Some d =
        ap (λ q. option_map (λ (z : Edge). z.birth) (edge_to es q)) here ∙ sym (born_to-edge es p) ∙ there in (
          x.birth,
          put_born es x p ∙ ap (λ t. cond t (Some x.birth) (born_to (ends es) p)) same,
          older_up (edge_to es x.peer) x.birth d makes was,
        )
    at false other = (d, put_born es x p ∙ ap (λ t. cond t (Some x.birth) (born_to (ends es) p)) other ∙ there, omega arith)

linked_by : (es : List Edge) (x : Edge) (t : Bool) → makes_edge es x.peer x.birth ≡ t → AreUp (ends es) (ends (cond t (put_edge es x) es))
linked_by es x true makes = put_up es x makes
linked_by es x false makes = up_itself (ends es)

pub link_up : (es : List Edge) (peer birth : ℕ) (ks : List Key) (tags : ℕ) → AreUp (ends es) (ends (linked es peer birth ks tags))
link_up es peer birth ks tags = linked_by es (new_edge peer birth ks tags) (makes_edge es peer birth) refl

-- ---- what a link lists

listed_by : (o : Option Edge) (birth : ℕ) → option_map (λ (z : Edge). z.birth) o ≡ Some birth → is_some (keys_if_born o birth) ≡ true
listed_by None birth there = cc
listed_by (Some e) birth there = ap (λ t. is_some (cond t (Some e.keys) None)) (eq-eqb e.birth birth (let same : e.birth ≡ birth = cc in same))

pub listed_born : (es : List Edge) (peer birth : ℕ) → born_to (ends es) peer ≡ Some birth → is_listed es peer birth ≡ true
listed_born es peer birth there = listed_by (edge_to es peer) birth (sym (born_to-edge es peer) ∙ there)

between : (x y : ℕ) → nat_lt x y ≡ false → nat_lt y x ≡ false → x ≡ y
between x y one two = grind (arith, nat_tests)

kept_born : (o : Option Edge) (birth : ℕ) → is_older o birth ≡ false → is_born_later o birth ≡ false → option_map (λ (z : Edge). z.birth) o ≡ Some birth
kept_born None birth old later = absurd (let k : true ≡ false = old in cc)
kept_born (Some e) birth old later =
    ap (λ (n : ℕ). Some n) (between e.birth birth old later)

itself : (n : ℕ) → (n == n) ≡ true
itself n = eq-eqb n n refl

link_by : (es : List Edge) (x : Edge) (t : Bool) → makes_edge es x.peer x.birth ≡ t → is_born_later (edge_to es x.peer) x.birth ≡ false
    → born_to (ends (cond t (put_edge es x) es)) x.peer ≡ Some x.birth
link_by es x true makes later =
    put_born es x x.peer ∙ ap (λ t. cond t (Some x.birth) (born_to (ends es) x.peer)) (itself x.peer)
link_by es x false makes later = born_to-edge es x.peer ∙ kept_born (edge_to es x.peer) x.birth makes later

-- a link to a birth of a peer of which no later one is listed lists it
pub link_lists : (es : List Edge) (peer birth : ℕ) (ks : List Key) (tags : ℕ) → is_born_later (edge_to es peer) birth ≡ false
    → born_to (ends (linked es peer birth ks tags)) peer ≡ Some birth
link_lists es peer birth ks tags later = link_by es (new_edge peer birth ks tags) (makes_edge es peer birth) refl later

-- ---- an edge that goes

-- no birth falls
abbrev pub NoneFalls : List (ℕ × ℕ) → List (ℕ × ℕ) → Type 0
NoneFalls es fs = (p d e : ℕ) → born_to es p ≡ Some d → born_to fs p ≡ Some e → d ≤ e

pub up_falls_not : (es fs : List (ℕ × ℕ)) → AreUp es fs → NoneFalls es fs
up_falls_not es fs up p d e one two =
    let k = up p d one in
    let same : k.0 ≡ e = some_birth k.0 e (sym k.1 ∙ two) in
    let le : d ≤ k.0 = k.2 in
    omega (arith, same, le)

pub none_falls : (es : List (ℕ × ℕ)) → NoneFalls es es
none_falls es p d e one two = let same : d ≡ e = some_birth d e (sym one ∙ two) in omega (arith, same)

pub listed_if : (e : Edge) (birth : ℕ) (t : Bool) → (e.birth == birth) ≡ t → is_some (cond t (Some e.keys) None) ≡ true → e.birth ≡ birth
listed_if e birth true same l = eqb-true e.birth birth same
listed_if e birth false same l = cc

born_if : (o : Option Edge) (birth : ℕ) → is_some (keys_if_born o birth) ≡ true → option_map (λ (z : Edge). z.birth) o ≡ Some birth
born_if None birth l = cc
born_if (Some e) birth l = ap (λ (n : ℕ). Some n) (listed_if e birth (e.birth == birth) refl l)

pub born_listed : (es : List Edge) (peer birth : ℕ) → is_listed es peer birth ≡ true → born_to (ends es) peer ≡ Some birth
born_listed es peer birth l = born_to-edge es peer ∙ born_if (edge_to es peer) birth l

some_left : (t : Bool) (o : Option (List (Key × ℕ))) → is_some (cond t None o) ≡ true → is_some o ≡ true
some_left true o l = cc
some_left false o l = l

-- what is left behind an edge that goes stood before
left_born : (es : List Edge) (peer p e : ℕ) → born_to (ends (without_edge es peer)) p ≡ Some e → born_to (ends es) p ≡ Some e
left_born es peer p e there =
    born_listed es p e
    (some_left (p == peer) (keys_at es p e)
    (sym (ap (λ (o : Option (List (Key × ℕ))). is_some o) (takes_out es peer p e)) ∙ listed_born (without_edge es peer) p e there))

unlinked_if : (es : List Edge) (peer : ℕ) (t : Bool) → NoneFalls (ends es) (ends (cond t (without_edge es peer) es))
unlinked_if es peer true p d e one two = none_falls (ends es) p d e one (left_born es peer p e two)
unlinked_if es peer false p d e one two = none_falls (ends es) p d e one two

pub unlink_falls_not : (es : List Edge) (peer birth : ℕ) → NoneFalls (ends es) (ends (unlinked es peer birth))
unlink_falls_not es peer birth = unlinked_if es peer (is_listed es peer birth)

-- each peer that was listed still is, with its birth or a greater one; or its edge is one that may
-- go
abbrev pub UpBut : (ℕ → ℕ → Type 0) → List (ℕ × ℕ) → List (ℕ × ℕ) → Type 0
UpBut W es fs = (p d : ℕ) → born_to es p ≡ Some d → ((e : ℕ) × (born_to fs p ≡ Some e) × (d ≤ e)) ⊎ W p d

pub up_but : (W : ℕ → ℕ → Type 0) (es fs : List (ℕ × ℕ)) → AreUp es fs → UpBut W es fs
up_but W es fs up p d there = inl (up p d there)

module _ (W : ℕ → ℕ → Type 0) (es : List Edge) (peer birth : ℕ) (may : W peer birth) where
  unlink_at : (p d : ℕ) (t : Bool) → (p == peer) ≡ t → is_listed es peer birth ≡ true → born_to (ends es) p ≡ Some d
      → ((e : ℕ) × (born_to (ends (without_edge es peer)) p ≡ Some e) × (d ≤ e)) ⊎ W p d
  unlink_at p d true same listed there =
      let here : p ≡ peer = eqb-true p peer same in
      let born : birth ≡ d =
      some_birth birth d (sym (born_listed es peer birth listed) ∙ ap (born_to (ends es)) (sym here) ∙ there) in
      inr (subst (λ z. W z d) (sym here) (subst (W peer) born may))
  unlink_at p d false other listed there =
      inl (
        d,
        born_listed (without_edge es peer) p d
            (ap (λ (o : Option (List (Key × ℕ))). is_some o) (takes_out es peer p d)
            ∙ ap (λ t. is_some (cond t None (keys_at es p d))) other ∙ listed_born es p d there),
        omega arith,
      )

  unlink_if : (t : Bool) → is_listed es peer birth ≡ t → UpBut W (ends es) (ends (cond t (without_edge es peer) es))
  unlink_if true listed p d there = unlink_at p d (p == peer) refl listed there
  unlink_if false listed p d there = inl (d, there, omega arith)

  -- all stay but the one that goes
  pub unlink_up : UpBut W (ends es) (ends (unlinked es peer birth))
  unlink_up = unlink_if (is_listed es peer birth) refl

-- ---- the edge to a peer goes, whatever its birth

pub cut_falls_not : (es : List Edge) (peer : ℕ) → NoneFalls (ends es) (ends (without_edge es peer))
cut_falls_not es peer = unlinked_if es peer true

module _ (W : ℕ → ℕ → Type 0) (es : List Edge) (peer : ℕ) (may : (birth : ℕ) → W peer birth) where
  cut_by : (p d : ℕ) (t : Bool) → (p == peer) ≡ t → born_to (ends es) p ≡ Some d
      → ((e : ℕ) × (born_to (ends (without_edge es peer)) p ≡ Some e) × (d ≤ e)) ⊎ W p d
  cut_by p d true same there = inr (subst (λ z. W z d) (sym (eqb-true p peer same)) (may d))
  cut_by p d false other there =
      inl (
        d,
        born_listed (without_edge es peer) p d
            (ap (λ (o : Option (List (Key × ℕ))). is_some o) (takes_out es peer p d)
            ∙ ap (λ t. is_some (cond t None (keys_at es p d))) other ∙ listed_born es p d there),
        omega arith,
      )

  pub cut_up : UpBut W (ends es) (ends (without_edge es peer))
  cut_up p d there = cut_by p d (p == peer) refl there
