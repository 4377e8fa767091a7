-- Which cell stands at a key once heads went and a version came.
use Rattle.std.proofs.Common.{◌≡◌, Bool, true, false, cond, not, ◌||◌, List, [], ◌∷◌, Option, None, Some, refl, sym, ap, subst, ◌∙◌, inl, inr, arith, All}
use Rattle.std.specs.List.{filter, list_any}
use Rattle.std.proofs.lemmas.List.Elements.{All-head, All-tail}
use Rattle.pg_base.specs.declared.stamp.Stamp.{Stamp}
use Rattle.pg_base.specs.Stamp.{IsBefore, is_before}
use Rattle.pg_edges.specs.declared.key.Key.{Key}
use Rattle.pg_edges.specs.declared.key.Key.TheVariants as key
use Rattle.pg_edges.specs.Key.{is_same_key}
use Rattle.pg_edges.proofs.Orders.{is_same_key-true}
use Rattle.pg_base.specs.Version.{VersionValue, stamp_of}
use Rattle.pg_content.specs.Content.{head_at}
use Rattle.pg_content.specs.Shown.{inserted}
use Rattle.pg_content.specs.StandsFor.{InStrictOrder}
use Rattle.pg_replica.specs.Replica.{key_of, keys, cell_at}

-- whether it is one of these keys
abbrev pub is_key_among : Key → List Key → Bool
is_key_among q ks = list_any (λ k. is_same_key q k) ks

-- ---- the cells, less those at some keys

module _ {C : Type 0} where
  abbrev pub less_one : Key → (Key → Option C) → Key → Option C
  less_one k cells q = cond (is_same_key q k) None (cells q)

  abbrev pub less : List Key → (Key → Option C) → Key → Option C
  less [] cells = cells
  less (k ∷ ks) cells = less ks (less_one k cells)

  less_by : (o : Option C) (s t : Bool) → cond s None (cond t None o) ≡ cond (t || s) None o
  less_by o true true = refl
  less_by o true false = refl
  less_by o false true = refl
  less_by o false false = refl

  pub less_is : (ks : List Key) (cells : Key → Option C) (q : Key) → less ks cells q ≡ cond (is_key_among q ks) None (cells q)
  less_is [] cells q = refl
  less_is (k ∷ ks) cells q = less_is ks (less_one k cells) q ∙ less_by (cells q) (is_key_among q ks) (is_same_key q k)

-- ---- stamps that differ

pub same_stamp : (s t : Stamp) → key.Version s ≡ key.Version t → s ≡ t
same_stamp s t e = cc

not_itself : (s : Stamp) → IsBefore s s → ⊥
not_itself s h = elim h [ inl a ↦ omega arith | inr b ↦ (let x = b.1 in omega arith) ]

other_by : (s t : Stamp) (b : Bool) → is_same_key (key.Version s) (key.Version t) ≡ b → IsBefore s t → b ≡ false
other_by s t true e h = absurd (let P : Stamp → Type 0 = λ x. IsBefore x t in not_itself t (subst P (same_stamp s t (is_same_key-true (key.Version s) (key.Version t) e)) h))
other_by s t false e h = refl

other_key : (s t : Stamp) → IsBefore s t → is_same_key (key.Version s) (key.Version t) ≡ false
other_key s t h = other_by s t (is_same_key (key.Version s) (key.Version t)) refl h

back_by : (s t : Stamp) (b : Bool) → is_same_key (key.Version t) (key.Version s) ≡ b → IsBefore s t → b ≡ false
back_by s t true e h = absurd (let P : Stamp → Type 0 = λ x. IsBefore x t in not_itself t (subst P (sym (same_stamp t s (is_same_key-true (key.Version t) (key.Version s) e))) h))
back_by s t false e h = refl

pub key_before : (s t : Stamp) → IsBefore s t → is_same_key (key.Version t) (key.Version s) ≡ false
key_before s t h = back_by s t (is_same_key (key.Version t) (key.Version s)) refl h

abbrev pub Before : VersionValue → VersionValue → Type 0
Before v w = IsBefore v.head.stamp w.head.stamp

-- ---- of heads in their order, some go

module _ (test : VersionValue → Bool) where
  none_by : (v w : VersionValue) (ws : List VersionValue) (b : Bool) → Before v w → cell_at (filter test ws) (key_of v) ≡ None → cell_at (cond b (w ∷ filter test ws) (filter test ws)) (key_of v) ≡ None
  none_by v w ws true h rest = ap (λ c. cond c (Some w) (cell_at (filter test ws) (key_of v))) (other_key v.head.stamp w.head.stamp h) ∙ rest
  none_by v w ws false h rest = rest

  -- behind a head there is no cell at its key
  none_behind : (v : VersionValue) (ws : List VersionValue) → All (Before v) ws → cell_at (filter test ws) (key_of v) ≡ None
  none_behind v [] h = refl
  none_behind v (w ∷ ws) h = none_by v w ws (test w) (All-head (Before v) w ws h) (none_behind v ws (All-tail (Before v) w ws h))

  no_key_by : (v w : VersionValue) (ws : List VersionValue) (b : Bool) → Before v w → is_key_among (key_of v) (keys (filter test ws)) ≡ false → is_key_among (key_of v) (keys (cond b (w ∷ filter test ws) (filter test ws))) ≡ false
  no_key_by v w ws true h rest = ap (λ c. c || is_key_among (key_of v) (keys (filter test ws))) (other_key v.head.stamp w.head.stamp h) ∙ rest
  no_key_by v w ws false h rest = rest

  -- and not its key
  no_key_behind : (v : VersionValue) (ws : List VersionValue) → All (Before v) ws → is_key_among (key_of v) (keys (filter test ws)) ≡ false
  no_key_behind v [] h = refl
  no_key_behind v (w ∷ ws) h = no_key_by v w ws (test w) (All-head (Before v) w ws h) (no_key_behind v ws (All-tail (Before v) w ws h))

module _ (test : VersionValue → Bool) (q : Key) where
  abbrev Stays : List VersionValue → List VersionValue → List VersionValue → Type 0
  Stays left off all = cell_at left q ≡ cond (is_key_among q (keys off)) None (cell_at all q)

  stays_by : (v : VersionValue) (vs : List VersionValue) (b s : Bool) → is_same_key q (key_of v) ≡ s → All (Before v) vs → Stays (filter (λ h. not (test h)) vs) (filter test vs) vs
      → cell_at (cond (not b) (v ∷ filter (λ h. not (test h)) vs) (filter (λ h. not (test h)) vs)) q
      ≡ cond (is_key_among q (keys (cond b (v ∷ filter test vs) (filter test vs)))) None (cond s (Some v) (cell_at vs q))
  stays_by v vs true true e h rest =
      ap (cell_at (filter (λ h. not (test h)) vs)) (is_same_key-true q (key_of v) e) ∙ none_behind (λ h. not (test h)) v vs h
      ∙ sym (ap (λ c. cond (c || is_key_among q (keys (filter test vs))) None (Some v)) e)
  stays_by v vs true false e h rest = rest ∙ sym (ap (λ c. cond (c || is_key_among q (keys (filter test vs))) None (cell_at vs q)) e)
  stays_by v vs false true e h rest =
      ap (λ c. cond c (Some v) (cell_at (filter (λ h. not (test h)) vs) q)) e
      ∙ sym (ap (λ c. cond c None (Some v)) (ap (λ k. is_key_among k (keys (filter test vs))) (is_same_key-true q (key_of v) e) ∙ no_key_behind test v vs h))
  stays_by v vs false false e h rest = ap (λ c. cond c (Some v) (cell_at (filter (λ h. not (test h)) vs) q)) e ∙ rest

  -- what stays are the cells less those of the heads that went
  pub cell_at-kept : (vs : List VersionValue) → InStrictOrder vs → Stays (filter (λ h. not (test h)) vs) (filter test vs) vs
  cell_at-kept [] h = refl
  cell_at-kept (v ∷ vs) h = stays_by v vs (test v) (is_same_key q (key_of v)) refl h.0 (cell_at-kept vs h.1)

-- ---- a look-up

other_cell : (v : VersionValue) (vs : List VersionValue) (k : Key) (b : Bool) → is_same_key k (key_of v) ≡ b → ((stamp : Stamp) → k ≡ key.Version stamp → ⊥) → cell_at vs k ≡ None → cond b (Some v) (cell_at vs k) ≡ None
other_cell v vs k true e other rest = absurd (other v.head.stamp (is_same_key-true k (key_of v) e))
other_cell v vs k false e other rest = rest

-- at a version's key it is the head of that stamp
pub cell_at-version : (vs : List VersionValue) (stamp : Stamp) → cell_at vs (key.Version stamp) ≡ head_at vs stamp
cell_at-version [] stamp = refl
cell_at-version (v ∷ vs) stamp = ap (cond (is_same_key (key.Version stamp) (key_of v)) (Some v)) (cell_at-version vs stamp)

-- at any other key there is none
pub cell_at-other : (vs : List VersionValue) (k : Key) → ((stamp : Stamp) → k ≡ key.Version stamp → ⊥) → cell_at vs k ≡ None
cell_at-other [] k other = refl
cell_at-other (v ∷ vs) k other = other_cell v vs k (is_same_key k (key_of v)) refl other (cell_at-other vs k other)

-- ---- a version comes

gone_by : (v : VersionValue) (off : List VersionValue) (t b : Bool) → (t || b) ≡ false → (b ≡ false → off ≡ []) → cond t (v ∷ off) off ≡ []
gone_by v off true b h rest = absurd (let z : true ≡ false = h in cc)
gone_by v off false b h rest = rest h

-- where the vector covers no head none goes
pub none_gone : (test : VersionValue → Bool) (vs : List VersionValue) → list_any test vs ≡ false → filter test vs ≡ []
none_gone test [] h = refl
none_gone test (v ∷ vs) h = gone_by v (filter test vs) (test v) (list_any test vs) h (none_gone test vs)

module _ (v : VersionValue) (q : Key) where
  placed_by : (w : VersionValue) (ws : List VersionValue) (b : Bool) → is_same_key q (key_of v) ≡ false → cell_at (inserted stamp_of v ws) q ≡ cell_at ws q
      → cell_at (cond b (w ∷ inserted stamp_of v ws) (v ∷ w ∷ ws)) q ≡ cell_at (w ∷ ws) q
  placed_by w ws true other rest = ap (cond (is_same_key q (key_of w)) (Some w)) rest
  placed_by w ws false other rest = ap (λ c. cond c (Some v) (cell_at (w ∷ ws) q)) other

  -- at another key than its own nothing changes
  pub cell_at-placed : (ws : List VersionValue) → is_same_key q (key_of v) ≡ false → cell_at (inserted stamp_of v ws) q ≡ cell_at ws q
  cell_at-placed [] other = ap (λ c. cond c (Some v) None) other
  cell_at-placed (w ∷ ws) other = placed_by w ws (is_before w.head.stamp v.head.stamp) other (cell_at-placed ws other)

  -- both together
  pub cell_at-put : (test : VersionValue → Bool) (vs : List VersionValue) → InStrictOrder vs → is_same_key q (key_of v) ≡ false
      → cell_at (inserted stamp_of v (filter (λ h. not (test h)) vs)) q ≡ less (keys (filter test vs)) (cell_at vs) q
  cell_at-put test vs order other =
      cell_at-placed (filter (λ h. not (test h)) vs) other ∙ cell_at-kept test q vs order ∙ sym (less_is (keys (filter test vs)) (cell_at vs) q)

  -- a version alone
  pub cell_at-alone : is_same_key q (key_of v) ≡ false → cell_at (v ∷ []) q ≡ None
  cell_at-alone other = ap (λ c. cond c (Some v) None) other

all_by : (o : Option VersionValue) (v : VersionValue) (b s : Bool) → cond b None o ≡ None → cond (s || b) None (cond s (Some v) o) ≡ None
all_by o v true true rest = refl
all_by o v true false rest = refl
all_by o v false true rest = refl
all_by o v false false rest = rest

all_off : (vs : List VersionValue) (q : Key) → cond (is_key_among q (keys vs)) None (cell_at vs q) ≡ None
all_off [] q = refl
all_off (v ∷ vs) q = all_by (cell_at vs q) v (is_key_among q (keys vs)) (is_same_key q (key_of v)) (all_off vs q)

-- less all heads there is no cell
pub less_all : (vs : List VersionValue) (q : Key) → less (keys vs) (cell_at vs) q ≡ None
less_all vs q = less_is (keys vs) (cell_at vs) q ∙ all_off vs q
