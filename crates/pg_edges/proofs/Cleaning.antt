-- Which edges have no key, and what an answer leaves.
use Rattle.std.proofs.Common.{ℕ, zero, suc, ◌≡◌, ◌≢◌, ◌<◌, ◌≤◌, Bool, true, false, cond, nat_eq, ◌==◌, eqb, ◌&&◌, List, [], ◌∷◌, length, get_or, set, Option, None, Some, refl, sym, ap, ◌∙◌, subst, arith}
use Rattle.std.proofs.Math.Dec.{leb}
use Rattle.std.proofs.lemmas.Bool.{leb-true, leb-false, eqb-true, eqb-false}
use Rattle.std.specs.Option.{option_eq, option_map}
use Rattle.std.proofs.lemmas.List.{get_or-set_same, get_or-set_other, set-get_or, length-set, get_or_default}
use Rattle.pg_edges.specs.declared.edge.Edge.{Edge}
use Rattle.pg_edges.specs.declared.key.Key.{Key}
use Rattle.pg_edges.specs.Keys.{tag_in, without}
use Rattle.pg_edges.specs.Edges.{AreCleanBelow, AscendFrom, IsEdgeAt, acked, are_clean, edge_to, is_none, keys_if_born, peers, tag_at, tag_of, taken_off}
use Rattle.pg_edges.specs.EdgesInside.{AreSound}
use Rattle.pg_edges.proofs.Edits.{takes_off}

-- ---- edges without a key

pub sound_anew : (es : List Edge) (n : ℕ) → AscendFrom 0 (peers es) → n ≡ 0 → AreSound es n
sound_anew es n a e = record { by_peer = a; clean = λ k d lt within. absurd (omega arith) }

is_none-nil : (keys : List (Key × ℕ)) → keys ≡ [] → is_none keys ≡ true
is_none-nil keys e = ap is_none e

is_none-some : (keys : List (Key × ℕ)) → keys ≢ [] → is_none keys ≡ false
is_none-some [] h = absurd (h refl)
is_none-some (k ∷ keys) h = refl

below_behind : (e : Edge) (es : List Edge) (n : ℕ) → AreCleanBelow (e ∷ es) (suc n) → AreCleanBelow es n
below_behind e es n h k d lt within = h (suc k) d (omega arith) (omega arith)

all_clean : (es : List Edge) (n : ℕ) → length es ≤ n → AreCleanBelow es n → are_clean es ≡ true
all_clean [] n le h = refl
all_clean (e ∷ es) zero le h = absurd (omega arith)
all_clean (e ∷ es) (suc n) le h =
    ap (λ b. b && are_clean es) (is_none-nil e.keys (h 0 e (omega arith) (omega arith)))
    ∙ all_clean es n (omega arith) (below_behind e es n h)

and_false : (b : Bool) → (b && false) ≡ false
and_false true = refl
and_false false = refl

not_clean : (es : List Edge) (n : ℕ) → n < length es → ((d : Edge) → (get_or es n d).keys ≢ []) → are_clean es ≡ false
not_clean [] n lt h = absurd (omega arith)
not_clean (e ∷ es) zero lt h = ap (λ b. b && are_clean es) (is_none-some e.keys (h e))
not_clean (e ∷ es) (suc n) lt h = ap (λ b. is_none e.keys && b) (not_clean es n (omega arith) h) ∙ and_false (is_none e.keys)

-- all are clean where the first that has a key is behind the last
pub clean_by_first : (es : List Edge) (n : ℕ) (b : Bool) → leb (length es) n ≡ b → AreCleanBelow es n
    → ((d : Edge) → n < length es → (get_or es n d).keys ≢ []) → b ≡ are_clean es
clean_by_first es n true h below first = sym (all_clean es n (leb-true (length es) n h) below)
clean_by_first es n false h below first =
    let lt = leb-false (length es) n h in
    sym (not_clean es n lt (λ d. first d lt))

-- an edge is changed, and keeps having no key
pub clean_set : (es : List Edge) (n i : ℕ) (x : Edge) → AreCleanBelow es n → ((d : Edge) → i < length es → (get_or es i d).keys ≡ [] → x.keys ≡ []) → AreCleanBelow (set es i x) n
clean_set es n i x below keeps k d up within =
    let lt : k < length es = omega (arith, length-set es i x) in
    elim (eqb k i) as (λ b. eqb k i ≡ b → (get_or (set es i x) k d).keys ≡ []) [
      | true ↦ λ h. (
          let same : k ≡ i = eqb-true k i h in
          let at : i < length es = omega arith in
          let none : (get_or es i d).keys ≡ [] = subst (λ (j : ℕ). (get_or es j d).keys ≡ []) same (below k d up lt) in
          ap (λ (j : ℕ). (get_or (set es i x) j d).keys) same ∙ ap (λ (e : Edge). e.keys) (get_or-set_same es i x d at) ∙ keeps d at none)
      | false ↦ λ h. (
          let other : k ≢ i = eqb-false k i h in
          ap (λ (e : Edge). e.keys) (get_or-set_other es i k x d other) ∙ below k d up lt)
    ] refl

-- ---- an answer

abbrev has_tag : Option ℕ → ℕ → Bool
has_tag o tag = option_eq nat_eq o (Some tag)

abbrev tag_through : Option Edge → ℕ → Key → Option ℕ
tag_through o b key = tag_of (option_map (λ keys. tag_in keys key) (keys_if_born o b))

pub tag_nowhere : (es : List Edge) (p b : ℕ) (key : Key) → edge_to es p ≡ None → tag_at es p b key ≡ None
tag_nowhere es p b key e = ap (λ o. tag_through o b key) e

pub tag_elsewhere : (es : List Edge) (p b : ℕ) (key : Key) (x : Edge) → edge_to es p ≡ Some x → (x.birth == b) ≡ false → tag_at es p b key ≡ None
tag_elsewhere es p b key x e h =
    ap (λ o. tag_through o b key) e ∙ ap (λ t. tag_of (option_map (λ (keys : List (Key × ℕ)). tag_in keys key) (cond t (Some x.keys) None))) h

pub tag_here : (es : List Edge) (p b : ℕ) (key : Key) (x : Edge) → edge_to es p ≡ Some x → (x.birth == b) ≡ true → tag_at es p b key ≡ tag_in x.keys key
tag_here es p b key x e h =
    ap (λ o. tag_through o b key) e ∙ ap (λ t. tag_of (option_map (λ (keys : List (Key × ℕ)). tag_in keys key) (cond t (Some x.keys) None))) h

-- where there is no tag, nothing is taken
pub no_ack : (es : List Edge) (p b : ℕ) (key : Key) (tag : ℕ) → tag_at es p b key ≡ None → es ≡ acked es p b key tag
no_ack es p b key tag h = sym (ap (λ o. cond (has_tag o tag) (taken_off es p key) es) h)

pub no_test : (es : List Edge) (p b : ℕ) (key : Key) (tag : ℕ) → tag_at es p b key ≡ None → false ≡ has_tag (tag_at es p b key) tag
no_test es p b key tag h = sym (ap (λ o. has_tag o tag) h)

off_by : (t : Bool) (es items slice : List Edge) (p i : ℕ) (key : Key) (x : Edge) (k : List (Key × ℕ)) → AscendFrom 0 (peers items) → items ≡ es → slice ≡ items → IsEdgeAt slice p i
    → x ≡ get_or items i x → k ≡ cond t (without x.keys key) x.keys → set items i (record { peer = x.peer; birth = x.birth; keys = k }) ≡ cond t (taken_off es p key) es
off_by true es items slice p i key x k a v e at read off = takes_off es items slice p i key x k a v e at read off
off_by false es items slice p i key x k a v e at read off =
    ap (λ (ks : List (Key × ℕ)). set items i (record { peer = x.peer; birth = x.birth; keys = ks })) off
    ∙ ap (set items i) read ∙ set-get_or items i x ∙ v

pub acks_at : (es items slice : List Edge) (p b i : ℕ) (key : Key) (tag : ℕ) (x : Edge) (k : List (Key × ℕ)) → AscendFrom 0 (peers items) → items ≡ es → slice ≡ items → IsEdgeAt slice p i
    → x ≡ get_or items i x → tag_at es p b key ≡ tag_in x.keys key → k ≡ cond (has_tag (tag_in x.keys key) tag) (without x.keys key) x.keys
    → set items i (record { peer = x.peer; birth = x.birth; keys = k }) ≡ acked es p b key tag
acks_at es items slice p b i key tag x k a v e at read found off =
    off_by (has_tag (tag_in x.keys key) tag) es items slice p i key x k a v e at read off
    ∙ sym (ap (λ o. cond (has_tag o tag) (taken_off es p key) es) found)

-- an answer gives no edge a key
pub ack_keeps : (t : Bool) (key : Key) (x : Edge) (k : List (Key × ℕ)) → k ≡ cond t (without x.keys key) x.keys → x.keys ≡ [] → k ≡ []
ack_keeps true key x k off none = off ∙ ap (λ ks. without ks key) none
ack_keeps false key x k off none = off ∙ none

-- two reads at one index
pub one_birth : (es : List Edge) (i : ℕ) (x y : Edge) (b : ℕ) → x ≡ get_or es i x → y ≡ get_or es i y → y.birth ≡ b → i < length es → x.birth ≡ b
one_birth es i x y b h k is lt = ap (λ (e : Edge). e.birth) (h ∙ get_or_default es i x y lt ∙ sym k) ∙ is
