-- What a look-up finds after an answer.
use Rattle.std.proofs.Common.{ℕ, ◌≡◌, ◌≢◌, Bool, true, false, cond, nat_eq, ◌==◌, ◌&&◌, List, Option, None, Some, option_map, refl, sym, ap, ◌∙◌}
use Rattle.std.specs.Option.{option_eq}
use Rattle.std.proofs.lemmas.Bool.{ne_eqb, eq-eqb, eqb-true, and_parts}
use Rattle.pg_edges.specs.declared.edge.Edge.{Edge}
use Rattle.pg_edges.specs.declared.key.Key.{Key}
use Rattle.pg_edges.specs.Key.{is_same_key}
use Rattle.pg_edges.specs.Keys.{tag_in}
use Rattle.pg_edges.specs.Edges.{edge_to, slot_at, tag_of, tag_at, take_off, taken_off}
use Rattle.pg_edges.specs.Laws.{AcksOne}
use Rattle.pg_edges.proofs.Orders.{is_same_key-true}
use Rattle.pg_edges.proofs.Lookups.{same_tag, tag_in-without, slot_of, slot_born, edge_to-taken_off}

-- the edge on which the tag stands
pub record HasTag (o : Option Edge) (birth : ℕ) (key : Key) (tag : ℕ) : Type 0 where
  pub edge : Edge
  pub is : o ≡ Some edge
  pub birth_is : edge.birth ≡ birth
  pub tag_is : tag_in edge.keys key ≡ Some tag

tagged_edge : (e : Edge) (birth : ℕ) (key : Key) (tag : ℕ) (s : Bool) → (e.birth == birth) ≡ s
    → tag_of (option_map (λ (keys : List (Key × ℕ)). tag_in keys key) (cond s (Some e.keys) None)) ≡ Some tag → HasTag (Some e) birth key tag
tagged_edge e birth key tag true h l = record { edge = e; is = refl; birth_is = eqb-true e.birth birth h; tag_is = l }
tagged_edge e birth key tag false h l = absurd (let k : None ≡ Some tag = l in cc)

pub tagged : (o : Option Edge) (birth : ℕ) (key : Key) (tag : ℕ) → tag_of (slot_of o birth key) ≡ Some tag → HasTag o birth key tag
tagged None birth key tag h = absurd (let k : None ≡ Some tag = h in cc)
tagged (Some e) birth key tag h = tagged_edge e birth key tag (e.birth == birth) refl h

-- what stands at a key of an edge with another birth
slot_other : (e : Edge) (b : ℕ) (k : Key) → e.birth ≢ b → slot_of (Some e) b k ≡ None
slot_other e b k h = ap (λ c. option_map (λ (keys : List (Key × ℕ)). tag_in keys k) (cond c (Some e.keys) None)) (ne_eqb e.birth b h)

off_edge : (e : Edge) (birth b : ℕ) (key k : Key) (tag : ℕ) (r s : Bool) → e.birth ≡ birth → tag_in e.keys key ≡ Some tag → (b == birth) ≡ r → is_same_key k key ≡ s
    → slot_of (Some (take_off key e)) b k ≡ cond (r && (s && option_eq nat_eq (tag_of (slot_of (Some e) b k)) (Some tag))) (Some None) (slot_of (Some e) b k)
off_edge e birth b key k tag true true h l x y =
    let here : e.birth ≡ b = h ∙ sym (eqb-true b birth x) in
    let one : tag_in e.keys k ≡ Some tag = ap (tag_in e.keys) (is_same_key-true k key y) ∙ l in
    let test : option_eq nat_eq (tag_of (slot_of (Some e) b k)) (Some tag) ≡ true = ap (λ z. option_eq nat_eq (tag_of z) (Some tag)) (slot_born e b k here) ∙ ap (λ z. option_eq nat_eq z (Some tag)) one ∙ eq-eqb tag tag refl in
    slot_born (take_off key e) b k here ∙ ap Some (tag_in-without e.keys key k ∙ ap (λ c. cond c None (tag_in e.keys k)) y)
    ∙ sym (ap (λ c. cond c (Some None) (slot_of (Some e) b k)) test)
off_edge e birth b key k tag true false h l x y =
    let here : e.birth ≡ b = h ∙ sym (eqb-true b birth x) in
    slot_born (take_off key e) b k here ∙ ap Some (tag_in-without e.keys key k ∙ ap (λ c. cond c None (tag_in e.keys k)) y) ∙ sym (slot_born e b k here)
off_edge e birth b key k tag false s h l x y =
    let apart : e.birth ≢ b = (λ q. let w : (b == birth) ≡ true = eq-eqb b birth (sym q ∙ h) in let z : false ≡ true = cc in cc) in
    slot_other (take_off key e) b k apart ∙ sym (slot_other e b k apart)

answered_by : (es : List Edge) (peer birth : ℕ) (key : Key) (tag p b : ℕ) (k : Key) (s : Bool) → HasTag (edge_to es peer) birth key tag → (p == peer) ≡ s
    → slot_at (taken_off es peer key) p b k ≡ cond (s && (b == birth && (is_same_key k key && option_eq nat_eq (tag_at es p b k) (Some tag)))) (Some None) (slot_at es p b k)
answered_by es peer birth key tag p b k true i h =
    let e = i.edge in
    let here : edge_to es p ≡ Some e = ap (edge_to es) (eqb-true p peer h) ∙ i.is in
    ap (λ o. slot_of o b k) (edge_to-taken_off es peer p key ∙ ap (λ c. cond c (option_map (take_off key) (edge_to es p)) (edge_to es p)) h ∙ ap (option_map (take_off key)) here)
    ∙ off_edge e birth b key k tag (b == birth) (is_same_key k key) i.birth_is i.tag_is refl refl
    ∙ sym (ap (λ o. cond (b == birth && (is_same_key k key && option_eq nat_eq (tag_of (slot_of o b k)) (Some tag))) (Some None) (slot_of o b k)) here)
answered_by es peer birth key tag p b k false i h =
    ap (λ o. slot_of o b k) (edge_to-taken_off es peer p key ∙ ap (λ c. cond c (option_map (take_off key) (edge_to es p)) (edge_to es p)) h)

unanswered : (es : List Edge) (peer birth : ℕ) (key : Key) (tag p b : ℕ) (k : Key) (r : Bool) → option_eq nat_eq (tag_at es peer birth key) (Some tag) ≡ false
    → (p == peer && (b == birth && (is_same_key k key && option_eq nat_eq (tag_at es p b k) (Some tag)))) ≡ r → slot_at es p b k ≡ cond r (Some None) (slot_at es p b k)
unanswered es peer birth key tag p b k true h l =
    let x = and_parts (p == peer) (b == birth && (is_same_key k key && option_eq nat_eq (tag_at es p b k) (Some tag))) l in
    let y = and_parts (b == birth) (is_same_key k key && option_eq nat_eq (tag_at es p b k) (Some tag)) x.1 in
    let z = and_parts (is_same_key k key) (option_eq nat_eq (tag_at es p b k) (Some tag)) y.1 in
    let same : tag_at es p b k ≡ tag_at es peer birth key =
    ap (λ q. tag_at es q b k) (eqb-true p peer x.0) ∙ ap (λ q. tag_at es peer q k) (eqb-true b birth y.0) ∙ ap (tag_at es peer birth) (is_same_key-true k key z.0) in
    absurd (let w : true ≡ false = sym z.1 ∙ ap (λ o. option_eq nat_eq o (Some tag)) same ∙ h in cc)
unanswered es peer birth key tag p b k false h l = refl

acked_by : (es : List Edge) (peer birth : ℕ) (key : Key) (tag p b : ℕ) (k : Key) (t : Bool) → option_eq nat_eq (tag_at es peer birth key) (Some tag) ≡ t
    → slot_at (cond t (taken_off es peer key) es) p b k ≡ cond (p == peer && (b == birth && (is_same_key k key && option_eq nat_eq (tag_at es p b k) (Some tag)))) (Some None) (slot_at es p b k)
acked_by es peer birth key tag p b k true h = answered_by es peer birth key tag p b k (p == peer) (tagged (edge_to es peer) birth key tag (same_tag (tag_at es peer birth key) tag h)) refl
acked_by es peer birth key tag p b k false h = unanswered es peer birth key tag p b k (p == peer && (b == birth && (is_same_key k key && option_eq nat_eq (tag_at es p b k) (Some tag)))) h refl

pub acks : (es : List Edge) (peer birth : ℕ) (key : Key) (tag : ℕ) → AcksOne es peer birth key tag
acks es peer birth key tag p b k = acked_by es peer birth key tag p b k (option_eq nat_eq (tag_at es peer birth key) (Some tag)) refl
