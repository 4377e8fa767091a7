-- What a look-up finds after a link.
use Rattle.std.proofs.Common.{ℕ, zero, suc, ◌≡◌, ◌≢◌, ◌<◌, ◌+◌, Bool, true, false, cond, ◌==◌, List, [], ◌∷◌, length, get_or, Option, None, Some, is_some, option_map, refl, sym, ap, ◌∙◌, arith, inl, inr, ◌⊎◌, Contains}
use Rattle.std.specs.BTreeMap.{insert_entry}
use Rattle.std.proofs.lemmas.Bool.{ne_eqb, eq-eqb}
use Rattle.pg_edges.specs.declared.edge.Edge.{Edge}
use Rattle.pg_edges.specs.declared.key.Key.{Key}
use Rattle.pg_edges.specs.Key.{key_cmp, is_same_key}
use Rattle.pg_edges.specs.Keys.{tag_in, touch_each}
use Rattle.pg_edges.specs.Edges.{keys_if_born, keys_at, slot_at, put_edge, makes_edge, new_edge, linked}
use Rattle.pg_edges.specs.Laws.{IsFresh, LinksOne}
use Rattle.pg_edges.proofs.Orders.{is_same_key-refl}
use Rattle.pg_edges.proofs.Lookups.{tag_in-insert, puts}

-- the tag at a key, after each of some keys was touched in turn: as before, or fresh
later_fresh : (o : Option ℕ) (t n : ℕ) → IsFresh (Some o) (t + 1) (t + 1 + n) → IsFresh (Some o) t (t + suc n)
later_fresh o t n f = record { tag = f.tag; is = f.is; from = (let x = f.from in omega arith); below = (let x = f.below in omega arith) }

kept_by : (keys : List (Key × ℕ)) (q : Key) (ks : List Key) (t : ℕ) (k : Key) (s : Bool) → is_same_key k q ≡ s
    → (tag_in (touch_each (insert_entry key_cmp keys q t) ks (t + 1)) k ≡ tag_in (insert_entry key_cmp keys q t) k) ⊎ IsFresh (Some (tag_in (touch_each (insert_entry key_cmp keys q t) ks (t + 1)) k)) (t + 1) (t + 1 + length ks)
    → (tag_in (touch_each (insert_entry key_cmp keys q t) ks (t + 1)) k ≡ tag_in keys k) ⊎ IsFresh (Some (tag_in (touch_each (insert_entry key_cmp keys q t) ks (t + 1)) k)) t (t + suc (length ks))
kept_by keys q ks t k s h (inr f) = inr (later_fresh (tag_in (touch_each (insert_entry key_cmp keys q t) ks (t + 1)) k) t (length ks) f)
kept_by keys q ks t k true h (inl e) = inr (record { tag = t; is = ap Some (e ∙ tag_in-insert keys q t k ∙ ap (λ c. cond c (Some t) (tag_in keys k)) h); from = omega arith; below = omega arith })
kept_by keys q ks t k false h (inl e) = inl (e ∙ tag_in-insert keys q t k ∙ ap (λ c. cond c (Some t) (tag_in keys k)) h)

first_fresh : (keys : List (Key × ℕ)) (q : Key) (ks : List Key) (t : ℕ)
    → (tag_in (touch_each (insert_entry key_cmp keys q t) ks (t + 1)) q ≡ tag_in (insert_entry key_cmp keys q t) q) ⊎ IsFresh (Some (tag_in (touch_each (insert_entry key_cmp keys q t) ks (t + 1)) q)) (t + 1) (t + 1 + length ks)
    → IsFresh (Some (tag_in (touch_each (insert_entry key_cmp keys q t) ks (t + 1)) q)) t (t + suc (length ks))
first_fresh keys q ks t (inr f) = later_fresh (tag_in (touch_each (insert_entry key_cmp keys q t) ks (t + 1)) q) t (length ks) f
first_fresh keys q ks t (inl e) = record { tag = t; is = ap Some (e ∙ tag_in-insert keys q t q ∙ ap (λ c. cond c (Some t) (tag_in keys q)) (is_same_key-refl q)); from = omega arith; below = omega arith }

pub kept_or_fresh : (keys : List (Key × ℕ)) (ks : List Key) (t : ℕ) (k : Key) → (tag_in (touch_each keys ks t) k ≡ tag_in keys k) ⊎ IsFresh (Some (tag_in (touch_each keys ks t) k)) t (t + length ks)
kept_or_fresh keys [] t k = inl refl
kept_or_fresh keys (q ∷ ks) t k = kept_by keys q ks t k (is_same_key k q) refl (kept_or_fresh (insert_entry key_cmp keys q t) ks (t + 1) k)

fresh_among : (keys : List (Key × ℕ)) (ks : List Key) (t i : ℕ) (d : Key) → i < length ks → IsFresh (Some (tag_in (touch_each keys ks t) (get_or ks i d))) t (t + length ks)
fresh_among keys [] t i d lt = absurd (omega arith)
fresh_among keys (q ∷ ks) t zero d lt = first_fresh keys q ks t (kept_or_fresh (insert_entry key_cmp keys q t) ks (t + 1) q)
fresh_among keys (q ∷ ks) t (suc i) d lt = later_fresh (tag_in (touch_each (insert_entry key_cmp keys q t) ks (t + 1)) (get_or ks i d)) t (length ks) (fresh_among (insert_entry key_cmp keys q t) ks (t + 1) i d (omega arith))

new_keys : (es : List Edge) (peer birth : ℕ) (keys : List Key) (tags b : ℕ) → makes_edge es peer birth ≡ true → keys_at (linked es peer birth keys tags) peer b ≡ cond (birth == b) (Some (touch_each [] keys tags)) None
new_keys es peer birth keys tags b h =
    ap (λ c. keys_at (cond c (put_edge es (new_edge peer birth keys tags)) es) peer b) h ∙ puts es (new_edge peer birth keys tags) peer b
    ∙ ap (λ c. cond c (keys_if_born (Some (new_edge peer birth keys tags)) b) (keys_at es peer b)) (eq-eqb peer peer refl)

pub link_others : (es : List Edge) (peer birth : ℕ) (keys : List Key) (tags p b : ℕ) → makes_edge es peer birth ≡ true → p ≢ peer → keys_at (linked es peer birth keys tags) p b ≡ keys_at es p b
link_others es peer birth keys tags p b h apart =
    ap (λ c. keys_at (cond c (put_edge es (new_edge peer birth keys tags)) es) p b) h ∙ puts es (new_edge peer birth keys tags) p b
    ∙ ap (λ c. cond c (keys_if_born (Some (new_edge peer birth keys tags)) b) (keys_at es p b)) (ne_eqb p peer apart)

-- the keys of the new edge, at its own birth
own_keys : (es : List Edge) (peer birth : ℕ) (keys : List Key) (tags : ℕ) → makes_edge es peer birth ≡ true → keys_at (linked es peer birth keys tags) peer birth ≡ Some (touch_each [] keys tags)
own_keys es peer birth keys tags h = new_keys es peer birth keys tags birth h ∙ ap (λ c. cond c (Some (touch_each [] keys tags)) None) (eq-eqb birth birth refl)

fresh_at : (slot : Option (Option ℕ)) (o : Option ℕ) (t n : ℕ) → slot ≡ Some o → IsFresh (Some o) t n → IsFresh slot t n
fresh_at slot o t n e f = record { tag = f.tag; is = e ∙ f.is; from = f.from; below = f.below }

link_fresh : (es : List Edge) (peer birth : ℕ) (keys : List Key) (tags : ℕ) (k : Key) → makes_edge es peer birth ≡ true → Contains keys k → IsFresh (slot_at (linked es peer birth keys tags) peer birth k) tags (tags + length keys)
link_fresh es peer birth keys tags k h among =
    let fresh = fresh_among [] keys tags among.0 k among.1 in
    let at : slot_at (linked es peer birth keys tags) peer birth k ≡ Some (tag_in (touch_each [] keys tags) (get_or keys among.0 k)) =
    ap (option_map (λ (q : List (Key × ℕ)). tag_in q k)) (own_keys es peer birth keys tags h) ∙ ap (λ q. Some (tag_in (touch_each [] keys tags) q)) (sym among.2) in
    fresh_at (slot_at (linked es peer birth keys tags) peer birth k) (tag_in (touch_each [] keys tags) (get_or keys among.0 k)) tags (tags + length keys) at fresh

pub links : (es : List Edge) (peer birth : ℕ) (keys : List Key) (tags : ℕ) → makes_edge es peer birth ≡ true → LinksOne es peer birth keys tags
links es peer birth keys tags h = record {
  listed = ap (λ (o : Option (List (Key × ℕ))). is_some o) (own_keys es peer birth keys tags h);
  fresh = λ k among. link_fresh es peer birth keys tags k h among;
  older = λ old apart. new_keys es peer birth keys tags old h ∙ ap (λ c. cond c (Some (touch_each [] keys tags)) None) (ne_eqb birth old (λ q. apart (sym q)));
  others = λ p b apart. link_others es peer birth keys tags p b h apart;
}
