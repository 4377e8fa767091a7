-- Edges come with the keys that they have: what is due of their file then.
use Rattle.std.proofs.Common.{ℕ, ◌≡◌, Bool, true, false, not, ◌==◌, ◌&&◌, ◌||◌, List, [], ◌∷◌, is_some, refl, sym, ap, ◌∙◌}
use Rattle.std.proofs.lemmas.Bool.{eqb-true}
use Rattle.pg_base.specs.declared.id.FileId.{FileId}
use Rattle.pg_base.specs.Id.{is_same_file}
use Rattle.pg_edges.specs.declared.edge.Edge.{Edge}
use Rattle.pg_edges.specs.declared.key.Key.{Key}
use Rattle.pg_edges.specs.Key.{is_same_key}
use Rattle.pg_edges.specs.Keys.{tag_in}
use Rattle.pg_edges.proofs.Orders.{is_same_key-true}
use Rattle.pg_unacked.specs.declared.due.Due.{Due}
use Rattle.pg_unacked.specs.Due.{UnackedValue, has_due}
use Rattle.pg_unacked.specs.Owes.{owes_on}
use Rattle.pg_unacked.specs.Changes.{NoneGoes, OthersStay, Redues, due_at}
use Rattle.pg_unacked.proofs.EdgeKeys.{come_by, same_turned}
use Rattle.pg_unacked.proofs.DueKeys.{Comes, Goes, come_own, file_others, file_own, go_own, keys_bits}

-- ---- keys with their tags, one after another

tag_cons : (t : Key × ℕ) (rest : List (Key × ℕ)) (k : Key) → is_some (tag_in (t ∷ rest) k) ≡ (is_same_key t.0 k || is_some (tag_in rest k))
tag_cons t rest k = come_by (is_same_key k t.0) t.1 (tag_in rest k) ∙ ap (λ s. s || is_some (tag_in rest k)) (same_turned k t.0)

or_true : (a : Bool) → (a || true) ≡ true
or_true true = refl
or_true false = refl

pub come_kept : (u v : UnackedValue) (peer : ℕ) (file : FileId) (key : Key) → Comes u v peer (due_at file key) → NoneGoes u v file
come_kept u v peer file key h p k was =
    come_own u v peer file key h p k ∙ ap (λ b. (peer == p && is_same_key key k) || b) was ∙ or_true (peer == p && is_same_key key k)

module _ (u v : UnackedValue) (file : FileId) (peer : ℕ) (ks rest : List (Key × ℕ)) (t : Key × ℕ) (at : ks ≡ t ∷ rest) where
  tags_at : (k : Key) → is_some (tag_in ks k) ≡ (is_same_key t.0 k || is_some (tag_in rest k))
  tags_at k = ap (λ xs. is_some (tag_in xs k)) at ∙ tag_cons t rest k

  pub tagged_more : Comes u v peer (due_at file t.0) → (p : ℕ) (k : Key)
      → ((peer == p && is_some (tag_in rest k)) || has_due v p (due_at file k)) ≡ ((peer == p && is_some (tag_in ks k)) || has_due u p (due_at file k))
  tagged_more h p k =
      ap (λ b. (peer == p && is_some (tag_in rest k)) || b) (come_own u v peer file t.0 h p k)
      ∙ keys_bits (peer == p) (is_same_key t.0 k) (is_some (tag_in rest k)) (has_due u p (due_at file k))
      ∙ ap (λ b. (peer == p && b) || has_due u p (due_at file k)) (sym (tags_at k))

  less_bits : (t s l n h : Bool) → (not (t && (l && n)) && (not (t && (s && n)) && h)) ≡ (not (t && ((s || l) && n)) && h)
  less_bits false s l n h = refl
  less_bits true true true true h = refl
  less_bits true true true false h = refl
  less_bits true true false true h = refl
  less_bits true true false false h = refl
  less_bits true false true true h = refl
  less_bits true false true false h = refl
  less_bits true false false n h = refl

  pub tagged_less : (kept : List Edge)
      → ((p : ℕ) (k : Key) → has_due v p (due_at file k) ≡ (not (peer == p && (is_same_key t.0 k && not (owes_on kept p k))) && has_due u p (due_at file k)))
      → (p : ℕ) (k : Key)
      → (not (peer == p && (is_some (tag_in rest k) && not (owes_on kept p k))) && has_due v p (due_at file k))
      ≡ (not (peer == p && (is_some (tag_in ks k) && not (owes_on kept p k))) && has_due u p (due_at file k))
  tagged_less kept h p k =
      ap (λ b. not (peer == p && (is_some (tag_in rest k) && not (owes_on kept p k))) && b) (h p k)
      ∙ less_bits (peer == p) (is_same_key t.0 k) (is_some (tag_in rest k)) (not (owes_on kept p k)) (has_due u p (due_at file k))
      ∙ ap (λ b. not (peer == p && (b && not (owes_on kept p k))) && has_due u p (due_at file k)) (sym (tags_at k))

-- ---- a key that goes, unless it is kept

unless_by : (kept : List Edge) (peer p : ℕ) (key k : Key) (h t s : Bool) → (peer == p) ≡ t → is_same_key key k ≡ s → owes_on kept peer key ≡ false
    → (not (t && s) && h) ≡ (not (t && (s && not (owes_on kept p k))) && h)
unless_by kept peer p key k h true true e f none =
    ap (λ (o : Bool). not (not o) && h) (sym (ap (λ q. owes_on kept q k) (sym (eqb-true peer p e)) ∙ ap (owes_on kept peer) (sym (is_same_key-true key k f)) ∙ none))
unless_by kept peer p key k h true false e f none = refl
unless_by kept peer p key k h false s e f none = refl

stays_by : (kept : List Edge) (peer p : ℕ) (key k : Key) (h t s : Bool) → (peer == p) ≡ t → is_same_key key k ≡ s → owes_on kept peer key ≡ true
    → h ≡ (not (t && (s && not (owes_on kept p k))) && h)
stays_by kept peer p key k h true true e f there =
    ap (λ (o : Bool). not (not o) && h) (sym (ap (λ q. owes_on kept q k) (sym (eqb-true peer p e)) ∙ ap (owes_on kept peer) (sym (is_same_key-true key k f)) ∙ there))
stays_by kept peer p key k h true false e f there = refl
stays_by kept peer p key k h false s e f there = refl

module _ (u v : UnackedValue) (file : FileId) (peer : ℕ) (key : Key) (kept : List Edge) where
  pub gone_unless : owes_on kept peer key ≡ false → Goes u v peer (due_at file key) → (p : ℕ) (k : Key)
      → has_due v p (due_at file k) ≡ (not (peer == p && (is_same_key key k && not (owes_on kept p k))) && has_due u p (due_at file k))
  gone_unless none h p k =
      go_own u v peer file key h p k
      ∙ unless_by kept peer p key k (has_due u p (due_at file k)) (peer == p) (is_same_key key k) refl refl none

pub stays_unless : (u : UnackedValue) (file : FileId) (peer : ℕ) (key : Key) (kept : List Edge) → owes_on kept peer key ≡ true → (p : ℕ) (k : Key)
    → has_due u p (due_at file k) ≡ (not (peer == p && (is_same_key key k && not (owes_on kept p k))) && has_due u p (due_at file k))
stays_unless u file peer key kept there p k = stays_by kept peer p key k (has_due u p (due_at file k)) (peer == p) (is_same_key key k) refl refl there

-- ---- no edge comes

pub not_entered : (u v w : UnackedValue) (file : FileId) → OthersStay u v file
    → ((p : ℕ) (d : Due) → has_due w p d ≡ (not (is_same_file file d.file) && has_due v p d)) → Redues u w file [] []
not_entered u v w file first went = record {
  others = λ p d other. file_others v w file went p d other ∙ first p d other;
  own = λ was. record { due = λ p k. file_own v w file went p k; ordered = was.ordered };
}
