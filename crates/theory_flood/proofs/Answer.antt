-- An answer is heard.
use Rattle.std.proofs.Common.{ℕ, ◌≡◌, Bool, true, false, cond, nat_eq, ◌==◌, ◌&&◌, List, [], Option, None, Some, is_some, refl, sym, ap, ◌∙◌, inl, inr, arith, ◌⊎◌}
use Rattle.std.specs.Option.{option_eq}
use Rattle.std.proofs.lemmas.List.Elements.{All-nil}
use Rattle.pg_base.specs.declared.id.FileId.{FileId}
use Rattle.pg_edges.specs.declared.key.Key.{Key}
use Rattle.pg_edges.specs.declared.edge.Edge.{Edge}
use Rattle.pg_edges.specs.Key.{is_same_key}
use Rattle.pg_edges.specs.Edges.{is_listed, slot_at, tag_of, tag_at, taken_off, acked}
use Rattle.pg_edges.specs.Laws.Change.{Ack}
use Rattle.pg_edges.proofs.Tags.{keeps_or_brings}
use Rattle.pg_edges.proofs.Orders.{is_same_key-true}
use Rattle.std.proofs.lemmas.Bool.{eqb-true, and_parts}
use Rattle.pg_edges.proofs.Lookups.{same_tag}
use Rattle.pg_edges.proofs.Acks.{acks}
use Rattle.theory_flood.specs.Promises.{Saying}
use Rattle.theory_flood.specs.Promises.Saying.{AckTo}
use Rattle.theory_flood.specs.Server.{Replica, Slot, slot, tag_on}
use Rattle.theory_flood.specs.Protocol.{Protocol, tags_of, tag, Has, Covers}
use Rattle.theory_flood.proofs.Servers.{slot_of_parts, OthersStay, AtFile, by_file, has_parts, there_parts, has_same, there_same}
use Rattle.theory_flood.proofs.Steps.{HasSoundTags, fewer_tags, OverStays, NotesFrom, Rule, May}
use Rattle.theory_flood.proofs.Single.{slot_listed, listed_as, listed_by_tag}

-- an answer with another tag than the present one takes nothing off
pub old_answer : (es : List Edge) (peer birth : ℕ) (key : Key) (g : ℕ) → option_eq nat_eq (tag_at es peer birth key) (Some g) ≡ false → acked es peer birth key g ≡ es
old_answer es peer birth key g old = ap (λ z. cond z (taken_off es peer key) es) old

-- whether this slot is the one that the answer takes off
abbrev pub is_answered : List Edge → ℕ → ℕ → Key → ℕ → ℕ → ℕ → Key → Bool
is_answered es peer birth key g p b k = p == peer && (b == birth && (is_same_key k key && option_eq nat_eq (tag_at es p b k) (Some g)))

-- the edges after an answer, at one slot: the key was taken off, or is as it was
pub record Answered (es : List Edge) (peer birth : ℕ) (key : Key) (g : ℕ) (p b : ℕ) (k : Key) : Type 0 where
  pub peer_is : p ≡ peer
  pub birth_is : b ≡ birth
  pub key_is : k ≡ key
  pub tag_is : tag_at es p b k ≡ Some g
  pub now : slot_at (acked es peer birth key g) p b k ≡ Some None

answered_by : (es : List Edge) (peer birth : ℕ) (key : Key) (g p b : ℕ) (k : Key) (s : Bool) → is_answered es peer birth key g p b k ≡ s
    → Answered es peer birth key g p b k ⊎ (slot_at (acked es peer birth key g) p b k ≡ slot_at es p b k)
answered_by es peer birth key g p b k true e =
    let x = and_parts (p == peer) (b == birth && (is_same_key k key && option_eq nat_eq (tag_at es p b k) (Some g))) e in
    let y = and_parts (b == birth) (is_same_key k key && option_eq nat_eq (tag_at es p b k) (Some g)) x.1 in
    let z = and_parts (is_same_key k key) (option_eq nat_eq (tag_at es p b k) (Some g)) y.1 in
    inl (record {
      peer_is = eqb-true p peer x.0;
      birth_is = eqb-true b birth y.0;
      key_is = is_same_key-true k key z.0;
      tag_is = same_tag (tag_at es p b k) g z.1;
      now = acks es peer birth key g p b k ∙ ap (λ t. cond t (Some None) (slot_at es p b k)) e;
    })
answered_by es peer birth key g p b k false e = inr (acks es peer birth key g p b k ∙ ap (λ t. cond t (Some None) (slot_at es p b k)) e)

pub answered : (es : List Edge) (peer birth : ℕ) (key : Key) (g p b : ℕ) (k : Key) → Answered es peer birth key g p b k ⊎ (slot_at (acked es peer birth key g) p b k ≡ slot_at es p b k)
answered es peer birth key g p b k = answered_by es peer birth key g p b k (is_answered es peer birth key g p b k) refl

-- no edge goes
pub acked_listed : (es : List Edge) (peer birth : ℕ) (key : Key) (g p b : ℕ) → is_listed (acked es peer birth key g) p b ≡ is_listed es p b
acked_listed es peer birth key g p b = elim (answered es peer birth key g p b key) [
  | inl f ↦ slot_listed (acked es peer birth key g) p b key ∙ ap (λ (o : Option (Option ℕ)). is_some o) f.now ∙ sym (listed_by_tag es p b key g f.tag_is)
  | inr e ↦ listed_as es (acked es peer birth key g) p b key e
]

module _ {N M C : Type 0} (p : Protocol N M C) where
  abbrev pub with_answered : Replica C → ℕ → ℕ → Key → ℕ → Replica C
  with_answered x peer birth key g = record { birth = x.birth; edges = acked x.edges peer birth key g; cells = x.cells }

  -- two states of a server, where in the second the key was taken off this replica, if the tag is
  -- the present one
  pub record Answers (a b : N) (file : FileId) (x : Replica C) (peer birth : ℕ) (key : Key) (g : ℕ) : Type 0 where
    pub old : (p.see a).replicas file ≡ Some x
    pub new : (p.see b).replicas file ≡ Some (with_answered x peer birth key g)
    pub others : OthersStay (p.see a) (p.see b) file
    pub tags : tags_of p b ≡ tags_of p a
    pub over : OverStays p a b

  at_answer : (a b : N) (file : FileId) (x : Replica C) (peer birth : ℕ) (key : Key) (g : ℕ) → Answers a b file x peer birth key g → (f : FileId) → AtFile (p.see a) (p.see b) file (Some x) (Some (with_answered x peer birth key g)) f
  at_answer a b file x peer birth key g k = by_file (p.see a) (p.see b) file (Some x) (Some (with_answered x peer birth key g)) k.old k.new k.others

  answered_covers : (a b : N) (file : FileId) (x : Replica C) (peer birth : ℕ) (key : Key) (g : ℕ) → OverStays p a b → (q : Slot) (c : C)
      → AtFile (p.see a) (p.see b) file (Some x) (Some (with_answered x peer birth key g)) q.file → Covers p a q c → Covers p b q c
  answered_covers a b file x peer birth key g over q c w (inr o) = inr (over.over q.file q.birth c o)
  answered_covers a b file x peer birth key g over q c (inl w) (inl h) =
      let t = there_parts p.IsUpTo (p.see a) q c x w.1 h.0 in
      inl (record { replica = with_answered x peer birth key g; is = w.2; other = t.0; holds = t.1 }, over.taken q.file q.birth c h.1)
  answered_covers a b file x peer birth key g over q c (inr w) (inl h) = inl (there_same p.IsUpTo (p.see a) (p.see b) q c w h.0, over.taken q.file q.birth c h.1)

  answered_owed : (a b : N) (file : FileId) (x : Replica C) (peer birth : ℕ) (key : Key) (g : ℕ) (q : Slot) (c : C) (j : ℕ)
      → AtFile (p.see a) (p.see b) file (Some x) (Some (with_answered x peer birth key g)) q.file → Has p b q c → tag p b q ≡ Some j → Has p a q c × (tag p a q ≡ Some j)
  answered_owed a b file x peer birth key g q c j (inl w) h now =
      let t = has_parts (p.see b) q c (with_answered x peer birth key g) w.2 h in
      let old = ap (λ o. tag_on o q) w.1 in
      let new = ap (λ o. tag_on o q) w.2 in
      elim (answered x.edges peer birth key g q.peer q.birth q.key) [
        | inl f ↦ absurd (let z : None ≡ Some j = sym (ap tag_of f.now) ∙ sym new ∙ now in cc)
        | inr e ↦ (
          record { replica = x; is = w.1; own = t.0; listed = sym (listed_as x.edges (acked x.edges peer birth key g) q.peer q.birth q.key e) ∙ t.1; cell = t.2 },
          old ∙ sym (ap tag_of e) ∙ sym new ∙ now,
        )
      ]
  answered_owed a b file x peer birth key g q c j (inr w) h now = (has_same (p.see a) (p.see b) q c w h, sym (ap (λ o. tag_on o q) w) ∙ now)

  answered_free : (s : ℕ) (a b : N) (file : FileId) (x : Replica C) (peer birth : ℕ) (key : Key) (g : ℕ) (q : Slot) (c : C)
      → AtFile (p.see a) (p.see b) file (Some x) (Some (with_answered x peer birth key g)) q.file → Has p b q c → tag p b q ≡ None
      → Has p a q c × ((tag p a q ≡ None) ⊎ ((j : ℕ) × (tag p a q ≡ Some j) × (◌≡◌ {A = Saying Slot C} (AckTo s (slot file x.birth peer birth key) g) (AckTo s q j))))
  answered_free s a b file x peer birth key g q c (inl w) h now =
      let t = has_parts (p.see b) q c (with_answered x peer birth key g) w.2 h in
      let old = ap (λ o. tag_on o q) w.1 in
      let new = ap (λ o. tag_on o q) w.2 in
      elim (answered x.edges peer birth key g q.peer q.birth q.key) [
        | inl f ↦ (
          record { replica = x; is = w.1; own = t.0; listed = listed_by_tag x.edges q.peer q.birth q.key g f.tag_is; cell = t.2 },
          inr (g, old ∙ f.tag_is, ap (λ (z : Slot). AckTo s z g) (slot_of_parts file q.file x.birth q.own peer q.peer birth q.birth key q.key (sym w.0) t.0 (sym f.peer_is) (sym f.birth_is) (sym f.key_is))),
        )
        | inr e ↦ (
          record { replica = x; is = w.1; own = t.0; listed = sym (listed_as x.edges (acked x.edges peer birth key g) q.peer q.birth q.key e) ∙ t.1; cell = t.2 },
          inl (old ∙ sym (ap tag_of e) ∙ sym new ∙ now),
        )
      ]
  answered_free s a b file x peer birth key g q c (inr w) h now = (has_same (p.see a) (p.see b) q c w h, inl (sym (ap (λ o. tag_on o q) w) ∙ now))

  answered_stood : (a b : N) (file : FileId) (x : Replica C) (peer birth : ℕ) (key : Key) (g : ℕ) (q : Slot) (j : ℕ)
      → AtFile (p.see a) (p.see b) file (Some x) (Some (with_answered x peer birth key g)) q.file → tag p b q ≡ Some j → tag p a q ≡ Some j
  answered_stood a b file x peer birth key g q j (inl w) now =
      let old = ap (λ o. tag_on o q) w.1 in
      let new = ap (λ o. tag_on o q) w.2 in
      elim (keeps_or_brings (Ack peer birth key g) x.edges q.peer q.birth q.key j (sym new ∙ now)) [ inl z ↦ old ∙ z | inr z ↦ absurd z ]
  answered_stood a b file x peer birth key g q j (inr w) now = sym (ap (λ o. tag_on o q) w) ∙ now

  -- THE RULE, for an answer to the replica that is held, whether its tag is the present one or an
  -- old one
  pub answer_rule : (s : ℕ) (a b : N) (file : FileId) (x : Replica C) (peer birth : ℕ) (key : Key) (g : ℕ) → Answers a b file x peer birth key g
      → NotesFrom p a b (AckTo s (slot file x.birth peer birth key) g) → Rule p s a b (AckTo s (slot file x.birth peer birth key) g) []
  answer_rule s a b file x peer birth key g k notes =
      let split = at_answer a b file x peer birth key g k in
      let same = k.tags in
      record {
        onward = record {
          tags_up = omega arith;
          covers = λ q c h. answered_covers a b file x peer birth key g k.over q c (split q.file) h;
          owed = λ q c j h now. inl (answered_owed a b file x peer birth key g q c j (split q.file) h now);
        };
        free = λ q c h now. answered_free s a b file x peer birth key g q c (split q.file) h now;
        notes = notes;
        sends = All-nil (λ m. May p s a b (AckTo s (slot file x.birth peer birth key) g) (p.says m));
      }

  -- and tags stay sound
  pub answer_tags : (a b : N) (file : FileId) (x : Replica C) (peer birth : ℕ) (key : Key) (g : ℕ) → Answers a b file x peer birth key g → HasSoundTags p a → HasSoundTags p b
  answer_tags a b file x peer birth key g k sound =
      let same = k.tags in
      fewer_tags p a b (omega arith) (λ q j now. answered_stood a b file x peer birth key g q j (at_answer a b file x peer birth key g k q.file) now) sound
