-- All servers and the messages under way: what an event keeps, and what follows where nothing is
-- owed.
use Rattle.std.proofs.Common.{ℕ, ◌≡◌, ◌==◌, Bool, true, false, cond, List, [], ◌∷◌, ◌++◌, Option, None, Some, option_map, refl, sym, ap, ◌∙◌, inl, inr, All}
use Rattle.std.proofs.lemmas.List.Elements.{All-nil, All-head, All-tail}
use Rattle.pg_base.specs.declared.id.FileId.{FileId}
use Rattle.pg_edges.specs.declared.key.Key.{Key}
use Rattle.pg_edges.specs.declared.edge.Edge.{Edge}
use Rattle.pg_edges.specs.Keys.{tag_in}
use Rattle.pg_edges.specs.Edges.{edge_to, keys_if_born, is_listed, tag_of, tag_at}
use Rattle.theory_flood.specs.World.{after}
use Rattle.theory_flood.specs.Promises.{Saying}
use Rattle.theory_flood.specs.Server.{Replica, Slot, slot, peer_of, tag_on, HoldsAll}
use Rattle.theory_flood.specs.Protocol.{Protocol, IsSound, tags_of, tag, Has, Covers, Promised, KeepsEdges}
use Rattle.theory_flood.specs.Laws.{IsClean, Agree, LinkedAgree, ConnectedAgree}
use Rattle.theory_flood.proofs.Flood.{step_keeps}
use Rattle.theory_flood.proofs.Servers.{there_parts}
use Rattle.theory_flood.proofs.Steps.{HasSoundTags, Rule}
use Rattle.theory_flood.proofs.Sends.{HoldsAll-trans}

-- at a clean edge no tag stands
clean_by : (e : Edge) (es : List Edge) (p b : ℕ) (k : Key) (s t : Bool) → (e.peer == p) ≡ s → (e.birth == b) ≡ t → e.keys ≡ [] → (tag_at es p b k ≡ None) → tag_at (e ∷ es) p b k ≡ None
clean_by e es p b k true true peer birth none next =
    ap (λ z. tag_of (option_map (λ (keys : List (Key × ℕ)). tag_in keys k) (keys_if_born (cond z (Some e) (edge_to es p)) b))) peer
    ∙ ap (λ z. tag_of (option_map (λ (keys : List (Key × ℕ)). tag_in keys k) (cond z (Some e.keys) None))) birth ∙ ap (λ keys. tag_in keys k) none
clean_by e es p b k true false peer birth none next =
    ap (λ z. tag_of (option_map (λ (keys : List (Key × ℕ)). tag_in keys k) (keys_if_born (cond z (Some e) (edge_to es p)) b))) peer
    ∙ ap (λ z. tag_of (option_map (λ (keys : List (Key × ℕ)). tag_in keys k) (cond z (Some e.keys) None))) birth
clean_by e es p b k false t peer birth none next = ap (λ z. tag_of (option_map (λ (keys : List (Key × ℕ)). tag_in keys k) (keys_if_born (cond z (Some e) (edge_to es p)) b))) peer ∙ next

pub clean_tags : (es : List Edge) (p b : ℕ) (k : Key) → IsClean es → tag_at es p b k ≡ None
clean_tags [] p b k clean = refl
clean_tags (e ∷ es) p b k clean =
    clean_by e es p b k (e.peer == p) (e.birth == b) refl refl (All-head (λ (x : Edge). x.keys ≡ []) e es clean) (clean_tags es p b k (All-tail (λ (x : Edge). x.keys ≡ []) e es clean))

module _ {N M C : Type 0} (p : Protocol N M C) where
  -- WHAT ONE SERVER DOES BY THE RULE IS KEPT: these are left of the messages under way, and these
  -- are sent
  pub event_keeps : (nodes : ℕ → N) (s : ℕ) (b : N) (heard : Saying Slot C) (sent bag rest : List M) → KeepsEdges p nodes bag → Rule p s (nodes s) b heard sent → Promised p nodes heard
      → All (λ m. Promised p nodes (p.says m)) rest → KeepsEdges p (after nodes s b) (rest ++ sent)
  event_keeps nodes s b heard sent bag rest k l heard_kept rest_kept = step_keeps p.says (tags_of p) (tag p) (Has p) (Covers p) peer_of p.Noted nodes s b heard sent bag rest k l heard_kept rest_kept

  -- where messages are lost or copied
  pub bag_keeps : (nodes : ℕ → N) (bag rest : List M) → KeepsEdges p nodes bag → All (λ m. Promised p nodes (p.says m)) rest → KeepsEdges p nodes rest
  bag_keeps nodes bag rest k h = record { edges = k.edges; promises = h; notes = k.notes }

  -- a world in which no message is under way or noted, and of each edge with an acknowledged key
  -- the other end covers the cell
  pub start_keeps : (nodes : ℕ → N) → ((s : ℕ) (q : Slot) (c : C) → Has p (nodes s) q c → tag p (nodes s) q ≡ None → Covers p (nodes q.peer) q c) → ((s : ℕ) (x : Saying Slot C) → p.Noted (nodes s) x → ⊥)
      → KeepsEdges p nodes []
  start_keeps nodes edges none = record { edges = edges; promises = All-nil (λ m. Promised p nodes (p.says m)); notes = λ s x h. absurd (none s x h) }

  no_tag : (a : N) → ((file : FileId) (x : Replica C) → (p.see a).replicas file ≡ Some x → IsClean x.edges) → (q : Slot) (g : ℕ) (o : Option (Replica C)) → (p.see a).replicas q.file ≡ o → tag_on o q ≡ Some g → ⊥
  no_tag a clean q g None is h = let z : None ≡ Some g = h in cc
  no_tag a clean q g (Some x) is h = let z : None ≡ Some g = sym (clean_tags x.edges q.peer q.birth q.key (clean q.file x is)) ∙ h in cc

  -- a server all of whose edges are clean
  pub clean_server : (a : N) → ((file : FileId) (x : Replica C) → (p.see a).replicas file ≡ Some x → IsClean x.edges) → HasSoundTags p a
  clean_server a clean = record {
    below = λ q g h. absurd (no_tag a clean q g ((p.see a).replicas q.file) refl h);
    single = λ q r g h i. absurd (no_tag a clean q g ((p.see a).replicas q.file) refl h);
  }

  -- ACROSS AN EDGE without unacknowledged keys, to a replica that is held, the other end holds all
  -- that this end holds
  pub across : IsSound p → (nodes : ℕ → N) (bag : List M) → KeepsEdges p nodes bag → (file : FileId) (s t : ℕ) (x y : Replica C) → (p.see (nodes s)).replicas file ≡ Some x → (p.see (nodes t)).replicas file ≡ Some y
      → is_listed x.edges t y.birth ≡ true → ((key : Key) → tag_at x.edges t y.birth key ≡ None) → HoldsAll p.IsUpTo x.cells y.cells
  across sound nodes bag k file s t x y one two there clean key c is =
      let q = slot file x.birth t y.birth key in
      elim (k.edges s q c (record { replica = x; is = one; own = refl; listed = there; cell = is }) (ap (λ o. tag_on o q) one ∙ clean key)) [
        | inl h ↦ (there_parts p.IsUpTo (p.see (nodes t)) q c y two h.0).1
        | inr over ↦ absurd (sound.ends (nodes t) file y.birth c y over two refl)
      ]

  -- and took what its cells tell
  pub across_took : IsSound p → (nodes : ℕ → N) (bag : List M) → KeepsEdges p nodes bag → (file : FileId) (s t : ℕ) (x y : Replica C) → (p.see (nodes s)).replicas file ≡ Some x → (p.see (nodes t)).replicas file ≡ Some y
      → is_listed x.edges t y.birth ≡ true → ((key : Key) → tag_at x.edges t y.birth key ≡ None) → (key : Key) (c : C) → x.cells key ≡ Some c → p.Took (nodes t) file y.birth c
  across_took sound nodes bag k file s t x y one two there clean key c is =
      let q = slot file x.birth t y.birth key in
      elim (k.edges s q c (record { replica = x; is = one; own = refl; listed = there; cell = is }) (ap (λ o. tag_on o q) one ∙ clean key)) [
        | inl h ↦ h.1
        | inr over ↦ absurd (sound.ends (nodes t) file y.birth c y over two refl)
      ]

  pub linked_agree : LinkedAgree p
  linked_agree sound nodes bag k quiet file s t x y l = (
    across sound nodes bag k file s t x y l.one l.two l.there (λ key. clean_tags x.edges t y.birth key (quiet.owed s file x l.one)),
    across sound nodes bag k file t s y x l.two l.one l.back (λ key. clean_tags y.edges s x.birth key (quiet.owed t file y l.two)),
  )

  Agree-trans : IsSound p → (x y z : Replica C) → Agree p x y → Agree p y z → Agree p x z
  Agree-trans sound x y z one two = (
    HoldsAll-trans p.IsUpTo sound.order.further x.cells y.cells z.cells one.0 two.0,
    HoldsAll-trans p.IsUpTo sound.order.further z.cells y.cells x.cells two.1 one.1,
  )

  pub connected_agree : ConnectedAgree p
  connected_agree sound nodes bag k quiet file [] s t x y l = linked_agree sound nodes bag k quiet file s t x y l
  connected_agree sound nodes bag k quiet file (u ∷ us) s t x y l =
      Agree-trans sound x u.1 y (linked_agree sound nodes bag k quiet file s u.0 x u.1 l.0) (connected_agree sound nodes bag k quiet file us u.0 t u.1 y l.1)
