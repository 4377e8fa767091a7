-- An event that answers what any message said.
use Rattle.std.proofs.Common.{ℕ, ◌≡◌, List, ◌++◌, All, inl, inr, ◌⊎◌, subst}
use Rattle.std.specs.Prelude.{Contains}
use Rattle.std.proofs.lemmas.List.Elements.{All-weaker}
use Rattle.theory_flood.specs.Promises.{Saying}
use Rattle.theory_flood.specs.Promises.Saying.{AckTo, CellFor, Other}
use Rattle.theory_flood.specs.Protocol.{KeepsEdges, Promised, Protocol}
use Rattle.theory_flood.specs.Server.{Slot}
use Rattle.theory_flood.specs.World.{after}
use Rattle.theory_flood.proofs.Steps.{May, Rule}
use Rattle.theory_flood.proofs.Worlds.{event_keeps}
use Rattle.theory_flood.specs.Noting.{EarlyIsLate, LateAnswersKeep, NotesNothing, SaidIn, noting}

module _ {N M C : Type 0} (p : Protocol N M C) where
  -- a promise does not speak of what was noted
  promise_in : (Was : Saying Slot C → Type 0) (nodes : ℕ → N) (x : Saying Slot C) → Promised p nodes x
      → Promised (noting p Was) nodes x
  promise_in Was nodes (CellFor owner q g c) h = h
  promise_in Was nodes (AckTo owner q g) h = h
  promise_in Was nodes Other h = tt

  promise_out : (Was : Saying Slot C → Type 0) (nodes : ℕ → N) (x : Saying Slot C) → Promised (noting p Was) nodes x
      → Promised p nodes x
  promise_out Was nodes (CellFor owner q g c) h = h
  promise_out Was nodes (AckTo owner q g) h = h
  promise_out Was nodes Other h = tt

  member : (P : M → Type 0) (ms : List M) (m : M) → All P ms → Contains ms m → P m
  member P ms m h k = subst P k.2 (h k.0 m k.1)

  pub kept_in : (nodes : ℕ → N) (mail : List M) → KeepsEdges p nodes mail → KeepsEdges (noting p (SaidIn p mail)) nodes mail
  kept_in nodes mail k =
      let Was : Saying Slot C → Type 0 = SaidIn p mail in
      let P : M → Type 0 = λ m. Promised p nodes (p.says m) in
      let Q : M → Type 0 = λ m. Promised (noting p Was) nodes (p.says m) in
      let R : Saying Slot C → Type 0 = λ x. Promised (noting p Was) nodes x in
      let promises : All Q mail = All-weaker P Q (λ m h. promise_in Was nodes (p.says m) h) mail k.promises in
      record {
        edges = k.edges;
        promises = promises;
        notes = λ s x was. subst R was.2 (member Q mail was.0 promises was.1);
      }

  pub kept_out : (Was : Saying Slot C → Type 0) (nodes : ℕ → N) (mail : List M) → NotesNothing p
      → KeepsEdges (noting p Was) nodes mail → KeepsEdges p nodes mail
  kept_out Was nodes mail none k = record {
    edges = k.edges;
    promises = All-weaker (λ m. Promised (noting p Was) nodes (p.says m)) (λ m. Promised p nodes (p.says m))
        (λ m h. promise_out Was nodes (p.says m) h) mail k.promises;
    notes = λ s x noted. absurd (none (nodes s) x noted);
  }

  -- LATE ANSWERS ARE KEPT
  pub late : LateAnswersKeep p
  late nodes s b heard sent mail none k promised rule =
      let Was : Saying Slot C → Type 0 = SaidIn p mail in
      let before = kept_in nodes mail k in
      kept_out Was (after nodes s b) (mail ++ sent) none
      (event_keeps (noting p Was) nodes s b heard sent mail mail before rule (promise_in Was nodes heard promised) before.promises)

  -- ---- what servers noted, in another sense

  abbrev as_noted : (N → Saying Slot C → Type 0) → Protocol N M C
  as_noted Noted = record {
    see = p.see;
    IsUpTo = p.IsUpTo;
    IsOver = p.IsOver;
    Took = p.Took;
    says = p.says;
    Noted = Noted;
  }

  module _ (Was Then : N → Saying Slot C → Type 0) (s : ℕ) (a b : N) (heard : Saying Slot C)
      (more : (x : Saying Slot C) → Was a x → Then a x) where
    may_wider : (x : Saying Slot C) → May (as_noted Was) s a b heard x → May (as_noted Then) s a b heard x
    may_wider (CellFor owner q g c) h = h
    may_wider (AckTo owner q g) h = (
      h.0,
      h.1,
      h.2,
      elim h.3 [ inl now ↦ inl now | inr noted ↦ inr (more (CellFor owner h.0 g h.1) noted) ],
      h.4,
    )
    may_wider Other h = tt

    rule_wider : (sent : List M) → ((x : Saying Slot C) → Then b x → Then a x ⊎ (heard ≡ x))
        → Rule (as_noted Was) s a b heard sent → Rule (as_noted Then) s a b heard sent
    rule_wider sent notes r = record {
      onward = record {
        tags_up = r.onward.tags_up;
        covers = r.onward.covers;
        owed = r.onward.owed;
      };
      free = r.free;
      notes = notes;
      sends = All-weaker (λ m. May (as_noted Was) s a b heard (p.says m)) (λ m. May (as_noted Then) s a b heard (p.says m))
          (λ m h. may_wider (p.says m) h) sent r.sends;
    }

  -- WHO ANSWERS NO MORE than this keeps the rule of whoever answers it
  pub wider : (Was Then : Saying Slot C → Type 0) (s : ℕ) (a b : N) (heard : Saying Slot C) (sent : List M)
      → ((x : Saying Slot C) → Was x → Then x) → Rule (noting p Was) s a b heard sent → Rule (noting p Then) s a b heard sent
  wider Was Then s a b heard sent more r =
      rule_wider (λ a x. Was x) (λ a x. Then x) s a b heard more sent (λ x was. inl was) r

  -- WHAT IS BY THE RULE is by this one too
  pub early : EarlyIsLate p
  early s a b heard sent mail none r =
      rule_wider p.Noted (λ a x. SaidIn p mail x) s a b heard (λ x noted. absurd (none a x noted)) sent
      (λ x was. inl was) r
