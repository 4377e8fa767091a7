-- Who keeps the rule for covering keeps it with what was taken, where that stays taken, and what is
-- answered was.
use Rattle.std.proofs.Common.{ℕ, ◌≡◌, List, get_or, inl, inr, ◌⊎◌, refl}
use Rattle.std.specs.Prelude.{Contains}
use Rattle.std.proofs.lemmas.List.Elements.{All-contains_itself}
use Rattle.pg_base.specs.declared.id.FileId.{FileId}
use Rattle.theory_flood.specs.Promises.{Saying}
use Rattle.theory_flood.specs.Promises.Saying.{CellFor, AckTo, Other}
use Rattle.theory_flood.specs.Protocol.{Protocol, Covers}
use Rattle.theory_flood.specs.Server.{Slot, HoldsThere}
use Rattle.theory_flood.specs.Taken.{taking}
use Rattle.theory_flood.proofs.Steps.{May, Rule}

module _ {K N M C : Type 0} (p : Protocol N M C) (of : K → N) (Took : K → FileId → ℕ → C → Type 0)
    (always : (a : N) (file : FileId) (birth : ℕ) (c : C) → p.Took a file birth c) where
  abbrev q : Protocol K M C
  q = taking p of Took

  abbrev There : K → Slot → C → Type 0
  There a r c = HoldsThere p.IsUpTo (p.see (of a)) r c

  -- over: what is over stays over
  -- stays: where a replica is held on, what it took stays taken
  -- answers: the cell that is answered was taken
  pub record Takes (a b : K) (heard : Saying Slot C) (sent : List M) : Type 0 where
    pub over : (r : Slot) (c : C) → p.IsOver (of a) r.file r.birth c → p.IsOver (of b) r.file r.birth c
    pub stays : (r : Slot) (c : C) → There a r c → There b r c → Took a r.file r.birth c → Took b r.file r.birth c
    pub answers : (m : M) (o : ℕ) (named r : Slot) (g : ℕ) (c : C) → Contains sent m → p.says m ≡ AckTo o named g
        → (heard ≡ CellFor o r g c) ⊎ p.Noted (of a) (CellFor o r g c) → There b r c → Took b r.file r.birth c

  module _ (s : ℕ) (a b : K) (heard : Saying Slot C) (sent : List M) (k : Rule p s (of a) (of b) heard sent) (t : Takes a b heard sent) where
    then_covers : (r : Slot) (c : C) → There a r c → Took a r.file r.birth c → Covers p (of b) r c → Covers q b r c
    then_covers r c h took (inl there) = inl (there.0, t.stays r c h there.0 took)
    then_covers r c h took (inr over) = inr over

    covers : (r : Slot) (c : C) → Covers q a r c → Covers q b r c
    covers r c (inl h) = then_covers r c h.0 h.1 (k.onward.covers r c (inl (h.0, always (of a) r.file r.birth c)))
    covers r c (inr over) = inr (t.over r c over)

    may_send : (m : M) → Contains sent m → (x : Saying Slot C) → p.says m ≡ x → May p s (of a) (of b) heard x → May q s a b heard x
    may_send m among (CellFor o r g c) e may = may
    may_send m among (AckTo o named g) e may = (
      may.0,
      may.1,
      may.2,
      may.3,
      elim may.4 [
        | inl there ↦ inl (there.0, t.answers m o named may.0 g may.1 among e may.3 there.0)
        | inr over ↦ inr over
      ],
    )
    may_send m among Other e may = may

    pub taking_rule : Rule q s a b heard sent
    taking_rule = record {
      onward = record { tags_up = k.onward.tags_up; covers = covers; owed = k.onward.owed };
      free = k.free;
      notes = k.notes;
      sends = λ i d lt. may_send (get_or sent i d) (All-contains_itself sent i d lt) (p.says (get_or sent i d)) refl (k.sends i d lt);
    }
