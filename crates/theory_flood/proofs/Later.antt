-- What a server may send it may also send a few steps later.
use Rattle.std.proofs.Common.{ℕ, ◌≡◌, ◌<◌, ◌≤◌, List, sym, ◌∙◌, inl, inr, arith}
use Rattle.std.proofs.lemmas.List.Elements.{All-weaker}
use Rattle.theory_flood.specs.Promises.{Saying}
use Rattle.theory_flood.specs.Promises.Saying.{CellFor, AckTo, Other}
use Rattle.theory_flood.specs.Protocol.{Protocol, tags_of}
use Rattle.theory_flood.specs.Server.{Slot}
use Rattle.theory_flood.proofs.Steps.{AllMay, May, Steps}

module _ {N M C : Type 0} (p : Protocol N M C) where
  -- a cell under a tag that stands nowhere else, and the answer to a cell that is covered
  pub may_later : (s : ℕ) (a b c : N) (heard x : Saying Slot C) → Steps p b c → May p s a b heard x
      → May p s a c heard x
  may_later s a b c heard (CellFor o q g d) f m =
      let up : tags_of p b ≤ tags_of p c = f.moves.tags_up in
      let low : g < tags_of p b = m.1 in (
        m.0,
        omega arith,
        λ r e h t. elim (f.moves.slots r e h) [
          | inl new ↦
              let same : new.0 ≡ g = (let x = new.1 in cc) in
              let le : tags_of p b ≤ new.0 = new.2 in
              absurd (omega arith)
          | inr old ↦ m.2 r e old.0 (sym old.1 ∙ t)
        ],
      )
  may_later s a b c heard (AckTo o r g) f m = (m.0, m.1, m.2, m.3, f.moves.covers m.0 m.1 m.4)
  may_later s a b c heard Other f m = tt

  pub all_may_later : (s : ℕ) (a b c : N) (heard : Saying Slot C) (ms : List M) → Steps p b c
      → AllMay p s a b heard ms → AllMay p s a c heard ms
  all_may_later s a b c heard ms f h =
      All-weaker (λ m. May p s a b heard (p.says m)) (λ m. May p s a c heard (p.says m))
      (λ m k. may_later s a b c heard (p.says m) f k) ms h
