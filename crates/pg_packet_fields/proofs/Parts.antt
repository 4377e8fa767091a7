-- Parts stay in order when one comes behind them.
use Rattle.std.proofs.Common.{◌≡◌, ℕ, ◌<◌, ◌≤◌, ◌+◌, List, [], ◌∷◌, ◌++◌, length, refl}
use Rattle.pg_patch.specs.Parts.{AreInOrder, end_of}
use Rattle.pg_patch.specs.declared.part.Part.{Part}

-- where the next part may begin
abbrev pub next_of : ℕ → List Part → ℕ
next_of from [] = from
next_of from (p ∷ ps) = next_of (end_of p + 1) ps

pub next_more : (from : ℕ) (ps : List Part) (p : Part) → next_of from (ps ++ p ∷ []) ≡ end_of p + 1
next_more from [] p = refl
next_more from (q ∷ ps) p = next_more (end_of q + 1) ps p

pub order_more : (from least : ℕ) (ps : List Part) (p : Part) → AreInOrder from ps least → next_of from ps ≤ p.offset
    → 0 < length p.bytes → end_of p ≤ least → AreInOrder from (ps ++ p ∷ []) least
order_more from least [] p order le some end = (le, some, end, tt)
order_more from least (q ∷ ps) p order le some end = (order.0, order.1, order.2, order_more (end_of q + 1) least ps p order.3 le some end)
