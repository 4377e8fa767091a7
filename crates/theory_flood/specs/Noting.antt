-- What was said at any time may be answered late: the messages that were ever sent stand for what
-- servers noted.
use Rattle.std.specs.Prelude.{ℕ, ◌≡◌, ◌++◌, Contains, List}
use Rattle.theory_flood.specs.Promises.{Saying}
use Rattle.theory_flood.specs.Protocol.{KeepsEdges, Promised, Protocol}
use Rattle.theory_flood.specs.Rule.{Rule}
use Rattle.theory_flood.specs.Server.{Slot}
use Rattle.theory_flood.specs.World.{after}

module _ {N M C : Type 0} (p : Protocol N M C) where
  -- the same protocol, for one event: every server has noted this
  abbrev pub noting : (Saying Slot C → Type 0) → Protocol N M C
  noting Was = record {
    see = p.see;
    IsUpTo = p.IsUpTo;
    IsOver = p.IsOver;
    Took = p.Took;
    says = p.says;
    Noted = λ a x. Was x;
  }

  -- one of these messages says it
  abbrev pub SaidIn : List M → Saying Slot C → Type 0
  SaidIn mail x = (m : M) × Contains mail m × (p.says m ≡ x)

  abbrev pub NotesNothing : Type 0
  NotesNothing = (a : N) (x : Saying Slot C) → p.Noted a x → ⊥

  -- LATE ANSWERS ARE KEPT: where a protocol notes nothing, and all messages that were ever sent
  -- keep their promises, an event may answer what any of them said
  abbrev pub LateAnswersKeep : Type 0
  LateAnswersKeep = (nodes : ℕ → N) (s : ℕ) (b : N) (heard : Saying Slot C) (sent mail : List M)
      → NotesNothing → KeepsEdges p nodes mail → Promised p nodes heard
      → Rule (noting (SaidIn mail)) s (nodes s) b heard sent
      → KeepsEdges p (after nodes s b) (mail ++ sent)

  -- and whoever answers nothing late keeps this rule too
  abbrev pub EarlyIsLate : Type 0
  EarlyIsLate = (s : ℕ) (a b : N) (heard : Saying Slot C) (sent mail : List M) → NotesNothing
      → Rule p s a b heard sent → Rule (noting (SaidIn mail)) s a b heard sent
