-- A protocol that promises covering, with what was taken besides.
use Rattle.std.specs.Prelude.{ℕ}
use Rattle.pg_base.specs.declared.id.FileId.{FileId}
use Rattle.theory_flood.specs.Protocol.{Protocol}

-- of: what the protocol speaks of, of a server that has more
-- Took: that the server's replica of this birth took what this cell tells
module _ {K N M C : Type 0} (p : Protocol N M C) (of : K → N) (Took : K → FileId → ℕ → C → Type 0)
  where
    abbrev pub taking : Protocol K M C
    taking = record {
      see = λ a. p.see (of a);
      IsUpTo = p.IsUpTo;
      IsOver = λ a file birth c. p.IsOver (of a) file birth c;
      Took = Took;
      says = p.says;
      Noted = λ a x. p.Noted (of a) x;
    }
