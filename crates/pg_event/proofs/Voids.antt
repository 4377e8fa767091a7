-- Causes of void events as words: no two are one word, and which bytes these lack.
use Rattle.std.proofs.Common.{rules, ℕ, ◌≡◌, arith, codes}
use Rattle.pg_event.specs.Entry.{void_word}
use Rattle.pg_event.specs.declared.entry.VoidCause.{VoidCause}
use Rattle.pg_event.specs.declared.entry.VoidCause.TheVariants.{NoMessage, NoServer, Removed, Unremoved, Last, NoMeter}
use Rattle.pg_words.proofs.Lacking.{Ends, literal}
use Rattle.pg_words.proofs.Splitting.{Lacks}

pub Lacks-void : (c : ℕ) (v : VoidCause) → Ends c → Lacks c (void_word v)
Lacks-void c NoMessage h = let low = h.low in literal c (codes "no-message") (omega arith)
Lacks-void c NoServer h = let low = h.low in literal c (codes "no-server") (omega arith)
Lacks-void c Removed h = let low = h.low in literal c (codes "removed") (omega arith)
Lacks-void c Unremoved h = let low = h.low in literal c (codes "unremoved") (omega arith)
Lacks-void c Last h = let low = h.low in literal c (codes "last") (omega arith)
Lacks-void c NoMeter h = let low = h.low in literal c (codes "no-meter") (omega arith)

pub same_void : (a b : VoidCause) → void_word a ≡ void_word b → a ≡ b
same_void = search rules
