-- Why an event changes nothing: what it is spelled as.
use Rattle.std.specs.Prelude.{ℕ, List, codes}
use Rattle.pg_event.specs.declared.entry.VoidCause.{VoidCause}
use Rattle.pg_event.specs.declared.entry.VoidCause.TheVariants.{NoMessage, NoServer, Removed, Unremoved, Last, NoMeter}

abbrev pub void_word : VoidCause → List ℕ
void_word NoMessage = codes "no-message"
void_word NoServer = codes "no-server"
void_word Removed = codes "removed"
void_word Unremoved = codes "unremoved"
void_word Last = codes "last"
void_word NoMeter = codes "no-meter"
