-- The word by which a kind of intention is told.
use Rattle.std.specs.Prelude.{ℕ, List, codes}
use Rattle.pg_intent.specs.declared.kind.IntentKind.{IntentKind}
use Rattle.pg_intent.specs.declared.kind.IntentKind.TheVariants as intent

abbrev pub intent_word : IntentKind → List ℕ
intent_word intent.Bye = codes "Bye"
intent_word intent.Seek = codes "Seek"
intent_word intent.Fill = codes "Fill"
intent_word intent.Patch = codes "Patch"
intent_word intent.Confirm = codes "Confirm"
intent_word intent.Leave = codes "Leave"
