-- The table of lines: what stands behind each verb.
use Rattle.std.specs.Prelude.{ℕ, List, [], ◌∷◌, codes}
use Rattle.pg_call.specs.Fields.{Field, call_fields}
use Rattle.pg_call.specs.Fields.Field.{Narrow, Wide, AnyId, Form, Off}
use Rattle.pg_call.specs.declared.call.CallKind.{CallKind}
use Rattle.pg_sched.specs.declared.verb.Verb.{Verb}
use Rattle.pg_sched.specs.declared.verb.Verb.TheVariants.{Tick, Deliver, Lose, Repeat, Restart, Remove, Settle, Quiet, Trace, Show, Meter}

-- the word that a verb is
abbrev pub verb_word : Verb → List ℕ
verb_word Tick = codes "tick"
verb_word Deliver = codes "deliver"
verb_word Lose = codes "lose"
verb_word Repeat = codes "repeat"
verb_word Restart = codes "restart"
verb_word Remove = codes "remove"
verb_word Settle = codes "settle"
verb_word Quiet = codes "quiet"
verb_word Trace = codes "trace"
verb_word Show = codes "show"
verb_word Meter = codes "meter"

-- the words behind a verb
abbrev pub fields : Verb → List Field
fields Tick = Narrow ∷ Wide ∷ Wide ∷ []
fields Deliver = Wide ∷ []
fields Lose = Wide ∷ []
fields Repeat = Wide ∷ []
fields Restart = Narrow ∷ []
fields Remove = Narrow ∷ []
fields Settle = Narrow ∷ Wide ∷ []
fields Quiet = []
fields Trace = Form ∷ []
fields Show = AnyId ∷ []
fields Meter = Off ∷ Wide ∷ []

-- the words of a call's line behind `call`, but for the word that names the call: the server, the
-- moment, and what stands behind that word
abbrev pub called_fields : CallKind → List Field
called_fields kind = Narrow ∷ Wide ∷ call_fields kind
