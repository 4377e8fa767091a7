-- One thing is done after another, and an intention begins.
use Rattle.std.specs.Prelude.{Bool, not, if◌then◌else◌, List, [], ◌∷◌}
use Rattle.pg_store.specs.pg_intent.declared.intent.Intent.{Intent}
use Rattle.pg_store.specs.pg_intent.declared.key.IntentKey.{IntentKey}
use Rattle.pg_store.specs.pg_intent.Intent.{key_of}
use Rattle.pg_store.specs.pg_intent.Intents.{begun, stands}
use Rattle.pg_store.specs.pg_house.pg_msg.declared.work.Work.{Work}
use Rattle.pg_store.specs.pg_house.pg_msg.Work.{with_begun}
use Rattle.pg_store.specs.declared.store.Store.{Store}
use Rattle.pg_store.specs.Beginning.{with_intents}
use Rattle.pg_pieces.specs.Done.{Done, idle}

-- a step for each of these, in their order
abbrev pub each : {A : Type 0} → (Store → A → Work → Done) → Store → List A → Work → Done
each step store [] work = idle store work
each step store (x ∷ xs) work = each step (step store x work).store xs (step store x work).work

-- ---- an intention begins

-- that is noted, where none with its key stood
abbrev pub with_begun_if : Bool → Work → IntentKey → Work
with_begun_if news work k = if news then with_begun work k else work

-- it stands behind the others. Where one with its key stands that stays in its place, and a Patch
-- joins its entry
abbrev pub begin_intent : Store → Intent → Work → Done
begin_intent store i work = record {
  store = with_intents store (begun store.intents i);
  work = with_begun_if (not (stands store.intents (key_of i))) work (key_of i);
}
