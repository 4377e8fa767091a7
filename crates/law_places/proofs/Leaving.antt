-- A replica goes, or its peers hear of it: no place more is known, and none is told.
use Rattle.std.proofs.Common.{ℕ, ◌≡◌, true, false, not, Some, refl, arith}
use Rattle.law_frame.specs.pg_run.pg_base.declared.id.FileId.{FileId}
use Rattle.law_frame.specs.pg_run.pg_base.Id.{is_same_file}
use Rattle.law_frame.specs.pg_run.pg_intent.declared.intent.Intent.{Intent}
use Rattle.law_frame.specs.pg_run.pg_intent.declared.intent.Intent.TheVariants as intent
use Rattle.law_frame.specs.pg_run.pg_intent.declared.key.IntentKey.TheVariants as intent_key
use Rattle.law_frame.specs.pg_run.pg_intent.Intent.{key_of}
use Rattle.law_frame.specs.pg_run.pg_intent.Intents.{begun, intent_at, stands}
use Rattle.law_frame.specs.pg_run.pg_register.declared.place.Place.{Place}
use Rattle.law_frame.specs.pg_run.pg_register.Place.{root}
use Rattle.law_frame.specs.pg_run.pg_store.declared.store.Store.{Store}
use Rattle.law_frame.specs.pg_run.pg_store.Beginning.{let_go, with_intents}
use Rattle.law_frame.specs.pg_run.pg_store.Births.{is_pending}
use Rattle.law_frame.specs.pg_run.pg_pieces.Done.{Done, idle}
use Rattle.law_frame.specs.pg_run.pg_pieces.Intending.{begin_intent}
use Rattle.law_frame.proofs.pg_run.Still.{begun_still}
use Rattle.law_places.proofs.Fine.{IsFine, as_before, intending, same_drawn}
use Rattle.law_places.proofs.Known.{OfIntent, begun_is, gone_names}
use Rattle.law_places.proofs.Timed.{UpTo}

-- no replica of the root is to come, and none goes
pub record RootStays (a : Store) : Type 0 where
  pub pending : (f : FileId) (birth : ℕ) → is_pending a f birth ≡ true → is_same_file f root ≡ false
  pub leaves : (f : FileId) (peer birth : ℕ)
      → intent_at a.intents (intent_key.Leave f) ≡ Some (intent.Leave f peer birth) → is_same_file f root ≡ false

module _ (P : FileId → Place → Type 0) (s least : ℕ) where
  abbrev Fine : Done → Type 0
  Fine d = IsFine P s least d

  -- an intention begins
  pub intent_begun : (d : Done) (i : Intent) → OfIntent P i → Fine d → Fine (begin_intent d.store i d.work)
  intent_begun d i of k =
      let is = begun d.store.intents i in
      let still = begun_still (not (stands d.store.intents (key_of i))) d.work (key_of i) in
      as_before P s least (idle (with_intents d.store is) d.work) (begin_intent d.store i d.work) refl refl
      still.mail.sent still.made
      (intending P s least d is (begun_is P d.store.intents i k.known.intents of) k)

  -- a replica goes, but not that of the root
  pub let_go_fine : (d : Done) (f : FileId) → is_same_file f root ≡ false → Fine d → Fine (idle (let_go d.store f) d.work)
  let_go_fine d f apart k = record {
    known = record { names = gone_names P d.store.names k.known.names f apart; intents = k.known.intents };
    timed = gone_names (UpTo d.store.names.last) d.store.names k.timed f apart;
    sent = k.sent;
    drawn = same_drawn P s least d (idle (let_go d.store f) d.work) refl (omega arith) refl k;
  }
