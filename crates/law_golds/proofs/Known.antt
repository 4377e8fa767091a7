-- What is said of flags is said where less is said.
use Rattle.std.proofs.Common.{ℕ, List, All}
use Rattle.std.proofs.lemmas.List.Elements.{All-weaker}
use Rattle.law_frame.specs.pg_run.pg_base.declared.id.FileId.{FileId}
use Rattle.law_frame.specs.pg_run.pg_entries.declared.cell.Cell.{Cell}
use Rattle.law_frame.specs.pg_run.pg_entries.declared.cell.Cell.TheVariants as cells
use Rattle.law_frame.specs.pg_run.pg_intent.declared.intent.Intent.{Intent}
use Rattle.law_frame.specs.pg_run.pg_intent.declared.intent.Intent.TheVariants as intent
use Rattle.law_frame.specs.pg_run.pg_msg.declared.message.Message.{Message}
use Rattle.law_frame.specs.pg_run.pg_msg.declared.message.Message.TheVariants as message
use Rattle.law_frame.specs.pg_run.pg_msg.declared.message.Sent.{Sent}
use Rattle.law_frame.specs.pg_run.pg_names.Names.{NamesValue}
use Rattle.law_frame.specs.pg_run.pg_register.declared.flag.Flag.{Flag}
use Rattle.law_frame.specs.pg_run.pg_store.declared.store.Store.{Store}
use Rattle.law_births.specs.Flags.{AnyBye, SaysCell, SaysIntent, SaysMessage, SaysNames, SaysStore}
use Rattle.law_golds.proofs.Says.{SaysSent}

module _ (Q R : FileId → Flag → Type 0) (less : (f : FileId) (g : Flag) → Q f g → R f g) where
  all_less : (f : FileId) (gs : List Flag) → All (Q f) gs → All (R f) gs
  all_less f gs all = All-weaker (Q f) (R f) (less f) gs all

  names_less : (s : ℕ) (names : NamesValue) → SaysNames Q s names → SaysNames R s names
  names_less s names k = record {
    server = k.server;
    own = λ f own h. all_less f own.flags (k.own f own h);
    cells = λ dir child e h.
        let c = k.cells dir child e h in (c.0, all_less child e.flags c.1);
  }

  intent_less : (i : Intent) → SaysIntent Q AnyBye i → SaysIntent R AnyBye i
  intent_less (intent.Bye file birth peer peer_birth) k = k
  intent_less (intent.Seek file target) k = k
  intent_less (intent.Fill file birth target) k = k
  intent_less (intent.Patch dir e target) k = all_less e.child e.flags k
  intent_less (intent.Confirm dir child target) k = k
  intent_less (intent.Leave file peer peer_birth) k = k

  pub store_less : (s : ℕ) (a : Store) → SaysStore Q AnyBye s a → SaysStore R AnyBye s a
  store_less s a k = record {
    names = names_less s a.names k.names;
    intents = All-weaker (SaysIntent Q AnyBye) (SaysIntent R AnyBye) intent_less a.intents k.intents;
  }

  cell_less : (f : FileId) (c : Cell) → SaysCell Q f c → SaysCell R f c
  cell_less f (cells.Place place) k = k
  cell_less f (cells.Flag flag) k = less f flag k
  cell_less f (cells.Entry e sure) k = all_less e.child e.flags k
  cell_less f (cells.Version v) k = k

  pub message_less : (m : Message) → SaysMessage Q m → SaysMessage R m
  message_less (message.Cell ends tag c) k = cell_less ends.file c k
  message_less (message.Grant ends granted) k = all_less ends.file granted.flags k
  message_less (message.Confirm dir e) k = all_less e.child e.flags k
  message_less (message.PlaceIs dir e) k = all_less e.child e.flags k
  message_less (message.Tell dir e) k = all_less e.child e.flags k
  message_less m k = tt

  pub all_sent_less : (ms : List Sent) → All (SaysSent Q) ms → All (SaysSent R) ms
  all_sent_less ms all = All-weaker (SaysSent Q) (SaysSent R) (λ m k. message_less m.packet.message k) ms all
