-- The messages of intentions: one for each that asks a server.
use Rattle.std.proofs.Common.{[], ℕ, ◌≡◌, ◌==◌, Bool, true, false, not, cond, Option, None, Some, List, ◌∷◌, refl, sym, subst, All}
use Rattle.std.specs.List.{AllZip, filter, flat_map}
use Rattle.std.proofs.lemmas.List.Elements.{All-head, All-tail}
use Rattle.std.proofs.lemmas.Option.{same_Some}
use Rattle.pg_base.specs.declared.id.FileId.{FileId}
use Rattle.pg_entries.specs.declared.entry.Entry.{Entry}
use Rattle.pg_server.specs.pg_pieces.pg_intent.declared.intent.Intent.{Intent}
use Rattle.pg_server.specs.pg_pieces.pg_intent.declared.intent.Intent.TheVariants as intent
use Rattle.pg_server.specs.pg_pieces.pg_intent.Intent.{target_of}
use Rattle.pg_server.specs.pg_pieces.pg_msg.declared.message.Message.{Message}
use Rattle.pg_server.specs.pg_pieces.pg_msg.declared.message.Message.TheVariants as message
use Rattle.pg_server.specs.pg_pieces.pg_names.declared.attributes.Attributes.{Attributes}
use Rattle.pg_server.specs.pg_pieces.pg_names.Names.{cell_at, own_at}
use Rattle.pg_server.specs.pg_pieces.pg_store.declared.store.Store.{Store}
use Rattle.pg_server.specs.pg_pieces.pg_store.Births.{birth_of}
use Rattle.pg_server.specs.pg_intentions.Requests.{asked_of, asks, bye_message, confirm_message, leave_message, request}
use Rattle.pg_run.specs.Ticks.{IsAskedBy, IsRequest, asking}
use Rattle.pg_run.proofs.Zips.{zip_head}

-- what an intention is about is here, so it has a message
abbrev pub HasRequest : Store → Intent → Type 0
HasRequest a i = (m : Message) × (request a i ≡ Some m)

module _ (a : Store) where
  confirm_by : (dir child : FileId) (target : ℕ) (o : Option Entry) (m : Message) → cell_at a.names dir child ≡ o → confirm_message dir o ≡ Some m
      → IsAskedBy a (intent.Confirm dir child target) m
  confirm_by dir child target None m is h = absurd (let z : None ≡ Some m = h in cc)
  confirm_by dir child target (Some e) m is h = (e, is, sym (same_Some (message.Confirm dir e) m h))

  leave_by : (file : FileId) (peer peer_birth : ℕ) (o : Option Attributes) (m : Message) → own_at a.names file ≡ o → leave_message a file peer_birth o ≡ Some m
      → IsAskedBy a (intent.Leave file peer peer_birth) m
  leave_by file peer peer_birth None m is h = absurd (let z : None ≡ Some m = h in cc)
  leave_by file peer peer_birth (Some own) m is h = (
    own,
    is,
    sym (same_Some (message.Leave (record { file = file; sender = birth_of a file; receiver = peer_birth }) own.place.stamp) m h),
  )

  asked_by : (i : Intent) (m : Message) → request a i ≡ Some m → IsAskedBy a i m
  asked_by (intent.Bye file birth peer peer_birth) m h = sym (same_Some (bye_message file birth peer_birth) m h)
  asked_by (intent.Seek file target) m h = sym (same_Some (message.Seek file (birth_of a file)) m h)
  asked_by (intent.Fill file birth target) m h = sym (same_Some (message.Fetch file birth) m h)
  asked_by (intent.Patch dir entry target) m h = sym (same_Some (message.Tell dir entry) m h)
  asked_by (intent.Confirm dir child target) m h = confirm_by dir child target (cell_at a.names dir child) m refl h
  asked_by (intent.Leave file peer peer_birth) m h = leave_by file peer peer_birth (own_at a.names file) m refl h

  one_asks : (i : Intent) (t : Bool) → HasRequest a i
      → AllZip (IsRequest a) (cond (not t) (i ∷ []) []) (cond t [] (asked_of a (target_of i) (request a i)))
  one_asks i true h = tt
  one_asks i false h =
      subst (λ (o : Option Message). AllZip (IsRequest a) (i ∷ []) (asked_of a (target_of i) o)) (sym h.1)
      (record { asked = h.0; by = asked_by i h.0 h.1; whole = refl }, tt)

  all_ask : (is : List Intent) → All (HasRequest a) is → AllZip (IsRequest a) (filter (λ i. not (target_of i == 0)) is) (flat_map (asks a) is)
  all_ask [] h = tt
  all_ask (i ∷ is) h =
      zip_head (IsRequest a) i (filter (λ j. not (target_of j == 0)) is) (asks a i) (flat_map (asks a) is) (not (target_of i == 0))
      (one_asks i (target_of i == 0) (All-head (HasRequest a) i is h)) (all_ask is (All-tail (HasRequest a) i is h))

  pub requests_sent : All (HasRequest a) a.intents → AllZip (IsRequest a) (asking a) (flat_map (asks a) a.intents)
  requests_sent h = all_ask a.intents h
