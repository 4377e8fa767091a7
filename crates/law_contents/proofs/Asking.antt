-- What servers ask and answer is no content: only cells and grants carry any.
use Rattle.std.proofs.Common.{ℕ, ◌==◌, List, [], ◌∷◌, get_or, Option, None, Some, All}
use Rattle.std.specs.List.{flat_map}
use Rattle.std.proofs.lemmas.List.Elements.{All-append, All-cons, All-nil}
use Rattle.pg_run.specs.pg_base.declared.id.FileId.{FileId}
use Rattle.pg_run.specs.pg_base.declared.policy.Policy.{Policy}
use Rattle.pg_run.specs.pg_entries.declared.entry.Entry.{Entry}
use Rattle.pg_run.specs.pg_intent.declared.intent.Intent.{Intent}
use Rattle.pg_run.specs.pg_intent.declared.intent.Intent.TheVariants as intent
use Rattle.pg_run.specs.pg_intent.Intent.{target_of}
use Rattle.pg_run.specs.pg_intent.Intents.{intent_at}
use Rattle.pg_run.specs.pg_msg.declared.message.Message.{Message}
use Rattle.pg_run.specs.pg_msg.declared.message.Sent.{Sent}
use Rattle.pg_run.specs.pg_msg.declared.work.Work.{Work}
use Rattle.pg_run.specs.pg_msg.Work.{with_tail}
use Rattle.pg_run.specs.pg_names.declared.attributes.Attributes.{Attributes}
use Rattle.pg_run.specs.pg_names.Names.{cell_at, own_at}
use Rattle.pg_run.specs.Journal.{Born}
use Rattle.pg_run.specs.pg_store.declared.store.Store.{Store}
use Rattle.pg_run.specs.pg_pieces.Posting.{post, sent_to}
use Rattle.pg_run.specs.pg_intentions.Intending.{pieces}
use Rattle.pg_run.specs.pg_intentions.Requests.{ask_all, ask_begun, asked_of, asks, asks_by, confirm_message, leave_message, request}
use Rattle.pg_run.proofs.theory_flood_pieces.Choices.{All-flat_map, chosen}
use Rattle.law_contents.proofs.Carrying.{Carries}
use Rattle.law_contents.proofs.Sending.{AllCarry, CarriesSent}

module _ (us : List Born) (p : FileId → Policy) (N : FileId → Type 0) where
  abbrev IsSent : Sent → Type 0
  IsSent m = CarriesSent us p N m

  -- one message more
  pub post_carry : (store : Store) (to : ℕ) (m : Message) (work : Work) → Carries us p N m
      → AllCarry us p N work.sent → AllCarry us p N (post store to m work).sent
  post_carry store to m work h sent =
      All-append IsSent work.sent (sent_to store to m ∷ []) sent
      (All-cons IsSent (sent_to store to m) [] h (All-nil IsSent))

  -- and one that goes last
  pub last_carry : (store : Store) (to : ℕ) (m : Message) (work : Work) → Carries us p N m
      → AllCarry us p N work.tail → AllCarry us p N (with_tail work (sent_to store to m)).tail
  last_carry store to m work h tail =
      All-append IsSent work.tail (sent_to store to m ∷ []) tail
      (All-cons IsSent (sent_to store to m) [] h (All-nil IsSent))

  module _ (store : Store) where
    one_asked : (to : ℕ) (m : Message) → Carries us p N m
        → All IsSent (asked_of store to (Some m))
    one_asked to m h = All-cons IsSent (sent_to store to m) [] h (All-nil IsSent)

    confirm_asked : (to : ℕ) (dir : FileId) (o : Option Entry)
        → All IsSent (asked_of store to (confirm_message dir o))
    confirm_asked to dir None = All-nil IsSent
    confirm_asked to dir (Some entry) =
        All-cons IsSent (sent_to store to _) [] tt (All-nil IsSent)

    leave_asked : (to : ℕ) (file : FileId) (birth : ℕ) (o : Option Attributes)
        → All IsSent (asked_of store to (leave_message store file birth o))
    leave_asked to file birth None = All-nil IsSent
    leave_asked to file birth (Some own) =
        All-cons IsSent (sent_to store to _) [] tt (All-nil IsSent)

    request_carry : (to : ℕ) (i : Intent) → All IsSent (asked_of store to (request store i))
    request_carry to (intent.Bye file birth peer peer_birth) = one_asked to _ tt
    request_carry to (intent.Seek file target) = one_asked to _ tt
    request_carry to (intent.Fill file birth target) = one_asked to _ tt
    request_carry to (intent.Patch dir entry target) = one_asked to _ tt
    request_carry to (intent.Confirm dir child target) =
        confirm_asked to dir (cell_at store.names dir child)
    request_carry to (intent.Leave file peer peer_birth) =
        leave_asked to file peer_birth (own_at store.names file)

    asks_carry : (i : Intent) → All IsSent (asks store i)
    asks_carry i =
        chosen (All IsSent) (target_of i == 0) [] (asked_of store (target_of i) (request store i))
        (All-nil IsSent) (request_carry (target_of i) i)

    piece_carry : (o : Option Intent) → All IsSent (pieces (asks store) o)
    piece_carry None = All-nil IsSent
    piece_carry (Some i) = asks_carry i

    -- the messages of intentions
    pub begun_carry : (work : Work) → AllCarry us p N work.sent
        → AllCarry us p N (ask_begun store work).sent
    begun_carry work h =
        All-append IsSent work.sent (flat_map (asks_by store) work.begun) h
        (All-flat_map IsSent (asks_by store) work.begun
        (λ i d lt. piece_carry (intent_at store.intents (get_or work.begun i d))))

    pub all_asked_carry : (work : Work) → AllCarry us p N work.sent
        → AllCarry us p N (ask_all store work).sent
    all_asked_carry work h =
        All-append IsSent work.sent (flat_map (asks store) store.intents) h
        (All-flat_map IsSent (asks store) store.intents
        (λ i d lt. asks_carry (get_or store.intents i d)))
