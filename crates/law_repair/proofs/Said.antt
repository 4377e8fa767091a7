-- Who is said to be full had acknowledged all, and whoever says it was full.
use Rattle.std.proofs.Common.{ℕ, ◌≡◌, Bool, true, false, get_or, List, Option, None, Some, All, refl, sym, ap, subst, ◌∙◌}
use Rattle.std.proofs.lemmas.Bool.{false≢true}
use Rattle.std.proofs.lemmas.List.Elements.{All-contains, All-nil}
use Rattle.pg_run.specs.pg_base.declared.id.FileId.{FileId}
use Rattle.pg_run.specs.pg_edges.declared.key.Key.{Key}
use Rattle.pg_run.specs.pg_edges.Keys.{tag_in}
use Rattle.pg_run.specs.pg_entries.declared.cell.Cell.{Cell}
use Rattle.pg_run.specs.pg_entries.declared.entry.Entry.{Entry}
use Rattle.pg_run.specs.pg_intent.declared.intent.Intent.{Intent}
use Rattle.pg_run.specs.pg_intent.declared.key.IntentKey.{IntentKey}
use Rattle.pg_run.specs.pg_intent.Intents.{intent_at}
use Rattle.pg_run.specs.pg_msg.declared.message.Ends.{Ends}
use Rattle.pg_run.specs.pg_msg.declared.message.Granted.{Granted}
use Rattle.pg_run.specs.pg_msg.declared.message.Message.{Message}
use Rattle.pg_run.specs.pg_msg.declared.message.Message.TheVariants as message
use Rattle.pg_run.specs.pg_msg.declared.message.Packet.{Packet}
use Rattle.pg_run.specs.pg_msg.declared.message.Sent.{Sent}
use Rattle.pg_run.specs.pg_msg.declared.work.Work.{Work}
use Rattle.pg_run.specs.pg_msg.Work.{new_work}
use Rattle.pg_run.proofs.pg_calls.Walked.{full_held}
use Rattle.pg_run.specs.pg_store.declared.store.Store.{Store}
use Rattle.pg_run.specs.pg_store.Links.{is_clean, is_new_link, link}
use Rattle.pg_run.specs.pg_store.Store.{is_full}
use Rattle.pg_run.specs.pg_pieces.Accepting.{with_link}
use Rattle.pg_run.specs.pg_intentions.Intending.{pieces}
use Rattle.pg_run.specs.pg_intentions.Requests.{asks}
use Rattle.pg_run.specs.pg_server.declared.input.Input.{Input}
use Rattle.pg_run.specs.pg_server.declared.input.Input.TheVariants as input
use Rattle.pg_run.specs.pg_server.Local.{effect}
use Rattle.law_full.proofs.Clean.{IsAcknowledged, clean_before}
use Rattle.law_full.proofs.Sends.{MayReply, effect_sends}
use Rattle.law_full.proofs.Told.{all_cells, asks_are}
use Rattle.law_full.proofs.Works.{is_plain}
use Rattle.pg_run.specs.Run.{run}
use Rattle.law_repair.specs.Facts.{FullIsSaid, IsCleanEdge}

-- ---- messages of other kinds say nothing

no_full : (m : Message) (ends : Ends) → is_plain m ≡ true → m ≡ message.Full ends → ⊥
no_full m ends plain same = false≢true (sym (ap is_plain same) ∙ plain)

cell_no_full : (p q : Ends) (tag : ℕ) (c : Cell) → message.Cell p tag c ≡ message.Full q → ⊥
cell_no_full p q tag c h = cc

grant_no_full : (p q : Ends) (g : Granted) → message.Grant p g ≡ message.Full q → ⊥
grant_no_full p q g h = cc

confirm_no_full : (d : FileId) (e : Entry) (q : Ends) → message.Confirm d e ≡ message.Full q → ⊥
confirm_no_full d e q h = cc

same_ends : (p q : Ends) → message.Full p ≡ message.Full q → p ≡ q
same_ends p q h = cc

linked_from : (t : Bool) (work : Work) (f : FileId) (peer : ℕ) → (with_link t work f peer).from ≡ work.from
linked_from true work f peer = refl
linked_from false work f peer = refl

clean_edge : (a : Store) (f : FileId) (peer birth : ℕ) → IsAcknowledged a f peer birth → IsCleanEdge a f peer birth
clean_edge a f peer birth k = record {
  replica = k.replica;
  edge = k.edge;
  is = k.is;
  among = k.among;
  peer_is = k.peer_is;
  birth_is = k.birth_is;
  none = λ q. ap (λ (ks : List (Key × ℕ)). tag_in ks q) k.none;
}

clean_at : (a : Store) (f g : FileId) (to u b c : ℕ) → f ≡ g → to ≡ u → b ≡ c → IsCleanEdge a f to b → IsCleanEdge a g u c
clean_at a f g to u b c of_file of_peer of_birth h =
    let P : FileId → Type 0 = λ x. IsCleanEdge a x to b in
    let Q : ℕ → Type 0 = λ x. IsCleanEdge a g x b in
    subst (IsCleanEdge a g u) of_birth (subst Q of_peer (subst P of_file h))

module _ (a : Store) (asked : Input) where
  abbrev Says : Sent → Type 0
  Says m = (ends : Ends) → m.packet.message ≡ message.Full ends
      → (is_full a ends.file ≡ true) × IsCleanEdge a ends.file m.to ends.receiver

  abbrev End : Store
  End = (effect a asked).store

  replies : (packet : Packet) → asked ≡ input.Arrival packet → MayReply Says a (new_work 0 packet.from) packet.message
  replies packet is = record {
    granted = λ b to p own x ends same. absurd (grant_no_full p ends _ same);
    full = λ file birth fetched holds clean ends same.
        (let work = new_work 0 packet.from in
        let from = linked_from (is_new_link a file packet.from birth) work file packet.from in
        let at : IsAcknowledged a file packet.from birth =
        clean_before a file packet.from birth (full_held a.names file holds) (subst (λ (i : ℕ). is_clean (link a file packet.from birth) file i birth ≡ true) from clean) in
        let p = same_ends _ ends same in (
          ap (λ (z : Ends). is_full a z.file) (sym p) ∙ holds,
          clean_at a file ends.file packet.from _ birth ends.receiver (ap (λ (z : Ends). z.file) p) (sym from) (ap (λ (z : Ends). z.receiver) p) (clean_edge a file packet.from birth at),
        ));
  }

  plain_says : (x : Sent) → is_plain x.packet.message ≡ true → Says x
  plain_says x plain ends same = absurd (no_full x.packet.message ends plain same)

  asks_none : (b : Store) (i : Intent) → All Says (asks b i)
  asks_none b i = asks_are Says plain_says b i (λ dir child target e is there to ends same. absurd (confirm_no_full dir e ends same))

  asked_none : (q : IntentKey) (o : Option Intent) → All Says (pieces (asks End) o)
  asked_none q None = All-nil Says
  asked_none q (Some i) = asks_none End i

  sent_says : All Says (effect a asked).out.sent
  sent_says = effect_sends Says a asked (record {
    plain = plain_says;
    replies = replies;
    cells_before = λ wanted. all_cells Says plain_says a (λ x e c tag ends same. absurd (cell_no_full x ends tag c same)) wanted;
    cells_behind = λ wanted. all_cells Says plain_says End (λ x e c tag ends same. absurd (cell_no_full x ends tag c same)) wanted;
    asked_before = λ i d lt. asks_none a (get_or a.intents i d);
    asked_behind = λ q. asked_none q (intent_at End.intents q);
  })

-- FULL IS SAID
pub full_is_said : (n : ℕ) → FullIsSaid n
full_is_said n events event s asked takes m ends there says =
    let a = (run n events).stores s in
    All-contains (Says a asked) (effect a asked).out.sent m (sent_says a asked) there ends says
