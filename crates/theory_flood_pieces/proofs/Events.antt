-- What a server does in an event, and what it sends, keeps the rule of the edges.
use Rattle.std.proofs.Common.{ℕ, ◌≡◌, ◌==◌, false, cond, List, [], ◌∷◌, ◌++◌, Some, option_map, refl, sym, ap, subst}
use Rattle.std.specs.Prelude.{Contains}
use Rattle.std.proofs.lemmas.List.Elements.{All-append}
use Rattle.pg_base.specs.declared.head.Head.{Head}
use Rattle.pg_base.specs.declared.id.FileId.{FileId}
use Rattle.pg_edges.specs.declared.key.Key.{Key}
use Rattle.pg_edges.specs.declared.key.Key.TheVariants as key
use Rattle.theory_flood.specs.Promises.{Saying}
use Rattle.theory_flood.specs.Promises.Saying.{CellFor, Other}
use Rattle.theory_flood.specs.Protocol.{Covers}
use Rattle.theory_flood.specs.Server.{Holds, Slot, slot}
use Rattle.theory_flood.proofs.Sends.{answer_may, held_covers, late_answer_may, none_sent, one_sent}
use Rattle.theory_flood.proofs.Steps.{AllMay, HasSoundTags, May, Rule, Steps, Steps-refl, Steps-trans}
use Rattle.pg_entries.specs.declared.cell.Cell.{Cell}
use Rattle.pg_entries.specs.declared.cell.Cell.TheVariants as cell
use Rattle.pg_cells.specs.pg_msg.declared.message.Ends.{Ends}
use Rattle.pg_cells.specs.pg_msg.declared.message.Message.TheVariants as message
use Rattle.pg_cells.specs.pg_msg.declared.message.Sent.{Sent}
use Rattle.pg_cells.specs.pg_msg.Ends.{back}
use Rattle.pg_cells.specs.pg_msg.Sent.{cell_key}
use Rattle.pg_cells.specs.pg_replica.declared.replica.Replica.{Replica}
use Rattle.pg_cells.specs.pg_store.declared.store.Store.{Store}
use Rattle.pg_cells.specs.pg_store.Cells.{cell_at}
use Rattle.pg_cells.specs.pg_store.Seen.{server_of}
use Rattle.pg_cells.specs.pg_store.Store.{replica_at}
use Rattle.pg_cells.specs.pg_pieces.Posting.{sent_to}
use Rattle.theory_flood_pieces.specs.Seen.{Along, Hearing, cells_in, head_cell, plain, says, saying, seen}
use Rattle.theory_flood_pieces.specs.UpTo.{IsUpTo}
use Rattle.theory_flood_pieces.specs.Whole.{IsWhole}
use Rattle.theory_flood_pieces.proofs.Stores.{plain_at}

-- ---- an event under way

-- Server s of n came from a to b so far, having heard this. What it sends so far it may send now,
-- and whatever it does after that
pub record IsUnderWay (n s : ℕ) (a : Store) (heard : Hearing) (b : Store) (sent : List Sent) : Type 0 where
  pub steps : Steps (cells_in heard.along) a b
  pub whole : IsWhole n s b
  pub sends : (c : Store) → Steps (cells_in heard.along) b c → AllMay (cells_in heard.along) s a c heard.said sent

-- how it ends: by the rule, with sound tags
pub record IsGood (n s : ℕ) (a : Store) (heard : Hearing) (b : Store) (sent : List Sent) : Type 0 where
  pub rule : Rule (cells_in heard.along) s a b heard.said sent
  pub tags : HasSoundTags (cells_in heard.along) b
  pub whole : IsWhole n s b

module _ (n s : ℕ) (a : Store) (heard : Hearing) where
  -- nothing is done yet
  pub begun : IsWhole n s a → IsUnderWay n s a heard a []
  begun k = record { steps = Steps-refl (cells_in heard.along) a; whole = k; sends = λ c f. none_sent (cells_in heard.along) s a c heard.said }

  module _ (b : Store) (sent : List Sent) (k : IsUnderWay n s a heard b sent) where
    -- it goes on, by whichever piece
    pub goes_on : (c : Store) → Steps (cells_in heard.along) b c → IsWhole n s c → IsUnderWay n s a heard c sent
    goes_on c f whole = record {
      steps = Steps-trans (cells_in heard.along) k.steps f;
      whole = whole;
      sends = λ d g. k.sends d (Steps-trans (cells_in heard.along) f g);
    }

    -- more is sent, which may be sent whatever comes after
    pub sends_on : (more : List Sent) → ((c : Store) → Steps (cells_in heard.along) b c → AllMay (cells_in heard.along) s a c heard.said more) → IsUnderWay n s a heard b (sent ++ more)
    sends_on more may = record {
      steps = k.steps;
      whole = k.whole;
      sends = λ c f. All-append (λ m. May (cells_in heard.along) s a c heard.said (says m)) sent more (k.sends c f) (may c f);
    }

-- ---- a cell is answered

-- what holds of a cell holds of it as the edges see it
plain_upto : (c d : Cell) → IsUpTo c d → IsUpTo (plain c) (plain d)
plain_upto (cell.Place a) (cell.Place b) h = h
plain_upto (cell.Flag a) (cell.Flag b) h = h
plain_upto (cell.Entry a s) (cell.Entry b t) h = h
plain_upto (cell.Version a) (cell.Version b) h = h
plain_upto (cell.Place a) (cell.Flag b) h = absurd h
plain_upto (cell.Place a) (cell.Entry b t) h = absurd h
plain_upto (cell.Place a) (cell.Version b) h = absurd h
plain_upto (cell.Flag a) (cell.Place b) h = absurd h
plain_upto (cell.Flag a) (cell.Entry b t) h = absurd h
plain_upto (cell.Flag a) (cell.Version b) h = absurd h
plain_upto (cell.Entry a s) (cell.Place b) h = absurd h
plain_upto (cell.Entry a s) (cell.Flag b) h = absurd h
plain_upto (cell.Entry a s) (cell.Version b) h = absurd h
plain_upto (cell.Version a) (cell.Place b) h = absurd h
plain_upto (cell.Version a) (cell.Flag b) h = absurd h
plain_upto (cell.Version a) (cell.Entry b t) h = absurd h

pub holds_plain : (b : Store) (file : FileId) (c : Cell) → Holds IsUpTo (cell_at b file) c → Holds IsUpTo (plain_at b file) (plain c)
holds_plain b file c h = record { key = h.key; cell = plain h.cell; is = ap (option_map plain) h.is; upto = plain_upto c h.cell h.upto }

-- A server s took a cell into the replica with the birth that the message names, so that it holds
-- it: it may answer, from then on
module _ (along : Along) (s : ℕ) (a b : Store) (from : ℕ) (ends : Ends) (tag : ℕ) (c : Cell) where
  abbrev Heard : Saying Slot Cell
  Heard = saying from s (message.Cell ends tag c)

  abbrev At : Slot
  At = slot ends.file ends.sender s ends.receiver (cell_key c)

  pub answer_sent : server_of b ≡ s → (x : Replica) → replica_at b ends.file ≡ Some x → x.birth ≡ ends.receiver → Holds IsUpTo (cell_at b ends.file) c
      → (d : Store) → Steps (cells_in along) b d → AllMay (cells_in along) s a d Heard (sent_to b from (message.Ack (back ends) (cell_key c) tag) ∷ [])
  answer_sent server x here birth holds d f =
      let m = sent_to b from (message.Ack (back ends) (cell_key c) tag) in
      let covers : Covers (cells_in along) d At (plain c) =
      f.moves.covers At (plain c) (held_covers (cells_in along) b At (plain c) (seen b ends.file x) (ap (option_map (seen b ends.file)) here) birth (holds_plain b ends.file c holds) tt) in
      let P : ℕ → Type 0 = λ z. May (cells_in along) s a d Heard (saying z from (message.Ack (back ends) (cell_key c) tag)) in
      one_sent (cells_in along) s a d Heard m [] (subst P (sym server) (answer_may (cells_in along) s a d from At tag (plain c) refl covers)) (none_sent (cells_in along) s a d Heard)

-- ---- harbingers are answered

-- at once, where it holds the version or a later one
module _ (along : Along) (s : ℕ) (a b : Store) (from : ℕ) (ends : Ends) (tag : ℕ) (head : Head) where
  pub harbinger_answer_sent : (tag == 0) ≡ false → server_of b ≡ s → (x : Replica) → replica_at b ends.file ≡ Some x
      → x.birth ≡ ends.receiver → Holds IsUpTo (cell_at b ends.file) (head_cell head)
      → (d : Store) → Steps (cells_in along) b d
      → AllMay (cells_in along) s a d (saying from s (message.Harbinger ends tag head)) (sent_to b from (message.Ack (back ends) (key.Version head.stamp) tag) ∷ [])
  harbinger_answer_sent tagged server x here birth holds d f =
      let sent = sent_to b from (message.Ack (back ends) (key.Version head.stamp) tag) ∷ [] in
      let told = saying from s (message.Cell ends tag (head_cell head)) in
      subst (λ (z : Saying Slot Cell). AllMay (cells_in along) s a d z sent) (sym (ap (λ t. cond t Other told) tagged))
      (answer_sent along s a b from ends tag (head_cell head) server x here birth holds d f)

-- or when the version comes

-- whichever slot the harbinger named, and whichever the answer names
module _ (along : Along) (s : ℕ) (a b : Store) (heard : Saying Slot Cell) (from : ℕ) (told : Slot) (tag : ℕ) (head : Head) where
  pub late_sent : Contains along.late (CellFor from told tag (head_cell head)) → told.peer ≡ s
      → Covers (cells_in along) b told (head_cell head) → (ends : Ends) (k : Key)
      → (d : Store) → Steps (cells_in along) b d → AllMay (cells_in along) s a d heard (sent_to b from (message.Ack (back ends) k tag) ∷ [])
  late_sent noted here covers ends k d f =
      let m = sent_to b from (message.Ack (back ends) k tag) in
      let at : Slot = slot ends.file ends.sender (server_of b) ends.receiver k in
      one_sent (cells_in along) s a d heard m []
      (late_answer_may (cells_in along) s a d heard from told at tag (head_cell head) here noted (f.moves.covers told (head_cell head) covers))
      (none_sent (cells_in along) s a d heard)
