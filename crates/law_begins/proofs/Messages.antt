-- Each message leaves keys at rest, but a cell of whose place its sender is not sure.
use Rattle.std.proofs.Common.{◌≡◌, ◌&&◌, Bool, true, false, cond, not, refl, sym, ap, ◌∙◌}
use Rattle.std.proofs.lemmas.Bool.{false≢true}
use Rattle.law_frame.specs.pg_run.pg_base.declared.id.FileId.{FileId}
use Rattle.law_frame.specs.pg_run.pg_entries.declared.cell.Cell.TheVariants as cells
use Rattle.law_frame.specs.pg_run.pg_entries.declared.entry.Entry.{Entry}
use Rattle.law_frame.specs.pg_run.pg_intent.declared.key.IntentKey.{IntentKey}
use Rattle.law_frame.specs.pg_run.pg_intent.declared.key.IntentKey.TheVariants as intent_key
use Rattle.law_frame.specs.pg_run.pg_msg.declared.message.Message.{Message}
use Rattle.law_frame.specs.pg_run.pg_msg.declared.message.Message.TheVariants as message
use Rattle.law_frame.specs.pg_run.pg_msg.declared.work.Work.{Work}
use Rattle.law_frame.specs.pg_run.pg_msg.Work.{with_unsure}
use Rattle.law_frame.specs.pg_run.pg_store.declared.store.Store.{Store}
use Rattle.law_frame.specs.pg_run.pg_store.Births.{birth_of}
use Rattle.law_frame.specs.pg_run.pg_store.Store.{entry_news}
use Rattle.law_frame.specs.pg_run.pg_pieces.Done.{Done, idle}
use Rattle.law_frame.specs.pg_run.pg_pieces.Making.{own_next}
use Rattle.law_frame.specs.pg_run.pg_pieces.Taking.{is_place_news, take_entry_cell, take_entry_noted}
use Rattle.law_frame.specs.pg_run.pg_graph.Leaving.{bye_to}
use Rattle.law_frame.specs.pg_run.pg_repair.Granting.{granted_own}
use Rattle.law_frame.specs.pg_run.pg_server.Local.{receive}
use Rattle.law_frame.proofs.Keeps.{Keeps}
use Rattle.law_frame.proofs.Received.{receive_keeps}
use Rattle.law_begins.proofs.Pieces.{IsPlain, Rests, aimed_none, begin_none, begun_rests, ended_none, entry_rests, flag_rests, linked_rests, place_rests, raised_rests, unlink_none, version_rests}

-- a cell of which its sender is not sure
abbrev pub is_doubted : Message → Bool
is_doubted (message.Cell ends tag (cells.Entry e false)) = true
is_doubted _ = false

module _ (k : IntentKey) (plain : IsPlain k) where
  abbrev Quiet : Done → Type 0
  Quiet d = Rests k plain d

  -- an entry of whose place the sender is sure
  sure_rests : (d : Done) (dir : FileId) (e : Entry) → Quiet d → Quiet (take_entry_cell d.store dir e true d.work)
  sure_rests d dir e h = by (is_place_news (entry_news d.store dir e))
    where
      noted : Work
      noted = (take_entry_noted d.store dir e d.work).work

      rested : Quiet (take_entry_noted d.store dir e d.work)
      rested = entry_rests k plain d.store dir e d.work h

      by : (t : Bool) → Quiet (idle (take_entry_noted d.store dir e d.work).store (cond (t && not true) (with_unsure noted dir e.child) noted))
      by true = rested
      by false = rested

  cell_rests : (d : Done) (dir : FileId) (e : Entry) (sure : Bool) → (sure ≡ false → ⊥) → Quiet d → Quiet (take_entry_cell d.store dir e sure d.work)
  cell_rests d dir e true not_doubted h = sure_rests d dir e h
  cell_rests d dir e false not_doubted h = absurd (not_doubted refl)

  module _ (a : Store) (w : Work) (m : Message) (sure : is_doubted m ≡ false) where
    keeps_rest : Keeps a w m Quiet
    keeps_rest = record {
      cell_place = λ d ends tag p is here h. place_rests k plain d.store ends.file p d.work h;
      cell_flag = λ d ends tag g is here h. flag_rests k plain d.store ends.file g d.work h;
      cell_entry = λ d ends tag e t is dir here h. cell_rests d ends.file e t (λ no. (
          let of : Bool → Message = λ u. message.Cell ends tag (cells.Entry e u) in
          false≢true (sym sure ∙ ap is_doubted is ∙ ap (λ (u : Bool). is_doubted (of u)) no))) h;
      version = λ d file v is h. version_rests k plain d.store file v d.work h;
      told_place = λ d dir e is held other h. place_rests k plain d.store e.child e.place d.work h;
      told_flag = λ d dir e g is held among h. flag_rests k plain d.store e.child g d.work h;
      place_is = λ d dir e is held h. entry_rests k plain d.store dir e d.work h;
      tell = λ d dir e is held h. entry_rests k plain d.store dir e d.work h;
      links = λ d file birth is same h. linked_rests k plain d.store file d.work.from birth d.work h;
      meets = λ d ends origin birth hops word is here h. linked_rests k plain d.store ends.file origin birth d.work h;
      unlinks = λ d file birth is same h. (unlink_none k plain d.store file d.work.from birth h.0, h.1);
      acknowledges = λ d ends q tag is same h. h;
      begins = λ ends g is pending h.
          (begin_none k plain a ends.file ends.receiver g.policy (granted_own g) false h.0, h.1);
      fills = λ ends is here filling h. h;
      raises = λ d ends is here few h.
          raised_rests k plain d.store ends.file (own_next d.store ends.file true) d.work h;
      goes = λ ends stamp is may h. h;
      says_bye = λ d ends stamp e is may among h. (
          let birth = birth_of a ends.file in
          begun_rests k plain d.store (bye_to ends.file birth e) d.work (plain.no_bye ends.file birth e.peer) h);
      ends_intent = λ d q is h. (ended_none k plain d.store q h.0, h.1);
      turns_intent = λ d q to is h. (aimed_none k plain d.store q to h.0, h.1);
      asks_granter = λ d ends g is same h.
          (aimed_none k plain d.store (intent_key.Fill ends.file) d.work.from h.0, h.1);
      turns_wish = λ d file to is h. h;
      answers = λ d r of same h. h;
      tells_origin = λ d ends origin birth hops word is here h. h;
      passes_on = λ ends origin birth hops word left rest i e is here at h. h;
      notes = λ d ns h. h;
      keeps = λ d file x h. h;
      tells = λ d ends head e of there h. h;
    }

  -- ANY MESSAGE, but a cell of which its sender is not sure
  pub received : (a : Store) (m : Message) (w : Work) → is_doubted m ≡ false → Quiet (idle a w) → Quiet (receive a m w)
  received a m w sure h = receive_keeps a w Quiet m (keeps_rest a w m sure) h
