-- What is said of ids, names, parents and flags: the house rules keep it, and it stays so as ids
-- are given out.
use Rattle.std.proofs.Common.{ℕ, ◌≡◌, ◌≤◌, ◌≢◌, false, List, All, get_or, refl, sym, ap, subst, ◌∙◌, inl, inr, ◌⊎◌, arith}
use Rattle.std.proofs.lemmas.Bool.{false≢true}
use Rattle.law_frame.specs.pg_run.pg_base.declared.id.FileId.{FileId}
use Rattle.law_frame.specs.pg_run.pg_base.Id.{is_same_file}
use Rattle.law_frame.specs.pg_run.pg_entries.declared.cell.Cell.{Cell}
use Rattle.law_frame.specs.pg_run.pg_entries.declared.cell.Cell.TheVariants as cell
use Rattle.law_frame.specs.pg_run.pg_entries.declared.entry.Entry.{Entry}
use Rattle.law_frame.specs.pg_run.pg_intent.declared.intent.Intent.{Intent}
use Rattle.law_frame.specs.pg_run.pg_intent.declared.intent.Intent.TheVariants as intent
use Rattle.law_frame.specs.pg_run.pg_msg.declared.message.Message.{Message}
use Rattle.law_frame.specs.pg_run.pg_msg.declared.message.Message.TheVariants as message
use Rattle.law_frame.specs.pg_run.pg_msg.declared.message.Sent.{Sent}
use Rattle.law_frame.specs.pg_run.pg_names.declared.attributes.Attributes.{Attributes}
use Rattle.law_frame.specs.pg_run.pg_names.Names.{is_dir}
use Rattle.law_frame.specs.pg_run.pg_register.declared.flag.Flag.{Flag}
use Rattle.law_frame.specs.pg_run.pg_register.declared.place.Place.{Place}
use Rattle.law_frame.specs.pg_run.pg_register.Place.{root, tilde_name}
use Rattle.law_frame.specs.pg_run.pg_store.declared.store.Store.{Store}
use Rattle.law_order.specs.Named.{IsMade, IsOfServer, IsWell, naming}
use Rattle.law_order.specs.Saying.{IsClosed, IsIntended, IsSaidCell, IsSaidOfCell, IsSaidOfMessage, IsSaidOwn, IsSaidTold}
use Rattle.law_order.proofs.Ended.{IsAtRest}
use Rattle.law_order.proofs.Sent.{AreSaidOf}
use Rattle.law_order.proofs.Taking.{IsMember}

module _ (n : ℕ) (files : ℕ → ℕ) where
  again_well : (f : FileId) (place other : Place) → is_same_file f root ≡ false → IsWell n files f place → other.parent ≡ place.parent → other.name ≡ place.name → IsWell n files f other
  again_well f place other apart k parent name =
      let P : List ℕ → Type 0 = λ z. (All (λ byte. byte ≢ 126) z) ⊎ (z ≡ tilde_name f) in
      record {
        parent = subst (IsMade n files) (sym parent) k.parent;
        dir = ap is_dir parent ∙ k.dir;
        first = λ e. absurd (false≢true (sym apart ∙ e));
        name = λ e. subst P (sym name) (k.name e);
      }

  -- THE HOUSE RULES KEEP IT
  pub naming_closed : IsClosed (naming n files)
  naming_closed = record {
    blank = λ f apart thing. record { parent = inl refl; dir = refl; first = λ e. absurd (false≢true (sym apart ∙ e)); name = λ e. inr refl };
    again = again_well;
    below = λ d place apart parent name. record {
      parent = inl parent;
      dir = ap is_dir parent;
      first = λ e. absurd (false≢true (sym apart ∙ e));
      name = λ e. inr name;
    };
    given = λ f place apart parent dir name. record { parent = parent; dir = dir; first = λ e. absurd (false≢true (sym apart ∙ e)); name = λ e. inl name };
    parent = λ f place k. (k.parent, k.dir);
    first = λ place k. ap (λ (q : Place). q.live) (k.first refl);
    child = λ f apart. apart;
    other = λ f apart. apart;
  }

  own_flag : (s : ℕ) → 1 ≤ s → s ≤ n → (flag : Flag) → flag.server ≡ s → IsOfServer n flag
  own_flag s least most flag same = record {
    least = subst (λ (m : ℕ). 1 ≤ m) (sym same) least;
    most = subst (λ (m : ℕ). m ≤ n) (sym same) most;
  }

  -- THE SERVERS OF THE RUN
  pub member : (s : ℕ) → 1 ≤ s → s ≤ n → IsMember (naming n files) n s
  member s least most = record {
    flags = own_flag s least most;
    named = (least, most);
    others = λ t in_run apart. record { least = in_run.0; most = in_run.1; apart = apart };
  }

-- ---- as ids are given out

up_more : (a b c : ℕ) → a ≤ b → b ≤ c → a ≤ c
up_more a b c h k = omega arith

module _ (n : ℕ) (f g : ℕ → ℕ) (more : (k : ℕ) → f k ≤ g k) where
  pub made_later : (file : FileId) → IsMade n f file → IsMade n g file
  made_later file (inl e) = inl e
  made_later file (inr b) = inr (record { least = b.least; most = b.most; number = b.number; given = up_more file.number (f file.server) (g file.server) b.given (more file.server) })

  well_later : (file : FileId) (place : Place) → IsWell n f file place → IsWell n g file place
  well_later file place k = record { parent = made_later place.parent k.parent; dir = k.dir; first = k.first; name = k.name }

  own_later : (file : FileId) (own : Attributes) → IsSaidOwn (naming n f) file own → IsSaidOwn (naming n g) file own
  own_later file own k = record { thing = made_later file k.thing; place = well_later file own.place k.place; flags = k.flags; order = k.order }

  child_later : (file : FileId) (e : Entry) → IsSaidCell (naming n f) file e → IsSaidCell (naming n g) file e
  child_later file e k = record { thing = made_later file k.thing; child = k.child; place = well_later file e.place k.place; flags = k.flags; order = k.order }

  told_later : (dir : FileId) (e : Entry) → IsSaidTold (naming n f) dir e → IsSaidTold (naming n g) dir e
  told_later dir e k = record { dir = k.dir; of = made_later dir k.of; cell = child_later e.child e k.cell }

  intended_later : (i : Intent) → IsIntended (naming n f) i → IsIntended (naming n g) i
  intended_later (intent.Bye file birth peer peer_birth) k = made_later file k
  intended_later (intent.Seek file target) k = made_later file k
  intended_later (intent.Fill file birth target) k = k
  intended_later (intent.Patch dir entry target) k = told_later dir entry k
  intended_later (intent.Confirm dir child target) k = k
  intended_later (intent.Leave file peer peer_birth) k = (made_later file k.0, k.1)

  pub rest_later : (s : ℕ) (a : Store) → IsAtRest (naming n f) n s a → IsAtRest (naming n g) n s a
  rest_later s a k =
      let was = k.sound.named in
      record {
        sound = record {
          whole = k.sound.whole;
          births = k.sound.births;
          keys = k.sound.keys;
          named = record {
            tidy = was.tidy;
            said = record {
              own = λ file own h. own_later file own (was.said.own file own h);
              cells = λ dir child e h. child_later child e (was.said.cells dir child e h);
            };
            intents = λ i d lt. intended_later (get_or a.intents i d) (was.intents i d lt);
          };
        };
        fills = k.fills;
        settled = k.settled;
      }

  cell_later : (file : FileId) (x : Cell) → IsSaidOfCell (naming n f) file x → IsSaidOfCell (naming n g) file x
  cell_later file (cell.Place place) k = well_later file place k
  cell_later file (cell.Flag flag) k = k
  cell_later file (cell.Entry e sure) k = told_later file e k
  cell_later file (cell.Version v) k = k

  pub message_later : (m : Message) → IsSaidOfMessage (naming n f) m → IsSaidOfMessage (naming n g) m
  message_later (message.Cell ends tag x) k = cell_later ends.file x k
  message_later (message.Grant ends granted) k = record {
    thing = made_later ends.file k.thing;
    place = well_later ends.file granted.place k.place;
    flags = k.flags;
    order = k.order;
  }
  message_later (message.Confirm dir entry) k = told_later dir entry k
  message_later (message.PlaceIs dir entry) k = told_later dir entry k
  message_later (message.Tell dir entry) k = told_later dir entry k
  message_later m k = k

  pub sent_later : (ms : List Sent) → AreSaidOf (naming n f) ms → AreSaidOf (naming n g) ms
  sent_later ms all i d lt = message_later (get_or ms i d).packet.message (all i d lt)
