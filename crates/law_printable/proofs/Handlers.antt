-- What the pieces of a message keep: places that suit, and answers that do.
use Rattle.std.proofs.Common.{ℕ, ◌≡◌, ◌&&◌, not, true, false, refl, inr}
use Rattle.std.proofs.lemmas.List.Elements.{All-push}
use Rattle.law_frame.specs.pg_run.pg_base.declared.id.FileId.{FileId}
use Rattle.law_frame.specs.pg_run.pg_intent.declared.key.IntentKey.{IntentKey}
use Rattle.law_frame.specs.pg_run.pg_intent.Intents.{aimed}
use Rattle.law_frame.specs.pg_run.pg_msg.declared.message.Message.{Message}
use Rattle.law_frame.specs.pg_run.pg_msg.declared.update.Update.TheVariants as update
use Rattle.law_frame.specs.pg_run.pg_msg.declared.work.Work.{Work}
use Rattle.law_frame.specs.pg_run.pg_msg.Work.{with_made}
use Rattle.law_frame.specs.pg_run.pg_names.Names as names
use Rattle.law_frame.specs.pg_run.pg_names.Names.{is_dir, own_or_blank, NamesValue, let_go as let_go_names}
use Rattle.law_frame.specs.pg_run.pg_register.declared.flag.Flag.{Flag}
use Rattle.law_frame.specs.pg_run.pg_register.declared.place.Place.{Place}
use Rattle.law_frame.specs.pg_run.pg_register.Place.{blank_place}
use Rattle.law_frame.specs.pg_run.pg_store.declared.store.Store.{Store}
use Rattle.law_frame.specs.pg_run.pg_store.Beginning.{with_intents, let_go}
use Rattle.law_frame.specs.pg_run.pg_store.Store.{with_names}
use Rattle.law_frame.specs.pg_run.pg_house.Work.{is_root}
use Rattle.law_frame.proofs.pg_run.pg_house.Truths.{chosen}
use Rattle.law_frame.specs.pg_run.pg_pieces.Making.{make_flag, own_next, raise_flag}
use Rattle.law_frame.specs.pg_run.pg_pieces.Posting.{reply}
use Rattle.pg_trace.specs.Suited.{SuitsUpdate}
use Rattle.law_frame.proofs.pg_run.pg_names.Gone.{gone_stayed}
use Rattle.law_frame.specs.pg_run.pg_pieces.Done.{idle}
use Rattle.law_frame.specs.pg_run.pg_repair.Confirming.{own_entry}
use Rattle.law_frame.specs.pg_run.pg_repair.Fetching.{place_to_grant}
use Rattle.law_printable.proofs.Intents.{aimed_suit}
use Rattle.law_printable.proofs.Messages.{SuitsPost}
use Rattle.law_printable.proofs.Places.{IsOwnPlace, NamesSuit, SuitsEntry, blank_suits, fill_suits, thing_place}
use Rattle.law_printable.proofs.Stores.{DoneSuits, StoreSuits, flag_noted, intended_suits, named_suits, posted}

-- a store of which only what is neither names nor intentions is another
abbrev pub Suited : Store → Work → Type 0
Suited s work = DoneSuits (idle s work)

pub replied : (s : Store) (m : Message) (work : Work) → SuitsPost m → Suited s work → Suited s (reply s m work)
replied s m work k h = record { store = h.store; work = posted s work.from m work k h.work }

pub granted_place : (f : FileId) (p : Place) → IsOwnPlace f p → IsOwnPlace f (place_to_grant f p)
granted_place f p k =
    chosen (IsOwnPlace f) (is_dir f && not p.live) (blank_place f) p (record { parent = refl; name = inr (inr refl) }) k

-- an intention asks another server
pub aimed_store : (s : Store) (k : IntentKey) (to : ℕ) → StoreSuits s → StoreSuits (with_intents s (aimed s.intents k to))
aimed_store s k to h = intended_suits s h (aimed s.intents k to) (aimed_suit s.intents k to h.intents)

pub raised_suits : (s : Store) (f : FileId) (g : Flag) (work : Work) → Suited s work → DoneSuits (make_flag s f g work)
raised_suits s f g work h =
    let made = with_made work (update.Flag f g) in
    flag_noted s made
    (record {
      store = h.store;
      work = record {
        made = All-push SuitsUpdate work.made (update.Flag f g) h.work.made tt;
        sent = h.work.sent;
        left = h.work.left;
        unsure = h.work.unsure;
      };
    }) f g

pub flag_raised : (s : Store) (f : FileId) (work : Work) → Suited s work → DoneSuits (raise_flag s f work)
flag_raised s f work h = raised_suits s f (own_next s f true) work h

pub full_suits : (s : Store) (f : FileId) (work : Work) → Suited s work → Suited (with_names s (names.fill s.names f)) work
full_suits s f work h =
    record { store = named_suits s h.store (names.fill s.names f) (fill_suits s.names f h.store.names); work = h.work }

-- what is known of a thing but the root is an entry for it
pub own_entry_suits : (s : Store) (f : FileId) → StoreSuits s → is_root f ≡ false → SuitsEntry f (own_entry s f)
own_entry_suits s f h other = record {
  child = refl;
  inner = other;
  place = thing_place f (own_or_blank s.names f).place other (blank_suits s.names h.names f);
}

gone_names : (s : NamesValue) (f : FileId) → NamesSuit s → NamesSuit (let_go_names s f)
gone_names s f h q x is = h q x (gone_stayed s f q x is).1

pub gone_suits : (s : Store) (f : FileId) → StoreSuits s → StoreSuits (let_go s f)
gone_suits s f h = record { names = gone_names s.names f h.names; intents = h.intents }
