-- What stands behind the first effect of an event suits: what the house rules leave, and which
-- intentions begin.
use Rattle.std.proofs.Common.{not, Bool, List, [], ◌∷◌, drop, length}
use Rattle.std.specs.List.{filter}
use Rattle.std.proofs.lemmas.List.Elements.{All-append, All-contains}
use Rattle.law_frame.specs.pg_run.pg_intent.declared.intent.Intent.{Intent}
use Rattle.law_frame.specs.pg_run.pg_intent.declared.intent.Intent.TheVariants as intent
use Rattle.law_frame.specs.pg_run.pg_intent.declared.key.IntentKey.{IntentKey}
use Rattle.law_frame.specs.pg_run.pg_intent.declared.key.IntentKey.TheVariants as intent_key
use Rattle.law_frame.specs.pg_run.pg_intent.Intent.{key_of}
use Rattle.law_frame.specs.pg_run.pg_intent.Intents.{aimed, begun, stands}
use Rattle.law_frame.specs.pg_run.pg_msg.declared.work.Touched.{Touched}
use Rattle.law_frame.specs.pg_run.pg_msg.declared.work.Work.{Work}
use Rattle.law_frame.specs.pg_run.pg_msg.Work.{with_begun}
use Rattle.law_frame.specs.pg_run.pg_store.declared.store.Store.{Store}
use Rattle.law_frame.specs.pg_run.pg_store.Store.{touch, with_names}
use Rattle.law_frame.specs.pg_run.pg_house.House.{house}
use Rattle.law_frame.specs.pg_run.pg_house.Work.{state_of}
use Rattle.law_frame.proofs.pg_run.pg_house.Truths.{chosen}
use Rattle.law_frame.specs.pg_run.pg_pieces.Done.{Done, idle}
use Rattle.law_frame.specs.pg_run.pg_cells.Finish.{finish}
use Rattle.law_frame.specs.pg_run.pg_cells.Sending.{cells_where, is_chosen}
use Rattle.law_frame.specs.pg_run.pg_cells.Settling.{rules, settle, touch_all}
use Rattle.law_frame.proofs.pg_run.pg_cells.Settled.{settle_keeps}
use Rattle.law_frame.specs.pg_run.pg_intentions.Beginning.{begin_end, still_stands}
use Rattle.law_frame.specs.pg_run.pg_intentions.Confirms.{confirm_of}
use Rattle.law_frame.specs.pg_run.pg_intentions.Fills.{fill_of, files_to_fill, with_fill_birth}
use Rattle.law_frame.specs.pg_run.pg_intentions.Intending.{begin_intent, with_begun_if}
use Rattle.law_frame.specs.pg_run.pg_intentions.Patches.{patch_of}
use Rattle.law_frame.specs.pg_run.pg_intentions.Seeks.{seek_target}
use Rattle.law_frame.specs.pg_run.pg_server.Local.{sent_at_end}
use Rattle.law_frame.proofs.Ended.{fill_born, intents_keep}
use Rattle.law_printable.proofs.Handlers.{flag_raised, own_entry_suits}
use Rattle.law_printable.proofs.House.{IsOfDir, StateSuits, SuitsSlot, WorkSuits, house_suits}
use Rattle.law_printable.proofs.Intents.{SuitsIntent, aimed_suit, begun_suit, kept_suit}
use Rattle.law_printable.proofs.Messages.{AllSuit, Suits}
use Rattle.law_printable.proofs.Sending.{begun_asked, cells_suit}
use Rattle.law_printable.proofs.Stores.{DoneSuits, StoreSuits, intended_suits, named_suits, touch_suits}

-- ---- the house rules

all_touched : (s : Store) (ts : List Touched) → StoreSuits s → StoreSuits (touch_all s ts)
all_touched s [] h = h
all_touched s (t ∷ ts) h = all_touched (touch s t.file t.key) ts (touch_suits s h t.file t.key)

rules_suit : (s : Store) (work : Work) → DoneSuits (idle s work) → DoneSuits (rules s work)
rules_suit s work h =
    let begun = state_of s.names work in
    let end = house work.now begun in
    let k : StateSuits Suits end = house_suits Suits work.now begun (record { names = h.store.names; work = h.work }) in
    record {
      store = all_touched (with_names s end.names) (drop (length work.touched) end.work.touched) (named_suits s h.store end.names k.names);
      work = k.work;
    }

pub settled_suits : (s : Store) (work : Work) → DoneSuits (idle s work) → DoneSuits (settle s work)
settled_suits s work h =
    settle_keeps (λ t w. DoneSuits (idle t w)) rules_suit (λ t file w less k. flag_raised t file w k) s work h

-- ---- intentions begin

begun_if : (t : Bool) (work : Work) (k : IntentKey) → WorkSuits Suits work → WorkSuits Suits (with_begun_if t work k)
begun_if t work k h =
    chosen (WorkSuits Suits) t (with_begun work k) work (record { made = h.made; sent = h.sent; left = h.left; unsure = h.unsure }) h

pub intent_suits : (s : Store) (i : Intent) (work : Work) → SuitsIntent i → DoneSuits (idle s work) → DoneSuits (begin_intent s i work)
intent_suits s i work k h = record {
  store = intended_suits s h.store (begun s.intents i) (begun_suit s.intents i h.store.intents k);
  work = begun_if (not (stands s.intents (key_of i))) work (key_of i) h.work;
}

pub intended : (s : Store) (work : Work) → DoneSuits (idle s work) → DoneSuits (begin_end s work)
intended s work h =
    intents_keep (idle s work) DoneSuits (record {
      ends = λ k. (
          let test = still_stands s (files_to_fill s.names) in
          record { store = intended_suits s k.store (filter test s.intents) (kept_suit test s.intents k.store.intents); work = k.work });
      patches = λ d slot is k. (
          let one = All-contains SuitsSlot work.left slot h.work.left is.1 in
          intent_suits d.store (patch_of d.store slot d.work) d.work (one.dir, own_entry_suits d.store slot.child k.store one.inner) k);
      fills = λ d file none k. (
          let b = d.store in
          let born : StoreSuits (with_fill_birth b file) =
          fill_born StoreSuits b file k.store (record { names = k.store.names; intents = k.store.intents }) (record { names = k.store.names; intents = k.store.intents }) in
          intent_suits (with_fill_birth b file) (fill_of b file d.work) d.work tt (record { store = born; work = k.work }));
      seeks = λ d file is k. intent_suits d.store (intent.Seek file (seek_target d.store file)) d.work tt k;
      aims_seek = λ d file k. (
          let q = intent_key.Seek file in
          let to = seek_target d.store file in
          record { store = intended_suits d.store k.store (aimed d.store.intents q to) (aimed_suit d.store.intents q to k.store.intents); work = k.work });
      confirms = λ d slot is k.
          intent_suits d.store (confirm_of d.store slot) d.work (All-contains IsOfDir work.unsure slot h.work.unsure is.1) k;
    }) h

-- ---- what is sent at the end

pub ended_suits : (done : Done) → DoneSuits done → AllSuit (sent_at_end done).sent
ended_suits done h =
    let cells = cells_where done.store (is_chosen done.work.touched done.work.linked) in
    All-append Suits (finish done.store done.work).sent _
    (All-append Suits done.work.sent cells h.work.sent (cells_suit done.store h.store.names (is_chosen done.work.touched done.work.linked)))
    (begun_asked done.store h.store done.work.begun)
