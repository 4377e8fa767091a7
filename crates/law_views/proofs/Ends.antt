-- What stands behind the first effect of an event keeps what is seen of the server: the house
-- rules, and the intentions that end and begin.
use Rattle.std.proofs.Common.{[], ℕ, true, List, ◌∷◌, drop, length}
use Rattle.law_frame.specs.pg_run.pg_house.House.{house}
use Rattle.law_frame.specs.pg_run.pg_house.Work.{state_of}
use Rattle.law_frame.proofs.pg_run.pg_house.Keys.{rules_by}
use Rattle.law_frame.specs.pg_run.pg_intent.declared.intent.Intent.{Intent}
use Rattle.law_frame.specs.pg_run.pg_intent.declared.intent.Intent.TheVariants as intent
use Rattle.law_frame.specs.pg_run.pg_intent.declared.key.IntentKey.TheVariants as intent_key
use Rattle.law_frame.specs.pg_run.pg_intent.Intents.{aimed, begun}
use Rattle.law_frame.specs.pg_run.pg_msg.declared.work.Touched.{Touched}
use Rattle.law_frame.specs.pg_run.pg_msg.declared.work.Work.{Work}
use Rattle.law_frame.specs.pg_run.pg_store.declared.store.Store.{Store}
use Rattle.law_frame.specs.pg_run.pg_store.Store.{touch, with_names}
use Rattle.law_frame.specs.pg_run.pg_store.Wishes.{without_wish}
use Rattle.law_frame.specs.pg_run.pg_pieces.Done.{Done}
use Rattle.law_frame.specs.pg_run.pg_pieces.Making.{own_next}
use Rattle.law_frame.specs.pg_run.pg_cells.Settling.{rules, touch_all}
use Rattle.law_frame.proofs.pg_run.pg_cells.Settled.{settle_keeps}
use Rattle.law_frame.specs.pg_run.pg_intentions.Beginning.{end_others}
use Rattle.law_frame.specs.pg_run.pg_intentions.Confirms.{confirm_of}
use Rattle.law_frame.specs.pg_run.pg_intentions.Fills.{fill_of, files_to_fill, with_fill_birth}
use Rattle.law_frame.specs.pg_run.pg_intentions.Intending.{begin_intent}
use Rattle.law_frame.specs.pg_run.pg_intentions.Patches.{patch_of}
use Rattle.law_frame.specs.pg_run.pg_intentions.Seeks.{seek_target}
use Rattle.law_frame.specs.pg_run.pg_server.Local.{intended, settled}
use Rattle.law_frame.proofs.Ended.{fill_born, intents_keep}
use Rattle.law_views.proofs.Seen.{IsSeen, less_wish, seen_birth, seen_fewer, seen_flag, seen_intents, seen_names, seen_touch}

module _ (n s : ℕ) (R : List ℕ) where
  abbrev Seen : Store → Type 0
  Seen b = IsSeen n s R b

  -- ---- the house rules

  touches_seen : (ts : List Touched) (a : Store) → Seen a → Seen (touch_all a ts)
  touches_seen [] a k = k
  touches_seen (t ∷ ts) a k = touches_seen ts (touch a t.file t.key) (seen_touch n s R a t.file t.key k)

  ruled_seen : (a : Store) (w : Work) → Seen a → Seen (rules a w).store
  ruled_seen a w k =
      let st = house w.now (state_of a.names w) in
      let by = rules_by w.now (state_of a.names w) in
      touches_seen (drop (length w.touched) st.work.touched) (with_names a st.names) (seen_names n s R a st.names by.1 by.0 k)

  pub settled_seen : (d : Done) → Seen d.store → Seen (settled d).store
  settled_seen d k =
      settle_keeps (λ (a : Store) (w : Work). Seen a) ruled_seen (λ a file w less h. seen_flag n s R a file (own_next a file true) h)
      d.store d.work k

  -- ---- intentions

  abbrev Left : Done → Type 0
  Left d = Seen d.store

  begun_seen : (a : Store) (i : Intent) (w : Work) → Seen a → Left (begin_intent a i w)
  begun_seen a i w k = seen_intents n s R a (begun a.intents i) k

  pub intended_seen : (d : Done) → Seen d.store → Seen (intended d).store
  intended_seen d =
      intents_keep d Left (record {
        ends = λ k. seen_intents n s R d.store (end_others d.store (files_to_fill d.store.names)).intents k;
        patches = λ d slot away k. begun_seen d.store (patch_of d.store slot d.work) d.work k;
        fills = λ d file none k. (
            let a = d.store in
            begun_seen (with_fill_birth a file) (fill_of a file d.work) d.work
            (fill_born Seen a file k (seen_birth n s R a k)
            (seen_fewer n s R a (without_wish a.wishes file) (λ q w there. less_wish n s R a file q w there) k)));
        seeks = λ d file none k. begun_seen d.store (intent.Seek file (seek_target d.store file)) d.work k;
        aims_seek = λ d file k.
            seen_intents n s R d.store (aimed d.store.intents (intent_key.Seek file) (seek_target d.store file)) k;
        confirms = λ d slot doubted k. begun_seen d.store (confirm_of d.store slot) d.work k;
      })
