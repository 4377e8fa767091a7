-- What the end of an event does to a server's store: what each piece keeps, the intentions that end
-- and begin keep, and the house rules.
use Rattle.std.proofs.Common.{true, refl}
use Rattle.law_frame.specs.pg_run.pg_intent.declared.intent.Intent.{Intent}
use Rattle.law_frame.specs.pg_run.pg_intent.declared.intent.Intent.TheVariants as intent
use Rattle.law_frame.specs.pg_run.pg_msg.declared.work.Work.{Work}
use Rattle.law_frame.specs.pg_run.pg_store.declared.store.Store.{Store}
use Rattle.law_frame.specs.pg_run.pg_store.Births.{with_birth, with_wishes}
use Rattle.law_frame.specs.pg_run.pg_store.Wishes.{without_wish}
use Rattle.law_frame.specs.pg_run.pg_pieces.Done.{Done, idle}
use Rattle.law_frame.specs.pg_run.pg_pieces.Making.{own_next}
use Rattle.law_frame.specs.pg_run.pg_cells.Settling.{settle}
use Rattle.law_frame.proofs.pg_run.pg_cells.Settled.{settle_keeps}
use Rattle.law_frame.specs.pg_run.pg_intentions.Beginning.{begin_end, end_others}
use Rattle.law_frame.specs.pg_run.pg_intentions.Confirms.{confirm_of}
use Rattle.law_frame.specs.pg_run.pg_intentions.Fills.{fill_of, files_to_fill, with_fill_birth}
use Rattle.law_frame.specs.pg_run.pg_intentions.Intending.{begin_intent}
use Rattle.law_frame.specs.pg_run.pg_intentions.Patches.{patch_of}
use Rattle.law_frame.specs.pg_run.pg_intentions.Seeks.{aim_seek, seek_target}
use Rattle.law_frame.proofs.Ended.{fill_born, intents_keep}
use Rattle.law_ticks.proofs.Pieces.{OutlivesPieces}

module _ (P : Store → Type 0) (k : OutlivesPieces P) where
  abbrev Left : Done → Type 0
  Left done = P done.store

  -- ---- intentions

  began : (d : Done) (i : Intent) → Left d → Left (begin_intent d.store i d.work)
  began d i h = k.beside d.store (begin_intent d.store i d.work).store refl refl h

  pub intended_left : (a : Store) (work : Work) → P a → Left (begin_end a work)
  intended_left a work h =
      intents_keep (idle a work) Left (record {
        ends = λ so. k.beside a (end_others a (files_to_fill a.names)) refl refl so;
        patches = λ d slot away so. began d (patch_of d.store slot d.work) so;
        fills = λ d file none so. (
            let b = d.store in
            began (idle (with_fill_birth b file) d.work) (fill_of b file d.work)
            (fill_born P b file so (k.beside b (with_birth b) refl refl so)
            (k.beside b (with_wishes b (without_wish b.wishes file)) refl refl so)));
        seeks = λ d file none so. began d (intent.Seek file (seek_target d.store file)) so;
        aims_seek = λ d file so. k.beside d.store (aim_seek d.store file) refl refl so;
        confirms = λ d slot doubted so. began d (confirm_of d.store slot) so;
      }) h

  -- ---- the house rules run, and flags are raised

  pub settled_left : (a : Store) (work : Work) → P a → Left (settle a work)
  settled_left a work h =
      settle_keeps (λ s w. P s) (λ s w is. k.rules s w is) (λ s f w less is. k.flag s f (own_next s f true) is) a work h
