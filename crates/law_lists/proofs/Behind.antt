-- What is made behind the first effect of an event: what the house rules make of it, and flags.
use Rattle.std.proofs.Common.{◌≡◌, true, List, ◌++◌, length, All, ap, ◌∙◌}
use Rattle.std.specs.Prelude.{drop}
use Rattle.std.proofs.Math.Seq.{drop-append_seam}
use Rattle.std.proofs.lemmas.List.{append_assoc}
use Rattle.pg_run.specs.pg_msg.declared.update.Update.{Update}
use Rattle.pg_run.specs.pg_house.Facts.{AreByServer, AreOrdered, IsLast, IsOfDirs}
use Rattle.pg_run.specs.pg_house.House.{house}
use Rattle.pg_run.specs.pg_house.Work.{State, state_of}
use Rattle.pg_run.proofs.pg_house.Truths.{chosen_true}
use Rattle.pg_run.specs.pg_store.declared.store.Store.{Store}
use Rattle.pg_run.specs.pg_pieces.Done.{Done}
use Rattle.pg_run.specs.pg_cells.Raised.{IsFlagMade}
use Rattle.pg_run.proofs.pg_cells.Calmed.{settle_golds}
use Rattle.pg_run.proofs.pg_intentions.Steady.{begin_end_stays}
use Rattle.pg_run.specs.pg_server.declared.input.Input.{Input}
use Rattle.pg_run.specs.pg_server.Local.{Effect, closed, effect, finished, first_effect, reply_to, settled, takes_effect}
use Rattle.pg_run.specs.Run.{made_behind}

module _ (a : Store) (asked : Input) (going : takes_effect a asked ≡ true)
    (of_dirs : IsOfDirs (first_effect a asked).store.names)
    (sorted : AreByServer (first_effect a asked).store.names)
    (last : IsLast (first_effect a asked).store.names)
    (ordered : AreOrdered (first_effect a asked).store.names) where
  abbrev First : Done
  First = first_effect a asked

  abbrev pub Before : State
  Before = state_of First.store.names First.work

  abbrev pub End : State
  End = house First.work.now Before

  effect_is : effect a asked ≡ closed (reply_to a asked) First
  effect_is = chosen_true (takes_effect a asked) (closed (reply_to a asked) First)
      (finished (reply_to a asked) First) going

  -- what the rules make, and behind it flags
  pub behind_is : (more : List Update) → End.work.made ≡ First.work.made ++ more
      → (us : List Update) × (made_behind a asked ≡ more ++ us) × All IsFlagMade us
  behind_is more is =
      let golds = (settle_golds First.store First.work of_dirs sorted last ordered).made in
      let flags = golds.0 in
      let base = First.work.made in
      let all : (effect a asked).out.made ≡ base ++ (more ++ flags) =
      ap (λ (e : Effect). e.out.made) effect_is
      ∙ (begin_end_stays (settled First).store (settled First).work).made
      ∙ golds.1 ∙ ap (λ us. us ++ flags) is ∙ append_assoc base more flags in
      (flags, ap (drop (length base)) all ∙ drop-append_seam base (more ++ flags), golds.2)
