-- Where names are in order no house rule applies: run again, at whichever moment, the rules change,
-- touch and make nothing.
use Rattle.std.proofs.Common.{◌≡◌, ℕ, true, false, not, List, length, ap, ◌∙◌, arith}
use Rattle.std.specs.Map.{keys_of}
use Rattle.std.proofs.lemmas.Bool.{not-true}
use Rattle.pg_base.specs.declared.id.FileId.{FileId}
use Rattle.pg_base.specs.Id.{is_same_file}
use Rattle.pg_register.specs.Place.{root}
use Rattle.pg_server.specs.pg_pieces.pg_msg.declared.work.Work.{Work}
use Rattle.pg_server.specs.pg_pieces.pg_names.Names.{NamesValue, directories}
use Rattle.pg_server.specs.pg_pieces.pg_house.Work.{State, state_of}
use Rattle.pg_server.specs.pg_pieces.pg_house.Cycles.{break_first}
use Rattle.pg_server.specs.pg_pieces.pg_house.Facts.{AreOrdered, is_among}
use Rattle.pg_server.specs.pg_pieces.pg_house.House.{house, movable}
use Rattle.pg_server.specs.pg_pieces.pg_house.Passing.{pass_all}
use Rattle.pg_server.specs.pg_pieces.pg_house.Placing.{repeated}
use Rattle.pg_server.specs.pg_pieces.pg_house.Returning.{is_root, return_first}
use Rattle.pg_server.proofs.pg_pieces.pg_house.Counting.{kept_dir}
use Rattle.pg_server.proofs.pg_pieces.pg_house.Repeating as repeating
use Rattle.pg_server.proofs.pg_pieces.pg_house.Repeating.{none_returns, repeated_still}
use Rattle.pg_server.proofs.pg_pieces.pg_house.Settling.{all_idle, dirs_held, none_returns_at}
use Rattle.pg_run.specs.Laws.{IsInOrder}
use Rattle.pg_run.proofs.Pigeons.{none_moves}

-- ---- so all is as it was

module _ (moment : ℕ) (s : NamesValue) (work : Work) (order : IsInOrder s) (ordered : AreOrdered s) where
  abbrev St : State
  St = state_of s work

  abbrev Ds : List FileId
  Ds = directories s

  apart_of : (g : FileId) → is_among g (movable s) ≡ true → is_same_file g root ≡ false
  apart_of g among = not-true (is_root g) (kept_dir (λ f. not (is_root f)) (keys_of s.held) g among)

  no_pass : pass_all St Ds (movable s) ≡ St
  no_pass = all_idle St Ds (movable s) (dirs_held s) (λ g among own h. (order.passing g own h (apart_of g among), order.own_parent g own h (apart_of g among)))

  no_return : return_first moment Ds St ≡ St
  no_return = none_returns moment Ds St (none_returns_at s ordered order.returned)

  no_break : break_first moment Ds St ≡ St
  no_break = repeating.none_moves moment Ds St (none_moves s order.no_cycle (length Ds) (omega arith) Ds)

  pub house_still : house moment St ≡ St
  house_still =
      ap (λ (t : State). repeated (length Ds) (break_first moment Ds) (repeated (length Ds) (return_first moment Ds) t)) no_pass
      ∙ ap (repeated (length Ds) (break_first moment Ds)) (repeated_still (return_first moment Ds) (length Ds) St no_return)
      ∙ repeated_still (break_first moment Ds) (length Ds) St no_break
