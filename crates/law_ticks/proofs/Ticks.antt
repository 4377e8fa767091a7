-- Ticks send what is owed, and restarts lose wishes: each server is as the lemmas on one event ask.
use Rattle.std.proofs.Common.{ℕ}
use Rattle.law_frame.specs.pg_run.Ticks.{RestartsLoseWishes, TicksSendWhatIsOwed}
use Rattle.law_frame.proofs.pg_run.Ticks as ticks
use Rattle.law_frame.proofs.pg_run.Ticks.{AreTidy}
use Rattle.law_frame.specs.pg_run.Laws.{store_after}
use Rattle.law_frame.proofs.pg_run.theory_flood_pieces.Sending.{own_key}
use Rattle.law_ticks.specs.Given.{TidinessIsGiven}
use Rattle.law_ticks.proofs.KeysRuns.{run_cells}

pub tidy : (n : ℕ) → TidinessIsGiven n → AreTidy n
tidy n g events s least most =
    let a = store_after n events s in
    let whole = g.whole events s least most in
    record {
      order = g.order events s least most;
      ordered = g.ordered events s least most;
      golds = g.golds events s least most;
      by_id = g.things events s least most;
      still = g.intends.still events s least most;
      still_without = g.intends.still_without events s least most;
      still_released = g.intends.still_released events s least most;
      asked = g.intends.asked events s least most;
      whole = whole;
      cells = λ file x peer birth q tag held h.
          let c = run_cells n events s least most file x peer birth q tag held h in
          record { c = c.0; is = c.1; named = own_key a whole.names.children file q c.0 c.1 };
    }

-- TICKS SEND WHAT IS OWED
pub ticks_send_what_is_owed : (n : ℕ) → TidinessIsGiven n → TicksSendWhatIsOwed n
ticks_send_what_is_owed n g = ticks.ticks_send_what_is_owed n (tidy n g)

-- RESTARTS LOSE WISHES
pub restarts_lose_wishes : (n : ℕ) → TidinessIsGiven n → RestartsLoseWishes n
restarts_lose_wishes n g = ticks.restarts_lose_wishes n (tidy n g)
