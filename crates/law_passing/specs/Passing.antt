-- The house rules, as passing of what replicas took.
use Rattle.std.specs.Prelude.{ℕ, ◌≡◌, ◌++◌, List}
use Rattle.pg_run.specs.pg_msg.declared.update.Update.{Update}
use Rattle.pg_run.specs.pg_house.Facts.{IsLast, IsOfDirs}
use Rattle.pg_run.specs.pg_house.House.{house}
use Rattle.pg_run.specs.pg_house.Work.{State}
use Rattle.pg_run.specs.Passed.{passed, passed_with}
use Rattle.pg_run.specs.Took.{Take}
use Rattle.law_passing.specs.Tells.{AreApart, Tells}

-- the rules make some updates more, and behind them a server knows what these come to: all that is
-- held passes, and again behind each of them
pub record Passes (moment : ℕ) (st : State) (takes : List Take) : Type 0 where
  pub more : List Update
  pub made : (house moment st).work.made ≡ st.work.made ++ more
  pub tells : Tells (house moment st).names
      (passed_with st.names.removed (passed st.names.removed takes) more)

-- where it knew what its replicas took, and that is told apart
abbrev pub RulesArePassing : Type 0
RulesArePassing = (moment : ℕ) (st : State) (takes : List Take) → Tells st.names takes
    → AreApart takes → IsOfDirs st.names → IsLast st.names → Passes moment st takes
