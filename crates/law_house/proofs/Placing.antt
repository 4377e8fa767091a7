-- A new place of a rule, and its passing: two steps, or one.
use Rattle.std.proofs.Common.{◌≡◌, ℕ, true, false, List, refl, ap, ◌∙◌, subst, inl, inr}
use Rattle.std.specs.List.{filter}
use Rattle.std.specs.Ordering.{is_lt}
use Rattle.pg_run.specs.pg_base.declared.id.FileId.{FileId}
use Rattle.pg_run.specs.pg_base.Id.{file_cmp, is_same_file}
use Rattle.pg_run.specs.pg_house.Facts.{AreOrdered}
use Rattle.pg_run.specs.pg_house.Placing.{drawn, live_place, own_with, placed}
use Rattle.pg_run.specs.pg_house.Work.{State, is_root}
use Rattle.pg_run.specs.pg_names.declared.attributes.Attributes.{Attributes}
use Rattle.pg_run.specs.pg_names.Names.{NamesValue, directories, is_dir, known, with_last, with_own}
use Rattle.pg_run.specs.pg_register.declared.place.Place.{Place}
use Rattle.pg_run.proofs.pg_base.Orders.{is_same_file-true}
use Rattle.pg_run.proofs.pg_house.Keys.{placed_keys}
use Rattle.pg_run.proofs.pg_house.Ordered.{changed_ordered, pass_ordered}
use Rattle.pg_run.proofs.pg_house.Placed.{Settled}
use Rattle.pg_run.proofs.pg_house.Touches.{Touches, kept_by}
use Rattle.pg_run.proofs.pg_house.Truths.{bool_cases}
use Rattle.pg_run.proofs.pg_names.Lookups.{own_back, own_cell, own_other, update_frame}
use Rattle.law_house.specs.Steps.{IsStep, NonePasses, Passes, made_live}
use Rattle.law_house.proofs.Deciding.{idle}
use Rattle.law_house.proofs.Walking.{Reaches, and_then, not_itself, one_passing}

-- a lesser one is another
pub apart_of : (d g : FileId) → is_lt (file_cmp g d) ≡ true → is_same_file d g ≡ false
apart_of d g lt = elim (bool_cases (is_same_file d g)) [
  | inl same ↦ absurd (not_itself g (subst (λ x. is_lt (file_cmp g x) ≡ true) (is_same_file-true d g same) lt))
  | inr apart ↦ apart
]

module _ (moment : ℕ) (ds : List FileId) (st : State) (same : directories st.names ≡ ds) (k : Settled ds st.names) where
  pub none_passes : NonePasses st
  none_passes g p = idle st ds g same (k.passed g p.other) p

  module _ (d parent : FileId) (name : List ℕ) where
    abbrev New : Place
    New = live_place (drawn moment st.names) parent name

    abbrev Late : NamesValue
    Late = with_last st.names (drawn moment st.names).time

    abbrev Mine : Attributes
    Mine = own_with st.names d New

    abbrev Made : State
    Made = made_live moment st d parent name

    made_touches : Touches d st.names Made.names
    made_touches = record {
      own = λ q a. own_other Late d Mine q a;
      cells = λ q g a. own_cell Late d Mine q g;
      was = λ q h. own_back Late d (with_own Mine) q h.0 h.1;
      removed = (update_frame Late d (with_own Mine)).removed;
      server = (update_frame Late d (with_own Mine)).server;
      keys = (update_frame Late d (with_own Mine)).keys;
    }

    made_same : directories Made.names ≡ ds
    made_same = ap (filter is_dir) made_touches.keys ∙ same

    lesser : (g : FileId) → is_lt (file_cmp g d) ≡ true → Passes Made g → ⊥
    lesser g lt p =
        idle Made ds g made_same
        (kept_by d st.names Made.names made_touches ds g (apart_of d g lt) (k.passed g p.other)) p

    -- where the new place is a step it passes in one more, or in none
    pub placed_reaches : is_root d ≡ false → IsStep moment st Made → Reaches moment st (placed moment ds st d parent name)
    placed_reaches other step =
        and_then moment st Made (placed moment ds st d parent name) (1, (Made, step, refl))
        (one_passing moment Made ds d made_same other lesser)

    pub placed_same : directories (placed moment ds st d parent name).names ≡ ds
    placed_same = ap (filter is_dir) (placed_keys moment ds st d parent name) ∙ same

    pub placed_ordered : AreOrdered st.names → AreOrdered (placed moment ds st d parent name).names
    placed_ordered ordered =
        pass_ordered Made ds d (changed_ordered Late d (with_own Mine) (λ x h. h) (known Late d) refl ordered)
