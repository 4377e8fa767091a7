-- In all runs what servers have of names is determined by which updates their replicas took.
use Rattle.std.proofs.Common.{ℕ, ◌≡◌, ◌≤◌, List, Option, None, Some, refl, sym, ap, ◌∙◌}
use Rattle.std.proofs.lemmas.Option.{none-some}
use Rattle.pg_run.specs.pg_base.declared.id.FileId.{FileId}
use Rattle.pg_run.specs.pg_event.declared.event.Event.{Event}
use Rattle.pg_run.specs.pg_names.declared.attributes.Attributes.{Attributes}
use Rattle.pg_run.specs.pg_names.Names.{NamesValue, or_blank, own_at, own_or_blank}
use Rattle.pg_run.specs.Laws.{KnowsWhatItTook}
use Rattle.pg_run.specs.Run.{run}
use Rattle.pg_run.specs.Took.{Take}
use Rattle.law_names.specs.law_passing.Tells.{AreApart}
use Rattle.law_names.specs.Merged.{NamesStandOn}
use Rattle.law_names.proofs.Runs.{merged_run, names_merge, stand_on}
use Rattle.law_names.proofs.Sources.{takes_apart}
use Rattle.law_determined.specs.Determined.{HaveTheSame, IsDetermined, NamesAreDetermined, TookTheSame}
use Rattle.law_determined.proofs.Same.{held_there, same_entry, same_own}

-- ---- what is held

-- two servers hold a thing or neither does, and where they do they have the same of it
alike_by : (f : FileId) (o p : Option Attributes) → or_blank f o ≡ or_blank f p
    → (((a : Attributes) × (o ≡ Some a)) → (b : Attributes) × (p ≡ Some b))
    → (((b : Attributes) × (p ≡ Some b)) → (a : Attributes) × (o ≡ Some a)) → o ≡ p
alike_by f None None same to back = refl
alike_by f None (Some b) same to back = let k = back (b, refl) in absurd (none-some k.0 k.1)
alike_by f (Some a) None same to back = let k = to (a, refl) in absurd (none-some k.0 k.1)
alike_by f (Some a) (Some b) same to back = ap Some same

-- ---- in all runs

module _ (n : ℕ) (on : NamesStandOn n) where
  -- what the replicas of a server took is told apart
  apart : (events : List Event) (s : ℕ) → 1 ≤ s → s ≤ n → AreApart ((run n events).took s)
  apart events s least most =
      let stand = stand_on n on in
      takes_apart n (run n events) (stand events) ((run n events).took s)
      (merged_run n stand events s least most).told

  module _ (events others : List Event) (s : ℕ) (least : 1 ≤ s) (most : s ≤ n) (t : ℕ)
      (other_least : 1 ≤ t) (other_most : t ≤ n) where
    abbrev Here : List Take
    Here = (run n events).took s

    abbrev There : List Take
    There = (run n others).took t

    knows : KnowsWhatItTook n events s
    knows = names_merge n (stand_on n on) events s least most

    other_knows : KnowsWhatItTook n others t
    other_knows = names_merge n (stand_on n on) others t other_least other_most

    told : AreApart Here
    told = apart events s least most

    abbrev Names : NamesValue
    Names = ((run n events).stores s).names

    abbrev OtherNames : NamesValue
    OtherNames = ((run n others).stores t).names

    same_blank : (f : FileId) → TookTheSame f Here There
        → own_or_blank Names f ≡ own_or_blank OtherNames f
    same_blank f same = knows.own f ∙ same_own Here There told f same.own ∙ sym (other_knows.own f)

    have : (f : FileId) → TookTheSame f Here There → HaveTheSame f Names OtherNames
    have f same =
        let held = held_there f Here There same in
        record {
          own = alike_by f (own_at Names f) (own_at OtherNames f) (same_blank f same)
              (λ h. (other_knows.held f).0 (held.0 ((knows.held f).1 h)))
              (λ h. (knows.held f).0 (held.1 ((other_knows.held f).1 h)));
          entries = λ c. knows.entries f c ∙ same_entry Here There told f c (same.children c)
              ∙ sym (other_knows.entries f c);
        }

    pub is_determined : IsDetermined (run n events) s (run n others) t
    is_determined = record {
      own = same_own Here There told;
      entry = same_entry Here There told;
      names = have;
    }

-- NAMES ARE DETERMINED
pub names_are_determined : (n : ℕ) → NamesStandOn n → NamesAreDetermined n
names_are_determined n on events others s least most t other_least other_most =
    is_determined n on events others s least most t other_least other_most
