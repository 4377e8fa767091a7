-- The laws of flags.
use Rattle.std.proofs.Common.{ℕ, ◌≡◌, ◌⊎◌, List, Option, Some, inl, inr, subst}
use Rattle.law_frame.proofs.pg_run.pg_content.Members.{all_among}
use Rattle.law_frame.specs.pg_run.pg_event.declared.event.Event.{Event}
use Rattle.law_frame.specs.pg_run.pg_register.Flag.{flag_of}
use Rattle.law_frame.specs.pg_run.pg_names.declared.attributes.Attributes.{Attributes}
use Rattle.law_frame.specs.pg_run.pg_names.Names.{or_blank}
use Rattle.law_frame.specs.pg_run.pg_store.Together.{IsOver}
use Rattle.law_frame.specs.pg_run.Grown.{EventsGrow}
use Rattle.law_frame.specs.pg_run.Journal.{mail}
use Rattle.law_frame.specs.pg_run.Births.{BirthsMoveInEvents}
use Rattle.law_frame.specs.pg_run.Known.{FlagsAreOwn, FlagsHaveOwnNumbers, IsFlagOf, IsOwnFlag}
use Rattle.law_frame.specs.pg_run.Run.{run}
use Rattle.law_frame.proofs.pg_run.Lists.{contained_among}
use Rattle.law_contents.specs.Together.{HoldBoth}
use Rattle.law_golds.specs.Laws.{FlagsAreKnown}
use Rattle.law_golds.specs.Premises.{FirstEffectsAreWhole, NextIdsAreAway}
use Rattle.law_golds.proofs.Filling.{own_of_known}
use Rattle.law_golds.proofs.Kept.{past_over}
use Rattle.law_golds.proofs.Own.{Stands}
use Rattle.law_golds.proofs.Says.{SaysSent}
use Rattle.law_golds.proofs.Worlds.{AreOwn, own_run}

module _ (n : ℕ) (both : HoldBoth n) (grow : EventsGrow n) (moves : BirthsMoveInEvents n) (whole : FirstEffectsAreWhole n)
    (away : NextIdsAreAway n) where
  all : (events : List Event) → AreOwn n (run n events)
  all events = own_run n both grow moves whole away events

  -- OWN FLAG
  pub flags_are_own : FlagsAreOwn n
  flags_are_own events f g is = by ((all events).each f g is)
    where
      by : Stands g.server ((run n events).stores g.server) f g → IsOwnFlag ((run n events).stores g.server) f g ⊎ IsOver ((run n events).stores g.server) f g.birth
      by (inl k) =
          let own = own_of_known ((run n events).stores g.server).names f g.server k.own k.there in
          let P : Option Attributes → Type 0 = (λ o. flag_of (or_blank f o).flags g.server ≡ Some k.own) in
          inl (record {
            birth = k.birth;
            own = own.0;
            held = own.1;
            last = k.own;
            is = subst P own.1 k.there;
            upto = k.upto;
          })
      by (inr past) = inr (past_over ((run n events).stores g.server) f g.birth past)

  -- ONE FLAG A NUMBER
  pub flags_have_own_numbers : FlagsHaveOwnNumbers n
  flags_have_own_numbers events f g h a b server birth number = (all events).one f g h a b server birth number

  -- what is known was made, or was there at the start
  pub flags_are_known : FlagsAreKnown n
  flags_are_known events = record {
    stores = λ s least most. (all events).stores s;
    messages = λ m there.
        all_among (SaysSent (IsFlagOf n (run n events))) (mail (run n events).journal) m (all events).mail_is
        (contained_among (mail (run n events).journal) m there);
  }
