-- The laws of runs, joined: what each stands on is what others say.
use Rattle.std.proofs.Common.{ℕ, ◌≡◌, ◌<◌, ◌^◌, Option, None, Some, refl}
use Rattle.std.proofs.lemmas.List.Elements.{All-weaker}
use Rattle.law_repair.specs.law_contents.Together as contents
use Rattle.law_repair.specs.law_contents.Together.{HoldBoth}
use Rattle.law_repair.specs.law_leaving.Premises as drops
use Rattle.law_repair.specs.law_leaving.Premises.{StatesAreCited}
use Rattle.pg_run.specs.pg_entries.declared.entry.Entry.{Entry}
use Rattle.law_returns.specs.law_full.Filled.{FullPlaced, FullSays}
use Rattle.law_repair.specs.law_golds.Laws.{FlagsAreKnown}
use Rattle.law_repair.specs.law_golds.Premises.{NextIdsAreAway}
use Rattle.law_rests.specs.Rests.{RemovedServersRest}
use Rattle.law_returns.specs.Gate.{EdgesAreKept}
use Rattle.law_acks.specs.Histories.{HaveHistories}
use Rattle.law_acks.specs.Laws.{StandOn}
use Rattle.law_repair.specs.law_listings.Laws.{FirstEffectsAreSound, ListingsStandOn, RootIsUnlisted}
use Rattle.pg_run.specs.pg_names.Names.{cell_at}
use Rattle.law_returns.specs.law_names.Merged.{NamesStandOn, NewIdsAreNew}
use Rattle.law_intents.specs.law_order.Named.{IsOfServer}
use Rattle.law_repair.specs.law_places.Laws.{OnePlaceAStamp}
use Rattle.law_repair.specs.law_quiet.Given.{AgreementIsGiven, NamesAreWell, TreeIsGiven}
use Rattle.pg_run.specs.pg_register.Place.{root}
use Rattle.law_repair.specs.Given as repairs
use Rattle.pg_run.specs.Acknowledged.{AcknowledgedKeysAreHad}
use Rattle.pg_run.specs.Births.{BirthsAreAlone, BirthsAreKnown, BirthsMoveInEvents, BirthsMoveOn, LinksNameTheSender, ReplicasStayOrGo}
use Rattle.pg_run.specs.Golds.{FullReplicasSeeGold, ReplicasNameGolds}
use Rattle.pg_run.specs.Grown.{EventsGrow}
use Rattle.pg_run.specs.Histories.{CarriesHistory, MakesHistories, StateIsItsHeads}
use Rattle.pg_run.specs.Intending.{IntentionsAreInOrder}
use Rattle.pg_run.specs.Known.{CarriedIsKnown, FlagsAreOwn, FlagsHaveOwnNumbers, PlacesHaveOwnStamps}
use Rattle.pg_run.specs.Laws.{HoldsWhatItTook, NamesMerge, QuietDirectoriesAreBroughtBack, QuietNamesFormATree, QuietServersAgree, QuietThingsAreListedOnlyWhereTheyStand, names_after}
use Rattle.pg_run.specs.Leaving.{HeardEdgesAreKnown}
use Rattle.pg_run.specs.Run.{Taking}
use Rattle.pg_run.specs.Ticks.{TicksSendWhatIsOwed}
use Rattle.pg_run.specs.Views.{MessagesAreOfViews, ViewsArePrefixes}
use Rattle.law_ticks.specs.Given.{IntentionsAreStill, TidinessIsGiven}
use Rattle.law_views.specs.Premises as views
use Rattle.law_views.specs.Premises.{IsFlagOf}
use Rattle.pangaea.specs.Joined.{AreCited}

-- what is not there is None
not_there : (o : Option Entry) → ((e : Entry) → o ≡ Some e → ⊥) → o ≡ None
not_there None h = refl
not_there (Some e) h = absurd (h e refl)

-- ---- of any number of servers

module _ (n : ℕ) (c : AreCited n) where
  both : HoldBoth n
  both events s least most = record {
    together = (c.order.whole events s least most).together;
    births = c.order.births events s least most;
  }

  views_stand : views.StandOn n
  views_stand = record {
    whole = c.order.whole;
    flags = λ events s least most dir child e is.
        All-weaker (IsOfServer n) (IsFlagOf n) (λ f k. record { least = k.least; most = k.most }) e.flags
        (((c.order.named events).names s least most).cells dir child e is).flags;
  }

  pub fronts : ViewsArePrefixes n
  fronts = c.views.fronts views_stand

  pub mailed : MessagesAreOfViews n
  mailed = c.views.mailed views_stand

  pub rests : RemovedServersRest n
  rests = c.views.rests (c.views.sent views_stand)

  pub order : IntentionsAreInOrder n
  order = c.intents.order fronts

  new_ids : NewIdsAreNew n
  new_ids events s least most kind =
      let new = c.order.ids events s least most kind in
      record { away = new.away; untold = new.untold }

  away : NextIdsAreAway n
  away events s least most kind = (c.order.ids events s least most kind).away

  sound : FirstEffectsAreSound n
  sound events event s asked taken =
      let takes : Taking = record { server = s; asked = asked } in
      let whole = c.order.first events event takes taken in
      record {
        of_dirs = whole.names.dirs;
        by_server = whole.names.sorted;
        last = whole.names.last;
        ordered = c.order.ordered events event takes taken;
      }

  unlisted : RootIsUnlisted n
  unlisted events s least most dir =
      not_there (cell_at (names_after n events s) dir root) ((c.order.placed events s least most).inner dir)

  pub alone : BirthsAreAlone n
  alone = c.edges.alone order

  pub linked : LinksNameTheSender n
  linked = c.edges.linked order

  moves : BirthsMoveInEvents n
  moves = c.edges.moves order

  moves_on : BirthsMoveOn n
  moves_on = c.edges.on order

  stay : ReplicasStayOrGo n
  stay = c.edges.stay order

  pub contents_stand : contents.StandOn n
  contents_stand = record { both = both; moves = moves_on; named = c.order.named; intends = order }

  pub births : BirthsAreKnown n
  births = c.edges.known order

  pub one_place : OnePlaceAStamp n
  one_place = c.names.one_place order

  own_stamps : PlacesHaveOwnStamps n
  own_stamps = c.names.own order

  pub golds : FullReplicasSeeGold n
  golds = c.flags.golds fronts births alone

  pub named_golds : ReplicasNameGolds n
  named_golds = c.flags.named order

  stills : IntentionsAreStill n
  stills = record {
    still = λ events s least most. (c.intents.still fronts events s least most).0;
    still_released = λ events s least most. (c.intents.still fronts events s least most).1.1;
    still_without = λ events s least most. (c.intents.still fronts events s least most).1.0;
    asked = c.intents.asked fronts;
  }

  pub tidy : TidinessIsGiven n
  tidy = record {
    order = c.order.order;
    ordered = λ events s least most. (c.order.by_id events s least most).entries;
    things = λ events s least most. (c.order.by_id events s least most).things;
    golds = golds;
    intends = stills;
    whole = c.order.whole;
  }

  pub owed : TicksSendWhatIsOwed n
  owed = c.names.owed tidy

  -- ---- of so many that stamps and ids can have their numbers

  module _ (few : n < 2 ^ 32) where
    pub held : HoldsWhatItTook n
    held = c.contents.held few contents_stand

    pub heads : StateIsItsHeads n
    heads = c.contents.heads few contents_stand

    pub histories : MakesHistories n
    histories = c.contents.made few contents_stand

    pub carried : CarriesHistory n
    carried = c.contents.carried few contents_stand

    had_histories : HaveHistories n
    had_histories = record { made = histories; carried = carried; heads = heads; held = held }

    stand : StandOn n
    stand = record {
      contents = had_histories;
      away = c.order.away;
      directories = c.order.told;
      announced = c.contents.announced few contents_stand;
      known = births;
      alone = alone;
      moves = moves;
    }

    pub had : AcknowledgedKeysAreHad n
    had = c.edges.had stand

    grow : EventsGrow n
    grow = c.edges.grow stand

    own_flags : FlagsAreOwn n
    own_flags = c.flags.own both grow moves c.order.first away

    numbers : FlagsHaveOwnNumbers n
    numbers = c.flags.numbers both grow moves c.order.first away

    flags_known : FlagsAreKnown n
    flags_known = c.flags.known both grow moves c.order.first away

    named : NamesAreWell n
    named events s least most =
        let at = c.order.placed events s least most in
        record {
          dirs = at.dirs;
          first = at.first;
          inner = at.inner;
          found = at.found;
          distinct = c.order.distinct few events s least most;
        }

    -- ---- so names are what was taken, and what follows

    carried_known : CarriedIsKnown n
    carried_known = c.names.known order c.order.named (c.names.made order) flags_known

    placed : FullPlaced n
    placed = c.edges.placed had grow moves carried_known own_stamps

    pub on : NamesStandOn n
    on = record { known = carried_known; stamps = own_stamps; flags = numbers; intends = order; ids = new_ids }

    pub merge : NamesMerge n
    merge = c.names.merge on

    pub kept : EdgesAreKept n
    kept = record {
      acknowledged = had;
      grow = grow;
      whole = c.edges.whole stand;
      moves = moves;
      stay = stay;
      intentions = order;
      made = c.names.past order;
      views = fronts;
    }

    -- ---- replicas that go

    pub leaving : drops.StandOn n
    leaving = record {
      whole = c.edges.whole stand;
      intents = order;
      grow = grow;
      views = fronts;
      lasting = c.views.grow views_stand;
      carried = carried_known;
      own = own_flags;
      births = record {
        known = births;
        alone = alone;
        on = moves_on;
        gone = c.edges.gone order;
        linked = linked;
      };
      events = record {
        acts = c.edges.acts stand;
        edges = c.drops.edges order;
        ends = c.drops.ends order;
        over = c.drops.over order;
        made = c.flags.made both grow moves c.order.first away;
        begin = c.drops.begin order;
        told = c.drops.told order;
        answered = c.drops.answered order;
      };
    }

    pub states : StatesAreCited n
    states = record { merge = merge; held = held; heads = heads; made = histories }

    pub heard : HeardEdgesAreKnown n
    heard = c.drops.heard leaving

    pub listings_stand : ListingsStandOn n
    listings_stand = record {
      order = order;
      house = c.order.order;
      one = one_place;
      made = c.names.made order;
      own = own_stamps;
      sound = sound;
      unlisted = unlisted;
      away = c.order.away;
      ticks = owed;
      moves = moves;
      stay = stay;
      ends = c.drops.ends order;
      givers = c.drops.cells leaving;
      views = fronts;
      mailed = mailed;
      sent = c.views.sent views_stand;
    }

    -- ---- quiet

    pub agreement : AgreementIsGiven n
    agreement = record {
      acknowledged = had;
      known = carried_known;
      stamps = own_stamps;
      flags = numbers;
      whole = c.order.whole;
      histories = histories;
      heads = heads;
      took = held;
      views = fronts;
    }

    trees : TreeIsGiven n
    trees = record {
      agree = agreement;
      order = c.order.order;
      intends = order;
      names = named;
      placed = placed;
      listed = c.names.listed listings_stand;
    }

    pub agree : QuietServersAgree n
    agree = c.quiet.agree agreement merge

    pub tree : QuietNamesFormATree n
    tree = c.quiet.tree trees

    pub only : QuietThingsAreListedOnlyWhereTheyStand n
    only = c.quiet.only trees

    pub back : QuietDirectoriesAreBroughtBack n
    back = c.quiet.back trees

    -- ---- things that are kept

    full_says : FullSays n
    full_says = c.edges.said had grow moves carried_known own_stamps

    pub repairing : repairs.StandOn n
    repairing = record {
      events = record {
        grow = grow;
        moves = moves;
        stay = stay;
        begins = c.repairs.begins;
        stays = c.repairs.stays c.order.whole c.order.first alone moves stay;
        said = c.repairs.said;
        raise_none = c.repairs.raise_none both grow moves c.order.first away c.order.whole fronts stay
            (c.flags.made both grow moves c.order.first away) c.order.order;
      };
      holding = record {
        whole = c.order.whole;
        named = c.order.named;
        known = births;
        alone = alone;
        carried = carried_known;
        own = own_flags;
        fulls = full_says;
      };
      quiet = record {
        views = fronts;
        intends = order;
        golds = named_golds;
        had = had;
        heard = heard;
        agree = c.quiet.stores agreement;
      };
    }
