-- Along every run.
use Rattle.std.proofs.Common.{ℕ, ◌≡◌, List, [], refl, sym, subst}
use Rattle.std.proofs.lemmas.Bool.{false≢true}
use Rattle.std.proofs.lemmas.List.Elements.{All-nil}
use Rattle.std.proofs.lemmas.Option.{none-some}
use Rattle.law_frame.specs.pg_run.pg_event.declared.event.Event.{Event}
use Rattle.law_frame.specs.pg_run.pg_intent.declared.intent.Intent.{Intent}
use Rattle.law_frame.specs.pg_run.pg_intent.Intent.{target_of}
use Rattle.law_frame.specs.pg_run.theory_flood.World.{after}
use Rattle.law_frame.proofs.pg_run.theory_flood.Flood.{after_itself}
use Rattle.law_frame.specs.pg_run.pg_store.declared.store.Store.{Store}
use Rattle.law_frame.specs.pg_run.pg_store.Store.{new_store}
use Rattle.law_frame.specs.pg_run.pg_server.Local.{effect}
use Rattle.law_frame.specs.pg_run.Run.{World, effect_step, run, world_after}
use Rattle.law_frame.proofs.pg_run.Frame.{Acts, each_after, holds_in_runs, no_server_comes}
use Rattle.law_frame.specs.pg_run.Run.{Taking}
use Rattle.law_frame.specs.pg_run.Views.{ViewsArePrefixes}
use Rattle.law_order.specs.Laws.{files_of}
use Rattle.law_order.specs.Named.{naming}
use Rattle.law_order.proofs.Ended.{IsAtRest}
use Rattle.law_order.proofs.Runs.{AreSound, acted, first_runs, is_away, sound_run}
use Rattle.law_intents.proofs.Effects.{IsGiven, effect_rests}
use Rattle.law_intents.proofs.Asked.{FlagsAreOfServers}
use Rattle.law_intents.proofs.Ends.{IsResting}
use Rattle.law_intents.proofs.Far.{Aims}
use Rattle.law_intents.proofs.Start.{none_seeks}

-- at each server
abbrev pub AllRest : ℕ → World → Type 0
AllRest n w = (s : ℕ) → IsResting n s (w.stores s)

first_rests : (n s : ℕ) → IsResting n s (new_store n s)
first_rests n s = record {
  servers = refl;
  server = refl;
  aims = All-nil (λ (i : Intent). Aims n s [] (target_of i));
  confirms = λ dir child there. absurd (false≢true there);
  seeks = λ least most file. sym (none_seeks n s least most file);
  patches = λ dir child e h. absurd (none-some e h);
  leaves = tt;
}

flags_at : (n s : ℕ) (files : ℕ → ℕ) (a : Store) → IsAtRest (naming n files) n s a → FlagsAreOfServers n a.names
flags_at n s files a k = record {
  own = λ file own at. (k.sound.named.said.own file own at).flags;
  cells = λ dir child e at. (k.sound.named.said.cells dir child e at).flags;
}

module _ (n : ℕ) (views : ViewsArePrefixes n) (events : List Event) (event : Event) (t : Taking) (act : Acts n (run n events) t) where
  abbrev Now : World
  Now = run n events

  abbrev Here : Store
  Here = Now.stores t.server

  abbrev Then : Store
  Then = (effect Here t.asked).store

  sound : AreSound n Now
  sound = sound_run n events

  later : AreSound n (world_after Now (effect_step Now event t.server t.asked))
  later = acted n Now sound t.server act.least act.most t.asked event act.came

  flags : FlagsAreOfServers n Then.names
  flags =
      let at : after Now.stores t.server Then t.server ≡ Then = after_itself Now.stores t.server Then in
      subst (λ (b : Store). FlagsAreOfServers n b.names) at
      (flags_at n t.server (files_of (after Now.stores t.server Then)) (after Now.stores t.server Then t.server) (later.servers t.server))

  given : IsGiven n t.server Here t.asked
  given = record {
    births = (sound.servers t.server).sound.births;
    keys = (sound.servers t.server).sound.keys;
    live = (views events t.server act.least act.most).edges;
    held = (sound.servers t.server).sound.whole;
    fresh = λ kind. is_away n t.server Here (files_of Now.stores) act.least refl (sound.servers t.server) kind;
    whole = first_runs n Now sound t.server act.least act.most t.asked act.came;
    flags = flags;
  }

  acted_rests : AllRest n Now → AllRest n (world_after Now (effect_step Now event t.server t.asked))
  acted_rests all = each_after (λ s b. IsResting n s b) Now.stores t.server Then all (effect_rests n t.server Here (all t.server) t.asked given)

-- IN EVERY RUN
pub all_rest : (n : ℕ) → ViewsArePrefixes n → (events : List Event) → AllRest n (run n events)
all_rest n views events =
    holds_in_runs n (AllRest n) (record {
      first = λ s. first_rests n s;
      idle = λ w event cause k. k;
      comes = λ past event server is k. absurd (no_server_comes event server is);
      acts = λ before event t is act k. acted_rests n views before event t act k;
    }) events
