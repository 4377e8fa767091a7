-- What is told of any run suits: each entry, what the run waits for, and the places that are shown.
use Rattle.std.proofs.Common.{ℕ, zero, suc, ◌==◌, cond, true, List, [], ◌∷◌, ◌++◌, map, length, All, refl, inl}
use Rattle.std.proofs.lemmas.List.Elements.{All-append, All-cons, All-head, All-nil, All-tail}
use Rattle.std.proofs.lemmas.Option.{none-some}
use Rattle.law_frame.specs.pg_run.pg_event.declared.event.Event.{Event}
use Rattle.law_frame.specs.pg_run.pg_event.declared.quiet.Cause.{Cause}
use Rattle.law_frame.specs.pg_run.pg_event.declared.quiet.Cause.TheVariants.{Message, Owed, View}
use Rattle.law_frame.specs.pg_run.pg_event.declared.quiet.Owing.{Owing}
use Rattle.law_frame.specs.pg_run.pg_msg.declared.message.Sent.{Sent}
use Rattle.law_frame.specs.pg_run.pg_msg.Sent.{summary}
use Rattle.law_frame.specs.pg_run.pg_names.Names.{new_names}
use Rattle.law_frame.specs.pg_run.pg_register.Place.{root}
use Rattle.law_frame.specs.pg_run.pg_store.Start.{root_own}
use Rattle.law_frame.specs.pg_run.pg_store.Seen.{view_of}
use Rattle.law_frame.proofs.pg_run.pg_house.Truths.{chosen}
use Rattle.law_frame.specs.pg_run.pg_server.Owing.{owed}
use Rattle.law_frame.specs.pg_run.Journal.{bag, removals}
use Rattle.law_frame.specs.pg_run.Quiet.{causes, first_of, lag, of_live}
use Rattle.law_frame.specs.pg_run.Run.{World, is_live, run, start}
use Rattle.law_frame.proofs.pg_run.Frame.{all_under_way, holds_in_runs, no_server_comes}
use Rattle.pg_trace.specs.Suited.{SuitsCause, SuitsQuiet}
use Rattle.law_printable.specs.Laws.{AnswersSuit, EntriesSuit, PlacesSuit}
use Rattle.law_printable.proofs.Entries.{RunSuits, acted_suits, idle_suits, next_suits}
use Rattle.law_printable.proofs.Intents.{SuitsIntent}
use Rattle.law_printable.proofs.Messages.{AllSuit, Suits}
use Rattle.law_printable.proofs.Places.{NamesSuit, begin_suits, suits_place}

-- ---- any run

new_suits : (server : ℕ) → NamesSuit (new_names server)
new_suits server = λ f x h. absurd (none-some x h)

start_suits : (n : ℕ) → RunSuits (start n)
start_suits n = record {
  stores = λ server. record {
    names = begin_suits (new_names server) root (root_own n) true (record { parent = refl; name = inl (refl, refl) }) (new_suits server);
    intents = All-nil SuitsIntent;
  };
  mailed = All-nil Suits;
}

run_suits : (n : ℕ) (events : List Event) → RunSuits (run n events)
run_suits n events =
    holds_in_runs n RunSuits (record {
      first = start_suits n;
      idle = λ w e cause k. (idle_suits w e cause k).behind;
      comes = λ past event server is k. absurd (no_server_comes event server is);
      acts = λ some e t taken acts k. (acted_suits n (run n some) k e t taken).behind;
    }) events

pub entries : (n : ℕ) → EntriesSuit n
entries n events e k = (next_suits n (run n events) (run_suits n events) e).entry k

-- ---- the first thing that is waited for

first : (cs : List Cause) → All SuitsCause cs → SuitsQuiet (first_of cs)
first [] h = tt
first (c ∷ cs) h = All-head SuitsCause c cs h

messages : (ms : List Sent) → AllSuit ms → All SuitsCause (map (λ m. Message (summary m)) ms)
messages [] h = All-nil SuitsCause
messages (m ∷ ms) h =
    All-cons SuitsCause (Message (summary m)) (map (λ x. Message (summary x)) ms) (All-head Suits m ms h).told
    (messages ms (All-tail Suits m ms h))

owings : (os : List Owing) → All SuitsCause (map Owed os)
owings [] = All-nil SuitsCause
owings (o ∷ os) = All-cons SuitsCause (Owed o) (map Owed os) tt (owings os)

module _ (n : ℕ) (w : World) where
  lagging : (server : ℕ) → All SuitsCause (lag w server)
  lagging server =
      let view = view_of (w.stores server) in
      chosen (All SuitsCause) (view == length (removals w.journal)) [] (View server view ∷ []) (All-nil SuitsCause)
      (All-cons SuitsCause (View server view) [] tt (All-nil SuitsCause))

  of_each : (of : ℕ → List Cause) → ((server : ℕ) → All SuitsCause (of server)) → (k : ℕ) → All SuitsCause (of_live n w of k)
  of_each of each zero = All-nil SuitsCause
  of_each of each (suc k) =
      let here = of (suc k) in
      let live = is_live n w (suc k) in
      All-append SuitsCause (of_live n w of k) (cond live here []) (of_each of each k)
      (chosen (All SuitsCause) live here [] (each (suc k)) (All-nil SuitsCause))

pub answers : (n : ℕ) → AnswersSuit n
answers n events =
    let w = run n events in
    let owes = λ (server : ℕ). map Owed (owed (w.stores server)) in
    let sent = all_under_way Suits w.journal (run_suits n events).mailed in
    first (causes n w)
    (All-append SuitsCause (map (λ m. Message (summary m)) (bag w.journal)) (of_live n w (lag w) n ++ of_live n w owes n)
    (messages (bag w.journal) sent)
    (All-append SuitsCause (of_live n w (lag w) n) (of_live n w owes n) (of_each n w (lag w) (lagging n w) n)
    (of_each n w owes (λ server. owings (owed (w.stores server))) n)))

-- ---- what is shown

pub places : (n : ℕ) → PlacesSuit n
places n events server f x h = suits_place f x.own.place (((run_suits n events).stores server).names f x h).own
