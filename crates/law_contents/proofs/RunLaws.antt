-- What holds of contents after any events.
use Rattle.std.proofs.Common.{ℕ, ◌<◌, ◌^◌, List, option_map, refl, ap, ◌∙◌}
use Rattle.std.proofs.lemmas.List.Elements.{All-contains}
use Rattle.pg_run.specs.pg_base.declared.id.FileId.{FileId}
use Rattle.pg_run.specs.pg_base.declared.policy.Policy.{Policy}
use Rattle.pg_run.specs.pg_content.History.{IsHistory}
use Rattle.pg_run.specs.pg_content.StandsFor.{IsClosed, StandsFor, content_of}
use Rattle.pg_run.proofs.pg_content.Ancestry.{ancestry}
use Rattle.pg_run.proofs.pg_content.HeadsOf.{content_is, content_stands}
use Rattle.pg_run.proofs.pg_content.Standing.{same_content}
use Rattle.pg_run.specs.pg_event.declared.event.Event.{Event}
use Rattle.pg_run.specs.pg_msg.declared.message.Message.{Message}
use Rattle.pg_run.specs.pg_msg.declared.message.Message.TheVariants as message
use Rattle.pg_run.specs.pg_entries.declared.cell.Cell.{Cell}
use Rattle.pg_run.specs.pg_entries.declared.cell.Cell.TheVariants as cell
use Rattle.pg_run.specs.Histories.{AncestryByVectors, BringsVersion, CarriesHistory, MakesHistories, OneVersionAStamp, StateIsDetermined, StateIsItsHeads, TellsOfHistory}
use Rattle.pg_run.specs.Journal.{mail, versions}
use Rattle.pg_run.specs.Laws.{HoldsWhatItTook}
use Rattle.pg_run.specs.Run.{World, run}
use Rattle.pg_run.specs.State.{policy_made, versions_taken}
use Rattle.pg_run.proofs.Lists.{contained_among}
use Rattle.law_contents.specs.Together.{StandOn}
use Rattle.law_contents.proofs.Carrying.{Carries, CarriesCell, policies}
use Rattle.law_contents.proofs.Changes.{core_of}
use Rattle.law_contents.proofs.Runs.{IsSound, run_sound}
use Rattle.law_contents.proofs.Sending.{CarriesSent}
use Rattle.law_contents.proofs.Servers.{file_held}
use Rattle.law_contents.proofs.Sets.{taken_closed}
use Rattle.law_contents.proofs.Worlds.{IsNamed}

-- a message carries what it tells of
cell_tells : (w : World) (file : FileId) (c : Cell)
    → CarriesCell w.history (policies w.journal) file c → BringsVersion w file c
cell_tells w file (cell.Place place) h = tt
cell_tells w file (cell.Flag flag) h = tt
cell_tells w file (cell.Entry entry sure) h = tt
cell_tells w file (cell.Version v) h = h

message_tells : (w : World) (m : Message)
    → Carries w.history (policies w.journal) (IsNamed w.stores) m → TellsOfHistory w m
message_tells w (message.Cell ends tag c) h = cell_tells w ends.file c h
message_tells w (message.Harbinger ends tag head) h = h
message_tells w (message.Delta ends d) h = (h.0, h.1)
message_tells w (message.Piece ends q) h = h
message_tells w (message.Grant ends granted) h = h.0
message_tells w m h = tt

-- ---- after any events

module _ (n : ℕ) (small : n < 2 ^ 32) (both : StandOn n) (events : List Event) where
  abbrev end : World
  end = run n events

  sound : IsSound end
  sound = run_sound n small both events

  histories : (file : FileId) → IsHistory (versions file end.history)
  histories file = sound.made.histories file

  closed : (s : ℕ) (file : FileId)
      → IsClosed (versions file end.history) (versions_taken file end.history (end.took s))
  closed s file =
      taken_closed (versions file end.history) (histories file) _ ((sound.stands s).known file)

  abbrev policy : FileId → Policy
  policy file = policy_made file end.journal

  stands_for : (s : ℕ) (file : FileId)
      → StandsFor (content_of (policy file) (versions file end.history)
      (versions_taken file end.history (end.took s))) (versions file end.history)
      (versions_taken file end.history (end.took s))
  stands_for s file =
      content_stands (policy file) (versions file end.history) (histories file)
      (versions_taken file end.history (end.took s)) (closed s file)

-- MERGE
pub holds_what_it_took : (n : ℕ) → n < 2 ^ 32 → StandOn n → HoldsWhatItTook n
holds_what_it_took n small both events file s least most x is =
    let w = run n events in
    let h = versions file w.history in
    let set = versions_taken file w.history (w.took s) in
    let f = file_held ((sound n small both events).stands s) file (core_of x)
    (ap (option_map core_of) is) in
    content_is h (histories n small both events file) x.content set f.stood.stands
    ∙ ap (λ q. content_of q h set) f.policy

pub state_is_its_heads : (n : ℕ) → n < 2 ^ 32 → StandOn n → StateIsItsHeads n
state_is_its_heads n small both events s file = stands_for n small both events s file

pub state_is_determined : (n : ℕ) → n < 2 ^ 32 → StandOn n → StateIsDetermined n
state_is_determined n small both events file s t same =
    let w = run n events in
    let h = versions file w.history in
    let one = versions_taken file w.history (w.took s) in
    let two = versions_taken file w.history (w.took t) in
    same_content h (content_of (policy_made file w.journal) h one)
    (content_of (policy_made file w.journal) h two) one two (histories n small both events file)
    (stands_for n small both events s file) (stands_for n small both events t file) refl same

pub makes_histories : (n : ℕ) → n < 2 ^ 32 → StandOn n → MakesHistories n
makes_histories n small both events file = histories n small both events file

pub ancestry_by_vectors : (n : ℕ) → n < 2 ^ 32 → StandOn n → AncestryByVectors n
ancestry_by_vectors n small both events file u v p q =
    ancestry (versions file (run n events).history) (histories n small both events file) u v p q

pub carries_the_history : (n : ℕ) → n < 2 ^ 32 → StandOn n → CarriesHistory n
carries_the_history n small both events m under =
    let w = run n events in
    message_tells w m.packet.message
    (All-contains (CarriesSent w.history (policies w.journal) (IsNamed w.stores)) (mail w.journal) m
    (sound n small both events).carried under)

pub one_version_a_stamp : (n : ℕ) → n < 2 ^ 32 → StandOn n → OneVersionAStamp n
one_version_a_stamp n small both events u v p q same =
    let us = (run n events).history in
    (sound n small both events).made.one u v (contained_among us u p) (contained_among us v q) same
