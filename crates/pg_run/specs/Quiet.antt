-- Whether all is done, and what a run waits for.
use Rattle.std.specs.Prelude.{[], ℕ, Bool, true, false, ◌≡◌, ◌==◌, if◌then◌else◌, List, ◌∷◌, ◌++◌, length, map, zero, suc}
use Rattle.pg_server.specs.pg_pieces.pg_msg.Sent.{summary}
use Rattle.pg_event.specs.declared.quiet.Cause.{Cause}
use Rattle.pg_event.specs.declared.quiet.Cause.TheVariants.{Message, Owed, View}
use Rattle.pg_event.specs.declared.quiet.Quiet.{Quiet}
use Rattle.pg_event.specs.declared.quiet.Quiet.TheVariants as quiet
use Rattle.pg_run.specs.Journal.{bag, removals}
use Rattle.pg_server.specs.Owing.{owed}
use Rattle.pg_server.specs.pg_pieces.pg_store.Seen.{view_of}
use Rattle.pg_run.specs.Run.{World, is_live}

-- no message is under way, each live server has entered the last removal, and none owes anything:
-- no intention, no key, and no place that it holds back
pub record IsQuiet (servers : ℕ) (w : World) : Type 0 where
  pub silent : bag w.journal ≡ []
  pub views : (server : ℕ) → is_live servers w server ≡ true
      → view_of (w.stores server) ≡ length (removals w.journal)
  pub nothing : (server : ℕ) → is_live servers w server ≡ true → owed (w.stores server) ≡ []

-- of the first so many servers, what each live one gives
abbrev pub of_live : {A : Type 0} → ℕ → World → (ℕ → List A) → ℕ → List A
of_live servers w of zero = []
of_live servers w of (suc k) =
    of_live servers w of k ++ (if is_live servers w (suc k) then of (suc k) else [])

-- a server is behind the last removal
abbrev pub lag : World → ℕ → List Cause
lag w server = if view_of (w.stores server) == length (removals w.journal) then []
    else View server (view_of (w.stores server)) ∷ []

-- all that a run waits for: first the messages, the oldest first, then, by server, the views that
-- lag behind, then what is owed
abbrev pub causes : ℕ → World → List Cause
causes servers w = map (λ m. Message (summary m)) (bag w.journal)
    ++ (of_live servers w (lag w) servers
    ++ of_live servers w (λ s. map Owed (owed (w.stores s))) servers)

abbrev pub first_of : List Cause → Quiet
first_of [] = quiet.Quiet
first_of (cause ∷ causes) = quiet.Waits cause

-- quiet, or the first thing that the run waits for
abbrev pub quiet_of : ℕ → World → Quiet
quiet_of servers w = first_of (causes servers w)

-- whether a list has anything
abbrev pub has_some : {A : Type 0} → List A → Bool
has_some [] = false
has_some (x ∷ xs) = true
