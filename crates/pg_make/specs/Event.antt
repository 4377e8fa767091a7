-- Events that are drawn.
use Rattle.std.specs.Prelude.{ℕ, ◌+◌, List, ◌++◌, codes, decimal}
use Rattle.std.specs.Int.{w32, to_be_bytes}
use Rattle.pg_call.specs.declared.call.Call.{Call}
use Rattle.pg_call.specs.declared.call.Call.TheVariants as call
use Rattle.pg_event.specs.declared.event.Event.{Event}
use Rattle.pg_event.specs.declared.event.Event.TheVariants as event
use Rattle.pg_make.specs.Action.{next_action}
use Rattle.pg_make.specs.Draw.{below}
use Rattle.pg_make.specs.declared.action.Action.{Action}
use Rattle.pg_make.specs.declared.action.Action.TheVariants as action
use Rattle.pg_make.specs.declared.action.Request.{Request}
use Rattle.pg_make.specs.declared.action.Request.TheVariants as ask
use Rattle.pg_make.specs.declared.event.Choice.{Choice}
use Rattle.rand_pcg.specs.Lcg.{Lcg}
use Rattle.rand_pcg.specs.Pcg.{pcg32}

-- what is drawn for every event, in this order: the action, the server, the directory, the file
abbrev pub chosen : ℕ → Lcg → Choice × Lcg
chosen servers words =
    let action = next_action words in
    let server = below servers action.1 in
    let directory = below 4 server.1 in
    let file = below 8 directory.1 in (
      record {
        action = action.0;
        server = 1 + server.0;
        directory = directory.0;
        file = file.0;
      },
      file.1,
    )

abbrev pub directory_path : ℕ → List ℕ
directory_path directory = codes "/d" ++ decimal directory

abbrev pub file_path : ℕ → ℕ → List ℕ
file_path directory file = directory_path directory ++ (codes "/f" ++ decimal file)

-- the four bytes of the next word, the highest first
abbrev pub next_bytes : Lcg → List ℕ × Lcg
next_bytes words = (to_be_bytes w32 (pcg32 words).0, (pcg32 words).1)

-- a rename to a path that is drawn
abbrev pub next_rename : List ℕ → Lcg → Call × Lcg
next_rename from words =
    let directory = below 4 words in
    let file = below 8 directory.1 in
    (call.Rename from (file_path directory.0 file.0), file.1)

-- what is asked for, of this directory and this file
abbrev pub next_call : Request → ℕ → ℕ → Lcg → Call × Lcg
next_call ask.Mkdir directory file words = (call.Mkdir (directory_path directory), words)
next_call (ask.Create policy) directory file words =
    (call.Create (file_path directory file) policy, words)
next_call ask.Write directory file words =
    let bytes = next_bytes words in
    (call.Write (file_path directory file) 0 bytes.0, bytes.1)
next_call ask.Cut directory file words =
    let size = below 4096 words in
    (call.Cut (file_path directory file) size.0, size.1)
next_call ask.Rename directory file words = next_rename (file_path directory file) words
next_call ask.Unlink directory file words = (call.Unlink (file_path directory file), words)
next_call ask.Rmdir directory file words = (call.Rmdir (directory_path directory), words)
next_call ask.Read directory file words = (call.Read (file_path directory file) 0 16, words)

-- what happens at this moment, where this is chosen
abbrev pub next_act : Action → ℕ → ℕ → ℕ → ℕ → Lcg → Event × Lcg
next_act (action.Ask request) server moment directory file words =
    let asked = next_call request directory file words in
    (event.Call server moment asked.0, asked.1)
next_act action.Repeat server moment directory file words = (event.Repeat 1, words)
next_act action.Lose server moment directory file words = (event.Lose 1, words)
next_act action.Restart server moment directory file words = (event.Restart server, words)
next_act action.Tick server moment directory file words =
    (event.Tick server moment (pcg32 words).0, (pcg32 words).1)
next_act action.Deliver server moment directory file words =
    let number = below 4 words in
    (event.Deliver (1 + number.0), number.1)

-- the next event, in a run of so many servers, at this moment
abbrev pub next_event : ℕ → ℕ → Lcg → Event × Lcg
next_event servers moment words =
    let choice = chosen servers words in
    next_act choice.0.action choice.0.server moment choice.0.directory choice.0.file choice.1
