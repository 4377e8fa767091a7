-- Calls that write and read the bodies of files.
use Rattle.std.specs.Prelude.{ℕ, ◌≡◌, ◌<◌, List, length, take, drop, Result, Ok, Err}
use Rattle.pg_base.specs.declared.id.FileId.{FileId}
use Rattle.pg_patch.specs.declared.error.RangeError.{RangeError}
use Rattle.pg_patch.specs.declared.error.RangeError.TheVariants as ranges_error
use Rattle.pg_patch.specs.Ranges.{RangesValue, applied, cut_to, written}
use Rattle.pg_content.specs.Content.{body_limit, shown_bytes}
use Rattle.pg_cells.specs.pg_replica.Replica.{has_many_actors, is_too_long}
use Rattle.pg_cells.specs.pg_msg.declared.work.Work.{Work}
use Rattle.pg_cells.specs.pg_call.declared.refusal.Refusal.TheVariants.{TooLong, ManyActors}
use Rattle.pg_cells.specs.pg_call.declared.reply.Reply.TheVariants.{Bytes, Wrote}
use Rattle.pg_checks.specs.pg_lookup.declared.paths.LookupError.{LookupError}
use Rattle.pg_checks.specs.pg_lookup.Walk.{and_then}
use Rattle.pg_cells.specs.pg_store.declared.store.Store.{Store}
use Rattle.pg_cells.specs.pg_store.Seen.{server_of}
use Rattle.pg_cells.specs.pg_store.Store.{content_of, replica_of}
use Rattle.pg_cells.specs.pg_pieces.Done.{idle}
use Rattle.pg_checks.specs.Answer.{Answer, answer, answered, replied, unless}
use Rattle.pg_checks.specs.Checks.{file_at}
use Rattle.pg_calls.specs.Making.{drawn, make_version}

-- ---- writing

-- the new body is not too long, and then the new vector has not too many actors
abbrev pub when_fit : Store → RangesValue → FileId → Result FileId LookupError
when_fit store ranges file =
    and_then (unless (is_too_long (replica_of store file) ranges) TooLong file)
    (λ fit. unless (has_many_actors (replica_of store fit) (server_of store)) ManyActors fit)

-- a version of a file is made with these ranges
abbrev pub change_file : Store → RangesValue → Work → FileId → Answer
change_file store ranges work file =
    answered store work (when_fit store ranges file)
    (λ fit. answer (make_version fit (drawn store work.now) ranges (idle store work))
    (Wrote (drawn store work.now)))

-- of the file that the path leads to
abbrev pub change : Store → List ℕ → RangesValue → Work → Answer
change store text ranges work =
    answered store work (file_at store text) (change_file store ranges work)

-- these bytes stand at the offset
abbrev pub write : Store → List ℕ → ℕ → List ℕ → Work → Answer
write store text offset bytes work = change store text (written offset bytes) work

-- the body has this length
abbrev pub cut : Store → List ℕ → ℕ → Work → Answer
cut store text length work = change store text (cut_to length) work

-- ---- how the program makes the ranges

-- whatever the body was, these ranges make one of it that is too long
abbrev pub IsAlwaysTooLong : RangesValue → Type 0
IsAlwaysTooLong ranges = (body : List ℕ) → body_limit < length (applied body ranges)

-- they were made, or are too long for every body; where memory ran out nothing is said
abbrev pub Makes : Result RangesValue RangeError → RangesValue → Type 0
Makes (Ok made) ranges = made ≡ ranges
Makes (Err ranges_error.TooLong) ranges = IsAlwaysTooLong ranges
Makes (Err ranges_error.OutOfMemory) ranges = Unit {0}

-- ---- reading

-- what is shown from the offset on, at most so many bytes
abbrev pub shown_part : Store → FileId → ℕ → ℕ → List ℕ
shown_part store file offset count = take count (drop offset (shown_bytes (content_of store file)))

abbrev pub read : Store → List ℕ → ℕ → ℕ → Work → Answer
read store text offset count work =
    replied store work (file_at store text)
    (λ file. Bytes (shown_part store file offset count))
