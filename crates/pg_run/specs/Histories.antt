-- What is to hold of versions in any run: the versions of a file are a history, what a server took
-- of it comes to heads, and messages carry versions of the history.
use Rattle.std.specs.Prelude.{ℕ, ◌⊎◌, ◌≡◌, ◌≤◌, ◌↔◌, ◌&&◌, not, List, Contains, map}
use Rattle.pg_base.specs.declared.head.Head.{Head}
use Rattle.pg_base.specs.declared.id.FileId.{FileId}
use Rattle.pg_base.specs.declared.policy.Policy.{Policy}
use Rattle.pg_base.specs.declared.stamp.Stamp.{Stamp}
use Rattle.pg_base.specs.Vector.{Covers}
use Rattle.pg_content.specs.Content.{Among, ContentValue}
use Rattle.pg_content.specs.History.{IsAncestor, IsHistory, Made, body_of, maker, number_of, vector_of}
use Rattle.pg_content.specs.StandsFor.{StandsFor}
use Rattle.pg_delta.specs.Leading.{IsTrueDelta}
use Rattle.pg_delta.specs.Taking.{delta_to}
use Rattle.pg_entries.specs.declared.cell.Cell.{Cell}
use Rattle.pg_entries.specs.declared.cell.Cell.TheVariants as cell
use Rattle.pg_server.specs.pg_pieces.pg_msg.declared.message.Delta.{Delta}
use Rattle.pg_server.specs.pg_pieces.pg_msg.declared.message.Message.{Message}
use Rattle.pg_server.specs.pg_pieces.pg_msg.declared.message.Message.TheVariants as message
use Rattle.pg_server.specs.pg_pieces.pg_msg.declared.message.Piece.{Piece}
use Rattle.pg_server.specs.pg_pieces.pg_msg.declared.message.Sent.{Sent}
use Rattle.pg_event.specs.declared.entry.Entry.{Entry}
use Rattle.pg_event.specs.declared.event.Event.{Event}
use Rattle.pg_server.specs.pg_pieces.pg_store.Store.{has_time, have_own_flag_at_end, is_before_clock_end}
use Rattle.theory_bodies.specs.Book.{IsHeadOf, IsVersionOf}
use Rattle.theory_bodies.specs.Telling.{IsSlice}
use Rattle.pg_run.specs.Journal.{Born, made_versions, mail, versions}
use Rattle.pg_run.specs.State.{policy_made, versions_taken}
use Rattle.pg_run.specs.Laws.{content_taken}
use Rattle.pg_run.specs.Run.{World, run}

-- ---- runs

-- what happened in the run of these events, the latest first
abbrev pub journal_after : ℕ → List Event → List Entry
journal_after servers events = (run servers events).journal

-- the history of a file then
abbrev pub versions_after : ℕ → List Event → FileId → List Made
versions_after servers events file = versions file (run servers events).history

-- which versions of it a server took, and what these come to
abbrev pub taken_after : ℕ → List Event → ℕ → FileId → List Stamp
taken_after servers events server file =
    versions_taken file (run servers events).history ((run servers events).took server)

abbrev pub content_after : ℕ → List Event → ℕ → FileId → ContentValue
content_after servers events server file =
    content_taken (run servers events) file server

-- ---- histories

-- each version has a stamp of its own, and is made on versions that were made before it, on all
-- that its maker had made before among them
abbrev pub MakesHistories : ℕ → Type 0
MakesHistories servers =
    (events : List Event) (file : FileId) → IsHistory (versions_after servers events file)

-- no two versions that were made, be it of two files, have one stamp
abbrev pub OneVersionAStamp : ℕ → Type 0
OneVersionAStamp servers = (events : List Event) (u v : Born)
    → Contains (run servers events).history u → Contains (run servers events).history v
    → u.made.stamp ≡ v.made.stamp → u ≡ v

-- the history has the versions that the entries tell of, in their order
abbrev pub HistoryIsWhatWasMade : ℕ → Type 0
HistoryIsWhatWasMade servers = (events : List Event)
    → map (λ u. u.made) (run servers events).history
    ≡ made_versions (journal_after servers events)

-- ANCESTRY BY VECTORS: a version's vector covers exactly the version itself and its ancestors
abbrev pub IsToldByVectors : List Made → Made → Made → Type 0
IsToldByVectors h u v =
    Covers (vector_of h v.stamp) (maker u) (number_of h u)
    ↔ ((u ≡ v) ⊎ IsAncestor h u.stamp v.stamp)

abbrev pub AncestryByVectors : ℕ → Type 0
AncestryByVectors servers = (events : List Event) (file : FileId) (u v : Made)
    → Among u (versions_after servers events file) → Among v (versions_after servers events file)
    → IsToldByVectors (versions_after servers events file) u v

-- ---- what versions come to

-- the content of what a server took is its heads, whole and by stamp: the versions that are
-- ancestors of no other. Each other one is an ancestor of one of them
abbrev pub StateIsItsHeads : ℕ → Type 0
StateIsItsHeads servers = (events : List Event) (server : ℕ) (file : FileId)
    → StandsFor (content_after servers events server file) (versions_after servers events file)
    (taken_after servers events server file)

-- two servers that took the same versions of a file come to the same content of it, in whatever
-- order these came
abbrev pub StateIsDetermined : ℕ → Type 0
StateIsDetermined servers = (events : List Event) (file : FileId) (s t : ℕ)
    → ((x : Stamp)
    → Among x (taken_after servers events s file) ↔ Among x (taken_after servers events t file))
    → content_after servers events s file ≡ content_after servers events t file

-- ---- what messages carry

-- the version that a cell brings is one of the history of its file, with the vector and the body
-- that it has there, where it brings one
abbrev pub BringsVersion : World → FileId → Cell → Type 0
BringsVersion w file (cell.Place place) = Unit {0}
BringsVersion w file (cell.Flag flag) = Unit {0}
BringsVersion w file (cell.Entry entry sure) = Unit {0}
BringsVersion w file (cell.Version v) =
    IsVersionOf (policy_made file w.journal) (versions file w.history) v

-- the head is that of a version of the history, with the vector and the length that it has there
abbrev pub TellsHead : World → FileId → Head → Type 0
TellsHead w file head = IsHeadOf (policy_made file w.journal) (versions file w.history) head

-- the change makes the body of the version of what those that it starts from show, all as in the
-- history
abbrev pub TellsChange : World → FileId → Delta → Type 0
TellsChange w file d = IsTrueDelta (policy_made file w.journal) (versions file w.history)
    (delta_to d.from d.head.stamp d.ranges)

-- the bytes are those that the body of the version has at the offset
abbrev pub TellsBytes : World → FileId → Piece → Type 0
TellsBytes w file p = IsSlice
    (body_of (policy_made file w.journal) (versions file w.history) p.head.stamp) p.offset p.bytes

-- and a grant names the policy of its file
abbrev pub TellsOfHistory : World → Message → Type 0
TellsOfHistory w (message.Cell ends tag c) = BringsVersion w ends.file c
TellsOfHistory w (message.Harbinger ends tag head) = TellsHead w ends.file head
TellsOfHistory w (message.Delta ends d) = TellsHead w ends.file d.head × TellsChange w ends.file d
TellsOfHistory w (message.Piece ends p) = TellsHead w ends.file p.head × TellsBytes w ends.file p
TellsOfHistory w (message.Grant ends granted) = granted.policy ≡ policy_made ends.file w.journal
TellsOfHistory w _ = Unit {0}

-- each message that was ever sent and tells of a version tells of one of the history, as it is
-- there: be it whole, by its head alone, as a change, or by bytes of its body
abbrev pub CarriesHistory : ℕ → Type 0
CarriesHistory servers = (events : List Event) (m : Sent)
    → Contains (mail (journal_after servers events)) m
    → TellsOfHistory (run servers events) m.packet.message

-- ---- clocks

-- no server comes to the end of the numbers of its versions before it comes to the end of its
-- stamps, tags, ids or births: so its clock is at its end exactly where one of these is, or the
-- number of one of its flags
abbrev pub ClockEndsFirst : ℕ → Type 0
ClockEndsFirst servers = (events : List Event) (server : ℕ) → 1 ≤ server → server ≤ servers
    → let a = (run servers events).stores server in
    is_before_clock_end a ≡ (has_time a.names.last a.tags a.files a.births
    && not (have_own_flag_at_end a.names))
