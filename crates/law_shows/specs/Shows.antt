-- What the lines of a `show` tell: the state of what the replicas of a thing took.
use Rattle.std.specs.Prelude.{ℕ, ◌≡◌, ◌-◌, ◌^◌, ◌↔◌, true, false, List, [], ◌∷◌, Some, length, map, min, take}
use Rattle.std.specs.List.Sorted.{IsStrictlySortedBy}
use Rattle.pg_run.specs.pg_base.declared.id.FileId.{FileId}
use Rattle.pg_run.specs.pg_base.declared.id.Kind.{Kind}
use Rattle.pg_run.specs.pg_base.declared.id.Kind.TheVariants.{Dir, File}
use Rattle.pg_run.specs.pg_base.declared.stamp.Stamp.{Stamp}
use Rattle.pg_run.specs.pg_base.Id.{file_cmp}
use Rattle.pg_run.specs.pg_base.Version.{stamp_of}
use Rattle.pg_run.specs.pg_content.Content.{ContentValue, shown_bytes}
use Rattle.pg_run.specs.pg_entries.Entry.{is_listed_entry}
use Rattle.pg_run.specs.pg_event.declared.event.Event.{Event}
use Rattle.pg_run.specs.pg_house.Facts.{is_among}
use Rattle.pg_run.specs.pg_names.Names.{is_full}
use Rattle.pg_run.specs.pg_register.Flag.{is_raised}
use Rattle.pg_run.specs.pg_replica.declared.replica.Replica.{Replica}
use Rattle.pg_run.specs.pg_store.Store.{replica_at}
use Rattle.pg_run.specs.Laws.{AtLive, content_taken}
use Rattle.pg_run.specs.Run.{World, is_live, run}
use Rattle.pg_run.specs.State.{entry_state, own_state}
use Rattle.pg_run.specs.Took.{is_held}
use Rattle.pg_trace.specs.declared.journal_line.JournalLine.TheVariants as printed
use Rattle.pg_trace.specs.declared.replica.ShownContent.{ShownContent}
use Rattle.pg_trace.specs.declared.replica.ShownContent.TheVariants as contents
use Rattle.pg_trace.specs.declared.replica.ShownReplica.{ShownReplica}
use Rattle.pg_replay.specs.Text.{shown_at, shown_lines}

-- ---- of a file

-- heads: the stamps of the heads of this content, in their order
-- count: how many bytes it shows, or the greatest number of 64 bits where they are more
-- first: the first 16 of these bytes
pub record IsOfContent (c : ContentValue) (heads : List Stamp) (count : ℕ) (first : List ℕ)
    : Type 0 where
  pub heads_are : heads ≡ map stamp_of c.heads
  pub count_is : count ≡ min (length (shown_bytes c)) (2 ^ 64 - 1)
  pub first_are : first ≡ take 16 (shown_bytes c)

-- ---- of a directory

-- children: the children that the directory lists by what it took of them, each once: those whose
--   place is live there, and stands in it
-- count: as many
pub record CountsChildren (w : World) (s : ℕ) (dir : FileId) (count : ℕ) : Type 0 where
  pub children : List FileId
  pub each_once : IsStrictlySortedBy file_cmp children
  pub listed : (child : FileId)
      → is_among child children ≡ is_listed_entry dir (entry_state dir child (w.took s))
  pub count_is : count ≡ length children

-- what is shown of a file is of the content that was taken; of a directory the children are counted
abbrev pub ShowsContent : World → ℕ → FileId → Kind → ShownContent → Type 0
ShowsContent w s id File (contents.File heads count first) =
    IsOfContent (content_taken w id s) heads count first
ShowsContent w s id Dir (contents.Dir count) = CountsChildren w s id count
ShowsContent w s id File (contents.Dir count) = ⊥
ShowsContent w s id Dir (contents.File heads count first) = ⊥

-- ---- of both

-- gold: where of the flags that were taken the server's own is raised, with the replica's birth
-- full: or filling
pub record ShowsState (w : World) (s : ℕ) (id : FileId) (r : ShownReplica) : Type 0 where
  pub server_is : r.server ≡ s
  pub id_is : r.id ≡ id
  pub place_is : r.place ≡ (own_state id (w.took s)).place
  pub gold_is : (x : Replica) × (replica_at (w.stores s) id ≡ Some x)
      × (r.gold ≡ is_raised (own_state id (w.took s)).flags s x.birth)
  pub full_is : r.full ≡ is_full (w.stores s).names id
  pub contents_are : ShowsContent w s id id.kind r.contents

-- a server shows nothing of what it does not hold, and of what it holds one line
pub record ShowsWhatItTook (servers : ℕ) (w : World) (id : FileId) (s : ℕ) : Type 0 where
  pub away : is_held id (w.took s) ≡ false → shown_at servers w id s ≡ []
  pub here : is_held id (w.took s) ≡ true → (r : ShownReplica)
      × (shown_at servers w id s ≡ printed.Replica r ∷ []) × ShowsState w s id r

-- each: of each live server the state of what it took
-- removed: another shows nothing
-- nowhere: that the thing is nowhere is told exactly where no live server holds it
pub record TellsStates (servers : ℕ) (w : World) (id : FileId) : Type 0 where
  pub each : AtLive servers w (ShowsWhatItTook servers w id)
  pub removed : (s : ℕ) → is_live servers w s ≡ false → shown_at servers w id s ≡ []
  pub nowhere : (shown_lines w id servers ≡ printed.Nowhere id ∷ [])
      ↔ AtLive servers w (λ s. is_held id (w.took s) ≡ false)

-- SHOWS ARE STATES: after any events
abbrev pub ShowsAreStates : ℕ → Type 0
ShowsAreStates servers = (events : List Event) (id : FileId)
    → TellsStates servers (run servers events) id
