-- Along a run removals grow at their end; and an event in which a server takes an input removes
-- none.
use Rattle.std.proofs.Common.{[], ℕ, ◌≡◌, List, ◌∷◌, ◌++◌, Option, None, Some, refl, sym}
use Rattle.std.proofs.lemmas.List.{append-nil}
use Rattle.std.proofs.lemmas.Option.{none-some}
use Rattle.pg_event.specs.declared.entry.Entry.{Entry}
use Rattle.pg_event.specs.declared.entry.VoidCause.{VoidCause}
use Rattle.pg_event.specs.declared.event.Event.{Event}
use Rattle.pg_event.specs.declared.event.Event.TheVariants.{Remove}
use Rattle.pg_run.specs.Journal.{removals, removed_in}
use Rattle.pg_run.specs.Run.{Taking, World, taking_in}

grown_by : (event : Event) (void : Option VoidCause) (removed : List ℕ)
    → (xs : List ℕ) × (removed_in event void removed ≡ removed ++ xs)
grown_by (Remove server) None removed = (server ∷ [], refl)
grown_by (Remove server) (Some cause) removed = ([], sym (append-nil removed))
grown_by event void removed = ([], sym (append-nil removed))

pub removals_grow : (entry : Entry) (earlier : List Entry)
    → (xs : List ℕ) × (removals (entry ∷ earlier) ≡ removals earlier ++ xs)
removals_grow entry earlier = grown_by entry.event entry.void (removals earlier)

pub none_removed : (n : ℕ) (w : World) (event : Event) (t : Taking) → taking_in n w event ≡ Some t
    → (void : Option VoidCause) (removed : List ℕ) → removed_in event void removed ≡ removed
none_removed n w (Remove server) t is void removed = absurd (none-some t is)
none_removed n w event t is void removed = refl
