-- What each event keeps further events keep.
use Rattle.std.proofs.Common.{[], List, ◌∷◌, ◌++◌, append_assoc, sym, subst}
use Rattle.std.proofs.lemmas.List.{append-nil}
use Rattle.pg_run.specs.pg_event.declared.event.Event.{Event}

-- what holds behind these events, and goes on by each event, holds behind all further ones
pub along : (P : List Event → Type 0) → ((before : List Event) (e : Event) → P before → P (before ++ e ∷ []))
    → (before events : List Event) → P before → P (before ++ events)
along P step before [] k = subst P (sym (append-nil before)) k
along P step before (e ∷ es) k =
    subst P (append_assoc before (e ∷ []) es) (along P step (before ++ e ∷ []) es (step before e k))
