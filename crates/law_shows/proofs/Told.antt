-- SHOWS ARE STATES: what all lines of a `show` tell.
use Rattle.std.proofs.Common.{ℕ, ◌≡◌, ◌++◌, Bool, true, false, cond, List, [], ◌∷◌, Option, None, Some, zero, suc, refl, sym, ap, subst, ◌∙◌}
use Rattle.std.proofs.lemmas.Bool.{false_from_ne_true}
use Rattle.pg_run.specs.pg_base.declared.id.FileId.{FileId}
use Rattle.pg_run.specs.pg_event.declared.event.Event.{Event}
use Rattle.pg_run.specs.pg_names.Names.{InodeValue, known}
use Rattle.pg_run.specs.pg_store.declared.store.Store.{Store}
use Rattle.pg_run.specs.Laws.{AtLive, HoldsWhatItTook, NamesMerge}
use Rattle.pg_run.specs.Quiet.{of_live}
use Rattle.pg_run.specs.Run.{World, is_live, run}
use Rattle.pg_run.specs.Took.{is_held}
use Rattle.pg_run.proofs.Frame.{live_is}
use Rattle.pg_run.proofs.QuietAnswers.{live_none, none_live}
use Rattle.law_order.specs.Laws.{NamesAreById, ServersAreWhole}
use Rattle.pg_trace.specs.declared.journal_line.JournalLine.{JournalLine}
use Rattle.pg_trace.specs.declared.journal_line.JournalLine.TheVariants as printed
use Rattle.pg_trace.specs.declared.replica.ShownReplica.{ShownReplica}
use Rattle.pg_replay.specs.Shown.{held_lines, lines_of}
use Rattle.pg_replay.specs.Text.{or_nowhere, shown_at, shown_lines, shows_lines}
use Rattle.law_shows.specs.Shows.{ShowsAreStates, ShowsState, ShowsWhatItTook, TellsStates}
use Rattle.law_shows.proofs.Shows.{away, here}

-- ---- lines of replicas

abbrev IsReplica : JournalLine → Type 0
IsReplica (printed.Replica r) = Unit {0}
IsReplica _ = ⊥

-- nothing, or a replica's line first
abbrev Begins : List JournalLine → Type 0
Begins [] = Unit {0}
Begins (line ∷ lines) = IsReplica line

begins_both : (xs ys : List JournalLine) → Begins xs → Begins ys → Begins (xs ++ ys)
begins_both [] ys h g = g
begins_both (x ∷ xs) ys h g = h

begins_lines : (s : ℕ) (a : Store) (id : FileId) (o : Option InodeValue) → Begins (lines_of s a id o)
begins_lines s a id None = tt
begins_lines s a id (Some x) = tt

begins_where : (t : Bool) (xs : List JournalLine) → Begins xs → Begins (cond t xs [])
begins_where true xs h = h
begins_where false xs h = tt

-- where nowhere is told, there is no other line
no_line : (id : FileId) (lines : List JournalLine) → Begins lines → or_nowhere id lines ≡ printed.Nowhere id ∷ [] → lines ≡ []
no_line id [] h e = refl
no_line id (line ∷ lines) h e = absurd (subst Begins e h)

one_is_some : (xs : List JournalLine) (line : JournalLine) → xs ≡ [] → xs ≡ line ∷ [] → ⊥
one_is_some xs line none one = let both : [] ≡ line ∷ [] = sym none ∙ one in cc

module _ (n : ℕ) (whole : ServersAreWhole n) (order : NamesAreById n) (held : HoldsWhatItTook n) (merge : NamesMerge n) (events : List Event) (id : FileId) where
  abbrev w : World
  w = run n events

  abbrev lines_at : ℕ → List JournalLine
  lines_at s = held_lines s (w.stores s) id

  -- ---- each server

  live_lines : (s : ℕ) → is_live n w s ≡ true → shown_at n w id s ≡ lines_at s
  live_lines s live = ap (λ (t : Bool). cond t (lines_at s) []) live

  nothing_here : (s : ℕ) → is_live n w s ≡ true → is_held id (w.took s) ≡ false → lines_at s ≡ []
  nothing_here s live h =
      let is = live_is n w s live in
      away n events s is.least is.most (whole events s is.least is.most) (order events s is.least is.most) held (merge events s is.least is.most) id h

  one_here : (s : ℕ) → is_live n w s ≡ true → is_held id (w.took s) ≡ true → (r : ShownReplica) × (lines_at s ≡ printed.Replica r ∷ []) × ShowsState w s id r
  one_here s live h =
      let is = live_is n w s live in
      here n events s is.least is.most (whole events s is.least is.most) (order events s is.least is.most) held (merge events s is.least is.most) id h

  shows : (s : ℕ) → is_live n w s ≡ true → ShowsWhatItTook n w id s
  shows s live = record {
    away = λ h. live_lines s live ∙ nothing_here s live h;
    here = λ h. let one = one_here s live h in (one.0, live_lines s live ∙ one.1, one.2);
  }

  -- ---- all

  all_is : (k : ℕ) → shows_lines n w id k ≡ of_live n w lines_at k
  all_is zero = refl
  all_is (suc k) = ap (λ (xs : List JournalLine). xs ++ shown_at n w id (suc k)) (all_is k)

  begins : (k : ℕ) → Begins (shows_lines n w id k)
  begins zero = tt
  begins (suc k) =
      begins_both (shows_lines n w id k) (shown_at n w id (suc k)) (begins k)
      (begins_where (is_live n w (suc k)) (lines_at (suc k)) (begins_lines (suc k) (w.stores (suc k)) id (known (w.stores (suc k)).names id)))

  nobody : shown_lines w id n ≡ printed.Nowhere id ∷ [] → AtLive n w (λ s. is_held id (w.took s) ≡ false)
  nobody told s live =
      let none = no_line id (shows_lines n w id n) (begins n) told in
      let nothing : lines_at s ≡ [] = live_none n w lines_at (sym (all_is n) ∙ none) s live in
      false_from_ne_true (is_held id (w.took s)) (λ h.
      let one = one_here s live h in
      one_is_some (lines_at s) (printed.Replica one.0) nothing one.1)

  told : AtLive n w (λ s. is_held id (w.took s) ≡ false) → shown_lines w id n ≡ printed.Nowhere id ∷ []
  told none = ap (or_nowhere id) (all_is n ∙ none_live n w lines_at n (λ s live. nothing_here s live (none s live)))

  tells : TellsStates n w id
  tells = record {
    each = shows;
    removed = λ s gone. ap (λ (t : Bool). cond t (lines_at s) []) gone;
    nowhere = (nobody, told);
  }

pub shows_are_states : (n : ℕ) → ServersAreWhole n → NamesAreById n → HoldsWhatItTook n → NamesMerge n → ShowsAreStates n
shows_are_states = λ n whole order held merge events id. tells n whole order held merge events id
