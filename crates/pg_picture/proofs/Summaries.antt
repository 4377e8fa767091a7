-- The messages under way that are drawn are those of the journal, by what they are.
use Rattle.std.proofs.Common.{ℕ, Bool, true, false, ◌≡◌, ◌+◌, ◌-◌, ◌==◌, List, [], ◌∷◌, ◌++◌, Option, None, Some, zero, suc, map, cond, filter, not, option_map, refl, ap, sym, ◌∙◌, if◌then◌else◌, set, take, drop, slice_get, slice_set, remove}
use Rattle.std.proofs.lemmas.List.{drop-map, map-append, map-set, take-map}
use Rattle.std.proofs.lemmas.Option.{slice_get-map}
use Rattle.pg_event.specs.declared.event.Event.{Event}
use Rattle.pg_event.specs.declared.event.Event.TheVariants as event
use Rattle.pg_msg.specs.declared.summary.Summary.{Summary}
use Rattle.pg_sched.specs.declared.line.Line.{Line}
use Rattle.pg_sched.specs.declared.line.Line.TheVariants as line
use Rattle.pg_trace.specs.declared.journal_line.JournalLine.{JournalLine}
use Rattle.pg_trace.specs.declared.journal_line.JournalLine.TheVariants as printed
use Rattle.pg_picture.specs.Counts.{copied, gone, gone_by, happened, is_to, line_event, moved, moved_by, under_way}
use Rattle.pg_picture.specs.Messages.{is_gone, message_at, split, with_copy, without}
use Rattle.pg_picture.specs.Note.{is_void, outcome_of}
use Rattle.pg_picture.specs.Sketch.{bag_after, happening_bag, happening_removed, line_bag, line_removed, removed_after, sent_now}
use Rattle.pg_picture.specs.declared.messages.Message.{Message}
use Rattle.pg_picture.specs.declared.sketch.Sketch.{Sketch}

-- what messages are
abbrev pub told : List Message → List Summary
told bag = map (λ m. m.summary) bag

abbrev pub told_of : Option Message → Option Summary
told_of o = option_map (λ m. m.summary) o

chosen_at : (test : Bool) (bag : List Message) (k : ℕ)
    → (if test then None else slice_get (told bag) k) ≡ told_of (if test then None else slice_get bag k)
chosen_at true bag k = refl
chosen_at false bag k = slice_get-map (λ m. m.summary) bag k

pub told_at : (bag : List Message) (n : ℕ) → message_at (told bag) n ≡ told_of (message_at bag n)
told_at bag n = chosen_at (n == 0) bag (n - 1)

told_removed : (bag : List Message) (k : ℕ) → told (remove bag k) ≡ remove (told bag) k
told_removed bag k = map-append (λ m. m.summary) (take k bag) (drop (suc k) bag)
    ∙ ap (λ r. r ++ told (drop (suc k) bag)) (sym (take-map (λ m. m.summary) k bag))
    ∙ ap (λ r. take k (told bag) ++ r) (sym (drop-map (λ m. m.summary) (suc k) bag))

told_without : (bag : List Message) (n : ℕ) (o : Option Message)
    → told (without bag n o) ≡ without (told bag) n (told_of o)
told_without bag n None = refl
told_without bag n (Some m) = told_removed bag (n - 1)

some_is : (a b : Summary) → Some a ≡ Some b → a ≡ b
some_is a b e = cc

set_same : (xs : List Summary) (k : ℕ) (x : Summary) → slice_get xs k ≡ Some x → set xs k x ≡ xs
set_same [] k x h = refl
set_same (y ∷ ys) zero x h = ap (λ z. z ∷ ys) (sym (some_is y x h))
set_same (y ∷ ys) (suc k) x h = ap (λ r. y ∷ r) (set_same ys k x h)

there : (test : Bool) (bag : List Message) (k : ℕ) (m : Message) → (if test then None else slice_get bag k) ≡ Some m
    → slice_get (told bag) k ≡ Some m.summary
there true bag k m e = absurd (cc)
there false bag k m h = slice_get-map (λ m. m.summary) bag k ∙ ap told_of h

told_copied : (bag : List Message) (n height : ℕ) (o : Option Message) → message_at bag n ≡ o
    → told (with_copy bag n height o) ≡ copied (told bag) (told_of o)
told_copied bag n height None h = refl
told_copied bag n height (Some m) h =
    map-append (λ m. m.summary) (slice_set bag (n - 1) (split m height)) (split m height ∷ [])
    ∙ ap (λ r. r ++ m.summary ∷ []) (map-set (λ m. m.summary) bag (n - 1) (split m height)
    ∙ set_same (told bag) (n - 1) m.summary (there (n == 0) bag (n - 1) m h))

told_kept : (keep : Bool) (m : Message) (ms : List Message) (xs : List Summary) → told ms ≡ xs
    → told (cond keep (m ∷ ms) ms) ≡ cond keep (m.summary ∷ xs) xs
told_kept true m ms xs same = ap (λ r. m.summary ∷ r) same
told_kept false m ms xs same = same

-- those that pass a test
pub told_filtered : (test : Summary → Bool) (bag : List Message)
    → told (filter (λ m. test m.summary) bag) ≡ filter test (told bag)
told_filtered test [] = refl
told_filtered test (m ∷ ms) = told_kept (test m.summary) m _ _ (told_filtered test ms)

told_by : (bag : List Message) (height : ℕ) (e : Event)
    → told (happening_bag bag height e) ≡ moved_by (told bag) e
told_by bag height (event.Deliver n) = told_without bag n (message_at bag n)
    ∙ ap (λ o. without (told bag) n o) (sym (told_at bag n))
told_by bag height (event.Lose n) = told_without bag n (message_at bag n)
    ∙ ap (λ o. without (told bag) n o) (sym (told_at bag n))
told_by bag height (event.Repeat n) = told_copied bag n height (message_at bag n) refl
    ∙ ap (λ o. copied (told bag) o) (sym (told_at bag n))
told_by bag height (event.Remove server) = told_filtered (λ m. not (is_to server m)) bag
told_by bag height e = refl

told_line : (bag : List Message) (height : ℕ) (l : Line)
    → told (line_bag bag height l) ≡ moved (told bag) (line_event l)
told_line bag height (line.Happens e) = told_by bag height e
told_line bag height l = refl

told_chosen : (test : Bool) (bag : List Message) (height : ℕ) (l : Line)
    → told (if test then bag else line_bag bag height l)
    ≡ moved (told bag) (if test then None else line_event l)
told_chosen true bag height l = refl
told_chosen false bag height l = told_line bag height l

told_sent : (late : Bool) (bag : List Message) (m : Message)
    → told (if late then bag else bag ++ m ∷ []) ≡ (if late then told bag else told bag ++ m.summary ∷ [])
told_sent true bag m = refl
told_sent false bag m = map-append (λ m. m.summary) bag (m ∷ [])

-- behind a line more
pub told_after : (s : Sketch) (p : JournalLine) (next : Option JournalLine)
    → told (bag_after s p next) ≡ under_way s.removed (told s.bag) p next
told_after s (printed.Event number what) next =
    told_chosen (is_void (outcome_of next)) s.bag (s.height + 2) what
told_after s (printed.Sent summary) next =
    told_sent (is_gone s.removed summary.to) s.bag (sent_now s summary)
told_after s p next = refl

-- ---- removed servers

gone_event : (removed : List ℕ) (e : Event) → happening_removed removed e ≡ gone_by removed e
gone_event removed (event.Remove server) = refl
gone_event removed e = refl

gone_line : (removed : List ℕ) (l : Line) → line_removed removed l ≡ gone removed (line_event l)
gone_line removed (line.Happens e) = gone_event removed e
gone_line removed l = refl

gone_chosen : (test : Bool) (removed : List ℕ) (l : Line)
    → (if test then removed else line_removed removed l) ≡ gone removed (if test then None else line_event l)
gone_chosen true removed l = refl
gone_chosen false removed l = gone_line removed l

pub gone_after : (s : Sketch) (p : JournalLine) (next : Option JournalLine)
    → removed_after s p next ≡ gone s.removed (happened p next)
gone_after s (printed.Event number what) next = gone_chosen (is_void (outcome_of next)) s.removed what
gone_after s p next = refl
