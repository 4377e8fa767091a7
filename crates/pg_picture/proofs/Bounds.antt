-- How much higher a picture gets by one line, and how many more messages are under way.
use Rattle.std.proofs.Common.{ℕ, Bool, true, false, ◌≡◌, ◌+◌, ◌-◌, ◌≤◌, ◌<◌, List, [], ◌∷◌, ◌++◌, Option, None, Some, cond, filter, length, not, refl, arith, if◌then◌else◌, slice_set}
use Rattle.std.specs.List.{slice_get}
use Rattle.std.proofs.lemmas.List.Edits.{length-remove}
use Rattle.std.proofs.lemmas.List.{length-append, length-set}
use Rattle.std.proofs.lemmas.Option.{slice_get_within}
use Rattle.pg_event.specs.declared.event.Event.{Event}
use Rattle.pg_event.specs.declared.event.Event.TheVariants as event
use Rattle.pg_sched.specs.declared.line.Line.{Line}
use Rattle.pg_sched.specs.declared.line.Line.TheVariants as line
use Rattle.pg_trace.specs.declared.journal_line.JournalLine.{JournalLine}
use Rattle.pg_trace.specs.declared.journal_line.JournalLine.TheVariants as printed
use Rattle.pg_trace.specs.declared.journal_line.AskedAt.{AskedAt}
use Rattle.pg_trace.specs.declared.journal_line.AskedAt.TheVariants as word
use Rattle.pg_picture.specs.Messages.{is_for, is_gone, message_at, split, with_copy, without}
use Rattle.pg_picture.specs.Note.{is_void, outcome_of}
use Rattle.pg_picture.specs.Sketch.{bag_after, happening_bag, happening_height, height_after, line_bag, line_height, rise, sent_now, word_rise}
use Rattle.pg_picture.specs.declared.messages.Message.{Message}
use Rattle.pg_picture.specs.declared.sketch.Sketch.{Sketch}

word_rise_most : (w : AskedAt) → word_rise w ≤ 2
word_rise_most word.Settle = omega arith
word_rise_most word.Quiet = omega arith
word_rise_most word.End = omega arith

-- one line makes the picture at most two lines of text higher
pub rise_most : (p : JournalLine) → rise p ≤ 2
rise_most (printed.Asked word state) = word_rise_most word
rise_most p = omega arith

there : (test : Bool) (bag : List Message) (n : ℕ) (m : Message) → (if test then None else slice_get bag (n - 1)) ≡ Some m
    → n - 1 < length bag
there true bag n m e = absurd (cc)
there false bag n m found = slice_get_within bag (n - 1) m found

without_most : (bag : List Message) (n : ℕ) (o : Option Message) → message_at bag n ≡ o
    → length (without bag n o) ≤ length bag + 1
without_most bag n None found = omega arith
without_most bag n (Some m) found =
    let gone = length-remove bag (n - 1) (there _ bag n m found) in omega arith

copy_most : (bag : List Message) (n height : ℕ) (o : Option Message)
    → length (with_copy bag n height o) ≤ length bag + 1
copy_most bag n height None = omega arith
copy_most bag n height (Some m) =
    let k = split m height in
    omega (arith, length-append (slice_set bag (n - 1) k) (k ∷ []), length-set bag (n - 1) k)

one_parted : (test : Bool) (m : Message) (those others : List Message)
    → length (cond test (m ∷ those) those) + length (cond (not test) (m ∷ others) others)
    ≡ length those + length others + 1
one_parted true m those others = omega arith
one_parted false m those others = omega arith

-- those that pass a test and the others are all
parted : (test : Message → Bool) (bag : List Message)
    → length (filter test bag) + length (filter (λ m. not (test m)) bag) ≡ length bag
parted test [] = refl
parted test (m ∷ ms) =
    let one = one_parted (test m) m (filter test ms) (filter (λ m. not (test m)) ms) in
    let more = parted test ms in
    omega arith

happening_most : (bag : List Message) (height : ℕ) (e : Event)
    → happening_height bag height e + length (happening_bag bag height e) ≤ height + length bag + 1
happening_most bag height (event.Deliver n) = let most = without_most bag n _ refl in omega arith
happening_most bag height (event.Lose n) = let most = without_most bag n _ refl in omega arith
happening_most bag height (event.Repeat n) = let most = copy_most bag n height (message_at bag n) in omega arith
happening_most bag height (event.Remove server) = let all = parted (is_for server) bag in omega arith
happening_most bag height e = omega arith

line_most : (bag : List Message) (height : ℕ) (l : Line)
    → line_height bag height l + length (line_bag bag height l) ≤ height + length bag + 1
line_most bag height (line.Happens e) = happening_most bag height e
line_most bag height l = omega arith

chosen : (test : Bool) (bag : List Message) (height : ℕ) (l : Line)
    → (if test then height else line_height bag height l) + length (if test then bag else line_bag bag height l)
    ≤ height + length bag + 1
chosen true bag height l = omega arith
chosen false bag height l = line_most bag height l

sent_most : (late : Bool) (height : ℕ) (bag : List Message) (m : Message)
    → (if late then height + 1 else height) + length (if late then bag else bag ++ m ∷ []) ≤ height + length bag + 3
sent_most true height bag m = omega arith
sent_most false height bag m = omega (arith, length-append bag (m ∷ []))

-- one line brings at most two lines of text and one message more
pub room_most : (s : Sketch) (p : JournalLine) (next : Option JournalLine)
    → height_after s p next + length (bag_after s p next) ≤ s.height + length s.bag + 3
room_most s (printed.Event number what) next =
    let most = chosen (is_void (outcome_of next)) s.bag (s.height + 2) what in omega arith
room_most s (printed.Sent summary) next =
    sent_most (is_gone s.removed summary.to) s.height s.bag (sent_now s summary)
room_most s p next = let most = rise_most p in omega arith
