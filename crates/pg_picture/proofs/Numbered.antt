-- As many ends are drawn as the journal has events of their kind: whatever an event moves is there.
use Rattle.std.proofs.Common.{ℕ, Bool, true, false, ◌≡◌, ◌+◌, ◌&&◌, ◌||◌, ◌==◌, List, [], ◌∷◌, Option, None, Some, length, length-append, refl, ap, sym, ◌∙◌, is_some, nat_lt, if◌then◌else◌, slice_get}
use Rattle.pg_event.specs.declared.event.Event.{Event}
use Rattle.pg_event.specs.declared.event.Event.TheVariants as event
use Rattle.pg_msg.specs.declared.summary.Summary.{Summary}
use Rattle.pg_sched.specs.declared.line.Line.{Line}
use Rattle.pg_sched.specs.declared.line.Line.TheVariants as line
use Rattle.pg_trace.specs.declared.journal_line.JournalLine.{JournalLine}
use Rattle.pg_trace.specs.declared.journal_line.JournalLine.TheVariants as printed
use Rattle.pg_picture.specs.Counts.{IsWholePicture, count, count_of, ended_by, ended_from, ends, event_ended, gone, happened, is_same_end, left_over, line_ended, line_event, listed, under_way}
use Rattle.pg_picture.specs.Course.{after, greatest_server, happening_has_message, has_message, is_due, lack_of}
use Rattle.pg_picture.specs.Messages.{is_gone, message_at}
use Rattle.pg_picture.specs.Note.{is_void, outcome_of}
use Rattle.pg_picture.specs.Part.{may_follow, part_of}
use Rattle.pg_picture.specs.Picture.{Drawing, draw, draw_from, empty, or_lack, start}
use Rattle.pg_picture.specs.Picture.Drawing.{Drawn}
use Rattle.pg_picture.specs.Sketch.{drawn, removed_after}
use Rattle.pg_picture.specs.declared.course.Course.{Course}
use Rattle.pg_picture.specs.declared.lack.Lack.{Lack}
use Rattle.pg_picture.specs.declared.lack.Lack.TheVariants as lack
use Rattle.pg_picture.specs.declared.mark.LegEnd.{LegEnd}
use Rattle.pg_picture.specs.declared.mark.LegEnd.TheVariants as ending
use Rattle.pg_picture.specs.declared.messages.Message.{Message}
use Rattle.pg_picture.specs.declared.sketch.Sketch.{Sketch}
use Rattle.pg_picture.proofs.Counted.{line_drawn, marks_from, ways_from}
use Rattle.pg_picture.proofs.Summaries.{gone_after, told, told_after, told_at, told_of}

-- ---- an event of a line that lacks nothing finds its message

found_one : (o : Option Message) → is_some o ≡ true → length (listed (told_of o)) ≡ 1
found_one None e = absurd (cc)
found_one (Some m) h = refl

one_there : (bag : List Message) (n : ℕ) → is_some (message_at bag n) ≡ true
    → length (listed (message_at (told bag) n)) ≡ 1
one_there bag n h = ap (λ o. length (listed o)) (told_at bag n) ∙ found_one (message_at bag n) h

event_counted : (E : LegEnd) (bag : List Message) (e : Event) → is_same_end E ending.Fallen ≡ false
    → happening_has_message bag e ≡ true
    → length (ended_by E (told bag) e) ≡ (if ends E e then 1 else 0)
event_counted ending.Delivered bag (event.Deliver n) other h = one_there bag n h
event_counted ending.Delivered bag e other h = refl
event_counted ending.Lost bag (event.Lose n) other h = one_there bag n h
event_counted ending.Lost bag e other h = refl
event_counted ending.Copied bag (event.Repeat n) other h = one_there bag n h
event_counted ending.Copied bag e other h = refl
event_counted ending.Fallen bag e other h = absurd (cc)
event_counted ending.UnderWay bag e other h = refl

line_counted : (E : LegEnd) (bag : List Message) (l : Line) → is_same_end E ending.Fallen ≡ false
    → has_message bag l ≡ true
    → length (event_ended E (told bag) (line_event l)) ≡ count_of E (line_event l)
line_counted E bag (line.Happens e) other h = event_counted E bag e other h
line_counted E bag l other h = refl

chosen_counted : (void : Bool) (E : LegEnd) (bag : List Message) (l : Line) → is_same_end E ending.Fallen ≡ false
    → (void || has_message bag l) ≡ true
    → length (event_ended E (told bag) (if void then None else line_event l))
    ≡ count_of E (if void then None else line_event l)
chosen_counted true E bag l other h = refl
chosen_counted false E bag l other h = line_counted E bag l other h

sent_counted : (late same : Bool) (m : Summary) → same ≡ false
    → length (if late && same then m ∷ [] else []) ≡ 0
sent_counted true true m other = absurd (cc)
sent_counted true false m other = refl
sent_counted false same m other = refl

lacks_none : (due far full there : Bool)
    → (if due then (if far then Some lack.Server else (if full then Some lack.Events
    else (if there then None else Some lack.Message))) else Some lack.Full) ≡ None
    → there ≡ true
lacks_none false far full there e = absurd (cc)
lacks_none true true full there e = absurd (cc)
lacks_none true false true there e = absurd (cc)
lacks_none true false false true h = refl
lacks_none true false false false e = absurd (cc)

printed_counted : (E : LegEnd) (c : Course) (removed : List ℕ) (bag : List Message) (p : JournalLine)
    (next : Option JournalLine) → is_same_end E ending.Fallen ≡ false → lack_of c bag p next ≡ None
    → length (line_ended E removed (told bag) p next) ≡ count_of E (happened p next)
printed_counted E c removed bag (printed.Event number what) next other h =
    chosen_counted (is_void (outcome_of next)) E bag what other
    (lacks_none (may_follow c.before (part_of (printed.Event number what)) && is_due c bag (printed.Event number what))
    (nat_lt 64 (greatest_server (printed.Event number what) next)) (c.left == 0) _ h)
printed_counted E c removed bag (printed.Sent summary) next other h =
    sent_counted (is_gone removed summary.to) (is_same_end E ending.Fallen) summary other
printed_counted E c removed bag p next other h = refl

-- ---- all lines

none_lacks : (o : Option Lack) (n : ℕ) (d : Drawing) (z : Sketch) → or_lack o n d ≡ Drawn z → o ≡ None
none_lacks None n d z e = refl
none_lacks (Some l) n d z e = absurd (cc)

counted_from : (E : LegEnd) → ((bag : List Summary) → left_over E bag ≡ []) → is_same_end E ending.Fallen ≡ false
    → (rest : List JournalLine) (n : ℕ) (c : Course) (s z : Sketch) → draw_from n c s rest ≡ Drawn z
    → length (ended_from E s.removed (told s.bag) rest) ≡ count E rest
counted_from E none other [] n c s z e = ap length (none (told s.bag))
counted_from E none other (p ∷ rest) n c s z e =
    let next = slice_get rest 0 in
    let one = printed_counted E c s.removed s.bag p next other (none_lacks (lack_of c s.bag p next) n _ z e) in
    let more = counted_from E none other rest (n + 1) (after c p) (drawn s p next) z (line_drawn (lack_of c s.bag p next) n _ z e) in
    let removed = gone s.removed (happened p next) in
    let bag = under_way s.removed (told s.bag) p next in
    length-append (line_ended E s.removed (told s.bag) p next) (ended_from E removed bag rest)
    ∙ ap (λ k. k + length (ended_from E removed bag rest)) one
    ∙ ap (λ g. count_of E (happened p next) + length (ended_from E g bag rest)) (sym (gone_after s p next))
    ∙ ap (λ b. count_of E (happened p next) + length (ended_from E (removed_after s p next) b rest)) (sym (told_after s p next))
    ∙ ap (λ k. count_of E (happened p next) + k) more

pub whole_picture : (journal : List JournalLine) (s : Sketch) → draw journal ≡ Drawn s → IsWholePicture journal s
whole_picture journal s e =
    let arrows = ways_from ending.Delivered journal 1 start empty s e in
    let crosses = ways_from ending.Lost journal 1 start empty s e in
    let forks = ways_from ending.Copied journal 1 start empty s e in
    record {
      marks = marks_from journal 1 start empty s e;
      arrows = arrows;
      crosses = crosses;
      falls = ways_from ending.Fallen journal 1 start empty s e;
      forks = forks;
      open_ends = ways_from ending.UnderWay journal 1 start empty s e;
      deliveries = ap length arrows ∙ counted_from ending.Delivered (λ bag. refl) refl journal 1 start empty s e;
      losses = ap length crosses ∙ counted_from ending.Lost (λ bag. refl) refl journal 1 start empty s e;
      repeats = ap length forks ∙ counted_from ending.Copied (λ bag. refl) refl journal 1 start empty s e;
    }
