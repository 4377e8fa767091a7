-- What is drawn is what the journal says: a mark for each event, and an end for each message.
use Rattle.std.proofs.Common.{ℕ, Bool, true, false, ◌≡◌, ◌+◌, List, [], ◌∷◌, ◌++◌, Option, None, Some, filter, map, refl, ap, sym, ◌∙◌, if◌then◌else◌, slice_get}
use Rattle.std.proofs.lemmas.List.{append_assoc, append-nil, map-append}
use Rattle.std.proofs.lemmas.List.Concat.{flat_map-append}
use Rattle.pg_event.specs.declared.event.Event.{Event}
use Rattle.pg_event.specs.declared.event.Event.TheVariants as event
use Rattle.pg_msg.specs.declared.summary.Summary.{Summary}
use Rattle.pg_sched.specs.declared.line.Line.{Line}
use Rattle.pg_sched.specs.declared.line.Line.TheVariants as line
use Rattle.pg_trace.specs.declared.journal_line.JournalLine.{JournalLine}
use Rattle.pg_trace.specs.declared.journal_line.JournalLine.TheVariants as printed
use Rattle.pg_picture.specs.Counts.{ended_by, ended_from, event_ended, is_same_end, is_to, left_over, line_ended, line_event, listed, number_of, numbers_of, sent_ended, under_way, way, ways}
use Rattle.pg_picture.specs.Course.{after}
use Rattle.pg_picture.specs.Messages.{is_for, is_gone, message_at}
use Rattle.pg_picture.specs.Note.{is_void, outcome_of}
use Rattle.pg_picture.specs.Part.{is_ended}
use Rattle.pg_picture.specs.Picture.{Drawing, draw_from, hung, or_lack}
use Rattle.pg_picture.specs.Picture.Drawing.{Drawn, Lacking}
use Rattle.pg_picture.specs.Sketch.{bag_after, drawn, hanging, happening_legs, legs_after, line_legs, marks_after, removed_after, sent_now, with_leg}
use Rattle.pg_picture.specs.declared.course.Course.{Course}
use Rattle.pg_picture.specs.declared.lack.Lack.{Lack}
use Rattle.pg_picture.specs.declared.mark.Leg.{Leg}
use Rattle.pg_picture.specs.declared.mark.LegEnd.{LegEnd}
use Rattle.pg_picture.specs.declared.mark.LegEnd.TheVariants as ending
use Rattle.pg_picture.specs.declared.messages.Message.{Message}
use Rattle.pg_picture.specs.declared.sketch.Sketch.{Sketch}
use Rattle.pg_picture.proofs.Summaries.{gone_after, told, told_after, told_at, told_filtered, told_of}

-- ---- one event more

-- a way more, which ends as F
way_more : (E F : LegEnd) (legs : List Leg) (height : ℕ) (m : Message)
    → ways E (legs ++ record { message = m; until = height; end = F } ∷ [])
    ≡ ways E legs ++ (if is_same_end E F then m.summary ∷ [] else [])
way_more E F legs height m =
    flat_map-append (way E) legs (record { message = m; until = height; end = F } ∷ [])
    ∙ ap (λ r. ways E legs ++ r) (append-nil (if is_same_end E F then m.summary ∷ [] else []))

same_if : (test : Bool) (xs : List Summary) → xs ≡ xs ++ (if test then [] else [])
same_if true xs = sym (append-nil xs)
same_if false xs = sym (append-nil xs)

leg_more : (E F : LegEnd) (legs : List Leg) (height : ℕ) (o : Option Message)
    → ways E (with_leg legs height F o) ≡ ways E legs ++ (if is_same_end E F then listed (told_of o) else [])
leg_more E F legs height None = same_if (is_same_end E F) (ways E legs)
leg_more E F legs height (Some m) = way_more E F legs height m

-- what ends otherwise is none of these
other_end : (E F : LegEnd) (legs : List Leg) (height : ℕ) (o : Option Message) → is_same_end E F ≡ false
    → ways E (with_leg legs height F o) ≡ ways E legs ++ []
other_end E F legs height o other = leg_more E F legs height o
    ∙ ap (λ t. ways E legs ++ (if t then listed (told_of o) else [])) other

this_end : (F : LegEnd) (legs : List Leg) (bag : List Message) (height n : ℕ) → is_same_end F F ≡ true
    → ways F (with_leg legs height F (message_at bag n)) ≡ ways F legs ++ listed (message_at (told bag) n)
this_end F legs bag height n same = leg_more F F legs height (message_at bag n)
    ∙ ap (λ t. ways F legs ++ (if t then listed (told_of (message_at bag n)) else [])) same
    ∙ ap (λ o. ways F legs ++ listed o) (sym (told_at bag n))

hung_more : (same : Bool) (m : Summary) (ms rest : List Summary) → rest ≡ (if same then ms else [])
    → (if same then m ∷ [] else []) ++ rest ≡ (if same then m ∷ ms else [])
hung_more true m ms rest h = ap (λ r. m ∷ r) h
hung_more false m ms rest h = h

none_hung : (same : Bool) → [] ≡ (if same then told [] else [])
none_hung true = refl
none_hung false = refl

-- ways that all end as F
ways_hung : (E F : LegEnd) (height : ℕ) (bag : List Message)
    → ways E (hanging F height bag) ≡ (if is_same_end E F then told bag else [])
ways_hung E F height [] = none_hung (is_same_end E F)
ways_hung E F height (m ∷ ms) = hung_more (is_same_end E F) m.summary (told ms) _ (ways_hung E F (height + 1) ms)

-- the receiver of these is removed
fall_more : (E : LegEnd) (legs : List Leg) (height : ℕ) (bag : List Message)
    → ways E (legs ++ hanging ending.Fallen height bag)
    ≡ ways E legs ++ (if is_same_end E ending.Fallen then told bag else [])
fall_more E legs height bag = flat_map-append (way E) legs (hanging ending.Fallen height bag)
    ∙ ap (λ r. ways E legs ++ r) (ways_hung E ending.Fallen height bag)

event_more : (E : LegEnd) (legs : List Leg) (bag : List Message) (height : ℕ) (e : Event)
    → ways E (happening_legs legs bag height e) ≡ ways E legs ++ ended_by E (told bag) e
event_more ending.Delivered legs bag height (event.Deliver n) = this_end ending.Delivered legs bag height n refl
event_more ending.Delivered legs bag height (event.Lose n) = other_end ending.Delivered ending.Lost legs height _ refl
event_more ending.Delivered legs bag height (event.Repeat n) = other_end ending.Delivered ending.Copied legs height _ refl
event_more ending.Delivered legs bag height (event.Remove server) = fall_more ending.Delivered legs height _
event_more ending.Delivered legs bag height e = sym (append-nil _)
event_more ending.Lost legs bag height (event.Deliver n) = other_end ending.Lost ending.Delivered legs height _ refl
event_more ending.Lost legs bag height (event.Lose n) = this_end ending.Lost legs bag height n refl
event_more ending.Lost legs bag height (event.Repeat n) = other_end ending.Lost ending.Copied legs height _ refl
event_more ending.Lost legs bag height (event.Remove server) = fall_more ending.Lost legs height _
event_more ending.Lost legs bag height e = sym (append-nil _)
event_more ending.Copied legs bag height (event.Deliver n) = other_end ending.Copied ending.Delivered legs height _ refl
event_more ending.Copied legs bag height (event.Lose n) = other_end ending.Copied ending.Lost legs height _ refl
event_more ending.Copied legs bag height (event.Repeat n) = this_end ending.Copied legs bag height n refl
event_more ending.Copied legs bag height (event.Remove server) = fall_more ending.Copied legs height _
event_more ending.Copied legs bag height e = sym (append-nil _)
event_more ending.Fallen legs bag height (event.Deliver n) = other_end ending.Fallen ending.Delivered legs height _ refl
event_more ending.Fallen legs bag height (event.Lose n) = other_end ending.Fallen ending.Lost legs height _ refl
event_more ending.Fallen legs bag height (event.Repeat n) = other_end ending.Fallen ending.Copied legs height _ refl
event_more ending.Fallen legs bag height (event.Remove server) =
    fall_more ending.Fallen legs height (filter (is_for server) bag)
    ∙ ap (λ r. ways ending.Fallen legs ++ r) (told_filtered (is_to server) bag)
event_more ending.Fallen legs bag height e = sym (append-nil _)
event_more ending.UnderWay legs bag height (event.Deliver n) = other_end ending.UnderWay ending.Delivered legs height _ refl
event_more ending.UnderWay legs bag height (event.Lose n) = other_end ending.UnderWay ending.Lost legs height _ refl
event_more ending.UnderWay legs bag height (event.Repeat n) = other_end ending.UnderWay ending.Copied legs height _ refl
event_more ending.UnderWay legs bag height (event.Remove server) = fall_more ending.UnderWay legs height _
event_more ending.UnderWay legs bag height e = sym (append-nil _)

line_more : (E : LegEnd) (legs : List Leg) (bag : List Message) (height : ℕ) (l : Line)
    → ways E (line_legs legs bag height l) ≡ ways E legs ++ event_ended E (told bag) (line_event l)
line_more E legs bag height (line.Happens e) = event_more E legs bag height e
line_more E legs bag height l = sym (append-nil _)

chosen_more : (test : Bool) (E : LegEnd) (legs : List Leg) (bag : List Message) (height : ℕ) (l : Line)
    → ways E (if test then legs else line_legs legs bag height l)
    ≡ ways E legs ++ event_ended E (told bag) (if test then None else line_event l)
chosen_more true E legs bag height l = sym (append-nil _)
chosen_more false E legs bag height l = line_more E legs bag height l

sent_more : (late : Bool) (E : LegEnd) (legs : List Leg) (height : ℕ) (m : Message)
    → ways E (if late then legs ++ record { message = m; until = height; end = ending.Fallen } ∷ [] else legs)
    ≡ ways E legs ++ sent_ended E late m.summary
sent_more true E legs height m = way_more E ending.Fallen legs height m
sent_more false E legs height m = sym (append-nil _)

printed_more : (E : LegEnd) (s : Sketch) (p : JournalLine) (next : Option JournalLine)
    → ways E (legs_after s p next) ≡ ways E s.legs ++ line_ended E s.removed (told s.bag) p next
printed_more E s (printed.Event number what) next =
    chosen_more (is_void (outcome_of next)) E s.legs s.bag (s.height + 2) what
printed_more E s (printed.Sent summary) next =
    sent_more (is_gone s.removed summary.to) E s.legs (s.height + 1) (sent_now s summary)
printed_more E s p next = sym (append-nil _)

-- ---- the end

end_more : (E : LegEnd) (height : ℕ) (bag : List Message)
    → ways E (hanging ending.UnderWay height bag) ≡ left_over E (told bag)
end_more ending.UnderWay height bag = ways_hung ending.UnderWay ending.UnderWay height bag
end_more ending.Delivered height bag = ways_hung ending.Delivered ending.UnderWay height bag
end_more ending.Lost height bag = ways_hung ending.Lost ending.UnderWay height bag
end_more ending.Copied height bag = ways_hung ending.Copied ending.UnderWay height bag
end_more ending.Fallen height bag = ways_hung ending.Fallen ending.UnderWay height bag

is_drawn : (a b : Sketch) → Drawn a ≡ Drawn b → a ≡ b
is_drawn a b e = cc

ended_drawn : (test : Bool) (n : ℕ) (l : Lack) (s z : Sketch) → (if test then Drawn s else Lacking n l) ≡ Drawn z → s ≡ z
ended_drawn true n l s z e = is_drawn s z e
ended_drawn false n l s z e = absurd (cc)

pub line_drawn : (o : Option Lack) (n : ℕ) (d : Drawing) (z : Sketch) → or_lack o n d ≡ Drawn z → d ≡ Drawn z
line_drawn None n d z e = e
line_drawn (Some l) n d z e = absurd (cc)

-- ---- all lines

pub ways_from : (E : LegEnd) (rest : List JournalLine) (n : ℕ) (c : Course) (s z : Sketch)
    → draw_from n c s rest ≡ Drawn z → ways E z.legs ≡ ways E s.legs ++ ended_from E s.removed (told s.bag) rest
ways_from E [] n c s z e =
    ap (λ (k : Sketch). ways E k.legs) (sym (ended_drawn (is_ended c.before) n _ (hung s) z e))
    ∙ flat_map-append (way E) s.legs (hanging ending.UnderWay (s.height + 1) s.bag)
    ∙ ap (λ r. ways E s.legs ++ r) (end_more E (s.height + 1) s.bag)
ways_from E (p ∷ rest) n c s z e =
    ways_from E rest (n + 1) (after c p) (drawn s p (slice_get rest 0)) z (line_drawn _ n _ z e)
    ∙ ap (λ r. r ++ ended_from E (removed_after s p (slice_get rest 0)) (told (bag_after s p (slice_get rest 0))) rest)
    (printed_more E s p (slice_get rest 0))
    ∙ ap (λ b. (ways E s.legs ++ line_ended E s.removed (told s.bag) p (slice_get rest 0))
    ++ ended_from E (removed_after s p (slice_get rest 0)) b rest)
    (told_after s p (slice_get rest 0))
    ∙ ap (λ g. (ways E s.legs ++ line_ended E s.removed (told s.bag) p (slice_get rest 0))
    ++ ended_from E g (under_way s.removed (told s.bag) p (slice_get rest 0)) rest)
    (gone_after s p (slice_get rest 0))
    ∙ append_assoc (ways E s.legs) _ _

marks_more : (s : Sketch) (p : JournalLine) (next : Option JournalLine)
    → map (λ m. m.line) (marks_after s p next) ≡ map (λ m. m.line) s.marks ++ number_of p
marks_more s (printed.Event number what) next = map-append (λ m. m.line) s.marks _
marks_more s p next = sym (append-nil _)

pub marks_from : (rest : List JournalLine) (n : ℕ) (c : Course) (s z : Sketch)
    → draw_from n c s rest ≡ Drawn z → map (λ m. m.line) z.marks ≡ map (λ m. m.line) s.marks ++ numbers_of rest
marks_from [] n c s z e =
    ap (λ (k : Sketch). map (λ m. m.line) k.marks) (sym (ended_drawn (is_ended c.before) n _ (hung s) z e))
    ∙ sym (append-nil _)
marks_from (p ∷ rest) n c s z e =
    marks_from rest (n + 1) (after c p) (drawn s p (slice_get rest 0)) z (line_drawn _ n _ z e)
    ∙ ap (λ r. r ++ numbers_of rest) (marks_more s p (slice_get rest 0))
    ∙ append_assoc (map (λ m. m.line) s.marks) (number_of p) (numbers_of rest)
