-- The words of a journal's lines have no space and no line feed.
use Rattle.std.proofs.Common.{ℕ, ◌≢◌, ◌<◌, ◌^◌, Bool, true, false, ◌∷◌, refl, arith, codes, decimal}
use Rattle.std.specs.List.{AllByRecursion}
use Rattle.pg_base.specs.StampText.{stamp_text}
use Rattle.pg_base.specs.declared.id.Kind.{Kind}
use Rattle.pg_base.specs.declared.id.Kind.TheVariants.{Dir, File}
use Rattle.pg_call.specs.Call as call
use Rattle.pg_call.specs.Reply.{IsReply}
use Rattle.pg_call.specs.declared.call.CallKind.{CallKind}
use Rattle.pg_call.specs.declared.call.CallKind.TheVariants as kind
use Rattle.pg_call.specs.declared.reply.Reply.{Reply}
use Rattle.pg_event.specs.Meter.{meter_word}
use Rattle.pg_event.specs.declared.meter.MeterKind.{MeterKind}
use Rattle.pg_event.specs.declared.meter.MeterKind.TheVariants.{Packets, Bodies, Repeats}
use Rattle.pg_event.proofs.Quiets.{quiet-lack}
use Rattle.pg_event.proofs.Voids.{Lacks-void}
use Rattle.pg_msg.proofs.Summaries.{summary-lack}
use Rattle.pg_msg.proofs.Updates.{update-lack}
use Rattle.pg_journal_lines.proofs.ReplyLacks.{Lacks-gold, reply-lack, tick_reply}
use Rattle.pg_trace.specs.declared.journal_line.AskedAt.{AskedAt}
use Rattle.pg_trace.specs.declared.journal_line.AskedAt.TheVariants as word
use Rattle.pg_trace.specs.declared.journal_line.JournalLine.{JournalLine}
use Rattle.pg_trace.specs.declared.journal_line.JournalLine.TheVariants as printed
use Rattle.pg_trace.specs.declared.replica.ShownContent.{ShownContent}
use Rattle.pg_trace.specs.declared.replica.ShownContent.TheVariants as contents
use Rattle.pg_trace.specs.declared.replica.ShownReplica.{ShownReplica}
use Rattle.pg_trace.specs.JournalLine.{asked_word, contents_words, IsContents, IsPrinted, IsReplica}
use Rattle.pg_journal_lines.specs.declared.verb.Verb.{Verb}
use Rattle.pg_journal_lines.specs.declared.verb.Verb.TheVariants as verb
use Rattle.pg_journal_lines.specs.Reading.{answer_words, verb_word, verb_of, words_behind}
use Rattle.pg_words.specs.ChoiceWord.{full_word}
use Rattle.pg_words.specs.StampWord.{IsStamp}
use Rattle.pg_words.proofs.Lacking.{Ends, literal, Lacks-decimal, Lacks-hex, Lacks-list, Lacks-server, Lacks-spelling, Lacks-stamp}
use Rattle.pg_words.proofs.Places.{place-lack}
use Rattle.pg_words.proofs.Splitting.{Lacks}

Lacks-asked : (c : ℕ) (w : AskedAt) → Ends c → Lacks c (asked_word w)
Lacks-asked c word.Settle h = let low = h.low in literal c (codes "settle") (omega arith)
Lacks-asked c word.Quiet h = let low = h.low in literal c (codes "quiet") (omega arith)
Lacks-asked c word.End h = let low = h.low in literal c (codes "end") (omega arith)

pub Lacks-verb : (c : ℕ) (v : Verb) → Ends c → Lacks c (verb_word v)
Lacks-verb c verb.Event h = let low = h.low in literal c (codes "event") (omega arith)
Lacks-verb c verb.Call h = let low = h.low in literal c (codes "call") (omega arith)
Lacks-verb c verb.Tick h = let low = h.low in literal c (codes "tick") (omega arith)
Lacks-verb c verb.Void h = let low = h.low in literal c (codes "void") (omega arith)
Lacks-verb c verb.Made h = let low = h.low in literal c (codes "made") (omega arith)
Lacks-verb c verb.Sent h = let low = h.low in literal c (codes "sent") (omega arith)
Lacks-verb c (verb.Asked w) h = Lacks-asked c w h
Lacks-verb c verb.At h = let low = h.low in literal c (codes "at") (omega arith)
Lacks-verb c verb.Meter h = let low = h.low in literal c (codes "meter") (omega arith)

-- two clauses serve all kinds of calls
Lacks-call : (c : ℕ) (k : CallKind) → Ends c → Lacks c (call.kind_word k)
Lacks-call c kind.Mkdir h = let low = h.low in literal c (codes "mkdir") (omega arith)
Lacks-call c k h = let low = h.low in literal c (call.kind_word k) (omega arith)

Lacks-meter : (c : ℕ) (k : MeterKind) → Ends c → Lacks c (meter_word k)
Lacks-meter c Packets h = let low = h.low in literal c (codes "packets") (omega arith)
Lacks-meter c Bodies h = let low = h.low in literal c (codes "bodies") (omega arith)
Lacks-meter c Repeats h = let low = h.low in literal c (codes "repeats") (omega arith)

Lacks-full : (c : ℕ) (b : Bool) → Ends c → Lacks c (full_word b)
Lacks-full c true h = let low = h.low in literal c (codes "full") (omega arith)
Lacks-full c false h = let low = h.low in literal c (codes "filling") (omega arith)

answer-lack : (c : ℕ) (r : Reply) → Ends c → c < 33 → IsReply r → AllByRecursion (Lacks c) (answer_words r)
answer-lack c r h low fits = (literal c (codes "->") (omega arith), reply-lack c r h low fits)

contents-lack : (c : ℕ) (k : Kind) (x : ShownContent) → Ends c → c < 33 → IsContents k x → AllByRecursion (Lacks c) (contents_words x)
contents-lack c File (contents.File s n b) h low fits = (
  literal c (codes "heads") (omega arith),
  (
    Lacks-list stamp_text IsStamp c h (omega arith) (λ x fx. Lacks-stamp c x h fx) s fits.0,
    (literal c (codes "shown") (omega arith), (Lacks-decimal c n h fits.1, (Lacks-hex c b h fits.2.each, tt))),
  ),
)
contents-lack c Dir (contents.Dir n) h low fits = (literal c (codes "lists") (omega arith), (Lacks-decimal c n h fits, tt))
contents-lack c File (contents.Dir n) h low fits = absurd fits
contents-lack c Dir (contents.File s n b) h low fits = absurd fits

replica-lack : (c : ℕ) (r : ShownReplica) → Ends c → c < 33 → IsReplica r → AllByRecursion (Lacks c) (words_behind (printed.Replica r))
replica-lack c r h low fits =
    let place = place-lack c r.place low fits.place in (
      Lacks-server c r.server h fits.server,
      (
        Lacks-spelling c r.id h fits.id_fits,
        (
          Lacks-gold c r.gold h,
          (
            Lacks-full c r.full h,
            (
              literal c (codes "place") (omega arith),
              (place.0, (place.1.0, (place.1.1.0, (place.1.1.1.0, contents-lack c r.id.kind r.contents h low fits.contents_fit)))),
            ),
          ),
        ),
      ),
    )

-- of each line that is no event
pub behind-lack : (c : ℕ) (p : JournalLine) → Ends c → c < 33 → IsPrinted p → verb_of p ≢ verb.Event → AllByRecursion (Lacks c) (words_behind p)
behind-lack c (printed.Event n what) h low fits other = absurd (other refl)
behind-lack c (printed.Call k n r) h low fits other = (Lacks-server c n h fits.0, (Lacks-call c k h, answer-lack c r h low fits.1))
behind-lack c (printed.Tick n r) h low fits other = (Lacks-server c n h fits.0, answer-lack c r h low (tick_reply r fits.1))
behind-lack c (printed.Void n v) h low fits other = (Lacks-decimal c n h fits, (Lacks-void c v h, tt))
behind-lack c (printed.Made u) h low fits other = update-lack c u h low fits
behind-lack c (printed.Sent s) h low fits other = summary-lack c s h fits
behind-lack c (printed.Asked w q) h low fits other = quiet-lack c q h fits
behind-lack c (printed.Replica r) h low fits other = replica-lack c r h low fits
behind-lack c (printed.Nowhere f) h low fits other = (literal c (codes "-") (omega arith), (Lacks-spelling c f h fits, tt))
behind-lack c (printed.Meter k n) h low fits other = (Lacks-meter c k h, (Lacks-decimal c n h fits, tt))
