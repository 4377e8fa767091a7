-- A settling, with what is told behind it.
use Rattle.std.proofs.Common.{ℕ, ◌≡◌, ◌<◌, ◌+◌, ◌++◌, List, [], ◌∷◌, Option, None, Some, Result, Ok, Err, IfErr, drop, get_or, length, map, refl, sym, ap, ap₂, subst, ◌∙◌, append-nil}
use Rattle.std.proofs.lemmas.List.{drop_more}
use Rattle.pg_call.specs.declared.fault.Fault.{Fault}
use Rattle.pg_event.specs.declared.event.Event.{Event}
use Rattle.pg_sched.specs.Schedule.{IsFirstBad}
use Rattle.pg_sched.specs.declared.error.ReadError.{ReadError}
use Rattle.pg_sched.specs.declared.error.ReadError.TheVariants as error
use Rattle.pg_sched.specs.declared.line.Form.{Form}
use Rattle.pg_sched.specs.declared.line.Form.TheVariants.{Short}
use Rattle.pg_sched.specs.declared.line.Line.{Line}
use Rattle.pg_trace.specs.JournalLine.{ArePrinted, journal_spelling}
use Rattle.pg_trace.specs.declared.journal_line.JournalLine.{JournalLine}
use Rattle.pg_trace.specs.declared.journal_line.JournalLine.TheVariants as printed
use Rattle.pg_trace.specs.declared.journal_line.AskedAt.TheVariants as word
use Rattle.pg_trace.proofs.Lines.{joined}
use Rattle.pg_run.specs.Quiet.{quiet_of}
use Rattle.pg_run.specs.Run.{World, run_from, start}
use Rattle.pg_world.specs.Played.{final}
use Rattle.pg_replay.specs.declared.journal.Replay.{Replay}
use Rattle.pg_replay.specs.Going.{Begins, GoesOn, Reaches, Takes, written_of}
use Rattle.pg_meter.specs.Note.{Readings, seen_by_all}
use Rattle.pg_meter.specs.declared.meter.Reading.{Reading}
use Rattle.pg_replay.specs.declared.mark.Mark.{Mark}
use Rattle.pg_replay.specs.Marks.{marked}
use Rattle.pg_replay.specs.Settling.{after_line, events_of}
use Rattle.pg_replay.specs.Text.{form_from, inner_lines, journal_lines, journal_of, off_by, others_than, reading_line, reading_lines, readings_behind, seen_marks, text_of}
use Rattle.pg_replay.proofs.Gone.{spelled_behind, then_reaches, there}

-- a settling, and whether all is done behind it
pub settled : (a b c : Replay) (es : List Event) → GoesOn a b es
    → Reaches b c [] (printed.Asked word.Settle (quiet_of b.world.servers (final b.world)) ∷ [])
    → Reaches a c es
    (inner_lines a.world.servers a.number a.form (final a.world) es
    ++ printed.Asked word.Settle
    (quiet_of a.world.servers (run_from a.world.servers (final a.world) es)) ∷ [])
settled a b c es x y =
    let n = a.world.servers in
    let own = inner_lines n a.number a.form (final a.world) es in
    let asked : ℕ → World → List JournalLine = (λ s w. printed.Asked word.Settle (quiet_of s w) ∷ []) in
    let Q : List JournalLine → Type 0 = (λ t. Reaches b c [] t) in
    let told = subst Q (there asked a b es own x) y in
    let last = asked n (run_from n (final a.world) es) in
    let P : List Event → Type 0 = (λ fs. Reaches a c fs (own ++ last)) in
    subst P (append-nil es) (then_reaches a b c es [] own last x told)

-- what is left to write makes this text, where the meters have counted this, and each line of the
-- whole journal is one of a journal if those that are left are
pub record IsLeft (servers : ℕ) (replay : Replay) (readings : Readings) (number : ℕ)
    (lines : List Line) (text : List ℕ) (whole : List JournalLine) : Type 0 where
  pub so_far : replay.out
      ++ journal_spelling (journal_lines servers number replay.form readings (final replay.world) lines)
      ≡ text
  pub printed :
      ArePrinted (journal_lines servers number replay.form readings (final replay.world) lines)
      → ArePrinted whole

-- so it is at first
pub begun : (m : ℕ) (a : Replay) (handed : List Reading) (readings : Readings) (lines : List Line)
    → Begins m a
    → readings ≡ map Some handed
    → IsLeft a.world.servers a readings 2 lines (text_of handed a.world.servers lines)
    (journal_of handed a.world.servers lines)
begun m a handed readings lines b e =
    let n = a.world.servers in
    let first : World → List JournalLine = λ w. journal_lines n 2 Short (map Some handed) w lines in
    let at : final a.world ≡ start n =
    ap final b.world ∙ ap start (sym (ap (λ p. p.servers) b.world)) in
    let same : journal_lines n 2 a.form readings (final a.world) lines ≡ journal_of handed n lines =
    ap (λ (f : Form). journal_lines n 2 f readings (final a.world) lines) b.form
    ∙ ap (λ (rs : Readings). journal_lines n 2 Short rs (final a.world) lines) e
    ∙ ap first at in
    record {
      so_far = ap₂ (λ o ls. o ++ journal_spelling ls) b.out same;
      printed = λ h. subst ArePrinted same h;
    }

-- so it is behind one line more
pub one_taken : (a b : Replay) (readings : Readings) (number : ℕ) (line : Line) (rest : List Line)
    → (text : List ℕ)
    → (whole : List JournalLine) → Takes a b number (off_by readings line) line
    → IsLeft a.world.servers a readings number (line ∷ rest) text whole
    → IsLeft a.world.servers b (readings_behind a.world.servers (final a.world) readings line)
    (number + 1) rest text whole
one_taken a b readings number line rest text whole t left =
    let n = a.world.servers in
    let own = written_of a number (off_by readings line) line in
    let behind = readings_behind n (final a.world) readings line in
    let next : Form → World → List JournalLine = (λ f w. journal_lines n (number + 1) f behind w rest) in
    let more = next (form_from a.form line) (after_line n (final a.world) line) in
    let same : next b.form (final b.world) ≡ more = ap₂ next t.form t.world in
    record {
      so_far = ap₂ (λ o r. o ++ journal_spelling r) t.text same
          ∙ spelled_behind a.out own more ∙ left.so_far;
      printed = λ h. left.printed (joined own more t.printed (subst ArePrinted same h));
    }

-- what meters have counted that saw these marks behind the line that took one off
pub readings_seen : (a b : Replay) (number : ℕ) (readings left seen : Readings) (line : Line)
    → a.marks.items ≡ []
    → Takes a b number (off_by readings line) line
    → left ≡ others_than readings line
    → seen ≡ seen_marks left b.marks.items
    → seen ≡ readings_behind a.world.servers (final a.world) readings line
readings_seen a b number readings left seen line none t e is =
    let n = a.world.servers in
    let w = final a.world in
    is ∙ ap (λ (rs : Readings). seen_marks rs b.marks.items) e
    ∙ ap (λ (ms : List Mark). seen_marks (others_than readings line) ms)
    (t.marks ∙ ap (λ (ms : List Mark). marked ms n w (events_of n w line)) none)

-- one meter more that is still in, or not
pub readings_more : (readings : Readings) (slot : Option Reading)
    → reading_lines (readings ++ slot ∷ []) ≡ reading_lines readings ++ reading_lines (slot ∷ [])
readings_more [] slot = refl
readings_more (None ∷ readings) slot = readings_more readings slot
readings_more (Some r ∷ readings) slot = ap (λ (ls : List JournalLine). reading_line r ∷ ls) (readings_more readings slot)

-- one mark more was seen
pub mark_seen : (rs new all : Readings) (ms : List Mark) (i : ℕ) (m : Mark) → i < length ms
    → m ≡ get_or ms i m
    → new ≡ seen_by_all m.note rs
    → seen_marks rs (drop i ms) ≡ all
    → seen_marks new (drop (i + 1) ms) ≡ all
mark_seen rs new all ms i m lt is e h =
    let rest = drop (i + 1) ms in
    ap (λ (n : Readings). seen_marks n rest) (e ∙ ap (λ (k : Mark). seen_by_all k.note rs) is)
    ∙ sym (ap (λ (ks : List Mark). seen_marks rs ks) (drop_more ms i m lt)) ∙ h

-- one meter more is written
pub reading_written : (start : List ℕ) (readings : Readings) (slot : Option Reading)
    → (out new : List ℕ)
    → out ≡ start ++ journal_spelling (reading_lines readings)
    → new ≡ out ++ journal_spelling (reading_lines (slot ∷ []))
    → new ≡ start ++ journal_spelling (reading_lines (readings ++ slot ∷ []))
reading_written start readings slot out new e more =
    more ∙ ap (λ (xs : List ℕ). xs ++ journal_spelling (reading_lines (slot ∷ []))) e
    ∙ spelled_behind start (reading_lines readings) (reading_lines (slot ∷ []))
    ∙ ap (λ (ls : List JournalLine). start ++ journal_spelling ls) (sym (readings_more readings slot))

pub reading_printed : (readings : Readings) (slot : Option Reading)
    → ArePrinted (reading_lines readings)
    → ArePrinted (reading_lines (slot ∷ []))
    → ArePrinted (reading_lines (readings ++ slot ∷ []))
reading_printed readings slot h k =
    subst ArePrinted (sym (readings_more readings slot))
    (joined (reading_lines readings) (reading_lines (slot ∷ [])) h k)

-- no line is left: whether all is done is told, and what the meters have counted that are still in
pub all_written : (a b : Replay) (n number : ℕ) (readings : Readings) (ls : List Line)
    → (out text : List ℕ)
    → (whole : List JournalLine) → ls ≡ []
    → a.world.servers ≡ n
    → Reaches a b [] (printed.Asked word.End (quiet_of a.world.servers (final a.world)) ∷ [])
    → out ≡ b.out ++ journal_spelling (reading_lines readings)
    → ArePrinted (reading_lines readings)
    → IsLeft n a readings number ls text whole
    → (out ≡ text) × ArePrinted whole
all_written a b n number readings ls out text whole none servers told written spelled left =
    let asked : ℕ → List JournalLine = (λ s. printed.Asked word.End (quiet_of s (final a.world)) ∷ []) in
    let rest = reading_lines readings in
    let P : List Line → Type 0 = (λ xs. IsLeft n a readings number xs text whole) in
    let last = subst P none left in
    let Q : ℕ → Type 0 = (λ s. ArePrinted (asked s)) in (
      written ∙ ap (λ (xs : List ℕ). xs ++ journal_spelling rest) told.text
          ∙ spelled_behind a.out (asked a.world.servers) rest
          ∙ ap (λ s. a.out ++ journal_spelling (asked s ++ rest)) servers ∙ last.so_far,
      last.printed (joined (asked n) rest (subst Q servers told.printed) spelled),
    )

-- where there was no memory no line is told as bad
pub not_bad_line : {A : Type 0} (r : Result A ReadError) (input : List ℕ)
    → IfErr r (λ e. e ≡ error.OutOfMemory)
    → IfErr r (λ e. (n : ℕ) (f : Fault) → e ≡ error.BadLine n f → IsFirstBad input n f)
not_bad_line (Ok x) input h = h
not_bad_line (Err e) input h = λ n f is. absurd (let b = sym h ∙ is in cc)
