-- How a replay went on, one piece behind the other. a, b, c and end: the replay at one moment and
-- at later ones.
use Rattle.std.proofs.Common.{ℕ, if◌then◌else◌, ◌≡◌, ◌<◌, ◌+◌, ◌-◌, ◌++◌, Bool, true, false, List, [], ◌∷◌, refl, sym, ap, subst, ◌∙◌, append-nil, append_assoc, arith, suc}
use Rattle.pg_event.specs.declared.event.Event.{Event}
use Rattle.pg_event.specs.declared.event.Event.TheVariants.{Deliver, Tick}
use Rattle.pg_sched.specs.declared.line.Form.{Form}
use Rattle.pg_event.specs.declared.quiet.Cause.{Cause}
use Rattle.pg_event.specs.declared.quiet.Quiet.TheVariants.{Quiet, Waits}
use Rattle.std.proofs.lemmas.Grind.{flat_map-append}
use Rattle.pg_trace.specs.JournalLine.{journal_spelling, printed_text}
use Rattle.pg_trace.specs.declared.journal_line.JournalLine.{JournalLine}
use Rattle.pg_trace.proofs.Lines.{joined}
use Rattle.pg_run.specs.Journal.{bag}
use Rattle.pg_world.specs.Played.{final}
use Rattle.pg_run.specs.Quiet.{has_some, quiet_of}
use Rattle.pg_run.specs.Run.{World, is_live, run_from}
use Rattle.pg_world.proofs.Standing.{run_from-append}
use Rattle.pg_replay.specs.declared.journal.Replay.{Replay}
use Rattle.pg_replay.specs.Going.{GoesOn, Reaches}
use Rattle.pg_replay.specs.declared.mark.Mark.{Mark}
use Rattle.pg_replay.specs.Marks.{mark_of, marked}
use Rattle.pg_replay.specs.Settling.{after_event, deliveries, settling, tick_of, ticks}
use Rattle.pg_replay.specs.Text.{inner_lines}
use Rattle.pg_replay.proofs.Settled.{delivers, inner_lines-append, settles, settles_on}

-- lines and more lines behind a text
pub spelled_behind : (start : List ℕ) (t u : List JournalLine)
    → (start ++ journal_spelling t) ++ journal_spelling u ≡ start ++ journal_spelling (t ++ u)
spelled_behind start t u =
    append_assoc start (journal_spelling t) (journal_spelling u)
    ∙ ap (λ xs. start ++ xs) (sym (flat_map-append printed_text t u))

-- nothing happened
pub Reaches-refl : (a : Replay) → a.world.failed ≡ false → Reaches a a [] []
Reaches-refl a going = record {
  world = refl;
  going = going;
  servers = refl;
  number = refl;
  form = refl;
  marks = refl;
  text = sym (append-nil a.out);
  printed = tt;
}

-- the marks of some events, and then of more
marked-then : (marks : List Mark) (n : ℕ) (w : World) (es fs : List Event)
    → marked (marked marks n w es) n (run_from n w es) fs ≡ marked marks n w (es ++ fs)
marked-then marks n w [] fs = refl
marked-then marks n w (e ∷ es) fs =
    marked-then (marks ++ mark_of n w e ∷ []) n (after_event n w e) es fs

marks_then : (a b c : Replay) (es fs : List Event) (t u : List JournalLine)
    → Reaches a b es t
    → Reaches b c fs u
    → c.marks.items ≡ marked a.marks.items a.world.servers (final a.world) (es ++ fs)
marks_then a b c es fs t u x y =
    let n = a.world.servers in
    y.marks
    ∙ ap (λ (ms : List Mark). marked ms b.world.servers (final b.world) fs) x.marks
    ∙ ap (λ s. marked (marked a.marks.items n (final a.world) es) s (final b.world) fs) x.servers
    ∙ ap (λ (w : World). marked (marked a.marks.items n (final a.world) es) n w fs) x.world
    ∙ marked-then a.marks.items n (final a.world) es fs

-- some events, and then more
pub then_reaches : (a b c : Replay) (es fs : List Event) (t u : List JournalLine)
    → Reaches a b es t → Reaches b c fs u → Reaches a c (es ++ fs) (t ++ u)
then_reaches a b c es fs t u x y =
    let n = a.world.servers in
    let P : ℕ → Type 0 = (λ s. final c.world ≡ run_from s (final b.world) fs) in
    record {
      world = subst P x.servers y.world ∙ ap (λ w. run_from n w fs) x.world ∙ sym (run_from-append n (final a.world) es fs);
      going = y.going;
      servers = y.servers ∙ x.servers;
      number = y.number ∙ x.number;
      form = y.form ∙ x.form;
      marks = marks_then a b c es fs t u x y;
      text = y.text ∙ ap (λ xs. xs ++ journal_spelling u) x.text ∙ spelled_behind a.out t u;
      printed = joined t u x.printed y.printed;
    }

-- what depends on the servers and the world alone, behind some events
pub there : {A : Type 0} (f : ℕ → World → A) (a b : Replay) (es : List Event) (t : List JournalLine) → Reaches a b es t
    → f b.world.servers (final b.world) ≡ f a.world.servers (run_from a.world.servers (final a.world) es)
there f a b es t x = ap (λ s. f s (final b.world)) x.servers ∙ ap (f a.world.servers) x.world

lines_there : (a b : Replay) (es fs : List Event) (t : List JournalLine) → Reaches a b es t
    → inner_lines b.world.servers b.number b.form (final b.world) fs
    ≡ inner_lines a.world.servers a.number a.form (run_from a.world.servers (final a.world) es) fs
lines_there a b es fs t x =
    let n = a.world.servers in
    there (λ s w. inner_lines s b.number b.form w fs) a b es t x
    ∙ ap (λ m. inner_lines n m b.form (run_from n (final a.world) es) fs) x.number
    ∙ ap (λ (g : Form). inner_lines n a.number g (run_from n (final a.world) es) fs) x.form

-- the same of the events of a settling
pub goes_then : (a b c : Replay) (es fs : List Event) → GoesOn a b es → GoesOn b c fs → GoesOn a c (es ++ fs)
goes_then a b c es fs x y =
    let n = a.world.servers in
    let w = final a.world in
    let own = inner_lines n a.number a.form w es in
    let P : List JournalLine → Type 0 = (λ t. Reaches a c (es ++ fs) t) in
    subst P (ap (λ t. own ++ t) (lines_there a b es fs own x) ∙ sym (inner_lines-append n a.number a.form w es fs))
    (then_reaches a b c es fs own (inner_lines b.world.servers b.number b.form (final b.world) fs) x y)

-- other events, which are the same
pub goes_same : (a b : Replay) (es fs : List Event) → es ≡ fs → GoesOn a b es → GoesOn a b fs
goes_same a b es fs e = let P : List Event → Type 0 = (λ xs. GoesOn a b xs) in subst P e

-- a delivery, and those that are left
pub delivery_goes : (a b end : Replay) (left : ℕ) → 0 < left → has_some (bag (final a.world).journal) ≡ true
    → GoesOn a b (Deliver 1 ∷ []) → GoesOn b end (deliveries b.world.servers (final b.world) (left - 1))
    → GoesOn a end (deliveries a.world.servers (final a.world) left)
delivery_goes a b end left lt some x y =
    let n = a.world.servers in
    let w = final a.world in
    let rest = deliveries n (after_event n w (Deliver 1)) (left - 1) in
    goes_same a end _ _ (sym (delivers n w left lt some))
    (goes_then a b end (Deliver 1 ∷ []) rest x
    (goes_same b end _ rest (there (λ s v. deliveries s v (left - 1)) a b (Deliver 1 ∷ []) _ x) y))

pub add_one : (k : ℕ) → suc k ≡ k + 1
add_one k = omega arith

-- the tick of a server that is live, or not
pub is_tick : (n moment server : ℕ) (w : World) (live : Bool) → live ≡ is_live n w server
    → (if live then Tick server moment 0 ∷ [] else []) ≡ tick_of n moment w server
is_tick n moment server w live = ap (λ b. if b then Tick server moment 0 ∷ [] else [])

-- one server more
pub tick_goes : (a b c : Replay) (moment k : ℕ) → GoesOn a b (ticks a.world.servers moment (final a.world) k)
    → GoesOn b c (tick_of b.world.servers moment (final b.world) (k + 1))
    → GoesOn a c (ticks a.world.servers moment (final a.world) (k + 1))
tick_goes a b c moment k x y =
    let n = a.world.servers in
    let w = final a.world in
    let so_far = ticks n moment w k in
    let P : ℕ → Type 0 = (λ j. GoesOn b c (tick_of n moment (run_from n w so_far) j) → GoesOn a c (ticks n moment w j)) in
    subst P (add_one k) (goes_then a b c so_far (tick_of n moment (run_from n w so_far) (suc k)) x)
    (goes_same b c _ _ (there (λ s v. tick_of s moment v (k + 1)) a b so_far _ x) y)

-- a round whose deliveries leave something to wait for, its ticks, and the rounds that are left
pub round_goes : (a b c end : Replay) (most moment left : ℕ) (cause : Cause) → 0 < left
    → GoesOn a b (deliveries a.world.servers (final a.world) most)
    → quiet_of b.world.servers (final b.world) ≡ Waits cause
    → GoesOn b c (ticks b.world.servers moment (final b.world) b.world.servers)
    → GoesOn c end (settling c.world.servers most moment (final c.world) (left - 1))
    → GoesOn a end (settling a.world.servers most moment (final a.world) left)
round_goes a b c end most moment left cause lt x waits y z =
    let n = a.world.servers in
    let w = final a.world in
    let ds = deliveries n w most in
    let ts = ticks n moment (run_from n w ds) n in
    let rest = settling n most moment (run_from n (run_from n w ds) ts) (left - 1) in
    let ticked : GoesOn b c ts = goes_same b c _ ts (there (λ s v. ticks s moment v s) a b ds _ x) y in
    let both : GoesOn a c (ds ++ ts) = goes_then a b c ds ts x ticked in
    let behind = there (λ s v. settling s most moment v (left - 1)) a c (ds ++ ts) _ both
    ∙ ap (λ v. settling n most moment v (left - 1)) (run_from-append n w ds ts) in
    goes_same a end _ _ (sym (settles_on n most moment w left cause lt (sym (there quiet_of a b ds _ x) ∙ waits)))
    (goes_then a b end ds (ts ++ rest) x
    (goes_then b c end ts rest ticked (goes_same c end _ rest behind z)))

-- the last round: the run is quiet behind its deliveries
pub last_goes : (a b : Replay) (most moment left : ℕ) → 0 < left
    → GoesOn a b (deliveries a.world.servers (final a.world) most)
    → quiet_of b.world.servers (final b.world) ≡ Quiet
    → GoesOn a b (settling a.world.servers most moment (final a.world) left)
last_goes a b most moment left lt x quiet =
    let n = a.world.servers in
    let w = final a.world in
    goes_same a b _ _ (sym (settles n most moment w left lt (sym (there quiet_of a b (deliveries n w most) _ x) ∙ quiet))) x
