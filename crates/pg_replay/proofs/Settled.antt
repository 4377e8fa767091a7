-- The events of a settling, piece by piece, and what is written of them.
use Rattle.std.proofs.Common.{ℕ, ◌≡◌, ◌<◌, ◌≤◌, ◌-◌, ◌++◌, true, false, cond, List, [], ◌∷◌, refl, sym, ap, ◌∙◌, append-nil, append_assoc, arith, zero, suc}
use Rattle.pg_event.specs.declared.event.Event.{Event}
use Rattle.pg_event.specs.declared.event.Event.TheVariants.{Deliver}
use Rattle.pg_sched.specs.declared.line.Form.{Form}
use Rattle.pg_sched.specs.declared.line.Line.TheVariants as line
use Rattle.pg_event.specs.declared.quiet.Cause.{Cause}
use Rattle.pg_event.specs.declared.quiet.Quiet.TheVariants.{Quiet, Waits}
use Rattle.pg_trace.specs.Text.{head_lines}
use Rattle.pg_run.specs.Journal.{bag}
use Rattle.pg_run.specs.Quiet.{has_some, quiet_of}
use Rattle.pg_run.specs.Run.{World, run_from}
use Rattle.pg_replay.specs.Settling.{after_event, deliveries, delivered, round_ticks, settling, ticked, unless_quiet}
use Rattle.pg_replay.specs.Text.{event_lines, inner_lines}

-- what is written of some events and then of more
pub inner_lines-append : (n number : ℕ) (form : Form) (w : World) (first more : List Event)
    → inner_lines n number form w (first ++ more)
    ≡ inner_lines n number form w first ++ inner_lines n number form (run_from n w first) more
inner_lines-append n number form w [] more = refl
inner_lines-append n number form w (e ∷ es) more =
    let head = head_lines number form (line.Happens e) in
    let own = event_lines n number form w e in
    let rest = inner_lines n number form (after_event n w e) es in
    let behind = inner_lines n number form (run_from n (after_event n w e) es) more in
    ap (λ xs. head ++ (own ++ xs)) (inner_lines-append n number form (after_event n w e) es more)
    ∙ ap (λ xs. head ++ xs) (sym (append_assoc own rest behind))
    ∙ sym (append_assoc head (own ++ rest) behind)

less_one : (k : ℕ) → suc k - 1 ≡ k
less_one k = omega arith

-- a message is under way: it is delivered, and then those that are left
pub delivers : (n : ℕ) (w : World) (left : ℕ) → 0 < left → has_some (bag w.journal) ≡ true
    → deliveries n w left ≡ Deliver 1 ∷ deliveries n (after_event n w (Deliver 1)) (left - 1)
delivers n w zero lt h = absurd (omega arith)
delivers n w (suc k) lt h =
    let behind = after_event n w (Deliver 1) in
    ap (λ b. cond b (Deliver 1 ∷ deliveries n behind k) []) h
    ∙ ap (λ j. Deliver 1 ∷ deliveries n behind j) (sym (less_one k))

-- none is: nothing more is delivered
pub delivers_none : (n : ℕ) (w : World) (left : ℕ) → has_some (bag w.journal) ≡ false
    → deliveries n w left ≡ []
delivers_none n w zero h = refl
delivers_none n w (suc k) h =
    ap (λ b. cond b (Deliver 1 ∷ deliveries n (after_event n w (Deliver 1)) k) []) h

-- nothing is left to deliver, or to go round
pub deliveries_over : (n : ℕ) (w : World) (left : ℕ) → left ≤ 0 → deliveries n w left ≡ []
deliveries_over n w zero le = refl
deliveries_over n w (suc k) le = absurd (omega arith)

pub settling_over : (n most moment : ℕ) (w : World) (left : ℕ) → left ≤ 0 → settling n most moment w left ≡ []
settling_over n most moment w zero le = refl
settling_over n most moment w (suc k) le = absurd (omega arith)

-- the run is quiet behind the deliveries: these are all events
pub settles : (n most moment : ℕ) (w : World) (left : ℕ) → 0 < left
    → quiet_of n (delivered n most w) ≡ Quiet
    → settling n most moment w left ≡ deliveries n w most
settles n most moment w zero lt h = absurd (omega arith)
settles n most moment w (suc k) lt h =
    let ts = round_ticks n most moment w in
    ap (λ q. deliveries n w most ++ unless_quiet q (ts ++ settling n most moment (ticked n most moment w) k)) h
    ∙ append-nil (deliveries n w most)

-- or each live server ticks, and a further round follows
pub settles_on : (n most moment : ℕ) (w : World) (left : ℕ) (cause : Cause) → 0 < left
    → quiet_of n (delivered n most w) ≡ Waits cause
    → settling n most moment w left
    ≡ deliveries n w most
    ++ (round_ticks n most moment w ++ settling n most moment (ticked n most moment w) (left - 1))
settles_on n most moment w zero cause lt h = absurd (omega arith)
settles_on n most moment w (suc k) cause lt h =
    let ts = round_ticks n most moment w in
    let behind = ticked n most moment w in
    ap (λ q. deliveries n w most ++ unless_quiet q (ts ++ settling n most moment behind k)) h
    ∙ ap (λ j. deliveries n w most ++ (ts ++ settling n most moment behind j)) (sym (less_one k))
