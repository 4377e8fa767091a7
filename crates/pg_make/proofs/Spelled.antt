-- Each made line has a spelling.
use Rattle.std.proofs.Common.{ℕ, zero, suc, ◌<◌, ◌≤◌, ◌+◌, ◌*◌, ◌%◌, ◌==◌, ◌^◌, Bool, true, false, cond, List, [], ◌∷◌, ◌++◌, All, decimal, length, length-append, arith}
use Rattle.std.specs.Int.{w32, to_be_bytes}
use Rattle.std.specs.List.{AllByRecursion, join_with_byte}
use Rattle.std.proofs.lemmas.List.Elements.{All-append, All-cons, All-weaker}
use Rattle.pg_base.specs.declared.policy.Policy.{Policy}
use Rattle.pg_base.specs.declared.policy.Policy.TheVariants.{Last, Join}
use Rattle.pg_call.specs.Call.{IsCall, call_words, policy_word}
use Rattle.pg_call.specs.declared.call.Call.{Call}
use Rattle.pg_event.specs.declared.event.Event.TheVariants as event
use Rattle.pg_make.proofs.Bounds.{word_below, below_bound, four_bytes}
use Rattle.pg_make.specs.Draw.{below}
use Rattle.pg_make.specs.Action.{next_action}
use Rattle.pg_make.specs.Event.{directory_path, file_path, next_call, next_act, next_event}
use Rattle.pg_make.specs.Made.{first_words, numbered_lines, first_lines, made_lines}
use Rattle.pg_make.specs.declared.action.Action.{Action}
use Rattle.pg_make.specs.declared.action.Action.TheVariants as action
use Rattle.pg_make.specs.declared.action.Request.{Request}
use Rattle.pg_make.specs.declared.action.Request.TheVariants as ask
use Rattle.pg_sched.specs.Line.{IsLine, line_words, HasWords}
use Rattle.pg_sched.specs.Schedule.{AreLines, IsCount}
use Rattle.pg_sched.specs.declared.line.Line.{Line}
use Rattle.pg_sched.specs.declared.line.Line.TheVariants.{Happens, Settle, Quiet}
use Rattle.pg_words.proofs.HexWords.{length-encode}
use Rattle.pg_words.specs.HexWord.{hex_word}
use Rattle.pg_words.proofs.WordBytes.{IsWordByte, decimal_word}
use Rattle.pg_words.specs.TextWord.{IsText, IsVisible}
use Rattle.rand_pcg.specs.Lcg.{Lcg}
use Rattle.rand_pcg.specs.Pcg.{pcg32}

-- ---- words that are not long

abbrev IsShort : List ℕ → Type 0
IsShort word = length word ≤ 44

abbrev AreShort : List (List ℕ) → Type 0
AreShort words = AllByRecursion IsShort words

joined_short : (words : List (List ℕ)) → AreShort words
    → length (join_with_byte 32 words) ≤ 45 * length words
joined_short [] h = omega arith
joined_short (x ∷ []) h = let few = h.0 in omega arith
joined_short (x ∷ y ∷ words) h =
    let few = h.0 in
    let more = joined_short (y ∷ words) h.1 in
    let e = length-append x (32 ∷ join_with_byte 32 (y ∷ words)) in
    omega arith

number_short : (n : ℕ) → n < 2 ^ 64 → IsShort (decimal n)
number_short n lt = let w = decimal_word n lt in let few = w.few in omega arith

-- ---- paths

letter : (b : ℕ) → 47 ≤ b → b ≤ 102 → IsVisible b
letter b low high = record { least = omega arith; most = omega arith }

digits_visible : (n : ℕ) → n < 2 ^ 64 → All IsVisible (decimal n)
digits_visible n lt =
    let w = decimal_word n lt in
    All-weaker IsWordByte IsVisible (λ b p. record { least = p.0; most = p.1 }) (decimal n) w.each

numbered_text : (letter n : ℕ) → IsVisible letter → n < 2 ^ 64
    → All IsVisible (47 ∷ letter ∷ decimal n)
numbered_text b n v lt =
    All-cons IsVisible 47 (b ∷ decimal n) (letter 47 (omega arith) (omega arith))
    (All-cons IsVisible b (decimal n) v (digits_visible n lt))

directory_each : (k : ℕ) → k < 2 ^ 64 → All IsVisible (directory_path k)
directory_each k lt = numbered_text 100 k (letter 100 (omega arith) (omega arith)) lt

directory_text : (k : ℕ) → k < 2 ^ 64 → IsText (directory_path k)
directory_text k lt = record { some = omega arith; each = directory_each k lt }

directory_short : (k : ℕ) → k < 2 ^ 64 → IsShort (directory_path k)
directory_short k lt = let w = decimal_word k lt in let few = w.few in omega arith

file_text : (k m : ℕ) → k < 2 ^ 64 → m < 2 ^ 64 → IsText (file_path k m)
file_text k m lk lm = record {
  some = omega arith;
  each = All-append IsVisible (directory_path k) (47 ∷ 102 ∷ decimal m) (directory_each k lk)
      (numbered_text 102 m (letter 102 (omega arith) (omega arith)) lm);
}

file_short : (k m : ℕ) → k < 2 ^ 64 → m < 2 ^ 64 → IsShort (file_path k m)
file_short k m lk lm =
    let wk = decimal_word k lk in
    let wm = decimal_word m lm in
    let fk = wk.few in
    let fm = wm.few in
    let e = length-append (directory_path k) (47 ∷ 102 ∷ decimal m) in
    omega arith

-- ---- calls

policy_short : (policy : Policy) → IsShort (policy_word policy)
policy_short Last = omega arith
policy_short Join = omega arith

bytes_short : (n : ℕ) → IsShort (hex_word (to_be_bytes w32 n))
bytes_short n = let e = length-encode (to_be_bytes w32 n) in omega arith

-- a call that has a spelling, and no long word
record IsGood (call : Call) : Type 0 where
  fits : IsCall call
  short : AreShort (call_words call)

call_good : (request : Request) (k m : ℕ) (words : Lcg) → k < 2 ^ 32 → m < 2 ^ 32
    → IsGood (next_call request k m words).0
call_good ask.Mkdir k m words lk lm = record {
  fits = directory_text k (omega arith);
  short = (omega arith, (directory_short k (omega arith), tt));
}
call_good (ask.Create policy) k m words lk lm = record {
  fits = file_text k m (omega arith) (omega arith);
  short = (omega arith, (file_short k m (omega arith) (omega arith), (policy_short policy, tt)));
}
call_good ask.Write k m words lk lm = record {
  fits = (
    file_text k m (omega arith) (omega arith),
    omega arith,
    record { each = four_bytes (pcg32 words).0; few = omega arith },
  );
  short = (
    omega arith,
    (
      file_short k m (omega arith) (omega arith),
      (number_short 0 (omega arith), (bytes_short (pcg32 words).0, tt)),
    ),
  );
}
call_good ask.Cut k m words lk lm =
    let small = below_bound 4096 words (omega arith) in
    record {
      fits = (file_text k m (omega arith) (omega arith), omega arith);
      short = (
        omega arith,
        (
          file_short k m (omega arith) (omega arith),
          (number_short (below 4096 words).0 (omega arith), tt),
        ),
      );
    }
call_good ask.Rename k m words lk lm =
    let to = below 4 words in
    let small = below_bound 4 words (omega arith) in
    let few = below_bound 8 to.1 (omega arith) in
    record {
      fits = (
        file_text k m (omega arith) (omega arith),
        file_text (below 4 words).0 (below 8 to.1).0 (omega arith) (omega arith),
      );
      short = (
        omega arith,
        (
          file_short k m (omega arith) (omega arith),
          (file_short (below 4 words).0 (below 8 to.1).0 (omega arith) (omega arith), tt),
        ),
      );
    }
call_good ask.Unlink k m words lk lm = record {
  fits = file_text k m (omega arith) (omega arith);
  short = (omega arith, (file_short k m (omega arith) (omega arith), tt));
}
call_good ask.Rmdir k m words lk lm = record {
  fits = directory_text k (omega arith);
  short = (omega arith, (directory_short k (omega arith), tt));
}
call_good ask.Read k m words lk lm = record {
  fits = (file_text k m (omega arith) (omega arith), omega arith, omega arith);
  short = (
    omega arith,
    (
      file_short k m (omega arith) (omega arith),
      (number_short 0 (omega arith), (number_short 16 (omega arith), tt)),
    ),
  );
}

call_few : (request : Request) (k m : ℕ) (words : Lcg)
    → length (call_words (next_call request k m words).0) ≤ 5
call_few ask.Mkdir k m words = omega arith
call_few (ask.Create policy) k m words = omega arith
call_few ask.Write k m words = omega arith
call_few ask.Cut k m words = omega arith
call_few ask.Rename k m words = omega arith
call_few ask.Unlink k m words = omega arith
call_few ask.Rmdir k m words = omega arith
call_few ask.Read k m words = omega arith

-- ---- lines

-- a line whose words have a spelling and are not long
short_line : (line : Line) → HasWords line → AreShort (line_words line)
    → length (line_words line) ≤ 8
    → IsLine line
short_line line h short few =
    let bound = joined_short (line_words line) short in
    record { words = h; short = omega arith }

act_line : (act : Action) (server moment k m : ℕ) (words : Lcg) → server < 2 ^ 32 → moment < 2 ^ 64
    → k < 2 ^ 32
    → m < 2 ^ 32
    → IsLine (Happens (next_act act server moment k m words).0)
act_line (action.Ask request) server moment k m words ls lt lk lm =
    let good = call_good request k m words lk lm in
    let few = call_few request k m words in
    short_line (Happens (next_act (action.Ask request) server moment k m words).0)
    (ls, lt, good.fits)
    (omega arith, (number_short server (omega arith), (number_short moment lt, good.short)))
    (omega arith)
act_line action.Repeat server moment k m words ls lt lk lm =
    short_line (Happens (event.Repeat 1)) (omega arith)
    (omega arith, (number_short 1 (omega arith), tt)) (omega arith)
act_line action.Lose server moment k m words ls lt lk lm =
    short_line (Happens (event.Lose 1)) (omega arith)
    (omega arith, (number_short 1 (omega arith), tt)) (omega arith)
act_line action.Restart server moment k m words ls lt lk lm =
    short_line (Happens (event.Restart server)) ls
    (omega arith, (number_short server (omega arith), tt)) (omega arith)
act_line action.Tick server moment k m words ls lt lk lm =
    let small = word_below words in
    short_line (Happens (event.Tick server moment (pcg32 words).0)) (ls, lt, omega arith) (
      omega arith,
      (
        number_short server (omega arith),
        (
          number_short moment lt,
          (number_short (pcg32 words).0 (omega arith), tt),
        ),
      ),
    ) (omega arith)
act_line action.Deliver server moment k m words ls lt lk lm =
    let small = below_bound 4 words (omega arith) in
    short_line (Happens (event.Deliver (1 + (below 4 words).0))) (omega arith)
    (omega arith, (number_short (1 + (below 4 words).0) (omega arith), tt)) (omega arith)

pub event_line : (servers moment : ℕ) (words : Lcg) → IsCount servers → moment < 2 ^ 64
    → IsLine (Happens (next_event servers moment words).0)
event_line servers moment words count lt =
    let act = next_action words in
    let server = below servers act.1 in
    let k = below 4 server.1 in
    let most = count.1 in
    let some = count.0 in
    let ls = below_bound servers act.1 (omega arith) in
    let lk = below_bound 4 server.1 (omega arith) in
    let lm = below_bound 8 k.1 (omega arith) in
    act_line act.0 (1 + server.0) moment k.0 (below 8 k.1).0 (below 8 k.1).1 (omega arith) lt
    (omega arith) (omega arith)

pub settle_line : (rounds moment : ℕ) → rounds < 2 ^ 32 → moment < 2 ^ 64 → IsLine (Settle rounds moment)
settle_line rounds moment lr lt =
    short_line (Settle rounds moment) (lr, lt)
    (omega arith, (number_short rounds (omega arith), (number_short moment lt, tt))) (omega arith)

pub quiet_line : IsLine Quiet
quiet_line = short_line Quiet tt (omega arith, tt) (omega arith)

chosen_lines : (test : Bool) (line : Line) → IsLine line → AreLines (cond test (line ∷ []) [])
chosen_lines true line h = (h, tt)
chosen_lines false line h = tt

numbered_good : (servers number : ℕ) (words : Lcg) → IsCount servers → number ≤ 1000000
    → AreLines (numbered_lines servers number words).0
numbered_good servers number words count few = (
  event_line servers (10 * number) words count (omega arith),
  chosen_lines (number % 16 == 0) (Settle 1 (10 * number))
      (settle_line 1 (10 * number) (omega arith) (omega arith)),
)

lines_joined : (xs ys : List Line) → AreLines xs → AreLines ys → AreLines (xs ++ ys)
lines_joined [] ys h k = k
lines_joined (x ∷ xs) ys h k = (h.0, lines_joined xs ys h.1 k)

first_good : (servers count : ℕ) (words : Lcg) → IsCount servers → count ≤ 1000000
    → AreLines (first_lines servers count words).0
first_good servers zero words n few = tt
first_good servers (suc count) words n few =
    let before = first_lines servers count words in
    lines_joined before.0 (numbered_lines servers (suc count) before.1).0
    (first_good servers count words n (omega arith))
    (numbered_good servers (suc count) before.1 n few)

pub made_good : (seed servers events : ℕ) → IsCount servers → events ≤ 1000000
    → AreLines (made_lines seed servers events)
made_good seed servers events n few =
    lines_joined (first_lines servers events (first_words seed)).0
    (Settle 64 (10 * (events + 1)) ∷ Quiet ∷ [])
    (first_good servers events (first_words seed) n few)
    (settle_line 64 (10 * (events + 1)) (omega arith) (omega arith), (quiet_line, tt))
