-- Lines that are taken and counted, one behind the other.
use Rattle.std.proofs.Common.{ℕ, suc, ◌≡◌, ◌+◌, ◌*◌, ◌++◌, List, [], ◌∷◌, None, false, refl, sym, ap, subst, ◌∙◌, add-one}
use Rattle.pg_make.specs.Made.{first_lines, first_words, made_lines, numbered_lines}
use Rattle.pg_run.specs.Run.{World, start}
use Rattle.pg_sched.specs.declared.line.Line.{Line}
use Rattle.pg_sched.specs.declared.line.Line.TheVariants.{Settle, Quiet}
use Rattle.pg_world.specs.Played.{final}
use Rattle.rand_pcg.specs.Lcg.{Lcg}
use Rattle.pg_replay.specs.declared.soak.Soak.{Soak}
use Rattle.pg_replay.specs.declared.soak.Tally.{Tally}
use Rattle.pg_replay.specs.declared.journal.Replay.{Replay}
use Rattle.pg_replay.specs.declared.mark.Mark.{Mark}
use Rattle.pg_replay.specs.Going.{Takes}
use Rattle.pg_replay.specs.Marks.{marked, marks_of}
use Rattle.pg_replay.specs.Settling.{after_line, after_lines, events_of}
use Rattle.pg_replay.specs.Soaked.{HasSoaked, SoaksOn}
use Rattle.pg_replay.specs.Soaking.{head_line, no_tally, quiet_line, soak_text, tally_line, with_line, with_lines, with_marks}

after_lines-append : (n : ℕ) (w : World) (xs ys : List Line)
    → after_lines n w (xs ++ ys) ≡ after_lines n (after_lines n w xs) ys
after_lines-append n w [] ys = refl
after_lines-append n w (x ∷ xs) ys = after_lines-append n (after_line n w x) xs ys

with_lines-append : (n : ℕ) (w : World) (xs ys : List Line) (t : Tally)
    → with_lines n w (xs ++ ys) t ≡ with_lines n (after_lines n w xs) ys (with_lines n w xs t)
with_lines-append n w [] ys t = refl
with_lines-append n w (x ∷ xs) ys t =
    with_lines-append n (after_line n w x) xs ys
    (with_marks (marks_of n w (events_of n w x)) (with_line t))

-- what depends on the servers and the world alone, behind some lines
behind : {A : Type 0} (f : ℕ → World → A) (a b : Soak) (xs : List Line) → SoaksOn a b xs
    → f b.replay.world.servers (final b.replay.world)
    ≡ f a.replay.world.servers (after_lines a.replay.world.servers (final a.replay.world) xs)
behind f a b xs x =
    ap (λ s. f s (final b.replay.world)) x.servers ∙ ap (f a.replay.world.servers) x.world

-- what was counted of one line
pub line_tallied : (a r : Replay) (number : ℕ) (l : Line) (t : Tally) → a.marks.items ≡ []
    → Takes a r number None l
    → with_marks r.marks.items (with_line t)
    ≡ with_lines a.world.servers (final a.world) (l ∷ []) t
line_tallied a r number l t none taken =
    let n = a.world.servers in
    let w = final a.world in
    ap (λ (ms : List Mark). with_marks ms (with_line t))
    (taken.marks ∙ ap (λ (ms : List Mark). marked ms n w (events_of n w l)) none)

-- no line
pub soaks_none : (a : Soak) → a.replay.world.failed ≡ false → a.replay.marks.items ≡ []
    → SoaksOn a a []
soaks_none a going none = record {
  world = refl;
  going = going;
  servers = refl;
  marks = none;
  out = λ e. e;
  tally = refl;
}

-- some lines, and then more
pub soaks_then : (a b c : Soak) (xs ys : List Line) → SoaksOn a b xs → SoaksOn b c ys
    → SoaksOn a c (xs ++ ys)
soaks_then a b c xs ys x y =
    let n = a.replay.world.servers in
    let w = final a.replay.world in
    record {
      world = y.world ∙ behind (λ s v. after_lines s v ys) a b xs x
          ∙ sym (after_lines-append n w xs ys);
      going = y.going;
      servers = y.servers ∙ x.servers;
      marks = y.marks;
      out = λ e. y.out (x.out e);
      tally = y.tally ∙ behind (λ s v. with_lines s v ys b.tally) a b xs x
          ∙ ap (λ (t : Tally). with_lines n (after_lines n w xs) ys t) x.tally
          ∙ sym (with_lines-append n w xs ys a.tally);
    }

-- the same from the start on
pub soaked_then : (n : ℕ) (a b : Soak) (xs ys : List Line) → HasSoaked n xs a → SoaksOn a b ys
    → HasSoaked n (xs ++ ys) b
soaked_then n a b xs ys x y =
    let w = after_lines n (start n) xs in
    record {
      world = y.world ∙ ap (λ s. after_lines s (final a.replay.world) ys) x.count
          ∙ ap (λ (v : World). after_lines n v ys) x.world
          ∙ sym (after_lines-append n (start n) xs ys);
      going = y.going;
      count = y.servers ∙ x.count;
      marks = y.marks;
      out = y.out x.out;
      tally = y.tally ∙ ap (λ s. with_lines s (final a.replay.world) ys a.tally) x.count
          ∙ ap (λ (v : World). with_lines n v ys a.tally) x.world
          ∙ ap (λ (t : Tally). with_lines n w ys t) x.tally
          ∙ sym (with_lines-append n (start n) xs ys no_tally);
    }

-- the event of this number, with the settling behind it
number_soaked : (n count : ℕ) (a b : Soak) (first words : Lcg)
    → HasSoaked n (first_lines n count first).0 a
    → words ≡ (first_lines n count first).1
    → (number : ℕ)
    → suc count ≡ number
    → SoaksOn a b (numbered_lines a.replay.world.servers number words).0
    → HasSoaked n (first_lines n number first).0 b
number_soaked n count a b first words had left number e more =
    let before = first_lines n count first in
    let P : ℕ → Type 0 = λ k. SoaksOn a b (numbered_lines n k words).0 in
    let Q : ℕ → Type 0 = λ k. HasSoaked n (first_lines n k first).0 b in
    let R : ℕ → Type 0 = λ s. SoaksOn a b (numbered_lines s number words).0 in
    let S : Lcg → Type 0 = λ w. SoaksOn a b (numbered_lines n (suc count) w).0 in
    subst Q e (soaked_then n a b before.0 (numbered_lines n (suc count) before.1).0 had
    (subst S left (subst P (sym e) (subst R had.count more))))

pub more_soaked : (n count : ℕ) (a b : Soak) (first words : Lcg)
    → HasSoaked n (first_lines n count first).0 a
    → words ≡ (first_lines n count first).1
    → SoaksOn a b (numbered_lines a.replay.world.servers (count + 1) words).0
    → HasSoaked n (first_lines n (count + 1) first).0 b
more_soaked n count a b first words had left more =
    number_soaked n count a b first words had left (count + 1) (sym (add-one count)) more

-- the generator behind the event of this number
words_behind : (n count : ℕ) (first words new : Lcg) → words ≡ (first_lines n count first).1
    → (number : ℕ)
    → suc count ≡ number
    → new ≡ (numbered_lines n number words).1
    → new ≡ (first_lines n number first).1
words_behind n count first words new left number e more =
    let P : ℕ → Type 0 = λ k. new ≡ (numbered_lines n k words).1 in
    let Q : ℕ → Type 0 = λ k. new ≡ (first_lines n k first).1 in
    subst Q e (subst P (sym e) more ∙ ap (λ w. (numbered_lines n (suc count) w).1) left)

pub more_words : (n count : ℕ) (a : Soak) (first words new : Lcg) → a.replay.world.servers ≡ n
    → words ≡ (first_lines n count first).1
    → new ≡ (numbered_lines a.replay.world.servers (count + 1) words).1
    → new ≡ (first_lines n (count + 1) first).1
more_words n count a first words new is left more =
    words_behind n count first words new left (count + 1) (sym (add-one count))
    (more ∙ ap (λ s. (numbered_lines s (count + 1) words).1) is)

-- what is told behind all lines of a made schedule
pub told_of : (n seed events : ℕ) (a b c : Soak) (text : List ℕ)
    → HasSoaked n (first_lines n events (first_words seed)).0 a
    → SoaksOn a b (Settle 64 (10 * (events + 1)) ∷ Quiet ∷ [])
    → c.replay.out ≡ b.replay.out ++ (head_line seed n events ++ (tally_line b.tally
    ++ quiet_line b.replay.world.servers (final b.replay.world)))
    → text ≡ c.replay.out
    → text ≡ soak_text seed n events
told_of n seed events a b c text had x told e =
    let lines = made_lines seed n events in
    let all = soaked_then n a b (first_lines n events (first_words seed)).0 (Settle 64 (10 * (events + 1)) ∷ Quiet ∷ []) had x in
    let rest : ℕ → World → Tally → List ℕ = λ s w t. head_line seed n events ++ (tally_line t ++ quiet_line s w) in
    e ∙ told
    ∙ ap (λ (o : List ℕ). o ++ rest b.replay.world.servers (final b.replay.world) b.tally) all.out
    ∙ ap (λ s. rest s (final b.replay.world) b.tally) all.count
    ∙ ap (λ (w : World). rest n w b.tally) all.world
    ∙ ap (λ (t : Tally). rest n (after_lines n (start n) lines) t) all.tally
