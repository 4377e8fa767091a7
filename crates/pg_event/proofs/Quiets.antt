-- Answers to whether all is done, as words: no two with the same words, which bytes these lack, and
-- how many they are.
use Rattle.std.proofs.Common.{rules, ℕ, ◌≡◌, ◌<◌, Option, None, Some, length, refl, sym, ap, arith, codes}
use Rattle.std.specs.List.{AllByRecursion}
use Rattle.std.proofs.lemmas.Fmt.{decimal_injective}
use Rattle.pg_base.proofs.Spellings.{spelling-same}
use Rattle.pg_base.specs.Id.{spelling}
use Rattle.pg_base.specs.declared.id.FileId.{FileId}
use Rattle.pg_base.specs.declared.id.Kind.{Kind}
use Rattle.pg_base.specs.declared.id.Kind.TheVariants.{Dir, File}
use Rattle.pg_call.specs.pg_intent.Kind.{intent_word}
use Rattle.pg_call.specs.pg_intent.declared.kind.IntentKind.{IntentKind}
use Rattle.pg_call.specs.pg_intent.declared.kind.IntentKind.TheVariants as kind
use Rattle.pg_edges.specs.declared.key.Key.{Key}
use Rattle.pg_event.specs.Quiet.{child_word, intent_words, key_words, owing_words, cause_words, quiet_words, IsChild, IsOwedIntent, IsOwedKey, IsOwing, IsCause, IsAnswer}
use Rattle.pg_event.specs.declared.quiet.OwedIntent.{OwedIntent}
use Rattle.pg_event.specs.declared.quiet.OwedKey.{OwedKey}
use Rattle.pg_event.specs.declared.quiet.Owing.{Owing}
use Rattle.pg_event.specs.declared.quiet.Owing.TheVariants as owing
use Rattle.pg_event.specs.declared.quiet.Cause.{Cause}
use Rattle.pg_event.specs.declared.quiet.Cause.TheVariants.{Message, View, Owed}
use Rattle.pg_event.specs.declared.quiet.Quiet.{Quiet}
use Rattle.pg_event.specs.declared.quiet.Quiet.TheVariants as quiet
use Rattle.pg_msg.proofs.Keys.{same_key, Lacks-key}
use Rattle.pg_msg.proofs.Summaries.{same_summary, summary-lack}
use Rattle.pg_words.proofs.Lacking.{Ends, literal, Lacks-decimal, Lacks-server, Lacks-spelling}
use Rattle.pg_words.proofs.Splitting.{Lacks, behind, first_byte, lead, word_at}
use Rattle.pg_words.proofs.Stamps.{same_server}

-- bytes that the words lack

Lacks-intent : (c : ℕ) (k : IntentKind) → Ends c → Lacks c (intent_word k)
Lacks-intent c kind.Bye h = let low = h.low in literal c (codes "Bye") (omega arith)
Lacks-intent c kind.Seek h = let low = h.low in literal c (codes "Seek") (omega arith)
Lacks-intent c kind.Fill h = let low = h.low in literal c (codes "Fill") (omega arith)
Lacks-intent c kind.Patch h = let low = h.low in literal c (codes "Patch") (omega arith)
Lacks-intent c kind.Confirm h = let low = h.low in literal c (codes "Confirm") (omega arith)
Lacks-intent c kind.Leave h = let low = h.low in literal c (codes "Leave") (omega arith)

Lacks-child : (c : ℕ) (o : Option FileId) → Ends c → IsChild o → Lacks c (child_word o)
Lacks-child c None h fits = let low = h.low in literal c (codes "-") (omega arith)
Lacks-child c (Some f) h fits = Lacks-spelling c f h fits

owing-lack : (c : ℕ) (o : Owing) → Ends c → IsOwing o → AllByRecursion (Lacks c) (owing_words o)
owing-lack c (owing.Intent o) h fits =
    let low = h.low in (
      literal c (codes "intent") (omega arith),
      (
        Lacks-server c o.server h fits.owes,
        (Lacks-intent c o.kind h, (Lacks-spelling c o.file h fits.about, (Lacks-child c o.child h fits.child, (Lacks-server c o.target h fits.target, tt)))),
      ),
    )
owing-lack c (owing.Key o) h fits =
    let low = h.low in (
      literal c (codes "cell") (omega arith),
      (Lacks-server c o.server h fits.owes, (Lacks-spelling c o.file h fits.about, (Lacks-server c o.peer h fits.owed, (Lacks-key c o.key h fits.cell, tt)))),
    )
owing-lack c (owing.HeldBack s f) h fits = let low = h.low in (literal c (codes "place") (omega arith), (Lacks-server c s h fits.0, (Lacks-spelling c f h fits.1, tt)))

cause-lack : (c : ℕ) (k : Cause) → Ends c → IsCause k → AllByRecursion (Lacks c) (cause_words k)
cause-lack c (Message s) h fits = let low = h.low in (literal c (codes "message") (omega arith), summary-lack c s h fits)
cause-lack c (View s v) h fits = let low = h.low in (literal c (codes "view") (omega arith), (Lacks-server c s h fits.0, (Lacks-decimal c v h fits.1, tt)))
cause-lack c (Owed o) h fits = owing-lack c o h fits

pub quiet-lack : (c : ℕ) (q : Quiet) → Ends c → IsAnswer q → AllByRecursion (Lacks c) (quiet_words q)
quiet-lack c quiet.Quiet h fits = let low = h.low in (literal c (codes "quiet") (omega arith), tt)
quiet-lack c (quiet.Waits k) h fits = let low = h.low in (literal c (codes "waits") (omega arith), cause-lack c k h fits)

-- how many words there are

pub few_asked : (q : Quiet) → length (quiet_words q) < 8
few_asked quiet.Quiet = omega arith
few_asked (quiet.Waits (Message s)) = omega arith
few_asked (quiet.Waits (View s v)) = omega arith
few_asked (quiet.Waits (Owed (owing.Intent o))) = omega arith
few_asked (quiet.Waits (Owed (owing.Key o))) = omega arith
few_asked (quiet.Waits (Owed (owing.HeldBack s f))) = omega arith

-- no two have the same words

same_intent : (a b : IntentKind) → intent_word a ≡ intent_word b → a ≡ b
same_intent = search rules

-- an id is no dash
letter_first : (f : FileId) → codes "-" ≡ spelling f → ⊥
letter_first f e = letter_of f.kind f.server f.number (ap first_byte (sym e))
  where
    letter_of : (k : Kind) (s n : ℕ) → first_byte (spelling (record { kind = k; server = s; number = n })) ≡ 45 → ⊥
    letter_of Dir s n e = omega arith
    letter_of File s n e = omega arith

same_child : (a b : Option FileId) → IsChild a → IsChild b → child_word a ≡ child_word b → a ≡ b
same_child None None ha hb e = refl
same_child (Some f) (Some g) ha hb e = ap Some (spelling-same f g ha hb e)
same_child None (Some g) ha hb e = absurd (letter_first g e)
same_child (Some f) None ha hb e = absurd (letter_first f (sym e))

intent_of_parts : (a : ℕ) (k : IntentKind) (f : FileId) (x : Option FileId) (b : ℕ) (c : ℕ) (l : IntentKind) (g : FileId) (y : Option FileId) (d : ℕ) → a ≡ c → k ≡ l → f ≡ g → x ≡ y → b ≡ d
    → (let s : OwedIntent = record { server = a; kind = k; file = f; child = x; target = b } in let t : OwedIntent = record { server = c; kind = l; file = g; child = y; target = d } in s ≡ t)
intent_of_parts a k f x b c l g y d p q r s t = cc

same_owed_intent : (a b : OwedIntent) → IsOwedIntent a → IsOwedIntent b → intent_words a ≡ intent_words b → a ≡ b
same_owed_intent a b ha hb e =
    intent_of_parts a.server a.kind a.file a.child a.target b.server b.kind b.file b.child b.target
    (same_server a.server b.server ha.owes hb.owes (ap (word_at 1) e))
    (same_intent a.kind b.kind (ap (word_at 2) e))
    (spelling-same a.file b.file ha.about hb.about (ap (word_at 3) e))
    (same_child a.child b.child ha.child hb.child (ap (word_at 4) e))
    (same_server a.target b.target ha.target hb.target (ap (word_at 5) e))

key_of_parts : (a : ℕ) (f : FileId) (b : ℕ) (y : Key) (c : ℕ) (g : FileId) (d : ℕ) (z : Key) → a ≡ c → f ≡ g → b ≡ d → y ≡ z
    → (let s : OwedKey = record { server = a; file = f; peer = b; key = y } in let t : OwedKey = record { server = c; file = g; peer = d; key = z } in s ≡ t)
key_of_parts a f b y c g d z p q r s = cc

same_owed_key : (a b : OwedKey) → IsOwedKey a → IsOwedKey b → key_words a ≡ key_words b → a ≡ b
same_owed_key a b ha hb e =
    key_of_parts a.server a.file a.peer a.key b.server b.file b.peer b.key
    (same_server a.server b.server ha.owes hb.owes (ap (word_at 1) e))
    (spelling-same a.file b.file ha.about hb.about (ap (word_at 2) e))
    (same_server a.peer b.peer ha.owed hb.owed (ap (word_at 3) e))
    (same_key a.key b.key ha.cell hb.cell (ap (word_at 4) e))

same_held : (s t : ℕ) (f g : FileId) → s ≡ t → f ≡ g → ◌≡◌ {A = Owing} (owing.HeldBack s f) (owing.HeldBack t g)
same_held s t f g p q = cc

same_owing : (a b : Owing) → IsOwing a → IsOwing b → owing_words a ≡ owing_words b → a ≡ b
same_owing (owing.Intent o) (owing.Intent p) ha hb e = ap owing.Intent (same_owed_intent o p ha hb e)
same_owing (owing.Key o) (owing.Key p) ha hb e = ap owing.Key (same_owed_key o p ha hb e)
same_owing (owing.HeldBack s f) (owing.HeldBack t g) ha hb e = same_held s t f g (same_server s t ha.0 hb.0 (ap (word_at 1) e)) (spelling-same f g ha.1 hb.1 (ap (word_at 2) e))
same_owing a b ha hb e = absurd (let h = ap lead e in omega arith)

same_view : (s t v w : ℕ) → s ≡ t → v ≡ w → ◌≡◌ {A = Cause} (View s v) (View t w)
same_view s t v w p q = cc

same_cause : (a b : Cause) → IsCause a → IsCause b → cause_words a ≡ cause_words b → a ≡ b
same_cause (Message s) (Message t) ha hb e = ap Message (same_summary s t ha hb (ap behind e))
same_cause (View s v) (View t w) ha hb e = same_view s t v w (same_server s t ha.0 hb.0 (ap (word_at 1) e)) (decimal_injective v w ha.1 hb.1 (ap (word_at 2) e))
same_cause (Owed s) (Owed t) ha hb e = ap Owed (same_owing s t ha hb e)
same_cause (Message s) (View t w) ha hb e = absurd (let h = ap lead e in omega arith)
same_cause (View s v) (Message t) ha hb e = absurd (let h = ap lead e in omega arith)
same_cause (Owed (owing.Intent o)) k ha hb e = absurd (let h = ap lead e in omega arith)
same_cause (Owed (owing.Key o)) k ha hb e = absurd (let h = ap lead e in omega arith)
same_cause (Owed (owing.HeldBack t f)) k ha hb e = absurd (let h = ap lead e in omega arith)
same_cause k (Owed (owing.Intent o)) ha hb e = absurd (let h = ap lead e in omega arith)
same_cause k (Owed (owing.Key o)) ha hb e = absurd (let h = ap lead e in omega arith)
same_cause k (Owed (owing.HeldBack t f)) ha hb e = absurd (let h = ap lead e in omega arith)

pub same_quiet : (a b : Quiet) → IsAnswer a → IsAnswer b → quiet_words a ≡ quiet_words b → a ≡ b
same_quiet quiet.Quiet quiet.Quiet ha hb e = refl
same_quiet (quiet.Waits s) (quiet.Waits t) ha hb e = ap quiet.Waits (same_cause s t ha hb (ap behind e))
same_quiet quiet.Quiet (quiet.Waits t) ha hb e = absurd (let h = ap lead e in omega arith)
same_quiet (quiet.Waits s) quiet.Quiet ha hb e = absurd (let h = ap lead e in omega arith)
