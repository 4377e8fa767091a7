-- The bytes of a line's words: that each is printable and no space, and how many there are, but in
-- the words of a call.
use Rattle.std.proofs.Common.{ℕ, ◌<◌, ◌≤◌, ◌^◌, List, length, sym, arith, codes, decimal, All, inl, inr, subst}
use Rattle.std.specs.List.{AllByRecursion}
use Rattle.std.proofs.lemmas.List.Elements.{All-from_recursion, All-weaker}
use Rattle.pg_base.specs.declared.policy.Policy.{Policy}
use Rattle.pg_base.specs.declared.policy.Policy.TheVariants as policy
use Rattle.pg_call.specs.Call as call
use Rattle.pg_call.specs.Fields.{Field, IsWordOf}
use Rattle.pg_call.specs.Fields.Field.{Narrow, Wide, Count, Bytes, AnyId, Path, PathOrId, PolicyName, Form, Off}
use Rattle.pg_call.specs.declared.call.CallKind.{CallKind}
use Rattle.pg_call.specs.declared.call.CallKind.TheVariants as called
use Rattle.pg_call.specs.declared.call.Target.{Target}
use Rattle.pg_call.specs.declared.call.Target.TheVariants as target
use Rattle.pg_sched.specs.Cause.{IsPrintable}
use Rattle.pg_sched.specs.Fields.{verb_word}
use Rattle.pg_sched.specs.declared.verb.Verb.{Verb}
use Rattle.pg_sched.specs.declared.verb.Verb.TheVariants as verb
use Rattle.pg_words.proofs.WordBytes.{IsWordByte, decimal_each, decimal_word, spelling_word, hex_each}
use Rattle.pg_words.specs.TextWord.{IsText, IsVisible}

pub decimal_printable : (n : ℕ) → n < 2 ^ 64 → All IsPrintable (decimal n)
decimal_printable n lt = All-weaker IsWordByte IsPrintable (λ b p. let low = p.0 in let high = p.1 in (omega arith, omega arith)) (decimal n) (decimal_each n lt)

text_each : (text : List ℕ) → IsText text → All IsWordByte text
text_each text h = All-weaker IsVisible IsWordByte (λ b v. (v.least, v.most)) text h.each

target_each : (t : Target) → call.IsTarget t → All IsWordByte (call.target_word t)
target_each (target.Path p) h = text_each p h.0
target_each (target.Id f) h = let w = spelling_word f h in w.each

known_each : (word : List ℕ) → AllByRecursion IsWordByte word → All IsWordByte word
known_each word h = All-from_recursion IsWordByte word h

policy_each : (p : Policy) → All IsWordByte (call.policy_word p)
policy_each policy.Last = known_each (codes "last") (omega arith)
policy_each policy.Join = known_each (codes "join") (omega arith)

abbrev EachIs : List ℕ → Type 0
EachIs word = All IsWordByte word

pub word_each : (field : Field) (word : List ℕ) → IsWordOf field word → All IsWordByte word
word_each Narrow word h = let lt = h.1 in subst EachIs (sym h.2) (decimal_each h.0 (omega arith))
word_each Wide word h = subst EachIs (sym h.2) (decimal_each h.0 h.1)
word_each Count word h = let le = h.1 in subst EachIs (sym h.2) (decimal_each h.0 (omega arith))
word_each Bytes word h = let body = h.1 in subst EachIs (sym h.2) (hex_each h.0 body.each)
word_each AnyId word h = let w = spelling_word h.0 h.1 in subst EachIs (sym h.2) w.each
word_each Path word h = text_each word h
word_each PathOrId word h = subst EachIs (sym h.2) (target_each h.0 h.1)
word_each PolicyName word h = subst EachIs (sym h.1) (policy_each h.0)
word_each Form word (inl e) = subst EachIs (sym e) (known_each (codes "full") (omega arith))
word_each Form word (inr e) = subst EachIs (sym e) (known_each (codes "short") (omega arith))
word_each Off word h = subst EachIs (sym h) (known_each (codes "off") (omega arith))

-- a field whose words have a greatest length
abbrev pub IsBounded : Field → Type 0
IsBounded Narrow = Unit {0}
IsBounded Wide = Unit {0}
IsBounded Count = ⊥
IsBounded Bytes = ⊥
IsBounded AnyId = Unit {0}
IsBounded Path = ⊥
IsBounded PathOrId = ⊥
IsBounded PolicyName = ⊥
IsBounded Form = Unit {0}
IsBounded Off = Unit {0}

-- the most bytes that a word of such a field has
abbrev pub most : Field → ℕ
most Narrow = 20
most Wide = 20
most Count = 0
most Bytes = 0
most AnyId = 42
most Path = 0
most PathOrId = 0
most PolicyName = 0
most Form = 5
most Off = 3

abbrev IsAtMost : ℕ → List ℕ → Type 0
IsAtMost n word = length word ≤ n

pub word_few : (field : Field) (word : List ℕ) → IsBounded field → IsWordOf field word → length word ≤ most field
word_few Narrow word b h = let lt = h.1 in let w = decimal_word h.0 (omega arith) in subst (IsAtMost 20) (sym h.2) w.few
word_few Wide word b h = let w = decimal_word h.0 h.1 in subst (IsAtMost 20) (sym h.2) w.few
word_few Count word b h = absurd b
word_few Bytes word b h = absurd b
word_few AnyId word b h = let w = spelling_word h.0 h.1 in subst (IsAtMost 42) (sym h.2) w.few
word_few Path word b h = absurd b
word_few PathOrId word b h = absurd b
word_few PolicyName word b h = absurd b
word_few Form word b (inl e) = subst (IsAtMost 5) (sym e) (omega arith)
word_few Form word b (inr e) = subst (IsAtMost 5) (sym e) (omega arith)
word_few Off word b h = subst (IsAtMost 3) (sym h) (omega arith)

-- the words that name a line

pub verb_each : (v : Verb) → All IsWordByte (verb_word v)
verb_each verb.Tick = known_each (codes "tick") (omega arith)
verb_each verb.Deliver = known_each (codes "deliver") (omega arith)
verb_each verb.Lose = known_each (codes "lose") (omega arith)
verb_each verb.Repeat = known_each (codes "repeat") (omega arith)
verb_each verb.Restart = known_each (codes "restart") (omega arith)
verb_each verb.Remove = known_each (codes "remove") (omega arith)
verb_each verb.Settle = known_each (codes "settle") (omega arith)
verb_each verb.Quiet = known_each (codes "quiet") (omega arith)
verb_each verb.Trace = known_each (codes "trace") (omega arith)
verb_each verb.Show = known_each (codes "show") (omega arith)
verb_each verb.Meter = known_each (codes "meter") (omega arith)

pub call_each : All IsWordByte (codes "call")
call_each = known_each (codes "call") (omega arith)

pub called_each : (k : CallKind) → All IsWordByte (call.kind_word k)
called_each called.Mkdir = known_each (codes "mkdir") (omega arith)
called_each called.Create = known_each (codes "create") (omega arith)
called_each called.Write = known_each (codes "write") (omega arith)
called_each called.Cut = known_each (codes "cut") (omega arith)
called_each called.Read = known_each (codes "read") (omega arith)
called_each called.Fresh = known_each (codes "fresh") (omega arith)
called_each called.Ls = known_each (codes "ls") (omega arith)
called_each called.Stat = known_each (codes "stat") (omega arith)
called_each called.Rename = known_each (codes "rename") (omega arith)
called_each called.Unlink = known_each (codes "unlink") (omega arith)
called_each called.Rmdir = known_each (codes "rmdir") (omega arith)
called_each called.Forget = known_each (codes "forget") (omega arith)
called_each called.Demote = known_each (codes "demote") (omega arith)
called_each called.Drop = known_each (codes "drop") (omega arith)
called_each called.Giveup = known_each (codes "giveup") (omega arith)
called_each called.Status = known_each (codes "status") (omega arith)
called_each called.Stop = known_each (codes "stop") (omega arith)
