-- Kinds of messages as words: no two with one word, and which bytes these lack.
use Rattle.std.proofs.Common.{ℕ, ◌≡◌, Bool, true, false, cond, eqb, List, [], ◌∷◌, Option, Some, None, IfNone, MatchOption, length, refl, sym, ap, ◌∙◌, arith, codes}
use Rattle.std.specs.List.{AllWithin}
use Rattle.pg_base.specs.Id.{Fits}
use Rattle.pg_base.specs.declared.id.FileId.{FileId}
use Rattle.pg_msg.specs.declared.summary.Greeting.TheVariants as greeting
use Rattle.pg_msg.specs.declared.summary.MessageKind.{MessageKind}
use Rattle.pg_msg.specs.declared.summary.MessageKind.TheVariants as kind
use Rattle.pg_msg.specs.Text.{kind_text, IsAbout}
use Rattle.pg_words.proofs.Lacking.{Ends, literal}
use Rattle.pg_words.proofs.Splitting.{Lacks}

-- each clause for a `k` stands for all kinds that are not named above it
pub Lacks-kind : (c : ℕ) (k : MessageKind) → Ends c → Lacks c (kind_text k)
Lacks-kind c kind.Cell h = let low = h.low in literal c (codes "cell") (omega arith)
Lacks-kind c (kind.Greet greeting.Here) h = let low = h.low in literal c (codes "here") (omega arith)
Lacks-kind c k h = let low = h.low in literal c (kind_text k) (omega arith)

abbrev is_word : List ℕ → List ℕ → Bool
is_word [] [] = true
is_word [] (y ∷ ys) = false
is_word (x ∷ xs) [] = false
is_word (x ∷ xs) (y ∷ ys) = cond (eqb x y) (is_word xs ys) false

abbrev pub kinds : List MessageKind
kinds =
    kind.Cell ∷ kind.Ack ∷ kind.Harbinger ∷ kind.Want ∷ kind.Delta ∷ kind.Piece ∷ kind.Later ∷ kind.Fetch ∷ kind.Grant ∷ kind.NoGrant
    ∷ kind.Full ∷ kind.Seek ∷ kind.Greet greeting.Here ∷ kind.NoneHere ∷ kind.Gone ∷ kind.Bye ∷ kind.ByeOk ∷ kind.Confirm ∷ kind.PlaceIs ∷ kind.Tell
    ∷ kind.TellOk ∷ kind.Leave ∷ kind.LeaveOk ∷ kind.Invite ∷ kind.Walk ∷ kind.Greet greeting.Meet ∷ []

-- the first of some kinds that has this word
abbrev first_named : List MessageKind → List ℕ → MessageKind
first_named [] word = kind.Cell
first_named (k ∷ ks) word = cond (is_word word (kind_text k)) k (first_named ks word)

named : (k : MessageKind) → first_named kinds (kind_text k) ≡ k
named kind.Cell = refl
named (kind.Greet greeting.Here) = refl
named k = refl

pub same_kind : (a b : MessageKind) → kind_text a ≡ kind_text b → a ≡ b
same_kind a b e = sym (named a) ∙ ap (first_named kinds) e ∙ named b

-- whatever is told of has a spelling
pub about_fits : (k : MessageKind) (file : FileId) → IsAbout k file → Fits file
about_fits kind.Confirm file h = h.fits
about_fits kind.PlaceIs file h = h.fits
about_fits kind.Tell file h = h.fits
about_fits kind.TellOk file h = h.fits
about_fits k file h = h

-- each kind stands in the list
each : (P : MessageKind → Type 0) → AllWithin P kinds 0 (length kinds) → (k : MessageKind) → P k
each P h kind.Cell = h 0 kind.Cell (omega arith) (omega arith)
each P h kind.Ack = h 1 kind.Ack (omega arith) (omega arith)
each P h kind.Harbinger = h 2 kind.Harbinger (omega arith) (omega arith)
each P h kind.Want = h 3 kind.Want (omega arith) (omega arith)
each P h kind.Delta = h 4 kind.Delta (omega arith) (omega arith)
each P h kind.Piece = h 5 kind.Piece (omega arith) (omega arith)
each P h kind.Later = h 6 kind.Later (omega arith) (omega arith)
each P h kind.Fetch = h 7 kind.Fetch (omega arith) (omega arith)
each P h kind.Grant = h 8 kind.Grant (omega arith) (omega arith)
each P h kind.NoGrant = h 9 kind.NoGrant (omega arith) (omega arith)
each P h kind.Full = h 10 kind.Full (omega arith) (omega arith)
each P h kind.Seek = h 11 kind.Seek (omega arith) (omega arith)
each P h (kind.Greet greeting.Here) = h 12 (kind.Greet greeting.Here) (omega arith) (omega arith)
each P h kind.NoneHere = h 13 kind.NoneHere (omega arith) (omega arith)
each P h kind.Gone = h 14 kind.Gone (omega arith) (omega arith)
each P h kind.Bye = h 15 kind.Bye (omega arith) (omega arith)
each P h kind.ByeOk = h 16 kind.ByeOk (omega arith) (omega arith)
each P h kind.Confirm = h 17 kind.Confirm (omega arith) (omega arith)
each P h kind.PlaceIs = h 18 kind.PlaceIs (omega arith) (omega arith)
each P h kind.Tell = h 19 kind.Tell (omega arith) (omega arith)
each P h kind.TellOk = h 20 kind.TellOk (omega arith) (omega arith)
each P h kind.Leave = h 21 kind.Leave (omega arith) (omega arith)
each P h kind.LeaveOk = h 22 kind.LeaveOk (omega arith) (omega arith)
each P h kind.Invite = h 23 kind.Invite (omega arith) (omega arith)
each P h kind.Walk = h 24 kind.Walk (omega arith) (omega arith)
each P h (kind.Greet greeting.Meet) = h 25 (kind.Greet greeting.Meet) (omega arith) (omega arith)

-- where no kind of the list has the word, no kind has it
pub none_named : (word : List ℕ) (r : Option MessageKind) (P : MessageKind → Type 0) → MatchOption r (AllWithin (λ k. word ≡ kind_text k → ⊥) kinds 0 (length kinds)) P → IfNone r ((k : MessageKind) → word ≡ kind_text k → ⊥)
none_named word None P h = each (λ k. word ≡ kind_text k → ⊥) h
none_named word (Some k) P h = tt
