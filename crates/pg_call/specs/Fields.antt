-- The table of calls: what stands behind each call's word, and what is wrong where it does not.
use Rattle.std.specs.Prelude.{ℕ, ◌≡◌, ◌<◌, ◌≤◌, ◌^◌, ◌⊎◌, List, [], ◌∷◌, All, length, decimal, codes}
use Rattle.pg_base.specs.Id.{spelling, Fits}
use Rattle.pg_base.specs.declared.id.FileId.{FileId}
use Rattle.pg_base.specs.declared.policy.Policy.{Policy}
use Rattle.pg_call.specs.declared.fault.Fault.{Fault}
use Rattle.pg_call.specs.declared.fault.Fault.TheVariants as fault
use Rattle.pg_call.specs.declared.call.CallKind.{CallKind}
use Rattle.pg_call.specs.declared.call.CallKind.TheVariants as kind
use Rattle.pg_call.specs.declared.call.Target.{Target}
use Rattle.pg_call.specs.Call.{IsPayload, IsTarget, policy_word, target_word}
use Rattle.pg_words.specs.HexWord.{hex_word}
use Rattle.pg_words.specs.TextWord.{IsText}

-- what a word is: a number below 2^32 or below 2^64, or of bytes to be read; bytes; the id of a
-- file or a directory; a path, or a path or an id; a policy; the form of a journal; or that a meter
-- is off
pub data Field : Type 0 where
  Narrow : Field
  Wide : Field
  Count : Field
  Bytes : Field
  AnyId : Field
  Path : Field
  PathOrId : Field
  PolicyName : Field
  Form : Field
  Off : Field

-- the words behind the word of a call
abbrev pub call_fields : CallKind → List Field
call_fields kind.Mkdir = Path ∷ []
call_fields kind.Create = Path ∷ PolicyName ∷ []
call_fields kind.Write = Path ∷ Narrow ∷ Bytes ∷ []
call_fields kind.Cut = Path ∷ Narrow ∷ []
call_fields kind.Read = Path ∷ Narrow ∷ Count ∷ []
call_fields kind.Fresh = Path ∷ []
call_fields kind.Ls = Path ∷ Narrow ∷ []
call_fields kind.Stat = PathOrId ∷ []
call_fields kind.Rename = Path ∷ Path ∷ []
call_fields kind.Unlink = Path ∷ []
call_fields kind.Rmdir = Path ∷ []
call_fields kind.Forget = AnyId ∷ []
call_fields kind.Demote = PathOrId ∷ []
call_fields kind.Drop = PathOrId ∷ []
call_fields kind.Giveup = Wide ∷ Narrow ∷ []
call_fields kind.Status = []
call_fields kind.Stop = []

-- the word is one of the field
abbrev pub IsWordOf : Field → List ℕ → Type 0
IsWordOf Narrow word = (n : ℕ) × (n < 2 ^ 32) × (word ≡ decimal n)
IsWordOf Wide word = (n : ℕ) × (n < 2 ^ 64) × (word ≡ decimal n)
IsWordOf Count word = (n : ℕ) × (n ≤ 32768) × (word ≡ decimal n)
IsWordOf Bytes word = (bytes : List ℕ) × IsPayload bytes × (word ≡ hex_word bytes)
IsWordOf AnyId word = (id : FileId) × Fits id × (word ≡ spelling id)
IsWordOf Path word = IsText word
IsWordOf PathOrId word = (what : Target) × IsTarget what × (word ≡ target_word what)
IsWordOf PolicyName word = (p : Policy) × (word ≡ policy_word p)
IsWordOf Form word = (word ≡ codes "full") ⊎ (word ≡ codes "short")
IsWordOf Off word = word ≡ codes "off"

-- each word is one of its field, and there are as many
abbrev pub AreWordsOf : List Field → List (List ℕ) → Type 0
AreWordsOf [] [] = Unit {0}
AreWordsOf [] (word ∷ words) = ⊥
AreWordsOf (field ∷ rest) [] = ⊥
AreWordsOf (field ∷ rest) (word ∷ words) = IsWordOf field word × AreWordsOf rest words

-- what is wrong with a word that is none of the field. A word that is no path has a byte that is
-- not printable
abbrev pub fault_of : Field → Fault
fault_of Narrow = fault.Number
fault_of Wide = fault.Number
fault_of Count = fault.Number
fault_of Bytes = fault.Hex
fault_of AnyId = fault.Id
fault_of Path = fault.Byte
fault_of PathOrId = fault.Id
fault_of PolicyName = fault.Policy
fault_of Form = fault.Mode
fault_of Off = fault.Mode

-- the leftmost word that is none of its field has this fault
abbrev pub IsBadWord : List Field → List (List ℕ) → Fault → Type 0
IsBadWord [] words f = ⊥
IsBadWord (field ∷ rest) [] f = ⊥
IsBadWord (field ∷ rest) (word ∷ words) f =
    ((IsWordOf field word → ⊥) × (f ≡ fault_of field)) ⊎ (IsWordOf field word
    × IsBadWord rest words f)

-- the words are as many as the fields, and none is empty
pub record AreCounted (fields : List Field) (words : List (List ℕ)) : Type 0 where
  pub count : length words ≡ length fields
  pub some : All (λ word. 0 < length word) words
