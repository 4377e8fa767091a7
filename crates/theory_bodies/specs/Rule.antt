-- THE RULE for one server's event: where its notes and what it holds come from, and what it may
-- send.
use Rattle.std.specs.Prelude.{ℕ, ◌≡◌, ◌⊎◌, ◌+◌, true, List, [], ◌∷◌, ◌++◌, Option, Some, length}
use Rattle.pg_base.specs.declared.head.Head.{Head}
use Rattle.pg_base.specs.declared.id.FileId.{FileId}
use Rattle.pg_base.specs.declared.stamp.Stamp.{Stamp}
use Rattle.pg_base.specs.Version.{VersionValue}
use Rattle.pg_patch.specs.Ranges.{RangesValue}
use Rattle.pg_content.specs.Content.{Among, joined_content, written}
use Rattle.pg_content.specs.History.{Made, maker}
use Rattle.pg_delta.specs.Chain.{LeadsBy}
use Rattle.pg_delta.specs.Kept.{with_delta}
use Rattle.pg_delta.specs.Taking.{delta_to, stamps_of, with_patched}
use Rattle.theory_bodies.specs.Book.{Book}
use Rattle.theory_bodies.specs.Protocol.{Holding, Note, Protocol, Said}
use Rattle.theory_bodies.specs.Telling.{IsSlice, Telling}
use Rattle.theory_bodies.specs.Telling.Telling.{Announces, Brings, Changes, Gives, Silent}

-- ---- notes

-- a version is noted as a harbinger told of it, with its sender as the source, and no byte
abbrev pub IsNoted : ℕ → Telling → FileId → Stamp → Note → Type 0
IsNoted s heard file stamp n =
    (heard ≡ Announces n.source s file n.tag n.head) × (n.head.stamp ≡ stamp) × (n.bytes ≡ [])

-- the sender of a further harbinger of it is asked from now on, and its tag counts
pub record IsAimed (s : ℕ) (t : Telling) (file : FileId) (stamp : Stamp) (o : Option Note)
    (n : Note)
    : Type 0 where
  pub was : Note
  pub old : o ≡ Some was
  pub head : Head
  pub heard : t ≡ Announces n.source s file n.tag head
  pub same : head.stamp ≡ stamp
  pub kept : n.head ≡ was.head
  pub bytes : n.bytes ≡ was.bytes

-- the next bytes came from who is asked
pub record IsLonger (t : Telling) (file : FileId) (stamp : Stamp) (o : Option Note) (n : Note)
    : Type 0 where
  pub was : Note
  pub old : o ≡ Some was
  pub head : Head
  pub more : List ℕ
  pub heard : t ≡ Gives was.source file head (length was.bytes) more
  pub same : head.stamp ≡ stamp
  pub is : n ≡ record was { bytes = was.bytes ++ more }

-- its bytes are forgotten
pub record IsEmptied (o : Option Note) (n : Note) : Type 0 where
  pub was : Note
  pub old : o ≡ Some was
  pub is : n ≡ record was { bytes = [] }

-- nobody is asked any more
pub record IsLost (o : Option Note) (n : Note) : Type 0 where
  pub was : Note
  pub old : o ≡ Some was
  pub is : n ≡ record was { source = 0 }

-- what is noted of a version behind an event comes of what was noted before it and of what was
-- heard
abbrev pub NoteComes : ℕ → Telling → FileId → Stamp → Option Note → Note → Type 0
NoteComes s heard file stamp old n =
    (old ≡ Some n) ⊎ (IsNoted s heard file stamp n ⊎ (IsAimed s heard file stamp old n
    ⊎ (IsLonger heard file stamp old n ⊎ (IsEmptied old n ⊎ IsLost old n))))

-- ---- what is held

-- a replica begins with no version
pub record HasBegun (c : Book) (file : FileId) (x : Holding) : Type 0 where
  pub created : c.created file ≡ true
  pub policy : x.content.policy ≡ c.policy file
  pub heads : x.content.heads ≡ []
  pub kept : x.kept ≡ []

-- it was held, or began in this event
abbrev pub IsFrom : Book → FileId → Option Holding → Holding → Type 0
IsFrom c file old was = (old ≡ Some was) ⊎ HasBegun c file was

-- with the bytes that came now the body of a noted version is whole
pub record IsFilled (t : Telling) (file : FileId) (n : Note) (body : List ℕ) : Type 0 where
  pub head : Head
  pub more : List ℕ
  pub heard : t ≡ Gives n.source file head (length n.bytes) more
  pub same : head.stamp ≡ n.head.stamp
  pub whole : length n.bytes + length more ≡ n.head.length
  pub is : body ≡ n.bytes ++ more

-- a version came whole, or the body of a noted one became whole
abbrev pub HasCome : Telling → (Stamp → Option Note) → FileId → VersionValue → Type 0
HasCome heard noted file v =
    (heard ≡ Brings file v)
    ⊎ ((n : Note) × (noted n.head.stamp ≡ Some n) × (v.head ≡ n.head)
    × IsFilled heard file n v.body)

-- it is joined
pub record HasJoined (c : Book) (heard : Telling) (noted : Stamp → Option Note) (file : FileId)
    (old : Option Holding) (x : Holding) : Type 0 where
  pub was : Holding
  pub from : IsFrom c file old was
  pub version : VersionValue
  pub came : HasCome heard noted file version
  pub content : x.content ≡ joined_content was.content version
  pub kept : x.kept ≡ was.kept

-- a version came as a change of just what is held, and the delta is kept
pub record HasPatched (t : Telling) (file : FileId) (o : Option Holding)
    (x : Holding) : Type 0 where
  pub was : Holding
  pub old : o ≡ Some was
  pub source : ℕ
  pub head : Head
  pub ranges : RangesValue
  pub heard : t ≡ Changes source file head (stamps_of was.content) ranges
  pub content : x.content ≡ with_patched was.content head ranges
  pub kept : x.kept ≡ with_delta was.kept (delta_to (stamps_of was.content) head.stamp ranges)

-- a version is made on all heads, and its delta is kept
pub record HasWritten (b c : Book) (file : FileId) (old : Option Holding)
    (x : Holding) : Type 0 where
  pub was : Holding
  pub from : IsFrom c file old was
  pub made : Made
  pub now : c.made file ≡ made ∷ b.made file
  pub bases : made.bases ≡ stamps_of was.content
  pub content : x.content ≡ written was.content (maker made) made.stamp made.ranges
  pub kept : x.kept ≡ with_delta was.kept (delta_to (stamps_of was.content) made.stamp made.ranges)

abbrev pub HoldingComes :
    Book → Book → Telling → (Stamp → Option Note) → FileId → Option Holding → Holding → Type 0
HoldingComes b c heard noted file old x =
    IsFrom c file old x ⊎ (HasJoined c heard noted file old x ⊎ (HasPatched heard file old x
    ⊎ HasWritten b c file old x))

-- ---- what is sent

-- it holds this version as a head
pub record HasHead {N M : Type 0} (p : Protocol N M) (a : N) (file : FileId)
    (v : VersionValue) : Type 0
  where
    pub holding : Holding
    pub held : p.holds a file ≡ Some holding
    pub among : Among v holding.content.heads

-- it announces a version that it holds as a head, or has noted
pub record MayAnnounce {N M : Type 0} (p : Protocol N M) (a : N) (file : FileId)
    (head : Head) : Type 0
  where
    pub knows : ((v : VersionValue) × HasHead p a file v × (v.head ≡ head))
        ⊎ ((stamp : Stamp) × (n : Note) × (p.notes a file stamp ≡ Some n) × (n.head ≡ head))

-- it gives bytes of the body of a version that it holds
pub record MayGive {N M : Type 0} (p : Protocol N M) (a : N) (file : FileId) (head : Head)
    (offset : ℕ)
    (bytes : List ℕ) : Type 0 where
  pub version : VersionValue
  pub has : HasHead p a file version
  pub is : version.head ≡ head
  pub slice : IsSlice version.body offset bytes

-- or what its kept deltas lead to, from the heads of these stamps
pub record MayChange {N M : Type 0} (p : Protocol N M) (a : N) (file : FileId) (head : Head)
    (bases : List Stamp) (ranges : RangesValue) : Type 0 where
  pub holding : Holding
  pub held : p.holds a file ≡ Some holding
  pub version : VersionValue
  pub among : Among version holding.content.heads
  pub is : version.head ≡ head
  pub leads : LeadsBy holding.kept bases head.stamp ranges

abbrev pub MaySend : {N M : Type 0} → Protocol N M → N → Telling → Type 0
MaySend p a (Announces from to file tag head) = MayAnnounce p a file head
MaySend p a (Brings file version) = HasHead p a file version
MaySend p a (Gives from file head offset bytes) = MayGive p a file head offset bytes
MaySend p a (Changes from file head bases ranges) = MayChange p a file head bases ranges
MaySend p a Silent = Unit {0}

-- ---- an event

-- server s held `before`, heard this, and then holds `behind` and sends these; b and c are what
-- was made before the event and behind it
pub record Local {N M : Type 0} (p : Protocol N M) (b c : Book) (s : ℕ) (before behind : N)
    (heard : Telling) (sent : List M) : Type 0 where
  pub notes : (file : FileId) (stamp : Stamp) (n : Note) → p.notes behind file stamp ≡ Some n
      → NoteComes s heard file stamp (p.notes before file stamp) n
  pub holds : (file : FileId) (x : Holding) → p.holds behind file ≡ Some x
      → HoldingComes b c heard (p.notes before file) file (p.holds before file) x
  pub sends : (m : M) → Among m sent → MaySend p behind (p.tells m)

-- what was heard was sent to this server, or nothing was heard
abbrev pub IsHeard : {N M : Type 0} → Protocol N M → List M → Telling → Type 0
IsHeard p mail heard = (heard ≡ Silent) ⊎ Said p.tells mail heard

-- only this server's state changes
abbrev pub OnlyOne : {N : Type 0} → (ℕ → N) → (ℕ → N) → ℕ → N → Type 0
OnlyOne nodes now s behind =
    (k : ℕ) → ((k ≡ s) × (now k ≡ behind)) ⊎ (now k ≡ nodes k)
