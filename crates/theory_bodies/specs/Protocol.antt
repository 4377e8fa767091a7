-- What a server notes of versions that it heard of, what it holds of files, and what is so of both.
use Rattle.std.specs.Prelude.{ℕ, ◌≡◌, ◌⊎◌, true, List, Option, Some, length, take}
use Rattle.pg_base.specs.declared.head.Head.{Head}
use Rattle.pg_base.specs.declared.id.FileId.{FileId}
use Rattle.pg_base.specs.declared.policy.Policy.{Policy}
use Rattle.pg_base.specs.declared.stamp.Stamp.{Stamp}
use Rattle.pg_content.specs.Content.{Among, ContentValue}
use Rattle.pg_content.specs.Covering.{AreVersionsOf}
use Rattle.pg_content.specs.History.{Made, body_of}
use Rattle.pg_delta.specs.declared.delta.KeptDelta.{KeptDelta}
use Rattle.pg_delta.specs.Leading.{AreTrueDeltas}
use Rattle.theory_bodies.specs.Book.{IsBook, Book, IsHeadOf}
use Rattle.theory_bodies.specs.Telling.{IsTrue, Telling}
use Rattle.theory_bodies.specs.Telling.Telling.{Announces}

-- Of a version that a server heard of and does not cover: what is known of it, who is asked for
-- it, 0 where nobody is, the tag under which that server announced it, and the first bytes of its
-- body
pub record Note : Type 0 where
  pub head : Head
  pub source : ℕ
  pub tag : ℕ
  pub bytes : List ℕ

-- of a file that a server holds: the content, and the deltas that are kept beside it
pub record Holding : Type 0 where
  pub content : ContentValue
  pub kept : List KeptDelta

-- N: what a server holds. M: messages
pub record Protocol (N M : Type 0) : Type 1 where
  pub notes : N → FileId → Stamp → Option Note
  pub holds : N → FileId → Option Holding
  pub tells : M → Telling

-- a note: its head is that of a version of this history, of this stamp, and the bytes are the
-- first of the version's body
pub record IsNoteOf (policy : Policy) (h : List Made) (stamp : Stamp) (n : Note) : Type 0 where
  pub head : IsHeadOf policy h n.head
  pub at : n.head.stamp ≡ stamp
  pub bytes : n.bytes ≡ take (length n.bytes) (body_of policy h n.head.stamp)

abbrev pub IsNoteIn : Book → FileId → Stamp → Note → Type 0
IsNoteIn b file stamp n = IsNoteOf (b.policy file) (b.made file) stamp n

-- what is held: the heads are versions of the file, whole, and the kept deltas are true
pub record IsHoldingIn (b : Book) (file : FileId) (x : Holding) : Type 0 where
  pub created : b.created file ≡ true
  pub policy : x.content.policy ≡ b.policy file
  pub heads : AreVersionsOf (b.policy file) (b.made file) x.content.heads
  pub kept : AreTrueDeltas (b.policy file) (b.made file) x.kept

-- some of these messages tells it
abbrev pub Said : {M : Type 0} → (M → Telling) → List M → Telling → Type 0
Said {M} tells mail t = (m : M) × Among m mail × (tells m ≡ t)

-- who is asked sent a harbinger of just this version to this server, under just this tag
abbrev pub IsAsked : (Telling → Type 0) → ℕ → FileId → Note → Type 0
IsAsked Was s file n = (n.source ≡ 0) ⊎ Was (Announces n.source s file n.tag n.head)

-- what holds of one server
pub record IsSound {N M : Type 0} (p : Protocol N M) (b : Book) (Was : Telling → Type 0) (s : ℕ)
    (a : N)
    : Type 0 where
  pub notes : (file : FileId) (stamp : Stamp) (n : Note) → p.notes a file stamp ≡ Some n
      → IsNoteIn b file stamp n
  pub asked : (file : FileId) (stamp : Stamp) (n : Note) → p.notes a file stamp ≡ Some n
      → IsAsked Was s file n
  pub holds : (file : FileId) (x : Holding) → p.holds a file ≡ Some x → IsHoldingIn b file x

-- THE INVARIANT of all servers, and of all messages that were ever sent
pub record Keeps {N M : Type 0} (p : Protocol N M) (b : Book) (nodes : ℕ → N)
    (mail : List M) : Type 0
  where
    pub book : IsBook b
    pub told : (m : M) → Among m mail → IsTrue b (p.tells m)
    pub servers : (s : ℕ) → IsSound p b (Said p.tells mail) s (nodes s)
