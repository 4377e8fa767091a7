-- The histories of all files at one moment, and what is true of versions by them.
use Rattle.std.specs.Prelude.{ℕ, ◌≡◌, ◌++◌, Bool, true, List}
use Rattle.pg_base.specs.declared.head.Head.{Head}
use Rattle.pg_base.specs.declared.id.FileId.{FileId}
use Rattle.pg_base.specs.declared.policy.Policy.{Policy}
use Rattle.pg_base.specs.declared.stamp.Stamp.{Stamp}
use Rattle.pg_base.specs.Version.{VersionValue}
use Rattle.pg_content.specs.Content.{Among}
use Rattle.pg_content.specs.History.{IsHistory, Made, body_of, version_of}

-- of each file whether it was created, with which policy, and the versions that were made, the
-- latest first
pub record Book : Type 0 where
  pub created : FileId → Bool
  pub policy : FileId → Policy
  pub made : FileId → List Made

-- the version of a file with its vector and its body, as the history has it
abbrev pub version_in : Book → FileId → Made → VersionValue
version_in b file m = version_of (b.policy file) (b.made file) m

abbrev pub body_in : Book → FileId → Stamp → List ℕ
body_in b file stamp = body_of (b.policy file) (b.made file) stamp

-- it is a version of this history, whole
pub record IsVersionOf (policy : Policy) (h : List Made) (v : VersionValue) : Type 0 where
  pub made : Made
  pub among : Among made h
  pub whole : v ≡ version_of policy h made

-- it is what is known of a version of this history without its body
pub record IsHeadOf (policy : Policy) (h : List Made) (head : Head) : Type 0 where
  pub made : Made
  pub among : Among made h
  pub whole : head ≡ (version_of policy h made).head

-- the same of the history that the file has
abbrev pub IsVersionIn : Book → FileId → VersionValue → Type 0
IsVersionIn b file v = IsVersionOf (b.policy file) (b.made file) v

abbrev pub IsHeadIn : Book → FileId → Head → Type 0
IsHeadIn b file head = IsHeadOf (b.policy file) (b.made file) head

-- the versions of a file are a history, and only of what was created are there any
pub record IsBook (b : Book) : Type 0 where
  pub histories : (file : FileId) → IsHistory (b.made file)
  pub created : (file : FileId) (m : Made) → Among m (b.made file) → b.created file ≡ true

-- more was made, and the policy of a file that was created is as it was
pub record GrowsTo (b c : Book) : Type 0 where
  pub more : (file : FileId) → (newer : List Made) × (c.made file ≡ newer ++ b.made file)
  pub created : (file : FileId) → b.created file ≡ true → c.created file ≡ true
  pub policy : (file : FileId) → b.created file ≡ true → c.policy file ≡ b.policy file
