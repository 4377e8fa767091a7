-- What holds of bodies on demand in every run: statements.
use Rattle.std.specs.Prelude.{ℕ, ◌≡◌, ◌≢◌, ◌++◌, ◌↔◌, Bool, true, false, List, Option, Some}
use Rattle.pg_base.specs.declared.head.Head.{Head}
use Rattle.pg_base.specs.declared.id.FileId.{FileId}
use Rattle.pg_base.specs.declared.stamp.Stamp.{Stamp}
use Rattle.pg_base.specs.Version.{VersionValue}
use Rattle.pg_patch.specs.Ranges.{IsRanges, RangesValue}
use Rattle.pg_content.specs.Content.{Among, next_length}
use Rattle.pg_delta.specs.declared.delta.KeptDelta.{KeptDelta}
use Rattle.pg_delta.specs.Chain.{LeadsBy}
use Rattle.pg_delta.specs.Taking.{patched_version, stamps_of}
use Rattle.pg_delta.specs.Whole.{delta_of}
use Rattle.theory_bodies.specs.Asked.{AreAgreed, AskStep, Asking, asking_of}
use Rattle.theory_bodies.specs.Book.{IsBook, Book, GrowsTo, IsVersionIn}
use Rattle.theory_bodies.specs.Protocol.{Holding, Keeps, Note, Protocol, Said}
use Rattle.theory_bodies.specs.Rule.{HasCome, IsHeard, Local, OnlyOne}
use Rattle.theory_bodies.specs.Telling.{Telling}
use Rattle.theory_bodies.specs.Telling.Telling.{Announces, Changes}

module _ {N M : Type 0} (p : Protocol N M) where
  -- what a server does by the rule keeps the invariant
  abbrev pub EventsKeep : Type 0
  EventsKeep = (b c : Book) (nodes now : ℕ → N) (mail sent : List M) (s : ℕ) (behind : N)
      (heard : Telling) → Keeps p b nodes mail → GrowsTo b c → IsBook c
      → IsHeard p mail heard → Local p b c s (nodes s) behind heard sent
      → OnlyOne nodes now s behind → Keeps p c now (sent ++ mail)

  -- A BODY IS WHOLE: what is joined then, or came whole, is the version of the history
  abbrev pub WhatComesIsTheVersion : Type 0
  WhatComesIsTheVersion = (b : Book) (nodes : ℕ → N) (mail : List M) (s : ℕ) (heard : Telling)
      → Keeps p b nodes mail → IsHeard p mail heard → (file : FileId) (v : VersionValue)
      → HasCome heard (p.notes (nodes s) file) file v → IsVersionIn b file v

  -- A DELTA COMES to a server whose heads have just its stamps: its ranges make the version of
  -- the history of what is shown, and so a body of the length that is told
  abbrev pub ADeltaMakesTheVersion : Type 0
  ADeltaMakesTheVersion = (b : Book) (nodes : ℕ → N) (mail : List M) (s : ℕ) (heard : Telling)
      → Keeps p b nodes mail → IsHeard p mail heard → (file : FileId) (x : Holding)
      → p.holds (nodes s) file ≡ Some x → (source : ℕ) (head : Head) (ranges : RangesValue)
      → heard ≡ Changes source file head (stamps_of x.content) ranges
      → IsVersionIn b file (patched_version x.content head ranges)
      × (next_length x.content ranges ≡ head.length)

  -- THE TAG that is acknowledged: who is asked for a version announced just that version to this
  -- server, under just this tag
  abbrev pub TheTagIsAHarbingers : Type 0
  TheTagIsAHarbingers = (b : Book) (nodes : ℕ → N) (mail : List M) (s : ℕ) → Keeps p b nodes mail
      → (file : FileId) (stamp : Stamp) (n : Note) → p.notes (nodes s) file stamp ≡ Some n
      → n.source ≢ 0 → Said p.tells mail (Announces n.source s file n.tag n.head)

-- ---- what is sent of kept deltas

-- WHERE SOMETHING IS COMPUTED TO BE SENT of kept deltas, whose ranges are ranges, they lead there
-- by it
abbrev pub SentDeltasLead : Type 0
SentDeltasLead = (kept : List KeptDelta) → ((d : KeptDelta) → Among d kept → IsRanges d.ranges)
    → (from : List Stamp) (to : Stamp) (len : ℕ) (c : RangesValue)
    → delta_of kept from to len ≡ Some c → LeadsBy kept from to c

-- ---- what was asked

-- WHAT IS NOTED AGREES with what was asked last, behind each event: a version that was covered
-- stays so
abbrev pub NotesGoOnToAgree : Type 0
NotesGoOnToAgree = (before_covered behind_covered : Bool) (was now : Option Asking)
    (before behind : Option Note) → (before_covered ≡ true → behind_covered ≡ true)
    → AreAgreed (before_covered ≡ true) was before
    → AskStep (behind_covered ≡ true) was now before behind
    → AreAgreed (behind_covered ≡ true) now behind

-- so of a version that is not covered, somebody is asked by its note exactly where that server
-- was asked last, and from the first byte that is not here
abbrev pub WhatIsAskedIsNoted : Type 0
WhatIsAskedIsNoted = (covered : Bool) (asked : Option Asking) (note : Option Note)
    → AreAgreed (covered ≡ true) asked note → covered ≡ false → (t : Asking) → t.target ≢ 0
    → (asked ≡ Some t) ↔ ((n : Note) × (note ≡ Some n) × (asking_of n ≡ t))
