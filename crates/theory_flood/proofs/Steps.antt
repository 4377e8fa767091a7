-- What a server does in an event, as a chain of steps.
use Rattle.std.proofs.Common.{ℕ, ◌≡◌, ◌<◌, ◌≤◌, List, [], Some, ◌⊎◌, All, arith}
use Rattle.pg_base.specs.declared.id.FileId.{FileId}
use Rattle.theory_flood.specs.Promises.{Saying}
use Rattle.theory_flood.specs.Rule as rule
use Rattle.theory_flood.specs.Server.{Slot, peer_of}
use Rattle.theory_flood.specs.Protocol.{Protocol, tags_of, tag, Has, Covers}
use Rattle.theory_flood.proofs.Flood.{MaySend, Moves, Moves-refl, Moves-trans, by_moves, goes_on}

-- the same key of the same edge, whatever the own birth
abbrev pub IsSamePlace : Slot → Slot → Type 0
IsSamePlace q r = (q.file ≡ r.file) × (q.peer ≡ r.peer) × (q.birth ≡ r.birth) × (q.key ≡ r.key)

module _ {N M C : Type 0} (p : Protocol N M C) where
  -- every tag that stands was given out, and stands once
  pub record HasSoundTags (a : N) : Type 0 where
    pub below : (q : Slot) (g : ℕ) → tag p a q ≡ Some g → g < tags_of p a
    pub single : (q r : Slot) (g : ℕ) → tag p a q ≡ Some g → tag p a r ≡ Some g → IsSamePlace q r

  -- where no tag is new
  pub fewer_tags : (a b : N) → tags_of p a ≤ tags_of p b → ((q : Slot) (g : ℕ) → tag p b q ≡ Some g → tag p a q ≡ Some g) → HasSoundTags a → HasSoundTags b
  fewer_tags a b up old k = record {
    below = λ q g h. (let lt = k.below q g (old q g h) in omega arith);
    single = λ q r g h i. k.single q r g (old q g h) (old r g i);
  }

  -- births that are over stay over, and what was taken stays taken
  pub record OverStays (a b : N) : Type 0 where
    pub over : (file : FileId) (birth : ℕ) (c : C) → p.IsOver a file birth c → p.IsOver b file birth c
    pub taken : (file : FileId) (birth : ℕ) (c : C) → p.Took a file birth c → p.Took b file birth c

  -- the rule for one server, and what it may send
  abbrev pub Rule : ℕ → N → N → Saying Slot C → List M → Type 0
  Rule s a b heard sent = rule.Rule p s a b heard sent

  abbrev pub May : ℕ → N → N → Saying Slot C → Saying Slot C → Type 0
  May s a b heard x = MaySend p.says (tags_of p) (tag p) (Has p) (Covers p) peer_of p.Noted s a b heard x

  abbrev pub AllMay : ℕ → N → N → Saying Slot C → List M → Type 0
  AllMay s a b heard sent = All (λ m. May s a b heard (p.says m)) sent

  -- what the server heard and may still answer, it heard before, or in this event
  abbrev pub NotesFrom : N → N → Saying Slot C → Type 0
  NotesFrom a b heard = (x : Saying Slot C) → p.Noted b x → p.Noted a x ⊎ (heard ≡ x)

  -- a step that hears no answer, and leaves tags sound
  pub record Steps (a b : N) : Type 0 where
    pub moves : Moves p.says (tags_of p) (tag p) (Has p) (Covers p) peer_of p.Noted a b
    pub tags : HasSoundTags a → HasSoundTags b

  pub Steps-refl : (a : N) → Steps a a
  Steps-refl a = record { moves = Moves-refl p.says (tags_of p) (tag p) (Has p) (Covers p) peer_of p.Noted a; tags = λ h. h }

  pub Steps-trans : {a b c : N} → Steps a b → Steps b c → Steps a c
  Steps-trans {a} {b} {c} f g = record { moves = Moves-trans p.says (tags_of p) (tag p) (Has p) (Covers p) peer_of p.Noted a b c f.moves g.moves; tags = λ h. g.tags (f.tags h) }

  -- THE RULE, for an event that is such a chain
  pub by_steps : (s : ℕ) (a b : N) (heard : Saying Slot C) (sent : List M) → Steps a b → NotesFrom a b heard → AllMay s a b heard sent → Rule s a b heard sent
  by_steps s a b heard sent f notes sends = by_moves p.says (tags_of p) (tag p) (Has p) (Covers p) peer_of p.Noted s a b heard sent f.moves notes sends

  -- the same, where an answer was heard first
  pub then_steps : (s : ℕ) (a b c : N) (heard : Saying Slot C) (sent : List M) → Rule s a b heard [] → Steps b c → NotesFrom a c heard → AllMay s a c heard sent → Rule s a c heard sent
  then_steps s a b c heard sent l f notes sends = goes_on p.says (tags_of p) (tag p) (Has p) (Covers p) peer_of p.Noted s a b c heard sent l f.moves notes sends
