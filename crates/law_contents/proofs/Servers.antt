-- What a server holds of the contents of all files. It changes at one file at a time.
use Rattle.std.proofs.Common.{[], ℕ, ◌≡◌, ◌≢◌, ◌<◌, ◌≤◌, ◌^◌, Bool, true, false, cond, List, ◌∷◌, ◌++◌, Option, None, Some, length, take, refl, sym, ap, subst, ◌∙◌, inl, inr, ◌⊎◌, arith}
use Rattle.std.proofs.lemmas.Option.{same_Some}
use mathlib.Core.Path.{fun_ext}
use Rattle.pg_run.specs.pg_announced.declared.announced.Announced.{Announced}
use Rattle.pg_run.specs.pg_announced.Announced.{AreSorted, NotesValue, key_at, note_at}
use Rattle.pg_run.proofs.pg_announced.Sorted.{sorted_none}
use Rattle.pg_run.specs.pg_base.declared.id.FileId.{FileId}
use Rattle.pg_run.specs.pg_base.declared.policy.Policy.{Policy}
use Rattle.pg_run.specs.pg_base.declared.policy.Policy.TheVariants.{Last}
use Rattle.pg_run.specs.pg_base.declared.stamp.Stamp.{Stamp}
use Rattle.pg_run.specs.pg_base.declared.vector.Actor.{Actor}
use Rattle.pg_run.specs.pg_base.Id.{is_same_file}
use Rattle.pg_run.specs.pg_content.Content.{Among, body_limit}
use Rattle.pg_run.specs.pg_content.History.{IsHistory, Made, body_of, maker}
use Rattle.pg_run.specs.pg_delta.declared.delta.KeptDelta.{KeptDelta}
use Rattle.pg_run.specs.pg_delta.Leading.{AreTrueDeltas}
use Rattle.pg_run.proofs.pg_delta.Leads.{true_later}
use Rattle.pg_run.proofs.theory_bodies.Computing.{HaveRanges}
use Rattle.pg_run.specs.theory_bodies.Protocol.{IsNoteOf, Note}
use Rattle.pg_run.specs.Journal.{Born, made_for, made_of}
use Rattle.pg_run.specs.Took.{Take, stamps_taken}
use Rattle.pg_run.specs.pg_store.declared.store.Store.{Store}
use Rattle.pg_run.specs.pg_store.Births.{is_pending}
use Rattle.pg_run.specs.pg_store.Seen.{server_of}
use Rattle.pg_run.specs.pg_store.Store.{is_full, is_held}
use Rattle.pg_run.specs.pg_store.Together.{BirthsMove}
use Rattle.pg_run.specs.pg_names.Names.{is_dir}
use Rattle.pg_run.specs.pg_calls.Forgetting.{is_wanted}
use Rattle.pg_run.proofs.pg_calls.Walked.{full_held}
use Rattle.law_contents.proofs.Changes.{Alters, Core, Keeps, NotesStay, by_altered, content_in, core_at, new_core, noted_at, same_notes}
use Rattle.law_contents.proofs.Files.{HoldsFile, Stood, none_stood, stood_begun, stood_later}
use Rattle.law_contents.proofs.Histories.{AreMade, by_file, later_body, later_head}
use Rattle.law_contents.proofs.Sets.{AreMembers}

-- ---- what a server stands for

-- what came to each file
abbrev pub Came : Type 0
Came = FileId → List Stamp

abbrev pub came_of : List Take → Came
came_of takes file = stamps_taken file takes

-- and one version more
abbrev pub with_came : FileId → Stamp → Came → Came
with_came file stamp came q = cond (is_same_file file q) (stamp ∷ []) [] ++ came q

-- what is held of a thing has this policy
abbrev pub Policied : (FileId → Policy) → FileId → Option Core → Type 0
Policied p file o = (k : Core) → o ≡ Some k → k.content.policy ≡ p file

pub policied_here : (p : FileId → Policy) (file : FileId) (c : Core) → c.content.policy ≡ p file
    → Policied p file (Some c)
policied_here p file c same d e =
    let P : Core → Type 0 = (λ x. x.content.policy ≡ p file) in subst P (same_Some c d e) same

-- the present replica of server s made it
abbrev pub IsBy : ℕ → Option Core → Made → Type 0
IsBy s None m = ⊥
IsBy s (Some k) m = maker m ≡ record { server = s; birth = k.birth }

-- which another server's version is not
pub not_by : (s : ℕ) (o : Option Core) (m : Made) → m.stamp.server ≢ s → ¬ (IsBy s o m)
not_by s None m other by = by
not_by s (Some k) m other by = other (ap (λ (q : Actor). q.server) by)

-- what is held of a file stands for what came to it
abbrev pub StandsAs : ℕ → Option Core → List Made → List Stamp → Type 0
StandsAs s o h set = Stood (IsBy s o) (content_in o) h set

-- the deltas that a replica keeps are true
abbrev pub KeepsTrue : (FileId → Policy) → FileId → Option Core → List Made → Type 0
KeepsTrue p file o h = (k : Core) → o ≡ Some k → AreTrueDeltas (p file) h k.kept

-- and have ranges
abbrev pub HaveRangesIn : Option Core → Type 0
HaveRangesIn o = (k : Core) → o ≡ Some k → HaveRanges k.kept

pub ranges_here : (c : Core) → HaveRanges c.kept → HaveRangesIn (Some c)
ranges_here c ranges d e =
    let P : Core → Type 0 = (λ x. HaveRanges x.kept) in subst P (same_Some c d e) ranges

-- what is noted of the versions of a file is so of them
abbrev pub note_of : Announced → Note
note_of n = record { head = n.head; source = n.source; tag = n.tag; bytes = n.bytes }

abbrev pub NotesTrue : (FileId → Policy) → Store → FileId → List Made → Type 0
NotesTrue p a file h = (stamp : Stamp) (n : Announced) → noted_at a file stamp ≡ Some n
    → IsNoteOf (p file) h stamp (note_of n)

pub kept_here : (p : FileId → Policy) (file : FileId) (c : Core) (h : List Made)
    → AreTrueDeltas (p file) h c.kept → KeepsTrue p file (Some c) h
kept_here p file c h true_ d e =
    let P : Core → Type 0 = (λ x. AreTrueDeltas (p file) h x.kept) in
    subst P (same_Some c d e) true_

-- server s has, of the versions that were made, what those come to that came to it: of what it does
-- not hold none came. What it holds has the policy of its file; it has come to the times of what
-- came; and the deltas that it keeps are true and have ranges, as is true what it notes of versions
pub record Stands (s : ℕ) (a : Store) (us : List Born) (p : FileId → Policy) (came : Came)
    : Type 0 where
  pub files : (file : FileId) → StandsAs s (core_at a file) (made_for file us) (came file)
  pub policies : (file : FileId) (k : Core) → core_at a file ≡ Some k
      → k.content.policy ≡ p file
  pub known : (file : FileId) → AreMembers (made_for file us) (came file)
  pub upto : (file : FileId) (t : Stamp) → Among t (came file) → t.time ≤ a.names.last
  pub kept : (file : FileId) → KeepsTrue p file (core_at a file) (made_for file us)
  pub ranges : (file : FileId) → HaveRangesIn (core_at a file)
  pub sorted : AreSorted a.announced
  pub notes : (file : FileId) → NotesTrue p a file (made_for file us)

module _ {s : ℕ} {a : Store} {us : List Born} {p : FileId → Policy} {came : Came}
    (k : Stands s a us p came) where
  -- a file that is held
  pub file_held : (file : FileId) (c : Core) → core_at a file ≡ Some c
      → HoldsFile (IsBy s (Some c)) (p file) c.content (made_for file us) (came file)
  file_held file c e =
      let P : Option Core → Type 0 = (λ o. StandsAs s o (made_for file us) (came file)) in
      record { policy = k.policies file c e; stood = subst P e (k.files file) }

  raised : (b : Store) → a.names.last ≤ b.names.last → (file : FileId) (t : Stamp)
      → Among t (came file) → t.time ≤ b.names.last
  raised b last file t l = let upto = k.upto file t l in omega arith

  pub notes_kept : (b : Store) → NotesStay a b → (file : FileId) → NotesTrue p b file (made_for file us)
  notes_kept b stay file stamp n h = k.notes file stamp n ((stay k.sorted).1 file stamp n h)

  pub stands_kept : (b : Store) → Keeps a b → Stands s b us p came
  stands_kept b e = record {
    files = λ file. (let P : Option Core → Type 0 =
        (λ o. StandsAs s o (made_for file us) (came file)) in
        subst P (sym (e.each file)) (k.files file));
    policies = λ file c h. k.policies file c (sym (e.each file) ∙ h);
    known = k.known;
    upto = raised b e.last;
    kept = λ file c h. k.kept file c (sym (e.each file) ∙ h);
    ranges = λ file c h. k.ranges file c (sym (e.each file) ∙ h);
    sorted = subst AreSorted (sym e.notes) k.sorted;
    notes = notes_kept b (same_notes a b e.notes);
  }

  -- other notes, that are true
  pub stands_noted : (ns : NotesValue) → AreSorted ns
      → ((file : FileId) → NotesTrue p (record a { announced = ns }) file (made_for file us))
      → Stands s (record a { announced = ns }) us p came
  stands_noted ns sorted notes = record {
    files = k.files;
    policies = k.policies;
    known = k.known;
    upto = k.upto;
    kept = k.kept;
    ranges = k.ranges;
    sorted = sorted;
    notes = notes;
  }

  -- files that are not held get other policies
  pub stands_policy : (q : FileId → Policy)
      → ((file : FileId) (c : Core) → core_at a file ≡ Some c → q file ≡ p file)
      → ((file : FileId) (m : Made) → Among m (made_for file us) → q file ≡ p file)
      → Stands s a us q came
  stands_policy q same made = record {
    files = k.files;
    policies = λ file c e. k.policies file c e ∙ sym (same file c e);
    known = k.known;
    upto = k.upto;
    kept = λ file c e. subst (λ (x : Policy). AreTrueDeltas x (made_for file us) c.kept)
        (sym (same file c e)) (k.kept file c e);
    ranges = k.ranges;
    sorted = k.sorted;
    notes = λ file stamp n e. (let is = k.notes file stamp n e in
        let P : Policy → Type 0 = (λ x. IsNoteOf x (made_for file us) stamp (note_of n)) in
        subst P (sym (made file is.head.made is.head.among)) is);
  }

  -- the same came, in other words
  pub stands_same : (other : Came) → ((q : FileId) → other q ≡ came q) → Stands s a us p other
  stands_same other same =
      let P : Came → Type 0 = (λ c. Stands s a us p c) in
      subst P (sym (fun_ext same)) k

  -- what is true of versions stays so, where one more was made
  module _ (u : Born) (history : IsHistory (made_of u ∷ made_for u.made.file us)) where
    pub deltas_later : (ds : List KeptDelta)
        → AreTrueDeltas (p u.made.file) (made_for u.made.file us) ds
        → AreTrueDeltas (p u.made.file) (made_of u ∷ made_for u.made.file us) ds
    deltas_later ds true_ d l =
        true_later (p u.made.file) (made_of u) (made_for u.made.file us) history d (true_ d l)

    kept_later : (o : Option Core) → KeepsTrue p u.made.file o (made_for u.made.file us)
        → KeepsTrue p u.made.file o (made_of u ∷ made_for u.made.file us)
    kept_later o true_ c e = deltas_later c.kept (true_ c e)

    pub note_later : (stamp : Stamp) (n : Note)
        → IsNoteOf (p u.made.file) (made_for u.made.file us) stamp n
        → IsNoteOf (p u.made.file) (made_of u ∷ made_for u.made.file us) stamp n
    note_later stamp n is = record {
      head = later_head (p u.made.file) (made_of u) (made_for u.made.file us) history n.head is.head;
      at = is.at;
      bytes = is.bytes ∙ ap (take (length n.bytes)) (sym (later_body (p u.made.file) (made_of u)
          (made_for u.made.file us) history n.head is.head));
    }

  -- another server's write
  pub stands_later : (u : Born) → IsHistory (made_of u ∷ made_for u.made.file us)
      → u.made.stamp.server ≢ s → Stands s a (u ∷ us) p came
  stands_later u history other = record {
    files = by_file (λ file h. StandsAs s (core_at a file) h (came file)) u us
        (stood_later (k.files u.made.file) (k.known u.made.file) (made_of u) history
        (not_by s (core_at a u.made.file) (made_of u) other)) k.files;
    policies = k.policies;
    known = by_file (λ file h. AreMembers h (came file)) u us
        (λ t l. inr (k.known u.made.file t l)) k.known;
    upto = k.upto;
    kept = by_file (λ file h. KeepsTrue p file (core_at a file) h) u us
        (kept_later u history (core_at a u.made.file) (k.kept u.made.file)) k.kept;
    ranges = k.ranges;
    sorted = k.sorted;
    notes = by_file (λ file h. NotesTrue p a file h) u us
        (λ stamp n e. note_later u history stamp (note_of n) (k.notes u.made.file stamp n e)) k.notes;
  }

  -- a replica begins, of what is not held
  module _ (b : Store) (file : FileId) (birth : ℕ) (policy : Policy)
      (begins : Alters a b file
      (Some (new_core birth policy)))
      (none : core_at a file ≡ None) where
    abbrev NewCore : Core
    NewCore = new_core birth policy

    -- its birth made no version before
    abbrev pub IsUnmade : Type 0
    IsUnmade = (m : Made) → Among m (made_for file us)
        → ¬ (maker m ≡ record { server = s; birth = birth })

    new_stood : IsUnmade → StandsAs s (Some NewCore) (made_for file us) (came file)
    new_stood unmade =
        let P : Option Core → Type 0 = (λ o. StandsAs s o (made_for file us) (came file)) in
        stood_begun (subst P none (k.files file)) refl policy (IsBy s (Some NewCore)) unmade

    pub stands_begun : IsUnmade → policy ≡ p file → Stands s b us p came
    stands_begun unmade same =
        let up = begins.last in
        record {
          files = by_altered (λ f o. StandsAs s o (made_for f us) (came f)) a b file
              (Some NewCore) begins (new_stood unmade) (λ f apart. k.files f);
          policies = by_altered (Policied p) a b file (Some NewCore) begins
              (policied_here p file NewCore same) (λ f apart. k.policies f);
          known = k.known;
          upto = λ f t l. let old = k.upto f t l in omega arith;
          kept = by_altered (λ f o. KeepsTrue p f o (made_for f us)) a b file (Some NewCore) begins
              (kept_here p file NewCore (made_for file us) (λ d l. absurd l)) (λ f apart. k.kept f);
          ranges = by_altered (λ f o. HaveRangesIn o) a b file (Some NewCore) begins
              (ranges_here NewCore (λ d l. absurd l)) (λ f apart. k.ranges f);
          sorted = (begins.notes k.sorted).0;
          notes = notes_kept b begins.notes;
        }

-- a server that has taken nothing: what it holds has no version
pub new_stands : (s : ℕ) (a : Store) (p : FileId → Policy)
    → ((file : FileId) → (content_in (core_at a file)).heads ≡ [])
    → ((file : FileId) (k : Core) → core_at a file ≡ Some k → k.content.policy ≡ p file)
    → ((file : FileId) (k : Core) → core_at a file ≡ Some k → k.kept ≡ []) → a.announced ≡ []
    → Stands s a [] p (λ file. [])
new_stands s a p none policies bare unnoted = record {
  files = λ file. none_stood (IsBy s (core_at a file)) (content_in (core_at a file)) (none file) []
      (λ m l by. l);
  policies = policies;
  known = λ file t l. absurd l;
  upto = λ file t l. absurd l;
  kept = λ file k e. subst (AreTrueDeltas (p file) []) (sym (bare file k e)) (λ d l. absurd l);
  ranges = λ file k e. subst HaveRanges (sym (bare file k e)) (λ d l. absurd l);
  sorted = sorted_none a.announced unnoted;
  notes = λ file stamp n e. absurd (let z : None ≡ Some n =
      ap (λ (ns : NotesValue). note_at ns (key_at file stamp)) (sym unnoted) ∙ e in cc);
}

-- ---- a server of a run

-- no version has a body that is too long
abbrev pub AreShort : List Born → (FileId → Policy) → Type 0
AreShort us p = (file : FileId) (m : Made) → Among m (made_for file us)
    → length (body_of (p file) (made_for file us) m.stamp) ≤ body_limit

-- what else holds of a server before an event: a birth that is to come is of what is not here; what
-- is held has a replica, and its birth was given out
pub record IsPaired (a : Store) : Type 0 where
  pub pending : (file : FileId) (birth : ℕ) → is_pending a file birth ≡ true
      → core_at a file ≡ None
  pub both : (file : FileId) → is_held a file ≡ true → (k : Core) × (core_at a file ≡ Some k)
  pub away : (file : FileId) → is_held a file ≡ false → core_at a file ≡ None
  pub births : (file : FileId) (k : Core) → core_at a file ≡ Some k → k.birth ≤ a.births

-- what has no replica is not full
pub none_full : {a : Store} → IsPaired a → (file : FileId) → core_at a file ≡ None
    → is_full a file ≡ true → ⊥
none_full {a} k file none full =
    let c = k.both file (full_held a.names file full) in
    absurd (let z : None ≡ Some c.0 = sym none ∙ c.1 in cc)

-- the birth of a version's maker was given out, and is not to come any more
abbrev pub IsPast : Store → Born → Type 0
IsPast a v = (v.birth ≤ a.births) × (is_pending a v.made.file v.birth ≡ false)

-- as births move one way it stays so
pub past_later : (a b : Store) (v : Born) → BirthsMove a b → IsPast a v → IsPast b v
past_later a b v moves past = (
  (let up = moves.given in let low = past.0 in omega arith),
  by (is_pending b v.made.file v.birth) refl,
)
  where
    by : (t : Bool) → is_pending b v.made.file v.birth ≡ t → t ≡ false
    by false e = refl
    by true e = elim (moves.asked v.made.file v.birth e) [
      | inl was ↦ absurd (let z : true ≡ false = sym was ∙ past.1 in cc)
      | inr new ↦ absurd (let low = past.0 in omega arith)
    ]

-- the id was given out, or the server gives it out in this event
abbrev pub IsNamedBy : ℕ → Store → (FileId → Type 0) → FileId → Type 0
IsNamedBy s b N file = N file ⊎ ((file.server ≡ s) × (file.number ≤ b.files))

-- Server s: it stands for what came to it; it has come to the times of its own versions, and the
-- births that made them are not to come.
-- N holds of the ids that were given out: of all that has a version or is held; and the server has
-- come to the numbers of its own; and of all that a forget may begin. What was not given out has no
-- policy yet, and no directory has one
pub record IsServer (s : ℕ) (a : Store) (us : List Born) (p : FileId → Policy)
    (N : FileId → Type 0) (came : Came) : Type 0 where
  pub few : s < 2 ^ 32
  pub server : server_of a ≡ s
  pub paired : IsPaired a
  pub stands : Stands s a us p came
  pub made : AreMade us
  pub short : AreShort us p
  pub dated : (v : Born) → Among v us → v.made.stamp.server ≡ s
      → v.made.stamp.time ≤ a.names.last
  pub born : (v : Born) → Among v us → v.made.stamp.server ≡ s → IsPast a v
  pub own : (file : FileId) → N file → file.server ≡ s → file.number ≤ a.files
  pub held : (file : FileId) (k : Core) → core_at a file ≡ Some k → N file
  pub named : (v : Born) → Among v us → N v.made.file
  pub bare : (file : FileId) → (N file → ⊥) → p file ≡ Last
  pub dirs : (file : FileId) → is_dir file ≡ true → p file ≡ Last
  pub wanted : (file : FileId) → is_wanted a file ≡ true → is_held a file ≡ false → N file
