-- A version comes to a file that a server holds, comes again, or is made there: the server stands
-- for it from then on.
use Rattle.std.proofs.Common.{[], ℕ, ◌≡◌, ◌≤◌, Bool, true, false, cond, List, ◌∷◌, ◌++◌, Option, Some, refl, sym, subst, inl, inr, arith}
use Rattle.pg_run.specs.pg_base.declared.id.FileId.{FileId}
use Rattle.pg_run.specs.pg_base.declared.policy.Policy.{Policy}
use Rattle.pg_run.specs.pg_base.declared.stamp.Stamp.{Stamp}
use Rattle.pg_run.specs.pg_base.Id.{is_same_file}
use Rattle.pg_run.proofs.pg_base.Orders.{is_same_file-true}
use Rattle.pg_run.specs.pg_content.Content.{Among}
use Rattle.pg_run.specs.pg_content.History.{IsHistory, IsMember, Made}
use Rattle.pg_run.specs.pg_delta.Leading.{AreTrueDeltas}
use Rattle.pg_run.proofs.pg_names.Lookups.{apart_back}
use Rattle.pg_run.proofs.theory_bodies.Computing.{HaveRanges}
use Rattle.pg_run.proofs.pg_content.Numbers.{member_of}
use Rattle.pg_run.specs.Journal.{Born, made_for, made_of, with_ancestors}
use Rattle.pg_run.specs.pg_store.declared.store.Store.{Store}
use Rattle.law_contents.proofs.Changes.{Alters, Core, IsOpen, by_altered, core_at, same_notes}
use Rattle.law_contents.proofs.Files.{HoldsFile, stood_again}
use Rattle.law_contents.proofs.Histories.{by_file, own_file}
use Rattle.law_contents.proofs.Sets.{AreMembers}
use Rattle.law_contents.proofs.Servers.{Came, HaveRangesIn, IsBy, KeepsTrue, NotesTrue, Policied, Stands, StandsAs, file_held, kept_here, note_later, note_of, notes_kept, policied_here, ranges_here, with_came}

-- ---- a version at one file

-- a fact on files, by the one at which a version came
by_came : (P : FileId → Option Core → List Stamp → Type 0) (a b : Store) (file : FileId)
    (stamp : Stamp) (o : Option Core) (came : Came) → Alters a b file o
    → P file o (stamp ∷ came file)
    → ((q : FileId) → is_same_file q file ≡ false → P q (core_at a q) (came q))
    → (q : FileId) → P q (core_at b q) (with_came file stamp came q)
by_came P a b file stamp o came alters here there q = at (is_same_file file q) refl
  where
    at : (t : Bool) → is_same_file file q ≡ t
        → P q (core_at b q) (cond t (stamp ∷ []) [] ++ came q)
    at true e =
        let Q : FileId → Type 0 = (λ f. P f (core_at b f) (stamp ∷ came f)) in
        let R : Option Core → Type 0 = (λ d. P file d (stamp ∷ came file)) in
        subst Q (is_same_file-true file q e) (subst R (sym alters.here) here)
    at false e =
        let apart = apart_back file q e in
        let R : Option Core → Type 0 = (λ d. P q d (came q)) in
        subst R (sym (alters.others q apart)) (there q apart)

-- the clock has come to the times of all that came
abbrev HasComeTo : Store → Came → Type 0
HasComeTo a came = (q : FileId) (t : Stamp) → Among t (came q) → t.time ≤ a.names.last

upto_then : (a b : Store) (file : FileId) (o : Option Core) (came : Came) (stamp : Stamp)
    → Alters a b file o → stamp.time ≤ b.names.last → HasComeTo a came
    → HasComeTo b (with_came file stamp came)
upto_then a b file o came stamp alters time old =
    let up = alters.last in
    by_came (λ q d set. (t : Stamp) → Among t set → t.time ≤ b.names.last) a b file stamp o came
    alters
    (λ t l. elim l [
      | inl last ↦ (let P : Stamp → Type 0 = (λ x. x.time ≤ b.names.last) in
          subst P (sym last) time)
      | inr earlier ↦ (let upto = old file t earlier in omega arith)
    ])
    (λ q apart t l. let upto = old q t l in omega arith)

module _ {s : ℕ} {a : Store} {us : List Born} {p : FileId → Policy} {came : Came}
    (k : Stands s a us p came) (b : Store) (file : FileId) (c : Core)
    (alters : Alters a b file (Some c)) (stamp : Stamp) (time : stamp.time ≤ b.names.last) where
  policied : c.content.policy ≡ p file → (f : FileId) → Policied p f (core_at b f)
  policied same =
      by_altered (Policied p) a b file (Some c) alters (policied_here p file c same)
      (λ f apart. k.policies f)

  -- a version that comes
  pub stands_came
      : HoldsFile (IsBy s (Some c)) (p file) c.content (made_for file us) (stamp ∷ came file)
      → IsMember (made_for file us) stamp → AreTrueDeltas (p file) (made_for file us) c.kept
      → HaveRanges c.kept → Stands s b us p (with_came file stamp came)
  stands_came here is true_ ranges = record {
    files = by_came (λ q o set. StandsAs s o (made_for q us) set) a b file stamp (Some c)
        came alters here.stood (λ q apart. k.files q);
    policies = policied here.policy;
    known = by_came (λ q o set. AreMembers (made_for q us) set) a b file stamp (Some c) came alters
        (λ t l. elim l [
          | inl last ↦ subst (IsMember (made_for file us)) (sym last) is
          | inr earlier ↦ k.known file t earlier
        ])
        (λ q apart. k.known q);
    upto = upto_then a b file (Some c) came stamp alters time k.upto;
    kept = by_altered (λ f o. KeepsTrue p f o (made_for f us)) a b file (Some c) alters
        (kept_here p file c (made_for file us) true_) (λ f apart. k.kept f);
    ranges = by_altered (λ f o. HaveRangesIn o) a b file (Some c) alters (ranges_here c ranges)
        (λ f apart. k.ranges f);
    sorted = (alters.notes k.sorted).0;
    notes = notes_kept k b alters.notes;
  }

-- a version that was taken already comes again
module _ {s : ℕ} {a : Store} {us : List Born} {p : FileId → Policy} {came : Came}
    (k : Stands s a us p came) (file : FileId) (c : Core) (there : core_at a file ≡ Some c)
    (history : IsHistory (made_for file us)) (m : Made) (is : Among m (made_for file us))
    (taken : Among m.stamp (with_ancestors (made_for file us) (came file)))
    (time : m.stamp.time ≤ a.names.last) where
  still_there : Alters a a file (Some c)
  still_there = record {
    server = refl;
    last = omega arith;
    files = omega arith;
    order = λ h. h;
    full = λ f h. h;
    here = there;
    others = λ f apart. refl;
    view = refl;
    notes = same_notes a a refl;
    ends = λ f stamp n h. inl h;
    free = λ h. subst (IsOpen a file) there h;
  }

  pub stands_again : Stands s a us p (with_came file m.stamp came)
  stands_again =
      let held = file_held k file c there in
      stands_came k a file c still_there m.stamp time
      (record {
        policy = held.policy;
        stood = stood_again held.stood (k.known file) history m is taken;
      })
      (member_of (made_for file us) m is) (k.kept file c there) (k.ranges file c there)

-- its own write
module _ {s : ℕ} {a : Store} {us : List Born} {p : FileId → Policy} {came : Came} (u : Born)
    (k : Stands s a us p came) (b : Store) (c : Core)
    (alters : Alters a b u.made.file (Some c)) (time : u.made.stamp.time ≤ b.names.last) where
  abbrev after_write : Came
  after_write = with_came u.made.file u.made.stamp came

  -- of another file there is no version more
  same_made : (P : List Made → Type 0) (q : FileId) → is_same_file q u.made.file ≡ false
      → P (made_for q us) → P (made_for q (u ∷ us))
  same_made P q apart h =
      subst (λ t. P (cond t (made_of u ∷ made_for q us) (made_for q us))) (sym apart) h

  pub stands_wrote
      : HoldsFile (IsBy s (Some c)) (p u.made.file) c.content
      (made_of u ∷ made_for u.made.file us) (u.made.stamp ∷ came u.made.file)
      → IsHistory (made_of u ∷ made_for u.made.file us)
      → AreTrueDeltas (p u.made.file) (made_of u ∷ made_for u.made.file us) c.kept
      → HaveRanges c.kept → Stands s b (u ∷ us) p after_write
  stands_wrote here history true_ ranges = record {
    files =
        by_came (λ q o set. StandsAs s o (made_for q (u ∷ us)) set) a b u.made.file
        u.made.stamp (Some c) came alters
        (subst (λ h. StandsAs s (Some c) h (u.made.stamp ∷ came u.made.file))
        (sym (own_file u us)) here.stood)
        (λ q apart. same_made (λ h. StandsAs s (core_at a q) h (came q)) q apart
        (k.files q));
    policies = policied k b u.made.file c alters u.made.stamp time here.policy;
    known =
        by_came (λ q o set. AreMembers (made_for q (u ∷ us)) set) a b u.made.file u.made.stamp
        (Some c) came alters
        (subst (λ h. AreMembers h (u.made.stamp ∷ came u.made.file)) (sym (own_file u us))
        (λ t l. elim l [
          | inl last ↦ inl last
          | inr earlier ↦ inr (k.known u.made.file t earlier)
        ]))
        (λ q apart. same_made (λ h. AreMembers h (came q)) q apart (k.known q));
    upto = upto_then a b u.made.file (Some c) came u.made.stamp alters time k.upto;
    kept = by_altered (λ f o. KeepsTrue p f o (made_for f (u ∷ us))) a b u.made.file (Some c) alters
        (subst (KeepsTrue p u.made.file (Some c)) (sym (own_file u us))
        (kept_here p u.made.file c (made_of u ∷ made_for u.made.file us) true_))
        (λ f apart. same_made (KeepsTrue p f (core_at a f)) f apart (k.kept f));
    ranges = by_altered (λ f o. HaveRangesIn o) a b u.made.file (Some c) alters
        (ranges_here c ranges) (λ f apart. k.ranges f);
    sorted = (alters.notes k.sorted).0;
    notes = by_file (λ f h. NotesTrue p b f h) u us
        (λ stamp n e. note_later k u history stamp (note_of n)
        (notes_kept k b alters.notes u.made.file stamp n e))
        (notes_kept k b alters.notes);
  }
