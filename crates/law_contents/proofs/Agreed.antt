-- What a server notes of versions agrees with whom it asked for them.
use Rattle.std.proofs.Common.{◌≡◌, true, List, [], ◌∷◌, None, Some, refl, sym, ap, subst, ◌∙◌, inr}
use Rattle.std.specs.List.{filter}
use Rattle.std.proofs.lemmas.Bool.{cond_both}
use Rattle.pg_run.specs.pg_announced.Announced.{NotesValue}
use Rattle.pg_run.specs.pg_base.declared.id.FileId.{FileId}
use Rattle.pg_run.specs.pg_base.declared.stamp.Stamp.{Stamp}
use Rattle.pg_run.specs.pg_base.Id.{is_same_file}
use Rattle.pg_run.specs.pg_content.Content.{Among}
use Rattle.pg_run.specs.pg_content.History.{Made}
use Rattle.pg_run.proofs.pg_content.Members.{among_filter, among_map, filter_among, map_among}
use Rattle.pg_run.specs.Asking.{Asked, nobody_asked}
use Rattle.pg_run.specs.Journal.{Born, is_within, made_for, made_of, with_ancestors}
use Rattle.pg_run.specs.pg_store.declared.store.Store.{Store}
use Rattle.pg_run.specs.theory_bodies.Asked.{AreAgreed, Asking}
use Rattle.pg_run.specs.theory_bodies.Protocol.{Note}
use Rattle.pg_run.proofs.theory_bodies.Agreeing.{agreed}
use Rattle.law_contents.proofs.NotesCome.{noted_of}
use Rattle.law_contents.proofs.Servers.{Came}
use Rattle.law_contents.proofs.Sets.{stamp_of_made, within_by, within_later}

-- of each version of each file
abbrev pub AgreesAt : Store → List Made → List Stamp → Asked → FileId → Type 0
AgreesAt a h set wants file = (stamp : Stamp)
    → AreAgreed (Among stamp (with_ancestors h set)) (wants file stamp)
    (noted_of a.announced file stamp)

abbrev pub Agrees : Store → List Born → Came → Asked → Type 0
Agrees a us came wants = (file : FileId)
    → AgreesAt a (made_for file us) (came file) wants file

-- ---- versions of other servers

-- what was taken is taken in a history with a version more
pub taken_later : (m : Made) (h : List Made) (set : List Stamp) (s : Stamp)
    → Among s (with_ancestors h set) → Among s (with_ancestors (m ∷ h) set)
taken_later m h set s l =
    let x = among_map stamp_of_made (filter (λ (y : Made). is_within h set y.stamp) h) s l in
    let there = (among_filter (λ (y : Made). is_within h set y.stamp) x.0 h x.1).0 in
    let now = within_by (m ∷ h) set s (within_later m h set set (λ t k. k) s l) in
    let P : Stamp → Type 0 = (λ t. is_within (m ∷ h) set t ≡ true) in
    let kept = filter_among (λ (y : Made). is_within (m ∷ h) set y.stamp) x.0 (m ∷ h) (inr there)
    (subst P x.2 now) in
    subst (λ (t : Stamp). Among t (with_ancestors (m ∷ h) set)) (sym x.2)
    (map_among stamp_of_made (filter (λ (y : Made). is_within (m ∷ h) set y.stamp) (m ∷ h)) x.0
    kept)

module _ (a : Store) (us : List Born) (came : Came) (wants : Asked) (k : Agrees a us came wants)
    (u : Born) where
  later_at : (file : FileId) → AgreesAt a (made_of u ∷ made_for file us) (came file) wants file
  later_at file stamp =
      agreed (Among stamp (with_ancestors (made_for file us) (came file)))
      (Among stamp (with_ancestors (made_of u ∷ made_for file us) (came file)))
      (taken_later (made_of u) (made_for file us) (came file) stamp) (wants file stamp)
      (wants file stamp) (noted_of a.announced file stamp) (noted_of a.announced file stamp)
      (k file stamp) (inr (inr (inr (record { asked = refl; note = refl }))))

  pub agrees_later : Agrees a (u ∷ us) came wants
  agrees_later file =
      cond_both (is_same_file file u.made.file) (made_of u ∷ made_for file us) (made_for file us)
      (λ h. AgreesAt a h (came file) wants file) (λ e. later_at file) (λ e. k file)

-- ---- the start

none_noted : (n : Note) → None ≡ Some n → ⊥
none_noted n e = cc

none_asked : (t : Asking) → None ≡ Some t → ⊥
none_asked t e = cc

-- nothing is noted, and nobody asked
pub agrees_start : (a : Store) (us : List Born) (came : Came) → a.announced ≡ []
    → Agrees a us came nobody_asked
agrees_start a us came none file stamp =
    let unnoted = ap (λ (ns : NotesValue). noted_of ns file stamp) none in
    record {
      noted = λ n e some. absurd (none_noted n (sym unnoted ∙ e));
      asks = λ t e. absurd (none_asked t e);
    }
