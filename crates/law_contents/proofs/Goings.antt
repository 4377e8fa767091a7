-- How what is noted goes on: notes end only where their versions are covered; or a version is asked
-- for, and noted so.
use Rattle.std.proofs.Common.{ℕ, ◌≡◌, ◌⊎◌, ◌++◌, Bool, true, false, cond, List, [], ◌∷◌, Option, None, Some, option_map, inl, inr, refl, sym, ap, subst, ◌∙◌}
use Rattle.std.specs.Cmp.{tied_itself}
use Rattle.std.specs.Option.{option_or}
use Rattle.std.specs.Ordering.{eq_by_cmp, is_eq}
use Rattle.std.proofs.lemmas.Bool.{and_from, and_parts, false≢true}
use Rattle.pg_run.specs.pg_announced.declared.announced.Announced.{Announced}
use Rattle.pg_run.specs.pg_announced.declared.announced.NoteKey.{NoteKey}
use Rattle.pg_run.specs.pg_announced.Announced.{AreSorted, NotesValue, key_at, key_cmp, note_at}
use Rattle.pg_run.proofs.pg_announced.Keys.{key_exact, key_total}
use Rattle.pg_run.specs.pg_base.declared.id.FileId.{FileId}
use Rattle.pg_run.specs.pg_base.declared.stamp.Stamp.{Stamp}
use Rattle.pg_run.specs.pg_base.Id.{is_same_file}
use Rattle.pg_run.proofs.pg_base.Orders.{is_eq-true, is_same_file-refl, is_same_file-true}
use Rattle.pg_run.specs.pg_content.History.{is_same_stamp}
use Rattle.pg_run.proofs.pg_content.Stamps.{same_stamp, same_true}
use Rattle.pg_run.specs.pg_msg.declared.message.Ends.{Ends}
use Rattle.pg_run.specs.pg_msg.declared.message.Message.TheVariants as message
use Rattle.pg_run.specs.pg_msg.declared.message.Sent.{Sent}
use Rattle.pg_run.specs.pg_msg.declared.message.Wanted.{Wanted}
use Rattle.pg_run.specs.Asking.{Asked, is_version, last_wanted, wanted_by}
use Rattle.pg_run.specs.pg_store.declared.store.Store.{Store}
use Rattle.pg_run.specs.pg_store.Seen.{removed_of}
use Rattle.pg_run.specs.pg_pieces.Done.{Done}
use Rattle.pg_run.specs.pg_pieces.Posting.{sent_to}
use Rattle.pg_run.specs.theory_bodies.Asked.{AskStep, Asking, asking_of}
use Rattle.pg_run.specs.theory_bodies.Protocol.{Note}
use Rattle.law_contents.proofs.Changes.{Alters, AreOpen, Core, Covers, IsOpen, Keeps, by_altered, core_at, keeps_open, noted_at}
use Rattle.law_contents.proofs.NotesCome.{noted_of}
use Rattle.law_contents.proofs.Servers.{note_of}
use Rattle.law_contents.proofs.Wantless.{AreOther, last_both, last_same}

-- ---- notes end only where they are covered

pub record Goes (a b : Store) : Type 0 where
  pub view : removed_of b ≡ removed_of a
  pub stay : (f : FileId) (t : Stamp) (n : Announced) → noted_at b f t ≡ Some n → noted_at a f t ≡ Some n
  pub ends : (f : FileId) (t : Stamp) (n : Announced) → noted_at a f t ≡ Some n
      → (noted_at b f t ≡ Some n) ⊎ Covers (core_at b f) n
  pub free : AreOpen a → AreOpen b

noted_same : (a b : Store) → b.announced ≡ a.announced → (f : FileId) (t : Stamp)
    → noted_at b f t ≡ noted_at a f t
noted_same a b same f t = ap (λ (ns : NotesValue). note_at ns (key_at f t)) same

-- nothing of it changes
pub notes_go : {a b : Store} → removed_of b ≡ removed_of a → b.announced ≡ a.announced
    → (AreOpen a → AreOpen b) → Goes a b
notes_go {a} {b} view same free = record {
  view = view;
  stay = λ f t n e. sym (noted_same a b same f t) ∙ e;
  ends = λ f t n e. inl (noted_same a b same f t ∙ e);
  free = free;
}

pub keeps_go : {a b : Store} → Keeps a b → Goes a b
keeps_go k = notes_go k.view k.notes (keeps_open k)

pub alters_go : {a b : Store} {file : FileId} {o : Option Core} → AreSorted a.announced
    → Alters a b file o → Goes a b
alters_go {a} {b} {file} {o} sorted k = record {
  view = k.view;
  stay = λ f t n e. (k.notes sorted).1 f t n e;
  ends = λ f t n e. elim (k.ends f t n e) [
    | inl stays ↦ inl stays
    | inr over ↦ inr
        (let P : FileId → Type 0 = (λ g. Covers (core_at b g) n) in
        subst P (sym over.0) (subst (λ (c : Option Core). Covers c n) (sym k.here) over.1))
  ];
  free = λ h. by_altered (λ f c. IsOpen b f c) a b file o k (k.free (h file))
      (λ f apart t n there covers. h f t n ((k.notes sorted).1 f t n there) covers);
}

pub go_keeps : {a b c : Store} → Goes a b → Keeps b c → Goes a c
go_keeps {a} {b} {c} g k = record {
  view = k.view ∙ g.view;
  stay = λ f t n e. g.stay f t n (sym (noted_same b c k.notes f t) ∙ e);
  ends = λ f t n e. elim (g.ends f t n e) [
    | inl stays ↦ inl (noted_same b c k.notes f t ∙ stays)
    | inr over ↦ inr (subst (λ (o : Option Core). Covers o n) (sym (k.each f)) over)
  ];
  free = λ h. keeps_open k (g.free h);
}

-- behind what notes nothing else
pub notes_then : {a b c : Store} → removed_of b ≡ removed_of a → b.announced ≡ a.announced
    → (AreOpen a → AreOpen b) → Goes b c → Goes a c
notes_then {a} {b} {c} view same free g = record {
  view = g.view ∙ view;
  stay = λ f t n e. sym (noted_same a b same f t) ∙ g.stay f t n e;
  ends = λ f t n e. g.ends f t n (noted_same a b same f t ∙ e);
  free = λ h. g.free (free h);
}

pub keeps_then : {a b c : Store} → Keeps a b → Goes b c → Goes a c
keeps_then k g = notes_then k.view k.notes (keeps_open k) g

-- ---- one version

-- it was noted, and is covered
abbrev pub Over : Store → Store → FileId → Stamp → Type 0
Over a b f t = (n : Announced) × (noted_at a f t ≡ Some n) × Covers (core_at b f) n

abbrev pub Step : Store → Store → FileId → Stamp → Option Asking → Option Asking → Type 0
Step a b f t was now =
    AskStep (Over a b f t) was now (noted_of a.announced f t) (noted_of b.announced f t)

pub step_on : (P Q : Type 0) → (P → Q) → (was now : Option Asking) (before behind : Option Note)
    → AskStep P was now before behind → AskStep Q was now before behind
step_on P Q on was now before behind step = elim step [
  | inl wanted ↦ inl wanted
  | inr one ↦ elim one [
    | inl released ↦ inr (inl released)
    | inr two ↦ elim two [
      | inl covered ↦ inr (inr (inl (record {
        asked = covered.asked;
        covered = on covered.covered;
        ended = covered.ended;
      })))
      | inr idle ↦ inr (inr (inr idle))
    ]
  ]
]

-- what keeps it goes on
pub step_keeps : (a b c : Store) → Keeps b c → (f : FileId) (t : Stamp) (was now : Option Asking)
    → Step a b f t was now → Step a c f t was now
step_keeps a b c k f t was now step =
    let same : noted_of c.announced f t ≡ noted_of b.announced f t =
    ap (λ (ns : NotesValue). noted_of ns f t) k.notes in
    let P : Option Note → Type 0 = (λ o. AskStep (Over a c f t) was now (noted_of a.announced f t) o) in
    subst P (sym same) (step_on (Over a b f t) (Over a c f t)
    (λ over. (over.0, over.1, subst (λ (o : Option Core). Covers o over.0) (sym (k.each f)) over.2))
    was now (noted_of a.announced f t) (noted_of b.announced f t) step)

module _ (a b : Store) (g : Goes a b) (f : FileId) (t : Stamp) (was now : Option Asking)
    (asked : now ≡ was) where
  idle_step : noted_at b f t ≡ noted_at a f t → Step a b f t was now
  idle_step same = inr (inr (inr (record { asked = asked; note = ap (option_map note_of) same })))

  ended_step : noted_at b f t ≡ None → (o : Option Announced) → noted_at a f t ≡ o
      → Step a b f t was now
  ended_step none None before = idle_step (none ∙ sym before)
  ended_step none (Some n) before = elim (g.ends f t n before) [
    | inl stays ↦ absurd (let z : None ≡ Some n = sym none ∙ stays in cc)
    | inr over ↦ inr (inr (inl (record {
      asked = asked;
      covered = (n, before, over);
      ended = ap (option_map note_of) none;
    })))
  ]

  step_by : (o : Option Announced) → noted_at b f t ≡ o → Step a b f t was now
  step_by None behind = ended_step behind (noted_at a f t) refl
  step_by (Some n) behind = idle_step (behind ∙ sym (g.stay f t n behind))

  pub go_step : Step a b f t was now
  go_step = step_by (noted_at b f t) refl

-- ---- each version

-- behind a first effect, where nobody was asked for anything since
abbrev pub Asks : Store → Asked → Done → Type 0
Asks a was d = (f : FileId) (t : Stamp)
    → Step a d.store f t (was f t) (last_wanted f t d.work.sent (was f t))

pub go_asks : (a : Store) (was : Asked) (d : Done) → Goes a d.store → AreOther d.work.sent → Asks a was d
go_asks a was d g other f t =
    go_step a d.store g f t (was f t) (last_wanted f t d.work.sent (was f t))
    (last_same f t d.work.sent (was f t) other)

-- ---- a version is asked for, and noted so

pub key_same : (q k : NoteKey) → q ≡ k → eq_by_cmp key_cmp q k ≡ true
key_same q k e = ap (λ (x : NoteKey). is_eq (key_cmp q x)) (sym e) ∙ ap is_eq (tied_itself key_total q)

pub key_parts : (f file : FileId) (t stamp : Stamp) → file ≡ f → stamp ≡ t → key_at f t ≡ key_at file stamp
key_parts f file t stamp e g = λ i. key_at (sym e i) (sym g i)

-- another version has another key
other_by : (f : FileId) (t : Stamp) (file : FileId) (stamp : Stamp) → is_version f t file stamp ≡ false
    → (z : Bool) → eq_by_cmp key_cmp (key_at f t) (key_at file stamp) ≡ z → z ≡ false
other_by f t file stamp e false same = refl
other_by f t file stamp e true same =
    let k = key_exact (key_at f t) (key_at file stamp)
    (is_eq-true (key_cmp (key_at f t) (key_at file stamp)) same) in
    let this : f ≡ file = ap (λ (x : NoteKey). x.file) k in
    let when : t ≡ stamp = ap (λ (x : NoteKey). x.stamp) k in
    absurd (false≢true (sym e ∙ and_from (is_same_file file f) (is_same_stamp stamp t)
    (subst (λ (x : FileId). is_same_file file x ≡ true) (sym this) (is_same_file-refl file))
    (same_true stamp t (sym when))))

pub other_version : (f : FileId) (t : Stamp) (file : FileId) (stamp : Stamp)
    → is_version f t file stamp ≡ false → eq_by_cmp key_cmp (key_at f t) (key_at file stamp) ≡ false
other_version f t file stamp e =
    other_by f t file stamp e (eq_by_cmp key_cmp (key_at f t) (key_at file stamp)) refl

module _ (a : Store) (was : Asked) (d : Done) (b : Store) (to : ℕ) (ends : Ends) (wanted : Wanted)
    (n : Announced) (before rest : List Sent) where
  abbrev m : Sent
  m = sent_to b to (message.Want ends wanted)

  abbrev K : NoteKey
  K = key_at ends.file wanted.stamp

  abbrev this : Asking
  this = record { target = to; offset = wanted.offset }

  module _ (sent : d.work.sent ≡ (before ++ m ∷ []) ++ rest) (none : AreOther before)
      (others : AreOther rest)
      (notes : (q : NoteKey) → note_at d.store.announced q
      ≡ cond (eq_by_cmp key_cmp q K) (Some n) (note_at a.announced q))
      (asking : asking_of (note_of n) ≡ this) where
    module _ (f : FileId) (t : Stamp) where
      abbrev old : Option Asking
      old = was f t

      last_is : last_wanted f t d.work.sent old ≡ option_or (wanted_by f t m) old
      last_is =
          ap (λ ms. last_wanted f t ms old) sent
          ∙ last_both f t (before ++ m ∷ []) rest old
          ∙ last_same f t rest (last_wanted f t (before ++ m ∷ []) old) others
          ∙ last_both f t before (m ∷ []) old
          ∙ ap (λ o. option_or (wanted_by f t m) o) (last_same f t before old none)

      asked_by : (v : Bool) → is_version f t ends.file wanted.stamp ≡ v
          → option_or (wanted_by f t m) old ≡ option_or (cond v (Some this) None) old
      asked_by v e = ap (λ z. option_or (cond z (Some this) None) old) e

      by_version : (v : Bool) → is_version f t ends.file wanted.stamp ≡ v
          → Step a d.store f t old (last_wanted f t d.work.sent old)
      by_version true e =
          let two = and_parts (is_same_file ends.file f) (is_same_stamp wanted.stamp t) e in
          let same = key_parts f ends.file t wanted.stamp (is_same_file-true ends.file f two.0)
          (same_stamp wanted.stamp t two.1) in
          inl (record {
            note = note_of n;
            noted = ap (option_map note_of) (notes (key_at f t)
                ∙ ap (λ z. cond z (Some n) (note_at a.announced (key_at f t)))
                (key_same (key_at f t) K same));
            asked = last_is ∙ asked_by true e ∙ ap (λ (x : Asking). Some x) (sym asking);
          })
      by_version false e = inr (inr (inr (record {
        asked = last_is ∙ asked_by false e;
        note = ap (option_map note_of) (notes (key_at f t)
            ∙ ap (λ z. cond z (Some n) (note_at a.announced (key_at f t)))
            (other_version f t ends.file wanted.stamp e));
      })))

    pub wanting_asks : Asks a was d
    wanting_asks f t = by_version f t (is_version f t ends.file wanted.stamp) refl
