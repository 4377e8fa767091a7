-- All servers and all messages that were ever sent: what an event keeps.
use Rattle.std.proofs.Common.{◌≡◌, ◌⊎◌, ℕ, length, take, List, [], ◌∷◌, ◌++◌, Some, inl, inr, sym, ap, subst, ◌∙◌}
use Rattle.pg_base.specs.declared.head.Head.{Head}
use Rattle.pg_base.specs.declared.id.FileId.{FileId}
use Rattle.pg_base.specs.declared.stamp.Stamp.{Stamp}
use Rattle.pg_content.specs.Content.{Among}
use Rattle.pg_delta.specs.Taking.{delta_to, stamps_of}
use Rattle.theory_bodies.specs.Book.{Book, GrowsTo, IsBook}
use Rattle.theory_bodies.specs.Laws.{ADeltaMakesTheVersion, EventsKeep, TheTagIsAHarbingers, WhatComesIsTheVersion}
use Rattle.theory_bodies.specs.Protocol.{Holding, IsAsked, IsHoldingIn, IsNoteIn, IsSound, Keeps, Note, Protocol, Said}
use Rattle.theory_bodies.specs.Rule.{HasJoined, HasPatched, IsHeard, Local, OnlyOne}
use Rattle.theory_bodies.specs.Telling.{IsSlice, IsTrue, Telling}
use Rattle.theory_bodies.specs.Telling.Telling.{Announces, Brings, Changes, Gives, Silent}
use Rattle.theory_bodies.proofs.Books.{body_grows, delta_grows, head_grows, version_grows}
use Rattle.theory_bodies.proofs.Holdings.{from_holds, holding_grows, joined_holds, patched_holds, patched_is, patched_long, written_holds}
use Rattle.theory_bodies.proofs.Notes.{come_is, note_holds}
use Rattle.theory_bodies.proofs.Sends.{sent_true}

-- ---- more was made

module _ (b c : Book) (old : IsBook b) (now : IsBook c) (g : GrowsTo b c) where
  telling_grows : (t : Telling) → IsTrue b t → IsTrue c t
  telling_grows (Announces from to file tag head) t = head_grows b c old now g file head t
  telling_grows (Brings file version) t = version_grows b c old now g file version t
  telling_grows (Gives from file head offset bytes) t =
      let P : List ℕ → Type 0 = λ ys. IsSlice ys offset bytes in
      (head_grows b c old now g file head t.0, subst P (sym (body_grows b c old now g file head t.0)) t.1)
  telling_grows (Changes from file head bases ranges) t = (
    head_grows b c old now g file head t.0,
    delta_grows b c old now g file (old.created file t.0.made t.0.among) (delta_to bases head.stamp ranges) t.1,
  )
  telling_grows Silent t = tt

  note_grows : (file : FileId) (stamp : Stamp) (n : Note) → IsNoteIn b file stamp n → IsNoteIn c file stamp n
  note_grows file stamp n k =
      record {
        head = head_grows b c old now g file n.head k.head;
        at = k.at;
        bytes = k.bytes ∙ ap (λ ys. take (length n.bytes) ys) (sym (body_grows b c old now g file n.head k.head));
      }

among_both : {A : Type 0} (xs ys : List A) (x : A) → Among x (xs ++ ys) → Among x xs ⊎ Among x ys
among_both [] ys x l = inr l
among_both (z ∷ xs) ys x l = elim l [
  | inl here ↦ inl (inl here)
  | inr there ↦ elim (among_both xs ys x there) [ inl p ↦ inl (inr p) | inr q ↦ inr q ]
]

among_later : {A : Type 0} (xs ys : List A) (x : A) → Among x ys → Among x (xs ++ ys)
among_later [] ys x l = l
among_later (z ∷ xs) ys x l = inr (among_later xs ys x l)

-- ---- what was said

module _ {N M : Type 0} (p : Protocol N M) where
  said_later : (mail sent : List M) (t : Telling) → Said p.tells mail t → Said p.tells (sent ++ mail) t
  said_later mail sent t s = (s.0, among_later sent mail s.0 s.1, s.2)

  asked_later : (mail sent : List M) (s : ℕ) (file : FileId) (n : Note) → IsAsked (Said p.tells mail) s file n
      → IsAsked (Said p.tells (sent ++ mail)) s file n
  asked_later mail sent s file n k = elim k [
    | inl none ↦ inl none
    | inr said ↦ inr (said_later mail sent (Announces n.source s file n.tag n.head) said)
  ]

  heard_true : (b : Book) (mail : List M) (heard : Telling) → ((m : M) → Among m mail → IsTrue b (p.tells m))
      → IsHeard p mail heard → IsTrue b heard
  heard_true b mail heard told h = elim h [
    | inl silent ↦ subst (IsTrue b) (sym silent) tt
    | inr said ↦ subst (IsTrue b) said.2 (told said.0 said.1)
  ]

  heard_said : (mail : List M) (heard : Telling) → IsHeard p mail heard → (from s : ℕ) (file : FileId) (tag : ℕ) (head : Head)
      → heard ≡ Announces from s file tag head → Said p.tells mail (Announces from s file tag head)
  heard_said mail heard h from s file tag head e = elim h [
    | inl silent ↦ absurd (let x : Silent ≡ Announces from s file tag head = sym silent ∙ e in cc)
    | inr said ↦ subst (Said p.tells mail) e said
  ]

  -- ---- one server's event

  module _ (b c : Book) (nodes now : ℕ → N) (mail sent : List M) (s : ℕ) (behind : N) (heard : Telling) (k : Keeps p b nodes mail)
      (g : GrowsTo b c) (book : IsBook c) (h : IsHeard p mail heard) (l : Local p b c s (nodes s) behind heard sent) where
    abbrev Was : Telling → Type 0
    Was = Said p.tells (sent ++ mail)

    heard_is : IsTrue c heard
    heard_is = telling_grows b c k.book book g heard (heard_true b mail heard k.told h)

    note_before : (file : FileId) (stamp : Stamp) (n : Note) → p.notes (nodes s) file stamp ≡ Some n
        → IsNoteIn c file stamp n × IsAsked Was s file n
    note_before file stamp n e = (
      note_grows b c k.book book g file stamp n ((k.servers s).notes file stamp n e),
      asked_later mail sent s file n ((k.servers s).asked file stamp n e),
    )

    note_behind : (file : FileId) (stamp : Stamp) (n : Note) → p.notes behind file stamp ≡ Some n
        → IsNoteIn c file stamp n × IsAsked Was s file n
    note_behind file stamp n e =
        note_holds c book file Was s heard heard_is
        (λ from tag head i. said_later mail sent (Announces from s file tag head) (heard_said mail heard h from s file tag head i))
        stamp (p.notes (nodes s) file stamp) (note_before file stamp) n (l.notes file stamp n e)

    held_before : (file : FileId) (x : Holding) → p.holds (nodes s) file ≡ Some x → IsHoldingIn b file x
    held_before file x e = (k.servers s).holds file x e

    joined_behind : (file : FileId) (x : Holding) → HasJoined c heard (p.notes (nodes s) file) file (p.holds (nodes s) file) x
        → IsHoldingIn c file x
    joined_behind file x j =
        joined_holds c file j.was x j.version
        (from_holds b c k.book book g file (p.holds (nodes s) file) (held_before file) j.was j.from)
        (come_is c book file heard heard_is (p.notes (nodes s) file) (λ stamp n e. (note_before file stamp n e).0) j.version j.came)
        j.content j.kept

    patched_behind : (file : FileId) (x : Holding) → HasPatched heard file (p.holds (nodes s) file) x → IsHoldingIn c file x
    patched_behind file x j =
        let told : IsTrue c (Changes j.source file j.head (stamps_of j.was.content) j.ranges) = subst (IsTrue c) j.heard heard_is in
        patched_holds c file j.was (holding_grows b c k.book book g file j.was (held_before file j.was j.old)) j.head told.0 j.ranges told.1
        x j.content j.kept

    held_behind : (file : FileId) (x : Holding) → p.holds behind file ≡ Some x → IsHoldingIn c file x
    held_behind file x e = elim (l.holds file x e) [
      | inl from ↦ from_holds b c k.book book g file (p.holds (nodes s) file) (held_before file) x from
      | inr one ↦ elim one [
        | inl joined ↦ joined_behind file x joined
        | inr two ↦ elim two [
          | inl patched ↦ patched_behind file x patched
          | inr written ↦ written_holds b c k.book book g file (p.holds (nodes s) file) (held_before file) x written
        ]
      ]
    ]

    sound_behind : IsSound p c Was s behind
    sound_behind = record {
      notes = λ file stamp n e. (note_behind file stamp n e).0;
      asked = λ file stamp n e. (note_behind file stamp n e).1;
      holds = held_behind;
    }

    sound_else : (t : ℕ) → IsSound p c Was t (nodes t)
    sound_else t = record {
      notes = λ file stamp n e. note_grows b c k.book book g file stamp n ((k.servers t).notes file stamp n e);
      asked = λ file stamp n e. asked_later mail sent t file n ((k.servers t).asked file stamp n e);
      holds = λ file x e. holding_grows b c k.book book g file x ((k.servers t).holds file x e);
    }

    sound_now : OnlyOne nodes now s behind → (t : ℕ) → IsSound p c Was t (now t)
    sound_now only t =
        let P : N → Type 0 = λ a. IsSound p c Was t a in
        let Q : ℕ → Type 0 = λ j. IsSound p c Was j behind in
        elim (only t) [
          | inl here ↦ subst P (sym here.1) (subst Q (sym here.0) sound_behind)
          | inr same ↦ subst P (sym same) (sound_else t)
        ]

    told_now : (m : M) → Among m (sent ++ mail) → IsTrue c (p.tells m)
    told_now m at = elim (among_both sent mail m at) [
      | inl new ↦ sent_true p c Was s behind sound_behind (p.tells m) (l.sends m new)
      | inr earlier ↦ telling_grows b c k.book book g (p.tells m) (k.told m earlier)
    ]

    kept : OnlyOne nodes now s behind → Keeps p c now (sent ++ mail)
    kept only = record { book = book; told = told_now; servers = sound_now only }

  -- AN EVENT KEEPS IT
  pub events_keep : EventsKeep p
  events_keep b c nodes now mail sent s behind heard k g book h l only =
      kept b c nodes now mail sent s behind heard k g book h l only

  -- WHAT COMES
  pub what_comes : WhatComesIsTheVersion p
  what_comes b nodes mail s heard k h file v come =
      come_is b k.book file heard (heard_true b mail heard k.told h) (p.notes (nodes s) file) ((k.servers s).notes file) v come

  -- A DELTA
  pub a_delta : ADeltaMakesTheVersion p
  a_delta b nodes mail s heard k h file x e source head ranges i =
      let told : IsTrue b (Changes source file head (stamps_of x.content) ranges) =
      subst (IsTrue b) i (heard_true b mail heard k.told h) in
      let is = (k.servers s).holds file x e in (
        patched_is b file x is head told.0 ranges told.1,
        patched_long b file x is head told.0 ranges told.1,
      )

  -- THE TAG
  pub the_tag : TheTagIsAHarbingers p
  the_tag b nodes mail s k file stamp n e some = elim ((k.servers s).asked file stamp n e) [
    | inl none ↦ absurd (some none)
    | inr said ↦ said
  ]
