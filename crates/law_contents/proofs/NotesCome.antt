-- What a server notes behind the handlers of bodies comes of what it noted before and of what was
-- heard.
use Rattle.std.proofs.Common.{ℕ, ◌≡◌, ◌⊎◌, ◌+◌, ◌&&◌, ◌==◌, Bool, true, false, cond, Option, None, Some, length, option_map, inl, inr, refl, sym, ap, subst, ◌∙◌}
use Rattle.std.specs.Prelude.{nat_le}
use Rattle.std.proofs.lemmas.Bool.{and_parts}
use Rattle.std.proofs.lemmas.Bool.Decides.{Decides-eqb}
use Rattle.pg_run.specs.pg_announced.declared.announced.Announced.{Announced}
use Rattle.pg_run.specs.pg_announced.declared.announced.NoteKey.{NoteKey}
use Rattle.pg_run.specs.pg_announced.Announced.{AreSorted, NotesValue, aimed, change_note, emptied, is_asked_of, is_awaited, key_at, longer, lose_note, new_note, note_at, put_note, released, unasked}
use Rattle.pg_run.proofs.pg_announced.Found.{changed_found, put_found, released_found}
use Rattle.pg_run.specs.pg_base.declared.head.Head.{Head}
use Rattle.pg_run.specs.pg_base.declared.id.FileId.{FileId}
use Rattle.pg_run.specs.pg_base.declared.stamp.Stamp.{Stamp}
use Rattle.pg_run.specs.pg_base.Version.{actor_of}
use Rattle.pg_run.specs.pg_content.Content.{is_covered}
use Rattle.pg_run.specs.pg_msg.declared.message.Ends.{Ends}
use Rattle.pg_run.specs.pg_msg.declared.message.Piece.{Piece}
use Rattle.pg_run.specs.pg_msg.declared.work.Work.{Work}
use Rattle.pg_run.specs.pg_pieces.Done.{Done, idle}
use Rattle.pg_run.specs.pg_store.declared.store.Store.{Store}
use Rattle.pg_run.specs.pg_store.Store.{content_of}
use Rattle.pg_run.specs.pg_server.pg_transfer.Asking.{acknowledged, noted, put_off}
use Rattle.pg_run.specs.pg_server.pg_transfer.Harbinger.{heard, heard_beside}
use Rattle.pg_run.specs.pg_server.pg_transfer.Piece.{is_next}
use Rattle.pg_run.specs.theory_bodies.Protocol.{Note}
use Rattle.pg_run.specs.theory_bodies.Rule.{NoteComes}
use Rattle.pg_run.specs.theory_bodies.Telling.{Telling}
use Rattle.pg_run.specs.theory_bodies.Telling.Telling.{Announces, Gives}
use Rattle.law_contents.proofs.Servers.{note_of}

abbrev pub noted_of : NotesValue → FileId → Stamp → Option Note
noted_of notes file stamp = option_map note_of (note_at notes (key_at file stamp))

-- each note behind comes of what was noted and heard
abbrev pub ComesBy : ℕ → Telling → NotesValue → NotesValue → Type 0
ComesBy s t before behind = (file : FileId) (stamp : Stamp) (m : Note)
    → noted_of behind file stamp ≡ Some m
    → NoteComes s t file stamp (noted_of before file stamp) m

same_note : (x y : Note) → Some x ≡ Some y → x ≡ y
same_note x y e = cc

-- what is noted is a note there
pub noted_by : (o : Option Announced) (m : Note) → option_map note_of o ≡ Some m
    → (n : Announced) × (o ≡ Some n) × (m ≡ note_of n)
noted_by None m e = absurd (let x : None ≡ Some m = e in cc)
noted_by (Some n) m e = (n, refl, sym (same_note (note_of n) m e))

-- ---- any change

module _ (s : ℕ) (t : Telling) (notes : NotesValue) where
  pub same_comes : ComesBy s t notes notes
  same_comes file stamp m e = inl e

  -- some notes end
  pub fewer_come : (behind : NotesValue) → ((file : FileId) (stamp : Stamp) (n : Announced)
      → note_at behind (key_at file stamp) ≡ Some n → note_at notes (key_at file stamp) ≡ Some n)
      → ComesBy s t notes behind
  fewer_come behind stay file stamp m e =
      let f = noted_by (note_at behind (key_at file stamp)) m e in
      inl (ap (option_map note_of) (stay file stamp f.0 f.1)
      ∙ ap (λ (z : Note). Some z) (sym f.2))

  -- a note loses its source, or stays
  lost_comes : (behind : NotesValue)
      → ((q : NoteKey) (m : Announced) → note_at behind q ≡ Some m
      → ((n : Announced) × (note_at notes q ≡ Some n) × (m ≡ unasked n))
      ⊎ (note_at notes q ≡ Some m))
      → ComesBy s t notes behind
  lost_comes behind of file stamp m e =
      let f = noted_by (note_at behind (key_at file stamp)) m e in
      elim (of (key_at file stamp) f.0 f.1) [
        | inl lost ↦ inr (inr (inr (inr (inr (record {
          was = note_of lost.0;
          old = ap (option_map note_of) lost.1;
          is = f.2 ∙ ap note_of lost.2;
        })))))
        | inr old ↦ inl (ap (option_map note_of) old ∙ ap (λ (z : Note). Some z) (sym f.2))
      ]

  -- a tick that is not refused
  pub tick_comes : ComesBy s t notes (released notes)
  tick_comes =
      lost_comes (released notes) (λ q m e. inl (released_found notes q m e))

  later_by : (k : NoteKey) → AreSorted notes → (lost : Bool)
      → ComesBy s t notes (cond lost (change_note unasked notes k) notes)
  later_by k sorted false = same_comes
  later_by k sorted true =
      lost_comes (change_note unasked notes k)
      (λ q m e. elim (changed_found unasked notes k q m sorted e) [
        | inl c ↦ inl (c.1, ap (note_at notes) c.0 ∙ c.2, c.3)
        | inr old ↦ inr old
      ])

  -- a Later
  pub later_comes : (k : NoteKey) (from : ℕ) → AreSorted notes
      → ComesBy s t notes (lose_note notes k from)
  later_comes k from sorted = later_by k sorted (is_asked_of from (note_at notes k))

-- ---- a change of one note

-- at a key that is this one
at_key : (P : FileId → Stamp → Type 0) (f g : FileId) (y z : Stamp) → key_at f y ≡ key_at g z
    → P g z → P f y
at_key P f g y z e h =
    let Q : FileId → Type 0 = λ x. P x y in
    subst Q (sym (ap (λ (k : NoteKey). k.file) e))
    (subst (P g) (sym (ap (λ (k : NoteKey). k.stamp) e)) h)

module _ (s : ℕ) (t : Telling) (notes : NotesValue) (about : FileId) (which : Stamp) where
  abbrev Comes : Note → Type 0
  Comes m = NoteComes s t about which (noted_of notes about which) m

  stays : (file : FileId) (stamp : Stamp) (m : Note) (n : Announced)
      → note_at notes (key_at file stamp) ≡ Some n → m ≡ note_of n
      → NoteComes s t file stamp (noted_of notes file stamp) m
  stays file stamp m n old is =
      inl (ap (option_map note_of) old ∙ ap (λ (z : Note). Some z) (sym is))

  comes_here : (file : FileId) (stamp : Stamp) (m : Note) (n : Announced)
      → key_at file stamp ≡ key_at about which → m ≡ note_of n → Comes (note_of n)
      → NoteComes s t file stamp (noted_of notes file stamp) m
  comes_here file stamp m n here is c =
      at_key (λ f y. NoteComes s t f y (noted_of notes f y) m) file about stamp which here
      (subst Comes (sym is) c)

  pub changed_comes : (f : Announced → Announced) → AreSorted notes
      → ((n : Announced) → note_at notes (key_at about which) ≡ Some n → Comes (note_of (f n)))
      → ComesBy s t notes (change_note f notes (key_at about which))
  changed_comes f sorted each file stamp m e =
      let g = noted_by (note_at (change_note f notes (key_at about which)) (key_at file stamp)) m e
      in
      elim (changed_found f notes (key_at about which) (key_at file stamp) g.0 sorted g.1) [
        | inl c ↦ comes_here file stamp m (f c.1) c.0 (g.2 ∙ ap note_of c.3) (each c.1 c.2)
        | inr old ↦ stays file stamp m g.0 old g.2
      ]

  pub put_comes : (n : Announced) → Comes (note_of n)
      → ComesBy s t notes (put_note notes (key_at about which) n)
  put_comes n c file stamp m e =
      let g = noted_by (note_at (put_note notes (key_at about which) n) (key_at file stamp)) m e in
      elim (put_found notes (key_at about which) (key_at file stamp) n g.0 g.1) [
        | inl here ↦ comes_here file stamp m n here.0 (g.2 ∙ ap note_of here.1) c
        | inr old ↦ stays file stamp m g.0 old g.2
      ]

  -- the body is asked for anew
  pub emptied_comes : AreSorted notes
      → ComesBy s t notes (change_note emptied notes (key_at about which))
  emptied_comes sorted = changed_comes emptied sorted (λ n there. inr (inr (inr (inr (inl (record {
    was = note_of n;
    old = ap (option_map note_of) there;
    is = refl;
  }))))))

-- ---- a harbinger

module _ (s : ℕ) (store : Store) (ends : Ends) (tag : ℕ) (head : Head) (work : Work)
    (sorted : AreSorted store.announced) where
  abbrev Told : Telling
  Told = Announces work.from s ends.file tag head

  abbrev HeardComes : Done → Type 0
  HeardComes d = ComesBy s Told store.announced d.store.announced

  pub beside_come : (o : Option Announced) → HeardComes (heard_beside o store ends tag head work)
  beside_come None =
      put_comes s Told store.announced ends.file head.stamp (new_note head work.from tag)
      (inr (inl (refl, refl, refl)))
  beside_come (Some m) =
      changed_comes s Told store.announced ends.file head.stamp (aimed work.from tag) sorted
      (λ n there. inr (inr (inl (record {
        was = note_of n;
        old = ap (option_map note_of) there;
        head = head;
        heard = refl;
        same = refl;
        kept = refl;
        bytes = refl;
      }))))

  either_comes : (t : Bool) (d e : Done) → HeardComes d → HeardComes e → HeardComes (cond t d e)
  either_comes true d e h g = h
  either_comes false d e h g = g

  pub heard_comes : HeardComes (heard store ends tag head work)
  heard_comes =
      let covered = is_covered (content_of store ends.file).heads (actor_of head) head.number in
      let awaited = is_awaited store.announced ends.file work.from head in
      let told : Done = idle store (acknowledged store ends head.stamp tag work) in
      let later : Done = idle store (put_off store ends head.stamp work) in
      let beside : Done =
      heard_beside (noted store ends.file head.stamp) store ends tag head work in
      let same = same_comes s Told store.announced in
      either_comes covered told (cond awaited later beside) same
      (either_comes awaited later beside same (beside_come (noted store ends.file head.stamp)))

-- ---- bytes

module _ (s : ℕ) (notes : NotesValue) (from : ℕ) (file : FileId) (p : Piece)
    (sorted : AreSorted notes) where
  -- the next ones of a version are added
  pub longer_comes : ((n : Announced) → note_at notes (key_at file p.head.stamp) ≡ Some n
      → is_next from n p ≡ true)
      → ComesBy s (Gives from file p.head p.offset p.bytes) notes
      (change_note (longer p.bytes) notes (key_at file p.head.stamp))
  longer_comes next =
      changed_comes s (Gives from file p.head p.offset p.bytes) notes file p.head.stamp
      (longer p.bytes) sorted (λ n there.
      let first = and_parts (n.source == from)
      ((p.offset == length n.bytes) && nat_le (length n.bytes + length p.bytes) n.head.length)
      (next n there) in
      let second = and_parts (p.offset == length n.bytes)
      (nat_le (length n.bytes + length p.bytes) n.head.length) first.1 in
      let source : n.source ≡ from = (Decides-eqb n.source from).0 first.0 in
      let at : p.offset ≡ length n.bytes = (Decides-eqb p.offset (length n.bytes)).0 second.0 in
      inr (inr (inr (inl (record {
        was = note_of n;
        old = ap (option_map note_of) there;
        head = p.head;
        more = p.bytes;
        heard = (λ i. Gives (sym source i) file p.head (at i) p.bytes);
        same = refl;
        is = refl;
      })))))
