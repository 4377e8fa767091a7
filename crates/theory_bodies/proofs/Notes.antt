-- What is noted of a version is true, whatever is heard of it; and a body that becomes whole is
-- the version's.
use Rattle.std.proofs.Common.{◌≡◌, ℕ, List, [], ◌++◌, Option, Some, length, take, inl, inr, refl, sym, ap, subst, ◌∙◌}
use Rattle.std.proofs.lemmas.List.{length-append}
use Rattle.pg_base.specs.declared.head.Head.{Head}
use Rattle.pg_base.specs.declared.id.FileId.{FileId}
use Rattle.pg_base.specs.declared.stamp.Stamp.{Stamp}
use Rattle.pg_base.specs.Version.{VersionValue}
use Rattle.theory_bodies.specs.Book.{Book, IsBook, IsHeadIn, IsVersionIn, body_in}
use Rattle.theory_bodies.specs.Protocol.{IsAsked, IsNoteIn, Note}
use Rattle.theory_bodies.specs.Rule.{HasCome, IsAimed, IsEmptied, IsFilled, IsLonger, IsLost, IsNoted, NoteComes}
use Rattle.theory_bodies.specs.Telling.{IsSlice, IsTrue, Telling}
use Rattle.theory_bodies.specs.Telling.Telling.{Announces, Gives}
use Rattle.theory_bodies.proofs.Books.{head_length, one_head, whole_version}
use Rattle.theory_bodies.proofs.Pieces.{front_and_more, front_is_all}

module _ (b : Book) (k : IsBook b) (file : FileId) where
  -- bytes of a body of this stamp
  slice_at : (head : Head) (stamp : Stamp) (offset : ℕ) (bytes : List ℕ) → head.stamp ≡ stamp
      → IsSlice (body_in b file head.stamp) offset bytes → IsSlice (body_in b file stamp) offset bytes
  slice_at head stamp offset bytes e =
      let P : Stamp → Type 0 = λ s. IsSlice (body_in b file s) offset bytes in
      subst P e

  -- ---- a body becomes whole

  filled_body : (heard : Telling) → IsTrue b heard → (n : Note) → IsNoteIn b file n.head.stamp n → (body : List ℕ)
      → IsFilled heard file n body → body ≡ body_in b file n.head.stamp
  filled_body heard t n is body f =
      let told : IsTrue b (Gives n.source file f.head (length n.bytes) f.more) = subst (IsTrue b) f.heard t in
      let slice = slice_at f.head n.head.stamp (length n.bytes) f.more f.same told.1 in
      let long : length (n.bytes ++ f.more) ≡ length (body_in b file n.head.stamp) =
      length-append n.bytes f.more ∙ f.whole ∙ sym (head_length b file n.head is.head) in
      f.is
      ∙ front_is_all (body_in b file n.head.stamp) (n.bytes ++ f.more)
      (front_and_more (body_in b file n.head.stamp) n.bytes f.more is.bytes slice) long

  -- WHAT COMES IS THE VERSION
  pub come_is : (heard : Telling) → IsTrue b heard → (noted : Stamp → Option Note)
      → ((stamp : Stamp) (n : Note) → noted stamp ≡ Some n → IsNoteIn b file stamp n)
      → (v : VersionValue) → HasCome heard noted file v → IsVersionIn b file v
  come_is heard t noted are v c = elim c [
    | inl whole ↦ subst (IsTrue b) whole t
    | inr by ↦ (
        let n : Note = by.0 in
        let is = are n.head.stamp n by.1 in
        let same : v.head ≡ n.head = by.2 in
        whole_version b file v (subst (IsHeadIn b file) (sym same) is.head)
        (filled_body heard t n is v.body by.3 ∙ ap (λ (h : Head). body_in b file h.stamp) (sym same)))
  ]

  -- ---- what is noted

  module _ (Was : Telling → Type 0) (s : ℕ) (heard : Telling) (t : IsTrue b heard)
      (said : (from : ℕ) (tag : ℕ) (head : Head) → heard ≡ Announces from s file tag head → Was (Announces from s file tag head))
      (stamp : Stamp) (o : Option Note)
      (old : (n : Note) → o ≡ Some n → IsNoteIn b file stamp n × IsAsked Was s file n) where
    abbrev Holds : Note → Type 0
    Holds n = IsNoteIn b file stamp n × IsAsked Was s file n

    noted_holds : (n : Note) → IsNoted s heard file stamp n → Holds n
    noted_holds n c =
        let told : IsTrue b (Announces n.source s file n.tag n.head) = subst (IsTrue b) c.0 t in
        let P : List ℕ → Type 0 = λ ys. ys ≡ take (length ys) (body_in b file n.head.stamp) in (
          record { head = told; at = c.1; bytes = subst P (sym c.2) refl },
          inr (said n.source n.tag n.head c.0),
        )

    aimed_holds : (n : Note) → IsAimed s heard file stamp o n → Holds n
    aimed_holds n c =
        let before = old c.was c.old in
        let told : IsHeadIn b file c.head = subst (IsTrue b) c.heard t in
        let head : IsHeadIn b file n.head = subst (IsHeadIn b file) (sym c.kept) before.0.head in
        let at : n.head.stamp ≡ stamp = ap (λ (h : Head). h.stamp) c.kept ∙ before.0.at in
        let same : c.head ≡ n.head = one_head b k file c.head n.head told head (c.same ∙ sym at) in
        let P : Note → Type 0 = λ w. n.bytes ≡ take (length n.bytes) (body_in b file w.head.stamp) in
        let Q : List ℕ → Type 0 = λ ys. ys ≡ take (length ys) (body_in b file c.was.head.stamp) in
        let bytes : n.bytes ≡ take (length n.bytes) (body_in b file c.was.head.stamp) = subst Q (sym c.bytes) before.0.bytes in
        let R : Head → Type 0 = λ h. n.bytes ≡ take (length n.bytes) (body_in b file h.stamp) in
        let W : Head → Type 0 = λ h. Was (Announces n.source s file n.tag h) in (
          record { head = head; at = at; bytes = subst R (sym c.kept) bytes },
          inr (subst W same (said n.source n.tag c.head c.heard)),
        )

    longer_holds : (n : Note) → IsLonger heard file stamp o n → Holds n
    longer_holds n c =
        let before = old c.was c.old in
        let told : IsTrue b (Gives c.was.source file c.head (length c.was.bytes) c.more) = subst (IsTrue b) c.heard t in
        let slice = slice_at c.head c.was.head.stamp (length c.was.bytes) c.more (c.same ∙ sym before.0.at) told.1 in
        let now : Holds (record c.was { bytes = c.was.bytes ++ c.more }) = (
          record {
            head = before.0.head;
            at = before.0.at;
            bytes = front_and_more (body_in b file c.was.head.stamp) c.was.bytes c.more before.0.bytes slice;
          },
          before.1,
        ) in
        subst Holds (sym c.is) now

    emptied_holds : (n : Note) → IsEmptied o n → Holds n
    emptied_holds n c =
        let before = old c.was c.old in
        let now : Holds (record c.was { bytes = [] }) =
        (record { head = before.0.head; at = before.0.at; bytes = refl }, before.1) in
        subst Holds (sym c.is) now

    lost_holds : (n : Note) → IsLost o n → Holds n
    lost_holds n c =
        let before = old c.was c.old in
        let now : Holds (record c.was { source = 0 }) =
        (record { head = before.0.head; at = before.0.at; bytes = before.0.bytes }, inl refl) in
        subst Holds (sym c.is) now

    -- WHAT IS NOTED behind an event is true
    pub note_holds : (n : Note) → NoteComes s heard file stamp o n → Holds n
    note_holds n c = elim c [
      | inl same ↦ old n same
      | inr one ↦ elim one [
        | inl noted ↦ noted_holds n noted
        | inr two ↦ elim two [
          | inl aimed ↦ aimed_holds n aimed
          | inr three ↦ elim three [
            | inl longer ↦ longer_holds n longer
            | inr four ↦ elim four [ inl emptied ↦ emptied_holds n emptied | inr lost ↦ lost_holds n lost ]
          ]
        ]
      ]
    ]
