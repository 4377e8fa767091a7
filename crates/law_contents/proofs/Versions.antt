-- A version comes to a file that is held, or is made there.
use Rattle.std.proofs.Common.{◌≡◌, ◌≤◌, ◌⊎◌, Bool, true, false, cond, not, Option, None, Some, option_map, inl, inr, refl, sym, ap, subst, ◌∙◌, arith}
use Rattle.std.proofs.lemmas.Bool.{and_from, and_parts, false≢true}
use Rattle.pg_run.specs.pg_announced.declared.announced.Announced.{Announced}
use Rattle.pg_run.specs.pg_announced.declared.announced.NoteKey.{NoteKey}
use Rattle.pg_run.specs.pg_announced.Announced.{AreSorted, NotesValue, is_over, key_at, note_at}
use Rattle.pg_run.proofs.pg_announced.Found.{kept_found}
use Rattle.pg_run.proofs.pg_announced.Sorted.{sorted_kept}
use Rattle.pg_run.specs.pg_base.declared.id.FileId.{FileId}
use Rattle.pg_run.specs.pg_base.declared.stamp.Stamp.{Stamp}
use Rattle.pg_run.specs.pg_base.Id.{is_same_file}
use Rattle.pg_run.specs.pg_base.Version.{VersionValue, actor_of}
use Rattle.pg_run.proofs.pg_base.Orders.{is_same_file-refl, is_same_file-true}
use Rattle.pg_run.specs.pg_patch.Ranges.{RangesValue}
use Rattle.pg_run.specs.pg_content.Content.{is_covered, joined_content, put_version as put_head, written}
use Rattle.pg_run.specs.pg_delta.Kept.{with_delta}
use Rattle.pg_run.specs.pg_delta.Taking.{delta_to, stamps_of}
use Rattle.pg_run.specs.pg_names.Names.{raise}
use Rattle.pg_run.specs.pg_replica.declared.replica.Replica.{Replica}
use Rattle.pg_run.specs.pg_replica.Replica.{covers, own_actor, with_head, with_write}
use Rattle.pg_run.specs.pg_replica.Replicas.{ByFile, edge_count, put_replica, replica_in, replicas_taking, replicas_writing, takes_version}
use Rattle.pg_run.specs.pg_store.declared.store.Store.{Store}
use Rattle.pg_run.specs.pg_store.Store.{end_covered, notes_behind, replica_at, take_version, with_drawn, with_names, write}
use Rattle.pg_run.proofs.theory_flood_pieces.Choices.{decided}
use Rattle.law_contents.proofs.Changes.{Alters, Core, Covers, IsOpen, core_of}
use Rattle.law_contents.proofs.Cores.{put_elsewhere, put_here, put_order, raised_time, raised_up}
use Rattle.law_contents.proofs.Endings.{found_stays, stays_or_ends}

not_false : (t : Bool) → not t ≡ false → t ≡ true
not_false true h = refl
not_false false h = absurd (let z : true ≡ false = h in cc)

-- a version of this stamp came, or was made, where this was the replica
abbrev pub with_news_of : Store → FileId → Stamp → Option Replica → ByFile → Store
with_news_of a file stamp o rs =
    end_covered (with_names (with_drawn a (edge_count o) rs) (raise a.names stamp.time)) file

-- what is noted then was noted before
behind_stay : (notes : NotesValue) (file : FileId) (o : Option Replica) → AreSorted notes
    → AreSorted (notes_behind notes file o)
    × ((f : FileId) (t : Stamp) (n : Announced)
    → note_at (notes_behind notes file o) (key_at f t) ≡ Some n
    → note_at notes (key_at f t) ≡ Some n)
behind_stay notes file None sorted = (sorted, λ f t n h. h)
behind_stay notes file (Some x) sorted =
    let stays : NoteKey × Announced → Bool = λ e. not (is_over file x.content.heads e) in (
      sorted_kept stays notes sorted,
      λ f t n h. kept_found stays notes (key_at f t) n sorted h,
    )

-- and what was noted before is noted then, or covered by the heads of this replica
behind_end : (notes : NotesValue) (file : FileId) (o : Option Replica) (f : FileId) (t : Stamp)
    (n : Announced) → note_at notes (key_at f t) ≡ Some n
    → (note_at (notes_behind notes file o) (key_at f t) ≡ Some n)
    ⊎ ((f ≡ file) × Covers (option_map core_of o) n)
behind_end notes file None f t n there = inl there
behind_end notes file (Some x) f t n there =
    let over : NoteKey × Announced → Bool = is_over file x.content.heads in
    elim (stays_or_ends (λ e. not (over e)) notes (key_at f t) n there) [
      | inl stays ↦ inl stays
      | inr ends ↦ (
          let two = and_parts (is_same_file f file)
          (is_covered x.content.heads (actor_of n.head) n.head.number)
          (not_false (over (key_at f t, n)) ends) in
          inr (is_same_file-true f file two.0, two.1))
    ]

-- what is noted then is not covered
behind_open : (notes : NotesValue) (file : FileId) (o : Option Replica) (t : Stamp) (n : Announced)
    → note_at (notes_behind notes file o) (key_at file t) ≡ Some n
    → Covers (option_map core_of o) n → ⊥
behind_open notes file None t n there covers = false≢true covers
behind_open notes file (Some x) t n there covers =
    let over = is_over file x.content.heads (key_at file t, n) in
    let stays : not over ≡ true =
    found_stays (λ e. not (is_over file x.content.heads e)) notes (key_at file t) n there in
    let is : over ≡ true = and_from (is_same_file file file)
    (is_covered x.content.heads (actor_of n.head) n.head.number) (is_same_file-refl file) covers in
    false≢true (sym (ap not is) ∙ stays)

module _ (a : Store) (file : FileId) (x : Replica) (is : replica_at a file ≡ Some x) where
  news_alters : (stamp : Stamp) (o : Option Replica) (y : Replica)
      → Alters a (with_news_of a file stamp o (put_replica a.replicas file y)) file (Some (core_of y))
  news_alters stamp o y =
      let now = replica_in (put_replica a.replicas file y) file in
      record {
        server = refl;
        last = raised_up a.names.last a.names.last stamp.time refl;
        files = omega arith;
        order = put_order a.replicas file y;
        full = λ f h. h;
        here = put_here a.replicas file y;
        others = λ f apart. put_elsewhere a.replicas file f y apart;
        view = refl;
        notes = λ sorted. behind_stay a.announced file now sorted;
        ends = λ f t n there. elim (behind_end a.announced file now f t n there) [
          | inl stays ↦ inl stays
          | inr over ↦ inr (over.0, subst (λ (o : Option Core). Covers o n) (put_here a.replicas file y) over.1)
        ];
        free = λ h t n there covers. behind_open a.announced file now t n there
            (subst (λ (o : Option Core). Covers o n) (sym (put_here a.replicas file y)) covers);
      }

  module _ (v : VersionValue) where
    abbrev took : Option Replica → Store
    took o = cond (takes_version o v)
        (with_news_of a file v.head.stamp o (replicas_taking a.replicas file v a.tags o)) a

    abbrev JoinedCore : Core
    JoinedCore =
        record { birth = x.birth; content = joined_content x.content v; kept = x.kept }

    -- a version that is covered changes nothing
    covered_same : covers x v ≡ true → JoinedCore ≡ core_of x
    covered_same old =
        ap (λ t. record {
          birth = x.birth;
          content = record {
            policy = x.content.policy;
            heads = cond t x.content.heads (put_head x.content.heads v);
          };
          kept = x.kept;
        }) old

    kept_alters : Alters a a file (Some (core_of x))
    kept_alters = record {
      server = refl;
      last = omega arith;
      files = omega arith;
      order = λ h. h;
      full = λ f h. h;
      here = ap (option_map core_of) is;
      others = λ f apart. refl;
      view = refl;
      notes = λ sorted. (sorted, λ f stamp n h. h);
      ends = λ f stamp n h. inl h;
      free = λ h. subst (IsOpen a file) (ap (option_map core_of) is) h;
    }

    took_alters : Alters a (took (Some x)) file (Some JoinedCore)
    took_alters =
        decided (λ b. Alters a b file (Some JoinedCore)) (not (covers x v))
        (with_news_of a file v.head.stamp (Some x) (put_replica a.replicas file (with_head x v a.tags)))
        a
        (λ new. news_alters v.head.stamp (Some x) (with_head x v a.tags))
        (λ old. let P : Core → Type 0 = (λ k. Alters a a file (Some k)) in
        subst P (sym (covered_same (not_false (covers x v) old))) kept_alters)

    -- A VERSION COMES
    pub version_alters : Alters a (take_version a file v) file (Some JoinedCore)
    version_alters =
        let P : Option Replica → Type 0 = (λ o. Alters a (took o) file (Some JoinedCore)) in
        subst P (sym is) took_alters

    took_last : (covers x v ≡ true → v.head.stamp.time ≤ a.names.last)
        → v.head.stamp.time ≤ (took (Some x)).names.last
    took_last covered =
        decided (λ (b : Store). v.head.stamp.time ≤ b.names.last) (not (covers x v))
        (with_news_of a file v.head.stamp (Some x) (put_replica a.replicas file (with_head x v a.tags)))
        a
        (λ new. raised_time a.names.last v.head.stamp.time)
        (λ old. covered (not_false (covers x v) old))

    -- its time is no later than the clock, where that holds of what a head covers
    pub version_last : (covers x v ≡ true → v.head.stamp.time ≤ a.names.last)
        → v.head.stamp.time ≤ (take_version a file v).names.last
    version_last covered =
        let P : Option Replica → Type 0 =
        (λ o. v.head.stamp.time ≤ (took o).names.last) in
        subst P (sym is) (took_last covered)

  module _ (stamp : Stamp) (ranges : RangesValue) where
    abbrev wrote : Option Replica → Store
    wrote o = with_news_of a file stamp o (replicas_writing a.replicas file stamp ranges a.tags o)

    abbrev pub WrittenCore : Core
    WrittenCore = record {
      birth = x.birth;
      content = written x.content (own_actor x stamp.server) stamp ranges;
      kept = with_delta x.kept (delta_to (stamps_of x.content) stamp ranges);
    }

    -- A VERSION IS MADE, on all heads
    pub write_alters : Alters a (write a file stamp ranges) file (Some WrittenCore)
    write_alters =
        let P : Option Replica → Type 0 = (λ o. Alters a (wrote o) file (Some WrittenCore)) in
        subst P (sym is)
        (news_alters stamp (Some x) (with_write x (own_actor x stamp.server) stamp ranges a.tags))

    pub write_last : stamp.time ≤ (write a file stamp ranges).names.last
    write_last = raised_time a.names.last stamp.time
