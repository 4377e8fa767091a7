-- Who is asked for a version announced it: so its harbinger may be answered when the version comes.
use Rattle.std.proofs.Common.{ℕ, ◌≡◌, ◌≤◌, ◌⊎◌, ◌==◌, ◌&&◌, ◌||◌, Bool, true, false, cond, not, List, Some, refl, sym, ap, subst, ◌∙◌, inl, inr, arith}
use Rattle.std.specs.Prelude.{Contains}
use Rattle.std.proofs.lemmas.Bool.{eqb-true}
use Rattle.pg_run.specs.pg_announced.declared.announced.Announced.{Announced}
use Rattle.pg_run.specs.pg_base.declared.id.FileId.{FileId}
use Rattle.pg_run.specs.pg_base.declared.stamp.Stamp.{Stamp}
use Rattle.pg_run.specs.pg_edges.declared.key.Key.TheVariants as key
use Rattle.pg_run.specs.pg_entries.declared.cell.Cell.{Cell}
use Rattle.pg_run.specs.pg_event.declared.event.Event.{Event}
use Rattle.pg_run.specs.pg_msg.declared.message.Message.TheVariants as message
use Rattle.pg_run.specs.pg_msg.declared.message.Sent.{Sent}
use Rattle.pg_run.specs.pg_replica.declared.replica.Replica.{Replica}
use Rattle.pg_run.specs.pg_replica.Replicas.{is_of_birth}
use Rattle.pg_run.specs.pg_store.declared.store.Store.{Store}
use Rattle.pg_run.specs.pg_store.Births.{fill_at, is_fill_at}
use Rattle.pg_run.specs.pg_store.Store.{is_held, replica_at}
use Rattle.pg_run.specs.pg_store.Together.{AreTogether, IsOver}
use Rattle.pg_run.specs.pg_store.Wishes.{is_with_birth}
use Rattle.pg_run.specs.theory_flood.Promises.{Saying}
use Rattle.pg_run.specs.theory_flood.Promises.Saying.{CellFor, Other}
use Rattle.pg_run.specs.theory_flood.Server.{Slot, slot}
use Rattle.pg_run.specs.theory_flood_pieces.Seen.{Along, head_cell, saying, says}
use Rattle.pg_run.proofs.theory_flood_pieces.Together.{held_of_replica}
use Rattle.pg_run.specs.Births.{AllNamed, WasGivenOut}
use Rattle.pg_run.specs.Histories.{TellsHead, TellsOfHistory}
use Rattle.pg_run.specs.Journal.{mail}
use Rattle.pg_run.specs.Noted.{IsAnnounced}
use Rattle.pg_run.specs.Ruled.{late_in}
use Rattle.pg_run.specs.Run.{World, run}
use Rattle.pg_run.proofs.Late.{said_is_late}
use Rattle.law_acks.specs.Laws.{StandOn}
use Rattle.law_acks.proofs.Came.{IsAwaited, SourceSuits}
use Rattle.law_acks.proofs.Heads.{IsHeadComing}
use Rattle.law_acks.proofs.Histories.{head_suits}

module _ (n : ℕ) (on : StandOn n) (events : List Event) (s : ℕ) (least : 1 ≤ s) (most : s ≤ n) where
  abbrev W : World
  W = run n events

  abbrev A : Store
  A = W.stores s

  abbrev Late : List (Saying Slot Cell)
  Late = late_in (mail W.journal)

  -- ---- a birth that was given out for what is held, is that of the replica, or over

  given_over : AreTogether A → (file : FileId) (birth : ℕ) → WasGivenOut n events file s birth → (x : Replica)
      → replica_at A file ≡ Some x → (t : Bool) → (x.birth == birth) ≡ t → (x.birth ≡ birth) ⊎ IsOver A file birth
  given_over both file birth given x here true same = inl (eqb-true x.birth birth same)
  given_over both file birth given x here false other =
      let alone = on.alone events s least most file in
      let held : is_held A file ≡ true = held_of_replica A both file x here in
      let fill = is_fill_at (fill_at A file) birth in
      inr (record {
        given = alone.counted birth given;
        away = ap (λ o. is_of_birth o birth) here ∙ other;
        unasked =
            ap (λ o. is_with_birth o birth || (not (is_held A file) && fill)) (alone.held x here)
            ∙ ap (λ (t : Bool). not t && fill) held;
      })

  -- ---- what is noted suits

  module _ (both : AreTogether A) (along : Along) (counts : (file : FileId) (birth : ℕ) → IsOver A file birth → along.over file birth ≡ true)
      (late : along.late ≡ Late) where
    module _ (file : FileId) (note : Announced) (from : ℕ) (source : (note.source == from) ≡ true)
        (k : IsAnnounced (mail W.journal) s file note) where
      abbrev M : Sent
      M = k.sent

      abbrev Told : Slot
      Told = slot k.ends.file k.ends.sender s k.ends.receiver (key.Version note.head.stamp)

      sender : M.packet.from ≡ from
      sender = k.from ∙ eqb-true note.source from source

      tells : TellsHead W k.ends.file note.head
      tells = subst (TellsOfHistory W) k.is (on.contents.carried events M k.among)

      coming : IsHeadComing A file note.head
      coming =
          subst (λ (f : FileId). IsHeadComing A f note.head) k.of
          (head_suits n on.contents events s least most k.ends.file note.head tells)

      given : WasGivenOut n events k.ends.file s k.ends.receiver
      given =
          let P : FileId → ℕ → ℕ → Type 0 = λ f u b. WasGivenOut n events f u b in
          let named : AllNamed P M.packet.from M.to (message.Harbinger k.ends note.tag note.head) =
          subst (AllNamed P M.packet.from M.to) k.is ((on.known events).messages M k.among) in
          subst (λ (u : ℕ). P k.ends.file u k.ends.receiver) k.to named.1

      birth : (x : Replica) → replica_at A file ≡ Some x → (x.birth ≡ Told.birth) ⊎ (along.over Told.file Told.birth ≡ true)
      birth x here =
          let b = k.ends.receiver in
          let at : replica_at A k.ends.file ≡ Some x = subst (λ (f : FileId). replica_at A f ≡ Some x) (sym k.of) here in
          elim (given_over both k.ends.file b given x at (x.birth == b) refl) [
            | inl same ↦ inl same
            | inr over ↦ inr (counts k.ends.file b over)
          ]

      said : (note.tag == 0) ≡ false → says M ≡ CellFor from Told note.tag (head_cell note.head)
      said tagged =
          let cell = CellFor from Told note.tag (head_cell note.head) in
          ap (saying M.packet.from M.to) k.is
          ∙ ap (λ (f : ℕ). saying f M.to (message.Harbinger k.ends note.tag note.head)) sender
          ∙ ap (λ (t : ℕ). saying from t (message.Harbinger k.ends note.tag note.head)) k.to
          ∙ ap (λ (t : Bool). cond t Other cell) tagged

      awaited : IsAwaited along s A file from note
      awaited = record {
        coming = coming;
        told = Told;
        peer = refl;
        of = k.of;
        birth = birth;
        late = λ tagged.
            subst (λ xs. Contains xs (CellFor from Told note.tag (head_cell note.head))) (sym late)
            (subst (Contains Late) (said tagged) (said_is_late (mail W.journal) M k.ends note.tag note.head k.among k.is));
      }

    not_zero : (source from : ℕ) → source ≡ 0 → source ≡ from → 1 ≤ from → ⊥
    not_zero source from zero same some = absurd (omega (arith, zero, same, some))

    pub sources_suit : (from : ℕ) (file : FileId) (stamp : Stamp) → SourceSuits along s A from file stamp
    sources_suit from file stamp note there source some = elim (on.announced events s least most file stamp note there) [
      | inl none ↦ absurd (not_zero note.source from none (eqb-true note.source from source) some)
      | inr k ↦ awaited file note from source k
    ]
