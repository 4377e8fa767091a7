-- Each event keeps the rule of the edges, with what was taken; so it is kept along every run.
use Rattle.std.proofs.Common.{ℕ, ◌≡◌, Bool, true, false, cond, List, [], ◌∷◌, Option, None, Some, refl, sym, ap, subst, ◌∙◌, inl, inr, ◌⊎◌}
use Rattle.std.specs.Prelude.{Contains}
use Rattle.std.proofs.lemmas.Bool.{and_from}
use Rattle.pg_run.specs.pg_base.declared.head.Head.{Head}
use Rattle.pg_run.specs.pg_base.declared.id.FileId.{FileId}
use Rattle.pg_run.specs.pg_base.Id.{is_same_file}
use Rattle.pg_run.proofs.pg_base.Orders.{is_same_file-true}
use Rattle.pg_run.specs.pg_pieces.Accepting.{is_current}
use Rattle.pg_run.specs.pg_cells.Cells.{fits}
use Rattle.pg_run.specs.pg_content.Content.{Among}
use Rattle.pg_run.specs.pg_edges.declared.key.Key.{Key}
use Rattle.pg_run.specs.pg_entries.declared.cell.Cell.{Cell}
use Rattle.pg_run.specs.pg_entries.declared.cell.Cell.TheVariants as cell
use Rattle.pg_run.specs.pg_event.declared.event.Event.{Event}
use Rattle.pg_run.specs.theory_flood.Promises.{Saying}
use Rattle.pg_run.specs.theory_flood.Promises.Saying.{AckTo, CellFor, Other}
use Rattle.pg_run.specs.theory_flood.Noting.{SaidIn, noting}
use Rattle.pg_run.specs.theory_flood.Rule.{Rule}
use Rattle.pg_run.specs.theory_flood.Server.{HoldsThere, Slot}
use Rattle.pg_run.proofs.theory_flood.Late.{wider}
use Rattle.pg_run.proofs.theory_flood.Taken.{taking_rule}
use Rattle.pg_run.specs.pg_msg.declared.message.Ends.{Ends}
use Rattle.pg_run.specs.pg_msg.declared.message.Message.{Message}
use Rattle.pg_run.specs.pg_msg.declared.message.Message.TheVariants as message
use Rattle.pg_run.specs.pg_msg.declared.message.Packet.{Packet}
use Rattle.pg_run.specs.pg_msg.declared.message.Sent.{Sent}
use Rattle.pg_run.specs.theory_flood_pieces.Seen.{answering, plain, says, saying, see}
use Rattle.pg_run.specs.theory_flood_pieces.UpTo.{IsUpTo}
use Rattle.pg_run.proofs.theory_flood_pieces.Choices.{decided}
use Rattle.pg_run.proofs.theory_flood_pieces.Sending.{harbinger_says, no_answer}
use Rattle.pg_run.specs.pg_server.declared.input.Input.{Input}
use Rattle.pg_run.specs.pg_server.Local.{effect, takes_effect}
use Rattle.pg_run.specs.pg_store.declared.store.Store.{Store}
use Rattle.pg_run.specs.pg_store.Births.{is_over}
use Rattle.pg_run.specs.pg_store.Together.{BirthsMove}
use Rattle.pg_run.proofs.pg_store.Over.{over_stays, over_tested}
use Rattle.pg_run.specs.Carried.{came, carried, gone_in}
use Rattle.pg_run.specs.Going.{Hears, sent_in}
use Rattle.pg_run.specs.Laws.{TakesIn}
use Rattle.pg_run.specs.Passed.{passed, passed_with}
use Rattle.pg_run.specs.Asking.{Asked}
use Rattle.pg_run.specs.Journal.{mail}
use Rattle.pg_run.specs.Ruled.{heard_in, late_in}
use Rattle.pg_run.specs.Run.{World, brought, made_behind, made_takes, removed_then, run, took_after, took_first}
use Rattle.pg_run.specs.Took.{Take, takes_in, without_gone}
use Rattle.pg_run.proofs.Frame.{acts_is}
use Rattle.pg_run.proofs.Late.{late_in_mail, late_told}
use Rattle.pg_run.proofs.Lists.{among_back, among_front}
use Rattle.law_leaving.specs.Answers.{AnswersAreToAccepted, IsBodyOf, IsCellOf, IsHarbingerOf}
use Rattle.law_leaving.specs.Premises.{StandOn}
use Rattle.law_leaving.specs.Taken.{IsTaken, Site, site, taking}
use Rattle.law_leaving.proofs.Behind.{behind_is, over_not}
use Rattle.law_leaving.proofs.Flags.{seen_born}
use Rattle.law_leaving.proofs.Taken.{AllAmong, TakesOn, all_on, brings, more_on, on_then, other_on, taken_on}

-- ---- of messages

-- who answers a cell sends this
ack_said : (from to : ℕ) (m : Message) (o : ℕ) (q : Slot) (g : ℕ) → saying from to m ≡ AckTo o q g
    → (ends : Ends) × (k : Key) × (tag : ℕ) × (m ≡ message.Ack ends k tag)
ack_said from to (message.Cell ends tag c) o q g is = absurd (let x = is in cc)
ack_said from to (message.Ack ends k tag) o q g is = (ends, k, tag, refl)
ack_said from to (message.Harbinger ends tag head) o q g is = absurd (no_answer from to ends tag head o q g is)
ack_said from to _ o q g is = absurd (let x : ◌≡◌ {A = Saying Slot Cell} Other (AckTo o q g) = is in cc)

-- what a saying tells of
abbrev file_said : FileId → Saying Slot Cell → FileId
file_said other (CellFor o q g c) = q.file
file_said other _ = other

abbrev cell_said : Cell → Saying Slot Cell → Cell
cell_said other (CellFor o q g c) = c
cell_said other _ = other

none_said : {A : Type 0} (o : ℕ) (r : Slot) (g : ℕ) (c : Cell) → ◌≡◌ {A = Saying Slot Cell} Other (CellFor o r g c) → A
none_said o r g c is = absurd (let x : ◌≡◌ {A = Saying Slot Cell} Other (CellFor o r g c) = is in cc)

plain_taken : (takes : List Take) (file : FileId) (c : Cell) → IsTaken takes file c → IsTaken takes file (plain c)
plain_taken takes file (cell.Place p) h = h
plain_taken takes file (cell.Flag f) h = h
plain_taken takes file (cell.Entry e sure) h = h
plain_taken takes file (cell.Version v) h = h

-- ---- one event

module _ (n : ℕ) (on : StandOn n) (answers : AnswersAreToAccepted n) (events : List Event) (event : Event) (s : ℕ) (asked : Input)
    (is : TakesIn n (run n events) event s asked) where
  abbrev W : World
  W = run n events

  abbrev A : Store
  A = W.stores s

  abbrev B : Store
  B = (effect A asked).store

  abbrev V : Asked
  V = W.asked s

  abbrev T : List Take
  T = W.took s

  abbrev U : List Take
  U = took_after A V T asked

  -- what was taken where the input takes effect
  abbrev Passed : List Take
  Passed = passed_with (removed_then A asked) (passed (removed_then A asked) (took_first A V T asked)) (made_behind A asked)

  abbrev Next : Site
  Next = record { store = B; took = U }

  -- what may be answered late
  abbrev pub Late : List (Saying Slot Cell)
  Late = late_in (mail W.journal)

  moves : BirthsMove A B
  moves =
      let acts = acts_is n W event (record { server = s; asked = asked }) is in
      subst (BirthsMove A) (behind_is n events event s asked is) (on.births.on events (event ∷ []) s acts.least acts.most)

  stays_over : (file : FileId) (birth : ℕ) → is_over A file birth ≡ true → is_over B file birth ≡ true
  stays_over file birth h = (over_tested B file birth).1 (over_stays A B file birth moves ((over_tested A file birth).0 h))

  -- ---- what was taken stays so

  apart_on : (file g : FileId) (t : Bool) → is_same_file file g ≡ t → (◌≡◌ {A = Option FileId} (Some g) (Some file) → ⊥)
      → TakesOn file T (without_gone (Some g) T)
  apart_on file g true same apart = absurd (apart (ap (λ f. Some f) (sym (is_same_file-true file g same))))
  apart_on file g false other apart = other_on file g T other

  left_on : (file : FileId) (o : Option FileId) → (o ≡ Some file → ⊥) → TakesOn file T (without_gone o T)
  left_on file None apart = more_on file T T (λ t k. k)
  left_on file (Some g) apart = apart_on file g (is_same_file file g) refl apart

  took_on : (file : FileId) → (takes_effect A asked ≡ true → gone_in A asked ≡ Some file → ⊥) → TakesOn file T U
  took_on file apart =
      decided (TakesOn file T) (takes_effect A asked) Passed T
      (λ going.
      let left = without_gone (gone_in A asked) T in
      let first = took_first A V T asked in
      on_then file T left Passed (left_on file (gone_in A asked) (apart going))
      (on_then file left first Passed (more_on file left first (λ t k. among_back t (brought A V asked) left k))
      (more_on file first Passed (all_on (removed_then A asked) first (made_behind A asked)))))
      (λ still. more_on file T T (λ t k. k))

  stays : (r : Slot) (c : Cell) → HoldsThere IsUpTo (see A) r c → HoldsThere IsUpTo (see B) r c → IsTaken T r.file c
      → IsTaken U r.file c
  stays r c before behind taken =
      taken_on r.file T U c
      (took_on r.file (λ going gone.
      over_not B r.file r.birth
      (on.events.over events event s asked is r.file r.birth going gone (seen_born A r.file before.replica r.birth before.is before.other))
      (seen_born B r.file behind.replica r.birth behind.is behind.other))) taken

  -- ---- what is answered was taken

  module _ (packet : Packet) (hears : Hears A asked packet) (there : Ends) (current : is_current A packet.from there ≡ true) where
    -- a cell
    module _ (tag : ℕ) (held : Cell) (cell_is : packet.message ≡ message.Cell there tag held) (fit : fits there.file held ≡ true) where
      came_is : came A V asked ≡ takes_in there.file held
      came_is =
          let t = is_current A packet.from there in
          let u = fits there.file held in
          ap (came A V) hears.is ∙ ap (carried A V packet.from) cell_is
          ∙ ap (λ z. cond z (takes_in there.file held) []) (and_from t u current fit)

      cell_among : AllAmong (takes_in there.file held) U
      cell_among t h =
          let first = took_first A V T asked in
          let left = without_gone (gone_in A asked) T in
          let made = made_takes A asked in
          let come : Among t (came A V asked) = subst (λ ts. Among t ts) (sym came_is) h in
          let first_among : Among t first = among_front t (brought A V asked) left (among_back t made (came A V asked) come) in
          subst (λ z. Among t (cond z Passed T)) (sym hears.heard) (all_on (removed_then A asked) first (made_behind A asked) t first_among)

      cell_heard : heard_in s asked ≡ saying packet.from s (message.Cell there tag held)
      cell_heard = ap (heard_in s) hears.is ∙ ap (saying packet.from s) cell_is

      cell_taken : (o : ℕ) (r : Slot) (g : ℕ) (c : Cell) → heard_in s asked ≡ CellFor o r g c → IsTaken U r.file c
      cell_taken o r g c heard =
          let same = sym cell_heard ∙ heard in
          let P : FileId → Type 0 = (λ f. IsTaken U f (plain held)) in
          let Q : Cell → Type 0 = (λ d. IsTaken U r.file d) in
          subst Q (ap (cell_said c) same)
          (subst P (ap (file_said r.file) same) (plain_taken U there.file held (brings there.file U held cell_among)))

    -- what is said of a version asks for nothing
    told_taken : (m : Message) → packet.message ≡ m
        → ((o : ℕ) (r : Slot) (g : ℕ) (c : Cell) → saying packet.from s m ≡ CellFor o r g c → IsTaken U r.file c)
        → (o : ℕ) (r : Slot) (g : ℕ) (c : Cell) → heard_in s asked ≡ CellFor o r g c → IsTaken U r.file c
    told_taken m is each o r g c heard = each o r g c (sym (ap (heard_in s) hears.is ∙ ap (saying packet.from s) is) ∙ heard)

    harbinger_taken : (tag : ℕ) (head : Head) (o : ℕ) (r : Slot) (g : ℕ) (c : Cell)
        → saying packet.from s (message.Harbinger there tag head) ≡ CellFor o r g c → IsTaken U r.file c
    harbinger_taken tag head o r g c is =
        harbinger_says (λ z. z ≡ CellFor o r g c → IsTaken U r.file c) packet.from s there head tag
        (λ same. subst (λ (d : Cell). IsTaken U r.file d) (ap (cell_said c) same) tt)
        (λ same. none_said o r g c same) is

    then_taken : IsCellOf packet there ⊎ (IsHarbingerOf packet there ⊎ IsBodyOf A packet there)
        → (o : ℕ) (r : Slot) (g : ℕ) (c : Cell) → heard_in s asked ≡ CellFor o r g c → IsTaken U r.file c
    then_taken (inl k) = cell_taken k.0 k.1 k.2 k.3
    then_taken (inr (inl k)) = told_taken (message.Harbinger there k.0 k.1) k.2 (harbinger_taken k.0 k.1)
    then_taken (inr (inr k)) = elim k.0 [
      | inl d ↦ told_taken (message.Delta there d.0) d.1 (λ o r g c same. none_said o r g c same)
      | inr p ↦ told_taken (message.Piece there p.0) p.1 (λ o r g c same. none_said o r g c same)
    ]

  answered : (m : Sent) (o : ℕ) (named r : Slot) (g : ℕ) (c : Cell) → Contains (sent_in A asked) m → says m ≡ AckTo o named g
      → (heard_in s asked ≡ CellFor o r g c) ⊎ Contains Late (CellFor o r g c) → IsTaken U r.file c
  answered m o named r g c among ack (inl heard) =
      let a = ack_said m.packet.from m.to m.packet.message o named g ack in
      let k = (answers events event s asked is m a.0 a.1 a.2 among a.3).1 in
      then_taken k.packet k.hears k.there k.current k.kind o r g c heard
  answered m o named r g c among ack (inr noted) =
      let t = late_told (mail W.journal) o r g c noted in
      subst (λ (d : Cell). IsTaken U r.file d) t.1 tt

  rule : Rule (noting taking (λ x. Contains Late x)) s (site W s) Next (heard_in s asked) (sent_in A asked)
  rule =
      taking_rule (answering Late) (λ (a : Site). a.store) (λ (a : Site) file birth c. IsTaken a.took file c) (λ a file birth c. tt)
      s (site W s) Next (heard_in s asked) (sent_in A asked) (on.events.acts events event s asked is)
      (record {
        over = λ r c h. stays_over r.file r.birth h;
        stays = stays;
        answers = λ m o named r g c among ack heard there. answered m o named r g c among ack heard;
      })

  -- by the rule that answers whatever was said
  pub late_rule : Rule (noting taking (SaidIn taking (mail W.journal))) s (site W s) Next (heard_in s asked) (sent_in A asked)
  late_rule =
      wider taking (λ x. Contains Late x) (SaidIn taking (mail W.journal)) s (site W s) Next (heard_in s asked) (sent_in A asked)
      (late_in_mail (mail W.journal)) rule
