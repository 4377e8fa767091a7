-- Who is asked for a version announced it to this server, under the tag that is noted.
use Rattle.std.proofs.Common.{ℕ, ◌≡◌, ◌<◌, ◌⊎◌, ◌^◌, List, [], ◌++◌, Option, None, Some, option_map, inl, inr, refl, sym, ap, subst, ◌∙◌}
use Rattle.std.specs.Prelude.{Contains}
use Rattle.std.proofs.lemmas.List.Elements.{All-contains, Contains-append_right}
use Rattle.pg_run.specs.pg_announced.declared.announced.Announced.{Announced}
use Rattle.pg_run.specs.pg_announced.Announced.{key_at, note_at}
use Rattle.pg_run.specs.pg_base.declared.head.Head.{Head}
use Rattle.pg_run.specs.pg_base.declared.id.FileId.{FileId}
use Rattle.pg_run.specs.pg_base.declared.policy.Policy.{Policy}
use Rattle.pg_run.specs.pg_base.declared.stamp.Stamp.{Stamp}
use Rattle.pg_run.specs.pg_event.declared.entry.VoidCause.{VoidCause}
use Rattle.pg_run.specs.pg_event.declared.event.Event.{Event}
use Rattle.pg_run.specs.pg_msg.declared.message.Message.{Message}
use Rattle.pg_run.specs.pg_msg.declared.message.Message.TheVariants as message
use Rattle.pg_run.specs.pg_msg.declared.message.Sent.{Sent}
use Rattle.pg_run.specs.Journal.{Born, mail}
use Rattle.pg_run.specs.Noted.{IsAnnounced, SourcesAnnounced}
use Rattle.pg_run.specs.Run.{Taking, World, effect_step, idle_step, run, start, taking_in, world_after}
use Rattle.pg_run.proofs.Frame.{Acts, HasCome, holds_in_runs, no_server_comes}
use Rattle.pg_run.specs.pg_server.declared.input.Input.{Input}
use Rattle.pg_run.specs.pg_server.declared.input.Input.TheVariants as input
use Rattle.pg_run.specs.pg_server.Local.{effect}
use Rattle.pg_run.specs.pg_store.declared.store.Store.{Store}
use Rattle.pg_run.specs.theory_bodies.Book.{IsBook}
use Rattle.pg_run.specs.theory_bodies.Protocol.{IsAsked, IsNoteIn, Note}
use Rattle.pg_run.specs.theory_bodies.Telling.{Telling}
use Rattle.pg_run.specs.theory_bodies.Telling.Telling.{Announces, Gives, Silent}
use Rattle.pg_run.proofs.theory_bodies.Notes.{note_holds}
use Rattle.law_contents.specs.Together.{StandOn}
use Rattle.law_contents.proofs.AsksInputs.{CarriesInput}
use Rattle.law_contents.proofs.Carrying.{policies}
use Rattle.law_contents.proofs.NotesCome.{noted_by, noted_of}
use Rattle.law_contents.proofs.Followed.{notes_follow, telling, telling_in, telling_true}
use Rattle.law_contents.proofs.Runs.{run_sound, server_now}
use Rattle.law_contents.proofs.Sending.{AllCarry, CarriesSent}
use Rattle.law_contents.proofs.Servers.{Came, IsServer, note_of}
use Rattle.law_contents.proofs.Transfer.{book}
use Rattle.law_contents.proofs.Wanted.{wanted_run}
use Rattle.law_contents.proofs.Worlds.{IsNamed, by_server}

-- ---- what the mail has

-- the harbinger that a message is
abbrev tells_by : ℕ → ℕ → Message → Telling
tells_by from to (message.Harbinger ends tag head) = Announces from to ends.file tag head
tells_by from to _ = Silent

abbrev tells : Sent → Telling
tells m = tells_by m.packet.from m.to m.packet.message

-- it has a message that tells this
abbrev Was : List Sent → Telling → Type 0
Was ms t = (m : Sent) × Contains ms m × (tells m ≡ t)

-- of each version that is noted nobody is asked, or who is asked announced it
abbrev AreKnown : List Sent → ℕ → Store → Type 0
AreKnown ms s a = (file : FileId) (stamp : Stamp) (n : Announced)
    → note_at a.announced (key_at file stamp) ≡ Some n → IsAsked (Was ms) s file (note_of n)

was_later : (new ms : List Sent) (s : ℕ) (file : FileId) (n : Note) → IsAsked (Was ms) s file n
    → IsAsked (Was (new ++ ms)) s file n
was_later new ms s file n asked = elim asked [
  | inl nobody ↦ inl nobody
  | inr was ↦ inr (was.0, Contains-append_right new ms was.0 was.1, was.2)
]

-- ---- what came is such a message

same_announced : (from to : ℕ) (m : Message) (f t : ℕ) (file : FileId) (tag : ℕ) (head : Head)
    → telling_in from to m ≡ Announces f t file tag head
    → tells_by from to m ≡ Announces f t file tag head
same_announced from to (message.Harbinger ends tag_of head_of) f t file tag head e = e
same_announced from to (message.Piece ends q) f t file tag head e =
    absurd (let z : Gives from ends.file q.head q.offset q.bytes ≡ Announces f t file tag head = e
    in cc)
same_announced from to m f t file tag head e = e

silent_no : (f t : ℕ) (file : FileId) (tag : ℕ) (head : Head) → Silent ≡ Announces f t file tag head
    → ⊥
silent_no f t file tag head e = cc

said : (w : World) (s : ℕ) (asked : Input) → HasCome w s asked → (from tag : ℕ) (head : Head)
    (file : FileId) → telling s asked ≡ Announces from s file tag head
    → Was (mail w.journal) (Announces from s file tag head)
said w s (input.Arrival packet) come from tag head file e = (
  record { to = s; packet = packet },
  come,
  same_announced packet.from s packet.message from s file tag head e,
)
said w s asked come from tag head file e = absurd (silent_no from s file tag head e)

-- it carries what is so
pub carries_input : (us : List Born) (p : FileId → Policy) (N : FileId → Type 0) (w : World) (s : ℕ)
    (asked : Input) → AllCarry us p N (mail w.journal) → HasCome w s asked
    → CarriesInput us p N asked
carries_input us p N w s (input.Arrival packet) all come =
    All-contains (CarriesSent us p N) (mail w.journal) (record { to = s; packet = packet }) all come
carries_input us p N w s asked all come = tt

-- ---- one event

module _ {s : ℕ} {a : Store} {us : List Born} {p : FileId → Policy} {N : FileId → Type 0}
    {came : Came} (k : IsServer s a us p N came) (w : World) (known : AreKnown (mail w.journal) s a)
    (asked : Input) (h : CarriesInput us p N asked) (come : HasCome w s asked) where
  abbrev ms : List Sent
  ms = mail w.journal

  is_book : IsBook (book us p)
  is_book = record { histories = k.made.histories; created = λ f m l. refl }

  known_behind : AreKnown ms s (effect a asked).store
  known_behind file stamp n there =
      (note_holds (book us p) is_book file (Was ms) s (telling s asked)
      (telling_true us p N s asked h) (λ from tag head e. said w s asked come from tag head file e) stamp
      (noted_of a.announced file stamp) before (note_of n)
      (notes_follow k asked file stamp (note_of n) (ap (option_map note_of) there))).1
    where
      before : (m : Note) → noted_of a.announced file stamp ≡ Some m
          → IsNoteIn (book us p) file stamp m × IsAsked (Was ms) s file m
      before m e =
          let f = noted_by (note_at a.announced (key_at file stamp)) m e in
          let P : Note → Type 0 =
          (λ x. IsNoteIn (book us p) file stamp x × IsAsked (Was ms) s file x) in
          subst P (sym f.2) (k.stands.notes file stamp f.0 f.1, known file stamp f.0 f.1)

-- ---- all events

abbrev Known : World → Type 0
Known w = (s : ℕ) → AreKnown (mail w.journal) s (w.stores s)

known_start : (n : ℕ) → Known (start n)
known_start n s file stamp note there =
    absurd (let z : None ≡ Some note = there in cc)

known_idle : (w : World) (e : Event) (cause : Option VoidCause) → Known w
    → Known (world_after w (idle_step w e cause))
known_idle w e cause known = known

module _ (n : ℕ) (small : n < 2 ^ 32) (stand : StandOn n) where
  acted : (events : List Event) (e : Event) (t : Taking) → taking_in n (run n events) e ≡ Some t
      → Acts n (run n events) t → Known (run n events)
      → Known (world_after (run n events) (effect_step (run n events) e t.server t.asked))
  acted events e t taken acts known =
      let w = run n events in
      let k = run_sound n small stand events in
      let s = t.server in
      let ms = mail w.journal in
      let done = effect (w.stores s) t.asked in
      let here = server_now n small w (stand.both events)
      (wanted_run n stand.named stand.intends events) k e s t.asked acts.least acts.most in
      let h = carries_input w.history (policies w.journal) (IsNamed w.stores) w s t.asked
      k.carried acts.came in
      by_server (λ j c ts. AreKnown (done.out.sent ++ ms) j c) w.stores w.took s done.store []
      (λ file stamp note there. was_later done.out.sent ms s file (note_of note)
      (known_behind here w (known s) t.asked h acts.came file stamp note there))
      (λ j other file stamp note there. was_later done.out.sent ms j file (note_of note)
      (known j file stamp note there))

  known_run : (events : List Event) → Known (run n events)
  known_run events =
      holds_in_runs n Known (record {
        first = known_start n;
        idle = known_idle;
        comes = λ past event server is k. absurd (no_server_comes event server is);
        acts = acted;
      }) events

-- ---- the harbinger

module _ (f g t s tag other : ℕ) (file file_of : FileId) (head head_of : Head)
    (e : Announces f t file tag head ≡ Announces g s file_of other head_of) where
  from_is : f ≡ g
  from_is = cc

  to_is : t ≡ s
  to_is = cc

  file_is : file ≡ file_of
  file_is = cc

  tag_is : tag ≡ other
  tag_is = cc

  head_is : head ≡ head_of
  head_is = cc

module _ (ms : List Sent) (s : ℕ) (file : FileId) (n : Announced) (m : Sent) (there : Contains ms m)
  where
    announced_in : (said_so : Message) → m.packet.message ≡ said_so
        → tells_by m.packet.from m.to said_so ≡ Announces n.source s file n.tag n.head
        → IsAnnounced ms s file n
    announced_in (message.Harbinger ends tag head) is e =
        let f = m.packet.from in
        record {
          sent = m;
          among = there;
          to = to_is f n.source m.to s tag n.tag ends.file file head n.head e;
          from = from_is f n.source m.to s tag n.tag ends.file file head n.head e;
          ends = ends;
          is = is ∙ (λ i. message.Harbinger ends
              (tag_is f n.source m.to s tag n.tag ends.file file head n.head e i)
              (head_is f n.source m.to s tag n.tag ends.file file head n.head e i));
          of = file_is f n.source m.to s tag n.tag ends.file file head n.head e;
        }
    announced_in said_so is e = absurd (silent_no n.source s file n.tag n.head e)

-- WHO IS ASKED ANNOUNCED IT
announced_by : (ms : List Sent) (s : ℕ) (file : FileId) (n : Announced)
    → IsAsked (Was ms) s file (note_of n) → (n.source ≡ 0) ⊎ IsAnnounced ms s file n
announced_by ms s file n asked = elim asked [
  | inl nobody ↦ inl nobody
  | inr was ↦ inr (announced_in ms s file n was.0 was.1 was.0.packet.message refl was.2)
]

pub sources_announced : (n : ℕ) → n < 2 ^ 32 → StandOn n → SourcesAnnounced n
sources_announced n small stand events s least most file stamp note there =
    announced_by (mail (run n events).journal) s file note
    (known_run n small stand events s file stamp note there)
