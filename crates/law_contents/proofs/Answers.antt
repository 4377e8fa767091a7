-- An answer about a body comes: what is so of the server behind its way in, and what of a version
-- that comes though it is covered.
use Rattle.std.proofs.Common.{ℕ, ◌≡◌, ◌≤◌, ◌&&◌, Bool, true, false, cond, not, nat_lt, List, [], ◌∷◌, ◌++◌, map, Some, refl, sym, ap, subst, ◌∙◌, arith}
use Rattle.std.proofs.lemmas.Bool.{and_parts, lt-ltb}
use Rattle.std.proofs.lemmas.List.{append-nil}
use Rattle.std.proofs.lemmas.List.Elements.{All-nil}
use Rattle.pg_run.specs.pg_announced.declared.announced.Announced.{Announced}
use Rattle.pg_run.specs.pg_announced.Announced.{NotesValue, key_at, note_at}
use Rattle.pg_run.specs.pg_base.declared.head.Head.{Head}
use Rattle.pg_run.specs.pg_base.declared.id.FileId.{FileId}
use Rattle.pg_run.specs.pg_base.declared.policy.Policy.{Policy}
use Rattle.pg_run.specs.pg_base.declared.stamp.Stamp.{Stamp}
use Rattle.pg_run.specs.pg_base.Id.{is_same_file}
use Rattle.pg_run.specs.pg_content.Content.{Among}
use Rattle.pg_run.specs.pg_content.History.{IsHistory, Made}
use Rattle.pg_run.proofs.pg_content.Numbers.{numbers_from_one}
use Rattle.pg_run.specs.pg_msg.declared.message.Ends.{Ends}
use Rattle.pg_run.specs.pg_msg.declared.message.Sent.{Sent}
use Rattle.pg_run.specs.pg_msg.declared.work.Work.{Work}
use Rattle.pg_run.specs.pg_msg.Work.{new_work}
use Rattle.pg_run.specs.pg_names.Names.{is_dir}
use Rattle.pg_run.specs.pg_pieces.declared.accepting.EdgeUse.TheVariants as manner
use Rattle.pg_run.specs.pg_pieces.Accepting.{accept, is_accepted, is_current, meets}
use Rattle.pg_run.specs.pg_pieces.Done.{Done, idle}
use Rattle.pg_run.specs.pg_replica.declared.replica.Replica.{Replica}
use Rattle.pg_run.specs.Asking.{Asked}
use Rattle.pg_run.specs.Journal.{Born, made_for, with_ancestors}
use Rattle.pg_run.specs.Took.{Take, take_of}
use Rattle.pg_run.specs.Took.Take.{TookVersion}
use Rattle.pg_run.proofs.Sends.{accept_fine}
use Rattle.pg_run.specs.pg_store.declared.store.Store.{Store}
use Rattle.pg_run.specs.pg_store.Births.{has_birth}
use Rattle.pg_run.specs.pg_store.Links.{knows_later}
use Rattle.pg_run.specs.pg_store.Store.{replica_at}
use Rattle.pg_run.specs.theory_bodies.Asked.{AreAgreed}
use Rattle.pg_run.specs.theory_bodies.Book.{IsBook, IsHeadOf}
use Rattle.pg_run.proofs.theory_bodies.Books.{one_head}
use Rattle.law_contents.proofs.Agreed.{Agrees}
use Rattle.law_contents.proofs.Arrivals.{Arrives, more_came, quiet_arrives}
use Rattle.law_contents.proofs.Handlers.{accept_quiet}
use Rattle.law_contents.proofs.NotesCome.{noted_of}
use Rattle.law_contents.proofs.Quiet.{Quiet, quiet_idle}
use Rattle.law_contents.proofs.Servers.{Came, IsServer, Stands, stands_kept, stands_same}
use Rattle.law_contents.proofs.Taken.{IsFrame, again_stands, born_there, some_behind}
use Rattle.law_contents.proofs.Takes.{none_joined}
use Rattle.law_contents.proofs.Transfer.{book}

-- no version of a history has the number 0
pub number_some : (policy : Policy) (h : List Made) → IsHistory h → (head : Head)
    → IsHeadOf policy h head → nat_lt 0 head.number ≡ true
number_some policy h history head is =
    let P : Head → Type 0 = (λ x. 1 ≤ x.number) in
    let one : 1 ≤ head.number = subst P (sym is.whole) (numbers_from_one h history is.made is.among) in
    lt-ltb 0 head.number (omega arith)

module _ {s : ℕ} {a : Store} {us : List Born} {p : FileId → Policy} {N : FileId → Type 0}
    {came : Came} (k : IsServer s a us p N came) (from : ℕ) (ends : Ends) where
  abbrev pub work : Work
  work = new_work 0 from

  -- behind its way in
  abbrev pub Met : Done
  Met = accept a ends manner.Answers work

  pub met_quiet : Quiet us p N a work Met
  met_quiet = accept_quiet us p N a work ends manner.Answers

  pub met_from : Met.work.from ≡ from
  met_from =
      let Q : Sent → Type 0 = (λ m. Unit {0}) in
      (accept_fine Q (λ m is. tt) from a ends manner.Answers work
      (All-nil Q, All-nil Q, refl)).2

  pub met_stands : Stands s Met.store us p came
  met_stands = stands_kept k.stands Met.store met_quiet.keeps

  pub met_frame : IsFrame a Met.store N
  met_frame =
      let q = met_quiet.keeps in record {
        server = q.server;
        last = q.last;
        files = q.files;
        order = q.order;
        held = λ f c e. k.held f c (sym (q.each f) ∙ e);
      }

  -- the replica is here
  pub met_replica : is_accepted a from manner.Answers ends ≡ true
      → (x : Replica) × (replica_at Met.store ends.file ≡ Some x)
  met_replica accepted =
      let current = (and_parts (is_current a from ends) (meets a from manner.Answers ends) accepted).0 in
      let there = (and_parts (has_birth a ends.file ends.receiver)
      (not (knows_later a ends.file from ends.sender)) current).0 in
      let was = born_there (replica_at a ends.file) ends.receiver there in
      let now = some_behind (replica_at Met.store ends.file) (replica_at a ends.file) was.0 was.1
      (met_quiet.keeps.each ends.file) in
      (now.0, now.1)

  -- ---- what comes

  -- what a handler brings: what it made, and what the message carried
  abbrev pub Brings : Done → List Take → Type 0
  Brings d more = Arrives s a us p N came d (map take_of d.work.made ++ more)

  pub nothing_comes : Brings (idle Met.store Met.work) []
  nothing_comes = quiet_arrives k 0 from Met met_quiet [] (λ q. refl)

  -- the versions, if it is carried
  abbrev pub carry : Stamp → Bool → List Take
  carry stamp test = cond test (TookVersion ends.file stamp ∷ []) []

  pub is_book : IsBook (book us p)
  is_book = record { histories = k.made.histories; created = λ f m l. refl }

  module _ (head : Head) (is : IsHeadOf (p ends.file) (made_for ends.file us) head) where
    -- what is noted of it has the same head
    pub noted_head : (n : Announced)
        → note_at Met.store.announced (key_at ends.file head.stamp) ≡ Some n → n.head ≡ head
    noted_head n there =
        let note = met_stands.notes ends.file head.stamp n there in
        one_head (book us p) is_book ends.file n.head head note.head is note.at

    abbrev pub Taken : Type 0
    Taken = Among head.stamp (with_ancestors (made_for ends.file us) (came ends.file))

    -- it is covered: nothing changes
    pub again_comes : (x : Replica) → replica_at Met.store ends.file ≡ Some x → Taken
        → Brings (idle Met.store Met.work) (carry head.stamp true)
    again_comes x there taken =
        let first = nothing_comes in
        let takes = carry head.stamp true in
        let w = Met.work in
        record {
          server = first.server;
          last = first.last;
          files = first.files;
          order = first.order;
          held = first.held;
          stands = stands_same (again_stands k.made met_stands ends.file x there head is taken)
              (more_came (map take_of w.made ++ takes) came)
              (λ f. ap (λ (ts : List Stamp). ts ++ came f)
              (none_joined f (map take_of w.made) takes (met_quiet.takes f)
              ∙ append-nil (cond (is_same_file ends.file f) (head.stamp ∷ []) [])));
          none = first.none;
          sent = first.sent;
          tail = first.tail;
        }

    -- who was asked, as it stands behind the way in
    pub met_agreed : (wants : Asked) → Agrees a us came wants
        → AreAgreed Taken (wants ends.file head.stamp)
        (noted_of Met.store.announced ends.file head.stamp)
    met_agreed wants agrees =
        subst (λ (ns : NotesValue). AreAgreed Taken (wants ends.file head.stamp)
        (noted_of ns ends.file head.stamp)) (sym met_quiet.keeps.notes)
        (agrees ends.file head.stamp)

  -- where the message is accepted, and of a file
  module _ (stamp : Stamp) (d : Done) (test : Bool)
      (h : is_accepted a from manner.Answers ends ≡ true → Brings d (carry stamp test)) where
    answer_by : (dir accepted : Bool) → is_accepted a from manner.Answers ends ≡ accepted
        → Brings (cond dir (idle a work) (cond accepted d Met))
        (carry stamp ((not dir && accepted) && test))
    answer_by true accepted e = quiet_arrives k 0 from (idle a work) (quiet_idle us p N a work) [] (λ q. refl)
    answer_by false true e = h e
    answer_by false false e = nothing_comes

    pub answered : Brings
        (cond (is_dir ends.file) (idle a work) (cond (is_accepted a from manner.Answers ends) d Met))
        (carry stamp ((not (is_dir ends.file) && is_accepted a from manner.Answers ends) && test))
    answered = answer_by (is_dir ends.file) (is_accepted a from manner.Answers ends) refl
