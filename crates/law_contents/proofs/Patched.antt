-- A body comes as a change of what heads show: the version is taken that this makes, or its body is
-- asked for anew.
use Rattle.std.proofs.Common.{ℕ, ◌≡◌, ◌≢◌, ◌≤◌, ◌&&◌, ◌==◌, ltb, Bool, true, false, not, cond, List, [], ◌∷◌, ◌++◌, map, Option, None, Some, option_map, refl, sym, ap, subst, ◌∙◌, inl, inr, arith}
use Rattle.std.proofs.lemmas.Bool.{and_from, and_parts}
use Rattle.std.proofs.lemmas.Bool.Decides.{Decides-eqb, nat_tests}
use Rattle.pg_run.specs.pg_announced.declared.announced.Announced.{Announced}
use Rattle.pg_run.specs.pg_announced.Announced.{change_note, emptied, is_asked_of as is_noted_of, key_at}
use Rattle.pg_run.proofs.pg_announced.Sorted.{sorted_change}
use Rattle.pg_run.specs.pg_base.declared.head.Head.{Head}
use Rattle.pg_run.specs.pg_base.declared.id.FileId.{FileId}
use Rattle.pg_run.specs.pg_base.declared.policy.Policy.{Policy}
use Rattle.pg_run.specs.pg_base.declared.stamp.Stamp.{Stamp}
use Rattle.pg_run.specs.pg_content.Content.{Among, ContentValue, next_length}
use Rattle.pg_run.specs.pg_content.History.{Made, number_of}
use Rattle.pg_run.proofs.pg_content.Numbers.{numbers_from_one}
use Rattle.pg_run.specs.pg_delta.Chain.{are_same_stamps}
use Rattle.pg_run.specs.pg_delta.Leading.{IsTrueDelta}
use Rattle.pg_run.specs.pg_delta.Taking.{delta_to, patched_version, stamps_of}
use Rattle.pg_run.proofs.pg_delta.Chains.{same_stamps}
use Rattle.pg_run.specs.pg_msg.declared.message.Delta.{Delta}
use Rattle.pg_run.specs.pg_msg.declared.message.Ends.{Ends}
use Rattle.pg_run.specs.pg_msg.declared.message.Message.TheVariants as message
use Rattle.pg_run.specs.pg_msg.declared.work.Work.{Work}
use Rattle.pg_run.specs.pg_msg.Work.{new_work}
use Rattle.pg_run.specs.pg_names.Names.{is_dir}
use Rattle.pg_run.specs.pg_pieces.declared.accepting.EdgeUse.TheVariants as manner
use Rattle.pg_run.specs.pg_pieces.Accepting.{accept, is_accepted}
use Rattle.pg_run.specs.pg_pieces.Done.{Done, idle}
use Rattle.pg_run.specs.pg_replica.declared.replica.Replica.{Replica}
use Rattle.pg_run.specs.pg_replica.Replicas.{or_nothing}
use Rattle.pg_run.specs.Asking.{Asked, is_asked_of}
use Rattle.pg_run.specs.Carried.{delta_carried}
use Rattle.pg_run.specs.Journal.{Born, made_for, with_ancestors}
use Rattle.pg_run.specs.Took.{Take, take_of}
use Rattle.pg_run.specs.Took.Take.{TookVersion}
use Rattle.pg_run.specs.pg_server.Local.{receive}
use Rattle.pg_run.specs.pg_server.pg_transfer.Asking.{ask, noted}
use Rattle.pg_run.specs.pg_server.pg_transfer.Delta.{changed, changed_along, changed_by, made_at, made_by, patched, refused, serves}
use Rattle.pg_run.specs.pg_store.declared.store.Store.{Store}
use Rattle.pg_run.specs.pg_store.Store.{content_of, replica_at}
use Rattle.pg_run.specs.theory_bodies.Asked.{Asking}
use Rattle.pg_run.specs.theory_bodies.Book.{IsBook, IsVersionOf}
use Rattle.pg_run.specs.theory_bodies.Protocol.{Holding, IsHoldingIn, IsNoteOf, Note}
use Rattle.pg_run.specs.theory_bodies.Telling.Telling.{Silent}
use Rattle.pg_run.proofs.theory_bodies.Books.{one_head}
use Rattle.pg_run.proofs.theory_bodies.Holdings.{patched_is, patched_long}
use Rattle.law_contents.proofs.Accepted.{accepted_there, answers_idle}
use Rattle.law_contents.proofs.Agreed.{Agrees}
use Rattle.law_contents.proofs.Arrivals.{Arrives, quiet_arrives}
use Rattle.law_contents.proofs.Carrying.{Carries}
use Rattle.law_contents.proofs.Changes.{core_of}
use Rattle.law_contents.proofs.Files.{held_version}
use Rattle.law_contents.proofs.Handlers.{accept_quiet}
use Rattle.law_contents.proofs.NotesCome.{emptied_comes, noted_by}
use Rattle.law_contents.proofs.PatchTaken.{again_comes, patched_comes}
use Rattle.law_contents.proofs.Quiet.{Quiet, quiet_idle}
use Rattle.law_contents.proofs.Servers.{Came, IsServer, file_held, note_of}
use Rattle.law_contents.proofs.Transfer.{asked_quiet, book, noting}

-- who was asked, where somebody was
asked_some : (o : Option Asking) (from : ℕ) → is_asked_of from o ≡ true
    → (t : Asking) × (o ≡ Some t) × (t.target ≡ from)
asked_some None from h = absurd (let z : false ≡ true = h in cc)
asked_some (Some t) from h = (t, refl, (Decides-eqb t.target from).0 h)

some_number : (n m : ℕ) → n ≡ m → 1 ≤ m → ltb 0 n ≡ true
some_number n m same one = grind (arith, nat_tests)

module _ {s : ℕ} {a : Store} {us : List Born} {p : FileId → Policy} {N : FileId → Type 0}
    {came : Came} (k : IsServer s a us p N came) (from : ℕ) (some : from ≢ 0)
    (wants : Asked) (agrees : Agrees a us came wants) (ends : Ends) (d : Delta)
    (h : Carries us p N (message.Delta ends d)) where
  abbrev work : Work
  work = new_work 0 from

  abbrev file : FileId
  file = ends.file

  abbrev stamp : Stamp
  stamp = d.head.stamp

  abbrev history : List Made
  history = made_for file us

  -- what a handler brings: what it made, and what came
  abbrev Brings : Done → List Take → Type 0
  Brings e more = Arrives s a us p N came e (map take_of e.work.made ++ more)

  abbrev Version : List Take
  Version = TookVersion file stamp ∷ []

  quiet : (e : Done) → Quiet us p N a work e → Brings e []
  quiet e q = quiet_arrives k 0 from e q [] (λ f. refl)

  nothing : Brings (idle a work) []
  nothing = quiet (idle a work) (quiet_idle us p N a work)

  is_book : IsBook (book us p)
  is_book = record { histories = k.made.histories; created = λ f m l. refl }

  module _ (x : Replica) (there : replica_at a file ≡ Some x) where
    abbrev c : ContentValue
    c = x.content

    pub shown : content_of a file ≡ c
    shown = ap (λ (o : Option Replica). (or_nothing o).content) there

    abbrev pub is_carried : Bool
    is_carried = is_asked_of from (wants file stamp)
        && are_same_stamps (stamps_of (content_of a file)) d.from

    abbrev Carried : List Take
    Carried = cond is_carried Version []

    -- ---- nothing is done

    -- no note asks the sender for it
    abbrev pub IsUnasked : Type 0
    IsUnasked = (n : Announced) → noted a file stamp ≡ Some n → n.source ≡ from → ⊥

    -- so a version that is carried was taken already
    pub carried_taken : IsUnasked → is_carried ≡ true
        → Among stamp (with_ancestors history (came file))
    carried_taken unasked e =
        let asked = asked_some (wants file stamp) from (and_parts (is_asked_of from (wants file stamp))
        (are_same_stamps (stamps_of (content_of a file)) d.from) e).0 in
        elim ((agrees file stamp).asks asked.0 asked.1) [
          | inl covered ↦ covered
          | inr n ↦ (let f = noted_by (noted a file stamp) n.0 n.1 in
              absurd (unasked f.0 f.1 (ap (λ (y : Note). y.source) (sym f.2)
              ∙ ap (λ (y : Asking). y.target) n.2 ∙ asked.2)))
        ]

    idle_by : IsUnasked → (t : Bool) → is_carried ≡ t → Brings (idle a work) (cond t Version [])
    idle_by unasked false e = nothing
    idle_by unasked true e = again_comes k from ends d x there h.0 (carried_taken unasked e)

    idle_comes : IsUnasked → Brings (idle a work) Carried
    idle_comes unasked = idle_by unasked is_carried refl

    -- ---- a note asks the sender for it

    module _ (n : Announced) (is : noted a file stamp ≡ Some n) (source : n.source ≡ from) where
      so : IsNoteOf (p file) history stamp (note_of n)
      so = k.stands.notes file stamp n is

      pub same_head : n.head ≡ d.head
      same_head = one_head (book us p) is_book file n.head d.head so.head h.0 so.at

      abbrev holding : Holding
      holding = record { content = c; kept = x.kept }

      holds : IsHoldingIn (book us p) file holding
      holds =
          let here = ap (option_map core_of) there in
          let held = file_held k.stands file (core_of x) here in
          record {
            created = refl;
            policy = held.policy;
            heads = λ v l. held_version held v l;
            kept = k.stands.kept file (core_of x) here;
          }

      -- the change of what the heads show
      module _ (same : stamps_of c ≡ d.from) where
        change : IsTrueDelta (p file) history (delta_to (stamps_of c) d.head.stamp d.ranges)
        change =
            subst (λ (bs : List Stamp). IsTrueDelta (p file) history
            (delta_to bs d.head.stamp d.ranges)) (sym same) h.1

        made_is : IsVersionOf (p file) history (patched_version c n.head d.ranges)
        made_is =
            subst (λ (y : Head). IsVersionOf (p file) history (patched_version c y d.ranges))
            (sym same_head) (patched_is (book us p) file holding holds d.head h.0 d.ranges change)

        made_long : next_length c d.ranges ≡ n.head.length
        made_long =
            patched_long (book us p) file holding holds d.head h.0 d.ranges change
            ∙ ap (λ (y : Head). y.length) (sym same_head)

      numbered : ltb 0 n.head.number ≡ true
      numbered =
          let one = numbers_from_one history (k.made.histories file) so.head.made so.head.among in
          let same : n.head.number ≡ number_of history so.head.made =
          ap (λ (y : Head). y.number) so.head.whole in
          some_number n.head.number (number_of history so.head.made) same one

      -- who is asked by the note was asked
      asked_so : is_asked_of from (wants file stamp) ≡ true
      asked_so =
          let asked = (agrees file stamp).noted (note_of n) (ap (option_map note_of) is)
          (λ zero. some (sym source ∙ zero)) in
          ap (is_asked_of from) asked ∙ (Decides-eqb n.source from).1 source

      module _ (serving : serves c n d ≡ true) where
        listed_so : stamps_of c ≡ d.from
        listed_so =
            same_stamps (stamps_of c) d.from (and_parts (are_same_stamps (stamps_of c) d.from)
            ((next_length c d.ranges == n.head.length) && ltb 0 n.head.number) serving).0

        pub carried_so : is_carried ≡ true
        carried_so =
            and_from (is_asked_of from (wants file stamp))
            (are_same_stamps (stamps_of (content_of a file)) d.from) asked_so
            (ap (λ (y : ContentValue). are_same_stamps (stamps_of y) d.from) shown
            ∙ (and_parts (are_same_stamps (stamps_of c) d.from)
            ((next_length c d.ranges == n.head.length) && ltb 0 n.head.number) serving).0)

        took_comes : Brings
            (patched (patched_version c n.head d.ranges, n.tag) a ends d work) Carried
        took_comes =
            subst (λ (t : Bool). Brings
            (patched (patched_version c n.head d.ranges, n.tag) a ends d work) (cond t Version []))
            (sym carried_so)
            (patched_comes k from ends d x there n so.at (made_is listed_so)
            (subst (λ (y : Stamp). IsTrueDelta (p file) history (delta_to d.from y d.ranges))
            (sym so.at) h.1) h.2)

      -- it would serve, if it were carried
      pub serves_so : is_carried ≡ true → serves c n d ≡ true
      serves_so e =
          let stamps : are_same_stamps (stamps_of c) d.from ≡ true =
          ap (λ (y : ContentValue). are_same_stamps (stamps_of y) d.from) (sym shown)
          ∙ (and_parts (is_asked_of from (wants file stamp))
          (are_same_stamps (stamps_of (content_of a file)) d.from) e).1 in
          let same = same_stamps (stamps_of c) d.from stamps in
          and_from (are_same_stamps (stamps_of c) d.from)
          ((next_length c d.ranges == n.head.length) && ltb 0 n.head.number) stamps
          (and_from (next_length c d.ranges == n.head.length) (ltb 0 n.head.number)
          ((Decides-eqb (next_length c d.ranges) n.head.length).1 (made_long same)) numbered)

      refused_comes : Brings (refused true a ends d work) []
      refused_comes =
          let sorted = k.stands.sorted in
          noting k 0 from (idle a work) (quiet_idle us p N a work) Silent tt
          (change_note emptied a.announced (key_at file stamp))
          (sorted_change emptied a.announced (key_at file stamp) sorted)
          (emptied_comes s Silent a.announced file stamp sorted) (ask a ends stamp 0 [] work)
          (asked_quiet us p N a ends stamp 0 [] work)

      refused_by : serves c n d ≡ false → (t : Bool) → is_carried ≡ t
          → Brings (refused true a ends d work) (cond t Version [])
      refused_by serving false e = refused_comes
      refused_by serving true e =
          absurd (let z : true ≡ false = sym (serves_so e) ∙ serving in cc)

      by_serves : (u : Bool) → serves c n d ≡ u → Brings
          (changed_by (cond u (Some (patched_version c n.head d.ranges, n.tag)) None) true a ends d
          work) Carried
      by_serves true serving = took_comes serving
      by_serves false serving = refused_by serving is_carried refl

    pub other_source : (n m : Announced) → Some n ≡ Some m → m.source ≡ from
        → (n.source == from) ≡ false → ⊥
    other_source n m same source other =
        let is : n.source ≡ from = (let y : n ≡ m = cc in ap (λ (z : Announced). z.source) y ∙ source)
        in
        absurd (let z : true ≡ false = sym ((Decides-eqb n.source from).1 is) ∙ other in cc)

    by_source : (n : Announced) → noted a file stamp ≡ Some n → (t : Bool)
        → (n.source == from) ≡ t
        → Brings (changed_by (cond t (made_at (Some x) n d) None) t a ends d work) Carried
    by_source n is true e =
        by_serves n is ((Decides-eqb n.source from).0 e) (serves c n d) refl
    by_source n is false e =
        idle_comes (λ m there_too source. other_source n m (sym is ∙ there_too) source e)

    by_note : (o : Option Announced) → noted a file stamp ≡ o
        → Brings (changed_by (made_by from (Some x) o d) (is_noted_of from o) a ends d work) Carried
    by_note None e =
        idle_comes (λ m is source. absurd (let z : None ≡ Some m = sym e ∙ is in cc))
    by_note (Some n) e = by_source n e (n.source == from) refl

    changed_comes : Brings (changed a ends d work) Carried
    changed_comes =
        let o = noted a file stamp in
        subst (λ (q : Option Replica). Brings
        (changed_by (made_by from q o d) (is_noted_of from o) a ends d work) Carried) (sym there)
        (by_note o refl)

  -- ---- where it is accepted

  abbrev linked : Done
  linked = accept a ends manner.Answers work

  abbrev Test : Bool
  Test = is_asked_of from (wants file stamp)
      && are_same_stamps (stamps_of (content_of a file)) d.from

  delta_by : (dir accepted : Bool) → is_accepted a from manner.Answers ends ≡ accepted
      → Brings (cond dir (idle a work) (changed_along accepted ends d linked))
      (cond ((not dir && accepted) && Test) Version [])
  delta_by true accepted e = nothing
  delta_by false false e = quiet linked (accept_quiet us p N a work ends manner.Answers)
  delta_by false true e =
      let x = accepted_there a from manner.Answers ends e in
      subst (λ (z : Done). Brings (changed z.store ends d z.work) (cond Test Version []))
      (sym (answers_idle a ends work)) (changed_comes x.0 x.1)

  -- A DELTA
  pub delta_arrives : Brings (receive a (message.Delta ends d) work)
      (delta_carried a wants from ends d)
  delta_arrives = delta_by (is_dir file) (is_accepted a from manner.Answers ends) refl
