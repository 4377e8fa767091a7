-- Behind a Later, and where a replica goes, nobody is asked for what was noted; other versions go
-- on.
use Rattle.std.proofs.Common.{ℕ, ◌≡◌, ◌≢◌, ◌==◌, ◌&&◌, Bool, true, false, cond, not, List, Option, None, Some, is_some, option_map, inl, inr, refl, sym, ap, subst, ◌∙◌}
use Rattle.std.proofs.lemmas.Bool.{and_from, and_parts, and_right, false≢true}
use Rattle.std.proofs.lemmas.Bool.Decides.{Decides-eqb}
use Rattle.pg_run.specs.pg_announced.declared.announced.Announced.{Announced}
use Rattle.pg_run.specs.pg_announced.declared.announced.NoteKey.{NoteKey}
use Rattle.pg_run.specs.pg_announced.Announced.{AreSorted, NotesValue, change_note, is_asked_of, key_at, key_cmp, lose_note, note_at, unasked}
use Rattle.pg_run.proofs.pg_announced.Found.{same_note}
use Rattle.pg_run.proofs.pg_announced.Keys.{key_exact}
use Rattle.pg_run.specs.pg_base.declared.id.FileId.{FileId}
use Rattle.pg_run.specs.pg_base.declared.policy.Policy.{Policy}
use Rattle.pg_run.specs.pg_base.declared.stamp.Stamp.{Stamp}
use Rattle.pg_run.specs.pg_base.Id.{is_same_file}
use Rattle.pg_run.proofs.pg_base.Maps.{lookup-where_key}
use Rattle.pg_run.proofs.pg_base.Orders.{is_same_file-refl, is_same_file-true}
use Rattle.pg_run.specs.pg_content.History.{is_same_stamp}
use Rattle.pg_run.proofs.pg_content.Stamps.{same_stamp}
use Rattle.pg_run.specs.pg_intent.declared.key.IntentKey.TheVariants as intent_key
use Rattle.pg_run.specs.pg_intent.Intents.{ended}
use Rattle.pg_run.proofs.pg_names.Lookups.{apart_back}
use Rattle.pg_run.specs.pg_msg.declared.message.Ends.{Ends}
use Rattle.pg_run.specs.pg_msg.declared.message.Message.TheVariants as message
use Rattle.pg_run.specs.pg_msg.declared.work.Work.{Work}
use Rattle.pg_run.specs.pg_msg.Work.{new_work}
use Rattle.pg_run.specs.pg_names.Names.{is_dir}
use Rattle.pg_run.specs.Asked.{ends_with, goes as is_gone}
use Rattle.pg_run.specs.Asking.{Asked, is_asked_of as is_wanted_of, is_version}
use Rattle.pg_run.specs.Carried.{gone_by}
use Rattle.pg_run.specs.Journal.{Born}
use Rattle.pg_run.specs.pg_store.declared.store.Store.{Store}
use Rattle.pg_run.specs.pg_store.Beginning.{let_go}
use Rattle.pg_run.specs.pg_store.Births.{birth_of}
use Rattle.pg_run.specs.pg_store.Store.{replica_of}
use Rattle.pg_run.specs.pg_pieces.declared.accepting.EdgeUse.TheVariants as manner
use Rattle.pg_run.specs.pg_pieces.Accepting.{is_accepted}
use Rattle.pg_run.specs.pg_pieces.Done.{Done, idle}
use Rattle.pg_run.specs.pg_pieces.Parting.{stays_for}
use Rattle.pg_run.specs.pg_graph.Leaving.{goes, leave_ok, may_leave, without_leave}
use Rattle.pg_run.specs.pg_server.pg_transfer.Later.{later}
use Rattle.pg_run.specs.theory_bodies.Asked.{Asking, asking_of}
use Rattle.pg_run.specs.theory_bodies.Protocol.{Note}
use Rattle.law_contents.proofs.Agreed.{Agrees}
use Rattle.law_contents.proofs.Answers.{Met, met_from, met_quiet}
use Rattle.law_contents.proofs.Changes.{Keeps, Keeps-refl, noted_at}
use Rattle.law_contents.proofs.Endings.{change_is}
use Rattle.law_contents.proofs.Going.{byes_quiet}
use Rattle.law_contents.proofs.Goings.{Step, go_step, keeps_go, key_parts, key_same, other_version}
use Rattle.law_contents.proofs.NotesCome.{noted_by}
use Rattle.law_contents.proofs.Pieces.{intents_keep}
use Rattle.law_contents.proofs.Servers.{Came, IsServer, note_of}

-- nobody is asked any more, and no note asks anybody
pub released_step : (a b : Store) (f : FileId) (t : Stamp) (was now : Option Asking) → now ≡ None
    → ((n : Announced) → noted_at b f t ≡ Some n → n.source ≡ 0) → Step a b f t was now
released_step a b f t was now none lost = inr (inl (record {
  asked = none;
  lost = λ m e.
      let n = noted_by (noted_at b f t) m e in
      let P : Note → Type 0 = (λ x. x.source ≡ 0) in
      subst P (sym n.2) (lost n.0 n.1);
}))

-- where it is not so that it ends, all is as before
pub idle_base : (ends : Bool) (was : Option Asking) → ends ≡ false → cond ends None was ≡ was
idle_base ends was e = ap (λ t. cond t None was) e

wanted_of : (from : ℕ) (o : Option Asking) → is_wanted_of from o ≡ true
    → (t : Asking) × (o ≡ Some t) × (t.target ≡ from)
wanted_of from None h = absurd (false≢true h)
wanted_of from (Some t) h = (t, refl, (Decides-eqb t.target from).0 h)

same_target : (x y : Asking) → Some x ≡ Some y → x.target ≡ y.target
same_target x y e = let same : x ≡ y = cc in ap (λ (z : Asking). z.target) same

asked_of : (from : ℕ) (o : Option Announced) → is_asked_of from o ≡ true
    → (n : Announced) × (o ≡ Some n) × (n.source ≡ from)
asked_of from None h = absurd (false≢true h)
asked_of from (Some n) h = (n, refl, (Decides-eqb n.source from).0 h)

module _ {s : ℕ} {a : Store} {us : List Born} {p : FileId → Policy} {N : FileId → Type 0}
    {came : Came} (k : IsServer s a us p N came) (from : ℕ) (wants : Asked)
    (agrees : Agrees a us came wants) (ends : Ends) (stamp : Stamp) where
  abbrev work : Work
  work = new_work 0 from

  -- ---- a Later

  module _ (some : from ≢ 0) (f : FileId) (t : Stamp) where
    abbrev b : Store
    b = (Met k from ends).store

    abbrev w : Work
    w = (Met k from ends).work

    abbrev ns : NotesValue
    ns = b.announced

    abbrev K : NoteKey
    K = key_at ends.file stamp

    abbrev was : Option Asking
    was = wants f t

    keeps : Keeps a b
    keeps = (met_quiet k from ends).keeps

    sorted : AreSorted ns
    sorted = subst AreSorted (sym keeps.notes) k.stands.sorted

    abbrev This : Bool
    This = is_version f t ends.file stamp

    abbrev Behind : Bool → NotesValue
    Behind lost = cond lost (change_note unasked ns K) ns

    abbrev End : Bool → Store
    End lost = record b { announced = Behind lost }

    key_is : This ≡ true → key_at f t ≡ K
    key_is e =
        let two = and_parts (is_same_file ends.file f) (is_same_stamp stamp t) e in
        key_parts f ends.file t stamp (is_same_file-true ends.file f two.0) (same_stamp stamp t two.1)

    noted_a : (q : NoteKey) → note_at ns q ≡ note_at a.announced q
    noted_a q = ap (λ (xs : NotesValue). note_at xs q) keeps.notes

    -- whom the note asks was asked
    module _ (n : Announced) (is : note_at ns K ≡ Some n) (asks : n.source ≡ from) where
      wants_is : wants ends.file stamp ≡ Some (asking_of (note_of n))
      wants_is =
          (agrees ends.file stamp).noted (note_of n)
          (ap (option_map note_of) (sym (noted_a K) ∙ is)) (λ zero. some (sym asks ∙ zero))

    -- it does not end: of this version nothing is asked of the sender
    stays : (lost : Bool) → is_asked_of from (note_at ns K) ≡ lost
        → (This && (is_wanted_of from was && true)) ≡ false
        → note_at (Behind lost) (key_at f t) ≡ note_at a.announced (key_at f t)
    stays false asked other = noted_a (key_at f t)
    stays true asked other =
        let n = asked_of from (note_at ns K) asked in
        let no : This ≡ false = apart n.0 n.1 n.2 This refl in
        change_is unasked ns K (key_at f t) n.0 sorted n.1
        ∙ ap (λ z. cond z (Some (unasked n.0)) (note_at ns (key_at f t)))
        (other_version f t ends.file stamp no)
        ∙ noted_a (key_at f t)
      where
        apart : (n : Announced) → note_at ns K ≡ Some n → n.source ≡ from → (v : Bool) → This ≡ v
            → This ≡ false
        apart n is asks false e = e
        apart n is asks true e =
            let q = key_is e in
            let P : NoteKey → Type 0 = (λ x. wants x.file x.stamp ≡ Some (asking_of (note_of n))) in
            let this : was ≡ Some (asking_of (note_of n)) = subst P (sym q) (wants_is n is asks) in
            let target : is_wanted_of from was ≡ true =
            ap (is_wanted_of from) this ∙ (Decides-eqb n.source from).1 asks in
            absurd (false≢true (sym other ∙ and_from This (is_wanted_of from was && true) e
            (and_from (is_wanted_of from was) true target refl)))

    -- it ends: no note asks anybody for it
    lost_by : (lost : Bool) → is_asked_of from (note_at ns K) ≡ lost → This ≡ true
        → is_wanted_of from was ≡ true → (n : Announced) → note_at (Behind lost) (key_at f t) ≡ Some n
        → n.source ≡ 0
    lost_by true asked this wanted n there =
        let m = asked_of from (note_at ns K) asked in
        let is : note_at (change_note unasked ns K) (key_at f t) ≡ Some (unasked m.0) =
        change_is unasked ns K (key_at f t) m.0 sorted m.1
        ∙ ap (λ z. cond z (Some (unasked m.0)) (note_at ns (key_at f t)))
        (key_same (key_at f t) K (key_is this)) in
        ap (λ (x : Announced). x.source) (same_note n (unasked m.0) (sym there ∙ is))
    lost_by false asked this wanted n there = by (n.source == 0) refl
      where
        by : (z : Bool) → (n.source == 0) ≡ z → n.source ≡ 0
        by true e = (Decides-eqb n.source 0).0 e
        by false e =
            let t_ = wanted_of from was wanted in
            let asks : was ≡ Some (asking_of (note_of n)) =
            (agrees f t).noted (note_of n) (ap (option_map note_of) (sym (noted_a (key_at f t)) ∙ there))
            (λ zero. false≢true (sym e ∙ (Decides-eqb n.source 0).1 zero)) in
            let source : n.source ≡ from =
            same_target (asking_of (note_of n)) t_.0 (sym asks ∙ t_.1) ∙ t_.2 in
            let P : NoteKey → Type 0 = (λ q. note_at ns q ≡ Some n) in
            let here : note_at ns K ≡ Some n = subst P (key_is this) there in
            absurd (false≢true (sym asked ∙ ap (is_asked_of from) here ∙ (Decides-eqb n.source from).1 source))

    abbrev Answered : Bool → Bool → Bool
    Answered dir accepted = This && (is_wanted_of from was && (not dir && accepted))

    -- it is accepted
    lost_step : (lost ends_it : Bool) → is_asked_of from (note_at ns K) ≡ lost
        → Answered false true ≡ ends_it → Step a (End lost) f t was (cond ends_it None was)
    lost_step lost true asked e =
        let one = and_parts This (is_wanted_of from was && true) e in
        let two = and_parts (is_wanted_of from was) true one.1 in
        released_step a (End lost) f t was None refl (lost_by lost asked one.0 two.0)
    lost_step lost false asked e =
        inr (inr (inr (record { asked = refl; note = ap (option_map note_of) (stays lost asked e) })))

    abbrev LaterBy : Bool → Bool → ℕ → Done
    LaterBy dir accepted g = cond dir (idle a work)
        (cond accepted (idle (record b { announced = lose_note ns K g }) w) (Met k from ends))

    still_step : (d : Done) → Keeps a d.store → (ends_it : Bool) → ends_it ≡ false
        → Step a d.store f t was (cond ends_it None was)
    still_step d h ends_it e =
        go_step a d.store (keeps_go h) f t was (cond ends_it None was) (idle_base ends_it was e)

    not_both : (x y : Bool) → (x && (y && false)) ≡ false
    not_both x y = and_right x (y && false) (and_right y false refl)

    by_acceptance : (dir accepted : Bool)
        → Step a (LaterBy dir accepted from).store f t was (cond (Answered dir accepted) None was)
    by_acceptance true accepted =
        still_step (idle a work) (Keeps-refl a) (Answered true accepted) (not_both This (is_wanted_of from was))
    by_acceptance false false =
        still_step (Met k from ends) keeps (Answered false false) (not_both This (is_wanted_of from was))
    by_acceptance false true =
        lost_step (is_asked_of from (note_at ns K)) (Answered false true) refl refl

    -- A LATER
    pub later_step : Step a (later a ends stamp work).store f t was
        (cond (ends_with a from (message.Later ends stamp) f t was) None was)
    later_step =
        let dir = is_dir ends.file in
        let accepted = is_accepted a from manner.Answers ends in
        let P : ℕ → Type 0 = (λ g. Step a (LaterBy dir accepted g).store f t was
        (cond (Answered dir accepted) None was)) in
        subst P (sym (met_from k from ends)) (by_acceptance dir accepted)

  -- ---- a replica goes

  module _ (f : FileId) (t : Stamp) where
    abbrev Free : Store
    Free = without_leave a ends.file

    free_keeps : Keeps a Free
    free_keeps = intents_keep a (ended a.intents (intent_key.Leave ends.file))

    abbrev Gone : Done
    Gone = goes Free ends.file work

    gone_keeps : Keeps (let_go Free ends.file) Gone.store
    gone_keeps =
        (byes_quiet us p N ends.file (birth_of Free ends.file) (replica_of Free ends.file).edges
        (idle (let_go Free ends.file) work)).keeps

    -- of other files what is noted stays
    noted_left : noted_at Gone.store f t
        ≡ cond (not (is_same_file f ends.file)) (noted_at a f t) None
    noted_left =
        ap (λ (xs : NotesValue). note_at xs (key_at f t)) gone_keeps.notes
        ∙ lookup-where_key key_cmp (λ (q : NoteKey). not (is_same_file q.file ends.file)) (key_at f t)
        (λ x e. ap (λ (q : NoteKey). not (is_same_file q.file ends.file))
        (sym (key_exact (key_at f t) x e))) a.announced

    gone_by_file : (v : Bool) → is_same_file ends.file f ≡ v
        → Step a Gone.store f t (wants f t) (cond v None (wants f t))
    gone_by_file true e =
        let same : is_same_file f ends.file ≡ true =
        subst (λ (x : FileId). is_same_file x ends.file ≡ true) (is_same_file-true ends.file f e)
        (is_same_file-refl ends.file) in
        let none : noted_at Gone.store f t ≡ None =
        noted_left ∙ ap (λ z. cond (not z) (noted_at a f t) None) same in
        released_step a Gone.store f t (wants f t) None refl
        (λ n there. absurd (let z : None ≡ Some n = sym none ∙ there in cc))
    gone_by_file false e =
        inr (inr (inr (record {
          asked = refl;
          note = ap (option_map note_of)
              (noted_left ∙ ap (λ z. cond (not z) (noted_at a f t) None) (apart_back ends.file f e));
        })))

    left_by : (leaves stays_ : Bool) → Step a (cond leaves
        (cond stays_ (idle Free work) Gone) (idle a work)).store f t (wants f t)
        (cond (is_gone f (cond (leaves && not stays_) (Some ends.file) None)) None (wants f t))
    left_by true true = go_step a Free (keeps_go free_keeps) f t (wants f t) (wants f t) refl
    left_by true false = gone_by_file (is_same_file ends.file f) refl
    left_by false stays_ = go_step a a (keeps_go (Keeps-refl a)) f t (wants f t) (wants f t) refl

    -- LEAVE TO GO
    pub leave_ok_step : Step a (leave_ok a ends stamp work).store f t (wants f t)
        (cond (is_gone f (gone_by a from (message.LeaveOk ends stamp))) None (wants f t))
    leave_ok_step = left_by (may_leave a ends stamp work) (is_some (stays_for Free ends.file))
