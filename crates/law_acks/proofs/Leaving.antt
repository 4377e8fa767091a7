-- Who asks for leave is linked, a replica goes, and its peers hear of it: it keeps the rule of the
-- edges.
use Rattle.std.proofs.Common.{ℕ, ◌≡◌, ◌&&◌, true, not, List, [], ◌∷◌, Some, is_some, refl, ap}
use Rattle.pg_run.specs.pg_base.declared.id.FileId.{FileId}
use Rattle.pg_run.specs.pg_base.declared.stamp.Stamp.{Stamp}
use Rattle.std.proofs.lemmas.Bool.{and_parts, and_from}
use Rattle.pg_run.specs.pg_edges.declared.edge.Edge.{Edge}
use Rattle.pg_run.specs.pg_intent.declared.intent.Intent.{Intent}
use Rattle.pg_run.specs.pg_intent.declared.key.IntentKey.TheVariants as intent_key
use Rattle.pg_run.specs.pg_intent.Intent.{key_of}
use Rattle.pg_run.specs.pg_intent.Intents.{begun, intent_at, stands}
use Rattle.pg_run.specs.pg_msg.declared.message.Ends.{Ends}
use Rattle.pg_run.specs.pg_msg.declared.message.Message.TheVariants as message
use Rattle.pg_run.specs.pg_msg.declared.work.Work.{Work}
use Rattle.pg_run.specs.pg_names.Same.{is_same_stamp}
use Rattle.pg_run.specs.pg_store.declared.store.Store.{Store}
use Rattle.pg_run.specs.pg_store.Beginning.{let_go, with_intents}
use Rattle.pg_run.specs.pg_store.Births.{birth_of, has_birth}
use Rattle.pg_run.specs.pg_store.Links.{knows_later, unlink}
use Rattle.pg_run.specs.pg_store.Store.{replica_at, replica_of}
use Rattle.pg_run.specs.pg_store.Together.{birth_at}
use Rattle.pg_run.specs.pg_pieces.declared.accepting.EdgeUse.TheVariants as manner
use Rattle.pg_run.specs.pg_pieces.Accepting.{accept, ends_to, is_accepted, is_current, meets}
use Rattle.pg_run.specs.pg_pieces.Done.{Done, idle}
use Rattle.pg_run.specs.pg_pieces.Intending.{begin_intent}
use Rattle.pg_run.specs.pg_pieces.Parting.{stays_for}
use Rattle.pg_run.specs.pg_pieces.Posting.{reply}
use Rattle.pg_run.specs.pg_graph.Leaving.{begin_byes, bye, bye_ok, bye_to, gives_leave, goes, goes_now, goes_or_stays, is_leave_to, leave, leave_given, leave_ok, may_leave, place_stamp, without_leave}
use Rattle.pg_run.specs.theory_flood_pieces.Seen.{Hearing}
use Rattle.pg_run.specs.theory_flood_pieces.Whole.{IsOther}
use Rattle.pg_run.proofs.theory_flood_pieces.Choices.{chosen, decided}
use Rattle.pg_run.proofs.theory_flood_pieces.Linking.{unlink_steps}
use Rattle.pg_run.proofs.theory_flood_pieces.Whole.{whole_unlink}
use Rattle.pg_run.proofs.theory_flood_pieces.WholeBeginning.{IsForDir}
use Rattle.law_acks.proofs.Cells.{birth_by}
use Rattle.law_acks.proofs.Handlers.{accept_done, ended_done}
use Rattle.pg_run.proofs.theory_flood_pieces.Intents.{begun_patches, intents_alike}
use Rattle.law_acks.proofs.Pieces.{IsDone, Stands, beside_done, left_done, on_done, posted, same_done}
use Rattle.pg_run.proofs.Still.{begun_still}

-- ---- what is known where the replica goes

-- the replica that the answer names is here
pub answered_birth : (b : Store) (ends : Ends) (stamp : Stamp) (work : Work) → may_leave b ends stamp work ≡ true
    → birth_at b ends.file ≡ Some ends.receiver
answered_birth b ends stamp work may =
    let asked = is_leave_to (intent_at b.intents (intent_key.Leave ends.file)) work.from ends.sender
    && is_same_stamp (place_stamp b ends.file) stamp in
    let one = and_parts (is_accepted b work.from manner.Answers ends) asked may in
    let two = and_parts (is_current b work.from ends) (meets b work.from manner.Answers ends) one.0 in
    birth_by (replica_at b ends.file) ends.receiver
    (and_parts (has_birth b ends.file ends.receiver) (not (knows_later b ends.file work.from ends.sender)) two.0).0

-- ---- Server s of n came from a, having heard this

module _ (n s : ℕ) (a : Store) (heard : Hearing) where
  abbrev Is : Done → Type 0
  Is d = IsDone n s a heard d

  abbrev At : Store → Work → Type 0
  At b work = Stands n s a heard b work

  -- an intention begins
  pub intent_done : (b : Store) (work : Work) → At b work → (i : Intent) → IsForDir i
      → Is (begin_intent b i work)
  intent_done b work u i one =
      let now = with_intents b (begun b.intents i) in
      same_done n s a heard now work (begin_intent b i work).work
      (begun_still (not (stands b.intents (key_of i))) work (key_of i)).mail
      (beside_done n s a heard b work u now (intents_alike b (begun b.intents i))
      (begun_patches b i one u.way.whole.patches))

  -- ---- leave is asked for, and given

  given_done : (d : Done) → Is d → (ends : Ends) (stamp : Stamp) → Is (leave_given ends stamp d)
  given_done d u ends stamp =
      let m = message.LeaveOk (ends_to d.store ends.file ends.sender) stamp in
      chosen (At d.store) (gives_leave d.store ends.file stamp) (reply d.store m d.work) d.work
      (posted n s a heard d.store d.work u d.work.from m (λ from. refl) tt) u

  pub leave_done : (b : Store) (work : Work) → At b work → (ends : Ends) (stamp : Stamp)
      → IsOther n s work.from → Is (leave b ends stamp work)
  leave_done b work u ends stamp other =
      let met = accept b ends manner.Makes work in
      let v = accept_done n s a heard b work u ends manner.Makes other in
      chosen Is (is_accepted b work.from manner.Makes ends) (leave_given ends stamp met) met
      (given_done met v ends stamp) v

  byes_done : (file : FileId) (birth : ℕ) (es : List Edge) (d : Done) → Is d
      → Is (begin_byes file birth es d)
  byes_done file birth [] d u = u
  byes_done file birth (e ∷ es) d u =
      byes_done file birth es (begin_intent d.store (bye_to file birth e) d.work)
      (intent_done d.store d.work u (bye_to file birth e) tt)

  goes_done : (b : Store) (work : Work) → At b work → (file : FileId) (birth : ℕ)
      → birth_at b file ≡ Some birth → heard.along.over file birth ≡ true → Is (goes b file work)
  goes_done b work u file birth is counts =
      byes_done file (birth_of b file) (replica_of b file).edges (idle (let_go b file) work)
      (left_done n s a heard b work u file birth is counts)

  pub leave_ok_done : (b : Store) (work : Work) → At b work → (ends : Ends) (stamp : Stamp)
      → (goes_now b ends stamp work ≡ true → heard.along.over ends.file ends.receiver ≡ true)
      → Is (leave_ok b ends stamp work)
  leave_ok_done b work u ends stamp counts =
      let file = ends.file in
      let free = without_leave b file in
      let stays = is_some (stays_for free file) in
      decided Is (may_leave b ends stamp work) (goes_or_stays free file work) (idle b work)
      (λ may.
      let v = ended_done n s a heard b work u (intent_key.Leave file) in
      decided Is stays (idle free work) (goes free file work) (λ t. v)
      (λ f. goes_done free work v file ends.receiver (answered_birth b ends stamp work may)
      (counts (and_from (may_leave b ends stamp work) (not stays) may (ap not f)))))
      (λ no. u)

  -- ---- a replica has gone

  pub bye_done : (b : Store) (work : Work) → At b work → (ends : Ends) → Is (bye b ends work)
  bye_done b work u ends =
      let m = message.ByeOk ends.file ends.sender in
      on_done n s a heard b (reply b m work) (posted n s a heard b work u work.from m (λ from. refl) tt)
      (unlink b ends.file work.from ends.sender) (unlink_steps b ends.file work.from ends.sender)
      (whole_unlink n s b u.way.whole ends.file work.from ends.sender)

  pub bye_ok_done : (b : Store) (work : Work) → At b work → (file : FileId) (birth : ℕ)
      → Is (bye_ok b file birth work)
  bye_ok_done b work u file birth = ended_done n s a heard b work u (intent_key.Bye file birth work.from)
