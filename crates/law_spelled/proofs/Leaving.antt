-- A replica asks for leave and goes, and its peers hear of it: what is held stays fit.
use Rattle.std.proofs.Common.{ℕ, List, [], ◌∷◌, All, refl}
use Rattle.std.proofs.lemmas.List.Elements.{All-head, All-tail}
use Rattle.pg_base.specs.declared.id.FileId.{FileId}
use Rattle.pg_base.specs.declared.stamp.Stamp.{Stamp}
use Rattle.pg_edges.specs.declared.edge.Edge.{Edge}
use Rattle.pg_server.specs.pg_pieces.pg_intent.declared.key.IntentKey.TheVariants as intent_key
use Rattle.pg_server.specs.pg_pieces.pg_intent.Intents.{ended}
use Rattle.pg_msg.specs.declared.message.Ends.{Ends}
use Rattle.pg_msg.specs.declared.message.Message.TheVariants as message
use Rattle.pg_msg.specs.declared.work.Work.{Work}
use Rattle.pg_server.specs.pg_pieces.pg_store.declared.store.Store.{Store}
use Rattle.pg_server.specs.pg_pieces.pg_store.Beginning.{let_go}
use Rattle.pg_server.specs.pg_pieces.pg_store.Births.{birth_of}
use Rattle.pg_server.specs.pg_pieces.pg_store.Store.{replica_at, replica_of}
use Rattle.pg_server.proofs.pg_pieces.pg_house.Truths.{chosen}
use Rattle.pg_server.specs.pg_pieces.declared.accepting.EdgeUse.TheVariants as manner
use Rattle.pg_server.specs.pg_pieces.Accepting.{accept, ends_to, is_accepted}
use Rattle.pg_server.specs.pg_pieces.Done.{Done, idle}
use Rattle.pg_server.specs.pg_pieces.Intending.{begin_intent}
use Rattle.pg_server.specs.pg_pieces.Posting.{reply}
use Rattle.pg_server.specs.pg_graph.Leaving.{begin_byes, bye, bye_ok, bye_to, gives_leave, goes, leave, leave_given, leave_ok, without_leave}
use Rattle.pg_server.proofs.pg_graph.LeaveOk.{leave_ok_by}
use Rattle.law_spelled.specs.Stores.{FitsStore}
use Rattle.law_spelled.proofs.Behind.{intent_fits}
use Rattle.law_spelled.proofs.Handlers.{Fit, accept_fits}
use Rattle.law_spelled.proofs.Intents.{ended_fit}
use Rattle.law_spelled.proofs.Replicas.{IsToServer, replica_or}
use Rattle.law_spelled.proofs.Stores.{FitsDone, Fine, intended, let_go_store, posted, unlink_fits}

-- ---- peers of what went

pub bye_fits : (s : Store) (ends : Ends) (work : Work) → Fit s work → FitsDone (bye s ends work)
bye_fits s ends work h = record {
  store = unlink_fits s h.store ends.file work.from ends.sender;
  work = posted s work.from (message.ByeOk ends.file ends.sender) work h.work.from (λ w. tt) h.work;
}

pub bye_ok_fits : (s : Store) (f : FileId) (birth : ℕ) (work : Work) → Fit s work → FitsDone (bye_ok s f birth work)
bye_ok_fits s f birth work h =
    let key = intent_key.Bye f birth work.from in
    record {
      store = intended s h.store (ended s.intents key) (ended_fit s.intents key h.store.intents);
      work = h.work;
    }

-- ---- leave is asked for

given_fits : (ends : Ends) (stamp : Stamp) (done : Done) → FitsDone done → FitsDone (leave_given ends stamp done)
given_fits ends stamp done h =
    let back = ends_to done.store ends.file ends.sender in
    let m = message.LeaveOk back stamp in
    record {
      store = h.store;
      work = chosen Fine (gives_leave done.store ends.file stamp) (reply done.store m done.work) done.work
          (posted done.store done.work.from m done.work h.work.from (λ w. tt) h.work) h.work;
    }

pub leave_fits : (s : Store) (ends : Ends) (stamp : Stamp) (work : Work) → Fit s work → FitsDone (leave s ends stamp work)
leave_fits s ends stamp work h =
    let met = accept s ends manner.Makes work in
    let a : FitsDone met = accept_fits s ends manner.Makes work h in
    chosen FitsDone (is_accepted s work.from manner.Makes ends) (leave_given ends stamp met) met (given_fits ends stamp met a) a

-- ---- leave is given

byes_fit : (f : FileId) (birth : ℕ) (es : List Edge) (done : Done) → All IsToServer es → FitsDone done → FitsDone (begin_byes f birth es done)
byes_fit f birth [] done all h = h
byes_fit f birth (e ∷ es) done all h =
    byes_fit f birth es (begin_intent done.store (bye_to f birth e) done.work) (All-tail IsToServer e es all)
    (intent_fits done.store (bye_to f birth e) done.work (record { about = tt; target = All-head IsToServer e es all })
    (record { store = h.store; work = h.work }))

less_fits : (s : Store) (f : FileId) → FitsStore s → FitsStore (without_leave s f)
less_fits s f h =
    let key = intent_key.Leave f in
    intended s h (ended s.intents key) (ended_fit s.intents key h.intents)

goes_fits : (s : Store) (f : FileId) (work : Work) → Fit s work → FitsDone (goes s f work)
goes_fits s f work h =
    byes_fit f (birth_of s f) (replica_of s f).edges (idle (let_go s f) work) (replica_or s.replicas f h.store.replicas (replica_at s f) refl).edges
    (record { store = let_go_store s f h.store; work = h.work })

pub leave_ok_fits : (s : Store) (ends : Ends) (stamp : Stamp) (work : Work) → Fit s work → FitsDone (leave_ok s ends stamp work)
leave_ok_fits s ends stamp work h =
    let less : Fit (without_leave s ends.file) work = record { store = less_fits s ends.file h.store; work = h.work } in
    leave_ok_by FitsDone s ends stamp work h (λ answered. less) (λ may. goes_fits (without_leave s ends.file) ends.file work less)
