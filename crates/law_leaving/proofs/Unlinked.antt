-- Behind a Bye there is no edge to the replica that went: the first effect takes it away, and the
-- house rules and the intentions make none.
use Rattle.std.proofs.Common.{ℕ, ◌≡◌, ◌==◌, true, false, cond, List, [], ◌∷◌, length, drop, Option, None, Some, is_some, eq-eqb, refl, sym, ap, subst, ◌∙◌}
use Rattle.std.proofs.lemmas.Bool.{false≢true, and_from}
use Rattle.pg_run.specs.pg_base.declared.id.FileId.{FileId}
use Rattle.pg_run.specs.pg_edges.declared.edge.Edge.{Edge}
use Rattle.pg_run.specs.pg_edges.declared.key.Key.TheVariants as key
use Rattle.pg_run.specs.pg_edges.Edges.{is_listed, keys_at, unlinked}
use Rattle.pg_run.proofs.pg_edges.Lookups.{unlinks}
use Rattle.pg_run.specs.pg_house.House.{house}
use Rattle.pg_run.specs.pg_house.Work.{state_of}
use Rattle.pg_run.specs.pg_msg.declared.message.Ends.{Ends}
use Rattle.pg_run.specs.pg_msg.declared.message.Message.{Message}
use Rattle.pg_run.specs.pg_msg.declared.message.Message.TheVariants as message
use Rattle.pg_run.specs.pg_msg.declared.message.Packet.{Packet}
use Rattle.pg_run.specs.pg_msg.declared.work.Touched.{Touched}
use Rattle.pg_run.specs.pg_msg.declared.work.Work.{Work}
use Rattle.pg_run.specs.pg_msg.Work.{new_work}
use Rattle.pg_run.specs.pg_names.Names.{NamesValue, join_flag}
use Rattle.pg_run.proofs.theory_flood_pieces.Choices.{chosen, decided}
use Rattle.pg_run.proofs.theory_flood_pieces.Stores.{replica_here}
use Rattle.pg_run.proofs.theory_flood_pieces.Touching.{IsTouchedBy, StaysIf, all_touched, one_touched, touched_behind}
use Rattle.pg_run.specs.pg_register.declared.flag.Flag.{Flag}
use Rattle.pg_run.specs.pg_replica.declared.replica.Replica.{Replica}
use Rattle.pg_run.specs.pg_replica.Replica.{with_unlink}
use Rattle.pg_run.specs.pg_replica.Replicas.{ByFile, lists_peer, replica_in, replicas_unlinked}
use Rattle.pg_run.proofs.pg_intentions.Steady.{begin_end_stays}
use Rattle.pg_run.specs.pg_server.declared.input.Input.TheVariants as input
use Rattle.pg_run.specs.pg_server.Local.{effect, first_effect, intended, is_heard, receive, settled, takes_effect}
use Rattle.pg_run.specs.pg_store.declared.store.Store.{Store}
use Rattle.pg_run.specs.pg_store.Links.{is_linked, unlink}
use Rattle.pg_run.specs.pg_store.Store.{is_newer_flag, put_flag, replica_at, take_flag, with_names}
use Rattle.pg_run.specs.pg_pieces.Done.{Done, idle}
use Rattle.pg_run.specs.pg_pieces.Making.{own_next}
use Rattle.pg_run.specs.pg_cells.Settling.{rules, settle, touch_all}
use Rattle.pg_run.proofs.pg_cells.Settled.{settle_keeps}
use Rattle.pg_run.proofs.Event.{store_is}

-- ---- keys are touched, names change: edges lead where they led

same_lists : (t u : ℕ) (o p : Option Replica) → StaysIf t u o p → (peer birth : ℕ) → lists_peer p peer birth ≡ lists_peer o peer birth
same_lists t u None None k peer birth = refl
same_lists t u None (Some y) k peer birth = absurd k
same_lists t u (Some x) None k peer birth = absurd k
same_lists t u (Some x) (Some y) k peer birth = k.edges.listed peer birth

-- the same edges lead from there
abbrev SameLinks : Store → Store → Type 0
SameLinks a b = (file : FileId) (peer birth : ℕ) → is_linked b file peer birth ≡ is_linked a file peer birth

touched_links : (ts : List Touched) (a b : Store) → IsTouchedBy ts a b → SameLinks a b
touched_links ts a b k file peer birth = same_lists a.tags b.tags (replica_at a file) (replica_at b file) (k.stays file) peer birth

rules_links : (a : Store) (work : Work) → SameLinks a (rules a work).store
rules_links a work =
    let names : NamesValue = (house work.now (state_of a.names work)).names in
    let ts : List Touched = drop (length work.touched) (house work.now (state_of a.names work)).work.touched in
    touched_links ts a (rules a work).store
    (touched_behind ts a (touch_all (with_names a names) ts) names (all_touched (with_names a names) ts))

flag_links : (a : Store) (file : FileId) (flag : Flag) → SameLinks a (take_flag a file flag)
flag_links a file flag =
    let names : NamesValue = join_flag a.names file flag in
    let ts : List Touched = record { file = file; key = key.Flag flag.server } ∷ [] in
    chosen (SameLinks a) (is_newer_flag a file flag) (put_flag a file flag) a
    (touched_links ts a (put_flag a file flag)
    (touched_behind ts a (put_flag a file flag) names (one_touched (with_names a names) file (key.Flag flag.server))))
    (λ f peer birth. refl)

settle_links : (a : Store) (work : Work) → SameLinks a (settle a work).store
settle_links a work =
    settle_keeps (λ (b : Store) (w : Work). SameLinks a b)
    (λ b w k f peer birth. rules_links b w f peer birth ∙ k f peer birth)
    (λ b file w is k f peer birth. flag_links b file (own_next b file true) f peer birth ∙ k f peer birth) a work
    (λ f peer birth. refl)

ended_links : (d : Done) → SameLinks d.store (intended (settled d)).store
ended_links d file peer birth =
    ap (λ (rs : ByFile). lists_peer (replica_in rs file) peer birth) (begin_end_stays (settled d).store (settled d).work).replicas
    ∙ settle_links d.store d.work file peer birth

-- ---- the edge goes

unlisted : (es : List Edge) (peer birth : ℕ) → is_listed (unlinked es peer birth) peer birth ≡ false
unlisted es peer birth =
    ap (λ o. is_some o) (unlinks es peer birth peer birth)
    ∙ ap (λ t. is_some (cond t None (keys_at es peer birth)))
    (and_from (peer == peer) (birth == birth) (eq-eqb peer peer refl) (eq-eqb birth birth refl))

module _ (a : Store) (file : FileId) (peer birth : ℕ) where
  abbrev Without : Option Replica → Store
  Without o = record a { replicas = replicas_unlinked a.replicas file peer birth o }

  unlinked_if : (o : Option Replica) → replica_at a file ≡ o → is_linked (Without o) file peer birth ≡ false
  unlinked_if None e = ap (λ (o : Option Replica). lists_peer o peer birth) e
  unlinked_if (Some x) e =
      ap (λ (o : Option Replica). lists_peer o peer birth)
      (replica_here a (Without (Some x)) file x (with_unlink x peer birth) (record { old = e; replicas = refl }))
      ∙ unlisted x.edges peer birth

  unlinked_first : is_linked (unlink a file peer birth) file peer birth ≡ false
  unlinked_first =
      decided (λ (b : Store). is_linked b file peer birth ≡ false) (is_linked a file peer birth) (Without (replica_at a file)) a
      (λ t. unlinked_if (replica_at a file) refl) (λ f. f)

-- BEHIND A BYE that is heard
pub unlinked_behind : (a : Store) (packet : Packet) (ends : Ends) → packet.message ≡ message.Bye ends → is_heard a packet ≡ true
    → is_linked (effect a (input.Arrival packet)).store ends.file packet.from ends.sender ≡ false
unlinked_behind a packet ends is heard =
    let asked = input.Arrival packet in
    let P : Store → Type 0 = λ b. is_linked b ends.file packet.from ends.sender ≡ false in
    let d = first_effect a asked in
    let w = new_work 0 packet.from in
    let one : P (receive a packet.message w).store =
    subst (λ (m : Message). P (receive a m w).store) (sym is) (unlinked_first a ends.file packet.from ends.sender) in
    let first : P d.store =
    decided (λ (e : Done). P e.store) (is_heard a packet) (receive a packet.message w) (idle a w) (λ t. one)
    (λ f. absurd (false≢true (sym f ∙ heard))) in
    subst P (sym (store_is a asked))
    (chosen (λ (e : Done). P e.store) (takes_effect a asked) (intended (settled d)) d
    (ended_links d ends.file packet.from ends.sender ∙ first) first)
