-- Why a replica goes: by leave, with clean edges, its own flag not raised; and each peer is told.
use Rattle.std.proofs.Common.{ℕ, ◌≡◌, ◌==◌, ◌&&◌, Bool, true, false, cond, not, All, List, [], ◌∷◌, ◌++◌, Option, None, Some, option_map, eq-eqb, zero, suc, refl, sym, ap, subst, ◌∙◌, arith}
use Rattle.std.specs.Prelude.{Contains}
use Rattle.std.specs.List.{find}
use Rattle.std.proofs.lemmas.Bool.{false≢true}
use Rattle.std.proofs.lemmas.List.Elements.{All-cons, All-nil}
use Rattle.std.proofs.lemmas.Option.{none-some, same_Some}
use Rattle.pg_run.specs.pg_base.declared.id.FileId.{FileId}
use Rattle.pg_run.specs.pg_pieces.Golds.{flags_of, is_gold}
use Rattle.pg_run.specs.pg_pieces.Parting.{is_unclean}
use Rattle.pg_run.specs.pg_edges.declared.edge.Edge.{Edge}
use Rattle.pg_run.specs.pg_edges.declared.key.Key.{Key}
use Rattle.pg_run.specs.pg_edges.declared.key.Key.TheVariants as key
use Rattle.pg_run.specs.pg_edges.Edges.{is_listed, is_none}
use Rattle.pg_run.specs.pg_entries.declared.cell.Cell.{Cell}
use Rattle.pg_run.specs.pg_event.declared.event.Event.{Event}
use Rattle.pg_run.specs.theory_flood.Laws.{IsClean}
use Rattle.pg_run.specs.theory_flood.Server.{Replica as Seen}
use Rattle.pg_run.proofs.theory_flood.Worlds.{clean_tags}
use Rattle.pg_run.specs.pg_intent.declared.intent.Intent.TheVariants as intent
use Rattle.pg_run.specs.pg_intent.declared.key.IntentKey.TheVariants as intent_key
use Rattle.pg_run.specs.pg_intent.Intents.{has_key}
use Rattle.theory_leaving.specs.Moment.{IsKept}
use Rattle.theory_leaving.specs.Protocol.{Word}
use Rattle.theory_leaving.specs.Rule.{MayDrop, Turn}
use Rattle.pg_run.specs.pg_msg.declared.message.Packet.{Packet}
use Rattle.pg_run.specs.pg_msg.declared.message.Sent.{Sent}
use Rattle.pg_run.specs.theory_flood_pieces.Seen.{seen}
use Rattle.pg_run.specs.pg_register.declared.flag.Flag.{Flag}
use Rattle.pg_run.specs.pg_register.Flag.{is_raised, is_raised_with}
use Rattle.pg_run.specs.pg_replica.declared.replica.Replica.{Replica}
use Rattle.pg_run.specs.pg_replica.Replicas.{or_nothing}
use Rattle.pg_run.specs.pg_server.declared.input.Input.TheVariants as input
use Rattle.pg_run.specs.pg_server.Local.{effect, takes_effect}
use Rattle.pg_run.specs.pg_store.declared.store.Store.{Store}
use Rattle.pg_run.specs.pg_store.Births.{birth_of}
use Rattle.pg_run.specs.pg_store.Seen.{server_of}
use Rattle.pg_run.specs.pg_store.Store.{replica_of}
use Rattle.pg_run.specs.pg_store.Together.{birth_at}
use Rattle.pg_run.specs.Carried.{gone_in}
use Rattle.pg_run.specs.Laws.{TakesIn, store_after}
use Rattle.pg_run.specs.Run.{Taking, run, taking_in}
use Rattle.law_leaving.specs.Premises.{StandOn}
use Rattle.law_leaving.specs.Seen.{flag_in, leaving, message_in}
use Rattle.law_leaving.specs.Taken.{Site}
use Rattle.law_leaving.proofs.Flags.{flag_at}
use Rattle.law_leaving.proofs.Leaves.{IsLeave, leave_by}
use Rattle.law_leaving.proofs.Moments.{GoesNow}
use Rattle.law_leaving.proofs.Ordered.{IsSeen, not_held}
use Rattle.law_leaving.proofs.Senders.{live_unremoved, sender_live}
use Rattle.law_leaving.proofs.Words.{leave_ok_says}

-- ---- of lists

found_contained : {A : Type 0} (test : A → Bool) (xs : List A) (x : A) → find test xs ≡ Some x → Contains xs x
found_contained test [] x h = absurd (none-some x h)
found_contained {A} test (y ∷ ys) x h = by (test y) h (found_contained test ys x)
  where
    by : (t : Bool) → cond t (Some y) (find test ys) ≡ Some x → (find test ys ≡ Some x → Contains ys x) → Contains (y ∷ ys) x
    by true here rest = (zero, omega arith, same_Some y x here)
    by false later rest = let k = rest later in let lt = k.1 in (suc k.0, omega arith, k.2)

none_pass : {A : Type 0} (test : A → Bool) (P : A → Type 0) → ((x : A) → test x ≡ false → P x) → (xs : List A) → find test xs ≡ None → All P xs
none_pass test P each [] h = All-nil P
none_pass {A} test P each (y ∷ ys) h = by (test y) refl h (none_pass test P each ys)
  where
    by : (t : Bool) → test y ≡ t → cond t (Some y) (find test ys) ≡ None → (find test ys ≡ None → All P ys) → All P (y ∷ ys)
    by true is found rest = absurd (none-some y (sym found))
    by false is none rest = All-cons P y ys (each y is) (rest none)

none_keys : (ks : List (Key × ℕ)) → not (is_none ks) ≡ false → ks ≡ []
none_keys [] h = refl
none_keys (k ∷ ks) h = absurd (false≢true (sym h))

all_clean : (es : List Edge) → find is_unclean es ≡ None → IsClean es
all_clean es h = none_pass is_unclean (λ (e : Edge). e.keys ≡ []) (λ e. none_keys e.keys) es h

-- a flag of the birth is not raised
not_raised : (f : Flag) (birth : ℕ) (t u : Bool) → f.raised ≡ t → (f.birth == birth) ≡ u → f.birth ≡ birth → (t && u) ≡ false → f.raised ≡ false
not_raised f birth false u is same born h = is
not_raised f birth true u is same born h = absurd (false≢true (sym h ∙ sym same ∙ eq-eqb f.birth birth born))

module _ (n : ℕ) (on : StandOn n) (file : FileId) (events : List Event) (event : Event) (t : Taking)
    (is : taking_in n (run n events) event ≡ Some t) (k : IsKept (leaving n file) events) (next : Site)
    (next_is : next.store ≡ (effect (store_after n events t.server) t.asked).store) where
  abbrev S : ℕ
  S = t.server

  abbrev A : Store
  A = store_after n events S

  -- what came
  abbrev Acting : Turn Site Sent
  Acting = record { server = S; next = next; heard = message_in S t.asked; sent = (effect A t.asked).out.sent }

  module _ (packet : Packet) (asked : t.asked ≡ input.Arrival packet) (takes : TakesIn n (run n events) event S (input.Arrival packet))
      (heard : takes_effect A (input.Arrival packet) ≡ true) (gone : gone_in A (input.Arrival packet) ≡ Some file)
      (leave : IsLeave A packet.from packet.message file) (own : ℕ) (x : Seen Cell) (has : IsSeen A file x) (born : x.birth ≡ own) where
    abbrev R : Replica
    R = leave.replica

    -- the replica that is seen is that of the leave
    view : seen A file R ≡ x
    view = same_Some (seen A file R) x (sym (ap (option_map (seen A file)) leave.held) ∙ has)

    births : own ≡ leave.ends.receiver
    births = sym born ∙ sym (ap (λ (z : Seen Cell). z.birth) view) ∙ leave.born

    own_birth : birth_at A file ≡ Some own
    own_birth = ap (option_map (λ (r : Replica). r.birth)) leave.held ∙ ap (λ b. Some b) (leave.born ∙ sym births)

    edges_clean : IsClean x.edges
    edges_clean =
        let of_replica : replica_of A leave.ends.file ≡ R = ap (replica_of A) leave.of ∙ ap or_nothing leave.held in
        let edges : find is_unclean R.edges ≡ None = ap (λ (r : Replica). find is_unclean r.edges) (sym of_replica) ∙ leave.may.clean in
        subst (λ (z : Seen Cell). IsClean z.edges) view (all_clean R.edges edges)

    lowered : (f : Flag) → flag_in (x.cells (key.Flag S)) ≡ Some f → f.birth ≡ own → f.raised ≡ false
    lowered f at of_own =
        let here = flag_at A file S f (ap (λ (z : Seen Cell). flag_in (z.cells (key.Flag S))) view ∙ at) in
        let server : server_of A ≡ S = (on.whole events S).server in
        let own_is : birth_of A file ≡ own = ap (λ (o : Option Replica). (or_nothing o).birth) leave.held ∙ leave.born ∙ sym births in
        let plain : is_gold A file ≡ false = ap (is_gold A) (sym leave.of) ∙ leave.may.plain in
        let flagged : is_raised_with (Some f) own ≡ false =
        ap (λ o. is_raised_with o own) (sym here) ∙ ap (λ u. is_raised (flags_of A file) u own) (sym server)
        ∙ ap (is_raised (flags_of A file) (server_of A)) (sym own_is) ∙ plain in
        not_raised f own f.raised (f.birth == own) refl refl of_own flagged

    told : (peer birth : ℕ) → is_listed x.edges peer birth ≡ true → Contains next.store.intents (intent.Bye file own peer birth)
    told peer birth listed =
        let l : is_listed R.edges peer birth ≡ true = ap (λ (z : Seen Cell). is_listed z.edges peer birth) view ∙ listed in
        let own_is : R.birth ≡ own = leave.born ∙ sym births in
        let none : (p b : ℕ) → Contains A.intents (intent.Bye file R.birth p b) → ⊥ =
        (λ p b h. (let past = k.owes S R.birth p b h in
        not_held n on file events S R.birth past.0 past.1 (own_birth ∙ ap (λ z. Some z) (sym own_is)))) in
        let P : ℕ → Type 0 = (λ z. Contains next.store.intents (intent.Bye file z peer birth)) in
        let Q : Store → Type 0 = (λ z. Contains z.intents (intent.Bye file R.birth peer birth)) in
        let same : (effect A (input.Arrival packet)).store ≡ next.store = ap (λ z. (effect A z).store) (sym asked) ∙ sym next_is in
        subst P own_is (subst Q same (on.events.told events event S (input.Arrival packet) takes file R peer birth heard gone leave.held l none))

    wanted : Contains A.intents (intent.Leave file packet.from leave.ends.sender)
    wanted =
        let P : FileId → Type 0 = (λ f. Contains A.intents (intent.Leave f packet.from leave.ends.sender)) in
        subst P leave.of
        (found_contained (has_key (intent_key.Leave leave.ends.file)) A.intents (intent.Leave leave.ends.file packet.from leave.ends.sender)
        leave.may.answered.stood)

    may_drop : MayDrop (leaving n file) events (events ++ event ∷ []) Acting own x
    may_drop =
        let m : Sent = record { to = S; packet = packet } in
        let word = leave_ok_says file packet.from S packet.message leave.ends leave.stamp leave.is leave.of in
        record {
          peer = packet.from;
          birth = leave.ends.sender;
          leave = (m, ap (message_in S) asked, word ∙ ap (λ b. Word.LeaveOk packet.from leave.ends.sender S b) (sym births));
          wanted = (wanted, own_birth);
          there = live_unremoved A packet.from (sender_live A packet heard);
          clean = λ peer birth q listed. clean_tags x.edges peer birth q edges_clean;
          lowered = lowered;
          byes = told;
        }

  pub drops : (own : ℕ) (x : Seen Cell) → IsSeen A file x × (x.birth ≡ own) → GoesNow n events event file S own x
      → MayDrop (leaving n file) events (events ++ event ∷ []) Acting own x
  drops own x held now =
      let packet = now.goes.packet in
      let it : Taking = record { server = S; asked = input.Arrival packet } in
      let asked : t.asked ≡ input.Arrival packet = ap (λ (z : Taking). z.asked) (same_Some t it (sym is ∙ now.goes.takes)) in
      may_drop packet asked now.goes.takes now.goes.heard now.goes.gone (leave_by A packet.from packet.message file now.goes.gone) own x held.0 held.1
