-- In each event a Bye begins only where a replica goes, of each of its edges, and ends only by its
-- peer's answer.
use Rattle.std.proofs.Common.{ℕ, ◌≡◌, ◌++◌, ◌⊎◌, Bool, true, false, cond, not, List, [], ◌∷◌, Option, None, Some, is_some, inl, inr, refl, sym, ap, subst, ◌∙◌}
use Rattle.std.specs.List.{find}
use Rattle.std.proofs.lemmas.Bool.{and_parts, false≢true, not-true}
use Rattle.std.proofs.lemmas.Option.{none-some}
use Rattle.pg_run.specs.pg_base.declared.id.FileId.{FileId}
use Rattle.pg_run.specs.pg_base.declared.stamp.Stamp.{Stamp}
use Rattle.pg_run.specs.pg_content.Content.{Among}
use Rattle.pg_run.proofs.pg_content.Members.{all_among}
use Rattle.pg_run.specs.pg_edges.Edges.{is_listed}
use Rattle.pg_run.specs.pg_event.declared.event.Event.{Event}
use Rattle.pg_run.proofs.theory_flood.Flood.{after_itself}
use Rattle.pg_run.specs.pg_intent.declared.intent.Intent.{Intent}
use Rattle.pg_run.specs.pg_intent.declared.intent.Intent.TheVariants as intent
use Rattle.pg_run.specs.pg_intent.declared.key.IntentKey.TheVariants as intent_key
use Rattle.pg_run.specs.pg_intent.Intent.{key_of}
use Rattle.pg_run.specs.pg_intent.Intents.{HaveOwnKeys, has_key, intent_at}
use Rattle.pg_run.specs.pg_intent.Key.{is_same_key}
use Rattle.pg_run.proofs.pg_intent.Found.{ended_found}
use Rattle.pg_run.proofs.pg_intent.SameKey.{is_same_key-true}
use Rattle.pg_run.proofs.pg_intent.Stands.{all_found}
use Rattle.pg_run.specs.pg_msg.declared.message.Ends.{Ends}
use Rattle.pg_run.specs.pg_msg.declared.message.Message.{Message}
use Rattle.pg_run.specs.pg_msg.declared.message.Message.TheVariants as message
use Rattle.pg_run.specs.pg_msg.declared.message.Packet.{Packet}
use Rattle.pg_run.specs.pg_msg.declared.work.Work.{Work}
use Rattle.pg_run.specs.pg_msg.Work.{new_work}
use Rattle.pg_run.specs.pg_replica.declared.replica.Replica.{Replica}
use Rattle.pg_run.specs.pg_replica.Replicas.{or_nothing}
use Rattle.pg_run.specs.pg_pieces.declared.accepting.EdgeUse.TheVariants as manner
use Rattle.pg_run.specs.pg_pieces.Accepting.{is_accepted, is_current}
use Rattle.pg_run.specs.pg_pieces.Done.{Done, idle}
use Rattle.pg_run.specs.pg_pieces.Parting.{stays_for}
use Rattle.pg_run.specs.pg_graph.Leaving.{begin_byes, goes, goes_now, goes_or_stays, leave_ok, may_leave, without_leave}
use Rattle.pg_run.proofs.pg_graph.LeaveOk.{found_keyed}
use Rattle.pg_run.specs.pg_server.declared.input.Input.{Input}
use Rattle.pg_run.specs.pg_server.declared.input.Input.TheVariants as input
use Rattle.pg_run.specs.pg_server.Local.{effect, is_heard, receive, takes_effect}
use Rattle.pg_run.specs.pg_store.declared.store.Store.{Store}
use Rattle.pg_run.specs.pg_store.Beginning.{let_go}
use Rattle.pg_run.specs.pg_store.Births.{birth_of, has_birth}
use Rattle.pg_run.specs.pg_store.Store.{replica_at, replica_of}
use Rattle.pg_run.specs.pg_store.Together.{birth_at}
use Rattle.pg_run.specs.Carried.{gone_by, gone_in}
use Rattle.pg_run.specs.Going.{ByesBeginWhereOneGoes, ByesEndByAnswers, EachPeerIsTold, Hears, IsRemovedBehind, Owes}
use Rattle.law_births.proofs.Entering.{removed_behind}
use Rattle.pg_run.specs.Intending.{IntentionsAreInOrder}
use Rattle.pg_run.specs.Laws.{TakesIn, store_after}
use Rattle.pg_run.specs.Run.{Step, World, run, start}
use Rattle.pg_run.proofs.Frame.{acts_is, next_is, run_more}
use Rattle.pg_run.proofs.Lists.{among_contained, contained_among}
use Rattle.law_births.proofs.ByeEvents.{Changes, arrival_bye, byes_begin, byes_leave, each_told, effect_bye, left_by, on, without_same}
use Rattle.law_births.proofs.ByeKeys.{ByeKey, bye_in}
use Rattle.law_births.proofs.Here.{birth_is, of_birth}

-- ---- what stands is found with its key

found_by : {A : Type 0} (x y : A) (ys : List A) (o : Option A) (t : Bool) → cond t (Some y) o ≡ Some x → (o ≡ Some x → Among x ys) → (x ≡ y) ⊎ Among x ys
found_by x y ys o true found later = inl (let same : y ≡ x = cc in sym same)
found_by x y ys o false found later = inr (later found)

found_in : {A : Type 0} (test : A → Bool) (xs : List A) (x : A) → find test xs ≡ Some x → Among x xs
found_in test [] x found = absurd (none-some x found)
found_in test (y ∷ ys) x found = found_by x y ys (find test ys) (test y) found (found_in test ys x)

module _ (file : FileId) (birth peer : ℕ) where
  abbrev Bye : ℕ → Intent
  Bye m = intent.Bye file birth peer m

  pub found_of : (a : Store) (m : ℕ) → HaveOwnKeys a.intents → Owes a file birth peer m → bye_in file birth peer a ≡ Some (Bye m)
  found_of a m own owed =
      all_among (λ (i : Intent). intent_at a.intents (key_of i) ≡ Some i) a.intents (Bye m) (all_found a.intents own)
      (contained_among a.intents (Bye m) owed)

  pub owed_of : (a : Store) (m : ℕ) → bye_in file birth peer a ≡ Some (Bye m) → Owes a file birth peer m
  owed_of a m found =
      among_contained a.intents (Bye m) (found_in (has_key (ByeKey file birth peer)) a.intents (Bye m) found)

  -- only a Bye has such a key
  same_key : (f : FileId) (n q : ℕ) → ByeKey file birth peer ≡ intent_key.Bye f n q → (file ≡ f) × (birth ≡ n) × (peer ≡ q)
  same_key f n q same = (cc, cc, cc)

  keyed : (i : Intent) → has_key (ByeKey file birth peer) i ≡ true → (m : ℕ) × (i ≡ Bye m)
  keyed (intent.Bye f n q m) has =
      let same = same_key f n q (is_same_key-true (ByeKey file birth peer) (intent_key.Bye f n q) has) in (
        m,
        ap (λ (g : FileId). intent.Bye g n q m) (sym same.0) ∙ ap (λ b. intent.Bye file b q m) (sym same.1)
            ∙ ap (λ p. intent.Bye file birth p m) (sym same.2),
      )
  keyed (intent.Seek f t) has = absurd (false≢true has)
  keyed (intent.Fill f b t) has = absurd (false≢true has)
  keyed (intent.Patch d e t) has = absurd (false≢true has)
  keyed (intent.Confirm d c t) has = absurd (false≢true has)
  keyed (intent.Leave f p n) has = absurd (false≢true has)

  none_by : (a : Store) (o : Option Intent) → bye_in file birth peer a ≡ o → ((m : ℕ) → Owes a file birth peer m → ⊥) → o ≡ None
  none_by a None found free = refl
  none_by a (Some i) found free =
      let k = keyed i (found_keyed (ByeKey file birth peer) i a.intents found) in
      absurd (free k.0 (owed_of a k.0 (found ∙ ap (λ (j : Intent). Some j) k.1)))

-- ---- where a replica goes

-- what it had is the birth that the leave names
pub leave_born : (a : Store) (x : Ends) (stamp : Stamp) (w : Work) → may_leave a x stamp w ≡ true → birth_at a x.file ≡ Some x.receiver
leave_born a x stamp w t =
    of_birth (replica_at a x.file) x.receiver
    (and_parts (has_birth a x.file x.receiver) _ (and_parts (is_current a w.from x) _ (and_parts (is_accepted a w.from manner.Answers x) _ t).0).0).0

goes_born : (a : Store) (x : Ends) (stamp : Stamp) (w : Work) → may_leave a x stamp w ≡ true → birth_at a x.file ≡ Some (birth_of a x.file)
goes_born a x stamp w t =
    let here = leave_born a x stamp w t in
    here ∙ ap (λ n. Some n) (sym (birth_is a x.file x.receiver here))

gone_is : (a : Store) (asked : Input) (packet : Packet) (x : Ends) (stamp : Stamp) → asked ≡ input.Arrival packet
    → packet.message ≡ message.LeaveOk x stamp → goes_now a x stamp (new_work 0 packet.from) ≡ true → gone_in a asked ≡ Some x.file
gone_is a asked packet x stamp is same now =
    ap (gone_in a) is ∙ ap (λ (m : Message). gone_by a packet.from m) same ∙ ap (λ t. cond t (Some x.file) None) now

gone_with : (a : Store) (from : ℕ) (x : Ends) (stamp : Stamp) (file : FileId) (t : Bool) → goes_now a x stamp (new_work 0 from) ≡ t
    → cond t (Some x.file) None ≡ Some file → (goes_now a x stamp (new_work 0 from) ≡ true) × (x.file ≡ file)
gone_with a from x stamp file true now there = (now, let same : x.file ≡ file = cc in same)
gone_with a from x stamp file false now there = absurd (none-some file there)

-- a replica goes with leave alone
pub leave_is : (a : Store) (from : ℕ) (m : Message) (file : FileId) → gone_by a from m ≡ Some file
    → (x : Ends) × (stamp : Stamp) × (m ≡ message.LeaveOk x stamp) × (goes_now a x stamp (new_work 0 from) ≡ true) × (x.file ≡ file)
leave_is a from (message.LeaveOk x stamp) file there =
    let k = gone_with a from x stamp file (goes_now a x stamp (new_work 0 from)) refl there in
    (x, stamp, refl, k.0, k.1)
leave_is a from m file there = absurd (none-some file there)

goes_is : (a : Store) (x : Ends) (stamp : Stamp) (w : Work) → goes_now a x stamp w ≡ true → leave_ok a x stamp w ≡ goes (without_leave a x.file) x.file w
goes_is a x stamp w now =
    let b = without_leave a x.file in
    let parts = and_parts (may_leave a x stamp w) (not (is_some (stays_for b x.file))) now in
    ap (λ t. cond t (goes_or_stays b x.file w) (idle a w)) parts.0
    ∙ ap (λ t. cond t (idle b w) (goes b x.file w)) (not-true (is_some (stays_for b x.file)) parts.1)

module _ (n : ℕ) (intends : IntentionsAreInOrder n) where
  abbrev At : List Event → ℕ → Store
  At events s = store_after n events s

  keys_now : (events : List Event) (e : Event) (s : ℕ) (asked : Input) → TakesIn n (run n events) e s asked → HaveOwnKeys (At events s).intents
  keys_now events e s asked takes =
      let acts = acts_is n (run n events) e (record { server = s; asked = asked }) takes in
      (intends events s acts.least acts.most).keys

  keys_then : (events : List Event) (e : Event) (s : ℕ) (asked : Input) → TakesIn n (run n events) e s asked
      → HaveOwnKeys (effect (At events s) asked).store.intents
  keys_then events e s asked takes =
      let acts = acts_is n (run n events) e (record { server = s; asked = asked }) takes in
      let is : At (events ++ e ∷ []) s ≡ (effect (At events s) asked).store =
      ap (λ (w : World). w.stores s) (run_more n (start n) events e)
      ∙ ap (λ (z : Step). z.stores s) (next_is n (run n events) e (record { server = s; asked = asked }) takes)
      ∙ after_itself (run n events).stores s (effect (At events s) asked).store in
      subst (λ (b : Store). HaveOwnKeys b.intents) is (intends (events ++ e ∷ []) s acts.least acts.most).keys

  -- BYES BEGIN WHERE ONE GOES
  pub byes_begin_where_one_goes : ByesBeginWhereOneGoes n
  byes_begin_where_one_goes events e s asked takes file birth peer peer_birth owed =
      let a = At events s in
      let Why : Type 0 = (gone_in a asked ≡ Some file) × (birth_at a file ≡ Some birth) in
      let P : Option Intent → Type 0 = λ o. (m : ℕ) → o ≡ Some (Bye file birth peer m) → Owes a file birth peer m ⊎ Why in
      let was : P (bye_in file birth peer a) = λ m found. inl (owed_of file birth peer a m found) in
      let nothing : P None = λ m none. absurd (none-some (Bye file birth peer m) none) in
      let heard_in : (packet : Packet) → asked ≡ input.Arrival packet → takes_effect a asked ≡ true → Changes file birth peer P a packet.message (new_work 0 packet.from) = λ packet is heard. (
      let w = new_work 0 packet.from in
      record {
        answered = λ f k same. subst P (sym (ended_found a.intents (intent_key.Bye f k packet.from) (ByeKey file birth peer)))
            (less P (is_same_key (ByeKey file birth peer) (intent_key.Bye f k packet.from)) (bye_in file birth peer a) nothing was);
        left = λ x stamp same. (
            let b = without_leave a x.file in
            let ended : P (bye_in file birth peer b) = on file birth peer P (without_same file birth peer a x.file) was in
            left_by a x stamp w (λ (d : Done). P (bye_in file birth peer d.store)) was ended
            (λ may now.
            let gone : gone_in a asked ≡ Some x.file = gone_is a asked packet x stamp is same now in
            let born = goes_born a x stamp w may in
            byes_begin file birth peer P x.file (birth_of a x.file)
            (λ of_file of_birth o m there. inr (
              gone ∙ ap (λ (f : FileId). Some f) (sym of_file),
              ap (birth_at a) of_file ∙ born ∙ ap (λ k. Some k) (sym of_birth),
            ))
            (replica_of a x.file).edges (idle (let_go b x.file) w) ended));
      }) in
      effect_bye file birth peer P a asked (record { says = heard_in; entered = λ moment view u is at. nothing }) was peer_birth
      (found_of file birth peer (effect a asked).store peer_birth (keys_then events e s asked takes) owed)
    where
      less : (P : Option Intent → Type 0) (t : Bool) (o : Option Intent) → P None → P o → P (cond t None o)
      less P true o none was = none
      less P false o none was = was

  -- BYES END BY ANSWERS
  pub byes_end_by_answers : ByesEndByAnswers n
  byes_end_by_answers events e s asked takes file birth peer peer_birth owed =
      let a = At events s in
      let Answered : Type 0 = (packet : Packet) × Hears a asked packet × (packet.from ≡ peer) × (packet.message ≡ message.ByeOk file birth) in
      let Why : Type 0 = Answered ⊎ IsRemovedBehind a asked peer in
      let P : Option Intent → Type 0 = λ o. (o ≡ Some (Bye file birth peer peer_birth)) ⊎ Why in
      let was : P (bye_in file birth peer a) = inl (found_of file birth peer a peer_birth (keys_now events e s asked takes) owed) in
      let heard_in : (packet : Packet) → asked ≡ input.Arrival packet → takes_effect a asked ≡ true → Changes file birth peer P a packet.message (new_work 0 packet.from) = λ packet is heard. (
      let w = new_work 0 packet.from in
      record {
        answered = λ f k same. subst P (sym (ended_found a.intents (intent_key.Bye f k packet.from) (ByeKey file birth peer)))
            (less P (is_same_key (ByeKey file birth peer) (intent_key.Bye f k packet.from)) (bye_in file birth peer a)
            (λ t.
            let parts = same_key file birth peer f k packet.from
            (is_same_key-true (ByeKey file birth peer) (intent_key.Bye f k packet.from) t) in
            inr (inl (
              packet,
              record { is = is; heard = heard },
              sym parts.2,
              same ∙ ap (λ (g : FileId). message.ByeOk g k) (sym parts.0) ∙ ap (λ b. message.ByeOk file b) (sym parts.1),
            ))) was);
        left = λ x stamp same. (
            let b = without_leave a x.file in
            let ended : P (bye_in file birth peer b) = on file birth peer P (without_same file birth peer a x.file) was in
            left_by a x stamp w (λ (d : Done). P (bye_in file birth peer d.store)) was ended
            (λ may now. elim ended [
              | inl stood ↦ inl (byes_leave file birth peer x.file (birth_of a x.file) peer_birth (replica_of a x.file).edges (idle (let_go b x.file) w) stood)
              | inr answered ↦ inr answered
            ]));
      }) in
      elim (effect_bye file birth peer P a asked (record {
        says = heard_in;
        entered = λ moment view u is at. inr (inr (removed_behind a asked moment view peer u is at));
      }) was) [
        | inl stands ↦ inl (owed_of file birth peer (effect a asked).store peer_birth stands)
        | inr answered ↦ inr answered
      ]
    where
      less : (P : Option Intent → Type 0) (t : Bool) (o : Option Intent) → (t ≡ true → P None) → P o → P (cond t None o)
      less P true o none was = none refl
      less P false o none was = was

  -- ---- each peer is told

  told_at : (a : Store) (packet : Packet) (x : Ends) (stamp : Stamp) (y : Replica) (peer peer_birth : ℕ) → is_heard a packet ≡ true
      → packet.message ≡ message.LeaveOk x stamp → goes_now a x stamp (new_work 0 packet.from) ≡ true → replica_at a x.file ≡ Some y
      → is_listed y.edges peer peer_birth ≡ true → ((p b : ℕ) → Owes a x.file y.birth p b → ⊥)
      → Owes (effect a (input.Arrival packet)).store x.file y.birth peer peer_birth
  told_at a packet x stamp y peer peer_birth heard same now there listed free =
      let f = x.file in
      let w = new_work 0 packet.from in
      let b = without_leave a f in
      let d = idle (let_go b f) w in
      let P : Option Intent → Type 0 = λ o. o ≡ Some (Bye f y.birth peer peer_birth) in
      let none : bye_in f y.birth peer b ≡ None =
      without_same f y.birth peer a f ∙ none_by f y.birth peer a (bye_in f y.birth peer a) refl (λ m owed. free peer m owed) in
      let told : P (bye_in f y.birth peer (begin_byes f y.birth y.edges d).store) = each_told f y.birth peer peer_birth y.edges listed d none in
      let of_a : P (bye_in f y.birth peer (goes b f w).store) =
      subst (λ (z : Replica). P (bye_in f y.birth peer (begin_byes f z.birth z.edges d).store)) (sym (ap or_nothing there)) told in
      let is : receive a packet.message w ≡ goes b f w = ap (λ (m : Message). receive a m w) same ∙ goes_is a x stamp w now in
      owed_of f y.birth peer (effect a (input.Arrival packet)).store peer_birth
      (arrival_bye f y.birth peer P a packet heard (subst (λ (c : Done). P (bye_in f y.birth peer c.store)) (sym is) of_a))

  told_by : (a : Store) (asked : Input) (file : FileId) (y : Replica) (peer peer_birth : ℕ) → takes_effect a asked ≡ true → gone_in a asked ≡ Some file
      → replica_at a file ≡ Some y → is_listed y.edges peer peer_birth ≡ true → ((p b : ℕ) → Owes a file y.birth p b → ⊥)
      → Owes (effect a asked).store file y.birth peer peer_birth
  told_by a (input.Call moment call) file y peer peer_birth heard gone there listed free = absurd (none-some file gone)
  told_by a (input.Tick moment word) file y peer peer_birth heard gone there listed free = absurd (none-some file gone)
  told_by a (input.Arrival packet) file y peer peer_birth heard gone there listed free =
      let k = leave_is a packet.from packet.message file gone in
      let R : FileId → Type 0 = λ f. replica_at a f ≡ Some y → ((p b : ℕ) → Owes a f y.birth p b → ⊥)
      → Owes (effect a (input.Arrival packet)).store f y.birth peer peer_birth in
      subst R k.4 (λ held none. told_at a packet k.0 k.1 y peer peer_birth heard k.2 k.3 held listed none) there free
  told_by a input.Restart file y peer peer_birth heard gone there listed free = absurd (none-some file gone)

  -- EACH PEER IS TOLD
  pub each_peer_is_told : EachPeerIsTold n
  each_peer_is_told events e s asked takes file x peer peer_birth heard gone there listed free =
      told_by (At events s) asked file x peer peer_birth heard gone there listed free
