-- What comes of each message: the server stays sound, and what is answered is said.
use Rattle.std.proofs.Common.{ℕ, ◌≡◌, ◌==◌, ◌&&◌, Bool, true, false, not, eq-eqb, Some, refl, sym, ap, subst, ◌∙◌}
use Rattle.std.proofs.lemmas.Bool.{and_parts, false≢true}
use Rattle.std.proofs.lemmas.List.Elements.{All-contains}
use Rattle.law_frame.specs.pg_run.pg_base.declared.id.FileId.{FileId}
use Rattle.law_frame.specs.pg_run.pg_base.declared.stamp.Stamp.{Stamp}
use Rattle.law_frame.specs.pg_run.pg_base.Id.{is_same_file}
use Rattle.law_frame.proofs.pg_run.pg_base.Orders.{is_same_file-true}
use Rattle.law_frame.specs.pg_run.pg_intent.declared.intent.Intent.TheVariants as intent
use Rattle.law_frame.specs.pg_run.pg_intent.declared.key.IntentKey.{IntentKey}
use Rattle.law_frame.specs.pg_run.pg_intent.declared.key.IntentKey.TheVariants as intent_key
use Rattle.law_frame.specs.pg_run.pg_intent.Intents.{aimed, ended}
use Rattle.law_frame.proofs.pg_run.pg_intent.Kept.{own-aimed}
use Rattle.law_frame.specs.pg_run.pg_msg.declared.message.Ends.{Ends}
use Rattle.law_frame.specs.pg_run.pg_msg.declared.message.Message.{Message}
use Rattle.law_frame.specs.pg_run.pg_msg.declared.message.Message.TheVariants as message
use Rattle.law_frame.specs.pg_run.pg_msg.declared.summary.Greeting.TheVariants as greeting
use Rattle.law_frame.specs.pg_run.pg_msg.declared.work.Slot.{Slot}
use Rattle.law_frame.specs.pg_run.pg_msg.declared.work.Work.{Work}
use Rattle.law_frame.specs.pg_run.pg_names.declared.attributes.Attributes.{Attributes}
use Rattle.law_frame.specs.pg_run.pg_names.Names.{fill as fill_names, is_dir, or_blank, own_or_blank}
use Rattle.law_frame.specs.pg_run.pg_register.declared.place.Place.{Place}
use Rattle.law_frame.specs.pg_run.pg_register.Flag.{IsByServer}
use Rattle.law_frame.specs.pg_run.pg_register.Place.{blank_place, root}
use Rattle.law_frame.specs.pg_run.pg_replica.declared.replica.Replica.{Replica}
use Rattle.law_frame.specs.pg_run.pg_store.declared.store.Store.{Store}
use Rattle.law_frame.specs.pg_run.pg_store.Beginning.{let_go, with_intents}
use Rattle.law_frame.specs.pg_run.pg_store.Births.{birth_of, with_wishes}
use Rattle.law_frame.specs.pg_run.pg_store.Links.{unlink}
use Rattle.law_frame.specs.pg_run.pg_store.Seen.{server_of}
use Rattle.law_frame.specs.pg_run.pg_store.Store.{acknowledge, keep_delta, replica_at, with_names}
use Rattle.law_frame.specs.pg_run.pg_store.Wishes.{aim_wish}
use Rattle.law_frame.proofs.pg_run.pg_store.Aiming.{aim_births, aimed_births}
use Rattle.law_frame.proofs.pg_run.pg_store.Given.{pending_may}
use Rattle.law_frame.specs.pg_run.pg_pieces.Accepting.{ends_to}
use Rattle.law_frame.specs.pg_run.pg_pieces.Done.{Done, idle, link_of}
use Rattle.law_frame.specs.pg_run.pg_graph.Leaving.{bye_to, without_leave}
use Rattle.law_frame.proofs.pg_run.pg_graph.LeaveOk.{MayGo}
use Rattle.law_frame.specs.pg_run.pg_repair.Fetching.{granted_from, place_to_grant}
use Rattle.law_frame.specs.pg_run.pg_repair.Granting.{begun_by, granted_own}
use Rattle.law_frame.specs.pg_run.pg_server.Local.{receive}
use Rattle.law_frame.specs.pg_run.pg_server.pg_transfer.Asking.{with_notes}
use Rattle.law_frame.specs.pg_run.theory_flood_pieces.Whole.{IsOther}
use Rattle.law_frame.proofs.pg_run.theory_flood_pieces.Choices.{decided}
use Rattle.law_frame.proofs.pg_run.theory_flood_pieces.Together.{held_of_replica, own_of_held}
use Rattle.law_frame.proofs.Keeps.{Answers, Keeps}
use Rattle.law_frame.proofs.Received.{receive_keeps}
use Rattle.law_order.specs.Saying.{IsClosed, IsIntended, IsSaidGranted, IsSaidLeft, IsSaidOfMessage, IsSaidOwn, IsSaidTold, Saying}
use Rattle.law_order.proofs.Bodies.{sound_kept, sound_noted}
use Rattle.law_order.proofs.Gone.{sound_gone}
use Rattle.law_order.proofs.Intended.{all_aimed, own_said as own_told}
use Rattle.law_order.proofs.Pieces.{found_has}
use Rattle.law_order.proofs.Sent.{own_said}
use Rattle.law_order.proofs.Sounding.{Sound, sound_acknowledge, sound_alike, sound_begun, sound_ended, sound_filled, sound_unlink}
use Rattle.law_order.proofs.Taking.{IsMember, SoFar, so_begins, so_entry, so_entry_cell, so_flag, so_link, so_place, so_raised, so_reply, so_sent, so_store, so_tail, so_version}

module _ (p : Saying) (c : IsClosed p) (n s : ℕ) (mine : IsMember p n s) where
  abbrev Far : Done → Type 0
  Far d = SoFar p c n s d

  -- ---- others are asked, and replicas filled

  sound_aimed : (a : Store) (q : IntentKey) (to : ℕ) → Sound p n s a → Sound p n s (with_intents a (aimed a.intents q to))
  sound_aimed a q to k =
      sound_alike p n s a k (with_intents a (aimed a.intents q to)) (record { servers = refl; tags = refl; names = refl; replicas = refl })
      (aimed_births a q to k.births) (own-aimed a.intents q to k.keys) (all_aimed p a.intents q to k.named.intents)

  so_aimed : (d : Done) (q : IntentKey) (to : ℕ) → Far d → Far (idle (with_intents d.store (aimed d.store.intents q to)) d.work)
  so_aimed d q to k = so_store p c n s d (with_intents d.store (aimed d.store.intents q to)) k (sound_aimed d.store q to k.store)

  sound_wish : (a : Store) (f : FileId) (to : ℕ) → Sound p n s a → Sound p n s (with_wishes a (aim_wish a.wishes f to))
  sound_wish a f to k =
      sound_alike p n s a k (with_wishes a (aim_wish a.wishes f to)) (record { servers = refl; tags = refl; names = refl; replicas = refl })
      (aim_births a f to k.births) k.keys k.named.intents

  pub so_filled : (d : Done) (f : FileId) → Far d → Far (idle (with_names d.store (fill_names d.store.names f)) d.work)
  so_filled d f k = so_store p c n s d (with_names d.store (fill_names d.store.names f)) k (sound_filled p n s d.store k.store f)

  -- ---- what is answered

  -- the root is no dead directory
  dead_apart : (f : FileId) (place : Place) (t : Bool) → is_same_file f root ≡ t → p.IsPlace f place → place.live ≡ false → t ≡ false
  dead_apart f place false same here dead = refl
  dead_apart f place true same here dead =
      let at : p.IsPlace root place = subst (λ (x : FileId). p.IsPlace x place) (is_same_file-true f root same) here in
      absurd (false≢true (sym dead ∙ c.first place at))

  not_live : (t : Bool) → not t ≡ true → t ≡ false
  not_live true h = absurd (false≢true h)
  not_live false h = refl

  place_granted : (f : FileId) (own : Attributes) → IsSaidOwn p f own → p.IsPlace f (place_to_grant f own.place)
  place_granted f own here =
      decided (p.IsPlace f) (is_dir f && not own.place.live) (blank_place f) own.place
      (λ dead.
      let gone = not_live own.place.live (and_parts (is_dir f) (not own.place.live) dead).1 in
      c.blank f (dead_apart f own.place (is_same_file f root) refl here.place gone) here.thing)
      (λ live. here.place)

  grant_said : (a : Store) → Sound p n s a → (f : FileId) (x : Replica) → replica_at a f ≡ Some x → IsSaidGranted p f (granted_from f (own_or_blank a.names f) x)
  grant_said a k f x at =
      let own = own_or_blank a.names f in
      let here = own_said p n s a k f x at in
      let held = own_of_held a.names f (held_of_replica a k.whole.together f x at) in
      record {
        thing = here.thing;
        place = place_granted f own here;
        flags = here.flags;
        order = subst (λ (o : Attributes). IsByServer o.flags) (sym (ap (or_blank f) held.1)) (k.whole.names.sorted f held.0 held.1);
      }

  answer_said : (a : Store) (m : Message) (d : Done) (r : Message) → IsSaidOfMessage p m → Answers a m d.store r → Far d → IsSaidOfMessage p r
  answer_said a m d (message.Grant ends granted) said of k =
      subst (IsSaidGranted p ends.file) (sym of.what) (grant_said d.store k.store ends.file of.here of.at)
  answer_said a m d (message.PlaceIs dir e) said of k =
      let told : IsSaidTold p dir of.0 = subst (IsSaidOfMessage p) of.1 said in
      let slot : Slot = record { dir = dir; child = of.0.child } in
      let left : IsSaidLeft p slot = record { dir = told.dir; of = told.of; thing = told.cell.thing; child = told.cell.child } in
      subst (IsSaidTold p dir) (sym of.2) (own_told p c d.store slot (k.store.named.said, k.store.named.intents) left)
  answer_said a m d (message.Cell ends tag x) said of k = absurd of
  answer_said a m d (message.Confirm dir e) said of k = absurd of
  answer_said a m d (message.Tell dir e) said of k = absurd of
  answer_said a m d (message.Walk ends origin birth hops word) said of k = absurd of
  answer_said a m d r said of k = tt

  -- ---- a message

  module _ (a : Store) (w : Work) (m : Message) (other : IsOther n s w.from) (said : IsSaidOfMessage p m) (first : Far (idle a w)) where
    leaves_said : (ends : Ends) (stamp : Stamp) → MayGo a ends stamp w → IsIntended p (intent.Leave ends.file w.from ends.sender)
    leaves_said ends stamp may =
        found_has (IsIntended p) (intent_key.Leave ends.file) (intent.Leave ends.file w.from ends.sender) a.intents first.store.named.intents may.answered.stood

    -- the origin of a walk that goes on is another server
    met : (ends : Ends) (origin birth hops word : ℕ) → m ≡ message.Walk ends origin birth hops word → (origin == server_of a) ≡ false → IsOther n s origin
    met ends origin birth hops word is apart =
        mine.others origin (subst (IsSaidOfMessage p) is said)
        (λ same. false≢true (sym apart ∙ eq-eqb origin (server_of a) (same ∙ sym first.store.whole.server)))

    keeps_far : Keeps a w m Far
    keeps_far = record {
      cell_place = λ d ends tag x is here k. so_place p c n s d ends.file x (subst (IsSaidOfMessage p) is said) k;
      cell_flag = λ d ends tag g is here k. so_flag p c n s d ends.file g (subst (IsSaidOfMessage p) is said) k;
      cell_entry = λ d ends tag e sure is dir here k. so_entry_cell p c n s d ends.file e sure (subst (IsSaidOfMessage p) is said) k;
      version = λ d file v is k. so_version p c n s d file v k;
      told_place = λ d dir e is held apart k. (
          let told : IsSaidTold p dir e = subst (IsSaidOfMessage p) is said in
          so_place p c n s d e.child e.place told.cell.place k);
      told_flag = λ d dir e g is held among k. (
          let told : IsSaidTold p dir e = subst (IsSaidOfMessage p) is said in
          so_flag p c n s d e.child g (All-contains p.IsFlag e.flags g told.cell.flags among) k);
      place_is = λ d dir e is held k. so_entry p c n s d dir e (subst (IsSaidOfMessage p) is said) k;
      tell = λ d dir e is held k. so_entry p c n s d dir e (subst (IsSaidOfMessage p) is said) k;
      links = λ d file birth is same k. so_link p c n s d file d.work.from birth (subst (IsOther n s) (sym same) other) k;
      meets = λ d ends origin birth hops word is here k. so_link p c n s d ends.file origin birth (met ends origin birth hops word is here.1) k;
      unlinks = λ d file birth is same k.
          so_store p c n s d (unlink d.store file d.work.from birth) k (sound_unlink p n s d.store k.store file d.work.from birth);
      acknowledges = λ d ends q tag is same k. (
          let link = link_of d.work.from ends in
          so_store p c n s d (acknowledge d.store ends.file link q tag) k (sound_acknowledge p n s d.store k.store ends.file link q tag));
      begins = λ ends g is pending k. (
          let of : IsSaidGranted p ends.file g = subst (IsSaidOfMessage p) is said in
          so_store p c n s (idle a w) (begun_by a ends g) k
          (sound_begun p n s a k.store ends.file ends.receiver g.policy (granted_own g) false
          (pending_may a ends.file ends.receiver k.store.births pending) of.order
          (record { thing = of.thing; place = of.place; flags = of.flags; order = of.order })));
      fills = λ ends is here filling k. so_filled (idle a w) ends.file k;
      raises = λ d ends is here few k. so_raised p c n s d ends.file mine k;
      goes = λ ends stamp is may k. (
          let b = without_leave a ends.file in
          so_store p c n s (idle b w) (let_go b ends.file) k
          (sound_gone p n s b ends.file (c.other ends.file (leaves_said ends stamp may).1) k.store));
      says_bye = λ d ends stamp e is may among k.
          so_begins p c n s d (bye_to ends.file (birth_of a ends.file) e) (λ q. refl) (leaves_said ends stamp may).0 k;
      ends_intent = λ d q is k. so_store p c n s d (with_intents d.store (ended d.store.intents q)) k (sound_ended p n s d.store k.store q);
      turns_intent = λ d q to is k. so_aimed d q to k;
      asks_granter = λ d ends g is same k. so_aimed d (intent_key.Fill ends.file) d.work.from k;
      turns_wish = λ d file to is k.
          so_store p c n s d (with_wishes d.store (aim_wish d.store.wishes file to)) k (sound_wish d.store file to k.store);
      answers = λ d r of same k. so_reply p c n s d r k (answer_said a m d r said of k);
      tells_origin = λ d ends origin birth hops word is here k.
          so_sent p c n s d origin (message.Greet (ends_to d.store ends.file birth) greeting.Meet) k tt;
      passes_on = λ ends origin birth hops word left rest i e is here at k.
          so_tail p c n s (idle a w) e.peer (message.Walk (ends_to a ends.file e.birth) origin birth left rest) k
          (subst (IsSaidOfMessage p) is said);
      notes = λ d ns k. so_store p c n s d (with_notes d.store ns) k (sound_noted p n s d.store k.store ns);
      keeps = λ d file delta k. so_store p c n s d (keep_delta d.store file delta) k (sound_kept p n s d.store k.store file delta);
      tells = λ d ends head e of there k.
          so_sent p c n s d e.peer (message.Harbinger (ends_to d.store ends.file e.birth) 0 head) k tt;
    }

  -- A MESSAGE
  pub so_received : (a : Store) (w : Work) (m : Message) → IsOther n s w.from → IsSaidOfMessage p m → Far (idle a w) → Far (receive a m w)
  so_received a w m other said k = receive_keeps a w Far m (keeps_far a w m other said k) k
