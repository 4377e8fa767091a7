-- What is said of births and flags is said of what a server holds and sends behind any event.
use Rattle.std.proofs.Common.{ℕ, ◌≡◌, ◌++◌, Bool, true, false, cond, List, [], Option, None, Some, is_some, All, inl, inr, refl, sym, ap, subst, ◌∙◌}
use Rattle.std.specs.Option.{option_map, option_or}
use Rattle.std.specs.List.{flat_map}
use Rattle.std.proofs.lemmas.List.Elements.{All-append, All-nil}
use Rattle.pg_run.specs.pg_base.declared.id.FileId.{FileId}
use Rattle.pg_run.specs.pg_base.Id.{file_cmp}
use Rattle.pg_run.proofs.pg_base.Maps.{lookup-insert_entry}
use Rattle.pg_run.proofs.pg_base.Orders.{file_total, is_same_file-refl}
use Rattle.pg_run.specs.pg_intent.declared.intent.Intent.{Intent}
use Rattle.pg_run.specs.pg_intent.declared.intent.Intent.TheVariants as intent
use Rattle.pg_run.specs.pg_base.declared.stamp.Stamp.{Stamp}
use Rattle.pg_run.specs.pg_msg.declared.message.Ends.{Ends}
use Rattle.pg_run.specs.pg_msg.declared.message.Message.TheVariants as message
use Rattle.pg_run.specs.pg_msg.declared.work.Work.{Work}
use Rattle.pg_run.specs.pg_msg.Work.{new_work}
use Rattle.pg_run.specs.pg_names.Names.{InodeValue, NamesValue, is_held as names_hold, known as names_known}
use Rattle.pg_run.specs.pg_register.declared.flag.Flag.{Flag}
use Rattle.pg_run.specs.pg_replica.declared.replica.Replica.{Replica}
use Rattle.pg_run.specs.pg_server.declared.input.Input.{Input}
use Rattle.pg_run.specs.pg_server.declared.input.Input.TheVariants as input
use Rattle.pg_run.specs.pg_server.Local.{Effect, closed, effect, finished, first_effect, is_heard, receive, reply_to, sent_again, settled, takes_effect, ticked, without_sources}
use Rattle.pg_run.specs.pg_store.declared.store.Store.{Store}
use Rattle.pg_run.specs.pg_store.declared.wishes.Wish.{Wish}
use Rattle.pg_run.specs.pg_store.Births.{birth_of, draw_birth, fill_at, has_birth, is_pending, wish_at, with_birth, with_wish}
use Rattle.pg_run.specs.pg_store.Seen.{removed_of, server_of}
use Rattle.pg_run.specs.pg_store.Store.{is_held, is_before_clock_end, replica_at}
use Rattle.pg_run.specs.pg_store.Together.{birth_at}
use Rattle.pg_run.specs.pg_pieces.Done.{Done, idle}
use Rattle.pg_run.specs.pg_pieces.Golds.{is_goldless, is_goldless_held}
use Rattle.pg_run.specs.pg_pieces.Making.{own_next, raise_flag}
use Rattle.pg_run.specs.pg_cells.Ticks.{tick}
use Rattle.pg_run.proofs.pg_cells.Settled.{settle_keeps}
use Rattle.pg_run.specs.pg_cells.Sending.{Wanted, cells_where, is_any, is_chosen}
use Rattle.pg_run.specs.pg_checks.Asking.{fresh_wish, standing, wish_by}
use Rattle.pg_run.specs.pg_graph.Leaving.{goes_now}
use Rattle.pg_run.specs.pg_intentions.Requests.{ask_all, asks, asks_by}
use Rattle.pg_run.proofs.pg_intentions.Steady.{begin_end_stays}
use Rattle.pg_run.specs.pg_intent.declared.key.IntentKey.{IntentKey}
use Rattle.pg_run.proofs.theory_flood_pieces.Choices.{chosen, decided}
use Rattle.pg_run.specs.Births.{AllNamed}
use Rattle.pg_run.proofs.Event.{all_sent, end_of, store_is}
use Rattle.law_order.proofs.law_frame.Keeps.{along}
use Rattle.law_births.specs.Flags.{SaysMessage, SaysStore}
use Rattle.law_births.proofs.Calls.{fill_only}
use Rattle.law_births.proofs.EndsSay.{SaysEnds, ends_same}
use Rattle.law_births.proofs.Effects.{intended_shapes}
use Rattle.law_births.proofs.Forward.{settle_wish, wish_comes}
use Rattle.law_births.proofs.Has.{Has, IsWished}
use Rattle.law_births.proofs.Here.{birth_is, birth_of_held}
use Rattle.law_births.proofs.Pieces.{Shape, Stays, flag_stays, rules_stay, settle_stays, shape, shape_at, stays_itself, stays_then}
use Rattle.law_births.proofs.FineCalls.{fine_call}
use Rattle.law_births.proofs.Received.{fine_received}
use Rattle.law_births.proofs.Mails.{OfBirths, Owed, SaysSent}
use Rattle.law_births.proofs.Saying.{IsSaid}
use Rattle.law_births.proofs.Sends.{Sorted, asks_all, asks_some, cells_say}
use Rattle.law_births.proofs.StoreSays.{say_begin_end, say_flag, say_rules}
use Rattle.law_births.proofs.Walking.{said_walk_of_tick}

-- what is known of an input that comes
abbrev pub Known : (FileId → ℕ → ℕ → Type 0) → ℕ → Input → Type 0
Known P s (input.Call moment call) = Unit {0}
Known P s (input.Tick moment word) = Unit {0}
Known P s (input.Arrival packet) = AllNamed P packet.from s packet.message × SaysMessage (OfBirths P) packet.message
Known P s input.Restart = Unit {0}

-- where a message comes to a replica that is not here and not to come, it is gone; and so it is
-- behind the leave with which it goes
abbrev pub Freshly : (FileId → ℕ → Type 0) → Store → Input → Type 0
Freshly G a (input.Call moment call) = Unit {0}
Freshly G a (input.Tick moment word) = Unit {0}
Freshly G a (input.Arrival packet) = ((ends : Ends) → along packet.message ≡ Some ends
    → has_birth a ends.file ends.receiver ≡ false → is_pending a ends.file ends.receiver ≡ false → G ends.file ends.receiver)
    × (is_heard a packet ≡ true → (x : Ends) (stamp : Stamp) → packet.message ≡ message.LeaveOk x stamp
    → goes_now a x stamp (new_work 0 packet.from) ≡ true → G x.file x.receiver)
Freshly G a input.Restart = Unit {0}

wish_birth : (v w : Wish) → ◌≡◌ {A = Option Wish} (Some v) (Some w) → v.birth ≡ w.birth
wish_birth v w e = (let z : v ≡ w = cc in ap (λ (x : Wish). x.birth) z)

-- what sees no gold is held
goldless_by : (removed : List ℕ) (server birth : ℕ) (o : Option InodeValue) → is_goldless_held removed server birth o ≡ true → is_some o ≡ true
goldless_by removed server birth None h = absurd (let z : false ≡ true = h in cc)
goldless_by removed server birth (Some x) h = refl

goldless_there : (b : Store) (f : FileId) → is_goldless b f ≡ true → is_held b f ≡ true
goldless_there b f h = goldless_by (removed_of b) (server_of b) (birth_of b f) (names_known b.names f) h

-- ---- births that go on to the end of the event

birth_by : (o : Option Shape) (n : ℕ) → option_map (λ (z : Shape). z.0) o ≡ Some n → (es : List (ℕ × ℕ)) × (o ≡ Some (n, es))
birth_by None n e = cc
birth_by (Some z) n e = (z.1, let same : z.0 ≡ n = cc in ap (λ (m : ℕ). Some (m, z.1)) same)

birth_shape : (o : Option Replica) → option_map (λ (z : Shape). z.0) (option_map shape o) ≡ option_map (λ (x : Replica). x.birth) o
birth_shape None = refl
birth_shape (Some x) = refl

pub birth_same : (a b : Store) (f : FileId) → shape_at b f ≡ shape_at a f → birth_at b f ≡ birth_at a f
birth_same a b f same =
    sym (birth_shape (replica_at b f)) ∙ ap (λ (o : Option Shape). option_map (λ (z : Shape). z.0) o) same ∙ birth_shape (replica_at a f)

-- the names of an event at one server: a before, d behind the first effect, b in the end
module _ (a : Store) (asked : Input) where
  abbrev First : Done
  First = first_effect a asked

  abbrev End : Store
  End = (effect a asked).store

  end_shapes : (q : FileId) → shape_at End q ≡ shape_at First.store q
  end_shapes q =
      chosen (λ (e : Effect). shape_at e.store q ≡ shape_at First.store q) (takes_effect a asked) (closed (reply_to a asked) First)
      (finished (reply_to a asked) First)
      (intended_shapes (settled First) q ∙ (settle_stays First.store First.work).shapes q) refl

  end_held : (q : FileId) → is_held End q ≡ is_held First.store q
  end_held q =
      let s = settled First in
      chosen (λ (e : Effect). is_held e.store q ≡ is_held First.store q) (takes_effect a asked) (closed (reply_to a asked) First)
      (finished (reply_to a asked) First)
      (ap (λ (names : NamesValue). names_hold names q) (begin_end_stays s.store s.work).names
      ∙ (settle_stays First.store First.work).before.held q) refl

  pub born_on : (q : FileId) (n : ℕ) → birth_at First.store q ≡ Some n → birth_at End q ≡ Some n
  born_on q n there = birth_same First.store End q (end_shapes q) ∙ there

  pub wish_on : (q : FileId) (n : ℕ) → IsWished First.store q n → Has End q n
  wish_on q n there =
      chosen (λ (e : Effect). Has e.store q n) (takes_effect a asked) (closed (reply_to a asked) First) (finished (reply_to a asked) First)
      (inr (wish_comes q n (settled First).store (settled First).work (settle_wish q n First.store First.work there))) (inr (inl there))

-- what is said of a server
pub record IsKnownAt (P : FileId → ℕ → ℕ → Type 0) (G : FileId → ℕ → Type 0) (s : ℕ) (a : Store) : Type 0 where
  pub store : SaysStore (OfBirths P) (Owed P G s) s a
  pub edges : SaysEnds P a

module _ (P : FileId → ℕ → ℕ → Type 0) (G : FileId → ℕ → Type 0) (s : ℕ) where
  abbrev Of : FileId → Flag → Type 0
  Of f flag = OfBirths P f flag

  abbrev Knows : Store → Type 0
  Knows a = (f : FileId) (n : ℕ) → Has a f n → P f s n

  abbrev Said0 : Done → Type 0
  Said0 d = IsSaid P Of G s d.work.from d

  said_from : (from : ℕ) (d : Done) → IsSaid P Of G s from d → Said0 d
  said_from from d h = record { store = h.store; edges = h.edges; sent = h.sent; tail = h.tail; asker = refl }

  -- what a tick sends, of what the server holds then
  module _ (a : Store) (k : IsKnownAt P G s a) (before : Knows a) (sorted : Sorted a) where
    asked_again : (moment : ℕ) → Said0 (idle a (ask_all a (tick a (new_work moment 0))))
    asked_again moment = record {
      store = k.store;
      edges = k.edges;
      sent = All-append (SaysSent P Of G s) ([] ++ cells_where a is_any) (flat_map (asks a) a.intents)
          (All-append (SaysSent P Of G s) [] (cells_where a is_any) (All-nil (SaysSent P Of G s)) (cells_say P G s a k.store k.edges before sorted is_any))
          (asks_all P G s a k.store k.edges before sorted);
      tail = All-nil (SaysSent P Of G s);
      asker = refl;
    }

    again_said : (moment word : ℕ) → Said0 (idle a (sent_again a word (new_work moment 0)))
    again_said moment word =
        said_from 0 (idle a (sent_again a word (new_work moment 0)))
        (said_walk_of_tick P Of G s 0 a word (ask_all a (tick a (new_work moment 0))) (λ f n there. before f n (inl there)) (asked_again moment))

  module _ (a : Store) (k : IsKnownAt P G s a) (before : Knows a) (sorted : Sorted a) where
    start_said : (moment from : ℕ) → IsSaid P Of G s from (idle a (new_work moment from))
    start_said moment from = record { store = k.store; edges = k.edges; sent = All-nil (SaysSent P Of G s); tail = All-nil (SaysSent P Of G s); asker = refl }

    -- what is asked for already was given out
    fill_given : (q : FileId) (b u : ℕ) → fill_at a q ≡ Some (intent.Fill q b u) → (h : Bool) → is_held a q ≡ h → P q s b
    fill_given q b u there true held = before q b (inl (sorted.own q q b u there held))
    fill_given q b u there false held = before q b (inr (inr (held, (q, u, there))))

    stood_by : (q : FileId) (w : Wish) (o : Option Intent) → fill_at a q ≡ o → option_or (wish_by o) (wish_at a q) ≡ Some w → P q s w.birth
    stood_by q w None there some = before q w.birth (inr (inl (w, some, refl)))
    stood_by q w (Some i) there some =
        let f = fill_only a.intents q i there in
        let is : fill_at a q ≡ Some (intent.Fill q f.0 f.1) = there ∙ ap (λ (j : Intent). Some j) f.2 in
        let wish : Wish = record { birth = f.0; target = f.1 } in
        let same : ◌≡◌ {A = Option Wish} (Some wish) (Some w) =
        sym (ap (λ (j : Intent). option_or (wish_by (Some j)) (wish_at a q)) f.2) ∙ some in
        subst (P q s) (wish_birth wish w same) (fill_given q f.0 f.1 is (is_held a q) refl)

    stood : (q : FileId) (w : Wish) → standing a q ≡ Some w → P q s w.birth
    stood q w some = stood_by q w (fill_at a q) refl some

    wished_now : (q : FileId) (t : ℕ) (d : Store) → d ≡ with_wish (with_birth a) q (fresh_wish a t) → IsWished d q (draw_birth a)
    wished_now q t d same =
        let w = fresh_wish a t in
        let here : wish_at (with_wish (with_birth a) q w) q ≡ Some w =
        lookup-insert_entry file_cmp file_total q q w a.wishes ∙ ap (λ u. cond u (Some w) (wish_at a q)) (is_same_file-refl q) in
        (w, ap (λ (z : Store). wish_at z q) same ∙ here, refl)

    -- ---- the first effect

    -- what is noted of versions says nothing of births
    released_known : IsKnownAt P G s (without_sources a)
    released_known = record {
      store = record { names = k.store.names; intents = k.store.intents };
      edges = k.edges;
    }

    released_sorted : Sorted (without_sources a)
    released_sorted = record {
      order = sorted.order;
      together = sorted.together;
      keys = sorted.keys;
      own = sorted.own;
      sought = sorted.sought;
      left = sorted.left;
    }

    first_said : (asked : Input) → Knows (effect a asked).store → Known P s asked → Freshly G a asked → Said0 (first_effect a asked)
    first_said (input.Call moment c) behind came new =
        let asked = input.Call moment c in
        said_from 0 (first_effect a asked) (fine_call P G s 0 a (new_work moment 0) (start_said moment 0) sorted.together stood c (record {
          born = λ f n there. behind f n (inl (born_on a asked f n there));
          fresh = λ f t same none full. behind f (draw_birth a) (wish_on a asked f (draw_birth a) (wished_now f t _ same));
        }))
    first_said (input.Tick moment word) behind came new =
        chosen Said0 (is_before_clock_end a) (ticked a word (new_work moment 0)) (idle a (new_work moment 0))
        (again_said (without_sources a) released_known (λ f n there. before f n there) released_sorted moment word)
        (said_from 0 (idle a (new_work moment 0)) (start_said moment 0))
    first_said (input.Arrival packet) behind came new =
        let w = new_work 0 packet.from in
        decided Said0 (is_heard a packet) (receive a packet.message w) (idle a w)
        (λ heard. said_from packet.from (receive a packet.message w)
        (fine_received P G s packet.from a packet.message w came.0 came.1 new.0 (new.1 heard) (λ f n there. before f n (inl there)) sorted.together
        (start_said 0 packet.from)))
        (λ no. said_from packet.from (idle a w) (start_said 0 packet.from))
    first_said input.Restart behind came new = record {
      store = record { names = k.store.names; intents = k.store.intents };
      edges = k.edges;
      sent = All-nil (SaysSent P Of G s);
      tail = All-nil (SaysSent P Of G s);
      asker = refl;
    }

    -- ---- and the whole event

    module _ (asked : Input) (behind : Knows (effect a asked).store) (then : Sorted (effect a asked).store) (came : Known P s asked) (new : Freshly G a asked) where
      first_is : Said0 (first_effect a asked)
      first_is = first_said asked behind came new

      -- the rules run and golds are raised: the same is held, and it is said of all flags
      abbrev Settles : Store → Work → Type 0
      Settles b w = Stays (first_effect a asked).store b × SaysStore Of (Owed P G s) s b

      own_given : (b : Store) → Stays (first_effect a asked).store b → (f : FileId) → is_held b f ≡ true → P f s (birth_of b f)
      own_given b stays f held =
          let there : is_held (effect a asked).store f ≡ true = end_held a asked f ∙ sym (stays.before.held f) ∙ held in
          let n = birth_of_held (effect a asked).store then.together f there in
          let here : birth_at b f ≡ Some n.0 =
          stays.before.births f ∙ sym (birth_same (first_effect a asked).store (effect a asked).store f (end_shapes a asked f)) ∙ n.1 in
          subst (P f s) (sym (birth_is b f n.0 here)) (behind f n.0 (inl n.1))

      raised_said : (b : Store) (f : FileId) (w : Work) → is_goldless b f ≡ true → Settles b w → Settles (raise_flag b f w).store (raise_flag b f w).work
      raised_said b f w is h =
          let flag = own_next b f true in
          let R : ℕ → Type 0 = λ z. P f z (birth_of b f) in
          let one : Of f flag = subst R (sym h.1.names.server) (own_given b h.0 f (goldless_there b f is)) in
          (stays_then h.0 (flag_stays b f flag), say_flag Of (Owed P G s) s b f flag one h.1)

      settled_said : SaysStore Of (Owed P G s) s (settled (first_effect a asked)).store
      settled_said =
          let d = first_effect a asked in
          (settle_keeps Settles (λ b w h. (stays_then h.0 (rules_stay b w), say_rules Of (Owed P G s) s b w h.1)) raised_said d.store d.work
          (stays_itself d.store, first_is.store)).1

      end_store : SaysStore Of (Owed P G s) s (effect a asked).store
      end_store =
          let d = first_effect a asked in
          chosen (λ (e : Effect). SaysStore Of (Owed P G s) s e.store) (takes_effect a asked) (closed (reply_to a asked) d) (finished (reply_to a asked) d)
          (say_begin_end Of (Owed P G s) s (settled d).store (settled d).work settled_said) first_is.store

      pub end_known : IsKnownAt P G s (effect a asked).store
      end_known = record {
        store = end_store;
        edges = ends_same P (first_effect a asked).store (effect a asked).store (end_shapes a asked) first_is.edges;
      }

      -- what is sent at the end
      abbrev AtEnd : Store → Type 0
      AtEnd b = (cells : Wanted) (ks : List IntentKey) → All (SaysSent P Of G s) (cells_where b cells) × All (SaysSent P Of G s) (flat_map (asks_by b) ks)

      at_end : AtEnd (effect a asked).store
      at_end wanted ks =
          let b = (effect a asked).store in
          (cells_say P G s b end_known.store end_known.edges behind then wanted, asks_some P G s b end_known.store end_known.edges behind then ks)

      pub end_sent : All (SaysSent P Of G s) (effect a asked).out.sent
      end_sent =
          let d = end_of a asked in
          let all : AtEnd d.store = subst AtEnd (store_is a asked) at_end in
          all_sent (SaysSent P Of G s) a asked first_is.sent (all (is_chosen d.work.touched d.work.linked) []).0 (all is_any d.work.begun).1
          first_is.tail
