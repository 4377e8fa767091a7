-- What is full stays so, as long as its replica is held.
use Rattle.std.proofs.Common.{ℕ, ◌≡◌, List, ◌&&◌, ◌||◌, not, Bool, true, false, cond, Option, None, Some, is_some, refl, sym, ap, subst, ◌∙◌, inl, inr, ◌⊎◌}
use Rattle.std.proofs.lemmas.Bool.{false≢true}
use Rattle.pg_run.specs.pg_base.declared.id.FileId.{FileId}
use Rattle.pg_run.specs.pg_base.declared.id.Kind.{Kind}
use Rattle.pg_run.specs.pg_base.declared.policy.Policy.{Policy}
use Rattle.pg_run.specs.pg_base.Id.{is_same_file}
use Rattle.pg_run.proofs.pg_base.Orders.{is_same_file-true}
use Rattle.pg_run.specs.pg_event.declared.event.Event.{Event}
use Rattle.pg_run.specs.pg_house.Work.{state_of}
use Rattle.pg_run.proofs.pg_house.Fullness.{rules_full}
use Rattle.pg_run.specs.pg_msg.declared.message.Ends.{Ends}
use Rattle.pg_run.specs.pg_msg.declared.message.Granted.{Granted}
use Rattle.pg_run.specs.pg_msg.declared.message.Message.{Message}
use Rattle.pg_run.specs.pg_msg.declared.message.Message.TheVariants as message
use Rattle.pg_run.specs.pg_msg.declared.message.Packet.{Packet}
use Rattle.pg_run.specs.pg_msg.declared.work.Work.{Work}
use Rattle.pg_run.specs.pg_msg.Work.{new_work}
use Rattle.pg_run.specs.pg_names.declared.attributes.Attributes.{Attributes}
use Rattle.pg_run.specs.pg_names.Names.{InodeValue, NamesValue, begin as begin_names, blank_own, fill as fill_names, filled, is_full as names_full, is_held as names_held, is_full_of, known, let_go as let_go_names, new_held, update, with_flag, with_joined, with_place}
use Rattle.pg_run.proofs.pg_names.Holding.{begun_known, fill_other, full_kept}
use Rattle.pg_run.specs.pg_register.declared.place.Place.{Place}
use Rattle.pg_run.specs.pg_calls.Naming.{begun, next_id, place_in, with_id, with_thing}
use Rattle.pg_run.proofs.pg_calls.Walked.{full_held}
use Rattle.pg_run.specs.pg_checks.declared.checks.NewName.{NewName}
use Rattle.pg_run.specs.pg_pieces.declared.accepting.EdgeUse.TheVariants as manner
use Rattle.pg_run.specs.pg_pieces.Accepting.{accept, link_peer, met, with_gone}
use Rattle.pg_run.specs.pg_pieces.Done.{Done, idle}
use Rattle.pg_run.specs.pg_pieces.Making.{own_next}
use Rattle.pg_run.specs.pg_repair.Granting.{begin_granted, grant, granted_own}
use Rattle.pg_run.specs.pg_server.declared.input.Input.{Input}
use Rattle.pg_run.specs.pg_server.declared.input.Input.TheVariants as input
use Rattle.pg_run.specs.pg_server.Local.{effect, first_effect, is_heard, receive, ticked}
use Rattle.pg_run.specs.pg_store.declared.store.Store.{Store}
use Rattle.pg_run.specs.pg_store.declared.wishes.Wish.{Wish}
use Rattle.pg_run.specs.pg_store.Births.{draw_birth, fill_at, has_birth, is_fill_at, is_pending, wish_at, with_birth}
use Rattle.pg_run.specs.pg_store.Links.{is_new_link, knows_later, put_link}
use Rattle.pg_run.specs.pg_store.Store.{is_before_clock_end, is_full, is_held, replica_at, take_place}
use Rattle.pg_run.specs.pg_store.Together.{birth_at}
use Rattle.pg_run.specs.pg_store.Wishes.{is_with_birth}
use Rattle.pg_run.proofs.pg_store.Over.{over_stays}
use Rattle.pg_run.proofs.theory_flood_pieces.Choices.{chosen}
use Rattle.law_golds.proofs.law_births.Has.{born_of}
use Rattle.law_full.proofs.Calling.{call_kept}
use Rattle.law_full.proofs.Coming.{receive_kept}
use Rattle.law_full.proofs.Effects.{RulesKeep, arrival_kept, effect_kept}
use Rattle.law_full.proofs.Losing.{lost_kept}
use Rattle.law_full.proofs.Pieces.{AreKept, begin_kept, flag_kept, place_kept}
use Rattle.law_golds.specs.law_order.Laws.{FirstEffectsAreWhole}
use Rattle.law_quiet.specs.Given.{ServersAreWhole}
use Rattle.pg_run.specs.Births.{BirthsAreAlone, BirthsMoveInEvents, ReplicasStayOrGo}
use Rattle.pg_run.specs.Laws.{TakesIn}
use Rattle.pg_run.specs.Run.{Taking, run}
use Rattle.pg_run.proofs.Frame.{Acts, acts_is}
use Rattle.law_repair.specs.Facts.{FullStays}
use Rattle.law_repair.proofs.Filled.{begun_full, filled_by, gone_full, held_on}
use Rattle.law_repair.proofs.GoldsThere.{held_not_over}
use Rattle.law_repair.proofs.Starts.{born_held}

-- ---- behind the first effect

module _ (a : Store) (asked : Input) (file : FileId) where
  -- a replica of it is granted
  pub record IsGranted : Type 0 where
    pub packet : Packet
    pub is : asked ≡ input.Arrival packet
    pub ends : Ends
    pub granted : Granted
    pub says : packet.message ≡ message.Grant ends granted
    pub file_is : file ≡ ends.file

  abbrev P : NamesValue → Type 0
  P s = (names_full s file ≡ true) ⊎ (names_held s file ≡ false) ⊎ IsGranted

  abbrev AnyPlace : FileId → Place → Type 0
  AnyPlace f p = Unit {0}

  abbrev Begins : FileId → Attributes → Bool → Type 0
  Begins f own full = (full ≡ true) ⊎ (is_same_file file f ≡ false) ⊎ IsGranted

  abbrev Fills : FileId → Type 0
  Fills f = Unit {0}

  goes_on : (s t : NamesValue) → names_full t file ≡ names_full s file → names_held t file ≡ names_held s file → P s → P t
  goes_on s t full held (inl h) = inl (full ∙ h)
  goes_on s t full held (inr (inl h)) = inr (inl (held ∙ h))
  goes_on s t full held (inr (inr g)) = inr (inr g)

  changed : (s : NamesValue) (f : FileId) (change : InodeValue → InodeValue) → ((x : InodeValue) → (change x).full ≡ x.full) → P s → P (update s f change)
  changed s f change same h = goes_on s (update s f change) (full_kept s f change same file) (held_on file s f change) h

  begun_by : (s : NamesValue) (f : FileId) (own : Attributes) (full t : Bool) → is_same_file file f ≡ t → Begins f own full → P s → P (begin_names s f own full)
  begun_by s f own full false e may h =
      let same : known (begin_names s f own full) file ≡ known s file =
      begun_known s f own full file ∙ ap (λ (b : Bool). cond b (Some (new_held own full)) (known s file)) e in
      goes_on s (begin_names s f own full) (ap is_full_of same) (ap (λ (o : Option InodeValue). is_some o) same) h
  begun_by s f own full true e (inl all) h = inl (begun_full file s f own full true e ∙ all)
  begun_by s f own full true e (inr (inl other)) h = absurd (false≢true (sym other ∙ e))
  begun_by s f own full true e (inr (inr g)) h = inr (inr g)

  fills_by : (s : NamesValue) (f : FileId) (t : Bool) → is_same_file f file ≡ t → P s → P (fill_names s f)
  fills_by s f false e h = goes_on s (fill_names s f) (fill_other s f file e) (held_on file s f filled) h
  fills_by s f true e (inl full) = inl (filled_by file s f true e (known s file) refl (full_held s file full) refl)
  fills_by s f true e (inr (inl none)) = inr (inl (held_on file s f filled ∙ none))
  fills_by s f true e (inr (inr g)) = inr (inr g)

  left_by : (s : NamesValue) (f : FileId) (t : Bool) → is_same_file f file ≡ t → P s → P (let_go_names s f)
  left_by s f false e h =
      let same = gone_full file s f false e in
      goes_on s (let_go_names s f) (ap is_full_of same) (ap (λ (o : Option InodeValue). is_some o) same) h
  left_by s f true e h = inr (inl (ap (λ (o : Option InodeValue). is_some o) (gone_full file s f true e)))

  p_kept : AreKept P AnyPlace Begins Fills
  p_kept = record {
    place = λ s f p may h. changed s f (with_place p) (λ x. refl) h;
    flag = λ s f g h. changed s f (with_flag g) (λ x. refl) h;
    entry = λ s d e h. changed s d (with_joined e) (λ x. refl) h;
    raised = λ s time h. h;
    begun = λ s f own full may h. begun_by s f own full (is_same_file file f) refl may h;
    filled = λ s f may h. fills_by s f (is_same_file f file) refl h;
    removed = λ s server h. h;
  }

  module _ (before : P a.names) where
    thing_p : (work : Work) (kind : Kind) (policy : Policy) (new : NewName) → P a.names → P (with_thing (with_id a) work (next_id a kind) policy new).store.names
    thing_p work kind policy new h =
        let id = next_id a kind in
        let b = begun (with_id a) id policy in
        let first : P b.names = begin_kept P AnyPlace Begins Fills p_kept (with_birth (with_id a)) id (draw_birth (with_id a)) policy (blank_own id) true (inl refl) h in
        let place = place_in (with_id a) work.now new in
        let d = take_place b id place in
        flag_kept P AnyPlace Begins Fills p_kept d id (own_next d id true) (place_kept P AnyPlace Begins Fills p_kept b id place tt first)

    first_by : (x : Input) → asked ≡ x → P (first_effect a x).store.names
    first_by (input.Call moment c) is =
        call_kept P a (new_work moment 0) (record {
          thing = λ kind policy new h. thing_p (new_work moment 0) kind policy new h;
          place = λ f p drawn h. place_kept P AnyPlace Begins Fills p_kept a f p tt h;
          flag = λ f g h. flag_kept P AnyPlace Begins Fills p_kept a f g h;
          raised = λ s time h. h;
          lost = λ id found at h. lost_kept P AnyPlace Begins Fills p_kept a found (new_work moment 0)
              (record { placed = λ b. tt; fills = tt; known = λ p k. inl refl; anew = inl refl }) h;
          removed = λ server h. h;
        }) before c
    first_by (input.Tick moment word) is =
        let w = new_work moment 0 in
        chosen (λ (d : Done). P d.store.names) (is_before_clock_end a) (ticked a word w) (idle a w) before before
    first_by (input.Arrival packet) is =
        arrival_kept P a packet before
        (λ heard. receive_kept P AnyPlace Begins Fills p_kept a before packet.message (new_work 0 packet.from)
        (record {
          cell = λ ends tag p same born. tt;
          confirm = λ dir e same. tt;
          grant = λ ends g same. granted ends g same (is_same_file file ends.file) refl;
          full = λ ends same born. tt;
          goes = λ ends stamp work same may. left_by a.names ends.file (is_same_file ends.file file) refl before;
        }))
      where
        granted : (ends : Ends) (g : Granted) → packet.message ≡ message.Grant ends g → (t : Bool) → is_same_file file ends.file ≡ t
            → Begins ends.file (granted_own g) false
        granted ends g same true e = inr (inr (record { packet = packet; is = is; ends = ends; granted = g; says = same; file_is = is_same_file-true file ends.file e }))
        granted ends g same false e = inr (inl e)
    first_by input.Restart is = before

  -- ---- what is held is granted in vain

  abbrev pub All_full : NamesValue → Type 0
  All_full s = names_full s file ≡ true

  pub full_rules : RulesKeep All_full
  full_rules = record {
    rules = λ moment s work h. rules_full moment (state_of s work) file ∙ h;
    flag = λ s f g h. full_kept s f (with_flag g) (λ x. refl) file ∙ h;
  }

  pending_not : (wish : Option Wish) (held : Bool) (rest : Bool) (birth : ℕ) → wish ≡ None → held ≡ true → (is_with_birth wish birth || (not held && rest)) ≡ false
  pending_not wish held rest birth none there =
      ap (λ (o : Option Wish). is_with_birth o birth || (not held && rest)) none ∙ ap (λ t. not t && rest) there

  linked_names : (f : FileId) (peer birth : ℕ) (w : Work) → All_full a.names → All_full (link_peer a f peer birth w).store.names
  linked_names f peer birth w h = chosen (λ (b : Store). All_full b.names) (is_new_link a f peer birth) (put_link a f peer birth) a h h

  accept_names : (ends : Ends) (w : Work) → All_full a.names → All_full (accept a ends manner.Makes w).store.names
  accept_names ends w h =
      let OfDone : Done → Type 0 = λ d. All_full d.store.names in
      chosen OfDone (has_birth a ends.file ends.receiver)
      (cond (knows_later a ends.file w.from ends.sender) (idle a w) (met a ends manner.Makes w)) (idle a (with_gone a ends manner.Makes w))
      (chosen OfDone (knows_later a ends.file w.from ends.sender) (idle a w) (met a ends manner.Makes w) h (linked_names ends.file w.from ends.sender w h)) h

  grant_names : (ends : Ends) (g : Granted) (w : Work) → is_pending a ends.file ends.receiver ≡ false → All_full a.names → All_full (grant a ends g w).store.names
  grant_names ends g w none h =
      subst (λ (t : Bool). All_full (cond t (begin_granted a ends g w) (accept a ends manner.Makes w)).store.names) (sym none) (accept_names ends w h)

  granted_first : (k : IsGranted) → is_pending a k.ends.file k.ends.receiver ≡ false → All_full a.names → All_full (first_effect a asked).store.names
  granted_first k none h =
      let w = new_work 0 k.packet.from in
      let there : All_full (receive a k.packet.message w).store.names =
      subst (λ (m : Message). All_full (receive a m w).store.names) (sym k.says) (grant_names k.ends k.granted w none h) in
      subst (λ (x : Input). All_full (first_effect a x).store.names) (sym k.is)
      (chosen (λ (d : Done). All_full d.store.names) (is_heard a k.packet) (receive a k.packet.message w) (idle a w) there h)

module _ (n : ℕ) (whole : ServersAreWhole n) (first : FirstEffectsAreWhole n) (alone : BirthsAreAlone n) (moves : BirthsMoveInEvents n) (stay : ReplicasStayOrGo n)
    (events : List Event) (event : Event) (s : ℕ) (asked : Input) (takes : TakesIn n (run n events) event s asked) (file : FileId) (birth : ℕ)
    (full : is_full ((run n events).stores s) file ≡ true) (born : birth_at ((run n events).stores s) file ≡ Some birth)
    (born_then : birth_at (effect ((run n events).stores s) asked).store file ≡ Some birth) where
  abbrev A : Store
  A = (run n events).stores s

  abbrev t : Taking
  t = record { server = s; asked = asked }

  acts : Acts n (run n events) t
  acts = acts_is n (run n events) event t takes

  by : P A asked file (first_effect A asked).store.names → All_full A asked file (first_effect A asked).store.names
  by (inl h) = h
  by (inr (inl gone)) = elim ((stay events event s asked takes).0 file birth born) [
    | inl there ↦ absurd (false≢true (sym gone ∙ born_held n s (first_effect A asked).store file birth (first events event t takes) there))
    | inr over ↦ absurd (held_not_over (effect A asked).store file birth born_then
        (over_stays (first_effect A asked).store (effect A asked).store file birth (moves events event s asked takes).1 over.1))
  ]
  by (inr (inr k)) =
      let x = born_of (replica_at A file) birth born in
      let held : is_held A file ≡ true = born_held n s A file birth (whole events s acts.least acts.most) born in
      let none : wish_at A file ≡ None = (alone events s acts.least acts.most file).held x.0 x.1 in
      let Q : FileId → Type 0 = λ f. is_pending A f k.ends.receiver ≡ false in
      granted_first A asked file k
      (subst Q k.file_is (pending_not A asked file (wish_at A file) (is_held A file) (is_fill_at (fill_at A file) k.ends.receiver) k.ends.receiver none held))
      full

  full_then : is_full (effect A asked).store file ≡ true
  full_then = effect_kept (All_full A asked file) (full_rules A asked file) A asked (by (first_by A asked file (inl full) asked refl))

-- WHAT IS FULL STAYS SO
pub full_stays : (n : ℕ) → ServersAreWhole n → FirstEffectsAreWhole n → BirthsAreAlone n → BirthsMoveInEvents n → ReplicasStayOrGo n → FullStays n
full_stays n whole first alone moves stay events event s asked takes file birth full born born_then =
    full_then n whole first alone moves stay events event s asked takes file birth full born born_then
