-- What stands behind an event: the house rules, intentions, and what is sent at the end. Each place
-- that is known then, and each that is told, may stand, where those that the rules make may.
use Rattle.std.proofs.Common.{ℕ, ◌≡◌, ◌==◌, Bool, true, false, List, [], ◌∷◌, ◌++◌, drop, length, filter, get_or, Option, None, Some, refl, sym, ap, subst, inl, inr, All, arith}
use Rattle.std.specs.List.{flat_map}
use Rattle.std.proofs.lemmas.List.Elements.{All-append, All-cons, All-nil}
use Rattle.std.proofs.lemmas.Option.{none-some, same_Some}
use Rattle.law_frame.specs.pg_run.pg_base.declared.id.FileId.{FileId}
use Rattle.law_frame.specs.pg_run.pg_base.Id.{is_same_file}
use Rattle.law_frame.specs.pg_run.pg_base.Version.{VersionValue}
use Rattle.law_frame.specs.pg_run.pg_edges.declared.edge.Edge.{Edge}
use Rattle.law_frame.specs.pg_run.pg_edges.declared.key.Key.{Key}
use Rattle.law_frame.specs.pg_run.pg_edges.declared.key.Key.TheVariants as key
use Rattle.law_frame.specs.pg_run.pg_entries.declared.cell.Cell.{Cell}
use Rattle.law_frame.specs.pg_run.pg_entries.declared.cell.Cell.TheVariants as cells
use Rattle.law_frame.specs.pg_run.pg_entries.declared.entry.Entry.{Entry}
use Rattle.law_frame.specs.pg_run.pg_house.Work.{State, state_of}
use Rattle.law_frame.specs.pg_run.pg_house.House.{house}
use Rattle.law_frame.specs.pg_run.pg_house.Facts.{IsKnownPlace}
use Rattle.law_frame.proofs.pg_run.pg_house.Drawn.{IsDrawn, drawn_on, house_drawn, house_later}
use Rattle.law_frame.proofs.pg_run.pg_house.Noting.{one_front}
use Rattle.law_frame.proofs.pg_run.pg_house.Replaced.{cell_children, cell_places, made_stays, noted, own_places}
use Rattle.law_frame.specs.pg_run.pg_intent.declared.intent.Intent.{Intent}
use Rattle.law_frame.specs.pg_run.pg_intent.declared.intent.Intent.TheVariants as intent
use Rattle.law_frame.specs.pg_run.pg_intent.declared.key.IntentKey.{IntentKey}
use Rattle.law_frame.specs.pg_run.pg_intent.declared.key.IntentKey.TheVariants as intent_key
use Rattle.law_frame.specs.pg_run.pg_intent.Intent.{target_of}
use Rattle.law_frame.specs.pg_run.pg_intent.Intents.{aimed, intent_at}
use Rattle.law_frame.specs.pg_run.pg_msg.declared.message.Message.{Message}
use Rattle.law_frame.specs.pg_run.pg_msg.declared.message.Message.TheVariants as message
use Rattle.law_frame.specs.pg_run.pg_msg.declared.message.Sent.{Sent}
use Rattle.law_frame.specs.pg_run.pg_msg.declared.update.Update.{Update}
use Rattle.law_frame.specs.pg_run.pg_msg.declared.update.Update.TheVariants as update
use Rattle.law_frame.specs.pg_run.pg_msg.declared.work.Touched.{Touched}
use Rattle.law_frame.specs.pg_run.pg_msg.declared.work.Work.{Work}
use Rattle.law_frame.specs.pg_run.pg_msg.Work.{with_made}
use Rattle.law_frame.specs.pg_run.pg_names.declared.attributes.Attributes.{Attributes}
use Rattle.law_frame.specs.pg_run.pg_names.Names.{NamesValue, cell_at as entry_at, own_at, own_or_blank}
use Rattle.law_frame.proofs.pg_run.theory_flood_pieces.Choices.{All-flat_map, chosen}
use Rattle.law_frame.proofs.pg_run.theory_flood_pieces.Front.{house_sent}
use Rattle.law_frame.specs.pg_run.pg_register.declared.flag.Flag.{Flag}
use Rattle.law_frame.specs.pg_run.pg_register.declared.place.Place.{Place}
use Rattle.law_frame.specs.pg_run.pg_register.Flag.{flag_of}
use Rattle.law_frame.specs.pg_run.pg_register.Place.{blank_place, root}
use Rattle.law_frame.specs.pg_run.pg_replica.declared.replica.Replica.{Replica}
use Rattle.law_frame.specs.pg_run.pg_replica.Replica.{cell_at as head_at}
use Rattle.law_frame.specs.pg_run.pg_store.declared.store.Store.{Store}
use Rattle.law_frame.specs.pg_run.pg_store.Births.{with_birth, with_wishes}
use Rattle.law_frame.specs.pg_run.pg_store.Cells.{cell_at, entry_cell, flag_cell, is_sure, version_cell}
use Rattle.law_frame.specs.pg_run.pg_store.Store.{content_of, with_names}
use Rattle.law_frame.specs.pg_run.pg_store.Wishes.{without_wish}
use Rattle.law_frame.specs.pg_run.pg_pieces.Done.{Done, idle}
use Rattle.law_frame.specs.pg_run.pg_pieces.Making.{own_next, raise_flag}
use Rattle.law_frame.specs.pg_run.pg_pieces.Posting.{sent_to}
use Rattle.law_frame.specs.pg_run.pg_cells.Sending.{Wanted, cell_to, cell_under, cells_where, edge_cells, is_any, is_chosen, key_cell, replica_cells, waits}
use Rattle.law_frame.specs.pg_run.pg_cells.Settling.{ruled, rules, touch_all}
use Rattle.law_frame.specs.pg_run.pg_cells.Ticks.{tick}
use Rattle.law_frame.proofs.pg_run.pg_cells.Settled.{settle_keeps}
use Rattle.law_frame.specs.pg_run.pg_intentions.Beginning.{end_others, still_stands}
use Rattle.law_frame.specs.pg_run.pg_intentions.Confirms.{confirm_of}
use Rattle.law_frame.specs.pg_run.pg_intentions.Fills.{fill_of, files_to_fill, with_fill_birth}
use Rattle.law_frame.specs.pg_run.pg_intentions.Intending.{pieces}
use Rattle.law_frame.specs.pg_run.pg_intentions.Patches.{patch_of}
use Rattle.law_frame.specs.pg_run.pg_intentions.Requests.{ask_all, asked_of, asks, asks_by, confirm_message, leave_message, request}
use Rattle.law_frame.specs.pg_run.pg_intentions.Seeks.{seek_target}
use Rattle.law_frame.specs.pg_run.pg_server.Local.{intended, sent_at_end, settled}
use Rattle.law_frame.proofs.pg_run.Still.{flag_still}
use Rattle.law_frame.proofs.Ended.{fill_born, intents_keep}
use Rattle.law_places.proofs.Origins.{IsMade}
use Rattle.law_places.proofs.Fine.{AreKnown, IsFine, as_before, intending, raised_flag, same_drawn}
use Rattle.law_places.proofs.Leaving.{intent_begun}
use Rattle.law_places.proofs.Messages.{OfCell, OfMessage, OfSent, as_told}
use Rattle.law_places.proofs.Timed.{AreTimed, UpTo, timed_later}
use Rattle.law_places.proofs.Known.{AreNames, OfAll, OfIntent, aimed_is, filter_is, found_is, or_is}

-- keys that are touched change no names and no intentions
pub touched_names : (ts : List Touched) (a : Store) → (touch_all a ts).names ≡ a.names
touched_names [] a = refl
touched_names (t ∷ ts) a = touched_names ts _

pub touched_intents : (ts : List Touched) (a : Store) → (touch_all a ts).intents ≡ a.intents
touched_intents [] a = refl
touched_intents (t ∷ ts) a = touched_intents ts _

module _ (P : FileId → Place → Type 0) where
  -- ---- the house rules

  -- what was known or made may stand
  known_is : (before : NamesValue) (made : List Update) → AreNames P before → ((f : FileId) (p : Place) → IsMade made f p → P f p)
      → (f : FileId) (p : Place) → IsKnownPlace before made f p → P f p
  known_is before made k new f p (inl own) = subst (P f) own.2 (k.own f own.0 own.1)
  known_is before made k new f p (inr (inl cell)) = subst (P f) cell.3 (k.cells cell.0 f cell.1 cell.2)
  known_is before made k new f p (inr (inr made_now)) = new f p made_now

  house_names : (moment : ℕ) (st : State) → AreNames P st.names → ((f : FileId) (p : Place) → IsMade (house moment st).work.made f p → P f p) → AreNames P (house moment st).names
  house_names moment st k new =
      let made = (house moment st).work.made in
      record {
        own = λ f o h. known_is st.names made k new f o.place (own_places moment st f o h);
        child = λ d c e h. cell_children moment st (λ q g x i. k.child q g x i) d c e h;
        cells = λ d c e h. known_is st.names made k new c e.place (cell_places moment st d c e h);
        top = (let r = (noted moment st).all root k.top.0 k.top.1 in (r.0, r.1));
      }

module _ (P : FileId → Place → Type 0) (blanks : (f : FileId) → is_same_file f root ≡ false → P f (blank_place f)) (s least : ℕ) where
  abbrev Fine : Done → Type 0
  Fine d = IsFine P s least d

  abbrev pub MayMake : List Update → Type 0
  MayMake made = (f : FileId) (p : Place) → IsMade made f p → P f p

  module _ (d : Done) (k : Fine d) where
    abbrev St : State
    St = state_of d.store.names d.work

    abbrev End : State
    End = house d.work.now St

    pub end_drawn : IsDrawn s least End
    end_drawn = house_drawn s least d.work.now St k.drawn

    -- no time is later than the greatest then
    end_timed : AreTimed End.names
    end_timed =
        let le = house_later d.work.now St in
        house_names (UpTo End.names.last) d.work.now St (timed_later d.store.names End.names.last le k.timed) (λ f p h. (end_drawn.each f p h).2)

    rules_fine : MayMake End.work.made → Fine (ruled d)
    rules_fine new =
        let ts = drop (length d.work.touched) End.work.touched in
        let a = with_names d.store End.names in
        let names : (touch_all a ts).names ≡ End.names = touched_names ts a in
        let intents : (touch_all a ts).intents ≡ d.store.intents = touched_intents ts a in
        record {
          known = record { names = subst (AreNames P) (sym names) (house_names P d.work.now St k.known.names new); intents = subst (OfAll P) (sym intents) k.known.intents };
          timed = subst AreTimed (sym names) end_timed;
          sent = subst (All (OfSent P)) (sym (house_sent d.work.now d.store.names d.work)) k.sent;
          drawn =
              drawn_on s least End (state_of (ruled d).store.names (ruled d).work) end_drawn
              (ap (λ (n : NamesValue). n.server) names) (let e = ap (λ (n : NamesValue). n.last) names in omega arith) (λ f p h. h);
        }

  -- ---- flags are raised, and the rules run again

  -- all is fine, where what was made so far may stand
  abbrev FineIf : Store → Work → Type 0
  FineIf a w = MayMake w.made → Fine (idle a w)

  ruled_if : (a : Store) (w : Work) → FineIf a w → FineIf (rules a w).store (rules a w).work
  ruled_if a w k may =
      let st = state_of a.names w in
      rules_fine (idle a w) (k (λ f p h. may f p (made_stays w.now st (update.Place f p) h))) may

  raised_if : (a : Store) (f : FileId) (w : Work) → FineIf a w → FineIf (raise_flag a f w).store (raise_flag a f w).work
  raised_if a f w k may =
      let g = own_next a f true in
      let u = update.Flag f g in
      let made : (raise_flag a f w).work.made ≡ w.made ++ u ∷ [] = (flag_still a f g (with_made w u)).made in
      raised_flag P s least f (idle a w)
      (k (λ q p h. may q p (subst (λ us. IsMade us q p) (sym made) (one_front (update.Place q p) w.made (u ∷ []) h))))

  pub settle_fine : (d : Done) → Fine d → MayMake (settled d).work.made → Fine (settled d)
  settle_fine d k may = settle_keeps FineIf ruled_if (λ a f w less. raised_if a f w) d.store d.work (λ so. k) may

  -- what was made stays made
  pub settle_made : (d : Done) (f : FileId) (p : Place) → IsMade d.work.made f p → IsMade (settled d).work.made f p
  settle_made d f p h =
      settle_keeps (λ (a : Store) (w : Work). IsMade w.made f p)
      (λ a w k. made_stays w.now (state_of a.names w) (update.Place f p) k)
      (λ a q w less k.
      let g = own_next a q true in
      let u = update.Flag q g in
      let made : (raise_flag a q w).work.made ≡ w.made ++ u ∷ [] = (flag_still a q g (with_made w u)).made in
      subst (λ us. IsMade us f p) (sym made) (one_front (update.Place f p) w.made (u ∷ []) k)) d.store d.work h

  -- ---- intentions end and begin

  pub intended_fine : (d : Done) → Fine d → Fine (intended d)
  intended_fine d =
      intents_keep d Fine (record {
        ends = λ k. (
            let files = files_to_fill d.store.names in
            intending P s least d (end_others d.store files).intents
            (filter_is P (still_stands d.store files) d.store.intents k.known.intents) k);
        patches = λ d slot away k.
            intent_begun P s least d (patch_of d.store slot d.work) (or_is P d.store.names k.known.names blanks slot.child) k;
        fills = λ d file none k. (
            let a = d.store in
            intent_begun P s least (idle (with_fill_birth a file) d.work) (fill_of a file d.work) tt
            (fill_born (λ (b : Store). Fine (idle b d.work)) a file k (as_before P s least d (idle (with_birth a) d.work) refl refl refl refl k)
            (as_before P s least d (idle (with_wishes a (without_wish a.wishes file)) d.work) refl refl refl refl k)));
        seeks = λ d file none k. intent_begun P s least d (intent.Seek file (seek_target d.store file)) tt k;
        aims_seek = λ d file k. (
            let q = intent_key.Seek file in
            let to = seek_target d.store file in
            intending P s least d (aimed d.store.intents q to) (aimed_is P d.store.intents q to k.known.intents) k);
        confirms = λ d slot doubted k. intent_begun P s least d (confirm_of d.store slot) tt k;
      })

  -- ---- what is sent

  abbrev Told : List Sent → Type 0
  Told ms = All (OfSent P) ms

  none_told : Told []
  none_told = All-nil (OfSent P)

  module _ (b : Store) (k : AreKnown P b) where
    flag_told : (f : FileId) (c : Cell) (o : Option Flag) → flag_cell o ≡ Some c → OfCell P f c
    flag_told f c None h = absurd (none-some c h)
    flag_told f c (Some g) h = subst (OfCell P f) (same_Some (cells.Flag g) c h) tt

    entry_told : (f g : FileId) (sure : Bool) (c : Cell) (o : Option Entry) → entry_at b.names f g ≡ o → entry_cell o sure ≡ Some c → OfCell P f c
    entry_told f g sure c None e h = absurd (none-some c h)
    entry_told f g sure c (Some x) e h =
        subst (OfCell P f) (same_Some (cells.Entry x sure) c h)
        (subst (λ (i : FileId). P i x.place) (sym (k.names.child f g x e)) (k.names.cells f g x e))

    version_told : (f : FileId) (c : Cell) (o : Option VersionValue) → version_cell o ≡ Some c → OfCell P f c
    version_told f c None h = absurd (none-some c h)
    version_told f c (Some v) h = subst (OfCell P f) (same_Some (cells.Version v) c h) tt

    cell_told : (f : FileId) (q : Key) (c : Cell) → cell_at b f q ≡ Some c → OfCell P f c
    cell_told f key.Place c h = subst (OfCell P f) (same_Some (cells.Place (own_or_blank b.names f).place) c h) (or_is P b.names k.names blanks f)
    cell_told f (key.Flag m) c h = flag_told f c (flag_of (own_or_blank b.names f).flags m) h
    cell_told f (key.Entry g) c h = entry_told f g (is_sure b f g) c (entry_at b.names f g) refl h
    cell_told f (key.Version stamp) c h = version_told f c (head_at (content_of b f).heads (key.Version stamp)) h

    under_told : (f : FileId) (birth : ℕ) (e : Edge) (q : Key) (tag : ℕ) (o : Option Cell) → cell_at b f q ≡ o → Told (cell_under b f birth e tag o)
    under_told f birth e q tag None h = none_told
    under_told f birth e q tag (Some c) h = All-cons (OfSent P) (cell_to b f birth e c tag) [] (as_told P (record { file = f; sender = birth; receiver = e.birth }) tag c (cell_told f q c h)) none_told

    key_told : (f : FileId) (birth : ℕ) (e : Edge) (q : Key × ℕ) → Told (key_cell b f birth e q)
    key_told f birth e q =
        chosen Told (waits b f e q.0) [] (cell_under b f birth e q.1 (cell_at b f q.0)) none_told (under_told f birth e q.0 q.1 (cell_at b f q.0) refl)

    edge_told : (wanted : Wanted) (f : FileId) (birth : ℕ) (e : Edge) → Told (edge_cells b wanted f birth e)
    edge_told wanted f birth e =
        let ks = filter (λ (q : Key × ℕ). wanted f e.peer q.0) e.keys in
        All-flat_map (OfSent P) (key_cell b f birth e) ks (λ i d lt. key_told f birth e (get_or ks i d))

    replica_told : (wanted : Wanted) (r : FileId × Replica) → Told (replica_cells b wanted r)
    replica_told wanted r =
        All-flat_map (OfSent P) (edge_cells b wanted r.0 r.1.birth) r.1.edges (λ i d lt. edge_told wanted r.0 r.1.birth (get_or r.1.edges i d))

    pub where_told : (wanted : Wanted) → Told (cells_where b wanted)
    where_told wanted = All-flat_map (OfSent P) (replica_cells b wanted) b.replicas (λ i d lt. replica_told wanted (get_or b.replicas i d))

    -- ---- the messages of intentions

    asked_told : (to : ℕ) (o : Option Message) → ((m : Message) → o ≡ Some m → OfMessage P m) → Told (asked_of b to o)
    asked_told to None of = none_told
    asked_told to (Some m) of = All-cons (OfSent P) (sent_to b to m) [] (of m refl) none_told

    confirm_told : (d c : FileId) (o : Option Entry) → entry_at b.names d c ≡ o → (m : Message) → confirm_message d o ≡ Some m → OfMessage P m
    confirm_told d c None e m h = absurd (none-some m h)
    confirm_told d c (Some x) e m h =
        subst (OfMessage P) (same_Some (message.Confirm d x) m h) (subst (λ (i : FileId). P i x.place) (sym (k.names.child d c x e)) (k.names.cells d c x e))

    leave_told : (f : FileId) (peer : ℕ) (o : Option Attributes) (m : Message) → leave_message b f peer o ≡ Some m → OfMessage P m
    leave_told f peer None m h = absurd (none-some m h)
    leave_told f peer (Some own) m h = subst (OfMessage P) (same_Some _ m h) tt

    request_told : (i : Intent) → OfIntent P i → (m : Message) → request b i ≡ Some m → OfMessage P m
    request_told (intent.Bye f birth peer other) of m h = subst (OfMessage P) (same_Some _ m h) tt
    request_told (intent.Seek f target) of m h = subst (OfMessage P) (same_Some _ m h) tt
    request_told (intent.Fill f birth target) of m h = subst (OfMessage P) (same_Some _ m h) tt
    request_told (intent.Patch d e target) of m h = subst (OfMessage P) (same_Some (message.Tell d e) m h) of
    request_told (intent.Confirm d c target) of m h = confirm_told d c (entry_at b.names d c) refl m h
    request_told (intent.Leave f peer other) of m h = leave_told f other (own_at b.names f) m h

    asks_told : (i : Intent) → OfIntent P i → Told (asks b i)
    asks_told i of = chosen Told (target_of i == 0) [] (asked_of b (target_of i) (request b i)) none_told (asked_told (target_of i) (request b i) (λ m h. request_told i of m h))

    by_told : (o : Option Intent) → ((i : Intent) → o ≡ Some i → OfIntent P i) → Told (pieces (asks b) o)
    by_told None of = none_told
    by_told (Some i) of = asks_told i (of i refl)

    begun_told : (ks : List IntentKey) → Told (flat_map (asks_by b) ks)
    begun_told [] = none_told
    begun_told (q ∷ ks) = All-append (OfSent P) (asks_by b q) (flat_map (asks_by b) ks) (by_told (intent_at b.intents q) (λ i e. found_is P b.intents q i k.intents e)) (begun_told ks)

    all_told : (is : List Intent) → OfAll P is → Told (flat_map (asks b) is)
    all_told [] h = none_told
    all_told (i ∷ is) h = All-append (OfSent P) (asks b i) (flat_map (asks b) is) (asks_told i h.0) (all_told is h.1)

  -- at the end of an event
  pub ends_told : (d : Done) → Fine d → Told d.work.tail → Told ((sent_at_end d).sent ++ d.work.tail)
  ends_told d k last =
      let sent = d.work.sent ++ cells_where d.store (is_chosen d.work.touched d.work.linked) in
      All-append (OfSent P) (sent_at_end d).sent d.work.tail
      (All-append (OfSent P) sent (flat_map (asks_by d.store) d.work.begun)
      (All-append (OfSent P) d.work.sent (cells_where d.store (is_chosen d.work.touched d.work.linked)) k.sent (where_told d.store k.known (is_chosen d.work.touched d.work.linked)))
      (begun_told d.store k.known d.work.begun)) last

  -- at a tick
  pub again_fine : (d : Done) → Fine d → Fine (idle d.store (ask_all d.store (tick d.store d.work)))
  again_fine d k = record {
    known = k.known;
    timed = k.timed;
    sent = All-append (OfSent P) (d.work.sent ++ cells_where d.store is_any) (flat_map (asks d.store) d.store.intents)
        (All-append (OfSent P) d.work.sent (cells_where d.store is_any) k.sent (where_told d.store k.known is_any))
        (all_told d.store k.known d.store.intents k.known.intents);
    drawn = same_drawn P s least d (idle d.store (ask_all d.store (tick d.store d.work))) refl (omega arith) refl k;
  }
