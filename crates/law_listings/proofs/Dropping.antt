-- Where a replica goes, who gave it leave has all that it has.
use Rattle.std.proofs.Common.{ℕ, ◌≡◌, ◌≢◌, ◌≤◌, ◌&&◌, Bool, not, true, false, length, List, Option, None, Some, is_some, refl, sym, ap, subst, ◌∙◌, inl, inr, ◌⊎◌, arith}
use Rattle.std.specs.Option.{option_map}
use Rattle.std.specs.Prelude.{Contains, nat_le}
use Rattle.std.proofs.lemmas.Bool.{false≢true, and_from}
use Rattle.std.proofs.lemmas.Bool.Decides.{nat_tests}
use Rattle.std.proofs.lemmas.List.{take_all}
use Rattle.std.proofs.lemmas.Option.{none-some, same_Some}
use Rattle.pg_run.specs.pg_base.declared.id.FileId.{FileId}
use Rattle.pg_run.specs.pg_base.declared.stamp.Stamp.{Stamp}
use Rattle.pg_run.specs.pg_edges.declared.key.Key.{Key}
use Rattle.pg_run.specs.pg_edges.declared.key.Key.TheVariants as key
use Rattle.pg_run.specs.pg_entries.declared.cell.Cell.{Cell}
use Rattle.pg_run.specs.pg_entries.declared.cell.Cell.TheVariants as cells
use Rattle.pg_run.specs.pg_entries.declared.entry.Entry.{Entry}
use Rattle.pg_run.specs.pg_event.declared.event.Event.{Event}
use Rattle.pg_run.proofs.pg_house.Going.{HaveChildren}
use Rattle.theory_listing.specs.Rule.{IsSafeDrop, IsToldAt}
use Rattle.theory_listing.specs.World as listing
use Rattle.theory_listing.specs.World.Saying.{LeaveOk, Other}
use Rattle.pg_run.specs.pg_msg.declared.message.Ends.{Ends}
use Rattle.pg_run.specs.pg_msg.declared.message.Message.{Message}
use Rattle.pg_run.specs.pg_msg.declared.message.Message.TheVariants as message
use Rattle.pg_run.specs.pg_msg.declared.message.Packet.{Packet}
use Rattle.pg_run.specs.pg_msg.declared.message.Sent.{Sent}
use Rattle.pg_run.specs.pg_names.Names.{cell_at as entry_at}
use Rattle.pg_run.specs.theory_flood_pieces.UpTo.{IsUpTo}
use Rattle.pg_run.proofs.theory_flood_pieces.Sending.{own_key}
use Rattle.pg_run.specs.pg_register.declared.place.Place.{Place}
use Rattle.pg_run.specs.pg_register.Flag.{is_removed}
use Rattle.pg_run.specs.pg_replica.declared.replica.Replica.{Replica}
use Rattle.pg_run.specs.pg_server.declared.input.Input.{Input}
use Rattle.pg_run.specs.pg_server.declared.input.Input.TheVariants as input
use Rattle.pg_run.specs.pg_server.Local.{effect, is_heard, takes_effect}
use Rattle.theory_listing_house.specs.Listing.{cell_place}
use Rattle.theory_listing_house.proofs.Seen.{at_most, cell_is}
use Rattle.pg_run.specs.pg_store.declared.store.Store.{Store}
use Rattle.pg_run.specs.pg_store.Births.{birth_of}
use Rattle.pg_run.specs.pg_store.Seen.{view_of}
use Rattle.pg_run.specs.pg_store.Cells.{cell_at, entry_cell, is_sure}
use Rattle.pg_run.specs.pg_store.Store.{is_held, replica_at}
use Rattle.pg_run.specs.pg_store.Together.{AreTogether}
use Rattle.pg_run.specs.Carried.{gone_by, gone_in}
use Rattle.pg_run.specs.Laws.{TakesIn}
use Rattle.pg_run.specs.Leaving.{Goes, HasEachCell}
use Rattle.pg_run.specs.Journal.{mail, removals}
use Rattle.pg_run.specs.Run.{is_live, is_server, run}
use Rattle.pg_run.proofs.Frame.{HasCome}
use Rattle.law_listings.specs.Laws.{ListingsStandOn}
use Rattle.law_listings.specs.Letters.{Letter, letter, listings, of_stores, place_of, says}
use Rattle.law_listings.proofs.Births.{born, held_born}
use Rattle.law_listings.proofs.Events.{IsLetterOf, heard_view}
use Rattle.law_listings.proofs.Views.{held_holds, holds_held, none_away}

-- ---- cells of entries

entry_of : (o : Option Entry) (y : Entry) (sure t : Bool) → entry_cell o t ≡ Some (cells.Entry y sure) → o ≡ Some y
entry_of None y sure t h = absurd (none-some (cells.Entry y sure) h)
entry_of (Some x) y sure t h = ap (λ (e : Entry). Some e) (same_entry x y t sure (same_Some (cells.Entry x t) (cells.Entry y sure) h))
  where
    same_entry : (x y : Entry) (t u : Bool) → cells.Entry x t ≡ cells.Entry y u → x ≡ y
    same_entry x y t u e = cc

-- who holds an entry or more has a place for the child that is no earlier
told_by : (b : Store) → HaveChildren b.names → (f : FileId) (e : Entry) (sure : Bool) (k : Key) (c : Cell) → cell_at b f k ≡ Some c
    → IsUpTo (cells.Entry e sure) c → IsToldAt of_stores b f e.child e.place.stamp
told_by b own f e sure k (cells.Place p) is up = absurd up
told_by b own f e sure k (cells.Flag g) is up = absurd up
told_by b own f e sure k (cells.Version v) is up = absurd up
told_by b own f e sure k (cells.Entry z known) is up =
    let at : key.Entry z.child ≡ k = own_key b own f k (cells.Entry z known) is in
    let there : entry_cell (entry_at b.names f z.child) (is_sure b f z.child) ≡ Some (cells.Entry z known) = ap (cell_at b f) at ∙ is in
    let found : entry_at b.names f z.child ≡ Some z = entry_of (entry_at b.names f z.child) z known (is_sure b f z.child) there in
    (z.place, ap cell_place (ap (entry_at b.names f) up.child ∙ found), at_most e.place.stamp z.place.stamp up.place)

-- ---- which message it is

leave_of : (a : Store) (from : ℕ) (f : FileId) (m : Message) → gone_by a from m ≡ Some f → (ends : Ends) × (stamp : Stamp) × (m ≡ message.LeaveOk ends stamp)
leave_of a from f (message.LeaveOk ends stamp) h = (ends, stamp, refl)
leave_of a from f m h = absurd (none-some f h)

same_birth_told : (f g : FileId) (b c : ℕ) (p q : Place) → ◌≡◌ {A = listing.Saying FileId Place Stamp} (LeaveOk f b p) (LeaveOk g c q) → b ≡ c
same_birth_told f g b c p q h = cc

pub is_there : (n s : ℕ) → 1 ≤ s → s ≤ n → (nat_le 1 s && nat_le s n) ≡ true
is_there n s least most = grind (arith, nat_tests)

-- the birth of a replica, if it is one
abbrev birth_in : Option Replica → Option ℕ
birth_in o = option_map (λ (x : Replica). x.birth) o

there_by : (o : Option Replica) (x : Replica) → o ≡ Some x → is_some o ≡ true
there_by o x h = ap (λ (p : Option Replica). is_some p) h

-- ---- a drop of a run

module _ (n : ℕ) (k : ListingsStandOn n) (children : (events : List Event) (s : ℕ) → HaveChildren ((run n events).stores s).names) (events : List Event) (sent : List Letter) where
  abbrev At : ℕ → Store
  At s = (run n events).stores s

  abbrev Seen : listing.World Store FileId Place Stamp
  Seen = listings n (run n events) sent

  module _ (s : ℕ) (least : 1 ≤ s) (most : s ≤ n) (f : FileId) (packet : Packet) (store : Store) (ends : Ends) (stamp : Stamp) (is : packet.message ≡ message.LeaveOk ends stamp)
      (t : (packet.from ≢ s) × (1 ≤ packet.from) × (packet.from ≤ n) × HasEachCell (run n events) s f packet.from ends.sender)
      (lives : is_live n (run n events) packet.from ≡ true) where
    abbrev From : Store
    From = At packet.from

    abbrev Heard : Letter
    Heard = letter store (record { to = s; packet = packet })

    there : HasEachCell (run n events) s f packet.from ends.sender
    there = t.3

    together : AreTogether From
    together = (k.order events packet.from t.1 t.2).held.together

    holds : is_held From f ≡ true
    holds = sym (together f) ∙ there_by (replica_at From f) there.replica there.held

    told : (c : FileId) (q : Place) → of_stores.cell (At s) f c ≡ Some q → IsToldAt of_stores From f c q.stamp
    told c q h =
        let e = cell_is (entry_at (At s).names f c) q h in
        let sure = is_sure (At s) f c in
        let all = there.all (key.Entry c) (cells.Entry e.0 sure) (ap (λ (o : Option Entry). entry_cell o sure) e.1) in
        let at = told_by From (children events packet.from) f e.0 sure all.key all.cell all.is all.upto in
        let P : FileId → Stamp → Type 0 = λ x t. IsToldAt of_stores From f x t in
        subst (λ (p : Place). P c p.stamp) e.2 (subst (λ (x : FileId). P x e.0.place.stamp) (children events s f c e.0 e.1) at)

    born_there : (m : ℕ) (q : Place) → Heard.says ≡ LeaveOk f m q → birth_of From f ≡ m
    born_there m q says_so =
        let said : says store (message.LeaveOk ends stamp) ≡ LeaveOk f m q = sym (ap (says store) is) ∙ says_so in
        let born_is = same_Some (birth_of From f) there.replica.birth (sym (born From together f holds) ∙ ap (λ (o : Option Replica). birth_in o) there.held) in
        born_is ∙ there.born ∙ same_birth_told ends.file f ends.sender m (place_of store ends.file) q said

    safe_by : IsSafeDrop of_stores Seen s (At s) Heard f
    safe_by = record {
      other = t.0;
      live = lives;
      holds = held_holds From f holds;
      birth = born_there;
      cells = told;
    }

  -- ---- in an event

  module _ (event : Event) (s : ℕ) (least : 1 ≤ s) (most : s ≤ n) (asked : Input) (takes : TakesIn n (run n events) event s asked) (now : AreTogether (effect (At s) asked).store)
      (came : HasCome (run n events) s asked) (up : length (removals (run n events).journal) ≤ view_of (At s)) where
    abbrev A : Store
    A = At s

    abbrev B : Store
    B = (effect A asked).store

    abbrev Gone : List ℕ
    Gone = removals (run n events).journal

    went : (f : FileId) → is_held A f ≡ true → is_held B f ≡ false → (takes_effect A asked ≡ true) × (gone_in A asked ≡ Some f)
    went f held none = elim (k.ends events event s asked takes f (birth_of A f) (born A (k.order events s least most).held.together f held)) [
      | inl still ↦ absurd (false≢true (sym none ∙ held_born B now f (birth_of A f) still))
      | inr gone ↦ gone
    ]

    -- who sent what is heard is not removed
    sender_lives : (packet : Packet) → asked ≡ input.Arrival packet → is_heard A packet ≡ true → 1 ≤ packet.from → packet.from ≤ n → is_live n (run n events) packet.from ≡ true
    sender_lives packet is heard low high =
        let m : Sent = record { to = s; packet = packet } in
        let sent_is : Contains (mail (run n events).journal) m = subst (HasCome (run n events) s) is came in
        let by = (k.mailed events m sent_is).sender in
        let all : length Gone ≤ packet.view = subst (λ (v : ℕ). length Gone ≤ v) (sym (heard_view A packet heard)) up in
        let gone : is_removed Gone packet.from ≡ false =
        sym (ap (λ (rs : List ℕ). is_removed rs packet.from) (take_all packet.view Gone all)) ∙ by in
        and_from (is_server n packet.from) (not (is_removed Gone packet.from)) (is_there n packet.from low high) (ap not gone)

    letter_safe : (f : FileId) (packet : Packet) (store : Store) → asked ≡ input.Arrival packet → is_held A f ≡ true → is_held B f ≡ false
        → IsSafeDrop of_stores Seen s A (letter store (record { to = s; packet = packet })) f
    letter_safe f packet store came_is held none =
        let w = went f held none in
        let gone : gone_in A (input.Arrival packet) ≡ Some f = ap (gone_in A) (sym came_is) ∙ w.1 in
        let m = leave_of A packet.from f packet.message gone in
        let goes : Goes n events event s f packet.from = record {
          packet = packet;
          takes = subst (TakesIn n (run n events) event s) came_is takes;
          heard = ap (takes_effect A) (sym came_is) ∙ w.0;
          gone = gone;
          sender = refl;
        } in
        let t = k.givers events event s packet.from f m.0 m.1 goes m.2 in
        safe_by s least most f packet store m.0 m.1 m.2 t (sender_lives packet came_is goes.heard t.1 t.2)

    -- SAFE DROP
    pub drop_is_safe : (heard : Letter) → (heard.says ≡ Other) ⊎ IsLetterOf sent s asked heard → (f : FileId) (q : Place) → of_stores.own A f ≡ Some q → of_stores.own B f ≡ None
        → (m : ℕ) → heard.says ≡ LeaveOk f m q → IsSafeDrop of_stores Seen s A heard f
    drop_is_safe heard said f q was none m says_so = elim said [
      | inl other ↦ absurd (let e : ◌≡◌ {A = listing.Saying FileId Place Stamp} Other (LeaveOk f m q) = sym other ∙ says_so in cc)
      | inr l ↦ subst (λ (h : Letter). IsSafeDrop of_stores Seen s A h f) (sym l.is)
          (letter_safe f l.packet l.store l.came (holds_held A f (q, was)) (none_away B f none))
    ]
