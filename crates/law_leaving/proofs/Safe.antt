-- SAFE DROP: who gave a replica leave took all that the state of it comes to.
use Rattle.std.proofs.Common.{ℕ, ◌≡◌, ◌≢◌, ◌≤◌, ◌<◌, ◌==◌, ◌&&◌, Bool, true, false, cond, not, List, [], ◌∷◌, Option, None, Some, refl, sym, ap, subst, ◌∙◌, inl, inr, arith}
use Rattle.std.specs.Prelude.{Contains, nat_le}
use Rattle.std.proofs.lemmas.Bool.{and_parts, eq-eqb, false≢true, leb-true, false_from_ne_true}
use Rattle.std.proofs.lemmas.Bool.Decides.{nat_tests}
use Rattle.std.proofs.lemmas.Option.{none-some, same_Some}
use Rattle.pg_run.specs.pg_base.declared.id.FileId.{FileId}
use Rattle.pg_run.specs.pg_base.declared.stamp.Stamp.{Stamp}
use Rattle.pg_run.specs.pg_base.Version.{VersionValue}
use Rattle.pg_run.specs.pg_content.Content.{Among, ContentValue}
use Rattle.pg_run.specs.pg_content.Covering.{AreCoveredBy, IsUpToHead}
use Rattle.pg_run.specs.pg_content.History.{Made}
use Rattle.pg_run.proofs.pg_content.Covering.{covered_sets}
use Rattle.pg_run.specs.pg_edges.declared.key.Key.{Key}
use Rattle.pg_run.specs.pg_edges.declared.key.Key.TheVariants as key
use Rattle.pg_run.specs.pg_entries.declared.cell.Cell.{Cell}
use Rattle.pg_run.specs.pg_entries.declared.cell.Cell.TheVariants as cell
use Rattle.pg_run.specs.pg_entries.declared.entry.Entry.{Entry}
use Rattle.pg_run.specs.pg_event.declared.event.Event.{Event}
use Rattle.pg_run.specs.pg_house.Passing.{is_update}
use Rattle.pg_run.specs.pg_msg.declared.message.Message.{Message}
use Rattle.pg_run.specs.pg_msg.declared.message.Message.TheVariants as message
use Rattle.pg_run.specs.pg_names.declared.attributes.Attributes.{Attributes}
use Rattle.pg_run.specs.pg_names.Names.{cell_at as entry_at, own_or_blank}
use Rattle.pg_run.specs.pg_register.declared.flag.Flag.{Flag}
use Rattle.pg_run.specs.pg_register.declared.place.Place.{Place}
use Rattle.pg_run.specs.pg_register.Flag.{IsByServer, flag_of, is_removed}
use Rattle.pg_run.proofs.pg_register.ByServer.{Above, IsByServer-head, IsByServer-join_flags, IsByServer-nil, IsByServer-tail, below, first}
use Rattle.pg_run.specs.pg_replica.declared.replica.Replica.{Replica}
use Rattle.pg_run.specs.pg_replica.Replica.{cell_at as version_at}
use Rattle.pg_run.specs.pg_replica.Replicas.{or_nothing}
use Rattle.pg_run.proofs.pg_replica.Growth.{cell_head, head_at}
use Rattle.pg_run.specs.pg_server.declared.input.Input.TheVariants as input
use Rattle.pg_run.specs.pg_store.declared.store.Store.{Store}
use Rattle.pg_run.specs.theory_flood_pieces.UpTo.{IsUpTo}
use Rattle.pg_run.specs.pg_store.Cells.{cell_at, entry_cell, flag_cell, is_sure, version_cell}
use Rattle.pg_run.specs.pg_store.Seen.{removed_of, server_of}
use Rattle.pg_run.specs.pg_store.Servers.{is_live_other}
use Rattle.pg_run.specs.pg_store.Store.{content_of, replica_at}
use Rattle.pg_run.specs.Histories.{content_after, taken_after, versions_after}
use Rattle.pg_run.specs.Laws.{KnowsWhatItTook, store_after}
use Rattle.pg_run.specs.Leaving.{DropsAreSafe, GiversHaveEachCell, Goes, HasEachCell, TookAllOf, TookTheState}
use Rattle.pg_run.specs.Passed.{has_cell}
use Rattle.pg_run.specs.Run.{World, run}
use Rattle.pg_run.specs.State.{own_state, versions_taken}
use Rattle.pg_run.specs.Took.{Take, flags_in, flags_taken, place_in, places_taken}
use Rattle.pg_run.specs.Took.Taker.{InDir, Itself}
use Rattle.pg_run.proofs.Frame.{acts_is}
use Rattle.pg_run.proofs.Lists.{contained_among}
use Rattle.law_leaving.specs.Laws.{DropsLeaveAll}
use Rattle.law_leaving.specs.Premises.{StandOn, StatesAreCited}
use Rattle.law_leaving.specs.Taken.{IsTaken}
use Rattle.law_leaving.proofs.Drops.{IsLeft, left}
use Rattle.law_leaving.proofs.Given.{stands}
use Rattle.law_leaving.proofs.Senders.{live_unremoved, sender_live}

-- ---- no other cell is a version's

flag_no : (o : Option Flag) (w : VersionValue) → flag_cell o ≡ Some (cell.Version w) → ⊥
flag_no None w is = none-some (cell.Version w) is
flag_no (Some f) w is = let z : cell.Flag f ≡ cell.Version w = same_Some (cell.Flag f) (cell.Version w) is in cc

entry_no : (o : Option Entry) (sure : Bool) (w : VersionValue) → entry_cell o sure ≡ Some (cell.Version w) → ⊥
entry_no None sure w is = none-some (cell.Version w) is
entry_no (Some e) sure w is = let z : cell.Entry e sure ≡ cell.Version w = same_Some (cell.Entry e sure) (cell.Version w) is in cc

place_no : (p : Place) (w : VersionValue) → ◌≡◌ {A = Option Cell} (Some (cell.Place p)) (Some (cell.Version w)) → ⊥
place_no p w is = let z : cell.Place p ≡ cell.Version w = same_Some (cell.Place p) (cell.Version w) is in cc

version_same : (z w : VersionValue) → version_cell (Some z) ≡ Some (cell.Version w) → z ≡ w
version_same z w is = let e : cell.Version z ≡ cell.Version w = same_Some (cell.Version z) (cell.Version w) is in cc

-- ---- of flags by server

flag_later : (g f : Flag) (gs : List Flag) → g.server < f.server → flag_of gs f.server ≡ Some f → flag_of (g ∷ gs) f.server ≡ Some f
flag_later g f gs lt found =
    let apart : (g.server == f.server) ≡ false = grind (arith, nat_tests) in
    ap (λ t. cond t (Some g) (flag_of gs f.server)) apart ∙ found

above_at : (s : ℕ) (gs : List Flag) (f : Flag) → Above s gs → Among f gs → s < f.server
above_at s [] f up k = absurd k
above_at s (g ∷ gs) f up k = elim k [
  | inl same ↦ subst (λ (x : Flag). s < x.server) (sym same) (below s g.server up.0)
  | inr later ↦ above_at s gs f up.1 later
]

flag_in_order : (fs : List Flag) (f : Flag) → IsByServer fs → Among f fs → flag_of fs f.server ≡ Some f
flag_in_order [] f sorted k = absurd k
flag_in_order (g ∷ gs) f sorted k = elim k [
  | inl same ↦ subst (λ (x : Flag). flag_of (g ∷ gs) x.server ≡ Some x) (sym same) (first g gs)
  | inr later ↦ flag_later g f gs (above_at g.server gs f (IsByServer-head g gs sorted) later) (flag_in_order gs f (IsByServer-tail g gs sorted) later)
]

module _ (n : ℕ) (given : StatesAreCited n) (events : List Event) (s t : ℕ) (least : 1 ≤ s) (most : s ≤ n) (file : FileId) where
  abbrev W : World
  W = run n events

  abbrev A : Store
  A = store_after n events s

  abbrev Ts : List Take
  Ts = W.took s

  abbrev Us : List Take
  Us = W.took t

  knows : KnowsWhatItTook n events s
  knows = given.merge events s least most

  module _ (took : (k : _) (c : Cell) → cell_at A file k ≡ Some c → IsTaken Us file c) where
    own_taken : TookAllOf W s t Itself file
    own_taken =
        let own : own_or_blank A.names file ≡ own_state file Ts = knows.own file in
        record {
          place = λ news.
              (let P : Attributes → Type 0 = (λ o. is_update o.place ≡ true → Contains (places_taken Itself file Us) o.place) in
              subst P own (took key.Place (cell.Place (own_or_blank A.names file).place) refl) news);
          flags = λ flag is.
              (let among = contained_among (flags_in Itself file Ts) flag is in
              let sorted = IsByServer-join_flags [] (flags_taken Itself file Ts) IsByServer-nil in
              let at : flag_of (own_or_blank A.names file).flags flag.server ≡ Some flag =
              ap (λ (o : Attributes). flag_of o.flags flag.server) own ∙ flag_in_order (flags_in Itself file Ts) flag sorted among in
              took (key.Flag flag.server) (cell.Flag flag) (ap flag_cell at));
        }

    entry_taken : (child : FileId) → has_cell file child Ts ≡ true → TookAllOf W s t (InDir file) child
    entry_taken child has =
        let e : Entry = record { child = child; place = place_in (InDir file) child Ts; flags = flags_in (InDir file) child Ts } in
        let there : entry_at A.names file child ≡ Some e =
        knows.entries file child ∙ ap (λ u. cond u (Some e) None) has in
        let sure = is_sure A file child in
        let is = took (key.Entry child) (cell.Entry e sure) (ap (λ o. entry_cell o sure) there) in
        record { place = is.0; flags = is.1 }

    -- of versions it has each head, or one that tells more
    module _ (x : Replica) (here : replica_at A file ≡ Some x) (birth : ℕ) (cells : HasEachCell W s file t birth)
        (there : (1 ≤ t) × (t ≤ n)) where
      abbrev H : List Made
      H = versions_after n events file

      abbrev Cs : ContentValue
      Cs = content_after n events s file

      abbrev Ct : ContentValue
      Ct = content_after n events t file

      content_is : content_of A file ≡ Cs
      content_is = ap (λ (o : Option Replica). (or_nothing o).content) here ∙ given.held events file s least most x here

      content_there : content_of (W.stores t) file ≡ Ct
      content_there =
          ap (λ (o : Option Replica). (or_nothing o).content) cells.held
          ∙ given.held events file t there.0 there.1 cells.replica cells.held

      version_upto : (v w : VersionValue) (q : Key) (o : Option VersionValue) → version_at (content_of (W.stores t) file).heads q ≡ o
          → version_cell o ≡ Some (cell.Version w) → IsUpTo (cell.Version v) (cell.Version w) → IsUpToHead v.head.vector Ct.heads
      version_upto v w q None is same up = absurd (none-some (cell.Version w) same)
      version_upto v w q (Some z) is same up =
          let it : z ≡ w = version_same z w same in
          let among : Among z (content_of (W.stores t) file).heads = (cell_head (content_of (W.stores t) file).heads q z is).0 in
          (w, subst (λ (u : VersionValue). Among u Ct.heads) it (subst (λ (c : ContentValue). Among z c.heads) content_there among), up)

      had_upto : (v : VersionValue) (q : Key) (c : Cell) → cell_at (W.stores t) file q ≡ Some c → IsUpTo (cell.Version v) c
          → IsUpToHead v.head.vector Ct.heads
      had_upto v key.Place (cell.Version w) is up = absurd (place_no (own_or_blank (W.stores t).names file).place w is)
      had_upto v (key.Flag server) (cell.Version w) is up = absurd (flag_no (flag_of (own_or_blank (W.stores t).names file).flags server) w is)
      had_upto v (key.Entry child) (cell.Version w) is up =
          absurd (entry_no (entry_at (W.stores t).names file child) (is_sure (W.stores t) file child) w is)
      had_upto v (key.Version stamp) (cell.Version w) is up =
          version_upto v w (key.Version stamp) (version_at (content_of (W.stores t) file).heads (key.Version stamp)) refl is up
      had_upto v q (cell.Place place) is up = absurd up
      had_upto v q (cell.Flag flag) is up = absurd up
      had_upto v q (cell.Entry e sure) is up = absurd up

      heads_covered : AreCoveredBy Cs.heads Ct.heads
      heads_covered v among =
          let stands_for = given.heads events s file in
          let at : version_at (content_of A file).heads (key.Version v.head.stamp) ≡ Some v =
          ap (λ (c : ContentValue). version_at c.heads (key.Version v.head.stamp)) content_is
          ∙ head_at Cs.heads v stands_for.order among in
          let has = cells.all (key.Version v.head.stamp) (cell.Version v) (ap version_cell at) in
          had_upto v has.key has.cell has.is has.upto

      version_taken : (stamp : Stamp) → Among stamp (versions_taken file W.history Ts) → Among stamp (versions_taken file W.history Us)
      version_taken =
          (covered_sets H (given.made events file) Cs Ct (taken_after n events s file) (taken_after n events t file)
          (given.heads events s file) (given.heads events t file)).0 heads_covered

      pub state_taken : TookTheState W file s t
      state_taken = record { own = own_taken; entries = entry_taken; versions = version_taken }

-- ---- who gives leave

abbrev sender_of : ℕ → Message → ℕ
sender_of none (message.LeaveOk ends stamp) = ends.sender
sender_of none _ = none

-- it is another server of the run
module _ (n : ℕ) (on : StandOn n) (events : List Event) (event : Event) (s from : ℕ) (file : FileId) (goes : Goes n events event s file from) where
  abbrev At : Store
  At = store_after n events s

  is_live : is_live_other At goes.packet.from ≡ true
  is_live = sender_live At goes.packet goes.heard

  pub unremoved : is_removed (removed_of At) from ≡ false
  unremoved =
      let P : ℕ → Type 0 = (λ u. is_removed (removed_of At) u ≡ false) in
      let u = goes.packet.from in
      subst P goes.sender (false_from_ne_true (is_removed (removed_of At) u) (live_unremoved At u is_live))

  pub other : (from ≢ s) × (1 ≤ from) × (from ≤ n)
  other =
      let u = goes.packet.from in
      let up = nat_le u At.servers in
      let apart = not (u == server_of At) in
      let kept = not (is_removed (removed_of At) u) in
      let parts = and_parts (nat_le 1 u) (up && (apart && kept)) is_live in
      let rest = and_parts up (apart && kept) parts.1 in
      let different = and_parts apart kept rest.1 in
      let whole = on.whole events s in
      let P : ℕ → Type 0 = (λ z. (z ≢ s) × (1 ≤ z) × (z ≤ n)) in
      subst P goes.sender (
        λ same. false≢true (sym (ap not (eq-eqb u (server_of At) (same ∙ sym whole.server))) ∙ different.0),
        leb-true 1 u parts.0,
        subst (λ z. u ≤ z) whole.servers (leb-true u At.servers rest.0),
      )

  gives : IsLeft n events s from file goes.packet.message
  gives = left n (stands n on) events event s from file goes

pub drops_leave_all : (n : ℕ) → StandOn n → DropsLeaveAll n
drops_leave_all n on events event s from file goes =
    let l = gives n on events event s from file goes in
    (l.leave.ends.sender, l.all)

pub givers_have_each_cell : (n : ℕ) → StandOn n → GiversHaveEachCell n
givers_have_each_cell n on events event s from file ends stamp goes is =
    let l = gives n on events event s from file goes in
    let o = other n on events event s from file goes in
    let same : l.leave.ends.sender ≡ ends.sender = ap (sender_of 0) (sym l.leave.is ∙ is) in
    (o.0, o.1, o.2, subst (λ b. HasEachCell (run n events) s file from b) same l.all.cells)

-- SAFE DROP
pub drops_are_safe : (n : ℕ) → StandOn n → StatesAreCited n → DropsAreSafe n
drops_are_safe n on given events event s from file goes =
    let l = gives n on events event s from file goes in
    let acts = acts_is n (run n events) event (record { server = s; asked = input.Arrival goes.packet }) goes.takes in
    let cells = l.all.cells in (
      (other n on events event s from file goes).0,
      unremoved n on events event s from file goes,
      record { replica = cells.replica; is = cells.held },
      state_taken n given events s from acts.least acts.most file l.all.took l.leave.replica l.leave.held l.leave.ends.sender cells
          ((other n on events event s from file goes).1, (other n on events event s from file goes).2),
    )
