-- Where a run is quiet, and all full replicas of a thing know the present flag of one gold replica,
-- its graph is connected.
use Rattle.std.proofs.Common.{ℕ, ◌≡◌, ◌≢◌, ◌==◌, not, Bool, true, false, List, Option, None, Some, is_some, refl, sym, ap, subst, ◌∙◌, inl, inr}
use Rattle.std.specs.Prelude.{Contains}
use Rattle.std.specs.List.{IsAmong}
use Rattle.std.proofs.lemmas.Bool.{and_from, and_parts, eqb-true, eqb-false, false≢true}
use Rattle.pg_run.specs.pg_base.declared.id.FileId.{FileId}
use Rattle.pg_run.specs.pg_edges.declared.edge.Edge.{Edge}
use Rattle.pg_run.specs.pg_event.declared.event.Event.{Event}
use Rattle.pg_run.specs.pg_intent.declared.intent.Intent.{Intent}
use Rattle.pg_run.specs.pg_intent.declared.key.IntentKey.{IntentKey}
use Rattle.pg_run.specs.pg_intent.declared.key.IntentKey.TheVariants as key
use Rattle.pg_run.specs.pg_intent.Intents.{stands}
use Rattle.pg_run.specs.pg_names.declared.attributes.Attributes.{Attributes}
use Rattle.pg_run.specs.pg_names.Names.{InodeValue, is_full_of, known, or_blank, own_at, own_of, own_or_blank}
use Rattle.pg_run.specs.pg_register.declared.flag.Flag.{Flag}
use Rattle.pg_run.specs.pg_register.Flag.{IsByServer, flag_of, is_raised, is_removed}
use Rattle.pg_run.specs.pg_replica.declared.replica.Replica.{Replica}
use Rattle.pg_run.specs.pg_store.declared.store.Store.{Store}
use Rattle.pg_run.specs.pg_store.Seen.{removed_of, server_of}
use Rattle.pg_run.specs.pg_store.Store.{is_full, replica_at}
use Rattle.pg_run.specs.theory_flood_pieces.Whole.{IsWhole}
use Rattle.law_quiet.proofs.Agreement.{own_by}
use Rattle.law_golds.proofs.Flags.{one_raised, raised_one}
use Rattle.law_full.proofs.Clean.{among_of}
use Rattle.pg_run.specs.Golds.{IsGold, IsLiveGold, NamesGolds, Seeks}
use Rattle.pg_run.specs.Graphs.{HasEdge, Holds, IsConnected}
use Rattle.pg_run.specs.Intending.{IntendsInOrder}
use Rattle.pg_run.specs.Quiet.{IsQuiet}
use Rattle.pg_run.specs.Run.{World, is_live, run}
use Rattle.pg_run.proofs.Found.{flag_found}
use Rattle.pg_run.proofs.Frame.{live_is}
use Rattle.pg_run.proofs.Lists.{among_contained, contained_among}
use Rattle.law_repair.specs.Given.{StandOn}
use Rattle.law_repair.specs.Kept.{IsGoldAt}
use Rattle.law_repair.proofs.Chains.{AreOne, back, further, one}
use Rattle.law_repair.proofs.GoldsThere.{OwnFlag, flag_at, own_there}
use Rattle.law_repair.proofs.QuietEdges.{all_known, named_back, no_intents, peer_born, peer_lives, whole_of}

-- a full replica, and what is known of it
pub record IsFull (w : World) (file : FileId) (s : ℕ) : Type 0 where
  pub holds : Holds w file s
  pub value : InodeValue
  pub is : known (w.stores s).names file ≡ Some value
  pub full : value.full ≡ true

module _ (n : ℕ) (on : StandOn n) (events : List Event) (quiet : IsQuiet n (run n events)) (file : FileId) where
  abbrev W : World
  W = run n events

  abbrev A : ℕ → Store
  A s = W.stores s

  abbrev Lives : ℕ → Type 0
  Lives s = is_live n W s ≡ true

  whole : (s : ℕ) → Lives s → IsWhole n s (A s)
  whole = whole_of n on events quiet

  intends : (s : ℕ) → Lives s → IntendsInOrder (A s)
  intends s live = let i = live_is n W s live in on.quiet.intends events s i.least i.most

  none_stands : (s : ℕ) → Lives s → (q : IntentKey) → stands (A s).intents q ≡ true → ⊥
  none_stands s live q h = false≢true (sym (ap (λ (is : List Intent). stands is q) (no_intents n on events quiet s live)) ∙ h)

  -- ---- whatever is held is full

  full_by : (s : ℕ) (live : Lives s) (x : InodeValue) → known (A s).names file ≡ Some x → (t : Bool) → x.full ≡ t → t ≡ true
  full_by s live x is true e = refl
  full_by s live x is false e = absurd (none_stands s live (key.Fill file) (((intends s live).fills file).1 (inl (x, is, e))))

  pub all_full : (s : ℕ) → Lives s → Holds W file s → IsFull W file s
  all_full s live h =
      let x = own_by (known (A s).names file) (sym ((whole s live).together file) ∙ ap is_some h.is) in
      record { holds = h; value = x.0; is = x.1; full = full_by s live x.0 x.1 x.0.full refl }

  own_is : (s : ℕ) (h : IsFull W file s) → own_or_blank (A s).names file ≡ h.value.own
  own_is s h = ap (λ (o : Option InodeValue). or_blank file (own_of o)) h.is

  pub full_is : (s : ℕ) (h : IsFull W file s) → is_full (A s) file ≡ true
  full_is s h = ap is_full_of h.is ∙ h.full

  -- ---- one gold is known

  module _ (k birth : ℕ) (g : IsGoldAt n W file k birth) (knows : (t : ℕ) → Lives t → is_full (A t) file ≡ true → flag_at (A t) file k ≡ flag_at (A k) file k) where
    abbrev F : Flag
    F = (own_there n on events file k birth g).flag

    abbrev Own_flag : OwnFlag (A k) file k birth
    Own_flag = own_there n on events file k birth g

    names_golds : (s : ℕ) → Lives s → (h : IsFull W file s) → NamesGolds (A s) file h.value h.holds.replica
    names_golds s live h = (let i = live_is n W s live in on.quiet.golds events s i.least i.most file h.value h.holds.replica (record { known_is = h.is; replica_is = h.holds.is }))

    no_seek : (s : ℕ) → Lives s → Seeks (A s) file → ⊥
    no_seek s live h = none_stands s live (key.Seek file) h

    flag_in : (s : ℕ) → Lives s → (h : IsFull W file s) → Contains h.value.own.flags F
    flag_in s live h =
        let there : flag_of h.value.own.flags k ≡ Some F =
        ap (λ (o : Attributes). flag_of o.flags k) (sym (own_is s h)) ∙ knows s live (full_is s h) ∙ Own_flag.there in
        among_contained h.value.own.flags F (flag_found h.value.own.flags k F there).0

    not_removed : (s : ℕ) → Lives s → (t : ℕ) → Lives t → is_removed (removed_of (A s)) t ≡ false
    not_removed s live t there = (let i = live_is n W t there in ap (λ (rs : List ℕ). is_removed rs t) (all_known n on events quiet s live) ∙ i.live)

    live_gold : (s : ℕ) → Lives s → IsLiveGold (A s) F
    live_gold s live =
        and_from F.raised (not (is_removed (removed_of (A s)) F.server)) Own_flag.raised
        (ap (λ (m : ℕ). not (is_removed (removed_of (A s)) m)) Own_flag.server_is ∙ ap not (not_removed s live k g.live))

    edge_of : (s : ℕ) (live : Lives s) (h : IsFull W file s) (e : Edge) → Contains h.holds.replica.edges e → IsAmong h.holds.replica.edges e
    edge_of s live h e c = among_of h.holds.replica.edges e c

    -- ---- a gold replica has an edge to it

    gold_joins : (s : ℕ) → Lives s → (h : IsFull W file s) → IsGold (A s) h.value h.holds.replica → AreOne W file s k
    gold_joins s live h gold = by (s == k) refl
      where
        by : (t : Bool) → (s == k) ≡ t → AreOne W file s k
        by true same = inl (eqb-true s k same)
        by false apart =
            let other : F.server ≢ server_of (A s) = (λ e. eqb-false s k apart (sym (whole s live).server ∙ sym e ∙ Own_flag.server_is)) in
            elim ((names_golds s live h).gold gold F (flag_in s live h) (live_gold s live) other) [
              | inl name ↦ (
                  let e = name.0 in
                  let to : e.peer ≡ k = name.2.0 ∙ Own_flag.server_is in
                  let edge = named_back n on events quiet file s live h.holds.replica h.holds.is e (edge_of s live h e name.1) in
                  subst (λ (i : ℕ). AreOne W file s i) to (inr (one W file s e.peer edge)))
              | inr seeks ↦ absurd (no_seek s live seeks)
            ]

    -- ---- a bronze one has an edge to a gold one

    module _ (s : ℕ) (live : Lives s) (h : IsFull W file s) (flag : Flag) (seen : Contains h.value.own.flags flag) (lives : IsLiveGold (A s) flag)
        (e : Edge) (listed : Contains h.holds.replica.edges e) (to : e.peer ≡ flag.server) (born : e.birth ≡ flag.birth) where
      edge_in : IsAmong h.holds.replica.edges e
      edge_in = edge_of s live h e listed

      edge : HasEdge W file s e.peer
      edge = named_back n on events quiet file s live h.holds.replica h.holds.is e edge_in

      peer_live : Lives e.peer
      peer_live = peer_lives n on events quiet file s live h.holds.replica h.holds.is e edge_in

      there : IsFull W file e.peer
      there = all_full e.peer peer_live edge.there

      same_own : h.value.own ≡ there.value.own
      same_own =
          sym (own_is s h) ∙ (on.quiet.agree events quiet file s live e.peer peer_live (one W file s e.peer edge)).own ∙ own_is e.peer there

      replica_same : there.holds.replica.birth ≡ flag.birth
      unfolding there all_full edge
      replica_same = peer_born n on events quiet file s live h.holds.replica h.holds.is e edge_in ∙ born

      there_gold : IsGold (A e.peer) there.value there.holds.replica
      there_gold = (
        flag,
        subst (λ (o : Attributes). Contains o.flags flag) same_own seen,
        sym to ∙ sym (whole e.peer peer_live).server,
        sym replica_same,
        (and_parts flag.raised (not (is_removed (removed_of (A s)) flag.server)) lives).0,
      )

      peer_joins : AreOne W file s k
      peer_joins = further W file s e.peer k (inr (one W file s e.peer edge)) (gold_joins e.peer peer_live there there_gold)

    -- ---- so each is joined to it

    joins_by : (s : ℕ) → (live : Lives s) → (h : IsFull W file s) → (t : Bool) → is_raised h.value.own.flags (server_of (A s)) h.holds.replica.birth ≡ t
        → AreOne W file s k
    joins_by s live h true is =
        let r = raised_one h.value.own.flags (server_of (A s)) h.holds.replica.birth is in
        gold_joins s live h (r.flag, among_contained h.value.own.flags r.flag r.among, r.server_is, r.birth_is, r.raised)
    joins_by s live h false is =
        let i = live_is n W s live in
        let own : own_at (A s).names file ≡ Some h.value.own = ap own_of h.is in
        let sorted : IsByServer h.value.own.flags = (((on.holding.carried events).stores s i.least i.most).own file h.value.own own).sorted in
        let bronze : IsGold (A s) h.value h.holds.replica → ⊥ = (λ gold.
        let raised = one_raised h.value.own.flags gold.0 sorted (contained_among h.value.own.flags gold.0 gold.1) gold.4 in
        false≢true (sym is ∙ ap (λ (m : ℕ). is_raised h.value.own.flags m h.holds.replica.birth) (sym gold.2) ∙ ap (is_raised h.value.own.flags gold.0.server) (sym gold.3) ∙ raised)) in
        elim ((names_golds s live h).bronze bronze) [
          | inl name ↦ peer_joins s live h name.0 name.1 name.2 name.3.0 name.3.1 name.3.2.0 name.3.2.1
          | inr seeks ↦ absurd (no_seek s live seeks)
        ]

    joins : (s : ℕ) → Lives s → Holds W file s → AreOne W file s k
    joins s live h = (let f = all_full s live h in joins_by s live f (is_raised f.value.own.flags (server_of (A s)) f.holds.replica.birth) refl)

    -- CONNECTED
    pub connected : IsConnected n W file
    connected s t ls lt a b = further W file s k t (joins s ls a) (back W file t k (joins t lt b))

  -- ---- where the graph is connected, all know the same

  replica_by : (t : ℕ) (o : Option Replica) → replica_at (A t) file ≡ o → is_some o ≡ true → Holds W file t
  replica_by t None is h = absurd (false≢true h)
  replica_by t (Some x) is h = record { replica = x; is = is }

  held_by : (o : Option InodeValue) → is_full_of o ≡ true → is_some o ≡ true
  held_by None h = h
  held_by (Some x) h = refl

  full_holds : (t : ℕ) → Lives t → is_full (A t) file ≡ true → Holds W file t
  full_holds t live full = replica_by t (replica_at (A t) file) refl ((whole t live).together file ∙ held_by (known (A t).names file) full)

  pub all_know : IsConnected n W file → (k : ℕ) → Lives k → Holds W file k → (t : ℕ) → Lives t → Holds W file t → (m : ℕ)
      → flag_at (A t) file m ≡ flag_at (A k) file m
  all_know graph k lk hk t lt ht m = elim (graph t k lt lk ht hk) [
    | inl same ↦ ap (λ (i : ℕ). flag_at (A i) file m) same
    | inr chain ↦ ap (λ (o : Attributes). flag_of o.flags m) (on.quiet.agree events quiet file t lt k lk chain).own
  ]

  pub full_held : (t : ℕ) → Lives t → is_full (A t) file ≡ true → Holds W file t
  full_held = full_holds
