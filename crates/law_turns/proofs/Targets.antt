-- Who the definitions ask first is the one that the words of the law name.
use Rattle.std.proofs.Common.{ℕ, ◌≡◌, ◌≢◌, ◌≤◌, ◌==◌, Bool, true, false, cond, not, List, [], ◌∷◌, Option, None, Some, is_some, All, refl, sym, ap, subst, ◌∙◌, inl, inr, eq-eqb}
use Rattle.std.specs.Prelude.{Contains}
use Rattle.std.specs.List.{find, IsAmong}
use Rattle.std.specs.Option.{IfSome, option_map, unwrap_or}
use Rattle.std.proofs.lemmas.Bool.{and_from, and_parts, eqb-true, false≢true, ne_eqb, not-true, not_from_false, true≢false}
use Rattle.std.proofs.lemmas.Option.{none-some, same_Some}
use Rattle.pg_run.specs.pg_base.declared.id.FileId.{FileId}
use Rattle.pg_run.specs.pg_content.Content.{Among}
use Rattle.pg_run.proofs.pg_content.Members.{all_among, any_by, any_found}
use Rattle.pg_run.specs.pg_edges.declared.edge.Edge.{Edge}
use Rattle.pg_run.specs.pg_edges.Edges.{AscendFrom, edge_to, is_listed, keys_if_born, peers}
use Rattle.pg_run.specs.pg_entries.declared.entry.Entry.{Entry}
use Rattle.pg_run.specs.pg_intent.declared.intent.Intent.{Intent}
use Rattle.pg_run.specs.pg_intent.declared.intent.Intent.TheVariants as intent
use Rattle.pg_run.specs.pg_intent.Target as target
use Rattle.pg_run.proofs.pg_intent.Above.{is_next_as, not_equal}
use Rattle.pg_run.specs.pg_intentions.Confirms.{holder, holder_by}
use Rattle.pg_run.specs.pg_intentions.Seeks.{is_apart, seek_target, target_or_next}
use Rattle.pg_run.specs.pg_graph.Walks.{edges_of}
use Rattle.pg_run.specs.pg_names.declared.attributes.Attributes.{Attributes}
use Rattle.pg_run.specs.pg_names.Names.{cell_at, or_blank, own_at}
use Rattle.pg_run.specs.pg_pieces.Golds.{flags_of}
use Rattle.pg_run.specs.pg_register.declared.flag.Flag.{Flag}
use Rattle.pg_run.specs.pg_register.Flag.{IsByServer, is_live, is_live_other, is_removed}
use Rattle.pg_run.proofs.pg_register.ByServer.{IsByServer-nil}
use Rattle.pg_run.proofs.pg_register.Indexes.{first-least}
use Rattle.pg_run.specs.pg_replica.declared.replica.Replica.{Replica}
use Rattle.pg_run.specs.pg_replica.Replicas.{or_nothing}
use Rattle.pg_run.specs.pg_store.declared.store.Store.{Store}
use Rattle.pg_run.specs.pg_store.Seen.{removed_of, server_of}
use Rattle.pg_run.specs.pg_store.Servers.{first_target, next_target}
use Rattle.pg_run.specs.pg_store.Store.{replica_at}
use Rattle.pg_run.specs.theory_flood_pieces.Whole.{AreEdges, IsWhole}
use Rattle.pg_run.proofs.theory_flood_pieces.Choices.{found_replica}
use Rattle.pg_run.proofs.theory_flood_pieces.Found.{edges_found}
use Rattle.pg_run.specs.Golds.{NamesOne}
use Rattle.pg_run.proofs.Found.{listed_edge}
use Rattle.pg_run.proofs.Lists.{among_contained, contained_among}
use Rattle.law_turns.specs.Targets.{IsHolder, IsLeastOrNext, IsLiveOther, IsNextBehind, IsOtherGold, IsTellerOrNext, IsUnmatched}
use Rattle.law_turns.specs.Turns.{IsFirstTarget}
use Rattle.law_turns.proofs.Aims.{IsAimed}

-- ---- what a search finds

module _ {A : Type 0} (p : A → Bool) where
  found : (xs : List A) (x : A) → find p xs ≡ Some x → Among x xs × (p x ≡ true)
  found [] x h = absurd (none-some x h)
  found (y ∷ ys) x h = by (p y) refl (found ys x) h
    where
      by : (t : Bool) → p y ≡ t → (find p ys ≡ Some x → Among x ys × (p x ≡ true)) → cond t (Some y) (find p ys) ≡ Some x
          → Among x (y ∷ ys) × (p x ≡ true)
      by true is rest e = let same = same_Some y x e in (inl (sym same), ap p (sym same) ∙ is)
      by false is rest e = let r = rest e in (inr r.0, r.1)

  found_none : (xs : List A) (x : A) → find p xs ≡ None → Among x xs → p x ≡ false
  found_none [] x h k = absurd k
  found_none (y ∷ ys) x h k = by (p y) refl (found_none ys x) h
    where
      by : (t : Bool) → p y ≡ t → (find p ys ≡ None → Among x ys → p x ≡ false) → cond t (Some y) (find p ys) ≡ None → p x ≡ false
      by true is rest e = absurd (none-some y (sym e))
      by false is rest e = elim k [ inl same ↦ ap p same ∙ is | inr later ↦ rest e later ]

contained : {A : Type 0} (xs : List A) (x : A) → IsAmong xs x → Contains xs x
contained xs x k = (k.0, k.1.0, sym k.1.1)

-- ---- an edge that is there is listed

listed_there : (es : List Edge) (e : Edge) → AscendFrom 0 (peers es) → Among e es → is_listed es e.peer e.birth ≡ true
listed_there es e order among =
    ap (λ (o : Option Edge). is_some (keys_if_born o e.birth)) (all_among (λ (x : Edge). edge_to es x.peer ≡ Some x) es e (edges_found 0 es order) among)
    ∙ ap (λ t. is_some (cond t (Some e.keys) None)) (eq-eqb e.birth e.birth refl)

module _ (b : Store) where
  abbrev Mine : ℕ
  Mine = server_of b

  abbrev Removed : List ℕ
  Removed = removed_of b

  -- ---- who is removed

  stays_in : (s : ℕ) → is_removed Removed s ≡ false → ¬ (Contains Removed s)
  stays_in s live there =
      false≢true (sym live ∙ any_by (λ one. one == s) Removed s (contained_among Removed s there) (eq-eqb s s refl))

  none_removed : (s : ℕ) → ¬ (Contains Removed s) → is_removed Removed s ≡ false
  none_removed s stays = by (is_removed Removed s) refl
    where
      by : (t : Bool) → is_removed Removed s ≡ t → t ≡ false
      by false is = refl
      by true is =
          let one = any_found (λ one. one == s) Removed is in
          let same : one.0 ≡ s = eqb-true one.0 s one.2 in
          absurd (stays (subst (Contains Removed) same (among_contained Removed one.0 one.1)))

  -- ---- the next behind this server

  live_as : (s : ℕ) → IsLiveOther b s → target.IsLiveOther b.servers Mine Removed s
  live_as s live = record { from = live.least; upto = live.most; differs = live.other; stays = none_removed s live.stays }

  live_is : (s : ℕ) → target.IsLiveOther b.servers Mine Removed s → IsLiveOther b s
  live_is s live = record { least = live.from; most = live.upto; other = live.differs; stays = stays_in s live.stays }

  pub next_behind : IsNextBehind b (next_target b Mine)
  next_behind =
      let next = next_target b Mine in
      let is = is_next_as b.servers Mine Removed Mine next refl in record {
        above = λ s live over. (let r = is.above s (live_as s live) over in (live_is next r.0, r.1, r.2));
        around = λ all s live. (let r = is.around (λ u lives. all u (live_is u lives)) s (live_as s live) in (live_is next r.0, r.1));
        nobody = λ no. is.none (λ u lives. no u (live_is u lives));
      }

  first_told : (from : ℕ) → IsTellerOrNext b from (first_target b from)
  first_told from = record {
    teller = λ some. ap (λ t. cond t (next_target b Mine) from) (ne_eqb from 0 some);
    next = λ none. subst (IsNextBehind b) (sym (ap (λ t. cond t (next_target b Mine) from) (eq-eqb from 0 none))) next_behind;
  }

  -- ---- golds

  pub gold_of : (flag : Flag) → is_live_other Mine Removed flag ≡ true → IsOtherGold b flag
  gold_of flag is =
      let parts = and_parts (is_live Removed flag) (not (flag.server == Mine)) is in
      let live = and_parts flag.raised (not (is_removed Removed flag.server)) parts.0 in record {
        raised = live.0;
        other = not_equal flag.server Mine parts.1;
        stays = stays_in flag.server (not-true (is_removed Removed flag.server) live.1);
      }

  pub gold_passes : (flag : Flag) → IsOtherGold b flag → is_live_other Mine Removed flag ≡ true
  gold_passes flag gold =
      and_from (is_live Removed flag) (not (flag.server == Mine))
      (and_from flag.raised (not (is_removed Removed flag.server)) gold.raised
      (not_from_false (is_removed Removed flag.server) (none_removed flag.server gold.stays)))
      (not_from_false (flag.server == Mine) (ne_eqb flag.server Mine gold.other))

  -- ---- the least that passes a test, of flags by server

  module _ (test : Flag → Bool) (flags : List Flag) where
    -- the server has such a flag
    abbrev pub Passes : ℕ → Type 0
    Passes server = (flag : Flag) × Among flag flags × (test flag ≡ true) × (flag.server ≡ server)

    module _ (sorted : IsByServer flags) where
      least : (f : Flag) → find test flags ≡ Some f → All (λ (g : Flag). test g ≡ true → f.server ≤ g.server) flags
      least f is =
          subst (λ (o : Option Flag). IfSome (option_map (λ (g : Flag). g.server) o) (λ q. All (λ (g : Flag). test g ≡ true → q ≤ g.server) flags))
          is (first-least test flags sorted)

      pub first_is : (Suits : ℕ → Type 0) → ((u : ℕ) → Passes u → Suits u) → ((u : ℕ) → Suits u → Passes u)
          → (o : Option Flag) → find test flags ≡ o → IsLeastOrNext b Suits (target_or_next b o)
      first_is Suits into from None is = record {
        least = λ u suits. (let g = from u suits in absurd (true≢false (sym g.2 ∙ found_none test flags g.0 is g.1)));
        next = λ no. next_behind;
      }
      first_is Suits into from (Some f) is =
          let here = found test flags f is in
          let suits : Suits f.server = into f.server (f, here.0, here.1, refl) in record {
            least = λ u other. (
              suits,
              (let g = from u other in
                  subst (λ m. f.server ≤ m) g.3
                  (all_among (λ (x : Flag). test x ≡ true → f.server ≤ x.server) flags g.0 (least f is) g.1 g.2)),
            );
            next = λ no. absurd (no f.server suits);
          }

  -- ---- a Seek

  module _ (n s : ℕ) (whole : IsWhole n s b) (file : FileId) where
    abbrev Flags : List Flag
    Flags = flags_of b file

    abbrev Edges : List Edge
    Edges = edges_of b file

    abbrev test : Flag → Bool
    test = is_apart Mine Removed Edges

    flags_sorted : IsByServer Flags
    flags_sorted = by (own_at b.names file) refl
      where
        by : (o : Option Attributes) → own_at b.names file ≡ o → IsByServer (or_blank file o).flags
        by None is = IsByServer-nil
        by (Some own) is = whole.names.sorted file own is

    -- the flags are those of what is held
    seen_in : (flag : Flag) → Among flag Flags → (own : Attributes) × (own_at b.names file ≡ Some own) × Among flag own.flags
    seen_in flag there = by (own_at b.names file) refl there
      where
        by : (o : Option Attributes) → own_at b.names file ≡ o → Among flag (or_blank file o).flags
            → (own : Attributes) × (own_at b.names file ≡ Some own) × Among flag own.flags
        by None is k = absurd k
        by (Some own) is k = (own, is, k)

    in_seen : (flag : Flag) (own : Attributes) → own_at b.names file ≡ Some own → Among flag own.flags → Among flag Flags
    in_seen flag own is k = subst (λ (o : Option Attributes). Among flag (or_blank file o).flags) (sym is) k

    -- no edge names the replica that it is of
    unnamed : (flag : Flag) → is_listed Edges flag.server flag.birth ≡ false → (r : Replica) → replica_at b file ≡ Some r → ¬ (NamesOne r flag)
    unnamed flag none r is named =
        let e = named.0 in
        let order : AscendFrom 0 (peers r.edges) = (found_replica (λ (z : Replica). AreEdges n s z.edges) file r b.replicas whole.replicas is).order in
        let there : is_listed r.edges e.peer e.birth ≡ true = listed_there r.edges e order (contained_among r.edges e named.1) in
        let its : is_listed r.edges flag.server flag.birth ≡ true =
        subst (λ m. is_listed r.edges flag.server m ≡ true) named.2.1 (subst (λ m. is_listed r.edges m e.birth ≡ true) named.2.0 there) in
        let same : is_listed Edges flag.server flag.birth ≡ is_listed r.edges flag.server flag.birth =
        ap (λ (o : Option Replica). is_listed (or_nothing o).edges flag.server flag.birth) is in
        false≢true (sym none ∙ same ∙ its)

    none_listed : (flag : Flag) → ((r : Replica) → replica_at b file ≡ Some r → ¬ (NamesOne r flag)) → is_listed Edges flag.server flag.birth ≡ false
    none_listed flag apart = by (replica_at b file) refl
      where
        named_by : (r : Replica) → replica_at b file ≡ Some r → (t : Bool) → is_listed r.edges flag.server flag.birth ≡ t → t ≡ false
        named_by r is false at = refl
        named_by r is true at =
            let e = listed_edge r.edges flag.server flag.birth at in
            absurd (apart r is (e.edge, contained r.edges e.edge e.among, (e.to, e.born)))

        by : (o : Option Replica) → replica_at b file ≡ o → is_listed (or_nothing o).edges flag.server flag.birth ≡ false
        by None is = refl
        by (Some r) is = named_by r is (is_listed r.edges flag.server flag.birth) refl

    unmatched_is : (u : ℕ) → Passes test Flags u → IsUnmatched b file u
    unmatched_is u k =
        let flag = k.0 in
        let parts = and_parts (is_live_other Mine Removed flag) (not (is_listed Edges flag.server flag.birth)) k.2 in
        let own = seen_in flag k.1 in record {
          own = own.0;
          held = own.1;
          flag = flag;
          there = among_contained own.0.flags flag own.2;
          its = k.3;
          gold = gold_of flag parts.0;
          apart = unnamed flag (not-true (is_listed Edges flag.server flag.birth) parts.1);
        }

    is_unmatched : (u : ℕ) → IsUnmatched b file u → Passes test Flags u
    is_unmatched u k = (
      k.flag,
      in_seen k.flag k.own k.held (contained_among k.own.flags k.flag k.there),
      and_from (is_live_other Mine Removed k.flag) (not (is_listed Edges k.flag.server k.flag.birth)) (gold_passes k.flag k.gold)
          (not_from_false (is_listed Edges k.flag.server k.flag.birth) (none_listed k.flag k.apart)),
      k.its,
    )

    seek_told : IsLeastOrNext b (IsUnmatched b file) (seek_target b file)
    seek_told = first_is test Flags flags_sorted (IsUnmatched b file) unmatched_is is_unmatched (find test Flags) refl

  -- ---- a Confirm

  module _ (dir child : FileId) (sorted : (e : Entry) → cell_at b.names dir child ≡ Some e → IsByServer e.flags) where
    abbrev Suits : ℕ → Type 0
    Suits = IsHolder b dir child

    abbrev gold : Flag → Bool
    gold = is_live_other Mine Removed

    holder_is : (e : Entry) → cell_at b.names dir child ≡ Some e → (u : ℕ) → Passes gold e.flags u → Suits u
    holder_is e is u k =
        record { entry = e; noted = is; flag = k.0; there = among_contained e.flags k.0 k.1; its = k.3; gold = gold_of k.0 k.2 }

    is_holder : (e : Entry) → cell_at b.names dir child ≡ Some e → (u : ℕ) → Suits u → Passes gold e.flags u
    is_holder e is u k =
        let same : k.entry ≡ e = same_Some k.entry e (sym k.noted ∙ is) in (
          k.flag,
          contained_among e.flags k.flag (subst (λ (x : Entry). Contains x.flags k.flag) same k.there),
          gold_passes k.flag k.gold,
          k.its,
        )

    chosen_is : (o : Option Flag) → unwrap_or (option_map (λ (g : Flag). g.server) o) (next_target b Mine) ≡ target_or_next b o
    chosen_is None = refl
    chosen_is (Some flag) = refl

    holder_told : IsLeastOrNext b Suits (holder b dir child)
    holder_told = by (cell_at b.names dir child) refl
      where
        by : (o : Option Entry) → cell_at b.names dir child ≡ o → IsLeastOrNext b Suits (holder_by b (next_target b Mine) o)
        by None is = record { least = λ u k. absurd (none-some k.entry (sym is ∙ k.noted)); next = λ no. next_behind }
        by (Some e) is =
            subst (IsLeastOrNext b Suits) (sym (chosen_is (find gold e.flags)))
            (first_is gold e.flags (sorted e is) Suits (holder_is e is) (is_holder e is) (find gold e.flags) refl)

  -- ---- each kind

  module _ (n s : ℕ) (whole : IsWhole n s b)
      (cells : (dir child : FileId) (e : Entry) → cell_at b.names dir child ≡ Some e → IsByServer e.flags) (from : ℕ) where
    pub targets_told : (i : Intent) → IsAimed b from i → IsFirstTarget b from i
    targets_told (intent.Bye file birth peer peer_birth) is = tt
    targets_told (intent.Patch dir entry target) is = subst (IsTellerOrNext b from) (sym is) (first_told from)
    targets_told (intent.Fill file birth target) is = subst (IsTellerOrNext b from) (sym is) (first_told from)
    targets_told (intent.Seek file target) is =
        subst (IsLeastOrNext b (IsUnmatched b file)) (sym is) (seek_told n s whole file)
    targets_told (intent.Confirm dir child target) is =
        subst (IsLeastOrNext b (IsHolder b dir child)) (sym is) (holder_told dir child (cells dir child))
    targets_told (intent.Leave file peer peer_birth) is = tt
