-- Where a Seek stands of just what seeks, golds are named, or sought.
use Rattle.std.proofs.Common.{ℕ, ◌≡◌, ◌≢◌, ◌⊎◌, ◌==◌, not, Bool, true, false, cond, List, Option, is_some, refl, sym, ap, ◌∙◌, inl, inr}
use Rattle.std.specs.Prelude.{Contains}
use Rattle.std.specs.List.{IsAmong, list_any}
use Rattle.std.proofs.lemmas.Bool.{and_parts, ne_eqb, and_from, not_from_false}
use Rattle.law_frame.specs.pg_run.pg_base.declared.id.FileId.{FileId}
use Rattle.law_frame.specs.pg_run.pg_content.Content.{Among}
use Rattle.law_frame.proofs.pg_run.pg_content.Members.{any_by, any_found}
use Rattle.law_frame.specs.pg_run.pg_edges.declared.edge.Edge.{Edge}
use Rattle.law_frame.specs.pg_run.pg_edges.Edges.{is_listed}
use Rattle.law_frame.specs.pg_run.pg_house.Facts.{AreByServer}
use Rattle.law_frame.specs.pg_run.pg_names.Names.{InodeValue, or_blank, own_of}
use Rattle.law_frame.specs.pg_run.pg_register.declared.flag.Flag.{Flag}
use Rattle.law_frame.specs.pg_run.pg_register.Flag.{IsByServer, is_live, is_live_other, is_raised, is_removed}
use Rattle.law_frame.specs.pg_run.pg_pieces.Golds.{flags_of, is_gold}
use Rattle.law_frame.specs.pg_run.pg_graph.Walks.{edges_of}
use Rattle.law_frame.specs.pg_run.pg_intentions.Seeks.{has_gold_apart, has_gold_edge, is_apart, is_seeking, matches}
use Rattle.law_frame.specs.pg_run.pg_replica.declared.replica.Replica.{Replica}
use Rattle.law_frame.specs.pg_run.pg_replica.Replicas.{or_nothing}
use Rattle.law_frame.specs.pg_run.pg_store.declared.store.Store.{Store}
use Rattle.law_frame.specs.pg_run.pg_store.Births.{birth_of}
use Rattle.law_frame.specs.pg_run.pg_store.Seen.{removed_of, server_of}
use Rattle.law_frame.specs.pg_run.pg_store.Store.{is_held}
use Rattle.law_frame.specs.pg_run.Golds.{HasReplica, IsGold, IsLiveGold, NamesAGold, NamesGolds, NamesOne, ReplicasNameGolds, Seeks}
use Rattle.law_frame.specs.pg_run.Intending.{IntentionsAreInOrder, SeeksStand}
use Rattle.law_frame.specs.pg_run.Run.{run}
use Rattle.law_frame.proofs.pg_run.Found.{listed_edge}
use Rattle.law_frame.proofs.pg_run.Lists.{among_contained, contained_among}
use Rattle.law_contents.proofs.law_order.Runs.{sound_run}
use Rattle.law_golds.proofs.Flags.{one_raised, raised_one}

-- a member by index
contained : {A : Type 0} (xs : List A) (x : A) → IsAmong xs x → Contains xs x
contained xs x k = (k.0, k.1.0, sym k.1.1)

module _ (a : Store) (sorted : AreByServer a.names) (stand : SeeksStand a) (file : FileId) (x : InodeValue) (r : Replica) (h : HasReplica a file x r) where
  abbrev Mine : ℕ
  Mine = server_of a

  abbrev Removed : List ℕ
  Removed = removed_of a

  abbrev Flags : List Flag
  Flags = x.own.flags

  flags_is : flags_of a file ≡ Flags
  flags_is = ap (λ (o : Option InodeValue). (or_blank file (own_of o)).flags) h.known_is

  edges_is : edges_of a file ≡ r.edges
  edges_is = ap (λ (o : Option Replica). (or_nothing o).edges) h.replica_is

  birth_is : birth_of a file ≡ r.birth
  birth_is = ap (λ (o : Option Replica). (or_nothing o).birth) h.replica_is

  held : is_held a file ≡ true
  held = ap (λ (o : Option InodeValue). is_some o) h.known_is

  by_server : IsByServer Flags
  by_server = sorted file x.own (ap own_of h.known_is)

  -- whether it is gold, by its flags and its birth
  gold_is : is_gold a file ≡ is_raised Flags Mine r.birth
  gold_is = ap (λ (fs : List Flag). is_raised fs Mine (birth_of a file)) flags_is ∙ ap (is_raised Flags Mine) birth_is

  seeks_where : (gold : Bool) → is_gold a file ≡ gold → cond gold (has_gold_apart a file) (not (has_gold_edge a file)) ≡ true → Seeks a file
  seeks_where gold is some =
      let seeking : is_seeking a file ≡ true =
      and_from (is_held a file) (cond (is_gold a file) (has_gold_apart a file) (not (has_gold_edge a file))) held
      (ap (λ (t : Bool). cond t (has_gold_apart a file) (not (has_gold_edge a file))) is ∙ some) in
      stand file ∙ seeking

  -- ---- a gold replica

  gold_true : IsGold a x r → is_gold a file ≡ true
  gold_true g =
      let raised = one_raised Flags g.0 by_server (contained_among Flags g.0 g.1) g.4 in
      gold_is ∙ ap (λ (s : ℕ). is_raised Flags s r.birth) (sym g.2) ∙ ap (is_raised Flags g.0.server) (sym g.3) ∙ raised

  module _ (gold : IsGold a x r) (flag : Flag) (known_flag : Contains Flags flag) (live : IsLiveGold a flag) (other : flag.server ≢ Mine) where
    apart_true : is_listed r.edges flag.server flag.birth ≡ false → has_gold_apart a file ≡ true
    apart_true none =
        let live_other : is_live_other Mine Removed flag ≡ true =
        and_from (is_live Removed flag) (not (flag.server == Mine)) live (not_from_false (flag.server == Mine) (ne_eqb flag.server Mine other)) in
        let apart : is_apart Mine Removed r.edges flag ≡ true =
        and_from (is_live_other Mine Removed flag) (not (is_listed r.edges flag.server flag.birth)) live_other
        (not_from_false (is_listed r.edges flag.server flag.birth) none) in
        ap (λ (es : List Edge). list_any (is_apart Mine Removed es) (flags_of a file)) edges_is
        ∙ ap (λ (fs : List Flag). list_any (is_apart Mine Removed r.edges) fs) flags_is
        ∙ any_by (is_apart Mine Removed r.edges) Flags flag (contained_among Flags flag known_flag) apart

    named_by : (t : Bool) → is_listed r.edges flag.server flag.birth ≡ t → NamesOne r flag ⊎ Seeks a file
    named_by true is =
        let e = listed_edge r.edges flag.server flag.birth is in
        inl (e.edge, contained r.edges e.edge e.among, (e.to, e.born))
    named_by false is = inr (seeks_where true (gold_true gold) (apart_true is))

    gold_names : NamesOne r flag ⊎ Seeks a file
    gold_names = named_by (is_listed r.edges flag.server flag.birth) refl

  -- ---- a bronze one

  is_gold_one : is_gold a file ≡ true → IsGold a x r
  is_gold_one is =
      let k = raised_one Flags Mine r.birth (sym gold_is ∙ is) in
      (k.flag, among_contained Flags k.flag k.among, k.server_is, k.birth_is, k.raised)

  edge_is : has_gold_edge a file ≡ list_any (matches Removed Flags) r.edges
  edge_is =
      ap (λ (fs : List Flag). list_any (matches Removed fs) (edges_of a file)) flags_is
      ∙ ap (λ (es : List Edge). list_any (matches Removed Flags) es) edges_is

  matched : (e : Edge) → Among e r.edges → matches Removed Flags e ≡ true → NamesAGold a x r
  matched e among is =
      let both = and_parts (is_raised Flags e.peer e.birth) (not (is_removed Removed e.peer)) is in
      let k = raised_one Flags e.peer e.birth both.0 in
      let live : IsLiveGold a k.flag =
      and_from k.flag.raised (not (is_removed Removed k.flag.server)) k.raised
      (ap (λ (s : ℕ). not (is_removed Removed s)) k.server_is ∙ both.1) in
      (k.flag, among_contained Flags k.flag k.among, live, (e, among_contained r.edges e among, (sym k.server_is, sym k.birth_is)))

  bronze_by : (t : Bool) → has_gold_edge a file ≡ t → is_gold a file ≡ false → NamesAGold a x r ⊎ Seeks a file
  bronze_by true is bronze = (let e = any_found (matches Removed Flags) r.edges (sym edge_is ∙ is) in inl (matched e.0 e.1 e.2))
  bronze_by false is bronze = inr (seeks_where false bronze (not_from_false (has_gold_edge a file) is))

  bronze_names : (t : Bool) → is_gold a file ≡ t → (IsGold a x r → ⊥) → NamesAGold a x r ⊎ Seeks a file
  bronze_names true is none = absurd (none (is_gold_one is))
  bronze_names false is none = bronze_by (has_gold_edge a file) refl is

  pub names_golds : NamesGolds a file x r
  names_golds = record {
    gold = λ gold flag known_flag live other. gold_names gold flag known_flag live other;
    bronze = λ none. bronze_names (is_gold a file) refl none;
  }

-- GOLDS ARE NAMED
pub replicas_name_golds : (n : ℕ) → IntentionsAreInOrder n → ReplicasNameGolds n
replicas_name_golds n intends events s least most file x r h =
    let a = (run n events).stores s in
    names_golds a ((sound_run n events).servers s).sound.whole.names.sorted (intends events s least most).seeks file x r h
