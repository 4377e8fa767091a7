-- What other laws give of each moment: births, what is gone, edges, and what is wanted.
use Rattle.std.proofs.Common.{ℕ, ◌≡◌, ◌==◌, ◌≤◌, true, List, Option, None, Some, option_map, refl, sym, ap, subst, ◌∙◌, inl}
use Rattle.std.specs.Prelude.{Contains}
use Rattle.std.proofs.lemmas.Bool.{and_parts, eqb-true, false≢true}
use Rattle.pg_run.specs.pg_base.declared.id.FileId.{FileId}
use Rattle.pg_run.specs.pg_edges.declared.key.Key.{Key}
use Rattle.pg_run.specs.pg_edges.declared.key.Key.TheVariants as key
use Rattle.pg_run.specs.pg_edges.Edges.{is_listed}
use Rattle.pg_run.specs.pg_entries.declared.cell.Cell.{Cell}
use Rattle.pg_run.specs.pg_entries.declared.cell.Cell.TheVariants as cell
use Rattle.pg_run.specs.pg_event.declared.event.Event.{Event}
use Rattle.pg_run.specs.theory_flood.Server.{Replica as Seen}
use Rattle.pg_run.specs.pg_intent.declared.intent.Intent.TheVariants as intent
use Rattle.pg_run.proofs.pg_intent.Stands.{intent_found}
use Rattle.theory_leaving.specs.Moment.{IsSaid, IsWanted}
use Rattle.theory_leaving.specs.Protocol.Word.{Gone}
use Rattle.pg_run.specs.pg_names.Names.{own_or_blank}
use Rattle.pg_run.specs.theory_flood_pieces.Seen.{seen}
use Rattle.pg_run.specs.theory_flood_pieces.Whole.{AreEdges, IsEdge, IsWhole}
use Rattle.pg_run.proofs.theory_flood_pieces.Choices.{found_replica}
use Rattle.pg_run.specs.pg_register.declared.flag.Flag.{Flag}
use Rattle.pg_run.specs.pg_register.Flag.{flag_of, is_raised, is_raised_with}
use Rattle.pg_run.specs.pg_replica.declared.replica.Replica.{Replica}
use Rattle.pg_run.specs.pg_replica.Replicas.{lists_peer}
use Rattle.pg_run.specs.pg_store.declared.store.Store.{Store}
use Rattle.pg_run.specs.pg_store.Links.{is_linked}
use Rattle.pg_run.specs.pg_store.Store.{replica_at}
use Rattle.pg_run.specs.pg_store.Together.{birth_at}
use Rattle.pg_run.specs.pg_pieces.Golds.{flags_of}
use Rattle.pg_run.specs.Births.{IsBirthAt, WasGivenOut}
use Rattle.pg_run.specs.Journal.{mail}
use Rattle.pg_run.specs.Laws.{store_after}
use Rattle.pg_run.specs.Run.{World, run}
use Rattle.pg_run.proofs.Found.{listed_edge}
use Rattle.law_leaving.specs.Gone.{WentAs}
use Rattle.law_leaving.specs.Premises.{StandOn}
use Rattle.law_leaving.specs.Seen.{leaving}
use Rattle.law_leaving.specs.Taken.{site}
use Rattle.law_leaving.proofs.Behind.{born_at, over_not, what_went_is_over}
use Rattle.law_leaving.proofs.Flags.{flag_back, seen_born, seen_of}
use Rattle.law_leaving.proofs.Lists.{member_at}
use Rattle.law_leaving.proofs.Words.{said}

-- what the edges see of a thing at a server
abbrev pub IsSeen : Store → FileId → Seen Cell → Type 0
IsSeen a file x = option_map (seen a file) (replica_at a file) ≡ Some x

-- the edges of a replica that is seen are to other servers
pub listed_apart : (n s : ℕ) (a : Store) (file : FileId) (r : Replica) (birth : ℕ) → IsWhole n s a → replica_at a file ≡ Some r
    → is_listed r.edges s birth ≡ true → ⊥
listed_apart n s a file r birth k here listed =
    let each = (found_replica (λ (z : Replica). AreEdges n s z.edges) file r a.replicas k.replicas here).each in
    let e = listed_edge r.edges s birth listed in
    (member_at (IsEdge n s) r.edges e.edge each e.among).other.apart e.to

-- a flag that is raised with a birth
raised_is : (o : Option Flag) (birth : ℕ) → is_raised_with o birth ≡ true
    → (f : Flag) × (o ≡ Some f) × (f.birth ≡ birth) × (f.raised ≡ true)
raised_is None birth h = absurd (false≢true h)
raised_is (Some f) birth h =
    let parts = and_parts f.raised (f.birth == birth) h in
    (f, refl, eqb-true f.birth birth parts.1, parts.0)

linked_in : (r : Replica) (o : Option Replica) → o ≡ Some r → (peer birth : ℕ) → lists_peer o peer birth ≡ true
    → is_listed r.edges peer birth ≡ true
linked_in r o is peer birth h = ap (λ z. lists_peer z peer birth) (sym is) ∙ h

module _ (n : ℕ) (on : StandOn n) (file : FileId) (events : List Event) where
  abbrev W : World
  W = run n events

  abbrev At : ℕ → Store
  At s = store_after n events s

  pub births : (s t birth later : ℕ) (x y : Seen Cell) → (1 ≤ s) × (s ≤ n) → (1 ≤ t) × (t ≤ n) → IsSeen (At s) file x
      → is_listed x.edges t later ≡ true → IsSeen (At t) file y × (y.birth ≡ birth) → later ≤ birth
  births s t birth later x y real other has listed held =
      let r = seen_of (At s) file x (replica_at (At s) file) refl has in
      let l : is_listed r.0.edges t later ≡ true = ap (λ (z : Seen Cell). is_listed z.edges t later) r.2 ∙ listed in
      let e = listed_edge r.0.edges t later l in
      let given = (on.births.known events).edges s real.0 real.1 file r.0 e.edge r.1 e.among in
      let P : ℕ → Type 0 = (λ u. WasGivenOut n events file u e.edge.birth) in
      let Q : ℕ → Type 0 = (λ b. WasGivenOut n events file t b) in
      let q = seen_of (At t) file y (replica_at (At t) file) refl held.0 in
      (on.births.alone events t other.0 other.1 file).greatest later birth (subst Q e.born (subst P e.to given))
      (inl (q.0, q.1, ap (λ (z : Seen Cell). z.birth) q.2 ∙ held.1))

  pub gone : (t birth : ℕ) (x : Seen Cell) → IsSaid (leaving n file) (mail W.journal) (Gone t birth)
      → IsSeen (At t) file x × (x.birth ≡ birth) → ⊥
  gone t birth x m held =
      let word = said file m.0.packet.from m.0.to m.0.packet.message (Gone t birth) m.2 in
      let g = on.births.gone events m.0 file birth m.1 word.1 in
      let q = seen_of (At t) file x (replica_at (At t) file) refl held.0 in
      let P : ℕ → Type 0 = (λ u. IsBirthAt (At u) file birth) in
      g.1 (subst P (sym word.0) (inl (q.0, q.1, ap (λ (z : Seen Cell). z.birth) q.2 ∙ held.1)))

  -- what went is not held
  pub not_held : (t birth : ℕ) (y : Seen Cell) → WentAs n file events t birth y → birth_at (At t) file ≡ Some birth → ⊥
  not_held t birth y h there =
      over_not (At t) file h.replica.birth (what_went_is_over n on events t file h.replica h.went)
      (there ∙ ap (λ b. Some b) (sym h.born))

  pub past : (t birth : ℕ) (x y : Seen Cell) → WentAs n file events t birth y → IsSeen (At t) file x × (x.birth ≡ birth) → ⊥
  past t birth x y h held =
      not_held t birth y h (seen_born (At t) file x birth held.0 held.1)

  pub apart : (s birth : ℕ) (x : Seen Cell) → IsSeen (At s) file x → is_listed x.edges s birth ≡ true → ⊥
  apart s birth x has listed =
      let q = seen_of (At s) file x (replica_at (At s) file) refl has in
      listed_apart n s (At s) file q.0 birth (on.whole events s) q.1 (ap (λ (z : Seen Cell). is_listed z.edges s birth) q.2 ∙ listed)

  pub filled : (s : ℕ) (x : Seen Cell) → IsSeen (At s) file x → (k : Key) × (c : Cell) × (x.cells k ≡ Some c)
  filled s x has =
      let q = seen_of (At s) file x (replica_at (At s) file) refl has in (
        key.Place,
        cell.Place (own_or_blank (At s).names file).place,
        sym (ap (λ (z : Seen Cell). z.cells key.Place) q.2),
      )

  pub wants : (s own peer birth : ℕ) → (1 ≤ s) × (s ≤ n)
      → Contains (At s).intents (intent.Leave file peer birth) × (birth_at (At s) file ≡ Some own)
      → IsWanted (leaving n file) events (site W s) own peer birth
  wants s own peer birth real h =
      let a = At s in
      let i = on.intents events s real.0 real.1 in
      let may = (i.leaves file peer birth (intent_found a.intents (intent.Leave file peer birth) i.keys h.0)).2 in
      let parts = and_parts (is_linked a file peer birth) (is_raised (flags_of a file) peer birth) may in
      let r = born_at (replica_at a file) own h.1 in
      let f = raised_is (flag_of (own_or_blank a.names file).flags peer) birth parts.1 in
      record {
        replica = seen a file r.0;
        held = (ap (option_map (seen a file)) r.1, r.2);
        listed = linked_in r.0 (replica_at a file) r.1 peer birth parts.0;
        flag = f.0;
        is = flag_back (flag_of (own_or_blank a.names file).flags peer) ∙ f.1;
        born = f.2;
        raised = f.3;
      }
