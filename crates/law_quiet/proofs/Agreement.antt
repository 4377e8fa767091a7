-- Wherever no message is under way and nothing is owed, servers that are joined for a thing hold
-- the same of it.
use Rattle.std.proofs.Common.{[], ℕ, ◌≡◌, ◌≤◌, not, true, false, length, List, ◌∷◌, Option, None, Some, is_some, refl, sym, ap, subst, ◌∙◌, arith}
use Rattle.std.proofs.lemmas.Bool.{false≢true, and_from}
use Rattle.std.proofs.lemmas.Bool.Decides.{nat_tests}
use Rattle.std.proofs.lemmas.List.{take_all}
use Rattle.pg_run.specs.pg_base.declared.id.FileId.{FileId}
use Rattle.pg_run.specs.pg_content.Content.{Among, ContentValue}
use Rattle.pg_run.specs.pg_content.Covering.{AreCoveredBy}
use Rattle.pg_run.specs.pg_content.StandsFor.{InStrictOrder}
use Rattle.pg_run.proofs.pg_content.Covering.{covered_same}
use Rattle.pg_run.specs.pg_event.declared.event.Event.{Event}
use Rattle.pg_run.specs.pg_entries.declared.entry.Entry.{Entry}
use Rattle.pg_run.specs.pg_names.declared.attributes.Attributes.{Attributes}
use Rattle.pg_run.specs.pg_names.Names.{InodeValue, cell_at, known, or_blank, own_at, own_of, own_or_blank}
use Rattle.pg_run.proofs.pg_names.Alike.{own_of_parts}
use Rattle.pg_run.specs.pg_register.declared.flag.Flag.{Flag}
use Rattle.pg_run.specs.pg_register.Flag.{flag_of, is_removed}
use Rattle.pg_run.specs.pg_register.Laws.{IsOneFlag}
use Rattle.pg_run.specs.pg_replica.declared.replica.Replica.{Replica}
use Rattle.pg_run.specs.pg_replica.Replicas.{or_nothing}
use Rattle.pg_run.specs.pg_store.declared.store.Store.{Store}
use Rattle.pg_run.specs.pg_store.Seen.{removed_of, view_of}
use Rattle.pg_run.specs.pg_store.Store.{content_of, replica_at}
use Rattle.pg_run.specs.theory_flood_pieces.UpTo.{AreFlagsUpTo, IsPlaceUpTo}
use Rattle.pg_run.specs.theory_flood_pieces.Whole.{IsWhole}
use Rattle.pg_run.specs.Graphs.{AreJoined, HasEdge, IsChain}
use Rattle.pg_run.specs.Journal.{removals, versions}
use Rattle.pg_run.specs.Known.{AreTold, IsFlagOf, IsStoreTold, of_run}
use Rattle.pg_run.specs.Laws.{content_taken}
use Rattle.pg_run.specs.Quiet.{IsQuiet}
use Rattle.pg_run.specs.Run.{World, is_live, is_server, run}
use Rattle.pg_run.specs.State.{versions_taken}
use Rattle.pg_run.proofs.Found.{flag_found, listed_edge}
use Rattle.pg_run.proofs.Frame.{live_is}
use Rattle.law_quiet.specs.Given.{AgreementIsGiven}
use Rattle.law_quiet.specs.Laws.{HoldTheSame, QuietStoresAgree}
use Rattle.law_quiet.proofs.Across.{IsHadAcross, entries_up, flags_up, heads_up, peer_is, place_up}
use Rattle.law_quiet.proofs.Alike.{AreOneEntry, entries_alike, flags_alike, same_place}

-- ---- what is held

pub own_by : (o : Option InodeValue) → is_some o ≡ true → (x : InodeValue) × (o ≡ Some x)
own_by None h = absurd (false≢true h)
own_by (Some x) h = (x, refl)

-- what has a replica is held
held_own : (n s : ℕ) (a : Store) (file : FileId) (x : Replica) → IsWhole n s a → replica_at a file ≡ Some x
    → (own : Attributes) × (own_at a.names file ≡ Some own)
held_own n s a file x whole is =
    let h = own_by (known a.names file) (sym (whole.together file) ∙ ap is_some is) in
    (h.0.own, ap own_of h.1)

server_is : (n s : ℕ) → 1 ≤ s → s ≤ n → is_server n s ≡ true
server_is n s least most = grind (arith, nat_tests)

-- ---- servers that are joined

module _ (n : ℕ) (g : AgreementIsGiven n) (events : List Event) (quiet : IsQuiet n (run n events)) (file : FileId) where
  abbrev W : World
  W = run n events

  abbrev A : ℕ → Store
  A s = W.stores s

  -- two flags of a thing that have one server, birth and number are one
  flags_one : (thing : FileId) (fs hs : List Flag) → ((f : Flag) → Among f fs → IsFlagOf n W thing f)
      → ((f : Flag) → Among f hs → IsFlagOf n W thing f) → (m : ℕ) → IsOneFlag (flag_of fs m) (flag_of hs m)
  flags_one thing fs hs a b m f h i j birth number =
      let x = flag_found fs m f i in
      let y = flag_found hs m h j in
      g.flags events thing f h (a f x.0) (b h y.0) (x.1 ∙ sym y.1) birth number

  -- a live server of the run
  abbrev Lives : ℕ → Type 0
  Lives s = is_live n W s ≡ true

  whole_of : (s : ℕ) → Lives s → IsWhole n s (A s)
  whole_of s live = let i = live_is n W s live in g.whole events s i.least i.most

  told_of : (s : ℕ) → Lives s → IsStoreTold (of_run n W) (A s)
  told_of s live = let i = live_is n W s live in (g.known events).stores s i.least i.most

  had_of : (s : ℕ) → Lives s → IsHadAcross W s
  had_of s live = let i = live_is n W s live in g.acknowledged events s i.least i.most

  module _ (s t : ℕ) (ls : Lives s) (lt : Lives t) (there : HasEdge W file s t) (back : HasEdge W file t s) where
    first : IsStoreTold (of_run n W) (A s)
    first = told_of s ls

    second : IsStoreTold (of_run n W) (A t)
    second = told_of t lt

    whole_s : IsWhole n s (A s)
    whole_s = whole_of s ls

    whole_t : IsWhole n t (A t)
    whole_t = whole_of t lt

    same_by : (a b : Attributes) → own_at (A s).names file ≡ Some a → own_at (A t).names file ≡ Some b
        → own_or_blank (A s).names file ≡ own_or_blank (A t).names file
    same_by a b i j =
        let x = first.own file a i in
        let y = second.own file b j in
        let is_a : own_or_blank (A s).names file ≡ a = ap (or_blank file) i in
        let is_b : own_or_blank (A t).names file ≡ b = ap (or_blank file) j in
        let up = place_up n W file s t there (quiet.nothing s ls) (had_of s ls) whole_s whole_t in
        let down = place_up n W file t s back (quiet.nothing t lt) (had_of t lt) whole_t whole_s in
        let fup = flags_up n W file s t there (quiet.nothing s ls) (had_of s ls) whole_s whole_t in
        let fdown = flags_up n W file t s back (quiet.nothing t lt) (had_of t lt) whole_t whole_s in
        let P : Attributes → Attributes → Type 0 = λ p q. IsPlaceUpTo p.place q.place in
        let F : Attributes → Attributes → Type 0 = λ p q. AreFlagsUpTo p.flags q.flags in
        let places : a.place ≡ b.place =
        same_place a.place b.place (g.stamps events file a.place b.place x.place_is y.place_is)
        (subst (λ (p : Attributes). P p b) is_a (subst (λ (q : Attributes). P (own_or_blank (A s).names file) q) is_b up))
        (subst (λ (p : Attributes). P p a) is_b (subst (λ (q : Attributes). P (own_or_blank (A t).names file) q) is_a down)) in
        let flags : a.flags ≡ b.flags =
        flags_alike a.flags b.flags x.sorted y.sorted (flags_one file a.flags b.flags x.flags_are y.flags_are)
        (subst (λ (p : Attributes). F p b) is_a (subst (λ (q : Attributes). F (own_or_blank (A s).names file) q) is_b fup))
        (subst (λ (p : Attributes). F p a) is_b (subst (λ (q : Attributes). F (own_or_blank (A t).names file) q) is_a fdown)) in
        is_a ∙ own_of_parts a.place b.place a.flags b.flags places flags ∙ sym is_b

    same_own : own_or_blank (A s).names file ≡ own_or_blank (A t).names file
    same_own =
        let a = held_own n s (A s) file there.here.replica whole_s there.here.is in
        let b = held_own n t (A t) file there.there.replica whole_t there.there.is in
        same_by a.0 b.0 a.1 b.1

    one_entry : (child : FileId) (x y : Entry) → cell_at (A s).names file child ≡ Some x → cell_at (A t).names file child ≡ Some y → AreOneEntry x y
    one_entry child x y h i =
        let a = first.cells file child x h in
        let b = second.cells file child y i in
        let P : FileId → Type 0 = λ c. AreTold (of_run n W) c y.place y.flags in
        let c : AreTold (of_run n W) x.child y.place y.flags = subst P (b.0 ∙ sym a.0) b.1 in
        record {
          place = g.stamps events x.child x.place y.place a.1.place_is c.place_is;
          first = a.1.sorted;
          second = b.1.sorted;
          flags = flags_one x.child x.flags y.flags a.1.flags_are c.flags_are;
        }

    same_entries : (child : FileId) → cell_at (A s).names file child ≡ cell_at (A t).names file child
    same_entries child =
        entries_alike (cell_at (A s).names file child) (cell_at (A t).names file child) (one_entry child)
        (entries_up n W file s t there (quiet.nothing s ls) (had_of s ls) whole_s whole_t child)
        (entries_up n W file t s back (quiet.nothing t lt) (had_of t lt) whole_t whole_s child)

    -- the content of a replica is the state of what it took
    taken_is : (m : ℕ) → Lives m → (x : Replica) → replica_at (A m) file ≡ Some x → content_of (A m) file ≡ content_taken W file m
    taken_is m live x is = (
        let i = live_is n W m live in
        ap (λ (o : Option Replica). (or_nothing o).content) is ∙ g.took events file m i.least i.most x is)

    same_content : content_of (A s) file ≡ content_of (A t) file
    same_content =
        let c = content_taken W file s in
        let d = content_taken W file t in
        let is_c = taken_is s ls there.here.replica there.here.is in
        let is_d = taken_is t lt there.there.replica there.there.is in
        let a = g.heads events s file in
        let b = g.heads events t file in
        let C : ContentValue → ContentValue → Type 0 = λ p q. AreCoveredBy p.heads q.heads in
        let O : ContentValue → Type 0 = λ p. InStrictOrder p.heads in
        let up = heads_up n W file s t there (quiet.nothing s ls) (had_of s ls) whole_s whole_t (subst O (sym is_c) a.order) in
        let down = heads_up n W file t s back (quiet.nothing t lt) (had_of t lt) whole_t whole_s (subst O (sym is_d) b.order) in
        is_c
        ∙ covered_same (versions file W.history) (g.histories events file) c d (versions_taken file W.history (W.took s)) (versions_taken file W.history (W.took t)) a b refl
        (subst (λ (p : ContentValue). C p d) is_c (subst (λ (q : ContentValue). C (content_of (A s) file) q) is_d up))
        (subst (λ (p : ContentValue). C p c) is_d (subst (λ (q : ContentValue). C (content_of (A t) file) q) is_c down))
        ∙ sym is_d

    same_held : HoldTheSame (A s) (A t) file
    same_held = record { own = same_own; entries = same_entries; content = same_content }

  -- ---- along a chain

  turned : (s t : ℕ) → HasEdge W file s t → HasEdge W file t s
  turned s t e = record { here = e.there; there = e.here; names = e.named; named = e.names }

  further : (s u t : ℕ) → HoldTheSame (A s) (A u) file → HoldTheSame (A u) (A t) file → HoldTheSame (A s) (A t) file
  further s u t a b = record { own = a.own ∙ b.own; entries = λ child. a.entries child ∙ b.entries child; content = a.content ∙ b.content }

  one_edge : (s t : ℕ) → Lives s → Lives t → HasEdge W file s t → HoldTheSame (A s) (A t) file
  one_edge s t ls lt e = same_held s t ls lt e (turned s t e)

  -- all removals are known to a live server, so the other end of its edge is a live one
  all_known : (s : ℕ) → Lives s → removed_of (A s) ≡ removals W.journal
  all_known s live =
      let i = live_is n W s live in
      let all : length (removals W.journal) ≤ view_of (A s) = (let same = quiet.views s live in omega arith) in
      sym (g.views events s i.least i.most).front ∙ take_all (view_of (A s)) (removals W.journal) all

  peer_lives : (s t : ℕ) → Lives s → HasEdge W file s t → Lives t
  peer_lives s t live e =
      let i = live_is n W s live in
      let other = peer_is n W file s t e (whole_of s live) in
      let x = e.here.replica in
      let edge = listed_edge x.edges t e.there.replica.birth e.names in
      let at = (g.views events s i.least i.most).edges file x edge.edge e.here.is edge.among in
      let gone : is_removed (removals W.journal) t ≡ false =
      ap (λ (rs : List ℕ). is_removed rs t) (sym (all_known s live)) ∙ ap (is_removed (removed_of (A s))) (sym edge.to) ∙ at in
      and_from (is_server n t) (not (is_removed (removals W.journal) t)) (server_is n t other.least other.most) (ap not gone)

  along : (between : List ℕ) (s t : ℕ) → Lives s → Lives t → IsChain W file s between t → HoldTheSame (A s) (A t) file
  along [] s t ls lt e = one_edge s t ls lt e
  along (u ∷ us) s t ls lt chain =
      let other = peer_lives s u ls chain.0 in
      further s u t (one_edge s u ls other chain.0) (along us u t other lt chain.1)

  pub joined_same : (s t : ℕ) → Lives s → Lives t → AreJoined W file s t → HoldTheSame (A s) (A t) file
  joined_same s t ls lt joined = along joined.0 s t ls lt joined.1

-- AGREEMENT WHEN QUIET
pub quiet_stores_agree : (n : ℕ) → AgreementIsGiven n → QuietStoresAgree n
quiet_stores_agree n g events quiet file s ls t lt joined = joined_same n g events quiet file s t ls lt joined
