-- Wherever a run is quiet servers agree, where what they hold is what they took; and their names
-- form a tree.
use Rattle.std.proofs.Common.{[], ℕ, ◌≡◌, List, ◌∷◌, Option, refl, sym, ap, subst, ◌∙◌, inl, inr}
use Rattle.pg_run.specs.pg_base.declared.id.FileId.{FileId}
use Rattle.pg_run.specs.pg_replica.declared.replica.Replica.{Replica}
use Rattle.pg_run.specs.pg_replica.Replicas.{or_nothing}
use Rattle.pg_run.specs.pg_store.Store.{content_of}
use Rattle.pg_run.specs.Graphs.{Holds, IsChain}
use Rattle.pg_run.specs.Laws.{Agree, HoldsWhatItTook, NamesMerge, QuietDirectoriesAreBroughtBack, QuietJoinedServersAgree, QuietNamesFormATree, QuietServersAgree, QuietThingsAreListedOnlyWhereTheyStand, content_taken}
use Rattle.pg_run.specs.Run.{World, run}
use Rattle.pg_run.proofs.Frame.{live_is}
use Rattle.law_quiet.specs.Given.{TreeIsGiven}
use Rattle.law_quiet.specs.Laws.{QuietStoresAgree}
use Rattle.law_quiet.proofs.Facts.{facts_of}
use Rattle.law_listings.specs.Letters.{letters}
use Rattle.law_quiet.proofs.WhatIsListed.{listed_only}
use Rattle.law_quiet.proofs.Trees.{brought_back, tree}

-- both ends of a chain hold the thing
ends_hold : (w : World) (file : FileId) (between : List ℕ) (s t : ℕ) → IsChain w file s between t → Holds w file s × Holds w file t
ends_hold w file [] s t e = (e.here, e.there)
ends_hold w file (u ∷ us) s t e = (e.0.here, (ends_hold w file us u t e.1).1)

content_is : (w : World) (file : FileId) (s : ℕ) (h : Holds w file s) → h.replica.content ≡ content_taken w file s
    → content_of (w.stores s) file ≡ content_taken w file s
content_is w file s h is = ap (λ (o : Option Replica). (or_nothing o).content) h.is ∙ is

-- AGREEMENT WHEN QUIET, on what was taken
pub joined_agree : (n : ℕ) → HoldsWhatItTook n → NamesMerge n → QuietStoresAgree n → QuietJoinedServersAgree n
joined_agree n took names stores events quiet file s ls t lt joined =
    let w = run n events in
    let i = live_is n w s ls in
    let j = live_is n w t lt in
    let a = names events s i.least i.most in
    let b = names events t j.least j.most in
    let same = stores events quiet file s ls t lt joined in
    let ends = ends_hold w file joined.0 s t joined.1 in
    let first = content_is w file s ends.0 (took events file s i.least i.most ends.0.replica ends.0.is) in
    let second = content_is w file t ends.1 (took events file t j.least j.most ends.1.replica ends.1.is) in
    record {
      own = sym (a.own file) ∙ same.own ∙ b.own file;
      entries = λ child. sym (a.entries file child) ∙ same.entries child ∙ b.entries file child;
      content = sym first ∙ same.content ∙ second;
    }

itself : (w : World) (file : FileId) (s t : ℕ) → s ≡ t → Agree w file s t
itself w file s t e =
    let P : ℕ → Type 0 = λ i. Agree w file s i in
    subst P e (record { own = refl; entries = λ child. refl; content = refl })

-- so all that hold a thing do, where its graph is connected
pub connected_agree : (n : ℕ) → QuietJoinedServersAgree n → QuietServersAgree n
connected_agree n joined events quiet file connected s ls t lt a b = elim (connected s t ls lt a b) [
  | inl same ↦ itself (run n events) file s t same
  | inr chain ↦ joined events quiet file s ls t lt chain
]

-- ---- names

pub quiet_tree : (n : ℕ) → TreeIsGiven n → QuietNamesFormATree n
quiet_tree n g events quiet connected = tree n (run n events) (facts_of n g events quiet connected)

pub quiet_listed : (n : ℕ) → TreeIsGiven n → QuietThingsAreListedOnlyWhereTheyStand n
quiet_listed n g events quiet connected = listed_only n (run n events) (letters n events) (facts_of n g events quiet connected) (g.listed events)

pub quiet_back : (n : ℕ) → TreeIsGiven n → QuietDirectoriesAreBroughtBack n
quiet_back n g events quiet connected = brought_back n (run n events) (facts_of n g events quiet connected)
