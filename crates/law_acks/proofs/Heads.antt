-- A version comes of which the head alone is known to be one of the history: to the edges bodies
-- are nothing.
use Rattle.std.proofs.Common.{ℕ, ◌≡◌, ◌+◌, Bool, true, false, not, cond, List, [], length, Option, Some, refl, sym, ap, subst, ◌∙◌, inl, inr, arith}
use Rattle.std.proofs.lemmas.Bool.Decides.{nat_tests}
use Rattle.std.proofs.lemmas.Bool.{not-false, not-true}
use Rattle.std.specs.List.{filter}
use Rattle.pg_run.specs.pg_base.declared.head.Head.{Head}
use Rattle.pg_run.specs.pg_base.declared.id.FileId.{FileId}
use Rattle.pg_run.specs.pg_base.declared.policy.Policy.{Policy}
use Rattle.pg_run.specs.pg_base.declared.vector.Actor.{Actor}
use Rattle.pg_run.specs.pg_base.Version.{VersionValue, actor_of}
use Rattle.pg_run.specs.pg_content.Content.{Among, ContentValue, covers_version, is_covered, joined_version, put_version}
use Rattle.pg_run.specs.pg_content.Covering.{AreCoveredBy, IsUpToHead, IsVectorUpTo}
use Rattle.pg_run.specs.pg_content.History.{Made, version_of}
use Rattle.pg_run.specs.pg_content.StandsFor.{InStrictOrder}
use Rattle.pg_run.proofs.pg_content.Ancestry.{one_made}
use Rattle.pg_run.proofs.pg_content.Covering.{joined_covers}
use Rattle.pg_run.proofs.pg_content.Inserting.{among_inserted, inserted_among}
use Rattle.pg_run.specs.theory_flood.Server.{Holds}
use Rattle.pg_run.proofs.theory_flood.Draws.{Draws}
use Rattle.pg_run.proofs.theory_flood.Steps.{Steps, Steps-refl}
use Rattle.pg_run.specs.pg_entries.declared.cell.Cell.TheVariants as cell
use Rattle.pg_run.specs.pg_names.Names.{raise}
use Rattle.pg_run.specs.pg_replica.declared.replica.Replica.{Replica}
use Rattle.pg_run.specs.pg_replica.Replica.{covered_heads, covers, with_head}
use Rattle.pg_run.specs.pg_replica.Replicas.{edge_count, replicas_taking, takes_version}
use Rattle.pg_run.proofs.pg_replica.Drawn.{seen as heads_seen, version_draws}
use Rattle.pg_run.proofs.pg_replica.Growth.{CanTake, CoversItself}
use Rattle.pg_run.proofs.pg_replica.Order.{version_order}
use Rattle.pg_run.specs.pg_store.declared.store.Store.{Store}
use Rattle.pg_run.specs.pg_store.Cells.{cell_at}
use Rattle.pg_run.specs.pg_store.Store.{content_of, end_covered, replica_at, take_version, with_drawn, with_names}
use Rattle.pg_run.specs.theory_flood_pieces.Histories.{IsOfHistory}
use Rattle.pg_run.specs.theory_flood_pieces.Laws.{IsTaken}
use Rattle.pg_run.specs.theory_flood_pieces.Seen.{head_cell, standing}
use Rattle.pg_run.specs.theory_flood_pieces.UpTo.{IsUpTo}
use Rattle.pg_run.proofs.theory_flood_pieces.Choices.{decided}
use Rattle.pg_run.proofs.theory_flood_pieces.Counting.{steps_on}
use Rattle.pg_run.proofs.theory_flood_pieces.Versions.{IsNews, news_is, news_order, news_steps, version_held, with_new}
use Rattle.law_acks.proofs.Contents.{content_held}

-- ---- another body of a version takes its place among the heads

module _ (heads : List VersionValue) (w : VersionValue) (body : List ℕ) where
  abbrev Other : VersionValue
  Other = record { head = w.head; body = body }

  abbrev Left : List VersionValue
  Left = filter (λ h. not (covers_version w.head.vector h)) heads

  put_upto : (vector : List (Actor × ℕ)) → IsUpToHead vector (put_version heads w) → IsUpToHead vector (put_version heads Other)
  put_upto vector up = elim (among_inserted up.0 w Left up.1) [
    | inl it ↦ (Other, inserted_among Other Other Left (inl refl), subst (λ (z : VersionValue). IsVectorUpTo vector z.head.vector) it up.2)
    | inr there ↦ (up.0, inserted_among up.0 Other Left (inr there), up.2)
  ]

  joined_upto : (vector : List (Actor × ℕ)) (t : Bool) → IsUpToHead vector (cond t heads (put_version heads w))
      → IsUpToHead vector (cond t heads (put_version heads Other))
  joined_upto vector true up = up
  joined_upto vector false up = put_upto vector up

-- ---- it comes

module _ (a : Store) (file : FileId) (w : Replica) (held : replica_at a file ≡ Some w) (h : List Made) (k : IsOfHistory h w.content) (m : Made) (is : Among m h) (body : List ℕ) where
  abbrev V : VersionValue
  V = version_of w.content.policy h m

  abbrev U : VersionValue
  U = record { head = V.head; body = body }

  abbrev Next : Replica
  Next = with_head w U a.tags

  itself : (u : Made) → covers_version (version_of w.content.policy h u).head.vector (version_of w.content.policy h u) ≡ true
  itself u = grind (arith, nat_tests)

  can_take : CanTake w U
  can_take = record {
    own = λ c l. (let r = k.versions c l in subst CoversItself (sym r.2) (omega arith));
    one = λ c l e.
        let r = k.versions c l in
        let same : r.0 ≡ m = one_made h k.history r.0 m r.1 is (ap (λ (v : VersionValue). v.head.stamp) (sym r.2) ∙ e) in
        let P : VersionValue → Type 0 = λ v. covers_version V.head.vector v ≡ true in
        subst P (sym (r.2 ∙ ap (version_of w.content.policy h) same)) (itself m);
  }

  joined : AreCoveredBy w.content.heads (joined_version w.content.heads U) × IsUpToHead V.head.vector (joined_version w.content.heads U)
  joined =
      let heads = w.content.heads in
      let j = joined_covers h k.history w.content.policy heads k.versions m is in
      let t = is_covered heads (actor_of V.head) V.head.number in
      (λ v l. joined_upto heads V body v.head.vector t (j.0 v l), joined_upto heads V body V.head.vector t j.1)

  head_news : covers w U ≡ false → IsNews a.tags w Next (covered_heads w.content.heads U) U
  head_news new =
      let O : Bool → Type 0 = λ b. InStrictOrder (cond b w Next).content.heads in
      let D : Bool → Type 0 = λ b. Draws a.tags (heads_seen w) (cond b a.tags (a.tags + length w.edges)) (heads_seen (cond b w Next)) in
      record {
        birth = refl;
        edges = refl;
        draws = subst D new (version_draws a.tags w U k.order);
        order = subst O new (version_order w U a.tags k.order can_take);
        covered = joined.0;
      }

  -- what comes of it
  abbrev Puts : Store → Type 0
  Puts b = Steps standing a b × Holds IsUpTo (cell_at b file) (cell.Version U)

  puts_new : covers w U ≡ false → Puts (with_new a file w Next U.head.stamp)
  puts_new new =
      let n = head_news new in
      let gone = covered_heads w.content.heads U in
      let P : ContentValue → Type 0 = λ z. IsUpToHead V.head.vector z.heads in (
        news_steps a file w Next held gone U n,
        version_held (with_new a file w Next U.head.stamp) file (news_order a file w Next held gone U n) U
            (subst P (sym (news_is a file w Next held gone U n)) joined.1),
      )

  puts_old : covers w U ≡ true → Puts a
  puts_old old =
      let P : Bool → Type 0 = λ b. IsUpToHead V.head.vector (cond b w.content.heads (put_version w.content.heads U)) in
      let Q : ContentValue → Type 0 = λ z. InStrictOrder z.heads in
      let R : ContentValue → Type 0 = λ z. IsUpToHead V.head.vector z.heads in
      let here = sym (content_held a file w held) in
      (Steps-refl standing a, version_held a file (subst Q here k.order) U (subst R here (subst P old joined.1)))

  abbrev took : Option Replica → Store
  took o =
      cond (takes_version o U)
      (end_covered (with_names (with_drawn a (edge_count o) (replicas_taking a.replicas file U a.tags o)) (raise a.names U.head.stamp.time)) file) a

  took_known : Puts (took (Some w))
  took_known = decided Puts (not (covers w U)) (with_new a file w Next U.head.stamp) a
      (λ t. puts_new (not-true (covers w U) t)) (λ f. puts_old (not-false (covers w U) f))

  pub put_taken : IsTaken a (take_version a file U) file (cell.Version U)
  put_taken =
      let t = subst (λ (o : Option Replica). Puts (took o)) (sym held) took_known in
      (steps_on a (take_version a file U) t.0, t.1)

  pub put_held : covers w U ≡ true → Holds IsUpTo (cell_at a file) (cell.Version U)
  put_held old = (puts_old old).1

-- ---- what a message tells of

-- the head is that of a version of a history, as the file's policy has it, and the heads that are
-- held are of that history
pub record IsHeadComing (a : Store) (file : FileId) (head : Head) : Type 0 where
  pub policy : Policy
  pub history : List Made
  pub made : Made
  pub among : Among made history
  pub whole : head ≡ (version_of policy history made).head
  pub held : (x : Replica) → replica_at a file ≡ Some x
      → IsOfHistory history x.content × (x.content.policy ≡ policy)

-- to a server that holds the same heads as before
module _ (a b : Store) (file : FileId) (head : Head) (k : IsHeadComing a file head) (x y : Replica)
    (old : replica_at a file ≡ Some x) (here : replica_at b file ≡ Some y) (same : y.content ≡ x.content) where
  of : IsOfHistory k.history y.content
  of = subst (IsOfHistory k.history) (sym same) (k.held x old).0

  as_here : head ≡ (version_of y.content.policy k.history k.made).head
  as_here =
      let policy : y.content.policy ≡ k.policy = ap (λ (z : ContentValue). z.policy) same ∙ (k.held x old).1 in
      k.whole ∙ ap (λ p. (version_of p k.history k.made).head) (sym policy)

  -- THE VERSION IS TAKEN, whatever its body
  pub head_taken : (v : VersionValue) → v.head ≡ head → IsTaken b (take_version b file v) file (cell.Version v)
  head_taken v is =
      let P : Head → Type 0 = λ z. (let u : VersionValue = record { head = z; body = v.body } in IsTaken b (take_version b file u) file (cell.Version u)) in
      subst P (sym (is ∙ as_here)) (put_taken b file y here k.history of k.made k.among v.body)

  -- and where a head covers it, a cell that tells more is held
  pub head_held : is_covered (content_of b file).heads (actor_of head) head.number ≡ true → Holds IsUpTo (cell_at b file) (head_cell head)
  head_held covered =
      let P : ContentValue → Type 0 = λ z. is_covered z.heads (actor_of head) head.number ≡ true in
      let Q : Head → Type 0 = λ z. is_covered y.content.heads (actor_of z) z.number ≡ true in
      let R : Head → Type 0 = λ z. Holds IsUpTo (cell_at b file) (head_cell z) in
      subst R (sym as_here)
      (put_held b file y here k.history of k.made k.among [] (subst Q as_here (subst P (content_held b file y here) covered)))
