-- Edges to peers of which something holds, and views that grow.
use Rattle.std.proofs.Common.{[], ℕ, zero, suc, ◌≡◌, ◌≢◌, ◌==◌, ◌+◌, ◌||◌, Bool, true, false, cond, not, List, ◌∷◌, ◌++◌, take, slice_get, Option, None, Some, nat_eq, eq-eqb, Less, Equal, Greater, refl, sym, ap, subst, ◌∙◌, arith, All}
use Rattle.std.specs.List.{IsAmong}
use Rattle.std.specs.Option.{option_eq}
use Rattle.std.specs.Ordering.{match_ordering, nat_cmp}
use Rattle.std.proofs.lemmas.Bool.{eqb-true, false≢true, ne_eqb}
use Rattle.std.proofs.lemmas.List.Elements.{All-cons, All-head, All-nil, All-tail}
use Rattle.std.proofs.lemmas.Option.{same_Some}
use Rattle.law_frame.specs.pg_run.pg_edges.declared.edge.Edge.{Edge}
use Rattle.law_frame.specs.pg_run.pg_edges.declared.key.Key.{Key}
use Rattle.law_frame.specs.pg_run.pg_edges.Edges.{acked, is_listed, linked, makes_edge, new_edge, peers, put_edge, retired, tag_at, take_off, taken_off, touched, unlinked, without_edge}
use Rattle.law_frame.proofs.pg_run.pg_edges.Edits.{peers-retired, peers-touched}
use Rattle.law_frame.proofs.pg_run.pg_intent.Above.{still_apart}
use Rattle.law_frame.specs.pg_run.pg_register.Flag.{is_removed}
use Rattle.law_frame.specs.pg_run.pg_replica.Replica.{without_keys}
use Rattle.law_frame.proofs.pg_run.theory_flood_pieces.Choices.{chosen}

-- ---- edges

module _ (P : ℕ → Type 0) where
  abbrev pub Lead : List Edge → Type 0
  Lead es = All P (peers es)

  pub one_leads : (es : List Edge) (e : Edge) → IsAmong es e → Lead es → P e.peer
  one_leads [] e (i, (lt, is)) h = absurd (let l = lt in omega (arith, l))
  one_leads (d ∷ es) e (zero, (lt, is)) h =
      subst P (sym (ap (λ (x : Edge). x.peer) is)) (All-head P d.peer (peers es) h)
  one_leads (d ∷ es) e (suc i, (lt, is)) h =
      one_leads es e (i, (omega (arith, lt), is)) (All-tail P d.peer (peers es) h)

  pub lead_same : (es fs : List Edge) → peers fs ≡ peers es → Lead es → Lead fs
  lead_same es fs same h = subst (All P) (sym same) h

  pub lead_put : (es : List Edge) (e : Edge) → P e.peer → Lead es → Lead (put_edge es e)
  lead_put [] e of h = All-cons P e.peer [] of h
  lead_put (d ∷ es) e of h =
      let first = All-head P d.peer (peers es) h in
      let rest = All-tail P d.peer (peers es) h in
      elim (nat_cmp e.peer d.peer) as (λ o. Lead (match_ordering o (e ∷ d ∷ es) (e ∷ es) (d ∷ put_edge es e))) [
        | Less ↦ All-cons P e.peer (peers (d ∷ es)) of h
        | Equal ↦ All-cons P e.peer (peers es) of rest
        | Greater ↦ All-cons P d.peer (peers (put_edge es e)) first (lead_put es e of rest)
      ]

  pub lead_linked : (es : List Edge) (peer birth : ℕ) (ks : List Key) (tags : ℕ) → P peer → Lead es
      → Lead (linked es peer birth ks tags)
  lead_linked es peer birth ks tags of h =
      chosen Lead (makes_edge es peer birth) (put_edge es (new_edge peer birth ks tags)) es
      (lead_put es (new_edge peer birth ks tags) of h) h

  lead_out_by : (t : Bool) (e : Edge) (es : List Edge) → P e.peer → Lead es → Lead (cond t (e ∷ es) es)
  lead_out_by true e es of h = All-cons P e.peer (peers es) of h
  lead_out_by false e es of h = h

  pub lead_out : (es : List Edge) (peer : ℕ) → Lead es → Lead (without_edge es peer)
  lead_out [] peer h = h
  lead_out (e ∷ es) peer h =
      lead_out_by (not (e.peer == peer)) e (without_edge es peer) (All-head P e.peer (peers es) h)
      (lead_out es peer (All-tail P e.peer (peers es) h))

  pub lead_unlinked : (es : List Edge) (peer birth : ℕ) → Lead es → Lead (unlinked es peer birth)
  lead_unlinked es peer birth h =
      chosen Lead (is_listed es peer birth) (without_edge es peer) es (lead_out es peer h) h

  pub lead_touched : (es : List Edge) (k : Key) (tags : ℕ) → Lead es → Lead (touched es k tags)
  lead_touched es k tags h = lead_same es (touched es k tags) (peers-touched es k tags) h

  pub lead_without : (ks : List Key) (es : List Edge) → Lead es → Lead (without_keys es ks)
  lead_without [] es h = h
  lead_without (k ∷ ks) es h = lead_without ks (retired es k) (lead_same es (retired es k) (peers-retired es k) h)

  taken_peer : (t : Bool) (k : Key) (e : Edge) → (cond t (take_off k e) e).peer ≡ e.peer
  taken_peer true k e = refl
  taken_peer false k e = refl

  taken_peers : (es : List Edge) (peer : ℕ) (k : Key) → peers (taken_off es peer k) ≡ peers es
  taken_peers [] peer k = refl
  taken_peers (e ∷ es) peer k =
      ap (λ (p : ℕ). p ∷ peers (taken_off es peer k)) (taken_peer (e.peer == peer) k e)
      ∙ ap (λ (ps : List ℕ). e.peer ∷ ps) (taken_peers es peer k)

  pub lead_acked : (es : List Edge) (peer birth : ℕ) (k : Key) (tag : ℕ) → Lead es → Lead (acked es peer birth k tag)
  lead_acked es peer birth k tag h =
      chosen Lead (option_eq nat_eq (tag_at es peer birth k) (Some tag)) (taken_off es peer k) es
      (lead_same es (taken_off es peer k) (taken_peers es peer k) h) h

-- what is not removed in a later view was not removed before
pub was_apart : (R xs : List ℕ) (t : ℕ) → is_removed (R ++ xs) t ≡ false → is_removed R t ≡ false
was_apart [] xs t h = refl
was_apart (r ∷ R) xs t h = by (r == t) (was_apart R xs t) h
  where
    by : (b : Bool) → (is_removed (R ++ xs) t ≡ false → is_removed R t ≡ false) → b || is_removed (R ++ xs) t ≡ false
        → b || is_removed R t ≡ false
    by true rest k = k
    by false rest k = rest k

-- and what is removed stays so
pub stays_removed : (R xs : List ℕ) (t : ℕ) → is_removed R t ≡ true → is_removed (R ++ xs) t ≡ true
stays_removed [] xs t h = absurd (false≢true h)
stays_removed (r ∷ R) xs t h = by (r == t) (stays_removed R xs t) h
  where
    by : (b : Bool) → (is_removed R t ≡ true → is_removed (R ++ xs) t ≡ true) → b || is_removed R t ≡ true
        → b || is_removed (R ++ xs) t ≡ true
    by true rest k = refl
    by false rest k = rest k

pub turned_number : (x y : ℕ) → (x == y) ≡ false → (y == x) ≡ false
turned_number x y h = ne_eqb y x (λ e. false≢true (sym h ∙ eq-eqb x y (sym e)))

-- to none that is removed, where none of these led to one, and that to the new one goes
lead_one : (R : List ℕ) (server : ℕ) (e : Edge) (es : List Edge) → is_removed R e.peer ≡ false
    → Lead (λ t. is_removed (R ++ server ∷ []) t ≡ false) (without_edge es server) → (t : Bool) → (e.peer == server) ≡ t
    → Lead (λ t. is_removed (R ++ server ∷ []) t ≡ false) (cond (not t) (e ∷ without_edge es server) (without_edge es server))
lead_one R server e es first rest true same = rest
lead_one R server e es first rest false apart =
    let New : ℕ → Type 0 = λ t. is_removed (R ++ server ∷ []) t ≡ false in
    All-cons New e.peer (peers (without_edge es server))
    (still_apart R server e.peer first (turned_number e.peer server apart)) rest

-- where an edge goes, the others lead to others
pub lead_on : (R : List ℕ) (server : ℕ) (es : List Edge) → Lead (λ t. is_removed R t ≡ false) es
    → Lead (λ t. is_removed (R ++ server ∷ []) t ≡ false) (without_edge es server)
lead_on R server [] h = All-nil (λ (t : ℕ). is_removed (R ++ server ∷ []) t ≡ false)
lead_on R server (e ∷ es) h =
    let Old : ℕ → Type 0 = λ t. is_removed R t ≡ false in
    lead_one R server e es (All-head Old e.peer (peers es) h) (lead_on R server es (All-tail Old e.peer (peers es) h))
    (e.peer == server) refl

-- ---- fronts

-- one more of a list
pub take_one : (xs : List ℕ) (k x : ℕ) → slice_get xs k ≡ Some x → take (suc k) xs ≡ take k xs ++ x ∷ []
take_one [] k x h = cc
take_one (y ∷ xs) zero x h = ap (λ (z : ℕ). z ∷ []) (same_Some y x h)
take_one (y ∷ xs) (suc k) x h = ap (λ (zs : List ℕ). y ∷ zs) (take_one xs k x h)

pub same_number : (o : Option ℕ) (x : ℕ) → option_eq nat_eq o (Some x) ≡ true → o ≡ Some x
same_number None x h = absurd (false≢true h)
same_number (Some y) x h = ap (λ (z : ℕ). Some z) (eqb-true y x h)
