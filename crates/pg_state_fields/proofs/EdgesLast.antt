-- An edge to a peer behind all others comes last.
use Rattle.std.proofs.Common.{◌≡◌, ℕ, ◌<◌, ◌≤◌, List, [], ◌∷◌, ◌++◌, Greater, refl, sym, ap, ◌∙◌, arith}
use Rattle.std.specs.Ordering.{nat_cmp, match_ordering}
use Rattle.std.specs.Cmp.{nat_cmp_is}
use Rattle.std.specs.List.{AllByRecursion}
use Rattle.pg_edges.specs.Edges.{put_edge}
use Rattle.pg_edges.specs.declared.edge.Edge.{Edge}

-- none is to a peer behind the last one
abbrev pub UpTo : ℕ → List Edge → Type 0
UpTo last es = AllByRecursion (λ (e : Edge). e.peer ≤ last) es

pub put_last : (last : ℕ) (x : Edge) (es : List Edge) → UpTo last es → last < x.peer → put_edge es x ≡ es ++ x ∷ []
put_last last x [] up lt = refl
put_last last x (e ∷ es) up lt =
    let small = up.0 in
    let greater : nat_cmp x.peer e.peer ≡ Greater = sym (nat_cmp_is x.peer e.peer Greater (omega (arith, small, lt))) in
    ap (λ o. match_ordering o (x ∷ e ∷ es) (x ∷ es) (e ∷ put_edge es x)) greater ∙ ap (λ (fs : List Edge). e ∷ fs) (put_last last x es up.1 lt)

pub up_more : (last : ℕ) (x : Edge) (es : List Edge) → UpTo last es → last < x.peer → UpTo x.peer (es ++ x ∷ [])
up_more last x [] up lt = (omega arith, tt)
up_more last x (e ∷ es) up lt = let small = up.0 in (omega (arith, small, lt), up_more last x es up.1 lt)
