-- What look-ups find: the flag of a server, and the edge to a peer.
use Rattle.std.proofs.Common.{ℕ, ◌≡◌, ◌==◌, Bool, true, false, cond, List, [], ◌∷◌, None, Some, refl, sym, ap, ◌∙◌, inl, inr, zero, suc, arith}
use Rattle.std.specs.List.{IsAmong}
use Rattle.std.specs.Option.{is_some}
use Rattle.std.proofs.lemmas.Bool.{eqb-true, false≢true}
use Rattle.std.proofs.lemmas.Option.{none-some, same_Some}
use Rattle.pg_content.specs.Content.{Among}
use Rattle.pg_edges.specs.declared.edge.Edge.{Edge}
use Rattle.pg_edges.specs.Edges.{edge_to, is_listed, keys_if_born}
use Rattle.pg_register.specs.declared.flag.Flag.{Flag}
use Rattle.pg_register.specs.Flag.{flag_of}

-- ---- flags

found_at : (f : Flag) (fs : List Flag) (m : ℕ) (g : Flag) (t : Bool) → (f.server == m) ≡ t
    → (flag_of fs m ≡ Some g → Among g fs × (g.server ≡ m)) → cond t (Some f) (flag_of fs m) ≡ Some g
    → Among g (f ∷ fs) × (g.server ≡ m)
found_at f fs m g true is rest h =
    let same : f ≡ g = same_Some f g h in
    (inl (sym same), ap (λ (x : Flag). x.server) (sym same) ∙ eqb-true f.server m is)
found_at f fs m g false is rest h = let k = rest h in (inr k.0, k.1)

-- the flag of a server is one of these, and of that server
pub flag_found : (fs : List Flag) (m : ℕ) (g : Flag) → flag_of fs m ≡ Some g → Among g fs × (g.server ≡ m)
flag_found [] m g h = absurd (none-some g h)
flag_found (f ∷ fs) m g h = found_at f fs m g (f.server == m) refl (flag_found fs m g) h

-- ---- edges

here_among : {A : Type 0} (x : A) (xs : List A) → IsAmong (x ∷ xs) x
here_among x xs = (zero, (omega arith, refl))

further_among : {A : Type 0} (x y : A) (xs : List A) → IsAmong xs y → IsAmong (x ∷ xs) y
further_among x y xs k = let lt = k.1.0 in (suc k.0, (omega arith, k.1.1))

-- the edge to a peer, and that it names this birth
pub record IsEdgeTo (es : List Edge) (peer birth : ℕ) : Type 0 where
  pub edge : Edge
  pub among : IsAmong es edge
  pub to : edge.peer ≡ peer
  pub born : edge.birth ≡ birth

edge_at : (e : Edge) (es : List Edge) (peer birth : ℕ) (t : Bool) → (e.peer == peer) ≡ t
    → (is_some (keys_if_born (edge_to es peer) birth) ≡ true → IsEdgeTo es peer birth)
    → is_some (keys_if_born (cond t (Some e) (edge_to es peer)) birth) ≡ true → IsEdgeTo (e ∷ es) peer birth
edge_at e es peer birth true is rest h = by (e.birth == birth) refl h
  where
    by : (u : Bool) → (e.birth == birth) ≡ u → is_some (cond u (Some e.keys) None) ≡ true → IsEdgeTo (e ∷ es) peer birth
    by true same k = record { edge = e; among = here_among e es; to = eqb-true e.peer peer is; born = eqb-true e.birth birth same }
    by false same k = absurd (false≢true k)
edge_at e es peer birth false is rest h =
    let k = rest h in
    record { edge = k.edge; among = further_among e k.edge es k.among; to = k.to; born = k.born }

-- where a peer is listed with a birth, an edge names that
pub listed_edge : (es : List Edge) (peer birth : ℕ) → is_listed es peer birth ≡ true → IsEdgeTo es peer birth
listed_edge [] peer birth h = absurd (false≢true h)
listed_edge (e ∷ es) peer birth h = edge_at e es peer birth (e.peer == peer) refl (listed_edge es peer birth) h
