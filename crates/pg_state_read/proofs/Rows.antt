-- Held things in the order of their ids, and entries in the order of their children.
use Rattle.std.proofs.Common.{◌≡◌, true, List, [], ◌∷◌, Option, None, Some, sym, ap, subst}
use Rattle.pg_base.specs.Id.{file_cmp}
use Rattle.pg_base.specs.declared.id.FileId.{FileId}
use Rattle.pg_base.specs.declared.id.Kind.{Kind}
use Rattle.pg_base.specs.declared.id.Kind.TheVariants.{Dir, File}
use Rattle.pg_base.specs.declared.policy.Policy.{Policy}
use Rattle.pg_entries.specs.declared.entry.Entry.{Entry}
use Rattle.pg_packet_fields.specs.Lists.{Chain}
use Rattle.pg_state_fields.specs.Flags.{IsEntry, to_child}
use Rattle.pg_state_fields.specs.Orders.{is_behind}
use Rattle.pg_state_fields.specs.Replicas.{IsHeld, IsInside, inside_of, to_held}
use Rattle.pg_state_fields.specs.declared.replicas.Held.{Held}
use Rattle.pg_state_fields.specs.declared.replicas.Inside.{Inside}

abbrev pub AreChildren : Option FileId → List Entry → Type 0
AreChildren last [] = Unit {0}
AreChildren last (e ∷ es) = (is_behind file_cmp last e.child ≡ true) × AreChildren (Some e.child) es

abbrev pub AreRows : Option FileId → List Held → Type 0
AreRows last [] = Unit {0}
AreRows last (h ∷ hs) = (is_behind file_cmp last h.file ≡ true) × (AreChildren None h.entries × AreRows (Some h.file) hs)

pub children_of : (last : Option FileId) (es : List Entry) → Chain IsEntry to_child last es → AreChildren last es
children_of last [] chain = tt
children_of last (e ∷ es) chain = (chain.0.child.1, children_of (Some e.child) es chain.1)

no_children : (es : List Entry) → es ≡ [] → AreChildren None es
no_children es none = subst (AreChildren None) (sym none) tt

inside_children : (kind : Kind) (policy : Policy) (i : Inside) → IsInside kind policy i → AreChildren None i.entries
inside_children Dir policy i fits = children_of None i.entries fits.0.chain
inside_children File policy i fits = no_children i.entries (ap (λ (x : Inside). x.entries) fits.1)

pub rows_of : (last : Option FileId) (hs : List Held) → Chain IsHeld to_held last hs → AreRows last hs
rows_of last [] chain = tt
rows_of last (h ∷ hs) chain =
    (chain.0.front.file.1, (inside_children h.file.kind h.replica.content.policy (inside_of h) chain.0.inside, rows_of (Some h.file) hs chain.1))
