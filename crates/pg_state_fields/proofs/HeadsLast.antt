-- A head whose stamp is behind all others comes last in the order of stamps.
use Rattle.std.proofs.Common.{◌≡◌, true, List, [], ◌∷◌, ◌++◌, Option, None, Some, sym, subst}
use Rattle.std.specs.List.{AllByRecursion}
use Rattle.std.proofs.lemmas.List.Elements.{All-append, All-cons, All-nil}
use Rattle.pg_base.specs.Stamp.{UpTo}
use Rattle.pg_base.specs.Version.{VersionValue}
use Rattle.pg_base.specs.declared.stamp.Stamp.{Stamp}
use Rattle.pg_base.proofs.Orders.{UpTo-refl, UpTo-trans, is_before-true}
use Rattle.pg_content.specs.Content.{InStampOrder}
use Rattle.pg_packet_fields.specs.Lists.{is_later}

-- no head is behind the last stamp
abbrev pub UpLast : Option Stamp → List VersionValue → Type 0
UpLast None vs = vs ≡ []
UpLast (Some last) vs = AllByRecursion (λ (v : VersionValue). UpTo v.head.stamp last) vs

lifted : (a b : Stamp) (vs : List VersionValue) → UpTo a b → AllByRecursion (λ (v : VersionValue). UpTo v.head.stamp a) vs
    → AllByRecursion (λ (v : VersionValue). UpTo v.head.stamp b) vs
lifted a b [] up all = tt
lifted a b (v ∷ vs) up all = (UpTo-trans v.head.stamp a b all.0 up, lifted a b vs up all.1)

none_before : (s : Stamp) (vs : List VersionValue) → vs ≡ [] → AllByRecursion (λ (v : VersionValue). UpTo v.head.stamp s) vs
none_before s vs none = subst (λ (ws : List VersionValue). AllByRecursion (λ (v : VersionValue). UpTo v.head.stamp s) ws) (sym none) tt

before : (last : Option Stamp) (s : Stamp) (vs : List VersionValue) → UpLast last vs → is_later last s ≡ true
    → AllByRecursion (λ (v : VersionValue). UpTo v.head.stamp s) vs
before None s vs up later = none_before s vs up
before (Some last) s vs up later = lifted last s vs (is_before-true last s later) up

in_order : (v : VersionValue) (vs : List VersionValue) → InStampOrder vs → AllByRecursion (λ (w : VersionValue). UpTo w.head.stamp v.head.stamp) vs
    → InStampOrder (vs ++ v ∷ [])
in_order v [] order up = (All-nil (λ (w : VersionValue). UpTo v.head.stamp w.head.stamp), tt)
in_order v (w ∷ ws) order up =
    let P : VersionValue → Type 0 = λ (x : VersionValue). UpTo w.head.stamp x.head.stamp in
    (All-append P ws (v ∷ []) order.0 (All-cons P v [] up.0 (All-nil P)), in_order v ws order.1 up.1)

and_last : (v : VersionValue) (vs : List VersionValue) → AllByRecursion (λ (w : VersionValue). UpTo w.head.stamp v.head.stamp) vs
    → AllByRecursion (λ (w : VersionValue). UpTo w.head.stamp v.head.stamp) (vs ++ v ∷ [])
and_last v [] up = (UpTo-refl v.head.stamp, tt)
and_last v (w ∷ ws) up = (up.0, and_last v ws up.1)

pub order_more : (last : Option Stamp) (v : VersionValue) (vs : List VersionValue) → InStampOrder vs → UpLast last vs → is_later last v.head.stamp ≡ true
    → InStampOrder (vs ++ v ∷ [])
order_more last v vs order up later = in_order v vs order (before last v.head.stamp vs up later)

pub up_more : (last : Option Stamp) (v : VersionValue) (vs : List VersionValue) → UpLast last vs → is_later last v.head.stamp ≡ true
    → UpLast (Some v.head.stamp) (vs ++ v ∷ [])
up_more last v vs up later = and_last v vs (before last v.head.stamp vs up later)
