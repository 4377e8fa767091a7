-- The upper parts over the lower ones.
use Rattle.std.proofs.Common.{ℕ, cond, ◌≡◌, ◌<◌, ◌≤◌, ◌+◌, ◌⊎◌, inl, inr, min, max, List, [], ◌∷◌, length, drop, get_or, refl, sym, ap, subst, ◌∙◌, arith, ltb}
use Rattle.std.proofs.lemmas.List.{drop_more, drop_all}
use Rattle.std.proofs.lemmas.Bool.{cases_lt}
use Rattle.pg_patch.specs.declared.part.Part.{Part}
use Rattle.pg_patch.specs.Parts.{end_of, byte_of, byte_or, AreInOrder}
use Rattle.pg_patch.specs.Ranges.{RangesValue, IsRanges, IsComposed, all}
use Rattle.pg_patch.specs.Laying.{Adds, Between, IsLaidOver}
use Rattle.pg_patch.proofs.Composed.{below_yes, below_no}
use Rattle.pg_patch.proofs.Parts.{byte_or-before, byte_or-behind, byte_or-here, byte_or-skip, holds-within, holds-behind, in_order-wider}
use Rattle.pg_patch.proofs.Passing.{Passed, passed-more, passed-gap, passed_at, passed_all}
use Rattle.pg_patch.proofs.Pieces.{within_yes, within_below}

-- ---- a part within two indexes
-- ---- the parts between two indexes
pub between-start : (old others : List Part) (from : ℕ) → AreInOrder 0 others all → Between old old others others from from
between-start old others from o = record { begins = λ _ _ _. refl; goes_on = λ i d a b. absurd (omega (arith, a, b)); rest_holds = λ _ _ _. refl; rest_order = o }

-- the index up to which the part brings it
abbrev pub reached : ℕ → ℕ → Part → ℕ
reached at until p = max at (min until (end_of p))

more_new : (old cur new others : List Part) (p : Part) (ps : List Part) (from at until i d : ℕ) → AreInOrder 0 cur at → Between old cur others (p ∷ ps) from at → Adds cur new p (max at p.offset) (min until (end_of p)) → at ≤ i → i < reached at until p
    → (i < p.offset) ⊎ (p.offset ≤ i) → byte_or new i d ≡ byte_or others i d
more_new old cur new others p ps from at until i d o h f a b (inl c) =
    f.bytes i d ∙ within_below (max at p.offset) (min until (end_of p)) i (byte_of p i) (byte_or cur i d) (omega arith) ∙ byte_or-behind 0 at cur o i d a
    ∙ sym (h.rest_holds i d a ∙ byte_or-before p.offset all (p ∷ ps) (omega arith, h.rest_order.1, h.rest_order.2, h.rest_order.3) i d c)
more_new old cur new others p ps from at until i d o h f a b (inr c) =
    f.bytes i d ∙ within_yes (max at p.offset) (min until (end_of p)) i (byte_of p i) (byte_or cur i d) (omega arith) (omega arith)
    ∙ sym (h.rest_holds i d a ∙ byte_or-here p ps i d (holds-within p i c (omega arith)))

more_goes : (old cur new others : List Part) (p : Part) (ps : List Part) (from at until i d : ℕ) → from ≤ at → AreInOrder 0 cur at → Between old cur others (p ∷ ps) from at → Adds cur new p (max at p.offset) (min until (end_of p)) → from ≤ i → i < reached at until p
    → (i < at) ⊎ (at ≤ i) → byte_or new i d ≡ byte_or others i d
more_goes old cur new others p ps from at until i d k o h f a b (inl c) =
    f.bytes i d ∙ within_below (max at p.offset) (min until (end_of p)) i (byte_of p i) (byte_or cur i d) (omega arith) ∙ h.goes_on i d a c
more_goes old cur new others p ps from at until i d k o h f a b (inr c) = more_new old cur new others p ps from at until i d o h f c b (cases_lt i p.offset)

-- one more part, of which some may be left
pub between-here : (old cur new others : List Part) (p : Part) (ps : List Part) (from at until : ℕ) → from ≤ at → AreInOrder 0 cur at → Between old cur others (p ∷ ps) from at → Adds cur new p (max at p.offset) (min until (end_of p)) → Between old new others (p ∷ ps) from (reached at until p)
between-here old cur new others p ps from at until k o h f = record {
  begins = λ i d a. f.bytes i d ∙ within_below (max at p.offset) (min until (end_of p)) i (byte_of p i) (byte_or cur i d) (omega (arith, a)) ∙ h.begins i d a;
  goes_on = λ i d a b. more_goes old cur new others p ps from at until i d k o h f a b (cases_lt i at);
  rest_holds = λ i d a. h.rest_holds i d (omega (arith, a));
  rest_order = h.rest_order;
}

-- the same part, of which none is left
pub between-behind : (old new others : List Part) (p : Part) (ps : List Part) (from to : ℕ) → end_of p ≤ to → Between old new others (p ∷ ps) from to → Between old new others ps from to
between-behind old new others p ps from to k h = record {
  begins = h.begins;
  goes_on = h.goes_on;
  rest_holds = λ i d a. h.rest_holds i d a ∙ byte_or-skip p ps i d (holds-behind p i (omega (arith, a)));
  rest_order = in_order-wider (end_of p + 1) all 0 all ps (omega arith) (omega arith) h.rest_order.3;
}

end_goes : (old new others : List Part) (from at i d : ℕ) → AreInOrder 0 new at → Between old new others [] from at → from ≤ i → (i < at) ⊎ (at ≤ i) → byte_or new i d ≡ byte_or others i d
end_goes old new others from at i d o h a (inl b) = h.goes_on i d a b
end_goes old new others from at i d o h a (inr b) = byte_or-behind 0 at new o i d b ∙ sym (h.rest_holds i d b)

-- no part is left
pub between-end : (old new others : List Part) (from at to : ℕ) → at ≤ to → AreInOrder 0 new at → Between old new others [] from at → Between old new others [] from to
between-end old new others from at to k o h = record {
  begins = h.begins;
  goes_on = λ i d a b. end_goes old new others from at i d o h a (cases_lt i at);
  rest_holds = λ i d a. h.rest_holds i d (omega (arith, a));
  rest_order = tt;
}

-- the rest by the number of the next part
pub between_at : (old new others parts : List Part) (j : ℕ) (p : Part) (from at : ℕ) → j < length parts → p ≡ get_or parts j p → Between old new others (drop j parts) from at → Between old new others (p ∷ drop (j + 1) parts) from at
between_at old new others parts j p from at lt e h =
    let P : List Part → Type 0 = λ xs. Between old new others xs from at in
    let Q : Part → Type 0 = λ x. Between old new others (x ∷ drop (j + 1) parts) from at in
    subst Q (sym e) (subst P (drop_more parts j p lt) h)

pub between_from : (old new others parts : List Part) (j : ℕ) (p : Part) (from at : ℕ) → j < length parts → p ≡ get_or parts j p → Between old new others (p ∷ drop (j + 1) parts) from at → Between old new others (drop j parts) from at
between_from old new others parts j p from at lt e h =
    let P : List Part → Type 0 = λ xs. Between old new others xs from at in
    let Q : Part → Type 0 = λ x. Between old new others (x ∷ drop (j + 1) parts) from at in
    subst P (sym (drop_more parts j p lt)) (subst Q e h)

pub between_all : (old new others parts : List Part) (j from at to : ℕ) → length parts ≤ j → at ≤ to → AreInOrder 0 new at → Between old new others (drop j parts) from at → Between old new others (drop j parts) from to
between_all old new others parts j from at to le k o h =
    let none = drop_all j parts le in
    let P : List Part → Type 0 = λ xs. Between old new others xs from at in
    let Q : List Part → Type 0 = λ xs. Between old new others xs from to in
    subst Q (sym none) (between-end old new others from at to k o (subst P none h))

-- the next part was laid, and the one behind it is next
pub between_next : (old cur new others parts : List Part) (j : ℕ) (p : Part) (from at until to : ℕ) → j < length parts → p ≡ get_or parts j p → from ≤ at → AreInOrder 0 cur at → Between old cur others (drop j parts) from at
    → Adds cur new p (max at p.offset) (min until (end_of p)) → to ≡ reached at until p → end_of p ≤ until → Between old new others (drop (j + 1) parts) from to
between_next old cur new others parts j p from at until to lt is k o h f e le =
    let here = between-here old cur new others p (drop (j + 1) parts) from at until k o (between_at old cur others parts j p from at lt is h) f in
    let P : ℕ → Type 0 = λ n. Between old new others (p ∷ drop (j + 1) parts) from n in
    between-behind old new others p (drop (j + 1) parts) from to (omega arith) (subst P (sym e) here)

-- the next part goes on behind the second index
pub between_stop : (old cur new others parts : List Part) (j : ℕ) (p : Part) (from at until : ℕ) → j < length parts → p ≡ get_or parts j p → from ≤ at → at ≤ max from until → AreInOrder 0 cur at → Between old cur others (drop j parts) from at
    → Adds cur new p (max at p.offset) (min until (end_of p)) → until < end_of p → Between old new others (drop j parts) from (max from until)
between_stop old cur new others parts j p from at until lt is k m o h f le =
    let here = between-here old cur new others p (drop (j + 1) parts) from at until k o (between_at old cur others parts j p from at lt is h) f in
    let P : ℕ → Type 0 = λ n. Between old new others (p ∷ drop (j + 1) parts) from n in
    let e : reached at until p ≡ max from until = omega arith in
    between_from old new others parts j p from (max from until) lt is (subst P e here)

-- ---- all the upper parts up to the index, what was laid is the upper parts over the lower ones,
-- and behind it the rest of the lower parts has all that they have
pub record Over (lower upper new rest : List Part) (limit at : ℕ) : Type 0 where
  pub bytes : (i d : ℕ) → i < at → byte_or new i d ≡ byte_or upper i (cond (ltb i limit) (byte_or lower i d) d)
  pub rest_holds : (i d : ℕ) → at ≤ i → byte_or lower i d ≡ byte_or rest i d
  pub rest_order : AreInOrder 0 rest all

pub over-start : (lower upper : List Part) (limit : ℕ) → AreInOrder 0 lower all → Over lower upper [] lower limit 0
over-start lower upper limit o = record { bytes = λ i d a. absurd (omega (arith, a)); rest_holds = λ _ _ _. refl; rest_order = o }

-- between two upper parts
gap_by : (lower upper old mid rest left : List Part) (limit at start i d : ℕ) → Over lower upper old rest limit at → AreInOrder 0 mid (max at (min limit start)) → Between old mid rest left at (max at (min limit start)) → at ≤ i → i < start
    → (i < limit) ⊎ (limit ≤ i) → byte_or mid i d ≡ cond (ltb i limit) (byte_or lower i d) d
gap_by lower upper old mid rest left limit at start i d h o f a b (inl c) = f.goes_on i d a (omega arith) ∙ sym (h.rest_holds i d a) ∙ sym (below_yes i limit (byte_or lower i d) d c)
gap_by lower upper old mid rest left limit at start i d h o f a b (inr c) = byte_or-behind 0 (max at (min limit start)) mid o i d (omega arith) ∙ sym (below_no i limit (byte_or lower i d) d c)

abbrev Place : ℕ → ℕ → ℕ → Type 0
Place at start i = (i < at) ⊎ (((at ≤ i) × (i < start)) ⊎ (start ≤ i))

place_by : (at start i : ℕ) → (i < at) ⊎ (at ≤ i) → (i < start) ⊎ (start ≤ i) → Place at start i
place_by at start i (inl a) b = inl a
place_by at start i (inr a) (inl b) = inr (inl (a, b))
place_by at start i (inr a) (inr b) = inr (inr b)

over_byte : (lower upper old mid new rest left : List Part) (p : Part) (ps : List Part) (limit at least i d : ℕ) → Over lower upper old rest limit at → Passed upper (p ∷ ps) at least
    → AreInOrder 0 mid (max at (min limit p.offset)) → Between old mid rest left at (max at (min limit p.offset)) → Adds mid new p p.offset (end_of p) → i < end_of p → Place at p.offset i
    → byte_or new i d ≡ byte_or upper i (cond (ltb i limit) (byte_or lower i d) d)
over_byte lower upper old mid new rest left p ps limit at least i d h g o f q k (inl a) =
    q.bytes i d ∙ within_below p.offset (end_of p) i (byte_of p i) (byte_or mid i d) (omega (arith, g.order.0)) ∙ f.begins i d a ∙ h.bytes i d a
over_byte lower upper old mid new rest left p ps limit at least i d h g o f q k (inr (inl a)) =
    q.bytes i d ∙ within_below p.offset (end_of p) i (byte_of p i) (byte_or mid i d) a.1
    ∙ gap_by lower upper old mid rest left limit at p.offset i d h o f a.0 a.1 (cases_lt i limit)
    ∙ sym (passed-gap upper p ps at least g i (cond (ltb i limit) (byte_or lower i d) d) a.0 a.1)
over_byte lower upper old mid new rest left p ps limit at least i d h g o f q k (inr (inr a)) =
    q.bytes i d ∙ within_yes p.offset (end_of p) i (byte_of p i) (byte_or mid i d) a k
    ∙ sym (g.holds i (cond (ltb i limit) (byte_or lower i d) d) (omega (arith, g.order.0)) ∙ byte_or-here p ps i (cond (ltb i limit) (byte_or lower i d) d) (holds-within p i a k))

pub over-more : (lower upper old mid new rest left : List Part) (p : Part) (ps : List Part) (limit at least : ℕ) → Over lower upper old rest limit at → Passed upper (p ∷ ps) at least
    → AreInOrder 0 mid (max at (min limit p.offset)) → Between old mid rest left at (max at (min limit p.offset)) → Adds mid new p p.offset (end_of p) → Over lower upper new left limit (end_of p)
over-more lower upper old mid new rest left p ps limit at least h g o f q = record {
  bytes = λ i d k. over_byte lower upper old mid new rest left p ps limit at least i d h g o f q k (place_by at p.offset i (cases_lt i at) (cases_lt i p.offset));
  rest_holds = λ i d a. h.rest_holds i d (omega (arith, a, g.order.0)) ∙ f.rest_holds i d (omega (arith, a, g.order.0));
  rest_order = f.rest_order;
}

pub over_next : (lower upper old mid new rest left : List Part) (j : ℕ) (p : Part) (limit at least stop fin to : ℕ) → j < length upper → p ≡ get_or upper j p → Over lower upper old rest limit at → Passed upper (drop j upper) at least → stop ≡ min limit p.offset → fin ≡ end_of p → to ≡ end_of p
    → AreInOrder 0 mid (max at stop) → Between old mid rest left at (max at stop) → Adds mid new p p.offset fin → Over lower upper new left limit to
over_next lower upper old mid new rest left j p limit at least stop fin to lt is h g e d t o f q =
    let P : ℕ → Type 0 = λ n. AreInOrder 0 mid (max at n) in
    let Q : ℕ → Type 0 = λ n. Between old mid rest left at (max at n) in
    let R : ℕ → Type 0 = λ n. Adds mid new p p.offset n in
    let S : ℕ → Type 0 = λ n. Over lower upper new left limit n in
    subst S (sym t) (over-more lower upper old mid new rest left p (drop (j + 1) upper) limit at least h (passed_at upper j p at least lt is g) (subst P e o) (subst Q e f) (subst R d q))

pub passed_next : (upper : List Part) (j : ℕ) (p : Part) (at least to : ℕ) → j < length upper → p ≡ get_or upper j p → Passed upper (drop j upper) at least → to ≡ end_of p → Passed upper (drop (j + 1) upper) to least
passed_next upper j p at least to lt is g e =
    let P : ℕ → Type 0 = λ n. Passed upper (drop (j + 1) upper) n least in
    subst P (sym e) (passed-more upper p (drop (j + 1) upper) at least (passed_at upper j p at least lt is g))

last_byte : (lower upper : RangesValue) (old new rest left : List Part) (j limit at i d : ℕ) → Over lower.parts upper.parts old rest limit at → Passed upper.parts (drop j upper.parts) at upper.least → length upper.parts ≤ j
    → AreInOrder 0 new (max at limit) → Between old new rest left at (max at limit) → (i < at) ⊎ (at ≤ i) → (i < limit) ⊎ (limit ≤ i)
    → byte_or new i d ≡ byte_or upper.parts i (cond (ltb i limit) (byte_or lower.parts i d) d)
last_byte lower upper old new rest left j limit at i d h g le o f (inl a) b = f.begins i d a ∙ h.bytes i d a
last_byte lower upper old new rest left j limit at i d h g le o f (inr a) (inl b) =
    f.goes_on i d a (omega arith) ∙ sym (h.rest_holds i d a) ∙ sym (below_yes i limit (byte_or lower.parts i d) d b) ∙ sym (passed_all upper.parts j at upper.least le g i (cond (ltb i limit) (byte_or lower.parts i d) d) a)
last_byte lower upper old new rest left j limit at i d h g le o f (inr a) (inr b) =
    byte_or-behind 0 (max at limit) new o i d (omega arith) ∙ sym (below_no i limit (byte_or lower.parts i d) d b) ∙ sym (passed_all upper.parts j at upper.least le g i (cond (ltb i limit) (byte_or lower.parts i d) d) a)

-- behind the last upper part
pub over-all : (lower upper : RangesValue) (old new rest left : List Part) (j limit at : ℕ) → Over lower.parts upper.parts old rest limit at → Passed upper.parts (drop j upper.parts) at upper.least → length upper.parts ≤ j
    → AreInOrder 0 new (max at limit) → Between old new rest left at (max at limit) → IsLaidOver lower upper limit new
over-all lower upper old new rest left j limit at h g le o f = record {
  order = in_order-wider 0 (max at limit) 0 (max limit upper.least) new (omega arith) (omega (arith, g.upto)) o;
  bytes = λ i d. last_byte lower upper old new rest left j limit at i d h g le o f (cases_lt i at) (cases_lt i limit);
}

-- ---- the two ranges in one
lower_same : (ps : List Part) (la kb limit i d : ℕ) → AreInOrder 0 ps la → limit ≡ min la kb → (i < limit) ⊎ (limit ≤ i) → (i < kb) ⊎ (kb ≤ i) → cond (ltb i limit) (byte_or ps i d) d ≡ cond (ltb i kb) (byte_or ps i d) d
lower_same ps la kb limit i d o e (inl a) b = below_yes i limit (byte_or ps i d) d a ∙ sym (below_yes i kb (byte_or ps i d) d (omega arith))
lower_same ps la kb limit i d o e (inr a) (inl b) = below_no i limit (byte_or ps i d) d a ∙ sym (below_yes i kb (byte_or ps i d) d b ∙ byte_or-behind 0 la ps o i d (omega arith))
lower_same ps la kb limit i d o e (inr a) (inr b) = below_no i limit (byte_or ps i d) d a ∙ sym (below_no i kb (byte_or ps i d) d b)

pub composed_from : (a b c : RangesValue) (limit : ℕ) → IsRanges a → limit ≡ min a.least b.keep → IsLaidOver a b limit c.parts → c.keep ≡ min a.keep b.keep → c.least ≡ max limit b.least → IsComposed a b c
composed_from a b c limit r e h k l = record {
  keep = k;
  least = l ∙ ap (λ m. max m b.least) e;
  parts = λ i d. h.bytes i d ∙ ap (byte_or b.parts i) (lower_same a.parts a.least b.keep limit i d r.parts e (cases_lt i limit) (cases_lt i b.keep));
}
