-- What is noted goes on to agree with what was asked.
use Rattle.std.proofs.Common.{◌≡◌, ◌≢◌, true, false, Option, None, Some, sym, ap, ◌∙◌, inl, inr}
use Rattle.theory_bodies.specs.Asked.{AreAgreed, AskStep, Asking, IsCovered, IsIdle, IsReleased, IsWanted, asking_of}
use Rattle.theory_bodies.specs.Laws.{NotesGoOnToAgree, WhatIsAskedIsNoted}
use Rattle.theory_bodies.specs.Protocol.{Note}

same_note : (x y : Note) → Some x ≡ Some y → x ≡ y
same_note x y e = cc

same_asking : (x y : Asking) → Some x ≡ Some y → x ≡ y
same_asking x y e = cc

none_note : (x : Note) → None ≡ Some x → ⊥
none_note x e = cc

none_asking : (x : Asking) → None ≡ Some x → ⊥
none_asking x e = cc

module _ (Was Is : Type 0) (on : Was → Is) (was now : Option Asking) (before behind : Option Note)
    (k : AreAgreed Was was before) where
  wanted : IsWanted now behind → AreAgreed Is now behind
  wanted w = record {
    noted = λ n e some. w.asked ∙ ap (λ (z : Note). Some (asking_of z)) (same_note w.note n (sym w.noted ∙ e));
    asks = λ t e. inr (w.note, w.noted, same_asking (asking_of w.note) t (sym w.asked ∙ e));
  }

  released : IsReleased now behind → AreAgreed Is now behind
  released w = record {
    noted = λ n e some. absurd (some (w.lost n e));
    asks = λ t e. absurd (none_asking t (sym w.asked ∙ e));
  }

  covered : IsCovered Is was now behind → AreAgreed Is now behind
  covered w = record {
    noted = λ n e some. absurd (none_note n (sym w.ended ∙ e));
    asks = λ t e. inl w.covered;
  }

  idle : IsIdle was now before behind → AreAgreed Is now behind
  idle w = record {
    noted = λ n e some. w.asked ∙ k.noted n (sym w.note ∙ e) some;
    asks = λ t e. elim (k.asks t (sym w.asked ∙ e)) [
      | inl c ↦ inl (on c)
      | inr n ↦ inr (n.0, w.note ∙ n.1, n.2)
    ];
  }

  pub agreed : AskStep Is was now before behind → AreAgreed Is now behind
  agreed s = elim s [
    | inl w ↦ wanted w
    | inr one ↦ elim one [
      | inl r ↦ released r
      | inr two ↦ elim two [ inl c ↦ covered c | inr i ↦ idle i ]
    ]
  ]

-- AND SO ON
pub notes_agree : NotesGoOnToAgree
notes_agree before_covered behind_covered was now before behind on k s =
    agreed (before_covered ≡ true) (behind_covered ≡ true) on was now before behind k s

some_asked : (n : Note) (t : Asking) → asking_of n ≡ t → t.target ≢ 0 → n.source ≢ 0
some_asked n t e some zero = some (sym (ap (λ (z : Asking). z.target) e) ∙ zero)

pub asked_is_noted : WhatIsAskedIsNoted
asked_is_noted covered asked noted k open_ t some = (
  λ e. elim (k.asks t e) [
    | inl c ↦ absurd (let x : true ≡ false = sym c ∙ open_ in cc)
    | inr n ↦ n
  ],
  λ n. k.noted n.0 n.1 (some_asked n.0 t n.2 some) ∙ ap (λ (z : Asking). Some z) n.2,
)
