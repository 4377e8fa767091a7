-- A history worked out: two versions side by side, and one over both.
use Rattle.std.proofs.Common.{◌≡◌, ℕ, List, [], ◌∷◌, inl, inr, refl, sym, ap, ◌∙◌, arith, lit<}
use Rattle.pg_base.specs.declared.stamp.Stamp.{Stamp}
use Rattle.pg_base.specs.declared.vector.Actor.{Actor}
use Rattle.pg_patch.specs.Ranges.{applied, written}
use Rattle.pg_base.specs.declared.policy.Policy.TheVariants.{Join}
use Rattle.pg_content.specs.History.{Made, IsHistory, IsNext, vector_of, body_of, heads_of}

abbrev stamp : ℕ → ℕ → Stamp
stamp time server = record { time = time; server = server }

-- `aa` at 40@1, `bb` at 40@2, and `c` over both at 60@1
abbrev first : Made
first = record { stamp = stamp 40 1; birth = 2; bases = []; ranges = written 0 (97 ∷ 97 ∷ []) }

abbrev second : Made
second = record { stamp = stamp 40 2; birth = 2; bases = []; ranges = written 0 (98 ∷ 98 ∷ []) }

abbrev third : Made
third = record { stamp = stamp 60 1; birth = 2; bases = stamp 40 1 ∷ stamp 40 2 ∷ []; ranges = written 0 (99 ∷ []) }

abbrev two : List Made
two = second ∷ first ∷ []

first_may : IsNext [] first
first_may = record {
  fresh = λ k. k;
  bases = λ b k. absurd k;
  own = λ e k. absurd k;
  server = lit< tt;
  birth = lit< tt;
  number = lit< tt;
}

second_may : IsNext (first ∷ []) second
second_may = record {
  fresh = λ k. elim k [ inl e ↦ (let f : 2 ≡ 1 = ap (λ (s : Stamp). s.server) e in omega arith) | inr none ↦ none ];
  bases = λ b k. absurd k;
  own = λ e k same. elim k [
    | inl is ↦ absurd (let f : 1 ≡ 2 = sym (ap (λ (x : Made). x.stamp.server) is) ∙ ap (λ (a : Actor). a.server) same in omega arith)
    | inr none ↦ absurd none
  ];
  server = lit< tt;
  birth = lit< tt;
  number = lit< tt;
}

third_may : IsNext two third
third_may = record {
  fresh = λ k. elim k [
    | inl e ↦ (let f : 60 ≡ 40 = ap (λ (s : Stamp). s.time) e in omega arith)
    | inr rest ↦ elim rest [ inl e ↦ (let f : 60 ≡ 40 = ap (λ (s : Stamp). s.time) e in omega arith) | inr none ↦ none ]
  ];
  bases = λ b k. elim k [
    | inl e ↦ inr (inl e)
    | inr rest ↦ elim rest [ inl e ↦ inl e | inr none ↦ absurd none ]
  ];
  own = λ e k same. elim k [
    | inl is ↦ absurd (let f : 2 ≡ 1 = sym (ap (λ (x : Made). x.stamp.server) is) ∙ ap (λ (a : Actor). a.server) same in omega arith)
    | inr rest ↦ elim rest [ inl is ↦ (stamp 40 1, inl refl, inl (ap (λ (x : Made). x.stamp) is)) | inr none ↦ absurd none ]
  ];
  server = lit< tt;
  birth = lit< tt;
  number = lit< tt;
}

pub worked_history : IsHistory (third ∷ two)
worked_history = (third_may, (second_may, (first_may, tt)))

pub worked_vector : vector_of (third ∷ two) (stamp 60 1) ≡ (record { server = 1; birth = 2 }, 2) ∷ (record { server = 2; birth = 2 }, 1) ∷ []
worked_vector = refl

pub worked_body : body_of Join (third ∷ two) (stamp 60 1) ≡ 99 ∷ 97 ∷ 98 ∷ 98 ∷ []
unfolding applied
worked_body = refl

pub both_heads : heads_of (third ∷ two) (stamp 40 1 ∷ stamp 40 2 ∷ []) ≡ second ∷ first ∷ []
both_heads = refl

pub one_head : heads_of (third ∷ two) (stamp 60 1 ∷ stamp 40 1 ∷ stamp 40 2 ∷ []) ≡ third ∷ []
one_head = refl
