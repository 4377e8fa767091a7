-- A flag of a server behind all others comes last.
use Rattle.std.proofs.Common.{◌≡◌, ℕ, ◌<◌, ◌≤◌, Bool, cond, eqb, false, List, [], ◌∷◌, ◌++◌, None, Some, Greater, refl, sym, ap, ◌∙◌, arith}
use Rattle.std.specs.Ordering.{nat_cmp, match_ordering}
use Rattle.std.specs.Cmp.{nat_cmp_is}
use Rattle.std.specs.List.{AllByRecursion}
use Rattle.pg_register.specs.Flag.{flag_of, is_new, join_flag, put_flag}
use Rattle.pg_register.specs.declared.flag.Flag.{Flag}
use Rattle.pg_packet_fields.proofs.Names.{differs}

-- none is of a server behind the last one
abbrev pub UpTo : ℕ → List Flag → Type 0
UpTo last flags = AllByRecursion (λ (g : Flag). g.server ≤ last) flags

none_of : (last server : ℕ) (fs : List Flag) → UpTo last fs → last < server → flag_of fs server ≡ None
none_of last server [] up lt = refl
none_of last server (g ∷ gs) up lt =
    let small = up.0 in
    let other : eqb g.server server ≡ false = differs (eqb g.server server) g.server server refl (λ same. omega (arith, same, small, lt)) in
    ap (λ (b : Bool). cond b (Some g) (flag_of gs server)) other ∙ none_of last server gs up.1 lt

put_last : (last : ℕ) (flag : Flag) (fs : List Flag) → UpTo last fs → last < flag.server → put_flag fs flag ≡ fs ++ flag ∷ []
put_last last flag [] up lt = refl
put_last last flag (g ∷ gs) up lt =
    let small = up.0 in
    let greater : nat_cmp flag.server g.server ≡ Greater = sym (nat_cmp_is flag.server g.server Greater (omega (arith, small, lt))) in
    ap (λ o. match_ordering o (flag ∷ g ∷ gs) (flag ∷ gs) (g ∷ put_flag gs flag)) greater ∙ ap (λ (fs : List Flag). g ∷ fs) (put_last last flag gs up.1 lt)

pub joined_last : (last : ℕ) (flag : Flag) (fs : List Flag) → UpTo last fs → last < flag.server → join_flag fs flag ≡ fs ++ flag ∷ []
joined_last last flag fs up lt =
    ap (λ o. cond (is_new o flag) (put_flag fs flag) fs) (none_of last flag.server fs up lt) ∙ put_last last flag fs up lt

pub up_more : (last : ℕ) (flag : Flag) (fs : List Flag) → UpTo last fs → last < flag.server → UpTo flag.server (fs ++ flag ∷ [])
up_more last flag [] up lt = (omega arith, tt)
up_more last flag (g ∷ gs) up lt = let small = up.0 in (omega (arith, small, lt), up_more last flag gs up.1 lt)
