-- A server's own flag of a thing: what is known of its flags is up to it, and the next one is later
-- than all of them.
use Rattle.std.proofs.Common.{ℕ, ◌≡◌, ◌≤◌, ◌<◌, ◌==◌, ◌+◌, ◌||◌, ◌&&◌, Bool, true, false, cond, List, Option, None, Some, eq-eqb, refl, sym, ap, subst, ◌∙◌, inl, inr, ◌⊎◌, arith}
use Rattle.std.specs.Prelude.{nat_lt}
use Rattle.std.proofs.lemmas.Bool.Decides.{nat_tests}
use Rattle.std.proofs.lemmas.Option.{same_Some}
use Rattle.law_frame.specs.pg_run.pg_base.declared.id.FileId.{FileId}
use Rattle.law_frame.specs.pg_run.pg_base.Id.{is_same_file}
use Rattle.law_frame.proofs.pg_run.pg_base.Orders.{is_same_file-true}
use Rattle.law_frame.specs.pg_run.pg_names.declared.attributes.Attributes.{Attributes}
use Rattle.law_frame.specs.pg_run.pg_names.Names.{is_flag_new, or_blank, own_at}
use Rattle.law_frame.proofs.pg_run.pg_names.Lookups.{flag_other, flag_same}
use Rattle.law_frame.specs.pg_run.pg_register.declared.flag.Flag.{Flag}
use Rattle.law_frame.specs.pg_run.pg_register.Flag.{flag_of, is_new, newest, number_with}
use Rattle.law_frame.proofs.pg_run.pg_register.ByServer.{flag_of-join_flag}
use Rattle.law_frame.specs.pg_run.pg_store.declared.store.Store.{Store}
use Rattle.law_frame.specs.pg_run.pg_store.Births.{birth_of}
use Rattle.law_frame.specs.pg_run.pg_store.Seen.{server_of}
use Rattle.law_frame.specs.pg_run.pg_store.Store.{is_newer_flag, put_flag, take_flag}
use Rattle.law_frame.specs.pg_run.pg_store.Together.{birth_at}
use Rattle.law_frame.specs.pg_run.pg_pieces.Making.{own_next}
use Rattle.law_frame.specs.pg_run.theory_flood_pieces.UpTo.{IsFlagKnownBy}
use Rattle.law_frame.proofs.pg_run.theory_flood_pieces.Choices.{decided}
use Rattle.law_frame.specs.pg_run.Known.{IsUpToOwn}
use Rattle.law_births.proofs.Here.{birth_is}
use Rattle.law_births.proofs.Pieces.{flag_stays}
use Rattle.law_frame.proofs.pg_run.pg_store.Over.{moves_as_before}
use Rattle.law_golds.proofs.Kept.{GoesOn, IsPast, flags_at, newly_of, past_by}

-- a flag of server s, which has this store, is up to its own flag of the thing, of the birth that
-- its replica has
pub record IsOwn (s : ℕ) (b : Store) (f : FileId) (g : Flag) : Type 0 where
  pub birth : birth_at b f ≡ Some g.birth
  pub own : Flag
  pub there : flag_of (flags_at b.names f) s ≡ Some own
  pub upto : IsUpToOwn g own

-- or its birth is past
abbrev pub Stands : ℕ → Store → FileId → Flag → Type 0
Stands s b f g = IsOwn s b f g ⊎ IsPast b f g.birth

-- ---- numbers

older_not : (b n c m : ℕ) → (nat_lt b c || (b == c && nat_lt n m)) ≡ false → b ≡ c → m ≤ n
older_not b n c m h same = grind (arith, nat_tests)

older_is : (b n c m : ℕ) → b ≡ c → n < m → (nat_lt b c || (b == c && nat_lt n m)) ≡ true
older_is b n c m same less = grind (arith, nat_tests)

older_less : (b n c m : ℕ) → b < c → (nat_lt b c || (b == c && nat_lt n m)) ≡ true
older_less b n c m less = grind (arith, nat_tests)

older_never : (b n c m : ℕ) → (nat_lt b c || (b == c && nat_lt n m)) ≡ false → b < c → ⊥
older_never b n c m h less = let z : true ≡ false = sym (older_less b n c m less) ∙ h in cc

less_or_same : (m n : ℕ) → m ≤ n → (m < n) ⊎ (m ≡ n)
less_or_same m n le = grind (arith, nat_tests)

lesser : (m n k : ℕ) → m < n → n ≤ k → m < k
lesser m n k a b = omega arith

-- what is up to a flag is up to a later one of its birth
later_by : (g x y : Flag) → IsUpToOwn g x → x.birth ≡ y.birth → (x.number < y.number) ⊎ (x ≡ y) → IsUpToOwn g y
later_by g x y (inl same) birth (inl less) =
    inr (ap (λ (h : Flag). h.birth) same ∙ birth, let n : g.number ≡ x.number = ap (λ (h : Flag). h.number) same in omega arith)
later_by g x y (inl same) birth (inr one) = inl (same ∙ one)
later_by g x y (inr up) birth (inl less) = inr (up.0 ∙ birth, let n = up.1 in omega arith)
later_by g x y (inr up) birth (inr one) =
    inr (up.0 ∙ birth, lesser g.number x.number y.number up.1 (let n : x.number ≡ y.number = ap (λ (h : Flag). h.number) one in omega arith))

birth_same : (g x : Flag) → IsUpToOwn g x → g.birth ≡ x.birth
birth_same g x (inl same) = ap (λ (h : Flag). h.birth) same
birth_same g x (inr up) = up.0

-- ---- a server goes on

-- where two of its flags with one number are one, and each is of the birth of the replica, or of an
-- earlier one
module _ (s : ℕ) (b c : Store) (on : GoesOn b c) (f : FileId) (g : Flag) (k : IsOwn s b f g)
    (born : (y : Flag) → flag_of (flags_at c.names f) s ≡ Some y → (g.birth ≡ y.birth) ⊎ (y.birth < g.birth))
    (one : (y : Flag) → flag_of (flags_at c.names f) s ≡ Some y → k.own.birth ≡ y.birth → k.own.number ≡ y.number
    → k.own ≡ y) where
  birth_is_own : g.birth ≡ k.own.birth
  birth_is_own = birth_same g k.own k.upto

  same_by : (y : Flag) → (nat_lt y.birth k.own.birth || (y.birth == k.own.birth && nat_lt y.number k.own.number)) ≡ false
      → (g.birth ≡ y.birth) ⊎ (y.birth < g.birth) → k.own.birth ≡ y.birth
  same_by y up (inl same) = sym birth_is_own ∙ same
  same_by y up (inr less) =
      absurd (older_never y.birth y.number k.own.birth k.own.number up (subst (λ (m : ℕ). y.birth < m) birth_is_own less))

  goes_by : birth_at c f ≡ Some g.birth → (o : Option Flag) → flag_of (flags_at c.names f) s ≡ o → IsFlagKnownBy (Some k.own) o → IsOwn s c f g
  goes_by was None there up = absurd up
  goes_by was (Some y) there up =
      let same : k.own.birth ≡ y.birth = same_by y up.1 (born y there) in
      let up_to = older_not y.birth y.number k.own.birth k.own.number up.1 (sym same) in
      record {
        birth = was;
        own = y;
        there = there;
        upto = later_by g k.own y k.upto same (either same (less_or_same k.own.number y.number up_to));
      }
    where
      either : k.own.birth ≡ y.birth → (k.own.number < y.number) ⊎ (k.own.number ≡ y.number)
          → (k.own.number < y.number) ⊎ (k.own ≡ y)
      either same (inl less) = inl less
      either same (inr equal) = inr (one y there same equal)

  pub own_goes : Stands s c f g
  own_goes =
      let P : Option Flag → Type 0 = (λ o. IsFlagKnownBy o (flag_of (flags_at c.names f) s)) in
      elim (on.goes f g.birth k.birth) [
        | inl x ↦ inl (goes_by x.0 (flag_of (flags_at c.names f) s) refl (subst P k.there (x.1 s)))
        | inr p ↦ inr p
      ]

-- ---- the next flag

newest_is : (o : Option Flag) (g : Flag) → is_new o g ≡ true → newest o (Some g) ≡ Some g
newest_is None g new = refl
newest_is (Some h) g new = ap (λ t. Some (cond t g h)) new

-- a flag that a held thing takes, where it is newer than the one of its server
taken_is : (b : Store) (f : FileId) (own : Attributes) (g : Flag) → own_at b.names f ≡ Some own
    → is_new (flag_of own.flags g.server) g ≡ true
    → flag_of (flags_at (take_flag b f g).names f) g.server ≡ Some g
taken_is b f own g held new =
    let P : Store → Type 0 = (λ c. flag_of (flags_at c.names f) g.server ≡ Some g) in
    decided P (is_newer_flag b f g) (put_flag b f g) b
    (λ t. ap (λ (o : Option Attributes). flag_of (or_blank f o).flags g.server) (flag_same b.names f g own held)
    ∙ flag_of-join_flag g own.flags g.server
    ∙ ap (λ t. cond t (newest (flag_of own.flags g.server) (Some g)) (flag_of own.flags g.server)) (eq-eqb g.server g.server refl)
    ∙ newest_is (flag_of own.flags g.server) g new)
    (λ old. absurd (let z : true ≡ false = sym new ∙ sym (ap (λ (o : Option Attributes). is_flag_new o g) held) ∙ old in cc))

-- the flags of other things stay
other_flags : (b : Store) (f : FileId) (g : Flag) (q : FileId) → is_same_file f q ≡ false
    → flags_at (take_flag b f g).names q ≡ flags_at b.names q
other_flags b f g q apart =
    let P : Store → Type 0 = (λ c. flags_at c.names q ≡ flags_at b.names q) in
    decided P (is_newer_flag b f g) (put_flag b f g) b
    (λ t. ap (λ (o : Option Attributes). (or_blank q o).flags) (flag_other b.names f g q apart)) (λ e. refl)

number_next : (x : Flag) (birth : ℕ) → x.birth ≡ birth → number_with (Some x) birth ≡ x.number
number_next x birth same = ap (λ t. cond t x.number 0) (eq-eqb x.birth birth same)

-- server s makes its next flag of a thing that it holds: it is later than all that are known
module _ (s : ℕ) (b : Store) (f : FileId) (raised : Bool) (server : server_of b ≡ s) (n : ℕ)
    (here : birth_at b f ≡ Some n) (mine : Attributes) (held : own_at b.names f ≡ Some mine)
    (born : (x : Flag) → flag_of (flags_at b.names f) s ≡ Some x → (x.birth ≡ n) ⊎ (x.birth < n)) where
  abbrev pub Next : Flag
  Next = own_next b f raised

  abbrev pub Then : Store
  Then = take_flag b f Next

  flags_are : flags_at b.names f ≡ mine.flags
  flags_are = ap (λ (o : Option Attributes). (or_blank f o).flags) held

  pub next_birth : Next.birth ≡ n
  next_birth = birth_is b f n here

  -- of the flag that was the server's own it is the next
  next_number : (x : Flag) → flag_of (flags_at b.names f) s ≡ Some x → x.birth ≡ n
      → (x.birth ≡ Next.birth) × (Next.number ≡ x.number + 1)
  next_number x there is =
      let same : x.birth ≡ Next.birth = is ∙ sym next_birth in
      let mine_is : flag_of (flags_at b.names f) (server_of b) ≡ Some x =
      ap (flag_of (flags_at b.names f)) server ∙ there in (
        same,
        ap (λ (o : Option Flag). number_with o (birth_of b f) + 1) mine_is
            ∙ ap (λ m. m + 1) (number_next x (birth_of b f) same),
      )

  one_more : (m k : ℕ) → k ≡ m + 1 → m < k
  one_more m k e = omega arith

  pub next_later : (g : Flag) → IsOwn s b f g → (g.birth ≡ Next.birth) × (g.number < Next.number)
  next_later g k =
      let x = next_number k.own k.there (sym (birth_same g k.own k.upto) ∙ same_Some g.birth n (sym k.birth ∙ here)) in
      let less = one_more k.own.number Next.number x.1 in (
        birth_same g k.own k.upto ∙ x.0,
        elim k.upto [
          | inl same ↦ subst (λ (h : Flag). h.number < Next.number) (sym same) less
          | inr up ↦ lesser g.number k.own.number Next.number up.1 (let m = less in omega arith)
        ],
      )

  new_by : (o : Option Flag) → flag_of (flags_at b.names f) s ≡ o → is_new o Next ≡ true
  new_by None there = refl
  new_by (Some x) there = elim (born x there) [
    | inl same ↦ (
        let k = next_number x there same in
        older_is x.birth x.number Next.birth Next.number k.0 (one_more x.number Next.number k.1))
    | inr less ↦ older_less x.birth x.number Next.birth Next.number (subst (λ (m : ℕ). x.birth < m) (sym next_birth) less)
  ]

  next_new : is_new (flag_of mine.flags Next.server) Next ≡ true
  next_new =
      let same : flag_of mine.flags Next.server ≡ flag_of (flags_at b.names f) s =
      ap (λ (fs : List Flag). flag_of fs Next.server) (sym flags_are) ∙ ap (flag_of (flags_at b.names f)) server in
      ap (λ (o : Option Flag). is_new o Next) same ∙ new_by (flag_of (flags_at b.names f) s) refl

  next_there : flag_of (flags_at Then.names f) s ≡ Some Next
  next_there = ap (flag_of (flags_at Then.names f)) (sym server) ∙ taken_is b f mine Next held next_new

  births_stay : (q : FileId) → birth_at Then q ≡ birth_at b q
  births_stay q = (flag_stays b f Next).before.births q

  -- it is its own then
  pub next_own : IsOwn s Then f Next
  next_own = record {
    birth = births_stay f ∙ here ∙ ap Some (sym next_birth);
    own = Next;
    there = next_there;
    upto = inl refl;
  }

  own_by : (q : FileId) (g : Flag) (t : Bool) → is_same_file f q ≡ t → IsOwn s b q g → IsOwn s Then q g
  own_by q g true e k =
      let P : FileId → Type 0 = (λ x. IsOwn s b x g → IsOwn s Then x g) in
      subst P (is_same_file-true f q e) (λ h. record {
        birth = births_stay f ∙ h.birth;
        own = Next;
        there = next_there;
        upto = inr (next_later g h);
      }) k
  own_by q g false apart k = record {
    birth = births_stay q ∙ k.birth;
    own = k.own;
    there = ap (λ (fs : List Flag). flag_of fs s) (other_flags b f Next q apart) ∙ k.there;
    upto = k.upto;
  }

  -- and the others are up to their own, or to it
  pub own_next_on : (q : FileId) (g : Flag) → IsOwn s b q g → IsOwn s Then q g
  own_next_on q g k = own_by q g (is_same_file f q) refl k

  -- what is past stays so
  pub past_next : (q : FileId) (m : ℕ) → IsPast b q m → IsPast Then q m
  past_next q m p =
      let before = (flag_stays b f Next).before in
      past_by b Then q m before.given (newly_of b Then (moves_as_before b Then before)) p
