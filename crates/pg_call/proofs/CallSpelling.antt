-- No two calls have the same words.
use Rattle.std.proofs.Common.{ℕ, ◌≡◌, ◌<◌, ◌^◌, List, [], ◌∷◌, refl, sym, ap, ◌∙◌, arith, subst, decimal}
use Rattle.std.proofs.lemmas.Fmt.{decimal_injective}
use Rattle.pg_base.proofs.Spellings.{spelling-same}
use Rattle.pg_base.specs.Id.{spelling}
use Rattle.pg_base.specs.declared.id.FileId.{FileId}
use Rattle.pg_base.specs.declared.id.Kind.{Kind}
use Rattle.pg_base.specs.declared.id.Kind.TheVariants.{Dir, File}
use Rattle.pg_base.specs.declared.policy.Policy.{Policy}
use Rattle.pg_base.specs.declared.policy.Policy.TheVariants as policy
use Rattle.pg_call.proofs.CallTable.{byte_at, same_kind}
use Rattle.pg_call.specs.Call.{call_kind, call_words, policy_word, target_word, HasSlash, IsCall, IsTarget}
use Rattle.pg_call.specs.declared.call.Call.{Call}
use Rattle.pg_call.specs.declared.call.Call.TheVariants as call
use Rattle.pg_call.specs.declared.call.CallKind.{CallKind}
use Rattle.pg_call.specs.declared.call.CallKind.TheVariants as kind
use Rattle.pg_call.specs.declared.call.Target.{Target}
use Rattle.pg_call.specs.declared.call.Target.TheVariants as target
use Rattle.pg_words.proofs.HexWords.{one_hex_word}
use Rattle.pg_words.proofs.Splitting.{word_at}

pub same_policy : (a b : Policy) → policy_word a ≡ policy_word b → a ≡ b
same_policy policy.Last policy.Last e = refl
same_policy policy.Join policy.Join e = refl
same_policy policy.Last policy.Join e = absurd (let n : 108 ≡ 106 = ap (byte_at 0) e in omega arith)
same_policy policy.Join policy.Last e = absurd (let n : 106 ≡ 108 = ap (byte_at 0) e in omega arith)

-- an id does not begin with a slash
letter_first : (id : FileId) → byte_at 0 (spelling id) ≡ 47 → ⊥
letter_first id e = letter_of id.kind id.server id.number e
  where
    letter_of : (k : Kind) (s n : ℕ) → byte_at 0 (spelling (record { kind = k; server = s; number = n })) ≡ 47 → ⊥
    letter_of Dir s n e = omega arith
    letter_of File s n e = omega arith

slash_first : (path : List ℕ) → HasSlash path → byte_at 0 path ≡ 47
slash_first [] h = absurd h
slash_first (byte ∷ bytes) h = h

pub same_target : (a b : Target) → IsTarget a → IsTarget b → target_word a ≡ target_word b → a ≡ b
same_target (target.Path p) (target.Path q) ha hb e = ap target.Path e
same_target (target.Id f) (target.Id g) ha hb e = ap target.Id (spelling-same f g ha hb e)
same_target (target.Path p) (target.Id g) ha hb e = absurd (letter_first g (ap (byte_at 0) (sym e) ∙ slash_first p ha.1))
same_target (target.Id f) (target.Path q) ha hb e = absurd (letter_first f (ap (byte_at 0) e ∙ slash_first q hb.1))

-- the call is one of the kind
abbrev Shape : CallKind → Call → Type 0
Shape kind.Mkdir c = (p : List ℕ) × (c ≡ call.Mkdir p)
Shape kind.Create c = (p : List ℕ) × (l : Policy) × (c ≡ call.Create p l)
Shape kind.Write c = (p : List ℕ) × (o : ℕ) × (b : List ℕ) × (c ≡ call.Write p o b)
Shape kind.Cut c = (p : List ℕ) × (n : ℕ) × (c ≡ call.Cut p n)
Shape kind.Read c = (p : List ℕ) × (o n : ℕ) × (c ≡ call.Read p o n)
Shape kind.Fresh c = (p : List ℕ) × (c ≡ call.Fresh p)
Shape kind.Ls c = (p : List ℕ) × (n : ℕ) × (c ≡ call.Ls p n)
Shape kind.Stat c = (t : Target) × (c ≡ call.Stat t)
Shape kind.Rename c = (p q : List ℕ) × (c ≡ call.Rename p q)
Shape kind.Unlink c = (p : List ℕ) × (c ≡ call.Unlink p)
Shape kind.Rmdir c = (p : List ℕ) × (c ≡ call.Rmdir p)
Shape kind.Forget c = (f : FileId) × (c ≡ call.Forget f)
Shape kind.Demote c = (t : Target) × (c ≡ call.Demote t)
Shape kind.Drop c = (t : Target) × (c ≡ call.Drop t)
Shape kind.Giveup c = (v s : ℕ) × (c ≡ call.Giveup v s)
Shape kind.Status c = c ≡ call.Status
Shape kind.Stop c = c ≡ call.Stop

shape : (c : Call) → Shape (call_kind c) c
shape (call.Mkdir p) = (p, refl)
shape (call.Create p l) = (p, l, refl)
shape (call.Write p o b) = (p, o, b, refl)
shape (call.Cut p n) = (p, n, refl)
shape (call.Read p o n) = (p, o, n, refl)
shape (call.Fresh p) = (p, refl)
shape (call.Ls p n) = (p, n, refl)
shape (call.Stat t) = (t, refl)
shape (call.Rename p q) = (p, q, refl)
shape (call.Unlink p) = (p, refl)
shape (call.Rmdir p) = (p, refl)
shape (call.Forget f) = (f, refl)
shape (call.Demote t) = (t, refl)
shape (call.Drop t) = (t, refl)
shape (call.Giveup v s) = (v, s, refl)
shape call.Status = refl
shape call.Stop = refl

-- calls with the same words have the same shape
same_shape : (x y : Call) → call_words x ≡ call_words y → Shape (call_kind x) y
same_shape x y e =
    let same : call_kind y ≡ call_kind x = same_kind (call_kind y) (call_kind x) (ap (word_at 0) (sym e)) in
    let P : CallKind → Type 0 = λ k. Shape k y in subst P same (shape y)

-- what is to be shown of a call of the same words
abbrev Same : Call → Call → Type 0
Same x y = IsCall x → IsCall y → call_words x ≡ call_words y → x ≡ y

same_narrow : (n m : ℕ) → n < 2 ^ 32 → m < 2 ^ 32 → decimal n ≡ decimal m → n ≡ m
same_narrow n m hn hm e = decimal_injective n m (omega arith) (omega arith) e

same_create : (p q : List ℕ) (l m : Policy) → Same (call.Create p l) (call.Create q m)
same_create p q l m hx hy e =
    let path : p ≡ q = ap (word_at 1) e in
    let name : l ≡ m = same_policy l m (ap (word_at 2) e) in
    cc

same_write : (p q : List ℕ) (o i : ℕ) (b d : List ℕ) → Same (call.Write p o b) (call.Write q i d)
same_write p q o i b d hx hy e =
    let path : p ≡ q = ap (word_at 1) e in
    let offset : o ≡ i = same_narrow o i hx.1 hy.1 (ap (word_at 2) e) in
    let bytes : b ≡ d = one_hex_word b d hx.2.each hy.2.each (ap (word_at 3) e) in
    cc

same_cut : (p q : List ℕ) (n m : ℕ) → Same (call.Cut p n) (call.Cut q m)
same_cut p q n m hx hy e =
    let path : p ≡ q = ap (word_at 1) e in
    let long : n ≡ m = same_narrow n m hx.1 hy.1 (ap (word_at 2) e) in
    cc

same_read : (p q : List ℕ) (o i n m : ℕ) → Same (call.Read p o n) (call.Read q i m)
same_read p q o i n m hx hy e =
    let few = hx.2 in
    let few' = hy.2 in
    let path : p ≡ q = ap (word_at 1) e in
    let offset : o ≡ i = same_narrow o i hx.1 hy.1 (ap (word_at 2) e) in
    let count : n ≡ m = same_narrow n m (omega arith) (omega arith) (ap (word_at 3) e) in
    cc

same_ls : (p q : List ℕ) (n m : ℕ) → Same (call.Ls p n) (call.Ls q m)
same_ls p q n m hx hy e =
    let path : p ≡ q = ap (word_at 1) e in
    let from : n ≡ m = same_narrow n m hx.1 hy.1 (ap (word_at 2) e) in
    cc

same_rename : (p q r s : List ℕ) → Same (call.Rename p q) (call.Rename r s)
same_rename p q r s hx hy e =
    let from : p ≡ r = ap (word_at 1) e in
    let to : q ≡ s = ap (word_at 2) e in
    cc

same_giveup : (v s w t : ℕ) → Same (call.Giveup v s) (call.Giveup w t)
same_giveup v s w t hx hy e =
    let view : v ≡ w = decimal_injective v w hx.0 hy.0 (ap (word_at 1) e) in
    let server : s ≡ t = same_narrow s t hx.1 hy.1 (ap (word_at 2) e) in
    cc

same_as : (x y z : Call) → y ≡ z → Same x z → Same x y
same_as x y z e h = let P : Call → Type 0 = Same x in subst P (sym e) h

same_words : (x y : Call) → Shape (call_kind x) y → Same x y
same_words (call.Mkdir p) y h = same_as _ y _ h.1 (λ hx hy e. ap call.Mkdir (ap (word_at 1) e))
same_words (call.Create p l) y h = same_as _ y _ h.2 (same_create p h.0 l h.1)
same_words (call.Write p o b) y h = same_as _ y _ h.3 (same_write p h.0 o h.1 b h.2)
same_words (call.Cut p n) y h = same_as _ y _ h.2 (same_cut p h.0 n h.1)
same_words (call.Read p o n) y h = same_as _ y _ h.3 (same_read p h.0 o h.1 n h.2)
same_words (call.Fresh p) y h = same_as _ y _ h.1 (λ hx hy e. ap call.Fresh (ap (word_at 1) e))
same_words (call.Ls p n) y h = same_as _ y _ h.2 (same_ls p h.0 n h.1)
same_words (call.Stat t) y h = same_as _ y _ h.1 (λ hx hy e. ap call.Stat (same_target t h.0 hx hy (ap (word_at 1) e)))
same_words (call.Rename p q) y h = same_as _ y _ h.2 (same_rename p q h.0 h.1)
same_words (call.Unlink p) y h = same_as _ y _ h.1 (λ hx hy e. ap call.Unlink (ap (word_at 1) e))
same_words (call.Rmdir p) y h = same_as _ y _ h.1 (λ hx hy e. ap call.Rmdir (ap (word_at 1) e))
same_words (call.Forget f) y h = same_as _ y _ h.1 (λ hx hy e. ap call.Forget (spelling-same f h.0 hx hy (ap (word_at 1) e)))
same_words (call.Demote t) y h = same_as _ y _ h.1 (λ hx hy e. ap call.Demote (same_target t h.0 hx hy (ap (word_at 1) e)))
same_words (call.Drop t) y h = same_as _ y _ h.1 (λ hx hy e. ap call.Drop (same_target t h.0 hx hy (ap (word_at 1) e)))
same_words (call.Giveup v s) y h = same_as _ y _ h.2 (same_giveup v s h.0 h.1)
same_words call.Status y h = λ hx hy e. sym h
same_words call.Stop y h = λ hx hy e. sym h

pub one_call : (x y : Call) → IsCall x → IsCall y → call_words x ≡ call_words y → x ≡ y
one_call x y hx hy e = same_words x y (same_shape x y e) hx hy e
