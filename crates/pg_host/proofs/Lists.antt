-- What is sent, one packet behind another.
use Rattle.std.proofs.Common.{◌≡◌, ℕ, suc, ◌+◌, List, [], ◌∷◌, ◌++◌, length, map, take, slice_index_or, Contains, refl, sym, ◌∙◌, ap, append_assoc, length-append, arith}
use Rattle.std.proofs.lemmas.List.{append-nil, map-append, take-append-le, take_all}
use Rattle.std.proofs.Math.Seq.{take-append-add}
use Rattle.pg_net.specs.Net.{Datagram, Told}
use Rattle.pg_host.specs.Sends.{SentFirst, with_all}

pub with_all-none : (told : Told) → told ≡ with_all told []
with_all-none told = λ i. record { bound = told.bound; left = told.left; given = told.given; sent = sym (append-nil told.sent) i }

pub with_all-more : (told : Told) (xs ys : List Datagram) → with_all (with_all told xs) ys ≡ with_all told (xs ++ ys)
with_all-more told xs ys = λ i. record { bound = told.bound; left = told.left; given = told.given; sent = append_assoc told.sent xs ys i }

-- some were sent, and then one more call sent others
pub all_behind : (old mid new : Told) (xs ys : List Datagram) → mid ≡ with_all old xs → new ≡ with_all mid ys → new ≡ with_all old (xs ++ ys)
all_behind old mid new xs ys first second = second ∙ ap (λ (t : Told). with_all t ys) first ∙ with_all-more old xs ys

-- the first of some, behind others
pub first_behind : (old mid new : Told) (xs ys : List Datagram) → mid ≡ with_all old xs → SentFirst mid new ys → SentFirst old new (xs ++ ys)
first_behind old mid new xs ys all first =
    (length xs + first.0, first.1 ∙ ap (λ (t : Told). with_all t (take first.0 ys)) all ∙ with_all-more old xs (take first.0 ys) ∙ ap (with_all old) (sym (take-append-add xs ys first.0)))

pub first_none : (old new : Told) (ps : List Datagram) → new ≡ old → SentFirst old new ps
first_none old new ps same = (0, same ∙ with_all-none old)

pub first_all : (old new : Told) (ps : List Datagram) → new ≡ with_all old ps → SentFirst old new ps
first_all old new ps all = (length ps, all ∙ ap (with_all old) (sym (take_all (length ps) ps (omega arith))))

-- those were sent, and nothing more of the whole
pub first_some : (old mid new : Told) (xs rest : List Datagram) → mid ≡ with_all old xs → new ≡ mid → SentFirst old new (xs ++ rest)
first_some old mid new xs rest all same =
    (length xs, same ∙ all ∙ ap (with_all old) (sym (take-append-le (length xs) xs rest (omega arith) ∙ take_all (length xs) xs (omega arith))))

-- what stands in the midst of a list is in it
at_seam : {X : Type 0} (xs ys : List X) (x : X) → slice_index_or (xs ++ x ∷ ys) (length xs) x ≡ x
at_seam [] ys x = refl
at_seam (z ∷ zs) ys x =
    let more : length (z ∷ zs) ≡ suc (length zs) = omega arith in
    ap (λ (k : ℕ). slice_index_or (z ∷ zs ++ x ∷ ys) k x) more ∙ at_seam zs ys x

pub contains_seam : {X : Type 0} (xs ys : List X) (x : X) → Contains (xs ++ x ∷ ys) x
contains_seam xs ys x = (length xs, omega (arith, length-append xs (x ∷ ys)), at_seam xs ys x)
