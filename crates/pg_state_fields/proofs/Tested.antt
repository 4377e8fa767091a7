-- Fields that are tested, and lists behind a count, are fields.
use Rattle.std.proofs.Common.{◌≡◌, ℕ, Bool, true, false, cond, List, [], ◌++◌, length, Ok, Err, refl, sym, ap, subst}
use Rattle.std.specs.List.{flat_map}
use Rattle.pg_codec.specs.Spelling.{number_bytes}
use Rattle.pg_codec.specs.Reading.{Field, checked, followed_by, number_at}
use Rattle.pg_codec.specs.Laws.{HasWidth, IsField}
use Rattle.pg_codec.proofs.Binding.{both_are, checked_is, ok_is, seen_is}
use Rattle.pg_packet_write.specs.Fields.{listed}
use Rattle.pg_packet_fields.specs.Faults.{of_packet}
use Rattle.pg_packet_fields.specs.Lists.{many}
use Rattle.pg_packet_fields.specs.declared.error.PacketError.{PacketError}
use Rattle.pg_packet_fields.specs.declared.error.PacketError.TheVariants.{BadTag}
use Rattle.pg_packet_fields.proofs.Many.{IsRow, many_is}
use Rattle.pg_state_fields.specs.Orders.{AreCounted, Passes, counted_list_at, tested_of}

tested_case : {X : Type 0} (Fits : X → Type 0) (s : X → List ℕ) (test : X → Bool) (t : Bool) (place : ℕ) (a b : X) → Fits a → test a ≡ t
    → cond t (Ok a) (Err (BadTag place)) ≡ Ok b → Passes Fits test b × (s b ≡ s a)
tested_case {X = X} Fits s test true place a b fits is e =
    subst (λ (x : X). Passes Fits test x × (s x ≡ s a)) (ok_is PacketError a b e) ((fits, is), refl)
tested_case Fits s test false place a b fits is e = absurd cc

-- A field whose value is tested.
pub tested_is : {X : Type 0} {Fits : X → Type 0} {s : X → List ℕ} {r : Field PacketError X} → IsField Fits s r → (test : X → Bool)
    → IsField (Passes Fits test) s (checked (tested_of test) r)
tested_is {X = X} {Fits = Fits} {s = s} {r = r} field test = checked_is (tested_of test) Fits s r (Passes Fits test) s
    (λ place a b fits e. tested_case Fits s test (test a) place a b fits refl e)
    (λ b fits. (b, fits.0, λ place. ap (λ (t : Bool). cond t (Ok b) (Err (BadTag place))) fits.1)) field

abbrev row_view : {X : Type 0} → ℕ × List X → List X
row_view x = x.1

counted_to : {X S : Type 0} (Fits : S → X → Type 0) (next : S → X → S) (s : X → List ℕ) (size : ℕ) (start : S) (n : ℕ) (xs : List X)
    → HasWidth size n → IsRow Fits next start n xs
    → AreCounted size Fits next start xs × (listed size s xs ≡ number_bytes size n ++ flat_map s xs)
unfolding listed
counted_to Fits next s size start n xs width row =
    let back : n ≡ length xs = sym row.count in
    (record { count = subst (λ (k : ℕ). HasWidth size k) back width; chain = row.chain }, ap (λ (k : ℕ). number_bytes size k ++ flat_map s xs) row.count)

-- A count that takes so many bytes, and so many items.
pub counted_list_is : {X S : Type 0} (Fits : S → X → Type 0) (next : S → X → S) (s : X → List ℕ) (item : S → Field PacketError X)
    → ((state : S) → IsField (Fits state) s (item state))
    → (size : ℕ) (start : S) → IsField (HasWidth size) (number_bytes size) (of_packet (number_at size))
    → IsField (AreCounted size Fits next start) (listed size s) (counted_list_at size item next start)
counted_list_is {X = X} Fits next s item field size start number = seen_is row_view (λ (x : ℕ × List X). HasWidth size x.0 × IsRow Fits next start x.0 x.1) (λ x. number_bytes size x.0 ++ flat_map s x.1)
    (followed_by (of_packet (number_at size)) (λ count. many item next count start [])) (AreCounted size Fits next start) (listed size s)
    (λ x fits. counted_to Fits next s size start x.0 x.1 fits.0 fits.1)
    (λ xs fits. ((length xs, xs), (fits.count, record { count = refl; chain = fits.chain }), refl))
    (both_are (HasWidth size) (number_bytes size) (of_packet (number_at size)) (IsRow Fits next start) (λ n. flat_map s) (λ count. many item next count start []) number
    (λ n _. many_is Fits next s item field start n))
