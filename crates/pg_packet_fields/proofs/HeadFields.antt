-- Vectors, heads and versions are fields.
use Rattle.std.proofs.Common.{◌≡◌, ℕ, ◌<◌, ◌⊎◌, Bool, true, false, cond, List, ◌++◌, Ok, Err, inl, inr, refl, ap, subst, arith}
use Rattle.std.specs.Prelude.{nat_le, nat_lt, ◌&&◌, ◌||◌}
use Rattle.std.proofs.lemmas.Bool.{leb-true, le-leb, ltb-true, lt-ltb, and_parts, or_left, or_right}
use Rattle.pg_base.specs.Version.{VersionValue}
use Rattle.pg_base.specs.declared.head.Head.{Head}
use Rattle.pg_base.specs.declared.stamp.Stamp.{Stamp}
use Rattle.pg_base.specs.declared.vector.Actor.{Actor}
use Rattle.pg_codec.specs.Laws.{HasWidth, IsField}
use Rattle.pg_codec.specs.Reading.{checked, followed_by, bytes_at, number_at}
use Rattle.pg_codec.specs.Spelling.{number_bytes}
use Rattle.pg_codec.proofs.Binding.{both_are, checked_is, ok_is}
use Rattle.pg_codec.proofs.Numbers.{HasLength, bytes_field}
use Rattle.pg_packet_write.specs.Fields.{head_bytes, known_bytes, vector_bytes, version_bytes}
use Rattle.pg_packet_fields.specs.Faults.{of_packet}
use Rattle.pg_packet_fields.specs.Heads.{AreKnown, IsBirth, IsFrom, IsFront, IsHead, IsKnown, IsSome, IsWholeVersion, birth_of, from_of, front_at, head_at, known_at, nobody, some_at, some_of, to_actor, vector_at, version_at}
use Rattle.pg_packet_fields.specs.declared.error.PacketError.{PacketError}
use Rattle.pg_packet_fields.specs.declared.error.PacketError.TheVariants.{BadTag}
use Rattle.pg_packet_fields.proofs.Joining.{packet_is, then_is, view_is}
use Rattle.pg_packet_fields.proofs.Many.{count_field, list_is}
use Rattle.pg_packet_fields.proofs.Names.{either_true}
use Rattle.pg_packet_fields.proofs.Plain.{narrow_is, short_is, stamp_is, wide_is, within}

-- ---- actors

from_case : (t : Bool) (last place n s : ℕ) → (nat_le last n && (nat_le 1 n && nat_le n 64)) ≡ t → cond t (Ok n) (Err (BadTag place)) ≡ Ok s
    → IsFrom last s × (number_bytes 4 s ≡ number_bytes 4 n)
from_case true last place n s test e =
    let both = and_parts (nat_le last n) (nat_le 1 n && nat_le n 64) test in
    subst (λ (x : ℕ). IsFrom last x × (number_bytes 4 x ≡ number_bytes 4 n)) (ok_is PacketError n s e) (record { least = leb-true last n both.0; range = within n both.1 }, refl)
from_case false last place n s test e = absurd cc

from_tested : (last place s : ℕ) → IsFrom last s → from_of last place s ≡ Ok s
from_tested last place s fits =
    let from : nat_le last s ≡ true = le-leb last s fits.least in
    let low : nat_le 1 s ≡ true = le-leb 1 s fits.range.least in
    let high : nat_le s 64 ≡ true = le-leb s 64 fits.range.most in
    rw (from, low, high) refl

from_field : (last : ℕ) → IsField (IsFrom last) (number_bytes 4) (checked (from_of last) (of_packet (number_at 4)))
from_field last = checked_is (from_of last) (HasWidth 4) (number_bytes 4) (of_packet (number_at 4)) (IsFrom last) (number_bytes 4)
    (λ place n s fits e. from_case (nat_le last n && (nat_le 1 n && nat_le n 64)) last place n s refl e)
    (λ s fits. let most = fits.range.most in (s, omega (arith, most), λ place. from_tested last place s fits)) narrow_is

birth_case : (t : Bool) (last : Actor) (server place n b : ℕ) → HasWidth 8 n → (nat_lt last.server server || nat_lt last.birth n) ≡ t
    → cond t (Ok n) (Err (BadTag place)) ≡ Ok b → IsBirth last server b × (number_bytes 8 b ≡ number_bytes 8 n)
birth_case true last server place n b width test e =
    let behind = either_true {P = (last.server < server) ⊎ (last.birth < n)} (nat_lt last.server server) (nat_lt last.birth n) (λ h. inl (ltb-true last.server server h)) (λ h. inr (ltb-true last.birth n h)) test in
    subst (λ (x : ℕ). IsBirth last server x × (number_bytes 8 x ≡ number_bytes 8 n)) (ok_is PacketError n b e) (record { behind = behind; width = width }, refl)
birth_case false last server place n b width test e = absurd cc

behind_test : (last : Actor) (server b : ℕ) → (last.server < server) ⊎ (last.birth < b) → (nat_lt last.server server || nat_lt last.birth b) ≡ true
behind_test last server b (inl lt) = or_left (nat_lt last.server server) (nat_lt last.birth b) (lt-ltb last.server server lt)
behind_test last server b (inr lt) = or_right (nat_lt last.server server) (nat_lt last.birth b) (lt-ltb last.birth b lt)

birth_tested : (last : Actor) (server place b : ℕ) → IsBirth last server b → birth_of last server place b ≡ Ok b
birth_tested last server place b fits = ap (λ (t : Bool). cond t (Ok b) (Err (BadTag place))) (behind_test last server b fits.behind)

birth_field : (last : Actor) (server : ℕ) → IsField (IsBirth last server) (number_bytes 8) (checked (birth_of last server) (of_packet (number_at 8)))
birth_field last server = checked_is (birth_of last server) (HasWidth 8) (number_bytes 8) (of_packet (number_at 8)) (IsBirth last server) (number_bytes 8)
    (λ place n b fits e. birth_case (nat_lt last.server server || nat_lt last.birth n) last server place n b fits refl e)
    (λ b fits. (b, fits.width, λ place. birth_tested last server place b fits)) wide_is

some_case : (t : Bool) (place n s : ℕ) → HasWidth 8 n → nat_le 1 n ≡ t → cond t (Ok n) (Err (BadTag place)) ≡ Ok s
    → IsSome s × (number_bytes 8 s ≡ number_bytes 8 n)
some_case true place n s width test e =
    subst (λ (x : ℕ). IsSome x × (number_bytes 8 x ≡ number_bytes 8 n)) (ok_is PacketError n s e) (record { least = leb-true 1 n test; width = width }, refl)
some_case false place n s width test e = absurd cc

some_tested : (place s : ℕ) → IsSome s → some_of place s ≡ Ok s
some_tested place s fits = let test : nat_le 1 s ≡ true = le-leb 1 s fits.least in rw test refl

some_field : IsField IsSome (number_bytes 8) some_at
unfolding some_at
some_field = checked_is some_of (HasWidth 8) (number_bytes 8) (of_packet (number_at 8)) IsSome (number_bytes 8)
    (λ place n s fits e. some_case (nat_le 1 n) place n s fits refl e)
    (λ s fits. (s, fits.width, λ place. some_tested place s fits)) wide_is

abbrev known_view : ℕ × (ℕ × ℕ) → Actor × ℕ
known_view x = (record { server = x.0; birth = x.1.0 }, x.1.1)

pub known_field : (last : Actor) → IsField (IsKnown last) known_bytes (known_at last)
unfolding known_at known_bytes
known_field last = view_is
    (both_are (IsFrom last.server) (number_bytes 4) (checked (from_of last.server) (of_packet (number_at 4)))
    (λ server (x : ℕ × ℕ). IsBirth last server x.0 × IsSome x.1) (λ server x. number_bytes 8 x.0 ++ number_bytes 8 x.1) (λ server. followed_by (checked (birth_of last server) (of_packet (number_at 8))) (λ birth. some_at)) (from_field last.server)
    (λ server _. then_is (birth_field last server) some_field)) known_view (IsKnown last) known_bytes
    (λ x fits. (record { server = fits.0; birth = fits.1.0; number = fits.1.1 }, refl))
    (λ k fits. ((k.0.server, (k.0.birth, k.1)), (fits.server, (fits.birth, fits.number)), refl))

pub vector_field : IsField AreKnown vector_bytes vector_at
unfolding vector_at vector_bytes
vector_field = list_is IsKnown to_actor known_bytes known_at known_field 2 256 nobody (omega arith) short_is

-- ---- heads

abbrev head_view : Stamp × (ℕ × (ℕ × (List (Actor × ℕ) × ℕ))) → Head
head_view x = record {
  stamp = x.0;
  birth = x.1.0;
  number = x.1.1.0;
  vector = x.1.1.1.0;
  length = x.1.1.1.1;
}

pub head_field : IsField IsHead head_bytes head_at
unfolding head_at head_bytes
head_field = view_is (then_is stamp_is (then_is wide_is (then_is some_field (then_is vector_field narrow_is)))) head_view IsHead head_bytes
    (λ x fits. (record { stamp = fits.0; birth = fits.1.0; number = fits.1.1.0; vector = fits.1.1.1.0; long = fits.1.1.1.1 }, refl))
    (λ h fits. ((h.stamp, (h.birth, (h.number, (h.vector, h.length)))), (fits.stamp, (fits.birth, (fits.number, (fits.vector, fits.long)))), refl))

pub front_field : IsField IsFront head_bytes front_at
unfolding front_at head_bytes
front_field = view_is (then_is stamp_is (then_is wide_is (then_is some_field (then_is vector_field (count_field 4 1024 (omega arith) narrow_is))))) head_view IsFront head_bytes
    (λ x fits. (record { stamp = fits.0; birth = fits.1.0; number = fits.1.1.0; vector = fits.1.1.1.0; long = fits.1.1.1.1 }, refl))
    (λ h fits. ((h.stamp, (h.birth, (h.number, (h.vector, h.length)))), (fits.stamp, (fits.birth, (fits.number, (fits.vector, fits.long)))), refl))

-- ---- versions

abbrev version_view : Head × List ℕ → VersionValue
version_view x = record { head = x.0; body = x.1 }

pub version_field : IsField IsWholeVersion version_bytes version_at
unfolding version_at version_bytes
version_field = view_is
    (both_are IsFront head_bytes front_at (λ (h : Head). HasLength h.length) (λ h (body : List ℕ). body) (λ h. of_packet (bytes_at h.length)) front_field
    (λ h _. packet_is (HasLength h.length) (λ body. body) (bytes_at h.length) (bytes_field h.length))) version_view IsWholeVersion version_bytes
    (λ x fits. (record { head = fits.0; long = fits.1.length; width = fits.1.width }, refl))
    (λ v fits. ((v.head, v.body), (fits.head, record { length = fits.long; width = fits.width }), refl))
