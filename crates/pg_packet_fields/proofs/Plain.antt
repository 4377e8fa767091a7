-- Policies, questions, edges and keys are fields.
use Rattle.std.proofs.Common.{◌≡◌, ℕ, zero, suc, Bool, true, false, cond, eqb, List, [], ◌++◌, length, Ok, Err, refl, sym, ap, subst, arith}
use Rattle.std.specs.Prelude.{nat_le, ◌&&◌}
use Rattle.std.proofs.lemmas.Bool.{leb-true, le-leb, eqb-true, and_parts}
use Rattle.std.proofs.lemmas.List.{append-nil}
use Rattle.pg_base.specs.Id.{Fits}
use Rattle.pg_base.specs.declared.id.FileId.{FileId}
use Rattle.pg_base.specs.declared.policy.Policy.{Policy}
use Rattle.pg_base.specs.declared.policy.Policy.TheVariants.{Last, Join}
use Rattle.pg_base.specs.declared.id.Kind.{Kind}
use Rattle.pg_base.specs.declared.id.Kind.TheVariants.{Dir, File}
use Rattle.pg_words.specs.FileWord.{IsDirectory}
use Rattle.pg_base.specs.declared.stamp.Stamp.{Stamp}
use Rattle.pg_codec.specs.Spelling.{number_bytes, file_bytes, stamp_bytes}
use Rattle.pg_codec.specs.Reading.{checked, followed_by, bytes_at, number_at, file_at, stamp_at}
use Rattle.pg_codec.specs.Laws.{Any, HasStampWidth, HasWidth, IsField}
use Rattle.pg_codec.proofs.Binding.{both_are, checked_is, seen_is, ok_is}
use Rattle.pg_codec.proofs.Ids.{file_field, stamp_field}
use Rattle.pg_codec.proofs.Numbers.{HasLength, byte_field, bytes_field, narrow_field, short_field, wide_field}
use Rattle.pg_edges.specs.declared.key.Key.{Key}
use Rattle.pg_edges.specs.declared.key.Key.TheVariants as key
use Rattle.pg_msg.specs.declared.message.Ask.{Ask}
use Rattle.pg_msg.specs.declared.message.Ask.TheVariants as ask
use Rattle.pg_msg.specs.declared.message.Ends.{Ends}
use Rattle.pg_packet_write.specs.Calls.{text_bytes}
use Rattle.pg_packet_write.specs.Fields.{ask_bytes, counted, ends_bytes, key_bytes, policy_bytes}
use Rattle.pg_packet_write.specs.Fits.{IsServer}
use Rattle.pg_packet_fields.specs.Faults.{of_packet}
use Rattle.pg_packet_fields.specs.Reading.{ask_at, ask_of, dir_at, dir_of, ends_at, key_at, key_of, policy_at, policy_of, server_at, server_of, text_at}
use Rattle.pg_packet_fields.specs.Values.{AreEnds, IsKey, IsShortText}
use Rattle.pg_packet_fields.specs.declared.error.PacketError.{PacketError}
use Rattle.pg_packet_fields.specs.declared.error.PacketError.TheVariants.{BadTag}
use Rattle.pg_packet_fields.proofs.Joining.{chosen_is, never_is, nothing_is, packet_is}

pub byte_is : IsField (HasWidth 1) (number_bytes 1) (of_packet (number_at 1))
byte_is = packet_is (HasWidth 1) (number_bytes 1) (number_at 1) byte_field

pub short_is : IsField (HasWidth 2) (number_bytes 2) (of_packet (number_at 2))
short_is = packet_is (HasWidth 2) (number_bytes 2) (number_at 2) short_field

pub narrow_is : IsField (HasWidth 4) (number_bytes 4) (of_packet (number_at 4))
narrow_is = packet_is (HasWidth 4) (number_bytes 4) (number_at 4) narrow_field

pub wide_is : IsField (HasWidth 8) (number_bytes 8) (of_packet (number_at 8))
wide_is = packet_is (HasWidth 8) (number_bytes 8) (number_at 8) wide_field

pub file_is : IsField Fits file_bytes (of_packet file_at)
file_is = packet_is Fits file_bytes file_at file_field

pub stamp_is : IsField HasStampWidth stamp_bytes (of_packet stamp_at)
stamp_is = packet_is HasStampWidth stamp_bytes stamp_at stamp_field

-- ---- policies and questions

policy_to : (place n : ℕ) (p : Policy) → policy_of place n ≡ Ok p → policy_bytes p ≡ number_bytes 1 n
unfolding policy_bytes
policy_to place zero p e = absurd cc
policy_to place (suc zero) p e = let same : Last ≡ p = ok_is PacketError Last p e in subst (λ (x : Policy). policy_bytes x ≡ number_bytes 1 1) same refl
policy_to place (suc (suc zero)) p e = let same : Join ≡ p = ok_is PacketError Join p e in subst (λ (x : Policy). policy_bytes x ≡ number_bytes 1 2) same refl
policy_to place (suc (suc (suc n))) p e = absurd cc

policy_back : (p : Policy) → (n : ℕ) × HasWidth 1 n × ((place : ℕ) → policy_of place n ≡ Ok p)
policy_back Last = (1, omega arith, λ place. refl)
policy_back Join = (2, omega arith, λ place. refl)

pub policy_field : IsField Any policy_bytes policy_at
unfolding policy_at
policy_field = checked_is policy_of (HasWidth 1) (number_bytes 1) (of_packet (number_at 1)) Any policy_bytes
    (λ place n p fits e. (tt, policy_to place n p e)) (λ p fits. policy_back p) byte_is

ask_to : (place n : ℕ) (a : Ask) → ask_of place n ≡ Ok a → ask_bytes a ≡ number_bytes 1 n
unfolding ask_bytes
ask_to place zero a e = absurd cc
ask_to place (suc zero) a e = let same : ask.Seek ≡ a = ok_is PacketError ask.Seek a e in subst (λ (x : Ask). ask_bytes x ≡ number_bytes 1 1) same refl
ask_to place (suc (suc zero)) a e = let same : ask.Confirm ≡ a = ok_is PacketError ask.Confirm a e in subst (λ (x : Ask). ask_bytes x ≡ number_bytes 1 2) same refl
ask_to place (suc (suc (suc zero))) a e = let same : ask.Patch ≡ a = ok_is PacketError ask.Patch a e in subst (λ (x : Ask). ask_bytes x ≡ number_bytes 1 3) same refl
ask_to place (suc (suc (suc (suc n)))) a e = absurd cc

ask_back : (a : Ask) → (n : ℕ) × HasWidth 1 n × ((place : ℕ) → ask_of place n ≡ Ok a)
ask_back ask.Seek = (1, omega arith, λ place. refl)
ask_back ask.Confirm = (2, omega arith, λ place. refl)
ask_back ask.Patch = (3, omega arith, λ place. refl)

pub ask_field : IsField Any ask_bytes ask_at
unfolding ask_at
ask_field = checked_is ask_of (HasWidth 1) (number_bytes 1) (of_packet (number_at 1)) Any ask_bytes
    (λ place n a fits e. (tt, ask_to place n a e)) (λ a fits. ask_back a) byte_is

-- ---- servers

pub within : (n : ℕ) → (nat_le 1 n && nat_le n 64) ≡ true → IsServer n
within n e = let p = and_parts (nat_le 1 n) (nat_le n 64) e in record { least = leb-true 1 n p.0; most = leb-true n 64 p.1 }

tested : (place s : ℕ) → IsServer s → server_of place s ≡ Ok s
tested place s fits =
    let low : nat_le 1 s ≡ true = le-leb 1 s fits.least in
    let high : nat_le s 64 ≡ true = le-leb s 64 fits.most in
    rw (low, high) refl

server_case : (t : Bool) (place n s : ℕ) → (nat_le 1 n && nat_le n 64) ≡ t → cond t (Ok n) (Err (BadTag place)) ≡ Ok s
    → IsServer s × (number_bytes 4 s ≡ number_bytes 4 n)
server_case true place n s test e =
    let same : n ≡ s = ok_is PacketError n s e in
    let both = within n test in
    subst (λ (x : ℕ). IsServer x × (number_bytes 4 x ≡ number_bytes 4 n)) same (both, refl)
server_case false place n s test e = absurd cc

pub server_field : IsField IsServer (number_bytes 4) server_at
unfolding server_at
server_field = checked_is server_of (HasWidth 4) (number_bytes 4) (of_packet (number_at 4)) IsServer (number_bytes 4)
    (λ place n s fits e. server_case (nat_le 1 n && nat_le n 64) place n s refl e)
    (λ s fits. let least = fits.least in let most = fits.most in (s, omega (arith, most), λ place. tested place s fits)) narrow_is

-- ---- edges

abbrev ends_view : FileId × (ℕ × ℕ) → Ends
ends_view x = record { file = x.0; sender = x.1.0; receiver = x.1.1 }

pub ends_field : IsField AreEnds ends_bytes ends_at
unfolding ends_at ends_bytes
ends_field = seen_is ends_view
    (λ x. Fits x.0 × (HasWidth 8 x.1.0 × HasWidth 8 x.1.1))
    (λ x. file_bytes x.0 ++ (number_bytes 8 x.1.0 ++ number_bytes 8 x.1.1))
    (followed_by (of_packet file_at) (λ f. followed_by (of_packet (number_at 8)) (λ s. of_packet (number_at 8))))
    AreEnds ends_bytes
    (λ x fits. (record { file = fits.0; sender = fits.1.0; receiver = fits.1.1 }, refl))
    (λ e fits. ((e.file, (e.sender, e.receiver)), (fits.file, (fits.sender, fits.receiver)), refl))
    (both_are Fits file_bytes (of_packet file_at) (λ f x. HasWidth 8 x.0 × HasWidth 8 x.1) (λ f x. number_bytes 8 x.0 ++ number_bytes 8 x.1) (λ f. followed_by (of_packet (number_at 8)) (λ s. of_packet (number_at 8))) file_is
    (λ f _. both_are (HasWidth 8) (number_bytes 8) (of_packet (number_at 8)) (λ s. HasWidth 8) (λ s. number_bytes 8) (λ s. of_packet (number_at 8)) wide_is (λ s _. wide_is)))

-- ---- keys

abbrev key_kind : Key → ℕ
key_kind key.Place = 1
key_kind (key.Flag server) = 2
key_kind (key.Entry child) = 3
key_kind (key.Version stamp) = 4

abbrev key_behind : Key → List ℕ
key_behind key.Place = []
key_behind (key.Flag server) = number_bytes 4 server
key_behind (key.Entry child) = file_bytes child
key_behind (key.Version stamp) = stamp_bytes stamp

abbrev IsKeyOf : ℕ → Key → Type 0
IsKeyOf n k = IsKey k × (key_kind k ≡ n)

kind_small : (k : Key) → HasWidth 1 (key_kind k)
kind_small key.Place = omega arith
kind_small (key.Flag server) = omega arith
kind_small (key.Entry child) = omega arith
kind_small (key.Version stamp) = omega arith

key_spelled : (k : Key) → key_bytes k ≡ number_bytes 1 (key_kind k) ++ key_behind k
unfolding key_bytes
key_spelled key.Place = sym (append-nil (number_bytes 1 1))
key_spelled (key.Flag server) = refl
key_spelled (key.Entry child) = refl
key_spelled (key.Version stamp) = refl

none_below : (k : Key) → key_kind k ≡ 0 → ⊥
none_below key.Place e = omega arith
none_below (key.Flag server) e = omega arith
none_below (key.Entry child) e = omega arith
none_below (key.Version stamp) e = omega arith

none_above : (n : ℕ) (k : Key) → key_kind k ≡ suc (suc (suc (suc (suc n)))) → ⊥
none_above n key.Place e = omega arith
none_above n (key.Flag server) e = omega arith
none_above n (key.Entry child) e = omega arith
none_above n (key.Version stamp) e = omega arith

only_place : (k : Key) → IsKeyOf 1 k → key.Place ≡ k
only_place key.Place f = refl
only_place (key.Flag server) f = absurd (omega (arith, f.1))
only_place (key.Entry child) f = absurd (omega (arith, f.1))
only_place (key.Version stamp) f = absurd (omega (arith, f.1))

flag_of_key : (k : Key) → IsKeyOf 2 k → (s : ℕ) × IsServer s × (key.Flag s ≡ k)
flag_of_key key.Place f = absurd (omega (arith, f.1))
flag_of_key (key.Flag server) f = (server, f.0, refl)
flag_of_key (key.Entry child) f = absurd (omega (arith, f.1))
flag_of_key (key.Version stamp) f = absurd (omega (arith, f.1))

entry_of_key : (k : Key) → IsKeyOf 3 k → (c : FileId) × Fits c × (key.Entry c ≡ k)
entry_of_key key.Place f = absurd (omega (arith, f.1))
entry_of_key (key.Flag server) f = absurd (omega (arith, f.1))
entry_of_key (key.Entry child) f = (child, f.0, refl)
entry_of_key (key.Version stamp) f = absurd (omega (arith, f.1))

version_of_key : (k : Key) → IsKeyOf 4 k → (s : Stamp) × HasStampWidth s × (key.Version s ≡ k)
version_of_key key.Place f = absurd (omega (arith, f.1))
version_of_key (key.Flag server) f = absurd (omega (arith, f.1))
version_of_key (key.Entry child) f = absurd (omega (arith, f.1))
version_of_key (key.Version stamp) f = (stamp, f.0, refl)

behind_kind : (place n : ℕ) → IsField (IsKeyOf n) key_behind (key_of place n)
behind_kind place zero = never_is (IsKeyOf 0) key_behind (BadTag place) (λ k f. none_below k f.1)
behind_kind place (suc zero) = nothing_is (IsKeyOf 1) key_behind key.Place (tt, refl) refl only_place
behind_kind place (suc (suc zero)) = seen_is key.Flag IsServer (number_bytes 4) server_at (IsKeyOf 2) key_behind
    (λ s f. ((f, refl), refl)) flag_of_key server_field
behind_kind place (suc (suc (suc zero))) = seen_is key.Entry Fits file_bytes (of_packet file_at) (IsKeyOf 3) key_behind
    (λ c f. ((f, refl), refl)) entry_of_key file_is
behind_kind place (suc (suc (suc (suc zero)))) = seen_is key.Version HasStampWidth stamp_bytes (of_packet stamp_at) (IsKeyOf 4) key_behind
    (λ s f. ((f, refl), refl)) version_of_key stamp_is
behind_kind place (suc (suc (suc (suc (suc n))))) = never_is (IsKeyOf (suc (suc (suc (suc (suc n)))))) key_behind (BadTag place) (λ k f. none_above n k f.1)

pub key_field : IsField IsKey key_bytes key_at
unfolding key_at
key_field = chosen_is key_kind (HasWidth 1) (number_bytes 1) (of_packet (number_at 1)) IsKey key_bytes key_behind key_of byte_is
    (λ k fits. kind_small k) key_spelled behind_kind

-- ---- texts

abbrev text_view : ℕ × List ℕ → List ℕ
text_view x = x.1

text_to : (n : ℕ) (text : List ℕ) → HasWidth 2 n → HasLength n text
    → IsShortText text × (text_bytes text ≡ number_bytes 2 n ++ text)
unfolding text_bytes counted
text_to n text width long =
    let same = long.length in
    (record { short = omega (arith, width, same); width = long.width }, ap (λ (k : ℕ). number_bytes 2 k ++ text) same)

text_back : (text : List ℕ) → IsShortText text
    → (x : ℕ × List ℕ) × (HasWidth 2 x.0 × HasLength x.0 x.1) × (text_view x ≡ text)
text_back text fits =
    let short = fits.short in
    ((length text, text), (omega (arith, short), record { length = refl; width = fits.width }), refl)

abbrev itself : List ℕ → List ℕ
itself bytes = bytes

pub text_field : IsField IsShortText text_bytes text_at
unfolding text_at
text_field = seen_is text_view (λ x. HasWidth 2 x.0 × HasLength x.0 x.1) (λ x. number_bytes 2 x.0 ++ x.1)
    (followed_by (of_packet (number_at 2)) (λ n. of_packet (bytes_at n))) IsShortText text_bytes
    (λ x fits. text_to x.0 x.1 fits.0 fits.1) text_back
    (both_are (HasWidth 2) (number_bytes 2) (of_packet (number_at 2)) HasLength (λ n. itself) (λ n. of_packet (bytes_at n))
    (packet_is (HasWidth 2) (number_bytes 2) (number_at 2) short_field)
    (λ n _. packet_is (HasLength n) itself (bytes_at n) (bytes_field n)))

-- ---- directories

letter_case : (t : Bool) (place n b : ℕ) → eqb n 100 ≡ t → cond t (Ok n) (Err (BadTag place)) ≡ Ok b → (b ≡ 100) × (b ≡ n)
letter_case true place n b test e =
    let same : n ≡ b = ok_is PacketError n b e in
    let here : n ≡ 100 = eqb-true n 100 test in
    (omega (arith, same, here), sym same)
letter_case false place n b test e = absurd cc

abbrev IsLetter : ℕ → Type 0
IsLetter n = n ≡ 100

letter_field : IsField IsLetter (number_bytes 1) (checked dir_of (of_packet (number_at 1)))
letter_field = checked_is dir_of (HasWidth 1) (number_bytes 1) (of_packet (number_at 1)) IsLetter (number_bytes 1)
    (λ place n b fits e. let both = letter_case (eqb n 100) place n b refl e in (both.0, ap (number_bytes 1) both.1))
    (λ b is. (100, omega arith, λ place. rw is refl)) byte_is

abbrev dir_view : ℕ × (ℕ × ℕ) → FileId
dir_view x = record { kind = Dir; server = x.1.0; number = x.1.1 }

dir_spelled : (letter server number : ℕ) → letter ≡ 100
    → file_bytes (dir_view (letter, (server, number))) ≡ number_bytes 1 letter ++ (number_bytes 4 server ++ number_bytes 8 number)
unfolding file_bytes number_bytes
dir_spelled letter server number is = rw is refl

dir_back : (k : Kind) (server number : ℕ) → IsDirectory (record { kind = k; server = server; number = number })
    → (x : ℕ × (ℕ × ℕ)) × (IsLetter x.0 × (HasWidth 4 x.1.0 × HasWidth 8 x.1.1)) × (dir_view x ≡ record { kind = k; server = server; number = number })
dir_back Dir server number fits = ((100, (server, number)), (refl, (fits.fits.server, fits.fits.number)), refl)
dir_back File server number fits = let wrong = fits.kind in absurd cc

pub dir_field : IsField IsDirectory file_bytes dir_at
unfolding dir_at
dir_field = seen_is dir_view (λ x. IsLetter x.0 × (HasWidth 4 x.1.0 × HasWidth 8 x.1.1))
    (λ x. number_bytes 1 x.0 ++ (number_bytes 4 x.1.0 ++ number_bytes 8 x.1.1))
    (followed_by (checked dir_of (of_packet (number_at 1))) (λ l. followed_by (of_packet (number_at 4)) (λ s. of_packet (number_at 8))))
    IsDirectory file_bytes
    (λ x fits. (record { kind = refl; fits = record { server = fits.1.0; number = fits.1.1 } }, dir_spelled x.0 x.1.0 x.1.1 fits.0))
    (λ d fits. dir_back d.kind d.server d.number fits)
    (both_are IsLetter (number_bytes 1) (checked dir_of (of_packet (number_at 1))) (λ l x. HasWidth 4 x.0 × HasWidth 8 x.1) (λ l x. number_bytes 4 x.0 ++ number_bytes 8 x.1) (λ l. followed_by (of_packet (number_at 4)) (λ s. of_packet (number_at 8))) letter_field
    (λ l _. both_are (HasWidth 4) (number_bytes 4) (of_packet (number_at 4)) (λ s. HasWidth 8) (λ s. number_bytes 8) (λ s. of_packet (number_at 8)) narrow_is (λ s _. wide_is)))
