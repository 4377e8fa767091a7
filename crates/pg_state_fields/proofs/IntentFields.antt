-- Intentions are fields.
use Rattle.std.proofs.Common.{◌≡◌, ℕ, zero, suc, true, eqb, List, [], ◌++◌, refl, ap, sym, append_assoc, Err, arith}
use Rattle.std.specs.Prelude.{◌==◌}
use Rattle.std.proofs.lemmas.Bool.{eqb-true, eq-eqb}
use Rattle.pg_base.specs.Id as id
use Rattle.pg_base.specs.declared.id.FileId.{FileId}
use Rattle.pg_codec.specs.Laws.{HasWidth, IsField}
use Rattle.pg_codec.specs.Reading.{Field, followed_by, file_at, number_at}
use Rattle.pg_codec.specs.Spelling.{file_bytes, number_bytes}
use Rattle.pg_codec.proofs.Binding.{both_are}
use Rattle.pg_intent.specs.declared.intent.Intent.{Intent}
use Rattle.pg_intent.specs.declared.intent.Intent.TheVariants as intent
use Rattle.pg_intent.specs.declared.key.IntentKey.TheVariants as key
use Rattle.pg_names.specs.declared.attributes.Attributes.{Attributes}
use Rattle.pg_packet_write.specs.Fields.{entry_bytes, listed}
use Rattle.pg_packet_write.specs.Fits.{IsServer}
use Rattle.pg_packet_fields.specs.Faults.{of_packet}
use Rattle.pg_packet_fields.specs.Reading.{dir_at, server_at}
use Rattle.pg_packet_fields.specs.declared.error.PacketError.{PacketError}
use Rattle.pg_packet_fields.specs.declared.error.PacketError.TheVariants.{BadTag}
use Rattle.pg_packet_fields.proofs.EachKind.{of_kinds}
use Rattle.pg_packet_fields.proofs.Joining.{chosen_is, never_is, then_is, view_is}
use Rattle.pg_packet_fields.proofs.Plain.{byte_is, dir_field, file_is, narrow_is, server_field, wide_is}
use Rattle.pg_state.specs.Spelling.{intent_bytes, target_bytes}
use Rattle.pg_words.specs.FileWord.{IsDirectory}
use Rattle.pg_state_fields.specs.declared.intents.FileKey.{FileKey}
use Rattle.pg_state_fields.specs.declared.intents.FileKey.TheVariants as of
use Rattle.pg_state_fields.specs.Flags.{IsOwn, entry_with, own_at, own_of}
use Rattle.pg_state_fields.specs.Intents.{AreIntents, IsFreshFile, IsFreshPeer, IsIntent, IsTargetNumber, all_intents_at, bye_at, confirm_at, fill_at, fresh_file_at, fresh_peer_at, intent_at, intent_of, is_fresh, key_with, leave_at, patch_at, peer_birth_at, same_at, seek_at, with_intent}
use Rattle.pg_state_fields.specs.Spelling.{own_bytes}
use Rattle.pg_state_fields.specs.Orders.{Passes, is_target, target_at}
use Rattle.pg_state_fields.proofs.FlagFields.{own_field}
use Rattle.pg_state_fields.proofs.Tested.{counted_list_is, tested_is}

pub target_field : IsField IsTargetNumber target_bytes target_at
unfolding target_at target_bytes
target_field = tested_is narrow_is is_target

fresh_file_field : (done : List Intent) (part : FileKey) → IsField (IsFreshFile done part) file_bytes (fresh_file_at done part)
unfolding fresh_file_at
fresh_file_field done part = tested_is file_is (λ f. is_fresh done (key_with part f))

fresh_peer_field : (done : List Intent) (file : FileId) (birth : ℕ) → IsField (IsFreshPeer done file birth) (number_bytes 4) (fresh_peer_at done file birth)
unfolding fresh_peer_at
fresh_peer_field done file birth = tested_is server_field (λ p. is_fresh done (key.Bye file birth p))

same_field : (peer : ℕ) → IsField (Passes (HasWidth 4) (λ n. n == peer)) (number_bytes 4) (same_at peer)
unfolding same_at
same_field peer = tested_is narrow_is (λ n. n == peer)

-- a birth, and the peer behind it
peer_birth_bytes : ℕ → ℕ → List ℕ
peer_birth_bytes peer birth = number_bytes 8 birth ++ target_bytes peer

peer_birth_field : (peer : ℕ) → HasWidth 4 peer → IsField (HasWidth 8) (peer_birth_bytes peer) (peer_birth_at peer)
unfolding peer_birth_at peer_birth_bytes target_bytes
peer_birth_field peer width = view_is (then_is wide_is (same_field peer)) (λ (x : ℕ × ℕ). x.0) (HasWidth 8) (peer_birth_bytes peer)
    (λ x fits. let same : x.1 ≡ peer = eqb-true x.1 peer fits.1.1 in (fits.0, ap (λ (n : ℕ). number_bytes 8 x.0 ++ number_bytes 4 n) (sym same)))
    (λ b fits. let alike : eqb peer peer ≡ true = eq-eqb peer peer refl in ((b, peer), (fits, (width, alike)), refl))

server_width : (peer : ℕ) → IsServer peer → HasWidth 4 peer
server_width peer fits = let most = fits.most in omega (arith, most)

-- ---- the kinds by number

abbrev number_of : Intent → ℕ
number_of (intent.Bye file birth peer peer_birth) = 1
number_of (intent.Seek file target) = 2
number_of (intent.Fill file birth target) = 3
number_of (intent.Patch dir entry target) = 4
number_of (intent.Confirm dir child target) = 5
number_of (intent.Leave file peer peer_birth) = 6

-- what stands behind the number
behind : Intent → List ℕ
behind (intent.Bye file birth peer peer_birth) = file_bytes file ++ (number_bytes 8 birth ++ (number_bytes 4 peer ++ peer_birth_bytes peer peer_birth))
behind (intent.Seek file target) = file_bytes file ++ target_bytes target
behind (intent.Fill file birth target) = file_bytes file ++ (number_bytes 8 birth ++ target_bytes target)
behind (intent.Patch dir entry target) = file_bytes dir ++ (file_bytes entry.child ++ (own_bytes (own_of entry) ++ target_bytes target))
behind (intent.Confirm dir child target) = file_bytes dir ++ (file_bytes child ++ target_bytes target)
behind (intent.Leave file peer peer_birth) = file_bytes file ++ (number_bytes 4 peer ++ peer_birth_bytes peer peer_birth)

Parts : ℕ → Type 0
Parts (suc zero) = FileId × (ℕ × (ℕ × ℕ))
Parts (suc (suc zero)) = FileId × ℕ
Parts (suc (suc (suc zero))) = FileId × (ℕ × ℕ)
Parts (suc (suc (suc (suc zero)))) = FileId × (FileId × (Attributes × ℕ))
Parts (suc (suc (suc (suc (suc zero))))) = FileId × (FileId × ℕ)
Parts (suc (suc (suc (suc (suc (suc zero)))))) = FileId × (ℕ × ℕ)
Parts n = ⊥

made : (n : ℕ) → Parts n → Intent
unfolding Parts
made zero x = absurd x
made (suc zero) x = intent.Bye x.0 x.1.0 x.1.1.0 x.1.1.1
made (suc (suc zero)) x = intent.Seek x.0 x.1
made (suc (suc (suc zero))) x = intent.Fill x.0 x.1.0 x.1.1
made (suc (suc (suc (suc zero)))) x = intent.Patch x.0 (entry_with x.1.0 x.1.1.0) x.1.1.1
made (suc (suc (suc (suc (suc zero))))) x = intent.Confirm x.0 x.1.0 x.1.1
made (suc (suc (suc (suc (suc (suc zero)))))) x = intent.Leave x.0 x.1.0 x.1.1
made (suc (suc (suc (suc (suc (suc (suc n))))))) x = absurd x

made_number : (n : ℕ) (x : Parts n) → number_of (made n x) ≡ n
unfolding Parts made
made_number zero x = absurd x
made_number (suc zero) x = refl
made_number (suc (suc zero)) x = refl
made_number (suc (suc (suc zero))) x = refl
made_number (suc (suc (suc (suc zero)))) x = refl
made_number (suc (suc (suc (suc (suc zero))))) x = refl
made_number (suc (suc (suc (suc (suc (suc zero)))))) x = refl
made_number (suc (suc (suc (suc (suc (suc (suc n))))))) x = absurd x

parts : (i : Intent) → (x : Parts (number_of i)) × (made (number_of i) x ≡ i)
unfolding Parts made
parts (intent.Bye file birth peer peer_birth) = ((file, (birth, (peer, peer_birth))), refl)
parts (intent.Seek file target) = ((file, target), refl)
parts (intent.Fill file birth target) = ((file, (birth, target)), refl)
parts (intent.Patch dir entry target) = ((dir, (entry.child, (own_of entry, target))), refl)
parts (intent.Confirm dir child target) = ((dir, (child, target)), refl)
parts (intent.Leave file peer peer_birth) = ((file, (peer, peer_birth)), refl)

parts_at : List Intent → ℕ → (n : ℕ) → Field PacketError (Parts n)
unfolding Parts
parts_at done place zero from = Err (BadTag place)
parts_at done place (suc zero) from = followed_by (of_packet file_at) (λ file. followed_by (of_packet (number_at 8)) (λ birth. followed_by (fresh_peer_at done file birth) peer_birth_at)) from
parts_at done place (suc (suc zero)) from = followed_by (fresh_file_at done of.Seek) (λ file. target_at) from
parts_at done place (suc (suc (suc zero))) from = followed_by (fresh_file_at done of.Fill) (λ file. followed_by (of_packet (number_at 8)) (λ birth. target_at)) from
parts_at done place (suc (suc (suc (suc zero)))) from = followed_by dir_at (λ dir. followed_by (fresh_file_at done (of.Patch dir)) (λ child. followed_by own_at (λ own. target_at))) from
parts_at done place (suc (suc (suc (suc (suc zero))))) from = followed_by dir_at (λ dir. followed_by (fresh_file_at done (of.Confirm dir)) (λ child. target_at)) from
parts_at done place (suc (suc (suc (suc (suc (suc zero)))))) from = followed_by (fresh_file_at done of.Leave) (λ file. followed_by server_at peer_birth_at) from
parts_at done place (suc (suc (suc (suc (suc (suc (suc n))))))) from = Err (BadTag place)

parts_fields : (done : List Intent) (place n : ℕ) → IsField (λ (x : Parts n). IsIntent done (made n x)) (λ (x : Parts n). behind (made n x)) (parts_at done place n)
unfolding Parts made parts_at behind
parts_fields done place zero = never_is (λ (x : Parts 0). IsIntent done (made 0 x)) (λ (x : Parts 0). behind (made 0 x)) (BadTag place) (λ x fits. x)
parts_fields done place (suc zero) =
    both_are id.Fits file_bytes (of_packet file_at)
    (λ file (x : ℕ × (ℕ × ℕ)). HasWidth 8 x.0 × (IsFreshPeer done file x.0 x.1.0 × HasWidth 8 x.1.1)) (λ file x. number_bytes 8 x.0 ++ (number_bytes 4 x.1.0 ++ peer_birth_bytes x.1.0 x.1.1))
    (λ file. followed_by (of_packet (number_at 8)) (λ birth. followed_by (fresh_peer_at done file birth) peer_birth_at)) file_is
    (λ file _. both_are (HasWidth 8) (number_bytes 8) (of_packet (number_at 8))
    (λ birth (x : ℕ × ℕ). IsFreshPeer done file birth x.0 × HasWidth 8 x.1) (λ birth x. number_bytes 4 x.0 ++ peer_birth_bytes x.0 x.1)
    (λ birth. followed_by (fresh_peer_at done file birth) peer_birth_at) wide_is
    (λ birth _. both_are (IsFreshPeer done file birth) (number_bytes 4) (fresh_peer_at done file birth) (λ peer. HasWidth 8) peer_birth_bytes peer_birth_at (fresh_peer_field done file birth)
    (λ peer fits. peer_birth_field peer (server_width peer fits.0))))
parts_fields done place (suc (suc zero)) = then_is (fresh_file_field done of.Seek) target_field
parts_fields done place (suc (suc (suc zero))) = then_is (fresh_file_field done of.Fill) (then_is wide_is target_field)
parts_fields done place (suc (suc (suc (suc zero)))) =
    both_are IsDirectory file_bytes dir_at
    (λ dir (x : FileId × (Attributes × ℕ)). IsFreshFile done (of.Patch dir) x.0 × (IsOwn x.1.0 × IsTargetNumber x.1.1)) (λ dir x. file_bytes x.0 ++ (own_bytes x.1.0 ++ target_bytes x.1.1))
    (λ dir. followed_by (fresh_file_at done (of.Patch dir)) (λ child. followed_by own_at (λ own. target_at))) dir_field
    (λ dir _. then_is (fresh_file_field done (of.Patch dir)) (then_is own_field target_field))
parts_fields done place (suc (suc (suc (suc (suc zero))))) =
    both_are IsDirectory file_bytes dir_at
    (λ dir (x : FileId × ℕ). IsFreshFile done (of.Confirm dir) x.0 × IsTargetNumber x.1) (λ dir x. file_bytes x.0 ++ target_bytes x.1)
    (λ dir. followed_by (fresh_file_at done (of.Confirm dir)) (λ child. target_at)) dir_field
    (λ dir _. then_is (fresh_file_field done (of.Confirm dir)) target_field)
parts_fields done place (suc (suc (suc (suc (suc (suc zero)))))) =
    then_is (fresh_file_field done of.Leave)
    (both_are IsServer (number_bytes 4) server_at (λ peer. HasWidth 8) peer_birth_bytes peer_birth_at server_field (λ peer fits. peer_birth_field peer (server_width peer fits)))
parts_fields done place (suc (suc (suc (suc (suc (suc (suc n))))))) = never_is (λ (x : Parts (suc (suc (suc (suc (suc (suc (suc n)))))))). IsIntent done (made (suc (suc (suc (suc (suc (suc (suc n))))))) x)) (λ (x : Parts (suc (suc (suc (suc (suc (suc (suc n)))))))). behind (made (suc (suc (suc (suc (suc (suc (suc n))))))) x)) (BadTag place) (λ x fits. x)

none : (i : Intent) (n : ℕ) → number_of i ≡ suc (suc (suc (suc (suc (suc (suc n)))))) → ⊥
none (intent.Bye file birth peer peer_birth) n same = omega (arith, same)
none (intent.Seek file target) n same = omega (arith, same)
none (intent.Fill file birth target) n same = omega (arith, same)
none (intent.Patch dir entry target) n same = omega (arith, same)
none (intent.Confirm dir child target) n same = omega (arith, same)
none (intent.Leave file peer peer_birth) n same = omega (arith, same)

kind_field : (done : List Intent) (place n : ℕ) → IsField (λ i. IsIntent done i × (number_of i ≡ n)) behind (intent_of done place n)
unfolding Parts made parts_at bye_at seek_at fill_at patch_at confirm_at leave_at
kind_field done place zero = of_kinds number_of (IsIntent done) behind Parts made (parts_at done place) made_number parts (parts_fields done place) zero
kind_field done place (suc zero) = of_kinds number_of (IsIntent done) behind Parts made (parts_at done place) made_number parts (parts_fields done place) 1
kind_field done place (suc (suc zero)) = of_kinds number_of (IsIntent done) behind Parts made (parts_at done place) made_number parts (parts_fields done place) 2
kind_field done place (suc (suc (suc zero))) = of_kinds number_of (IsIntent done) behind Parts made (parts_at done place) made_number parts (parts_fields done place) 3
kind_field done place (suc (suc (suc (suc zero)))) = of_kinds number_of (IsIntent done) behind Parts made (parts_at done place) made_number parts (parts_fields done place) 4
kind_field done place (suc (suc (suc (suc (suc zero))))) = of_kinds number_of (IsIntent done) behind Parts made (parts_at done place) made_number parts (parts_fields done place) 5
kind_field done place (suc (suc (suc (suc (suc (suc zero)))))) = of_kinds number_of (IsIntent done) behind Parts made (parts_at done place) made_number parts (parts_fields done place) 6
kind_field done place (suc (suc (suc (suc (suc (suc (suc n))))))) =
    never_is (λ i. IsIntent done i × (number_of i ≡ suc (suc (suc (suc (suc (suc (suc n)))))))) behind (BadTag place) (λ i fits. none i n fits.1)

low : (i : Intent) → HasWidth 1 (number_of i)
low (intent.Bye file birth peer peer_birth) = omega arith
low (intent.Seek file target) = omega arith
low (intent.Fill file birth target) = omega arith
low (intent.Patch dir entry target) = omega arith
low (intent.Confirm dir child target) = omega arith
low (intent.Leave file peer peer_birth) = omega arith

spelled : (i : Intent) → intent_bytes i ≡ number_bytes 1 (number_of i) ++ behind i
unfolding intent_bytes behind peer_birth_bytes entry_bytes
spelled (intent.Bye file birth peer peer_birth) = refl
spelled (intent.Seek file target) = refl
spelled (intent.Fill file birth target) = refl
spelled (intent.Patch dir entry target) = ap (λ (bytes : List ℕ). number_bytes 1 4 ++ (file_bytes dir ++ bytes)) (append_assoc (file_bytes entry.child) (own_bytes (own_of entry)) (target_bytes target))
spelled (intent.Confirm dir child target) = refl
spelled (intent.Leave file peer peer_birth) = refl

intent_field : (done : List Intent) → IsField (IsIntent done) intent_bytes (intent_at done)
unfolding intent_at
intent_field done = chosen_is number_of (HasWidth 1) (number_bytes 1) (of_packet (number_at 1)) (IsIntent done) intent_bytes behind (intent_of done) byte_is
    (λ i fits. low i) spelled (kind_field done)

pub intents_field : IsField AreIntents (listed 4 intent_bytes) all_intents_at
unfolding all_intents_at
intents_field = counted_list_is IsIntent with_intent intent_bytes intent_at intent_field 4 [] narrow_is
