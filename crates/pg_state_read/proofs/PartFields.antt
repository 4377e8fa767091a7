-- The parts of a state are fields.
use Rattle.std.proofs.Common.{◌≡◌, ℕ, ◌+◌, ◌-◌, ◌^◌, true, eqb, List, [], ◌∷◌, ◌++◌, refl, sym, ap, subst, arith}
use Rattle.std.specs.List.{flat_map}
use Rattle.std.proofs.lemmas.Bool.{eqb-true, eq-eqb, ltb-true, lt-ltb}
use Rattle.std.proofs.lemmas.List.Concat.{flat_map-cons}
use Rattle.pg_announced.specs.Announced.{NotesValue}
use Rattle.pg_codec.specs.Laws.{Any, HasWidth, IsField}
use Rattle.pg_codec.specs.Spelling.{number_bytes}
use Rattle.pg_intent.specs.declared.intent.Intent.{Intent}
use Rattle.pg_packet_write.specs.Fields.{listed}
use Rattle.pg_packet_fields.proofs.Joining.{nothing_is, then_is, view_is}
use Rattle.pg_packet_fields.proofs.Plain.{byte_is, server_field, wide_is}
use Rattle.pg_state.specs.Spelling.{mark}
use Rattle.pg_store.specs.Wishes.{WishesValue}
use Rattle.pg_state_fields.specs.Orders.{AreCounted, Passes, unchanged}
use Rattle.pg_state_read.specs.Whole.{AnyServer, AreCounters, AreParts, AreServers, IsWaiting, any_server, byte_at, counters_at, is_byte, is_tag, marked_at, parts_at, removed_at, servers_at, tag_at, these_at, waiting_at}
use Rattle.pg_state_read.specs.declared.parts.Counters.{Counters}
use Rattle.pg_state_read.specs.declared.parts.Parts.{Parts}
use Rattle.pg_state_read.specs.declared.parts.Servers.{Servers}
use Rattle.pg_state_read.specs.declared.parts.Waiting.{Waiting}
use Rattle.pg_state_fields.specs.declared.replicas.Held.{Held}
use Rattle.pg_state_read.specs.Spelling.{counters_spelling, marked_spelling, parts_spelling, servers_spelling, waiting_spelling}
use Rattle.pg_state_fields.proofs.IntentFields.{intents_field}
use Rattle.pg_state_read.proofs.LaterFields.{notes_field, wishes_field}
use Rattle.pg_state_fields.proofs.ReplicaFields.{all_held_field}
use Rattle.pg_state_fields.proofs.Tested.{counted_list_is, tested_is}

-- ---- the mark

byte_field : (byte : ℕ) → IsField (Passes (HasWidth 1) (is_byte byte)) (number_bytes 1) (byte_at byte)
unfolding byte_at
byte_field byte = tested_is byte_is (is_byte byte)

these_bytes : List ℕ → Unit {0} → List ℕ
these_bytes bytes u = flat_map (number_bytes 1) bytes

Bytes : List ℕ → Type 0
Bytes [] = Unit {0}
Bytes (byte ∷ bytes) = HasWidth 1 byte × Bytes bytes

these_field : (bytes : List ℕ) → Bytes bytes → IsField Any (these_bytes bytes) (these_at bytes)
unfolding these_at these_bytes Bytes
these_field [] width = nothing_is Any (these_bytes []) tt tt refl (λ b fits. refl)
these_field (byte ∷ bytes) width = view_is (then_is (byte_field byte) (these_field bytes width.1)) (λ (x : ℕ × Unit {0}). x.1) Any (these_bytes (byte ∷ bytes))
    (λ x fits. let same : x.0 ≡ byte = eqb-true x.0 byte fits.0.1 in
    (tt, subst (λ (n : ℕ). these_bytes (byte ∷ bytes) x.1 ≡ number_bytes 1 n ++ these_bytes bytes x.1) (sym same) (flat_map-cons (number_bytes 1) byte bytes)))
    (λ u fits. let alike : eqb byte byte ≡ true = eq-eqb byte byte refl in ((byte, u), ((width.0, alike), tt), refl))

-- ---- servers and counters

removed_field : IsField (AreCounted 1 AnyServer unchanged tt) (listed 1 (number_bytes 4)) removed_at
unfolding removed_at
removed_field = counted_list_is AnyServer unchanged (number_bytes 4) any_server (λ known. server_field) 1 tt byte_is

abbrev servers_view : ℕ × (ℕ × List ℕ) → Servers
servers_view x = record { server = x.0; servers = x.1.0; removed = x.1.1 }

servers_field : IsField AreServers servers_spelling servers_at
unfolding servers_at servers_spelling
servers_field = view_is (then_is server_field (then_is server_field removed_field)) servers_view AreServers servers_spelling
    (λ x fits. (record { server = fits.0; servers = fits.1.0; removed = fits.1.1 }, refl))
    (λ s fits. ((s.server, (s.servers, s.removed)), (fits.server, (fits.servers, fits.removed)), refl))

tag_field : IsField (Passes (HasWidth 8) is_tag) (number_bytes 8) tag_at
unfolding tag_at
tag_field = tested_is wide_is is_tag

abbrev counters_view : ℕ × (ℕ × (ℕ × ℕ)) → Counters
counters_view x = record { last = x.0; files = x.1.0; births = x.1.1.0; tags = x.1.1.1 + 1 }

counters_to : (x : ℕ × (ℕ × (ℕ × ℕ))) → HasWidth 8 x.0 × (HasWidth 8 x.1.0 × (HasWidth 8 x.1.1.0 × Passes (HasWidth 8) is_tag x.1.1.1))
    → AreCounters (counters_view x) × (counters_spelling (counters_view x) ≡ number_bytes 8 x.0 ++ (number_bytes 8 x.1.0 ++ (number_bytes 8 x.1.1.0 ++ number_bytes 8 x.1.1.1)))
unfolding counters_spelling
counters_to x fits =
    let low = ltb-true x.1.1.1 (2 ^ 64 - 1) fits.1.1.1.1 in
    let back : x.1.1.1 + 1 - 1 ≡ x.1.1.1 = omega arith in (
      record { last = fits.0; files = fits.1.0; births = fits.1.1.0; some = omega arith; tags = omega (arith, low) },
      ap (λ (n : ℕ). number_bytes 8 x.0 ++ (number_bytes 8 x.1.0 ++ (number_bytes 8 x.1.1.0 ++ number_bytes 8 n))) back,
    )

counters_back : (c : Counters) → AreCounters c
    → (x : ℕ × (ℕ × (ℕ × ℕ))) × (HasWidth 8 x.0 × (HasWidth 8 x.1.0 × (HasWidth 8 x.1.1.0 × Passes (HasWidth 8) is_tag x.1.1.1))) × (counters_view x ≡ c)
counters_back c fits =
    let some = fits.some in
    let tags = fits.tags in
    let width : HasWidth 8 (c.tags - 1) = omega (arith, tags) in
    let low : is_tag (c.tags - 1) ≡ true = lt-ltb (c.tags - 1) (2 ^ 64 - 1) (omega (arith, some, tags)) in
    let same : c.tags - 1 + 1 ≡ c.tags = omega (arith, some) in (
      (c.last, (c.files, (c.births, c.tags - 1))),
      (fits.last, (fits.files, (fits.births, (width, low)))),
      ap (λ (n : ℕ). record { last = c.last; files = c.files; births = c.births; tags = n }) same,
    )

counters_field : IsField AreCounters counters_spelling counters_at
unfolding counters_at
counters_field = view_is (then_is wide_is (then_is wide_is (then_is wide_is tag_field))) counters_view AreCounters counters_spelling counters_to counters_back

-- ---- what is waited for, and all parts

abbrev waiting_view : List Intent × (WishesValue × NotesValue) → Waiting
waiting_view x = record { intents = x.0; wishes = x.1.0; announced = x.1.1 }

waiting_field : IsField IsWaiting waiting_spelling waiting_at
unfolding waiting_at waiting_spelling
waiting_field = view_is (then_is intents_field (then_is wishes_field notes_field)) waiting_view IsWaiting waiting_spelling
    (λ x fits. (record { intents = fits.0; wishes = fits.1.0; announced = fits.1.1 }, refl))
    (λ w fits. ((w.intents, (w.wishes, w.announced)), (fits.intents, (fits.wishes, fits.announced)), refl))

abbrev parts_view : Servers × (Counters × (List Held × Waiting)) → Parts
parts_view x = record { servers = x.0; counters = x.1.0; held = x.1.1.0; waiting = x.1.1.1 }

parts_field : IsField AreParts parts_spelling parts_at
unfolding parts_at parts_spelling
parts_field = view_is (then_is servers_field (then_is counters_field (then_is all_held_field waiting_field))) parts_view AreParts parts_spelling
    (λ x fits. (record { servers = fits.0; counters = fits.1.0; held = fits.1.1.0; waiting = fits.1.1.1 }, refl))
    (λ p fits. ((p.servers, (p.counters, (p.held, p.waiting))), (fits.servers, (fits.counters, (fits.held, fits.waiting))), refl))

mark_width : Bytes mark
unfolding Bytes
mark_width = (omega arith, (omega arith, (omega arith, (omega arith, (omega arith, (omega arith, (omega arith, (omega arith, (omega arith, (omega arith, (omega arith, (omega arith, (omega arith, (omega arith, (omega arith, (omega arith, tt))))))))))))))))

mark_same : flat_map (number_bytes 1) mark ≡ mark
unfolding number_bytes
mark_same = refl

pub marked_field : IsField AreParts marked_spelling marked_at
unfolding marked_at marked_spelling these_bytes
marked_field = view_is (then_is (these_field mark mark_width) parts_field) (λ (x : Unit {0} × Parts). x.1) AreParts marked_spelling
    (λ x fits. (fits.1, ap (λ (front : List ℕ). front ++ parts_spelling x.1) (sym mark_same)))
    (λ p fits. ((tt, p), (tt, fits), refl))
