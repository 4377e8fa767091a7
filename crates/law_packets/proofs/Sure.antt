-- Readers that can go on wherever they have come: each text that they read in part begins one that they read, by itself or but for counts.
use Rattle.std.proofs.Common.{◌≡◌, ℕ, ◌+◌, List, [], ◌++◌, Ok, refl, sym, ap, subst, ◌∙◌, append_assoc, arith}
use Rattle.pg_codec.specs.Unread.{Unread}
use Rattle.pg_codec.specs.Reading.{Field, followed_by, seen_as}
use Rattle.pg_codec.specs.Laws.{AreBytes}
use Rattle.pg_packet_fields.specs.declared.error.PacketError.{PacketError}
use Rattle.pg_codec.proofs.Binding.{ok_is}
use Rattle.law_packets.proofs.Telling.{IsTold, Reads, Starts, Took, bound, bound_told, bytes_front, bytes_join, no_error, other_reached, pair, reads_then, same_told, seen_told}

-- of what stands there, what is taken for it
pub record IsRelation (R : List ℕ → List ℕ → Type 0) : Type 0 where
  pub here : (b : List ℕ) → R b b
  pub behind : (front a b : List ℕ) → R a b → R (front ++ a) (front ++ b)

pub record Reached {X : Type 0} (R : List ℕ → List ℕ → Type 0) (read : Field PacketError X) (b : List ℕ) : Type 0 where
  pub whole : List ℕ
  pub same : R whole b
  pub starts : Starts read whole

pub record IsSure {X : Type 0} (R : List ℕ → List ℕ → Type 0) (read : Field PacketError X) : Type 0 where
  pub told : IsTold (Reached R read) read
  pub some : Starts read []

-- ---- one behind another

pub starts_first : {A B : Type 0} (first : Field PacketError A) (second : A → Field PacketError B) (b : List ℕ)
    → ((a : A) → Starts (second a) []) → Starts first b → Starts (bound first second) b
starts_first {B = B} first second b some s =
    let t = some s.value in
    let long : b ++ (s.more ++ t.more) ≡ (b ++ s.more) ++ t.more = sym (append_assoc b s.more t.more) in
    let value : B = t.value in
    record {
      value = value;
      more = s.more ++ t.more;
      width = subst AreBytes (sym long) (bytes_join (b ++ s.more) t.more s.width t.width);
      reads = subst (λ (u : List ℕ). Reads (bound first second) u value) (sym long) (reads_then first second (b ++ s.more) t.more s.value t.value s.reads t.reads);
    }

pub starts_second : {A B : Type 0} (first : Field PacketError A) (second : A → Field PacketError B) (a : A) (text b : List ℕ)
    → AreBytes text → Reads first text a → Starts (second a) b → Starts (bound first second) (text ++ b)
starts_second {B = B} first second a text b width reads s =
    let long : (text ++ b) ++ s.more ≡ text ++ (b ++ s.more) = append_assoc text b s.more in
    let value : B = s.value in
    record {
      value = value;
      more = s.more;
      width = subst AreBytes (sym long) (bytes_join text (b ++ s.more) width s.width);
      reads = subst (λ (u : List ℕ). Reads (bound first second) u value) (sym long) (reads_then first second text (b ++ s.more) a s.value reads s.reads);
    }

pub starts_seen : {A B : Type 0} (view : A → B) (read : Field PacketError A) (b : List ℕ) → Starts read b → Starts (seen_as view read) b
starts_seen view read b s = record { value = view s.value; more = s.more; width = s.width; reads = λ place rest. rw (s.reads place rest) refl }

starts_same : {X : Type 0} (read other : Field PacketError X) → ((from : Unread) → other from ≡ read from) → (b : List ℕ) → Starts read b → Starts other b
starts_same read other same b s = record { value = s.value; more = s.more; width = s.width; reads = λ place rest. same (record { place = place; rest = (b ++ s.more) ++ rest }) ∙ s.reads place rest }

pub bound_sure : {A B : Type 0} (R : List ℕ → List ℕ → Type 0) (first : Field PacketError A) (second : A → Field PacketError B)
    → IsRelation R → IsSure R first → ((a : A) → IsSure R (second a)) → IsSure R (bound first second)
bound_sure R first second rel one two = record {
  told = bound_told (Reached R first) (Reached R (bound first second)) (λ a. Reached R (second a)) first second one.told (λ a. (two a).told)
      (λ b width p. record { whole = p.whole; same = p.same; starts = starts_first first second p.whole (λ a. (two a).some) p.starts })
      (λ a text b width reads p. record { whole = text ++ p.whole; same = rel.behind text p.whole b p.same; starts = starts_second first second a text p.whole (bytes_front text b width) reads p.starts });
  some = starts_first first second [] (λ a. (two a).some) one.some;
}

pub seen_sure : {A B : Type 0} {R : List ℕ → List ℕ → Type 0} {read : Field PacketError A} (view : A → B) → IsSure R read → IsSure R (seen_as view read)
seen_sure {R = R} {read = read} view sure = record {
  told = seen_told (Reached R (seen_as view read)) view read (other_reached (Reached R read) (Reached R (seen_as view read)) read sure.told
      (λ b width p. record { whole = p.whole; same = p.same; starts = starts_seen view read p.whole p.starts }));
  some = starts_seen view read [] sure.some;
}

-- one field and another behind it, which may depend on the first
pub followed_sure : {A B : Type 0} {R : List ℕ → List ℕ → Type 0} {first : Field PacketError A} {second : A → Field PacketError B}
    → IsRelation R → IsSure R first → ((a : A) → IsSure R (second a)) → IsSure R (followed_by first second)
followed_sure {A = A} {B = B} {R = R} {first = first} {second = second} rel one two =
    bound_sure R first (λ a. seen_as (pair a) (second a)) rel one (λ a. seen_sure {R = R} {read = second a} (pair a) (two a))

pub then_sure : {A B : Type 0} {R : List ℕ → List ℕ → Type 0} {first : Field PacketError A} {second : Field PacketError B}
    → IsRelation R → IsSure R first → IsSure R second → IsSure R (followed_by first (λ a. second))
then_sure rel one two = followed_sure rel one (λ a. two)

-- a value that takes no bytes
abbrev pub alone : {X : Type 0} → X → Field PacketError X
alone x from = Ok (x, from)

alone_reads : {X : Type 0} (x : X) → Reads (alone x) [] x
alone_reads x place rest = ap (λ (p : ℕ). Ok (x, record { place = p; rest = rest })) (omega arith)

pub alone_told : {X : Type 0} (P : List ℕ → Type 0) (x : X) → IsTold P (alone x)
alone_told {X = X} P x = record {
  takes = λ from y bytes k.
      let made : X × Unread = (x, from) in
      let took : Took (alone x) from made = record { text = []; taken = record { parts = refl; place = omega arith; width = bytes }; reads = alone_reads x } in
      subst (λ (z : X × Unread). Took (alone x) from z) (ok_is PacketError made y k) took;
  stops = λ from e bytes k. absurd (no_error (x, from) e k);
}

pub nothing_sure : {X : Type 0} {R : List ℕ → List ℕ → Type 0} (x : X) → IsSure R (alone x)
nothing_sure {R = R} x = record {
  told = alone_told (Reached R (alone x)) x;
  some = record { value = x; more = []; width = λ i. omega arith; reads = alone_reads x };
}

-- where nothing stands before a fault
pub empty_sure : {X : Type 0} {R : List ℕ → List ℕ → Type 0} {read : Field PacketError X} → IsRelation R → IsTold (λ b. b ≡ []) read → Starts read [] → IsSure R read
empty_sure {R = R} {read = read} rel told some = record {
  told = other_reached (λ b. b ≡ []) (Reached R read) read told (λ b width p. record { whole = []; same = subst (λ (t : List ℕ). R [] t) (sym p) (rel.here []); starts = some });
  some = some;
}

pub starts_sure : {X : Type 0} {R : List ℕ → List ℕ → Type 0} {read : Field PacketError X} → IsRelation R → IsTold (Starts read) read → Starts read [] → IsSure R read
starts_sure {R = R} {read = read} rel told some = record {
  told = other_reached (Starts read) (Reached R read) read told (λ b width p. record { whole = b; same = rel.here b; starts = p });
  some = some;
}

pub same_sure : {X : Type 0} {R : List ℕ → List ℕ → Type 0} (read other : Field PacketError X) → ((from : Unread) → other from ≡ read from) → IsSure R read → IsSure R other
same_sure {R = R} read other same sure = record {
  told = same_told (Reached R other) read other same (other_reached (Reached R read) (Reached R other) read sure.told
      (λ b width p. record { whole = p.whole; same = p.same; starts = starts_same read other same p.whole p.starts }));
  some = starts_same read other same [] sure.some;
}
