-- What the next take of a net in memory does to its queue.
use Rattle.std.proofs.Common.{◌≡◌, ℕ, zero, suc, ◌+◌, ◌≤◌, ◌<◌, min, List, [], ◌∷◌, ◌++◌, length, map, take, drop, replicate, get_or, slice_get, Option, Some, None, refl, sym, ◌∙◌, ap, subst, append_assoc, arith}
use Rattle.std.proofs.lemmas.List.{append-nil, map-append, drop-drop, drop_more, take_more, take_min, replicate-append-replicate}
use Rattle.std.proofs.lemmas.Option.{get_or_from_slice_get, slice_get_within}
use Rattle.std.proofs.Math.ListN.{drop_of_length-le}
use Rattle.pg_net.specs.declared.net.Taken.{Taken}
use Rattle.pg_net.specs.declared.net.Taken.TheVariants.{Packet, Idle}
use Rattle.pg_net.specs.Net.{Datagram, cut, next, given_by}
use Rattle.pg_net.specs.MemoryNet.{Queue, given_first, IsNext}

-- the value of a queue of these packets
abbrev pub queue : ℕ → List Datagram → ℕ → ℕ → Queue
queue most packets at idles = record { left = drop at packets; given = given_first most packets at idles }

abbrev front : ℕ → List Datagram → ℕ → List (Option Datagram)
front most packets at = map (λ (p : Datagram). Some (cut most p)) (take at packets)

front_more : (most : ℕ) (packets : List Datagram) (at : ℕ) (x : Datagram) → at < length packets → get_or packets at x ≡ x
    → front most packets (at + 1) ≡ front most packets at ++ Some (cut most x) ∷ []
front_more most packets at x within is =
    let f : Datagram → Option Datagram = λ (p : Datagram). Some (cut most p) in
    ap (map f) (take_more packets at x within) ∙ map-append f (take at packets) (get_or packets at x ∷ [])
    ∙ ap (λ (y : Datagram). front most packets at ++ f y ∷ []) is

gives_cut : (most port n : ℕ) (buf : List ℕ) (x : Datagram) → port ≡ x.port → n ≡ min (length x.bytes) most → take n buf ≡ take n x.bytes
    → given_by (Packet port n) buf ≡ Some (cut most x)
gives_cut most port n buf x is_port least same =
    let turned : n ≡ min most (length x.bytes) = omega (arith, least) in
    let bytes : take n buf ≡ take most x.bytes = same ∙ ap (λ (k : ℕ). take k x.bytes) turned ∙ take_min most x.bytes in
    λ i. Some (record { port = is_port i; bytes = bytes i })

-- a packet was taken, and none before it was Idle
pub took_packet : (most : ℕ) (packets : List Datagram) (at idles port n : ℕ) (buf : List ℕ) (x : Datagram) → idles ≡ 0 → slice_get packets at ≡ Some x
    → port ≡ x.port → n ≡ min (length x.bytes) most → take n buf ≡ take n x.bytes
    → IsNext most (Packet port n) buf (queue most packets at idles) (queue most packets (at + 1) idles)
took_packet most packets at idles port n buf x none here is_port least same =
    let answer : Taken = Packet port n in
    let gives : given_by answer buf ≡ Some (cut most x) = gives_cut most port n buf x is_port least same in
    let within : at < length packets = slice_get_within packets at x here in
    let is : get_or packets at x ≡ x = get_or_from_slice_get packets at x x here in
    let ends : drop at packets ≡ x ∷ drop (at + 1) packets = drop_more packets at x within ∙ ap (λ (y : Datagram). y ∷ drop (at + 1) packets) is in
    subst (λ (n : ℕ). IsNext most answer buf (queue most packets at n) (queue most packets (at + 1) n)) (sym none) (record {
      next = gives ∙ sym (ap (next most) ends);
      left = sym (drop-drop 1 at packets);
      given = append-nil (front most packets (at + 1)) ∙ front_more most packets at x within is
          ∙ ap (λ (o : Option Datagram). front most packets at ++ o ∷ []) (sym gives)
          ∙ ap (λ (l : List (Option Datagram)). l ++ given_by answer buf ∷ []) (sym (append-nil (front most packets at)));
    })

-- no packet was left
pub took_none : (most : ℕ) (packets : List Datagram) (at idles : ℕ) (buf : List ℕ) → length packets ≤ at
    → IsNext most Idle buf (queue most packets at idles) (queue most packets at (idles + 1))
took_none most packets at idles buf behind =
    let ends : drop at packets ≡ [] = drop_of_length-le packets behind in
    let none : Option Datagram = None in
    let one : replicate idles none ++ none ∷ [] ≡ replicate (idles + 1) none = replicate-append-replicate idles 1 none in
    record {
      next = sym (ap (next most) ends);
      left = ends ∙ sym (ap (λ (l : List Datagram). drop 1 l) ends);
      given = ap (λ (l : List (Option Datagram)). front most packets at ++ l) (sym one)
          ∙ sym (append_assoc (front most packets at) (replicate idles None) (None ∷ []));
    }

-- no take was Idle as long as a packet is left
pub none_idle : (idles n at : ℕ) → (0 < idles → n ≤ at) → at < n → idles ≡ 0
none_idle zero n at behind within = refl
none_idle (suc idles) n at behind within = absurd (omega (arith, behind (omega arith), within))
