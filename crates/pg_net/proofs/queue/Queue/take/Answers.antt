use Rattle.std.proofs.Common.{◌≡◌, ◌∙◌, ◌+◌, ◌<◌, ℕ, List, arith, ap, subst, refl, Some, length, min, take}
use Rattle.std.proofs.lemmas.Bool.Decides.{nat_tests}
use Rattle.std.specs.List.{slice_get}
use Rattle.std.proofs.lemmas.Option.{slice_get_read, slice_get_within}
use Rattle.pg_net.specs.Net.{Datagram}
use Rattle.pg_net.specs.declared.net.Taken.TheVariants.{Packet}
use Rattle.pg_net.specs.MemoryNet.{Queue, IsNext}
use Rattle.pg_net.proofs.Given.{queue, took_packet, none_idle}
use Rattle.pg_net.proofs.queue.Queue.take.Goals as goal

pub returns-in-Some-clause-next : goal.returns-in-Some-clause-next
returns-in-Some-clause-next c =
    let packets = c.self.inside.packets.items in
    let x = c.in-Some.packet.now in
    let values : c.deref.result.now ≡ packets = c.deref.ensures.value in
    let inside : c.self.inside.at < length c.deref.result.now = grind (arith, nat_tests, c.in-Some.ensures.lookup.0) in
    let here : slice_get packets c.self.inside.at ≡ Some x =
    subst (λ (l : List Datagram). slice_get l c.self.inside.at ≡ Some x) values (slice_get_read c.deref.result.now (length c.deref.result.now) c.self.inside.at x refl inside c.in-Some.ensures.lookup.1) in
    let within = slice_get_within packets c.self.inside.at x here in
    subst (λ (old : Queue). IsNext 40_001 (Packet c.port-port.result c.copied-length.result) c.copied-length.new.buf old (queue 40_001 packets (c.self.inside.at + 1) c.self.inside.idles))
    c.self.view_is
    (took_packet 40_001 packets c.self.inside.at c.self.inside.idles c.port-port.result c.copied-length.result c.copied-length.new.buf c.in-Some.packet.now
    (none_idle c.self.inside.idles (length packets) c.self.inside.at c.self.invariant.1 within)
    here c.port-port.ensures (c.copied-length.ensures.count ∙ ap (λ (l : List ℕ). min (length l) 40_001) c.bytes.ensures)
    (c.copied-length.ensures.copied ∙ ap (λ (l : List ℕ). take c.copied-length.result l) c.bytes.ensures))
