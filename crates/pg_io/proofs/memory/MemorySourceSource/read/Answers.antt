use Rattle.std.proofs.Common.{◌≡◌, ◌∙◌, sym, ap, arith, length, take, drop}
use Rattle.std.proofs.lemmas.List.{length-take}
use Rattle.pg_io.specs.Memory.{InMemory}
use Rattle.pg_io.proofs.Known.{read_prefix, none_left}
use Rattle.pg_io.proofs.memory.MemorySourceSource.read.Goals as goal

pub returns-clause-bytes : goal.returns-clause-bytes
returns-clause-bytes c =
    let whole : length c.copy_from_slice.new.self ≡ c.min-count.result = (let e = c.copy_from_slice.ensures.len in omega (arith, length-take c.min-count.result c.args.buf.now)) in
    let prefix : c.copy_from_slice.new.self ≡ take c.min-count.result (drop c.self.inside.at c.self.inside.bytes.items) =
    c.copy_from_slice.ensures.after
    ∙ ap (λ n. take n (drop c.self.inside.at c.deref.result.now)) (omega arith)
    ∙ ap (λ bs. take c.min-count.result (drop c.self.inside.at bs)) c.deref.ensures.value in (
      sym (ap (λ (s : InMemory). s.bytes) c.self.view_is) ∙ read_prefix c.self.inside.bytes.items c.copy_from_slice.new.self c.args.buf.now c.self.inside.at c.min-count.result prefix whole,
      none_left c.self.inside.bytes.items c.copy_from_slice.new.self c.args.buf.now c.self.inside.at c.min-count.result c.self.inside.chunk (omega arith) c.self.invariant.1 whole,
    )
