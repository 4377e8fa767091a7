use Rattle.std.proofs.Common.{arith}
use Rattle.std.proofs.lemmas.List.Elements.{All-weaker}
use Rattle.pg_path.specs.Name.{IsComponentByte, IsNameByte}
use Rattle.pg_path.proofs.path.name_is_component.Goals as goal

pub returns : goal.returns
returns c name h =
    let most = h.most in
    record {
      some = h.some;
      most = omega arith;
      each = All-weaker IsNameByte IsComponentByte (λ b k. record { least = k.least; most = k.most; no_slash = k.no_slash }) name h.each;
    }
