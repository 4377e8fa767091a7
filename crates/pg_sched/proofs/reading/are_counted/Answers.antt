use Rattle.std.proofs.Common.{◌∙◌, List, ℕ, Bor}
use Rattle.std.proofs.lemmas.List.{length-map}
use Rattle.std.proofs.lemmas.List.Elements.{All-map}
use Rattle.pg_sched.proofs.Counts.{each_has, HasByte}
use Rattle.pg_sched.proofs.reading.are_counted.Goals as goal

pub returns-then-words-count : goal.returns-then-words-count
returns-then-words-count c =
    let words = c.args.words.now in (
      λ h. record {
        count = length-map words (λ (w : Bor (List ℕ)). w.now) ∙ c.if-words-count.true ∙ c.count.ensures;
        some = All-map HasByte (λ (w : Bor (List ℕ)). w.now) words (c.have_bytes.ensures.0 h);
      },
      λ h. c.have_bytes.ensures.1 (each_has words h.some),
    )
