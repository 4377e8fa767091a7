use Rattle.std.proofs.Common.{◌∷◌, ◌∙◌, List, ℕ, Bor, ap, suc}
use Rattle.std.proofs.lemmas.List.{length-map}
use Rattle.std.proofs.lemmas.List.Elements.{All-cons, All-head, All-map, All-tail}
use Rattle.pg_sched.proofs.Counts.{each_has, HasByte}
use Rattle.pg_sched.proofs.reading.are_called.Goals as goal
use Rattle.pg_words.proofs.ListWords.{texts}

pub returns-then-arguments-count : goal.returns-then-arguments-count
returns-then-arguments-count c =
    let words = c.args.arguments.now in
    let server = c.args.server.now in
    let moment = c.args.moment.now in (
      λ h. let bytes = c.have_all_bytes.ensures.0 h in record {
        count = ap suc (ap suc (length-map words (λ (w : Bor (List ℕ)). w.now) ∙ c.if-arguments-count.true ∙ c.count.ensures));
        some = All-cons HasByte server (moment ∷ texts words) bytes.0 (All-cons HasByte moment (texts words) bytes.1 (All-map HasByte (λ (w : Bor (List ℕ)). w.now) words bytes.2));
      },
      λ h. let rest = All-tail HasByte server (moment ∷ texts words) h.some in
          c.have_all_bytes.ensures.1 (All-head HasByte server (moment ∷ texts words) h.some, All-head HasByte moment (texts words) rest, each_has words (All-tail HasByte moment (texts words) rest)),
    )
