use Rattle.std.proofs.Common.{rules, arith, ◌≡◌, ◌∷◌, take, refl}
use Rattle.std.proofs.lemmas.List.{take_all}
use Rattle.std.proofs.Output.{has_written_append, has_written_of_eq}
use Rattle.pg_base.specs.StampText.{stamp_text}
use Rattle.pg_words.proofs.Joined.{word_written}
use Rattle.pg_words.proofs.stamp_word.StampsWordDisplay.fmt.Goals as goal

pub returns-clause-writes : goal.returns-clause-writes
returns-clause-writes g c plain ok =
    let list : c.args.self.now.0.now ≡ c.in-Some.first.now ∷ c.in-Some.rest.now = search rules in
    let all = take_all c.loop-stamp.stamp-index c.in-Some.rest.now (omega arith) in
    let first = c.in_ok-write.ensures.writes plain refl in
    has_written_of_eq _ _ _ _ _ (word_written stamp_text c.args.self.now.0.now c.in-Some.first.now c.in-Some.rest.now (take c.loop-stamp.stamp-index c.in-Some.rest.now) list all)
    (has_written_append _ _ _ _ _ _ first (c.loop-stamp.invariant first.plain))
