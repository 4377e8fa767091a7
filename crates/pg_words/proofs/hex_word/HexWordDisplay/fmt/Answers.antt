use Rattle.std.proofs.Common.{rules, ◌≡◌, List, ℕ, [], ◌++◌, sym, ap, ◌∙◌, append_assoc}
use Rattle.std.proofs.Output.{has_written_append, has_written_of_eq}
use Rattle.std.specs.Slice.Iter.{chunks_rest}
use Rattle.hex.specs.Hex.{encode_lower}
use Rattle.pg_words.proofs.HexWords.{encode-append, encode-nil}
use Rattle.pg_words.proofs.hex_word.HexWordDisplay.fmt.Goals as goal

pub loop-chunk-init : goal.loop-chunk-init
loop-chunk-init g c = (search rules, tt, search rules, search rules, λ plain. ([], has_written_of_eq _ _ _ _ _ encode-nil (search rules), search rules))

pub loop-chunk-preserved : goal.loop-chunk-preserved
loop-chunk-preserved g c =
    let chunk = c.in-Some.chunk.now in
    let steps = c.in-Some.ensures.steps in
    let shown : c.digits_of.result.now ≡ encode_lower chunk = c.digits_of.ensures in (
      search rules,
      tt,
      steps.0 ∙ c.loop-chunk.invariant.2,
      search rules,
      λ plain.
          let so_far = c.loop-chunk.invariant.4 plain in (
            so_far.0 ++ chunk,
            has_written_of_eq _ _ _ _ _ (ap (λ (t : List ℕ). encode_lower so_far.0 ++ t) shown ∙ sym (encode-append so_far.0 chunk)) (has_written_append _ _ _ _ _ _ so_far.1 (search rules)),
            append_assoc so_far.0 chunk (chunks_rest c.next.new.self) ∙ ap (λ (t : List ℕ). so_far.0 ++ t) (sym steps.1.0) ∙ so_far.2,
          ),
    )
