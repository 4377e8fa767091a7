use Rattle.std.proofs.Common.{[], ◌∷◌, ◌∙◌, ◌≡◌, length, map, rules, sym}
use Rattle.std.specs.String.{string_bytes}
use Rattle.pg_call.specs.Fields.{call_fields}
use Rattle.pg_command.proofs.Readings.{no_call_fault}
use Rattle.pg_command.proofs.Taken.{no_words, one_word, three_words, two_words}
use Rattle.pg_command.proofs.calling.call_with.Goals as goal
use Rattle.pg_command.proofs.calling.call_with.Goals.{in-empty, in-len1, in-len2, in-len3}

pub unreachable-requires-in-Bad : goal.unreachable-requires-in-Bad
unreachable-requires-in-Bad c =
    let fields = call_fields c.args.kind in
    let given = c.args.words.now in
    let words = map string_bytes given in
    elim c.if-words-lt1.branch [
      | in-empty w ↦ (
          let long : length given ≡ 0 = search rules in
          no_call_fault fields words [] w.arguments_of-read.result c.in-Err.error c.in-Bad.field-0
          (sym w.read-is ∙ c.in-Err.is) c.in-Bad.is w.arguments_of-read.ensures.bad c.requires (no_words given long))
      | in-len1 w ↦ (
          let long : length given ≡ 1 = search rules in
          let a = w.as_bytes.result.now in
          no_call_fault fields words (a ∷ []) w.arguments_of-read-in-len1.result c.in-Err.error c.in-Bad.field-0
          (sym w.read-is ∙ c.in-Err.is) c.in-Bad.is w.arguments_of-read-in-len1.ensures.bad c.requires
          (one_word given w.first-item.result a long w.first-item.is w.as_bytes.ensures.value))
      | in-len2 w ↦ (
          let long : length given ≡ 2 = search rules in
          let a = w.as_bytes-in-len2.result.now in
          let b = w.as_bytes-in-len2-2.result.now in
          no_call_fault fields words (a ∷ b ∷ []) w.arguments_of-read-in-len2.result c.in-Err.error c.in-Bad.field-0
          (sym w.read-is ∙ c.in-Err.is) c.in-Bad.is w.arguments_of-read-in-len2.ensures.bad c.requires
          (two_words given w.first-item-then-words-lt3.result w.second-item.result a b long
          w.first-item-then-words-lt3.is w.second-item.is
          w.as_bytes-in-len2.ensures.value w.as_bytes-in-len2-2.ensures.value))
      | in-len3 w ↦ (
          let long : length given ≡ 3 = search rules in
          let a = w.as_bytes-in-len3.result.now in
          let b = w.as_bytes-in-len3-2.result.now in
          let d = w.as_bytes-in-len3-3.result.now in
          no_call_fault fields words (a ∷ b ∷ d ∷ []) w.arguments_of-read-in-len3.result c.in-Err.error c.in-Bad.field-0
          (sym w.read-is ∙ c.in-Err.is) c.in-Bad.is w.arguments_of-read-in-len3.ensures.bad c.requires
          (three_words given w.first-item-then-words-lt4.result w.second-item-then-words-lt4.result w.third-item.result a b d long
          w.first-item-then-words-lt4.is w.second-item-then-words-lt4.is w.third-item.is
          w.as_bytes-in-len3.ensures.value w.as_bytes-in-len3-2.ensures.value w.as_bytes-in-len3-3.ensures.value))
    ]
