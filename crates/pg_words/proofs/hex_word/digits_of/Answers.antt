use Rattle.std.proofs.Common.{◌≡◌}
use Rattle.std.proofs.lemmas.Str.{IsUtf8-from_ascii}
use Rattle.hex.specs.Hex.{encode_lower}
use Rattle.pg_words.proofs.HexWords.{IsAscii-encode}
use Rattle.pg_words.proofs.hex_word.digits_of.Goals as goal

pub unreachable-requires-in_default-from_utf8 : goal.unreachable-requires-in_default-from_utf8
unreachable-requires-in_default-from_utf8 c =
    let written : c.encode_to_slice.new.output ≡ encode_lower c.args.bytes.now = c.in-Ok.ensures.written in
    c.in_default-from_utf8.ensures.cases.0 (rw written (IsUtf8-from_ascii (encode_lower c.args.bytes.now) (IsAscii-encode c.args.bytes.now)))
