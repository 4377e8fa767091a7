use Rattle.std.proofs.Common.{◌≡◌, ◌∙◌, ◌+◌, ◌<◌, ◌++◌, ◌∷◌, [], ℕ, List, length, map, take, get_or, sym, ap, String, Global}
use Rattle.std.specs.String.{string_bytes}
use Rattle.std.proofs.lemmas.List.{map-append, take_more}
use Rattle.pg_net.proofs.started.copied.Goals as goal

copied_more : (words copy pushed : List (String Global)) (i : ℕ) (word new : String Global) → i < length words → word ≡ get_or words i word
    → map string_bytes copy ≡ map string_bytes (take i words) → string_bytes new ≡ string_bytes word → pushed ≡ copy ++ new ∷ []
    → map string_bytes pushed ≡ map string_bytes (take (i + 1) words)
copied_more words copy pushed i word new within is so_far same push =
    let more : take (i + 1) words ≡ take i words ++ word ∷ [] = take_more words i word within ∙ ap (λ (w : String Global). take i words ++ w ∷ []) (sym is) in
    ap (map string_bytes) push ∙ map-append string_bytes copy (new ∷ []) ∙ ap (λ (l : List (List ℕ)). l ++ string_bytes new ∷ []) so_far
    ∙ ap (λ (b : List ℕ). map string_bytes (take i words) ++ b ∷ []) same
    ∙ sym (ap (map string_bytes) more ∙ map-append string_bytes (take i words) (word ∷ []))

pub loop-word-preserved : goal.loop-word-preserved
loop-word-preserved c =
    copied_more c.args.words.now c.loop-word.copy.items c.push.new.self.items c.loop-word.word-index c.word-item.result c.in_ok-from_str.field-0
    c.loop-word-test.true c.word-item.is c.loop-word.invariant (c.in_ok-from_str.ensures.ok ∙ c.as_str.ensures.value) c.in_ok-push.ensures.items
