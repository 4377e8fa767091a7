-- The words of rows and of what is told of a replica, as they stand in a slice.
use Rattle.std.proofs.Common.{ℕ, ◌≡◌, ◌<◌, ◌≤◌, ◌-◌, Bor, List, [], ◌∷◌, codes, drop, get_or, length, map, sym, ap, ◌∙◌, arith, take, zero, suc}
use Rattle.std.proofs.lemmas.List.{length-map, take_all}
use Rattle.std.specs.List.{AllByRecursion}
use Rattle.pg_base.specs.Id.{spelling}
use Rattle.pg_call.specs.Reply.{IsRow, row_word, stat_words}
use Rattle.pg_journal_lines.specs.Told.{tally_words}
use Rattle.pg_call.specs.declared.reply.Stat.{Stat}
use Rattle.pg_path.specs.declared.row.Row.{Row}
use Rattle.pg_words.proofs.ListWords.{texts}
use Rattle.pg_words.proofs.Splitting.{behind}
use Rattle.pg_words.proofs.WordIndexes.{at}
use Rattle.pg_words.specs.ChoiceWord.{gold_word}
use Rattle.pg_words.specs.PlaceWords.{place_words}

-- rows are as many as their words
pub row_count : (v : List Row) (ws : List (Bor (List ℕ))) → texts ws ≡ map row_word v → length ws ≡ length v
row_count v ws e = sym (length-map ws (λ (w : Bor (List ℕ)). w.now)) ∙ ap length e ∙ length-map v row_word

-- where one word is no row's, the words are no rows'
pub no_rows : (ws : List (Bor (List ℕ))) (i : ℕ) (d : Bor (List ℕ)) → i < length ws → ((r : Row) → IsRow r → (get_or ws i d).now ≡ row_word r → ⊥) → (v : List Row) → AllByRecursion IsRow v → texts ws ≡ map row_word v → ⊥
no_rows [] i d more none v h e = omega arith
no_rows (w ∷ ws) i d more none [] h e = let n = ap length e in omega arith
no_rows (w ∷ ws) zero d more none (r ∷ v) h e = none r h.0 (cc)
no_rows (w ∷ ws) (suc i) d more none (r ∷ v) h e = no_rows ws i d (omega arith) none v h.1 (ap behind e)

-- six words, and those behind them
pub six : (ws : List (Bor (List ℕ))) (d : Bor (List ℕ)) → 6 ≤ length ws
    → texts ws ≡ at ws d 0 ∷ at ws d 1 ∷ at ws d 2 ∷ at ws d 3 ∷ at ws d 4 ∷ at ws d 5 ∷ texts (take (length ws - 6) (drop 6 ws))
six [] d h = absurd (omega arith)
six (xa ∷ []) d h = absurd (omega arith)
six (xa ∷ xb ∷ []) d h = absurd (omega arith)
six (xa ∷ xb ∷ xc ∷ []) d h = absurd (omega arith)
six (xa ∷ xb ∷ xc ∷ xd ∷ []) d h = absurd (omega arith)
six (xa ∷ xb ∷ xc ∷ xd ∷ xe ∷ []) d h = absurd (omega arith)
six (xa ∷ xb ∷ xc ∷ xd ∷ xe ∷ xf ∷ more) d h =
    ap (λ ws. xa.now ∷ xb.now ∷ xc.now ∷ xd.now ∷ xe.now ∷ xf.now ∷ texts ws) (sym (take_all (length (xa ∷ xb ∷ xc ∷ xd ∷ xe ∷ xf ∷ more) - 6) more (omega arith)))

pub stat_spelled : (ws : List (List ℕ)) (id stamp parent name life gold : List ℕ) (tally : List (List ℕ)) (s : Stat) → ws ≡ id ∷ stamp ∷ parent ∷ name ∷ life ∷ gold ∷ tally
    → id ≡ spelling s.id → stamp ∷ parent ∷ name ∷ life ∷ [] ≡ place_words s.place → gold ≡ gold_word s.gold → tally ≡ tally_words s.golds s.heads s.length s.edges → codes "stat" ∷ ws ≡ stat_words s
stat_spelled ws id stamp parent name life gold tally s e ei ep eg et = cc

-- the words behind six
pub behind_six : (a b c d e f : List ℕ) (ws tally : List (List ℕ)) (s : Stat) → codes "stat" ∷ ws ≡ stat_words s → ws ≡ a ∷ b ∷ c ∷ d ∷ e ∷ f ∷ tally → tally ≡ tally_words s.golds s.heads s.length s.edges
behind_six a b c d e f ws tally s h p =
    let six_off : List (List ℕ) → List (List ℕ) = λ xs. behind (behind (behind (behind (behind (behind xs))))) in
    ap six_off (sym p ∙ ap behind h)
