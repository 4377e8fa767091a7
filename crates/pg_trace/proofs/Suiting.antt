-- Lists of what is written, one by one.
use Rattle.std.proofs.Common.{ℕ, ◌≡◌, ◌+◌, ◌<◌, List, [], ◌∷◌, ◌++◌, length, get_or, map, take, subst, sym, ap, ◌∙◌}
use Rattle.std.specs.List.{AllByRecursion, flat_map}
use Rattle.std.proofs.lemmas.List.{map_more, flat_map_more}
use Rattle.std.proofs.lemmas.List.Elements.{All-from_recursion, All-more, recursion_from_All}
use Rattle.pg_msg.specs.declared.message.Sent.{Sent}
use Rattle.pg_msg.specs.declared.update.Update.{Update}
use Rattle.pg_msg.specs.Sent.{summary}
use Rattle.pg_sched.specs.declared.line.Form.{Form}
use Rattle.pg_trace.specs.declared.journal_line.JournalLine.{JournalLine}
use Rattle.pg_trace.specs.JournalLine.{ArePrinted}
use Rattle.pg_trace.specs.Suited.{SuitsKind, SuitsUpdate}
use Rattle.pg_trace.specs.Text.{done_lines}

-- what each has where it suits, all have where all suit
pub all_suit : {A : Type 0} (P Q : A → Type 0) (xs : List A) → AllByRecursion (λ x. P x → Q x) xs
    → AllByRecursion P xs → AllByRecursion Q xs
all_suit P Q [] h k = tt
all_suit P Q (x ∷ xs) h k = (h.0 k.0, all_suit P Q xs h.1 k.1)

-- what holds of the first ones and of the next one
pub one_fits : {A : Type 0} (P : A → Type 0) (xs : List A) (i : ℕ) (x : A) → i < length xs
    → x ≡ get_or xs i x → AllByRecursion P (take i xs) → P x → AllByRecursion P (take (i + 1) xs)
one_fits P xs i x more is h p =
    recursion_from_All P (take (i + 1) xs)
    (All-more P xs i x more (All-from_recursion P (take i xs) h) (subst P is p))

-- behind the texts of the first ones stands that of the next one
pub one_more : {A : Type 0} (text : JournalLine → List ℕ) (line : A → JournalLine) (start at new : List ℕ)
    (xs : List A) (i : ℕ) (x : A) → i < length xs → x ≡ get_or xs i x
    → at ≡ start ++ flat_map text (map line (take i xs)) → new ≡ at ++ text (line x)
    → new ≡ start ++ flat_map text (map line (take (i + 1) xs))
one_more text line start at new xs i x more is so_far written =
    written
    ∙ ap (λ t. t ++ text (line x)) so_far
    ∙ flat_map_more text start (map line (take i xs)) (line x)
    ∙ ap (λ v. start ++ flat_map text (map line (take i xs) ++ line v ∷ [])) is
    ∙ ap (λ ls. start ++ flat_map text ls) (sym (map_more line xs i x more))

-- the same lists under other names
pub done_there : (form : Form) (us made : List Update) (ms sent : List Sent) → us ≡ made → ms ≡ sent
    → (AllByRecursion SuitsUpdate us → AllByRecursion (λ m. SuitsKind (summary m)) ms
    → ArePrinted (done_lines form us ms))
    → AllByRecursion SuitsUpdate made → AllByRecursion (λ m. SuitsKind (summary m)) sent
    → ArePrinted (done_lines form made sent)
done_there form us made ms sent e f =
    let P : List Update → List Sent → Type 0 = (λ xs ys. AllByRecursion SuitsUpdate xs
    → AllByRecursion (λ m. SuitsKind (summary m)) ys → ArePrinted (done_lines form xs ys)) in
    let R : List Sent → Type 0 = (λ ys. P us ms → P us ys) in
    let S : List Update → Type 0 = (λ xs. P us ms → P xs sent) in
    subst S e (subst R f (λ h. h))
