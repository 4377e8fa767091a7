-- Refusals as words: their number, their name and their values, and no two with the same words.
use Rattle.std.proofs.Common.{ℕ, ◌≡◌, ◌<◌, ◌≤◌, ◌^◌, Bor, List, ◌∷◌, length, refl, sym, ap, ◌∙◌, arith, cond, ◌==◌, codes, decimal, subst}
use Rattle.std.proofs.lemmas.Fmt.{decimal_injective}
use Rattle.pg_base.proofs.Spellings.{spelling-same}
use Rattle.pg_base.specs.declared.id.FileId.{FileId}
use Rattle.pg_base.specs.declared.stamp.Stamp.{Stamp}
use Rattle.pg_call.proofs.CallTable.{byte_at}
use Rattle.pg_journal_lines.specs.Reason.{AreValues, reason_name, reason_number, reason_of, value_words}
use Rattle.pg_call.specs.Refusal.{IsRefusal, refusal_words, unsettled_word}
use Rattle.pg_call.specs.pg_intent.Kind.{intent_word}
use Rattle.pg_call.specs.pg_intent.declared.kind.IntentKind.{IntentKind}
use Rattle.pg_call.specs.pg_intent.declared.kind.IntentKind.TheVariants as intent
use Rattle.pg_call.specs.declared.refusal.RefusalKind.{RefusalKind}
use Rattle.pg_call.specs.declared.refusal.RefusalKind.TheVariants as reason
use Rattle.pg_call.specs.declared.refusal.Refusal.{Refusal}
use Rattle.pg_call.specs.declared.refusal.Refusal.TheVariants as refusal
use Rattle.pg_call.specs.declared.refusal.Unsettled.{Unsettled}
use Rattle.pg_call.specs.declared.refusal.Unsettled.TheVariants as unsettled
use Rattle.pg_words.proofs.ListWords.{texts}
use Rattle.pg_words.proofs.Splitting.{behind, word_at}
use Rattle.pg_words.proofs.Stamps.{same_server, same_stamp}
use Rattle.pg_words.proofs.WordIndexes.{at, at_index}

-- a refusal's words are its reason's, and its values'
pub refusal_parts : (r : Refusal) → refusal_words r ≡ codes "refused" ∷ reason_number (reason_of r) ∷ reason_name (reason_of r) ∷ value_words r
refusal_parts (refusal.BadPath n) = refl
refusal_parts refusal.ClockEnd = refl
refusal_parts (refusal.NotYet f) = refl
refusal_parts (refusal.NoName n) = refl
refusal_parts (refusal.NotDir n) = refl
refusal_parts refusal.IsDir = refl
refusal_parts refusal.Root = refl
refusal_parts (refusal.Exists f) = refl
refusal_parts refusal.DirFull = refl
refusal_parts (refusal.NotEmpty f) = refl
refusal_parts refusal.Loop = refl
refusal_parts refusal.TooLong = refl
refusal_parts (refusal.Behind s) = refl
refusal_parts refusal.IsGold = refl
refusal_parts refusal.LastGold = refl
refusal_parts (refusal.HasChild f) = refl
refusal_parts (refusal.Unsettled w f p) = refl
refusal_parts refusal.Held = refl
refusal_parts (refusal.WrongView v) = refl
refusal_parts refusal.ManyActors = refl

values_again : (r : Refusal) → IsRefusal r → AreValues (reason_of r) (value_words r)
values_again (refusal.BadPath n) h = (n, h, refl)
values_again refusal.ClockEnd h = refl
values_again (refusal.NotYet f) h = (f, h, refl)
values_again (refusal.NoName n) h = (n, h, refl)
values_again (refusal.NotDir n) h = (n, h, refl)
values_again refusal.IsDir h = refl
values_again refusal.Root h = refl
values_again (refusal.Exists f) h = (f, h, refl)
values_again refusal.DirFull h = refl
values_again (refusal.NotEmpty f) h = (f, h, refl)
values_again refusal.Loop h = refl
values_again refusal.TooLong h = refl
values_again (refusal.Behind s) h = (s, h, refl)
values_again refusal.IsGold h = refl
values_again refusal.LastGold h = refl
values_again (refusal.HasChild f) h = (f, h, refl)
values_again (refusal.Unsettled w f p) h = (w, f, p, h.0, h.1, refl)
values_again refusal.Held h = refl
values_again (refusal.WrongView v) h = (v, h, refl)
values_again refusal.ManyActors h = refl

-- the reason of a number, by its digits
abbrev reason_from : List ℕ → RefusalKind
reason_from word =
    cond (byte_at 1 word == 0)
    (cond (byte_at 0 word == 49) reason.BadPath
    (cond (byte_at 0 word == 50) reason.ClockEnd
    (cond (byte_at 0 word == 51) reason.NotYet
    (cond (byte_at 0 word == 52) reason.NoName
    (cond (byte_at 0 word == 53) reason.NotDir
    (cond (byte_at 0 word == 54) reason.IsDir
    (cond (byte_at 0 word == 55) reason.Root
    (cond (byte_at 0 word == 56) reason.Exists
    reason.DirFull))))))))
    (cond (byte_at 0 word == 50) reason.ManyActors
    (cond (byte_at 1 word == 48) reason.NotEmpty
    (cond (byte_at 1 word == 49) reason.Loop
    (cond (byte_at 1 word == 50) reason.TooLong
    (cond (byte_at 1 word == 51) reason.Behind
    (cond (byte_at 1 word == 52) reason.IsGold
    (cond (byte_at 1 word == 53) reason.LastGold
    (cond (byte_at 1 word == 54) reason.HasChild
    (cond (byte_at 1 word == 55) reason.Unsettled
    (cond (byte_at 1 word == 56) reason.Held
    reason.WrongView))))))))))

reason_again : (k : RefusalKind) → reason_from (reason_number k) ≡ k
reason_again reason.BadPath = refl
reason_again reason.ClockEnd = refl
reason_again reason.NotYet = refl
reason_again reason.NoName = refl
reason_again reason.NotDir = refl
reason_again reason.IsDir = refl
reason_again reason.Root = refl
reason_again reason.Exists = refl
reason_again reason.DirFull = refl
reason_again reason.NotEmpty = refl
reason_again reason.Loop = refl
reason_again reason.TooLong = refl
reason_again reason.Behind = refl
reason_again reason.IsGold = refl
reason_again reason.LastGold = refl
reason_again reason.HasChild = refl
reason_again reason.Unsettled = refl
reason_again reason.Held = refl
reason_again reason.WrongView = refl
reason_again reason.ManyActors = refl

-- no two reasons have one number
same_reason : (a b : RefusalKind) → reason_number a ≡ reason_number b → a ≡ b
same_reason a b e = sym (reason_again a) ∙ ap reason_from e ∙ reason_again b

-- words that are a refusal's are its reason's and values'
pub of_reason : (k : RefusalKind) (words : List (List ℕ)) (r : Refusal) → IsRefusal r → codes "refused" ∷ reason_number k ∷ reason_name k ∷ words ≡ refusal_words r → AreValues k words
of_reason k words r h e =
    let parts = e ∙ refusal_parts r in
    let same : reason_of r ≡ k = sym (same_reason k (reason_of r) (ap (word_at 1) parts)) in
    let values : value_words r ≡ words = sym (ap (λ ws. behind (behind (behind ws))) parts) in
    let P : RefusalKind → Type 0 = λ x. AreValues x words in
    let Q : List (List ℕ) → Type 0 = λ ws. AreValues (reason_of r) ws in
    subst P same (subst Q values (values_again r h))

-- words whose number and name are no reason's are no refusal's
pub no_reason : (ws : List (Bor (List ℕ))) (d : Bor (List ℕ)) → 2 ≤ length ws → ((k : RefusalKind) → at ws d 0 ≡ reason_number k → at ws d 1 ≡ reason_name k → ⊥) → (r : Refusal) → codes "refused" ∷ texts ws ≡ refusal_words r → ⊥
no_reason ws d two none r e =
    let rest = ap behind (e ∙ refusal_parts r) in
    none (reason_of r) (at_index ws d 0 _ (omega arith) rest) (at_index ws d 1 _ (omega arith) rest)

abbrev intent_from : List ℕ → IntentKind
intent_from word =
    cond (byte_at 0 word == 66) intent.Bye (cond (byte_at 0 word == 83) intent.Seek (cond (byte_at 0 word == 70) intent.Fill
    (cond (byte_at 0 word == 80) intent.Patch (cond (byte_at 0 word == 67) intent.Confirm intent.Leave))))

intent_again : (k : IntentKind) → intent_from (intent_word k) ≡ k
intent_again intent.Bye = refl
intent_again intent.Seek = refl
intent_again intent.Fill = refl
intent_again intent.Patch = refl
intent_again intent.Confirm = refl
intent_again intent.Leave = refl

pub same_intent : (a b : IntentKind) → intent_word a ≡ intent_word b → a ≡ b
same_intent a b e = sym (intent_again a) ∙ ap intent_from e ∙ intent_again b

abbrev unsettled_from : List ℕ → Unsettled
unsettled_from word =
    cond (byte_at 0 word == 67) (cond (byte_at 1 word == 101) unsettled.Cell (unsettled.Intent intent.Confirm)) (unsettled.Intent (intent_from word))

unsettled_again : (u : Unsettled) → unsettled_from (unsettled_word u) ≡ u
unsettled_again (unsettled.Intent intent.Bye) = refl
unsettled_again (unsettled.Intent intent.Seek) = refl
unsettled_again (unsettled.Intent intent.Fill) = refl
unsettled_again (unsettled.Intent intent.Patch) = refl
unsettled_again (unsettled.Intent intent.Confirm) = refl
unsettled_again (unsettled.Intent intent.Leave) = refl
unsettled_again unsettled.Cell = refl

pub same_unsettled : (a b : Unsettled) → unsettled_word a ≡ unsettled_word b → a ≡ b
same_unsettled a b e = sym (unsettled_again a) ∙ ap unsettled_from e ∙ unsettled_again b

-- the refusal is one for the reason
abbrev Shape : RefusalKind → Refusal → Type 0
Shape reason.BadPath r = (n : ℕ) × (r ≡ refusal.BadPath n)
Shape reason.ClockEnd r = r ≡ refusal.ClockEnd
Shape reason.NotYet r = (f : FileId) × (r ≡ refusal.NotYet f)
Shape reason.NoName r = (n : ℕ) × (r ≡ refusal.NoName n)
Shape reason.NotDir r = (n : ℕ) × (r ≡ refusal.NotDir n)
Shape reason.IsDir r = r ≡ refusal.IsDir
Shape reason.Root r = r ≡ refusal.Root
Shape reason.Exists r = (f : FileId) × (r ≡ refusal.Exists f)
Shape reason.DirFull r = r ≡ refusal.DirFull
Shape reason.NotEmpty r = (f : FileId) × (r ≡ refusal.NotEmpty f)
Shape reason.Loop r = r ≡ refusal.Loop
Shape reason.TooLong r = r ≡ refusal.TooLong
Shape reason.Behind r = (s : Stamp) × (r ≡ refusal.Behind s)
Shape reason.IsGold r = r ≡ refusal.IsGold
Shape reason.LastGold r = r ≡ refusal.LastGold
Shape reason.HasChild r = (f : FileId) × (r ≡ refusal.HasChild f)
Shape reason.Unsettled r = (w : Unsettled) × (f : FileId) × (p : ℕ) × (r ≡ refusal.Unsettled w f p)
Shape reason.Held r = r ≡ refusal.Held
Shape reason.WrongView r = (v : ℕ) × (r ≡ refusal.WrongView v)
Shape reason.ManyActors r = r ≡ refusal.ManyActors

shape : (r : Refusal) → Shape (reason_of r) r
shape (refusal.BadPath n) = (n, refl)
shape refusal.ClockEnd = refl
shape (refusal.NotYet f) = (f, refl)
shape (refusal.NoName n) = (n, refl)
shape (refusal.NotDir n) = (n, refl)
shape refusal.IsDir = refl
shape refusal.Root = refl
shape (refusal.Exists f) = (f, refl)
shape refusal.DirFull = refl
shape (refusal.NotEmpty f) = (f, refl)
shape refusal.Loop = refl
shape refusal.TooLong = refl
shape (refusal.Behind s) = (s, refl)
shape refusal.IsGold = refl
shape refusal.LastGold = refl
shape (refusal.HasChild f) = (f, refl)
shape (refusal.Unsettled w f p) = (w, f, p, refl)
shape refusal.Held = refl
shape (refusal.WrongView v) = (v, refl)
shape refusal.ManyActors = refl

-- what is to be shown of a refusal of the same words
abbrev Same : Refusal → Refusal → Type 0
Same x y = IsRefusal x → IsRefusal y → refusal_words x ≡ refusal_words y → x ≡ y

same_shape : (x y : Refusal) → refusal_words x ≡ refusal_words y → Shape (reason_of x) y
same_shape x y e =
    let parts = sym (refusal_parts x) ∙ e ∙ refusal_parts y in
    let same : reason_of y ≡ reason_of x = sym (same_reason (reason_of x) (reason_of y) (ap (word_at 1) parts)) in
    let P : RefusalKind → Type 0 = λ k. Shape k y in subst P same (shape y)

same_small : (n m : ℕ) → n < 2 ^ 8 → m < 2 ^ 8 → decimal n ≡ decimal m → n ≡ m
same_small n m hn hm e = decimal_injective n m (omega arith) (omega arith) e

same_settling : (w u : Unsettled) (f g : FileId) (p q : ℕ) → Same (refusal.Unsettled w f p) (refusal.Unsettled u g q)
same_settling w u f g p q hx hy e =
    let what : w ≡ u = same_unsettled w u (ap (word_at 3) e) in
    let id : f ≡ g = spelling-same f g hx.0 hy.0 (ap (word_at 4) e) in
    let peer : p ≡ q = same_server p q hx.1 hy.1 (ap (word_at 5) e) in
    cc

same_as : (x y z : Refusal) → y ≡ z → Same x z → Same x y
same_as x y z e h = let P : Refusal → Type 0 = Same x in subst P (sym e) h

same_words : (x y : Refusal) → Shape (reason_of x) y → Same x y
same_words (refusal.BadPath n) y h = same_as _ y _ h.1 (λ hx hy e. ap refusal.BadPath (same_small n h.0 hx hy (ap (word_at 3) e)))
same_words refusal.ClockEnd y h = λ hx hy e. sym h
same_words (refusal.NotYet f) y h = same_as _ y _ h.1 (λ hx hy e. ap refusal.NotYet (spelling-same f h.0 hx hy (ap (word_at 3) e)))
same_words (refusal.NoName n) y h = same_as _ y _ h.1 (λ hx hy e. ap refusal.NoName (same_small n h.0 hx hy (ap (word_at 3) e)))
same_words (refusal.NotDir n) y h = same_as _ y _ h.1 (λ hx hy e. ap refusal.NotDir (same_small n h.0 hx hy (ap (word_at 3) e)))
same_words refusal.IsDir y h = λ hx hy e. sym h
same_words refusal.Root y h = λ hx hy e. sym h
same_words (refusal.Exists f) y h = same_as _ y _ h.1 (λ hx hy e. ap refusal.Exists (spelling-same f h.0 hx hy (ap (word_at 3) e)))
same_words refusal.DirFull y h = λ hx hy e. sym h
same_words (refusal.NotEmpty f) y h = same_as _ y _ h.1 (λ hx hy e. ap refusal.NotEmpty (spelling-same f h.0 hx hy (ap (word_at 3) e)))
same_words refusal.Loop y h = λ hx hy e. sym h
same_words refusal.TooLong y h = λ hx hy e. sym h
same_words (refusal.Behind s) y h = same_as _ y _ h.1 (λ hx hy e. ap refusal.Behind (same_stamp s h.0 hx hy (ap (word_at 3) e)))
same_words refusal.IsGold y h = λ hx hy e. sym h
same_words refusal.LastGold y h = λ hx hy e. sym h
same_words (refusal.HasChild f) y h = same_as _ y _ h.1 (λ hx hy e. ap refusal.HasChild (spelling-same f h.0 hx hy (ap (word_at 3) e)))
same_words (refusal.Unsettled w f p) y h = same_as _ y _ h.3 (same_settling w h.0 f h.1 p h.2)
same_words refusal.Held y h = λ hx hy e. sym h
same_words (refusal.WrongView v) y h = same_as _ y _ h.1 (λ hx hy e. ap refusal.WrongView (decimal_injective v h.0 hx hy (ap (word_at 3) e)))
same_words refusal.ManyActors y h = λ hx hy e. sym h

pub one_refusal : (x y : Refusal) → IsRefusal x → IsRefusal y → refusal_words x ≡ refusal_words y → x ≡ y
one_refusal x y hx hy e = same_words x y (same_shape x y e) hx hy e
