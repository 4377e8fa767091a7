-- Replies as words: their kind, what stands behind its word, and no two with the same words.
use Rattle.std.proofs.Common.{rules, ℕ, ◌≡◌, ◌≢◌, ◌++◌, Bool, List, [], ◌∷◌, All, refl, sym, ap, ◌∙◌, arith, cond, ◌==◌, codes, decimal, length, map, subst}
use Rattle.std.specs.List.{AllByRecursion}
use Rattle.std.proofs.lemmas.Fmt.{decimal_injective}
use Rattle.std.proofs.lemmas.List.Elements.{All-append, All-cons}
use Rattle.pg_base.proofs.Parts.{decimal-without, not_cut}
use Rattle.pg_base.proofs.Spellings.{spelling-same}
use Rattle.pg_base.specs.Id as id
use Rattle.pg_base.specs.Id.{Fits, spelling}
use Rattle.pg_base.specs.declared.id.FileId.{FileId}
use Rattle.pg_base.specs.declared.id.Kind.{Kind}
use Rattle.pg_base.specs.declared.id.Kind.TheVariants.{Dir, File}
use Rattle.pg_base.specs.declared.stamp.Stamp.{Stamp}
use Rattle.pg_call.proofs.CallTable.{byte_at}
use Rattle.pg_journal_lines.proofs.RefusalSpelling.{one_refusal, refusal_parts}
use Rattle.pg_call.specs.Refusal.{refusal_words}
use Rattle.pg_call.specs.Reply.{IsCounts, IsReply, IsRow, IsStat, counts_words, reply_words, row_word, stat_words}
use Rattle.pg_journal_lines.specs.Told.{IsTold, head_word, reply_kind}
use Rattle.pg_call.specs.declared.refusal.Refusal.{Refusal}
use Rattle.pg_call.specs.declared.reply.Counts.{Counts}
use Rattle.pg_call.specs.declared.reply.Reply.{Reply}
use Rattle.pg_call.specs.declared.reply.Reply.TheVariants as reply
use Rattle.pg_call.specs.declared.reply.Stat.{Stat}
use Rattle.pg_call.specs.declared.reply.ReplyKind.{ReplyKind}
use Rattle.pg_call.specs.declared.reply.ReplyKind.TheVariants as kind
use Rattle.pg_path.specs.declared.row.Row.{Row}
use Rattle.pg_register.specs.declared.place.Place.{Place}
use Rattle.pg_words.proofs.HexWords.{one_hex_word}
use Rattle.pg_words.proofs.Places.{same_place}
use Rattle.pg_words.proofs.Splitting.{behind, word_at}
use Rattle.pg_words.proofs.Stamps.{same_server, same_stamp}
use Rattle.pg_words.specs.ChoiceWord.{gold_word}

refused_head : (r : Refusal) → word_at 0 (refusal_words r) ≡ codes "refused"
refused_head r = ap (word_at 0) (refusal_parts r)

first_is : (r : Reply) → word_at 0 (reply_words r) ≡ head_word (reply_kind r)
first_is reply.Done = refl
first_is (reply.Made f) = refl
first_is (reply.Wrote s) = refl
first_is (reply.Bytes b) = refl
first_is (reply.Names n rows) = refl
first_is (reply.Stat s) = refl
first_is (reply.Leaving s) = refl
first_is (reply.Status c) = refl
first_is (reply.Refused r) = refused_head r

-- the kind of a word, by its first byte; `stat` and `status` part at the fifth
abbrev kind_from : List ℕ → ReplyKind
kind_from word =
    cond (byte_at 0 word == 100) kind.Done (cond (byte_at 0 word == 109) kind.Made (cond (byte_at 0 word == 119) kind.Wrote
    (cond (byte_at 0 word == 98) kind.Bytes (cond (byte_at 0 word == 110) kind.Names (cond (byte_at 0 word == 108) kind.Leaving
    (cond (byte_at 0 word == 114) kind.Refused (cond (byte_at 4 word == 117) kind.Status kind.Stat)))))))

kind_again : (k : ReplyKind) → kind_from (head_word k) ≡ k
kind_again kind.Done = refl
kind_again kind.Made = refl
kind_again kind.Wrote = refl
kind_again kind.Bytes = refl
kind_again kind.Names = refl
kind_again kind.Stat = refl
kind_again kind.Leaving = refl
kind_again kind.Status = refl
kind_again kind.Refused = refl

same_kind : (a b : ReplyKind) → head_word a ≡ head_word b → a ≡ b
same_kind a b e = sym (kind_again a) ∙ ap kind_from e ∙ kind_again b

told_of : (r : Reply) (words : List (List ℕ)) → IsReply r → head_word (reply_kind r) ∷ words ≡ reply_words r → IsTold (reply_kind r) words
told_of reply.Done words h e = ap behind e
told_of (reply.Made f) words h e = (f, h, ap behind e)
told_of (reply.Wrote s) words h e = (s, h, ap behind e)
told_of (reply.Bytes b) words h e = (b, h, ap behind e)
told_of (reply.Names n rows) words h e = (n, rows, h.0, h.1, h.2, ap behind e)
told_of (reply.Stat s) words h e = (s, h, e)
told_of (reply.Leaving s) words h e = (s, h, ap behind e)
told_of (reply.Status c) words h e = (c, h, e)
told_of (reply.Refused r) words h e = (r, h, e)

-- words that are a reply's are those of its kind
pub of_kind : (k : ReplyKind) (words : List (List ℕ)) (r : Reply) → IsReply r → head_word k ∷ words ≡ reply_words r → IsTold k words
of_kind k words r h e =
    let same : reply_kind r ≡ k = sym (same_kind k (reply_kind r) (ap (word_at 0) e ∙ first_is r)) in
    let P : ReplyKind → Type 0 = λ x. head_word x ∷ words ≡ reply_words r → IsTold x words in
    subst P same (told_of r words h) e

pub no_kind : (word : List ℕ) (words : List (List ℕ)) → ((k : ReplyKind) → word ≢ head_word k) → (r : Reply) → word ∷ words ≡ reply_words r → ⊥
no_kind word words none r e = none (reply_kind r) (ap (word_at 0) e ∙ first_is r)

-- ---- rows

abbrev LacksEquals : List ℕ → Type 0
LacksEquals word = All (λ b. b ≢ 61) word

letter_other : (k : Kind) → id.letter k ≢ 61
letter_other Dir e = let n : ◌≡◌ {A = ℕ} 100 61 = e in omega arith
letter_other File e = let n : ◌≡◌ {A = ℕ} 102 61 = e in omega arith

pub id_lacks : (f : FileId) → Fits f → LacksEquals (spelling f)
id_lacks f fits =
    let s = fits.server in
    All-cons (λ b. b ≢ 61) (id.letter f.kind) _ (letter_other f.kind)
    (All-append (λ b. b ≢ 61) (decimal f.server) (46 ∷ decimal f.number) (decimal-without 61 f.server (λ r. omega arith) (omega arith))
    (All-cons (λ b. b ≢ 61) 46 (decimal f.number) (λ e. omega arith) (decimal-without 61 f.number (λ r. omega arith) fits.number)))

abbrev tail_of : List ℕ → List ℕ
tail_of [] = []
tail_of (x ∷ xs) = xs

-- a text is cut at its last such byte in one way
pub cut_last_same : (c : ℕ) (a b x y : List ℕ) → All (λ z. z ≢ c) b → All (λ z. z ≢ c) y → a ++ c ∷ b ≡ x ++ c ∷ y → (a ≡ x) × (b ≡ y)
cut_last_same c [] b [] y hb hy e = (refl, ap tail_of e)
cut_last_same c [] b (z ∷ x) y hb hy e = absurd (not_cut c b x y hb (ap tail_of e))
cut_last_same c (w ∷ a) b [] y hb hy e = absurd (not_cut c y a b hy (sym (ap tail_of e)))
cut_last_same c (w ∷ a) b (z ∷ x) y hb hy e =
    let rest = cut_last_same c a b x y hb hy (ap tail_of e) in
    let head : w ≡ z = ap (byte_at 0) e in
    let front : a ≡ x = rest.0 in
    (cc, rest.1)

-- the parts of a row's word
pub row_parts : (word name child : List ℕ) (r : Row) → IsRow r → LacksEquals child → word ≡ name ++ 61 ∷ child → word ≡ row_word r → (name ≡ r.name) × (child ≡ spelling r.child)
row_parts word name child r h lacks e f = cut_last_same 61 name child r.name (spelling r.child) lacks (id_lacks r.child h.child) (sym e ∙ f)

pub no_row : (word : List ℕ) (r : Row) → LacksEquals word → word ≡ row_word r → ⊥
no_row word r lacks e = not_cut 61 word r.name (spelling r.child) lacks e

row_of_parts : (n m : List ℕ) (f g : FileId) → n ≡ m → f ≡ g → ◌≡◌ {A = Row} (record { name = n; child = f }) (record { name = m; child = g })
row_of_parts n m f g en ef = cc

same_row : (a b : Row) → IsRow a → IsRow b → row_word a ≡ row_word b → a ≡ b
same_row a b ha hb e =
    let parts = row_parts (row_word a) a.name (spelling a.child) b hb (id_lacks a.child ha.child) refl e in
    row_of_parts a.name b.name a.child b.child parts.0 (spelling-same a.child b.child ha.child hb.child parts.1)

pub same_rows : (xs ys : List Row) → AllByRecursion IsRow xs → AllByRecursion IsRow ys → map row_word xs ≡ map row_word ys → xs ≡ ys
same_rows [] [] hx hy e = refl
same_rows [] (y ∷ ys) hx hy e = absurd (let n = ap length e in omega arith)
same_rows (x ∷ xs) [] hx hy e = absurd (let n = ap length e in omega arith)
same_rows (x ∷ xs) (y ∷ ys) hx hy e =
    let first : x ≡ y = same_row x y hx.0 hy.0 (ap (word_at 0) e) in
    let more : xs ≡ ys = same_rows xs ys hx.1 hy.1 (ap behind e) in
    cc

-- ---- what replies tell

abbrev four : List (List ℕ) → List (List ℕ)
four ws = word_at 2 ws ∷ word_at 3 ws ∷ word_at 4 ws ∷ word_at 5 ws ∷ []

pub same_gold : (a b : Bool) → gold_word a ≡ gold_word b → a ≡ b
same_gold = search rules

stat_of_parts : (f g : FileId) (p q : Place) (a b : Bool) (i j k l m n o t : ℕ) → f ≡ g → p ≡ q → a ≡ b → i ≡ j → k ≡ l → m ≡ n → o ≡ t
    → ◌≡◌ {A = Stat} (record { id = f; place = p; gold = a; golds = i; heads = k; length = m; edges = o }) (record { id = g; place = q; gold = b; golds = j; heads = l; length = n; edges = t })
stat_of_parts f g p q a b i j k l m n o t ef ep ea ei ek em eo = cc

same_stat : (a b : Stat) → IsStat a → IsStat b → stat_words a ≡ stat_words b → a ≡ b
same_stat a b ha hb e = stat_of_parts a.id b.id a.place b.place a.gold b.gold a.golds b.golds a.heads b.heads a.length b.length a.edges b.edges
    (spelling-same a.id b.id ha.id hb.id (ap (word_at 1) e))
    (same_place a.place b.place ha.place hb.place (ap four e))
    (same_gold a.gold b.gold (ap (word_at 6) e))
    (decimal_injective a.golds b.golds ha.golds hb.golds (ap (word_at 8) e))
    (decimal_injective a.heads b.heads ha.heads hb.heads (ap (word_at 10) e))
    (decimal_injective a.length b.length ha.count hb.count (ap (word_at 12) e))
    (decimal_injective a.edges b.edges ha.edges hb.edges (ap (word_at 14) e))

counts_of_parts : (v w l m r s i j c d h k : ℕ) → v ≡ w → l ≡ m → r ≡ s → i ≡ j → c ≡ d → h ≡ k
    → ◌≡◌ {A = Counts} (record { view = v; last = l; replicas = r; intents = i; cells = c; held = h }) (record { view = w; last = m; replicas = s; intents = j; cells = d; held = k })
counts_of_parts v w l m r s i j c d h k ev el er ei ec eh = cc

same_counts : (a b : Counts) → IsCounts a → IsCounts b → counts_words a ≡ counts_words b → a ≡ b
same_counts a b ha hb e = counts_of_parts a.view b.view a.last b.last a.replicas b.replicas a.intents b.intents a.cells b.cells a.held b.held
    (decimal_injective a.view b.view ha.view hb.view (ap (word_at 2) e))
    (decimal_injective a.last b.last ha.last hb.last (ap (word_at 4) e))
    (decimal_injective a.replicas b.replicas ha.replicas hb.replicas (ap (word_at 6) e))
    (decimal_injective a.intents b.intents ha.intents hb.intents (ap (word_at 8) e))
    (decimal_injective a.cells b.cells ha.cells hb.cells (ap (word_at 10) e))
    (decimal_injective a.held b.held ha.held hb.held (ap (word_at 12) e))

-- the reply is one of the kind
abbrev Shape : ReplyKind → Reply → Type 0
Shape kind.Done r = r ≡ reply.Done
Shape kind.Made r = (f : FileId) × (r ≡ reply.Made f)
Shape kind.Wrote r = (s : Stamp) × (r ≡ reply.Wrote s)
Shape kind.Bytes r = (b : List ℕ) × (r ≡ reply.Bytes b)
Shape kind.Names r = (n : ℕ) × (rows : List Row) × (r ≡ reply.Names n rows)
Shape kind.Stat r = (s : Stat) × (r ≡ reply.Stat s)
Shape kind.Leaving r = (s : ℕ) × (r ≡ reply.Leaving s)
Shape kind.Status r = (c : Counts) × (r ≡ reply.Status c)
Shape kind.Refused r = (x : Refusal) × (r ≡ reply.Refused x)

shape : (r : Reply) → Shape (reply_kind r) r
shape reply.Done = refl
shape (reply.Made f) = (f, refl)
shape (reply.Wrote s) = (s, refl)
shape (reply.Bytes b) = (b, refl)
shape (reply.Names n rows) = (n, rows, refl)
shape (reply.Stat s) = (s, refl)
shape (reply.Leaving s) = (s, refl)
shape (reply.Status c) = (c, refl)
shape (reply.Refused x) = (x, refl)

-- what is to be shown of a reply of the same words
abbrev Same : Reply → Reply → Type 0
Same x y = IsReply x → IsReply y → reply_words x ≡ reply_words y → x ≡ y

same_shape : (x y : Reply) → reply_words x ≡ reply_words y → Shape (reply_kind x) y
same_shape x y e =
    let same : reply_kind y ≡ reply_kind x = same_kind (reply_kind y) (reply_kind x) (sym (first_is y) ∙ ap (word_at 0) (sym e) ∙ first_is x) in
    let P : ReplyKind → Type 0 = λ k. Shape k y in subst P same (shape y)

same_names : (n m : ℕ) (xs ys : List Row) → Same (reply.Names n xs) (reply.Names m ys)
same_names n m xs ys hx hy e =
    let total : n ≡ m = same_server n m hx.0 hy.0 (ap (word_at 1) e) in
    let rows : xs ≡ ys = same_rows xs ys hx.2 hy.2 (ap (λ ws. behind (behind ws)) e) in
    cc

same_as : (x y z : Reply) → y ≡ z → Same x z → Same x y
same_as x y z e h = let P : Reply → Type 0 = Same x in subst P (sym e) h

same_words : (x y : Reply) → Shape (reply_kind x) y → Same x y
same_words reply.Done y h = λ hx hy e. sym h
same_words (reply.Made f) y h = same_as _ y _ h.1 (λ hx hy e. ap reply.Made (spelling-same f h.0 hx hy (ap (word_at 1) e)))
same_words (reply.Wrote s) y h = same_as _ y _ h.1 (λ hx hy e. ap reply.Wrote (same_stamp s h.0 hx hy (ap (word_at 1) e)))
same_words (reply.Bytes b) y h = same_as _ y _ h.1 (λ hx hy e. ap reply.Bytes (one_hex_word b h.0 hx.each hy.each (ap (word_at 1) e)))
same_words (reply.Names n rows) y h = same_as _ y _ h.2 (same_names n h.0 rows h.1)
same_words (reply.Stat s) y h = same_as _ y _ h.1 (λ hx hy e. ap reply.Stat (same_stat s h.0 hx hy e))
same_words (reply.Leaving s) y h = same_as _ y _ h.1 (λ hx hy e. ap reply.Leaving (same_server s h.0 hx hy (ap (word_at 1) e)))
same_words (reply.Status c) y h = same_as _ y _ h.1 (λ hx hy e. ap reply.Status (same_counts c h.0 hx hy e))
same_words (reply.Refused x) y h = same_as _ y _ h.1 (λ hx hy e. ap reply.Refused (one_refusal x h.0 hx hy e))

pub one_reply : (x y : Reply) → IsReply x → IsReply y → reply_words x ≡ reply_words y → x ≡ y
one_reply x y hx hy e = same_words x y (same_shape x y e) hx hy e
