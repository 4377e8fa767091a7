-- Keys as words: cut at their colon, and no two with one spelling.
use Rattle.std.proofs.Common.{ℕ, ◌≡◌, ◌≢◌, ◌<◌, ◌^◌, List, ◌∷◌, ◌++◌, refl, sym, ap, ◌∙◌, arith, codes, decimal, All}
use Rattle.std.proofs.lemmas.List.{append_cancel_left}
use Rattle.std.proofs.lemmas.List.Elements.{All-append, All-from_recursion}
use Rattle.pg_base.proofs.Parts.{cut_same, not_cut}
use Rattle.pg_base.proofs.Spellings.{spelling-same}
use Rattle.pg_base.specs.Id as id
use Rattle.pg_base.specs.StampText.{stamp_text}
use Rattle.pg_base.specs.declared.id.FileId.{FileId}
use Rattle.pg_base.specs.declared.stamp.Stamp.{Stamp}
use Rattle.pg_edges.specs.declared.key.Key.{Key}
use Rattle.pg_edges.specs.declared.key.Key.TheVariants.{Place, Flag, Entry, Version}
use Rattle.pg_msg.specs.Text.{key_text, IsKey}
use Rattle.pg_words.specs.StampWord.{IsStamp}
use Rattle.pg_words.proofs.Lacking.{Ends, literal, Lacks-server, Lacks-spelling, Lacks-stamp}
use Rattle.pg_words.proofs.Splitting.{Lacks, first_byte}
use Rattle.pg_words.proofs.Stamps.{same_server, same_stamp}

-- the two parts of a key with a colon
abbrev pub IsCut : List ℕ → List ℕ → Key → Type 0
IsCut cell part Place = ⊥
IsCut cell part (Flag server) = (cell ≡ codes "flag") × (part ≡ decimal server)
IsCut cell part (Entry child) = (cell ≡ codes "entry") × (part ≡ id.spelling child)
IsCut cell part (Version stamp) = (cell ≡ codes "version") × (part ≡ stamp_text stamp)

pub key_cut : (word a b : List ℕ) (k : Key) → (word ≡ codes "place" → ⊥) → All (λ z. z ≢ 58) a → word ≡ a ++ 58 ∷ b → word ≡ key_text k → IsCut a b k
key_cut word a b Place other h e f = other f
key_cut word a b (Flag s) other h e f = cut_same 58 a b (codes "flag") (decimal s) h (All-from_recursion (λ z. z ≢ 58) (codes "flag") (omega arith)) (sym e ∙ f)
key_cut word a b (Entry d) other h e f = cut_same 58 a b (codes "entry") (id.spelling d) h (All-from_recursion (λ z. z ≢ 58) (codes "entry") (omega arith)) (sym e ∙ f)
key_cut word a b (Version s) other h e f = cut_same 58 a b (codes "version") (stamp_text s) h (All-from_recursion (λ z. z ≢ 58) (codes "version") (omega arith)) (sym e ∙ f)

pub key_uncut : (word : List ℕ) (k : Key) → (word ≡ codes "place" → ⊥) → All (λ z. z ≢ 58) word → word ≡ key_text k → ⊥
key_uncut word Place other h f = other f
key_uncut word (Flag s) other h f = not_cut 58 word (codes "flag") (decimal s) h f
key_uncut word (Entry d) other h f = not_cut 58 word (codes "entry") (id.spelling d) h f
key_uncut word (Version s) other h f = not_cut 58 word (codes "version") (stamp_text s) h f

flag_entry : (a : List ℕ) → a ≡ codes "flag" → a ≡ codes "entry" → ⊥
flag_entry a e f = let same : codes "flag" ≡ codes "entry" = sym e ∙ f in let h = ap first_byte same in omega arith

flag_version : (a : List ℕ) → a ≡ codes "flag" → a ≡ codes "version" → ⊥
flag_version a e f = let same : codes "flag" ≡ codes "version" = sym e ∙ f in let h = ap first_byte same in omega arith

entry_version : (a : List ℕ) → a ≡ codes "entry" → a ≡ codes "version" → ⊥
entry_version a e f = let same : codes "entry" ≡ codes "version" = sym e ∙ f in let h = ap first_byte same in omega arith

pub flag_none : (a b : List ℕ) → a ≡ codes "flag" → ((n : ℕ) → n < 2 ^ 32 → b ≡ decimal n → ⊥) → (k : Key) → IsKey k → IsCut a b k → ⊥
flag_none a b e h Place fits i = i
flag_none a b e h (Flag s) fits i = h s fits i.1
flag_none a b e h (Entry d) fits i = flag_entry a e i.0
flag_none a b e h (Version s) fits i = flag_version a e i.0

pub entry_none : (a b : List ℕ) → a ≡ codes "entry" → ((f : FileId) → id.Fits f → b ≡ id.spelling f → ⊥) → (k : Key) → IsKey k → IsCut a b k → ⊥
entry_none a b e h Place fits i = i
entry_none a b e h (Flag s) fits i = flag_entry a i.0 e
entry_none a b e h (Entry d) fits i = h d fits i.1
entry_none a b e h (Version s) fits i = entry_version a e i.0

pub version_none : (a b : List ℕ) → a ≡ codes "version" → ((s : Stamp) → IsStamp s → b ≡ stamp_text s → ⊥) → (k : Key) → IsKey k → IsCut a b k → ⊥
version_none a b e h Place fits i = i
version_none a b e h (Flag s) fits i = flag_version a i.0 e
version_none a b e h (Entry d) fits i = entry_version a i.0 e
version_none a b e h (Version s) fits i = h s fits i.1

pub cell_none : (a b : List ℕ) → (a ≡ codes "flag" → ⊥) → (a ≡ codes "entry" → ⊥) → (a ≡ codes "version" → ⊥) → (k : Key) → IsCut a b k → ⊥
cell_none a b f e v Place i = i
cell_none a b f e v (Flag s) i = f i.0
cell_none a b f e v (Entry d) i = e i.0
cell_none a b f e v (Version s) i = v i.0

pub Lacks-key : (c : ℕ) (k : Key) → Ends c → IsKey k → Lacks c (key_text k)
Lacks-key c Place h fits = let low = h.low in literal c (codes "place") (omega arith)
Lacks-key c (Flag s) h fits = let low = h.low in All-append (λ b. b ≢ c) (codes "flag:") (decimal s) (literal c (codes "flag:") (omega arith)) (Lacks-server c s h fits)
Lacks-key c (Entry f) h fits = let low = h.low in All-append (λ b. b ≢ c) (codes "entry:") (id.spelling f) (literal c (codes "entry:") (omega arith)) (Lacks-spelling c f h fits)
Lacks-key c (Version s) h fits = let low = h.low in All-append (λ b. b ≢ c) (codes "version:") (stamp_text s) (literal c (codes "version:") (omega arith)) (Lacks-stamp c s h fits)

pub same_key : (a b : Key) → IsKey a → IsKey b → key_text a ≡ key_text b → a ≡ b
same_key Place Place ha hb e = refl
same_key (Flag s) (Flag t) ha hb e = ap Flag (same_server s t ha hb (append_cancel_left (codes "flag:") (decimal s) (decimal t) e))
same_key (Entry f) (Entry g) ha hb e = ap Entry (spelling-same f g ha hb (append_cancel_left (codes "entry:") (id.spelling f) (id.spelling g) e))
same_key (Version s) (Version t) ha hb e = ap Version (same_stamp s t ha hb (append_cancel_left (codes "version:") (stamp_text s) (stamp_text t) e))
same_key a b ha hb e = absurd (let h = ap first_byte e in omega arith)
